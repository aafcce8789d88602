-- Figure 4 of the broadcast paper (source document 000, section 3.2.1), "Receiving party P_j", as a definition of its own: what it has received,
-- and its guarded branches. The quoted words are the figure's, in its order; documents 01 and 02 depart from it in two places, marked "departure".
-- What they say beside, the figure says too: it has no inner wait, so "a send is never late before delivery" (request 3), and a send after voting is
-- echoed; and as it says "for some m", n - t votes for a notice deliver it even if the party itself voted for another.
use Rattle.std.specs.Prelude.{ℕ, ◌≤◌, ◌≡◌, List, [], ◌∷◌, Bool, true, false, eqb}
use Rattle.std.proofs.Math.Option.{Option, none, some}
use Rattle.std.specs.Int.Count.{ones}
use Rattle.octets.specs.Bytes.{pick}
use Rattle.table.specs.Table.{most_of, some_of}
use Rattle.table.specs.declared.Table.{Table}
use Rattle.figure.specs.Acts.{Act, sends, outputs}
use Rattle.figure.specs.Received.{noted, parties_for}

-- ---- what is sent and received

-- "(send, m)", "(echo, m)", "(vote, m)"; departure, document 01: "a malformed record .. is refused", so it is none, and a notice above 64 bytes
-- is malformed (request 3: "0 to 64 bytes (above is 24)")
pub data Message : Type 0 where
  send : List ℕ → Message
  echo : List ℕ → Message
  vote : List ℕ → Message

-- "send .. to P_1, .., P_n"; "output m"
abbrev pub Event : Type 0
Event = Act Message (List ℕ)

-- P_j: its variables, and what it has received
pub record Figure : Type 0 where
  pub acquired : Bool
  pub voted : Bool
  pub done : Bool
  pub sent : Option (List ℕ)  -- "received (send, m) from S", until it is acted on
  pub echo_of : ℕ → Option (List ℕ)  -- "received (echo, m)" from P_i
  pub vote_of : ℕ → Option (List ℕ)  -- "received (vote, m)" from P_i

-- "acquired ← false, voted ← false, done ← false"
abbrev pub begins : Figure
begins = record { acquired = false; voted = false; done = false; sent = none; echo_of = λ i. none; vote_of = λ i. none }

-- "received .. from P_i": a message of P_i is there; departure, document 01: "only the first echo and vote of a board count"
unfoldable pub receive : Table → ℕ → Message → Figure → Figure
receive b i (send m) x = record {
  acquired = x.acquired;
  voted = x.voted;
  done = x.done;
  sent = pick (eqb i b.sender) (some m) x.sent;
  echo_of = x.echo_of;
  vote_of = x.vote_of;
}
receive b i (echo m) x = record {
  acquired = x.acquired;
  voted = x.voted;
  done = x.done;
  sent = x.sent;
  echo_of = noted i m x.echo_of;
  vote_of = x.vote_of;
}
receive b i (vote m) x = record {
  acquired = x.acquired;
  voted = x.voted;
  done = x.done;
  sent = x.sent;
  echo_of = x.echo_of;
  vote_of = noted i m x.vote_of;
}

-- "received (echo, m) from" these
abbrev pub echoing : Table → Figure → List ℕ → ℕ
echoing b x m = parties_for b x.echo_of m

-- "received (vote, m) from" these
abbrev pub voting : Table → Figure → List ℕ → ℕ
voting b x m = parties_for b x.vote_of m

-- ---- the branches

-- x with these two
abbrev pub turned : Figure → Bool → Bool → Figure
turned x voted done = record {
  acquired = x.acquired;
  voted = voted;
  done = done;
  sent = x.sent;
  echo_of = x.echo_of;
  vote_of = x.vote_of;
}

-- "acquired ← true"; the send is used up
abbrev pub acquire : Figure → Figure
acquire x = record {
  acquired = true;
  voted = x.voted;
  done = x.done;
  sent = none;
  echo_of = x.echo_of;
  vote_of = x.vote_of;
}

-- A branch that is enabled in x, what it sends or outputs, and where it leads: "while not done do wait until either: .. ⇒ .."
pub data Branch (b : Table) (x : Figure) : List Event → Figure → Type 0 where
  -- "not acquired and for some m: received (send, m) from S ⇒ acquired ← true; send (echo, m) to P_1, .., P_n"
  acquires : (m : List ℕ) → x.done ≡ false → x.acquired ≡ false → x.sent ≡ some m
      → Branch b x (sends (echo m) ∷ []) (acquire x)
  -- "not voted and for some m: received (echo, m) from n - t distinct parties ⇒ send (vote, m) to P_1, .., P_n; voted ← true"
  votes_by_echoes : (m : List ℕ) → x.done ≡ false → x.voted ≡ false → most_of b ≤ ones (echoing b x m)
      → Branch b x (sends (vote m) ∷ []) (turned x true x.done)
  -- "not voted and for some m: received (vote, m) from t + 1 distinct parties ⇒ send (vote, m) to P_1, .., P_n; voted ← true"
  votes_by_votes : (m : List ℕ) → x.done ≡ false → x.voted ≡ false → some_of b ≤ ones (voting b x m)
      → Branch b x (sends (vote m) ∷ []) (turned x true x.done)
  -- "voted and for some m: received (vote, m) from n - t distinct parties ⇒ // output stage; output m; done ← true"
  delivers : (m : List ℕ) → x.done ≡ false → x.voted ≡ true → most_of b ≤ ones (voting b x m)
      → Branch b x (outputs m ∷ []) (turned x x.voted true)
