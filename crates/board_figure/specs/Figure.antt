-- Figure 5 of the broadcast paper (source document 000), "Receiving party P_j", as a definition of its own: what it has received, and its
-- guarded branches. The quoted words are the figure's, in its order; document 01 departs from it in four places, marked "departure".
use Rattle.std.specs.Prelude.{ℕ, ◌≤◌, ◌<◌, ◌≡◌, List, [], ◌∷◌, Bool, true, false, ◌&&◌, eqb, length, get_or, take}
use Rattle.std.proofs.Math.Option.{Option, none, some}
use Rattle.std.specs.Int.Count.{ones}
use Rattle.octets.specs.Bytes.{pick, same}
use Rattle.table.specs.Table.{k_of, most_of, some_of}
use Rattle.table.specs.declared.Table.{Table}
use Rattle.figure.specs.Acts.{Act, sends, outputs}
use Rattle.figure.specs.Received.{noted, parties, parties_for}
use Rattle.tree.specs.Check.{path_correct}
use Rattle.tree.specs.Tree.{root_of}
use Rattle.code.specs.Block.{readable, block_message}
use Rattle.code_encode.specs.Message.{fragment_for}
use Rattle.code_through.specs.Through.{marks}
use Rattle.code_through.specs.Rebuild.{HasFragments}

-- ---- what is sent and received

-- "r, π, f": a root, a validation path, a fragment
pub record Piece : Type 0 where
  pub root : List ℕ
  pub path : List ℕ
  pub fragment : List ℕ

-- "(send, r, π, f)", "(echo, r, π, f)", "(vote, r)"; departure: "a malformed record or a fragment above s_max is refused", so it is none
pub data Message : Type 0 where
  send : Piece → Message
  echo : Piece → Message
  vote : List ℕ → Message

-- "send .. to P_1, .., P_n"; "output m'", or none for "output ⊥"
abbrev pub Event : Type 0
Event = Act Message (Option (List ℕ))

-- "π_i is a correct validation path for f_i under r at i"
abbrev pub correct : Table → ℕ → Piece → Bool
correct b i p = path_correct b.n i p.root p.path p.fragment

-- what is looked at of an echo received from P_i; usable: its path is correct at i
pub record Echo : Type 0 where
  pub root : List ℕ
  pub fragment : List ℕ
  pub usable : Bool

-- P_j: its variables, whether it waits in the "// output stage", and what it has received
pub record Figure : Type 0 where
  pub acquired : Bool
  pub voted : Bool
  pub output : Bool
  pub done : Bool
  pub sent : Option Piece  -- "received (send, r, π_j, f_j) from S", until it is acted on
  pub echo_of : ℕ → Option Echo  -- "received (echo, r, π_i, f_i) from P_i"
  pub vote_of : ℕ → Option (List ℕ)  -- "received (vote, r)" from P_i

-- "acquired ← false, voted ← false, done ← true"; departure: "'done' starts false (printed: true)"
abbrev pub begins : Figure
begins = record { acquired = false; voted = false; output = false; done = false; sent = none; echo_of = λ i. none; vote_of = λ i. none }

-- "received .. from P_i": a message of P_i is there; departure: "only the first echo and vote of a board count"
unfoldable pub receive : Table → ℕ → Message → Figure → Figure
receive b i (send p) x = record {
  acquired = x.acquired;
  voted = x.voted;
  output = x.output;
  done = x.done;
  sent = pick (eqb i b.sender) (some p) x.sent;
  echo_of = x.echo_of;
  vote_of = x.vote_of;
}
receive b i (echo p) x = record {
  acquired = x.acquired;
  voted = x.voted;
  output = x.output;
  done = x.done;
  sent = x.sent;
  echo_of = noted i (record { root = p.root; fragment = p.fragment; usable = correct b i p }) x.echo_of;
  vote_of = x.vote_of;
}
receive b i (vote r) x = record {
  acquired = x.acquired;
  voted = x.voted;
  output = x.output;
  done = x.done;
  sent = x.sent;
  echo_of = x.echo_of;
  vote_of = noted i r x.vote_of;
}

-- ---- "for some r: received .. from .. distinct parties"

-- whether what was received from a party is an echo for r, a usable one
unfoldable pub echo_for : List ℕ → Option Echo → Bool
echo_for r none = false
echo_for r (some e) = same e.root r

unfoldable pub usable_echo : List ℕ → Option Echo → Bool
usable_echo r none = false
usable_echo r (some e) = e.usable && same e.root r

-- "received (echo, r, ·, ·) from" these
abbrev pub echoing : Table → Figure → List ℕ → ℕ
echoing b x r = parties b (λ i. echo_for r (x.echo_of i))

-- "received (echo, r, π_i, f_i) from P_i and π_i is a correct validation path for f_i under r at i": from these
abbrev pub usables : Table → Figure → List ℕ → ℕ
usables b x r = parties b (λ i. usable_echo r (x.echo_of i))

-- "received (vote, r) from" these
abbrev pub voting : Table → Figure → List ℕ → ℕ
voting b x r = parties_for b x.vote_of r

-- ---- the branches

-- "while not done", at the loop's wait (stage is false) or at the wait of the "// output stage" (true)
pub record At (stage : Bool) (x : Figure) : Type 0 where
  pub going : x.done ≡ false
  pub place : x.output ≡ stage

-- x with these three
abbrev pub turned : Figure → Bool → Bool → Bool → Figure
turned x voted output done = record {
  acquired = x.acquired;
  voted = voted;
  output = output;
  done = done;
  sent = x.sent;
  echo_of = x.echo_of;
  vote_of = x.vote_of;
}

-- "acquired ← true"; the send is used up
abbrev pub acquire : Figure → Figure
acquire x = record {
  acquired = true;
  voted = x.voted;
  output = x.output;
  done = x.done;
  sent = none;
  echo_of = x.echo_of;
  vote_of = x.vote_of;
}

-- f_i
unfoldable pub echo_fragment : Option Echo → List ℕ
echo_fragment none = []
echo_fragment (some e) = e.fragment

-- "I ⊆ [n], |I| = n - 2t": of a set of parties "the k lowest-numbered ones" (document 01)
abbrev pub lowest : Table → ℕ → List ℕ
lowest b set = take (k_of b) (marks 1 b.n set)

-- "compute the fragments (f'_1, .., f'_n) of message m'; build the Merkle tree .. with root r'": r', of the message m' in a block d
abbrev pub root_afresh : Table → List ℕ → List ℕ
root_afresh b d = root_of b.n (fragment_for b (block_message d))

-- "reconstruct the message m' from the fragments {f_i}", i of I: m' is read from the block d that has those. What is output for r:
pub data Output (b : Table) (r I : List ℕ) (f : ℕ → List ℕ) : Option (List ℕ) → Type 0 where
  -- "if r = r' then output m'"
  message : (len : ℕ) (d : List ℕ) → HasFragments (k_of b) len I f d → readable (k_of b) b.longest d ≡ true → root_afresh b d ≡ r
      → Output b r I f (some (block_message d))
  -- "else output ⊥"
  other_root : (len : ℕ) (d : List ℕ) → HasFragments (k_of b) len I f d → readable (k_of b) b.longest d ≡ true → (root_afresh b d ≡ r → ⊥)
      → Output b r I f none
  -- departure: "unequal lengths and unreadable blocks are void"
  unequal : (i j : ℕ) → i < length I → j < length I → (length (f (get_or I i 0)) ≡ length (f (get_or I j 0)) → ⊥) → Output b r I f none
  unreadable : (len : ℕ) (d : List ℕ) → HasFragments (k_of b) len I f d → readable (k_of b) b.longest d ≡ false → Output b r I f none

-- the same from the usable echoes for r
abbrev pub OutputFor : Table → Figure → List ℕ → Option (List ℕ) → Type 0
OutputFor b x r m = Output b r (lowest b (usables b x r)) (λ i. echo_fragment (x.echo_of i)) m

-- A branch of P_own that is enabled in x, what it sends or outputs, and where it leads: "wait until either: .. ⇒ .."
pub data Branch (b : Table) (own : ℕ) (x : Figure) : List Event → Figure → Type 0 where
  -- "not acquired and for some (r, π_j, f_j): received (send, r, π_j, f_j) from S ⇒ acquired ← true;
  -- if π_j is a correct validation path for f_j under r at j then send (echo, r, π_j, f_j) to P_1, .., P_n"
  acquires : (p : Piece) → At false x → x.acquired ≡ false → x.sent ≡ some p
      → Branch b own x (pick (correct b own p) (sends (echo p) ∷ []) []) (acquire x)
  -- "not voted and for some r: received (echo, r, ·, ·) from n - t distinct parties ⇒ send (vote, r) to P_1, .., P_n; voted ← true"
  votes_by_echoes : (r : List ℕ) → At false x → x.voted ≡ false → most_of b ≤ ones (echoing b x r)
      → Branch b own x (sends (vote r) ∷ []) (turned x true x.output x.done)
  -- "not voted and for some r: received (vote, r) from t + 1 distinct parties ⇒ send (vote, r) to P_1, .., P_n; voted ← true"
  votes_by_votes : (r : List ℕ) → At false x → x.voted ≡ false → some_of b ≤ ones (voting b x r)
      → Branch b own x (sends (vote r) ∷ []) (turned x true x.output x.done)
  -- "voted and for some r: received (vote, r) from n - t distinct parties ⇒ // output stage"
  opens : (r : List ℕ) → At false x → x.voted ≡ true → most_of b ≤ ones (voting b x r)
      → Branch b own x [] (turned x x.voted true x.done)
  -- "wait until: for some I ⊆ [n], {π_i, f_i}: |I| = n - 2t and for all i ∈ I: received (echo, r, π_i, f_i) from P_i and π_i is a correct
  -- validation path .. output .. done ← true"; r is the root with n - t votes: it keeps them, and no other has them (one_root, proofs/Counts)
  delivers : (r : List ℕ) (m : Option (List ℕ)) → At true x → most_of b ≤ ones (voting b x r) → k_of b ≤ ones (usables b x r) → OutputFor b x r m
      → Branch b own x (outputs m ∷ []) (turned x x.voted x.output true)
