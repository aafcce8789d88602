-- Only the notice just named can enable a branch, so the branches that fire after a message are determined: their order cannot matter.
use mathlib.Core.Path.{◌≡◌, refl, sym, ap}
use Prim.Native.Nat.{ℕ, ◌≤◌}
use mathlib.Core.List.{List, [], ◌∷◌}
use mathlib.Core.Bool.{Bool, true, false}
use mathlib.Core.Option.{Option, none, some}
use native.Mathlib.Omega.{arith}
use lib.Count.{ones}
use Rattle.octets.specs.Bytes.{same}
use Rattle.octets.proofs.Picks.{never}
use Rattle.octets.proofs.Sames.{same_equal}
use Rattle.table.specs.Table.{most_of, some_of}
use Rattle.table.specs.declared.Table.{Table}
use Rattle.table.proofs.Within.{Within}
use Rattle.figure.specs.Received.{noted, parties_for}
use Rattle.figure.specs.Acts.{sends, outputs}
use Rattle.figure.specs.Fires.{Still, Fires}
use Rattle.figure.proofs.Counts.{clash, for_else, one_most}
use Rattle.figure.proofs.Firing.{fires_one, fires_once, once_only}
use Rattle.notice_figure.specs.Figure.{
  echo,
  vote,
  Event,
  Figure,
  receive,
  echoing,
  voting,
  turned,
  acquire,
  Branch,
  acquires,
  votes_by_echoes,
  votes_by_votes,
  delivers,
}

pub absent : {X Y : Type 0} (o : Option X) (v : X) → o ≡ none → o ≡ some v → Y
absent o v e f = absurd (let z : ◌≡◌ {A = ℕ} 0 1 = cc in omega arith)

module _ (b : Table) where
  -- ---- no send waits, and only one notice can bring a vote

  pub record Only (m : List ℕ) (x : Figure) : Type 0 where
    pub no_send : x.sent ≡ none
    pub by_echoes : (v : List ℕ) → x.voted ≡ false → most_of b ≤ ones (echoing b x v) → v ≡ m
    pub by_votes : (v : List ℕ) → x.voted ≡ false → some_of b ≤ ones (voting b x v) → v ≡ m

  -- then a branch is one of two, by whether the party has voted
  data Turn (m : List ℕ) (x : Figure) : List Event → Figure → Type 0 where
    votes : x.voted ≡ false → Turn m x (sends (vote m) ∷ []) (turned x true x.done)
    ending : (v : List ℕ) → x.voted ≡ true → most_of b ≤ ones (voting b x v) → Turn m x (outputs v ∷ []) (turned x x.voted true)

  voting_for : (m v : List ℕ) (x : Figure) → v ≡ m → x.voted ≡ false → Turn m x (sends (vote v) ∷ []) (turned x true x.done)
  voting_for m v x e u = rw e (votes u)

  turn : (m : List ℕ) (x : Figure) → Only m x → (es : List Event) (y : Figure) → Branch b x es y → Turn m x es y
  turn m x o es y (acquires v d a s) = absent x.sent v o.no_send s
  turn m x o es y (votes_by_echoes v d u h) = voting_for m v x (o.by_echoes v u h) u
  turn m x o es y (votes_by_votes v d u h) = voting_for m v x (o.by_votes v u h) u
  turn m x o es y (delivers v d u h) = ending v u h

  turn_one : Within b → (m : List ℕ) (x : Figure) (es fs : List Event) (y z : Figure) → Turn m x es y → Turn m x fs z → (es ≡ fs) × (y ≡ z)
  turn_one w m x es fs y z (votes u) (votes v) = (refl, refl)
  turn_one w m x es fs y z (votes u) (ending q v h) = clash x.voted v u
  turn_one w m x es fs y z (ending p u g) (votes v) = clash x.voted u v
  turn_one w m x es fs y z (ending p u g) (ending q v h) = (ap (λ (c : List ℕ). outputs c ∷ []) (one_most b w x.vote_of p q g h), refl)

  -- a branch leaves no other notice to bring a vote
  turn_only : (m : List ℕ) (x : Figure) → Only m x → (es : List Event) (y : Figure) → Turn m x es y → Only m y
  turn_only m x o es y (votes u) = record { no_send = o.no_send; by_echoes = λ v c h. never (sym c); by_votes = λ v c h. never (sym c) }
  turn_only m x o es y (ending p u g) = record { no_send = o.no_send; by_echoes = λ v c h. clash x.voted u c; by_votes = λ v c h. clash x.voted u c }

  -- so all firing from there sends and outputs the same and ends at the same
  pub word_one : Within b → (m : List ℕ) (x : Figure) → Only m x → (es fs : List Event) (y z : Figure)
      → Fires (Branch b) x es y → Fires (Branch b) x fs z → (es ≡ fs) × (y ≡ z)
  word_one w m =
      fires_one (Branch b) (Only m) (λ x o es fs y z p q. turn_one w m x es fs y z (turn m x o es y p) (turn m x o fs z q))
      (λ x o es y p. turn_only m x o es y (turn m x o es y p))

  module _ (x : Figure) (still : Still (Branch b) x) (none_sent : x.sent ≡ none) (going : x.done ≡ false) where
    -- ---- after an echo or a vote

    module _ (i : ℕ) (m : List ℕ) where
      -- one notice more: only that one can have enough
      only_named : (q : ℕ) (f : ℕ → Option (List ℕ)) (v : List ℕ) → (q ≤ ones (parties_for b f v) → ⊥) → q ≤ ones (parties_for b (noted i m f) v) → v ≡ m
      only_named q f v before now = go (same m v) refl
        where
          go : (c : Bool) → same m v ≡ c → v ≡ m
          go true e = sym (same_equal m v e)
          go false e = absurd (before (rw (for_else b i m v f e) at now))

      pub only_echo : Only m (receive b i (echo m) x)
      unfolding receive
      only_echo = record {
        no_send = none_sent;
        by_echoes = λ v u h. only_named (most_of b) x.echo_of v (λ l. still _ _ (votes_by_echoes v going u l)) h;
        by_votes = λ v u h. absurd (still _ _ (votes_by_votes v going u h));
      }

      pub only_vote : Only m (receive b i (vote m) x)
      unfolding receive
      only_vote = record {
        no_send = none_sent;
        by_echoes = λ v u h. absurd (still _ _ (votes_by_echoes v going u h));
        by_votes = λ v u h. only_named (some_of b) x.vote_of v (λ l. still _ _ (votes_by_votes v going u l)) h;
      }

    -- ---- after a send

    module _ (m : List ℕ) (fresh : x.acquired ≡ false) where
      abbrev pub waiting : Figure
      waiting = record {
        acquired = x.acquired;
        voted = x.voted;
        done = x.done;
        sent = some m;
        echo_of = x.echo_of;
        vote_of = x.vote_of;
      }

      -- the other branches look at nothing that a send changes
      acquired_still : Still (Branch b) (acquire x)
      acquired_still es y (acquires v d a s) = absent (acquire x).sent v refl s
      acquired_still es y (votes_by_echoes v d u h) = still _ _ (votes_by_echoes v d u h)
      acquired_still es y (votes_by_votes v d u h) = still _ _ (votes_by_votes v d u h)
      acquired_still es y (delivers v d u h) = still _ _ (delivers v d u h)

      acquired_by : (v : List ℕ) → some m ≡ some v → ◌≡◌ {A = List Event} (sends (echo v) ∷ []) (sends (echo m) ∷ [])
      acquired_by v e = let z : m ≡ v = cc in ap (λ (c : List ℕ). sends (echo c) ∷ []) (sym z)

      send_turn : (es : List Event) (y : Figure) → Branch b waiting es y → (es ≡ sends (echo m) ∷ []) × (y ≡ acquire x)
      send_turn es y (acquires v d a s) = (acquired_by v s, refl)
      send_turn es y (votes_by_echoes v d u h) = absurd (still _ _ (votes_by_echoes v d u h))
      send_turn es y (votes_by_votes v d u h) = absurd (still _ _ (votes_by_votes v d u h))
      send_turn es y (delivers v d u h) = absurd (still _ _ (delivers v d u h))

      acquiring : Branch b waiting (sends (echo m) ∷ []) (acquire x)
      acquiring = acquires m going fresh refl

      pub send_fires : Fires (Branch b) waiting (sends (echo m) ∷ []) (acquire x)
      send_fires = fires_once (Branch b) waiting (sends (echo m) ∷ []) (acquire x) acquiring acquired_still

      pub send_one : (es : List Event) (y : Figure) → Fires (Branch b) waiting es y → (es ≡ sends (echo m) ∷ []) × (y ≡ acquire x)
      send_one = once_only (Branch b) waiting (sends (echo m) ∷ []) (acquire x) acquiring acquired_still send_turn
