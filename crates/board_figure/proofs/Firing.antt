-- Only the root just named can enable a branch, so the branches that fire after a message are determined: their order cannot matter.
use mathlib.Core.Path.{◌≡◌, refl, sym, subst, ap}
use Prim.Native.Nat.{ℕ, ◌≤◌}
use mathlib.Core.List.{List, [], ◌∷◌}
use mathlib.Core.Bool.{Bool, true, false}
use mathlib.Core.Option.{Option, none, some}
use native.Mathlib.Omega.{arith}
use lib.Count.{ones}
use Rattle.octets.specs.Bytes.{pick, same}
use Rattle.octets.proofs.Sames.{same_equal}
use Rattle.table.specs.Table.{limits, k_of, most_of, some_of}
use Rattle.table.specs.declared.Table.{Table}
use Rattle.table.proofs.Within.{within}
use Rattle.board_figure.specs.Figure.{
  Piece,
  echo,
  vote,
  Event,
  Figure,
  correct,
  receive,
  echoing,
  usables,
  voting,
  At,
  turned,
  acquire,
  OutputFor,
  Branch,
  acquires,
  votes_by_echoes,
  votes_by_votes,
  opens,
  delivers,
}
use Rattle.octets.proofs.Picks.{never}
use Rattle.figure.specs.Acts.{sends, outputs}
use Rattle.figure.specs.Fires.{Still, Fires}
use Rattle.figure.proofs.Counts.{clash}
use Rattle.figure.proofs.Firing.{fires_one, fires_once, once_only}
use Rattle.board_figure.proofs.Counts.{echo_else, vote_else, one_root}
use Rattle.board_figure.proofs.Results.{one_output}

absent : {X Y : Type 0} (o : Option X) (v : X) → o ≡ none → o ≡ some v → Y
absent o v e f = absurd (let z : ◌≡◌ {A = ℕ} 0 1 = cc in omega arith)

module _ (b : Table) (own : ℕ) where
  -- no send waits, and only one root can bring a vote
  pub record Only (root : List ℕ) (x : Figure) : Type 0 where
    pub no_send : x.sent ≡ none
    pub by_echoes : (r : List ℕ) → x.output ≡ false → x.voted ≡ false → most_of b ≤ ones (echoing b x r) → r ≡ root
    pub by_votes : (r : List ℕ) → x.output ≡ false → x.voted ≡ false → some_of b ≤ ones (voting b x r) → r ≡ root

  -- then a branch is one of three, by where the party stands
  data Turn (root : List ℕ) (x : Figure) : List Event → Figure → Type 0 where
    votes : x.output ≡ false → x.voted ≡ false → Turn root x (sends (vote root) ∷ []) (turned x true x.output x.done)
    opening : x.output ≡ false → x.voted ≡ true → Turn root x [] (turned x x.voted true x.done)
    ending : (r : List ℕ) (m : Option (List ℕ)) → x.output ≡ true → most_of b ≤ ones (voting b x r) → k_of b ≤ ones (usables b x r) → OutputFor b x r m
        → Turn root x (outputs m ∷ []) (turned x x.voted x.output true)

  voting_for : (root r : List ℕ) (x : Figure) → r ≡ root → x.output ≡ false → x.voted ≡ false
      → Turn root x (sends (vote r) ∷ []) (turned x true x.output x.done)
  voting_for root r x e o v = rw e (votes o v)

  turn : (root : List ℕ) (x : Figure) → Only root x → (es : List Event) (y : Figure) → Branch b own x es y → Turn root x es y
  turn root x o es y (acquires p a q s) = absent x.sent p o.no_send s
  turn root x o es y (votes_by_echoes r a v h) = voting_for root r x (o.by_echoes r a.place v h) a.place v
  turn root x o es y (votes_by_votes r a v h) = voting_for root r x (o.by_votes r a.place v h) a.place v
  turn root x o es y (opens r a v h) = opening a.place v
  turn root x o es y (delivers r m a h k g) = ending r m a.place h k g

  turn_one : limits b ≡ true → (root : List ℕ) (x : Figure) (es fs : List Event) (y z : Figure) → Turn root x es y → Turn root x fs z → (es ≡ fs) × (y ≡ z)
  turn_one w root x es fs y z (votes o v) (votes p u) = (refl, refl)
  turn_one w root x es fs y z (votes o v) (opening p u) = clash x.voted u v
  turn_one l root x es fs y z (votes o v) (ending r n p h k e) = clash x.output p o
  turn_one w root x es fs y z (opening o v) (votes p u) = clash x.voted v u
  turn_one w root x es fs y z (opening o v) (opening p u) = (refl, refl)
  turn_one l root x es fs y z (opening o v) (ending r n p h k e) = clash x.output p o
  turn_one l root x es fs y z (ending q m o g j d) (votes p u) = clash x.output o p
  turn_one l root x es fs y z (ending q m o g j d) (opening p u) = clash x.output o p
  turn_one l root x es fs y z (ending q m o g j d) (ending r n p h k e) =
      let same : q ≡ r = one_root b (within b l) x q r g h in
      let one : m ≡ n = one_output b l x r k m n (subst (λ (v : List ℕ). OutputFor b x v m) same d) e in
      (ap (λ (v : Option (List ℕ)). outputs v ∷ []) one, refl)

  -- a branch leaves no other root to bring a vote
  only_still : (root : List ℕ) (x : Figure) → Only root x → (es : List Event) (y : Figure) → Turn root x es y → Only root y
  only_still root x o es y (votes p v) = record { no_send = o.no_send; by_echoes = λ r a c h. never (sym c); by_votes = λ r a c h. never (sym c) }
  only_still root x o es y (opening p v) = record { no_send = o.no_send; by_echoes = λ r a c h. never (sym a); by_votes = λ r a c h. never (sym a) }
  only_still root x o es y (ending q m p g j d) = record { no_send = o.no_send; by_echoes = λ r a c h. clash x.output p a; by_votes = λ r a c h. clash x.output p a }

  -- so all firing from there sends and outputs the same and ends at the same
  pub word_one : limits b ≡ true → (root : List ℕ) (x : Figure) → Only root x → (es fs : List Event) (y z : Figure)
      → Fires (Branch b own) x es y → Fires (Branch b own) x fs z → (es ≡ fs) × (y ≡ z)
  word_one w root =
      fires_one (Branch b own) (Only root) (λ x o es fs y z p q. turn_one w root x es fs y z (turn root x o es y p) (turn root x o fs z q))
      (λ x o es y p. only_still root x o es y (turn root x o es y p))

  -- ---- after an echo or a vote

  module _ (i : ℕ) (x : Figure) (still : Still (Branch b own) x) (none_sent : x.sent ≡ none) (going : x.done ≡ false) where
    no_echoes : (r : List ℕ) → x.output ≡ false → x.voted ≡ false → most_of b ≤ ones (echoing b x r) → ⊥
    no_echoes r o v h = still _ _ (votes_by_echoes r (record { going = going; place = o }) v h)

    no_votes : (r : List ℕ) → x.output ≡ false → x.voted ≡ false → some_of b ≤ ones (voting b x r) → ⊥
    no_votes r o v h = still _ _ (votes_by_votes r (record { going = going; place = o }) v h)

    pub only_echo : (p : Piece) → Only p.root (receive b i (echo p) x)
    unfolding receive
    only_echo p = record { no_send = none_sent; by_echoes = λ r o v h. go r o v h (same p.root r) refl; by_votes = λ r o v h. absurd (no_votes r o v h) }
      where
        go : (r : List ℕ) → x.output ≡ false → x.voted ≡ false → most_of b ≤ ones (echoing b (receive b i (echo p) x) r)
            → (c : Bool) → same p.root r ≡ c → r ≡ p.root
        go r o v h true e = sym (same_equal p.root r e)
        go r o v h false e = absurd (no_echoes r o v (rw (echo_else b i x p r e) at h))

    pub only_vote : (q : List ℕ) → Only q (receive b i (vote q) x)
    unfolding receive
    only_vote q = record { no_send = none_sent; by_echoes = λ r o v h. absurd (no_echoes r o v h); by_votes = λ r o v h. go r o v h (same q r) refl }
      where
        go : (r : List ℕ) → x.output ≡ false → x.voted ≡ false → some_of b ≤ ones (voting b (receive b i (vote q) x) r) → (c : Bool) → same q r ≡ c → r ≡ q
        go r o v h true e = sym (same_equal q r e)
        go r o v h false e = absurd (no_votes r o v (rw (vote_else b i x q r e) at h))

  -- ---- after a send

  module _ (x : Figure) (p : Piece) (still : Still (Branch b own) x) (at : At false x) (fresh : x.acquired ≡ false) where
    abbrev pub waiting : Figure
    waiting = record {
      acquired = x.acquired;
      voted = x.voted;
      output = x.output;
      done = x.done;
      sent = some p;
      echo_of = x.echo_of;
      vote_of = x.vote_of;
    }

    abbrev echoed : List Event
    echoed = pick (correct b own p) (sends (echo p) ∷ []) []

    -- the other branches look at nothing that a send changes
    acquired_still : Still (Branch b own) (acquire x)
    acquired_still es y (acquires q a c s) = absent (acquire x).sent q refl s
    acquired_still es y (votes_by_echoes r a v h) = still _ _ (votes_by_echoes r (record { going = a.going; place = a.place }) v h)
    acquired_still es y (votes_by_votes r a v h) = still _ _ (votes_by_votes r (record { going = a.going; place = a.place }) v h)
    acquired_still es y (opens r a v h) = still _ _ (opens r (record { going = a.going; place = a.place }) v h)
    acquired_still es y (delivers r m a h k g) = still _ _ (delivers r m (record { going = a.going; place = a.place }) h k g)

    acquired_by : (q : Piece) → some p ≡ some q → (pick (correct b own q) (sends (echo q) ∷ []) [] ≡ echoed)
    acquired_by q e = let z : p ≡ q = cc in ap (λ (v : Piece). pick (correct b own v) (sends (echo v) ∷ []) []) (sym z)

    send_turn : (es : List Event) (y : Figure) → Branch b own waiting es y → (es ≡ echoed) × (y ≡ acquire x)
    send_turn es y (acquires q a c s) = (acquired_by q s, refl)
    send_turn es y (votes_by_echoes r a v h) = absurd (still _ _ (votes_by_echoes r (record { going = a.going; place = a.place }) v h))
    send_turn es y (votes_by_votes r a v h) = absurd (still _ _ (votes_by_votes r (record { going = a.going; place = a.place }) v h))
    send_turn es y (opens r a v h) = absurd (still _ _ (opens r (record { going = a.going; place = a.place }) v h))
    send_turn es y (delivers r m a h k g) = absurd (still _ _ (delivers r m (record { going = a.going; place = a.place }) h k g))

    acquiring : Branch b own waiting echoed (acquire x)
    acquiring = acquires p (record { going = at.going; place = at.place }) fresh refl

    pub send_fires : Fires (Branch b own) waiting echoed (acquire x)
    send_fires = fires_once (Branch b own) waiting echoed (acquire x) acquiring acquired_still

    pub send_one : (es : List Event) (y : Figure) → Fires (Branch b own) waiting es y → (es ≡ echoed) × (y ≡ acquire x)
    send_one = once_only (Branch b own) waiting echoed (acquire x) acquiring acquired_still send_turn
