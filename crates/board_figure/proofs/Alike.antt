-- Two parties that differ only in what no branch looks at any more do the same: a message that is refused as late or as a second one is received
-- without effect, then and later.
use mathlib.Core.Path.{◌≡◌, refl, sym, subst, ap, ◌∙◌}
use Prim.Native.Nat.{ℕ, ◌≤◌}
use mathlib.Core.List.{List}
use mathlib.Core.Bool.{Bool, true, false}
use mathlib.Core.Option.{Option, some}
use lib.Count.{ones}
use Rattle.octets.specs.Bytes.{pick}
use Rattle.octets.proofs.Picks.{never}
use lib.Dec.{eqb}
use Rattle.table.specs.Table.{k_of, most_of, some_of}
use Rattle.table.specs.declared.Table.{Table}
use Rattle.figure.specs.Received.{noted, parties, parties_for}
use Rattle.figure.proofs.History.{Likeness}
use Rattle.board_figure.specs.History.{board_party}
use Rattle.board_figure.specs.Figure.{
  Message,
  send,
  echo,
  vote,
  Event,
  Echo,
  Figure,
  correct,
  receive,
  At,
  acquire,
  turned,
  echo_for,
  usable_echo,
  voting,
  echo_fragment,
  lowest,
  Output,
  Branch,
  acquires,
  votes_by_echoes,
  votes_by_votes,
  opens,
  delivers,
}

-- a party that is done looks at nothing; one that acquired, or is in the output stage, at no send
pub record Alike (x y : Figure) : Type 0 where
  pub acquired : x.acquired ≡ y.acquired
  pub voted : x.voted ≡ y.voted
  pub output : x.output ≡ y.output
  pub done : x.done ≡ y.done
  pub sent : x.done ≡ false → x.output ≡ false → x.acquired ≡ false → x.sent ≡ y.sent
  pub echo_of : x.done ≡ false → x.echo_of ≡ y.echo_of
  pub vote_of : x.done ≡ false → x.vote_of ≡ y.vote_of

self : (x : Figure) → Alike x x
self x = record { acquired = refl; voted = refl; output = refl; done = refl; sent = λ d o a. refl; echo_of = λ d. refl; vote_of = λ d. refl }

back : (x y : Figure) → Alike x y → Alike y x
back x y l = record {
  acquired = sym l.acquired;
  voted = sym l.voted;
  output = sym l.output;
  done = sym l.done;
  sent = λ d o a. sym (l.sent (l.done ∙ d) (l.output ∙ o) (l.acquired ∙ a));
  echo_of = λ d. sym (l.echo_of (l.done ∙ d));
  vote_of = λ d. sym (l.vote_of (l.done ∙ d));
}

through : (x y z : Figure) → Alike x y → Alike y z → Alike x z
through x y z l m = record {
  acquired = l.acquired ∙ m.acquired;
  voted = l.voted ∙ m.voted;
  output = l.output ∙ m.output;
  done = l.done ∙ m.done;
  sent = λ d o a. l.sent d o a ∙ m.sent (sym l.done ∙ d) (sym l.output ∙ o) (sym l.acquired ∙ a);
  echo_of = λ d. l.echo_of d ∙ m.echo_of (sym l.done ∙ d);
  vote_of = λ d. l.vote_of d ∙ m.vote_of (sym l.done ∙ d);
}

at_alike : {x y : Figure} (c : Bool) → Alike x y → At c x → At c y
at_alike c l a = record { going = sym l.done ∙ a.going; place = sym l.output ∙ a.place }

turned_alike : (x y : Figure) → Alike x y → x.done ≡ false → (v w o p d e : Bool) → v ≡ w → o ≡ p → d ≡ e → (d ≡ false → o ≡ false → x.output ≡ false)
    → Alike (turned x v o d) (turned y w p e)
turned_alike x y l going v w o p d e voted output done place = record {
  acquired = l.acquired;
  voted = voted;
  output = output;
  done = done;
  sent = λ g q a. l.sent going (place g q) a;
  echo_of = λ g. l.echo_of going;
  vote_of = λ g. l.vote_of going;
}

module _ (b : Table) (own : ℕ) where
  votes_for : (q : ℕ) (x y : Figure) → Alike x y → x.done ≡ false → (r : List ℕ) → q ≤ ones (voting b x r) → q ≤ ones (voting b y r)
  votes_for q x y l going r = subst (λ (f : ℕ → Option (List ℕ)). q ≤ ones (parties_for b f r)) (l.vote_of going)

  -- the same of echoes
  abbrev Outputs : List ℕ → Option (List ℕ) → (ℕ → Option Echo) → Type 0
  Outputs r m f =
      (k_of b ≤ ones (parties b (λ i. usable_echo r (f i)))) × Output b r (lowest b (parties b (λ i. usable_echo r (f i)))) (λ i. echo_fragment (f i)) m

  -- a branch that is enabled in the one is enabled in the other, sends and outputs the same, and leads to two that are alike
  also : (x y : Figure) → Alike x y → (es : List Event) (u : Figure) → Branch b own x es u → (v : Figure) × Branch b own y es v × Alike u v
  also x y l es u (acquires p a q e) = (
    acquire y,
    acquires p (at_alike false l a) (sym l.acquired ∙ q) (sym (l.sent a.going a.place q) ∙ e),
    record { acquired = refl; voted = l.voted; output = l.output; done = l.done; sent = λ d o c. refl; echo_of = l.echo_of; vote_of = l.vote_of },
  )
  also x y l es u (votes_by_echoes r a w h) = (
    turned y true y.output y.done,
    votes_by_echoes r (at_alike false l a) (sym l.voted ∙ w)
        (subst (λ (f : ℕ → Option Echo). most_of b ≤ ones (parties b (λ i. echo_for r (f i)))) (l.echo_of a.going) h),
    turned_alike x y l a.going true true x.output y.output x.done y.done refl l.output l.done (λ d o. a.place),
  )
  also x y l es u (votes_by_votes r a w h) = (
    turned y true y.output y.done,
    votes_by_votes r (at_alike false l a) (sym l.voted ∙ w) (votes_for (some_of b) x y l a.going r h),
    turned_alike x y l a.going true true x.output y.output x.done y.done refl l.output l.done (λ d o. a.place),
  )
  also x y l es u (opens r a w h) = (
    turned y y.voted true y.done,
    opens r (at_alike false l a) (sym l.voted ∙ w) (votes_for (most_of b) x y l a.going r h),
    turned_alike x y l a.going x.voted y.voted true true x.done y.done l.voted refl l.done (λ d o. a.place),
  )
  also x y l es u (delivers r m a h k g) = (
    turned y y.voted y.output true,
    let (j, f) = subst (Outputs r m) (l.echo_of a.going) (k, g) in
        delivers r m (at_alike true l a) (votes_for (most_of b) x y l a.going r h) j f,
    turned_alike x y l a.going x.voted y.voted x.output y.output true true l.voted l.output refl (λ d o. never (sym d)),
  )

  received : (i : ℕ) (m : Message) (x y : Figure) → Alike x y → Alike (receive b i m x) (receive b i m y)
  unfolding receive
  received i (send p) x y l = record {
    acquired = l.acquired;
    voted = l.voted;
    output = l.output;
    done = l.done;
    sent = λ d o a. ap (pick (eqb i b.sender) (some p)) (l.sent d o a);
    echo_of = l.echo_of;
    vote_of = l.vote_of;
  }
  received i (echo p) x y l = record {
    acquired = l.acquired;
    voted = l.voted;
    output = l.output;
    done = l.done;
    sent = l.sent;
    echo_of = λ d. ap (noted i (record { root = p.root; fragment = p.fragment; usable = correct b i p })) (l.echo_of d);
    vote_of = l.vote_of;
  }
  received i (vote r) x y l = record {
    acquired = l.acquired;
    voted = l.voted;
    output = l.output;
    done = l.done;
    sent = l.sent;
    echo_of = l.echo_of;
    vote_of = λ d. ap (noted i r) (l.vote_of d);
  }

  pub alike : Likeness (board_party b own) Alike
  alike = record { self = self; back = back; through = through; also = also; received = received }
