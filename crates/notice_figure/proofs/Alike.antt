-- Two parties that differ only in what no branch looks at any more do the same: a message that is refused as late or as a second one is received
-- without effect, then and later.
use mathlib.Core.Path.{◌≡◌, refl, sym, subst, ap, ◌∙◌}
use Prim.Native.Nat.{ℕ, ◌≤◌}
use mathlib.Core.List.{List}
use mathlib.Core.Bool.{Bool, true, false}
use mathlib.Core.Option.{Option, some}
use lib.Count.{ones}
use lib.Dec.{eqb}
use Rattle.octets.specs.Bytes.{pick}
use Rattle.table.specs.Table.{most_of, some_of}
use Rattle.table.specs.declared.Table.{Table}
use Rattle.figure.specs.Received.{noted, parties_for}
use Rattle.figure.proofs.History.{Likeness}
use Rattle.notice_figure.specs.Figure.{
  Message,
  send,
  echo,
  vote,
  Event,
  Figure,
  receive,
  turned,
  acquire,
  Branch,
  acquires,
  votes_by_echoes,
  votes_by_votes,
  delivers,
}
use Rattle.notice_figure.specs.History.{notice_party}

-- a party that is done looks at nothing; one that acquired, at no send
pub record Alike (x y : Figure) : Type 0 where
  pub acquired : x.acquired ≡ y.acquired
  pub voted : x.voted ≡ y.voted
  pub done : x.done ≡ y.done
  pub sent : x.done ≡ false → x.acquired ≡ false → x.sent ≡ y.sent
  pub echo_of : x.done ≡ false → x.echo_of ≡ y.echo_of
  pub vote_of : x.done ≡ false → x.vote_of ≡ y.vote_of

self : (x : Figure) → Alike x x
self x = record { acquired = refl; voted = refl; done = refl; sent = λ d a. refl; echo_of = λ d. refl; vote_of = λ d. refl }

back : (x y : Figure) → Alike x y → Alike y x
back x y l = record {
  acquired = sym l.acquired;
  voted = sym l.voted;
  done = sym l.done;
  sent = λ d a. sym (l.sent (l.done ∙ d) (l.acquired ∙ a));
  echo_of = λ d. sym (l.echo_of (l.done ∙ d));
  vote_of = λ d. sym (l.vote_of (l.done ∙ d));
}

through : (x y z : Figure) → Alike x y → Alike y z → Alike x z
through x y z l m = record {
  acquired = l.acquired ∙ m.acquired;
  voted = l.voted ∙ m.voted;
  done = l.done ∙ m.done;
  sent = λ d a. l.sent d a ∙ m.sent (sym l.done ∙ d) (sym l.acquired ∙ a);
  echo_of = λ d. l.echo_of d ∙ m.echo_of (sym l.done ∙ d);
  vote_of = λ d. l.vote_of d ∙ m.vote_of (sym l.done ∙ d);
}

turned_alike : (x y : Figure) → Alike x y → x.done ≡ false → (v w d e : Bool) → v ≡ w → d ≡ e → Alike (turned x v d) (turned y w e)
turned_alike x y l going v w d e voted done = record {
  acquired = l.acquired;
  voted = voted;
  done = done;
  sent = λ g a. l.sent going a;
  echo_of = λ g. l.echo_of going;
  vote_of = λ g. l.vote_of going;
}

module _ (b : Table) where
  -- as many are for a notice
  as_many : (q : ℕ) (m : List ℕ) (f g : ℕ → Option (List ℕ)) → f ≡ g → q ≤ ones (parties_for b f m) → q ≤ ones (parties_for b g m)
  as_many q m f g e = subst (λ (h : ℕ → Option (List ℕ)). q ≤ ones (parties_for b h m)) e

  -- a branch that is enabled in the one is enabled in the other, sends and outputs the same, and leads to two that are alike
  also : (x y : Figure) → Alike x y → (es : List Event) (u : Figure) → Branch b x es u → (v : Figure) × Branch b y es v × Alike u v
  also x y l es u (acquires m d a s) = (
    acquire y,
    acquires m (sym l.done ∙ d) (sym l.acquired ∙ a) (sym (l.sent d a) ∙ s),
    record { acquired = refl; voted = l.voted; done = l.done; sent = λ g c. refl; echo_of = l.echo_of; vote_of = l.vote_of },
  )
  also x y l es u (votes_by_echoes m d v h) = (
    turned y true y.done,
    votes_by_echoes m (sym l.done ∙ d) (sym l.voted ∙ v) (as_many (most_of b) m x.echo_of y.echo_of (l.echo_of d) h),
    turned_alike x y l d true true x.done y.done refl l.done,
  )
  also x y l es u (votes_by_votes m d v h) = (
    turned y true y.done,
    votes_by_votes m (sym l.done ∙ d) (sym l.voted ∙ v) (as_many (some_of b) m x.vote_of y.vote_of (l.vote_of d) h),
    turned_alike x y l d true true x.done y.done refl l.done,
  )
  also x y l es u (delivers m d v h) = (
    turned y y.voted true,
    delivers m (sym l.done ∙ d) (sym l.voted ∙ v) (as_many (most_of b) m x.vote_of y.vote_of (l.vote_of d) h),
    turned_alike x y l d x.voted y.voted true true l.voted refl,
  )

  received : (i : ℕ) (m : Message) (x y : Figure) → Alike x y → Alike (receive b i m x) (receive b i m y)
  unfolding receive
  received i (send m) x y l = record {
    acquired = l.acquired;
    voted = l.voted;
    done = l.done;
    sent = λ d a. ap (pick (eqb i b.sender) (some m)) (l.sent d a);
    echo_of = l.echo_of;
    vote_of = l.vote_of;
  }
  received i (echo m) x y l = record {
    acquired = l.acquired;
    voted = l.voted;
    done = l.done;
    sent = l.sent;
    echo_of = λ d. ap (noted i m) (l.echo_of d);
    vote_of = l.vote_of;
  }
  received i (vote m) x y l = record {
    acquired = l.acquired;
    voted = l.voted;
    done = l.done;
    sent = l.sent;
    echo_of = l.echo_of;
    vote_of = λ d. ap (noted i m) (l.vote_of d);
  }

  pub alike : Likeness (notice_party b) Alike
  alike = record { self = self; back = back; through = through; also = also; received = received }
