-- An echo or a vote, once it is kept: what a step then does is what figure 4 fires.
use mathlib.Core.Path.{◌≡◌, refl, sym, subst}
use Prim.Native.Nat.{ℕ, ◌≤◌}
use mathlib.Core.List.{List, ◌++◌}
use mathlib.Core.Bool.{Bool, true, false, not, ◌&&◌, ◌||◌}
use mathlib.Core.Option.{none}
use borrow.Author.Tests.{leb-true}
use lib.Count.{ones}
use lib.Dec.{leb}
use Rattle.octets.specs.Bytes.{pick}
use Rattle.table.specs.Table.{most_of, some_of}
use Rattle.table.specs.declared.Table.{Table}
use Rattle.notice.specs.State.{notice_kept, how_many, notice_due, notice_won, notice_settled}
use Rattle.notice.specs.declared.Heard.{Heard}
use Rattle.figure.proofs.Acts.{send_if, output_if}
use Rattle.figure.specs.Fires.{Still, Fires}
use Rattle.figure.proofs.Counts.{parties_seen}
use Rattle.notice_figure.specs.Figure.{vote, Event, Figure, echoing, voting, turned, Branch}
use Rattle.notice_figure.specs.Shown.{figure_in}
use Rattle.notice_figure.proofs.Reaching.{reaches}

-- an echo or a vote for the notice v: what was heard, m, and the bytes s once it is kept

module _ (b : Table) (m : Heard) (s v : List ℕ) (going : m.done ≡ false) where
  abbrev x : Figure
  x = figure_in m s

  abbrev due : Bool
  due = notice_due b m (notice_kept s) v

  abbrev won : Bool
  won = notice_won b m (notice_kept s) v

  abbrev after : Heard
  after = notice_settled b true m (notice_kept s) v

  by_echoes : (q : ℕ) → leb q (how_many b m (notice_kept s) 2 v) ≡ true → q ≤ ones (echoing b x v)
  unfolding pick
  by_echoes q e = rw (parties_seen b m.echoes (notice_kept s 2) v) (leb-true q _ e)

  pub by_votes : (q : ℕ) → leb q (how_many b m (notice_kept s) 3 v) ≡ true → q ≤ ones (voting b (figure_in m s) v)
  unfolding pick
  by_votes q e = rw (parties_seen b m.votes (notice_kept s 3) v) (leb-true q _ e)

  start_same : x ≡ turned x m.voted false
  start_same = λ j. record {
    acquired = m.acquired;
    voted = m.voted;
    done = going j;
    sent = none;
    echo_of = x.echo_of;
    vote_of = x.vote_of;
  }

  end_same : figure_in after s ≡ turned x (m.voted || due) ((m.voted || due) && won)
  unfolding notice_settled
  end_same = λ j. record {
    acquired = m.acquired;
    voted = m.voted || due;
    done = going j || ((m.voted || due) && won);
    sent = none;
    echo_of = x.echo_of;
    vote_of = x.vote_of;
  }

  -- what is sent and output
  abbrev pub events : List Event
  events = send_if (not m.voted && due) (vote v) ++ output_if ((m.voted || due) && won) v

  turns : Still (Branch b) (figure_in after s) → Fires (Branch b) (turned x m.voted false) events (turned x (m.voted || due) ((m.voted || due) && won))
  unfolding notice_due notice_won
  turns still =
      reaches b x v (leb (most_of b) (how_many b m (notice_kept s) 3 v)) (by_votes (most_of b)) m.voted (leb (most_of b) (how_many b m (notice_kept s) 2 v))
      (leb (some_of b) (how_many b m (notice_kept s) 3 v)) (by_echoes (most_of b)) (by_votes (some_of b)) won refl (subst (Still (Branch b)) end_same still)

  pub word_fires : Still (Branch b) (figure_in (notice_settled b true m (notice_kept s) v) s)
      → Fires (Branch b) (figure_in m s) events (figure_in (notice_settled b true m (notice_kept s) v) s)
  word_fires still =
      subst (λ (i : Figure). Fires (Branch b) i events (figure_in after s)) (sym start_same)
      (subst (Fires (Branch b) (turned x m.voted false) events) (sym end_same) (turns still))
