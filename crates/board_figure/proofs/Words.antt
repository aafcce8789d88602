-- An echo or a vote, once it is kept: what a step then does is what figure 5 fires; and what is put out.
use mathlib.Core.Path.{◌≡◌, refl, sym, subst, ◌∙◌}
use Prim.Native.Nat.{ℕ, ◌*◌, ◌/◌, ◌≤◌}
use mathlib.Core.List.{List, ◌++◌}
use mathlib.Core.Bool.{Bool, true, false, not, ◌&&◌, ◌||◌}
use mathlib.Core.Option.{Option, none}
use native.Mathlib.Omega.{arith}
use borrow.Author.Tests.{leb-true}
use lib.Count.{ones}
use lib.Dec.{leb}
use lib.ListN.{length}
use Rattle.octets.specs.Bytes.{pick, part}
use Rattle.octets.proofs.Picks.{and_l, and_r, never}
use Rattle.table.specs.Table.{k_of, most_of, some_of}
use Rattle.table.specs.declared.Table.{Table}
use Rattle.code.specs.Code.{All, Byte}
use Rattle.state.specs.State.{view_of, echo_at, vote_at}
use Rattle.state.specs.Sound.{flags_ok, naming}
use Rattle.state.specs.declared.Marks.{Marks}
use Rattle.state.proofs.Facts.{Sounds}
use Rattle.board.specs.Stepped.{record_root, record_path, vote_due, won, enough_usable, voted_now, output_now, ends_now, with_flags, settled_to}
use Rattle.board_step.specs.Step.{put_out, result_in}
use Rattle.board_step.proofs.Due.{usable_enough}
use Rattle.figure.specs.Acts.{sent_by}
use Rattle.figure.proofs.Acts.{send_if, output_if, word_sent, send_sent}
use Rattle.figure.specs.Fires.{Still, Fires}
use Rattle.board_figure.specs.Figure.{echo, vote, Figure, echoing, usables, voting, turned, Branch}
use Rattle.board_figure.specs.Shown.{figure_in, piece_of, as_record}
use Rattle.board_figure.proofs.Seen.{Heard, heard, echoing_seen, usables_seen, voting_seen}
use Rattle.board_figure.proofs.Overdue.{still_of}
use Rattle.board_figure.proofs.Results.{output_seen}
use Rattle.board_figure.proofs.Reaching.{reaches}

-- ---- what is put out

abbrev pub as_is : Option (List ℕ) → Option (List ℕ)
as_is x = x

pub vote_put_out : (a c : Bool) (result : Option (List ℕ)) (p f : ℕ) (r : List ℕ)
    → sent_by as_record as_is (send_if a (vote (record_root r)) ++ output_if c result) ≡ put_out false a p f r
unfolding put_out pick
vote_put_out a c result p f r = word_sent as_record as_is a c (vote (record_root r)) result

pub echo_put_out : (c v : Bool) (p f : ℕ) (r : List ℕ) → length (record_path p r) ≡ 32 * p
    → sent_by as_record as_is (send_if c (echo (piece_of p f r))) ≡ put_out c (not v && (v || false)) p f r
unfolding pick put_out
echo_put_out true v p f r e =
    let z : length (record_path p r) / 32 ≡ p = omega arith in
    send_sent as_record as_is true (echo (piece_of p f r)) ∙ rw z
echo_put_out false true p f r e = refl
echo_put_out false false p f r e = refl

-- ---- an echo or a vote for a root: marks m and bytes s once it is kept

pub output_voted : (m : Marks) → flags_ok m ≡ true → m.output ≡ true → m.voted ≡ true
unfolding flags_ok
output_voted m h = go m.output m.voted (and_l _ _ h)
  where
    go : (o v : Bool) → (not o || v) ≡ true → o ≡ true → v ≡ true
    go true v e t = e
    go false v e t = never t

module _ (b : Table) (own : ℕ) (m : Marks) (s root : List ℕ) (f : Sounds (view_of b (settled_to b true m s root) s)) (going : m.done ≡ false)
    (flags : m.output ≡ true → m.voted ≡ true) where
  words_heard : Heard b m
  unfolding settled_to with_flags
  words_heard = heard b (settled_to b true m s root) s f

  abbrev x : Figure
  x = figure_in b m s

  by_echoes : leb (most_of b) (ones (naming b.n m.echoes (λ j. part (echo_at j) 32 s) root)) ≡ true → most_of b ≤ ones (echoing b x root)
  by_echoes e = rw (echoing_seen b m s root) (leb-true (most_of b) _ e)

  by_votes : (q : ℕ) → leb q (ones (naming b.n m.votes (λ j. part (vote_at j) 32 s) root)) ≡ true → q ≤ ones (voting b x root)
  by_votes q e = rw (voting_seen b m s root) (leb-true q _ e)

  by_usables : enough_usable b m s root ≡ true → k_of b ≤ ones (usables b x root)
  unfolding enough_usable
  by_usables e = rw (usables_seen b m s words_heard root) (leb-true (k_of b) _ e)

  abbrev after : Marks
  after = settled_to b true m s root

  start_same : x ≡ turned x m.voted m.output false
  start_same = λ j. record {
    acquired = m.acquired;
    voted = m.voted;
    output = m.output;
    done = going j;
    sent = none;
    echo_of = x.echo_of;
    vote_of = x.vote_of;
  }

  end_same : figure_in b after s ≡ turned x (voted_now b true m s root) (output_now b true m s root) (ends_now b true m s root)
  unfolding settled_to with_flags
  end_same = λ j. record {
    acquired = m.acquired;
    voted = voted_now b true m s root;
    output = output_now b true m s root;
    done = going j || ends_now b true m s root;
    sent = none;
    echo_of = x.echo_of;
    vote_of = x.vote_of;
  }

  turns : All Byte s → Fires (Branch b own) (turned x m.voted m.output false)
      (send_if (not m.voted && voted_now b true m s root) (vote root) ++ output_if (ends_now b true m s root) (result_in b m s root))
      (turned x (voted_now b true m s root) (output_now b true m s root) (ends_now b true m s root))
  unfolding voted_now output_now ends_now vote_due won
  turns bytes =
      reaches b own x root (won b m s root) (enough_usable b m s root) (by_votes (most_of b)) by_usables (result_in b m s root)
      (λ e. output_seen b m s f.lim words_heard bytes root (usable_enough b m s root e)) m.voted m.output
      (leb (most_of b) (ones (naming b.n m.echoes (λ j. part (echo_at j) 32 s) root)))
      (leb (some_of b) (ones (naming b.n m.votes (λ j. part (vote_at j) 32 s) root))) flags by_echoes (by_votes (some_of b)) (won b m s root) (enough_usable b m s root)
      refl refl (subst (Still (Branch b own)) end_same (still_of b after s f own))

  ends_enough : ends_now b true m s root ≡ true → enough_usable b m s root ≡ true
  unfolding ends_now
  ends_enough e = and_r (won b m s root) (enough_usable b m s root) (and_r (output_now b true m s root) _ e)

  -- a delivery has n - t votes and k usable echoes
  pub ends_counts : ends_now b true m s root ≡ true → (most_of b ≤ ones (voting b (figure_in b m s) root)) × (k_of b ≤ ones (usables b (figure_in b m s) root))
  unfolding ends_now won
  ends_counts e = (by_votes (most_of b) (and_l (won b m s root) (enough_usable b m s root) (and_r (output_now b true m s root) _ e)), by_usables (ends_enough e))

  pub word_fires : All Byte s → Fires (Branch b own) x (send_if (not m.voted && voted_now b true m s root) (vote root) ++ output_if (ends_now b true m s root) (result_in b m s root)) (figure_in b after s)
  word_fires bytes =
      subst (λ (i : Figure). Fires (Branch b own) i (send_if (not m.voted && voted_now b true m s root) (vote root) ++ output_if (ends_now b true m s root) (result_in b m s root)) (figure_in b after s))
      (sym start_same)
      (subst (λ (i : Figure). Fires (Branch b own) (turned x m.voted m.output false)
      (send_if (not m.voted && voted_now b true m s root) (vote root) ++ output_if (ends_now b true m s root) (result_in b m s root)) i) (sym end_same) (turns bytes))
