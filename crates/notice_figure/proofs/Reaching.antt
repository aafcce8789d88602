-- What a step does after an echo or a vote is figure 4's branches, one after the other.
use mathlib.Core.Path.{◌≡◌, refl}
use Prim.Native.Nat.{ℕ, ◌≤◌}
use mathlib.Core.List.{List, ◌++◌}
use mathlib.Core.Bool.{Bool, true, false, not, ◌&&◌, ◌||◌}
use lib.Count.{ones}
use Rattle.octets.specs.Bytes.{pick}
use Rattle.table.specs.Table.{most_of, some_of}
use Rattle.table.specs.declared.Table.{Table}
use Rattle.figure.proofs.Acts.{send_if, output_if}
use Rattle.figure.specs.Fires.{Still, Fires, rests, goes}
use Rattle.notice_figure.specs.Figure.{vote, Figure, echoing, voting, turned, Branch, votes_by_echoes, votes_by_votes, delivers}

-- de, dv, w: n - t echoes, t + 1 votes, n - t votes are for the notice m
module _ (b : Table) (x : Figure) (m : List ℕ) (w : Bool) (won : w ≡ true → most_of b ≤ ones (voting b x m)) where
  -- voted
  ends : (c : Bool) → w ≡ c → Still (Branch b) (turned x true c) → Fires (Branch b) (turned x true false) (output_if c m) (turned x true c)
  unfolding pick
  ends true e st = goes (delivers m refl refl (won e)) (rests st)
  ends false e st = rests st

  -- v: voted before; not done
  pub reaches : (v de dv : Bool) → (de ≡ true → most_of b ≤ ones (echoing b x m)) → (dv ≡ true → some_of b ≤ ones (voting b x m))
      → (c : Bool) → w ≡ c → Still (Branch b) (turned x (v || (de || dv)) ((v || (de || dv)) && c))
      → Fires (Branch b) (turned x v false) (send_if (not v && (de || dv)) (vote m) ++ output_if ((v || (de || dv)) && c) m)
      (turned x (v || (de || dv)) ((v || (de || dv)) && c))
  unfolding pick
  reaches true de dv he hv c e st = ends c e st
  reaches false true dv he hv c e st = goes (votes_by_echoes m refl refl (he refl)) (ends c e st)
  reaches false false true he hv c e st = goes (votes_by_votes m refl refl (hv refl)) (ends c e st)
  reaches false false false he hv c e st = rests st
