-- What a step does after an echo or a vote is figure 5's branches, one after the other.
use mathlib.Core.Path.{◌≡◌, refl}
use Prim.Native.Nat.{ℕ, ◌≤◌}
use mathlib.Core.List.{List, ◌++◌}
use mathlib.Core.Bool.{Bool, true, false, not, ◌&&◌, ◌||◌}
use mathlib.Core.Option.{Option}
use lib.Count.{ones}
use Rattle.octets.specs.Bytes.{pick}
use Rattle.table.specs.Table.{k_of, most_of, some_of}
use Rattle.table.specs.declared.Table.{Table}
use Rattle.figure.proofs.Acts.{send_if, output_if}
use Rattle.figure.specs.Fires.{Still, Fires, rests, goes}
use Rattle.board_figure.specs.Figure.{
  vote,
  Event,
  Figure,
  echoing,
  usables,
  voting,
  turned,
  OutputFor,
  Branch,
  votes_by_echoes,
  votes_by_votes,
  opens,
  delivers,
}
use Rattle.octets.proofs.Picks.{never}

-- de, dv, w, k: n - t echoes, t + 1 votes, n - t votes, k usable echoes are for the root; m is then what is output
module _ (b : Table) (own : ℕ) (x : Figure) (root : List ℕ) (w k : Bool) (won : w ≡ true → most_of b ≤ ones (voting b x root))
    (enough : k ≡ true → k_of b ≤ ones (usables b x root)) (m : Option (List ℕ)) (there : k ≡ true → OutputFor b x root m) where
  -- in the output stage
  ends : (c d : Bool) → w ≡ c → k ≡ d → Still (Branch b own) (turned x true true (c && d))
      → Fires (Branch b own) (turned x true true false) (output_if (c && d) m) (turned x true true (c && d))
  unfolding pick
  ends true true e f st = goes (delivers root m (record { going = refl; place = refl }) (won e) (enough f) (there f)) (rests st)
  ends true false e f st = rests st
  ends false d e f st = rests st

  -- voted
  opening : (c d : Bool) → w ≡ c → k ≡ d → Still (Branch b own) (turned x true c (c && (c && d)))
      → Fires (Branch b own) (turned x true false false) (output_if (c && (c && d)) m) (turned x true c (c && (c && d)))
  unfolding pick
  opening true d e f st = goes (opens root (record { going = refl; place = refl }) refl (won e)) (ends true d e f st)
  opening false d e f st = rests st

  -- what is sent and output: voted before, voted now, done now
  abbrev pub events : Bool → Bool → Bool → List Event
  events before now done = send_if (not before && now) (vote root) ++ output_if done m

  -- v, o: voted and in the output stage before; not done
  pub reaches : (v o de dv : Bool) → (o ≡ true → v ≡ true) → (de ≡ true → most_of b ≤ ones (echoing b x root)) → (dv ≡ true → some_of b ≤ ones (voting b x root))
      → (c d : Bool) → w ≡ c → k ≡ d
      → Still (Branch b own) (turned x (v || (de || dv)) (o || ((v || (de || dv)) && c)) ((o || ((v || (de || dv)) && c)) && (c && d)))
      → Fires (Branch b own) (turned x v o false) (events v (v || (de || dv)) ((o || ((v || (de || dv)) && c)) && (c && d)))
      (turned x (v || (de || dv)) (o || ((v || (de || dv)) && c)) ((o || ((v || (de || dv)) && c)) && (c && d)))
  unfolding pick
  reaches true true de dv ov he hv c d e f st = ends c d e f st
  reaches true false de dv ov he hv c d e f st = opening c d e f st
  reaches false true de dv ov he hv c d e f st = never (ov refl)
  reaches false false true dv ov he hv c d e f st = goes (votes_by_echoes root (record { going = refl; place = refl }) refl (he refl)) (opening c d e f st)
  reaches false false false true ov he hv c d e f st = goes (votes_by_votes root (record { going = refl; place = refl }) refl (hv refl)) (opening c d e f st)
  reaches false false false false ov he hv c d e f st = rests st
