-- What a right step asks for.
use mathlib.Core.Path.{◌≡◌, ap}
use Prim.Native.Nat.{ℕ, ◌≤◌}
use mathlib.Core.List.{List}
use mathlib.Core.Bool.{true}
use native.Mathlib.Omega.{arith}
use borrow.Author.Tests.{leb-true}
use lib.ListN.{length}
use Rattle.octets.proofs.Picks.{and_l, and_r}
use Rattle.table.specs.declared.Table.{Table}
use Rattle.table.specs.Table.{is_board}
use Rattle.drill_words.proofs.Finding.{word_short}
use Rattle.drill_lines.specs.declared.Handed.{Handed}
use Rattle.drill_lines.specs.declared.Handed.TheVariants.{Send, Echo, Vote, Raw}
use Rattle.drill_lines.specs.declared.Step.{Step}
use Rattle.drill_lines.specs.Lines.{Breakers, fits, kind_in, from_in, to_in, right_kind, right_words, right_step}
use Rattle.drill_lines.specs.Read.{IsRaw, IsStep}
use Rattle.drill_step.specs.Asked.{raw_of, Handing}

raw_few : (h : Handed) (l : List ℕ) → IsRaw h l → length l ≤ 1024 → length (raw_of h) ≤ 1024
raw_few Send l e h = omega arith
raw_few Echo l e h = omega arith
raw_few Vote l e h = omega arith
raw_few (Raw w) l e h = omega (arith, ap length e, word_short 3 l)

pub handing : (b : Table) (x : Breakers) (message l : List ℕ) (s : Step) → length message ≤ b.longest → right_step b x l ≡ true → IsStep s l → Handing b message s
unfolding right_step
handing b x message l s f e i =
    let short = leb-true (length l) 1024 (and_l (fits l) _ e) in
    let boards = and_r (right_words l) _ (and_r (right_kind (kind_in l)) _ (and_r (fits l) _ e)) in
    record {
      fits = f;
      sends = rw i.from_is (and_l (is_board b (from_in l)) _ boards);
      takes = rw i.to_is (and_l (is_board b (to_in l)) _ (and_r (is_board b (from_in l)) _ boards));
      raw_few = raw_few s.handed l i.raw_is short;
    }
