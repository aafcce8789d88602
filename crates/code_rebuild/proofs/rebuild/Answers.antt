-- `code_rebuild::rebuild` meets its contract.
-- Assumes nothing.
use mathlib.Core.Path.{sym, subst}
use mathlib.Core.List.{List}
use Prim.Native.Nat.{ℕ, ◌≤◌}
use lib.ListN.{length, take}
use Rattle.code.specs.Code.{Apart}
use Rattle.code_sum.specs.Sums.{InArea}
use Rattle.code_through.specs.Sums.{Remade}
use Rattle.code_through.proofs.Marks.{apart_marks}
use Rattle.code_through.proofs.Agree.{boards, enough_marks}
use Rattle.code_through.proofs.Outcomes.{rebuilt}
use Rattle.code_rebuild.proofs.rebuild.Goals as goal

pub rebuild_listed-requires : goal.rebuild_listed-requires
rebuild_listed-requires c =
    let a = c.args in
    let p = c.requires in
    let e = sym c.members-count.ensures.1 in (
      subst (InArea (length a.area.now) a.s) e (boards a.n a.marked p.0 a.s (length a.area.now) p.3),
      p.4,
      p.6,
      subst Apart e (apart_marks 1 a.n a.marked),
      p.2,
      subst (λ (l : List ℕ). a.k ≤ length l) e (enough_marks a.n a.k a.s a.len a.marked a.area.now p.1 p.0 p.7 p.8),
      p.9,
    )

pub returns : goal.returns
returns c =
    let a = c.args in
    let p = c.requires in
    let w = c.rebuild_listed in
    let e = c.members-count.ensures.1 in
    rebuilt a.n a.k a.s a.len a.marked a.area.now p.1 p.0 p.7 p.8 p.3 p.6 a.out.now w.new.out
    w.auto.out p.9 w.result
    (subst (λ (l : List ℕ). Remade a.area.now a.s (take a.k l) l a.len a.out.now w.new.out w.result) e w.ensures)
