-- `tree::rise` meets its contract. Assumes nothing.
use mathlib.Core.Path.{sym, ap, ◌∙◌}
use mathlib.Core.List.{List, ◌++◌}
use Prim.Native.Nat.{ℕ, ◌*◌}
use Rattle.octets.proofs.Laws.{part_range}
use native.Mathlib.Omega.{arith}
use Rattle.sha256.specs.Sha256.{digest, sha256}
use Rattle.tree.specs.Check.{node_of}
use Rattle.tree.proofs.Spans.{climb_alone, depth_alone, depth_more}
use Rattle.tree.proofs.Lifts.{rise_pair, node_there}
use Rattle.tree.proofs.rise.Goals as goal

pub returns-then-n-m : goal.returns-then-n-m
returns-then-n-m c =
    let a = c.args in (
      omega arith,
      omega arith,
      omega (arith, depth_alone a.n a.d a.i (omega arith) (omega arith)),
      λ f hx. hx ∙ sym (climb_alone a.n a.d a.i sha256 (node_of a.path.now) f (omega arith) (omega arith)),
    )

pub overflow_mul-j : goal.overflow_mul-j
overflow_mul-j c =
    let a = c.args in omega (arith, node_there a.n a.i a.d (omega arith) (omega arith) (omega arith) (omega arith))

pub overflow_mul-j-2 : goal.overflow_mul-j-2
overflow_mul-j-2 c =
    let a = c.args in omega (arith, node_there a.n a.i a.d (omega arith) (omega arith) (omega arith) (omega arith))

pub overflow_add-j : goal.overflow_add-j
overflow_add-j c =
    let a = c.args in omega (arith, node_there a.n a.i a.d (omega arith) (omega arith) (omega arith) (omega arith))

pub slice_bounds-set_pair-end : goal.slice_bounds-set_pair-end
slice_bounds-set_pair-end c =
    let a = c.args in omega (arith, node_there a.n a.i a.d (omega arith) (omega arith) (omega arith) (omega arith))

pub returns : goal.returns
returns c =
    let a = c.args in
    let more = depth_more a.n a.d a.i (omega arith) in
    let s = c.side in (
      c.take_all.ensures.0,
      omega arith,
      omega arith,
      λ f hx. rise_pair a.n a.d a.i a.j s.result a.path.now (digest a.h.now) _ _ f c.requires.3 (omega arith)
          (λ lt. s.ensures.1 (omega arith)) (λ ge. s.ensures.2 (omega arith)) (λ e. c.set_pair.ensures.0 e ∙ ap (λ (y : List ℕ). digest a.h.now ++ y) (part_range (32 * a.j) 32 a.path.now))
          (λ e. c.set_pair.ensures.1 e ∙ ap (λ (y : List ℕ). y ++ digest a.h.now) (part_range (32 * a.j) 32 a.path.now)) c.take_all.ensures.1 hx,
    )
