-- `tree_stack::lift_beside` meets its contract.
-- Assumes nothing.
use mathlib.Core.Path.{◌≡◌, sym, ap, ◌∙◌}
use Prim.Native.Nat.{ℕ, ◌+◌, ◌-◌, ◌*◌, ◌≤◌, ◌<◌}
use native.Mathlib.Omega.{arith}
use mathlib.Core.List.{List}
use lib.ListN.{length, take, drop}
use Rattle.octets.specs.Bytes.{part, put}
use Rattle.octets.proofs.Laws.{length_part, part_range}
use Rattle.sha256.specs.Sha256.{sha256}
use Rattle.tree.specs.Tree.{node_hash}
use Rattle.tree.specs.Check.{node_of}
use Rattle.tree.specs.Levels.{middle}
use Rattle.tree.proofs.Spans.{climb_alone}
use Rattle.tree_stack.proofs.Stacks.{top_low, top_most, top_left, top_right, joined_right, joined_left, beside_left, beside_right}
use Rattle.tree_stack.proofs.lift_beside.Goals as goal

node_size : (j : ℕ) (path : List ℕ) → 32 * j + 32 ≤ length path → length (take (32 * j + 32 - 32 * j) (drop (32 * j) path)) ≡ 32
node_size j path h = ap length (part_range (32 * j) 32 path) ∙ length_part (32 * j) 32 path h

pub returns-then-n-m : goal.returns-then-n-m
returns-then-n-m c =
    let a = c.args in let p = c.requires in let g : a.n ≤ middle a.d a.i = omega (arith, c.middle_of-m.ensures.0) in (p.5 ∙ top_left a.i a.d (omega arith) p.2 (omega arith), λ f hx hj. hx ∙ sym (climb_alone a.n a.d a.i sha256 (node_of a.path.now) f p.1 g))

pub overflow_add-at : goal.overflow_add-at
overflow_add-at c =
    let a = c.args in let p = c.requires in omega (arith, top_most a.i a.d (omega arith) p.2)

pub copy_at-requires : goal.copy_at-requires
copy_at-requires c =
    let a = c.args in let p = c.requires in let g : middle a.d a.i < a.n = omega (arith, c.middle_of-m.ensures.0, c.if-n-m.false) in
    let l : a.i < middle a.d a.i = omega (arith, c.middle_of-m.ensures.0, c.if-i-m.true) in omega (arith, p.4, p.5, top_low a.i a.d (omega arith) p.2, top_left a.i a.d (omega arith) p.2 l, node_size a.j a.path.now (p.6 g))

pub join-requires : goal.join-requires
join-requires c =
    let a = c.args in let p = c.requires in
    let l : a.i < middle a.d a.i = omega (arith, c.middle_of-m.ensures.0, c.if-i-m.true) in
    (omega (arith, p.5, top_low a.i a.d (omega arith) p.2, top_left a.i a.d (omega arith) p.2 l), omega (arith, p.4, c.copy_at.auto.dst))

pub returns-then-i-m : goal.returns-then-i-m
returns-then-i-m c =
    let middle_of = c.middle_of-m in let copy_at = c.copy_at in let a = c.args in
    let p = c.requires in let g : middle a.d a.i < a.n = omega (arith, middle_of.ensures.0, c.if-n-m.false) in
    let l : a.i < middle a.d a.i = omega (arith, middle_of.ensures.0, c.if-i-m.true) in let u = top_left a.i a.d (omega arith) p.2 l in (
      p.5 ∙ u,
      λ f hx hj.
          beside_left a.n a.d a.i a.j a.path.now a.stack.now 0 a.at c.join.new.stack f p.5 p.0 p.1 p.2 p.4 hx hj g l
          (joined_right a.at (part (32 * a.j) 32 a.path.now) a.stack.now copy_at.new.dst c.join.new.stack (length_part (32 * a.j) 32 a.path.now (p.6 g)) (omega (arith, p.4, p.5, u, top_low a.i a.d (omega arith) p.2)) (copy_at.ensures ∙ ap (λ (v : List ℕ). put (a.at + 32) v a.stack.now) (part_range (32 * a.j) 32 a.path.now)) c.join.ensures),
    )

pub overflow_sub-low : goal.overflow_sub-low
overflow_sub-low c =
    let a = c.args in let p = c.requires in let l : middle a.d a.i ≤ a.i = omega (arith, c.middle_of-m.ensures.0, c.if-i-m.false) in omega (arith, p.5, top_right a.i a.d (omega arith) p.2 l)

pub copy_at-requires-2 : goal.copy_at-requires-2
copy_at-requires-2 c =
    let a = c.args in let p = c.requires in let g : middle a.d a.i < a.n = omega (arith, c.middle_of-m.ensures.0, c.if-n-m.false) in omega (arith, p.4, p.5, top_most a.i a.d (omega arith) p.2, node_size a.j a.path.now (p.6 g))

pub join-requires-2 : goal.join-requires-2
join-requires-2 c =
    let a = c.args in let p = c.requires in (omega (arith, p.5, top_most a.i a.d (omega arith) p.2), omega (arith, p.4, c.copy_at-2.auto.dst))

pub returns : goal.returns
returns c =
    let middle_of = c.middle_of-m in let copy_at2 = c.copy_at-2 in let a = c.args in
    let p = c.requires in let g : middle a.d a.i < a.n = omega (arith, middle_of.ensures.0, c.if-n-m.false) in
    let l : middle a.d a.i ≤ a.i = omega (arith, middle_of.ensures.0, c.if-i-m.false) in let u = top_right a.i a.d (omega arith) p.2 l in let b : a.at - 32 + 32 ≡ a.at = omega (arith, p.5, u) in (
      omega (arith, p.5, u),
      λ f hx hj.
          beside_right a.n a.d a.i a.j a.path.now a.stack.now (a.at - 32) a.at c.join-2.new.stack f p.5 p.0 p.1 p.2 p.4 hx hj g l
          (joined_left (a.at - 32) (part (32 * a.j) 32 a.path.now) a.stack.now copy_at2.new.dst c.join-2.new.stack (length_part (32 * a.j) 32 a.path.now (p.6 g)) (omega (arith, p.4, p.5, top_most a.i a.d (omega arith) p.2, b)) (copy_at2.ensures ∙ ap (λ (v : List ℕ). put (a.at - 32) v a.stack.now) (part_range (32 * a.j) 32 a.path.now)) c.join-2.ensures
          ∙ ap (λ (q : ℕ). node_hash sha256 (part (32 * a.j) 32 a.path.now) (part q 32 a.stack.now)) b),
    )
