-- `tree::correct` meets its contract. Assumes nothing.
use Prim.Native.Nat.{◌-◌, ◌*◌}
use mathlib.Core.Path.{◌≡◌, ap, ap₂, ◌∙◌}
use native.Mathlib.Omega.{arith}
use lib.ListN.{length}
use Rattle.octets.specs.Bytes.{part, same}
use Rattle.octets.proofs.Picks.{picks}
use Rattle.octets.proofs.Parts.{part_all}
use Rattle.octets.proofs.Puts.{part_put}
use Rattle.sha256.specs.Sha256.{digest, sha256}
use Rattle.sha256.proofs.Digest.{digest_length}
use Rattle.tree.specs.Tree.{tree_of, depth, leaf_hash, climb}
use Rattle.tree.specs.Check.{node_of, path_correct}
use Rattle.tree.proofs.Spans.{depth_all}
use Rattle.tree.proofs.correct.Goals as goal

pub returns-then-n-lt1 : goal.returns-then-n-lt1
unfolding path_correct
returns-then-n-lt1 c = search picks

pub returns-then-n-gt64 : goal.returns-then-n-gt64
unfolding path_correct
returns-then-n-gt64 c = search picks

pub returns-then-i-lt1 : goal.returns-then-i-lt1
unfolding path_correct
returns-then-i-lt1 c = search picks

pub returns-then-n-i : goal.returns-then-n-i
unfolding path_correct
returns-then-n-i c = search picks

pub returns-then-root-ne32 : goal.returns-then-root-ne32
unfolding path_correct
returns-then-root-ne32 c = search picks

pub returns-then-f-gt65535 : goal.returns-then-f-gt65535
unfolding path_correct
returns-then-f-gt65535 c = search picks

pub returns-then-path-nodes : goal.returns-then-path-nodes
unfolding path_correct
returns-then-path-nodes c =
    let a = c.args in
    let wrong : length a.path.now ≡ 32 * depth (tree_of a.n) (a.i - 1) → ⊥ = λ e. omega (arith, depth_all a.n (a.i - 1) (omega arith) (omega arith)) in
    search picks

pub rise_up-requires : goal.rise_up-requires
rise_up-requires c =
    let a = c.args in
    let size = c.take_all.ensures.0 in
    omega (arith, depth_all a.n (a.i - 1) (omega arith) (omega arith))

pub returns : goal.returns
unfolding path_correct leaf_hash
returns c =
    let a = c.args in
    let up = c.rise_up in
    let count : length a.path.now ≡ 32 * depth (tree_of a.n) (a.i - 1) = omega (arith, depth_all a.n (a.i - 1) (omega arith) (omega arith)) in
    let hash = up.ensures.2 a.f.now c.take_all.ensures.1 in
    let front = ap (part 0 32) c.put_digest.ensures ∙ part_put 0 32 (digest up.new.h) _ (digest_length up.new.h) (omega arith) in
    let last : c.same_at.result ≡ same (climb sha256 (node_of a.path.now) (tree_of a.n) (a.i - 1) a.f.now) a.root.now =
    c.same_at.ensures ∙ ap₂ same (front ∙ hash) (part_all 32 a.root.now (omega arith)) in
    search picks
