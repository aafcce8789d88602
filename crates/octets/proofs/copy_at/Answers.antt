use mathlib.Core.Path.{◌∙◌, ap}
use native.Mathlib.Omega.{arith}
use Prim.Native.Nat.{◌+◌}
use mathlib.Core.List.{List}
use Prim.Native.Nat.{ℕ}
use lib.ListN.{length}
use Rattle.octets.specs.Bytes.{put}
use Rattle.octets.proofs.Laws.{mid_put}
use Rattle.octets.proofs.copy_at.Goals as goal

pub returns : goal.returns
returns c =
    let a = c.args in
    mid_put a.at (a.at + length a.src.now) a.dst.now c.copy_from_slice.new.self (omega arith) (omega arith) (omega arith)
    ∙ ap (λ (v : List ℕ). put a.at v a.dst.now) c.copy_from_slice.ensures.after
