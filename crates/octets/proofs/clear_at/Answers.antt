use mathlib.Core.Path.{ap, ◌∙◌}
use mathlib.Core.List.{List}
use Prim.Native.Nat.{ℕ, ◌+◌}
use native.Mathlib.Omega.{arith}
use lib.ListN.{replicate}
use Rattle.octets.specs.Bytes.{put}
use Rattle.octets.proofs.Laws.{mid_put}
use Rattle.octets.proofs.clear_at.Goals as goal

pub returns : goal.returns
returns c =
    let a = c.args in
    mid_put a.at (a.at + a.n) a.s.now c.fill.new.self (omega arith) (omega arith) (omega arith)
    ∙ ap (λ (v : List ℕ). put a.at v a.s.now) (c.fill.ensures.after (λ y e. e) ∙ ap (λ (m : ℕ). replicate m 0) (omega arith))
