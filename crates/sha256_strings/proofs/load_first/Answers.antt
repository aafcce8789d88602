-- `sha256_strings::load_first` meets its contract. Assumes nothing.
use Prim.Native.Nat.{ℕ, ◌+◌, ◌-◌, ◌*◌}
use mathlib.Core.Path.{◌≡◌, refl, ap, ◌∙◌}
use mathlib.Core.List.{◌++◌}
use native.Mathlib.Omega.{arith}
use lib.ListN.{length}
use Rattle.octets.specs.Bytes.{tab, part, four_at}
use Rattle.octets.proofs.Tables.{tab_step}
use Rattle.sha256.specs.Sha256.{pad}
use Rattle.sha256.proofs.Blocks.{words_inside, word_first}
use Rattle.sha256_strings.proofs.load_first.Goals as goal

pub returns : goal.returns
unfolding tab part
returns c =
    let a = c.args in
    let x = c.from_be_bytes in
    let e : 0 + 4 * 1 - length a.head.now ≡ 3 = omega arith in
    let first = word_first a.head.now a.body.now x.result (omega arith) (omega arith) (omega (arith, x.ensures)) in (
      c.load_inside.ensures.0,
      c.load_inside.ensures.1 (λ t. four_at (pad (a.head.now ++ a.body.now)) (0 + 4 * t))
          (λ j lt. words_inside a.head.now a.body.now 0 1 16 (omega arith) (omega arith) j lt ∙ ap (λ (k : ℕ). four_at (part k (length a.body.now - k) a.body.now) (4 * j)) e)
          (tab_step (λ t. four_at (pad (a.head.now ++ a.body.now)) (0 + 4 * t)) a.w.now 0 x.result (omega arith) refl first),
    )
