use Prim.Native.Nat.{ℕ, ◌+◌, ◌-◌, ◌*◌}
use mathlib.Core.Path.{◌≡◌, refl, ap, ◌∙◌}
use mathlib.Core.List.{◌++◌}
use native.Mathlib.Omega.{arith}
use borrow.Author.Tests.{leb-true}
use lib.ListN.{length, length-append}
use Rattle.octets.specs.Bytes.{tab, part, four_at}
use Rattle.sha256.specs.Sha256.{pad}
use Rattle.sha256.proofs.Padding.{length_pad}
use Rattle.sha256.proofs.Blocks.{words_inside}
use Rattle.sha256_strings.proofs.load.Goals as goal

pub overflow_add-at : goal.overflow_add-at
overflow_add-at c =
    let a = c.args in omega (arith, length-append a.head.now a.body.now, length_pad (a.head.now ++ a.body.now))

pub returns-then-at-h : goal.returns-then-at-h
unfolding tab part
returns-then-at-h c =
    let a = c.args in
    let e : a.at + 4 * 0 - length a.head.now ≡ a.at - length a.head.now = omega arith in (
      c.load_inside.ensures.0,
      c.load_inside.ensures.1 (λ j. four_at (pad (a.head.now ++ a.body.now)) (a.at + 4 * j))
          (λ j lt. words_inside a.head.now a.body.now a.at 0 16 (omega arith) (omega (arith, leb-true)) j lt ∙ ap (λ (k : ℕ). four_at (part k (length a.body.now - k) a.body.now) (4 * j)) e) refl,
    )

pub loop-t-init : goal.loop-t-init
unfolding tab
loop-t-init c = (omega arith, omega arith, refl)
