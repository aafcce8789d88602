-- `sha256_strings::load_run` meets its contract. Assumes nothing.
use Prim.Native.Nat.{◌+◌, ◌*◌}
use mathlib.Core.List.{◌++◌}
use native.Mathlib.Omega.{arith}
use lib.ListN.{length-set, length-append}
use Rattle.octets.specs.Bytes.{part, four_at}
use Rattle.octets.proofs.Tables.{tab_step}
use Rattle.sha256.specs.Sha256.{pad}
use Rattle.sha256.proofs.Padding.{length_pad}
use Rattle.sha256.proofs.Blocks.{words_inside}
use Rattle.sha256_strings.proofs.load_run.Goals as goal

pub inside_end-u-requires : goal.inside_end-u-requires
inside_end-u-requires c =
    let a = c.args in omega (arith, length-append a.head.now a.body.now, length_pad (a.head.now ++ a.body.now))

pub returns-then-t-u : goal.returns-then-t-u
unfolding part
returns-then-t-u c =
    let a = c.args in
    let e = c.inside_end-u.ensures in
    let i = e.2 (omega arith) in
    let u = c.inside_end-u.result in (
      c.load_inside.ensures.0,
      omega arith,
      omega arith,
      c.load_inside.ensures.1 (λ j. four_at (pad (a.head.now ++ a.body.now)) (a.at + 4 * j))
          (words_inside a.head.now a.body.now a.at a.t u i.0 i.1),
    )

pub other_word-requires : goal.other_word-requires
other_word-requires c =
    let a = c.args in omega (arith, length-append a.head.now a.body.now, length_pad (a.head.now ++ a.body.now))

pub returns : goal.returns
returns c =
    let a = c.args in (
      simp length-set (omega arith),
      omega arith,
      omega arith,
      λ h. tab_step (λ j. four_at (pad (a.head.now ++ a.body.now)) (a.at + 4 * j)) a.w.now a.t c.other_word.result (omega arith) h c.other_word.ensures,
    )
