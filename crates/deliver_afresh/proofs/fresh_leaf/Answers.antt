use mathlib.Core.Path.{◌∙◌}
use native.Mathlib.Numerals.{add-one}
use native.Mathlib.Omega.{arith}
use Rattle.sha256.specs.Sha256.{chain}
use Rattle.deliver_afresh.proofs.Hashing.{eight_words, eight_first, leaf_done}
use Rattle.sha256.specs.Tables.{H0}
use Rattle.deliver_afresh.proofs.fresh_leaf.Goals as goal

pub loop-j-init : goal.loop-j-init
unfolding chain H0
loop-j-init c = (omega arith, c.requires.3, eight_first c.begun-h.result c.begun-h.ensures, λ f l. c.begun-h.ensures)

pub loop-j-preserved : goal.loop-j-preserved
unfolding chain
loop-j-preserved c =
    let l = c.loop-j in (omega arith, c.fill.auto.buffer ∙ l.invariant.1, eight_words _ _ c.take_block.new.h c.take_block.ensures, λ f m. rw (add-one, ← l.invariant.3 f m, ← c.fill.ensures f m) c.take_block.ensures)

pub returns : goal.returns
returns c =
    let l = c.loop-j in let a = c.args in λ f m. leaf_done f l.h a.stack.now c.put_digest.new.out a.at a.len l.j m.size (omega arith) (l.invariant.3 f m) c.put_digest.ensures
