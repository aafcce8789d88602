use mathlib.Core.Path.{refl}
use borrow.Author.Tests.{eq-eqb, ne_eqb}
use Rattle.record.specs.Form.{path_ok}
use Rattle.record.proofs.Kind.takes_path.Goals as goal

pub returns-then-len-eq0 : goal.returns-then-len-eq0
unfolding path_ok
returns-then-len-eq0 c = rw (← c.most_nodes.ensures.0, eq-eqb _ _ c.if-len-eq0.true) refl

pub returns-else-len-eq0 : goal.returns-else-len-eq0
unfolding path_ok
returns-else-len-eq0 c = rw (ne_eqb _ _ c.if-len-eq0.false) refl
