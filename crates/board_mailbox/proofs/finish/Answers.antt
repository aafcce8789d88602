use mathlib.Core.Path.{sym, ◌∙◌}
use Rattle.board_step.proofs.Taking.{none_due}
use Rattle.board_mailbox.proofs.finish.Goals as goal

pub returns-then-not-is_done : goal.returns-then-not-is_done
returns-then-not-is_done c =
    let is_done = c.is_done in
    none_due _ _ _ (sym is_done.ensures ∙ c.if-not-is_done.true)
