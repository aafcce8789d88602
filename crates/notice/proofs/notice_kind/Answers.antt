use mathlib.Core.Path.{refl}
use native.Mathlib.Omega.{arith}
use Rattle.notice.proofs.Reading.{no_notice_kind}
use Rattle.notice.proofs.notice_kind.Goals as goal

pub returns-in_default : goal.returns-in_default
returns-in_default c = (refl, no_notice_kind _ (λ h. omega arith) (λ h. omega arith) (λ h. omega arith))
