use mathlib.Core.Path.{refl}
use native.Mathlib.Omega.{arith}
use Rattle.record.proofs.Reading.{no_kind}
use Rattle.record.proofs.kind_of.Goals as goal

pub returns-then-number-gt255 : goal.returns-then-number-gt255
returns-then-number-gt255 c = (refl, no_kind _ (λ h. omega arith) (λ h. omega arith) (λ h. omega arith))
