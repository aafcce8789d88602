use mathlib.Core.Path.{refl}
use native.Mathlib.Omega.{arith}
use Rattle.record.proofs.Reading.{no_kind}
use Rattle.record.proofs.KindTryFromU8.try_from.Goals as goal

pub returns-in-0 : goal.returns-in-0
returns-in-0 c = (refl, no_kind _ (λ h. omega arith) (λ h. omega arith) (λ h. omega arith))

pub returns-in-0-2 : goal.returns-in-0-2
returns-in-0-2 c = (refl, no_kind _ (λ h. omega arith) (λ h. omega arith) (λ h. omega arith))
