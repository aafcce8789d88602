-- Kinds by their numbers.
-- Assumes nothing.
use mathlib.Core.Path.{◌≡◌, refl}
use mathlib.Core.Bool.{false}
use mathlib.Core.Logic.{◌⊎◌, ⊎_elim}
use lib.Dec.{eqb}
use Rattle.record.specs.declared.Kind.{Kind}
use Rattle.record.specs.declared.Kind.TheVariants.{Send, Vote}
use Rattle.record.specs.Kinds.{kind_number}

-- a send or a vote is no echo
pub no_echo : (k : Kind) → (k ≡ Send) ⊎ (k ≡ Vote) → eqb (kind_number k) 2 ≡ false
no_echo k = ⊎_elim (λ e. rw e refl) (λ e. rw e refl)
