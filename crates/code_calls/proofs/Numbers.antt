-- A refusal's number is not 0, which is none.
-- Assumes nothing.
use mathlib.Core.Path.{◌≡◌}
use native.Mathlib.Omega.{arith}
use Rattle.refusal.specs.declared.Refusal.{Refusal}
use Rattle.refusal.specs.Numbers.{number_of}

pub number_some : (r : Refusal) → number_of r ≡ 0 → ⊥
number_some Refusal.Table e = omega arith
number_some Refusal.Buffer e = omega arith
number_some Refusal.State e = omega arith
number_some Refusal.Board e = omega arith
number_some Refusal.Sender e = omega arith
number_some Refusal.Length e = omega arith
number_some Refusal.Late e = omega arith
number_some Refusal.Again e = omega arith
number_some Refusal.TooFew e = omega arith
number_some Refusal.Disagree e = omega arith
number_some Refusal.Block e = omega arith
number_some Refusal.Message e = omega arith
number_some Refusal.NotOut e = omega arith
number_some Refusal.Hash e = omega arith
number_some Refusal.Mailbox e = omega arith
number_some Refusal.Cut e = omega arith
number_some Refusal.Kind e = omega arith
number_some Refusal.Root e = omega arith
number_some Refusal.Path e = omega arith
number_some Refusal.Fragment e = omega arith
number_some Refusal.After e = omega arith
