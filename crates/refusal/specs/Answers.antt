-- Answers that are two numbers.
-- Document 01, "Refusal numbers": "A refusal returns its number with zeros for every other result and writes nothing. The first that
-- applies is given."
use Rattle.std.specs.Prelude.{◌≡◌, ℕ, Result, Ok, Err}
use Rattle.refusal.specs.declared.Refusal.{Refusal}
use Rattle.refusal.specs.declared.Sized.{Sized}
use Rattle.refusal.specs.Numbers.{number_of}

-- the refusal's number, or 0; and a length
abbrev pub sized : ℕ → ℕ → Sized
sized q len = record { number = q; length = len }

-- what C is given of a result
abbrev pub sized_of : Result ℕ Refusal → Sized
sized_of (Ok n) = sized 0 n
sized_of (Err r) = sized (number_of r) 0

abbrev pub Answers : Result ℕ Refusal → Sized → Type 0
Answers r x = x ≡ sized_of r
