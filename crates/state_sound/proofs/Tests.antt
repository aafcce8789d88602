-- Three tests, of which two are made at once.
-- Assumes nothing.
use mathlib.Core.Path.{◌≡◌, refl}
use mathlib.Core.Bool.{Bool, true, false, ◌&&◌}

pub two_first : (a b c : Bool) → a && (b && c) ≡ (a && b) && c
two_first true b c = refl
two_first false b c = refl
