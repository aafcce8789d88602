-- The promise of a drill's call fixes its answer and every lent buffer.
use mathlib.Core.Path.{◌≡◌, sym, ap, ◌∙◌}
use mathlib.Core.List.{List}
use Prim.Native.Nat.{ℕ}
use Rattle.refusal.specs.declared.Sized.{Sized}
use Rattle.drill.specs.Call.{Lent, DrillOut, drill_out, call_of}

pub drill_one : (input : List ℕ) (b : Lent) (x y : Sized) (l m : Lent) → drill_out x l ≡ call_of input b → drill_out y m ≡ call_of input b → (x ≡ y) × (l ≡ m)
drill_one input b x y l m e f = let z = e ∙ sym f in (ap (λ (w : DrillOut). w.answer) z, ap (λ (w : DrillOut). w.left) z)
