-- "while not done do wait until either: .. ⇒ ..": how the guarded branches of a figure fire, whatever they are.
use Rattle.std.specs.Prelude.{List, [], ◌++◌}

-- Branch x es y: a branch is enabled at x, brings the events es and leads to y
module _ {X E : Type 0} (Branch : X → List E → X → Type 0) where
  -- no branch is enabled
  abbrev pub Still : X → Type 0
  Still x = (es : List E) (y : X) → Branch x es y → ⊥

  -- every branch that is enabled fires until none is: from x to y, and all that is sent or output on the way
  pub data Fires : X → List E → X → Type 0 where
    rests : {x : X} → Still x → Fires x [] x
    goes : {x y z : X} {es fs : List E} → Branch x es y → Fires y fs z → Fires x (es ++ fs) z
