-- When the branches that fire are determined, and when two parties fire alike.
use mathlib.Core.Path.{◌≡◌, refl, sym, subst, ap₂, ◌∙◌}
use mathlib.Core.List.{List, [], ◌++◌, append-nil}
use Rattle.figure.specs.Fires.{Still, Fires, rests, goes}

module _ {X E : Type 0} (Branch : X → List E → X → Type 0) where
  -- ---- a branch, and then none

  rest_one : (x : X) → Still Branch x → (es : List E) (y : X) → Fires Branch x es y → (es ≡ []) × (y ≡ x)
  rest_one x still es y (rests st) = (refl, refl)
  rest_one x still es y (goes br f) = absurd (still _ _ br)

  module _ (x : X) (es : List E) (y : X) (there : Branch x es y) (still : Still Branch y) where
    pub fires_once : Fires Branch x es y
    fires_once = subst (λ (fs : List E). Fires Branch x fs y) (append-nil es) (goes there (rests still))

    -- no other branch is enabled, so nothing else can fire
    pub once_only : ((fs : List E) (z : X) → Branch x fs z → (fs ≡ es) × (z ≡ y)) → (fs : List E) (z : X) → Fires Branch x fs z → (fs ≡ es) × (z ≡ y)
    once_only other fs z (rests st) = absurd (st _ _ there)
    once_only other fs z (goes {y = u} {es = ds} {fs = gs} br f) =
        let (e, q) = other ds u br in
        let f' : Fires Branch y gs z = subst (λ (i : X). Fires Branch i gs z) q f in
        let (g, k) = rest_one y still gs z f' in
        (ap₂ ◌++◌ e g ∙ append-nil es, k)

  -- ---- where each branch is the only one, all firing sends and outputs the same and ends at the same

  module _ (Only : X → Type 0) (one : (x : X) → Only x → (es fs : List E) (y z : X) → Branch x es y → Branch x fs z → (es ≡ fs) × (y ≡ z))
      (still_only : (x : X) → Only x → (es : List E) (y : X) → Branch x es y → Only y) where
    pub fires_one : (x : X) → Only x → (es fs : List E) (y z : X) → Fires Branch x es y → Fires Branch x fs z → (es ≡ fs) × (y ≡ z)
    fires_one x o es fs y z (rests st) (rests su) = (refl, refl)
    fires_one x o es fs y z (rests st) (goes br f) = absurd (st _ _ br)
    fires_one x o es fs y z (goes br f) (rests st) = absurd (st _ _ br)
    fires_one x o es fs y z (goes {y = u} {es = ds} {fs = gs} br f) (goes {y = v} {es = cs} {fs = hs} bq g) =
        let (e, q) = one x o ds cs u v br bq in
        let g' : Fires Branch u hs z = subst (λ (i : X). Fires Branch i hs z) (sym q) g in
        let (c, d) = fires_one u (still_only x o ds u br) gs hs y z f g' in
        (ap₂ ◌++◌ e c, d)

  -- ---- parties that differ only in what no branch looks at fire alike

  module _ (Alike : X → X → Type 0) (back : (x y : X) → Alike x y → Alike y x)
      (also : (x y : X) → Alike x y → (es : List E) (u : X) → Branch x es u → (v : X) × Branch y es v × Alike u v) where
    pub still_alike : (x y : X) → Alike x y → Still Branch x → Still Branch y
    still_alike x y l st es u br = let (v, br', m) = also y x (back x y l) es u br in st es v br'

    pub fires_alike : (x y : X) → Alike x y → (es : List E) (u : X) → Fires Branch x es u → (v : X) × Fires Branch y es v × Alike u v
    fires_alike x y l es u (rests st) = (y, rests (still_alike x y l st), l)
    fires_alike x y l es u (goes {y = v} {es = ds} {fs = gs} br f) =
        let (w, br', m) = also x y l ds v br in
        let (z, f', n) = fires_alike v w m gs u f in
        (z, goes br' f', n)
