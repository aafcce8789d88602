-- Results under one root agree, whoever rebuilt them, or two different strings that were hashed have one hash value.
use Prim.Native.Nat.{ℕ, ◌-◌, ◌*◌, ◌≤◌}
use mathlib.Core.Bool.{Bool}
use mathlib.Core.Path.{◌≡◌, refl, subst, sym, ◌∙◌}
use mathlib.Core.Logic.{◌⊎◌, inl, inr}
use mathlib.Core.Option.{Option, some, none}
use lib.Dec.{T}
use Rattle.line.specs.Boards.{count, Board}
use Rattle.line.proofs.Counts.{each_or}
use Rattle.line_fragments.specs.Code.{Code}
use Rattle.line_fragments.specs.Hashed.{Clash}
use Rattle.line_fragments.specs.Laws.{CodeLaws}

module _ {n t : ℕ} {C : Code} (L : CodeLaws n t C) where
  -- By: the strings that were hashed. A correct path showed f to be fragment i under the root v.
  abbrev pub Shown : (C.Str → Type 0) → C.Root → ℕ → C.Frag → Type 0
  Shown By v i f = (π : C.Path) × C.Proper f × T (C.check v i f π) × ((y : C.Str) → C.checked v i f π y → By y)

  -- what a result rests on: n - 2t fragments shown under the root, and the fresh encoding of the message that they gave
  pub record Basis (By : C.Str → Type 0) (v : C.Root) (o : Option C.Msg) : Type 0 where
    pub U : ℕ → Bool
    pub G : ℕ → C.Frag
    pub enough : n - 2 * t ≤ count U n
    pub shown : (i : ℕ) → T (U i) → Shown By v i (G i)
    pub is : C.result v U G ≡ o
    pub anew : (m : C.Msg) → o ≡ some m → (y : C.Str) → C.coded m y → By y

  pub basis_on : {By By' : C.Str → Type 0} {v : C.Root} {o : Option C.Msg} → ((y : C.Str) → By y → By' y) → Basis By v o → Basis By' v o
  basis_on g b = record {
    U = b.U;
    G = b.G;
    enough = b.enough;
    shown = λ i u. (let (π, p, c, h) = b.shown i u in (π, p, c, λ y z. g y (h y z)));
    is = b.is;
    anew = λ m h y c. g y (b.anew m h y c);
  }

  module _ {By : C.Str → Type 0} {v : C.Root} where
    -- a message whose encoding was hashed, and has this root, is the result
    pub meets : {o : Option C.Msg} → Basis By v o → (m : C.Msg) → C.Fits m → C.root m ≡ v → ((y : C.Str) → C.coded m y → By y)
        → (o ≡ some m) ⊎ Clash C.hash By By
    meets {o} b m fm e hm = elim (each_or b.U (λ i. b.G i ≡ C.piece m i) n each)
        [ inl h ↦ inl (sym b.is ∙ subst (λ a. C.result a b.U b.G ≡ some m) e (L.result_back m b.U b.G fm b.enough h)) | inr c ↦ inr c ]
      where
        each : (i : ℕ) → Board n i → T (b.U i) → (b.G i ≡ C.piece m i) ⊎ Clash C.hash By By
        each i bd u =
            let (π, p, c, h) = subst (λ a. Shown By a i (b.G i)) (sym e) (b.shown i u) in
            elim (L.path_binds m i (b.G i) π fm bd c) [ inl g ↦ inl g | inr (x, y, hx, hy, ne, q) ↦ inr (x, y, h x hx, hm y hy, ne, q) ]

    pub same : (o p : Option C.Msg) → Basis By v o → Basis By v p → (o ≡ p) ⊎ Clash C.hash By By
    same none none a b = inl refl
    same (some m) p a b =
        let (fm, q) = L.result_root v a.U a.G m (λ i u. (a.shown i u).1) a.is in
        elim (meets b m fm q (a.anew m refl)) [ inl k ↦ inl (sym k) | inr c ↦ inr c ]
    same none (some m) a b =
        let (fm, q) = L.result_root v b.U b.G m (λ i u. (b.shown i u).1) b.is in
        meets a m fm q (b.anew m refl)
