-- The shape of a round, and of the sums after the rounds, as the code makes them.
-- Assumes nothing.
use Rattle.std.proofs.Common.{◌≡◌, ℕ, ◌+◌, ◌%◌, ◌^◌, ◌<◌, List, [], ◌∷◌, length, get_or, drop, refl, ap, ◌∙◌, add-one, arith, get_or-drop, get_or-take}
use Rattle.octets.specs.Bytes.{part}
use Rattle.sha256.specs.Words.{◌⊞◌}
use Rattle.sha256.specs.Sha256.{T₁, T₂, round, rounds, sums}
use Rattle.sha256.specs.Tables.{K}

-- the new first and fifth words make the round
pub made_round : (s : List ℕ) (k w x y a e : ℕ)
    → x ≡ T₁ (get_or s 4 0) (get_or s 5 0) (get_or s 6 0) (get_or s 7 0) k w
    → y ≡ T₂ (get_or s 0 0) (get_or s 1 0) (get_or s 2 0)
    → a ≡ (x + y) % 2 ^ 32
    → e ≡ (get_or s 3 0 + x) % 2 ^ 32
    → ◌≡◌ {A = List ℕ} (a ∷ get_or s 0 0 ∷ get_or s 1 0 ∷ get_or s 2 0 ∷ e ∷ get_or s 4 0 ∷ get_or s 5 0 ∷ get_or s 6 0 ∷ []) (round s k w)
unfolding round ◌⊞◌
made_round s k w x y a e hx hy ha he = rw (ha, he, hx, hy)

-- the eight sums
pub made_sums : (x y : List ℕ) (a b c d e f g h : ℕ)
    → a ≡ (get_or x 0 0 + get_or y 0 0) % 2 ^ 32 → b ≡ (get_or x 1 0 + get_or y 1 0) % 2 ^ 32
    → c ≡ (get_or x 2 0 + get_or y 2 0) % 2 ^ 32 → d ≡ (get_or x 3 0 + get_or y 3 0) % 2 ^ 32
    → e ≡ (get_or x 4 0 + get_or y 4 0) % 2 ^ 32 → f ≡ (get_or x 5 0 + get_or y 5 0) % 2 ^ 32
    → g ≡ (get_or x 6 0 + get_or y 6 0) % 2 ^ 32 → h ≡ (get_or x 7 0 + get_or y 7 0) % 2 ^ 32
    → ◌≡◌ {A = List ℕ} (a ∷ b ∷ c ∷ d ∷ e ∷ f ∷ g ∷ h ∷ []) (sums x y)
unfolding sums ◌⊞◌
made_sums x y a b c d e f g h pa pb pc pd pe pf pg ph = rw (pa, pb, pc, pd, pe, pf, pg, ph)

eight_words : (l : List ℕ) → length l ≡ 8
    → l ≡ get_or l 0 0 ∷ get_or l 1 0 ∷ get_or l 2 0 ∷ get_or l 3 0 ∷ get_or l 4 0 ∷ get_or l 5 0 ∷ get_or l 6 0 ∷ get_or l 7 0 ∷ []
eight_words [] n = absurd (omega arith)
eight_words (a ∷ []) n = absurd (omega arith)
eight_words (a ∷ b ∷ []) n = absurd (omega arith)
eight_words (a ∷ b ∷ c ∷ []) n = absurd (omega arith)
eight_words (a ∷ b ∷ c ∷ d ∷ []) n = absurd (omega arith)
eight_words (a ∷ b ∷ c ∷ d ∷ e ∷ []) n = absurd (omega arith)
eight_words (a ∷ b ∷ c ∷ d ∷ e ∷ f ∷ []) n = absurd (omega arith)
eight_words (a ∷ b ∷ c ∷ d ∷ e ∷ f ∷ g ∷ []) n = absurd (omega arith)
eight_words (a ∷ b ∷ c ∷ d ∷ e ∷ f ∷ g ∷ h ∷ []) n = refl
eight_words (a ∷ b ∷ c ∷ d ∷ e ∷ f ∷ g ∷ h ∷ i ∷ l) n = absurd (omega arith)

-- eight words that were added one by one
pub added_sums : (x y l : List ℕ) → length l ≡ 8 → ((k : ℕ) → k < 8 → get_or l k 0 ≡ (get_or x k 0 + get_or y k 0) % 2 ^ 32) → l ≡ sums x y
added_sums x y l n h =
    eight_words l n
    ∙ made_sums x y _ _ _ _ _ _ _ _ (h 0 (omega arith)) (h 1 (omega arith)) (h 2 (omega arith)) (h 3 (omega arith)) (h 4 (omega arith)) (h 5 (omega arith)) (h 6 (omega arith)) (h 7 (omega arith))

-- one more round
pub rounds_step : (w s₀ s r : List ℕ) (t k : ℕ) → s ≡ rounds w t s₀ → k ≡ get_or K t 0 → r ≡ round s k (get_or w t 0) → r ≡ rounds w (t + 1) s₀
unfolding rounds
rounds_step w s₀ s r t k hs hk hr = rw (add-one, hr, hs, hk)

-- word j of the constants from a on
constant_at : (k : List ℕ) (a j : ℕ) → k ≡ part a 8 K → j < 8 → get_or k j 0 ≡ get_or K (a + j) 0
unfolding part
constant_at k a j e h = rw e (get_or-take 8 (drop a K) j 0 h ∙ get_or-drop a K j 0)

-- one more round, by word j of eight constants
round_on : (w first k : List ℕ) (t : ℕ) → k ≡ part t 8 K → (j : ℕ) → j < 8 → (s r : List ℕ) → s ≡ rounds w (t + j) first
    → r ≡ round s (get_or k j 0) (get_or w (t + j) 0) → r ≡ rounds w (t + (j + 1)) first
round_on w first k t hk j lt s r hs hr =
    let e : t + j + 1 ≡ t + (j + 1) = omega arith in
    rounds_step w first s r (t + j) (get_or k j 0) hs (constant_at k t j hk lt) hr ∙ ap (λ (i : ℕ). rounds w i first) e

-- eight more rounds
pub rounds_eight : (w first k h s₁ s₂ s₃ s₄ s₅ s₆ s₇ s₈ : List ℕ) (t : ℕ) → k ≡ part t 8 K → h ≡ rounds w t first
    → s₁ ≡ round h (get_or k 0 0) (get_or w t 0) → s₂ ≡ round s₁ (get_or k 1 0) (get_or w (t + 1) 0)
    → s₃ ≡ round s₂ (get_or k 2 0) (get_or w (t + 2) 0) → s₄ ≡ round s₃ (get_or k 3 0) (get_or w (t + 3) 0)
    → s₅ ≡ round s₄ (get_or k 4 0) (get_or w (t + 4) 0) → s₆ ≡ round s₅ (get_or k 5 0) (get_or w (t + 5) 0)
    → s₇ ≡ round s₆ (get_or k 6 0) (get_or w (t + 6) 0) → s₈ ≡ round s₇ (get_or k 7 0) (get_or w (t + 7) 0)
    → s₈ ≡ rounds w (t + 8) first
rounds_eight w first k h s₁ s₂ s₃ s₄ s₅ s₆ s₇ s₈ t hk h₀ h₁ h₂ h₃ h₄ h₅ h₆ h₇ h₈ =
    let z : t ≡ t + 0 = omega arith in
    let r₁ = round_on w first k t hk 0 (omega arith) h s₁ (h₀ ∙ ap (λ (i : ℕ). rounds w i first) z) (h₁ ∙ ap (λ (i : ℕ). round h (get_or k 0 0) (get_or w i 0)) z) in
    let r₂ = round_on w first k t hk 1 (omega arith) s₁ s₂ r₁ h₂ in
    let r₃ = round_on w first k t hk 2 (omega arith) s₂ s₃ r₂ h₃ in
    let r₄ = round_on w first k t hk 3 (omega arith) s₃ s₄ r₃ h₄ in
    let r₅ = round_on w first k t hk 4 (omega arith) s₄ s₅ r₄ h₅ in
    let r₆ = round_on w first k t hk 5 (omega arith) s₅ s₆ r₅ h₆ in
    let r₇ = round_on w first k t hk 6 (omega arith) s₆ s₇ r₆ h₇ in
    round_on w first k t hk 7 (omega arith) s₇ s₈ r₇ h₈
