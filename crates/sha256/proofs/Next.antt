-- Word t of the schedule looks only at the t words before it.
-- Assumes nothing.
use Rattle.std.proofs.Common.{◌≡◌, ℕ, ◌+◌, ◌-◌, ◌<◌, ◌≤◌, List, [], ◌∷◌, ◌++◌, length, get_or, take, set, sym, ap, ◌∙◌, add-one, arith, get_or-take, le-ltb, lt-ltb}
use native.Mathlib.Decide.{dec_lt}
use Rattle.octets.specs.Bytes.{pick}
use Rattle.octets.proofs.Tables.{grown}
use Rattle.sha256.specs.Sha256.{expand, next_word, words}

pub next_take : (b w : List ℕ) (t : ℕ) → next_word b (take t w) t ≡ next_word b w t
unfolding next_word pick
next_take b w t =
    elim (dec_lt t 16) [
      | yes lt ↦ rw (lt-ltb t 16 lt)
      | no ge ↦
          rw (
            le-ltb t 16 (omega arith),
            get_or-take t w (t - 2) 0 (omega arith),
            get_or-take t w (t - 7) 0 (omega arith),
            get_or-take t w (t - 15) 0 (omega arith),
            get_or-take t w (t - 16) 0 (omega arith),
          )
    ]

-- one more word stored
pub words_step : (b w : List ℕ) (t x : ℕ) → t < length w → take t w ≡ words b t → x ≡ next_word b w t
    → take (t + 1) (set w t x) ≡ words b (t + 1)
unfolding words
words_step b w t x h e hx =
    grown w (words b t) t x h e
    ∙ rw add-one (ap (λ (v : ℕ). words b t ++ (v ∷ [])) (hx ∙ sym (next_take b w t) ∙ ap (λ (l : List ℕ). next_word b l t) e))

-- one more word stored, after the first sixteen
pub expand_step : (b w : List ℕ) (t x : ℕ) → 16 ≤ t → t < length w → take t w ≡ words b t
    → x ≡ expand (get_or w (t - 2) 0) (get_or w (t - 7) 0) (get_or w (t - 15) 0) (get_or w (t - 16) 0)
    → take (t + 1) (set w t x) ≡ words b (t + 1)
unfolding next_word pick
expand_step b w t x low h e hx = words_step b w t x h e (rw (le-ltb t 16 low) hx)
