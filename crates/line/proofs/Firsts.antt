-- What a board keeps when the boards 1, 2 .. echo and then vote, one after the other; and when n - t of them have.
use Prim.Native.Nat.{ℕ, zero, suc, ◌-◌, ◌*◌, ◌≤◌, ◌<◌, min}
use native.Mathlib.Omega.{arith}
use native.Mathlib.Decide.{ℕ_discrete, dec_lt}
use mathlib.Core.Bool.{Bool, true, false, not, ◌&&◌, ◌||◌}
use mathlib.Core.Path.{◌≡◌, refl, subst, sym, ◌∙◌, ap}
use borrow.Author.Tests.{leb-true, leb-false, le-leb, lt-leb, ne_eqb}
use lib.Dec.{leb, ltb, eqb, eqb_refl}
use Rattle.octets.specs.Bytes.{pick}
use Rattle.octets.proofs.Picks.{holds, or_false}
use Rattle.line.specs.Boards.{count, Board, known, some_boards}
use Rattle.line.specs.Core.{Word, echo, vote, Core, set_at, set_word, keep, quorum, due_by, due}
use Rattle.line.proofs.Tests.{pick_true}
use Rattle.line.proofs.Counts.{top, is_known, known_is, known_beyond, count_none, count_known}

-- ---- the boards 1 to i

-- f for the boards 1 to i, g for the others
abbrev pub up_to : {A : Type 0} → ℕ → (ℕ → A) → (ℕ → A) → ℕ → A
up_to i f g k = pick (known i k) (f k) (g k)

-- just these boards
abbrev pub first_of : ℕ → ℕ → Bool
first_of i = up_to i (λ k. true) (λ k. false)

-- one board more
known_next : (i k : ℕ) → (k ≡ suc i → ⊥) → known (suc i) k ≡ known i k
known_next i k ne = ap (λ (c : Bool). ltb 0 k && c) (go (leb k i) (leb-true k i) (leb-false k i))
  where
    go : (c : Bool) → (c ≡ true → k ≤ i) → (c ≡ false → i < k) → leb k (suc i) ≡ c
    go true h l = let low = h refl in le-leb k (suc i) (omega arith)
    go false h l = let high = l refl in lt-leb k (suc i) (omega arith)

pub up_to_next : {A : Type 0} (i : ℕ) (f g : ℕ → A) (k : ℕ) → set_at (up_to i f g) (suc i) (f (suc i)) k ≡ up_to (suc i) f g k
unfolding pick
up_to_next i f g k = elim (ℕ_discrete k (suc i)) [
  | yes e ↦ subst (λ a. set_at (up_to i f g) (suc i) (f (suc i)) a ≡ up_to (suc i) f g a) (sym e)
      (pick_true (eqb (suc i) (suc i)) (f (suc i)) (up_to i f g (suc i)) (eqb_refl (suc i))
      ∙ sym (pick_true (known (suc i) (suc i)) (f (suc i)) (g (suc i)) (is_known (top {n = i}))))
  | no ne ↦ rw (ne_eqb k (suc i) ne, known_next i k ne)
]

pub up_to_none : {A : Type 0} (f g : ℕ → A) (k : ℕ) → g k ≡ up_to 0 f g k
unfolding pick
up_to_none f g zero = refl
up_to_none f g (suc k) = rw (known_beyond 0 (suc k) (omega arith))

pub first_beyond : (i : ℕ) → first_of i (suc i) ≡ false
unfolding pick
first_beyond i = rw (known_beyond i (suc i) (omega arith))

-- ---- n - t of them

pub and_false : (c : Bool) → (c && false) ≡ false
and_false true = refl
and_false false = refl

module _ (n t : ℕ) (third : 3 * t < n) where
  -- n - t is not 0
  pub none_enough : leb (n - t) 0 ≡ false
  none_enough = lt-leb (n - t) 0 (omega arith)

  -- a vote is due by echoes alone
  pub due_echo : (a : ℕ) → due_by n t (suc a) 0 ≡ leb (n - t) (suc a)
  unfolding due_by
  due_echo a = rw (lt-leb (some_boards t) 0 (omega arith)) (or_false (leb (n - t) (suc a)))

  pub said_echo : (a : ℕ) → (leb (n - t) a || due_by n t (suc a) 0) ≡ leb (n - t) (suc a)
  said_echo a = ap (λ (c : Bool). leb (n - t) a || c) (due_echo a) ∙ go (leb (n - t) a) (leb-true (n - t) a)
    where
      go : (c : Bool) → (c ≡ true → n - t ≤ a) → (c || leb (n - t) (suc a)) ≡ leb (n - t) (suc a)
      go true h = let few = h refl in sym (le-leb (n - t) (suc a) (omega arith))
      go false h = refl

  -- by one echo only
  pub no_vote : (i : ℕ) → (i ≡ n - t - 1 → ⊥) → (not (leb (n - t) i) && leb (n - t) (suc i)) ≡ false
  no_vote i ne = elim (dec_lt i (n - t)) [
    | yes l ↦ rw (lt-leb (n - t) (suc i) (omega arith)) (and_false (not (leb (n - t) i)))
    | no l ↦ rw (le-leb (n - t) i (omega arith))
  ]

-- ---- what is kept of them

-- of echoes, of votes
abbrev pub each : {D : Type 0} → D → D → Word → D
each a b echo = a
each a b vote = b

-- board i echoes u i, and all vote for v; r is what stands where nothing was kept yet
module _ {Val : Type 0} (u : ℕ → Val) (v : Val) (r : ℕ → Val) where
  -- the echoes of the boards 1 to a and the votes of the boards 1 to b are kept; said: whether the board itself has voted
  abbrev pub cores : ℕ → ℕ → Bool → Core Val
  cores a b said = record { spoke = each true said; set = each (first_of a) (first_of b); val = each (up_to a u r) (up_to b (λ k. v) r) }

  -- a send was taken, and nothing is kept yet
  pub no_cores : (said : Bool) → said ≡ false → record { spoke = set_word (λ w. false) echo true; set = λ w k. false; val = λ w k. r k } ≡ cores 0 0 said
  no_cores said quiet = λ x. record { spoke = λ w. speaks w x; set = λ w k. sets w k x; val = λ w k. vals w k x }
    where
      speaks : (w : Word) → set_word (λ w. false) echo true w ≡ each true said w
      speaks echo = refl
      speaks vote = sym quiet

      sets : (w : Word) (k : ℕ) → false ≡ each (first_of 0) (first_of 0) w k
      sets echo k = up_to_none (λ k. true) (λ k. false) k
      sets vote k = up_to_none (λ k. true) (λ k. false) k

      vals : (w : Word) (k : ℕ) → r k ≡ each (up_to 0 u r) (up_to 0 (λ k. v) r) w k
      vals echo k = up_to_none u r k
      vals vote k = up_to_none (λ k. v) r k

  -- one echo more, one vote more
  pub keep_echo : (a b : ℕ) (said : Bool) → keep (cores a b said) echo (suc a) (u (suc a)) ≡ cores (suc a) b said
  keep_echo a b said = λ x. record { spoke = each true said; set = λ w k. sets w k x; val = λ w k. vals w k x }
    where
      sets : (w : Word) (k : ℕ) → (keep (cores a b said) echo (suc a) (u (suc a))).set w k ≡ (cores (suc a) b said).set w k
      sets echo k = up_to_next a (λ k. true) (λ k. false) k
      sets vote k = refl

      vals : (w : Word) (k : ℕ) → (keep (cores a b said) echo (suc a) (u (suc a))).val w k ≡ (cores (suc a) b said).val w k
      vals echo k = up_to_next a u r k
      vals vote k = refl

  pub keep_vote : (a b : ℕ) (said : Bool) → keep (cores a b said) vote (suc b) v ≡ cores a (suc b) said
  keep_vote a b said = λ x. record { spoke = each true said; set = λ w k. sets w k x; val = λ w k. vals w k x }
    where
      sets : (w : Word) (k : ℕ) → (keep (cores a b said) vote (suc b) v).set w k ≡ (cores a (suc b) said).set w k
      sets echo k = refl
      sets vote k = up_to_next b (λ k. true) (λ k. false) k

      vals : (w : Word) (k : ℕ) → (keep (cores a b said) vote (suc b) v).val w k ≡ (cores a (suc b) said).val w k
      vals echo k = refl
      vals vote k = up_to_next b (λ k. v) r k

-- ---- how many of them name a value

module _ {Val : Type 0} (same : Val → Val → Bool) (v : Val) (r : ℕ → Val) where
  -- the first i do
  abbrev Named : ℕ → (ℕ → Val) → Type 0
  Named i f = (k : ℕ) → Board i k → same (f k) v ≡ true

  pub naming : (f : ℕ → Val) (i k : ℕ) → Named i f → (first_of i k && same (up_to i f r k) v) ≡ known i k
  unfolding pick
  naming f i k names = go (known i k) (λ e. names k (known_is (holds (known i k) e)))
    where
      go : (c : Bool) → (c ≡ true → same (f k) v ≡ true) → (pick c true false && same (pick c (f k) (r k)) v) ≡ c
      go true h = h refl
      go false h = refl

  pub naming_count : (f : ℕ → Val) (i n : ℕ) → i ≤ n → Named i f → count (λ k. first_of i k && same (up_to i f r k) v) n ≡ i
  naming_count f i n h names =
      let least : min i n ≡ i = omega arith in
      ap (λ (p : ℕ → Bool). count p n) (λ x k. naming f i k names x) ∙ count_known i n ∙ least

  module _ (u : ℕ → Val) (n t a b : ℕ) (said : Bool) (lb : b ≤ n) (same_v : same v v ≡ true) where
    pub due_is : a ≤ n → Named a u → due n t same (cores u v r a b said) v ≡ due_by n t a b
    due_is la names = λ x. due_by n t (naming_count u a n la names x) (naming_count (λ k. v) b n lb (λ k c. same_v) x)

    pub quorum_is : quorum n t same (cores u v r a b said) v ≡ leb (n - t) b
    quorum_is = λ x. leb (n - t) (naming_count (λ k. v) b n lb (λ k c. same_v) x)

-- no votes are no quorum, whatever the value
pub no_quorum : {Val : Type 0} (same : Val → Val → Bool) (n t : ℕ) (u : ℕ → Val) (v : Val) (r : ℕ → Val) (a : ℕ) (said : Bool) (x : Val)
    → quorum n t same (cores u v r a 0 said) x ≡ leb (n - t) 0
no_quorum same n t u v r a said x =
    ap (λ (p : ℕ → Bool). leb (n - t) (count p n)) (λ y k. sym (up_to_none (λ k. true) (λ k. false) k) y && same (up_to 0 (λ k. v) r k) x)
    ∙ ap (λ (c : ℕ). leb (n - t) c) (count_none n)
