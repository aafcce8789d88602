-- What a board's bytes say of echoes and votes, over whatever is voted on: flags, two sets as numbers, and what each board's echo or vote names. It is
-- read only where it was kept, so what the buffer held before, and what lies beyond board n, is not seen.
use Prim.Native.Nat.{ℕ, zero, suc, ◌+◌, ◌-◌, ◌^◌, ◌≤◌}
use native.Mathlib.Omega.{arith}
use mathlib.Core.Bool.{Bool, true, false, ◌&&◌, ◌||◌}
use mathlib.Core.Path.{◌≡◌, refl, ap, ◌∙◌}
use mathlib.Core.List.{List, []}
use lib.Bits.{bit_or}
use lib.Count.{ones}
use lib.Dec.{T, leb}
use Rattle.octets.specs.Bytes.{pick, same}
use Rattle.octets.specs.Sets.{has}
use Rattle.octets.proofs.Members.{has_none}
use Rattle.state.specs.Kept.{member, masked}
use Rattle.state.specs.Sound.{naming}
use Rattle.state.proofs.Masks.{member_add, masked_same, masked_add}
use Rattle.line.specs.Boards.{count}
use Rattle.line.specs.Core.{Word, echo, vote, Core, set_at, set_word, keep, named_by, due_by, due, quorum}
use Rattle.line.proofs.Sets.{ones_set_of}
use Rattle.line.proofs.Tests.{off}

-- a board's number, and its place in a set
pub member_before : (set i : ℕ) → 1 ≤ i → member set i ≡ has set (i - 1)
unfolding member
member_before set zero h = absurd (omega arith)
member_before set (suc i) h = ap (has set) (let z : i ≡ suc i - 1 = omega arith in z)

-- ---- sets that name a value

-- the boards of a set that name r, where what they name was kept
abbrev pub naming_in : ℕ → ℕ → (ℕ → List ℕ) → List ℕ → ℕ → Bool
naming_in set kept root r i = member set i && same (masked kept root i) r

module _ (set kept : ℕ) (root : ℕ → List ℕ) (r : List ℕ) (inside : (i : ℕ) → has set i ≡ true → has kept i ≡ true) where
  pub named_at : (i : ℕ) → naming_in set kept root r (suc i) ≡ (has set i && same (root i) r)
  unfolding member pick
  named_at i = go (has set i) (has kept i) (inside i)
    where
      go : (c d : Bool) → (c ≡ true → d ≡ true) → (c && same (pick d (root (suc i - 1)) []) r) ≡ (c && same (root i) r)
      go true d h = let z : suc i - 1 ≡ i = omega arith in rw (h refl, z)
      go false d h = refl

  -- "a quorum is a number of ones in such a set"
  pub tally : (n : ℕ) → ones (naming n set root r) ≡ count (naming_in set kept root r) n
  unfolding naming
  tally n = ones_set_of (λ i. has set i && same (root i) r) (naming_in set kept root r) 0 n
      (λ i. named_at i ∙ ap (λ (x : ℕ). has set x && same (root x) r) (let z : i ≡ 0 + i = omega arith in z))

-- ---- the echoes and votes that bytes show

-- spoke: whether the board has acquired, has voted; set: the boards whose echo, whose vote was kept; kept w i: what board i + 1's names
abbrev pub core_by : (Word → Bool) → (Word → ℕ) → (Word → ℕ → List ℕ) → Core (List ℕ)
core_by spoke set kept = record { spoke = spoke; set = λ w. member (set w); val = λ w. masked (set w) (kept w) }

module _ (n t : ℕ) (spoke : Word → Bool) (set : Word → ℕ) (kept : Word → ℕ → List ℕ) (v : List ℕ) where
  -- how many boards' echoes, votes name v
  abbrev pub many_by : Word → ℕ
  many_by w = ones (naming n (set w) (kept w) v)

  counted : (w : Word) → many_by w ≡ count (named_by same (core_by spoke set kept) w v) n
  counted w = tally (set w) (set w) (kept w) v (λ i h. h) n

  -- whether a vote is due; whether votes have won
  pub due_by_lem : (leb (n - t) (many_by echo) || leb (t + 1) (many_by vote)) ≡ due n t same (core_by spoke set kept) v
  unfolding due_by
  due_by_lem = rw (counted echo, counted vote)

  pub won_by : leb (n - t) (many_by vote) ≡ quorum n t same (core_by spoke set kept) v
  won_by = rw (counted vote)

-- ---- nothing was kept yet

pub member_none : (k : ℕ) → member 0 k ≡ false
unfolding member
member_none zero = refl
member_none (suc k) = has_none k

pub masked_none : (f : ℕ → List ℕ) (k : ℕ) → masked 0 f k ≡ []
unfolding pick
masked_none f k = ap (λ (c : Bool). pick c (f (k - 1)) []) (member_none k)

pub no_core : (spoke : Word → Bool) (set : Word → ℕ) (kept : Word → ℕ → List ℕ) → ((w : Word) → spoke w ≡ false) → ((w : Word) → set w ≡ 0)
    → core_by spoke set kept ≡ record { spoke = λ w. false; set = λ w i. false; val = λ w i. [] }
no_core spoke set kept quiet empty = λ x. record { spoke = λ w. quiet w x; set = λ w k. sets w k x; val = λ w k. vals w k x }
  where
    sets : (w : Word) (k : ℕ) → member (set w) k ≡ false
    sets w k = ap (λ (y : ℕ). member y k) (empty w) ∙ member_none k

    vals : (w : Word) (k : ℕ) → masked (set w) (kept w) k ≡ []
    vals w k = ap (λ (y : ℕ). masked y (kept w) k) (empty w) ∙ masked_none (kept w) k

-- ---- the echo or vote of board i + 1, which names v, is kept

module _ (spoke spoke' : Word → Bool) (set set' : Word → ℕ) (kept kept' : Word → ℕ → List ℕ) (w : Word) (i : ℕ) (v : List ℕ) where
  pub keep_core : ((u : Word) → spoke' u ≡ spoke u) → ((u : Word) → set' u ≡ set_word set w (bit_or (set w) (2 ^ i)) u) → kept' w i ≡ v
      → ((u : Word) (j : ℕ) → T (member (set u) (suc j)) → (u ≡ w → j ≡ i → ⊥) → kept' u j ≡ kept u j)
      → core_by spoke' set' kept' ≡ keep (core_by spoke set kept) w (suc i) v
  keep_core words sets new old = λ x. record { spoke = λ u. words u x; set = λ u k. heard w u k (sets u) x; val = λ u k. named w u k (sets u) new old x }
    where
      heard : (w u : Word) (k : ℕ) → set' u ≡ set_word set w (bit_or (set w) (2 ^ i)) u
          → member (set' u) k ≡ set_word (λ y. member (set y)) w (set_at (member (set w)) (suc i) true) u k
      heard echo echo k e = ap (λ (y : ℕ). member y k) e ∙ member_add (set echo) i k
      heard echo vote k e = ap (λ (y : ℕ). member y k) e
      heard vote echo k e = ap (λ (y : ℕ). member y k) e
      heard vote vote k e = ap (λ (y : ℕ). member y k) e ∙ member_add (set vote) i k

      named : (w u : Word) (k : ℕ) → set' u ≡ set_word set w (bit_or (set w) (2 ^ i)) u → kept' w i ≡ v
          → ((u : Word) (j : ℕ) → T (member (set u) (suc j)) → (u ≡ w → j ≡ i → ⊥) → kept' u j ≡ kept u j)
          → masked (set' u) (kept' u) k ≡ set_word (λ y. masked (set y) (kept y)) w (set_at (masked (set w) (kept w)) (suc i) v) u k
      named echo echo k e n o = ap (λ (y : ℕ). masked y (kept' echo) k) e
          ∙ masked_add (set echo) i v (kept echo) (kept' echo) n (λ j t ne. o echo j t (λ q. ne)) k
      named vote vote k e n o = ap (λ (y : ℕ). masked y (kept' vote) k) e
          ∙ masked_add (set vote) i v (kept vote) (kept' vote) n (λ j t ne. o vote j t (λ q. ne)) k
      named echo vote k e n o = ap (λ (y : ℕ). masked y (kept' vote) k) e
          ∙ masked_same (set vote) (kept vote) (kept' vote) (λ j t. o vote j t (λ q. off (cc))) k
      named vote echo k e n o = ap (λ (y : ℕ). masked y (kept' echo) k) e
          ∙ masked_same (set echo) (kept echo) (kept' echo) (λ j t. o echo j t (λ q. off (cc))) k
