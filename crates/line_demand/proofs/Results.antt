-- What is delivered, and the strings hashed for it: the same on the bytes as on the state that they show.
use Prim.Native.Nat.{ℕ, suc, ◌≤◌}
use native.Mathlib.Omega.{arith}
use mathlib.Core.Bool.{Bool, true, false}
use mathlib.Core.Path.{◌≡◌, refl, ap, ◌∙◌}
use mathlib.Core.List.Memᴰ
use mathlib.Core.List.{List, Memᴰ}
use mathlib.Core.Option.{Option, some, none}
use lib.ListN.{length, take}
use Rattle.octets.specs.Bytes.{pick, part}
use Rattle.octets.specs.Sets.{has}
use Rattle.octets.proofs.Frame.{part_in}
use Rattle.octets.proofs.Picks.{and_r}
use Rattle.octets.proofs.Sames.{same_self}
use Rattle.table.specs.Table.{limits, k_of, s_max}
use Rattle.table.specs.declared.Table.{Table}
use Rattle.tree.specs.Tree as Tree
use Rattle.tree.specs.Strings.{tree_strings}
use Rattle.code_encode.specs.Message.{fragment_for}
use Rattle.code_through.specs.Through.{marks}
use Rattle.deliver.specs.Delivered.{read_from, afresh, result_from, result_of, left_by}
use Rattle.deliver.proofs.Results.{result_same, result_root}
use Rattle.state.specs.Kept.{member, masked}
use Rattle.state.specs.State.{echo_at}
use Rattle.state.specs.declared.Marks.{Marks}
use Rattle.board.specs.Stepped.{output_now, won, enough_usable, ends_now}
use Rattle.board_step.specs.Step.{usable_for, kept_of, delivered}
use Rattle.board_step.specs.Step as Step
use Rattle.board_step.proofs.Due.{usable_few, usable_in_lem, usable_enough}
use Rattle.line_fragments.specs.Step.{Line}
use Rattle.line_fragments.specs.Step as Fragments
use Rattle.line_code.specs.Parts.{bits_of, encoding_strings, fresh_strings, code_of, line_of}
use Rattle.line_code.proofs.Results.{fresh_coded}
use Rattle.line_demand.specs.Boards.{delivered_in}
use Rattle.line_demand.proofs.Shown.{fragment_in, usable_in, bits}
use Rattle.line_demand.proofs.Settled.{half, ends_is}

-- ---- a delivery, as the answer tells it

pub given_is : (e : Bool) (x : Option (List ℕ)) (d : List ℕ) → ((y : List ℕ) → x ≡ some y → length y ≤ length d)
    → delivered_in (delivered e x d).kind (delivered e x d).size (delivered e x d).buffer ≡ pick e (some x) none
unfolding delivered left_by pick
given_is false x d h = refl
given_is true none d h = refl
given_is true (some y) d h = ap (λ (z : List ℕ). some (some z)) (part_in 0 y d (omega (arith, h y refl)))

-- ---- the message of a fresh encoding is the result under its own root

fresh_why : (b : Table) (set : ℕ) (F : ℕ → List ℕ) (y : List ℕ) → Memᴰ y (fresh_strings b set F)
    → (m : List ℕ) × (result_of b (Tree.root_of b.n (fragment_for b m)) set F ≡ some m) × Memᴰ y (tree_strings b.n (fragment_for b m))
unfolding fresh_strings encoding_strings result_of result_from afresh pick
fresh_why b set F y h = go (read_from b xs F) refl h
  where
    xs : List ℕ
    xs = take (k_of b) (marks 1 b.n set)

    go : (o : Option (List ℕ)) → read_from b xs F ≡ o → Memᴰ y (encoding_strings b o)
        → (m : List ℕ) × (result_of b (Tree.root_of b.n (fragment_for b m)) set F ≡ some m) × Memᴰ y (tree_strings b.n (fragment_for b m))
    go none e q = absurd (Memᴰ.not-nil q)
    go (some m) e q = (m, rw (e, same_self (Tree.root_of b.n (fragment_for b m))), q)

-- ---- marks m and bytes s, once a record that names root is kept

module _ (b : Table) (own : ℕ) (m : Marks) (s root : List ℕ) (inside : (i : ℕ) → has m.usable i ≡ true → has m.echoes i ≡ true) where
  abbrev B : Line b.n b.t (code_of b)
  B = line_of b

  abbrev U : ℕ → Bool
  U = usable_in b m s root inside

  abbrev F : ℕ → List ℕ
  F = masked m.echoes (fragment_in (s_max b) s)

  set_is : usable_for b m s root ≡ bits_of b.n U
  unfolding usable_for
  set_is = bits m.usable m.echoes (λ j. part (echo_at j) 32 s) root inside b.n

  fragment_same : (i : ℕ) → has m.echoes i ≡ true → kept_of (s_max b) s (suc i) ≡ F (suc i)
  unfolding kept_of member pick
  fragment_same i h = rw h

  -- only the fragments of usable echoes count
  result_is : limits b ≡ true → enough_usable b m s root ≡ true → (v : List ℕ)
      → result_of b v (usable_for b m s root) (kept_of (s_max b) s) ≡ result_of b v (bits_of b.n U) F
  result_is lim e v =
      result_same b (usable_for b m s root) lim (usable_few b m s root) (usable_enough b m s root e) v (kept_of (s_max b) s) F
      (λ i l h. fragment_same i (inside i (usable_in_lem b m s root i l h)))
      ∙ ap (λ (x : ℕ). result_of b v x F) set_is

  enough_now : ends_now b true m s root ≡ true → enough_usable b m s root ≡ true
  unfolding ends_now
  enough_now e = and_r (won b m s root) (enough_usable b m s root) (and_r (output_now b true m s root) _ e)

  pub given_half : limits b ≡ true → pick (ends_now b true m s root) (some (Step.result_in b m s root)) none ≡ Fragments.result_at B (half b own m s root inside) root
  unfolding Step.result_in pick
  given_half lim = go (ends_now b true m s root) refl ∙ ap (λ (c : Bool). pick c (some (result_of b root (bits_of b.n U) F)) none) (ends_is b own m s root inside)
    where
      go : (c : Bool) → ends_now b true m s root ≡ c
          → pick c (some (result_of b root (usable_for b m s root) (kept_of (s_max b) s))) none ≡ pick c (some (result_of b root (bits_of b.n U) F)) none
      go true e = ap some (result_is lim (enough_now e) root)
      go false e = refl

  pub message_fits : limits b ≡ true → (y : List ℕ) → Step.result_in b m s root ≡ some y → length y ≤ b.longest
  unfolding Step.result_in
  message_fits lim y e = (result_root b root (usable_for b m s root) (kept_of (s_max b) s) y e lim).0

  -- a string of the fresh encoding is one of the bytes' fresh encoding
  pub fresh_half : limits b ≡ true → ends_now b true m s root ≡ true → (y : List ℕ)
      → Memᴰ y (fresh_strings b (bits_of b.n U) F) → Memᴰ y (fresh_strings b (usable_for b m s root) (kept_of (s_max b) s))
  fresh_half lim e y h =
      let (x, q, z) = fresh_why b (bits_of b.n U) F y h in
      let v = Tree.root_of b.n (fragment_for b x) in
      fresh_coded b v (usable_for b m s root) (kept_of (s_max b) s) x y (result_is lim (enough_now e) v ∙ q) z
