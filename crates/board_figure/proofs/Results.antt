-- What figure 5's party outputs is one thing, and it is what the step delivers from the fragments of the boards with a usable echo.
use mathlib.Core.Path.{◌≡◌, refl, sym, ap, subst, ◌∙◌}
use Prim.Native.Nat.{ℕ, zero, suc, ◌-◌, ◌/◌, ◌^◌, ◌≤◌, ◌<◌}
use mathlib.Core.List.{List, [], ◌∷◌}
use mathlib.Core.Bool.{Bool, true, false, ◌&&◌}
use mathlib.Core.Option.{Option, none, some}
use native.Mathlib.Omega.{arith}
use native.Mathlib.Nat.{div-eq_of_lt}
use borrow.Author.Tests.{eqb-false}
use lib.Count.{ones}
use lib.Dec.{eqb}
use lib.ListN.{length, get_or}
use Rattle.octets.specs.Bytes.{pick, two_at, same}
use Rattle.octets.specs.Sets.{has}
use Rattle.octets.proofs.SetLaws.{set_of_lt}
use Rattle.octets.proofs.Sames.{same_equal, same_self}
use Rattle.octets.proofs.Picks.{never}
use Rattle.table.specs.Table.{limits, k_of, s_max}
use Rattle.table.specs.declared.Table.{Table}
use Rattle.table.proofs.Within.{Within, within, k_pos}
use Rattle.code.specs.Code.{All, Byte, Apart}
use Rattle.code.specs.Block.{readable, block_message}
use Rattle.code.proofs.Lists.{byte_at, part_bytes}
use Rattle.code_through.specs.Rebuild.{HasFragments}
use Rattle.code_through.specs.Through.{block_through}
use Rattle.code_through.proofs.Agree.{length_fragment, apart_first, bytes_first, length_first}
use Rattle.code_through.proofs.Interpolation.{through_rebuilds, rebuilds_through}
use Rattle.state.specs.State.{len_at, fragment_at}
use Rattle.state.specs.declared.Marks.{Marks}
use Rattle.deliver.specs.Delivered.{all_of_length, block_read, read_from, afresh, result_from, result_of}
use Rattle.deliver.proofs.Lengths.{lengths_at, at_lengths}
use Rattle.deliver.proofs.Results.{result_same}
use Rattle.board_step.specs.Step.{usable_for, kept_of, result_in}
use Rattle.board_step.proofs.Due.{usable_few, usable_in_lem}
use Rattle.board_figure.specs.Figure.{
  Echo,
  Figure,
  usables,
  usable_echo,
  echo_fragment,
  lowest,
  root_afresh,
  Output,
  message,
  other_root,
  unequal,
  unreadable,
  OutputFor,
}
use Rattle.board_figure.specs.Shown.{kept_echo, figure_in}
use Rattle.figure.specs.Received.{parties, shown}
use Rattle.figure.proofs.Counts.{clash, fails}
use Rattle.board_figure.proofs.Seen.{Heard, usables_seen}

-- fragments that do not all have len bytes: one has not
lengths_find : (len : ℕ) (xs : List ℕ) (f : ℕ → List ℕ) → all_of_length len xs f ≡ false → (j : ℕ) × (j < length xs) × (length (f (get_or xs j 0)) ≡ len → ⊥)
unfolding all_of_length
lengths_find len [] f e = never (sym e)
lengths_find len (x ∷ xs) f e = go (lengths_find len xs f) (eqb (length (f x)) len) refl e
  where
    go : (all_of_length len xs f ≡ false → (j : ℕ) × (j < length xs) × (length (f (get_or xs j 0)) ≡ len → ⊥))
        → (c : Bool) → eqb (length (f x)) len ≡ c → (c && all_of_length len xs f) ≡ false → (j : ℕ) × (j < suc (length xs)) × (length (f (get_or (x ∷ xs) j 0)) ≡ len → ⊥)
    go rest true q k = let (j, h, n) = rest k in (suc j, omega arith, n)
    go rest false q k = (0, omega arith, eqb-false (length (f x)) len q)

module _ (b : Table) (r I : List ℕ) (f : ℕ → List ℕ) (pos : 0 < k_of b) (size : length I ≡ k_of b) (apart : Apart I) (bytes : All Byte I) where
  -- the block d of len rows that has the fragments is the one through them
  module _ (len : ℕ) (d : List ℕ) (g : HasFragments (k_of b) len I f d) where
    even : (i : ℕ) → i < length I → length (f (get_or I i 0)) ≡ len
    even i h = ap length (sym (g.same i h)) ∙ length_fragment (k_of b) len pos d g.size (get_or I i 0)

    by_block : result_from b r I f ≡ afresh b r (block_read b d)
    unfolding result_from read_from pick
    by_block =
        let one : length (f (get_or I 0 0)) ≡ len = even 0 (omega arith) in
        let all : all_of_length len I f ≡ true = at_lengths len I f even in
        let it : block_through len I f ≡ d = rebuilds_through I f len d (omega arith) apart bytes (rw size g) in
        rw (one, all, it)

  -- so what is output is one thing
  output_is : (m : Option (List ℕ)) → Output b r I f m → result_from b r I f ≡ m
  unfolding result_from read_from block_read afresh pick
  output_is m (message len d g e q) = by_block len d g ∙ rw (e, q, same_self r)
  output_is m (other_root len d g e q) =
      let n : same (root_afresh b d) r ≡ false = fails _ (λ z. q (same_equal _ r z)) in
      by_block len d g ∙ rw (e, n)
  output_is m (unequal i j h k n) =
      let len = length (f (get_or I 0 0)) in
      let e : all_of_length len I f ≡ false = fails _ (λ y. n (lengths_at len I f y i h ∙ sym (lengths_at len I f y j k))) in
      rw e
  output_is m (unreadable len d g e) = by_block len d g ∙ rw e

  -- read from the block through them
  module _ (len : ℕ) (g : HasFragments (k_of b) len I f (block_through len I f)) where
    by_root : readable (k_of b) b.longest (block_through len I f) ≡ true → (e : Bool) → same (root_afresh b (block_through len I f)) r ≡ e
        → Output b r I f (pick e (some (block_message (block_through len I f))) none)
    unfolding pick
    by_root h true k = message len (block_through len I f) g h (same_equal _ r k)
    by_root h false k = other_root len (block_through len I f) g h (λ q. clash _ (rw q (same_self r)) k)

    read_out : (c : Bool) → readable (k_of b) b.longest (block_through len I f) ≡ c
        → Output b r I f (afresh b r (pick c (some (block_message (block_through len I f))) none))
    unfolding afresh pick
    read_out true h = by_root h _ refl
    read_out false h = unreadable len (block_through len I f) g h

  -- and there is one, where the fragments are bytes
  output_there : ((x d : ℕ) → get_or (f x) d 0 < 256) → Output b r I f (result_from b r I f)
  unfolding result_from read_from block_read afresh pick
  output_there small = go (all_of_length (length (f (get_or I 0 0))) I f) refl
    where
      go : (c : Bool) → all_of_length (length (f (get_or I 0 0))) I f ≡ c → Output b r I f (afresh b r (pick c (block_read b (block_through (length (f (get_or I 0 0))) I f)) none))
      go true e =
          let len = length (f (get_or I 0 0)) in
          read_out len (rw size at (through_rebuilds I f len (omega arith) apart bytes small (lengths_at len I f e))) _ refl
      go false e = let (j, h, n) = lengths_find (length (f (get_or I 0 0))) I f e in unequal j 0 h (omega arith) n

-- ---- from the usable echoes for r

module _ (b : Table) (lim : limits b ≡ true) (x : Figure) (r : List ℕ) (enough : k_of b ≤ ones (usables b x r)) where
  abbrev w : Within b
  w = within b lim

  few : usables b x r / 2 ^ b.n ≡ 0
  unfolding parties
  few = div-eq_of_lt (set_of_lt (λ i. usable_echo r (x.echo_of (suc i))) 0 b.n)

  size_of : length (lowest b (usables b x r)) ≡ k_of b
  size_of = length_first b.n (k_of b) 0 0 (usables b x r) [] (k_pos b w) w.few few enough

  abbrev fragment : ℕ → List ℕ
  fragment i = echo_fragment (x.echo_of i)

  output_of : (m : Option (List ℕ)) → OutputFor b x r m → result_of b r (usables b x r) fragment ≡ m
  unfolding result_of
  output_of =
      output_is b r (lowest b (usables b x r)) fragment (k_pos b w) size_of (apart_first b.n (usables b x r) w.few (k_of b)) (bytes_first b.n (usables b x r) w.few (k_of b))

  -- figure 5 outputs one thing
  pub one_output : (m n : Option (List ℕ)) → OutputFor b x r m → OutputFor b x r n → m ≡ n
  one_output m n g h = sym (output_of m g) ∙ output_of n h

  some_output : ((i d : ℕ) → get_or (fragment i) d 0 < 256) → OutputFor b x r (result_of b r (usables b x r) fragment)
  unfolding result_of
  some_output =
      output_there b r (lowest b (usables b x r)) fragment (k_pos b w) size_of (apart_first b.n (usables b x r) w.few (k_of b)) (bytes_first b.n (usables b x r) w.few (k_of b))

-- ---- in a board's bytes

fragment_in : (max echoes usable : ℕ) (s : List ℕ) (i : ℕ) → has echoes i ≡ true
    → echo_fragment (shown echoes (kept_echo max usable s) (suc i)) ≡ kept_of max s (suc i)
unfolding echo_fragment shown kept_of pick
fragment_in max echoes usable s i e = let z : suc i - 1 ≡ i = omega arith in rw (z, e)

small_if : (c : Bool) (e : Echo) → All Byte e.fragment → (d : ℕ) → get_or (echo_fragment (pick c (some e) none)) d 0 < 256
unfolding echo_fragment pick
small_if true e h d = byte_at e.fragment h d
small_if false e h d = omega arith

fragment_small : (max echoes usable : ℕ) (s : List ℕ) → All Byte s → (i d : ℕ) → get_or (echo_fragment (shown echoes (kept_echo max usable s) i)) d 0 < 256
unfolding shown echo_fragment
fragment_small max echoes usable s h zero d = omega arith
fragment_small max echoes usable s h (suc i) d = small_if (has echoes i) (kept_echo max usable s i) (part_bytes (fragment_at max i) (two_at s (len_at i)) s h) d

module _ (b : Table) (m : Marks) (s : List ℕ) (lim : limits b ≡ true) (h : Heard b m) where
  -- what the step delivers is figure 5's output
  pub output_seen : All Byte s → (r : List ℕ) → k_of b ≤ ones (usable_for b m s r) → OutputFor b (figure_in b m s) r (result_in b m s r)
  unfolding result_in usable_for
  output_seen bytes r k =
      let x = figure_in b m s in
      let u : usables b x r ≡ usable_for b m s r = usables_seen b m s h r in
      let e : result_of b r (usables b x r) (λ i. echo_fragment (x.echo_of i)) ≡ result_in b m s r =
      ap (λ (v : ℕ). result_of b r v (λ i. echo_fragment (x.echo_of i))) u
      ∙ result_same b (usable_for b m s r) lim (usable_few b m s r) k r (λ i. echo_fragment (x.echo_of i)) (kept_of (s_max b) s)
      (λ i l q. fragment_in (s_max b) m.echoes m.usable s i (h i l (usable_in_lem b m s r i l q))) in
      subst (OutputFor b x r) e (some_output b lim x r (rw u k) (fragment_small (s_max b) m.echoes m.usable s bytes))
