-- Soundness looks at nothing beyond the first 4,608 bytes: the fragment bytes play no part in it.
use mathlib.Core.Path.{◌≡◌, refl, ap, ◌∙◌}
use Prim.Native.Nat.{ℕ, ◌+◌, ◌≤◌, ◌<◌}
use mathlib.Core.List.{List}
use mathlib.Core.Bool.{Bool, true, false, not, ◌&&◌}
use native.Mathlib.Omega.{arith}
use lib.Count.{ones}
use lib.Dec.{leb, eqb}
use lib.ListN.{length, get_or}
use Rattle.octets.specs.Bytes.{part, same, eight_at}
use Rattle.octets.specs.Sets.{has}
use Rattle.table.specs.Table.{limits, most_of, some_of}
use Rattle.table.specs.declared.Table.{Table}
use Rattle.table.proofs.Within.{within}
use Rattle.state.specs.State.{fixed_bytes, table_of, own_of, marks_of, view, view_of, flag, len_at, echo_at, vote_at}
use Rattle.state.specs.Sound.{usable_ok, length_ok, board_ok, naming, reaches, waits_at, waits, quiet, sound}
use Rattle.state.specs.declared.Marks.{Marks}
use Rattle.octets.proofs.Members.{set_of_ext, every_ext, some_ext, two_ext, eight_ext, part_ext}

-- roots that agree below n
module _ (n set : ℕ) (f g : ℕ → List ℕ) (roots : (i : ℕ) → i < n → f i ≡ g i) where
  pub naming_ext : (r : List ℕ) → naming n set f r ≡ naming n set g r
  unfolding naming
  naming_ext r =
      set_of_ext (λ i. has set i && same (f i) r) (λ i. has set i && same (g i) r) 0 n
      (λ i h. ap (λ (x : List ℕ). has set i && same x r) (roots i (omega arith)))

  pub reaches_ext : (q : ℕ) → reaches n q set f ≡ reaches n q set g
  unfolding reaches
  reaches_ext q =
      some_ext (λ i. has set i && leb q (ones (naming n set f (f i)))) (λ i. has set i && leb q (ones (naming n set g (g i)))) 0 n
      (λ i h.
      ap (λ (x : ℕ). has set i && leb q (ones x)) (naming_ext (f i))
      ∙ ap (λ (x : List ℕ). has set i && leb q (ones (naming n set g x))) (roots i (omega arith)))

module _ (s t : List ℕ) (long : fixed_bytes ≤ length s) (long' : fixed_bytes ≤ length t) (first : (i : ℕ) → i < fixed_bytes → get_or s i 0 ≡ get_or t i 0) where
  echo_first : (i : ℕ) → i < 64 → part (echo_at i) 32 s ≡ part (echo_at i) 32 t
  echo_first i h = part_ext s t fixed_bytes first (echo_at i) 32 (omega arith) long long'

  vote_first : (i : ℕ) → i < 64 → part (vote_at i) 32 s ≡ part (vote_at i) 32 t
  vote_first i h = part_ext s t fixed_bytes first (vote_at i) 32 (omega arith) long long'

  table_first : table_of s ≡ table_of t
  unfolding table_of
  table_first = rw (first 0 (omega arith), first 1 (omega arith), first 2 (omega arith), two_ext s t fixed_bytes first 4 (omega arith))

  own_first : own_of s ≡ own_of t
  unfolding own_of
  own_first = first 3 (omega arith)

  marks_first : marks_of s ≡ marks_of t
  unfolding marks_of
  marks_first =
      let o : (i : ℕ) → i < fixed_bytes → flag s i ≡ flag t i = λ i h. ap (λ (x : ℕ). not (eqb x 0)) (first i h) in
      let e : (a : ℕ) → a + 8 ≤ fixed_bytes → eight_at s a ≡ eight_at t a = eight_ext s t fixed_bytes first in
      λ j. record {
        acquired = o 6 (omega arith) j;
        voted = o 7 (omega arith) j;
        output = o 8 (omega arith) j;
        done = o 9 (omega arith) j;
        echoes = e 10 (omega arith) j;
        usable = e 18 (omega arith) j;
        votes = e 26 (omega arith) j;
      }

  module _ (b : Table) (m : Marks) (few : b.n ≤ 64) where
    board_first : (i : ℕ) → i < 64 → board_ok (view_of b m s) i ≡ board_ok (view_of b m t) i
    unfolding board_ok usable_ok length_ok
    board_first i h = rw (two_ext s t fixed_bytes first (len_at i) (omega arith))

    waits_first : waits (view_of b m s) ≡ waits (view_of b m t)
    unfolding waits waits_at
    waits_first =
        some_ext (waits_at (view_of b m s)) (waits_at (view_of b m t)) 0 b.n
        (λ i h.
        rw (
          vote_first i (omega arith),
          naming_ext b.n m.votes (λ j. part (vote_at j) 32 s) (λ j. part (vote_at j) 32 t) (λ j l. vote_first j (omega arith)) (part (vote_at i) 32 t),
          naming_ext b.n m.usable (λ j. part (echo_at j) 32 s) (λ j. part (echo_at j) 32 t) (λ j l. echo_first j (omega arith)) (part (vote_at i) 32 t),
        ))

    quiet_first : quiet (view_of b m s) ≡ quiet (view_of b m t)
    unfolding quiet
    quiet_first =
        rw (
          waits_first,
          reaches_ext b.n m.votes (λ j. part (vote_at j) 32 s) (λ j. part (vote_at j) 32 t) (λ j l. vote_first j (omega arith)) (most_of b),
          reaches_ext b.n m.echoes (λ j. part (echo_at j) 32 s) (λ j. part (echo_at j) 32 t) (λ j l. echo_first j (omega arith)) (most_of b),
          reaches_ext b.n m.votes (λ j. part (vote_at j) 32 s) (λ j. part (vote_at j) 32 t) (λ j l. vote_first j (omega arith)) (some_of b),
        )

  by_limits : (b : Table) (m : Marks) (c : Bool) → limits b ≡ c → sound (view_of b m s) ≡ sound (view_of b m t)
  unfolding sound
  by_limits b m false e = rw e
  by_limits b m true e =
      let few = (within b e).few in
      rw (every_ext (board_ok (view_of b m s)) (board_ok (view_of b m t)) 0 64 (λ i h. board_first b m few i (omega arith)), quiet_first b m few, own_first)

  -- two buffers with the same first 4,608 bytes are both sound or both not
  pub sound_first : sound (view s) ≡ sound (view t)
  sound_first = rw (table_first, marks_first) (by_limits (table_of t) (marks_of t) (limits (table_of t)) refl)
