-- Nothing is overdue once a step has done what is due.
use mathlib.Core.Path.{◌≡◌, refl, sym, ap}
use Prim.Native.Nat.{ℕ, ◌+◌, ◌≤◌, ◌<◌}
use mathlib.Core.List.{List}
use mathlib.Core.Bool.{Bool, true, false, not, ◌&&◌, ◌||◌}
use native.Mathlib.Omega.{arith}
use borrow.Author.Tests.{leb-true, leb-false, ltb-true, le-leb, lt-ltb, not-true}
use lib.Count.{ones}
use lib.Dec.{leb, ltb}
use Rattle.octets.specs.Bytes.{pick, part, same}
use Rattle.octets.specs.Sets.{has}
use Rattle.octets.proofs.Sames.{same_equal}
use Rattle.octets.proofs.Picks.{and_l, and_r, never}
use Rattle.table.specs.Table.{k_of, most_of, some_of}
use Rattle.table.specs.declared.Table.{Table}
use Rattle.table.proofs.Within.{Within}
use Rattle.state.specs.State.{view_of, echo_at, vote_at}
use Rattle.state.specs.Sound.{naming, reaches, waits_at, waits, quiet}
use Rattle.state.specs.declared.Marks.{Marks}
use Rattle.octets.proofs.Members.{some_at, some_find}
use Rattle.state.proofs.Tallies.{reaches_larger, naming_find}
use Rattle.board.specs.Stepped.{vote_due, won, enough_usable, voted_now, output_now, ends_now, with_flags, settled_to}

-- The flags: before they say that nothing is overdue; de, dv: n-t echoes, t+1 votes name the root just taken; w: n-t votes do;
-- n: k usable echoes do. w0, rv0, re0, rs0 are what waits or is reached before, w1, rv1, re1, rs1 after.
flags : (done output voted de dv w n w0 rv0 re0 rs0 w1 rv1 re1 rs1 : Bool) → done ≡ false
    → pick output (done || w0) (pick voted (not rv0) (not re0 && not rs0)) ≡ true
    → (w0 ≡ true → (w && n) ≡ false → w1 ≡ true)
    → (w ≡ true → n ≡ false → w1 ≡ true)
    → (rs0 ≡ false → rv0 ≡ false)
    → (rv0 ≡ false → w ≡ false → rv1 ≡ false)
    → (re0 ≡ false → de ≡ false → re1 ≡ false)
    → (rs0 ≡ false → dv ≡ false → rs1 ≡ false)
    → pick (output || (true && ((voted || (true && (de || dv))) && w)))
    ((done || (true && ((output || (true && ((voted || (true && (de || dv))) && w))) && (w && n)))) || w1)
    (pick (voted || (true && (de || dv))) (not rv1) (not re1 && not rs1)) ≡ true
unfolding pick
flags true o v de dv w n w0 rv0 re0 rs0 w1 rv1 re1 rs1 d h a b l e f g = never (sym d)
flags false true v de dv true true w0 rv0 re0 rs0 w1 rv1 re1 rs1 d h a b l e f g = refl
flags false true v de dv true false w0 rv0 re0 rs0 w1 rv1 re1 rs1 d h a b l e f g = a h refl
flags false true v de dv false n w0 rv0 re0 rs0 w1 rv1 re1 rs1 d h a b l e f g = a h refl
flags false false true de dv true true w0 rv0 re0 rs0 w1 rv1 re1 rs1 d h a b l e f g = refl
flags false false true de dv true false w0 rv0 re0 rs0 w1 rv1 re1 rs1 d h a b l e f g = b refl refl
flags false false true de dv false n w0 rv0 re0 rs0 w1 rv1 re1 rs1 d h a b l e f g = ap not (e (not-true rv0 h) refl)
flags false false false true dv true true w0 rv0 re0 rs0 w1 rv1 re1 rs1 d h a b l e f g = refl
flags false false false true dv true false w0 rv0 re0 rs0 w1 rv1 re1 rs1 d h a b l e f g = b refl refl
flags false false false true dv false n w0 rv0 re0 rs0 w1 rv1 re1 rs1 d h a b l e f g =
    ap not (e (l (not-true rs0 (and_r (not re0) (not rs0) h))) refl)
flags false false false false true true true w0 rv0 re0 rs0 w1 rv1 re1 rs1 d h a b l e f g = refl
flags false false false false true true false w0 rv0 re0 rs0 w1 rv1 re1 rs1 d h a b l e f g = b refl refl
flags false false false false true false n w0 rv0 re0 rs0 w1 rv1 re1 rs1 d h a b l e f g =
    ap not (e (l (not-true rs0 (and_r (not re0) (not rs0) h))) refl)
flags false false false false false w n w0 rv0 re0 rs0 w1 rv1 re1 rs1 d h a b l e f g =
    let p : re1 ≡ false = f (not-true re0 (and_l (not re0) (not rs0) h)) refl in
    let q : rs1 ≡ false = g (not-true rs0 (and_r (not re0) (not rs0) h)) refl in
    rw (p, q)

abbrev pub echo_roots_of : List ℕ → ℕ → List ℕ
echo_roots_of s j = part (echo_at j) 32 s

abbrev pub vote_roots_of : List ℕ → ℕ → List ℕ
vote_roots_of s j = part (vote_at j) 32 s

-- what an echo or a vote for a root changes: marks m0 and bytes s before, m and s1 after
pub record Change (b : Table) (m0 m : Marks) (s s1 root : List ℕ) : Type 0 where
  pub votes_none : (q : ℕ) → reaches b.n q m0.votes (vote_roots_of s) ≡ false → leb q (ones (naming b.n m.votes (vote_roots_of s1) root)) ≡ false
      → reaches b.n q m.votes (vote_roots_of s1) ≡ false
  pub echoes_none : (q : ℕ) → reaches b.n q m0.echoes (echo_roots_of s) ≡ false → leb q (ones (naming b.n m.echoes (echo_roots_of s1) root)) ≡ false
      → reaches b.n q m.echoes (echo_roots_of s1) ≡ false
  pub votes_more : (r : List ℕ) → ones (naming b.n m0.votes (vote_roots_of s) r) ≤ ones (naming b.n m.votes (vote_roots_of s1) r)
  pub usable_other : (r : List ℕ) → same root r ≡ false
      → naming b.n m.usable (echo_roots_of s1) r ≡ naming b.n m0.usable (echo_roots_of s) r
  pub vote_kept : (j : ℕ) → j < b.n → has m0.votes j ≡ true → (has m.votes j ≡ true) × (vote_roots_of s1 j ≡ vote_roots_of s j)

module _ (b : Table) (m0 m : Marks) (s s1 root : List ℕ) (w : Within b) (x : Change b m0 m s s1 root) where
  abbrev after : Marks
  after = settled_to b true m s1 root

  -- board j's vote is for a root that waits
  waits_by : (j : ℕ) (r : List ℕ) → j < b.n → has m.votes j ≡ true → vote_roots_of s1 j ≡ r
      → most_of b ≤ ones (naming b.n m.votes (vote_roots_of s1) r) → ones (naming b.n m.usable (echo_roots_of s1) r) < k_of b
      → waits (view_of b after s1) ≡ true
  unfolding waits waits_at settled_to with_flags
  waits_by j r h t e p q =
      some_at (waits_at (view_of b after s1)) 0 b.n j (omega arith) (omega arith)
      (rw (t, e, le-leb (most_of b) (ones (naming b.n m.votes (vote_roots_of s1) r)) p, lt-ltb (ones (naming b.n m.usable (echo_roots_of s1) r)) (k_of b) q))

  opens : won b m s1 root ≡ true → enough_usable b m s1 root ≡ false → waits (view_of b after s1) ≡ true
  unfolding won enough_usable
  opens p q =
      let most : most_of b ≤ ones (naming b.n m.votes (vote_roots_of s1) root) = leb-true (most_of b) (ones (naming b.n m.votes (vote_roots_of s1) root)) p in
      let few : ones (naming b.n m.usable (echo_roots_of s1) root) < k_of b = leb-false (k_of b) (ones (naming b.n m.usable (echo_roots_of s1) root)) q in
      let (j, h, t, e) = naming_find b.n m.votes (vote_roots_of s1) root (omega (arith, w.third)) in
      waits_by j root h t e most few

  few_of : (r : List ℕ) → most_of b ≤ ones (naming b.n m.votes (vote_roots_of s1) r) → root ≡ r → (won b m s1 root && enough_usable b m s1 root) ≡ false
      → ones (naming b.n m.usable (echo_roots_of s1) r) < k_of b
  unfolding won enough_usable
  few_of r p e h =
      let q : (leb (most_of b) (ones (naming b.n m.votes (vote_roots_of s1) r)) && leb (k_of b) (ones (naming b.n m.usable (echo_roots_of s1) r))) ≡ false = rw e at h in
      leb-false (k_of b) (ones (naming b.n m.usable (echo_roots_of s1) r)) (rw (le-leb (most_of b) (ones (naming b.n m.votes (vote_roots_of s1) r)) p) at q)

  stays : waits (view_of b m0 s) ≡ true → (won b m s1 root && enough_usable b m s1 root) ≡ false → waits (view_of b after s1) ≡ true
  unfolding waits waits_at
  stays h n = from (some_find (waits_at (view_of b m0 s)) 0 b.n h)
    where
      counted : (r : List ℕ) → most_of b ≤ ones (naming b.n m.votes (vote_roots_of s1) r) → ones (naming b.n m0.usable (echo_roots_of s) r) < k_of b
          → (c : Bool) → same root r ≡ c → ones (naming b.n m.usable (echo_roots_of s1) r) < k_of b
      counted r p q true e = few_of r p (same_equal root r e) n
      counted r p q false e = rw (x.usable_other r e) q

      from : ((j : ℕ) × (j < 0 + b.n) × (waits_at (view_of b m0 s) j ≡ true)) → waits (view_of b after s1) ≡ true
      from (j, l, t) =
          let r = vote_roots_of s j in
          let A = leb (most_of b) (ones (naming b.n m0.votes (vote_roots_of s) r)) in
          let B = ltb (ones (naming b.n m0.usable (echo_roots_of s) r)) (k_of b) in
          let heard : has m0.votes j ≡ true = and_l (has m0.votes j) (A && B) t in
          let rest : (A && B) ≡ true = and_r (has m0.votes j) (A && B) t in
          let most : most_of b ≤ ones (naming b.n m0.votes (vote_roots_of s) r) = leb-true (most_of b) (ones (naming b.n m0.votes (vote_roots_of s) r)) (and_l A B rest) in
          let few : ones (naming b.n m0.usable (echo_roots_of s) r) < k_of b = ltb-true (ones (naming b.n m0.usable (echo_roots_of s) r)) (k_of b) (and_r A B rest) in
          let more : most_of b ≤ ones (naming b.n m.votes (vote_roots_of s1) r) = omega (arith, x.votes_more r) in
          let k = x.vote_kept j (omega arith) heard in
          waits_by j r (omega arith) k.0 k.1 more (counted r more few (same root r) refl)

  -- so nothing is overdue after, if nothing was before
  pub calm : m.done ≡ false
      → pick m.output (m.done || waits (view_of b m0 s))
      (pick m.voted (not (reaches b.n (most_of b) m0.votes (vote_roots_of s)))
      (not (reaches b.n (most_of b) m0.echoes (echo_roots_of s)) && not (reaches b.n (some_of b) m0.votes (vote_roots_of s)))) ≡ true
      → quiet (view_of b (settled_to b true m s1 root) s1) ≡ true
  unfolding quiet settled_to with_flags voted_now output_now ends_now vote_due won
  calm d h =
      flags m.done m.output m.voted (leb (most_of b) (ones (naming b.n m.echoes (echo_roots_of s1) root)))
      (leb (some_of b) (ones (naming b.n m.votes (vote_roots_of s1) root))) (won b m s1 root) (enough_usable b m s1 root) (waits (view_of b m0 s))
      (reaches b.n (most_of b) m0.votes (vote_roots_of s)) (reaches b.n (most_of b) m0.echoes (echo_roots_of s))
      (reaches b.n (some_of b) m0.votes (vote_roots_of s)) (waits (view_of b after s1)) (reaches b.n (most_of b) m.votes (vote_roots_of s1))
      (reaches b.n (most_of b) m.echoes (echo_roots_of s1)) (reaches b.n (some_of b) m.votes (vote_roots_of s1)) d h stays opens
      (reaches_larger b.n (some_of b) (most_of b) m0.votes (vote_roots_of s) (omega (arith, w.third))) (x.votes_none (most_of b))
      (x.echoes_none (most_of b)) (x.votes_none (some_of b))
