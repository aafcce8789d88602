-- The bytes that a step leaves show what the broadcast's step leaves.
use Prim.Native.Nat.{ℕ, suc, ◌+◌, ◌-◌, ◌≤◌, ◌<◌}
use native.Mathlib.Omega.{arith}
use mathlib.Core.Bool.{Bool, true, false, not}
use mathlib.Core.Path.{◌≡◌, refl, subst, ap, ◌∙◌}
use mathlib.Core.List.{List}
use lib.Dec.{eqb}
use lib.ListN.{length}
use Rattle.octets.specs.Bytes.{pick, part, put, two_at}
use Rattle.octets.specs.Sets.{has}
use Rattle.table.specs.Table.{s_max}
use Rattle.table.specs.declared.Table.{Table}
use Rattle.tree.specs.Check.{path_correct}
use Rattle.state.specs.Kept.{member}
use Rattle.state.specs.State.{fixed_bytes, view, view_of, table_of, own_of, marks_of, marks_bytes, len_at, fragment_at}
use Rattle.state.specs.State as Bytes
use Rattle.state.specs.declared.Marks.{Marks}
use Rattle.table.proofs.Within.{board_number}
use Rattle.state.proofs.Facts.{Sounds, sounds}
use Rattle.state.proofs.Masks.{masked_same}
use Rattle.state.proofs.Writes.{Fit, rest_kept, fragment_kept, marks_back}
use Rattle.board.specs.Planned.{Plan, is_again, plan_of}
use Rattle.board.specs.Stepped.{record_root, record_path, record_fragment, marked, kept, with_flags, settled_to, leaves}
use Rattle.board.proofs.Taken.{Taken, taken, fragment_room}
use Rattle.board.proofs.StepSound.{fit, settled_sounds}
use Rattle.board_step.specs.Step.{place_of, good, said_by, taken_of, by_plan}
use Rattle.board_step.proofs.Records.{root_length, fragment_length}
use Rattle.board_step.proofs.Taking.{formed, long_still}
use Rattle.line.specs.Core.{Word}
use Rattle.line.specs.Core as Core
use Rattle.line_fragments.specs.Step.{echo, vote, Line, BoardState, Act, take, settle, after_act}
use Rattle.line_fragments.specs.Step as Fragments
use Rattle.line_code.specs.Parts.{code_of, line_of}
use Rattle.line_demand.proofs.Shown.{set_in, root_at, core_of, fragment_in, shown_of}
use Rattle.line_demand.proofs.Settled.{usable_inside, half, settled_is}
use Rattle.line_demand.proofs.Marks.{echo_core, echo_half, vote_core, vote_half, send_is}
use Rattle.line_demand.proofs.Acts.{send_in, echo_in, Follow, refuses, sends, echoes, votes}

-- ---- the marks are written last: what they leave shows them, and nothing else changes

module _ (b : Table) (own : ℕ) (m : Marks) (s : List ℕ) where
  abbrev s2 : List ℕ
  s2 = put 6 (marks_bytes m) s

  roots : (w : Word) (j : ℕ) → part (root_at w j) 32 s2 ≡ part (root_at w j) 32 s
  roots Word.echo j = ap (λ (v : Bytes.State). v.echo_root j) (rest_kept m s b m)
  roots Word.vote j = ap (λ (v : Bytes.State). v.vote_root j) (rest_kept m s b m)

  fragments : (j : ℕ) → fragment_in (s_max b) s2 j ≡ fragment_in (s_max b) s j
  fragments j =
      ap (λ (x : ℕ). part (fragment_at (s_max b) j) x s2) (ap (λ (v : Bytes.State). v.len j) (rest_kept m s b m))
      ∙ fragment_kept m s (fragment_at (s_max b) j) (two_at s (len_at j)) (omega arith)

  rest_shown : shown_of b own m s2 ≡ shown_of b own m s
  rest_shown = λ i. record {
    own = own;
    core = record {
      spoke = (core_of m s).spoke;
      set = (core_of m s).set;
      val = λ w k. masked_same (set_in m w) (λ j. part (root_at w j) 32 s) (λ j. part (root_at w j) 32 s2) (λ j t. roots w j) k i;
    };
    usable = member m.usable;
    frag = λ k. masked_same m.echoes (fragment_in (s_max b) s) (fragment_in (s_max b) s2) (λ j t. fragments j) k i;
    out = m.output;
    done = m.done;
  }

  marks_shown : fixed_bytes ≤ length s → Fit m → shown_of b own (marks_of s2) s2 ≡ shown_of b own m s
  marks_shown h f = ap (λ (x : Marks). shown_of b own x s2) (marks_back m s h f) ∙ rest_shown

-- ---- a record that is taken

module _ (s : List ℕ) (from : ℕ) (r o d : List ℕ) where
  abbrev b : Table
  b = table_of s

  abbrev own : ℕ
  own = own_of s

  abbrev B : Line b.n b.t (code_of b)
  B = line_of b

  abbrev S : BoardState B
  S = shown_of b own (marks_of s) s

  -- the marks and the bytes once it is kept, by whether its path is correct
  abbrev pub marked_by : ℕ → Bool → Marks
  marked_by k ok = marked k (from - 1) ok (marks_of s)

  abbrev pub kept_by : ℕ → ℕ → ℕ → List ℕ
  kept_by k p f = kept (s_max b) k (from - 1) p f r s

  module _ (k p f : ℕ) (t : Taken s from r o d k p f) where
    pub before : Sounds (view_of b (marks_of s) s)
    before = sounds (view s) t.sound

    pub here : from - 1 < b.n
    here = let (one, few) = board_number b from t.board in omega arith

    pub number_is : suc (from - 1) ≡ from
    number_is = let (one, few) = board_number b from t.board in omega arith

    pub inside : (ok : Bool) (j : ℕ) → has (marked_by k ok).usable j ≡ true → has (marked_by k ok).echoes j ≡ true
    unfolding settled_to with_flags
    inside ok = usable_inside (view_of b (settled_to b (not (eqb k 1)) (marked_by k ok) (kept_by k p f) (record_root r)) (kept_by k p f)) (settled_sounds s from r o d ok k p f t)

    left_shown : (ok : Bool) → shown_of b own (marks_of (leaves ok k p f from r s)) (leaves ok k p f from r s)
        ≡ shown_of b own (settled_to b (not (eqb k 1)) (marked_by k ok) (kept_by k p f) (record_root r)) (kept_by k p f)
    unfolding leaves
    left_shown ok =
        let m = settled_to b (not (eqb k 1)) (marked_by k ok) (kept_by k p f) (record_root r) in
        marks_shown b own m (kept_by k p f) (long_still s from r o d k p f t) (fit b m (kept_by k p f) (settled_sounds s from r o d ok k p f t))

    root_whole : length (record_root r) ≡ 32
    root_whole = root_length r p f (formed s from r o d k p f t)

    fragment_whole : length (record_fragment p f r) ≡ f
    fragment_whole = fragment_length r p f (formed s from r o d k p f t)

    small : f < 65536
    small = let w = formed s from r o d k p f t in omega (arith, w.short)

    room : fragment_at (s_max b) (from - 1) + f ≤ length s
    room = fragment_room b from f (length s) t.board t.allowed.short t.room

  first_echo : (p f : ℕ) → Taken s from r o d 2 p f → has (marks_of s).echoes (from - 1) ≡ false
  unfolding is_again pick
  first_echo p f t = t.allowed.again

  -- what is kept of an echo and of a vote

  -- whether its path is correct at a board
  abbrev correct_at : ℕ → ℕ → ℕ → Bool
  correct_at p f x = path_correct b.n x (record_root r) (record_path p r) (record_fragment p f r)

  abbrev pub correct : ℕ → ℕ → Bool
  correct p f = correct_at p f from

  pub core_echo : (p f : ℕ) → Taken s from r o d 2 p f
      → core_of (marked_by 2 (correct p f)) (kept_by 2 p f) ≡ Core.keep (core_of (marks_of s) s) Word.echo from (record_root r)
  unfolding kept pick
  core_echo p f t =
      subst (λ x. core_of (marked_by 2 (correct_at p f x)) (kept_by 2 p f) ≡ Core.keep (core_of (marks_of s) s) Word.echo x (record_root r)) (number_is 2 p f t)
      (echo_core b own (marks_of s) s (before 2 p f t) t.long (from - 1) f (record_root r) (record_path p r) (record_fragment p f r) (here 2 p f t)
      (root_whole 2 p f t) (fragment_whole 2 p f t) t.allowed.short (small 2 p f t) (room 2 p f t) (first_echo p f t))

  pub half_echo : (p f : ℕ) (t : Taken s from r o d 2 p f)
      → half b own (marked_by 2 (correct p f)) (kept_by 2 p f) (record_root r) (inside 2 p f t (correct p f)) ≡ Fragments.keep_act B S (take from (echo_in r p f))
  unfolding kept pick
  half_echo p f t =
      subst (λ x. half b own (marked_by 2 (correct_at p f x)) (kept_by 2 p f) (record_root r) (inside 2 p f t (correct_at p f x)) ≡ Fragments.keep_act B S (take x (echo_in r p f)))
      (number_is 2 p f t)
      (echo_half b own (marks_of s) s (before 2 p f t) t.long (from - 1) f (record_root r) (record_path p r) (record_fragment p f r) (here 2 p f t)
      (root_whole 2 p f t) (fragment_whole 2 p f t) t.allowed.short (small 2 p f t) (room 2 p f t) (first_echo p f t) (inside 2 p f t _))

  pub core_vote : (p f : ℕ) → Taken s from r o d 3 p f → (ok : Bool)
      → core_of (marked_by 3 ok) (kept_by 3 p f) ≡ Core.keep (core_of (marks_of s) s) Word.vote from (record_root r)
  unfolding kept pick
  core_vote p f t ok =
      subst (λ x. core_of (marked_by 3 ok) (kept_by 3 p f) ≡ Core.keep (core_of (marks_of s) s) Word.vote x (record_root r)) (number_is 3 p f t)
      (vote_core b own (marks_of s) s (before 3 p f t) t.long (from - 1) (record_root r) (here 3 p f t) (root_whole 3 p f t) ok)

  pub half_vote : (p f : ℕ) (t : Taken s from r o d 3 p f) (ok : Bool)
      → half b own (marked_by 3 ok) (kept_by 3 p f) (record_root r) (inside 3 p f t ok) ≡ Fragments.keep_act B S (take from (vote (record_root r)))
  unfolding kept pick
  half_vote p f t ok =
      subst (λ x. half b own (marked_by 3 ok) (kept_by 3 p f) (record_root r) (inside 3 p f t ok) ≡ Fragments.keep_act B S (take x (vote (record_root r)))) (number_is 3 p f t)
      (vote_half b own (marks_of s) s (before 3 p f t) t.long (from - 1) (record_root r) (here 3 p f t) (root_whole 3 p f t) ok (inside 3 p f t ok))

  -- the three kinds
  send_next : (p f : ℕ) → Taken s from r o d 1 p f → (ok : Bool)
      → shown_of b own (marks_of (leaves ok 1 p f from r s)) (leaves ok 1 p f from r s) ≡ after_act B S (take from (send_in r p f))
  unfolding kept pick
  send_next p f t ok = left_shown 1 p f t ok ∙ send_is b own (marks_of s) s (from - 1) from ok (record_root r) (record_path p r) (record_fragment p f r)

  echo_next : (p f : ℕ) → Taken s from r o d 2 p f
      → (let ok = correct p f in
      shown_of b own (marks_of (leaves ok 2 p f from r s)) (leaves ok 2 p f from r s) ≡ after_act B S (take from (echo_in r p f)))
  echo_next p f t =
      left_shown 2 p f t (correct p f) ∙ settled_is b own (marked_by 2 (correct p f)) (kept_by 2 p f) (record_root r) (inside 2 p f t (correct p f))
      ∙ ap (λ (x : BoardState B). settle B x (record_root r)) (half_echo p f t)

  vote_next : (p f : ℕ) → Taken s from r o d 3 p f → (ok : Bool)
      → shown_of b own (marks_of (leaves ok 3 p f from r s)) (leaves ok 3 p f from r s) ≡ after_act B S (take from (vote (record_root r)))
  vote_next p f t ok =
      left_shown 3 p f t ok ∙ settled_is b own (marked_by 3 ok) (kept_by 3 p f) (record_root r) (inside 3 p f t ok)
      ∙ ap (λ (x : BoardState B). settle B x (record_root r)) (half_vote p f t ok)

  -- whatever the plan
  pub next_by_lem : (x : Plan) (a : Act B) → plan_of s from r o d ≡ x → Follow b from r x a
      → shown_of b own (marks_of (by_plan x s from r o d).state) (by_plan x s from r o d).state ≡ after_act B S a
  unfolding by_plan taken_of good place_of pick said_by
  next_by_lem x a e refuses = refl
  next_by_lem x a e (sends {p} {f}) = send_next p f (taken s from r o d 1 p f e) (good 1 p f from r s)
  next_by_lem x a e (echoes {p} {f}) = echo_next p f (taken s from r o d 2 p f e)
  next_by_lem x a e (votes {p} {f}) = vote_next p f (taken s from r o d 3 p f e) (good 3 p f from r s)
