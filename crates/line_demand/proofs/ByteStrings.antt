-- Strings hashed in a run are strings of bytes: the two that `OneValue` speaks of are byte strings. Asked is that the state buffers lent hold bytes, as C's do.
use Prim.Native.Nat.{ℕ, ◌-◌}
use mathlib.Core.Bool.{Bool, true, false, not}
use mathlib.Core.Path.{◌≡◌, refl}
use mathlib.Core.Logic.{inl, inr}
use mathlib.Core.List.{List, [], Memᴰ}
use mathlib.Core.Option.{Option, some, none}
use borrow.Author.Tests.{eqb-true}
use lib.Dec.{T, eqb}
use Rattle.octets.specs.Bytes.{pick}
use Rattle.table.specs.Table.{s_max}
use Rattle.table.specs.declared.Table.{Table}
use Rattle.tree.specs.Strings.{check_strings, tree_strings}
use Rattle.code.specs.Code.{All, Byte}
use Rattle.code.proofs.Lists.{part_bytes}
use Rattle.code_encode.specs.Message.{fragment_for}
use Rattle.state.specs.State.{table_of, marks_of}
use Rattle.board.specs.Planned.{Plan, Refuse, Take, plan_of}
use Rattle.board.specs.Started.{start_of}
use Rattle.board.specs.Stepped.{record_root, record_path, record_fragment, marked, kept, ends_now}
use Rattle.board_step.specs.Step.{place_of, good, usable_for, kept_of}
use Rattle.board_step.proofs.Octets.{kept_bytes, step_bytes, start_bytes}
use Rattle.line.specs.Bytes.{bytes, called, next}
use Rattle.line.specs.Run.{Machine, Input, hand, tell, Run, state}
use Rattle.line.proofs.Runs.{along}
use Rattle.line_fragments.specs.Hashed.{Hashed}
use Rattle.line_code.specs.Parts.{Sendable, fresh_strings}
use Rattle.line_code.proofs.ByteLaws.{all_bytes, bytes_all}
use Rattle.line_code.proofs.Strings.{Strings, string_bytes, picked, joined, check_bytes, encoding_bytes, fresh_bytes}
use Rattle.line_desk.specs.Desk.{Desk, Lend, long_enough, lends, begin}
use Rattle.line_demand.specs.Boards.{fragment_kind, fragment_board, boards}
use Rattle.line_demand.specs.Strings.{path_strings, delivery_strings, plan_strings, step_strings, HashedInRun}

-- ---- the strings of one step

module _ (s : List ℕ) (from : ℕ) (r : List ℕ) (hs : All Byte s) (hr : All Byte r) where
  path_strings_lem : (k p f : ℕ) → Strings (path_strings k p f s from r)
  unfolding path_strings
  path_strings_lem k p f =
      picked (eqb k 3) [] (check_strings (table_of s).n (place_of k from s) (record_path p r) (record_fragment p f r)) tt
      (check_bytes (table_of s).n (place_of k from s) (record_path p r) (record_fragment p f r) (part_bytes _ _ r hr) (part_bytes _ f r hr))

  delivery_strings_lem : (k p f : ℕ) → Strings (delivery_strings k p f s from r)
  unfolding delivery_strings kept_of
  delivery_strings_lem k p f =
      let b = table_of s in
      let m = marked k (from - 1) (good k p f from r s) (marks_of s) in
      let s1 = kept (s_max b) k (from - 1) p f r s in
      picked (ends_now b (not (eqb k 1)) m s1 (record_root r)) (fresh_strings b (usable_for b m s1 (record_root r)) (kept_of (s_max b) s1)) []
      (fresh_bytes b (usable_for b m s1 (record_root r)) (kept_of (s_max b) s1) (λ i. part_bytes _ _ s1 (kept_bytes s from r [] [] hs hr (s_max b) k p f))) tt

  plan_strings_lem : (x : Plan) → Strings (plan_strings x s from r)
  unfolding plan_strings
  plan_strings_lem (Refuse q a) = tt
  plan_strings_lem (Take k p f) = joined (path_strings k p f s from r) (delivery_strings k p f s from r) (path_strings_lem k p f) (delivery_strings_lem k p f)

-- what a board holds is bytes
abbrev OfBytes : Option Desk → Type 0
OfBytes none = Unit {0}
OfBytes (some d) = All Byte d.state

step_strings_lem : (o : Option Desk) → OfBytes o → (x : Input Lend (List ℕ)) → Strings (step_strings o x)
unfolding step_strings pick
step_strings_lem none h x = tt
step_strings_lem (some d) h (tell l) = tt
step_strings_lem (some d) h (hand i r) = go (bytes r) refl
  where
    go : (c : Bool) → bytes r ≡ c → Strings (pick c (plan_strings (plan_of d.state i r d.out d.delivery) d.state i r) [])
    go true e = plan_strings_lem d.state i r h (bytes_all r e) (plan_of d.state i r d.out d.delivery)
    go false e = tt

-- ---- along a run

module _ (b : Table) where
  begun_bytes : (j : ℕ) (d : Desk) → All Byte d.state → OfBytes (begin (fragment_kind b) j d)
  unfolding begin pick
  begun_bytes j d h = go (eqb (start_of b j d.state).number 0) refl
    where
      go : (c : Bool) → eqb (start_of b j d.state).number 0 ≡ c
          → OfBytes (pick c (some (record { state = (start_of b j d.state).state; out = d.out; delivery = d.delivery })) none)
      go true e = start_bytes b j d.state h (eqb-true _ 0 e)
      go false e = tt

  lent_bytes : (d : Desk) → All Byte d.state → (l : Lend) (c : Bool) → All Byte (lends d l c).state
  lent_bytes d h l true = h
  lent_bytes d h l false = h

  next_bytes : (o : Option Desk) → OfBytes o → (x : Input Lend (List ℕ)) → OfBytes (next (fragment_board b) o x)
  unfolding next called pick
  next_bytes none h x = tt
  next_bytes (some d) h (tell l) = lent_bytes d h l (long_enough (fragment_kind b) l)
  next_bytes (some d) h (hand i r) = go (bytes r) refl
    where
      go : (c : Bool) → bytes r ≡ c → All Byte (pick c ((fragment_board b).step d i r) (record { desk = d; put = λ k. none; given = none })).desk.state
      go true e = step_bytes d.state i r d.out d.delivery h (bytes_all r e)
      go false e = h

  module _ (lent : ℕ → Desk) (keeps : ℕ → Bool) (small : (j : ℕ) → T (keeps j) → bytes (lent j).state ≡ true) where
    abbrev BB : Machine
    BB = boards b lent

    run_bytes : (r : Run BB) (j : ℕ) → T (keeps j) → OfBytes (state BB r j)
    run_bytes r j kj = along BB (λ q o. OfBytes o) j (begun_bytes j (lent j) (bytes_all (lent j).state (small j kj)))
        (λ q x h. next_bytes (state BB q j) h x) (λ q k x h. h) r

    step_hashed : {y : List ℕ} {r : Run BB} → Hashed BB (List ℕ) (λ d x y. Memᴰ y (step_strings d x)) keeps y r → All Byte y
    step_hashed {y} (Hashed.now {r} {j} {x} kj h) = string_bytes (step_strings (state BB r j) x) (step_strings_lem (state BB r j) (run_bytes r j kj) x) y h
    step_hashed (Hashed.then p) = step_hashed p

    pub hashed_are_bytes : (m : List ℕ) → Sendable b m → (r : Run BB) (y : List ℕ) → HashedInRun b lent keeps m r y → bytes y ≡ true
    hashed_are_bytes m fits r y (inl h) = all_bytes y (step_hashed h)
    hashed_are_bytes m fits r y (inr h) = all_bytes y (string_bytes (tree_strings b.n (fragment_for b m)) (encoding_bytes b m (bytes_all m fits.bytes)) y h.1)
