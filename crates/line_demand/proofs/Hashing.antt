-- What the broadcast's step hashes, the byte step hashes.
use Prim.Native.Nat.{ℕ}
use mathlib.Core.Bool.{Bool, true, false, not}
use mathlib.Core.Path.{◌≡◌, refl, subst, sym, ap, ◌∙◌}
use mathlib.Core.List.Memᴰ
use mathlib.Core.List.{List, Memᴰ}
use mathlib.Core.Logic.{inl, inr}
use lib.Dec.{eqb}
use Rattle.octets.specs.Bytes.{pick}
use Rattle.table.specs.declared.Table.{Table}
use Rattle.state.specs.State.{table_of, own_of, marks_of}
use Rattle.board.specs.Planned.{Plan, Take, plan_of}
use Rattle.board.specs.Stepped.{record_root, ends_now}
use Rattle.board.proofs.Taken.{Taken, taken}
use Rattle.board_step.specs.Step.{place_of, good}
use Rattle.board_step.proofs.Taking.{limited}
use Rattle.line_fragments.specs.Step.{vote, Line, BoardState, Act, take}
use Rattle.line_fragments.specs.Step as Fragments
use Rattle.line_fragments.specs.Hashed.{fresh_in, hashed_by}
use Rattle.line_code.specs.Parts.{code_of, line_of}
use Rattle.octets.proofs.Picks.{is_true}
use Rattle.line_demand.specs.Strings.{path_strings, delivery_strings, plan_strings}
use Rattle.line_demand.proofs.Shown.{shown_of}
use Rattle.line_demand.proofs.Settled.{half, ends_is}
use Rattle.line_demand.proofs.Acts.{send_in, echo_in, Follow, refuses, sends, echoes, votes}
use Rattle.line_demand.proofs.Nexts.{marked_by, kept_by, inside, half_echo, half_vote}
use Rattle.line_demand.proofs.Results.{fresh_half}

module _ (s : List ℕ) (from : ℕ) (r o d : List ℕ) where
  abbrev b : Table
  b = table_of s

  abbrev B : Line b.n b.t (code_of b)
  B = line_of b

  abbrev S : BoardState B
  S = shown_of b (own_of s) (marks_of s) s

  -- the strings of a fresh encoding, once a record of kind k is kept
  fresh_by : (k p f : ℕ) → eqb k 1 ≡ false → (t : Taken s from r o d k p f) (y : List ℕ)
      → (let ok = good k p f from r s in
      fresh_in B (half b (own_of s) (marked_by s from r o d k ok) (kept_by s from r o d k p f) (record_root r) (inside s from r o d k p f t ok)) (record_root r) y)
      → Memᴰ y (delivery_strings k p f s from r)
  unfolding delivery_strings pick
  fresh_by k p f word t y (h, q) =
      let ok = good k p f from r s in
      let m = marked_by s from r o d k ok in
      let s1 = kept_by s from r o d k p f in
      let i = inside s from r o d k p f t ok in
      let e : ends_now b true m s1 (record_root r) ≡ true = ends_is b (own_of s) m s1 (record_root r) i ∙ is_true (Fragments.ends B (half b (own_of s) m s1 (record_root r) i) (record_root r)) h in
      let z : ends_now b (not (eqb k 1)) m s1 (record_root r) ≡ true = ap (λ (c : Bool). ends_now b (not c) m s1 (record_root r)) word ∙ e in
      rw z (fresh_half b (own_of s) m s1 (record_root r) i (limited s from r o d k p f t) e y q)

  module _ (y : List ℕ) where
    send_hashes : (p f : ℕ) → hashed_by B S (take from (send_in r p f)) y → Memᴰ y (plan_strings (Take 1 p f) s from r)
    unfolding plan_strings path_strings place_of pick
    send_hashes p f h = Memᴰ.append_left (delivery_strings 1 p f s from r) h

    echo_hashes : (p f : ℕ) → Taken s from r o d 2 p f → hashed_by B S (take from (echo_in r p f)) y → Memᴰ y (plan_strings (Take 2 p f) s from r)
    unfolding plan_strings path_strings good place_of pick
    echo_hashes p f t (inl h) = Memᴰ.append_left (delivery_strings 2 p f s from r) h
    echo_hashes p f t (inr h) =
        Memᴰ.append_right (path_strings 2 p f s from r) (fresh_by 2 p f refl t y (subst (λ (x : BoardState B). fresh_in B x (record_root r) y) (sym (half_echo s from r o d p f t)) h))

    vote_hashes : (p f : ℕ) → Taken s from r o d 3 p f → hashed_by B S (take from (vote (record_root r))) y → Memᴰ y (plan_strings (Take 3 p f) s from r)
    unfolding plan_strings
    vote_hashes p f t h =
        Memᴰ.append_right (path_strings 3 p f s from r)
        (fresh_by 3 p f refl t y (subst (λ (x : BoardState B). fresh_in B x (record_root r) y) (sym (half_vote s from r o d p f t (good 3 p f from r s))) h))

    pub hashes_by : (x : Plan) (a : Act B) → plan_of s from r o d ≡ x → Follow b from r x a → hashed_by B S a y → Memᴰ y (plan_strings x s from r)
    hashes_by x a e refuses h = absurd h
    hashes_by x a e (sends {p} {f}) h = send_hashes p f h
    hashes_by x a e (echoes {p} {f}) h = echo_hashes p f (taken s from r o d 2 p f e) h
    hashes_by x a e (votes {p} {f}) h = vote_hashes p f (taken s from r o d 3 p f e) h
