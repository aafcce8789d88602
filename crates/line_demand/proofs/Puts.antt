-- The record that a step puts out is the one that the broadcast's step puts out.
use Prim.Native.Nat.{ℕ, ◌/◌}
use native.Mathlib.Omega.{arith}
use mathlib.Core.Bool.{Bool, true, false, not, ◌&&◌, ◌||◌}
use mathlib.Core.Path.{◌≡◌, refl, ap, ◌∙◌}
use mathlib.Core.List.{List, []}
use mathlib.Core.Option.{some, none}
use lib.Dec.{eqb}
use lib.ListN.{length}
use Rattle.octets.specs.Bytes.{pick, same}
use Rattle.table.specs.declared.Table.{Table}
use Rattle.record.specs.Form.{record_of}
use Rattle.state.specs.State.{table_of, own_of, marks_of}
use Rattle.board.specs.Planned.{Plan, plan_of}
use Rattle.board.specs.Stepped.{record_root, record_path, record_fragment, marked, vote_due, voted_now}
use Rattle.board.proofs.Taken.{Taken, taken}
use Rattle.board_step.specs.Asked.{Formed}
use Rattle.board_step.specs.Step.{place_of, good, put_out, said_by, taken_of, by_plan}
use Rattle.board_step.proofs.Records.{path_length, said_room, room_most, no_vote}
use Rattle.board_step.proofs.Taking.{formed}
use Rattle.line.specs.Core.{Word, Core}
use Rattle.line.specs.Core as Core
use Rattle.line_fragments.specs.Step.{echo, vote, Line, BoardState, Act, take, vote_out}
use Rattle.line_fragments.specs.Step as Fragments
use Rattle.line_code.specs.Parts.{code_of, line_of, write_record}
use Rattle.line_desk.specs.Desk.{put_in}
use Rattle.line_desk.proofs.Puts.{unless_empty, record_is}
use Rattle.line_demand.proofs.Shown.{core_of, shown_of, due_is}
use Rattle.line_demand.proofs.Acts.{send_in, echo_in, Follow, refuses, sends, echoes, votes}
use Rattle.line_demand.proofs.Nexts.{marked_by, kept_by, correct, core_echo, core_vote}

written : (c : Bool) (k p : ℕ) (root path fragment : List ℕ)
    → unless_empty (pick c (record_of k root p path fragment) []) ≡ pick c (some (record_of k root p path fragment)) none
unfolding record_of pick
written true k p root path fragment = refl
written false k p root path fragment = refl

vote_written : (b : Table) (c : Bool) (root : List ℕ) → pick c (some (record_of 3 root 0 [] [])) none ≡ vote_out (line_of b) (pick c (some root) none)
unfolding pick write_record
vote_written b true root = refl
vote_written b false root = refl

-- a vote is put out once
one_vote : (v d : Bool) → (not v && (v || d)) ≡ (not v && d)
one_vote true d = refl
one_vote false d = refl

module _ (r : List ℕ) (p f : ℕ) (h : Formed r p f) where
  nodes_is : length (record_path p r) / 32 ≡ p
  nodes_is = let e = path_length r p f h in omega arith

  echo_out : (c v : Bool) → v ≡ false → unless_empty (put_out c v p f r) ≡ pick c (some (write_record (echo_in r p f))) none
  unfolding put_out write_record pick
  echo_out c v e = rw (e, nodes_is) (written c 2 p (record_root r) (record_path p r) (record_fragment p f r))

  vote_out_lem : (b : Table) (v : Bool) → unless_empty (put_out false v p f r) ≡ vote_out (line_of b) (pick v (some (record_root r)) none)
  unfolding put_out pick
  vote_out_lem b v = written v 3 0 (record_root r) [] [] ∙ vote_written b v (record_root r)

module _ (s : List ℕ) (from : ℕ) (r o d : List ℕ) where
  abbrev b : Table
  b = table_of s

  abbrev B : Line b.n b.t (code_of b)
  B = line_of b

  abbrev S : BoardState B
  S = shown_of b (own_of s) (marks_of s) s

  abbrev core : Core (List ℕ)
  core = core_of (marks_of s) s

  -- whether a vote is put out for it
  abbrev votes_by : ℕ → Bool → ℕ → ℕ → Bool
  votes_by k ok p f = not (marked_by s from r o d k ok).voted && voted_now b (not (eqb k 1)) (marked_by s from r o d k ok) (kept_by s from r o d k p f) (record_root r)

  put_at : (k p f : ℕ) → Taken s from r o d k p f
      → put_in (taken_of k p f s from r o d) ≡ unless_empty (put_out (eqb k 1 && good k p f from r s) (votes_by k (good k p f from r s) p f) p f r)
  unfolding taken_of said_by
  put_at k p f t =
      let ok = good k p f from r s in
      record_is (put_out (eqb k 1 && ok) (votes_by k ok p f) p f r) o
      (omega (arith, said_room r p f (formed s from r o d k p f t) k ok (votes_by k ok p f), room_most k, t.out))

  send_quiet : (ok : Bool) (p f : ℕ) → votes_by 1 ok p f ≡ false
  unfolding voted_now marked
  send_quiet ok p f = no_vote (marks_of s).voted

  word_votes : (w : Word) (k : ℕ) → eqb k 1 ≡ false → (ok : Bool) (p f : ℕ)
      → core_of (marked_by s from r o d k ok) (kept_by s from r o d k p f) ≡ Core.keep core w from (record_root r)
      → votes_by k ok p f ≡ (not (marks_of s).voted && Core.due b.n b.t same (Core.keep core w from (record_root r)) (record_root r))
  unfolding voted_now marked
  word_votes w k e ok p f q =
      ap (λ (c : Bool). not (marks_of s).voted && voted_now b (not c) (marked_by s from r o d k ok) (kept_by s from r o d k p f) (record_root r)) e
      ∙ one_vote (marks_of s).voted (vote_due b (marked_by s from r o d k ok) (kept_by s from r o d k p f) (record_root r))
      ∙ ap (λ (x : Bool). not (marks_of s).voted && x)
      (due_is b (marked_by s from r o d k ok) (kept_by s from r o d k p f) (record_root r) ∙ ap (λ (c : Core (List ℕ)). Core.due b.n b.t same c (record_root r)) q)

  send_puts : (p f : ℕ) → Taken s from r o d 1 p f → put_in (taken_of 1 p f s from r o d) ≡ Fragments.puts_out B S (take from (send_in r p f))
  unfolding good place_of pick
  send_puts p f t =
      put_at 1 p f t
      ∙ echo_out r p f (formed s from r o d 1 p f t) (good 1 p f from r s) (votes_by 1 (good 1 p f from r s) p f) (send_quiet (good 1 p f from r s) p f)

  echo_puts : (p f : ℕ) → Taken s from r o d 2 p f → put_in (taken_of 2 p f s from r o d) ≡ Fragments.puts_out B S (take from (echo_in r p f))
  unfolding good place_of pick
  echo_puts p f t =
      put_at 2 p f t ∙ vote_out_lem r p f (formed s from r o d 2 p f t) b (votes_by 2 (correct s from r o d p f) p f)
      ∙ ap (λ (c : Bool). vote_out B (pick c (some (record_root r)) none)) (word_votes Word.echo 2 refl (correct s from r o d p f) p f (core_echo s from r o d p f t))

  vote_puts : (p f : ℕ) → Taken s from r o d 3 p f → put_in (taken_of 3 p f s from r o d) ≡ Fragments.puts_out B S (take from (vote (record_root r)))
  vote_puts p f t =
      put_at 3 p f t ∙ vote_out_lem r p f (formed s from r o d 3 p f t) b (votes_by 3 (good 3 p f from r s) p f)
      ∙ ap (λ (c : Bool). vote_out B (pick c (some (record_root r)) none))
      (word_votes Word.vote 3 refl (good 3 p f from r s) p f (core_vote s from r o d p f t (good 3 p f from r s)))

  pub puts_by_lem : (x : Plan) (a : Act B) → plan_of s from r o d ≡ x → Follow b from r x a → put_in (by_plan x s from r o d) ≡ Fragments.puts_out B S a
  unfolding by_plan
  puts_by_lem x a e refuses = refl
  puts_by_lem x a e (sends {p} {f}) = send_puts p f (taken s from r o d 1 p f e)
  puts_by_lem x a e (echoes {p} {f}) = echo_puts p f (taken s from r o d 2 p f e)
  puts_by_lem x a e (votes {p} {f}) = vote_puts p f (taken s from r o d 3 p f e)
