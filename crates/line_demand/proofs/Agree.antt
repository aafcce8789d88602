-- A step of a board of bytes and a step of a board of the broadcast agree.
use Prim.Native.Nat.{ℕ, ◌≤◌}
use mathlib.Core.Bool.{true}
use mathlib.Core.Path.{◌≡◌, refl, subst}
use mathlib.Core.List.{List, Memᴰ}
use lib.ListN.{length}
use Rattle.record.specs.Form.{out_bytes}
use Rattle.table.specs.declared.Table.{Table}
use Rattle.state.specs.State.{view, state_size, table_of, own_of, marks_of}
use Rattle.state.specs.Sound.{sound}
use Rattle.board.specs.Planned.{plan_of}
use Rattle.board_step.specs.Step.{step_of}
use Rattle.line.specs.Run.{hand}
use Rattle.line_fragments.specs.Step.{Line, BoardState, Act, act, after_act}
use Rattle.line_fragments.specs.Step as Fragments
use Rattle.line_fragments.specs.Hashed.{hashed_by}
use Rattle.line.specs.Bytes.{bytes}
use Rattle.line_code.specs.Parts.{code_of, line_of}
use Rattle.line_desk.specs.Desk.{put_in}
use Rattle.line_demand.specs.Boards.{given_in}
use Rattle.line_demand.specs.Strings.{plan_strings}
use Rattle.line_demand.proofs.Shown.{shown_of}
use Rattle.line_demand.proofs.Acts.{follow}
use Rattle.line_demand.proofs.Nexts.{next_by_lem}
use Rattle.line_demand.proofs.Puts.{puts_by_lem}
use Rattle.line_demand.proofs.Gives.{gives_by_lem}
use Rattle.line_demand.proofs.Hashing.{hashes_by}

module _ (b : Table) (own : ℕ) (s : List ℕ) (from : ℕ) (r o d : List ℕ) where
  abbrev B : Line b.n b.t (code_of b)
  B = line_of b

  abbrev S : BoardState B
  S = shown_of b own (marks_of s) s

  abbrev a : Act B
  a = act B S (hand from r)

  pub record Agrees : Type 0 where
    pub shows : shown_of b own (marks_of (step_of s from r o d).state) (step_of s from r o d).state ≡ after_act B S a
    pub puts : put_in (step_of s from r o d) ≡ Fragments.puts_out B S a
    pub gives : given_in (step_of s from r o d) ≡ Fragments.give B S a
    pub hashes : (y : List ℕ) → hashed_by B S a y → Memᴰ y (plan_strings (plan_of s from r o d) s from r)

module _ (s : List ℕ) (so : sound (view s) ≡ true) (from : ℕ) (r o d : List ℕ) (is_bytes : bytes r ≡ true) (ho : out_bytes ≤ length o) where
  agrees_here : state_size (table_of s) ≤ length s → (table_of s).longest ≤ length d → Agrees (table_of s) (own_of s) s from r o d
  unfolding step_of
  agrees_here room hd =
      let b = table_of s in
      let x = plan_of s from r o d in
      let z = act (line_of b) (shown_of b (own_of s) (marks_of s) s) (hand from r) in
      let g = follow b (own_of s) s refl so room from r o d ho hd is_bytes in
      record {
        shows = next_by_lem s from r o d x z refl g;
        puts = puts_by_lem s from r o d x z refl g;
        gives = gives_by_lem s from r o d x z refl g;
        hashes = λ y. hashes_by s from r o d y x z refl g;
      }

  pub agrees : (b : Table) (own : ℕ) → table_of s ≡ b → own_of s ≡ own → state_size b ≤ length s → b.longest ≤ length d → Agrees b own s from r o d
  agrees b own tb ow =
      subst (λ (x : Table). (state_size x ≤ length s → x.longest ≤ length d → Agrees x own s from r o d)) tb
      (subst (λ (j : ℕ). (state_size (table_of s) ≤ length s → (table_of s).longest ≤ length d → Agrees (table_of s) j s from r o d)) ow agrees_here)
