-- What a start leaves shows the broadcast's start, whatever the buffer held.
use Prim.Native.Nat.{ℕ, ◌≤◌}
use mathlib.Core.Bool.{true, false}
use mathlib.Core.Path.{◌≡◌, refl, ap, ◌∙◌}
use mathlib.Core.List.{List, []}
use lib.ListN.{length}
use Rattle.octets.specs.Bytes.{part, put}
use Rattle.table.specs.Table.{limits, s_max, is_board}
use Rattle.table.specs.declared.Table.{Table}
use Rattle.state.specs.State.{fixed_bytes, marks_of}
use Rattle.state.specs.declared.Marks.{Marks}
use Rattle.board.specs.Started.{fresh_bytes}
use Rattle.board.proofs.Starts.{unmarked, start_marks}
use Rattle.line.specs.Core.{Word}
use Rattle.line.specs.Run.{Machine}
use Rattle.line_fragments.specs.Step.{board}
use Rattle.line_code.specs.Parts.{line_of}
use Rattle.line_desk.proofs.Shown.{member_none, masked_none, no_core}
use Rattle.line_demand.proofs.Shown.{spoke_in, set_in, root_at, fragment_in, shown_of}

-- the boards of the broadcast; nothing stands where nothing was kept yet
abbrev pub broadcast : Table → Machine
broadcast b = board (line_of b) (λ i. []) (λ i. [])

words : (w : Word) → spoke_in unmarked w ≡ false
words Word.echo = refl
words Word.vote = refl

sets : (w : Word) → set_in unmarked w ≡ 0
sets Word.echo = refl
sets Word.vote = refl

unmarked_shown : (b : Table) (own : ℕ) (s : List ℕ) → shown_of b own unmarked s ≡ (broadcast b).start own
unmarked_shown b own s = λ x. record {
  own = own;
  core = no_core (spoke_in unmarked) (set_in unmarked) (λ w j. part (root_at w j) 32 s) words sets x;
  usable = λ k. member_none k x;
  frag = λ k. masked_none (fragment_in (s_max b) s) k x;
  out = false;
  done = false;
}

pub start_shown : (b : Table) (own : ℕ) (s : List ℕ) → limits b ≡ true → is_board b own ≡ true → fixed_bytes ≤ length s
    → shown_of b own (marks_of (put 0 (fresh_bytes b own) s)) (put 0 (fresh_bytes b own) s) ≡ (broadcast b).start own
start_shown b own s lim known long =
    ap (λ (m : Marks). shown_of b own m (put 0 (fresh_bytes b own) s)) (start_marks b own s lim known long) ∙ unmarked_shown b own (put 0 (fresh_bytes b own) s)
