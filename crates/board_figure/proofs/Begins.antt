-- A start leaves figure 5's party at its beginning.
use mathlib.Core.Path.{◌≡◌}
use Prim.Native.Nat.{ℕ}
use mathlib.Core.List.{List}
use mathlib.Core.Bool.{false}
use mathlib.Core.Option.{none}
use Rattle.octets.specs.Bytes.{put}
use Rattle.table.specs.Table.{s_max}
use Rattle.table.specs.declared.Table.{Table}
use Rattle.board.specs.Started.{fresh_bytes, start_of}
use Rattle.board.proofs.Starts.{unmarked, start_table, start_marks, accepted}
use Rattle.figure.proofs.Noting.{shown_none}
use Rattle.board_figure.specs.Figure.{begins}
use Rattle.board_figure.specs.Shown.{kept_echo, kept_vote, figure_in, figure_of}

nothing_marked : (b : Table) (s : List ℕ) → figure_in b unmarked s ≡ begins
nothing_marked b s = λ j. record {
  acquired = false;
  voted = false;
  output = false;
  done = false;
  sent = none;
  echo_of = λ k. shown_none (kept_echo (s_max b) 0 s) k j;
  vote_of = λ k. shown_none (kept_vote s) k j;
}

-- "acquired ← false, voted ← false", done starts false, and nothing is received
pub start_begins : (b : Table) (own : ℕ) (s : List ℕ) → (start_of b own s).number ≡ 0 → figure_of (start_of b own s).state ≡ begins
start_begins b own s h =
    let a = accepted b own s h in
    rw (a.state, start_table b own s a.lim a.known a.long, start_marks b own s a.lim a.known a.long)
    (nothing_marked b (put 0 (fresh_bytes b own) s))
