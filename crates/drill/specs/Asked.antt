-- What the functions of a drill tell one another, and the answer of the whole.
use Rattle.std.specs.Prelude.{◌≡◌, List, [], ◌++◌, ℕ, ◌≤◌, Result, Ok, Err, length}
use Rattle.record.specs.Form.{out_bytes}
use Rattle.octets.specs.Bytes.{put}
use Rattle.drill_open.specs.declared.BadLine.{BadLine}
use Rattle.drill_print.specs.Text.{bad}
use Rattle.drill_print.specs.declared.Page.{Page}
use Rattle.drill_print.specs.Printed.{Wrote}
use Rattle.drill_boards.specs.Held.{zeros}
use Rattle.drill.specs.Drill.{drill_of}
use Rattle.drill.specs.Call.{Lent, drill_left_by}

-- what is still printed for an answer: that a line is bad
abbrev pub told : {X : Type 0} → Result X BadLine → List ℕ
told (Ok x) = []
told (Err e) = bad e.line

-- v was printed on a page, but for what is still printed for the answer
pub record Tells {X : Type 0} (v : List ℕ) (r : Result X BadLine) (a b : Page) : Type 0 where
  pub text : List ℕ
  pub wrote : Wrote text a b
  pub all : text ++ told r ≡ v

-- no lent buffer is too short
pub record Long (b : Lent) : Type 0 where
  pub message_long : 64 ≤ length b.message
  pub states_long : 35588 ≤ length b.states
  pub kept_long : 14336 ≤ length b.kept
  pub handed_long : out_bytes ≤ length b.handed
  pub out_long : out_bytes ≤ length b.out
  pub delivery_long : 64 ≤ length b.delivery
  pub text_long : 154051 ≤ length b.text

-- each has just the length needed, but for the text
pub record Exact (b : Lent) : Type 0 where
  pub message_is : length b.message ≡ 64
  pub states_is : length b.states ≡ 35588
  pub kept_is : length b.kept ≡ 14336
  pub handed_is : length b.handed ≡ out_bytes
  pub out_is : length b.out ≡ out_bytes
  pub delivery_is : length b.delivery ≡ 64
  pub text_long : 154051 ≤ length b.text

-- all was printed, q bytes, and the other lent buffers are clean
pub record Ended (input : List ℕ) (q : ℕ) (old : List ℕ) (b : Lent) : Type 0 where
  pub text_is : b.text ≡ put 0 (drill_of input) old
  pub length_is : q ≡ length (drill_of input)
  pub few : q ≤ 154051
  pub message_zero : b.message ≡ zeros 64
  pub states_zero : b.states ≡ zeros 35588
  pub kept_zero : b.kept ≡ zeros 14336
  pub handed_zero : b.handed ≡ zeros out_bytes
  pub out_zero : b.out ≡ zeros out_bytes
  pub delivery_zero : b.delivery ≡ zeros 64

-- the buffers after a drill whose text has q bytes
pub record DrillLeft (input : List ℕ) (q : ℕ) (b b' : Lent) : Type 0 where
  pub left_is : b' ≡ drill_left_by input b
  pub length_is : q ≡ length (drill_of input)
  pub few : q ≤ 154051
