-- What a function that prints tells.
use Rattle.std.specs.Prelude.{◌≡◌, List, ℕ, ◌+◌, length}
use Rattle.octets.specs.Bytes.{put}
use Rattle.drill_print.specs.Text.{Shown}
use Rattle.drill_print.specs.declared.Page.{Page}
use Rattle.drill_print.specs.declared.Outcome.{Outcome}
use Rattle.drill_print.specs.declared.Outcome.TheVariants.{Nothing, Message, Void}
use Rattle.drill_print.specs.declared.Shown.{Shown as Shows}

-- v was printed from p on, up to q
pub record Printed (v : List ℕ) (p : ℕ) (old new : List ℕ) (q : ℕ) : Type 0 where
  pub text_is : new ≡ put p v old
  pub ends : q ≡ p + length v

-- v was printed on a page
pub record Wrote (v : List ℕ) (a b : Page) : Type 0 where
  pub same_text : b.text.ghost_name ≡ a.text.ghost_name
  pub printed : Printed v a.at a.text.now b.text.now b.at
  pub long : length b.text.now ≡ length a.text.now

-- an outcome by the number of its delivery, and the length of its message
abbrev pub delivery_of : Outcome → ℕ
delivery_of Nothing = 0
delivery_of (Message n) = 1
delivery_of Void = 2

abbrev pub size_of : Outcome → ℕ
size_of Nothing = 0
size_of (Message n) = n
size_of Void = 0

-- what is shown, by its numbers
abbrev pub shown_by : Shows → Shown
shown_by s = record { answer = s.answer; act = s.act; delivery = delivery_of s.outcome; size = size_of s.outcome }
