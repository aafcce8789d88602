-- The kinds of records by their numbers, and what was read as the documents say it.
use Rattle.std.specs.Prelude.{◌≡◌, ℕ, false, Result, Ok, Err, MatchResult}
use Rattle.refusal.specs.declared.Refusal.{Refusal}
use Rattle.refusal.specs.declared.Refused.{Refused}
use Rattle.refusal.specs.Numbers.{number_of}
use Rattle.record.specs.declared.Kind.{Kind}
use Rattle.record.specs.declared.Kind.TheVariants.{Send, Echo, Vote}
use Rattle.record.specs.declared.Outline.{Outline}
use Rattle.record.specs.Form.{Read, Form, Fault, is_kind}

-- "a kind byte of 1, 2 or 3 is send, echo or vote"
abbrev pub kind_number : Kind → ℕ
kind_number Send = 1
kind_number Echo = 2
kind_number Vote = 3

-- what the kind of a number is: the one with this number, or refusal 21 if none has
abbrev pub Kinds : ℕ → Result Kind Refusal → Type 0
Kinds n x = MatchResult x (λ k. kind_number k ≡ n) (λ e. (e ≡ Refusal.Kind) × (is_kind n ≡ false))

-- what was read, by numbers
abbrev pub read_as : Result Outline Refused → Read
read_as (Ok o) = Form (kind_number o.kind) o.nodes o.len
read_as (Err e) = Fault (number_of e.why) e.at
