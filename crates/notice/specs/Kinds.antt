-- The kinds of notice records by their numbers, and what was read as the documents say it.
use Rattle.std.specs.Prelude.{◌≡◌, ℕ, false, Result, Ok, Err, MatchResult}
use Rattle.refusal.specs.declared.Refusal.{Refusal}
use Rattle.refusal.specs.declared.Refusal.TheVariants as refusal
use Rattle.refusal.specs.declared.Refused.{Refused}
use Rattle.refusal.specs.Numbers.{number_of}
use Rattle.record.specs.declared.Kind.{Kind}
use Rattle.record.specs.declared.Kind.TheVariants.{Send, Echo, Vote}
use Rattle.record.specs.declared.Outline.{Outline}
use Rattle.record.specs.Form.{Read, Form, Fault}
use Rattle.notice.specs.Form.{is_notice_kind}

-- "Kinds 4 send, 5 echo, 6 vote"
abbrev pub notice_number : Kind → ℕ
notice_number Send = 4
notice_number Echo = 5
notice_number Vote = 6

-- what the kind of a number is: the one with this number, or refusal 21 if none has
abbrev pub NoticeKinds : ℕ → Result Kind Refusal → Type 0
NoticeKinds n x = MatchResult x (λ k. notice_number k ≡ n) (λ e. (e ≡ refusal.Kind) × (is_notice_kind n ≡ false))

-- what was read, by numbers
abbrev pub notice_read_as : Result Outline Refused → Read
notice_read_as (Ok o) = Form (notice_number o.kind) o.nodes o.len
notice_read_as (Err e) = Fault (number_of e.why) e.at
