-- Document 01, "Refusal numbers", and document 02's amendments: the number of each refusal; 0 is none.
use Rattle.std.specs.Prelude.{◌≡◌, ℕ, Result, Ok, Err}
use Rattle.refusal.specs.declared.Refusal.{Refusal}
use Rattle.refusal.specs.declared.Refused.{Refused}
use Rattle.refusal.specs.declared.Refusal.TheVariants.{Table, Buffer, State, Board, Sender, Length, Late, Again, TooFew, Disagree, Block, Message, NotOut, Hash, Mailbox, Cut, Kind, Root, Path, Fragment, After}

abbrev pub number_of : Refusal → ℕ
number_of Table = 1
number_of Buffer = 2
number_of State = 3
number_of Board = 4
number_of Sender = 6
number_of Length = 7
number_of Late = 8
number_of Again = 9
number_of TooFew = 10
number_of Disagree = 11
number_of Block = 12
number_of Message = 13
number_of NotOut = 14
number_of Hash = 15
number_of Mailbox = 16
number_of Cut = 20
number_of Kind = 21
number_of Root = 22
number_of Path = 23
number_of Fragment = 24
number_of After = 25

-- the number that a refusal becomes
abbrev pub Numbered : Refusal → ℕ → Type 0
Numbered r n = n ≡ number_of r

-- a result's number: 0, or its refusal's
abbrev pub refused : {X : Type 0} → Result X Refusal → ℕ
refused (Ok x) = 0
refused (Err r) = number_of r

-- a refusal beside which no field is at fault
abbrev pub Nowhere : Refusal → Refused → Type 0
Nowhere r x = x ≡ record { why = r; at = 0 }
