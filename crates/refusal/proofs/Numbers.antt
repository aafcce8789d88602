-- A refusal's number is not 0, which is none.
-- Assumes nothing.
use Prim.Native.Nat.{◌<◌}
use native.Mathlib.Omega.{arith}
use Rattle.refusal.specs.declared.Refusal.{Refusal}
use Rattle.refusal.specs.declared.Refusal.TheVariants.{Table, Buffer, State, Board, Sender, Length, Late, Again, TooFew, Disagree, Block, Message, NotOut, Hash, Mailbox, Cut, Kind, Root, Path, Fragment, After}
use Rattle.refusal.specs.Numbers.{number_of}

pub number_some : (r : Refusal) → 0 < number_of r
number_some Table = omega arith
number_some Buffer = omega arith
number_some State = omega arith
number_some Board = omega arith
number_some Sender = omega arith
number_some Length = omega arith
number_some Late = omega arith
number_some Again = omega arith
number_some TooFew = omega arith
number_some Disagree = omega arith
number_some Block = omega arith
number_some Message = omega arith
number_some NotOut = omega arith
number_some Hash = omega arith
number_some Mailbox = omega arith
number_some Cut = omega arith
number_some Kind = omega arith
number_some Root = omega arith
number_some Path = omega arith
number_some Fragment = omega arith
number_some After = omega arith
