use mathlib.Core.Path.{◌≡◌, refl}
use Prim.Native.Nat.{ℕ}
use Rattle.std.specs.Prelude.{Result, Ok, Err}
use Rattle.std.specs.Result.{result_unwrap_or}
use Rattle.octets.specs.Bytes.{part}
use Rattle.refusal.specs.declared.Refusal.{Refusal}
use Rattle.refusal.specs.Answers.{sized_of}
use Rattle.board_send.proofs.Sends.{sent_front}
use Rattle.drill_step.proofs.hand_send.Goals as goal

length_of : (r : Result ℕ Refusal) → result_unwrap_or r 0 ≡ (sized_of r).length
length_of (Ok n) = refl
length_of (Err e) = refl

pub returns : goal.returns
unfolding part
returns c =
    let a = c.args in let p = c.requires in let b = a.b.limits in
    let f = sent_front b.table a.message.now a.to a.handed.now b.within p.0 p.1 p.2 (sized_of c.send.result) _ c.send.ensures in
    rw (c.unwrap_or.ensures, length_of c.send.result) (f.record_front, f.most)
