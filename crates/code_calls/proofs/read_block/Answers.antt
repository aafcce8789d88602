use mathlib.Core.Path.{◌≡◌, sym, ap, ◌∙◌, subst}
use Prim.Native.Nat.{ℕ, ◌+◌, ◌-◌}
use native.Mathlib.Omega.{arith}
use lib.ListN.{take, drop, length-drop}
use lib.Seq.{length-take-le}
use Rattle.std.proofs.lemmas.Result.{err_from_is_err_and}
use Rattle.refusal.specs.Answers.{sized}
use Rattle.octets.specs.Bytes.{part, put}
use Rattle.table.specs.declared.Table.{Table}
use Rattle.code_calls.specs.Reading.{read_out, read_of}
use Rattle.code_calls.proofs.Numbers.{number_some}
use Rattle.code_calls.proofs.Taken.{read_outside, read_refused, read_four, read_inside, read_done}
use Rattle.code_calls.proofs.read_block.Goals as goal

pub returns-in_err-b : goal.returns-in_err-b
returns-in_err-b c =
    let h = c.in_err-b.ensures in
    let p = err_from_is_err_and c.from_residual.result c.from_residual.ensures.1 in
    rw (p.1, p.2, h.0) (read_refused c.args.b c.args.block.now c.args.message.now 1 (λ z. absurd (omega arith)) (read_outside _ _ _ h.1))

pub returns-in_err-may_read : goal.returns-in_err-may_read
returns-in_err-may_read c =
    let e = c.in_err-may_read.field-0.0 in
    let p = err_from_is_err_and c.from_residual-in_err-may_read.result c.from_residual-in_err-may_read.ensures.1 in
    rw (p.1, p.2) (read_refused c.args.b c.args.block.now c.args.message.now _ (number_some e) (rw c.in_ok-b.ensures at c.in_err-may_read.ensures))

pub four_at-m-requires : goal.four_at-m-requires
four_at-m-requires c = read_four _ _ _ (sym c.in_ok-may_read.ensures)

pub slice_bounds-copy_bytes-end : goal.slice_bounds-copy_bytes-end
slice_bounds-copy_bytes-end c = let i = read_inside _ _ _ (sym c.in_ok-may_read.ensures) in omega (arith, i.0, c.four_at-m.ensures.0)

pub copy_bytes-requires : goal.copy_bytes-requires
copy_bytes-requires c =
    let i = read_inside _ _ _ (sym c.in_ok-may_read.ensures) in
    let m = c.four_at-m.result in
    omega (
      arith,
      i.1,
      c.four_at-m.ensures.0,
      length-take-le (4 + m - 4) (drop 4 c.args.block.now) (omega (arith, i.0, c.four_at-m.ensures.0, length-drop {A = ℕ} 4 c.args.block.now)),
    )

pub returns : goal.returns
unfolding part
returns c =
    let a = c.args in
    let m = c.four_at-m.result in
    let e : 4 + m - 4 ≡ m = omega arith in
    subst (λ (b : Table). read_out (sized 0 m) c.copy_bytes.new.dst ≡ read_of b a.block.now a.message.now) c.in_ok-b.ensures
    (read_done _ _ _ (sym c.in_ok-may_read.ensures) m _ c.four_at-m.ensures.0 (c.copy_bytes.ensures ∙ ap (λ (n : ℕ). put 0 (take n (drop 4 a.block.now)) a.message.now) e))
