use mathlib.Core.Path.{◌≡◌, refl, sym, subst}
use native.Mathlib.Omega.{arith}
use native.Mathlib.Nat as N
use Rattle.std.proofs.lemmas.Result.{err_from_is_err_and}
use Rattle.refusal.specs.Answers.{sized}
use Rattle.table.specs.declared.Table.{Table}
use Rattle.table.proofs.Within.{within}
use Rattle.code_calls.specs.Encoding.{encoded, encode_of}
use Rattle.code_calls.proofs.Numbers.{number_some}
use Rattle.code_calls.proofs.Taken.{encode_taken, encode_outside, encode_refused, encode_rows, encode_area, encode_rooms, encode_made}
use Rattle.code_calls.proofs.encode.Goals as goal

pub returns-in_err-b : goal.returns-in_err-b
returns-in_err-b c =
    let h = c.in_err-b.ensures in
    let p = err_from_is_err_and c.from_residual.result c.from_residual.ensures.1 in
    rw (p.1, p.2, h.0) (encode_refused _ _ _ _ _ 1 (λ z. absurd (omega arith)) (encode_outside _ _ _ _ _ h.1))

pub returns-in_err-may_encode : goal.returns-in_err-may_encode
returns-in_err-may_encode c =
    let e = c.in_err-may_encode.field-0.0 in
    let p = err_from_is_err_and c.from_residual-in_err-may_encode.result c.from_residual-in_err-may_encode.ensures.1 in
    rw (p.1, p.2) (encode_refused _ _ _ _ _ _ (number_some e) (rw c.in_ok-b.ensures at c.in_err-may_encode.ensures))

pub row_count-len-requires : goal.row_count-len-requires
row_count-len-requires c =
    let t = encode_taken _ _ _ _ _ (sym c.in_ok-may_encode.ensures) in
    (N.le_trans t.fits (within _ c.in_ok-b.b.within).short, c.fragments_needed-k.ensures.1, c.fragments_needed-k.ensures.3)

pub put_fragments-requires : goal.put_fragments-requires
put_fragments-requires c =
    let z = sym c.in_ok-may_encode.ensures in
    let w = within _ c.in_ok-b.b.within in
    let k = c.fragments_needed-k.ensures in
    let s = c.fragment_most-most.ensures in
    (N.le_trans (encode_taken _ _ _ _ _ z).fits w.short, k.1, w.few, k.2, encode_rows _ _ _ _ _ z _ _ _ k.0 s.0 c.row_count-len.ensures, s.1, encode_area _ _ _ _ _ z _ _ _ k.0 s.0 c.row_count-len.ensures)

pub write_tree-requires : goal.write_tree-requires
write_tree-requires c =
    let z = sym c.in_ok-may_encode.ensures in (
      encode_rooms _ _ _ _ _ z _ _ _ c.fragments_needed-k.ensures.0 c.fragment_most-most.ensures.0 c.row_count-len.ensures _ _ c.put_fragments.auto.area refl,
      (encode_taken _ _ _ _ _ z).root_room,
    )

pub overflow_cast-result : goal.overflow_cast-result
overflow_cast-result c =
    let z = sym c.in_ok-may_encode.ensures in
    let s = c.fragment_most-most.ensures in
    omega (arith, c.row_count-len.ensures, s.1, encode_rows _ _ _ _ _ z _ _ _ c.fragments_needed-k.ensures.0 s.0 c.row_count-len.ensures)

pub returns : goal.returns
returns c =
    let a = c.args in
    let w = c.write_tree in
    subst (λ (b : Table). encoded (sized 0 c.row_count-len.result) c.put_fragments.new.area w.new.root w.new.paths ≡ encode_of b a.message.now a.area.now a.root.now a.paths.now) c.in_ok-b.ensures
    (encode_made _ _ _ _ _ (sym c.in_ok-may_encode.ensures) _ _ _ c.fragments_needed-k.ensures.0 c.fragment_most-most.ensures.0 c.row_count-len.ensures _ _ _
    c.put_fragments.ensures w.ensures.0 w.ensures.1)
