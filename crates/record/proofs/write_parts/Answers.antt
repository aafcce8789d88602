use lib.ListN.{length-set}
use native.Mathlib.Omega.{arith}
use Rattle.octets.proofs.Laws.{length_put}
use Rattle.record.proofs.Writes.{written}
use Rattle.record.proofs.write_parts.Goals as goal

pub bounds-out-1 : goal.bounds-out-1
bounds-out-1 c = simp length-set (omega arith)

pub bounds-out-2 : goal.bounds-out-2
bounds-out-2 c = simp length-set (omega arith)

pub copy_at-requires : goal.copy_at-requires
copy_at-requires c = simp length-set (omega arith)

pub put_two-requires : goal.put_two-requires
put_two-requires c = rw c.copy_at.ensures (simp (length_put, length-set) (omega arith))

pub copy_bytes-requires : goal.copy_bytes-requires
copy_bytes-requires c = rw (c.put_two.ensures, c.copy_at.ensures) (simp (length_put, length-set) (omega arith))

pub put_two-requires-2 : goal.put_two-requires-2
put_two-requires-2 c = rw (c.copy_bytes.ensures, c.put_two.ensures, c.copy_at.ensures) (simp (length_put, length-set) (omega arith))

pub copy_bytes-requires-2 : goal.copy_bytes-requires-2
copy_bytes-requires-2 c =
    rw (c.put_two-2.ensures, c.copy_bytes.ensures, c.put_two.ensures, c.copy_at.ensures)
    (simp (length_put, length-set) (omega arith))

pub shape_of-out : goal.shape_of-out
shape_of-out c =
    rw (
      c.copy_bytes-2.ensures,
      c.put_two-2.ensures,
      c.copy_bytes.ensures,
      c.put_two.ensures,
      c.copy_at.ensures,
    )
    (simp (length_put, length-set))

pub returns : goal.returns
returns c =
    let p = c.requires in
    rw (
      ← c.number.ensures,
      c.copy_bytes-2.ensures,
      c.put_two-2.ensures,
      c.copy_bytes.ensures,
      c.put_two.ensures,
      c.copy_at.ensures,
    )
    (written _ _ _ _ _ _ p.root_len p.path_len)
