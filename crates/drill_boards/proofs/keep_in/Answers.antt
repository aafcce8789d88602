use mathlib.Core.Path.{ap, ◌∙◌}
use Prim.Native.Nat.{◌+◌, ◌*◌}
use lib.ListN.{length}
use Rattle.octets.specs.Bytes.{put, two}
use Rattle.octets.proofs.Laws.{put_put}
use Rattle.drill_boards.proofs.keep_in.Goals as goal

pub returns : goal.returns
returns c =
    let a = c.args in
    c.copy_bytes.ensures ∙ ap (put (a.j * 1024 + 2) a.r.now) c.put_two.ensures ∙ put_put (two (length a.r.now)) a.r.now a.kept.now (a.j * 1024)
