-- `code_encode::put_fragment` meets its contract.
-- Assumes nothing.
use Rattle.code_encode.proofs.Patches.{patch_put}
use Rattle.code_encode.proofs.put_fragment.Goals as goal

pub returns : goal.returns
returns c =
    let a = c.args in
    let p = c.requires in
    let e = c.encode_some in
    patch_put a.k a.at a.i c.row_count.result a.message.now a.area.now e.new.area p.1 p.5 e.auto.area e.ensures
