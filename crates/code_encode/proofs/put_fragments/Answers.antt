-- `code_encode::put_fragments` meets its contract.
-- Assumes nothing.
use Rattle.code_encode.proofs.Patches.{patch_places}
use Rattle.code_encode.proofs.put_fragments.Goals as goal

pub returns : goal.returns
returns c =
    let a = c.args in
    let p = c.requires in
    let e = c.encode_some in
    patch_places a.n a.k a.s a.message.now a.area.now e.new.area p.1 p.4 p.6 e.auto.area e.ensures
