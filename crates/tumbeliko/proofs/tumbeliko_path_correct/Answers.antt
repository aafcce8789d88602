use Rattle.tumbeliko.proofs.tumbeliko_path_correct.Goals as goal

pub returns : goal.returns
returns c = c.correct.ensures
