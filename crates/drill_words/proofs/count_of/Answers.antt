use Rattle.std.proofs.Common.{◌≡◌, rules, sym, ◌∙◌}
use Rattle.std.proofs.iter.runs.Made.{chains}
use Rattle.std.proofs.lemmas.List.Sums.{count_by-le-length}
use Rattle.std.specs.Prelude.{eqb, count_by}
use Rattle.drill_words.proofs.Counting.{count_is}
use Rattle.drill_words.proofs.count_of.Goals as goal

pub returns : goal.returns
returns c =
    let e : c.count.result ≡ count_by (λ x. eqb x c.args.c) c.args.s.now = search (rules, chains) in
    (e ∙ sym (count_is _ _), rw e (count_by-le-length _ _))
