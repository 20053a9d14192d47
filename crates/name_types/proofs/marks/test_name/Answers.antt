use Rattle.name_types.proofs.MarkLemmas.{alike-tested}
use Rattle.name_types.proofs.marks.test_name.Goals as goal

pub returns-then-are_alike : goal.returns-then-are_alike
returns-then-are_alike c =
    let a = c.are_alike.ensures c.if-are_alike.true in
    record { tested = alike-tested c.args.rows.now c.args.all.now.items c.args.list.now a.0 a.1 a.2 c.args.suspects.now; kept = λ i e. e }
