use Rattle.std.proofs.lemmas.Bool.{false≢true}
use Rattle.table_rules.proofs.AskLemmas.{none_noted, all_noted}
use Rattle.table_rules.proofs.asked.note_column.Goals as goal

pub returns-then-not-is_method-clause-here : goal.returns-then-not-is_method-clause-here
returns-then-not-is_method-clause-here c =
    let x = c.args.columns.now in
    λ k lt. none_noted c.args.facts.now x.asked.items x.hidden.items c.args.d (λ m. absurd (false≢true (c.if-not-is_method.ensures.1 m))) k

pub returns-clause-here : goal.returns-clause-here
returns-clause-here c =
    let here = rw (c.numbers_at.ensures, c.place_of-at.ensures, c.slot_of.ensures) at c.note_each.ensures.here in
    let new = c.note_each.new.columns in
    all_noted c.args.facts.now new.asked.items new.hidden.items c.args.d c.args.methods.now c.requires.methods here
