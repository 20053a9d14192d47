use Rattle.std.proofs.Common.{◌≡◌, true, length, sym, subst}
use Rattle.kaba_bits.specs.Sets.{ListsBelow}
use Rattle.hier_rules.specs.Namesakes.{is_taken_field}
use Rattle.hier_rules.proofs.names.first_taken.Goals as goal

pub first_taken_field-requires-clause-list : goal.first_taken_field-requires-clause-list
first_taken_field-requires-clause-list c =
    let F = c.args.asked.now.facts.now in
    let H = c.args.asked.now.hier.now in
    subst (λ l. ListsBelow (λ k. is_taken_field F H k ≡ true) (length F.columns.items) l) (sym c.deref.ensures.value) c.in_ok-fields.ensures
