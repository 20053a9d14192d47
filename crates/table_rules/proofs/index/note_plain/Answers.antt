use Rattle.std.proofs.Common.{subst, sym, refl}
use Rattle.kaba_bits.specs.Sets.{IsEmpty}
use Rattle.table_rules.specs.Asked.{IsPlain}
use Rattle.table_rules.proofs.IndexLemmas.{plain-more}
use Rattle.table_rules.proofs.index.note_plain.Goals as goal

pub returns-then-is_empty : goal.returns-then-is_empty
returns-then-is_empty c =
    let F = c.args.facts.now in
    let empty = subst IsEmpty c.row_at.ensures (c.if-is_empty.ensures.empty.0 refl) in
    subst (IsPlain F) (sym c.set.ensures.after)
    (plain-more F c.args.hidden.now c.requires.hidden c.args.plain.now c.requires.plain c.args.d c.requires.column empty)
