use Rattle.std.proofs.Common.{ap, sym, ◌∙◌}
use Rattle.name_rules.specs.Meanings.{local_of}
use Rattle.name_tables.specs.Scopes.{own_bounds, bounds_in}
use Rattle.java_core.specs.Classes.{first_or}
use Rattle.name_tables.proofs.ScopeTable.{in_both, within}
use Rattle.name_tables.proofs.scope.Block.+number_of.Goals as goal

pub returns-in-Some-number_of : goal.returns-in-Some-number_of
returns-in-Some-number_of t c =
    ap (λ o. first_or o (local_of c.args.name.now (own_bounds c.args.self.now))) (sym c.in-Some-number_of.is ∙ c.number_of.ensures)
    ∙ sym (ap (local_of c.args.name.now) (within c.args.self.now c.in-Some.outer.now _ c.in-Some.is)
    ∙ in_both c.args.name.now (bounds_in c.in-Some.outer.now) (own_bounds c.args.self.now))

pub returns-in-None-number_of : goal.returns-in-None-number_of
returns-in-None-number_of t c =
    c.own_number.ensures
    ∙ ap (λ o. first_or o (local_of c.args.name.now (own_bounds c.args.self.now))) (sym c.in-None-number_of.is ∙ c.number_of.ensures)
    ∙ sym (ap (local_of c.args.name.now) (within c.args.self.now c.in-Some.outer.now _ c.in-Some.is)
    ∙ in_both c.args.name.now (bounds_in c.in-Some.outer.now) (own_bounds c.args.self.now))
