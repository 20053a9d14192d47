use Rattle.std.proofs.Common.{refl, ap, ◌∙◌}
use Rattle.name_rules.specs.Meanings.{local_of}
use Rattle.name_rules.specs.Resolves.{bound}
use Rattle.name_tables.specs.declared.scope.Block.{out-Block}
use Rattle.name_tables.proofs.ScopeTable.{grown}
use Rattle.name_tables.proofs.scope.Scope.add.Goals as goal

pub returns : goal.returns
returns c = record {
  value =
      grown c.self.inside.block _ (record { own = c.insert.new.self; outer = (out-Block c.self.inside.block).outer }) c.args.name.now c.in_ok-text.text
      c.args.number refl c.in_ok-insert.ensures.entries (c.in_ok-text.ensures.ok ∙ c.as_str.ensures.value)
      (ap (local_of c.args.name.now) c.self.view_is ∙ c.requires.fresh)
      ∙ ap (λ z. bound z c.args.name.now c.args.number) c.self.view_is;
}
