use Rattle.std.proofs.Common.{ap, ◌∙◌}
use Rattle.std.specs.Prelude.{string_bytes}
use Rattle.std.specs.Map.{lookup}
use Rattle.std.specs.Str.{bytes_eq}
use Rattle.name_tables.specs.declared.scope.Block.{out-Block}
use Rattle.name_tables.proofs.ScopeTable.{own_found}
use Rattle.name_tables.proofs.scope.Block.own_number.Goals as goal

pub returns : goal.returns
returns c =
    c.copied.ensures ∙ c.get.ensures.value
    ∙ ap (λ z. lookup (λ s. bytes_eq z (string_bytes s)) (out-Block c.args.self.now).own.entries) c.as_str.ensures.value
    ∙ own_found c.args.name.now c.args.self.now
