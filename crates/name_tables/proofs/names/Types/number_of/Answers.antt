use Rattle.std.proofs.Common.{ap, ◌∙◌}
use Rattle.std.specs.Prelude.{position, string_bytes}
use Rattle.std.specs.Str.{bytes_eq}
use Rattle.std.specs.Map.{keys_of}
use Rattle.name_laws.specs.Names.{number_of}
use Rattle.name_tables.proofs.TypeTable.{found}
use Rattle.name_tables.proofs.names.Types.number_of.Goals as goal

pub returns : goal.returns
returns c = record {
  value =
      c.get_index_of.ensures.index ∙ ap (λ z. position (λ s. bytes_eq z (string_bytes s)) (keys_of c.self.inside.kinds.entries)) c.as_str.ensures.value
      ∙ found c.args.name.now c.self.inside.kinds.entries ∙ ap (λ z. number_of z c.args.name.now) c.self.view_is;
}
