use Rattle.std.proofs.Common.{◌||◌, map, Ok, sym, ap, ◌∙◌}
use Rattle.std.specs.Option.{is_some}
use Rattle.name_tables.specs.Known.{known_seen}
use Rattle.name_laws.specs.Names.{is_apart, number_of}
use Rattle.name_laws.specs.Classes.{know_named}
use Rattle.name_tables.proofs.TypeTable.{known-added}
use Rattle.name_tables.proofs.names.Types.add.Goals as goal

pub returns : goal.returns
returns c = record {
  value =
      ap (λ z. know_named z c.args.name.now c.args.is_interface c.args.place) (sym c.self.view_is)
      ∙ known-added c.args.name.now c.in_ok-text.text c.args.is_interface c.args.place c.self.inside.kinds.entries (c.in_ok-text.ensures.ok
      ∙ c.as_str.ensures.value)
      (ap (λ z. is_apart c.args.name.now || is_some (number_of z c.args.name.now)) c.self.view_is
      ∙ ap (λ z. z || is_some (number_of c.args.self.now c.args.name.now)) (sym c.in_ok-apart.ensures)
      ∙ ap (λ z. c.in_ok-apart.apart || is_some z) (sym c.number_of.ensures.value) ∙ ap (λ z. c.in_ok-apart.apart || z) (sym c.is_some.ensures)
      ∙ c.if-apart-is_some.false)
      ∙ ap (λ z. Ok (map known_seen z)) (sym c.in_ok-insert.ensures.entries);
}
