use Rattle.std.proofs.Common.{◌&&◌, [], refl, sym, ap, ◌∙◌}
use Rattle.std.specs.Str.{bytes_eq}
use Rattle.java_core.specs.Owned.{first_among}
use Rattle.name_laws.specs.Tables.{is_above, method_met}
use Rattle.name_laws.proofs.Runs.{position-from}
use Rattle.name_tables.proofs.SpotLemmas.{among}
use Rattle.name_bodies.proofs.tables.method_met.Goals as goal

pub returns : goal.returns
unfolding method_met
returns c =
    c.met_among.ensures ∙ ap (first_among (λ h. is_above c.args.tables.now.above c.args.class h.owner) c.args.tables.now.declared.headings.items)
    (c.at-list.ensures ∙ c.args.tables.now.found.methods.exact c.args.name.now)
    ∙ among (λ h. h.name) (λ h. is_above c.args.tables.now.above c.args.class h.owner) c.args.name.now [] c.args.tables.now.declared.headings.items 0
    refl ∙ sym (position-from (λ h. is_above c.args.tables.now.above c.args.class h.owner && bytes_eq h.name c.args.name.now)
    c.args.tables.now.declared.headings.items)
