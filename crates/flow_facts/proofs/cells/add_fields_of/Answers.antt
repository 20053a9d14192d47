-- What the table has for the class.
use Rattle.std.proofs.Common.{◌++◌, ap, ◌∙◌, map}
use Rattle.flow_facts.specs.Seen.{field_cell_seen}
use Rattle.flow_facts.proofs.Passed.{on_ok}
use Rattle.flow_facts.proofs.cells.add_fields_of.Goals as goal

pub returns : goal.returns
returns c =
    record {
      value = on_ok c.add_all.result (λ h. h ∙ ap (λ l. map field_cell_seen c.args.found.now.items ++ l) c.fields_in-fields.ensures.value)
          c.add_all.ensures.value;
    }
