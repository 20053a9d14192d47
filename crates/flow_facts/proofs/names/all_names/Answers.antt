-- The names of all, one kind after the other.
use Rattle.std.proofs.Common.{◌++◌, ap, ◌∙◌, drop, map}
use Rattle.std.specs.List.{flat_map}
use Rattle.java_core.specs.Programs.{PlainClass, PlainField, program_of}
use Rattle.flow_rules.specs.Facts.{method_names, maker_names}
use Rattle.flow_facts.proofs.names.all_names.Goals as goal

pub returns : goal.returns
returns c =
    let P = program_of c.args.program.now in
    let types = map (λ (k : PlainClass). k.name) (drop 1 P.classes) in
    let fields = map (λ (f : PlainField). f.name) P.fields in
    let methods = flat_map method_names P.methods in
    let makers = flat_map maker_names P.methods in
    record {
      value =
          c.in-Ok-add_makers.ensures.value ∙ ap (λ l. l ++ makers) (c.in-Ok-add_methods.ensures.value
          ∙ ap (λ l. l ++ methods) (c.in-Ok-add_fields.ensures.value
          ∙ ap (λ l. l ++ fields) (c.in-Ok.ensures.value ∙ ap (λ l. l ++ types) c.new-names.ensures.items)));
    }
