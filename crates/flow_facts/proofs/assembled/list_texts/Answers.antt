-- What each step lists.
use Rattle.std.proofs.Common.{ap, map, ◌∙◌}
use Rattle.std.specs.List.{flat_map}
use Rattle.java_core.specs.Programs.{program_of}
use Rattle.flow_rules.specs.Facts.{make_of}
use Rattle.flow_facts.specs.Fixed.{fixed_seen}
use Rattle.flow_facts.proofs.assembled.list_texts.Goals as goal

pub returns : goal.returns
returns c =
    let fixed = c.in-Ok-words.ensures.fixed in
    record {
      classes = c.in-Ok.ensures.value;
      words = c.in-Ok-words.ensures.words;
      variables = c.in-Ok-variables.ensures.value;
      fixed = fixed;
      makers = c.in-Ok-makers_of.ensures.value (program_of c.args.program.now) (ap (map fixed_seen) c.as_slice-2.ensures.value ∙ fixed);
      makes = c.in-Ok-makes_of.ensures.value ∙ ap (flat_map make_of) (ap (map fixed_seen) c.as_slice.ensures.value ∙ fixed);
    }
