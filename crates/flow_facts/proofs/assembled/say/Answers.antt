-- What each step says.
use Rattle.std.proofs.Common.{ap, map, ◌∙◌}
use Rattle.flow_facts.specs.Fixed.{fixed_seen}
use Rattle.java_core.specs.Programs.{program_of}
use Rattle.flow_facts.proofs.Whole.{few_columns, few_sites}
use Rattle.flow_facts.proofs.assembled.say.Goals as goal

pub list_texts-requires : goal.list_texts-requires
list_texts-requires c = record {
  formed = c.requires.formed;
  sites = c.requires.numbered.sites;
  few = few_sites (program_of c.args.program.now) c.args.numbered.now c.requires.numbered;
}

pub list_tables-requires : goal.list_tables-requires
list_tables-requires c = record {
  few = few_columns (program_of c.args.program.now) c.args.numbered.now c.requires.numbered;
  fixed = ap (map fixed_seen) c.as_slice.ensures.value ∙ c.in-Ok.ensures.fixed;
}

pub returns : goal.returns
returns c = record {
  tables = c.in-Ok-list_tables.ensures;
  texts = c.in-Ok.ensures;
  lists = c.in-Ok-put_in_order.ensures _ _ _ c.in-Ok-gather.ensures;
  spots = c.in-Ok-spots_of.ensures.value;
}
