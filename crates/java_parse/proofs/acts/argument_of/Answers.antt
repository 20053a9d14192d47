use Rattle.std.proofs.Common.{rules, vec_len}
use Rattle.java_parse.proofs.Printing.{argument_is}
use Rattle.java_parse.proofs.acts.argument_of.Goals as goal

pub returns-in-Call : goal.returns-in-Call
returns-in-Call c = record {
  value = argument_is c.in-Call._base c.in-Call._name c.in-Call.args (vec_len c.in-Call.args) c.last_of.result c.in-Call.is
      (search rules) c.last_of.ensures.last c.last_of.ensures.variant.0;
}
