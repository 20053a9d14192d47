use Rattle.std.proofs.Common.{◌≡◌, drop}
use Rattle.name_laws.specs.Answers.{run}
use Rattle.name_laws.specs.Members.{param, params_of}
use Rattle.name_laws.specs.Resolved.{bounds_from}
use Rattle.name_tables.proofs.parameters.params_in.Given as goal

-- the parameters so far, which are in scope, and then the rest
abbrev pub invariant-loop-one : goal.invariant-loop-one
invariant-loop-one l = record {
  rest : run (param l.known) l.locals.items (drop l.one-index l.list) ≡ params_of l.known l.list;
  bound : l.scope ≡ bounds_from 0 l.locals.items;
}
