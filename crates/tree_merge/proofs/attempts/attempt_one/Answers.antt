use Rattle.std.proofs.Common.{sym, ◌∙◌}
use Rattle.tree_merge.proofs.AttemptLemmas.{same_outcome, joins_nodes, of_try, is_accepted, was_known}
use Rattle.tree_merge.proofs.attempts.attempt_one.Goals as goal

pub join-requires-clause-tests : goal.join-requires-clause-tests
join-requires-clause-tests c = record {
  range = c.requires.given.range;
  sets = c.requires.given.sets;
  index = c.requires.given.index;
  clashes = c.requires.names;
}

pub join-requires-clause-join : goal.join-requires-clause-join
join-requires-clause-join c = joins_nodes c.args.given.now.facts.now c.args.given.now.sets.now c.args.edit.now c.requires.edit.is

pub broken_of-requires : goal.broken_of-requires
broken_of-requires c = of_try c.args.given.now.facts.now c.args.given.now.sets.now c.args.hier.now c.args.edit.now c.requires.edit c.in-Err.fault
    c.in-Err.ensures.refused

pub returns-in-Ok-clause-attempt : goal.returns-in-Ok-clause-attempt
returns-in-Ok-clause-attempt c =
    let F = c.args.given.now.facts.now in
    let pt = c.args.given.now.sets.now in
    let H = c.args.hier.now in
    let e = c.args.edit.now in
    is_accepted F pt H c.join.new.hier c.requires.hierarchy.sized.order e c.requires.edit
    (sym (same_outcome F pt H e c.requires.edit.is) ∙ c.in-Ok.ensures.accepted)

pub keep_known-requires-clause-join : goal.keep_known-requires-clause-join
keep_known-requires-clause-join c = joins_nodes c.args.given.now.facts.now c.args.given.now.sets.now c.args.edit.now c.requires.edit.is

pub keep_known-requires-clause-known : goal.keep_known-requires-clause-known
keep_known-requires-clause-known c = (
  c.args.given.now.facts.now,
  c.requires.given.range,
  c.join.ensures.is,
  was_known c.args.given.now.facts.now c.args.given.now.sets.now c.args.hier.now c.join.new.hier c.requires.hierarchy c.args.edit.now
      c.in-Ok.ensures.accepted c.args.known.now c.requires.known,
)

pub returns-in-Ok-clause-known : goal.returns-in-Ok-clause-known
returns-in-Ok-clause-known c = c.keep_known.ensures c.args.given.now.facts.now c.requires.given.range c.join.ensures.is
    (was_known c.args.given.now.facts.now c.args.given.now.sets.now c.args.hier.now c.join.new.hier c.requires.hierarchy c.args.edit.now
    c.in-Ok.ensures.accepted c.args.known.now c.requires.known)
