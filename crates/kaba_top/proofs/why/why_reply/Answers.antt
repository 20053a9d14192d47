use Rattle.std.proofs.Common.{inr, refl}
use Rattle.kaba_top.proofs.WhyLemmas.{entry_there}
use Rattle.kaba_top.proofs.why.why_reply.Goals as goal

pub find_trail-requires : goal.find_trail-requires
find_trail-requires c = record {
  facts = c.requires.facts;
  sets = c.in_ok-sets.ensures.sets;
  table = c.in_ok-table.ensures.table;
  accesses = c.requires.order.bodies.accesses;
}

pub returns-in-Ok : goal.returns-in-Ok
returns-in-Ok c = inr (record {
  holds = entry_there c.args.facts.now c.in_ok-table.table c.in_ok-table.ensures.table c.args.asked.row c.args.asked.column c.find_trail.result
      c.in-Ok.trail c.in-Ok.is c.find_trail.ensures.absent;
  trail = c.in-Ok.trail;
  is = c.in-Ok.ensures.trail;
  gives = record { status_is = refl; out_is = c.in_ok-show-in-Ok.ensures; err_is = c.new.ensures.items };
})
