-- Each list by what its own step ensures.
use Rattle.flow_facts.proofs.Passed.{on_ok}
use Rattle.flow_facts.proofs.gathering.add_part.Goals as goal

pub returns : goal.returns
returns c = on_ok c.add_ties.result (λ h. record {
  news = c.in-Ok.ensures.value;
  flows = c.in-Ok-add_flows.ensures.value;
  loads = c.in-Ok-add_loads.ensures.value;
  stores = c.in-Ok-add_stores.ensures.value;
  casts = c.in-Ok-add_casts.ensures.value;
  tests = c.in-Ok-add_tests.ensures.value;
  accesses = c.in-Ok-add_accesses.ensures.value;
  supers = c.in-Ok-add_supers.ensures.value;
  ties = h;
  calls = c.in-Ok-add_calls.ensures.value;
  marks = c.in-Ok-add_marks.ensures.value;
}) c.add_ties.ensures.value
