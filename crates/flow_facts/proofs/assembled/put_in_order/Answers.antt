-- The calls and the tests by their place, and the rest as it was.
use Rattle.std.proofs.Common.{ap, ◌∙◌, map}
use Rattle.flow_rules.specs.Ordered.{by_place}
use Rattle.flow_facts.specs.Seen.{calls_seen}
use Rattle.flow_facts.proofs.assembled.put_in_order.Goals as goal

pub returns : goal.returns
returns c = λ N P bs g.
    record {
      unordered = g.unordered;
      calls = c.in-Ok.ensures.value ∙ ap (λ l. map (λ c. c.item) (by_place (λ c. c.place.at) l))
          (ap (λ v. calls_seen v.items) c.replace-calls.ensures.value ∙ g.calls);
      tests = c.in-Ok-by_place.ensures.value ∙ ap (by_place (λ t. t.place.at)) (ap (λ v. v.items) c.replace-tests.ensures.value ∙ g.tests);
      marks = c.in-Ok-by_place-2.ensures.value ∙ ap (by_place (λ x. x.place.at)) (ap (λ v. v.items) c.replace-marks.ensures.value ∙ g.marks);
    }
