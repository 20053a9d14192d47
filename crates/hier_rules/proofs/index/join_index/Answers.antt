use Rattle.std.proofs.Common.{get_or, length, subst}
use Rattle.hier_rules.specs.Touched.{is_at_place}
use Rattle.hier_rules.specs.Index.{AreTestRows}
use Rattle.hier_rules.proofs.index.join_index.Goals as goal

pub returns : goal.returns
returns c =
    let F = c.args.asked.now.facts.now in
    record {
      needs = c.in_ok-needs.ensures;
      rivals = c.in_ok-rivals.ensures;
      supers = c.in_ok-supers.ensures;
      sorted = c.in_ok-places.ensures.sorted;
      places = c.in_ok-places.ensures.places;
      sites = subst (λ ps. AreTestRows (length ps) (length F.sites.items) (λ k. is_at_place F c.args.asked.now.pt.now (get_or ps k 0))
          c.in_ok-sites.sites.items) c.deref.ensures.value c.in_ok-sites.ensures;
    }
