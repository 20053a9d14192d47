use Rattle.std.proofs.Common.{None, arith, length, ap}
use Rattle.fact_model.specs.declared.facts.Facts.{Facts}
use Rattle.show_facts.proofs.Ranges.{in_range}
use Rattle.show_facts.proofs.drawn.facts.Goals as goal

pub returns : goal.returns
returns c =
    let facts : Facts = record {
      rows = c.in_ok-rows.field-0;
      columns = c.new.result;
      sites = c.in_ok-sites.field-0;
      classes = c.in_ok-classes.field-0;
      points = c.in_ok-points.field-0;
      cells = c.new-2.result;
      news = c.in_ok-news.field-0;
      flows = c.in_ok-flows.field-0;
      loads = c.new-3.result;
      stores = c.new-4.result;
      bodies = c.new-5.result;
      calls = c.new-6.result;
      casts = c.new-7.result;
      accesses = c.new-8.result;
      supers = c.new-9.result;
      ties = c.new-10.result;
      tests = c.new-11.result;
      words = c.new-12.result;
      vars = c.new-13.result;
      makers = None;
      makes = c.new-14.result;
      spots = c.new-15.result;
    } in
    in_range facts (record {
      rows = c.in_ok-rows.ensures;
      classes = c.in_ok-classes.ensures;
      points = c.in_ok-points.ensures;
      sites = c.in_ok-sites.ensures;
      news = c.in_ok-news.ensures;
      flows = c.in_ok-flows.ensures;
      none = omega (
        arith,
        ap length c.new.ensures.items,
        ap length c.new-2.ensures.items,
        ap length c.new-3.ensures.items,
        ap length c.new-4.ensures.items,
        ap length c.new-5.ensures.items,
        ap length c.new-6.ensures.items,
        ap length c.new-7.ensures.items,
        ap length c.new-8.ensures.items,
        ap length c.new-9.ensures.items,
        ap length c.new-10.ensures.items,
        ap length c.new-11.ensures.items,
        ap length c.new-14.ensures.items,
      );
    })
