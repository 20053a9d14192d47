-- The lists of the facts, each by what is said of it.
use Rattle.std.proofs.Common.{ap, ◌∙◌}
use Rattle.flow_rules.specs.Lists.{news_of, flows_of, loads_of, stores_of, casts_of, accesses_of, supers_of, ties_of}
use Rattle.flow_rules.specs.Spots.{numbered_spots}
use Rattle.flow_facts.proofs.Along.{same_set}
use Rattle.flow_facts.proofs.Whole.{rows_whole, columns_whole, sites_whole, points_whole, bodies_whole, set_whole, calls_whole, tests_whole, marks_whole}
use Rattle.flow_facts.proofs.assembled.assemble.Goals as goal

pub returns : goal.returns
returns c = λ P n s.
    let d = c.args.numbered in
    let t = s.tables in
    let l = s.lists in
    let h = l.unordered in (
      record {
        rows = rows_whole P d n _ t.rows;
        columns = columns_whole P d n _ t.columns;
        sites = sites_whole P d n _ t.sites;
        classes = s.texts.classes;
        points = points_whole P d n _ t.points;
        cells = n.cells;
        news = set_whole P d n (λ N b. news_of N b.number) _ h.news;
        flows = set_whole P d n (λ N b. flows_of N b.number) _ h.flows;
        loads = set_whole P d n (λ N b. loads_of N) _ h.loads;
        stores = set_whole P d n (λ N b. stores_of N) _ h.stores;
        bodies = bodies_whole P d n _ t.bodies;
        calls = calls_whole P d n _ l.calls;
        casts = set_whole P d n (λ N b. casts_of N) _ h.casts;
        accesses = set_whole P d n (λ N b. accesses_of N) _ h.accesses;
        supers = set_whole P d n (λ N b. supers_of N b.number) _ h.supers;
        ties = set_whole P d n (λ N b. ties_of N P b.number b.slot) _ h.ties;
        tests = tests_whole P d n _ l.tests;
        makers = s.texts.makers;
        makes = s.texts.makes;
        spots = s.spots ∙ ap (numbered_spots 0 0) (marks_whole P d n _ l.marks);
      },
      record { words = s.texts.words; vars = same_set s.texts.variables },
    )
