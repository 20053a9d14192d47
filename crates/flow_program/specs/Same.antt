-- Mirror. When two answers for a program are the same: the same lists, some of which are read as sets.
use Rattle.std.specs.Prelude.{◌≡◌, map}
use Rattle.std.specs.Option.{option_map}
use Rattle.fact_model.specs.declared.facts.Facts.{Facts}
use Rattle.flow_rules.specs.Facts.{IsSameSet, body_seen, call_seen, class_seen, make_seen, makers_seen}

-- two answers have the same rows, columns, sites, classes, points, cells, bodies and further lists
pub record AreSameFacts (F G : Facts) : Type 0 where
  pub rows : F.rows.items ≡ G.rows.items
  pub columns : F.columns.items ≡ G.columns.items
  pub sites : F.sites.items ≡ G.sites.items
  pub classes : map class_seen F.classes.items ≡ map class_seen G.classes.items
  pub points : F.points.items ≡ G.points.items
  pub cells : F.cells.items ≡ G.cells.items
  pub bodies : map body_seen F.bodies.items ≡ map body_seen G.bodies.items
  pub calls : map call_seen F.calls.items ≡ map call_seen G.calls.items
  pub tests : F.tests.items ≡ G.tests.items
  pub makers : option_map makers_seen F.makers ≡ option_map makers_seen G.makers
  pub makes : map make_seen F.makes.items ≡ map make_seen G.makes.items
  pub spots : F.spots.items ≡ G.spots.items
  pub words : F.words.items ≡ G.words.items
  -- the lists that are read as sets
  pub news : IsSameSet F.news.items G.news.items
  pub flows : IsSameSet F.flows.items G.flows.items
  pub loads : IsSameSet F.loads.items G.loads.items
  pub stores : IsSameSet F.stores.items G.stores.items
  pub casts : IsSameSet F.casts.items G.casts.items
  pub accesses : IsSameSet F.accesses.items G.accesses.items
  pub supers : IsSameSet F.supers.items G.supers.items
  pub ties : IsSameSet F.ties.items G.ties.items
  pub vars : IsSameSet F.vars.items G.vars.items
