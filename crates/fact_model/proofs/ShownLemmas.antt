-- The solved sets are closed under each inclusion, and the rows' sets are their unions.
use Rattle.std.proofs.Common.{◌≡◌, ℕ, ◌<◌, true, List, [], ◌∷◌, length, Some, Contains, refl, subst}
use Rattle.std.specs.List.{AllByRecursion}
use Rattle.kaba_derivations.proofs.Derivations.{derivable_by, each_weaker}
use Rattle.kaba_bits.specs.Sets.{bit, row, IsSubset}
use Rattle.fact_model.specs.Items.{cell_at, point_row, site_class}
use Rattle.fact_model.specs.Classes.{IsBelow}
use Rattle.fact_model.specs.Flowing.{Fact, in_point, in_cell, IsCell, FitsStore, CallRuns, point_at, Inclusion, by_new, by_flow, by_load, by_store, by_this, by_argument, by_result, by_cast, Holds, IsInRow, by_point, by_cell, AreSets}
use Rattle.fact_model.specs.Closures.{shown, ShownInRow, in_a_point, in_a_cell, AreClosedSets}
use Rattle.fact_model.specs.declared.facts.Facts.{Facts}
use Rattle.fact_model.specs.declared.facts.NewInfo.{NewInfo}
use Rattle.fact_model.specs.declared.facts.FlowInfo.{FlowInfo}
use Rattle.fact_model.specs.declared.facts.LoadInfo.{LoadInfo}
use Rattle.fact_model.specs.declared.facts.StoreInfo.{StoreInfo}
use Rattle.fact_model.specs.declared.facts.CastInfo.{CastInfo}
use Rattle.fact_model.specs.declared.facts.CallInfo.{CallInfo}
use Rattle.fact_model.specs.declared.facts.BodyInfo.{BodyInfo}
use Rattle.fact_model.specs.declared.sets.PointsTo.{PointsTo}

module _ (F : Facts) (t : PointsTo) (S : AreSets F t) where
  pub shown-holds : (f : Fact) → shown t f ≡ true → Holds F f
  shown-holds (in_point p s) h = (S.points p s).0 h
  shown-holds (in_cell c s) h = (S.cells c s).0 h

  pub holds-shown : (f : Fact) → Holds F f → shown t f ≡ true
  holds-shown (in_point p s) h = (S.points p s).1 h
  holds-shown (in_cell c s) h = (S.cells c s).1 h

  -- what an inclusion gives of facts that are shown is shown
  pub included : (ps : List Fact) (f : Fact) → Inclusion F ps f → AllByRecursion (λ p. shown t p ≡ true) ps → shown t f ≡ true
  included ps f i h = holds-shown f (derivable_by (Inclusion F) ps f i (each_weaker (λ p. shown t p ≡ true) (Holds F) shown-holds ps h))

  in_row : (r s : ℕ) → ShownInRow F t r s → IsInRow F r s
  in_row r s (in_a_point p lt e h) = subst (λ v. IsInRow F v s) e (by_point p s lt ((S.points p s).0 h))
  in_row r s (in_a_cell c lt e h) = subst (λ v. IsInRow F v s) e (by_cell c s lt ((S.cells c s).0 h))

  of_row : (r s : ℕ) → IsInRow F r s → ShownInRow F t r s
  of_row r s (by_point p i lt h) = in_a_point p lt refl ((S.points p s).1 h)
  of_row r s (by_cell c i lt h) = in_a_cell c lt refl ((S.cells c s).1 h)

  pub closed_sets : AreClosedSets F t
  closed_sets = record {
    inclusions = included;
    rows = λ r s h. (S.rows r s).1 (in_row r s h);
    back = λ r s h. of_row r s ((S.rows r s).0 h);
  }

  -- the inclusions one by one, in terms of the sets
  abbrev InPoint : ℕ → ℕ → Type 0
  InPoint p s = bit (row t.points.items p) s ≡ true

  abbrev InCell : ℕ → ℕ → Type 0
  InCell c s = bit (row t.cells.items c) s ≡ true

  pub new_shown : (x : NewInfo) → Contains F.news.items x → InPoint x.point x.site.0
  new_shown x is = included [] (in_point x.point x.site.0) (by_new x is) tt

  pub flow_shown : (x : FlowInfo) → Contains F.flows.items x → IsSubset (row t.points.items x.from) (row t.points.items x.to)
  flow_shown x is s h = included (in_point x.from s ∷ []) (in_point x.to s) (by_flow x s is) (h, tt)

  pub load_shown : (x : LoadInfo) (c o : ℕ) → Contains F.loads.items x → IsCell F c o x.column → InPoint x.base o
      → IsSubset (row t.cells.items c) (row t.points.items x.into)
  load_shown x c o is cell base s h = included (in_point x.base o ∷ in_cell c s ∷ []) (in_point x.into s) (by_load x c o s is cell) (base, (h, tt))

  pub store_shown : (x : StoreInfo) (c o s : ℕ) → Contains F.stores.items x → IsCell F c o x.column → FitsStore F x.column s o → InPoint x.base o
      → InPoint x.value s → InCell c s
  store_shown x c o s is cell fits base h = included (in_point x.base o ∷ in_point x.value s ∷ []) (in_cell c s) (by_store x c o s is cell fits) (base, (h, tt))

  pub cast_shown : (x : CastInfo) (s : ℕ) → Contains F.casts.items x → IsBelow F (site_class F s) x.class.0 → InPoint x.from s → InPoint x.into s
  cast_shown x s is b h = included (in_point x.from s ∷ []) (in_point x.into s) (by_cast x s is b) (h, tt)

  pub this_shown : (call : CallInfo) (o : ℕ) (body : BodyInfo) → CallRuns F call o body → InPoint call.receiver o → InPoint body.this o
  this_shown call o body runs h = included (in_point call.receiver o ∷ []) (in_point body.this o) (by_this call o body runs) (h, tt)

  pub argument_shown : (call : CallInfo) (o : ℕ) (body : BodyInfo) (k from to : ℕ) → CallRuns F call o body
      → point_at call.args.items k ≡ Some from → point_at body.params.items k ≡ Some to → InPoint call.receiver o
      → IsSubset (row t.points.items from) (row t.points.items to)
  argument_shown call o body k from to runs a b h s k2 =
      included (in_point call.receiver o ∷ in_point from s ∷ []) (in_point to s) (by_argument call o body k from to s runs a b) (h, (k2, tt))

  pub result_shown : (call : CallInfo) (o : ℕ) (body : BodyInfo) (from to : ℕ) → CallRuns F call o body → body.result ≡ Some from
      → call.result ≡ Some to → InPoint call.receiver o → IsSubset (row t.points.items from) (row t.points.items to)
  result_shown call o body from to runs a b h s k =
      included (in_point call.receiver o ∷ in_point from s ∷ []) (in_point to s) (by_result call o body from to s runs a b) (h, (k, tt))

  -- a site in a point or in a cell is in the set of its row
  pub point_row_shown : (p : ℕ) → p < length F.points.items → IsSubset (row t.points.items p) (row t.rows.items (point_row F p))
  point_row_shown p lt s h = closed_sets.rows (point_row F p) s (in_a_point p lt refl h)

  pub cell_row_shown : (c : ℕ) → c < length F.cells.items → IsSubset (row t.cells.items c) (row t.rows.items (cell_at F c).row.0)
  cell_row_shown c lt s h = closed_sets.rows (cell_at F c).row.0 s (in_a_cell c lt refl h)
