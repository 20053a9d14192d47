-- What the run of a typed program meets is as the report on its facts and their points-to sets says.
use Rattle.std.proofs.Common.{◌≡◌, ℕ, [], Option, Some, None, length, refl, sym, ap, ◌∙◌, subst, arith, not, ◌∷◌}
use Rattle.std.specs.Prelude.{◌<◌, ◌==◌, ◌||◌, Bool, true, false, Contains, slice_get, position}
use Rattle.std.specs.Option.{option_map_or, is_some}
use Rattle.std.proofs.lemmas.Bool.{false≢true, eqb-true, eq-eqb, and_parts, and_from}
use Rattle.std.proofs.lemmas.List.Elements.{All-contains, All-filter, filter_passes}
use Rattle.kaba_bits.specs.Sets.{bit, row}
use Rattle.java_core.specs.Trees.{Ex, call, cast}
use Rattle.java_core.specs.Programs.{Plain, PlainMethod}
use Rattle.java_core.specs.Classes.{below}
use Rattle.java_core.specs.Types.{class_type, is_subtype}
use Rattle.java_core.proofs.Subclasses.{subclass-below}
use Rattle.java_core.specs.Typing.{IsTyped}
use Rattle.java_core.specs.Formed.{IsFormed}
use Rattle.java_meaning.specs.Moment.{Value, Object, Spot, self_of, touched, tested, ran, Met}
use Rattle.java_meaning.specs.Values.{same_bool}
use Rattle.fact_model.specs.Items.{point_row, site_at, site_class, column_kind}
use Rattle.fact_model.specs.Classes.{IsBelow, finds}
use Rattle.fact_model.specs.Flowing.{by_point, AreSets}
use Rattle.fact_model.specs.declared.facts.Facts.{Facts}
use Rattle.fact_model.specs.declared.facts.BodyInfo.{BodyInfo}
use Rattle.fact_model.specs.declared.facts.CallInfo.{CallInfo}
use Rattle.fact_model.specs.declared.facts.TestInfo.{TestInfo}
use Rattle.fact_model.specs.declared.facts.Spot.{Spot as FactSpot}
use Rattle.fact_model.specs.declared.facts.SpotKind.{SpotKind}
use Rattle.fact_model.specs.declared.facts.SpotKind.TheVariants as spot
use Rattle.fact_model.specs.declared.facts.ColKind.TheVariants.{Fld, Def}
use Rattle.fact_model.specs.declared.sets.PointsTo.{PointsTo}
use Rattle.flow_rules.specs.declared.items.Column.{Column}
use Rattle.flow_rules.specs.declared.items.ColumnItem.{ColumnItem}
use Rattle.flow_rules.specs.declared.items.ColumnItem.TheVariants as column
use Rattle.flow_rules.specs.declared.items.PointItem.TheVariants as point
use Rattle.flow_rules.specs.Lists.{point_at, site_in}
use Rattle.flow_rules.specs.Numbered.{columns_of, column_number, point_number}
use Rattle.flow_rules.specs.Facts.{PlainBody, numbers, body_seen, body_if, column_body, param_points, IsFactsOf, is_marked}
use Rattle.flow_rules.proofs.Listed.{one, one_from, flat_from, contains_at, below_at, index_at, map_has, map_from, each_has, when_from}
use Rattle.flow_rules.proofs.NumberedItems.{numbered_columns}
use Rattle.flow_laws.specs.cover.Covers.{solved, passes, operand_at, at_point, point_sites}
use Rattle.flow_laws.specs.cover.Families.{Family}
use Rattle.java_meaning.specs.Meaning.{is_number_type}
use Rattle.flow_laws.proofs.cover.Included.{site_as, accesses_as, accessed_as, same_number, tests_as, finds_as, strictly, typed_sites, family}
use Rattle.flow_laws.proofs.cover.Solved.{solved_closed}
use Rattle.flow_laws.proofs.order.Classes.{below_subclass}
use Rattle.flow_laws.proofs.order.Columns.{Stands, for_field, for_declaration, for_body, for_mark, column_stands, numbered_column}
use Rattle.flow_laws.proofs.cover.Flows.{at_is}
use Rattle.flow_laws.proofs.order.Points.{item_point}
use Rattle.flow_laws.proofs.order.Pointed.{point_item_of}
use Rattle.flow_rules.specs.Parts.{parts_of}
use Rattle.sure_report.specs.declared.Bodies.{Bodies}
use Rattle.sure_report.specs.declared.Bodies.TheVariants.{Zero, One, Many}
use Rattle.sure_report.specs.declared.Sure.{Sure}
use Rattle.sure_report.specs.Report.{is_cast, cast_spots, test_at, IsNumberOf, AreSpotsInRange, MayRun, MayRunThese, IsUnreached, IsSureReport}
use Rattle.sure_laws.specs.Events.{Event, body_ran, body_entered, field_touched, spot_events, met_events, test_events, recorded, events, run_events}
use Rattle.sure_laws.specs.Laws.{IsInSet, cast_of, call_of, Allows, PassesWhereSure, RunsWhatIsSaid, IsAsSaid, IsTrueOfRuns, ReportsAreTrue}
use Rattle.sure_laws.proofs.Kept.{Reached}
use Rattle.sure_laws.proofs.Recorded.{IsIn}
use Rattle.sure_laws.proofs.FactSpots.{spots_in_range}
use Rattle.sure_laws.proofs.Shapes.{some_of}
use Rattle.sure_laws.proofs.Families.{sited, cast_there, call_there, shapes}
use Rattle.sure_laws.proofs.Meeting.{shapes_in, typed_in, tested_sited, met_in}
use Rattle.sure_laws.proofs.OwnSpots.{own_cast, own_call}
use Rattle.sure_laws.proofs.Touched.{is_accessed_at}
use Rattle.sure_laws.proofs.Tested.{tested_flat}
use Rattle.kaba_base.proofs.TestLemmas.{from_not}

bools_are : (a b : Bool) → same_bool a b ≡ true → b ≡ true → a ≡ true
bools_are true b h e = refl
bools_are false true h e = absurd (false≢true h)
bools_are false false h e = e

in_range : (F : Facts) (k : SpotKind) (n : ℕ) → IsNumberOf F k n → is_cast k ≡ true → n < length F.tests.items
in_range F spot.Cast n h e = h
in_range F spot.Call n h e = absurd (false≢true e)

module _ (P : Plain) (F : Facts) (t : PointsTo) (r : Sure) (formed : IsFormed P) (typed : IsTyped P) (facts : IsFactsOf P F)
    (sets : AreSets F t) (sure : IsSureReport F t r) where
  abbrev spots : AreSpotsInRange F
  spots = spots_in_range P F facts

  -- the two families
  abbrev V : Family
  V = family P F (solved t)

  abbrev W : Family
  W = shapes P F

  -- a site at a point that has a number
  at_number : (o : Option ℕ) (q s : ℕ) → o ≡ Some q → at_point P F (solved t) o s ≡ true → bit (row t.points.items q) s ≡ true
  at_number o q s e h = subst (λ z. at_point P F (solved t) z s ≡ true) e h

  both_there : (a b : Option ℕ) → same_number P F (solved t) a b ≡ true → (n : ℕ) × (a ≡ Some n) × (b ≡ Some n)
  both_there None b h = absurd (false≢true h)
  both_there (Some a) None h = absurd (false≢true h)
  both_there (Some a) (Some b) h = (b, ap (λ z. Some z) (eqb-true a b h), refl)

  site_there : (X : ℕ → Bool) (z : Option ℕ) → strictly P F (solved t) X z ≡ true → (s : ℕ) × (z ≡ Some s) × (X s ≡ true)
  site_there X None h = absurd (false≢true h)
  site_there X (Some s) h = (s, refl, h)

  -- an object's class at or below that of a test makes it pass
  passes_test : (x : TestInfo) (s : ℕ) → (site_at F s).dim ≡ 0 → IsBelow F (site_class F s) x.class.0
      → is_subtype P (site_as P F (solved t) s) (class_type x.class.0) ≡ true
  passes_test x s d b = and_from ((site_at F s).dim == 0) (below P (site_class F s) x.class.0) (eq-eqb (site_at F s).dim 0 d)
      (subclass-below P formed.acyclic (below_subclass P F facts b))

  tests_listed : (i : ℕ) (x : FactSpot) → slice_get (cast_spots F) i ≡ Some x → Contains F.tests.items (test_at F x.at)
  tests_listed i x e =
      let c = contains_at (cast_spots F) i x e in
      let n = in_range F x.kind x.at (All-contains (λ x. IsNumberOf F x.kind x.at) (cast_spots F) x
      (All-filter (λ x. is_cast x.kind) (λ x. IsNumberOf F x.kind x.at) F.spots.items spots) c)
      (All-contains (λ x. is_cast x.kind ≡ true) (cast_spots F) x (filter_passes (λ x. is_cast x.kind) F.spots.items) c) in
      let y = below_at F.tests.items x.at n in
      subst (λ z. Contains F.tests.items z) (sym (index_at F.tests.items x.at _ y.0 y.1)) (contains_at F.tests.items x.at y.0 y.1)

  -- a cast that is sure passes
  cast_true : (m : ℕ) (d : Ex) (o : Option ℕ) (b : Bool) → V.spot (tested m d b) o ≡ true → sited P o ≡ true → PassesWhereSure P F r m d b
  cast_true m d o b h si i x ex er (cast_of {u = u} {e = e} from class) =
      let s = some_of (site_in (numbers P) o) si in
      let z = and_parts (point_sites P F (solved t) (operand_at P m e) s.0) (tests_as P F (solved t) d b s.0)
      (subst (λ y. passes (typed_sites P F (solved t) (tested m d b)) y ≡ true) s.1 h) in
      let in_set = at_number (point_at (numbers P) (operand_at P m e)) (test_at F x.at).from s.0 from z.0 in
      let flat = tested_flat P formed typed F facts (test_at F x.at) (tests_listed i x ex) s.0 ((sets.points (test_at F x.at).from s.0).0 in_set) in
      bools_are b (is_subtype P (site_as P F (solved t) s.0) u) z.1
      (ap (λ y. is_subtype P (site_as P F (solved t) s.0) y) class ∙ passes_test (test_at F x.at) s.0 flat ((sure.casts.each i x true ex er).0 refl s.0 in_set))

  allowed : (k : CallInfo) (v : Bodies) (c n : ℕ) → MayRunThese F t k v → MayRun F t k n → (numbers P).column (column.Def c) ≡ Some n → Allows P v c
  allowed k Zero c n h w e = h n w
  allowed k (One d) c n h w e = e ∙ ap (λ z. Some z) (h.1 n w)
  allowed k Many c n h w e = tt

  -- a call runs a body that the report allows
  call_true : (m : ℕ) (d : Ex) (c : ℕ) (o : Option ℕ) → V.spot (ran m d c) o ≡ true → RunsWhatIsSaid P F r m d c
  call_true m d c o h i x k v ex ek ev (call_of {e = e} {y = y} {es = es} from slot) =
      let s = site_there (typed_sites P F (solved t) (ran m d c)) (site_in (numbers P) o) h in
      let z = and_parts (point_sites P F (solved t) (operand_at P m e) s.0) (finds_as P F (solved t) m d c s.0) s.2 in
      let f = both_there (finds F (site_class F s.0) k.slot) ((numbers P).column (column.Def c))
      (subst (λ y. option_map_or (λ j. same_number P F (solved t) (finds F (site_class F s.0) j) ((numbers P).column (column.Def c))) y true
      ≡ true) slot z.1) in
      allowed k v c f.0 (sure.calls.each i x v ex ev k ek)
      (record { site = s.0; there = at_number (point_at (numbers P) (operand_at P m e)) k.receiver s.0 from z.0; found = f.1 }) f.2

  -- a body that is entered is not dead
  body_true : (c : ℕ) (o : Option ℕ) → (family P F (solved t)).spot (self_of c) o ≡ true → IsAsSaid P F r (body_entered c)
  unfolding numbers
  body_true c o h d dead e =
      let s = site_there (typed_sites P F (solved t) (self_of c)) (site_in (numbers P) o) h in
      let q = at_is P F (solved t) ((numbers P).point (point.This c)) s.0 s.2 in
      let n = numbered_column P F facts (column.Def c) d.0 e in
      let kind : column_kind F d.0 ≡ Def = ap (λ z. z.kind) n.1 in
      let unreached = subst (λ z. IsUnreached F t z d.0) kind ((sure.dead.each d.0).0 (map_has (λ c. c.0) r.dead.items d dead)).1 in
      let b = listed_body c d.0 q.number e q.there in
      unreached b.0 b.1 b.2 s.0 (subst (λ z. bit (row t.points.items z) s.0 ≡ true) (sym b.3) q.holds)
    where
      -- the body of a column, with the point of its `this`
      listed_body : (c d q : ℕ) → column_number P (column.Def c) ≡ Some d → point_number P (point.This c) ≡ Some q → (b : BodyInfo)
          × Contains F.bodies.items b × (b.column.0 ≡ d) × (b.this ≡ q)
      listed_body c d q e p =
          let x = (numbered_columns P).at (column.Def c) d e in
          let y = method_there x.0 c (column_stands P d x.0 x.1) x.2 in
          let b : PlainBody = record { column = d; this = q; params = param_points (numbers P) P c y.0; result = point_number P (point.Result c) } in
          let listed = each_has (λ c k. column_body (numbers P) P c k.item) 0 (columns_of P) d x.0 b x.1 d (omega arith)
          (subst (λ z. Contains (column_body (numbers P) P d z) b) (sym x.2)
          (subst (λ z. Contains (option_map_or (λ k. body_if (numbers P) P d c k (point_number P (point.This c))) z []) b) (sym y.1)
          (subst (λ z. Contains (body_if (numbers P) P d c y.0 z) b) (sym p) (one b)))) in
          let found = map_from body_seen F.bodies.items b (subst (λ z. Contains z b) (sym facts.bodies) listed) in
          (found.0, found.1, ap (λ z. z.column) found.2, ap (λ z. z.this) found.2)
        where
          method_there : (x : Column) (c : ℕ) → Stands P x.item → x.item ≡ column.Def c → (k : PlainMethod) × (slice_get P.methods c ≡ Some k)
          method_there x c st e = go x.item st e
            where
              go : (i : ColumnItem) → Stands P i → i ≡ column.Def c → (k : PlainMethod) × (slice_get P.methods c ≡ Some k)
              go i (for_field f k w s) e = absurd (cc)
              go i (for_declaration n k w s) e = absurd (cc)
              go i (for_body n k w s b) e = (k, subst (λ z. slice_get P.methods z ≡ Some k) (let z : n ≡ c = cc in z) w)
              go i (for_mark a) e = absurd (cc)

  -- a field that is touched is not dead
  field_true : (m : ℕ) (e : Ex) (f : ℕ) (o : Option ℕ) → (family P F (solved t)).spot (touched m e f) o ≡ true → IsAsSaid P F r (field_touched f)
  unfolding numbers
  field_true m e f o h d dead ed =
      let s = site_there (typed_sites P F (solved t) (touched m e f)) (site_in (numbers P) o) h in
      let z = and_parts (point_sites P F (solved t) (operand_at P m e) s.0) (accessed_as P F (solved t) m e f) s.2 in
      let q = at_is P F (solved t) (point_at (numbers P) (operand_at P m e)) s.0 z.0 in
      let k = method_of (slice_get P.methods m) refl z.1 in
      let a = is_accessed_at P formed typed F facts m k.0 k.1 (solved t) e f q.number d.0 k.2 q.there ed in
      let n = numbered_column P F facts (column.Fld f) d.0 ed in
      let kind : column_kind F d.0 ≡ Fld = ap (λ z. z.kind) n.1 in
      let unreached = subst (λ z. IsUnreached F t z d.0) kind ((sure.dead.each d.0).0 (map_has (λ c. c.0) r.dead.items d dead)).1 in
      let held = (sets.points q.number s.0).0 q.holds in
      let i = point_item_of P formed typed F facts (operand_at P m e).point q.number q.there in
      let below = (item_point P F facts i.0 q.number i.2).4 in
      unreached a.access a.listed a.column s.0 (subst (λ z. bit (row t.rows.items z) s.0 ≡ true) (sym a.row)
      ((sets.rows (point_row F q.number) s.0).1 (by_point q.number s.0 below held)))
    where
      method_of : (z : Option PlainMethod) → slice_get P.methods m ≡ z
          → option_map_or (λ k. is_some (position (accesses_as P F (solved t) m e f) (parts_of P m k))) z false ≡ true
          → (k : PlainMethod) × (slice_get P.methods m ≡ Some k) × (is_some (position (accesses_as P F (solved t) m e f) (parts_of P m k)) ≡ true)
      method_of None g h = absurd (false≢true h)
      method_of (Some k) g h = (k, g, h)

  -- what is looked at is met as the report says: a cast and a call have their spots
  own_point : (m : ℕ) (e : Ex) (o : Option ℕ) → IsInSet P F (solved t) (point_sites P F (solved t) (operand_at P m e)) o
      → (q : ℕ) × (point_at (numbers P) (operand_at P m e) ≡ Some q)
  own_point m e o i = let q = at_is P F (solved t) (point_at (numbers P) (operand_at P m e)) i.site i.there in (q.number, q.there)

  test_true : (m : ℕ) (d : Ex) (o : Option ℕ) (b : Bool) (e : Event) → V.spot (tested m d b) o ≡ true → W.spot (tested m d b) o ≡ true
      → Reached (tested m d b) → Contains (test_events m d b) e → IsAsSaid P F r e
  test_true m (cast w n u x) o b e h g k c = subst (λ z. IsAsSaid P F r z) (one_from _ e c) (
    (let q = own_point m x o (met_in P F (solved t) (tested m (cast w n u x) b) o h g k) in
        own_cast P F m w n u x q.0 k (and_parts (sited P o || is_number_type u.base u.dim) (cast_there P F m (cast w n u x)) g).1 q.1),
    cast_true m (cast w n u x) o b h (tested_sited P F (solved t) m (cast w n u x) b o k g),
  )
  test_true m d o b e h g k c = absurd (omega (arith, c.1))

  run_true : (m : ℕ) (d : Ex) (x : ℕ) (o : Option ℕ) (v : Event) → V.spot (ran m d x) o ≡ true → call_there P F m d ≡ true
      → Contains (run_events m d x) v → IsAsSaid P F r v
  run_true m (call w e y es) x o v h g c =
      let n = when_from (not (is_marked y)) (body_ran m (call w e y es) x ∷ []) v c in
      subst (λ z. IsAsSaid P F r z) (one_from _ v n.1) (
        (let q = own_point m e o (met_in P F (solved t) (ran m (call w e y es) x) o h g tt) in
            own_call P F m w e y es q.0 (from_not (is_marked y) n.0) g q.1),
        call_true m (call w e y es) x o h,
      )
  run_true m d x o v h g c = absurd (omega (arith, c.1))

  spot_true : (p : Spot) (o : Option ℕ) (e : Event) → V.spot p o ≡ true → W.spot p o ≡ true → Reached p → Contains (spot_events p) e → IsAsSaid P F r e
  spot_true (tested m d b) o e h g k c = test_true m d o b e h g k c
  spot_true (ran m d x) o e h g k c = run_true m d x o e h g c
  spot_true (self_of x) o e h g k c = subst (λ z. IsAsSaid P F r z) (one_from _ e c) (body_true x o h)
  spot_true (touched m x f) o e h g k c = subst (λ z. IsAsSaid P F r z) (one_from _ e c) (field_true m x f o h)
  spot_true p o e h g k c = absurd (omega (arith, c.1))

  met_true : (v : Value) (p : Spot) (o : Option ℕ) (e : Event) → IsIn P F (solved t) V v p o → IsIn P F (solved t) W v p o → Contains (met_events v p) e
      → IsAsSaid P F r e
  met_true (Object a) p o e h g c = spot_true p o e h.0 g.0 h.1 c
  met_true v p o e h g c = absurd (omega (arith, c.1))

  true_of_runs : IsTrueOfRuns P F r
  unfolding IsTrueOfRuns events
  true_of_runs words n e c =
      let x = flat_from (λ (x : Met). met_events x.value x.spot) (recorded P words n).met e c in
      let closed = solved_closed F t sets in
      met_true x.0.value x.0.spot x.0.site e (typed_in P F (solved t) formed typed facts closed words n x.0 x.1)
      (shapes_in P F (solved t) formed typed facts closed words n x.0 x.1) x.2

-- the theorem: for all words and every bound
pub reports_true : ReportsAreTrue
unfolding ReportsAreTrue
reports_true P F t r formed typed facts sets sure = true_of_runs P F t r formed typed facts sets sure
