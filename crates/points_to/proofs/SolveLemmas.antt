-- Sound and closed sets are the least ones.
use Rattle.std.proofs.Common.{◌≡◌, ℕ, ◌+◌, ◌<◌, ◌↔◌, Bool, true, List, [], length, take, drop, Contains, refl, ap, ◌∙◌, subst, arith, get_or-take, get_or-drop, length-take-le, length-drop}
use Rattle.std.specs.List.{AllByRecursion, All}
use Rattle.std.specs.Option.{IfSome, option_map}
use Rattle.std.proofs.lemmas.List.Elements.{All-contains}
use Rattle.kaba_derivations.proofs.Derivations.{derivable_least}
use Rattle.kaba_bits.specs.Sets.{bit, row}
use Rattle.kaba_bits.proofs.RowLemmas.{bit-row-below}
use Rattle.fact_model.specs.InRange.{InRange, IsPoint, IsSite, IsClass, IsCol}
use Rattle.fact_model.specs.Flowing.{Fact, in_point, in_cell, Inclusion, by_new, by_flow, by_load, by_store, by_this, by_argument, by_result, by_cast, Holds, IsInRow, by_point, by_cell, AreSets}
use Rattle.fact_model.specs.declared.facts.Facts.{Facts}
use Rattle.fact_model.specs.declared.facts.BodyInfo.{BodyInfo}
use Rattle.fact_model.specs.declared.sets.PointsTo.{PointsTo}
use Rattle.points_to.specs.Sound.{AreSound, ArePoints, AreCells, AreUnions}
use Rattle.points_to.specs.Closed.{AreSetsClosed, AreSolved, PointsJoined, CellsJoined}
use Rattle.points_to.specs.declared.work.Member.TheVariants.{Parameter, Returned}
use Rattle.points_to.proofs.NodeLemmas.{node_point, node_cell}
use Rattle.points_to.proofs.RuleLemmas.{point_below, points_of}
use Rattle.points_to.proofs.EdgeLemmas.{wanted_of}
use Rattle.points_to.proofs.AskedLemmas.{new_fixed, flow_fixed, cast_fixed, load_fixed, store_fixed, run_fixed, result_fixed, argument_fixed}

-- a fact in range that the sets show
abbrev pub IsSeen : Facts → List (List Bool) → Fact → Type 0
IsSeen F sets (in_point p s) = (p < length F.points.items) × (bit (row sets p) s ≡ true)
IsSeen F sets (in_cell c s) = (c < length F.cells.items) × (bit (row sets (length F.points.items + c)) s ≡ true)

module _ (F : Facts) (R : InRange F) (sets : List (List Bool)) (closed : AreSetsClosed F sets) where
  body_is : (body : BodyInfo) → Contains F.bodies.items body → IsCol F body.column × IsPoint F body.this
      × All (λ p. IfSome p (IsPoint F)) body.params.items × IfSome body.result (IsPoint F)
  body_is body c = All-contains (λ x. IsCol F x.column × IsPoint F x.this × All (λ p. IfSome p (IsPoint F)) x.params.items × IfSome x.result (IsPoint F))
      F.bodies.items body R.bodies c

  closed_under : (ps : List Fact) (f : Fact) → Inclusion F ps f → AllByRecursion (IsSeen F sets) ps → IsSeen F sets f
  closed_under ps f (by_new x c) h = (
    (All-contains (λ x. IsPoint F x.point × IsSite F x.site) F.news.items x R.news c).0,
    new_fixed closed x c,
  )
  closed_under ps f (by_flow x s c) h = (
    (All-contains (λ x. IsPoint F x.from × IsPoint F x.to) F.flows.items x R.flows c).1,
    flow_fixed closed x c s tt h.0.1,
  )
  closed_under ps f (by_load x c o s at cell) h = (
    (All-contains (λ x. IsPoint F x.base × IfSome x.column (IsCol F) × IsPoint F x.into) F.loads.items x R.loads at).2,
    load_fixed closed x at o (length F.points.items + c) h.0.1
        (record { cell = c; is = cell; node = refl }) s h.1.0.1,
  )
  closed_under ps f (by_store x c o s at cell fits) h = (
    cell.below,
    store_fixed closed x at o (length F.points.items + c) s h.0.1
        (record { cell = c; is = cell; node = refl }) (wanted_of F x.column s o fits) h.1.0.1,
  )
  closed_under ps f (by_this x o body runs) h = (
    (body_is body runs.listed).1,
    run_fixed closed x runs.called o body.this h.0.1 (record { body = body; listed = runs.listed; found = runs.found; node = refl }),
  )
  closed_under ps f (by_argument x o body k from to s runs a b) h = (
    points_of F body.params.items (body_is body runs.listed).2 k to b,
    argument_fixed closed x runs.called k _ (point_below x.args.items k from a)
        (ap (option_map (λ p. record { base = x.receiver; member = Parameter x.slot k; value = p })) a) o to s h.0.1
        (record { body = body; listed = runs.listed; found = runs.found; node = b }) tt h.1.0.1,
  )
  closed_under ps f (by_result x o body from to s runs a b) h = (
    subst (λ r. IfSome r (IsPoint F)) b (All-contains (λ x. IsPoint F x.receiver × All (λ p. IfSome p (IsPoint F)) x.args.items
        × IfSome x.result (IsPoint F)) F.calls.items x R.calls runs.called).2,
    result_fixed closed x runs.called _ (ap (option_map (λ p. record { base = x.receiver; member = Returned x.slot; into = p })) b) o from h.0.1
        (record { body = body; listed = runs.listed; found = runs.found; node = a }) s h.1.0.1,
  )
  closed_under ps f (by_cast x s c b) h = (
    (All-contains (λ x. IsPoint F x.from × IsPoint F x.into × IsClass F x.class) F.casts.items x R.casts c).1,
    cast_fixed closed x c s b h.0.1,
  )

  complete : (f : Fact) → Holds F f → IsSeen F sets f
  complete = derivable_least (Inclusion F) (IsSeen F sets) closed_under

  pub solved : AreSound F sets → AreSolved F sets
  solved sound = record { sound = sound; points = λ p s. complete (in_point p s); cells = λ c s. complete (in_cell c s) }

-- the sets of the points and those of the cells
module _ (F : Facts) (sets points cells : List (List Bool)) (a : AreSolved F sets) (first : points ≡ take (length F.points.items) sets)
    (rest : cells ≡ drop (length F.points.items) sets) where
  point_row : (p : ℕ) → p < length F.points.items → row points p ≡ row sets p
  point_row p lt = ap (λ xs. row xs p) first ∙ get_or-take (length F.points.items) sets p [] lt

  cell_row : (c : ℕ) → row cells c ≡ row sets (length F.points.items + c)
  cell_row c = ap (λ xs. row xs c) rest ∙ get_or-drop (length F.points.items) sets c []

  count : length points ≡ length F.points.items
  count = ap length first ∙ length-take-le (length F.points.items) sets (omega (arith, a.sound.len))

  cell_count : length cells ≡ length F.cells.items
  cell_count = ap length rest ∙ (length-drop (length F.points.items) sets ∙ omega (arith, a.sound.len))

  in_points : (p s : ℕ) → bit (row points p) s ≡ true → p < length F.points.items
  in_points p s h = subst (λ n. p < n) count (bit-row-below points p s h)

  pub points_are : ArePoints F points
  points_are = record {
    len = count;
    widths = λ p lt. let below : p < length F.points.items = omega (arith, lt, count) in rw (point_row p below)
        (a.sound.widths p (omega (arith, below, a.sound.len)));
    sound = λ p s h. let below = in_points p s h in node_point F p s below (a.sound.sound p s (rw (point_row p below) at h));
  }

  pub cells_are : AreCells F cells
  cells_are = record {
    len = cell_count;
    widths = λ c lt. rw (cell_row c) (a.sound.widths (length F.points.items + c) (omega (arith, lt, cell_count, a.sound.len)));
    sound = λ c s h. node_cell F c s (a.sound.sound (length F.points.items + c) s (rw (cell_row c) at h));
  }

  pub points_all : (p s : ℕ) → Holds F (in_point p s) → bit (row points p) s ≡ true
  points_all p s h = let x = a.points p s h in rw (point_row p x.0) x.1

  pub cells_all : (c s : ℕ) → Holds F (in_cell c s) → bit (row cells c) s ≡ true
  cells_all c s h = rw (cell_row c) (a.cells c s h).1

module _ (F : Facts) (t : PointsTo) (points : ArePoints F t.points.items) (cells : AreCells F t.cells.items) (all : (p s : ℕ) → Holds F (in_point p s)
    → bit (row t.points.items p) s ≡ true) (held : (c s : ℕ) → Holds F (in_cell c s) → bit (row t.cells.items c) s ≡ true) where
  in_row : PointsJoined F t.points.items t.rows.items (length F.points.items) → CellsJoined F t.cells.items t.rows.items (length F.cells.items)
      → (r s : ℕ) → IsInRow F r s → bit (row t.rows.items r) s ≡ true
  in_row joined more r s (by_point p i lt h) = joined p lt i (all p i h)
  in_row joined more r s (by_cell c i lt h) = more c lt i (held c i h)

  pub are_sets : AreUnions F t.rows.items → PointsJoined F t.points.items t.rows.items (length F.points.items)
      → CellsJoined F t.cells.items t.rows.items (length F.cells.items) → AreSets F t
  are_sets unions joined more =
      let in_points : (p s : ℕ) → (bit (row t.points.items p) s ≡ true) ↔ Holds F (in_point p s) = λ p s. (points.sound p s, all p s) in
      let in_cells : (c s : ℕ) → (bit (row t.cells.items c) s ≡ true) ↔ Holds F (in_cell c s) = λ c s. (cells.sound c s, held c s) in
      let in_rows : (r s : ℕ) → (bit (row t.rows.items r) s ≡ true) ↔ IsInRow F r s = λ r s. (unions.sound r s, in_row joined more r s) in
      assumption (points, cells, unions, in_points, in_cells, in_rows)
