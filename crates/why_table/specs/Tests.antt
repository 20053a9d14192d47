-- Mirror. Whether a rule gives a claim of earlier ones, as tests. What a rule does not fix it takes from the claims themselves.
use Rattle.std.specs.Prelude.{ℕ, ◌==◌, ◌&&◌, ◌||◌, Bool, true, false, List, [], ◌∷◌, Option, Some, None, nat_lt, not, length, slice_get}
use Rattle.std.specs.List.{list_any, range_with_len}
use Rattle.std.specs.Option.{option_map_or}
use Rattle.kaba_base.specs.declared.RowId.{RowId}
use Rattle.kaba_base.specs.declared.ColId.{ColId}
use Rattle.kaba_base.specs.declared.SiteId.{SiteId}
use Rattle.fact_model.specs.Items.{site_at, site_class, row_this, column_class, column_kind, column_slot}
use Rattle.fact_model.specs.Classes.{below, finds, is_def, is_slot}
use Rattle.fact_model.specs.Flowing.{point_at}
use Rattle.fact_model.specs.declared.facts.Facts.{Facts}
use Rattle.fact_model.specs.declared.facts.ColKind.{ColKind}
use Rattle.fact_model.specs.declared.facts.ColKind.TheVariants.{Fld, Dcl, Is}
use Rattle.fact_model.specs.declared.facts.LoadInfo.{LoadInfo}
use Rattle.fact_model.specs.declared.facts.StoreInfo.{StoreInfo}
use Rattle.fact_model.specs.declared.facts.CallInfo.{CallInfo}
use Rattle.fact_model.specs.declared.facts.BodyInfo.{BodyInfo}
use Rattle.fact_model.specs.declared.facts.CastInfo.{CastInfo}
use Rattle.fact_model.specs.declared.facts.AccessInfo.{AccessInfo}
use Rattle.fact_model.specs.declared.facts.TieInfo.{TieInfo}
use Rattle.fact_model.specs.declared.facts.TestInfo.{TestInfo}
use Rattle.fact_model.specs.declared.facts.SiteInfo.{SiteInfo}
use Rattle.why_table.specs.declared.trail.Claim.{Claim}
use Rattle.why_table.specs.declared.trail.Claim.TheVariants.{InPoint, InCell, Entry}
use Rattle.why_table.specs.declared.trail.WhyRule.{WhyRule}
use Rattle.why_table.specs.declared.trail.WhyRule.TheVariants.{P1, P2, P3, P4, P5, P6, P7, P8, T1, T2, T3, T4, T5, T6, T7, T8, T9, T10, T11}

-- whether two claims are one
abbrev pub is_same : Claim → Claim → Bool
is_same (InPoint p s) (InPoint q t) = (p == q) && (s.0 == t.0)
is_same (InCell p s) (InCell q t) = (p == q) && (s.0 == t.0)
is_same (Entry p s) (Entry q t) = (p.0 == q.0) && (s.0 == t.0)
is_same a b = false

-- the point or the cell of a claim, its site, its row and its column, where it has them
abbrev pub number_of : Claim → ℕ
number_of (InPoint p s) = p
number_of (InCell c s) = c
number_of (Entry r c) = 0

abbrev pub site_of : Claim → SiteId
site_of (InPoint p s) = s
site_of (InCell c s) = s
site_of (Entry r c) = record { 0 = 0 }

abbrev pub row_of : Claim → RowId
row_of (InPoint p s) = record { 0 = 0 }
row_of (InCell c s) = record { 0 = 0 }
row_of (Entry r c) = r

abbrev pub column_of : Claim → ColId
column_of (InPoint p s) = record { 0 = 0 }
column_of (InCell c s) = record { 0 = 0 }
column_of (Entry r c) = c

-- whether a kind is that of a field, of a declaration, of a mark
abbrev pub is_fld : ColKind → Bool
is_fld Fld = true
is_fld k = false

abbrev pub is_dcl : ColKind → Bool
is_dcl Dcl = true
is_dcl k = false

abbrev pub is_is : ColKind → Bool
is_is Is = true
is_is k = false

-- whether two columns, or two slots, are one or both none
abbrev pub is_same_column : Option ColId → Option ColId → Bool
is_same_column None None = true
is_same_column (Some a) (Some b) = a.0 == b.0
is_same_column a b = false

abbrev pub is_same_slot : Option ℕ → Option ℕ → Bool
is_same_slot None None = true
is_same_slot (Some a) (Some b) = a == b
is_same_slot a b = false

-- whether a point is an argument of a call and another the parameter of the body at the same place
abbrev pub are_joined : List (Option ℕ) → List (Option ℕ) → ℕ → ℕ → Bool
are_joined args params from to = list_any (λ k. is_slot (point_at args k) from && is_slot (point_at params k) to) (range_with_len 0 (length args))

-- whether an access, and whether a tie, gives a claim
abbrev pub is_access : Claim → AccessInfo → Bool
is_access claim x = is_same claim (Entry x.row x.column)

abbrev pub is_tie : Claim → Claim → TieInfo → Bool
is_tie p claim x = is_same p (Entry x.upper (column_of claim)) && is_same claim (Entry x.lower (column_of claim))

module _ (F : Facts) where
  -- whether c is the cell of a site at a column
  abbrev pub is_cell : ℕ → SiteId → Option ColId → Bool
  is_cell c o column = option_map_or (λ x. (x.site.0 == o.0) && is_same_column x.column column) (slice_get F.cells.items c) false

  -- whether a site fits into what a store writes of another
  abbrev pub fits : Option ColId → SiteId → SiteId → Bool
  fits None s o = below F (site_class F s.0) (site_class F o.0)
  fits (Some column) s o = true

  -- whether an object of a site runs a body for a slot
  abbrev pub is_found : SiteId → ℕ → ColId → Bool
  is_found o slot d = is_slot (finds F (site_class F o.0) slot) d.0

  -- whether a column is the mark of a class
  abbrev pub is_mark : ℕ → ColId → Bool
  is_mark class c = option_map_or (λ k. is_is k.kind && (k.class.0 == class)) (slice_get F.columns.items c.0) false

  -- whether a column declares the method whose body another is
  abbrev pub is_declared_by : ColId → ColId → Bool
  is_declared_by d c = is_def (column_kind F d.0) && (is_dcl (column_kind F c.0) && ((column_class F d.0 == column_class F c.0)
      && is_same_slot (column_slot F d.0) (column_slot F c.0)))

  -- whether two columns are both bodies or both declarations
  abbrev pub are_alike : ColId → ColId → Bool
  are_alike d c = (is_def (column_kind F d.0) && is_def (column_kind F c.0)) || (is_dcl (column_kind F d.0) && is_dcl (column_kind F c.0))

  -- whether a column hides another
  abbrev pub hides : ColId → ColId → Bool
  hides d c = are_alike d c && (is_same_slot (column_slot F d.0) (column_slot F c.0)
      && (not (column_class F d.0 == column_class F c.0) && below F (column_class F d.0) (column_class F c.0)))

  -- whether a row is that of the point or of the cell of a claim
  abbrev pub is_point_row : ℕ → RowId → Bool
  is_point_row p v = option_map_or (λ r. r.0 == v.0) (slice_get F.points.items p) false

  abbrev pub is_cell_row : ℕ → RowId → Bool
  is_cell_row c v = option_map_or (λ x. x.row.0 == v.0) (slice_get F.cells.items c) false

  abbrev pub is_place : Claim → RowId → Bool
  is_place (InPoint p s) v = is_point_row p v
  is_place (InCell c s) v = is_cell_row c v
  is_place (Entry r c) v = false

  -- the tests of the rules, one by one
  abbrev pub test_p1 : Claim → Bool
  test_p1 claim = list_any (λ x. is_same claim (InPoint x.point x.site)) F.news.items

  abbrev pub test_p2 : Claim → Claim → Bool
  test_p2 p claim = list_any (λ x. is_same p (InPoint x.from (site_of claim)) && is_same claim (InPoint x.to (site_of claim))) F.flows.items

  abbrev pub is_load : Claim → Claim → Claim → LoadInfo → Bool
  is_load p q claim x = is_same p (InPoint x.base (site_of p)) && (is_same q (InCell (number_of q) (site_of claim))
      && (is_same claim (InPoint x.into (site_of claim)) && is_cell (number_of q) (site_of p) x.column))

  abbrev pub test_p3 : Claim → Claim → Claim → Bool
  test_p3 p q claim = list_any (λ x. is_load p q claim x) F.loads.items

  abbrev pub is_store : Claim → Claim → Claim → StoreInfo → Bool
  is_store p q claim x = is_same p (InPoint x.base (site_of p)) && (is_same q (InPoint x.value (site_of claim))
      && (is_same claim (InCell (number_of claim) (site_of claim)) && (is_cell (number_of claim) (site_of p) x.column
      && fits x.column (site_of claim) (site_of p))))

  abbrev pub test_p4 : Claim → Claim → Claim → Bool
  test_p4 p q claim = list_any (λ x. is_store p q claim x) F.stores.items

  abbrev pub is_this_flow : Claim → CallInfo → Claim → BodyInfo → Bool
  is_this_flow p call claim body = is_same claim (InPoint body.this (site_of p)) && is_found (site_of p) call.slot body.column

  abbrev pub has_this_flow : Claim → CallInfo → Claim → Bool
  has_this_flow p call claim = list_any (λ body. is_this_flow p call claim body) F.bodies.items

  abbrev pub is_this_call : Claim → Claim → CallInfo → Bool
  is_this_call p claim call = is_same p (InPoint call.receiver (site_of p)) && has_this_flow p call claim

  abbrev pub test_p5 : Claim → Claim → Bool
  test_p5 p claim = list_any (λ call. is_this_call p claim call) F.calls.items

  abbrev pub is_argument_flow : Claim → CallInfo → Claim → Claim → BodyInfo → Bool
  is_argument_flow p call q claim body = are_joined call.args.items body.params.items (number_of q) (number_of claim)
      && is_found (site_of p) call.slot body.column

  abbrev pub has_argument_flow : Claim → CallInfo → Claim → Claim → Bool
  has_argument_flow p call q claim = list_any (λ body. is_argument_flow p call q claim body) F.bodies.items

  abbrev pub is_argument_call : Claim → Claim → Claim → CallInfo → Bool
  is_argument_call p q claim call = is_same p (InPoint call.receiver (site_of p)) && has_argument_flow p call q claim

  abbrev pub has_argument_call : Claim → Claim → Claim → Bool
  has_argument_call p q claim = list_any (λ call. is_argument_call p q claim call) F.calls.items

  abbrev pub test_p6 : Claim → Claim → Claim → Bool
  test_p6 p q claim = is_same q (InPoint (number_of q) (site_of claim)) && (is_same claim (InPoint (number_of claim) (site_of claim))
      && has_argument_call p q claim)

  abbrev pub is_result_flow : Claim → CallInfo → Claim → BodyInfo → Bool
  is_result_flow p call q body = is_slot body.result (number_of q) && is_found (site_of p) call.slot body.column

  abbrev pub has_result_flow : Claim → CallInfo → Claim → Bool
  has_result_flow p call q = list_any (λ body. is_result_flow p call q body) F.bodies.items

  abbrev pub is_result_call : Claim → Claim → Claim → CallInfo → Bool
  is_result_call p q claim call = is_same p (InPoint call.receiver (site_of p)) && (is_slot call.result (number_of claim) && has_result_flow p call q)

  abbrev pub has_result_call : Claim → Claim → Claim → Bool
  has_result_call p q claim = list_any (λ call. is_result_call p q claim call) F.calls.items

  abbrev pub test_p7 : Claim → Claim → Claim → Bool
  test_p7 p q claim = is_same q (InPoint (number_of q) (site_of claim)) && (is_same claim (InPoint (number_of claim) (site_of claim))
      && has_result_call p q claim)

  abbrev pub is_cast : Claim → Claim → CastInfo → Bool
  is_cast p claim x = is_same p (InPoint x.from (site_of claim)) && (is_same claim (InPoint x.into (site_of claim))
      && below F (site_class F (site_of claim).0) x.class.0)

  abbrev pub test_p8 : Claim → Claim → Bool
  test_p8 p claim = list_any (λ x. is_cast p claim x) F.casts.items

  abbrev pub is_accessed : Claim → Bool
  is_accessed claim = list_any (λ x. is_access claim x) F.accesses.items

  abbrev pub test_t1 : Claim → Bool
  test_t1 claim = is_fld (column_kind F (column_of claim).0) && is_accessed claim

  abbrev pub test_t2 : Claim → Bool
  test_t2 claim = is_dcl (column_kind F (column_of claim).0) && is_accessed claim

  abbrev pub is_need : Claim → Claim → CallInfo → Bool
  is_need p claim call = is_same p (InPoint call.receiver (site_of p)) && is_found (site_of p) call.slot (column_of claim)

  abbrev pub has_need : Claim → Claim → Bool
  has_need p claim = list_any (λ call. is_need p claim call) F.calls.items

  abbrev pub test_t3 : Claim → Claim → Bool
  test_t3 p claim = is_same claim (Entry (site_at F (site_of p).0).row (column_of claim)) && has_need p claim

  abbrev pub is_this : RowId → ColId → Bool
  is_this v d = is_same_column (row_this F v.0) (Some d)

  abbrev pub test_t4 : Claim → Bool
  test_t4 claim = is_same claim (Entry (row_of claim) (column_of claim)) && is_this (row_of claim) (column_of claim)

  abbrev pub test_t5 : Claim → Claim → Bool
  test_t5 p claim = is_same p (Entry (row_of claim) (column_of p)) && (is_same claim (Entry (row_of claim) (column_of claim))
      && is_declared_by (column_of p) (column_of claim))

  abbrev pub test_t6 : Claim → Claim → Claim → Bool
  test_t6 p q claim = is_same p (Entry (row_of claim) (column_of p)) && (is_same q (Entry (row_of q) (column_of claim))
      && (is_same claim (Entry (row_of claim) (column_of claim)) && is_this (row_of q) (column_of p)))

  abbrev pub test_t7 : Claim → Bool
  test_t7 claim = list_any (λ x. is_same claim (Entry x.row x.column)) F.supers.items

  abbrev pub test_t8 : Claim → Claim → Bool
  test_t8 p claim = list_any (λ x. is_tie p claim x) F.ties.items

  abbrev pub test_t9 : Claim → Claim → Claim → Bool
  test_t9 p q claim = is_same q (Entry (row_of q) (column_of claim)) && (is_same claim (Entry (site_at F (site_of p).0).row (column_of claim))
      && is_place p (row_of q))

  abbrev pub test_t10 : Claim → Claim → Claim → Claim → Bool
  test_t10 p q r claim = is_same p (Entry (row_of p) (column_of r)) && (is_same q (Entry (row_of p) (column_of claim))
      && (is_same r (Entry (row_of claim) (column_of r)) && (is_same claim (Entry (row_of claim) (column_of claim))
      && hides (column_of r) (column_of claim))))

  abbrev pub is_test : Claim → TestInfo → Bool
  is_test claim x = is_same claim (Entry x.target (column_of claim)) && is_mark x.class.0 (column_of claim)

  abbrev pub is_array : Claim → SiteInfo → Bool
  is_array claim s = is_same claim (Entry s.row (column_of claim)) && (nat_lt 0 s.dim && is_mark s.class.0 (column_of claim))

  abbrev pub has_test : Claim → Bool
  has_test claim = list_any (λ x. is_test claim x) F.tests.items

  abbrev pub has_array : Claim → Bool
  has_array claim = list_any (λ s. is_array claim s) F.sites.items

  abbrev pub test_t11 : Claim → Bool
  test_t11 claim = has_test claim || has_array claim

  -- whether a rule gives a claim of no earlier claim, of one, of two, of three
  abbrev pub test_none : WhyRule → Claim → Bool
  test_none P1 claim = test_p1 claim
  test_none T1 claim = test_t1 claim
  test_none T2 claim = test_t2 claim
  test_none T4 claim = test_t4 claim
  test_none T7 claim = test_t7 claim
  test_none T11 claim = test_t11 claim
  test_none rule claim = false

  abbrev pub test_one : WhyRule → Claim → Claim → Bool
  test_one P2 p claim = test_p2 p claim
  test_one P5 p claim = test_p5 p claim
  test_one P8 p claim = test_p8 p claim
  test_one T3 p claim = test_t3 p claim
  test_one T5 p claim = test_t5 p claim
  test_one T8 p claim = test_t8 p claim
  test_one rule p claim = false

  abbrev pub test_two : WhyRule → Claim → Claim → Claim → Bool
  test_two P3 p q claim = test_p3 p q claim
  test_two P4 p q claim = test_p4 p q claim
  test_two P6 p q claim = test_p6 p q claim
  test_two P7 p q claim = test_p7 p q claim
  test_two T6 p q claim = test_t6 p q claim
  test_two T9 p q claim = test_t9 p q claim
  test_two rule p q claim = false

  abbrev pub test_three : WhyRule → Claim → Claim → Claim → Claim → Bool
  test_three T10 p q r claim = test_t10 p q r claim
  test_three rule p q r claim = false

  -- whether a rule gives a claim of a list of earlier claims
  abbrev pub test_rule : WhyRule → List Claim → Claim → Bool
  test_rule rule [] claim = test_none rule claim
  test_rule rule (p ∷ []) claim = test_one rule p claim
  test_rule rule (p ∷ q ∷ []) claim = test_two rule p q claim
  test_rule rule (p ∷ q ∷ r ∷ []) claim = test_three rule p q r claim
  test_rule rule (p ∷ q ∷ r ∷ x ∷ more) claim = false
