-- The start meets B2 to B8.
use Rattle.std.proofs.Common.{◌≡◌, ◌≢◌, ℕ, ◌^◌, ◌<◌, ◌&&◌, ◌||◌, eqb, true, false, List, length, map, Option, Some, None, refl, sym, ◌∙◌, arith, ⊎_elim}
use Rattle.std.specs.Prelude.{not}
use Rattle.std.specs.Str.{bytes_eq}
use Rattle.std.proofs.lemmas.Bool.{false≢true, and_parts, or_cases, eq-eqb}
use Rattle.std.proofs.lemmas.List.{length-map}
use Rattle.std.proofs.lemmas.Slice.Eq.{bytes_eq-Decides}
use Rattle.kaba_base.specs.Words.{is_name}
use Rattle.kaba_base.proofs.TestLemmas.{refuted}
use Rattle.kaba_bits.specs.Sets.{bit, row, or_else, first_below}
use Rattle.kaba_bits.proofs.SetLemmas.{bit-below}
use Rattle.kaba_bits.proofs.FirstLemmas.{first_below_clear}
use Rattle.kaba_order.specs.Orders.{is_live}
use Rattle.fact_model.specs.Items.{row_class, column_kind, column_class, column_slot}
use Rattle.fact_model.specs.Concepts.{Pair, pair_of}
use Rattle.fact_model.specs.InOrder.{name_of}
use Rattle.fact_model.specs.declared.facts.Facts.{Facts}
use Rattle.fact_model.specs.declared.facts.ColKind.{ColKind}
use Rattle.fact_model.specs.declared.facts.ColKind.TheVariants.{Fld, Dcl, Def, Is}
use Rattle.fact_model.specs.declared.sets.PointsTo.{PointsTo}
use Rattle.fact_model.specs.declared.sets.Table.{Table}
use Rattle.fact_model.specs.declared.sets.Lattice.{Lattice}
use Rattle.fact_model.proofs.ClassLemmas.{below-exact}
use Rattle.hier_model.specs.Hierarchies.{Hierarchy, stands_at, is_offered, type_name, member_name, any_below}
use Rattle.hier_model.proofs.AnyLemmas.{any_below_some}
use Rattle.hier_model.specs.Start.{is_filled, start_origin, origins_of, start_from}
use Rattle.hier_model.specs.Names.{is_field, is_shared}
use Rattle.hier_laws.specs.Shapes.{Given, OffersColumn}
use Rattle.hier_laws.specs.Starts.{IsClosed, AreInOrder, IsStart}
use Rattle.hier_laws.proofs.Begins.{start_half, start_rest, offered_row, start_fields}
use Rattle.hier_rules.specs.declared.broken.Rule.TheVariants.{B8}
use Rattle.hier_rules.specs.Asked.{are_two_slots}
use Rattle.hier_rules.specs.Instances.{of_node, of_column}
use Rattle.hier_rules.specs.Names.{is_member, is_reserved, is_variable, method_slot, is_named, unwritable_type, is_unwritable, unwritable, first_unwritable, is_other_type, is_taken_type, taken_type, first_taken_type, is_type, is_taken_name, taken_field, first_taken_field, clash, is_confused, confused, first_confused, first_misnamed}
use Rattle.hier_rules.specs.First.{first_changed_run, first_of_edit}
use Rattle.hier_rules.specs.Obligations.{first_unoffered, first_untied, first_wrong_need, first_wrong_super, first_two_bodies, first_wrong_outcome}
use Rattle.hier_laws.specs.Laws.{AreAnalysed, StartMeets}
use Rattle.hier_laws.proofs.GivenLemmas.{given, roles, is_closed, in_order}
use Rattle.hier_laws.proofs.ShapeLemmas.{shape, start_shape}
use Rattle.hier_laws.proofs.MeetLemmas.{none_by, none_both, offered_says, run_none}
use Rattle.hier_laws.proofs.NamedLemmas.{types_apart, type_no_member, type_name_is, type_unreserved, type_no_variable, field_unreserved, member_name_is, new_name, fields_named, method_name}

member_kind : (k : ColKind) → is_member k ≡ true → k ≢ Is
member_kind Fld h e = cc e
member_kind Dcl h e = cc e
member_kind Def h e = cc e
member_kind Is h e = false≢true h

pub two_slots : (a b : Option ℕ) → are_two_slots a b ≡ true → (x : ℕ) × (y : ℕ) × (a ≡ Some x) × (b ≡ Some y) × (x ≢ y)
two_slots None b h = absurd (false≢true h)
two_slots (Some x) None h = absurd (false≢true h)
two_slots (Some x) (Some y) h = (x, y, refl, refl, λ e. refuted (eqb x y) h (eq-eqb x y e))

pub slot_of_method : (k : ColKind) (slot : Option ℕ) (x : ℕ) → method_slot k slot ≡ Some x → (is_field k ≡ false) × (slot ≡ Some x)
slot_of_method Fld slot x h = absurd (cc h)
slot_of_method Dcl slot x h = (refl, h)
slot_of_method Def slot x h = (refl, h)
slot_of_method Is slot x h = absurd (cc h)

module _ (F : Facts) (pt : PointsTo) (t : Table) (l : Lattice) (A : AreAnalysed F pt t l) where
  abbrev ps : List Pair
  ps = map pair_of l.concepts.items

  abbrev H : Hierarchy
  H = start_from F t l

  abbrev N : ℕ
  N = length H.order.live

  abbrev C : ℕ
  C = length F.columns.items

  -- the count of the types, which is that of the nodes
  abbrev W : ℕ
  W = length (origins_of F ps)

  nodes : N ≡ length ps
  nodes = length-map ps (λ (k : Pair). is_filled k.0)

  wide : W ≡ length ps
  wide = length-map ps (λ (k : Pair). start_origin F k.1)

  live_below : (n : ℕ) → is_live H.order n ≡ true → n < W
  live_below n h = omega (arith, bit-below H.order.live n h, nodes, wide)

  small : (n : ℕ) → n < W → n < 2 ^ 64
  small n lt = let len = length-map l.concepts.items pair_of in omega (arith, len, lt, wide, l.concepts.ok, l.concepts.small)

  unwritable_none : first_unwritable F H ≡ None
  unwritable_none =
      first_below_clear (λ n. or_else (unwritable_type F H n) (first_below C (unwritable F H n))) N (λ n ln.
      none_both (unwritable_type F H n) (first_below C (unwritable F H n))
      (none_by (is_live H.order n && not (is_name (type_name H n))) (of_node B8 n) (λ h.
      let p = and_parts (is_live H.order n) (not (is_name (type_name H n))) h in
      let lt = live_below n p.0 in
      refuted (is_name (type_name H n)) p.1 (type_name_is F A.range A.order (origins_of F ps) W n lt (small n lt))))
      (first_below_clear (unwritable F H n) C (λ c lc.
      none_by (is_unwritable F H n c) (of_column B8 n c) (λ h.
      let p = and_parts (stands_at H n c && is_member (column_kind F c)) (not (is_name (member_name H c))) h in
      let q = and_parts (stands_at H n c) (is_member (column_kind F c)) p.0 in
      refuted (is_name (member_name H c)) p.1 (member_name_is F A.range A.order c lc (member_kind (column_kind F c) q.1))))))

  other_types : (n : ℕ) → n < W → is_other_type F H n (type_name H n) ≡ true → ⊥
  other_types n lt h =
      let m = any_below_some (λ m. not (eqb m n) && is_named H (type_name H n) m) N h in
      let p = and_parts (not (eqb m.0 n)) (is_named H (type_name H n) m.0) m.2 in
      let q = and_parts (is_live H.order m.0) (bytes_eq (type_name H m.0) (type_name H n)) p.1 in
      types_apart F (origins_of F ps) W m.0 n (live_below m.0 q.0) lt (λ e. refuted (eqb m.0 n) p.0 (eq-eqb m.0 n e))
      ((bytes_eq-Decides (type_name H m.0) (type_name H n)).0 q.1)

  taken_type_none : first_taken_type F H ≡ None
  taken_type_none =
      first_below_clear (taken_type F H) N (λ n ln.
      none_by (is_live H.order n && is_taken_type F H n) (of_node B8 n) (λ h.
      let p = and_parts (is_live H.order n) (is_taken_type F H n) h in
      let lt = live_below n p.0 in
      ⊎_elim
      (λ a. ⊎_elim
      (λ b. other_types n lt b)
      (λ b. false≢true (sym (type_unreserved F A.range A.order (origins_of F ps) W n lt) ∙ b))
      (or_cases (is_other_type F H n (type_name H n)) (is_reserved F (type_name H n)) a))
      (λ a. false≢true (sym (type_no_variable F A.range A.order (origins_of F ps) W n lt) ∙ a))
      (or_cases (is_other_type F H n (type_name H n) || is_reserved F (type_name H n)) (is_variable F (type_name H n)) p.1)))

  typed : (c : ℕ) → c < C → is_type F H (member_name H c) ≡ true → ⊥
  typed c lt h =
      let m = any_below_some (is_named H (member_name H c)) N h in
      let p = and_parts (is_live H.order m.0) (bytes_eq (type_name H m.0) (member_name H c)) m.2 in
      type_no_member F (origins_of F ps) W m.0 c (live_below m.0 p.0) lt ((bytes_eq-Decides (type_name H m.0) (member_name H c)).0 p.1)

  taken_field_none : first_taken_field F H ≡ None
  taken_field_none =
      first_below_clear (λ n. first_below C (taken_field F H n)) N (λ n ln.
      first_below_clear (taken_field F H n) C (λ c lc.
      none_by (stands_at H n c && is_field (column_kind F c) && is_taken_name F H c) (of_column B8 n c) (λ h.
      let p = and_parts (stands_at H n c && is_field (column_kind F c)) (is_taken_name F H c) h in
      let q = and_parts (stands_at H n c) (is_field (column_kind F c)) p.0 in
      ⊎_elim
      (typed c lc)
      (λ b. false≢true (sym (field_unreserved F A.range A.order c q.1) ∙ b))
      (or_cases (is_type F H (member_name H c)) (is_reserved F (member_name H c)) p.1))))

  abbrev G : Given
  G = given F pt t

  shown : IsStart (given F pt t) (shape (start_from F t l))
  shown = start_shape F pt t l A.table A.lattice

  closes : IsClosed (given F pt t) (roles F pt t)
  closes = is_closed F pt t A.range A.order A.sets A.table

  ordered : AreInOrder (given F pt t) (roles F pt t)
  ordered = in_order F pt t A.range A.order A.sets A.table

  offers : (n c : ℕ) → is_offered H n c ≡ true → OffersColumn (shape H) n c
  offers n c h = offered_says F pt t H refl n c h

  slots_apart : (n c d : ℕ) → c < C → d < C → is_offered H n c ≡ true → is_offered H n d ≡ true → member_name H c ≡ member_name H d
      → are_two_slots (method_slot (column_kind F c) (column_slot F c)) (method_slot (column_kind F d) (column_slot F d)) ≡ true → ⊥
  slots_apart n c d lc ld oc od e h =
      let two = two_slots (method_slot (column_kind F c) (column_slot F c)) (method_slot (column_kind F d) (column_slot F d)) h in
      let a = slot_of_method (column_kind F c) (column_slot F c) two.0 two.2 in
      let b = slot_of_method (column_kind F d) (column_slot F d) two.1 two.3 in
      let r = offered_row G (roles F pt t) closes ordered (shape H) shown n c d (offers n c oc) (offers n d od) in
      let up = λ (k : ℕ) (g : bit (row t.rows.items r.0) k ≡ true). (below-exact F A.order.classes.acyclic (row_class F r.0) (column_class F k)).0
      (closes.above r.0 k g) in
      two.4 (A.order.members.slots (row_class F r.0) c d two.0 two.1 a.1 b.1 (up c r.1) (up d r.2)
      (sym (method_name F A.range A.order c lc a.0) ∙ e ∙ method_name F A.range A.order d ld b.0))

  fields_apart : (n c d : ℕ) → c < d → is_offered H n c ≡ true → is_offered H n d ≡ true → member_name H c ≡ member_name H d
      → (is_field (column_kind F c) && is_field (column_kind F d)) ≡ true → ⊥
  fields_apart n c d lt oc od e h =
      let f = and_parts (is_field (column_kind F c)) (is_field (column_kind F d)) h in
      let same = start_fields G (roles F pt t) closes ordered (shape H) shown (λ c. is_field (column_kind F c)) (is_shared F) (name_of F)
      (new_name F A.range A.order) (fields_named F A.range A.order pt t) n c d f.0 f.1 (offers n c oc) (offers n d od) e in
      omega (arith, same, lt)

  confused_none : first_confused F H ≡ None
  confused_none =
      first_below_clear (λ n. first_below C (confused F H n)) N (λ n ln.
      first_below_clear (confused F H n) C (λ d ld.
      none_by (is_confused F H n d) (of_column B8 n d) (λ h.
      let p = and_parts (is_offered H n d) (any_below d (λ c. is_offered H n c && clash F H c d)) h in
      let c = any_below_some (λ c. is_offered H n c && clash F H c d) d p.1 in
      let q = and_parts (is_offered H n c.0) (clash F H c.0 d) c.2 in
      let k = and_parts (bytes_eq (member_name H c.0) (member_name H d))
      ((is_field (column_kind F c.0) && is_field (column_kind F d)) || are_two_slots (method_slot (column_kind F c.0) (column_slot F c.0))
      (method_slot (column_kind F d) (column_slot F d))) q.1 in
      let e = (bytes_eq-Decides (member_name H c.0) (member_name H d)).0 k.0 in
      ⊎_elim
      (fields_apart n c.0 d c.1 q.0 p.0 e)
      (slots_apart n c.0 d (omega (arith, c.1, ld)) ld q.0 p.0 e)
      (or_cases (is_field (column_kind F c.0) && is_field (column_kind F d)) (are_two_slots (method_slot (column_kind F c.0) (column_slot F c.0))
      (method_slot (column_kind F d) (column_slot F d))) k.1))))

  misnamed_none : first_misnamed F H ≡ None
  misnamed_none =
      none_both (first_unwritable F H) (or_else (first_taken_type F H) (or_else (first_taken_field F H) (first_confused F H))) unwritable_none
      (none_both (first_taken_type F H) (or_else (first_taken_field F H) (first_confused F H)) taken_type_none
      (none_both (first_taken_field F H) (first_confused F H) taken_field_none confused_none))

  pub edit_none : first_of_edit F pt H ≡ None
  edit_none =
      let half = start_half G (roles F pt t) closes ordered (shape H) shown in
      let rest = start_rest G (roles F pt t) closes ordered (shape H) shown in
      let r = run_none F pt t H refl half rest in
      let run : first_changed_run F pt H ≡ None =
      none_both (first_wrong_need F pt H) (or_else (first_wrong_super F H) (or_else (first_two_bodies F H) (first_wrong_outcome F pt H))) r.2
      (none_both (first_wrong_super F H) (or_else (first_two_bodies F H) (first_wrong_outcome F pt H)) r.3
      (none_both (first_two_bodies F H) (first_wrong_outcome F pt H) r.4 r.5)) in
      none_both (first_unoffered F H) (or_else (first_untied F pt H) (or_else (first_changed_run F pt H) (first_misnamed F H))) r.0
      (none_both (first_untied F pt H) (or_else (first_changed_run F pt H) (first_misnamed F H)) r.1
      (none_both (first_changed_run F pt H) (first_misnamed F H) run misnamed_none))

pub start_meets : StartMeets
start_meets F pt t l A = edit_none F pt t l A
