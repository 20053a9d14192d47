-- The names of the nodes and members that are left meet what was asked of them.
use Rattle.std.proofs.Common.{◌≡◌, ◌≢◌, ℕ, ◌<◌, ◌&&◌, ◌||◌, eqb, true, List, length, Some, None, sym, ap, ◌∙◌, subst, arith, ⊎_elim}
use Rattle.std.specs.Prelude.{not}
use Rattle.std.specs.Str.{bytes_eq}
use Rattle.std.proofs.lemmas.Bool.{false≢true, and_parts, and_from, or_cases, or_left, or_right}
use Rattle.std.proofs.lemmas.Slice.Eq.{bytes_eq-Decides}
use Rattle.kaba_base.specs.Words.{is_name}
use Rattle.kaba_bits.specs.Sets.{or_else, first_below}
use Rattle.kaba_bits.proofs.FirstLemmas.{first_below_None, first_below_clear, or_else-None}
use Rattle.kaba_order.specs.Orders.{is_live}
use Rattle.fact_model.specs.Items.{column_kind}
use Rattle.fact_model.specs.declared.facts.Facts.{Facts}
use Rattle.fact_model.specs.declared.sets.PointsTo.{PointsTo}
use Rattle.fact_model.specs.declared.sets.Table.{Table}
use Rattle.hier_model.specs.Hierarchies.{Hierarchy, stands_at, is_offered, type_name, member_name, any_below}
use Rattle.hier_model.specs.Names.{is_field}
use Rattle.hier_model.proofs.AnyLemmas.{any_below_some, any_below_has}
use Rattle.hier_laws.specs.Shapes.{Shape, OffersColumn}
use Rattle.hier_rules.specs.declared.broken.Rule.TheVariants.{B8}
use Rattle.hier_rules.specs.Asked.{are_two_slots}
use Rattle.hier_rules.specs.Instances.{of_node, of_column}
use Rattle.hier_rules.specs.Names.{is_member, is_reserved, is_variable, is_named, unwritable_type, is_unwritable, unwritable, first_unwritable, is_other_type, is_taken_type, taken_type, first_taken_type, is_type, is_taken_name, taken_field, first_taken_field, clash, is_confused, confused, first_confused, first_misnamed}
use Rattle.hier_laws.proofs.ShapeLemmas.{shape}
use Rattle.hier_laws.proofs.MeetLemmas.{none_by, none_both, offered_says}
use Rattle.hier_laws.proofs.StartMeets.{two_slots}
use Rattle.hier_tree.specs.Kept.{field_at, slot_at}
use Rattle.kaba_bits.proofs.FirstLemmas.{when-None as none_when}
use Rattle.hier_laws.proofs.Unbroken.{none_misnamed}

-- the nodes are some of those of before, and the members that stand somewhere stood somewhere
pub record AreNamesLeft (H New : Hierarchy) : Type 0 where
  pub count : length New.order.live ≡ length H.order.live
  pub live : (n : ℕ) → is_live New.order n ≡ true → is_live H.order n ≡ true
  pub types : New.types ≡ H.types
  pub members : New.members ≡ H.members
  pub stands : (n c : ℕ) → stands_at New n c ≡ true → (k : ℕ) × (k < length H.order.live) × (stands_at H k c ≡ true)

module _ (F : Facts) (H New : Hierarchy) (L : AreNamesLeft H New) where
  abbrev C : ℕ
  C = length F.columns.items

  abbrev N : ℕ
  N = length H.order.live

  named : (n : ℕ) → type_name New n ≡ type_name H n
  named n = ap (λ ts. type_name (record H { types = ts }) n) L.types

  called : (c : ℕ) → member_name New c ≡ member_name H c
  called c = ap (λ ms. member_name (record H { members = ms }) c) L.members

  node_below : (n : ℕ) → n < length New.order.live → n < N
  node_below n lt = omega (arith, lt, L.count)

  is_named_left : (x : List ℕ) (m : ℕ) → is_named New x m ≡ true → is_named H x m ≡ true
  is_named_left x m h =
      let p = and_parts (is_live New.order m) (bytes_eq (type_name New m) x) h in
      and_from (is_live H.order m) (bytes_eq (type_name H m) x) (L.live m p.0) (subst (λ y. bytes_eq y x ≡ true) (named m) p.1)

  unwritable_left : first_unwritable F H ≡ None → first_unwritable F New ≡ None
  unwritable_left none =
      first_below_clear (λ n. or_else (unwritable_type F New n) (first_below C (unwritable F New n))) (length New.order.live) (λ n ln.
      none_both (unwritable_type F New n) (first_below C (unwritable F New n))
      (none_by (is_live New.order n && not (is_name (type_name New n))) (of_node B8 n) (λ h.
      let p = and_parts (is_live New.order n) (not (is_name (type_name New n))) h in
      let old = first_below_None (λ n. or_else (unwritable_type F H n) (first_below C (unwritable F H n))) N n none (node_below n ln) in
      let type = (or_else-None (unwritable_type F H n) (first_below C (unwritable F H n)) old).0 in
      false≢true (sym (none_when (is_live H.order n && not (is_name (type_name H n))) (of_node B8 n) type)
      ∙ and_from (is_live H.order n) (not (is_name (type_name H n))) (L.live n p.0) (subst (λ x. not (is_name x) ≡ true) (named n) p.1))))
      (first_below_clear (unwritable F New n) C (λ c lc.
      none_by (is_unwritable F New n c) (of_column B8 n c) (λ h.
      let p = and_parts (stands_at New n c && is_member (column_kind F c)) (not (is_name (member_name New c))) h in
      let q = and_parts (stands_at New n c) (is_member (column_kind F c)) p.0 in
      let k = L.stands n c q.0 in
      let old = first_below_None (λ n. or_else (unwritable_type F H n) (first_below C (unwritable F H n))) N k.0 none k.1 in
      let members = (or_else-None (unwritable_type F H k.0) (first_below C (unwritable F H k.0)) old).1 in
      let member = first_below_None (unwritable F H k.0) C c members lc in
      false≢true (sym (none_when (is_unwritable F H k.0 c) (of_column B8 k.0 c) member)
      ∙ and_from (stands_at H k.0 c && is_member (column_kind F c)) (not (is_name (member_name H c)))
      (and_from (stands_at H k.0 c) (is_member (column_kind F c)) k.2 q.1) (subst (λ x. not (is_name x) ≡ true) (called c) p.1))))))

  other_left : (n : ℕ) → is_other_type F New n (type_name New n) ≡ true → is_other_type F H n (type_name H n) ≡ true
  other_left n h =
      let m = any_below_some (λ m. not (eqb m n) && is_named New (type_name New n) m) (length New.order.live) h in
      let p = and_parts (not (eqb m.0 n)) (is_named New (type_name New n) m.0) m.2 in
      any_below_has (λ m. not (eqb m n) && is_named H (type_name H n) m) N m.0 (node_below m.0 m.1)
      (and_from (not (eqb m.0 n)) (is_named H (type_name H n) m.0) p.0 (subst (λ x. is_named H x m.0 ≡ true) (named n)
      (is_named_left (type_name New n) m.0 p.1)))

  taken_left : first_taken_type F H ≡ None → first_taken_type F New ≡ None
  taken_left none =
      first_below_clear (taken_type F New) (length New.order.live) (λ n ln.
      none_by (is_live New.order n && is_taken_type F New n) (of_node B8 n) (λ h.
      let p = and_parts (is_live New.order n) (is_taken_type F New n) h in
      let old = first_below_None (taken_type F H) N n none (node_below n ln) in
      let other = is_other_type F H n (type_name H n) in
      let taken : is_taken_type F H n ≡ true =
      ⊎_elim
      (λ a. or_left (other || is_reserved F (type_name H n)) (is_variable F (type_name H n))
      (⊎_elim
      (λ b. or_left other (is_reserved F (type_name H n)) (other_left n b))
      (λ b. or_right other (is_reserved F (type_name H n)) (subst (λ x. is_reserved F x ≡ true) (named n) b))
      (or_cases (is_other_type F New n (type_name New n)) (is_reserved F (type_name New n)) a)))
      (λ a. or_right (other || is_reserved F (type_name H n)) (is_variable F (type_name H n)) (subst (λ x. is_variable F x ≡ true) (named n) a))
      (or_cases (is_other_type F New n (type_name New n) || is_reserved F (type_name New n)) (is_variable F (type_name New n)) p.1) in
      false≢true (sym (none_when (is_live H.order n && is_taken_type F H n) (of_node B8 n) old) ∙ and_from (is_live H.order n) (is_taken_type F H n)
      (L.live n p.0) taken)))

  field_left : first_taken_field F H ≡ None → first_taken_field F New ≡ None
  field_left none =
      first_below_clear (λ n. first_below C (taken_field F New n)) (length New.order.live) (λ n ln.
      first_below_clear (taken_field F New n) C (λ c lc.
      none_by (stands_at New n c && is_field (column_kind F c) && is_taken_name F New c) (of_column B8 n c) (λ h.
      let p = and_parts (stands_at New n c && is_field (column_kind F c)) (is_taken_name F New c) h in
      let q = and_parts (stands_at New n c) (is_field (column_kind F c)) p.0 in
      let k = L.stands n c q.0 in
      let one = first_below_None (λ n. first_below C (taken_field F H n)) N k.0 none k.1 in
      let two = first_below_None (taken_field F H k.0) C c one lc in
      let taken : is_taken_name F H c ≡ true =
      ⊎_elim
      (λ a.
      let m = any_below_some (is_named New (member_name New c)) (length New.order.live) a in
      or_left (is_type F H (member_name H c)) (is_reserved F (member_name H c))
      (any_below_has (is_named H (member_name H c)) N m.0 (node_below m.0 m.1) (subst (λ x. is_named H x m.0 ≡ true) (called c)
      (is_named_left (member_name New c) m.0 m.2))))
      (λ a. or_right (is_type F H (member_name H c)) (is_reserved F (member_name H c)) (subst (λ x. is_reserved F x ≡ true) (called c) a))
      (or_cases (is_type F New (member_name New c)) (is_reserved F (member_name New c)) p.1) in
      false≢true (sym (none_when (stands_at H k.0 c && is_field (column_kind F c) && is_taken_name F H c) (of_column B8 k.0 c) two)
      ∙ and_from (stands_at H k.0 c && is_field (column_kind F c)) (is_taken_name F H c) (and_from (stands_at H k.0 c) (is_field (column_kind F c))
      k.2 q.1) taken))))

  -- with members apart at each node
  pub names_left : first_misnamed F H ≡ None → first_confused F New ≡ None → first_misnamed F New ≡ None
  names_left none apart =
      let old = none_misnamed F H none in
      none_both (first_unwritable F New) (or_else (first_taken_type F New) (or_else (first_taken_field F New) (first_confused F New)))
      (unwritable_left old.written) (none_both (first_taken_type F New) (or_else (first_taken_field F New) (first_confused F New)) (taken_left old.types)
      (none_both (first_taken_field F New) (first_confused F New) (field_left old.fields) apart))

module _ (F : Facts) (pt : PointsTo) (t : Table) (H : Hierarchy) (table : H.table ≡ t.rows.items) where
  abbrev S : Shape
  S = shape H

  -- where no node offers two fields, or two slots, of one name
  pub confused_none : ((n c d : ℕ) → field_at F c ≡ true → field_at F d ≡ true → OffersColumn S n c → OffersColumn S n d → member_name H c ≡ member_name H d → c ≡ d)
      → ((n c d x y : ℕ) → slot_at F c ≡ Some x → slot_at F d ≡ Some y → OffersColumn S n c → OffersColumn S n d → member_name H c ≡ member_name H d → x ≡ y)
      → first_confused F H ≡ None
  confused_none fields slots =
      first_below_clear (λ n. first_below (length F.columns.items) (confused F H n)) (length H.order.live) (λ n ln.
      first_below_clear (confused F H n) (length F.columns.items) (λ d ld.
      none_by (is_confused F H n d) (of_column B8 n d) (λ h.
      let p = and_parts (is_offered H n d) (any_below d (λ c. is_offered H n c && clash F H c d)) h in
      let c = any_below_some (λ c. is_offered H n c && clash F H c d) d p.1 in
      let q = and_parts (is_offered H n c.0) (clash F H c.0 d) c.2 in
      let k = and_parts (bytes_eq (member_name H c.0) (member_name H d)) ((field_at F c.0 && field_at F d) || are_two_slots (slot_at F c.0)
      (slot_at F d)) q.1 in
      let e = (bytes_eq-Decides (member_name H c.0) (member_name H d)).0 k.0 in
      let oc = offered_says F pt t H table n c.0 q.0 in
      let od = offered_says F pt t H table n d p.0 in
      ⊎_elim
      (λ both. let f = and_parts (field_at F c.0) (field_at F d) both in let same = fields n c.0 d f.0 f.1 oc od e in omega (arith, same, c.1))
      (λ two. let s = two_slots (slot_at F c.0) (slot_at F d) two in s.4 (slots n c.0 d s.0 s.1 s.2 s.3 oc od e))
      (or_cases (field_at F c.0 && field_at F d) (are_two_slots (slot_at F c.0) (slot_at F d)) k.1))))
