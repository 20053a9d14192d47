-- What an edit leaves unbroken of what was: a join (a merge, or a node put under another) and a name.
use Rattle.std.proofs.Common.{◌≡◌, ℕ, ◌<◌, ◌&&◌, ◌||◌, ◌==◌, not, Bool, true, false, List, length, get_or, Option, Some, None, refl, sym, ap, ◌∙◌, subst, arith, ⊎_elim}
use Rattle.std.specs.Prelude.{nat_lt, []}
use Rattle.std.specs.Str.{bytes_eq}
use Rattle.std.proofs.lemmas.Bool.{eqb-true, false≢true, and_parts, and_from, or_cases, or_left, or_right}
use Rattle.kaba_base.specs.declared.NodeId.{NodeId}
use Rattle.kaba_base.specs.Words.{is_name}
use Rattle.kaba_base.proofs.TestLemmas.{refuted}
use Rattle.kaba_bits.specs.Sets.{bit, row, or_else, first_below, when}
use Rattle.kaba_bits.proofs.SetLemmas.{bit-below}
use Rattle.kaba_bits.proofs.FirstLemmas.{first_below_None, first_below_clear, or_else-None, when-None}
use Rattle.kaba_order.specs.Orders.{is_le, is_live, is_among}
use Rattle.fact_model.specs.Items.{site_row, column_kind, column_slot}
use Rattle.fact_model.specs.Classes.{is_def}
use Rattle.fact_model.specs.declared.facts.Facts.{Facts}
use Rattle.fact_model.specs.declared.sets.PointsTo.{PointsTo}
use Rattle.hier_model.specs.Hierarchies.{Hierarchy, IsHierarchyOf, place_of_column, place_of_row, type_name, member_name, is_at, stands_at, is_offered, any_below}
use Rattle.hier_model.specs.Names.{is_field}
use Rattle.hier_model.specs.Edits.{is_one_slot}
use Rattle.hier_model.proofs.AnyLemmas.{any_below_some, any_below_has}
use Rattle.hier_rules.specs.declared.broken.Rule.TheVariants.{B2, B3, B6, B8}
use Rattle.hier_rules.specs.Asked.{is_tie}
use Rattle.hier_rules.specs.Instances.{of_both, of_row, of_column, of_node}
use Rattle.hier_rules.specs.Obligations.{row_le, place_of_site, unoffered, first_unoffered, untied, unheld, first_untied, is_body_at, two_bodies, first_two_bodies, first_wrong_need, first_wrong_super, first_wrong_outcome}
use Rattle.hier_rules.specs.Names.{is_member, is_reserved, is_variable, is_named, unwritable_type, is_unwritable, unwritable, first_unwritable, is_other_type, is_taken_type, taken_type, first_taken_type, is_type, is_taken_name, taken_field, first_taken_field, first_confused, first_misnamed}
use Rattle.hier_rules.specs.After.{AreApartOutside}
use Rattle.hier_rules.specs.First.{first_changed_run, first_of_edit, MeetsEdit}

-- a join: it only adds pairs to the order, takes along what stands somewhere, and changes no name; nothing comes to a node outside the set
pub record IsJoin (set : List NodeId) (H K : Hierarchy) : Type 0 where
  pub count : length K.order.live ≡ length H.order.live
  pub lives : (n : ℕ) → is_live K.order n ≡ true → is_live H.order n ≡ true
  pub rows : (r v : ℕ) → row_le H r v ≡ true → row_le K r v ≡ true
  pub offers : (r c : ℕ) → is_offered H (place_of_row H r) c ≡ true → is_offered K (place_of_row K r) c ≡ true
  pub stay : (n : ℕ) → is_among set n ≡ false → is_live H.order n ≡ true → is_live K.order n ≡ true
  pub offers_on : (n c : ℕ) → is_live K.order n ≡ true → is_offered H n c ≡ true → is_offered K n c ≡ true
  pub under : (n r : ℕ) → is_live K.order n ≡ true → is_le H.order n (place_of_row H r) ≡ true → is_le K.order n (place_of_row K r) ≡ true
  pub stands : (n c : ℕ) → stands_at K n c ≡ true → (m : ℕ) × (stands_at H m c ≡ true)
  pub apart : (n c : ℕ) → is_among set n ≡ false → stands_at K n c ≡ true → stands_at H n c ≡ true
  pub table : K.table ≡ H.table
  pub types : K.types ≡ H.types
  pub members : K.members ≡ H.members

none_at : {B : Type 0} (f : ℕ → ℕ → Option B) (n m a b : ℕ) → first_below n (λ k. first_below m (f k)) ≡ None → a < n → b < m → f a b ≡ None
none_at f n m a b h la lb = first_below_None (f a) m b (first_below_None (λ k. first_below m (f k)) n a h la) lb

all_none : {B : Type 0} (f : ℕ → ℕ → Option B) (n m : ℕ) → ((a b : ℕ) → a < n → b < m → f a b ≡ None) → first_below n (λ k. first_below m (f k)) ≡ None
all_none f n m h = first_below_clear (λ k. first_below m (f k)) n (λ a la. first_below_clear (f a) m (λ b lb. h a b la lb))

none_when : {B : Type 0} (t : Bool) (v : B) → (t ≡ true → ⊥) → when t v ≡ None
none_when true v n = absurd (n refl)
none_when false v n = refl

none_both : {B : Type 0} (x y : Option B) → x ≡ None → y ≡ None → or_else x y ≡ None
none_both x y e f = rw (e, f) refl

-- an instance that was none: its test failed
was_none : {B : Type 0} {A : Type 0} (t : Bool) (v : B) → when t v ≡ None → t ≡ true → A
was_none t v h k = absurd (false≢true (sym (when-None t v h) ∙ k))

-- of what was none the first test held, so that the second did not fail
held : {B : Type 0} (a b : Bool) (v : B) → when (a && not b) v ≡ None → a ≡ true → b ≡ true
held a true v h k = refl
held a false v h k = was_none (a && not false) v h (and_from a (not false) k refl)

any_more : (p q : ℕ → Bool) (n m : ℕ) → n ≡ m → ((k : ℕ) → p k ≡ true → q k ≡ true) → any_below n p ≡ true → any_below m q ≡ true
any_more p q n m e f h = let k = any_below_some p n h in any_below_has q m k.0 (omega (arith, k.1, e)) (f k.0 k.2)

module _ (F : Facts) (pt : PointsTo) (H K : Hierarchy) (fit : IsHierarchyOf F H) (set : List NodeId) (J : IsJoin set H K) where
  abbrev R : ℕ
  R = length F.rows.items

  abbrev C : ℕ
  C = length F.columns.items

  unoffered_after : first_unoffered F H ≡ None → first_unoffered F K ≡ None
  unoffered_after old = all_none (unoffered F K) R C (λ r c lr lc.
      none_when (bit (row K.table r) c && not (is_offered K (place_of_row K r) c)) (of_both B2 (place_of_row K r) r c) (λ h.
      let p = and_parts (bit (row K.table r) c) (not (is_offered K (place_of_row K r) c)) h in
      let has : bit (row H.table r) c ≡ true = subst (λ t. bit (row t r) c ≡ true) J.table p.0 in
      let was = held (bit (row H.table r) c) (is_offered H (place_of_row H r) c) (of_both B2 (place_of_row H r) r c)
      (none_at (unoffered F H) R C r c old lr lc) has in
      refuted (is_offered K (place_of_row K r) c) p.1 (J.offers r c was)))

  tied_after : first_below R (λ l. first_below R (untied F H l)) ≡ None → first_below R (λ l. first_below R (untied F K l)) ≡ None
  tied_after old = all_none (untied F K) R R (λ l u ll lu.
      none_when (is_tie F l u && not (row_le K l u)) (of_row B3 (place_of_row K l) (place_of_row K u) l) (λ h.
      let p = and_parts (is_tie F l u) (not (row_le K l u)) h in
      refuted (row_le K l u) p.1 (J.rows l u (held (is_tie F l u) (row_le H l u) (of_row B3 (place_of_row H l) (place_of_row H u) l)
      (none_at (untied F H) R R l u old ll lu) p.0))))

  held_after : first_below (length F.sites.items) (λ o. first_below R (unheld F pt H o)) ≡ None
      → first_below (length F.sites.items) (λ o. first_below R (unheld F pt K o)) ≡ None
  held_after old = all_none (unheld F pt K) (length F.sites.items) R (λ o v lo lv.
      none_when (bit (row pt.rows.items v) o && not (row_le K (site_row F o) v)) (of_row B3 (place_of_site F K o) (place_of_row K v) (site_row F o)) (λ h.
      let p = and_parts (bit (row pt.rows.items v) o) (not (row_le K (site_row F o) v)) h in
      refuted (row_le K (site_row F o) v) p.1 (J.rows (site_row F o) v (held (bit (row pt.rows.items v) o) (row_le H (site_row F o) v)
      (of_row B3 (place_of_site F H o) (place_of_row H v) (site_row F o))
      (none_at (unheld F pt H) (length F.sites.items) R o v old lo lv) p.0))))

  untied_after : first_untied F pt H ≡ None → first_untied F pt K ≡ None
  untied_after old =
      let both = or_else-None (first_below R (λ l. first_below R (untied F H l))) (first_below (length F.sites.items) (λ o. first_below R (unheld F pt H o))) old in
      none_both (first_below R (λ l. first_below R (untied F K l))) (first_below (length F.sites.items) (λ o. first_below R (unheld F pt K o)))
      (tied_after both.0) (held_after both.1)

  abbrev N : ℕ
  N = length H.order.live

  abbrev M : ℕ
  M = length K.order.live

  in_old : (n : ℕ) → n < M → n < N
  in_old n lt = omega (arith, lt, J.count)

  type_same : (n : ℕ) → type_name K n ≡ type_name H n
  type_same n = ap (λ t. get_or t n []) J.types

  member_same : (c : ℕ) → member_name K c ≡ member_name H c
  member_same c = ap (λ t. get_or t c []) J.members

  -- a column that stands at a node stood at one
  stood : (n c : ℕ) → stands_at K n c ≡ true → (m : ℕ) × (m < N) × (stands_at H m c ≡ true)
  stood n c h = let s = J.stands n c h in (s.0, below s.0 (place_of_column H c) refl s.1, s.1)
    where
      below : (m : ℕ) (o : Option NodeId) → place_of_column H c ≡ o → is_at m o ≡ true → m < N
      below m None e k = absurd (false≢true k)
      below m (Some p) e k =
          let same : p.0 ≡ m = eqb-true p.0 m k in
          let lt = bit-below H.order.live p.0 (fit.placed.columns c p e) in
          omega (arith, lt, same)

  unwritable_after : first_unwritable F H ≡ None → first_unwritable F K ≡ None
  unwritable_after old =
      first_below_clear (λ n. or_else (unwritable_type F K n) (first_below C (unwritable F K n))) M (λ n ln.
      none_both (unwritable_type F K n) (first_below C (unwritable F K n))
      (none_when (is_live K.order n && not (is_name (type_name K n))) (of_node B8 n) (λ h.
      let p = and_parts (is_live K.order n) (not (is_name (type_name K n))) h in
      let was = held (is_live H.order n) (is_name (type_name H n)) (of_node B8 n) (at n (in_old n ln)).0 (J.lives n p.0) in
      refuted (is_name (type_name K n)) p.1 (subst (λ x. is_name x ≡ true) (sym (type_same n)) was)))
      (first_below_clear (unwritable F K n) C (λ c lc.
      none_when (is_unwritable F K n c) (of_column B8 n c) (λ h.
      let p = and_parts (stands_at K n c && is_member (column_kind F c)) (not (is_name (member_name K c))) h in
      let q = and_parts (stands_at K n c) (is_member (column_kind F c)) p.0 in
      let s = stood n c q.0 in
      let was = held (stands_at H s.0 c && is_member (column_kind F c)) (is_name (member_name H c)) (of_column B8 s.0 c)
      (first_below_None (unwritable F H s.0) C c (at s.0 s.1).1 lc)
      (and_from (stands_at H s.0 c) (is_member (column_kind F c)) s.2 q.1) in
      refuted (is_name (member_name K c)) p.1 (subst (λ x. is_name x ≡ true) (sym (member_same c)) was)))))
    where
      at : (n : ℕ) → n < N → (unwritable_type F H n ≡ None) × (first_below C (unwritable F H n) ≡ None)
      at n ln = or_else-None (unwritable_type F H n) (first_below C (unwritable F H n))
          (first_below_None (λ n. or_else (unwritable_type F H n) (first_below C (unwritable F H n))) N n old ln)

  named_before : (name : List ℕ) (m : ℕ) → is_named K name m ≡ true → is_named H name m ≡ true
  named_before name m h =
      let p = and_parts (is_live K.order m) (bytes_eq (type_name K m) name) h in
      and_from (is_live H.order m) (bytes_eq (type_name H m) name) (J.lives m p.0) (subst (λ x. bytes_eq x name ≡ true) (type_same m) p.1)

  other_before : (n : ℕ) (name : List ℕ) → is_other_type F K n name ≡ true → is_other_type F H n name ≡ true
  other_before n name h = any_more (λ m. not (m == n) && is_named K name m) (λ m. not (m == n) && is_named H name m) M N J.count (λ m k.
      let p = and_parts (not (m == n)) (is_named K name m) k in
      and_from (not (m == n)) (is_named H name m) p.0 (named_before name m p.1)) h

  type_before : (name : List ℕ) → is_type F K name ≡ true → is_type F H name ≡ true
  type_before name h = any_more (is_named K name) (is_named H name) M N J.count (λ m k. named_before name m k) h

  taken_before : (n : ℕ) → is_taken_type F K n ≡ true → is_taken_type F H n ≡ true
  taken_before n h =
      let x = type_name K n in
      let y = type_name H n in
      let e = type_same n in
      ⊎_elim
      (λ a. ⊎_elim
      (λ b. or_left (is_other_type F H n y || is_reserved F y) (is_variable F y) (or_left (is_other_type F H n y) (is_reserved F y)
      (subst (λ z. is_other_type F H n z ≡ true) e (other_before n x b))))
      (λ b. or_left (is_other_type F H n y || is_reserved F y) (is_variable F y) (or_right (is_other_type F H n y) (is_reserved F y)
      (subst (λ z. is_reserved F z ≡ true) e b)))
      (or_cases (is_other_type F K n x) (is_reserved F x) a))
      (λ a. or_right (is_other_type F H n y || is_reserved F y) (is_variable F y) (subst (λ z. is_variable F z ≡ true) e a))
      (or_cases (is_other_type F K n x || is_reserved F x) (is_variable F x) h)

  taken_type_after : first_taken_type F H ≡ None → first_taken_type F K ≡ None
  taken_type_after old =
      first_below_clear (taken_type F K) M (λ n ln.
      none_when (is_live K.order n && is_taken_type F K n) (of_node B8 n) (λ h.
      let p = and_parts (is_live K.order n) (is_taken_type F K n) h in
      was_none (is_live H.order n && is_taken_type F H n) (of_node B8 n) (first_below_None (taken_type F H) N n old (in_old n ln))
      (and_from (is_live H.order n) (is_taken_type F H n) (J.lives n p.0) (taken_before n p.1))))

  taken_name_before : (c : ℕ) → is_taken_name F K c ≡ true → is_taken_name F H c ≡ true
  taken_name_before c h =
      let x = member_name K c in
      let y = member_name H c in
      let e = member_same c in
      ⊎_elim
      (λ a. or_left (is_type F H y) (is_reserved F y) (subst (λ z. is_type F H z ≡ true) e (type_before x a)))
      (λ a. or_right (is_type F H y) (is_reserved F y) (subst (λ z. is_reserved F z ≡ true) e a))
      (or_cases (is_type F K x) (is_reserved F x) h)

  taken_field_after : first_taken_field F H ≡ None → first_taken_field F K ≡ None
  taken_field_after old = all_none (taken_field F K) M C (λ n c ln lc.
      none_when (stands_at K n c && is_field (column_kind F c) && is_taken_name F K c) (of_column B8 n c) (λ h.
      let p = and_parts (stands_at K n c && is_field (column_kind F c)) (is_taken_name F K c) h in
      let q = and_parts (stands_at K n c) (is_field (column_kind F c)) p.0 in
      let s = stood n c q.0 in
      was_none (stands_at H s.0 c && is_field (column_kind F c) && is_taken_name F H c) (of_column B8 s.0 c)
      (none_at (taken_field F H) N C s.0 c old s.1 lc)
      (and_from (stands_at H s.0 c && is_field (column_kind F c)) (is_taken_name F H c)
      (and_from (stands_at H s.0 c) (is_field (column_kind F c)) s.2 q.1) (taken_name_before c p.1))))

  -- what a join leaves to be asked: B4 to B7, and the last part of B8
  pub after_join : MeetsEdit F pt H → first_of_edit F pt K ≡ or_else (first_changed_run F pt K) (first_confused F K)
  after_join meets =
      let a = or_else-None (first_unoffered F H) (or_else (first_untied F pt H) (or_else (first_changed_run F pt H) (first_misnamed F H))) meets in
      let b = or_else-None (first_untied F pt H) (or_else (first_changed_run F pt H) (first_misnamed F H)) a.1 in
      let c = or_else-None (first_changed_run F pt H) (first_misnamed F H) b.1 in
      let d = or_else-None (first_unwritable F H) (or_else (first_taken_type F H) (or_else (first_taken_field F H) (first_confused F H))) c.1 in
      let e = or_else-None (first_taken_type F H) (or_else (first_taken_field F H) (first_confused F H)) d.1 in
      let f = or_else-None (first_taken_field F H) (first_confused F H) e.1 in
      rw (unoffered_after a.0, untied_after b.0, unwritable_after d.0, taken_type_after e.0, taken_field_after f.0) refl

  body_before : (n c : ℕ) → is_among set n ≡ false → is_body_at F K n c ≡ true → is_body_at F H n c ≡ true
  body_before n c out h =
      let p = and_parts (stands_at K n c) (is_def (column_kind F c)) h in
      and_from (stands_at H n c) (is_def (column_kind F c)) (J.apart n c out p.0) p.1

  -- no two bodies of one slot come to a node outside the set
  pub bodies_after : MeetsEdit F pt H → AreApartOutside F K set
  bodies_after meets = λ n ln out.
      all_none (two_bodies F K n) C C (λ c d lc ld.
      let slot = is_one_slot (column_slot F c) (column_slot F d) in
      none_when (is_body_at F K n c && (is_body_at F K n d && nat_lt c d && slot)) (of_column B6 n d) (λ h.
      let p = and_parts (is_body_at F K n c) (is_body_at F K n d && nat_lt c d && slot) h in
      let q = and_parts (is_body_at F K n d && nat_lt c d) slot p.1 in
      let s = and_parts (is_body_at F K n d) (nat_lt c d) q.0 in
      was_none (is_body_at F H n c && (is_body_at F H n d && nat_lt c d && slot)) (of_column B6 n d)
      (none_at (two_bodies F H n) C C c d (first_below_None (λ n. first_below C (λ c. first_below C (two_bodies F H n c))) N n old (in_old n ln)) lc ld)
      (and_from (is_body_at F H n c) (is_body_at F H n d && nat_lt c d && slot) (body_before n c out p.0)
      (and_from (is_body_at F H n d && nat_lt c d) slot (and_from (is_body_at F H n d) (nat_lt c d) (body_before n d out s.0) s.1) q.1))))
    where
      old : first_two_bodies F H ≡ None
      old =
          let a = or_else-None (first_unoffered F H) (or_else (first_untied F pt H) (or_else (first_changed_run F pt H) (first_misnamed F H))) meets in
          let b = or_else-None (first_untied F pt H) (or_else (first_changed_run F pt H) (first_misnamed F H)) a.1 in
          let c = or_else-None (first_changed_run F pt H) (first_misnamed F H) b.1 in
          let d = or_else-None (first_wrong_need F pt H) (or_else (first_wrong_super F H) (or_else (first_two_bodies F H) (first_wrong_outcome F pt H))) c.0 in
          let e = or_else-None (first_wrong_super F H) (or_else (first_two_bodies F H) (first_wrong_outcome F pt H)) d.1 in
          (or_else-None (first_two_bodies F H) (first_wrong_outcome F pt H) e.1).0
