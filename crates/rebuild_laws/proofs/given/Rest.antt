-- Where no obligation is broken, the rest of B4, B5 and B7 holds, beside the half that stays where an order grows.
use Rattle.std.proofs.Common.{◌≡◌, ◌≢◌, ℕ, ◌<◌, ◌&&◌, ◌||◌, eqb, Bool, true, false, length, Some, None, refl, sym, ap, ◌∙◌}
use Rattle.std.specs.Prelude.{not}
use Rattle.std.proofs.lemmas.Bool.{false≢true, and_from, or_left, ne_eqb}
use Rattle.kaba_order.specs.Orders.{is_le, differ}
use Rattle.fact_model.specs.Items.{site_class, site_row, row_class, column_kind, column_class, column_slot}
use Rattle.fact_model.specs.Classes.{is_def, below}
use Rattle.fact_model.specs.InRange.{InRange}
use Rattle.fact_model.specs.InOrder.{InOrder}
use Rattle.fact_model.specs.Flowing.{AreSets}
use Rattle.fact_model.specs.Entries.{IsTable}
use Rattle.fact_model.specs.declared.facts.Facts.{Facts}
use Rattle.fact_model.specs.declared.sets.PointsTo.{PointsTo}
use Rattle.fact_model.specs.declared.sets.Table.{Table}
use Rattle.fact_model.proofs.RangeLemmas.{column-below}
use Rattle.fact_model.proofs.ClassLemmas.{finds-found}
use Rattle.hier_model.specs.Hierarchies.{Hierarchy, place_of_row, is_offered}
use Rattle.hier_model.proofs.AnyLemmas.{any_below_has}
use Rattle.hier_model.specs.Edits.{is_one_slot}
use Rattle.hier_laws.specs.Shapes.{Given}
use Rattle.hier_laws.specs.Obligations.{NoneIsNearer, SupersStandAbove, NoneIsBetween, TestsFail, Half}
use Rattle.hier_rules.specs.Asked.{is_super, is_other_body}
use Rattle.hier_rules.specs.Obligations.{row_le, column_le, place_of_site, is_nearer, has_nearer, is_between, has_between}
use Rattle.hier_rules.specs.Obligations as rule
use Rattle.hier_rules.specs.First.{first_broken}
use Rattle.hier_laws.proofs.ShapeLemmas.{shape, placed}
use Rattle.hier_laws.proofs.GivenLemmas.{given, found_at, super_fact}
use Rattle.hier_laws.proofs.MeetLemmas.{offers, above_says, above_test}
use Rattle.hier_tree.proofs.ReadLemmas.{no_not, half_of, one_slot_test, need_right, super_right as super_is, same_outcome}
use Rattle.hier_laws.proofs.Unbroken.{none_broken}

same_answer : (a b : Bool) → differ a b ≡ false → a ≡ true → b ≡ true
same_answer true b h e = no_not b h
same_answer false b h e = absurd (false≢true e)

-- a column at or below another
column_le_test : (H : Hierarchy) (e d m k : ℕ) → (shape H).column e ≡ Some m → (shape H).column d ≡ Some k → is_le H.order m k ≡ true → column_le H e d ≡ true
column_le_test H e d m k a b h = rw (placed H e m a, placed H d k b) h

-- another body of a slot
other_test : (F : Facts) (d e x : ℕ) → column_slot F d ≡ Some x → is_def (column_kind F e) ≡ true → column_slot F e ≡ column_slot F d
    → e ≢ d → is_other_body F d e ≡ true
other_test F d e x slot body same other =
    and_from (not (eqb e d) && is_def (column_kind F e)) (is_one_slot (column_slot F d) (column_slot F e))
    (and_from (not (eqb e d)) (is_def (column_kind F e)) (rw (ne_eqb e d other) refl) body)
    (one_slot_test (column_slot F d) (column_slot F e) x slot same)

module _ (F : Facts) (pt : PointsTo) (t : Table) (R : InRange F) (O : InOrder F) (S : AreSets F pt) (T : IsTable F t)
    (H : Hierarchy) (table : H.table ≡ t.rows.items) (none : first_broken F pt H ≡ None) where
  abbrev G : Given
  G = given F pt t

  open none_broken F pt H none use {offered, tied, needs, supers, outcomes}

  pub half : Half (given F pt t) (shape H)
  half = half_of F pt t R O S T H table offered tied needs supers outcomes

  -- the body of a need is of the slot
  pub need_slot : (s x d : ℕ) → G.needs s x d ≡ true → column_slot F d ≡ Some x
  need_slot s x d h = (finds-found F (site_class F s) x d (found_at F pt t R O S T s x d h)).body.slot

  no_nearer : (s x d : ℕ) → G.needs s x d ≡ true → has_nearer F H (place_of_site F H s) d ≡ false
  no_nearer s x d h = (need_right F pt t R O S T H table offered tied needs supers outcomes s x d h).1

  body_below : (e : ℕ) → is_def (column_kind F e) ≡ true → e < length F.columns.items
  body_below e b = column-below F e (column_kind F e) refl (λ x. false≢true (sym (ap is_def x) ∙ b))

  pub nearest : NoneIsNearer (given F pt t) (shape H)
  nearest s x d e m need is le below =
      let n = place_of_row H (site_row F s) in
      let test : is_nearer F H n d e ≡ true =
      and_from (is_other_body F d e && is_offered H n e) (column_le H e d)
      (and_from (is_other_body F d e) (is_offered H n e) (other_test F d e x (need_slot s x d need) is.body is.slot is.other)
      (offers F pt t H table n e (record { at = m; stands = is.stands; above = le })))
      (column_le_test H e d m below.0 is.stands below.1 below.2) in
      false≢true (sym (no_nearer s x d need) ∙ any_below_has (is_nearer F H n d) (length F.columns.items) e (body_below e is.body) test)

  super_right : (r d : ℕ) → is_super F r d ≡ true → (rule.is_above H (place_of_row H r) d ≡ true) × (has_between F H r d ≡ false)
  super_right r d h = super_is F pt t R O S T H table offered tied needs supers outcomes r d h

  pub above : SupersStandAbove (given F pt t) (shape H)
  above r d run at =
      let m = above_says F pt t H table (place_of_row H r) d (super_right r d run).0 in
      m.3 (same (place_of_row H r) m.0 (sym at ∙ m.1))
    where
      same : (a b : ℕ) → Some a ≡ Some b → a ≡ b
      same a b h = cc

  pub between : NoneIsBetween (given F pt t) (shape H)
  between r d e m run is le strict below =
      let fact = super_fact F pt t R O S T r d run in
      let test : is_between F H r d e ≡ true =
      and_from (is_other_body F d e && rule.is_above H (place_of_row H r) e) (column_le H e d || eqb (column_class F e) (row_class F r))
      (and_from (is_other_body F d e) (rule.is_above H (place_of_row H r) e) (other_test F d e fact.2.slot fact.2.slot_is is.body is.slot is.other)
      (above_test F pt t H table (place_of_row H r) e m is.stands le strict))
      (or_left (column_le H e d) (eqb (column_class F e) (row_class F r)) (column_le_test H e d m below.0 is.stands below.1 below.2)) in
      false≢true (sym (super_right r d run).1 ∙ any_below_has (is_between F H r d) (length F.columns.items) e (body_below e is.body) test)

  pub fails : TestsFail (given F pt t) (shape H)
  fails s k h le = same_answer (row_le H (site_row F s) k) (below F (site_class F s) (row_class F k))
      (same_outcome F pt t R O S T H table offered tied needs supers outcomes s k h) le
