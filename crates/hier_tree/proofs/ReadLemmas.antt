-- Where no instance is found, the obligations hold as their laws say.
use Rattle.std.proofs.Common.{◌≡◌, ℕ, zero, suc, ◌<◌, ◌&&◌, ◌||◌, eqb, Bool, true, false, cond, List, [], ◌∷◌, length, Option, Some, None, Contains, refl, sym, ap, ◌∙◌, subst, arith}
use Rattle.std.specs.Prelude.{not}
use Rattle.std.specs.Option.{option_and_then}
use Rattle.std.proofs.lemmas.Bool.{false≢true, and_parts, and_from, or_right, or_parts, eq-eqb, ne_eqb}
use Rattle.std.proofs.lemmas.List.Elements.{All-contains}
use Rattle.kaba_bits.specs.Sets.{bit, row, first_below}
use Rattle.kaba_bits.proofs.FirstLemmas.{first_below_None, or_else-None, when-None as none_when}
use Rattle.kaba_bits.proofs.SetLemmas.{bit-below}
use Rattle.kaba_bits.proofs.RowLemmas.{bit-row-below}
use Rattle.kaba_order.specs.Orders.{is_le, differ}
use Rattle.fact_model.specs.Items.{site_class, site_row, row_class, column_kind, column_class, column_slot}
use Rattle.fact_model.specs.Classes.{is_def, is_slot, below, finds}
use Rattle.fact_model.specs.InRange.{InRange, IsRow, IsCol}
use Rattle.fact_model.specs.InOrder.{InOrder}
use Rattle.fact_model.specs.Flowing.{AreSets}
use Rattle.fact_model.specs.Entries.{IsTable}
use Rattle.fact_model.specs.declared.facts.Facts.{Facts}
use Rattle.fact_model.specs.declared.facts.TieInfo.{TieInfo}
use Rattle.fact_model.specs.declared.facts.CallInfo.{CallInfo}
use Rattle.fact_model.specs.declared.facts.SuperInfo.{SuperInfo}
use Rattle.fact_model.specs.declared.sets.PointsTo.{PointsTo}
use Rattle.fact_model.specs.declared.sets.Table.{Table}
use Rattle.fact_model.proofs.RangeLemmas.{column-below}
use Rattle.fact_model.specs.declared.facts.ColKind.TheVariants.{Def}
use Rattle.hier_model.specs.Hierarchies.{Hierarchy, place_of_row, is_offered}
use Rattle.hier_model.proofs.AnyLemmas.{any_below_some, any_below_has}
use Rattle.hier_model.specs.Edits.{is_one_slot}
use Rattle.hier_laws.specs.Shapes.{Given, OffersColumn}
use Rattle.hier_laws.specs.Obligations.{NoneIsOwn, Half}
use Rattle.hier_rules.specs.declared.broken.Rule.TheVariants.{B2, B3, B4, B5, B7}
use Rattle.hier_rules.specs.Asked.{is_tie, is_super, is_called, bound_of, slots_of, is_other_body, meets, places_of}
use Rattle.hier_rules.specs.Instances.{of_both, of_row}
use Rattle.hier_rules.specs.Obligations.{row_le, column_le, place_of_site, has_nearer, wrong_body, wrong_need, first_wrong_need, is_between, has_between, wrong_super, first_wrong_super, first_unoffered, untied, unheld, first_untied, wrong_outcome, first_wrong_outcome}
use Rattle.hier_rules.specs.Obligations as rule
use Rattle.hier_laws.proofs.ShapeLemmas.{shape}
use Rattle.hier_laws.proofs.GivenLemmas.{given, row_below, site_below, point_site, tie_at, super_at, called_at, found_at, super_fact, met, meet_site, meet_target, def_is as def_kind}
use Rattle.hier_laws.proofs.MeetLemmas.{offered_says, above_says, above_test}

-- what is asked, and whose answer must not be missed
pub asked : (a b : Bool) → (a && not b) ≡ false → a ≡ true → b ≡ true
asked a true h e = refl
asked true false h e = absurd (false≢true (sym h))
asked false false h e = e

same_answers : (a b : Bool) → differ a b ≡ false → b ≡ true → a ≡ true
same_answers a false h e = absurd (false≢true e)
same_answers true true h e = refl
same_answers false true h e = absurd (false≢true (sym h))

pub asked_also : (a b : Bool) → (a && b) ≡ false → a ≡ true → b ≡ false
asked_also true b h e = h
asked_also false b h e = absurd (false≢true e)

pub no_not : (b : Bool) → not b ≡ false → b ≡ true
no_not true h = refl
no_not false h = absurd (false≢true (sym h))

pub bound_above : {X : Type 0} (f : X → ℕ) (xs : List X) (x : X) → Contains xs x → f x < bound_of f xs
bound_above f [] x h = absurd (omega (arith, h.1))
bound_above f (y ∷ xs) x (zero, lt, e) = let k : f y ≡ f x = ap f e in omega (arith, k)
bound_above f (y ∷ xs) x (suc i, lt, e) = let k = bound_above f xs x (i, omega (arith, lt), e) in omega (arith, k)

pub one_slot_test : (a b : Option ℕ) (x : ℕ) → a ≡ Some x → b ≡ a → is_one_slot a b ≡ true
one_slot_test a b x e f = rw (f, e) (eq-eqb x x refl)

body_below : (F : Facts) (e : ℕ) → is_def (column_kind F e) ≡ true → e < length F.columns.items
body_below F e b = column-below F e Def (def_kind (column_kind F e) b) (λ x. cc x)

module _ (F : Facts) (pt : PointsTo) (t : Table) (R : InRange F) (O : InOrder F) (S : AreSets F pt) (T : IsTable F t) (H : Hierarchy) (table : H.table
    ≡ t.rows.items) where
  abbrev G : Given
  G = given F pt t

  column_below : (r c : ℕ) → bit (row t.rows.items r) c ≡ true → c < length F.columns.items
  column_below r c h =
      let lr = bit-row-below t.rows.items r c h in
      omega (arith, bit-below (row t.rows.items r) c h, T.sized.widths r lr, T.sized.columns)

  module _ (b2 : first_unoffered F H ≡ None) (b3 : first_untied F pt H ≡ None) (b4 : first_wrong_need F pt H ≡ None) (b5 : first_wrong_super F H
      ≡ None) (b7 : first_wrong_outcome F pt H ≡ None) where
    offered : (r c : ℕ) → bit (row t.rows.items r) c ≡ true → OffersColumn (shape H) (place_of_row H r) c
    offered r c h =
        let lr = row_below F pt t R O S T r c h in
        let one = first_below_None (λ r. first_below (length F.columns.items) (rule.unoffered F H r)) (length F.rows.items) r b2 lr in
        let two = first_below_None (rule.unoffered F H r) (length F.columns.items) c one (column_below r c h) in
        let no = none_when (bit (row H.table r) c && not (is_offered H (place_of_row H r) c)) (of_both B2 (place_of_row H r) r c) two in
        offered_says F pt t H table (place_of_row H r) c (asked (bit (row H.table r) c) (is_offered H (place_of_row H r) c) no
        (ap (λ x. bit (row x r) c) table ∙ h))

    ties : (first_below (length F.rows.items) (λ l. first_below (length F.rows.items) (untied F H l)) ≡ None)
        × (first_below (length F.sites.items) (λ o. first_below (length F.rows.items) (unheld F pt H o)) ≡ None)
    ties = or_else-None (first_below (length F.rows.items) (λ l. first_below (length F.rows.items) (untied F H l)))
        (first_below (length F.sites.items) (λ o. first_below (length F.rows.items) (unheld F pt H o))) b3

    tied : (l u : ℕ) → is_tie F l u ≡ true → is_le H.order (place_of_row H l) (place_of_row H u) ≡ true
    tied l u h =
        let x = tie_at F pt t R O S T l u h in
        let range = All-contains (λ (y : TieInfo). IsRow F y.lower × IsRow F y.upper) F.ties.items x.0 R.ties x.1 in
        let one = first_below_None (λ l. first_below (length F.rows.items) (untied F H l)) (length F.rows.items) l ties.0
        (subst (λ k. k < length F.rows.items) x.2 range.0) in
        let two = first_below_None (untied F H l) (length F.rows.items) u one (subst (λ k. k < length F.rows.items) x.3 range.1) in
        asked (is_tie F l u) (row_le H l u) (none_when (is_tie F l u && not (row_le H l u)) (of_row B3 (place_of_row H l) (place_of_row H u) l) two) h

    held : (o v : ℕ) → bit (row pt.rows.items v) o ≡ true → is_le H.order (place_of_row H (site_row F o)) (place_of_row H v) ≡ true
    held o v h =
        let lo = site_below F pt t R O S T v o h in
        let lv : v < length F.rows.items = omega (arith, bit-row-below pt.rows.items v o h, S.row_count) in
        let one = first_below_None (λ o. first_below (length F.rows.items) (unheld F pt H o)) (length F.sites.items) o ties.1 lo in
        let two = first_below_None (unheld F pt H o) (length F.rows.items) v one lv in
        asked (bit (row pt.rows.items v) o) (row_le H (site_row F o) v)
        (none_when (bit (row pt.rows.items v) o && not (row_le H (site_row F o) v)) (of_row B3 (place_of_site F H o) (place_of_row H v) (site_row F o)) two) h

    pub need_right : (s x d : ℕ) → G.needs s x d ≡ true
        → (is_offered H (place_of_site F H s) d ≡ true) × (has_nearer F H (place_of_site F H s) d ≡ false)
    need_right s x d h =
        let both = and_parts (is_called F pt s x) (is_slot (finds F (site_class F s) x) d) h in
        let k = called_at F pt t R O S T s x both.0 in
        let ls = point_site F pt t R O S T k.0.receiver s k.2 in
        let lx : x < slots_of F = subst (λ y. y < slots_of F) k.3 (bound_above (λ (c : CallInfo). c.slot) F.calls.items k.0 k.1) in
        let one = first_below_None (λ s. first_below (slots_of F) (wrong_need F pt H s)) (length F.sites.items) s b4 ls in
        let two = first_below_None (wrong_need F pt H s) (slots_of F) x one lx in
        let found = found_at F pt t R O S T s x d h in
        let right : wrong_body F H s d ≡ None =
        sym (ap (option_and_then (wrong_body F H s)) found)
        ∙ (sym (ap (λ b. cond b (option_and_then (wrong_body F H s) (finds F (site_class F s) x)) None) both.0) ∙ two) in
        let no = none_when (not (is_offered H (place_of_site F H s) d) || has_nearer F H (place_of_site F H s) d)
        (of_both B4 (place_of_site F H s) (site_row F s) d) right in
        let rest = or_parts (not (is_offered H (place_of_site F H s) d)) (has_nearer F H (place_of_site F H s) d) no in
        (no_not (is_offered H (place_of_site F H s) d) rest.0, rest.1)

    needed : (s x d : ℕ) → G.needs s x d ≡ true → OffersColumn (shape H) (place_of_row H (site_row F s)) d
    needed s x d h = offered_says F pt t H table (place_of_row H (site_row F s)) d (need_right s x d h).0

    pub super_right : (r d : ℕ) → is_super F r d ≡ true → (rule.is_above H (place_of_row H r) d ≡ true) × (has_between F H r d ≡ false)
    super_right r d h =
        let x = super_at F pt t R O S T r d h in
        let range = All-contains (λ (y : SuperInfo). IsRow F y.row × IsCol F y.column) F.supers.items x.0 R.supers x.1 in
        let one = first_below_None (λ r. first_below (length F.columns.items) (wrong_super F H r)) (length F.rows.items) r b5
        (subst (λ k. k < length F.rows.items) x.2 range.0) in
        let two = first_below_None (wrong_super F H r) (length F.columns.items) d one (subst (λ k. k < length F.columns.items) x.3 range.1) in
        let no = none_when (is_super F r d && (not (rule.is_above H (place_of_row H r) d) || has_between F H r d)) (of_both B5 (place_of_row H r) r d) two in
        let rest = or_parts (not (rule.is_above H (place_of_row H r) d)) (has_between F H r d)
        (asked_also (is_super F r d) (not (rule.is_above H (place_of_row H r) d) || has_between F H r d) no h) in
        (no_not (rule.is_above H (place_of_row H r) d) rest.0, rest.1)

    ran : (r d : ℕ) → is_super F r d ≡ true → OffersColumn (shape H) (place_of_row H r) d
    ran r d h =
        let m = above_says F pt t H table (place_of_row H r) d (super_right r d h).0 in
        record { at = m.0; stands = m.1; above = m.2 }

    pub same_outcome : (s k : ℕ) → G.meets s k ≡ true → differ (row_le H (site_row F s) k) (below F (site_class F s) (row_class F k)) ≡ false
    same_outcome s k h =
        let p = any_below_some (λ p. meets F pt p k s) (places_of F) h in
        let m = met F pt t R O S T s k h in
        let one = first_below_None (λ p. first_below (length F.rows.items) (λ k. first_below (length F.sites.items) (wrong_outcome F pt H p k)))
        (places_of F) p.0 b7 p.1 in
        let two = first_below_None (λ k. first_below (length F.sites.items) (wrong_outcome F pt H p.0 k)) (length F.rows.items) k one
        (meet_target F pt t R O S T s k m) in
        let three = first_below_None (wrong_outcome F pt H p.0 k) (length F.sites.items) s two (meet_site F pt t R O S T s k m) in
        let no = none_when (meets F pt p.0 k s && differ (row_le H (site_row F s) k) (below F (site_class F s) (row_class F k)))
        (of_row B7 (place_of_site F H s) (place_of_row H k) (site_row F s)) three in
        asked_also (meets F pt p.0 k s) (differ (row_le H (site_row F s) k) (below F (site_class F s) (row_class F k))) no p.2

    passes : (s k : ℕ) → G.meets s k ≡ true → below F (site_class F s) (row_class F k) ≡ true
        → is_le H.order (place_of_row H (site_row F s)) (place_of_row H k) ≡ true
    passes s k h up = same_answers (row_le H (site_row F s) k) (below F (site_class F s) (row_class F k)) (same_outcome s k h) up

    pub half_of : Half (given F pt t) (shape H)
    half_of = record { offered = offered; tied = tied; held = held; needed = needed; ran = ran; passes = passes }

    pub own_of : NoneIsOwn (given F pt t) (shape H)
    own_of r d e m run is le strict same =
        let fact = super_fact F pt t R O S T r d run in
        let le_body : e < length F.columns.items = body_below F e is.body in
        let other : is_other_body F d e ≡ true =
        and_from (not (eqb e d) && is_def (column_kind F e)) (is_one_slot (column_slot F d) (column_slot F e))
        (and_from (not (eqb e d)) (is_def (column_kind F e)) (rw (ne_eqb e d is.other) refl) is.body)
        (one_slot_test (column_slot F d) (column_slot F e) fact.2.slot fact.2.slot_is is.slot) in
        let between : is_between F H r d e ≡ true =
        and_from (is_other_body F d e && rule.is_above H (place_of_row H r) e) (column_le H e d || eqb (column_class F e) (row_class F r))
        (and_from (is_other_body F d e) (rule.is_above H (place_of_row H r) e) other (above_test F pt t H table (place_of_row H r) e m is.stands le strict))
        (or_right (column_le H e d) (eqb (column_class F e) (row_class F r)) (eq-eqb (column_class F e) (row_class F r) same)) in
        false≢true (sym (super_right r d run).1 ∙ any_below_has (is_between F H r d) (length F.columns.items) e le_body between)
