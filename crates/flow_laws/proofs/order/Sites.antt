-- Creations, casts and `instanceof`: each has its row, which has its type, and each creation its site.
use Rattle.std.proofs.Common.{◌≡◌, ℕ, [], ◌∷◌, Option, Some, None, length, refl, sym, ap, ◌∙◌, subst, arith, List}
use Rattle.std.specs.Prelude.{◌<◌, nat_lt, Bool, Contains, slice_get}
use Rattle.std.specs.Option.{option_map, option_to_list}
use Rattle.std.specs.List.{flat_map}
use Rattle.std.proofs.lemmas.Option.{same_Some}
use Rattle.kaba_base.specs.declared.Place.{Place}
use Rattle.kaba_base.specs.declared.SiteId.{SiteId}
use Rattle.java_core.specs.Programs.{Plain, PlainMethod}
use Rattle.java_core.specs.Typing.{IsTyped}
use Rattle.java_core.specs.Formed.{IsFormed}
use Rattle.fact_model.specs.Items.{row_at as info_at, row_class, site_class, site_row, site_at as site_info_at}
use Rattle.fact_model.specs.InOrder.{AreSitesInOrder}
use Rattle.fact_model.specs.declared.facts.Facts.{Facts}
use Rattle.flow_rules.specs.declared.items.ObjectType.{ObjectType}
use Rattle.flow_rules.specs.declared.items.Operand.{Operand}
use Rattle.flow_rules.specs.declared.items.RowItem.{RowItem}
use Rattle.flow_rules.specs.declared.items.RowItem.TheVariants as row
use Rattle.flow_rules.specs.declared.items.Row.{Row}
use Rattle.flow_rules.specs.declared.items.Site.{Site}
use Rattle.flow_rules.specs.Operands.{result_in, variable_in}
use Rattle.flow_rules.specs.Parts.{Part, a_creation, a_test, parts_of}
use Rattle.flow_rules.specs.Numbered.{BodyParts, rows_of, row_number, number_if, site_if, form_sites, bodies_of, body_at, sites_of, site_number}
use Rattle.flow_rules.specs.Facts.{site_info, site_of_row, numbers, IsFactsOf}
use Rattle.flow_rules.proofs.Listed.{below_at, at_map, map_at, index_at, each_has, flat_has, first}
use Rattle.flow_rules.proofs.NumberedItems.{numbered_sites, numbered_rows}
use Rattle.flow_laws.proofs.cover.Unique.{IsCreated, site_created}
use Rattle.flow_laws.proofs.cover.Numbers.{number_in, part_number, IsPart, number_apart}
use Rattle.flow_laws.proofs.cover.Forms.{part_from}
use Rattle.flow_laws.proofs.order.OwnParts.{HasLabel, HasNumber, IsNumbered, IsMade, from_made}
use Rattle.flow_laws.proofs.order.Points.{given_by}
use Rattle.flow_laws.proofs.order.Rows.{own_of, IsOwn, Types, for_field, for_this, for_result, for_variable, for_part, row_types, item_row, row_of, all_results, all_variables}

pub numbered_own : (p : Part) (o : Operand) → IsNumbered p → own_of p ≡ Some o → HasNumber o.row
numbered_own (a_creation p u q s d es) o a e = subst (λ z. HasNumber z.row) (same_Some q o e) a.0
numbered_own (a_test p d q) o a e = subst (λ z. HasNumber z.row) (same_Some q o e) a
numbered_own _ o a e = absurd (cc)

created_number : (c : Option ℕ) (i : Option RowItem) → i ≡ option_map row.New c → option_to_list c ≡ number_in i
created_number None i e = ap number_in (sym e)
created_number (Some n) i e = ap number_in (sym e)

pub number_own : (p : Part) (o : Operand) → IsNumbered p → own_of p ≡ Some o → part_number p ≡ number_in o.row
number_own (a_creation p u q s d es) o a e = created_number q.created q.row a.1 ∙ ap (λ z. number_in z.row) (same_Some q o e)
number_own (a_test p d q) o a e = ap (λ z. number_in z.row) (same_Some q o e)
number_own _ o a e = absurd (cc)

module _ (P : Plain) (formed : IsFormed P) (typed : IsTyped P) where
  pub part_made : (p : Part) (a : IsPart P p) → IsMade a.number p
  part_made p a = from_made P a.number a.method p (part_from P formed typed a.number a.method a.stands p a.part)

  pub part_labelled : (p : Part) (a : IsPart P p) → HasLabel a.number (given_by p)
  part_labelled p a = (part_made p a).0

  pub part_numbered : (p : Part) → IsPart P p → IsNumbered p
  part_numbered p a = (part_made p a).1

  nothing_numbered : {R : Type 0} (n : ℕ) (i : RowItem) (x : Row) → number_in (Some x.item) ≡ n ∷ [] → x.item ≡ i → number_in (Some i) ≡ [] → R
  nothing_numbered n i x a e d = absurd (cons_nil (sym a ∙ ap (λ z. number_in (Some z)) e ∙ d))
    where
      cons_nil : n ∷ [] ≡ [] → ⊥
      cons_nil z = cc

  -- the part of a row with a number
  pub numbered_row : (n r : ℕ) (x : Row) → slice_get (rows_of P) r ≡ Some x → number_in (Some x.item) ≡ n ∷ [] → (q : Part)
      × IsPart P q × IsOwn x q
  numbered_row n r x e h = go (row_types P r x e)
    where
      go : Types P x → (q : Part) × IsPart P q × IsOwn x q
      go (for_field f k a b c) = nothing_numbered n (row.Field f) x h b refl
      go (for_this m k a b c d t) = nothing_numbered n (row.This m) x h d refl
      go (for_result m k a b c) = nothing_numbered n (result_in k.slot m) x h b (all_results (λ i. number_in (Some i)) [] (λ s. refl) (λ m. refl) k.slot m)
      go (for_variable m k i v a b c d) = nothing_numbered n (variable_in k.slot (nat_lt i (length k.params)) m i) x h c
          (all_variables (λ i. number_in (Some i)) [] (λ s i. refl) (λ m i. refl) k.slot (nat_lt i (length k.params)) m i)
      go (for_part m k p a b c) = (p, record { number = m; method = k; stands = a; part = b }, c)

  -- the row of what a part gives has its type
  pub own_typed : (p : Part) (o : Operand) (i : RowItem) (r : ℕ) (x : Row) → IsPart P p → own_of p ≡ Some o → o.row ≡ Some i
      → slice_get (rows_of P) r ≡ Some x → x.item ≡ i → o.ty ≡ Some x.ty
  own_typed p o i r x a b c e f =
      let n = numbered_own p o (part_numbered p a) b in
      let g = ap number_in (ap Some f ∙ sym c) ∙ n.1 in
      let z = numbered_row n.0 r x e g in
      let one = subst (λ w. Contains w n.0) (sym (number_own p o (part_numbered p a) b ∙ n.1)) (first n.0 []) in
      let two = subst (λ w. Contains w n.0) (sym (number_own z.0 z.2.operand (part_numbered z.0 z.1) z.2.own ∙ ap number_in z.2.row_is ∙ g)) (first n.0 []) in
      let same = number_apart P formed.numbered p z.0 n.0 a z.1 one two in
      ap (λ w. w.ty) (same_Some _ _ (sym b ∙ ap own_of same ∙ z.2.own)) ∙ z.2.type

  pub own_type : (p : Part) (o : Operand) (i : RowItem) (t : ObjectType) (r : ℕ) (x : Row) → IsPart P p → own_of p ≡ Some o
      → o.row ≡ Some i → o.ty ≡ Some t → slice_get (rows_of P) r ≡ Some x → x.item ≡ i → x.ty ≡ t
  own_type p o i t r x a b c d e f = same_Some _ _ (sym (own_typed p o i r x a b c e f) ∙ d)

  -- the part of a site
  pub record IsSitePart (x : Site) : Type 0 where
    pub of : IsCreated P x
    pub row_is : of.operand.row ≡ Some (row.New x.number)
    pub row_number_is : row_number P (row.New x.number) ≡ Some x.row

  pub site_part : (s : ℕ) (x : Site) → slice_get (sites_of P) s ≡ Some x → IsSitePart x
  site_part s x e =
      let z = site_created P s x e in
      let row_is = (part_numbered (a_creation z.place z.used z.operand z.slot z.declaration z.arguments) z.is_part).1 ∙ ap (option_map row.New) z.created in
      record { of = z; row_is = row_is; row_number_is = sym (ap (number_if (row_number P)) row_is) ∙ z.numbered }

  module _ (F : Facts) (facts : IsFactsOf P F) where
    pub record HasSite (s : ℕ) : Type 0 where
      pub site : Site
      pub stands : slice_get (sites_of P) s ≡ Some site
      pub info : site_info_at F s ≡ site_info site

    pub site_of : (s : ℕ) → s < length F.sites.items → HasSite s
    site_of s h =
        let z = below_at F.sites.items s h in
        let w = map_at (site_info) (sites_of P) s z.0 (subst (λ y. slice_get y s ≡ Some z.0) facts.sites z.1) in
        record { site = w.0; stands = w.1; info = index_at F.sites.items s _ _ z.1 ∙ sym w.2 }

    own_row : (s : ℕ) → s < length F.sites.items → (info_at F (site_row F s)).site ≡ Some (record { 0 = s })
    unfolding numbers
    own_row s h =
        let z = site_of s h in
        let p = site_part s z.site z.stands in
        let w = item_row P F facts (row.New z.site.number) z.site.row p.row_number_is in
        ap (λ i. (info_at F i.row.0).site) z.info ∙ ap (λ i. i.site) w.3 ∙ ap (site_of_row (numbers P)) w.2
        ∙ ap (λ n. option_map (λ i. record { 0 = i }) n) ((numbered_sites P).back s z.site z.stands)

    pub site_types : (s : ℕ) → s < length F.sites.items → site_class F s ≡ row_class F (site_row F s)
    site_types s h =
        let z = site_of s h in
        let p = site_part s z.site z.stands in
        let w = item_row P F facts (row.New z.site.number) z.site.row p.row_number_is in
        let t = own_type (a_creation p.of.place p.of.used p.of.operand p.of.slot p.of.declaration p.of.arguments) p.of.operand (row.New z.site.number)
        z.site.ty z.site.row w.0 p.of.is_part refl p.row_is
        p.of.type w.1 w.2 in
        ap (λ i. i.class.0) z.info ∙ sym (ap (λ i. row_class F i.row.0) z.info ∙ ap (λ i. i.class.0) w.3 ∙ ap (λ y. y.class.0) t)

    -- the site of a creation's row has as many brackets
    pub site_dim : (n r s : ℕ) (x : Row) → slice_get (rows_of P) r ≡ Some x → x.item ≡ row.New n → row_number P (row.New n) ≡ Some r
        → site_number P n ≡ Some s → (site_info_at F s).dim ≡ x.ty.dim
    site_dim n r s x e h a b =
        let z = (numbered_sites P).at n s b in
        let p = site_part s z.0 z.1 in
        let same : z.0.row ≡ r = same_Some _ _ (sym p.row_number_is ∙ ap (λ i. row_number P (row.New i)) z.2 ∙ a) in
        let t = own_type (a_creation p.of.place p.of.used p.of.operand p.of.slot p.of.declaration p.of.arguments) p.of.operand (row.New z.0.number)
        z.0.ty z.0.row x p.of.is_part refl p.row_is p.of.type
        (subst (λ i. slice_get (rows_of P) i ≡ Some x) (sym same) e) (h ∙ ap row.New (sym z.2)) in
        ap (λ i. i.dim) (index_at F.sites.items s _ (site_info z.0) (subst (λ y. slice_get y s ≡ Some (site_info z.0)) (sym facts.sites)
        (at_map (site_info) (sites_of P) s z.0 z.1))) ∙ sym (ap (λ y. y.dim) t)

    -- a creation has a site
    pub made_site : (m : ℕ) (k : PlainMethod) (w : Place) (u : Bool) (o : Operand) (j d : Option ℕ) (es : List Operand) (n r : ℕ)
        (t : ObjectType) → slice_get P.methods m ≡ Some k → Contains (parts_of P m k) (a_creation w u o j d es) → o.created ≡ Some n → o.ty ≡ Some t
        → o.row ≡ Some (row.New n)
        → row_number P (row.New n) ≡ Some r
        → (s : ℕ) × (site_number P n ≡ Some s)
    unfolding bodies_of
    made_site m k w u o j q es n r t e c a b d h =
        let x : Site = record { number = n; place = w; ty = t; row = r } in
        let b0 : BodyParts = record { number = m; slot = k.slot; parts = parts_of P m k } in
        (numbered_sites P).there x (flat_has (λ b. flat_map (form_sites (row_number P)) b.parts) (bodies_of P) b0 x
        (each_has (body_at P) 0 P.methods m k b0 e m (omega arith) (first b0 []))
        (flat_has (form_sites (row_number P)) (parts_of P m k) (a_creation w u o j q es) x c
        (subst (λ z. Contains (site_if w z o.ty (number_if (row_number P) o.row)) x) (sym a)
        (subst (λ z. Contains (site_if w (Some n) z (number_if (row_number P) o.row)) x) (sym b)
        (subst (λ z. Contains (site_if w (Some n) (Some t) z) x) (sym (ap (number_if (row_number P)) d ∙ h)) (first x []))))))

    -- the creation of a row with a site
    pub created_row : (n r : ℕ) (s : SiteId) → row_number P (row.New n) ≡ Some r → site_number P n ≡ Some s.0 → site_row F s.0 ≡ r
    created_row n r s a b =
        let z = (numbered_sites P).at n s.0 b in
        let p = site_part s.0 z.0 z.1 in
        let i = index_at F.sites.items s.0 _ (site_info z.0) (subst (λ y. slice_get y s.0 ≡ Some (site_info z.0)) (sym facts.sites)
        (at_map (site_info) (sites_of P) s.0 z.0 z.1)) in
        ap (λ i. i.row.0) i ∙ same_Some z.0.row r (sym p.row_number_is ∙ ap (λ n. row_number P (row.New n)) z.2 ∙ a)

    item_site : (r : ℕ) (i : RowItem) (s : SiteId) → row_number P i ≡ Some r → site_of_row (numbers P) i ≡ Some s → site_row F s.0 ≡ r
    unfolding numbers
    item_site r (row.New n) s a e = go (site_number P n) refl e
      where
        go : (o : Option ℕ) → site_number P n ≡ o → option_map (λ s. record { 0 = s }) o ≡ Some s → site_row F s.0 ≡ r
        go None d e = absurd (cc)
        go (Some q) d e = created_row n r s a (d ∙ ap Some (ap (λ s. s.0) (same_Some _ s e)))
    item_site r _ s a e = absurd (cc)

    back : (r : ℕ) (s : SiteId) → r < length F.rows.items → (info_at F r).site ≡ Some s → site_row F s.0 ≡ r
    back r s h e =
        let z = row_of P F facts r h in
        item_site r z.row_is.item s ((numbered_rows P).back r z.row_is z.stands) (sym (ap (λ i. i.site) z.info) ∙ e)

    pub sites_in_order : AreSitesInOrder F
    sites_in_order = record { own = own_row; back = back }
