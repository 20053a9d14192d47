-- Tests, stores into arrays and creations have the outcomes that they had.
use Rattle.std.proofs.Common.{◌≡◌, ℕ, zero, suc, ◌<◌, Option, Some, None, length, refl, sym, ap, ◌∙◌, subst, arith}
use Rattle.std.specs.Prelude.{Bool, true, false, ◌==◌, ◌&&◌, nat_lt, max, slice_get, Contains}
use Rattle.std.proofs.lemmas.Option.{same_Some}
use Rattle.std.proofs.lemmas.Bool.{false≢true, and_from, eq-eqb, or_left, or_right, lt-ltb, eqb-true, and_right}
use Rattle.std.proofs.lemmas.List.Elements.{All-contains}
use Rattle.std.proofs.lemmas.List.Folds.{list_any-from_Any}
use Rattle.std.specs.Cmp.{both_ways}
use Rattle.kaba_base.specs.declared.ClassId.{ClassId}
use Rattle.kaba_base.specs.declared.Place.{Place}
use Rattle.kaba_bits.specs.Sets.{bit, row as bits}
use Rattle.kaba_order.specs.Orders.{is_le}
use Rattle.java_core.specs.declared.Ty.{Ty}
use Rattle.java_core.specs.declared.TyBase.{TyBase}
use Rattle.java_core.specs.declared.TyBase.TheVariants.{Int, Boolean, Char, Str, Class}
use Rattle.java_core.specs.Programs.{Plain, PlainMethod}
use Rattle.java_core.specs.Classes.{below}
use Rattle.java_core.specs.Types.{element_in, is_sub_base, is_subtype}
use Rattle.java_core.proofs.Subclasses.{below-subclass, subclass-below}
use Rattle.java_meaning.specs.Moment.{Kind, an_object, an_array, own_type}
use Rattle.java_meaning.specs.Meaning.{element_type}
use Rattle.fact_model.specs.Items.{site_at, site_row, site_class, row_class}
use Rattle.fact_model.specs.Classes.{below as facts_below}
use Rattle.fact_model.specs.InRange.{IsClass, IsPoint, IsRow}
use Rattle.fact_model.specs.declared.facts.Facts.{Facts}
use Rattle.fact_model.specs.declared.facts.TestInfo.{TestInfo}
use Rattle.fact_model.specs.declared.facts.StoreInfo.{StoreInfo}
use Rattle.fact_model.specs.declared.facts.SiteInfo.{SiteInfo}
use Rattle.fact_model.specs.declared.sets.PointsTo.{PointsTo}
use Rattle.fact_model.specs.declared.sets.Table.{Table}
use Rattle.fact_model.proofs.ClassLemmas.{below-exact}
use Rattle.hier_model.specs.Hierarchies.{Hierarchy, place_of_row, any_below}
use Rattle.hier_model.proofs.AnyLemmas.{any_below_has}
use Rattle.hier_rules.specs.Asked.{is_test_at, is_array_at, has_array, is_store_at, is_tested, is_stored, is_element, meets, places_of, bound_of}
use Rattle.hier_laws.proofs.GivenLemmas.{point_site}
use Rattle.hier_tree.proofs.ReadLemmas.{bound_above}
use Rattle.flow_rules.specs.declared.items.ObjectType.{ObjectType}
use Rattle.flow_rules.specs.declared.items.Operand.{Operand}
use Rattle.flow_rules.specs.Operands.{object_of, object_in}
use Rattle.flow_rules.specs.Parts.{Part, a_test, an_element_store, parts_of}
use Rattle.flow_rules.specs.Lists.{both, these, point_at, row_at, site_in, stores_of, tests_of}
use Rattle.flow_rules.specs.Facts.{numbers, gathered}
use Rattle.flow_laws.specs.cover.Covers.{passes, point_sites, held_sites, held_in, or_itself, solved}
use Rattle.flow_laws.proofs.cover.Kinded.{site_type}
use Rattle.flow_rules.proofs.Listed.{one, place_has, below_at, index_at, contains_at}
use Rattle.flow_laws.proofs.order.Classes.{subclass_below, below_subclass}
use Rattle.flow_laws.proofs.order.Sites.{site_types}
use Rattle.flow_laws.proofs.order.Tests.{gathered_has}
use Rattle.rebuild_model.specs.Renaming.{renaming_of}
use Rattle.rebuild_laws.specs.looks.Known.{KnownOfBoth}
use Rattle.rebuild_laws.proofs.looks.Nodes as nodes
use Rattle.rebuild_laws.proofs.given.Rest.{half, fails}
use Rattle.rebuild_laws.proofs.types.Asked.{new_class}
use Rattle.rebuild_laws.proofs.types.Served.{row_of_class, row_in_is}
use Rattle.rebuild_laws.proofs.runs.Ties.{type_at, type_over}
use Rattle.rebuild_laws.proofs.runs.Sited.{IsGiven, MadeAs, node_of, free_apart, IsMet, met_at, met_passing}

module _ {P : Plain} {F : Facts} {H : Hierarchy} {W : Plain} (K : KnownOfBoth P F H W) (pt : PointsTo) (t : Table) (X : IsGiven P F H pt t) where
  open X use {ready, table}
  open ready use {typed, facts, in_range as A, in_order as O, sets as S, table as B, unbroken as none, hierarchy}
  open K.rebuilt use {places as T}

  abbrev node : ℕ → ℕ
  node s = node_of K t s

  -- classes are below in the facts where they are in the program
  in_facts : (a b : ℕ) → below P a b ≡ true → facts_below F a b ≡ true
  in_facts a b e = (below-exact F O.classes.acyclic a b).1 (subclass_below P F facts (below-subclass P a b e))

  in_program : (a b : ℕ) → facts_below F a b ≡ true → below P a b ≡ true
  in_program a b e = subclass-below P K.old.acyclic (below_subclass P F facts ((below-exact F O.classes.acyclic a b).0 e))

  -- a site and a target's row meet: the new types stand as the old ones do
  met_same : (s r c : ℕ) → s < length F.sites.items → r < length F.rows.items → any_below (places_of F) (λ p. meets F pt p r s) ≡ true → row_class F r ≡ c
      → below P (site_class F s) c ≡ below W (T.type_of (node s)) (T.type_of (place_of_row H r))
  met_same s r c ls lr m e =
      let lives = hierarchy.placed.rows (site_row F s) (A.sites s (record { row = record { 0 = 0 }; class = record { 0 = 0 }; dim = 0 }) ls).0 in
      both_ways (below P (site_class F s) c) (is_le H.order (node s) (place_of_row H r))
      (λ h. (half F pt t A O S B H table none).passes s r m (ap (λ z. facts_below F (site_class F s) z) e ∙ in_facts (site_class F s) c h))
      (λ h. in_program (site_class F s) c (sym (ap (λ z. facts_below F (site_class F s) z) e) ∙ fails F pt t A O S B H table none s r m h))
      ∙ sym (nodes.below_is K (node s) (place_of_row H r) lives (hierarchy.placed.rows r lr))

  at_most : (a b c : ℕ) → c < a → c < max a b
  at_most a b c e = omega (arith, e)

  at_least : (a b c : ℕ) → c < b → c < max a b
  at_least a b c e = omega (arith, e)

  abbrev Made : Option ℕ → Kind → Kind → Type 0
  Made o k l = MadeAs K t o k l

  -- types that are classes of one dimension each
  by_classes : (d e a b x y : ℕ) → ((d ≡ e) → below P a b ≡ below W x y) → ((d == e) && below P a b) ≡ ((d == e) && below W x y)
  by_classes d e a b x y h = go (d == e) refl
    where
      go : (z : Bool) → (d == e) ≡ z → (z && below P a b) ≡ (z && below W x y)
      go true q = h (eqb-true d e q)
      go false q = refl

  module _ (m : ℕ) (k : PlainMethod) (stands : slice_get P.methods m ≡ Some k) where
    abbrev InBody : Part → Type 0
    InBody p = Contains (parts_of P m k) p

    test_of_part : (p : Part) → InBody p → (x : TestInfo) → Contains (tests_of (numbers P) p) x → Contains F.tests.items x
    test_of_part p c x d = subst (λ z. Contains z x) (sym facts.tests)
        (place_has (λ t. t.place.at) (gathered P (λ b. tests_of (numbers P))) x (gathered_has P (λ b. tests_of (numbers P)) x m k p stands c d))

    store_of_part : (p : Part) → InBody p → (x : StoreInfo) → Contains (stores_of (numbers P) p) x → Contains F.stores.items x
    store_of_part p c x d = (facts.stores x).1 (gathered_has P (λ b. stores_of (numbers P)) x m k p stands c d)

    -- a site at the operand of a test meets its row
    test_met : (w : Place) (e o : Operand) → InBody (a_test w e o) → (q r s : ℕ) (y : ObjectType) → point_at (numbers P) e ≡ Some q
        → row_at (numbers P) o ≡ Some r → o.ty ≡ Some y → bit (bits pt.points.items q) s ≡ true
        → (any_below (places_of F) (λ p. meets F pt p r s) ≡ true) × (row_class F r ≡ y.class.0) × (r < length F.rows.items)
    test_met w e o i q r s y eq er ey held =
        let x : TestInfo = record { from = q; target = record { 0 = r }; class = y.class; place = w } in
        let listed = test_of_part (a_test w e o) i x
        (subst (λ z. Contains (these z (row_at (numbers P) o) o.ty (λ a r t. record { from = a; target = record { 0 = r }; class = t.class; place = w })) x)
        (sym eq)
        (subst (λ z. Contains (these (Some q) z o.ty (λ a r t. record { from = a; target = record { 0 = r }; class = t.class; place = w })) x) (sym er)
        (subst (λ z. Contains (these (Some q) (Some r) z (λ a r t. record { from = a; target = record { 0 = r }; class = t.class; place = w })) x) (sym ey)
        (one x)))) in
        let tested : is_tested F pt w.at r s ≡ true = list_any-from_Any
        (λ (z : TestInfo). is_test_at w.at r z && bit (bits pt.points.items z.from) s) F.tests.items (
          listed.0,
          x,
          listed.1,
          listed.2,
          and_from ((w.at == w.at) && (r == r)) (bit (bits pt.points.items q) s)
              (and_from (w.at == w.at) (r == r) (eq-eqb w.at w.at refl) (eq-eqb r r refl)) held,
        ) in (
          any_below_has (λ p. meets F pt p r s) (places_of F) w.at
              (at_most (bound_of (λ z. z.place.at) F.tests.items) (bound_of (λ z. z.place.at) F.stores.items) w.at
              (bound_above (λ (z : TestInfo). z.place.at) F.tests.items x listed))
              (or_left (is_tested F pt w.at r s) (is_stored F pt w.at r s) tested),
          All-contains (λ (z : TestInfo). row_class F z.target.0 ≡ z.class.0) F.tests.items x O.tests.targets listed,
          (All-contains (λ (z : TestInfo). IsPoint F z.from × IsRow F z.target × IsClass F z.class) F.tests.items x A.tests listed).1,
        )

    -- and a site in the value of a store meets the row of an array at its base
    store_met : (w : Place) (b o : Operand) → InBody (an_element_store w b o) → (q p a s : ℕ) → point_at (numbers P) b ≡ Some q
        → point_at (numbers P) o ≡ Some p → bit (bits pt.points.items q) a ≡ true → bit (bits pt.points.items p) s ≡ true
        → 0 < (site_at F a).dim → any_below (places_of F) (λ p. meets F pt p (site_row F a) s) ≡ true
    store_met w b o i q p a s eq ep array held deep =
        let x : StoreInfo = record { base = q; column = None; value = p; place = w } in
        let listed = store_of_part (an_element_store w b o) i x
        (subst (λ z. Contains (both z (point_at (numbers P) o) (λ a q. record { base = a; column = None; value = q; place = w })) x) (sym eq)
        (subst (λ z. Contains (both (Some q) z (λ a q. record { base = a; column = None; value = q; place = w })) x) (sym ep) (one x))) in
        let la = point_site F pt t A O S B q a array in
        let has : has_array F pt q (site_row F a) ≡ true = any_below_has (is_array_at F pt q (site_row F a)) (length F.sites.items) a la
        (and_from (bit (bits pt.points.items q) a && nat_lt 0 (site_at F a).dim) (site_row F a == site_row F a)
        (and_from (bit (bits pt.points.items q) a) (nat_lt 0 (site_at F a).dim) array (lt-ltb 0 (site_at F a).dim deep))
        (eq-eqb (site_row F a) (site_row F a) refl)) in
        let stored : is_stored F pt w.at (site_row F a) s ≡ true = list_any-from_Any
        (λ (z : StoreInfo). is_store_at F pt w.at (site_row F a) z && bit (bits pt.points.items z.value) s) F.stores.items (
          listed.0,
          x,
          listed.1,
          listed.2,
          and_from (is_store_at F pt w.at (site_row F a) x) (bit (bits pt.points.items p) s)
              (and_from (is_element x.column && (w.at == w.at)) (has_array F pt q (site_row F a))
              (and_from (is_element x.column) (w.at == w.at) refl (eq-eqb w.at w.at refl)) has) held,
        ) in
        any_below_has (λ p. meets F pt p (site_row F a) s) (places_of F) w.at
        (at_least (bound_of (λ z. z.place.at) F.tests.items) (bound_of (λ z. z.place.at) F.stores.items) w.at
        (bound_above (λ (z : StoreInfo). z.place.at) F.stores.items x listed))
        (or_right (is_tested F pt w.at (site_row F a) s) (is_stored F pt w.at (site_row F a) s) stored)

    pub test_same : (w : Place) (e o : Operand) → InBody (a_test w e o) → (q : Option ℕ) (a b : Kind) (y : ObjectType) (c : ℕ) → Made q a b
        → passes (point_sites P F (solved pt) e) (site_in (numbers P) q) ≡ true → o.ty ≡ Some y
        → new_class P W (renaming_of P H T) o.row ≡ Some c → is_subtype P (own_type a) (type_at y) ≡ is_subtype W (own_type b) (type_over c y)
    test_same w e o i q a b y c made may ey hc = go (site_in (numbers P) q) refl
      where
        go : (z : Option ℕ) → site_in (numbers P) q ≡ z → is_subtype P (own_type a) (type_at y) ≡ is_subtype W (own_type b) (type_over c y)
        go None h =
            let z = made.free h in
            free_apart P (own_type a) y z.0 ∙ sym (free_apart W (own_type a) (record { class = record { 0 = c }; dim = y.dim }) z.0)
            ∙ ap (λ v. is_subtype W (own_type v) (type_over c y)) (sym z.1)
        go (Some s) h =
            let z = made.sited s h in
            let x = met_passing K t pt A O S B table none e q s h may in
            let r = row_of_class K o.row c hc in
            let ls = point_site F pt t A O S B x.point s x.held in
            let m = test_met w e o i x.point r.number s y x.point_is (row_in_is K o.row c r) ey x.held in
            ap (λ v. is_subtype P v (type_at y)) z.0
            ∙ by_classes (site_at F s).dim y.dim (site_class F s) y.class.0 (T.type_of (node s)) c
            (λ d. met_same s r.number y.class.0 ls m.2 m.0 m.1 ∙ ap (λ v. below W (T.type_of (node s)) v) r.class)
            ∙ ap (λ v. is_subtype W v (type_over c y)) (sym z.1)

    held_point : (b : Operand) (o : Option ℕ) (s : ℕ)
        → ((n s : ℕ) → b.created ≡ Some n → (numbers P).site n ≡ Some s → (q : ℕ) × (point_at (numbers P) b ≡ Some q)) → site_in (numbers P) o ≡ Some s
        → passes (held_sites P F (solved pt) b) (site_in (numbers P) o) ≡ true → IsMet K t pt A O S B table none b s
    held_point b o s point e q = go b.created refl (subst (λ z. passes (held_sites P F (solved pt) b) z ≡ true) e q)
      where
        -- a creation that is no point is itself alone
        itself : (n : ℕ) (z r : Option ℕ) → b.created ≡ Some n → point_at (numbers P) b ≡ z → (numbers P).site n ≡ r
            → or_itself P F (solved pt) z r s ≡ true → IsMet K t pt A O S B table none b s
        itself n (Some p) r c ep er h = record { point = p; point_is = ep; held = h }
        itself n None None c ep er h = absurd (false≢true h)
        itself n None (Some r) c ep er h = let p = point n r c er in absurd (let z = sym ep ∙ p.1 in cc)

        go : (c : Option ℕ) → b.created ≡ c → held_in P F (solved pt) c b s ≡ true → IsMet K t pt A O S B table none b s
        go None c h = met_at K t pt A O S B table none b s h
        go (Some n) c h = itself n (point_at (numbers P) b) ((numbers P).site n) c refl refl h

    -- an array and its elements
    record IsArray (x : Kind) (u : Ty) : Type 0 where
      array : Ty
      is : x ≡ an_array array
      element : element_in array.base array.dim ≡ Some u

    array_of : (x : Kind) (u : Ty) → element_type x ≡ Some u → IsArray x u
    array_of (an_object c) u e = absurd (cc)
    array_of (an_array v) u e = record { array = v; is = refl; element = e }

    element_is : (v u : Ty) (x : ObjectType) → element_in v.base v.dim ≡ Some u → v ≡ type_at x
        → (d : ℕ) × (x.dim ≡ suc d) × (u ≡ record { base = Class x.class; dim = d })
    element_is v u x e h = go x.dim (sym (ap (λ z. element_in z.base z.dim) h) ∙ e)
      where
        go : (d : ℕ) → element_in (Class x.class) d ≡ Some u → (c : ℕ) × (d ≡ suc c) × (u ≡ record { base = Class x.class; dim = c })
        go zero q = absurd (cc)
        go (suc d) q = (d, refl, sym (same_Some _ u q))

    same_pred : (d e : ℕ) → suc d ≡ suc e → d ≡ e
    same_pred d e h = omega (arith, h)

    positive : (n d : ℕ) → n ≡ suc d → 0 < n
    positive n d e = omega (arith, e)

    -- what has no class is compared in the same way
    both_free : (s u : Ty) → object_of s ≡ None → is_subtype P s u ≡ is_subtype W s u
    both_free s u e = ap (λ z. (s.dim == u.dim) && z) (go s.base e)
      where
        go : (b : TyBase) → object_in b s.dim ≡ None → is_sub_base P b u.base ≡ is_sub_base W b u.base
        go Int h = refl
        go Boolean h = refl
        go Char h = refl
        go Str h = refl
        go (Class c) h = absurd (cc)

    -- an array without a class takes no object of one
    no_class_sub : (X : Plain) (c : ClassId) (d : ℕ) (u : Ty) → object_of u ≡ None → is_subtype X (record { base = Class c; dim = d }) u ≡ false
    no_class_sub X c d u e = and_right (d == u.dim) (is_sub_base X (Class c) u.base) (go u.base e)
      where
        go : (b : TyBase) → object_in b u.dim ≡ None → is_sub_base X (Class c) b ≡ false
        go Int h = refl
        go Boolean h = refl
        go Char h = refl
        go Str h = refl
        go (Class k) h = absurd (cc)

    element_free : (v u : Ty) → element_in v.base v.dim ≡ Some u → object_of v ≡ None → object_of u ≡ None
    element_free v u e h = go v.base v.dim e h
      where
        go : (b : TyBase) (d : ℕ) → element_in b d ≡ Some u → object_in b d ≡ None → object_of u ≡ None
        go b zero q n = absurd (cc)
        go Int (suc d) q n = ap object_of (sym (same_Some _ u q))
        go Boolean (suc d) q n = ap object_of (sym (same_Some _ u q))
        go Char (suc d) q n = ap object_of (sym (same_Some _ u q))
        go Str (suc d) q n = ap object_of (sym (same_Some _ u q))
        go (Class c) (suc d) q n = absurd (cc)

    free_store : (q : Option ℕ) (a c : Kind) (u v : Ty) → Made q a c → site_in (numbers P) q ≡ None → element_type a ≡ Some u → element_type c ≡ Some v
        → (s j : Ty) (x : ObjectType) (n : ℕ) → s ≡ type_at x → j ≡ type_over n x
        → is_subtype P s u ≡ is_subtype W j v
    free_store q a c u v made e eu ev s j x n es ej =
        let old = array_of a u eu in
        let z = made.free e in
        let none = element_free old.array u old.element (ap (λ k. object_of (own_type k)) (sym old.is) ∙ z.0) in
        let same : u ≡ v = same_Some u v (sym eu ∙ ap element_type (sym z.1) ∙ ev) in
        ap (λ k. is_subtype P k u) es ∙ no_class_sub P x.class x.dim u none
        ∙ sym (ap (λ k. is_subtype W k v) ej ∙ no_class_sub W (record { 0 = n }) x.dim v (ap object_of (sym same) ∙ none))

    site_listed : (s : ℕ) → s < length F.sites.items → Contains F.sites.items (site_at F s)
    site_listed s lt = let z = below_at F.sites.items s lt in subst (λ y. Contains F.sites.items y) (sym (index_at F.sites.items s _ z.0 z.1))
        (contains_at F.sites.items s z.0 z.1)

    pub store_same : (w : Place) (b o : Operand) → InBody (an_element_store w b o)
        → ((n s : ℕ) → b.created ≡ Some n → (numbers P).site n ≡ Some s → (q : ℕ) × (point_at (numbers P) b ≡ Some q))
        → ((n s : ℕ) → o.created ≡ Some n → (numbers P).site n ≡ Some s → (q : ℕ) × (point_at (numbers P) o ≡ Some q))
        → (q r : Option ℕ) (a c x y : Kind) (u v : Ty) → Made q a c → Made r x y → element_type a ≡ Some u
        → element_type c ≡ Some v → passes (held_sites P F (solved pt) b) (site_in (numbers P) q) ≡ true
        → passes (held_sites P F (solved pt) o) (site_in (numbers P) r) ≡ true → is_subtype P (own_type x) u ≡ is_subtype W (own_type y) v
    store_same w b o i pb po q r a c x y u v made held eu ev mq mr = go (site_in (numbers P) q) (site_in (numbers P) r) refl refl
      where
        -- the types of the elements, where the array has a site
        elements : (s : ℕ) → site_in (numbers P) q ≡ Some s
            → ((d : ℕ) × ((site_type F s).dim ≡ suc d) × (u ≡ record { base = Class (site_type F s).class; dim = d }))
            × ((d : ℕ) × ((site_at F s).dim ≡ suc d) × (v ≡ record { base = Class (record { 0 = T.type_of (node s) }); dim = d }))
        elements s ez =
            let old = array_of a u eu in
            let new = array_of c v ev in
            let z = made.sited s ez in (
              element_is old.array u (site_type F s) old.element (ap own_type (sym old.is) ∙ z.0),
              element_is new.array v (record { class = record { 0 = T.type_of (node s) }; dim = (site_at F s).dim }) new.element
                  (ap own_type (sym new.is) ∙ z.1),
            )

        go : (z s : Option ℕ) → site_in (numbers P) q ≡ z → site_in (numbers P) r ≡ s → is_subtype P (own_type x) u ≡ is_subtype W (own_type y) v
        go None None ez es = ap (λ k. is_subtype P (own_type x) k) (same_Some u v (sym eu ∙ ap element_type (sym (made.free ez).1) ∙ ev))
            ∙ both_free (own_type x) v ((held.free es).0) ∙ ap (λ k. is_subtype W (own_type k) v) (sym (held.free es).1)
        go None (Some s) ez es = free_store q a c u v made ez eu ev (own_type x) (own_type y) (site_type F s) (T.type_of (node s)) (held.sited s es).0
            (held.sited s es).1
        go (Some s) None ez es =
            let both = elements s ez in
            let e = both.0 in
            let f = both.1 in
            ap (λ k. is_subtype P (own_type x) k) e.2 ∙ free_apart P (own_type x) (record { class = (site_at F s).class; dim = e.0 }) (held.free es).0
            ∙ sym (ap (λ k. is_subtype W (own_type k) v) (held.free es).1 ∙ ap (λ k. is_subtype W (own_type x) k) f.2
            ∙ free_apart W (own_type x) (record { class = record { 0 = T.type_of (node s) }; dim = f.0 }) (held.free es).0)
        go (Some s) (Some j) ez es =
            let both = elements s ez in
            let e = both.0 in
            let f = both.1 in
            let dims : e.0 ≡ f.0 = same_pred e.0 f.0 (sym e.1 ∙ f.1) in
            let g = held.sited j es in
            let array = held_point b q s pb ez mq in
            let value = held_point o r j po es mr in
            let la = point_site F pt t A O S B array.point s array.held in
            let lj = point_site F pt t A O S B value.point j value.held in
            let lr = (All-contains (λ (z : SiteInfo). IsRow F z.row × IsClass F z.class) F.sites.items (site_at F s) A.sites (site_listed s la)).0 in
            let m = store_met w b o i array.point value.point s j array.point_is value.point_is array.held value.held (positive (site_at F s).dim e.0 e.1) in
            ap (λ k. is_subtype P k u) g.0 ∙ ap (λ k. is_subtype P (type_at (site_type F j)) k) e.2
            ∙ by_classes (site_at F j).dim e.0 (site_class F j) (site_class F s) (T.type_of (node j)) (T.type_of (node s))
            (λ d. met_same j (site_row F s) (site_class F s) lj lr m (sym (site_types P K.old typed F facts s la)))
            ∙ ap (λ n. is_subtype W (type_over (T.type_of (node j)) (site_type F j)) (record { base = Class (record { 0 = T.type_of (node s) }); dim = n }))
            dims
            ∙ ap (λ k. is_subtype W (type_over (T.type_of (node j)) (site_type F j)) k) (sym f.2) ∙ ap (λ k. is_subtype W k v) (sym g.1)
