-- What closed sets give along each part of a body: from the sites of one operand to those of another.
use Rattle.std.proofs.Common.{◌≡◌, ℕ, List, [], ◌∷◌, Option, Some, None, refl, sym, ap, ◌∙◌, subst, arith}
use Rattle.std.specs.Prelude.{◌==◌, Bool, true, false, slice_get, Contains}
use Rattle.std.specs.Option.{option_and_then}
use Rattle.std.specs.List.{flat_map, AllByRecursion}
use Rattle.std.proofs.lemmas.Bool.{false≢true, eqb-true, eq-eqb, and_parts}
use Rattle.std.proofs.lemmas.List.Quantifiers.{position-Some}
use Rattle.java_meaning.proofs.Moves.{then_some}
use Rattle.kaba_base.specs.declared.ColId.{ColId}
use Rattle.kaba_base.specs.declared.Place.{Place}
use Rattle.java_core.specs.Programs.{Plain, PlainMethod}
use Rattle.fact_model.specs.Items.{cell_at, site_class}
use Rattle.fact_model.specs.Classes.{IsBelow}
use Rattle.fact_model.specs.Flowing.{Fact, in_point, in_cell, IsCell, Inclusion, by_new, by_flow, by_load, by_store, by_cast}
use Rattle.fact_model.specs.declared.facts.Facts.{Facts}
use Rattle.fact_model.specs.declared.facts.NewInfo.{NewInfo}
use Rattle.fact_model.specs.declared.facts.FlowInfo.{FlowInfo}
use Rattle.fact_model.specs.declared.facts.LoadInfo.{LoadInfo}
use Rattle.fact_model.specs.declared.facts.StoreInfo.{StoreInfo}
use Rattle.fact_model.specs.declared.facts.CastInfo.{CastInfo}
use Rattle.fact_model.specs.declared.facts.AccessInfo.{AccessInfo}
use Rattle.flow_rules.specs.declared.items.ObjectType.{ObjectType}
use Rattle.flow_rules.specs.declared.items.Operand.{Operand}
use Rattle.flow_rules.specs.declared.items.ColumnItem.TheVariants as column
use Rattle.flow_rules.specs.Types.{field_object}
use Rattle.flow_rules.specs.Parts.{Part, a_load, an_element, a_creation, a_test, a_store, an_element_store, parts_of}
use Rattle.flow_rules.specs.Numbered.{BodyParts, body_at, bodies_of}
use Rattle.flow_rules.specs.Lists.{both, these, point_at, site_in, created, moved, news_of, flows_of, loads_of, stores_of, casts_of, accesses_of}
use Rattle.flow_rules.specs.Facts.{numbers, gathered, IsFactsOf}
use Rattle.flow_laws.specs.cover.Covers.{Sets, has, is_site, is_column, is_cell, passes, cell_number, field_cell, element_cell, at_point, at_cell, or_itself}
use Rattle.flow_laws.proofs.cover.Kinded.{site_type, IsPoint, HasPoint, IsCreation, IsBase}
use Rattle.flow_rules.proofs.Listed.{one, flat_has, each_has}

-- the body of a method, with its parts
abbrev pub body_of : Plain → ℕ → PlainMethod → BodyParts
body_of P m k = record { number = m; slot = k.slot; parts = parts_of P m k }

pub body_there : (P : Plain) (m : ℕ) (k : PlainMethod) → slice_get P.methods m ≡ Some k → Contains (bodies_of P) (body_of P m k)
unfolding bodies_of
body_there P m k e = each_has (body_at P) 0 P.methods m k (body_of P m k) e m (omega arith) (one (body_of P m k))

-- what has an object's type, and else nothing
abbrev pub when_object : Option ObjectType → (ℕ → Bool) → ℕ → Bool
when_object None X s = false
when_object (Some t) X s = X s

pub when_some : (t : Option ObjectType) (X : ℕ → Bool) (s : ℕ) → when_object t X s ≡ true → ((u : ObjectType) × (t ≡ Some u)) × (X s ≡ true)
when_some None X s e = absurd (false≢true e)
when_some (Some u) X s e = ((u, refl), e)

pub when_is : (t : Option ObjectType) (u : ObjectType) (X : ℕ → Bool) (s : ℕ) → t ≡ Some u → X s ≡ true → when_object t X s ≡ true
when_is t u X s e h = subst (λ z. when_object z X s ≡ true) (sym e) h

pub both_has : {A B C : Type 0} (x : Option A) (y : Option B) (f : A → B → C) (a : A) (b : B) → x ≡ Some a → y ≡ Some b → Contains (both x y f) (f a b)
both_has x y f a b e d = subst (λ z. Contains (both z y f) (f a b)) (sym e) (subst (λ z. Contains (both (Some a) z f) (f a b)) (sym d) (one (f a b)))

pub these_has : {A B C D : Type 0} (x : Option A) (y : Option B) (z : Option C) (f : A → B → C → D) (a : A) (b : B) (c : C) → x ≡ Some a → y ≡ Some b
    → z ≡ Some c → Contains (these x y z f) (f a b c)
these_has x y z f a b c e d g = subst (λ w. Contains (these w y z f) (f a b c)) (sym e) (both_has y z (f a) b c d g)

-- the column of a cell
abbrev as_column : Option ℕ → Option ColId
as_column None = None
as_column (Some c) = Some (record { 0 = c })

column_is : (x : Option ColId) (c : Option ℕ) → is_column x c ≡ true → x ≡ as_column c
column_is None None e = refl
column_is None (Some d) e = absurd (false≢true e)
column_is (Some c) None e = absurd (false≢true e)
column_is (Some c) (Some d) e = ap (λ z. Some (record { 0 = z })) (eqb-true c.0 d e)

site_is : (o : Option ℕ) (s : ℕ) → is_site o s ≡ true → o ≡ Some s
site_is None s e = absurd (false≢true e)
site_is (Some r) s e = ap (λ z. Some z) (eqb-true r s e)

module _ (P : Plain) (F : Facts) (S : Sets) where
  -- the typed sets of what an operand gives, and of what it holds
  abbrev pub value_in : Option ℕ → Operand → ℕ → Bool
  value_in None o s = when_object o.ty (at_point P F S (point_at (numbers P) o)) s
  value_in (Some n) o s = is_site ((numbers P).site n) s

  abbrev pub value_sites : Operand → ℕ → Bool
  value_sites o s = value_in o.created o s

  abbrev pub looks_in : Option ℕ → Operand → ℕ → Bool
  looks_in None o s = when_object o.ty (at_point P F S (point_at (numbers P) o)) s
  looks_in (Some n) o s = or_itself P F S (point_at (numbers P) o) ((numbers P).site n) s

  -- the fields and the elements of an object or array that may have a site
  abbrev pub field_sites : ℕ → Option ℕ → ℕ → Bool
  field_sites f z s = when_object (field_object P f) (at_cell P F S (option_and_then (field_cell P F f) z)) s

  abbrev pub element_sites : Option ℕ → ℕ → Bool
  element_sites z s = at_cell P F S (option_and_then (element_cell P F) z) s

  pub record IsAt (p : Option ℕ) (s : ℕ) : Type 0 where
    pub number : ℕ
    pub there : p ≡ Some number
    pub holds : S.point number s ≡ true

  pub at_is : (p : Option ℕ) (s : ℕ) → at_point P F S p s ≡ true → IsAt p s
  at_is None s e = absurd (false≢true e)
  at_is (Some a) s e = record { number = a; there = refl; holds = e }

  pub is_at : (p : Option ℕ) (a s : ℕ) → p ≡ Some a → S.point a s ≡ true → at_point P F S p s ≡ true
  is_at p a s e h = subst (λ z. at_point P F S z s ≡ true) (sym e) h

  cell_is_at : (p : Option ℕ) (s : ℕ) → at_cell P F S p s ≡ true → (c : ℕ) × (p ≡ Some c) × (S.cell c s ≡ true)
  cell_is_at None s e = absurd (false≢true e)
  cell_is_at (Some c) s e = (c, refl, e)

  is_at_cell : (p : Option ℕ) (c s : ℕ) → p ≡ Some c → S.cell c s ≡ true → at_cell P F S p s ≡ true
  is_at_cell p c s e h = subst (λ z. at_cell P F S z s ≡ true) (sym e) h

  -- a used creation's site is in its point; a creation that has a site has a type
  pub record IsUsed (o : Operand) : Type 0 where
    pub used : (n s : ℕ) → o.created ≡ Some n → (numbers P).site n ≡ Some s → ((t : ObjectType) × (o.ty ≡ Some t)) × IsAt (point_at (numbers P) o) s

  unfoldable pub HasTypes : Operand → Type 0
  HasTypes o = (n s : ℕ) → o.created ≡ Some n → (numbers P).site n ≡ Some s → (t : ObjectType) × (o.ty ≡ Some t)

  pub used_at : (o : Operand) (s : ℕ) → IsUsed o → value_sites o s ≡ true → ((t : ObjectType) × (o.ty ≡ Some t)) × IsAt (point_at (numbers P) o) s
  used_at o s u e = go o.created refl e
    where
      go : (c : Option ℕ) → o.created ≡ c → value_in c o s ≡ true → ((t : ObjectType) × (o.ty ≡ Some t)) × IsAt (point_at (numbers P) o) s
      go None d h = let w = when_some o.ty (at_point P F S (point_at (numbers P) o)) s h in (w.0, at_is (point_at (numbers P) o) s w.1)
      go (Some n) d h = u.used n s d (site_is ((numbers P).site n) s h)

  pub value_typed : (o : Operand) (s : ℕ) → HasTypes o → value_sites o s ≡ true → (t : ObjectType) × (o.ty ≡ Some t)
  unfolding HasTypes
  value_typed o s u e = go o.created refl e
    where
      go : (c : Option ℕ) → o.created ≡ c → value_in c o s ≡ true → (t : ObjectType) × (o.ty ≡ Some t)
      go None d h = (when_some o.ty (at_point P F S (point_at (numbers P) o)) s h).0
      go (Some n) d h = u n s d (site_is ((numbers P).site n) s h)

  -- what is no creation holds what it gives
  pub plain_sites : (o : Operand) (s : ℕ) → o.created ≡ None → when_object o.ty (at_point P F S (point_at (numbers P) o)) s ≡ true
      → (looks_in o.created o s ≡ true) × (value_sites o s ≡ true)
  plain_sites o s e h = (subst (λ z. looks_in z o s ≡ true) (sym e) h, subst (λ z. value_in z o s ≡ true) (sym e) h)

  pub point_sites_of : (o : Operand) (s : ℕ) → o.created ≡ None → (p : IsPoint P F o) → S.point p.number s ≡ true → (looks_in o.created o s ≡ true)
      × (value_sites o s ≡ true)
  point_sites_of o s e p h = plain_sites o s e (when_is o.ty p.type (at_point P F S (point_at (numbers P) o)) s p.typed
      (is_at (point_at (numbers P) o) p.number s p.point h))

  cell_found : (s c : ℕ) (col : Option ℕ) → cell_number P F s col ≡ Some c → IsCell F c s (as_column col)
  cell_found s c col e =
      let p = position-Some (is_cell s col) F.cells.items c (record { site = record { 0 = 0 }; column = None; row = record { 0 = 0 } }) e in
      let q = and_parts ((cell_at F c).site.0 == s) (is_column (cell_at F c).column col) p.1 in
      record { below = p.0; site_is = eqb-true (cell_at F c).site.0 s q.0; column_is = column_is (cell_at F c).column col q.1 }

  module _ (closed : (ps : List Fact) (f : Fact) → Inclusion F ps f → AllByRecursion (λ p. has S p ≡ true) ps → has S f ≡ true) (facts : IsFactsOf P F) where
    given : {A : Type 0} (f : BodyParts → Part → List A) (m : ℕ) (k : PlainMethod) (p : Part) (x : A) → slice_get P.methods m ≡ Some k
        → Contains (parts_of P m k) p → Contains (f (body_of P m k) p) x → Contains (gathered P f) x
    given f m k p x e c d = flat_has (λ b. flat_map (f b) b.parts) (bodies_of P) (body_of P m k) x (body_there P m k e)
        (flat_has (f (body_of P m k)) (parts_of P m k) p x c d)

    -- in a method that stands, with a part of it
    module _ (m : ℕ) (k : PlainMethod) (stands : slice_get P.methods m ≡ Some k) where
      news_given : (p : Part) → Contains (parts_of P m k) p → (x : NewInfo) → Contains (news_of (numbers P) m p) x → Contains F.news.items x
      news_given p c x d = (facts.news x).1 (given (λ b. news_of (numbers P) b.number) m k p x stands c d)

      flows_given : (p : Part) → Contains (parts_of P m k) p → (x : FlowInfo) → Contains (flows_of (numbers P) m p) x → Contains F.flows.items x
      flows_given p c x d = (facts.flows x).1 (given (λ b. flows_of (numbers P) b.number) m k p x stands c d)

      loads_given : (p : Part) → Contains (parts_of P m k) p → (x : LoadInfo) → Contains (loads_of (numbers P) p) x → Contains F.loads.items x
      loads_given p c x d = (facts.loads x).1 (given (λ b. loads_of (numbers P)) m k p x stands c d)

      stores_given : (p : Part) → Contains (parts_of P m k) p → (x : StoreInfo) → Contains (stores_of (numbers P) p) x → Contains F.stores.items x
      stores_given p c x d = (facts.stores x).1 (given (λ b. stores_of (numbers P)) m k p x stands c d)

      casts_given : (p : Part) → Contains (parts_of P m k) p → (x : CastInfo) → Contains (casts_of (numbers P) p) x → Contains F.casts.items x
      casts_given p c x d = (facts.casts x).1 (given (λ b. casts_of (numbers P)) m k p x stands c d)

      pub accesses_given : (p : Part) → Contains (parts_of P m k) p → (x : AccessInfo) → Contains (accesses_of (numbers P) p) x
          → Contains F.accesses.items x
      accesses_given p c x d = (facts.accesses x).1 (given (λ b. accesses_of (numbers P)) m k p x stands c d)

      -- a creation's site goes where the facts say
      new_goes : (p : Part) → Contains (parts_of P m k) p → (o : Operand) (t : Option ℕ) (n s q : ℕ)
          → ((x : NewInfo) → Contains (created (numbers P) o t) x → Contains (news_of (numbers P) m p) x) → o.created ≡ Some n
          → (numbers P).site n ≡ Some s → t ≡ Some q
          → S.point q s ≡ true
      new_goes p c o t n s q h e d g =
          closed [] (in_point q s) (by_new (record { point = q; site = record { 0 = s } }) (news_given p c (record { point = q; site = record { 0 = s } })
          (h (record { point = q; site = record { 0 = s } }) (both_has t (site_in (numbers P) o.created)
          (λ p s. record { point = p; site = record { 0 = s } }) q s g (ap (λ z. site_in (numbers P) z) e ∙ d))))) tt

      pub flow_goes : (p : Part) → Contains (parts_of P m k) p → (o t : Option ℕ) (a q s : ℕ) → ((x : FlowInfo) → Contains (moved o t) x
          → Contains (flows_of (numbers P) m p) x) → o ≡ Some a → t ≡ Some q → S.point a s ≡ true → S.point q s ≡ true
      flow_goes p c o t a q s h e d g =
          closed (in_point a s ∷ []) (in_point q s) (by_flow (record { from = a; to = q }) s (flows_given p c (record { from = a; to = q })
          (h (record { from = a; to = q }) (both_has o t (λ a b. record { from = a; to = b }) a q e d)))) (g, tt)

      -- the value of an operand goes to a point
      pub operand_goes : (p : Part) → Contains (parts_of P m k) p → (o : Operand) (t : Option ℕ) (q s : ℕ)
          → ((x : NewInfo) → Contains (created (numbers P) o t) x → Contains (news_of (numbers P) m p) x)
          → ((x : FlowInfo) → Contains (moved (point_at (numbers P) o) t) x → Contains (flows_of (numbers P) m p) x) → t ≡ Some q
          → value_sites o s ≡ true → S.point q s ≡ true
      operand_goes p c o t q s hn hf e v = go o.created refl v
        where
          go : (z : Option ℕ) → o.created ≡ z → value_in z o s ≡ true → S.point q s ≡ true
          go None d h = let a = at_is (point_at (numbers P) o) s (when_some o.ty (at_point P F S (point_at (numbers P) o)) s h).1 in flow_goes p
              c (point_at (numbers P) o) t a.number q s hf a.there e a.holds
          go (Some n) d h = new_goes p c o t n s q hn d (site_is ((numbers P).site n) s h) e

      -- a used creation
      pub creation_used : (p : Place) (u : Bool) (o : Operand) (j d : Option ℕ) (es : List Operand)
          → Contains (parts_of P m k) (a_creation p u o j d es) → IsCreation P F u o → IsBase P F o → IsUsed o
      unfolding IsBase
      creation_used p u o j d es c kc base = record {
        used = λ n s e f. let q = base n s e f in (
          (site_type F s, kc.typed n s e f),
          record {
            number = q.0;
            there = q.1;
            holds = new_goes (a_creation p u o j d es) c o (point_at (numbers P) o)
                n s q.0 (λ x w. w) e f q.1;
          },
        );
      }

      pub creation_looks : (p : Place) (u : Bool) (o : Operand) (j d : Option ℕ) (es : List Operand)
          → Contains (parts_of P m k) (a_creation p u o j d es) → (n s : ℕ) → o.created ≡ Some n
          → (numbers P).site n ≡ Some s → or_itself P F S (point_at (numbers P) o) ((numbers P).site n) s ≡ true
      creation_looks p u o j q es c n s e d = go (point_at (numbers P) o) refl
        where
          go : (z : Option ℕ) → point_at (numbers P) o ≡ z → or_itself P F S z ((numbers P).site n) s ≡ true
          go None g = subst (λ z. is_site z s ≡ true) (sym d) (eq-eqb s s refl)
          go (Some r) g = new_goes (a_creation p u o j q es) c o (point_at (numbers P) o) n s r (λ x w. w) e d g

      -- a read of a field: the base's object may have the site z
      pub load_goes : (p : Place) (b : Operand) (f : ℕ) (o : Operand) → Contains (parts_of P m k) (a_load p b (Some f) o)
          → ((t : ObjectType) → field_object P f ≡ Some t → IsPoint P F o) → IsUsed b → o.created ≡ None → (z : Option ℕ)
          → passes (value_sites b) z ≡ true
          → (i : ℕ) → field_sites f z i ≡ true → (looks_in o.created o i ≡ true) × (value_sites o i ≡ true)
      load_goes p b f o c kp u plain z v i h =
          let w = when_some (field_object P f) (at_cell P F S (option_and_then (field_cell P F f) z)) i h in
          let cell = cell_is_at (option_and_then (field_cell P F f) z) i w.1 in
          let site = then_some (field_cell P F f) z cell.0 cell.1 in
          let col = then_some (λ c. cell_number P F site.0 (Some c)) ((numbers P).column (column.Fld f)) cell.0 site.2 in
          let base = (used_at b site.0 u (subst (λ y. passes (value_sites b) y ≡ true) site.1 v)).1 in
          let q = kp w.0.0 w.0.1 in
          let x : LoadInfo = record { base = base.number; column = Some (record { 0 = col.0 }); into = q.number } in
          point_sites_of o i plain q
          (closed (in_point base.number site.0 ∷ in_cell cell.0 i ∷ []) (in_point q.number i) (by_load x cell.0 site.0 i
          (loads_given (a_load p b (Some f) o) c x (these_has (point_at (numbers P) b) ((numbers P).column (column.Fld f))
          (point_at (numbers P) o) (λ a c q. record { base = a; column = Some (record { 0 = c }); into = q }) base.number col.0 q.number
          base.there col.1 q.point))
          (cell_found site.0 cell.0 (Some col.0) col.2)) (base.holds, (cell.2, tt)))

      pub element_goes : (p : Place) (b o : Operand) → Contains (parts_of P m k) (an_element p b o)
          → ((t : ObjectType) → b.ty ≡ Some t → IsPoint P F o) → IsUsed b → o.created ≡ None → (z : Option ℕ) → passes (value_sites b) z ≡ true
          → (i : ℕ) → element_sites z i ≡ true
          → (looks_in o.created o i ≡ true) × (value_sites o i ≡ true)
      element_goes p b o c kp u plain z v i h =
          let cell = cell_is_at (option_and_then (element_cell P F) z) i h in
          let site = then_some (element_cell P F) z cell.0 cell.1 in
          let ub = used_at b site.0 u (subst (λ y. passes (value_sites b) y ≡ true) site.1 v) in
          let base = ub.1 in
          let q = kp ub.0.0 ub.0.1 in
          let x : LoadInfo = record { base = base.number; column = None; into = q.number } in
          point_sites_of o i plain q
          (closed (in_point base.number site.0 ∷ in_cell cell.0 i ∷ []) (in_point q.number i) (by_load x cell.0 site.0 i
          (loads_given (an_element p b o) c x (both_has (point_at (numbers P) b) (point_at (numbers P) o)
          (λ a q. record { base = a; column = None; into = q }) base.number q.number base.there q.point))
          (cell_found site.0 cell.0 None site.2)) (base.holds, (cell.2, tt)))

      -- a store in a field of an object of the site s
      pub store_goes : (p : Place) (b : Operand) (f : ℕ) (o : Operand) → Contains (parts_of P m k) (a_store p b (Some f) o)
          → ((t : ObjectType) → o.ty ≡ Some t → (u : ObjectType) × (field_object P f ≡ Some u)) → IsUsed b → IsUsed o → (s : ℕ)
          → value_sites b s ≡ true
          → ((t : ObjectType) → field_object P f ≡ Some t → (n : ℕ) × (field_cell P F f s ≡ Some n)) → (i : ℕ) → value_sites o i ≡ true
          → field_sites f (Some s) i ≡ true
      store_goes p b f o c kp ub uo s v cells i h =
          let base = (used_at b s ub v).1 in
          let w = used_at o i uo h in
          let t = kp w.0.0 w.0.1 in
          let cell = cells t.0 t.1 in
          let col = then_some (λ c. cell_number P F s (Some c)) ((numbers P).column (column.Fld f)) cell.0 cell.1 in
          let x : StoreInfo = record { base = base.number; column = Some (record { 0 = col.0 }); value = w.1.number; place = p } in
          when_is (field_object P f) t.0 (at_cell P F S (field_cell P F f s)) i t.1 (is_at_cell (field_cell P F f s) cell.0 i cell.1
          (closed (in_point base.number s ∷ in_point w.1.number i ∷ []) (in_cell cell.0 i) (by_store x cell.0 s i
          (stores_given (a_store p b (Some f) o) c x (these_has (point_at (numbers P) b) ((numbers P).column (column.Fld f))
          (point_at (numbers P) o) (λ a c q. record { base = a; column = Some (record { 0 = c }); value = q; place = p }) base.number col.0
          w.1.number base.there col.1 w.1.there))
          (cell_found s cell.0 (Some col.0) col.2) tt) (base.holds, (w.1.holds, tt))))

      pub element_store_goes : (p : Place) (b o : Operand) → Contains (parts_of P m k) (an_element_store p b o) → IsUsed b → IsUsed o → (s : ℕ)
          → value_sites b s ≡ true → (n : ℕ) → element_cell P F s ≡ Some n → (i : ℕ) → IsBelow F (site_class F i) (site_class F s)
          → value_sites o i ≡ true
          → element_sites (Some s) i ≡ true
      element_store_goes p b o c ub uo s v n cell i below h =
          let base = (used_at b s ub v).1 in
          let w = used_at o i uo h in
          let x : StoreInfo = record { base = base.number; column = None; value = w.1.number; place = p } in
          is_at_cell (element_cell P F s) n i cell
          (closed (in_point base.number s ∷ in_point w.1.number i ∷ []) (in_cell n i) (by_store x n s i
          (stores_given (an_element_store p b o) c x (both_has (point_at (numbers P) b) (point_at (numbers P) o)
          (λ a q. record { base = a; column = None; value = q; place = p }) base.number w.1.number base.there w.1.there))
          (cell_found s n None cell) below) (base.holds, (w.1.holds, tt)))

      -- a cast that an object of the site s passes
      pub cast_goes : (p : Place) (e o : Operand) → Contains (parts_of P m k) (a_test p e o) → HasPoint P F o → IsUsed e → o.created ≡ None
          → (s : ℕ) → value_sites e s ≡ true → (t : ObjectType) → o.ty ≡ Some t → IsBelow F (site_class F s) t.class.0
          → (looks_in o.created o s ≡ true) × (value_sites o s ≡ true)
      unfolding HasPoint
      cast_goes p e o c kp u plain s v t et below =
          let base = (used_at e s u v).1 in
          let q = kp t et in
          let x : CastInfo = record { from = base.number; into = q.0; class = t.class } in
          point_sites_of o s plain (record { type = t; typed = et; number = q.0; point = q.1 })
          (closed (in_point base.number s ∷ []) (in_point q.0 s) (by_cast x s
          (casts_given (a_test p e o) c x (these_has (point_at (numbers P) e) (point_at (numbers P) o) o.ty
          (λ a q t. record { from = a; into = q; class = t.class }) base.number q.0 t base.there q.1 et)) below) (base.holds, tt))
