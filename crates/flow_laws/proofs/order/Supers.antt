-- A super call stands in a method, and runs the nearest body strictly above the class of its `this`.
use Rattle.std.proofs.Common.{◌≡◌, ℕ, List, Option, Some, None, length, refl, sym, ap, ◌∙◌, subst, arith}
use Rattle.std.specs.Prelude.{◌==◌, ◌&&◌, true, false, Contains, All, slice_get, option_and_then}
use Rattle.std.specs.Option.{option_map_or, is_some}
use Rattle.std.proofs.lemmas.Option.{same_Some}
use Rattle.std.proofs.lemmas.Bool.{eqb-true, eq-eqb, and_parts, and_from}
use Rattle.kaba_base.specs.declared.ClassId.{ClassId}
use Rattle.java_core.specs.Programs.{Plain, PlainMethod}
use Rattle.java_core.specs.Classes.{IsSubclass, through, super_method, own_method, own_body, has_slot, is_slot, has_body, nearest_of, lookup, parent_of}
use Rattle.java_core.specs.Found.{IsNearest, at_class, above_class}
use Rattle.java_core.specs.Typing.{IsTyped}
use Rattle.java_core.specs.Formed.{IsFormed, IsInSlot}
use Rattle.java_core.proofs.Subclasses.{nearest_of-nearest, nearest-nearest_of, parent-super}
use Rattle.java_core.proofs.Positions.{passes-position, position-passes}
use Rattle.java_core.proofs.Offered.{own_method-own, own-own_method}
use Rattle.java_core.proofs.Upwards.{chain-above}
use Rattle.fact_model.specs.Items.{row_class, row_this, column_class}
use Rattle.fact_model.specs.Classes.{IsBelow, finds, finds_within}
use Rattle.fact_model.specs.InOrder.{IsDef, IsNearestAbove}
use Rattle.fact_model.specs.declared.facts.Facts.{Facts}
use Rattle.fact_model.specs.declared.facts.SuperInfo.{SuperInfo}
use Rattle.flow_rules.specs.declared.items.RowItem.TheVariants as row
use Rattle.flow_rules.specs.declared.items.ColumnItem.TheVariants as column
use Rattle.flow_rules.specs.Parts.{Part, a_super_call, parts_of}
use Rattle.flow_rules.specs.Numbered.{row_number, column_number}
use Rattle.flow_rules.specs.Lists.{supers_of}
use Rattle.flow_rules.specs.Facts.{numbers, this_of_row, owner_of, IsFactsOf}
use Rattle.java_core.proofs.SearchOrder.{slot_is}
use Rattle.flow_laws.proofs.cover.Found.{same_length}
use Rattle.flow_laws.proofs.cover.Bodies.{finds_some}
use Rattle.flow_rules.proofs.Listed.{all_of}
use Rattle.flow_laws.proofs.order.Columns.{numbered_column, body_column}
use Rattle.flow_laws.proofs.order.Classes.{subclass_below, parent_same}
use Rattle.flow_laws.proofs.order.Rows.{item_row, row_types}
use Rattle.flow_laws.proofs.order.Bodies.{this_method, this_column}
use Rattle.flow_laws.proofs.order.Tests.{gathered_from, both_from}
use Rattle.flow_laws.proofs.order.Fitted.{part_fitted}

module _ (P : Plain) (formed : IsFormed P) (typed : IsTyped P) where
  -- the method that a super call finds, in the class where it stands
  record IsFoundAbove (c d : ℕ) (x : List ℕ) : Type 0 where
    parent : ClassId
    above : parent_of P c ≡ Some parent
    found : nearest_of P (λ k. own_method P k x) parent.0 ≡ Some d

  found_above : (c d : ℕ) (x : List ℕ) → super_method P c x ≡ Some d → IsFoundAbove c d x
  unfolding super_method
  found_above c d x e = go (parent_of P c) refl e
    where
      go : (o : Option ClassId) → parent_of P c ≡ o → option_and_then (λ p. nearest_of P (λ k. own_method P k x) p.0) o ≡ Some d → IsFoundAbove c d x
      go None h e = absurd (cc)
      go (Some p) h e = record { parent = p; above = h; found = e }

  -- the class of the method
  record IsHeld (c d : ℕ) (x : List ℕ) : Type 0 where
    method : PlainMethod
    stands : slice_get P.methods d ≡ Some method
    above : IsSubclass P c method.owner
    instance : method.is_static ≡ false
    name : method.name ≡ x

  method_held : (c d : ℕ) (x : List ℕ) → nearest_of P (λ k. own_method P k x) c ≡ Some d → IsHeld c d x
  method_held c d x e =
      let n = chain-above P (λ k. own_method P k x) (nearest_of-nearest P (λ k. own_method P k x) e) in
      let z = own_method-own P n.holder x d n.found in
      record { method = z.method; stands = z.stands; above = subst (λ y. IsSubclass P c y) (sym z.owner) n.above; instance = z.instance; name = z.name }

  owner_as : (d : ℕ) (h : PlainMethod) → slice_get P.methods d ≡ Some h → owner_of P (column.Def d) ≡ h.owner
  owner_as d h e =
      ap (λ y. option_map_or (λ k. k.owner) y 0) e

  pub super_above : (c d : ℕ) (x : List ℕ) → super_method P c x ≡ Some d → IsSubclass P c (owner_of P (column.Def d))
  super_above c d x e =
      let f = found_above c d x e in
      let h = method_held f.parent.0 d x f.found in
      through (parent-super P c f.parent f.above) (subst (λ y. IsSubclass P f.parent.0 y) (sym (owner_as d h.method h.stands)) h.above)

  in_slot : (d s : ℕ) (k : PlainMethod) → slice_get P.methods d ≡ Some k → k.slot ≡ Some s → IsInSlot P s k
  in_slot d s k e h = ((formed.methods d k e).slots s).0 h

  slot_name : (d e s : ℕ) (h k : PlainMethod) → slice_get P.methods d ≡ Some h → slice_get P.methods e ≡ Some k → h.slot ≡ Some s → k.slot ≡ Some s
      → h.name ≡ k.name
  slot_name d e s h k a b u v = let x = in_slot d s h a u in let y = in_slot e s k b v in x.name
      ∙ ap (λ z. z.name) (same_Some _ _ (sym x.stands ∙ y.stands)) ∙ sym y.name

  own_body_method : (c s e : ℕ) → own_body P c s ≡ Some e → (k : PlainMethod) × (slice_get P.methods e ≡ Some k) × (k.owner ≡ c) × (k.slot ≡ Some s)
  own_body_method c s e h =
      let z = position-passes (λ m. has_slot c s m && is_some m.body) P.methods e h in
      let w = and_parts (z.0.owner == c) (is_slot z.0.slot s) (and_parts (has_slot c s z.0) (is_some z.0.body) z.2).0 in
      (z.0, z.1, eqb-true z.0.owner c w.0, slot_is z.0.slot s w.1)

  -- the nearest method of the name is the nearest body of its slot
  module _ (d s : ℕ) (h : PlainMethod) (stands : slice_get P.methods d ≡ Some h) (slot : h.slot ≡ Some s) (bodied : is_some h.body ≡ true) where
    body_here : (c : ℕ) → h.owner ≡ c → own_body P c s ≡ Some d
    body_here c o =
        let j = passes-position (λ m. has_slot c s m && is_some m.body) P.methods d h stands (and_from (has_slot c s h) (is_some h.body)
        (and_from (h.owner == c) (is_slot h.slot s) (eq-eqb h.owner c o) (ap (λ z. is_slot z s) slot ∙ eq-eqb s s refl)) bodied) in
        let z = own_body_method c s j.0 j.1 in
        j.1 ∙ ap Some (formed.method_names j.0 d z.0 h z.1 stands (z.2 ∙ sym o) (slot_name j.0 d s z.0 h z.1 stands z.3 slot))

    no_body : (c : ℕ) → own_method P c h.name ≡ None → own_body P c s ≡ None
    no_body c e = go (own_body P c s) refl
      where
        go : (o : Option ℕ) → own_body P c s ≡ o → own_body P c s ≡ None
        go None f = f
        go (Some j) f =
            let z = own_body_method c s j f in
            let y = in_slot j s z.0 z.1 z.3 in
            let t = own-own_method P c h.name j (record {
              method = z.0;
              stands = z.1;
              owner = z.2;
              instance = y.instance;
              name = slot_name j d s z.0 h
                  z.1 stands z.3 slot;
            }) in
            absurd (let u = sym t.1 ∙ e in cc)

    nearest_body : {c : ℕ} → IsNearest P (λ k. own_method P k h.name) c d → IsNearest P (λ k. own_body P k s) c d
    nearest_body (at_class {c = c} e) =
        at_class (body_here c (let z = own_method-own P c h.name d e in ap (λ k. k.owner) (same_Some _ _ (sym stands ∙ z.stands)) ∙ z.owner))
    nearest_body (above_class {c = c} e p r) = above_class (no_body c e) p (nearest_body r)

  found_body : (c d s : ℕ) (x : List ℕ) (h : IsHeld c d x) → h.method.slot ≡ Some s → has_body P d ≡ true → nearest_of P (λ k. own_method P k x) c
      ≡ Some d → lookup P c s ≡ Some d
  unfolding lookup
  found_body c d s x h e b f =
      nearest-nearest_of P (λ k. own_body P k s) formed.acyclic
      (nearest_body d s h.method h.stands e (sym (ap (λ o. option_map_or (λ k. is_some k.body) o false) h.stands)
      ∙ b) (nearest_of-nearest P (λ k. own_method P k h.method.name) (subst (λ y. nearest_of P (λ k. own_method P k y) c ≡ Some d)
      (sym h.name) f)))

  module _ (F : Facts) (facts : IsFactsOf P F) where
    -- a super call of a method's body
    pub record IsSuperCall (x : SuperInfo) : Type 0 where
      pub number : ℕ
      pub method : PlainMethod
      pub stands : slice_get P.methods number ≡ Some method
      pub runs : ℕ
      pub row_is : row_number P (row.This number) ≡ Some x.row.0
      pub column_is : column_number P (column.Def runs) ≡ Some x.column.0
      pub name : List ℕ
      pub found : super_method P method.owner name ≡ Some runs
      pub bodied : has_body P runs ≡ true

    super_call_of : (m : ℕ) (k : PlainMethod) (p : Part) (x : SuperInfo) → slice_get P.methods m ≡ Some k → Contains (parts_of P m k) p
        → Contains (supers_of (numbers P) m p) x → IsSuperCall x
    unfolding numbers
    super_call_of m k (a_super_call w (Some d) es o) x e c h =
        let z = both_from (row_number P (row.This m)) (column_number P (column.Def d))
        (λ a b. record { row = record { 0 = a }; column = record { 0 = b } }) x h in
        let f = ((part_fitted P formed typed F facts m k e (a_super_call w (Some d) es o) c).1 d refl).0 in
        record {
          number = m;
          method = k;
          stands = e;
          runs = d;
          row_is = z.2 ∙ ap (λ y. Some y.row.0) z.4;
          column_is = z.3
              ∙ ap (λ y. Some y.column.0) z.4;
          name = f.name;
          found = f.found;
          bodied = f.bodied;
        }
    super_call_of m k _ x e c h = absurd (omega (arith, h.1))

    pub super_entry : (x : SuperInfo) → Contains F.supers.items x → IsSuperCall x
    super_entry x c = let z = gathered_from P (λ b. supers_of (numbers P) b.number) x ((facts.supers x).0 c) in super_call_of z.0 z.1 z.2 x z.3 z.4 z.5

    this_class : (x : SuperInfo) (w : IsSuperCall x) → row_class F x.row.0 ≡ w.method.owner
    this_class x w =
        let y = item_row P F facts (row.This w.number) x.row.0 w.row_is in
        let t = this_method P formed typed F facts w.number y.0 (row_types P x.row.0 y.0 y.1) y.2 in
        ap (λ i. i.class.0) y.3 ∙ ap (λ y. y.class.0) t.type ∙ ap (λ k. k.owner) (same_Some _ _ (sym t.stands ∙ w.stands))

    pub supers_below : All (λ x. IsBelow F (row_class F x.row.0) (column_class F x.column.0)) F.supers.items
    supers_below = all_of (λ x. IsBelow F (row_class F x.row.0) (column_class F x.column.0)) F.supers.items
        (λ x c. let w = super_entry x c in
        let n = numbered_column P F facts (column.Def w.runs) x.column.0 w.column_is in
        subst (λ z. IsBelow F z (column_class F x.column.0)) (sym (this_class x w)) (subst (λ z. IsBelow F w.method.owner z)
        (sym (ap (λ i. i.class.0) n.1)) (subclass_below P F facts (super_above w.method.owner w.runs w.name w.found))))

    -- a super call stands in a method with a `this`
    this_there : (x : SuperInfo) → IsSuperCall x → is_some (row_this F x.row.0) ≡ true
    this_there x w =
        let y = item_row P F facts (row.This w.number) x.row.0 w.row_is in
        let t = this_method P formed typed F facts w.number y.0 (row_types P x.row.0 y.0 y.1) y.2 in
        let d = body_column P w.number t.method t.stands t.instance t.bodied in
        ap is_some (ap (λ i. i.this_of) y.3 ∙ ap (this_of_row (numbers P)) y.2 ∙ this_column P formed typed F facts w.number d.0 d.1)

    finds_column : (c j m : ℕ) → lookup P c j ≡ Some m → (d : ℕ) × (finds F c j ≡ Some d) × (column_number P (column.Def m) ≡ Some d)
    unfolding lookup
    finds_column c j m e =
        let z = finds_some P F formed facts (length P.classes) c j m e in
        (z.0, ap (λ n. finds_within F n c j) (same_length P F facts) ∙ z.1, z.2)

    nearest_entry : (x : SuperInfo) → IsSuperCall x → IsNearestAbove F (row_class F x.row.0) x.column.0
    nearest_entry x w =
        let f = found_above w.method.owner w.runs w.name w.found in
        let h = method_held f.parent.0 w.runs w.name f.found in
        let s = (formed.methods w.runs h.method h.stands).slotted h.instance in
        let d = finds_column f.parent.0 s.0 w.runs (found_body f.parent.0 w.runs s.0 w.name h s.1 w.bodied f.found) in
        let n = numbered_column P F facts (column.Def w.runs) x.column.0 w.column_is in
        record {
          parent = f.parent;
          above = parent_same P F facts (row_class F x.row.0) ∙ ap (parent_of P) (this_class x w) ∙ f.above;
          slot = s.0;
          slot_is = ap (λ i. i.slot) n.1 ∙ ap (λ o. option_and_then (λ k. k.slot) o) h.stands ∙ s.1;
          found = d.1 ∙ sym d.2 ∙ w.column_is;
        }

    pub super_bodies : All (λ x. (is_some (row_this F x.row.0) ≡ true) × IsDef F x.column.0 × IsNearestAbove F (row_class F x.row.0) x.column.0)
        F.supers.items
    super_bodies = all_of (λ x. (is_some (row_this F x.row.0) ≡ true) × IsDef F x.column.0 × IsNearestAbove F (row_class F x.row.0) x.column.0) F.supers.items
        (λ x c. let w = super_entry x c in (
          this_there x w,
          ap (λ i. i.kind) (numbered_column P F facts (column.Def w.runs) x.column.0
              w.column_is).1,
          nearest_entry x w,
        ))
