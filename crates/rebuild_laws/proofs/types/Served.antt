-- What the parts of a body ask is there, where a program rebuilds another over a hierarchy that breaks no obligation.
use Rattle.std.proofs.Common.{◌≡◌, ℕ, List, [], Option, Some, None, length, refl, sym, ap, ◌∙◌, subst, inl, inr}
use Rattle.std.specs.Prelude.{◌<◌, ◌==◌, ◌&&◌, if◌then◌else◌, Bool, true, false, slice_get, Contains, IfSome}
use Rattle.std.specs.Option.{option_map, option_map_or, is_some}
use Rattle.std.proofs.lemmas.Bool.{false≢true, and_from, eq-eqb}
use Rattle.std.proofs.lemmas.Option.{same_Some}
use Rattle.std.proofs.lemmas.List.Folds.{list_any-from_Any}
use Rattle.java_meaning.proofs.Calls.{mapped_some}
use Rattle.kaba_base.specs.declared.Place.{Place}
use Rattle.kaba_base.specs.declared.SiteId.{SiteId}
use Rattle.java_core.specs.Programs.{Plain, PlainField, PlainMethod}
use Rattle.java_core.specs.Classes.{below, slot_of_method, has_body, is_concrete}
use Rattle.java_core.specs.Types.{types_of, signature_of_method}
use Rattle.java_core.specs.Typing.{IsTyped}
use Rattle.fact_model.specs.Items.{row_at as row_info_at, site_at, site_row, is_object_row}
use Rattle.fact_model.specs.InRange.{InRange, IsSite}
use Rattle.fact_model.specs.InOrder.{InOrder}
use Rattle.fact_model.specs.Flowing.{AreSets}
use Rattle.fact_model.specs.Entries.{IsTable}
use Rattle.fact_model.specs.declared.facts.Facts.{Facts}
use Rattle.fact_model.specs.declared.facts.TieInfo.{TieInfo}
use Rattle.fact_model.specs.declared.facts.AccessInfo.{AccessInfo}
use Rattle.fact_model.specs.declared.facts.SuperInfo.{SuperInfo}
use Rattle.fact_model.specs.declared.sets.PointsTo.{PointsTo}
use Rattle.fact_model.specs.declared.sets.Table.{Table}
use Rattle.fact_model.proofs.EntryLemmas.{access_entry}
use Rattle.hier_model.specs.Hierarchies.{Hierarchy, IsHierarchyOf, place_of_row}
use Rattle.hier_model.proofs.AnyLemmas.{any_below_has}
use Rattle.hier_rules.specs.Asked.{is_pair, is_tie, is_super}
use Rattle.hier_rules.specs.First.{first_broken}
use Rattle.flow_rules.specs.declared.items.ObjectType.{ObjectType}
use Rattle.flow_rules.specs.declared.items.Operand.{Operand}
use Rattle.flow_rules.specs.declared.items.RowItem.{RowItem}
use Rattle.flow_rules.specs.declared.items.RowItem.TheVariants as row
use Rattle.flow_rules.specs.declared.items.ColumnItem.{ColumnItem}
use Rattle.flow_rules.specs.declared.items.ColumnItem.TheVariants as column
use Rattle.flow_rules.specs.Operands.{variable_row, result_in}
use Rattle.flow_rules.specs.Parts.{Part, a_load, an_element, a_creation, a_call, a_static_call, a_super_call, a_test, a_pair, a_set, a_store, an_element_store, a_return, parts_of}
use Rattle.flow_rules.specs.Numbered.{row_number}
use Rattle.flow_rules.specs.Lists.{both, row_at, row_in, tied, accessed, is_comparison, is_left_lower, param_row, pair_ties, test_ties, slot_ties, method_ties, ties_of, accesses_of, supers_of}
use Rattle.flow_rules.specs.Facts.{numbers, IsFactsOf}
use Rattle.flow_rules.proofs.Listed.{first, each_has, when_has}
use Rattle.flow_laws.proofs.cover.HasNumbers.{field_column}
use Rattle.flow_laws.proofs.order.Columns.{body_column}
use Rattle.flow_laws.proofs.order.Tests.{gathered_has}
use Rattle.flow_laws.proofs.order.Owners.{row_of_operand, creation_object}
use Rattle.flow_laws.proofs.order.Fitted.{part_fitted}
use Rattle.rebuild_model.specs.Renaming.{renaming_of, retyped_if}
use Rattle.rebuild_model.specs.Members.{is_made_at, new_types, HasTypes}
use Rattle.rebuild_laws.specs.looks.Known.{KnownOfBoth, Offers, sides}
use Rattle.rebuild_laws.proofs.looks.Nodes.{below_is, concrete}
use Rattle.rebuild_laws.proofs.looks.Fields.{new_field, finds_field}
use Rattle.rebuild_laws.proofs.looks.Slots.{method_of_slot, offers_item}
use Rattle.rebuild_laws.proofs.looks.Declared.{new_body, finds_slot}
use Rattle.rebuild_laws.proofs.looks.Bodies.{number, bodied_there}
use Rattle.rebuild_laws.proofs.looks.Statics.{static_fields, static_field_type, static_methods}
use Rattle.rebuild_laws.proofs.given.Rest.{half}
use Rattle.rebuild_laws.proofs.given.Needed as needed
use Rattle.rebuild_laws.proofs.given.Needed.{super_offers, super_slot, super_of, super_body}
use Rattle.rebuild_laws.proofs.types.Retyped.{IsUnder, AreNear}
use Rattle.rebuild_laws.proofs.types.Retypes.{from_front, each_retypes, variables_after}
use Rattle.rebuild_laws.proofs.types.Asked.{retypes, new_class, FindsField, FindsSlot, FindsSuper, HasField, HasSlot as HasSlotAt, ArgsFit, Serves, AreRenewed, method_signature, slot_signature}

module _ {P : Plain} {F : Facts} {H : Hierarchy} {W : Plain} (K : KnownOfBoth P F H W) where
  open sides K use {places as T, renaming as R}

  abbrev C : Option RowItem → Option ℕ
  C i = new_class P W R i

  pub row_class_is : (i : RowItem) (r : ℕ) → row_number P i ≡ Some r → R.row_type i ≡ Some (T.type_of (place_of_row H r))
  unfolding renaming_of numbers
  row_class_is i r e = ap (option_map (λ r. T.type_of (place_of_row H r))) e

  -- what has a class has a row
  pub record IsRowOf (i : Option RowItem) (c : ℕ) : Type 0 where
    pub item : RowItem
    pub is : i ≡ Some item
    pub number : ℕ
    pub numbered : row_number P item ≡ Some number
    pub class : T.type_of (place_of_row H number) ≡ c

  pub row_of_class : (i : Option RowItem) (c : ℕ) → C i ≡ Some c → IsRowOf i c
  unfolding renaming_of numbers
  row_of_class None c e = absurd (cc)
  row_of_class (Some i) c e = let z = mapped_some (λ r. T.type_of (place_of_row H r))
      (row_number P i) c e in record { item = i; is = refl; number = z.0; numbered = z.1; class = z.2 }

  pub row_in_is : (i : Option RowItem) (c : ℕ) (w : IsRowOf i c) → row_in (numbers P) i ≡ Some w.number
  unfolding numbers
  row_in_is i c w = ap (row_in (numbers P)) w.is ∙ w.numbered

  -- a method with the types of its rows has their signature
  method_types : (d : ℕ) (k : PlainMethod) → slice_get P.methods d ≡ Some k → (old new : PlainMethod) → slice_get P.methods d ≡ Some old
      → HasTypes R d old new → (g : ℕ) → slice_get W.methods g ≡ Some new → signature_of_method W g ≡ Some (method_signature P W R d k)
  method_types d k e old new at t g stands =
      let same : old ≡ k = same_Some old k (sym at ∙ e) in
      let params = t.params ∙ ap (λ z. new_types R d z 0 z.params) same
      ∙ variables_after (λ i. R.row_type (variable_row d k i)) 0 k.params
      ∙ each_retypes (λ i. R.row_type (variable_row d k i)) (types_of k.params) in
      let result = t.result ∙ ap (λ z. retyped_if (R.row_type (result_in z.slot d)) z.result) same in
      ap (option_map (λ (k : PlainMethod). record { params = types_of k.params; result = k.result })) stands
      ∙ ap (λ z. Some (record { params = z; result = new.result })) params
      ∙ ap (λ z. Some (record { params = retypes (λ i. R.row_type (variable_row d k i)) (types_of k.params); result = z })) result

  pub renewed : AreRenewed P W R
  renewed = record {
    numbered = λ i r e. (T.type_of (place_of_row H r), row_class_is i r e);
    no_maker = K.rebuilt.makerless;
    static_fields = λ f g s.
        let x = (static_fields K).is f g s in
        static_field_type K f g x ∙ sym (ap (λ z. retyped_if (R.row_type (row.Field f)) (option_map (λ (k : PlainField). k.ty) z)) x.same.old_stands);
    static_methods = λ d g s k e. let x =
        (static_methods K).is d g s in method_types d k e x.same.old x.same.new x.same.old_stands x.types g x.same.new_stands;
  }

  -- a node that offers a field finds it
  field_found : (n f : ℕ) → Offers K n (column.Fld f) → FindsField P W R (T.type_of n) f
  field_found n f o =
      let x = (new_field K f o.node o.stands).1 in
      record {
        number = (new_field K f o.node o.stands).0;
        found = finds_field K f n o;
        type = ap (option_map (λ (k : PlainField). k.ty)) x.stands ∙ ap Some x.is.type
            ∙ sym (ap (λ z. retyped_if (R.row_type (row.Field f)) (option_map (λ (k : PlainField). k.ty) z)) x.is.old_stands);
      }

  -- and one that offers a declaration its slot
  slot_found : (n s d : ℕ) → slot_of_method P d ≡ Some s → Offers K n (column.Dcl d) → FindsSlot P W R (T.type_of n) s d
  slot_found n s d e o =
      let m = method_of_slot P d s e in
      let i = ((K.old.methods d m.method m.stands).slots s).0 m.slot in
      let x = finds_slot K n s d (K.order.lower_lives n o.node o.above) (offers_item K n s (column.Dcl d) refl e o) e i.slot i.stands in
      record {
        number = x.0;
        found = x.1.found;
        type = λ k at.
            let same : i.slot ≡ k = same_Some i.slot k (sym i.stands ∙ at) in
            x.1.types ∙ ap (λ z. Some (record { params = z; result = retyped_if (R.row_type (row.Return s)) i.slot.result }))
            (each_retypes (λ j. R.row_type (row.Param s j)) i.slot.params) ∙ ap (λ z. Some (slot_signature P W R s z)) same;
      }

  module _ (typed : IsTyped P) (facts : IsFactsOf P F) (pt : PointsTo) (t : Table)
      (A : InRange F) (O : InOrder F) (S : AreSets F pt) (B : IsTable F t) (table : H.table ≡ t.rows.items)
      (none : first_broken F pt H ≡ None) (hierarchy : IsHierarchyOf F H) where
    -- the lower row of a tie has a class at or below that of the upper
    tie_below : (x : TieInfo) → Contains F.ties.items x → below W (T.type_of (place_of_row H x.lower.0)) (T.type_of (place_of_row H x.upper.0)) ≡ true
    tie_below x c =
        let l = x.lower.0 in
        let u = x.upper.0 in
        let is : is_tie F l u ≡ true = list_any-from_Any (λ (y : TieInfo). is_pair y.lower.0 y.upper.0 l u) F.ties.items
        (c.0, x, c.1, c.2, and_from (l == l) (u == u) (eq-eqb l l refl) (eq-eqb u u refl)) in
        let le = (half F pt t A O S B H table none).tied l u is in
        below_is K (place_of_row H l) (place_of_row H u) (K.order.lower_lives (place_of_row H l) (place_of_row H u) le)
        (K.order.upper_lives (place_of_row H l) (place_of_row H u) le) ∙ le

    under : (i j : Option RowItem) → ((x : TieInfo) → Contains (tied (row_in (numbers P) i) (row_in (numbers P) j)) x → Contains F.ties.items x)
        → IsUnder W (C i) (C j)
    under i j into c d hc hd =
        let a = row_of_class i c hc in
        let b = row_of_class j d hd in
        let x : TieInfo = record { lower = record { 0 = a.number }; upper = record { 0 = b.number } } in
        let is = subst (λ z. Contains (tied z (row_in (numbers P) j)) x) (sym (row_in_is i c a))
        (subst (λ z. Contains (tied (Some a.number) z) x) (sym (row_in_is j d b)) (first x [])) in
        subst (λ z. below W z d ≡ true) a.class (subst (λ z. below W (T.type_of (place_of_row H a.number)) z ≡ true) b.class (tie_below x (into x is)))

    -- a row that accesses a member stands where the member is offered
    record IsOffered (i : ColumnItem) (c : ℕ) : Type 0 where
      node : ℕ
      class : T.type_of node ≡ c
      offers : Offers K node i

    accessed_at : (i : Option RowItem) (q : ColumnItem) (l : ℕ) → (numbers P).column q ≡ Some l
        → ((x : AccessInfo) → Contains (accessed (row_in (numbers P) i) ((numbers P).column q)) x → Contains F.accesses.items x) → (c : ℕ)
        → C i ≡ Some c → IsOffered q c
    accessed_at i q l e into c hc =
        let a = row_of_class i c hc in
        let x : AccessInfo = record { row = record { 0 = a.number }; column = record { 0 = l } } in
        let is = subst (λ z. Contains (accessed z ((numbers P).column q)) x) (sym (row_in_is i c a))
        (subst (λ z. Contains (accessed (Some a.number) z) x) (sym e) (first x [])) in
        let has = access_entry F t B x (into x is) in
        record {
          node = place_of_row H a.number;
          class = a.class;
          offers =
              needed.offers_item K (place_of_row H a.number) l q e ((half F pt t A O S B H table none).offered a.number l has);
        }

    has_field : (b : Operand) (f : ℕ) → ((x : AccessInfo) → Contains (accessed (row_at (numbers P) b) ((numbers P).column (column.Fld f))) x
        → Contains F.accesses.items x) → HasField P W R b f
    unfolding numbers
    has_field b f into w stands instance c hc =
        let l = field_column P f w stands instance in
        let o = accessed_at b.row (column.Fld f) l.0 l.1 into c hc in
        subst (λ z. FindsField P W R z f) o.class (field_found o.node f o.offers)

    pub has_slot : (b : Operand) (s d : ℕ) → ((x : AccessInfo) → Contains (accessed (row_at (numbers P) b) ((numbers P).column (column.Dcl d))) x
        → Contains F.accesses.items x) → HasSlotAt P W R b s d
    has_slot b s d into e c hc =
        let l = K.columns.declared d s e in
        let o = accessed_at b.row (column.Dcl d) l.0 l.1 into c hc in
        subst (λ z. FindsSlot P W R z s d) o.class (slot_found o.node s d e o.offers)

    module _ (m : ℕ) (k : PlainMethod) (stands : slice_get P.methods m ≡ Some k) where
      abbrev InBody : Part → Type 0
      InBody p = Contains (parts_of P m k) p

      tie_of : (p : Part) → InBody p → (x : TieInfo) → Contains (ties_of (numbers P) P m k.slot p) x → Contains F.ties.items x
      tie_of p c x d = (facts.ties x).1 (gathered_has P (λ b. ties_of (numbers P) P b.number b.slot) x m k p stands c d)

      pub access_of : (p : Part) → InBody p → (x : AccessInfo) → Contains (accesses_of (numbers P) p) x → Contains F.accesses.items x
      access_of p c x d = (facts.accesses x).1 (gathered_has P (λ b. accesses_of (numbers P)) x m k p stands c d)

      super_of_part : (p : Part) → InBody p → (x : SuperInfo) → Contains (supers_of (numbers P) m p) x → Contains F.supers.items x
      super_of_part p c x d = (facts.supers x).1 (gathered_has P (λ b. supers_of (numbers P) b.number) x m k p stands c d)

      -- one way or the other
      near_by : (i j : Option RowItem) (b : Bool)
          → ((x : TieInfo) → Contains (if b then tied (row_in (numbers P) i) (row_in (numbers P) j) else tied (row_in (numbers P) j)
          (row_in (numbers P) i)) x → Contains F.ties.items x) → AreNear W (C i) (C j)
      near_by i j true into c d hc hd = inl (under i j into c d hc hd)
      near_by i j false into c d hc hd = inr (under j i into d c hd hc)

      slot_args : (s : ℕ) (es : List Operand) → ((x : TieInfo) → Contains (slot_ties (numbers P) P s es) x → Contains F.ties.items x)
          → ArgsFit P W R (row.Param s) es
      slot_args s es into i o at = under o.row (Some (row.Param s i))
          (λ x c. into x (each_has (λ i o. tied (row_at (numbers P) o) ((numbers P).row (row.Param s i))) 0 es i o x at i (sym (from_front i)) c))

      method_args : (d : ℕ) (es : List Operand) → ((x : TieInfo) → Contains (method_ties (numbers P) P d es) x → Contains F.ties.items x)
          → (f : PlainMethod) → slice_get P.methods d ≡ Some f → ArgsFit P W R (variable_row d f) es
      method_args d es into f e i o at =
          let is : param_row P d i ≡ Some (variable_row d f i) = ap (option_map (λ k. variable_row d k i)) e in
          under o.row (Some (variable_row d f i)) (λ x c. into x
          (each_has (λ i o. tied (row_at (numbers P) o) (row_in (numbers P) (param_row P d i))) 0 es i o x at i (sym (from_front i))
          (subst (λ z. Contains (tied (row_at (numbers P) o) (row_in (numbers P) z)) x) (sym is) c)))

      site_in_range : (r : ℕ) (s : SiteId) → r < length F.rows.items → (row_info_at F r).site ≡ Some s → IsSite F s
      site_in_range r s lt d = subst (λ z. IfSome z (IsSite F)) d
          (A.rows r (record { label = []; class = record { 0 = 0 }; dim = 0; site = None; this_of = None }) lt).1

      -- the type of an object's creation has objects
      made_row : (r : ℕ) → r < length F.rows.items → is_object_row F r ≡ true → is_made_at F H (place_of_row H r) ≡ true
      made_row r lt e = go (row_info_at F r).site refl e
        where
          go : (o : Option SiteId) → (row_info_at F r).site ≡ o → option_map_or (λ s. (site_at F s.0).dim == 0) (row_info_at F r).site false ≡ true
              → is_made_at F H (place_of_row H r) ≡ true
          go None d e = absurd (false≢true (sym (ap (λ z. option_map_or (λ (s : SiteId). (site_at F s.0).dim == 0) z false) d) ∙ e))
          go (Some s) d e =
              let dim = sym (ap (λ z. option_map_or (λ (s : SiteId). (site_at F s.0).dim == 0) z false) d) ∙ e in
              let back = O.sites.back r s lt d in
              any_below_has (λ s. ((site_at F s).dim == 0) && (place_of_row H (site_row F s) == place_of_row H r)) (length F.sites.items) s.0
              (site_in_range r s lt d)
              (and_from ((site_at F s.0).dim == 0) (place_of_row H (site_row F s.0) == place_of_row H r) dim
              (eq-eqb (place_of_row H (site_row F s.0)) (place_of_row H r) (ap (place_of_row H) back)))

      -- so the class of its row is one
      pub created : (o : Operand) (a : ℕ) → C o.row ≡ Some a →
          ((r : ℕ) → row_at (numbers P) o ≡ Some r → (r < length F.rows.items) × (is_object_row F r ≡ true)) → is_concrete W a ≡ true
      created o a hc object =
          let w = row_of_class o.row a hc in
          let q = object w.number (row_in_is o.row a w) in
          subst (λ z. is_concrete W z ≡ true) w.class (concrete K (place_of_row H w.number) (hierarchy.placed.rows w.number q.0) (made_row w.number q.0 q.1))

      pub object_there : (w : Place) (u : Bool) (o : Operand) (s d : Option ℕ) (es : List Operand) → InBody (a_creation w u o s d es) → (n : ℕ)
          → o.created ≡ Some n → (y : ObjectType) → o.ty ≡ Some y → y.dim ≡ 0 → (r : ℕ) → row_at (numbers P) o ≡ Some r
          → (r < length F.rows.items) × (is_object_row F r ≡ true)
      object_there w u o s d es i n cr y ty dim r e =
          let g = (part_fitted P K.old typed F facts m k stands (a_creation w u o s d es) i).0 in
          let h = row_of_operand P K.old typed F facts m k stands o r g e in (
            h.at.below,
            creation_object P K.old typed F facts m k stands o r n g h cr (ap (λ z. z.dim) (same_Some h.type y (sym h.stated ∙ ty)) ∙ dim),
          )

      body_there : (d : ℕ) (f : PlainMethod) → slice_get P.methods d ≡ Some f → has_body P d ≡ true → is_some f.body ≡ true
      body_there d f e b = sym (ap (λ z. option_map_or (λ (k : PlainMethod). is_some k.body) z false) e) ∙ b

      column_of : (d : ℕ) (f : PlainMethod) → slice_get P.methods d ≡ Some f → f.is_static ≡ false → is_some f.body ≡ true
          → (l : ℕ) × ((numbers P).column (column.Def d) ≡ Some l)
      unfolding numbers
      column_of = body_column P

      finds_super : (w : Place) (d : ℕ) (es : List Operand) (o : Operand) → InBody (a_super_call w (Some d) es o) → (c : ℕ)
          → R.row_type (row.This m) ≡ Some c → has_body P d ≡ true → (f : PlainMethod) → slice_get P.methods d ≡ Some f → f.is_static ≡ false
          → FindsSuper P W R c d
      finds_super w d es o i c self b f e instance =
          let a = row_of_class (Some (row.This m)) c self in
          let l = column_of d f e instance (body_there d f e b) in
          let x : SuperInfo = record { row = record { 0 = a.number }; column = record { 0 = l.0 } } in
          let is = subst (λ z. Contains (both z ((numbers P).column (column.Def d))
          (λ a b. record { row = record { 0 = a }; column = record { 0 = b } })) x) (sym (row_in_is (Some (row.This m)) c a))
          (subst (λ z. Contains (both (Some a.number) z (λ a b. record { row = record { 0 = a }; column = record { 0 = b } })) x) (sym l.1) (first x [])) in
          let listed = super_of_part (a_super_call w (Some d) es o) i x is in
          let run : is_super F a.number l.0 ≡ true = list_any-from_Any (λ (y : SuperInfo). is_pair y.row.0 y.column.0 a.number l.0) F.supers.items
          (listed.0, x, listed.1, listed.2, and_from (a.number == a.number) (l.0 == l.0) (eq-eqb a.number a.number refl) (eq-eqb l.0 l.0 refl)) in
          let slot = super_slot K pt t A O S B table none a.number l.0 d run l.1 in
          let of = super_of K pt t A O S B table none a.number l.0 d run l.1 in
          let offers = super_offers K pt t A O S B table none a.number l.0 d run l.1 in
          let y = (new_body K d offers.node offers.stands).1 in
          subst (λ z. FindsSuper P W R z d) a.class (record {
            number = number K (place_of_row H a.number) d slot of offers;
            found = super_body K pt t A O S B table none a.number l.0 d run l.1;
            bodied = bodied_there K (place_of_row H a.number) d slot of offers;
            type = λ k at. method_types d k at y.is.old y.method y.is.old_stands y.is.types (number K (place_of_row H a.number) d slot of offers) y.stands;
          })

      -- what each part of a body asks is there
      pub served : (c : ℕ) → (k.is_static ≡ false → R.row_type (row.This m) ≡ Some c) → (p : Part) → InBody p → Serves P W R m k c p
      served c self (a_load w b (Some f) o) i = has_field b f (access_of (a_load w b (Some f) o) i)
      served c self (a_load w b None o) i = tt
      served c self (an_element w b o) i = tt
      served c self (a_creation w u o None d es) i = λ n cr y ty dim a hc. created o a hc (object_there w u o None d es i n cr y ty dim)
      served c self (a_creation w u o (Some s) d es) i = slot_args s es (tie_of (a_creation w u o (Some s) d es) i)
      served c self (a_call w b (Some s) (Some d) es o) i =
          (has_slot b s d (access_of (a_call w b (Some s) (Some d) es o) i), slot_args s es (tie_of (a_call w b (Some s) (Some d) es o) i))
      served c self (a_call w b (Some s) None es o) i = tt
      served c self (a_call w b None d es o) i = tt
      served c self (a_static_call w d es o) i = method_args d es (tie_of (a_static_call w d es o) i)
      served c self (a_super_call w (Some d) es o) i = (
        (λ inst b f e instance. finds_super w d es o i c (self inst) b f e instance),
        method_args d es (tie_of (a_super_call w (Some d) es o) i),
      )
      served c self (a_super_call w None es o) i = tt
      served c self (a_test w e o) i = λ x y hx hy. near_by e.row o.row (below P x.class.0 y.class.0)
          (λ z d. tie_of (a_test w e o) i z (subst (λ v. Contains (test_ties (numbers P) P e o v o.ty) z) (sym hx)
          (subst (λ v. Contains (test_ties (numbers P) P e o (Some x) v) z) (sym hy) d)))
      served c self (a_pair b l r) i = λ compares x y hx hy. near_by l.row r.row (is_left_lower P l r x y)
          (λ z d. tie_of (a_pair b l r) i z (when_has (is_comparison b) (pair_ties (numbers P) P l r l.ty r.ty) z compares
          (subst (λ v. Contains (pair_ties (numbers P) P l r v r.ty) z) (sym hx)
          (subst (λ v. Contains (pair_ties (numbers P) P l r (Some x) v) z) (sym hy) d))))
      served c self (a_set v o) i = under o.row v.row (tie_of (a_set v o) i)
      served c self (a_store w b (Some f) o) i = (
        has_field b f (access_of (a_store w b (Some f) o) i),
        under o.row (Some (row.Field f)) (tie_of (a_store w b (Some f) o) i),
      )
      served c self (a_store w b None o) i = tt
      served c self (an_element_store w b o) i = under o.row b.row (tie_of (an_element_store w b o) i)
      served c self (a_return o) i = under o.row (Some (result_in k.slot m)) (tie_of (a_return o) i)
