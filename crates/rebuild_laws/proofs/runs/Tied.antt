-- What is met at the parts of a body is met in the same way in the program that rebuilds it.
use Rattle.std.proofs.Common.{◌≡◌, ℕ, List, [], ◌∷◌, Option, Some, None, length, refl, sym, ap, ◌∙◌, subst}
use Rattle.std.specs.Prelude.{Bool, true, false, ◌==◌, ◌&&◌, slice_get, option_and_then, Contains, map}
use Rattle.std.specs.Option.{option_map, option_map_or, is_some}
use Rattle.std.proofs.lemmas.Option.{same_Some}
use Rattle.std.proofs.lemmas.Bool.{and_from, eq-eqb}
use Rattle.std.proofs.lemmas.List.Folds.{list_any-from_Any}
use Rattle.kaba_base.specs.declared.Place.{Place}
use Rattle.kaba_bits.specs.Sets.{bit, row as bits}
use Rattle.kaba_order.specs.Orders.{is_le}
use Rattle.java_core.specs.declared.TyBase.{TyBase}
use Rattle.java_core.specs.declared.TyBase.TheVariants.{Int, Boolean, Char, Str, Class}
use Rattle.java_core.specs.Programs.{Plain, PlainField, PlainMethod}
use Rattle.java_core.specs.Trees.{Sts}
use Rattle.java_core.specs.Classes.{member_field, slot_of, lookup, super_method}
use Rattle.java_core.specs.Types.{class_type}
use Rattle.java_meaning.specs.Moment.{Kind, an_object, Body}
use Rattle.java_meaning.specs.Languages.{body_of, body_with}
use Rattle.java_meaning.proofs.Moves.{then_some}
use Rattle.java_meaning.proofs.Calls.{mapped_some}
use Rattle.fact_model.specs.Items.{site_row, site_class, point_row}
use Rattle.fact_model.specs.Classes.{finds, finds_within, is_slot}
use Rattle.fact_model.specs.InRange.{InRange}
use Rattle.fact_model.specs.InOrder.{InOrder}
use Rattle.fact_model.specs.Flowing.{AreSets}
use Rattle.fact_model.specs.Entries.{IsTable}
use Rattle.fact_model.specs.declared.facts.Facts.{Facts}
use Rattle.fact_model.specs.declared.facts.AccessInfo.{AccessInfo}
use Rattle.fact_model.specs.declared.facts.CallInfo.{CallInfo}
use Rattle.fact_model.specs.declared.facts.SuperInfo.{SuperInfo}
use Rattle.fact_model.specs.declared.sets.PointsTo.{PointsTo}
use Rattle.fact_model.specs.declared.sets.Table.{Table}
use Rattle.fact_model.proofs.EntryLemmas.{access_entry}
use Rattle.hier_model.specs.Hierarchies.{Hierarchy, place_of_row}
use Rattle.hier_rules.specs.Asked.{is_called, is_super, is_pair}
use Rattle.hier_rules.specs.First.{first_broken}
use Rattle.flow_rules.specs.declared.items.ObjectType.{ObjectType}
use Rattle.flow_rules.specs.declared.items.Operand.{Operand}
use Rattle.flow_rules.specs.declared.items.ColumnItem.TheVariants as column
use Rattle.flow_rules.specs.declared.items.RowItem.TheVariants as row
use Rattle.flow_rules.specs.Ordered.{by_place}
use Rattle.flow_rules.specs.Parts.{Part, a_creation, a_call, a_super_call, parts_of}
use Rattle.flow_rules.specs.Lists.{Placed, PlainCall, both, accessed, point_at, row_at, site_in, accesses_of, calls_of, supers_of}
use Rattle.flow_rules.specs.Facts.{numbers, call_seen, gathered, IsFactsOf}
use Rattle.flow_laws.specs.cover.Covers.{solved, labelled_with, labelled_body}
use Rattle.flow_laws.proofs.cover.Bodies.{finds_some}
use Rattle.flow_laws.proofs.cover.Found.{same_length}
use Rattle.flow_laws.proofs.cover.Kinded.{site_type}
use Rattle.flow_rules.proofs.Listed.{one, map_has, map_from, place_has}
use Rattle.flow_laws.proofs.cover.HasNumbers.{field_column}
use Rattle.flow_laws.proofs.order.Columns.{body_column}
use Rattle.flow_laws.proofs.order.Tests.{gathered_has}
use Rattle.rebuild_model.specs.Members.{HasTypes, HasCode, StandsAt}
use Rattle.rebuild_laws.specs.looks.Known.{KnownOfBoth, Offers, sides}
use Rattle.rebuild_laws.proofs.looks.Declared.{new_body}
use Rattle.rebuild_laws.proofs.looks.Fields.{finds_field}
use Rattle.rebuild_laws.proofs.given.Rest.{half}
use Rattle.rebuild_laws.proofs.given.Needed as needed
use Rattle.rebuild_laws.proofs.given.Needed.{need_offers, needed_body, super_offers, super_body}
use Rattle.rebuild_laws.proofs.types.Asked.{HasSlot}
use Rattle.rebuild_laws.proofs.types.Served.{row_of_class, row_in_is}
use Rattle.rebuild_laws.proofs.runs.Ties as ties
use Rattle.rebuild_laws.proofs.runs.Ties.{type_at, type_over, FieldTied, CallTied}
use Rattle.rebuild_laws.proofs.runs.Sited.{MadeAs, has, has_in, new_field, new_field_is, node_of, met_passing, below_row, row_has}

abbrev class_number : TyBase → ℕ
class_number (Class c) = c.0
class_number Int = 0
class_number Boolean = 0
class_number Char = 0
class_number Str = 0

module _ {P : Plain} {F : Facts} {H : Hierarchy} {W : Plain} (K : KnownOfBoth P F H W)
    (facts : IsFactsOf P F) (pt : PointsTo) (t : Table)
    (A : InRange F) (O : InOrder F) (S : AreSets F pt) (B : IsTable F t) (table : H.table ≡ t.rows.items) (none : first_broken F pt H ≡ None) where
  open sides K use {places as T, renaming as R}

  abbrev Made : Option ℕ → Kind → Kind → Type 0
  Made o k l = MadeAs K t o k l

  -- the copies of old bodies
  pub record IsCopyOf (b c : Body) : Type 0 where
    pub number : ℕ
    pub method : PlainMethod
    pub stands : slice_get P.methods number ≡ Some method
    pub old_body : labelled_with P F (solved pt) number method ≡ Some b
    pub copy : ℕ
    pub new : PlainMethod
    pub new_stands : slice_get W.methods copy ≡ Some new
    pub new_body : body_of W copy ≡ Some c
    pub types : HasTypes R number method new
    pub code : HasCode P W R number method new
    pub self : method.is_static ≡ false → (n : ℕ) × StandsAt P F H W T (column.Def number) n × (new.owner ≡ T.type_of n)

  -- an object has a site, and its classes are those of the site
  record IsSited (o : Option ℕ) (c k : ℕ) : Type 0 where
    site : ℕ
    is : site_in (numbers P) o ≡ Some site
    old : c ≡ site_class F site
    new : k ≡ T.type_of (node_of K t site)

  sited : (o : Option ℕ) (c k : ℕ) → Made o (an_object c) (an_object k) → IsSited o c k
  sited o c k made = go (site_in (numbers P) o) refl
    where
      class_is : (a b : ℕ) (x : ObjectType) → class_type a ≡ type_over b x → a ≡ b
      class_is a b x e = ap (λ z. class_number z.base) e

      old_is : (a : ℕ) (x : ObjectType) → class_type a ≡ type_at x → a ≡ x.class.0
      old_is a x e = ap (λ z. class_number z.base) e

      go : (z : Option ℕ) → site_in (numbers P) o ≡ z → IsSited o c k
      go None e = absurd (let z = (made.free e).0 in cc)
      go (Some s) e =
          let z = made.sited s e in record
          { site = s; is = e; old = old_is c (site_type F s) z.0; new = class_is k (T.type_of (node_of K t s)) (site_type F s) z.1 }

  new_is : (a f n : ℕ) (o : Offers K n (column.Fld f)) → T.type_of n ≡ a → member_field W a (R.field_name f) ≡ Some (new_field K t f)
  new_is a f n o at =
      ap (λ z. member_field W z (R.field_name f)) (sym at) ∙ finds_field K f n o ∙ ap (λ z. Some z) (sym (new_field_is K t f n o))

  -- the body of a method with code
  pub body_is : (g : ℕ) (k : PlainMethod) (xs : Sts) → slice_get W.methods g ≡ Some k → k.body ≡ Some xs → body_of W g ≡ Some (body_with g k xs)
  body_is g k xs e b =
      ap (option_and_then (λ (z : PlainMethod). option_map (λ xs. body_with g z xs) z.body)) e ∙ ap (option_map (λ xs. body_with g k xs)) b

  module _ (new_static : ℕ → ℕ) where
    abbrev Pair : Body → Body → Type 0
    Pair b c = IsCopyOf b c

    abbrev HasField : Operand → ℕ → Type 0
    HasField b f = FieldTied P W F (solved pt) R (has K t) (new_field K t) new_static Made Pair b f

    abbrev At : Operand → Type 0
    At b = ties.IsAt P W F (solved pt) R (has K t) (new_field K t) new_static Made Pair b

    pub field_tied : (b : Operand) (f : ℕ)
        → ((x : AccessInfo) → Contains (accessed (row_at (numbers P) b) ((numbers P).column (column.Fld f))) x → Contains F.accesses.items x) → At b
        → (w : PlainField) → slice_get P.fields f ≡ Some w → w.is_static ≡ false
        → HasField b f
    unfolding numbers
    field_tied b f into here w stands instance =
        let l = field_column P f w stands instance in
        let entry : (r : ℕ) → row_at (numbers P) b ≡ Some r → bit (bits t.rows.items r) l.0 ≡ true = λ r e.
        let x : AccessInfo = record { row = record { 0 = r }; column = record { 0 = l.0 } } in
        access_entry F t B x (into x (subst (λ z. Contains (accessed z ((numbers P).column (column.Fld f))) x) (sym e)
        (subst (λ z. Contains (accessed (Some r) z) x) (sym l.1) (one x)))) in
        record {
          new = λ c hc.
              let a = row_of_class K b.row c hc in
              let o = needed.offers_item K (place_of_row H a.number) l.0 (column.Fld f) l.1
              ((half F pt t A O S B H table none).offered a.number l.0 (entry a.number (row_in_is K b.row c a))) in
              new_is c f (place_of_row H a.number) o a.class;
          had = λ o c j made may.
              let s = sited o c j made in
              let m = met_passing K t pt A O S B table none b o s.site s.is may in
              let y = here m.point m.point_is in
              let has_it = row_has K t pt A O S B table none m.point s.site l.0 y.1 m.held (entry (point_row F m.point) y.0) in
              ap (λ z. option_map_or (λ s. has_in K t s f) z false) s.is
              ∙ ap (λ z. option_map_or (λ c. bit (bits t.rows.items (site_row F s.site)) c) z false) l.1 ∙ has_it;
        }

    abbrev HasCopy : Body → Option Body → Type 0
    HasCopy b q = ties.Paired P W F (solved pt) R (has K t) (new_field K t) new_static Made Pair b q

    -- the copy of a body that stands at a node
    copied : (d : ℕ) (method : PlainMethod) (n : ℕ) (st : StandsAt P F H W T (column.Def d) n) → slice_get P.methods d ≡ Some method → (x : Body)
        → labelled_with P F (solved pt) d method ≡ Some x → (q : Option Body) → q ≡ body_of W (new_body K d n st).0 → HasCopy x q
    copied d method n st e x ex q eq =
        let g = (new_body K d n st).1 in
        let is = body_is (new_body K d n st).0 g.method g.is.code.written g.stands g.is.code.new_code in
        let same : g.is.old ≡ method = same_Some g.is.old method (sym g.is.old_stands ∙ e) in
        record {
          body = body_with (new_body K d n st).0 g.method g.is.code.written;
          found = eq ∙ is;
          pair = record {
            number = d;
            method = method;
            stands = e;
            old_body = ex;
            copy = (new_body K d n st).0;
            new = g.method;
            new_stands = g.stands;
            new_body = is;
            types = subst (λ z. HasTypes R d z g.method) same g.is.types;
            code = subst (λ z. HasCode P W R d z g.method) same g.is.code;
            self = λ i. (g.is.at.node, g.is.at.stands, g.is.at.owner_is);
          };
        }

    module _ (m : ℕ) (k : PlainMethod) (stands : slice_get P.methods m ≡ Some k) where
      abbrev InBody : Part → Type 0
      InBody p = Contains (parts_of P m k) p

      pub access_of : (p : Part) → InBody p → (x : AccessInfo) → Contains (accesses_of (numbers P) p) x → Contains F.accesses.items x
      access_of p c x d = (facts.accesses x).1 (gathered_has P (λ b. accesses_of (numbers P)) x m k p stands c d)

      super_of_part : (p : Part) → InBody p → (x : SuperInfo) → Contains (supers_of (numbers P) m p) x → Contains F.supers.items x
      super_of_part p c x d = (facts.supers x).1 (gathered_has P (λ b. supers_of (numbers P) b.number) x m k p stands c d)

      call_of : (p : Part) → InBody p → (x : Placed PlainCall) → Contains (calls_of (numbers P) p) x
          → (c : CallInfo) × Contains F.calls.items c × (call_seen c ≡ x.item)
      call_of p c x d =
          map_from call_seen F.calls.items x.item (subst (λ z. Contains z x.item) (sym facts.calls)
          (map_has (λ y. y.item) (by_place (λ y. y.place.at) (gathered P (λ b. calls_of (numbers P)))) x
          (place_has (λ y. y.place.at) (gathered P (λ b. calls_of (numbers P))) x (gathered_has P (λ b. calls_of (numbers P)) x m k p stands c d))))

      -- a site at the receiver of a call is called
      listed_call : (p : Part) → InBody p → (x : Placed PlainCall) → Contains (calls_of (numbers P) p) x → (i : ℕ)
          → bit (bits pt.points.items x.item.receiver) i ≡ true → is_called F pt i x.item.slot ≡ true
      listed_call p c x d i held =
          let y = call_of p c x d in
          list_any-from_Any (λ (z : CallInfo). bit (bits pt.points.items z.receiver) i && (z.slot == x.item.slot)) F.calls.items (
            y.1.0,
            y.0,
            y.1.1,
            y.1.2,
            and_from (bit (bits pt.points.items y.0.receiver) i) (y.0.slot == x.item.slot)
                (ap (λ z. bit (bits pt.points.items z) i) (ap (λ z. z.receiver) y.2) ∙ held)
                (eq-eqb y.0.slot x.item.slot (ap (λ z. z.slot) y.2)),
          )

      abbrev a_plain_call : Place → ℕ → List Operand → Option ℕ → ℕ → Placed PlainCall
      a_plain_call w s es o r = record { place = w; item = record { receiver = r; slot = s; args = map (point_at (numbers P)) es; result = o } }

      called_there : (w : Place) (b : Operand) (s : ℕ) (d : Option ℕ) (es : List Operand) (o : Operand) → InBody (a_call w b (Some s) d es o) → (q i : ℕ)
          → point_at (numbers P) b ≡ Some q → bit (bits pt.points.items q) i ≡ true → is_called F pt i s ≡ true
      called_there w b s d es o c q i e held =
          let x = a_plain_call w s es (point_at (numbers P) o) in
          listed_call (a_call w b (Some s) d es o) c (x q)
          (subst (λ z. Contains (option_map_or (λ r. x r ∷ []) z []) (x q)) (sym e) (one (x q))) i held

      -- and so is one of a creation, where its class has a constructor
      made_there : (w : Place) (u : Bool) (o : Operand) (s : ℕ) (d : Option ℕ) (es : List Operand) → InBody (a_creation w u o (Some s) d es) → (q i : ℕ)
          → point_at (numbers P) o ≡ Some q → bit (bits pt.points.items q) i ≡ true → is_called F pt i s ≡ true
      made_there w u o s d es c q i e held =
          let x = a_plain_call w s es None in
          listed_call (a_creation w u o (Some s) d es) c (x q)
          (subst (λ z. Contains (option_map_or (λ r. x r ∷ []) z []) (x q)) (sym e) (one (x q))) i held

      abbrev IsCalledAt : Operand → ℕ → Type 0
      IsCalledAt b s = (q i : ℕ) → point_at (numbers P) b ≡ Some q → bit (bits pt.points.items q) i ≡ true → is_called F pt i s ≡ true

      slot_tied : (b : Operand) (s d : ℕ) → IsCalledAt b s → HasSlot P W R b s d → At b
          → CallTied P W F (solved pt) R (has K t) (new_field K t) new_static Made Pair b s d
      unfolding labelled_body lookup numbers
      slot_tied b s d calls slot here = record {
        bodies = λ i v old new x of hv made ex may.
            let q = slot of v hv in
            let j = q.number in
            let at = sited i old new made in
            let m = met_passing K t pt A O S B table none b i at.site at.is may in
            let row_is = here m.point m.point_is in
            let a = row_of_class K b.row v hv in
            let number_is : point_row F m.point ≡ a.number = same_Some (point_row F m.point) a.number (sym row_is.0 ∙ row_in_is K b.row v a) in
            let le = subst (λ z. is_le H.order (node_of K t at.site) (place_of_row H z) ≡ true) number_is
            (below_row K t pt A O S B table none m.point at.site row_is.1 m.held) in
            let found = then_some (labelled_body P F (solved pt)) (lookup P old s) x ex in
            let body = then_some (labelled_with P F (solved pt) found.0) (slice_get P.methods found.0) x found.2 in
            let f = finds_some P F K.old facts (length P.classes) (site_class F at.site) s found.0 (ap (λ z. lookup P z s) (sym at.old) ∙ found.1) in
            let finds_it : finds F (site_class F at.site) s ≡ Some f.0 = ap (λ z. finds_within F z (site_class F at.site) s) (same_length P F facts) ∙ f.1 in
            let need = and_from (is_called F pt at.site s) (is_slot (finds F (site_class F at.site) s) f.0)
            (calls m.point at.site m.point_is m.held) (ap (λ z. is_slot z f.0) finds_it ∙ eq-eqb f.0 f.0 refl) in
            let ran = needed_body K pt t A O S B table none at.site s f.0 found.0 need f.2 (place_of_row H a.number) d j le of
            (ap (λ z. slot_of W z (R.method_name d)) a.class ∙ q.found) in
            let offers = need_offers K pt t A O S B table none at.site s f.0 found.0 need f.2 in
            record {
              slot = j;
              found = q.found;
              runs = copied found.0 body.0 offers.node offers.stands body.1 x body.2 (option_and_then (body_of W) (lookup W new j))
                  (ap (λ z. option_and_then (body_of W) (lookup W z j)) at.new ∙ ap (λ z. option_and_then (body_of W) z) ran);
            };
      }

      pub call_tied : (w : Place) (b : Operand) (s d : ℕ) (es : List Operand) (o : Operand) → InBody (a_call w b (Some s) (Some d) es o)
          → HasSlot P W R b s d → At b → CallTied P W F (solved pt) R (has K t) (new_field K t) new_static Made Pair b s d
      call_tied w b s d es o c slot here = slot_tied b s d (called_there w b s (Some d) es o c) slot here

      pub maker_tied : (w : Place) (u : Bool) (o : Operand) (s d : ℕ) (es : List Operand) → InBody (a_creation w u o (Some s) (Some d) es)
          → HasSlot P W R o s d → At o → CallTied P W F (solved pt) R (has K t) (new_field K t) new_static Made Pair o s d
      maker_tied w u o s d es c slot here = slot_tied o s d (made_there w u o s (Some d) es c) slot here

      pub super_tied : (w : Place) (d : ℕ) (es : List Operand) (o : Operand) → InBody (a_super_call w (Some d) es o) → (c : ℕ) (x : Body)
          → R.row_type (row.This m) ≡ Some c → ((f : PlainMethod) → slice_get P.methods d ≡ Some f → f.is_static ≡ false)
          → labelled_body P F (solved pt) d ≡ Some x → HasCopy x (option_and_then (body_of W) (super_method W c (R.method_name d)))
      unfolding labelled_body numbers
      super_tied w d es o i c x self instance ex =
          let a = row_of_class K (Some (row.This m)) c self in
          let body = then_some (labelled_with P F (solved pt) d) (slice_get P.methods d) x ex in
          let code = mapped_some _ body.0.body x body.2 in
          let l = body_column P d body.0 body.1 (instance body.0 body.1) (ap is_some code.1) in
          let z : SuperInfo = record { row = record { 0 = a.number }; column = record { 0 = l.0 } } in
          let is = subst (λ v. Contains (both v ((numbers P).column (column.Def d)) (λ a b. record { row = record { 0 = a }; column = record { 0 = b } })) z)
          (sym (row_in_is K (Some (row.This m)) c a))
          (subst (λ v. Contains (both (Some a.number) v (λ a b. record { row = record { 0 = a }; column = record { 0 = b } })) z) (sym l.1) (one z)) in
          let listed = super_of_part (a_super_call w (Some d) es o) i z is in
          let run : is_super F a.number l.0 ≡ true = list_any-from_Any (λ (v : SuperInfo). is_pair v.row.0 v.column.0 a.number l.0) F.supers.items
          (listed.0, z, listed.1, listed.2, and_from (a.number == a.number) (l.0 == l.0) (eq-eqb a.number a.number refl) (eq-eqb l.0 l.0 refl)) in
          let offers = super_offers K pt t A O S B table none a.number l.0 d run l.1 in
          let found = super_body K pt t A O S B table none a.number l.0 d run l.1 in
          copied d body.0 offers.node offers.stands body.1 x body.2 (option_and_then (body_of W) (super_method W c (R.method_name d)))
          (ap (λ v. option_and_then (body_of W) (super_method W v (R.method_name d))) (sym a.class) ∙ ap (λ v. option_and_then (body_of W) v) found)
