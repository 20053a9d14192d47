-- The rows and points of a typed body's expressions: where a value has a type of a row, it has the row, and a point where it is used.
use Rattle.std.proofs.Common.{◌≡◌, ℕ, zero, suc, List, [], ◌∷◌, ◌++◌, Option, Some, None, length, refl, sym, ap, ◌∙◌, subst}
use Rattle.std.specs.Prelude.{◌<◌, ◌==◌, ◌&&◌, not, get_or, if◌then◌else◌, Bool, true, false, slice_get, Contains, ◌||◌}
use Rattle.std.specs.Option.{option_map, option_and_then, is_some}
use Rattle.std.specs.Str.{bytes_eq}
use Rattle.std.proofs.lemmas.Option.{same_Some, slice_get_within, get_or_from_slice_get}
use Rattle.std.proofs.lemmas.List.Quantifiers.{position-Some}
use Rattle.kaba_base.specs.declared.Place.{Place}
use Rattle.java_core.specs.declared.Ty.{Ty}
use Rattle.java_core.specs.declared.TyBase.TheVariants.{Int}
use Rattle.std.proofs.lemmas.Bool.{false≢true}
use Rattle.java_core.specs.Trees.{Tag, Ex, Exs, no_ex, ex_then, this, local, static_field, own_field, field, index, call, static_call, super_call, create, create_array, cast, unary, binary}
use Rattle.java_core.specs.Programs.{Plain, PlainMethod, PlainLocal}
use Rattle.java_core.specs.Classes.{super_method, nearest_of, parent_of, own_method, is_method_of, member_field, slot_of, slot_of_method}
use Rattle.java_core.specs.Types.{Static, or_nothing, types_of, plain_type, is_length, class_of, element_of, length_or, field_type, field_in, access_type, Signature, signature_of_method, call_signature, super_signature, result_of, static}
use Rattle.java_core.specs.Typing.{TypedArgs, t_index, t_call, t_static_call, t_super_call, t_ex_then}
use Rattle.java_core.specs.Formed.{IsFormed, IsStaticMethod, f_this, f_index, f_static_call}
use Rattle.fact_model.specs.declared.facts.Facts.{Facts}
use Rattle.flow_rules.specs.declared.items.ObjectType.{ObjectType}
use Rattle.flow_rules.specs.declared.items.Operand.{Operand}
use Rattle.flow_rules.specs.declared.items.RowItem.{RowItem}
use Rattle.flow_rules.specs.declared.items.RowItem.TheVariants as row
use Rattle.flow_rules.specs.declared.items.PointItem.{PointItem}
use Rattle.flow_rules.specs.declared.items.Row.{Row}
use Rattle.flow_rules.specs.declared.items.PointAt.{PointAt}
use Rattle.flow_rules.specs.declared.items.Site.{Site}
use Rattle.flow_rules.specs.Operands.{object_of, object_if, object_static, object_field, call_slot, super_slot, result_in, row_of, operands_of, type_in}
use Rattle.flow_rules.specs.Types.{field_object, variable_object}
use Rattle.flow_rules.specs.Parts.{Part, a_creation, a_test, parts_of}
use Rattle.flow_rules.specs.Lists.{point_in}
use Rattle.flow_rules.specs.Numbered.{form_rows, own_row, number_if, site_if, point_of_form, form_points, row_number, point_number}
use Rattle.flow_rules.specs.Facts.{numbers, IsFactsOf}
use Rattle.flow_laws.specs.cover.Slotted.{HaveSlots}
use Rattle.flow_laws.proofs.cover.Kinded.{site_type, IsPoint, IsCreation}
use Rattle.flow_rules.proofs.Listed.{one, when_has, at_left}
use Rattle.std.proofs.lemmas.Option.{slice_get-map}
use Rattle.flow_rules.proofs.TypeLemmas.{object_or, class_is, unary_none, binary_none}
use Rattle.flow_laws.proofs.cover.Unique.{creation_type}
use Rattle.java_meaning.proofs.Moves.{then_some}
use Rattle.java_meaning.proofs.Calls.{mapped_some}
use Rattle.flow_laws.proofs.cover.HasNumbers.{this_row, form_row, site_there, form_point, own_listed}
use Rattle.flow_laws.proofs.cover.HasRows.{field_row_of, in_slot, return_row, result_row_of, variable_row_of}
use Rattle.flow_laws.proofs.cover.Types.{fits_object, of_element, class_apart, object_called}
use Rattle.flow_laws.proofs.cover.Found.{nearest_some}
use Rattle.flow_laws.proofs.cover.Walked.{walked}
use Rattle.flow_laws.proofs.cover.Each.{left, here}
use Rattle.java_core.specs.Makers.{maker_of, maker_slot}

-- a body of a formed program, with the facts of the program
pub record TypedBody : Type 0 where
  pub program : Plain
  pub facts : Facts
  pub formed : IsFormed program
  pub slots : HaveSlots program
  pub are_facts : IsFactsOf program facts
  pub number : ℕ
  pub method : PlainMethod
  pub stands : slice_get program.methods number ≡ Some method
  pub bodied : is_some method.body ≡ true

module _ (B : TypedBody) where
  open B use {program as P, facts as F, formed, slots, number as m, method as k, stands, bodied as body}
  open walked P m k use {env as g, type as T, operand as O, Stands, IsTyped, IsFormed as IsFormedEx, tree}

  -- types
  pub typed_of : (e : Ex) (t : ObjectType) → T e ≡ Some t → object_static (static P g e) ≡ Some t
  unfolding type_in
  typed_of e t h = h

  pub of_typed : (e : Ex) (t : ObjectType) → object_static (static P g e) ≡ Some t → T e ≡ Some t
  unfolding type_in
  of_typed e t h = h

  pub local_type : (t : Tag) (i : ℕ) → T (local t i) ≡ variable_object k i
  unfolding type_in
  local_type t i = object_or (slice_get (types_of (k.params ++ k.locals)) i) ∙ ap (λ z. object_if z) (slice_get-map (λ l. l.ty) (k.params ++ k.locals) i)

  pub static_type : (t : Tag) (f : ℕ) → T (static_field t f) ≡ field_object P f
  unfolding type_in
  static_type t f = object_or (field_type P f)

  pub own_type : (t : Tag) (f : ℕ) → T (own_field t f) ≡ field_object P f
  unfolding type_in
  own_type t f = object_or (field_type P f)

  pub field_found : (e : Ex) (x : List ℕ) → object_field P (T e) x ≡ field_in P (static P g e) x
  unfolding type_in field_in
  field_found e x = ap (λ z. option_and_then (λ c. member_field P c x) z) (class_is (static P g e))

  pub field_class : (s : Static) (x : List ℕ) (f : ℕ) → field_in P s x ≡ Some f → (c : ℕ) × (class_of s ≡ Some c)
  unfolding field_in
  field_class s x f e = let z = then_some (λ c. member_field P c x) (class_of s) f e in (z.0, z.1)

  pub access_of : (s : Static) (x : List ℕ) (f : ℕ) → field_in P s x ≡ Some f → access_type P s x ≡ field_type P f
  unfolding access_type
  access_of s x f e =
      let c = field_class s x f e in
      ap (λ z. length_or z (option_and_then (field_type P) (field_in P s x)) x) (class_apart s c.0 c.1).0 ∙ ap (λ z. option_and_then (field_type P) z) e

  pub access_object : (t : Tag) (e : Ex) (x : List ℕ) (f : ℕ) → object_field P (T e) x ≡ Some f → T (field t e x) ≡ field_object P f
  unfolding type_in
  access_object t e x f h = ap (λ z. object_static (or_nothing z)) (access_of (static P g e) x f (sym (field_found e x) ∙ h)) ∙ object_or (field_type P f)

  accessed : (s : Static) (x : List ℕ) (t : ObjectType) → object_static (or_nothing (access_type P s x)) ≡ Some t → (f : ℕ) × (field_in P s x ≡ Some f)
  unfolding access_type
  accessed s x t h = go (element_of s) refl
    where
      no_int : (b : Bool) → object_static (or_nothing (if b then Some (plain_type Int) else None)) ≡ Some t → ⊥
      no_int true e = cc
      no_int false e = cc

      some_field : (o : Option ℕ) → object_static (or_nothing (option_and_then (field_type P) o)) ≡ Some t → (f : ℕ) × (o ≡ Some f)
      some_field None e = absurd (cc)
      some_field (Some f) e = (f, refl)

      go : (z : Option Ty) → element_of s ≡ z → (f : ℕ) × (field_in P s x ≡ Some f)
      go None e = some_field (field_in P s x) (ap (λ w. object_static (or_nothing (length_or w (option_and_then (field_type P) (field_in P s x)) x)))
          (sym e) ∙ h)
      go (Some u) e = absurd (no_int (is_length x)
          (ap (λ w. object_static (or_nothing (length_or w (option_and_then (field_type P) (field_in P s x)) x))) (sym e) ∙ h))

  pub slot_found : (e : Ex) (x : List ℕ) → call_slot P (T e) x ≡ option_and_then (λ c. slot_of P c x) (class_of (static P g e))
  unfolding type_in
  slot_found e x = ap (λ z. option_and_then (λ c. slot_of P c x) z) (class_is (static P g e))

  pub call_type : (t : Tag) (e : Ex) (x : List ℕ) (es : Exs) (sig : Signature) → call_signature P (static P g e) x ≡ Some sig
      → T (call t e x es) ≡ object_if sig.result
  unfolding type_in
  call_type t e x es sig h = ap (λ z. object_static (result_of z)) h ∙ object_or sig.result

  pub static_call_type : (t : Tag) (d : ℕ) (es : Exs) (sig : Signature) → signature_of_method P d ≡ Some sig → T (static_call t d es) ≡ object_if sig.result
  unfolding type_in
  static_call_type t d es sig h = ap (λ z. object_static (result_of z)) h ∙ object_or sig.result

  pub super_call_type : (t : Tag) (x : List ℕ) (es : Exs) (sig : Signature) → super_signature P k.owner x ≡ Some sig
      → T (super_call t x es) ≡ object_if sig.result
  unfolding type_in
  super_call_type t x es sig h = ap (λ z. object_static (result_of z)) h ∙ object_or sig.result

  pub super_sig : (x : List ℕ) (c : ℕ) → super_method P k.owner x ≡ Some c → super_signature P k.owner x ≡ signature_of_method P c
  unfolding super_signature
  super_sig x c h = ap (λ z. option_and_then (signature_of_method P) z) h

  pub index_type : (t : Tag) (e i : Ex) → T (index t e i) ≡ object_static (or_nothing (element_of (static P g e)))
  unfolding type_in
  index_type t e i = refl

  -- the method of a signature
  pub method_sig : (c : ℕ) (sig : Signature) → signature_of_method P c ≡ Some sig → (h : PlainMethod) × (slice_get P.methods c ≡ Some h)
      × (sig.params ≡ types_of h.params) × (sig.result ≡ h.result)
  method_sig c sig e =
      let z = mapped_some (λ (k : PlainMethod). record { params = types_of k.params; result = k.result }) (slice_get P.methods c) sig e in
      (z.0, z.1, sym (ap (λ w. w.params) z.2), sym (ap (λ w. w.result) z.2))

  -- a form's own row
  pub own_row_there : (p : Part) (q : Place) (i : RowItem) (o : Option ObjectType) (t : ObjectType) → Contains (parts_of P m k) p
      → ((x : Row) → Contains (own_row q (Some i) o) x → Contains (form_rows p) x) → o ≡ Some t → (r : ℕ) × (row_number P i ≡ Some r)
  own_row_there p q i o t c h e =
      let x : Row = record { item = i; place = q; ty = t } in
      form_row P m k stands p c x (h x (subst (λ z. Contains (own_row q (Some i) z) x) (sym e) (one x)))

  none_typed : {A : Type 0} (e : Ex) (t : ObjectType) → object_static (static P g e) ≡ None → T e ≡ Some t → A
  unfolding type_in
  none_typed e t h d = absurd (let z = sym h ∙ d in cc)

  field_listed : (t : Tag) (e : Ex) (x : List ℕ) (o : ObjectType) → T (field t e x) ≡ Some o
      → (r : ℕ) × (number_if (row_number P) (option_map row.Field (object_field P (T e) x)) ≡ Some r)
  unfolding type_in
  field_listed t e x o h =
      let f = accessed (static P g e) x o h in
      let found = field_found e x ∙ f.1 in
      let r = field_row_of P formed f.0 o (sym (access_object t e x f.0 found) ∙ h) in
      (r.0, ap (λ z. number_if (row_number P) (option_map row.Field z)) found ∙ r.1)

  pub static_slot : (d : ℕ) (h : PlainMethod) → slice_get P.methods d ≡ Some h → h.is_static ≡ true → h.slot ≡ None
  static_slot d h e s = go h.slot refl
    where
      go : (z : Option ℕ) → h.slot ≡ z → h.slot ≡ None
      go None w = w
      go (Some j) w = absurd (let i = in_slot P formed d h e j w in false≢true (sym i.instance ∙ s))

  pub static_listed : (t : Tag) (d : ℕ) (es : Exs) (sig : Signature) (o : ObjectType) → signature_of_method P d ≡ Some sig → IsStaticMethod P d
      → T (static_call t d es) ≡ Some o → (r : ℕ) × (row_number P (row.Result d) ≡ Some r)
  static_listed t d es sig o e s h =
      let f = method_sig d sig e in
      let same : s.member ≡ f.0 = same_Some s.member f.0 (sym s.stands ∙ f.1) in
      let none = static_slot d f.0 f.1 (ap (λ z. z.is_static) (sym same) ∙ s.kind) in
      let r = result_row_of P formed d f.0 o f.1 (ap (λ z. object_if z) (sym f.3) ∙ sym (static_call_type t d es sig e) ∙ h) in
      (r.0, subst (λ z. row_number P (result_in z d) ≡ Some r.0) none r.1)

  no_static : (c : ℕ) (x : List ℕ) (h : PlainMethod) → is_method_of c x h ≡ true → h.is_static ≡ false
  no_static c x h e = go (h.owner == c) h.is_static refl e
    where
      go : (a b : Bool) → h.is_static ≡ b → (a && (not b && bytes_eq h.name x)) ≡ true → h.is_static ≡ false
      go true true eb w = absurd (false≢true w)
      go true false eb w = eb
      go false b eb w = absurd (false≢true w)

  pub super_instance : (c : ℕ) (x : List ℕ) (d : ℕ) → super_method P c x ≡ Some d → (h : PlainMethod) → slice_get P.methods d ≡ Some h → h.is_static ≡ false
  unfolding super_method
  super_instance c x d e h eh =
      let b = then_some (λ p. nearest_of P (λ k. own_method P k x) p.0) (parent_of P c) d e in
      let f = nearest_some P (λ k. own_method P k x) (length P.classes) b.0.0 d b.2 in
      let at = position-Some (λ m. is_method_of f.0 x m) P.methods d h f.1 in
      let same : get_or P.methods d h ≡ h = get_or_from_slice_get P.methods d h h eh in
      no_static f.0 x h (subst (λ z. is_method_of f.0 x z ≡ true) same at.1)

  pub super_listed : (t : Tag) (x : List ℕ) (es : Exs) (c : ℕ) (sig : Signature) (o : ObjectType) → super_method P k.owner x ≡ Some c
      → super_signature P k.owner x ≡ Some sig → T (super_call t x es) ≡ Some o
      → (r : ℕ) × (number_if (row_number P) (option_map row.Return (super_slot P k.owner x)) ≡ Some r)
  unfolding HaveSlots
  super_listed t x es c sig o found e h =
      let f = method_sig c sig (sym (super_sig x c found) ∙ e) in
      let slot = slots c f.0 f.1 (super_instance k.owner x c found f.0 f.1) in
      let r = result_row_of P formed c f.0 o f.1 (ap (λ z. object_if z) (sym f.3) ∙ sym (super_call_type t x es sig e) ∙ h) in (
        r.0,
        ap (λ z. number_if (row_number P) (option_map row.Return (option_and_then (slot_of_method P) z))) found
            ∙ ap (λ z. number_if (row_number P) (option_map row.Return (option_and_then (λ (k : PlainMethod). k.slot) z)))
            f.1
            ∙ ap (λ z. number_if (row_number P) (option_map row.Return z)) slot.1 ∙ subst (λ z. row_number P (result_in z c) ≡ Some r.0) slot.1 r.1,
      )

  -- the row of an expression of a type of a row
  pub row_listed : (u : Bool) (scope : List ℕ) (e : Ex) → IsTyped e → IsFormedEx scope e → Stands (tree u e) → (t : ObjectType) → T e ≡ Some t
      → (r : ℕ) × (number_if (row_number P) (row_of P (type_in P m k) m k e) ≡ Some r)
  row_listed u sc (this t) ty (f_this s) st o h = this_row P m k stands body s
  row_listed u sc (local t i) ty fo st o h = variable_row_of P formed m k i o stands (sym (local_type t i) ∙ h)
  row_listed u sc (static_field t f) ty fo st o h = field_row_of P formed f o (sym (static_type t f) ∙ h)
  row_listed u sc (own_field t f) ty fo st o h = field_row_of P formed f o (sym (own_type t f) ∙ h)
  row_listed u sc (field t e x) ty fo st o h = field_listed t e x o h
  row_listed u sc (index t e i) (t_index te some ti num) (f_index fe fi) st o h =
      let s = of_element (static P g e) o (sym (index_type t e i) ∙ h) in
      row_listed true sc e te fe (left (tree true e) _ st) s.0 (of_typed e s.0 s.1)
  row_listed u sc (call t e x es) (t_call te sig args) fo st o h =
      let c = object_called P (static P g e) x _ o sig (sym (call_type t e x es _ sig) ∙ h) in
      let r = return_row P formed c.number c.slot o c.stands (ap (λ z. object_if z) (sym c.result) ∙ sym (call_type t e x es _ sig) ∙ h) in
      (r.0, ap (λ z. number_if (row_number P) (option_map row.Return z)) (slot_found e x ∙ c.found) ∙ r.1)
  row_listed u sc (static_call t d es) (t_static_call sig args) (f_static_call s fes) st o h = static_listed t d es _ o sig s h
  row_listed u sc (super_call t x es) (t_super_call found has sig args) fo st o h = super_listed t x es _ _ o found sig h
  row_listed u sc (create t n c es) ty fo st o h = own_row_there (a_creation t.place (u || is_some (maker_of P c)) (O (create t n c es)) (maker_slot P c)
      (maker_of P c) (operands_of P (type_in P m k) m k es)) t.place (row.New n)
      (T (create t n c es)) o (here _ _ st) (λ x d. d) h
  row_listed u sc (create_array t n v e) ty fo st o h = own_row_there (a_creation t.place u (O (create_array t n v e)) None None []) t.place (row.New n)
      (T (create_array t n v e)) o (here _ _ st) (λ x d. d) h
  row_listed u sc (cast t n v e) ty fo st o h = own_row_there (a_test t.place (O e) (O (cast t n v e))) t.place (row.Cast n) (T (cast t n v e)) o
      (here _ _ st) (λ x d. d) h
  row_listed u sc (unary t p e) ty fo st o h = none_typed (unary t p e) o (unary_none p) h
  row_listed u sc (binary t p e d) ty fo st o h = none_typed (binary t p e d) o (binary_none p (static P g e) (static P g d)) h
  row_listed u sc e ty fo st o h = none_typed e o refl h

  -- arguments and parameters
  pub args_typed : (es : Exs) (us : List Ty) → TypedArgs P g es us → (i : ℕ) (a : Operand) (t : ObjectType)
      → slice_get (operands_of P (type_in P m k) m k es) i ≡ Some a → a.ty ≡ Some t → (u : Ty) × (slice_get us i ≡ Some u)
      × ((r : ObjectType) × (object_of u ≡ Some r))
  args_typed no_ex us ty i a t e h = absurd (cc)
  args_typed (ex_then e es) [] ty i a t ea h = elim ty [ ]
  args_typed (ex_then e es) (u ∷ us) (t_ex_then te fit tes) zero a t ea h =
      (u, refl, fits_object P (static P g e) u t fit (typed_of e t (ap (λ z. z.ty) (same_Some (O e) a ea) ∙ h)))
  args_typed (ex_then e es) (u ∷ us) (t_ex_then te fit tes) (suc i) a t ea h = args_typed es us tes i a t ea h

  pub param_typed : (h : PlainMethod) (i : ℕ) (u : Ty) (r : ObjectType) → slice_get (types_of h.params) i ≡ Some u → object_of u ≡ Some r
      → (w : ObjectType) × (variable_object h i ≡ Some w) × (i < length h.params)
  param_typed h i u r e o =
      let v = mapped_some (λ (v : PlainLocal). v.ty) (slice_get h.params i) u (sym (slice_get-map (λ v. v.ty) h.params i) ∙ e) in (
        r,
        ap (λ z. object_if (option_map (λ v. v.ty) z)) (at_left h.params h.locals i v.0 v.1) ∙ ap (λ z. object_of z) v.2
            ∙ o,
        slice_get_within h.params i v.0 v.1,
      )

  -- points
  pub is_point : (p : Part) (q : Place) (o : Operand) (i : PointItem) (t : ObjectType) → Contains (parts_of P m k) p
      → ((x : PointAt) → Contains (point_of_form q o) x → Contains (form_points p) x) → o.point ≡ Some i → o.ty ≡ Some t
      → (r : ℕ) × (number_if (row_number P) o.row ≡ Some r) → IsPoint P F o
  unfolding numbers
  is_point p q o i t c h ei et er =
      let x = own_listed P q o i t er.0 ei et er.1 in
      let n = form_point P m k stands body p c x.0 (h x.0 x.1) er.0 x.3 in
      record { type = t; typed = et; number = n.0; point = ap (λ z. point_in (numbers P) z) ei ∙ ap (λ z. point_number P z) (sym x.2) ∙ n.1 }

  pub is_creation : (q : Place) (u : Bool) (o : Operand) (a d : Option ℕ) (es : List Operand) (n : ℕ) (i : PointItem)
      → Contains (parts_of P m k) (a_creation q u o a d es) → o.created ≡ Some n → o.row ≡ Some (row.New n) → o.point ≡ Some i → IsCreation P F u o
  unfolding numbers
  is_creation q u o a d args n i c ec er ep =
      let listed : (t : ObjectType) → o.ty ≡ Some t → (r : ℕ) × (number_if (row_number P) o.row ≡ Some r) = λ t et.
      let r = own_row_there (a_creation q u o a d args) q (row.New n) o.ty t c (λ x d. subst (λ z. Contains (own_row q z o.ty) x) (sym er) d) et in
      (r.0, ap (λ z. number_if (row_number P) z) er ∙ r.1) in
      record {
        sited = λ j t ej et.
            let r = listed t et in
            let x : Site = record { number = j; place = q; ty = t; row = r.0 } in
            site_there P m k stands (a_creation q u o a d args) c x (subst (λ z. Contains (site_if q z o.ty (number_if (row_number P) o.row)) x) (sym ej)
            (subst (λ z. Contains (site_if q (Some j) z (number_if (row_number P) o.row)) x) (sym et)
            (subst (λ z. Contains (site_if q (Some j) (Some t) z) x) (sym r.1) (one x))));
        typed = λ j s ej es. creation_type P F formed B.are_facts m k stands q u o a d args j s c ej es;
        point = λ eu j s ej es.
            let et = creation_type P F formed B.are_facts m k stands q u o a d args j s c ej es in
            let w = is_point (a_creation q u o a d args) q o i (site_type F s) c (λ x d. when_has u _ x eu d) ep et (listed (site_type F s) et) in
            (w.number, w.point);
      }
