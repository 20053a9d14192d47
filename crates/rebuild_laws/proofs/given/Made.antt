-- The creation at a site where objects are made: its part in a body, its row, and the constructor of its class.
use Rattle.std.proofs.Common.{◌≡◌, ℕ, List, [], ◌∷◌, Some, refl, sym, ap, ◌∙◌, subst, arith}
use Rattle.std.specs.Prelude.{◌==◌, Bool, true, Contains, slice_get}
use Rattle.std.proofs.lemmas.Bool.{eqb-true}
use Rattle.std.proofs.lemmas.Option.{same_Some}
use Rattle.kaba_base.specs.declared.Place.{Place}
use Rattle.java_core.specs.declared.Ty.{Ty}
use Rattle.java_core.specs.declared.TyBase.{TyBase}
use Rattle.java_core.specs.declared.TyBase.TheVariants.{Class}
use Rattle.java_core.specs.Trees.{Tag, Ex, Exs, own_field, field, index, call, static_call, super_call, create, create_array, cast, instance_of, binary, Target, no_target}
use Rattle.java_core.specs.Programs.{Plain, PlainMethod}
use Rattle.java_core.specs.Makers.{maker_of, maker_slot}
use Rattle.java_core.specs.Typing.{IsTyped}
use Rattle.java_core.specs.Formed.{IsFormed, FormedEx, f_create_array}
use Rattle.flow_rules.specs.declared.items.ObjectType.{ObjectType}
use Rattle.flow_rules.specs.declared.items.Operand.{Operand}
use Rattle.flow_rules.specs.declared.items.RowItem.TheVariants as row
use Rattle.flow_rules.specs.declared.items.Site.{Site}
use Rattle.flow_rules.specs.Operands.{object_in, operand_of, type_in}
use Rattle.flow_rules.specs.Parts.{Part, a_creation, parts_of}
use Rattle.flow_rules.specs.Numbered.{sites_of}
use Rattle.flow_rules.proofs.Listed.{one_from}
use Rattle.flow_laws.proofs.cover.Forms.{own, own_assign, From, from_ex, from_assign, from_declare, from_return, part_from}
use Rattle.flow_laws.proofs.order.Sites.{site_part}

-- a type has as many brackets as what it is of
as_deep : (b : TyBase) (d : ℕ) (t : ObjectType) → object_in b d ≡ Some t → t.dim ≡ d
as_deep (Class c) d t e = sym (ap (λ z. z.dim) (same_Some _ t e))
as_deep _ d t e = absurd (cc)

module _ (P : Plain) (m : ℕ) (k : PlainMethod) where
  -- the part of a creation of an object has the constructor of its class
  abbrev HasItsMaker : Part → Type 0
  HasItsMaker (a_creation w u o s d es) =
      (t : ObjectType) → o.ty ≡ Some t → t.dim ≡ 0 → (s ≡ maker_slot P t.class.0) × (d ≡ maker_of P t.class.0)
  HasItsMaker _ = Unit {0}

  is : (q p : Part) → Contains (q ∷ []) p → HasItsMaker q → HasItsMaker p
  is q p c h = subst (λ z. HasItsMaker z) (one_from q p c) h

  new_type : (t : Tag) (n c : ℕ) (es : Exs)
      → (operand_of P (type_in P m k) m k (create t n c es)).ty ≡ Some (record { class = record { 0 = c }; dim = 0 })
  unfolding type_in
  new_type t n c es = refl

  array_type : (t : Tag) (n : ℕ) (v : Ty) (e : Ex) → (operand_of P (type_in P m k) m k (create_array t n v e)).ty ≡ object_in v.base v.dim
  unfolding type_in
  array_type t n v e = refl

  of_expression : (u : Bool) (e : Ex) {scope : List ℕ} (p : Part) → FormedEx P k scope e → Contains (own P m k u e) p → HasItsMaker p
  of_expression u (create t n c es) p f i = is _ p i (λ y h dim.
      let same : c ≡ y.class.0 = ap (λ z. z.class.0) (same_Some _ y (sym (new_type t n c es) ∙ h)) in
      (ap (maker_slot P) same, ap (maker_of P) same))
  of_expression u (create_array t n v e) p (f_create_array known deep f) i =
      is _ p i (λ y h dim. absurd (omega (arith, deep, dim, as_deep v.base v.dim y (sym (array_type t n v e) ∙ h))))
  of_expression u (own_field t f) p g i = is _ p i tt
  of_expression u (field t e x) p f i = is _ p i tt
  of_expression u (index t e j) p f i = is _ p i tt
  of_expression u (call t e x es) p f i = is _ p i tt
  of_expression u (static_call t d es) p f i = is _ p i tt
  of_expression u (super_call t x es) p f i = is _ p i tt
  of_expression u (cast t n v e) p f i = is _ p i tt
  of_expression u (instance_of t n e d) p f i = is _ p i tt
  of_expression u (binary t o e d) p f i = is _ p i tt
  of_expression u e p f i = absurd (omega (arith, i.1))

  of_assignment : (w : Place) (t : Target) (e : Ex) (p : Part) → Contains (own_assign P m k w t e) p → HasItsMaker p
  of_assignment w no_target e p i = is _ p i tt
  of_assignment w t e p i = is _ p i tt

  of_part : (p : Part) → From P m k p → HasItsMaker p
  of_part p (from_ex u e a f w i) = of_expression u e p f i
  of_part p (from_assign t b e x a f d w i) = of_assignment t.place b e p i
  of_part p (from_declare t i e a f w c) = is _ p c tt
  of_part p (from_return e a r f w i) = is _ p i tt

-- the creation of an object at a site
module _ (P : Plain) where
  pub record IsMadePart (x : Site) : Type 0 where
    pub number : ℕ
    pub method : PlainMethod
    pub stands : slice_get P.methods number ≡ Some method
    pub place : Place
    pub used : Bool
    pub operand : Operand
    pub arguments : List Operand
    pub part : Contains (parts_of P number method)
        (a_creation place used operand (maker_slot P x.ty.class.0) (maker_of P x.ty.class.0) arguments)
    pub created : operand.created ≡ Some x.number
    pub type : operand.ty ≡ Some x.ty
    pub row_is : operand.row ≡ Some (row.New x.number)

module _ (P : Plain) (formed : IsFormed P) (typed : IsTyped P) where
  pub made_part : (s : ℕ) (x : Site) → slice_get (sites_of P) s ≡ Some x → (x.ty.dim == 0) ≡ true → IsMadePart P x
  made_part s x e object =
      let z = site_part P formed typed s x e in
      let c = z.of in
      let a = c.is_part in
      let maker = of_part P a.number a.method (a_creation c.place c.used c.operand c.slot c.declaration c.arguments)
      (part_from P formed typed a.number a.method a.stands (a_creation c.place c.used c.operand c.slot c.declaration c.arguments) a.part) x.ty c.type
      (eqb-true x.ty.dim 0 object) in
      record {
        number = a.number;
        method = a.method;
        stands = a.stands;
        place = c.place;
        used = c.used;
        operand = c.operand;
        arguments = c.arguments;
        part = subst (λ z. Contains (parts_of P a.number a.method) (a_creation c.place c.used c.operand z (maker_of P x.ty.class.0) c.arguments)) maker.0
            (subst (λ z. Contains (parts_of P a.number a.method) (a_creation c.place c.used c.operand c.slot z c.arguments)) maker.1 a.part);
        created = c.created;
        type = c.type;
        row_is = z.row_is;
      }
