-- What is found in a program by names is, in a program that is one with it, what is found by the same names.
use Rattle.std.proofs.Common.{◌≡◌, ℕ, zero, suc, List, [], ◌∷◌, ◌++◌, Option, Some, None, length, refl, sym, ap, ap₂, ◌∙◌, subst, ⊎_elim}
use Rattle.std.specs.Prelude.{◌==◌, ◌&&◌, ◌||◌, Bool, true, false, not, map, slice_get}
use Rattle.std.specs.Option.{is_some, option_map, option_map_or, option_and_then}
use Rattle.std.specs.List.{flat_map}
use Rattle.std.specs.Str.{bytes_eq}
use Rattle.std.proofs.lemmas.Bool.{and_parts, eqb-true, eq-eqb, ne_eqb, cases_eq}
use Rattle.std.proofs.lemmas.Option.{same_Some, slice_get-map}
use Rattle.std.proofs.lemmas.Slice.Eq.{bytes_eq-Decides}
use Rattle.kaba_base.specs.declared.ClassId.{ClassId}
use Rattle.java_core.specs.declared.Ty.{Ty}
use Rattle.java_core.specs.declared.TyBase.{TyBase}
use Rattle.java_core.specs.declared.TyBase.TheVariants.{Class}
use Rattle.java_core.specs.Trees.{Sts}
use Rattle.java_core.specs.Programs.{Plain, PlainClass, PlainField, PlainMethod, PlainLocal, PlainSlot}
use Rattle.java_core.specs.Classes.{parent_of, faces_of, supers_of, reaches, below, nearest, nearest_of, is_field_of, own_field_of, field_of, is_static_field, if_instance, when_instance, member_field, is_method_of, own_method, faces_above, chain, search_order, declaration_of, slot_of_method, slot_of, is_slot, has_slot, own_body, lookup, super_method}
use Rattle.java_core.specs.Types.{types_of}
use Rattle.java_core.specs.Formed.{HasNoTwice, IsInSlot, IsFormed}
use Rattle.java_core.proofs.SearchOrder.{slot_is}
use Rattle.java_meaning.proofs.Calls.{mapped_some}
use Rattle.rebuild_model.specs.OneBodies.{IsOneClass, IsOneBase, one_int, one_boolean, one_char, one_string, one_class, IsOneType, IsOneField, IsOneMethod, OneSts}
use Rattle.rebuild_model.specs.OnePrograms.{AreRelated, none_related, one_related, BothRelated, neither, both, IsOneClassAs, IsOneFieldAs, IsOneVariable, IsOneMethodAs, AreOne}
use Rattle.rebuild_laws.proofs.one.Related.{append_related, listed_related, any_related, then_both, mapped_related, flat_related, first_both, found_both, position_both}

-- two formed programs that are one
pub record Ones : Type 0 where
  pub first : Plain
  pub second : Plain
  pub formed : IsFormed first
  pub formed_second : IsFormed second
  pub one : AreOne first second

-- a name that no two items of a list have
once : {A : Type 0} (name : A → List ℕ) (xs : List A) → HasNoTwice (map name xs) → (i j : ℕ) (x : List ℕ) → option_map name (slice_get xs i) ≡ Some x
    → option_map name (slice_get xs j) ≡ Some x → i ≡ j
unfolding HasNoTwice
once name xs h i j x e d = h i j x (slice_get-map name xs i ∙ e) (slice_get-map name xs j ∙ d)

pub is_text : (x y : List ℕ) → bytes_eq x y ≡ true → x ≡ y
is_text x y e = (bytes_eq-Decides x y).0 e

module _ (K : Ones) where
  abbrev P : Plain
  P = K.first

  abbrev Q : Plain
  Q = K.second

  abbrev pub OneClass : ℕ → ℕ → Type 0
  OneClass c d = IsOneClass P Q c d

  -- classes by number
  pub class_second : {c d e : ℕ} → OneClass c d → OneClass c e → d ≡ e
  class_second {c} {d} {e} a b = once (λ (k : PlainClass). k.name) Q.classes K.formed_second.class_names d e a.name a.second_name
      (b.second_name ∙ sym b.first_name ∙ a.first_name)

  pub class_first : {c d e : ℕ} → OneClass c e → OneClass d e → c ≡ d
  class_first {c} {d} {e} a b = once (λ (k : PlainClass). k.name) P.classes K.formed.class_names c d a.name a.first_name
      (b.first_name ∙ sym b.second_name ∙ a.second_name)

  pub same_class_test : {a b c d : ℕ} → OneClass a c → OneClass b d → (a == b) ≡ (c == d)
  same_class_test {a} {b} {c} {d} p q = ⊎_elim
      (λ (e : a ≡ b). eq-eqb a b e ∙ sym (eq-eqb c d (class_second p (subst (λ z. OneClass z d) (sym e) q))))
      (λ ne. ne_eqb a b ne ∙ sym (ne_eqb c d (λ e. ne (class_first p (subst (λ z. OneClass b z) (sym e) q)))))
      (cases_eq a b)

  -- two classes of one name stand, and are the same
  pub record ClassPair (c d : ℕ) : Type 0 where
    pub first : PlainClass
    pub second : PlainClass
    pub first_stands : slice_get P.classes c ≡ Some first
    pub second_stands : slice_get Q.classes d ≡ Some second
    pub same : IsOneClassAs P Q first second

  pub class_pair : (c d : ℕ) → OneClass c d → ClassPair c d
  class_pair c d o =
      let k = mapped_some (λ (k : PlainClass). k.name) (slice_get P.classes c) o.name o.first_name in
      let h = K.one.classes.each c k.0 k.1 in
      let found : OneClass c h.number = record {
        name = o.name;
        first_name = o.first_name;
        second_name = ap (option_map (λ (k : PlainClass). k.name)) h.stands ∙ ap (λ z. Some z) (sym h.related.name ∙ k.2);
      } in
      record {
        first = k.0;
        second = h.item;
        first_stands = k.1;
        second_stands = subst (λ z. slice_get Q.classes z ≡ Some h.item) (class_second found o) h.stands;
        same = h.related;
      }

  abbrev OneId : ClassId → ClassId → Type 0
  OneId c d = OneClass c.0 d.0

  pub parents : (c d : ℕ) → OneClass c d → BothRelated OneId (parent_of P c) (parent_of Q d)
  parents c d o =
      let p = class_pair c d o in
      subst (λ z. BothRelated OneId z (parent_of Q d)) (ap (option_and_then (λ (k : PlainClass). k.parent)) (sym p.first_stands))
      (subst (λ z. BothRelated OneId p.first.parent z) (ap (option_and_then (λ (k : PlainClass). k.parent)) (sym p.second_stands)) p.same.parent)

  faces : (c d : ℕ) → OneClass c d → AreRelated OneId (faces_of P c) (faces_of Q d)
  faces c d o =
      let p = class_pair c d o in
      subst (λ z. AreRelated OneId z (faces_of Q d)) (ap (λ z. option_map_or (λ (k : PlainClass). k.faces) z []) (sym p.first_stands))
      (subst (λ z. AreRelated OneId p.first.faces z) (ap (λ z. option_map_or (λ (k : PlainClass). k.faces) z []) (sym p.second_stands)) p.same.faces)

  supers : (c d : ℕ) → OneClass c d → AreRelated OneId (supers_of P c) (supers_of Q d)
  supers c d o = append_related (listed_related (parents c d o)) (faces c d o)

  -- subtypes
  same_reaches : (n a b c d : ℕ) → OneClass a c → OneClass b d → reaches P n a b ≡ reaches Q n c d
  same_reaches zero a b c d p q = same_class_test p q
  same_reaches (suc n) a b c d p q = ap₂ (λ y z. y || z) (same_class_test p q)
      (any_related (λ (k : ClassId). reaches P n k.0 b) (λ (k : ClassId). reaches Q n k.0 d) (λ x y r. same_reaches n x.0 b y.0 d r q) (supers a c p))

  pub same_below : (a b c d : ℕ) → OneClass a c → OneClass b d → below P a b ≡ below Q c d
  unfolding below
  same_below a b c d p q = same_reaches (length P.classes) a b c d p q ∙ ap (λ n. reaches Q n c d) K.one.classes.as_many

  -- what is nearest upwards
  module _ {T : ℕ → ℕ → Type 0} (own other : ℕ → Option ℕ) (owns : (c d : ℕ) → OneClass c d → BothRelated T (own c) (other d)) where
    nearest_in : (n c d : ℕ) → OneClass c d → BothRelated T (nearest P own n c) (nearest Q other n d)
    nearest_in zero c d o = owns c d o
    nearest_in (suc n) c d o = first_both (owns c d o)
        (then_both (λ (p : ClassId). nearest P own n p.0) (λ (p : ClassId). nearest Q other n p.0) (λ x y r. nearest_in n x.0 y.0 r) (parents c d o))

    pub nearest_both : (c d : ℕ) → OneClass c d → BothRelated T (nearest_of P own c) (nearest_of Q other d)
    nearest_both c d o = subst (λ n. BothRelated T (nearest P own (length P.classes) c) (nearest Q other n d)) K.one.classes.as_many
        (nearest_in (length P.classes) c d o)

  faces_over : (n c d : ℕ) → OneClass c d → AreRelated OneClass (faces_above P n c) (faces_above Q n d)
  faces_over zero c d o = none_related
  faces_over (suc n) c d o = flat_related (λ (k : ClassId). k.0 ∷ faces_above P n k.0) (λ (k : ClassId). k.0 ∷ faces_above Q n k.0)
      (λ x y r. one_related r (faces_over n x.0 y.0 r)) (faces c d o)

  chain_up : (n : ℕ) {o p : Option ClassId} → BothRelated OneId o p → ((c d : ℕ) → OneClass c d → AreRelated OneClass (chain P n c) (chain Q n d))
      → AreRelated OneClass (option_map_or (λ (p : ClassId). chain P n p.0) o []) (option_map_or (λ (p : ClassId). chain Q n p.0) p [])
  chain_up n neither h = none_related
  chain_up n (both {x = x} {y = y} r) h = h x.0 y.0 r

  chains : (n c d : ℕ) → OneClass c d → AreRelated OneClass (chain P n c) (chain Q n d)
  chains zero c d o = one_related o none_related
  chains (suc n) c d o = one_related o (chain_up n (parents c d o) (λ c d o. chains n c d o))

  orders : (c d : ℕ) → OneClass c d → AreRelated OneClass (search_order P c) (search_order Q d)
  unfolding search_order
  orders c d o =
      let many = length P.classes in
      subst (λ n. AreRelated OneClass (chain P many c ++ flat_map (λ k. faces_above P many k) (chain P many c))
      (chain Q n d ++ flat_map (λ k. faces_above Q n k) (chain Q n d))) K.one.classes.as_many
      (append_related (chains many c d o) (flat_related (λ k. faces_above P many k) (λ k. faces_above Q many k) (λ x y r. faces_over many x y r)
      (chains many c d o)))

  -- types: a type is one with one type alone
  base_second : {a b c : TyBase} → IsOneBase P Q a b → IsOneBase P Q a c → b ≡ c
  base_second one_int one_int = refl
  base_second one_boolean one_boolean = refl
  base_second one_char one_char = refl
  base_second one_string one_string = refl
  base_second (one_class {d = d} p) (one_class {d = e} q) = λ i. Class (record { 0 = class_second p q i })

  base_first : {a b c : TyBase} → IsOneBase P Q a c → IsOneBase P Q b c → a ≡ b
  base_first one_int one_int = refl
  base_first one_boolean one_boolean = refl
  base_first one_char one_char = refl
  base_first one_string one_string = refl
  base_first (one_class p) (one_class q) = λ i. Class (record { 0 = class_first p q i })

  type_second : (t u v : Ty) → IsOneType P Q t u → IsOneType P Q t v → u ≡ v
  type_second t u v a b = λ i. record { base = base_second a.base b.base i; dim = (sym a.dim ∙ b.dim) i }

  type_first : (t u v : Ty) → IsOneType P Q t v → IsOneType P Q u v → t ≡ u
  type_first t u v a b = λ i. record { base = base_first a.base b.base i; dim = (a.dim ∙ sym b.dim) i }

  types_second : {ts us vs : List Ty} → AreRelated (IsOneType P Q) ts us → AreRelated (IsOneType P Q) ts vs → us ≡ vs
  types_second none_related none_related = refl
  types_second (one_related {x = t} {y = u} a ps) (one_related {y = v} b qs) = λ i. type_second t u v a b i ∷ types_second ps qs i

  types_first : {ts us vs : List Ty} → AreRelated (IsOneType P Q) ts vs → AreRelated (IsOneType P Q) us vs → ts ≡ us
  types_first none_related none_related = refl
  types_first (one_related {x = t} {y = v} a ps) (one_related {x = u} b qs) = λ i. type_first t u v a b i ∷ types_first ps qs i

  result_second : {t u v : Option Ty} → BothRelated (IsOneType P Q) t u → BothRelated (IsOneType P Q) t v → u ≡ v
  result_second neither neither = refl
  result_second (both {x = t} {y = u} a) (both {y = v} b) = λ i. Some (type_second t u v a b i)

  result_first : {t u v : Option Ty} → BothRelated (IsOneType P Q) t v → BothRelated (IsOneType P Q) u v → t ≡ u
  result_first neither neither = refl
  result_first (both {x = t} {y = v} a) (both {x = u} b) = λ i. Some (type_first t u v a b i)

  pub variable_types : {vs ws : List PlainLocal} → AreRelated (IsOneVariable P Q) vs ws → AreRelated (IsOneType P Q) (types_of vs) (types_of ws)
  variable_types vs = mapped_related (λ (v : PlainLocal). v.ty) (λ (v : PlainLocal). v.ty) (λ x y r. r.type) vs

  -- fields by number
  pub record FieldPair (f g : ℕ) : Type 0 where
    pub first : PlainField
    pub second : PlainField
    pub first_stands : slice_get P.fields f ≡ Some first
    pub second_stands : slice_get Q.fields g ≡ Some second
    pub same : IsOneFieldAs P Q first second

  -- the field that a field is
  pub field_as : (f g : ℕ) (k l : PlainField) → slice_get P.fields f ≡ Some k → slice_get Q.fields g ≡ Some l → OneClass k.owner l.owner → k.name ≡ l.name
      → (j : ℕ) (i : PlainField) → slice_get Q.fields j ≡ Some i → IsOneFieldAs P Q k i → j ≡ g
  field_as f g k l ek el owner name j i ei same =
      K.formed_second.field_names j g i l ei el (class_second same.owner owner) (sym same.name ∙ name)

  pub field_pair : (f g : ℕ) → IsOneField P Q f g → FieldPair f g
  field_pair f g o =
      let h = K.one.fields.each f o.first o.first_stands in
      record {
        first = o.first;
        second = h.item;
        first_stands = o.first_stands;
        second_stands = subst (λ z. slice_get Q.fields z ≡ Some h.item)
            (field_as f g o.first o.second o.first_stands o.second_stands o.owner o.name h.number h.item h.stands h.related) h.stands;
        same = h.related;
      }

  -- a field is one with one field alone, both ways
  pub field_second : (f g h : ℕ) → FieldPair f g → FieldPair f h → g ≡ h
  field_second f g h a b =
      let one : a.first ≡ b.first = same_Some a.first b.first (sym a.first_stands ∙ b.first_stands) in
      field_as f h a.first b.second a.first_stands b.second_stands (subst (λ z. OneClass z.owner b.second.owner) (sym one) b.same.owner)
      (ap (λ (z : PlainField). z.name) one ∙ b.same.name) g a.second a.second_stands a.same

  pub field_first : (f g h : ℕ) → FieldPair f h → FieldPair g h → f ≡ g
  field_first f g h a b =
      let one : a.second ≡ b.second = same_Some a.second b.second (sym a.second_stands ∙ b.second_stands) in
      K.formed.field_names f g a.first b.first a.first_stands b.first_stands
      (class_first a.same.owner (subst (λ z. OneClass b.first.owner z.owner) (sym one) b.same.owner))
      (a.same.name ∙ ap (λ (z : PlainField). z.name) one ∙ sym b.same.name)

  fields_apart : (i j n : ℕ) (k l z : PlainField) → slice_get P.fields i ≡ Some k → slice_get P.fields j ≡ Some l → slice_get Q.fields n ≡ Some z
      → IsOneFieldAs P Q k z → IsOneFieldAs P Q l z → i ≡ j
  fields_apart i j n k l z ek el ez a b = K.formed.field_names i j k l ek el (class_first a.owner b.owner) (a.name ∙ sym b.name)

  pub own_fields_both : (x : List ℕ) (c d : ℕ) → OneClass c d → BothRelated FieldPair (own_field_of P c x) (own_field_of Q d x)
  own_fields_both x c d o = position_both (λ f. is_field_of c x f) (λ f. is_field_of d x f) P.fields Q.fields K.one.fields
      (λ i j k l ek el same. ap₂ (λ y z. y && z) (same_class_test same.owner o) (ap (λ z. bytes_eq z x) same.name))
      (λ i j k l ek el same. record { first = k; second = l; first_stands = ek; second_stands = el; same = same })
      fields_apart
      (λ i j k l ek el hk hl.
      let a = and_parts (k.owner == d) (bytes_eq k.name x) hk in
      let b = and_parts (l.owner == d) (bytes_eq l.name x) hl in
      K.formed_second.field_names i j k l ek el (eqb-true k.owner d a.0 ∙ sym (eqb-true l.owner d b.0)) (is_text k.name x a.1 ∙ sym (is_text l.name x b.1)))

  -- the nearest field of a name, and where it is an instance field
  same_static : (f g : ℕ) → FieldPair f g → is_static_field P f ≡ is_static_field Q g
  same_static f g a = ap (λ z. option_map_or (λ (k : PlainField). k.is_static) z false) a.first_stands ∙ a.same.static
      ∙ sym (ap (λ z. option_map_or (λ (k : PlainField). k.is_static) z false) a.second_stands)

  instances : (f g : ℕ) → FieldPair f g → BothRelated FieldPair (if_instance f (is_static_field P f)) (if_instance g (is_static_field Q g))
  instances f g a = subst (λ z. BothRelated FieldPair (if_instance f (is_static_field P f)) (if_instance g z)) (same_static f g a) (go (is_static_field P f))
    where
      go : (b : Bool) → BothRelated FieldPair (if_instance f b) (if_instance g b)
      go true = neither
      go false = both a

  when_both : {o p : Option ℕ} → BothRelated FieldPair o p → BothRelated FieldPair (when_instance P o) (when_instance Q p)
  when_both neither = neither
  when_both (both {x = f} {y = g} a) = instances f g a

  pub member_fields : (x : List ℕ) (c d : ℕ) → OneClass c d → BothRelated FieldPair (member_field P c x) (member_field Q d x)
  unfolding member_field field_of
  member_fields x c d o = when_both (nearest_both (λ k. own_field_of P k x) (λ k. own_field_of Q k x) (λ c d o. own_fields_both x c d o) c d o)

  -- methods by number
  pub record MethodPair (m n : ℕ) : Type 0 where
    pub first : PlainMethod
    pub second : PlainMethod
    pub first_stands : slice_get P.methods m ≡ Some first
    pub second_stands : slice_get Q.methods n ≡ Some second
    pub same : IsOneMethodAs P Q first second

  pub method_pair : (m n : ℕ) → IsOneMethod P Q m n → MethodPair m n
  method_pair m n o =
      let h = K.one.methods.each m o.first o.first_stands in
      let at : h.number ≡ n = K.formed_second.method_names h.number n h.item o.second h.stands o.second_stands (class_second h.related.owner o.owner)
      (sym h.related.name ∙ o.name) in
      record {
        first = o.first;
        second = h.item;
        first_stands = o.first_stands;
        second_stands = subst (λ z. slice_get Q.methods z ≡ Some h.item) at h.stands;
        same = h.related;
      }

  methods_apart : (i j n : ℕ) (k l z : PlainMethod) → slice_get P.methods i ≡ Some k → slice_get P.methods j ≡ Some l → slice_get Q.methods n ≡ Some z
      → IsOneMethodAs P Q k z → IsOneMethodAs P Q l z → i ≡ j
  methods_apart i j n k l z ek el ez a b = K.formed.method_names i j k l ek el (class_first a.owner b.owner) (a.name ∙ sym b.name)

  pub own_methods_both : (x : List ℕ) (c d : ℕ) → OneClass c d → BothRelated MethodPair (own_method P c x) (own_method Q d x)
  own_methods_both x c d o = position_both (λ m. is_method_of c x m) (λ m. is_method_of d x m) P.methods Q.methods K.one.methods
      (λ i j k l ek el same. ap₂ (λ y z. y && z) (same_class_test same.owner o)
      (ap₂ (λ y z. not y && z) same.static (ap (λ z. bytes_eq z x) same.name)))
      (λ i j k l ek el same. record { first = k; second = l; first_stands = ek; second_stands = el; same = same })
      methods_apart
      (λ i j k l ek el hk hl.
      let a = and_parts (k.owner == d) (not k.is_static && bytes_eq k.name x) hk in
      let b = and_parts (l.owner == d) (not l.is_static && bytes_eq l.name x) hl in
      K.formed_second.method_names i j k l ek el (eqb-true k.owner d a.0 ∙ sym (eqb-true l.owner d b.0))
      (is_text k.name x (and_parts (not k.is_static) (bytes_eq k.name x) a.1).1
      ∙ sym (is_text l.name x (and_parts (not l.is_static) (bytes_eq l.name x) b.1).1)))

  pub super_methods : (x : List ℕ) (c d : ℕ) → OneClass c d → BothRelated MethodPair (super_method P c x) (super_method Q d x)
  unfolding super_method
  super_methods x c d o = then_both (λ (p : ClassId). nearest_of P (λ k. own_method P k x) p.0) (λ (p : ClassId). nearest_of Q (λ k. own_method Q k x) p.0)
      (λ p q r. nearest_both (λ k. own_method P k x) (λ k. own_method Q k x) (λ c d o. own_methods_both x c d o) p.0 q.0 r) (parents c d o)

  declarations : (x : List ℕ) (c d : ℕ) → OneClass c d → BothRelated MethodPair (declaration_of P c x) (declaration_of Q d x)
  unfolding declaration_of
  declarations x c d o = found_both (λ k. own_method P k x) (λ k. own_method Q k x) (λ c d o. own_methods_both x c d o) (orders c d o)

  -- slots: those of two methods that are one
  pub record SlotPair (s t : ℕ) : Type 0 where
    pub first : PlainMethod
    pub second : PlainMethod
    pub number : ℕ
    pub other : ℕ
    pub first_stands : slice_get P.methods number ≡ Some first
    pub second_stands : slice_get Q.methods other ≡ Some second
    pub same : IsOneMethodAs P Q first second
    pub first_slot : first.slot ≡ Some s
    pub second_slot : second.slot ≡ Some t

  in_first : (m s : ℕ) (k : PlainMethod) → slice_get P.methods m ≡ Some k → k.slot ≡ Some s → IsInSlot P s k
  in_first m s k e h = ((K.formed.methods m k e).slots s).0 h

  in_second : (m s : ℕ) (k : PlainMethod) → slice_get Q.methods m ≡ Some k → k.slot ≡ Some s → IsInSlot Q s k
  in_second m s k e h = ((K.formed_second.methods m k e).slots s).0 h

  -- another method of the slot is one with a method of the other slot
  slot_second : (s t : ℕ) → SlotPair s t → (m n : ℕ) (k l : PlainMethod) → slice_get P.methods m ≡ Some k → slice_get Q.methods n ≡ Some l
      → IsOneMethodAs P Q k l → k.slot ≡ Some s → l.slot ≡ Some t
  slot_second s t p m n k l ek el same h =
      let a = in_first m s k ek h in
      let b = in_first p.number s p.first p.first_stands p.first_slot in
      let c = in_second p.other t p.second p.second_stands p.second_slot in
      let one : a.slot ≡ b.slot = same_Some a.slot b.slot (sym a.stands ∙ b.stands) in
      let params : types_of k.params ≡ types_of p.first.params = a.params ∙ ap (λ (z : PlainSlot). z.params) one ∙ sym b.params in
      let result : k.result ≡ p.first.result = a.result ∙ ap (λ (z : PlainSlot). z.result) one ∙ sym b.result in
      ((K.formed_second.methods n l el).slots t).1 (record {
        slot = c.slot;
        stands = c.stands;
        instance = sym same.static ∙ a.instance;
        name = sym same.name ∙ a.name ∙ ap (λ (z : PlainSlot). z.name) one ∙ sym b.name ∙ p.same.name ∙ c.name;
        params = types_second (variable_types same.params)
            (subst (λ z. AreRelated (IsOneType P Q) z (types_of p.second.params)) (sym params) (variable_types p.same.params)) ∙ c.params;
        result = result_second same.result
            (subst (λ z. BothRelated (IsOneType P Q) z p.second.result) (sym result) p.same.result) ∙ c.result;
      })

  slot_first : (s t : ℕ) → SlotPair s t → (m n : ℕ) (k l : PlainMethod) → slice_get P.methods m ≡ Some k → slice_get Q.methods n ≡ Some l
      → IsOneMethodAs P Q k l → l.slot ≡ Some t → k.slot ≡ Some s
  slot_first s t p m n k l ek el same h =
      let a = in_second n t l el h in
      let b = in_second p.other t p.second p.second_stands p.second_slot in
      let c = in_first p.number s p.first p.first_stands p.first_slot in
      let one : a.slot ≡ b.slot = same_Some a.slot b.slot (sym a.stands ∙ b.stands) in
      let params : types_of l.params ≡ types_of p.second.params = a.params ∙ ap (λ (z : PlainSlot). z.params) one ∙ sym b.params in
      let result : l.result ≡ p.second.result = a.result ∙ ap (λ (z : PlainSlot). z.result) one ∙ sym b.result in
      ((K.formed.methods m k ek).slots s).1 (record {
        slot = c.slot;
        stands = c.stands;
        instance = same.static ∙ a.instance;
        name = same.name ∙ a.name ∙ ap (λ (z : PlainSlot). z.name) one ∙ sym b.name ∙ sym p.same.name ∙ c.name;
        params = types_first (variable_types same.params)
            (subst (λ z. AreRelated (IsOneType P Q) (types_of p.first.params) z) (sym params) (variable_types p.same.params)) ∙ c.params;
        result = result_first same.result
            (subst (λ z. BothRelated (IsOneType P Q) p.first.result z) (sym result) p.same.result) ∙ c.result;
      })

  slot_true : (o : Option ℕ) (s : ℕ) → o ≡ Some s → is_slot o s ≡ true
  slot_true o s e = ap (λ z. is_slot z s) e ∙ eq-eqb s s refl

  same_truth : (a b : Bool) → (a ≡ true → b ≡ true) → (b ≡ true → a ≡ true) → a ≡ b
  same_truth true b f g = sym (f refl)
  same_truth false true f g = g refl
  same_truth false false f g = refl

  same_slot_test : (s t : ℕ) → SlotPair s t → (m n : ℕ) (k l : PlainMethod) → slice_get P.methods m ≡ Some k → slice_get Q.methods n ≡ Some l
      → IsOneMethodAs P Q k l → is_slot k.slot s ≡ is_slot l.slot t
  same_slot_test s t p m n k l ek el same = same_truth (is_slot k.slot s) (is_slot l.slot t)
      (λ h. slot_true l.slot t (slot_second s t p m n k l ek el same (slot_is k.slot s h)))
      (λ h. slot_true k.slot s (slot_first s t p m n k l ek el same (slot_is l.slot t h)))

  same_body : {o p : Option Sts} → BothRelated (OneSts P Q) o p → is_some o ≡ is_some p
  same_body neither = refl
  same_body (both r) = refl

  own_bodies_both : (s t : ℕ) → SlotPair s t → (c d : ℕ) → OneClass c d → BothRelated MethodPair (own_body P c s) (own_body Q d t)
  own_bodies_both s t p c d o = position_both (λ m. has_slot c s m && is_some m.body) (λ m. has_slot d t m && is_some m.body) P.methods Q.methods K.one.methods
      (λ i j k l ek el same. ap₂ (λ y z. y && z) (ap₂ (λ y z. y && z) (same_class_test same.owner o) (same_slot_test s t p i j k l ek el same))
      (same_body same.body))
      (λ i j k l ek el same. record { first = k; second = l; first_stands = ek; second_stands = el; same = same })
      methods_apart
      (λ i j k l ek el hk hl.
      let a = and_parts (k.owner == d) (is_slot k.slot t) (and_parts (has_slot d t k) (is_some k.body) hk).0 in
      let b = and_parts (l.owner == d) (is_slot l.slot t) (and_parts (has_slot d t l) (is_some l.body) hl).0 in
      let x = in_second i t k ek (slot_is k.slot t a.1) in
      let y = in_second j t l el (slot_is l.slot t b.1) in
      K.formed_second.method_names i j k l ek el (eqb-true k.owner d a.0 ∙ sym (eqb-true l.owner d b.0))
      (x.name ∙ ap (λ (z : PlainSlot). z.name) (same_Some x.slot y.slot (sym x.stands ∙ y.stands)) ∙ sym y.name))

  pub lookups : (s t : ℕ) → SlotPair s t → (c d : ℕ) → OneClass c d → BothRelated MethodPair (lookup P c s) (lookup Q d t)
  unfolding lookup
  lookups s t p c d o = nearest_both (λ k. own_body P k s) (λ k. own_body Q k t) (λ c d o. own_bodies_both s t p c d o) c d o

  -- the slots of two methods that are one
  slots_of_both : (m n : ℕ) (k l : PlainMethod) → slice_get P.methods m ≡ Some k → slice_get Q.methods n ≡ Some l → IsOneMethodAs P Q k l
      → BothRelated SlotPair k.slot l.slot
  slots_of_both m n k l ek el same = go k.slot l.slot refl refl
    where
      go : (o p : Option ℕ) → k.slot ≡ o → l.slot ≡ p → BothRelated SlotPair o p
      go None None e d = neither
      go (Some s) (Some t) e d = both (record {
        first = k;
        second = l;
        number = m;
        other = n;
        first_stands = ek;
        second_stands = el;
        same = same;
        first_slot = e;
        second_slot = d;
      })
      go (Some s) None e d =
          let x = (K.formed_second.methods n l el).slotted (sym same.static ∙ (in_first m s k ek e).instance) in absurd (let w = sym d ∙ x.1 in cc)
      go None (Some t) e d =
          let x = (K.formed.methods m k ek).slotted (same.static ∙ (in_second n t l el d).instance) in absurd (let w = sym e ∙ x.1 in cc)

  pub method_slots : (m n : ℕ) → MethodPair m n → BothRelated SlotPair (slot_of_method P m) (slot_of_method Q n)
  method_slots m n p =
      subst (λ z. BothRelated SlotPair z (slot_of_method Q n)) (ap (option_and_then (λ (k : PlainMethod). k.slot)) (sym p.first_stands))
      (subst (λ z. BothRelated SlotPair p.first.slot z) (ap (option_and_then (λ (k : PlainMethod). k.slot)) (sym p.second_stands))
      (slots_of_both m n p.first p.second p.first_stands p.second_stands p.same))

  pub slots_both : (x : List ℕ) (c d : ℕ) → OneClass c d → BothRelated SlotPair (slot_of P c x) (slot_of Q d x)
  slots_both x c d o = then_both (slot_of_method P) (slot_of_method Q) (λ m n p. method_slots m n p) (declarations x c d o)
