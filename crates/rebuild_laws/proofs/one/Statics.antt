-- Static types in two programs that are one.
use Rattle.std.proofs.Common.{◌≡◌, ℕ, zero, suc, List, Option, Some, None, refl, sym, ap, ap₂, ◌∙◌, subst}
use Rattle.std.specs.Prelude.{◌==◌, ◌&&◌, ◌||◌, Bool, true, false, if◌then◌else◌}
use Rattle.std.specs.Option.{option_map, option_and_then}
use Rattle.std.specs.Str.{bytes_eq}
use Rattle.std.proofs.lemmas.Bool.{and_parts}
use Rattle.std.proofs.lemmas.Option.{same_Some}
use Rattle.kaba_base.specs.declared.ClassId.{ClassId}
use Rattle.java_core.specs.declared.Ty.{Ty}
use Rattle.java_core.specs.declared.TyBase.{TyBase}
use Rattle.java_core.specs.declared.TyBase.TheVariants.{Int, Boolean, Char, Str}
use Rattle.java_core.specs.declared.UnOp.{UnOp}
use Rattle.java_core.specs.declared.UnOp.TheVariants as un
use Rattle.java_core.specs.declared.BinOp.{BinOp}
use Rattle.java_core.specs.declared.BinOp.TheVariants as bin
use Rattle.java_core.specs.Trees.{Ex}
use Rattle.java_core.specs.Programs.{Plain, PlainField, PlainMethod, PlainSlot}
use Rattle.java_core.specs.Classes.{parent_of, first_or, nearest, is_field_of, own_field_of, field_of, is_static_field, if_instance, when_instance, member_field}
use Rattle.java_core.specs.Types.{Static, a_value, null_value, no_value, StringMethod, LengthOf, CharAt, Equals, Env, types_of, plain_type, class_type, or_nothing, class_in, class_of, element_in, element_of, is_base, is_string, is_sub_base, is_subtype, Signature, string_method, signature_of_slot, signature_of_method, signature_of_string, object_signature, call_signature, super_signature, result_of, field_type, field_in, is_length, length_or, access_type, unary_type, sum_type, is_plus, binary_type, static}
use Rattle.java_core.specs.Formed.{IsInSlot}
use Rattle.java_core.proofs.Positions.{position-passes}
use Rattle.java_meaning.specs.TypedLang.{Stands}
use Rattle.rebuild_model.specs.OneBodies.{field_name, IsOneBase, one_int, one_boolean, one_char, one_string, one_class, IsOneType, One, o_number, o_character, o_text, o_truth, o_null, o_this, o_local, o_static_field, o_own_field, o_own_written, o_written_own, o_field, o_index, o_call, o_static_call, o_super_call, o_create, o_create_array, o_cast, o_instance_of, o_unary, o_binary}
use Rattle.rebuild_model.specs.OnePrograms.{AreRelated, BothRelated, neither, both}
use Rattle.rebuild_laws.specs.twins.Twins.{shape_in, shape_of}
use Rattle.rebuild_laws.proofs.one.Related.{from_first, from_second, get_related, then_both}
use Rattle.rebuild_laws.proofs.one.Found.{Ones, OneClass, same_below, FieldPair, field_pair, member_fields, MethodPair, method_pair, super_methods, SlotPair, slots_both, is_text}

-- what was found nearest is what some class has itself
nearest_own : (S : Plain) (own : ℕ → Option ℕ) (n c d : ℕ) → nearest S own n c ≡ Some d → (k : ℕ) × (own k ≡ Some d)
nearest_own S own zero c d e = (c, e)
nearest_own S own (suc n) c d e = go (own c) (parent_of S c) refl e (λ p h. nearest_own S own n p d h)
  where
    go : (o : Option ℕ) (p : Option ClassId) → own c ≡ o → first_or o (option_and_then (λ (p : ClassId). nearest S own n p.0) p) ≡ Some d
        → ((p : ℕ) → nearest S own n p ≡ Some d → (k : ℕ) × (own k ≡ Some d)) → (k : ℕ) × (own k ≡ Some d)
    go (Some x) p h e rec = (c, h ∙ e)
    go None (Some p) h e rec = rec p.0 e
    go None None h e rec = absurd (cc)

instance_is : (S : Plain) (o : Option ℕ) (f : ℕ) → when_instance S o ≡ Some f → o ≡ Some f
instance_is S None f e = absurd (cc)
instance_is S (Some x) f e = go (is_static_field S x) e
  where
    go : (b : Bool) → if_instance x b ≡ Some f → Some x ≡ Some f
    go true e = absurd (cc)
    go false e = e

-- the field that is found under a name has it
pub found_name : (S : Plain) (c : ℕ) (x : List ℕ) (f : ℕ) → member_field S c x ≡ Some f → field_name S f ≡ Some x
unfolding member_field field_of
found_name S c x f e =
    let k = nearest_own S (λ k. own_field_of S k x) _ c f (instance_is S _ f e) in
    let h = position-passes (λ z. is_field_of k.0 x z) S.fields f k.1 in
    ap (option_map (λ (z : PlainField). z.name)) h.1 ∙ ap Some (is_text h.0.name x (and_parts (h.0.owner == k.0) (bytes_eq h.0.name x) h.2).1)

module _ (K : Ones) where
  abbrev P : Plain
  P = K.first

  abbrev Q : Plain
  Q = K.second

  abbrev pub OneType : Ty → Ty → Type 0
  OneType t u = IsOneType P Q t u

  -- the shape of types that are one
  base_shape : {b c : TyBase} → IsOneBase P Q b c → shape_in b ≡ shape_in c
  base_shape one_int = refl
  base_shape one_boolean = refl
  base_shape one_char = refl
  base_shape one_string = refl
  base_shape (one_class p) = refl

  pub one_shape : (t u : Ty) → OneType t u → shape_of t ≡ shape_of u
  one_shape t u p = λ i. record { base = base_shape p.base i; dim = p.dim i }

  -- subtypes
  sub_base : {b c d e : TyBase} → IsOneBase P Q b c → IsOneBase P Q d e → is_sub_base P b d ≡ is_sub_base Q c e
  sub_base (one_class {c = c} {d = d} p) (one_class {c = a} {d = b} q) = same_below K c.0 a.0 d.0 b.0 p q
  sub_base (one_class p) one_int = refl
  sub_base (one_class p) one_boolean = refl
  sub_base (one_class p) one_char = refl
  sub_base (one_class p) one_string = refl
  sub_base one_int q = base_test Int q
    where
      base_test : (b : TyBase) {d e : TyBase} → IsOneBase P Q d e → is_base Int d ≡ is_base Int e
      base_test b one_int = refl
      base_test b one_boolean = refl
      base_test b one_char = refl
      base_test b one_string = refl
      base_test b (one_class p) = refl
  sub_base one_boolean q = base_test q
    where
      base_test : {d e : TyBase} → IsOneBase P Q d e → is_base Boolean d ≡ is_base Boolean e
      base_test one_int = refl
      base_test one_boolean = refl
      base_test one_char = refl
      base_test one_string = refl
      base_test (one_class p) = refl
  sub_base one_char q = base_test q
    where
      base_test : {d e : TyBase} → IsOneBase P Q d e → is_base Char d ≡ is_base Char e
      base_test one_int = refl
      base_test one_boolean = refl
      base_test one_char = refl
      base_test one_string = refl
      base_test (one_class p) = refl
  sub_base one_string q = base_test q
    where
      base_test : {d e : TyBase} → IsOneBase P Q d e → is_base Str d ≡ is_base Str e
      base_test one_int = refl
      base_test one_boolean = refl
      base_test one_char = refl
      base_test one_string = refl
      base_test (one_class p) = refl

  pub one_subtype : (s t u v : Ty) → OneType s u → OneType t v → is_subtype P s t ≡ is_subtype Q u v
  one_subtype s t u v p q = λ i. (p.dim i == q.dim i) && sub_base p.base q.base i

  -- two static types that are one
  pub data OneStatic : Static → Static → Type 0 where
    one_value : {t u : Ty} → OneType t u → OneStatic (a_value t) (a_value u)
    one_null : OneStatic null_value null_value
    one_nothing : OneStatic no_value no_value

  or_one : {o p : Option Ty} → BothRelated OneType o p → OneStatic (or_nothing o) (or_nothing p)
  or_one neither = one_nothing
  or_one (both p) = one_value p

  classes_in : {b c : TyBase} → IsOneBase P Q b c → (d : ℕ) → BothRelated (OneClass K) (class_in b d) (class_in c d)
  classes_in one_int d = neither
  classes_in one_boolean d = neither
  classes_in one_char d = neither
  classes_in one_string d = neither
  classes_in (one_class p) zero = both p
  classes_in (one_class p) (suc d) = neither

  pub classes_of : {s t : Static} → OneStatic s t → BothRelated (OneClass K) (class_of s) (class_of t)
  classes_of (one_value {t = t} {u = u} p) = subst (λ d. BothRelated (OneClass K) (class_in t.base t.dim) (class_in u.base d)) p.dim (classes_in p.base t.dim)
  classes_of one_null = neither
  classes_of one_nothing = neither

  elements_in : {b c : TyBase} → IsOneBase P Q b c → (d : ℕ) → BothRelated OneType (element_in b d) (element_in c d)
  elements_in p zero = neither
  elements_in p (suc d) = both (record { base = p; dim = refl })

  pub elements : (t u : Ty) → OneType t u → BothRelated OneType (element_in t.base t.dim) (element_in u.base u.dim)
  elements t u p = subst (λ d. BothRelated OneType (element_in t.base t.dim) (element_in u.base d)) p.dim (elements_in p.base t.dim)

  elements_of : {s t : Static} → OneStatic s t → BothRelated OneType (element_of s) (element_of t)
  elements_of (one_value {t = t} {u = u} p) = elements t u p
  elements_of one_null = neither
  elements_of one_nothing = neither

  string_base : {b c : TyBase} → IsOneBase P Q b c → is_base b Str ≡ is_base c Str
  string_base one_int = refl
  string_base one_boolean = refl
  string_base one_char = refl
  string_base one_string = refl
  string_base (one_class p) = refl

  strings : {s t : Static} → OneStatic s t → is_string s ≡ is_string t
  strings (one_value p) = λ i. string_base p.base i && (p.dim i == 0)
  strings one_null = refl
  strings one_nothing = refl

  -- fields
  pub field_types : (f g : ℕ) → FieldPair K f g → BothRelated OneType (field_type P f) (field_type Q g)
  field_types f g p =
      subst (λ z. BothRelated OneType z (field_type Q g)) (ap (option_map (λ (k : PlainField). k.ty)) (sym p.first_stands))
      (subst (λ z. BothRelated OneType (Some p.first.ty) z) (ap (option_map (λ (k : PlainField). k.ty)) (sym p.second_stands)) (both p.same.type))

  pub fields_in : (x : List ℕ) {s t : Static} → OneStatic s t → BothRelated (FieldPair K) (field_in P s x) (field_in Q t x)
  unfolding field_in
  fields_in x p = then_both (λ c. member_field P c x) (λ c. member_field Q c x) (λ c d o. member_fields K x c d o) (classes_of p)

  length_both : (x : List ℕ) {o p v w : Option Ty} → BothRelated OneType o p → BothRelated OneType v w
      → BothRelated OneType (length_or o v x) (length_or p w x)
  length_both x neither q = q
  length_both x (both p) q = go (is_length x)
    where
      go : (b : Bool) → BothRelated OneType (if b then Some (plain_type Int) else None) (if b then Some (plain_type Int) else None)
      go true = both (record { base = one_int; dim = refl })
      go false = neither

  accesses : (x : List ℕ) {s t : Static} → OneStatic s t → BothRelated OneType (access_type P s x) (access_type Q t x)
  unfolding access_type
  accesses x p = length_both x (elements_of p) (then_both (field_type P) (field_type Q) field_types (fields_in x p))

  -- calls: what they give
  abbrev OneResult : Signature → Signature → Type 0
  OneResult a b = BothRelated OneType a.result b.result

  given_one : {o p : Option Signature} → BothRelated OneResult o p → OneStatic (result_of o) (result_of p)
  given_one neither = one_nothing
  given_one (both r) = or_one r

  slot_signatures : (s t : ℕ) → SlotPair K s t → BothRelated OneResult (signature_of_slot P s) (signature_of_slot Q t)
  slot_signatures s t p =
      let a : IsInSlot P s p.first = ((K.formed.methods p.number p.first p.first_stands).slots s).0 p.first_slot in
      let b : IsInSlot Q t p.second = ((K.formed_second.methods p.other p.second p.second_stands).slots t).0 p.second_slot in
      let sign : PlainSlot → Signature = λ k. record { params = k.params; result = k.result } in
      subst (λ z. BothRelated OneResult z (signature_of_slot Q t)) (ap (option_map sign) (sym a.stands))
      (subst (λ z. BothRelated OneResult (Some (sign a.slot)) z) (ap (option_map sign) (sym b.stands))
      (both (subst (λ z. BothRelated OneType z b.slot.result) a.result (subst (λ z. BothRelated OneType p.first.result z) b.result p.same.result))))

  method_signatures : (m n : ℕ) → MethodPair K m n → BothRelated OneResult (signature_of_method P m) (signature_of_method Q n)
  method_signatures m n p =
      let sign : PlainMethod → Signature = λ k. record { params = types_of k.params; result = k.result } in
      subst (λ z. BothRelated OneResult z (signature_of_method Q n)) (ap (option_map sign) (sym p.first_stands))
      (subst (λ z. BothRelated OneResult (Some (sign p.first)) z) (ap (option_map sign) (sym p.second_stands)) (both p.same.result))

  same_result : {A : Type 0} (o : Option A) (f : A → Signature) → ((x : A) → OneResult (f x) (f x)) → BothRelated OneResult (option_map f o) (option_map f o)
  same_result None f h = neither
  same_result (Some x) f h = both (h x)

  object_signatures : (x : List ℕ) {o p : Option ℕ} → BothRelated (OneClass K) o p → BothRelated OneResult (object_signature P o x) (object_signature Q p x)
  object_signatures x neither = neither
  object_signatures x (both {x = c} {y = d} o) = then_both (signature_of_slot P) (signature_of_slot Q) slot_signatures (slots_both K x c d o)

  text_signatures : (x : List ℕ) → BothRelated OneResult (option_map signature_of_string (string_method x)) (option_map signature_of_string (string_method x))
  text_signatures x = same_result (string_method x) signature_of_string one_text
    where
      one_text : (m : StringMethod) → OneResult (signature_of_string m) (signature_of_string m)
      one_text LengthOf = both (record { base = one_int; dim = refl })
      one_text CharAt = both (record { base = one_char; dim = refl })
      one_text Equals = both (record { base = one_boolean; dim = refl })

  call_signatures : (x : List ℕ) (s t : Static) → OneStatic s t → BothRelated OneResult (call_signature P s x) (call_signature Q t x)
  unfolding call_signature
  call_signatures x s t p = subst
      (λ z. BothRelated OneResult (call_signature P s x) (if z then option_map signature_of_string (string_method x) else object_signature Q (class_of t) x))
      (strings p) (go (is_string s))
    where
      go : (b : Bool) → BothRelated OneResult (if b then option_map signature_of_string (string_method x) else object_signature P (class_of s) x)
          (if b then option_map signature_of_string (string_method x) else object_signature Q (class_of t) x)
      go true = text_signatures x
      go false = object_signatures x (classes_of p)

  super_signatures : (x : List ℕ) (c d : ℕ) → OneClass K c d → BothRelated OneResult (super_signature P c x) (super_signature Q d x)
  unfolding super_signature
  super_signatures x c d o = then_both (signature_of_method P) (signature_of_method Q) method_signatures (super_methods K x c d o)

  -- operators
  pub int_one : OneType (plain_type Int) (plain_type Int)
  int_one = record { base = one_int; dim = refl }

  truth_one : OneType (plain_type Boolean) (plain_type Boolean)
  truth_one = record { base = one_boolean; dim = refl }

  text_one : OneType (plain_type Str) (plain_type Str)
  text_one = record { base = one_string; dim = refl }

  unary_one : (o : UnOp) → OneType (unary_type o) (unary_type o)
  unary_one un.Plus = int_one
  unary_one un.Minus = int_one
  unary_one un.Flip = int_one
  unary_one un.Not = truth_one

  sum_one : (b : Bool) → OneType (sum_type b) (sum_type b)
  sum_one true = text_one
  sum_one false = int_one

  binary_one : (o : BinOp) {s t u v : Static} → OneStatic s u → OneStatic t v → OneType (binary_type o s t) (binary_type o u v)
  binary_one (bin.Int o) {s} {t} p q = subst (λ z. OneType (sum_type (is_plus o && (is_string s || is_string t))) (sum_type (is_plus o && z)))
      (ap₂ (λ y z. y || z) (strings p) (strings q)) (sum_one (is_plus o && (is_string s || is_string t)))
  binary_one bin.Same p q = truth_one
  binary_one bin.Differs p q = truth_one
  binary_one bin.Less p q = truth_one
  binary_one bin.Greater p q = truth_one
  binary_one bin.AtMost p q = truth_one
  binary_one bin.AtLeast p q = truth_one
  binary_one bin.Both p q = truth_one
  binary_one bin.Either p q = truth_one

  pub class_one : (c d : ℕ) → OneClass K c d → OneType (class_type c) (class_type d)
  class_one c d o = record { base = one_class o; dim = refl }

  -- in bodies that see classes and types that are one
  pub record EnvPair (g h : Env) : Type 0 where
    pub self : OneClass K g.self h.self
    pub locals : AreRelated OneType g.locals h.locals
    pub result : BothRelated OneType g.result h.result

  module _ (g h : Env) (E : EnvPair g h) where
    -- a field of `this` by its simple name is found under its name on a written `this` of the second
    pub record FoundSecond (f : ℕ) (x : List ℕ) : Type 0 where
      pub number : ℕ
      pub found : member_field Q h.self x ≡ Some number
      pub pair : FieldPair K f number

    pub found_second : (f : ℕ) (x : List ℕ) → field_name P f ≡ Some x → (y : List ℕ) × (member_field P g.self y ≡ Some f) → FoundSecond f x
    found_second f x e (y, d) =
        let name : y ≡ x = same_Some y x (sym (found_name P g.self y f d) ∙ e) in
        let z = from_first (member_field P g.self x) (member_field Q h.self x) f (member_fields K x g.self h.self E.self)
        (subst (λ z. member_field P g.self z ≡ Some f) name d) in
        record { number = z.0; found = z.1; pair = z.2 }

    pub record FoundFirst (j : ℕ) (x : List ℕ) : Type 0 where
      pub number : ℕ
      pub found : member_field P g.self x ≡ Some number
      pub pair : FieldPair K number j

    pub found_first : (j : ℕ) (x : List ℕ) → field_name Q j ≡ Some x → (y : List ℕ) × (member_field Q h.self y ≡ Some j) → FoundFirst j x
    found_first j x e (y, d) =
        let name : y ≡ x = same_Some y x (sym (found_name Q h.self y j d) ∙ e) in
        let z = from_second (member_field P g.self x) (member_field Q h.self x) j (member_fields K x g.self h.self E.self)
        (subst (λ z. member_field Q h.self z ≡ Some j) name d) in
        record { number = z.0; found = z.1; pair = z.2 }

    this_access : (S : Plain) (c j : ℕ) (x : List ℕ) → member_field S c x ≡ Some j → access_type S (a_value (class_type c)) x ≡ field_type S j
    unfolding access_type field_in
    this_access S c j x e = ap (option_and_then (field_type S)) e

    pub statics : {e d : Ex} → One P Q e d → Stands P g e → Stands Q h d → OneStatic (static P g e) (static Q h d)
    statics o_number a b = one_value int_one
    statics o_character a b = one_value (record { base = one_char; dim = refl })
    statics o_text a b = one_value text_one
    statics o_truth a b = one_value truth_one
    statics o_null a b = one_null
    statics o_this a b = one_value (class_one g.self h.self E.self)
    statics (o_local {i = i}) a b = or_one (get_related E.locals i)
    statics (o_static_field {f = f} {g = j} p) a b = or_one (field_types f j (field_pair K f j p))
    statics (o_own_field {f = f} {g = j} p) a b = or_one (field_types f j (field_pair K f j p))
    statics (o_own_written {f = f} {x = x} p) a b =
        let z = found_second f x p a in
        or_one (subst (λ y. BothRelated OneType (field_type P f) y) (sym (this_access Q h.self z.number x z.found)) (field_types f z.number z.pair))
    statics (o_written_own {g = j} {x = x} p) a b =
        let z = found_first j x p b in
        or_one (subst (λ y. BothRelated OneType y (field_type Q j)) (sym (this_access P g.self z.number x z.found)) (field_types z.number j z.pair))
    statics (o_field {x = x} p) a b = or_one (accesses x (statics p a b))
    statics (o_index p q) a b = or_one (elements_of (statics p a.0 b.0))
    statics (o_call {x = x} p ps) a b = given_one (call_signatures x _ _ (statics p a.0 b.0))
    statics (o_static_call {m = m} {n = n} p ps) a b = given_one (method_signatures m n (method_pair K m n p))
    statics (o_super_call {x = x} ps) a b = given_one (super_signatures x g.self h.self E.self)
    statics (o_create {c = c} {d = d} p ps) a b = one_value (class_one c d p)
    statics (o_create_array p q) a b = one_value p
    statics (o_cast p q) a b = one_value p
    statics (o_instance_of p q) a b = one_value truth_one
    statics (o_unary {o = o} p) a b = one_value (unary_one o)
    statics (o_binary {o = o} p q) a b = one_value (binary_one o (statics p a.0 b.0) (statics q a.1 b.1))
