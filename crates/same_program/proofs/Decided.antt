-- The tests decide whether two programs are one.
use Rattle.std.proofs.Common.{◌≡◌, ℕ, zero, suc, List, [], ◌∷◌, length, refl, sym, ap, ◌∙◌, subst}
use Rattle.std.specs.Prelude.{ℤ, ◌↔◌, is_none, ◌&&◌, ◌||◌, Bool, true, false, Option, Some, None, slice_get}
use Rattle.std.specs.List.{list_any}
use Rattle.std.specs.Bool.{Decides, beq}
use Rattle.std.specs.Str.{bytes_eq}
use Rattle.std.specs.Cmp.{unsigned_Decides, signed_Decides, booleans_Decides}
use Rattle.std.proofs.lemmas.Bool.{false≢true}
use Rattle.std.proofs.lemmas.Option.{same_Some}
use Rattle.std.proofs.lemmas.Slice.Eq.{bytes_eq-Decides}
use Rattle.kaba_base.specs.declared.ClassId.{ClassId}
use Rattle.java_core.specs.declared.Ty.{Ty}
use Rattle.java_core.specs.declared.TyBase.{TyBase}
use Rattle.java_core.specs.declared.TyBase.TheVariants.{Int, Boolean, Char, Str, Class}
use Rattle.java_core.specs.declared.UnOp.{UnOp}
use Rattle.java_core.specs.declared.UnOp.TheVariants as un
use Rattle.java_core.specs.declared.BinOp.{BinOp}
use Rattle.java_core.specs.declared.BinOp.TheVariants as bin
use Rattle.java_core.specs.declared.Op.{Op}
use Rattle.java_core.specs.declared.Op.TheVariants as op
use Rattle.java_core.specs.Trees.{Tag, Ex, Exs, no_ex, ex_then, number, character, text, truth, null, this, local, static_field, own_field, field, index, call, static_call, super_call, create, create_array, cast, instance_of, unary, binary, Target, to_local, to_static, to_own, to_field, to_element, St, Sts, IfArms, declare, block, assign, act, print, choose, loop, return, break, continue, no_st, st_then, no_other, otherwise, arm}
use Rattle.java_core.specs.Programs.{Plain, PlainClass, PlainField, PlainLocal, PlainMethod}
use Rattle.java_meaning.specs.Paired.{pair_none, pair_some, pair_declare, pair_block, pair_assign, pair_act, pair_print, pair_choose, pair_loop, pair_return, pair_break, pair_continue, pair_no_st, pair_st_then, pair_no_other, pair_otherwise, pair_arm}
use Rattle.rebuild_model.specs.OneBodies.{class_name, field_name, IsOneClass, IsOneBase, one_int, one_boolean, one_char, one_string, one_class as class_of_base, IsOneType, IsOneField, IsOneMethod, One, OneAll, OneTarget, OneIf, OneSt, OneSts, OneArms, o_number, o_character, o_text, o_truth, o_null, o_this, o_local, o_static_field, o_own_field, o_own_written, o_written_own, o_field, o_index, o_call, o_static_call, o_super_call, o_create, o_create_array, o_cast, o_instance_of, o_unary, o_binary, o_no_ex, o_ex_then, o_to_local, o_to_static, o_to_own, o_to_own_written, o_to_written_own, o_to_field, o_to_element}
use Rattle.rebuild_model.specs.OnePrograms.{AreRelated, none_related, one_related, BothRelated, neither, both, HasRelated, AreMatched, IsOneClassAs, IsOneFieldAs, IsOneVariable, IsOneMethodAs, AreOne}
use Rattle.same_program.specs.Same.{both_named, is_named, is_this, may_one, all_one, each_one, matched, one_unary, one_op, one_binary, one_class, one_base, one_type, one_fields, one_field, one_methods, one_method, one_ex, one_all, one_if, one_target, one_st, one_sts, one_arms, one_id, one_class_as, one_field_as, one_variable, one_method_as, are_one}

-- both of two tests
pair : {A B : Type 0} {s t : Bool} → Decides s A → Decides t B → Decides (s && t) (A × B)
pair {s = true} {t = t} a b = (λ h. (a.0 refl, b.0 h), λ r. b.1 r.1)
pair {s = false} {t = t} a b = (λ h. absurd (false≢true h), λ r. a.1 r.0)

via : {A B : Type 0} {s : Bool} → Decides s A → (A → B) → (B → A) → Decides s B
via a f g = (λ h. f (a.0 h), λ r. a.1 (g r))

yes : {A : Type 0} → A → Decides true A
yes a = (λ h. a, λ r. refl)

no : {A : Type 0} → (A → ⊥) → Decides false A
no f = (λ h. absurd (false≢true h), λ r. absurd (f r))

-- names
is_one : (x : List ℕ) (o : Option (List ℕ)) (y : List ℕ) → o ≡ Some x → bytes_eq x y ≡ true → o ≡ Some y
is_one x o y e h = e ∙ ap (λ z. Some z) ((bytes_eq-Decides x y).0 h)

named_decides : (o : Option (List ℕ)) (x : List ℕ) → Decides (is_named o x) (o ≡ Some x)
named_decides None x = no (λ e. cc)
named_decides (Some y) x = via (bytes_eq-Decides y x) (λ e. ap (λ z. Some z) e) (λ e. same_Some y x e)

unary_decides : (o p : UnOp) → Decides (one_unary o p) (o ≡ p)
unary_decides un.Plus un.Plus = yes refl
unary_decides un.Minus un.Minus = yes refl
unary_decides un.Flip un.Flip = yes refl
unary_decides un.Not un.Not = yes refl
unary_decides _ _ = no (λ e. cc)

op_decides : (o p : Op) → Decides (one_op o p) (o ≡ p)
op_decides op.Plus op.Plus = yes refl
op_decides op.Minus op.Minus = yes refl
op_decides op.Times op.Times = yes refl
op_decides op.Divide op.Divide = yes refl
op_decides op.Remainder op.Remainder = yes refl
op_decides op.ShiftLeft op.ShiftLeft = yes refl
op_decides op.ShiftRight op.ShiftRight = yes refl
op_decides op.ShiftRightUnsigned op.ShiftRightUnsigned = yes refl
op_decides op.And op.And = yes refl
op_decides op.Or op.Or = yes refl
op_decides op.Xor op.Xor = yes refl
op_decides _ _ = no (λ e. cc)

binary_decides : (o p : BinOp) → Decides (one_binary o p) (o ≡ p)
binary_decides (bin.Int o) (bin.Int q) = via (op_decides o q) (λ e. ap (λ z. bin.Int z) e) (λ e. cc)
binary_decides bin.Same bin.Same = yes refl
binary_decides bin.Differs bin.Differs = yes refl
binary_decides bin.Less bin.Less = yes refl
binary_decides bin.Greater bin.Greater = yes refl
binary_decides bin.AtMost bin.AtMost = yes refl
binary_decides bin.AtLeast bin.AtLeast = yes refl
binary_decides bin.Both bin.Both = yes refl
binary_decides bin.Either bin.Either = yes refl
binary_decides _ _ = no (λ e. cc)

-- what may be left out, and lists
module _ {A : Type 0} {R : A → A → Type 0} (f : A → A → Bool) (d : (x y : A) → Decides (f x y) (R x y)) where
  got : {x y : A} → BothRelated R (Some x) (Some y) → R x y
  got (both r) = r

  pub may_decides : (o p : Option A) → Decides (may_one f o p) (BothRelated R o p)
  may_decides None None = yes neither
  may_decides (Some x) (Some y) = via (d x y) (λ r. both r) got
  may_decides None (Some y) = no (λ r. elim r [ ])
  may_decides (Some x) None = no (λ r. elim r [ ])

  first_of : {x y : A} {xs ys : List A} → AreRelated R (x ∷ xs) (y ∷ ys) → R x y × AreRelated R xs ys
  first_of (one_related r rs) = (r, rs)

  pub all_decides : (xs ys : List A) → Decides (all_one f xs ys) (AreRelated R xs ys)
  all_decides [] [] = yes none_related
  all_decides (x ∷ xs) (y ∷ ys) = via (pair (d x y) (all_decides xs ys)) (λ r. one_related r.0 r.1) first_of
  all_decides [] (y ∷ ys) = no (λ r. elim r [ ])
  all_decides (x ∷ xs) [] = no (λ r. elim r [ ])

module _ {A : Type 0} {R : A → Type 0} (f : A → Bool) (d : (x : A) → Decides (f x) (R x)) where
  nothing : {B : Type 0} → HasRelated R [] → B
  nothing h = absurd (let e = h.stands in cc)

  behind : {x : A} {xs : List A} → HasRelated R xs → HasRelated R (x ∷ xs)
  behind h = record { number = suc h.number; item = h.item; stands = h.stands; related = h.related }

  pub any_decides : (xs : List A) → Decides (list_any f xs) (HasRelated R xs)
  any_decides [] = no (λ h. nothing h)
  any_decides (x ∷ xs) = go (f x) (d x) (any_decides xs)
    where
      here : (n : ℕ) (z : A) → slice_get (x ∷ xs) n ≡ Some z → R z → (R x → ⊥) → HasRelated R xs
      here zero z e r n = absurd (n (subst R (sym (same_Some x z e)) r))
      here (suc i) z e r n = record { number = i; item = z; stands = e; related = r }

      go : (b : Bool) → Decides b (R x) → Decides (list_any f xs) (HasRelated R xs) → Decides (b || list_any f xs) (HasRelated R (x ∷ xs))
      go true a m = (λ h. record { number = 0; item = x; stands = refl; related = a.0 refl }, λ r. refl)
      go false a m = (λ h. behind (m.0 h), λ r. m.1 (here r.number r.item r.stands r.related (λ q. false≢true (a.1 q))))

  pub Each : List A → Type 0
  Each xs = (i : ℕ) (x : A) → slice_get xs i ≡ Some x → R x

  pub each_decides : (xs : List A) → Decides (each_one f xs) (Each xs)
  unfolding Each
  each_decides [] = yes (λ i x e. absurd (cc))
  each_decides (x ∷ xs) = via (pair (d x) (each_decides xs)) (λ r. all r.0 r.1) (λ r. (r zero x refl, λ i z e. r (suc i) z e))
    where
      all : R x → ((i : ℕ) (z : A) → slice_get xs i ≡ Some z → R z) → (i : ℕ) (z : A) → slice_get (x ∷ xs) i ≡ Some z → R z
      all r rs zero z e = subst R (same_Some x z e) r
      all r rs (suc i) z e = rs i z e

module _ {A : Type 0} {R : A → A → Type 0} (f : A → A → Bool) (d : (x y : A) → Decides (f x y) (R x y)) where
  pub matched_decides : (xs ys : List A) → Decides (matched f xs ys) (AreMatched R xs ys)
  unfolding Each
  matched_decides xs ys = via
      (pair (each_decides (λ x. list_any (f x) ys) (λ x. any_decides (f x) (d x) ys) xs) (unsigned_Decides (length xs) (length ys)))
      (λ r. record { each = r.0; as_many = r.1 }) (λ r. (r.each, r.as_many))

module _ (P Q : Plain) where
  class_decides : (c d : ℕ) → Decides (one_class P Q c d) (IsOneClass P Q c d)
  class_decides c d = go (class_name P c) (class_name Q d) refl refl
    where
      go : (o p : Option (List ℕ)) → class_name P c ≡ o → class_name Q d ≡ p → Decides (both_named o p) (IsOneClass P Q c d)
      go (Some x) (Some y) e h = via (bytes_eq-Decides x y) (λ s. record { name = x; first_name = e; second_name = h ∙ ap (λ z. Some z) (sym s) })
          (λ r. same_Some x y (sym e ∙ r.first_name ∙ sym r.second_name ∙ h))
      go (Some x) None e h = no (λ r. let w = sym h ∙ r.second_name in cc)
      go None (Some y) e h = no (λ r. let w = sym e ∙ r.first_name in cc)
      go None None e h = no (λ r. let w = sym e ∙ r.first_name in cc)

  base_class : {c d : ClassId} → IsOneBase P Q (Class c) (Class d) → IsOneClass P Q c.0 d.0
  base_class (class_of_base o) = o

  base_decides : (b c : TyBase) → Decides (one_base P Q b c) (IsOneBase P Q b c)
  base_decides Int Int = yes one_int
  base_decides Boolean Boolean = yes one_boolean
  base_decides Char Char = yes one_char
  base_decides Str Str = yes one_string
  base_decides (Class c) (Class d) = via (class_decides c.0 d.0) (λ o. class_of_base o) base_class
  base_decides _ _ = no (λ r. elim r [ ])

  type_decides : (t u : Ty) → Decides (one_type P Q t u) (IsOneType P Q t u)
  type_decides t u = via (pair (base_decides t.base u.base) (unsigned_Decides t.dim u.dim)) (λ r. record { base = r.0; dim = r.1 }) (λ r. (r.base, r.dim))

  field_decides : (f g : ℕ) → Decides (one_field P Q f g) (IsOneField P Q f g)
  field_decides f g = go (slice_get P.fields f) (slice_get Q.fields g) refl refl
    where
      go : (o p : Option PlainField) → slice_get P.fields f ≡ o → slice_get Q.fields g ≡ p → Decides (one_fields P Q o p) (IsOneField P Q f g)
      go (Some k) (Some l) e h = via (pair (class_decides k.owner l.owner) (bytes_eq-Decides k.name l.name))
          (λ r. record { first = k; second = l; first_stands = e; second_stands = h; owner = r.0; name = r.1 })
          (λ r.
          let a : r.first ≡ k = same_Some r.first k (sym r.first_stands ∙ e) in
          let b : r.second ≡ l = same_Some r.second l (sym r.second_stands ∙ h) in (
            subst (λ z. IsOneClass P Q k.owner z.owner) b (subst (λ z. IsOneClass P Q z.owner r.second.owner) a r.owner),
            ap (λ z. z.name) (sym a) ∙ r.name ∙ ap (λ z. z.name) b,
          ))
      go (Some k) None e h = no (λ r. let w = sym h ∙ r.second_stands in cc)
      go None (Some l) e h = no (λ r. let w = sym e ∙ r.first_stands in cc)
      go None None e h = no (λ r. let w = sym e ∙ r.first_stands in cc)

  method_decides : (m n : ℕ) → Decides (one_method P Q m n) (IsOneMethod P Q m n)
  method_decides m n = go (slice_get P.methods m) (slice_get Q.methods n) refl refl
    where
      go : (o p : Option PlainMethod) → slice_get P.methods m ≡ o → slice_get Q.methods n ≡ p → Decides (one_methods P Q o p) (IsOneMethod P Q m n)
      go (Some k) (Some l) e h = via (pair (class_decides k.owner l.owner) (bytes_eq-Decides k.name l.name))
          (λ r. record { first = k; second = l; first_stands = e; second_stands = h; owner = r.0; name = r.1 })
          (λ r.
          let a : r.first ≡ k = same_Some r.first k (sym r.first_stands ∙ e) in
          let b : r.second ≡ l = same_Some r.second l (sym r.second_stands ∙ h) in (
            subst (λ z. IsOneClass P Q k.owner z.owner) b (subst (λ z. IsOneClass P Q z.owner r.second.owner) a r.owner),
            ap (λ z. z.name) (sym a) ∙ r.name ∙ ap (λ z. z.name) b,
          ))
      go (Some k) None e h = no (λ r. let w = sym h ∙ r.second_stands in cc)
      go None (Some l) e h = no (λ r. let w = sym e ∙ r.first_stands in cc)
      go None None e h = no (λ r. let w = sym e ∙ r.first_stands in cc)

  -- what two expressions of one form say of their parts
  number_parts : {t u : Tag} {n m : ℤ} → One P Q (number t n) (number u m) → n ≡ m
  number_parts o_number = refl

  character_parts : {t u : Tag} {c d : ℕ} → One P Q (character t c) (character u d) → c ≡ d
  character_parts o_character = refl

  text_parts : {t u : Tag} {x y : List ℕ} → One P Q (text t x) (text u y) → x ≡ y
  text_parts o_text = refl

  truth_parts : {t u : Tag} {b c : Bool} → One P Q (truth t b) (truth u c) → b ≡ c
  truth_parts o_truth = refl

  local_parts : {t u : Tag} {i j : ℕ} → One P Q (local t i) (local u j) → i ≡ j
  local_parts o_local = refl

  static_parts : {t u : Tag} {f g : ℕ} → One P Q (static_field t f) (static_field u g) → IsOneField P Q f g
  static_parts (o_static_field p) = p

  own_parts : {t u : Tag} {f g : ℕ} → One P Q (own_field t f) (own_field u g) → IsOneField P Q f g
  own_parts (o_own_field p) = p

  own_written_parts : {t u : Tag} {f : ℕ} {d : Ex} {y : List ℕ} → One P Q (own_field t f) (field u d y) → (is_this d ≡ true) × (field_name P f ≡ Some y)
  own_written_parts (o_own_written p) = (refl, p)

  written_own_parts : {t u : Tag} {g : ℕ} {e : Ex} {x : List ℕ} → One P Q (field t e x) (own_field u g) → (is_this e ≡ true) × (field_name Q g ≡ Some x)
  written_own_parts (o_written_own p) = (refl, p)

  field_parts : {t u : Tag} {e d : Ex} {x y : List ℕ} → One P Q (field t e x) (field u d y) → (x ≡ y) × One P Q e d
  field_parts (o_field p) = (refl, p)

  index_parts : {t u : Tag} {e d i j : Ex} → One P Q (index t e i) (index u d j) → One P Q e d × One P Q i j
  index_parts (o_index p q) = (p, q)

  call_parts : {t u : Tag} {e d : Ex} {x y : List ℕ} {es ds : Exs} → One P Q (call t e x es) (call u d y ds) → (x ≡ y) × (One P Q e d × OneAll P Q es ds)
  call_parts (o_call p ps) = (refl, (p, ps))

  static_call_parts : {t u : Tag} {m n : ℕ} {es ds : Exs} → One P Q (static_call t m es) (static_call u n ds) → IsOneMethod P Q m n × OneAll P Q es ds
  static_call_parts (o_static_call p ps) = (p, ps)

  super_parts : {t u : Tag} {x y : List ℕ} {es ds : Exs} → One P Q (super_call t x es) (super_call u y ds) → (x ≡ y) × OneAll P Q es ds
  super_parts (o_super_call ps) = (refl, ps)

  create_parts : {t u : Tag} {n j c d : ℕ} {es ds : Exs} → One P Q (create t n c es) (create u j d ds) → IsOneClass P Q c d × OneAll P Q es ds
  create_parts (o_create p ps) = (p, ps)

  array_parts : {t u : Tag} {n j : ℕ} {v w : Ty} {e d : Ex} → One P Q (create_array t n v e) (create_array u j w d) → IsOneType P Q v w × One P Q e d
  array_parts (o_create_array p q) = (p, q)

  cast_parts : {t u : Tag} {n j : ℕ} {v w : Ty} {e d : Ex} → One P Q (cast t n v e) (cast u j w d) → IsOneType P Q v w × One P Q e d
  cast_parts (o_cast p q) = (p, q)

  test_parts : {t u : Tag} {n j b c : ℕ} {e d : Ex} → One P Q (instance_of t n e b) (instance_of u j d c) → IsOneClass P Q b c × One P Q e d
  test_parts (o_instance_of p q) = (q, p)

  unary_parts : {t u : Tag} {o p : UnOp} {e d : Ex} → One P Q (unary t o e) (unary u p d) → (o ≡ p) × One P Q e d
  unary_parts (o_unary p) = (refl, p)

  binary_parts : {t u : Tag} {o p : BinOp} {a b c d : Ex} → One P Q (binary t o a b) (binary u p c d) → (o ≡ p) × (One P Q a c × One P Q b d)
  binary_parts (o_binary p q) = (refl, (p, q))

  all_parts : {e d : Ex} {es ds : Exs} → OneAll P Q (ex_then e es) (ex_then d ds) → One P Q e d × OneAll P Q es ds
  all_parts (o_ex_then p ps) = (p, ps)

  this_itself : (e : Ex) → Decides (is_this e) (is_this e ≡ true)
  this_itself e = (λ h. h, λ h. h)

  own_written_one : {t u : Tag} {f : ℕ} {y : List ℕ} (d : Ex) → is_this d ≡ true → field_name P f ≡ Some y → One P Q (own_field t f) (field u d y)
  own_written_one (this v) h e = o_own_written e
  own_written_one _ h e = absurd (false≢true h)

  written_own_one : {t u : Tag} {g : ℕ} {x : List ℕ} (e : Ex) → is_this e ≡ true → field_name Q g ≡ Some x → One P Q (field t e x) (own_field u g)
  written_own_one (this v) h e = o_written_own e
  written_own_one _ h e = absurd (false≢true h)

  -- an expression that is one with a field of an expression is a field
  is_field : Ex → Bool
  is_field (own_field t f) = true
  is_field (field t e x) = true
  is_field _ = false

  with_field : {t : Tag} {e d : Ex} {x : List ℕ} → One P Q (field t e x) d → is_field d ≡ true
  unfolding is_field
  with_field (o_written_own p) = refl
  with_field (o_field p) = refl

  mutual
    unfolding is_field

    ex_decides : (e d : Ex) → Decides (one_ex P Q e d) (One P Q e d)
    ex_decides (number t n) (number u m) = via (signed_Decides n m) (λ h. subst (λ z. One P Q (number t n) (number u z)) h o_number) number_parts
    ex_decides (character t c) (character u d) = via (unsigned_Decides c d) (λ h. subst (λ z. One P Q (character t c) (character u z)) h o_character)
        character_parts
    ex_decides (text t x) (text u y) = via (bytes_eq-Decides x y) (λ h. subst (λ z. One P Q (text t x) (text u z)) h o_text) text_parts
    ex_decides (truth t b) (truth u c) = via (booleans_Decides b c) (λ h. subst (λ z. One P Q (truth t b) (truth u z)) h o_truth) truth_parts
    ex_decides (null t) (null u) = yes o_null
    ex_decides (this t) (this u) = yes o_this
    ex_decides (local t i) (local u j) = via (unsigned_Decides i j) (λ h. subst (λ z. One P Q (local t i) (local u z)) h o_local) local_parts
    ex_decides (static_field t f) (static_field u g) = via (field_decides f g) (λ p. o_static_field p) static_parts
    ex_decides (own_field t f) (own_field u g) = via (field_decides f g) (λ p. o_own_field p) own_parts
    ex_decides (own_field t f) (field u d y) = via (pair (this_itself d) (named_decides (field_name P f) y)) (λ r. own_written_one d r.0 r.1) own_written_parts
    ex_decides (field t e x) (own_field u g) = via (pair (this_itself e) (named_decides (field_name Q g) x)) (λ r. written_own_one e r.0 r.1) written_own_parts
    ex_decides (field t e x) (field u d y) = via (pair (bytes_eq-Decides x y) (ex_decides e d))
        (λ r. subst (λ z. One P Q (field t e x) (field u d z)) r.0 (o_field r.1)) field_parts
    ex_decides (index t e i) (index u d j) = via (pair (ex_decides e d) (ex_decides i j)) (λ r. o_index r.0 r.1) index_parts
    ex_decides (call t e x es) (call u d y ds) = via (pair (bytes_eq-Decides x y) (pair (ex_decides e d) (exs_decides es ds)))
        (λ r. subst (λ z. One P Q (call t e x es) (call u d z ds)) r.0 (o_call r.1.0 r.1.1)) call_parts
    ex_decides (static_call t m es) (static_call u n ds) = via (pair (method_decides m n) (exs_decides es ds)) (λ r. o_static_call r.0 r.1) static_call_parts
    ex_decides (super_call t x es) (super_call u y ds) = via (pair (bytes_eq-Decides x y) (exs_decides es ds))
        (λ r. subst (λ z. One P Q (super_call t x es) (super_call u z ds)) r.0 (o_super_call r.1)) super_parts
    ex_decides (create t n c es) (create u j d ds) = via (pair (class_decides c d) (exs_decides es ds)) (λ r. o_create r.0 r.1) create_parts
    ex_decides (create_array t n v e) (create_array u j w d) = via (pair (type_decides v w) (ex_decides e d)) (λ r. o_create_array r.0 r.1) array_parts
    ex_decides (cast t n v e) (cast u j w d) = via (pair (type_decides v w) (ex_decides e d)) (λ r. o_cast r.0 r.1) cast_parts
    ex_decides (instance_of t n e b) (instance_of u j d c) = via (pair (class_decides b c) (ex_decides e d)) (λ r. o_instance_of r.1 r.0) test_parts
    ex_decides (unary t o e) (unary u p d) = via (pair (unary_decides o p) (ex_decides e d))
        (λ r. subst (λ z. One P Q (unary t o e) (unary u z d)) r.0 (o_unary r.1)) unary_parts
    ex_decides (binary t o a b) (binary u p c d) = via (pair (binary_decides o p) (pair (ex_decides a c) (ex_decides b d)))
        (λ r. subst (λ z. One P Q (binary t o a b) (binary u z c d)) r.0 (o_binary r.1.0 r.1.1)) binary_parts
    ex_decides (field t e x) _ = no (λ r. false≢true (with_field r))
    ex_decides _ _ = no (λ r. elim r [ ])

    exs_decides : (es ds : Exs) → Decides (one_all P Q es ds) (OneAll P Q es ds)
    exs_decides no_ex no_ex = yes o_no_ex
    exs_decides (ex_then e es) (ex_then d ds) = via (pair (ex_decides e d) (exs_decides es ds)) (λ r. o_ex_then r.0 r.1) all_parts
    exs_decides no_ex (ex_then d ds) = no (λ r. elim r [ ])
    exs_decides (ex_then e es) no_ex = no (λ r. elim r [ ])

  if_part : {e d : Ex} → OneIf P Q (Some e) (Some d) → One P Q e d
  if_part (pair_some p) = p

  if_decides : (e d : Option Ex) → Decides (one_if P Q e d) (OneIf P Q e d)
  if_decides None None = yes pair_none
  if_decides (Some e) (Some d) = via (ex_decides e d) (λ r. pair_some r) if_part
  if_decides None (Some d) = no (λ r. elim r [ ])
  if_decides (Some e) None = no (λ r. elim r [ ])

  -- targets
  to_local_parts : {t u : Tag} {i j : ℕ} → OneTarget P Q (to_local t i) (to_local u j) → i ≡ j
  to_local_parts o_to_local = refl

  to_static_parts : {t u : Tag} {f g : ℕ} → OneTarget P Q (to_static t f) (to_static u g) → IsOneField P Q f g
  to_static_parts (o_to_static p) = p

  to_own_parts : {t u : Tag} {f g : ℕ} → OneTarget P Q (to_own t f) (to_own u g) → IsOneField P Q f g
  to_own_parts (o_to_own p) = p

  to_own_written_parts : {t u : Tag} {f : ℕ} {d : Ex} {y : List ℕ} → OneTarget P Q (to_own t f) (to_field u d y)
      → (is_this d ≡ true) × (field_name P f ≡ Some y)
  to_own_written_parts (o_to_own_written p) = (refl, p)

  to_written_own_parts : {t u : Tag} {g : ℕ} {e : Ex} {x : List ℕ} → OneTarget P Q (to_field t e x) (to_own u g)
      → (is_this e ≡ true) × (field_name Q g ≡ Some x)
  to_written_own_parts (o_to_written_own p) = (refl, p)

  to_field_parts : {t u : Tag} {e d : Ex} {x y : List ℕ} → OneTarget P Q (to_field t e x) (to_field u d y) → (x ≡ y) × One P Q e d
  to_field_parts (o_to_field p) = (refl, p)

  to_element_parts : {t u : Tag} {e d i j : Ex} → OneTarget P Q (to_element t e i) (to_element u d j) → One P Q e d × One P Q i j
  to_element_parts (o_to_element p q) = (p, q)

  to_own_written_one : {t u : Tag} {f : ℕ} {y : List ℕ} (d : Ex) → is_this d ≡ true → field_name P f ≡ Some y → OneTarget P Q (to_own t f) (to_field u d y)
  to_own_written_one (this v) h e = o_to_own_written e
  to_own_written_one _ h e = absurd (false≢true h)

  to_written_own_one : {t u : Tag} {g : ℕ} {x : List ℕ} (e : Ex) → is_this e ≡ true → field_name Q g ≡ Some x → OneTarget P Q (to_field t e x) (to_own u g)
  to_written_own_one (this v) h e = o_to_written_own e
  to_written_own_one _ h e = absurd (false≢true h)

  is_to_field : Target → Bool
  is_to_field (to_own t f) = true
  is_to_field (to_field t e x) = true
  is_to_field _ = false

  to_with_field : {t : Tag} {e : Ex} {x : List ℕ} {c : Target} → OneTarget P Q (to_field t e x) c → is_to_field c ≡ true
  unfolding is_to_field
  to_with_field (o_to_written_own p) = refl
  to_with_field (o_to_field p) = refl

  target_decides : (b c : Target) → Decides (one_target P Q b c) (OneTarget P Q b c)
  unfolding is_to_field
  target_decides (to_local t i) (to_local u j) = via (unsigned_Decides i j) (λ h. subst (λ z. OneTarget P Q (to_local t i) (to_local u z)) h o_to_local)
      to_local_parts
  target_decides (to_static t f) (to_static u g) = via (field_decides f g) (λ p. o_to_static p) to_static_parts
  target_decides (to_own t f) (to_own u g) = via (field_decides f g) (λ p. o_to_own p) to_own_parts
  target_decides (to_own t f) (to_field u d y) = via (pair (this_itself d) (named_decides (field_name P f) y)) (λ r. to_own_written_one d r.0 r.1)
      to_own_written_parts
  target_decides (to_field t e x) (to_own u g) = via (pair (this_itself e) (named_decides (field_name Q g) x)) (λ r. to_written_own_one e r.0 r.1)
      to_written_own_parts
  target_decides (to_field t e x) (to_field u d y) = via (pair (bytes_eq-Decides x y) (ex_decides e d))
      (λ r. subst (λ z. OneTarget P Q (to_field t e x) (to_field u d z)) r.0 (o_to_field r.1)) to_field_parts
  target_decides (to_element t e i) (to_element u d j) = via (pair (ex_decides e d) (ex_decides i j)) (λ r. o_to_element r.0 r.1) to_element_parts
  target_decides (to_field t e x) _ = no (λ r. false≢true (to_with_field r))
  target_decides _ _ = no (λ r. elim r [ ])

  -- statements
  declare_parts : {t u : Tag} {i j : ℕ} {e d : Option Ex} → OneSt P Q (declare t i e) (declare u j d) → (i ≡ j) × OneIf P Q e d
  declare_parts (pair_declare p) = (refl, p)

  block_parts : {t u : Tag} {xs ys : Sts} → OneSt P Q (block t xs) (block u ys) → OneSts P Q xs ys
  block_parts (pair_block ps) = ps

  assign_parts : {t u : Tag} {b c : Target} {e d : Ex} → OneSt P Q (assign t b e) (assign u c d) → OneTarget P Q b c × One P Q e d
  assign_parts (pair_assign p q) = (p, q)

  act_parts : {t u : Tag} {e d : Ex} → OneSt P Q (act t e) (act u d) → One P Q e d
  act_parts (pair_act p) = p

  print_parts : {t u : Tag} {n m : Bool} {e d : Option Ex} → OneSt P Q (print t n e) (print u m d) → (n ≡ m) × OneIf P Q e d
  print_parts (pair_print p) = (refl, p)

  choose_parts : {t u : Tag} {a b : IfArms} → OneSt P Q (choose t a) (choose u b) → OneArms P Q a b
  choose_parts (pair_choose p) = p

  loop_parts : {t u : Tag} {w v : Bool} {first step body start last code : Sts} {e d : Option Ex}
      → OneSt P Q (loop t w first e step body) (loop u v start d last code)
      → (w ≡ v) × (OneSts P Q first start × (OneIf P Q e d × (OneSts P Q step last × OneSts P Q body code)))
  loop_parts (pair_loop p q r s) = (refl, (p, (q, (r, s))))

  return_parts : {t u : Tag} {e d : Option Ex} → OneSt P Q (return t e) (return u d) → OneIf P Q e d
  return_parts (pair_return p) = p

  then_parts : {x y : St} {xs ys : Sts} → OneSts P Q (st_then x xs) (st_then y ys) → OneSt P Q x y × OneSts P Q xs ys
  then_parts (pair_st_then p ps) = (p, ps)

  otherwise_parts : {xs ys : Sts} → OneArms P Q (otherwise xs) (otherwise ys) → OneSts P Q xs ys
  otherwise_parts (pair_otherwise ps) = ps

  arm_parts : {e d : Ex} {xs ys : Sts} {a b : IfArms} → OneArms P Q (arm e xs a) (arm d ys b) → (One P Q e d × OneSts P Q xs ys) × OneArms P Q a b
  arm_parts (pair_arm p ps q) = ((p, ps), q)

  mutual
    st_decides : (x y : St) → Decides (one_st P Q x y) (OneSt P Q x y)
    st_decides (declare t i e) (declare u j d) = via (pair (unsigned_Decides i j) (if_decides e d))
        (λ r. subst (λ z. OneSt P Q (declare t i e) (declare u z d)) r.0 (pair_declare r.1)) declare_parts
    st_decides (block t xs) (block u ys) = via (sts_decides xs ys) (λ r. pair_block r) block_parts
    st_decides (assign t b e) (assign u c d) = via (pair (target_decides b c) (ex_decides e d)) (λ r. pair_assign r.0 r.1) assign_parts
    st_decides (act t e) (act u d) = via (ex_decides e d) (λ r. pair_act r) act_parts
    st_decides (print t n e) (print u m d) = via (pair (booleans_Decides n m) (if_decides e d))
        (λ r. subst (λ z. OneSt P Q (print t n e) (print u z d)) r.0 (pair_print r.1)) print_parts
    st_decides (choose t a) (choose u b) = via (arms_decides a b) (λ r. pair_choose r) choose_parts
    st_decides (loop t w first test step body) (loop u v start other last code) =
        via (pair (booleans_Decides w v) (pair (sts_decides first start) (pair (if_decides test other) (pair (sts_decides step last) (sts_decides body code)))))
        (λ r. subst (λ z. OneSt P Q (loop t w first test step body) (loop u z start other last code)) r.0 (pair_loop r.1.0 r.1.1.0 r.1.1.1.0 r.1.1.1.1)) loop_parts
    st_decides (return t e) (return u d) = via (if_decides e d) (λ r. pair_return r) return_parts
    st_decides (break t) (break u) = yes pair_break
    st_decides (continue t) (continue u) = yes pair_continue
    st_decides _ _ = no (λ r. elim r [ ])

    sts_decides : (xs ys : Sts) → Decides (one_sts P Q xs ys) (OneSts P Q xs ys)
    sts_decides no_st no_st = yes pair_no_st
    sts_decides (st_then x xs) (st_then y ys) = via (pair (st_decides x y) (sts_decides xs ys)) (λ r. pair_st_then r.0 r.1) then_parts
    sts_decides no_st (st_then y ys) = no (λ r. elim r [ ])
    sts_decides (st_then x xs) no_st = no (λ r. elim r [ ])

    arms_decides : (a b : IfArms) → Decides (one_arms P Q a b) (OneArms P Q a b)
    arms_decides no_other no_other = yes pair_no_other
    arms_decides (otherwise xs) (otherwise ys) = via (sts_decides xs ys) (λ r. pair_otherwise r) otherwise_parts
    arms_decides (arm e xs a) (arm d ys b) = via (pair (pair (ex_decides e d) (sts_decides xs ys)) (arms_decides a b))
        (λ r. pair_arm r.0.0 r.0.1 r.1) arm_parts
    arms_decides _ _ = no (λ r. elim r [ ])

  -- types and members
  id_decides : (c d : ClassId) → Decides (one_id P Q c d) (IsOneClass P Q c.0 d.0)
  id_decides c d = class_decides c.0 d.0

  abstract_decides : (i a b : Bool) → Decides (i || beq a b) (i ≡ false → a ≡ b)
  abstract_decides true a b = yes (λ e. absurd (false≢true (sym e)))
  abstract_decides false a b = via (booleans_Decides a b) (λ e i. e) (λ f. f refl)

  class_as_decides : (k l : PlainClass) → Decides (one_class_as P Q k l) (IsOneClassAs P Q k l)
  class_as_decides k l = via
      (pair (pair (bytes_eq-Decides k.name l.name) (pair (booleans_Decides k.is_interface l.is_interface)
      (abstract_decides k.is_interface k.is_abstract l.is_abstract)))
      (pair (may_decides (one_id P Q) id_decides k.parent l.parent) (all_decides (one_id P Q) id_decides k.faces l.faces)))
      (λ r. record { name = r.0.0; kind = r.0.1.0; abstract = r.0.1.1; parent = r.1.0; faces = r.1.1 })
      (λ r. ((r.name, (r.kind, r.abstract)), (r.parent, r.faces)))

  field_as_decides : (k l : PlainField) → Decides (one_field_as P Q k l) (IsOneFieldAs P Q k l)
  field_as_decides k l = via
      (pair (pair (class_decides k.owner l.owner) (bytes_eq-Decides k.name l.name)) (pair (booleans_Decides k.is_static l.is_static)
      (type_decides k.ty l.ty)))
      (λ r. record { owner = r.0.0; name = r.0.1; static = r.1.0; type = r.1.1 }) (λ r. ((r.owner, r.name), (r.static, r.type)))

  variable_decides : (v w : PlainLocal) → Decides (one_variable P Q v w) (IsOneVariable P Q v w)
  variable_decides v w = via (pair (bytes_eq-Decides v.name w.name) (type_decides v.ty w.ty)) (λ r. record { name = r.0; type = r.1 }) (λ r. (r.name, r.type))

  method_as_decides : (k l : PlainMethod) → Decides (one_method_as P Q k l) (IsOneMethodAs P Q k l)
  method_as_decides k l = via
      (pair (pair (pair (class_decides k.owner l.owner) (bytes_eq-Decides k.name l.name)) (booleans_Decides k.is_static l.is_static))
      (pair (all_decides (one_variable P Q) variable_decides k.params l.params) (pair (all_decides (one_variable P Q) variable_decides k.locals l.locals)
      (pair (may_decides (one_type P Q) type_decides k.result l.result) (may_decides (one_sts P Q) sts_decides k.body l.body)))))
      (λ r. record {
        owner = r.0.0.0;
        name = r.0.0.1;
        static = r.0.1;
        params = r.1.0;
        locals = r.1.1.0;
        result = r.1.1.1.0;
        body = r.1.1.1.1;
      })
      (λ r. (((r.owner, r.name), r.static), (r.params, (r.locals, (r.result, r.body)))))

  pub programs_decide : Decides (are_one P Q) (AreOne P Q)
  programs_decide = via
      (pair (matched_decides (one_class_as P Q) class_as_decides P.classes Q.classes)
      (pair (matched_decides (one_field_as P Q) field_as_decides P.fields Q.fields)
      (pair (matched_decides (one_method_as P Q) method_as_decides P.methods Q.methods) (method_decides P.main Q.main))))
      (λ r. record { classes = r.0; fields = r.1.0; methods = r.1.1.0; main = r.1.1.1 })
      (λ r. (r.classes, (r.fields, (r.methods, r.main))))

-- what is told exactly where a test holds
pub exact : {A B : Type 0} (o : Option B) (b : Bool) → is_none o ≡ b → Decides b A → (o ≡ None) ↔ A
exact None b e d = ((λ h. d.0 (sym e)), (λ r. refl))
exact (Some x) b e d = ((λ h. absurd (cc)), (λ r. absurd (let w = e ∙ d.1 r in false≢true w)))
