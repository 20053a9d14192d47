-- The numbers of a body's creations, casts and `instanceof`: each part that is one has its own, and those of a program differ.
use Rattle.std.proofs.Common.{◌≡◌, ℕ, zero, suc, ◌+◌, List, [], ◌∷◌, ◌++◌, Option, Some, None, length, refl, sym, ap, ◌∙◌, subst, arith}
use Rattle.std.specs.Prelude.{Bool, true, false, Contains, slice_get}
use Rattle.std.specs.Option.{option_to_list, is_some}
use Rattle.std.specs.List.{flat_map}
use Rattle.std.proofs.lemmas.Option.{same_Some, slice_get_within}
use Rattle.std.proofs.lemmas.Grind.{flat_map-append}
use Rattle.std.proofs.lemmas.List.Elements.{Contains-append_left, Contains-append_right}
use Rattle.java_core.specs.Trees.{Tag, Ex, Exs, no_ex, ex_then, field, index, call, static_call, super_call, create, create_array, cast, instance_of, unary, binary, Target, to_local, to_static, to_own, to_field, to_element, no_target, Sts}
use Rattle.java_core.specs.Programs.{Plain, PlainMethod}
use Rattle.java_core.specs.Formed.{HasNoTwice, numbers, numbers_all, numbers_if, numbers_target, numbers_sts, numbers_body, numbers_methods}
use Rattle.flow_rules.specs.declared.items.ObjectType.{ObjectType}
use Rattle.flow_rules.specs.declared.items.RowItem.{RowItem}
use Rattle.flow_rules.specs.declared.items.RowItem.TheVariants as row
use Rattle.flow_rules.specs.Labels.{size, label, label_all, label_if, size_target, label_target, label_sts}
use Rattle.flow_rules.specs.Parts.{Part, a_creation, a_test, is_accessed, parts, parts_all, parts_set, parts_return, parts_assign, parts_sts, parts_body, parts_of}
use Rattle.flow_rules.specs.Operands.{type_in}
use Rattle.flow_rules.proofs.Listed.{at_contains, flat_has, at_left}
use Rattle.flow_laws.proofs.cover.StatementParts.{of_sts}
use Rattle.java_core.specs.Makers.{maker_of}

-- the number of what has a row of its own
abbrev pub number_in : Option RowItem → List ℕ
number_in (Some (row.New n)) = n ∷ []
number_in (Some (row.Cast n)) = n ∷ []
number_in (Some (row.Test n)) = n ∷ []
number_in _ = []

abbrev pub part_number : Part → List ℕ
part_number (a_creation p u o s d es) = option_to_list o.created
part_number (a_test p e o) = number_in o.row
part_number _ = []

abbrev pub numbers_in : List Part → List ℕ
numbers_in ps = flat_map part_number ps

join : (ps qs : List Part) (xs ys : List ℕ) → numbers_in ps ≡ xs → numbers_in qs ≡ ys → numbers_in (ps ++ qs) ≡ xs ++ ys
join ps qs xs ys a b = flat_map-append part_number ps qs ∙ ap (λ z. z ++ numbers_in qs) a ∙ ap (λ z. xs ++ z) b

nothing_after : (xs : List ℕ) → xs ++ [] ≡ xs
nothing_after [] = refl
nothing_after (x ∷ xs) = ap (λ z. x ∷ z) (nothing_after xs)

-- and one more part, of no number
joined : (ps : List Part) (p : Part) (xs : List ℕ) → numbers_in ps ≡ xs → part_number p ≡ [] → numbers_in (ps ++ p ∷ []) ≡ xs
joined ps p xs a b = join ps (p ∷ []) xs [] a (ap (λ z. z ++ []) b) ∙ nothing_after xs

module _ (P : Plain) (type : Ex → Option ObjectType) (m : ℕ) (k : PlainMethod) where
  abbrev in_ex : Bool → Ex → List Part
  in_ex u e = parts P type m k u e

  abbrev in_all : Bool → Exs → List Part
  in_all u es = parts_all P type m k u es

  mutual
    ex_numbers : (n : ℕ) (u : Bool) (e : Ex) → numbers_in (in_ex u (label n e)) ≡ numbers e
    ex_numbers n u (field t e x) = joined (in_ex (is_accessed (label n e)) (label n e)) _ (numbers e) (ex_numbers n (is_accessed (label n e)) e) refl
    ex_numbers n u (index t e i) = join (in_ex true (label n e)) _ (numbers e) (numbers i) (ex_numbers n true e)
        (ex_numbers (n + size e + 1) false i)
    ex_numbers n u (call t e x es) = join (in_ex true (label n e)) _ (numbers e) (numbers_all es) (ex_numbers n true e)
        (all_numbers (n + size e + 1) true es)
    ex_numbers n u (static_call t d es) = all_numbers (n + 1) false es
    ex_numbers n u (super_call t x es) = all_numbers (n + 1) false es
    ex_numbers n u (create t i c es) = ap (λ z. i ∷ z) (all_numbers (n + 1) (is_some (maker_of P c)) es)
    ex_numbers n u (create_array t i v e) = ap (λ z. i ∷ z) (ex_numbers (n + 1) false e)
    ex_numbers n u (cast t i v e) = ap (λ z. i ∷ z) (ex_numbers (n + 1) true e)
    ex_numbers n u (instance_of t i e c) = join (in_ex true (label n e)) _ (numbers e) (i ∷ []) (ex_numbers n true e) refl
    ex_numbers n u (unary t o e) = ex_numbers n false e
    ex_numbers n u (binary t o e d) =
        joined (in_ex false (label n e) ++ in_ex false (label (n + size e) d)) _ (numbers e ++ numbers d)
        (join (in_ex false (label n e)) (in_ex false (label (n + size e) d)) (numbers e) (numbers d) (ex_numbers n false e)
        (ex_numbers (n + size e) false d)) refl
    ex_numbers n u e = refl

    all_numbers : (n : ℕ) (u : Bool) (es : Exs) → numbers_in (in_all u (label_all n es)) ≡ numbers_all es
    all_numbers n u no_ex = refl
    all_numbers n u (ex_then e es) = join (in_ex u (label n e)) (in_all u (label_all (n + size e) es)) (numbers e) (numbers_all es)
        (ex_numbers n u e) (all_numbers (n + size e) u es)

  set_numbers : (n : ℕ) (v : Ex) (e : Option Ex) → numbers_in (parts_set P type m k v (label_if n e)) ≡ numbers_if e
  set_numbers n v None = refl
  set_numbers n v (Some e) = joined (in_ex false (label n e)) _ (numbers e) (ex_numbers n false e) refl

  return_numbers : (n : ℕ) (e : Option Ex) → numbers_in (parts_return P type m k (label_if n e)) ≡ numbers_if e
  return_numbers n None = refl
  return_numbers n (Some e) = joined (in_ex false (label n e)) _ (numbers e) (ex_numbers n false e) refl

  assign_numbers : (n : ℕ) (t : Tag) (b : Target) (e : Ex)
      → numbers_in (parts_assign P type m k t.place (label_target n b) (label (n + size_target b) e)) ≡ numbers_target b
      ++ numbers e
  assign_numbers n t (to_local s i) e = joined (in_ex false (label (n + 0) e)) _ (numbers e) (ex_numbers (n + 0) false e) refl
  assign_numbers n t (to_static s f) e = joined (in_ex false (label (n + 0) e)) _ (numbers e) (ex_numbers (n + 0) false e) refl
  assign_numbers n t (to_own s f) e = joined (in_ex true (label (n + 0) e)) _ (numbers e) (ex_numbers (n + 0) true e) refl
  assign_numbers n t (to_field s b x) e =
      let one = in_ex (is_accessed (label n b)) (label n b) in
      let two = in_ex true (label (n + size b) e) in
      joined (one ++ two) _ (numbers b ++ numbers e) (join one two (numbers b) (numbers e)
      (ex_numbers n (is_accessed (label n b)) b) (ex_numbers (n + size b) true e)) refl
  assign_numbers n t (to_element s b i) e =
      let one = in_ex true (label n b) in
      let two = in_ex false (label (n + size b) i) in
      let three = in_ex true (label (n + (size b + size i)) e) in
      joined ((one ++ two) ++ three) _ ((numbers b ++ numbers i) ++ numbers e)
      (join (one ++ two) three (numbers b ++ numbers i) (numbers e) (join one two (numbers b) (numbers i)
      (ex_numbers n true b) (ex_numbers (n + size b) false i)) (ex_numbers (n + (size b + size i)) true e)) refl
  assign_numbers n t no_target e = joined (in_ex false (label (n + 0) e)) _ (numbers e) (ex_numbers (n + 0) false e) refl

  sts_numbers : (n : ℕ) (xs : Sts) → numbers_in (parts_sts P type m k (label_sts n xs)) ≡ numbers_sts xs
  sts_numbers = of_sts P type m k (λ a ps b xs. numbers_in ps ≡ xs) (λ n. refl) (λ a b c ps qs xs ys e d. join ps qs xs ys e d)
      (λ n e. ex_numbers n false e) set_numbers return_numbers assign_numbers

body_numbers : (P : Plain) (type : Ex → Option ObjectType) (m : ℕ) (k : PlainMethod) (b : Option Sts) → numbers_in (parts_body P type m k b) ≡ numbers_body b
body_numbers P type m k None = refl
body_numbers P type m k (Some xs) = sts_numbers P type m k 0 xs

-- the numbers of a method's parts are those of its body
pub method_numbers : (P : Plain) (m : ℕ) (k : PlainMethod) → numbers_in (parts_of P m k) ≡ numbers_body k.body
unfolding parts_of
method_numbers P m k = body_numbers P (type_in P m k) m k k.body

-- where no two places of a joined list hold the same
module _ {A : Type 0} where
  pub back : (xs ys : List A) (i : ℕ) (x : A) → slice_get ys i ≡ Some x → slice_get (xs ++ ys) (length xs + i) ≡ Some x
  back [] ys i x e = subst (λ z. slice_get ys z ≡ Some x) {x = i} (omega arith) e
  back (z ∷ zs) ys i x e = subst (λ w. slice_get (z ∷ (zs ++ ys)) w ≡ Some x) {x = suc (length zs + i)} (omega arith) (back zs ys i x e)

  pub twice_front : (xs ys : List A) → HasNoTwice (xs ++ ys) → HasNoTwice xs
  unfolding HasNoTwice
  twice_front xs ys h i j x e d = h i j x (at_left xs ys i x e) (at_left xs ys j x d)

  pub twice_back : (xs ys : List A) → HasNoTwice (xs ++ ys) → HasNoTwice ys
  unfolding HasNoTwice
  twice_back xs ys h i j x e d = omega (arith, h (length xs + i) (length xs + j) x (back xs ys i x e) (back xs ys j x d))

  pub twice_apart : (xs ys : List A) (x : A) → HasNoTwice (xs ++ ys) → Contains xs x → Contains ys x → ⊥
  unfolding HasNoTwice
  twice_apart xs ys x h c d =
      let a = at_contains xs x c in
      let b = at_contains ys x d in
      absurd (omega (arith, slice_get_within xs a.0 x a.1, h a.0 (length xs + b.0) x (at_left xs ys a.0 x a.1) (back xs ys b.0 x b.1)))

-- two parts of a list with one number are one
one_part : (ps : List Part) (p q : Part) (n : ℕ) → HasNoTwice (numbers_in ps) → Contains ps p → Contains ps q → Contains (part_number p) n
    → Contains (part_number q) n → p ≡ q
one_part [] p q n h c d e f = absurd (omega (arith, c.1))
one_part (x ∷ ps) p q n h (zero, lt, a) (zero, mt, b) e f = sym a ∙ b
one_part (x ∷ ps) p q n h (zero, lt, a) (suc j, mt, b) e f =
    absurd (twice_apart (part_number x) (numbers_in ps) n h (subst (λ z. Contains (part_number z) n) (sym a) e)
    (flat_has part_number ps q n (j, omega (arith, mt), b) f))
one_part (x ∷ ps) p q n h (suc i, lt, a) (zero, mt, b) e f =
    absurd (twice_apart (part_number x) (numbers_in ps) n h (subst (λ z. Contains (part_number z) n) (sym b) f)
    (flat_has part_number ps p n (i, omega (arith, lt), a) e))
one_part (x ∷ ps) p q n h (suc i, lt, a) (suc j, mt, b) e f = one_part ps p q n (twice_back (part_number x) (numbers_in ps) h)
    (i, omega (arith, lt), a) (j, omega (arith, mt), b) e f

methods_has : (ks : List PlainMethod) (m : ℕ) (k : PlainMethod) (n : ℕ) → slice_get ks m ≡ Some k → Contains (numbers_body k.body) n
    → Contains (numbers_methods ks) n
methods_has [] m k n e c = absurd (cc)
methods_has (h ∷ ks) zero k n e c = Contains-append_left (numbers_body h.body) (numbers_methods ks) n (subst (λ z. Contains (numbers_body z.body) n)
    (sym (same_Some h k e)) c)
methods_has (h ∷ ks) (suc m) k n e c = Contains-append_right (numbers_body h.body) (numbers_methods ks) n (methods_has ks m k n e c)

pub method_twice : (ks : List PlainMethod) (m : ℕ) (k : PlainMethod) → HasNoTwice (numbers_methods ks) → slice_get ks m ≡ Some k
    → HasNoTwice (numbers_body k.body)
method_twice [] m k h e = absurd (cc)
method_twice (x ∷ ks) zero k h e = subst (λ z. HasNoTwice (numbers_body z.body)) (same_Some x k e) (twice_front (numbers_body x.body) (numbers_methods ks) h)
method_twice (x ∷ ks) (suc m) k h e = method_twice ks m k (twice_back (numbers_body x.body) (numbers_methods ks) h) e

-- two methods with one number are one
pub one_method : (ks : List PlainMethod) (i j : ℕ) (h k : PlainMethod) (n : ℕ) → HasNoTwice (numbers_methods ks) → slice_get ks i ≡ Some h
    → slice_get ks j ≡ Some k → Contains (numbers_body h.body) n → Contains (numbers_body k.body) n → i ≡ j
one_method [] i j h k n t e d a b = absurd (cc)
one_method (x ∷ ks) zero zero h k n t e d a b = refl
one_method (x ∷ ks) zero (suc j) h k n t e d a b =
    absurd (twice_apart (numbers_body x.body) (numbers_methods ks) n t (subst (λ z. Contains (numbers_body z.body) n) (sym (same_Some x h e)) a)
    (methods_has ks j k n d b))
one_method (x ∷ ks) (suc i) zero h k n t e d a b =
    absurd (twice_apart (numbers_body x.body) (numbers_methods ks) n t (subst (λ z. Contains (numbers_body z.body) n) (sym (same_Some x k d)) b)
    (methods_has ks i h n e a))
one_method (x ∷ ks) (suc i) (suc j) h k n t e d a b = ap suc (one_method ks i j h k n (twice_back (numbers_body x.body) (numbers_methods ks) t) e d a b)

-- two parts of a program's bodies with one number are one
module _ (P : Plain) where
  pub record IsPart (p : Part) : Type 0 where
    pub number : ℕ
    pub method : PlainMethod
    pub stands : slice_get P.methods number ≡ Some method
    pub part : Contains (parts_of P number method) p

  module _ (once : HasNoTwice (numbers_methods P.methods)) where
    body_has : (p : Part) (n : ℕ) (a : IsPart p) → Contains (part_number p) n → Contains (numbers_body a.method.body) n
    body_has p n a c = subst (λ z. Contains z n) (method_numbers P a.number a.method)
        (flat_has part_number (parts_of P a.number a.method) p n a.part c)

    pub number_apart : (p q : Part) (n : ℕ) → IsPart p → IsPart q → Contains (part_number p) n → Contains (part_number q) n → p ≡ q
    number_apart p q n a b c d =
        let e = one_method P.methods a.number b.number a.method b.method n once a.stands b.stands (body_has p n a c) (body_has q n b d) in
        let g = same_Some a.method b.method (sym a.stands ∙ ap (slice_get P.methods) e ∙ b.stands) in
        one_part (parts_of P a.number a.method) p q n
        (subst (λ z. HasNoTwice z) (sym (method_numbers P a.number a.method)) (method_twice P.methods a.number a.method once a.stands))
        a.part (subst (λ z. Contains (parts_of P a.number z) q) (sym g) (subst (λ z. Contains (parts_of P z b.method) q) (sym e) b.part)) c d
