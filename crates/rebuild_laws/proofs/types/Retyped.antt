-- What types keep when their classes become those of the rows that type them.
use Rattle.std.proofs.Common.{◌≡◌, ℕ, zero, suc, Option, Some, None, refl, sym, ap, ◌∙◌, subst, inl, inr, ⊎_elim}
use Rattle.std.specs.Prelude.{◌⊎◌, ◌==◌, ◌&&◌, ◌||◌, not, Bool, true, false}
use Rattle.std.specs.Option.{is_some}
use Rattle.std.proofs.lemmas.Bool.{false≢true, and_from, and_parts, or_left, or_right, eq-eqb, eqb-true, or_cases}
use Rattle.kaba_base.specs.declared.ClassId.{ClassId}
use Rattle.java_core.specs.declared.Ty.{Ty}
use Rattle.java_core.specs.declared.TyBase.{TyBase}
use Rattle.java_core.specs.declared.TyBase.TheVariants.{Int, Boolean, Char, Str, Class}
use Rattle.java_core.specs.declared.UnOp.{UnOp}
use Rattle.java_core.specs.declared.UnOp.TheVariants as un
use Rattle.java_core.specs.declared.BinOp.{BinOp}
use Rattle.java_core.specs.declared.BinOp.TheVariants as bin
use Rattle.java_core.specs.Programs.{Plain}
use Rattle.java_core.specs.Classes.{below}
use Rattle.java_core.specs.Types.{Static, a_value, null_value, no_value, or_nothing, class_in, class_of, element_in, element_of, is_base, is_only, is_numeric, is_boolean, is_string, is_printable, is_class, is_object, is_reference, is_sub_base, is_subtype, fits, fits_in, are_comparable, is_plus, sum_type, binary_type}
use Rattle.java_core.specs.Typing.{takes_one, joins, takes_two, are_related, can_cast}
use Rattle.flow_rules.specs.declared.items.ObjectType.{ObjectType}
use Rattle.flow_rules.specs.Operands.{object_in, object_of, object_static}
use Rattle.flow_rules.specs.Lists.{is_comparison}
use Rattle.rebuild_model.specs.Renaming.{reclassed, retyped, retyped_if}
use Rattle.rebuild_model.proofs.Reclassed.{reclassed_plain}

either : (a b : Bool) → (a ≡ true) ⊎ (b ≡ true) → (a || b) ≡ true
either a b h = ⊎_elim (λ e. or_left a b e) (λ e. or_right a b e) h

or_maps : (a b c d : Bool) → (a ≡ true → c ≡ true) → (b ≡ true → d ≡ true) → (a || b) ≡ true → (c || d) ≡ true
or_maps a b c d f g h = ⊎_elim (λ e. or_left c d (f e)) (λ e. or_right c d (g e)) (or_cases a b h)

-- what an expression gives, in the class of its row
abbrev pub retyped_static : Option ℕ → Static → Static
retyped_static k (a_value t) = a_value (retyped k t)
retyped_static k null_value = null_value
retyped_static k no_value = no_value

-- a type that a row can have has the class of its row
abbrev pub HasClass : Option ObjectType → Option ℕ → Type 0
HasClass t k = (o : ObjectType) → t ≡ Some o → (c : ℕ) × (k ≡ Some c)

pub retyped_or : (k : Option ℕ) (t : Option Ty) → retyped_static k (or_nothing t) ≡ or_nothing (retyped_if k t)
retyped_or k None = refl
retyped_or k (Some t) = refl

base_kept : (k : Option ℕ) (b c : TyBase) → is_class c ≡ false → is_base (reclassed k b) c ≡ is_base b c
base_kept None b c e = refl
base_kept (Some k) Int c e = refl
base_kept (Some k) Boolean c e = refl
base_kept (Some k) Char c e = refl
base_kept (Some k) Str c e = refl
base_kept (Some k) (Class b) Int e = refl
base_kept (Some k) (Class b) Boolean e = refl
base_kept (Some k) (Class b) Char e = refl
base_kept (Some k) (Class b) Str e = refl
base_kept (Some k) (Class b) (Class c) e = absurd (false≢true (sym e))

only_kept : (k : Option ℕ) (c : TyBase) (s : Static) → is_class c ≡ false → is_only c (retyped_static k s) ≡ is_only c s
only_kept k c (a_value t) e = ap (λ z. z && (t.dim == 0)) (base_kept k t.base c e)
only_kept k c null_value e = refl
only_kept k c no_value e = refl

pub numeric_kept : (k : Option ℕ) (s : Static) → is_numeric (retyped_static k s) ≡ is_numeric s
numeric_kept k s = ap (λ z. z || is_only Char (retyped_static k s)) (only_kept k Int s refl) ∙ ap (λ z. is_only Int s || z) (only_kept k Char s refl)

pub boolean_kept : (k : Option ℕ) (s : Static) → is_boolean (retyped_static k s) ≡ is_boolean s
boolean_kept k s = only_kept k Boolean s refl

pub string_kept : (k : Option ℕ) (s : Static) → is_string (retyped_static k s) ≡ is_string s
string_kept k s = only_kept k Str s refl

pub printable_kept : (k : Option ℕ) (s : Static) → is_printable (retyped_static k s) ≡ is_printable s
printable_kept k s =
    ap (λ z. z || (is_boolean (retyped_static k s) || is_string (retyped_static k s))) (numeric_kept k s)
    ∙ ap (λ z. is_numeric s || (z || is_string (retyped_static k s))) (boolean_kept k s)
    ∙ ap (λ z. is_numeric s || (is_boolean s || z)) (string_kept k s)

is_class_kept : (k : Option ℕ) (b : TyBase) → is_class (reclassed k b) ≡ is_class b
is_class_kept None b = refl
is_class_kept (Some k) Int = refl
is_class_kept (Some k) Boolean = refl
is_class_kept (Some k) Char = refl
is_class_kept (Some k) Str = refl
is_class_kept (Some k) (Class c) = refl

object_kept : (k : Option ℕ) (t : Ty) → is_object (retyped k t) ≡ is_object t
object_kept k t = ap (λ z. not (t.dim == 0) || z) (is_class_kept k t.base)

pub reference_kept : (k : Option ℕ) (t : Ty) → is_reference (retyped k t) ≡ is_reference t
reference_kept k t = ap (λ z. z || is_base (reclassed k t.base) Str) (object_kept k t) ∙ ap (λ z. is_object t || z) (base_kept k t.base Str refl)

element_in_kept : (k : Option ℕ) (b : TyBase) (d : ℕ) → element_in (reclassed k b) d ≡ retyped_if k (element_in b d)
element_in_kept k b zero = refl
element_in_kept k b (suc d) = refl

pub element_kept : (k : Option ℕ) (s : Static) → element_of (retyped_static k s) ≡ retyped_if k (element_of s)
element_kept k (a_value t) = element_in_kept k t.base t.dim
element_kept k null_value = refl
element_kept k no_value = refl

pub some_kept : (k : Option ℕ) (t : Option Ty) → is_some (retyped_if k t) ≡ is_some t
some_kept k None = refl
some_kept k (Some t) = refl

class_in_new : (a : ℕ) (b : TyBase) (d c : ℕ) → class_in b d ≡ Some c → class_in (reclassed (Some a) b) d ≡ Some a
class_in_new a (Class k) zero c e = refl
class_in_new a (Class k) (suc d) c e = absurd (cc)
class_in_new a Int d c e = absurd (cc)
class_in_new a Boolean d c e = absurd (cc)
class_in_new a Char d c e = absurd (cc)
class_in_new a Str d c e = absurd (cc)

-- what has a class has that of its row
pub class_new : (a : ℕ) (s : Static) (c : ℕ) → class_of s ≡ Some c → class_of (retyped_static (Some a) s) ≡ Some a
class_new a (a_value t) c e = class_in_new a t.base t.dim c e
class_new a null_value c e = absurd (cc)
class_new a no_value c e = absurd (cc)

object_of_class : (b : TyBase) (d c : ℕ) → class_in b d ≡ Some c → object_in b d ≡ Some (record { class = record { 0 = c }; dim = 0 })
object_of_class (Class k) zero c e = let x : k.0 ≡ c = cc in ap (λ z. Some (record { class = record { 0 = z }; dim = 0 })) x
object_of_class (Class k) (suc d) c e = absurd (cc)
object_of_class Int d c e = absurd (cc)
object_of_class Boolean d c e = absurd (cc)
object_of_class Char d c e = absurd (cc)
object_of_class Str d c e = absurd (cc)

pub class_typed : (s : Static) (c : ℕ) → class_of s ≡ Some c → object_static s ≡ Some (record { class = record { 0 = c }; dim = 0 })
class_typed (a_value t) c e = object_of_class t.base t.dim c e
class_typed null_value c e = absurd (cc)
class_typed no_value c e = absurd (cc)

pub takes_one_kept : (o : UnOp) (k : Option ℕ) (s : Static) → takes_one o (retyped_static k s) ≡ takes_one o s
takes_one_kept un.Not k s = boolean_kept k s
takes_one_kept un.Plus k s = numeric_kept k s
takes_one_kept un.Minus k s = numeric_kept k s
takes_one_kept un.Flip k s = numeric_kept k s

pub binary_kept : (o : BinOp) (k l : Option ℕ) (s t : Static) → binary_type o (retyped_static k s) (retyped_static l t) ≡ binary_type o s t
binary_kept (bin.Int o) k l s t = ap (λ z. sum_type (is_plus o && (z || is_string (retyped_static l t)))) (string_kept k s)
    ∙ ap (λ z. sum_type (is_plus o && (is_string s || z))) (string_kept l t)
binary_kept bin.Same k l s t = refl
binary_kept bin.Differs k l s t = refl
binary_kept bin.Less k l s t = refl
binary_kept bin.Greater k l s t = refl
binary_kept bin.AtMost k l s t = refl
binary_kept bin.AtLeast k l s t = refl
binary_kept bin.Both k l s t = refl
binary_kept bin.Either k l s t = refl

module _ (W : Plain) where
  -- rows whose classes are one way or the other
  abbrev pub AreNear : Option ℕ → Option ℕ → Type 0
  AreNear k l = (c d : ℕ) → k ≡ Some c → l ≡ Some d → (below W c d ≡ true) ⊎ (below W d c ≡ true)

  -- where both types are those of rows
  abbrev pub AreNearIf : Option ObjectType → Option ObjectType → Option ℕ → Option ℕ → Type 0
  AreNearIf s t k l = (x y : ObjectType) → s ≡ Some x → t ≡ Some y → AreNear k l

  abbrev pub IsUnder : Option ℕ → Option ℕ → Type 0
  IsUnder k l = (c d : ℕ) → k ≡ Some c → l ≡ Some d → below W c d ≡ true

-- from one program to another
module _ (P W : Plain) where
  plain_sub : (b c : TyBase) (k l : Option ℕ) → is_class b ≡ false → is_sub_base P b c ≡ true
      → is_sub_base W (reclassed k b) (reclassed l c) ≡ true
  plain_sub Int Int k l n h = rw (reclassed_plain k Int refl, reclassed_plain l Int refl) refl
  plain_sub Boolean Boolean k l n h = rw (reclassed_plain k Boolean refl, reclassed_plain l Boolean refl) refl
  plain_sub Char Char k l n h = rw (reclassed_plain k Char refl, reclassed_plain l Char refl) refl
  plain_sub Str Str k l n h = rw (reclassed_plain k Str refl, reclassed_plain l Str refl) refl
  plain_sub (Class b) c k l n h = absurd (false≢true (sym n))
  plain_sub Int _ k l n h = absurd (false≢true h)
  plain_sub Boolean _ k l n h = absurd (false≢true h)
  plain_sub Char _ k l n h = absurd (false≢true h)
  plain_sub Str _ k l n h = absurd (false≢true h)

  new_sub : (k l : Option ℕ) (b c : ClassId) (x y : ℕ) → k ≡ Some x → l ≡ Some y → below W x y ≡ true
      → is_sub_base W (reclassed k (Class b)) (reclassed l (Class c)) ≡ true
  new_sub k l b c x y hk hl h =
      subst (λ z. is_sub_base W (reclassed z (Class b)) (reclassed l (Class c)) ≡ true) (sym hk)
      (subst (λ z. is_sub_base W (reclassed (Some x) (Class b)) (reclassed z (Class c)) ≡ true) (sym hl) h)

  base_sub_kept : (b c : TyBase) (d e : ℕ) (k l : Option ℕ) → HasClass (object_in b d) k → HasClass (object_in c e) l → IsUnder W k l
      → is_sub_base P b c ≡ true → is_sub_base W (reclassed k b) (reclassed l c) ≡ true
  base_sub_kept (Class b) (Class c) d e k l hk hl under h =
      let x = hk (record { class = b; dim = d }) refl in
      let y = hl (record { class = c; dim = e }) refl in
      new_sub k l b c x.0 y.0 x.1 y.1 (under x.0 y.0 x.1 y.1)
  base_sub_kept (Class b) Int d e k l hk hl under h = absurd (false≢true h)
  base_sub_kept (Class b) Boolean d e k l hk hl under h = absurd (false≢true h)
  base_sub_kept (Class b) Char d e k l hk hl under h = absurd (false≢true h)
  base_sub_kept (Class b) Str d e k l hk hl under h = absurd (false≢true h)
  base_sub_kept Int c d e k l hk hl under h = plain_sub Int c k l refl h
  base_sub_kept Boolean c d e k l hk hl under h = plain_sub Boolean c k l refl h
  base_sub_kept Char c d e k l hk hl under h = plain_sub Char c k l refl h
  base_sub_kept Str c d e k l hk hl under h = plain_sub Str c k l refl h

  pub sub_kept : (a b : Ty) (k l : Option ℕ) → HasClass (object_of a) k → HasClass (object_of b) l → IsUnder W k l → is_subtype P a b ≡ true
      → is_subtype W (retyped k a) (retyped l b) ≡ true
  sub_kept a b k l hk hl under h =
      let z = and_parts (a.dim == b.dim) (is_sub_base P a.base b.base) h in
      and_from (a.dim == b.dim) (is_sub_base W (reclassed k a.base) (reclassed l b.base)) z.0 (base_sub_kept a.base b.base a.dim b.dim k l hk hl under z.1)

  -- what fits still fits
  pub fits_kept : (s : Static) (u : Ty) (k l : Option ℕ) → HasClass (object_static s) k → HasClass (object_of u) l → IsUnder W k l
      → fits P s u ≡ true → fits W (retyped_static k s) (retyped l u) ≡ true
  fits_kept (a_value a) u k l hk hl under h = ⊎_elim
      (λ e. or_left (is_subtype W (retyped k a) (retyped l u)) (is_only Char (a_value (retyped k a)) && is_only Int (a_value (retyped l u)))
      (sub_kept a u k l hk hl under e))
      (λ e. or_right (is_subtype W (retyped k a) (retyped l u)) (is_only Char (a_value (retyped k a)) && is_only Int (a_value (retyped l u)))
      (ap (λ z. z && is_only Int (a_value (retyped l u))) (only_kept k Char (a_value a) refl)
      ∙ ap (λ z. is_only Char (a_value a) && z) (only_kept l Int (a_value u) refl) ∙ e))
      (or_cases (is_subtype P a u) (is_only Char (a_value a) && is_only Int (a_value u)) h)
  fits_kept null_value u k l hk hl under h = reference_kept l u ∙ h
  fits_kept no_value u k l hk hl under h = absurd (false≢true h)

  pub fits_in_kept : (s t : Static) (k l : Option ℕ) → HasClass (object_static s) k → HasClass (object_static t) l → IsUnder W k l
      → fits_in P s t ≡ true → fits_in W (retyped_static k s) (retyped_static l t) ≡ true
  fits_in_kept s (a_value u) k l hk hl under h = fits_kept s u k l hk hl under h
  fits_in_kept s null_value k l hk hl under h = absurd (false≢true h)
  fits_in_kept s no_value k l hk hl under h = absurd (false≢true h)

  -- subtypes one way or the other
  abbrev IsMet : TyBase → TyBase → Type 0
  IsMet b c = (is_sub_base W b c ≡ true) ⊎ (is_sub_base W c b ≡ true)

  base_met : (b c : TyBase) (d e : ℕ) (k l : Option ℕ) → HasClass (object_in b d) k → HasClass (object_in c e) l
      → AreNearIf W (object_in b d) (object_in c e) k l → is_sub_base P b c ≡ true → IsMet (reclassed k b) (reclassed l c)
  base_met (Class b) (Class c) d e k l hk hl near h =
      let x = hk (record { class = b; dim = d }) refl in
      let y = hl (record { class = c; dim = e }) refl in
      ⊎_elim (λ u. inl (new_sub k l b c x.0 y.0 x.1 y.1 u)) (λ u. inr (new_sub l k c b y.0 x.0 y.1 x.1 u))
      (near (record { class = b; dim = d }) (record { class = c; dim = e }) refl refl x.0 y.0 x.1 y.1)
  base_met (Class b) Int d e k l hk hl near h = absurd (false≢true h)
  base_met (Class b) Boolean d e k l hk hl near h = absurd (false≢true h)
  base_met (Class b) Char d e k l hk hl near h = absurd (false≢true h)
  base_met (Class b) Str d e k l hk hl near h = absurd (false≢true h)
  base_met Int c d e k l hk hl near h = inl (plain_sub Int c k l refl h)
  base_met Boolean c d e k l hk hl near h = inl (plain_sub Boolean c k l refl h)
  base_met Char c d e k l hk hl near h = inl (plain_sub Char c k l refl h)
  base_met Str c d e k l hk hl near h = inl (plain_sub Str c k l refl h)

  swapped : (s t : Option ObjectType) (k l : Option ℕ) → AreNearIf W s t k l → AreNearIf W t s l k
  swapped s t k l near x y hx hy c d hc hd = ⊎_elim (λ u. inr u) (λ u. inl u) (near y x hy hx d c hd hc)

  same_dim : (a b : ℕ) → (a == b) ≡ true → (b == a) ≡ true
  same_dim a b h = eq-eqb b a (sym (eqb-true a b h))

  types_met : (a b : Ty) (k l : Option ℕ) → HasClass (object_of a) k → HasClass (object_of b) l → AreNearIf W (object_of a) (object_of b) k l
      → is_subtype P a b ≡ true
      → (is_subtype W (retyped k a) (retyped l b) || is_subtype W (retyped l b) (retyped k a)) ≡ true
  types_met a b k l hk hl near h =
      let z = and_parts (a.dim == b.dim) (is_sub_base P a.base b.base) h in
      either (is_subtype W (retyped k a) (retyped l b)) (is_subtype W (retyped l b) (retyped k a)) (⊎_elim
      (λ u. inl (and_from (a.dim == b.dim) (is_sub_base W (reclassed k a.base) (reclassed l b.base)) z.0 u))
      (λ u. inr (and_from (b.dim == a.dim) (is_sub_base W (reclassed l b.base) (reclassed k a.base)) (same_dim a.dim b.dim z.0) u))
      (base_met a.base b.base a.dim b.dim k l hk hl near z.1))

  or_swapped : (a b : Bool) → (a || b) ≡ true → (b || a) ≡ true
  or_swapped a b h = ⊎_elim (λ e. or_right b a e) (λ e. or_left b a e) (or_cases a b h)

  met_kept : (a b : Ty) (k l : Option ℕ) → HasClass (object_of a) k → HasClass (object_of b) l → AreNearIf W (object_of a) (object_of b) k l
      → (is_subtype P a b || is_subtype P b a) ≡ true
      → (is_subtype W (retyped k a) (retyped l b) || is_subtype W (retyped l b) (retyped k a)) ≡ true
  met_kept a b k l hk hl near h = ⊎_elim (λ e. types_met a b k l hk hl near e)
      (λ e. or_swapped (is_subtype W (retyped l b) (retyped k a)) (is_subtype W (retyped k a) (retyped l b))
      (types_met b a l k hl hk (swapped (object_of a) (object_of b) k l near) e)) (or_cases (is_subtype P a b) (is_subtype P b a) h)

  both_numeric : (s t : Static) (k l : Option ℕ) → (is_numeric (retyped_static k s) && is_numeric (retyped_static l t)) ≡ (is_numeric s && is_numeric t)
  both_numeric s t k l = ap (λ z. z && is_numeric (retyped_static l t)) (numeric_kept k s) ∙ ap (λ z. is_numeric s && z) (numeric_kept l t)

  both_boolean : (s t : Static) (k l : Option ℕ) → (is_boolean (retyped_static k s) && is_boolean (retyped_static l t)) ≡ (is_boolean s && is_boolean t)
  both_boolean s t k l = ap (λ z. z && is_boolean (retyped_static l t)) (boolean_kept k s) ∙ ap (λ z. is_boolean s && z) (boolean_kept l t)

  pub comparable_kept : (s t : Static) (k l : Option ℕ) → HasClass (object_static s) k → HasClass (object_static t) l
      → AreNearIf W (object_static s) (object_static t) k l → are_comparable P s t ≡ true
      → are_comparable W (retyped_static k s) (retyped_static l t) ≡ true
  comparable_kept (a_value a) (a_value b) k l hk hl near h =
      let num = is_numeric (a_value a) && is_numeric (a_value b) in
      let truths = is_boolean (a_value a) && is_boolean (a_value b) in
      let objects = (is_object a && is_object b) && (is_subtype P a b || is_subtype P b a) in
      let new_num = is_numeric (a_value (retyped k a)) && is_numeric (a_value (retyped l b)) in
      let new_truths = is_boolean (a_value (retyped k a)) && is_boolean (a_value (retyped l b)) in
      let new_met = is_subtype W (retyped k a) (retyped l b) || is_subtype W (retyped l b) (retyped k a) in
      let new_objects = (is_object (retyped k a) && is_object (retyped l b)) && new_met in
      or_maps num (truths || objects) new_num (new_truths || new_objects) (λ e. both_numeric (a_value a) (a_value b) k l ∙ e)
      (λ e. or_maps truths objects new_truths new_objects (λ e. both_boolean (a_value a) (a_value b) k l ∙ e)
      (λ e. let z = and_parts (is_object a && is_object b) (is_subtype P a b || is_subtype P b a) e in
      and_from (is_object (retyped k a) && is_object (retyped l b)) new_met
      (ap (λ z. z && is_object (retyped l b)) (object_kept k a) ∙ ap (λ z. is_object a && z) (object_kept l b) ∙ z.0)
      (met_kept a b k l hk hl near z.1)) e) h
  comparable_kept (a_value a) null_value k l hk hl near h = reference_kept k a ∙ h
  comparable_kept (a_value a) no_value k l hk hl near h = absurd (false≢true h)
  comparable_kept null_value (a_value b) k l hk hl near h = reference_kept l b ∙ h
  comparable_kept null_value null_value k l hk hl near h = refl
  comparable_kept null_value no_value k l hk hl near h = absurd (false≢true h)
  comparable_kept no_value t k l hk hl near h = absurd (false≢true h)

  joins_kept : (s t : Static) (k l : Option ℕ) → joins (retyped_static k s) (retyped_static l t) ≡ joins s t
  joins_kept s t k l =
      ap (λ z. (z && is_printable (retyped_static l t)) || (is_printable (retyped_static k s) && is_string (retyped_static l t))) (string_kept k s)
      ∙ ap (λ z. (is_string s && z) || (is_printable (retyped_static k s) && is_string (retyped_static l t))) (printable_kept l t)
      ∙ ap (λ z. (is_string s && is_printable t) || (z && is_string (retyped_static l t))) (printable_kept k s)
      ∙ ap (λ z. (is_string s && is_printable t) || (is_printable s && z)) (string_kept l t)

  -- what `==` and `!=` compare is one way or the other
  abbrev pub ComparesNear : BinOp → Option ObjectType → Option ObjectType → Option ℕ → Option ℕ → Type 0
  ComparesNear o s t k l = is_comparison o ≡ true → AreNearIf W s t k l

  pub takes_two_kept : (o : BinOp) (s t : Static) (k l : Option ℕ) → HasClass (object_static s) k → HasClass (object_static t) l
      → ComparesNear o (object_static s) (object_static t) k l → takes_two P o s t ≡ true
      → takes_two W o (retyped_static k s) (retyped_static l t) ≡ true
  takes_two_kept (bin.Int o) s t k l hk hl near h =
      ap (λ z. z || (is_plus o && joins (retyped_static k s) (retyped_static l t))) (both_numeric s t k l)
      ∙ ap (λ z. (is_numeric s && is_numeric t) || (is_plus o && z)) (joins_kept s t k l) ∙ h
  takes_two_kept bin.Same s t k l hk hl near h = comparable_kept s t k l hk hl (near refl) h
  takes_two_kept bin.Differs s t k l hk hl near h = comparable_kept s t k l hk hl (near refl) h
  takes_two_kept bin.Less s t k l hk hl near h = both_numeric s t k l ∙ h
  takes_two_kept bin.Greater s t k l hk hl near h = both_numeric s t k l ∙ h
  takes_two_kept bin.AtMost s t k l hk hl near h = both_numeric s t k l ∙ h
  takes_two_kept bin.AtLeast s t k l hk hl near h = both_numeric s t k l ∙ h
  takes_two_kept bin.Both s t k l hk hl near h = both_boolean s t k l ∙ h
  takes_two_kept bin.Either s t k l hk hl near h = both_boolean s t k l ∙ h

  -- what is related is still
  related_in : (a b : Option ℕ) (c d : ℕ) → a ≡ Some c → b ≡ Some d → (below W c d ≡ true) ⊎ (below W d c ≡ true)
      → are_related W a b ≡ true
  related_in a b c d ha hb u = subst (λ z. are_related W z b ≡ true) (sym ha)
      (subst (λ z. are_related W (Some c) z ≡ true) (sym hb) (either (below W c d) (below W d c) u))

  related_both : (a b : Option ℕ) → are_related P a b ≡ true → (c : ℕ) × (d : ℕ) × (a ≡ Some c) × (b ≡ Some d)
  related_both (Some c) (Some d) h = (c, d, refl, refl)
  related_both (Some c) None h = absurd (false≢true h)
  related_both None d h = absurd (false≢true h)

  pub related_kept : (s t : Static) (k l : Option ℕ) → HasClass (object_static s) k → HasClass (object_static t) l
      → AreNearIf W (object_static s) (object_static t) k l → are_related P (class_of s) (class_of t) ≡ true
      → are_related W (class_of (retyped_static k s)) (class_of (retyped_static l t)) ≡ true
  related_kept s t k l hk hl near h =
      let z = related_both (class_of s) (class_of t) h in
      let x = hk (record { class = record { 0 = z.0 }; dim = 0 }) (class_typed s z.0 z.2) in
      let y = hl (record { class = record { 0 = z.1 }; dim = 0 }) (class_typed t z.1 z.3) in
      related_in (class_of (retyped_static k s)) (class_of (retyped_static l t)) x.0 y.0
      (ap (λ a. class_of (retyped_static a s)) x.1 ∙ class_new x.0 s z.0 z.2) (ap (λ a. class_of (retyped_static a t)) y.1 ∙ class_new y.0 t z.1 z.3)
      (near (record { class = record { 0 = z.0 }; dim = 0 }) (record { class = record { 0 = z.1 }; dim = 0 }) (class_typed s z.0 z.2)
      (class_typed t z.1 z.3) x.0 y.0 x.1 y.1)

  pub cast_kept : (s : Static) (t : Ty) (k l : Option ℕ) → HasClass (object_static s) k → HasClass (object_of t) l
      → AreNearIf W (object_static s) (object_of t) k l → can_cast P s t ≡ true → can_cast W (retyped_static k s) (retyped l t) ≡ true
  cast_kept s t k l hk hl near h =
      or_maps (is_numeric (a_value t) && is_numeric s) (are_related P (class_of s) (class_of (a_value t)))
      (is_numeric (a_value (retyped l t)) && is_numeric (retyped_static k s))
      (are_related W (class_of (retyped_static k s)) (class_of (a_value (retyped l t)))) (λ e. both_numeric (a_value t) s l k ∙ e)
      (λ e. related_kept s (a_value t) k l hk hl near e) h
