-- How small programs are shown to be formed: their names, their classes and their members, one by one.
use Rattle.std.proofs.Common.{◌≡◌, ◌≢◌, ℕ, zero, suc, ◌<◌, ◌≤◌, ◌&&◌, Bool, true, false, List, [], ◌∷◌, Some, Contains, refl, sym, ap, ◌∙◌, subst, ⊎_elim, arith}
use Rattle.std.specs.Prelude.{not, codes, slice_get}
use Rattle.std.specs.List.{list_any, list_all}
use Rattle.std.specs.Str.{bytes_eq, all_scalars}
use Rattle.std.proofs.lemmas.Bool.{false≢true, and_parts, or_cases, or_parts, not-true}
use Rattle.std.proofs.lemmas.Option.{same_Some}
use Rattle.std.proofs.lemmas.Slice.Eq.{bytes_eq-Decides}
use Rattle.kaba_base.specs.declared.ClassId.{ClassId}
use Rattle.kaba_base.specs.Words.{key_text, is_name}
use Rattle.ucd_derived.specs.Binary.{is_xid_start, is_xid_continue}
use Rattle.ucd_derived.specs.XidStartRanges.{xid_start_ranges}
use Rattle.ucd_derived.specs.XidContinueRanges.{xid_continue_ranges}
use Rattle.ucd_table.specs.Rows.{in_ranges}
use Rattle.java_lex.specs.Writable.{IsName}
use Rattle.java_core.specs.Programs.{Plain, PlainClass, PlainLocal}
use Rattle.java_core.specs.Classes.{supers_of, IsSubclass, same_class, through, IsProperSubclass}
use Rattle.java_core.specs.Formed.{HasNoTwice, IsVariableName, IsFormedClass}

pub differ : (x y : List ℕ) → bytes_eq x y ≡ false → x ≢ y
differ x y e d = false≢true (sym e ∙ (bytes_eq-Decides x y).1 d)

-- each item of a list has a property
abbrev pub Each : {A : Type 0} → (A → Type 0) → List A → Type 0
Each q [] = Unit {0}
Each q (x ∷ xs) = q x × Each q xs

pub each_at : {A : Type 0} (q : A → Type 0) (xs : List A) (i : ℕ) (x : A) → Each q xs → slice_get xs i ≡ Some x → q x
each_at q [] i x h e = absurd (cc e)
each_at q (y ∷ xs) zero x h e = subst q (same_Some _ _ e) h.0
each_at q (y ∷ xs) (suc i) x h e = each_at q xs i x h.1 e

pub each_in : {A : Type 0} (q : A → Type 0) (xs : List A) (x : A) → Each q xs → Contains xs x → q x
each_in q [] x h c = absurd (omega (arith, c.1))
each_in q (y ∷ xs) x h (zero, lt, e) = subst q e h.0
each_in q (y ∷ xs) x h (suc i, lt, e) = each_in q xs x h.1 (i, omega (arith, lt), e)

pub no_item : {A B : Type 0} (x : A) → Contains [] x → B
no_item x h = absurd (omega (arith, h.1))

-- items that do not repeat
pub no_twice : (A : Type 0) → HasNoTwice {A = A} []
unfolding HasNoTwice
no_twice A i j x e d = absurd (cc)

pub one_once : {A : Type 0} (a : A) → HasNoTwice (a ∷ [])
unfolding HasNoTwice
one_once a zero zero x e d = refl
one_once a zero (suc j) x e d = absurd (cc)
one_once a (suc i) j x e d = absurd (cc)

abbrev pub are_different : List (List ℕ) → Bool
are_different [] = true
are_different (x ∷ xs) = not (list_any (bytes_eq x) xs) && are_different xs

not_in : (x : List ℕ) (xs : List (List ℕ)) → list_any (bytes_eq x) xs ≡ false → (i : ℕ) (y : List ℕ) → slice_get xs i ≡ Some y → x ≢ y
not_in x [] h i y e = absurd (cc e)
not_in x (z ∷ xs) h zero y e = let p = or_parts (bytes_eq x z) (list_any (bytes_eq x) xs) h in subst (λ w. x ≢ w) (same_Some _ _ e) (differ x z p.0)
not_in x (z ∷ xs) h (suc i) y e = not_in x xs (or_parts (bytes_eq x z) (list_any (bytes_eq x) xs) h).1 i y e

pub once_each : (xs : List (List ℕ)) → are_different xs ≡ true → HasNoTwice xs
unfolding HasNoTwice
once_each xs h i j x e d = go xs h i j e d
  where
    go : (xs : List (List ℕ)) → are_different xs ≡ true → (i j : ℕ) → slice_get xs i ≡ Some x → slice_get xs j ≡ Some x → i ≡ j
    go [] h i j e d = absurd (cc e)
    go (y ∷ ys) h zero zero e d = refl
    go (y ∷ ys) h zero (suc j) e d = let p = and_parts (not (list_any (bytes_eq y) ys)) (are_different ys) h in
        absurd (not_in y ys (not-true (list_any (bytes_eq y) ys) p.0) j x d (same_Some _ _ e))
    go (y ∷ ys) h (suc i) zero e d = let p = and_parts (not (list_any (bytes_eq y) ys)) (are_different ys) h in
        absurd (not_in y ys (not-true (list_any (bytes_eq y) ys) p.0) i x e (same_Some _ _ d))
    go (y ∷ ys) h (suc i) (suc j) e d = ap suc (go ys (and_parts (not (list_any (bytes_eq y) ys)) (are_different ys) h).1 i j e d)

-- the words that small programs have as names
abbrev small_names : List (List ℕ)
small_names = codes "Object" ∷ codes "String" ∷ codes "Main" ∷ codes "main" ∷ codes "args" ∷ codes "i" ∷ codes "A" ∷ codes "A_0" ∷ codes "A_1"
    ∷ codes "f" ∷ codes "m" ∷ codes "x" ∷ []

abbrev can_name : List ℕ → Bool
can_name w = is_name w && all_scalars w

all_names : list_all can_name small_names ≡ true
unfolding is_xid_start is_xid_continue in_ranges xid_start_ranges xid_continue_ranges key_text
all_names = refl

-- each of them is a name
pub named : (w : List ℕ) → list_any (bytes_eq w) small_names ≡ true → IsName w
named w h = go small_names all_names h
  where
    go : (ws : List (List ℕ)) → list_all can_name ws ≡ true → list_any (bytes_eq w) ws ≡ true → IsName w
    go [] a h = absurd (cc h)
    go (x ∷ ws) a h =
        let both = and_parts (can_name x) (list_all can_name ws) a in
        ⊎_elim (λ e. let parts = and_parts (is_name x) (all_scalars x) both.0 in
        subst IsName (sym ((bytes_eq-Decides w x).0 e)) (record { named = parts.0; scalars = parts.1 })) (λ e. go ws both.1 e)
        (or_cases (bytes_eq w x) (list_any (bytes_eq w) ws) h)

pub variable_name : (P : Plain) (x : List ℕ) → IsName x → list_any (λ (k : PlainClass). bytes_eq k.name x) P.classes ≡ false
    → bytes_eq x (codes "String") ≡ false → bytes_eq x (codes "System") ≡ false → IsVariableName P x
variable_name P x n h c d = record {
  name = n;
  no_class = no_class P.classes h;
  no_string = differ x (codes "String") c;
  no_system = differ x (codes "System") d;
}
  where
    no_class : (ks : List PlainClass) → list_any (λ (k : PlainClass). bytes_eq k.name x) ks ≡ false → (i : ℕ) (k : PlainClass)
        → slice_get ks i ≡ Some k → k.name ≢ x
    no_class [] h i k e = absurd (cc e)
    no_class (y ∷ ks) h zero k e = let p = or_parts (bytes_eq y.name x) (list_any (λ (k : PlainClass). bytes_eq k.name x) ks) h in
        subst (λ (z : PlainClass). z.name ≢ x) (same_Some _ _ e) (differ y.name x p.0)
    no_class (y ∷ ks) h (suc i) k e = no_class ks (or_parts (bytes_eq y.name x) (list_any (λ (k : PlainClass). bytes_eq k.name x) ks) h).1 i k e

-- a second variable has another name than the first
pub other_name : (vs : List PlainLocal) (first : PlainLocal) (x : List ℕ) → slice_get vs 0 ≡ Some first → bytes_eq first.name x ≡ false
    → (j : ℕ) (v : PlainLocal) → Contains (0 ∷ []) j → slice_get vs j ≡ Some v → v.name ≢ x
other_name vs first x s d j v c e = subst (λ (z : PlainLocal). z.name ≢ x) (same_Some _ _ (sym s ∙ ap (slice_get vs) at ∙ e)) (differ first.name x d)
  where
    at : 0 ≡ j
    at = each_in (λ j. 0 ≡ j) (0 ∷ []) j (refl, tt) c

-- a class right below the first
pub formed_class : (P : Plain) (top : PlainClass) → slice_get P.classes 0 ≡ Some top → top.is_interface ≡ false → (k : PlainClass) → IsName k.name
    → bytes_eq k.name (codes "String") ≡ false → bytes_eq k.name (codes "System") ≡ false → k.parent ≡ Some (record { 0 = 0 })
    → ((f : ClassId) → Contains k.faces f → (i : PlainClass) × (slice_get P.classes f.0 ≡ Some i) × (i.is_interface ≡ true))
    → HasNoTwice k.faces → IsFormedClass P k
formed_class P top there class k n s t p faces once = record {
  name = n;
  no_string = differ k.name (codes "String") s;
  no_system = differ k.name (codes "System") t;
  parent = record { 0 = 0 };
  has_parent = p;
  above = top;
  parent_stands = there;
  parent_class = class;
  interface_parent = λ e. refl;
  faces = faces;
  faces_once = once;
}

-- where each class names earlier ones, none is above itself
module _ (P : Plain) (lower : (c : ℕ) → Each (λ (k : ClassId). k.0 < c) (supers_of P c)) where
  upwards : {a b : ℕ} → IsSubclass P a b → b ≤ a
  upwards same_class = omega arith
  upwards {a} (through {c = k} direct rest) =
      let x = each_in (λ (k : ClassId). k.0 < a) (supers_of P a) k (lower a) direct in let y = upwards rest in omega (arith, x, y)

  pub acyclic : (c : ℕ) → IsProperSubclass P c c → ⊥
  acyclic c h = let x = each_in (λ (k : ClassId). k.0 < c) (supers_of P c) _ (lower c) h.direct in let y = upwards h.rest in omega (arith, x, y)
