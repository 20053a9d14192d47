-- What a program has to which a tree resolves: its classes, fields and methods, one for each declaration of the tree.
use Rattle.std.proofs.Common.{◌≡◌, ℕ, zero, suc, ◌+◌, false, List, [], ◌∷◌, Some, Contains, refl, sym, ap, ◌∙◌, subst, arith, inl, inr, ⊎_elim}
use Rattle.std.specs.Prelude.{◌⊎◌, ◌++◌, map, slice_get, codes}
use Rattle.std.specs.Str.{bytes_eq}
use Rattle.std.proofs.lemmas.List.Elements.{Contains-append_left, Contains-append_right, Contains-append_cases}
use Rattle.std.proofs.lemmas.Option.{same_Some}
use Rattle.std.proofs.lemmas.Slice.Eq.{bytes_eq-Decides}
use Rattle.java_tree.specs.Syntax.{MemberTree, DeclTree}
use Rattle.java_tree.specs.Makers.{has_maker}
use Rattle.java_core.specs.Programs.{Plain, PlainClass, PlainField, PlainMethod}
use Rattle.java_core.specs.Formed.{IsFormed, HasNoTwice}
use Rattle.java_core.proofs.Positions.{position-passes}
use Rattle.name_rules.specs.Outline.{FieldAt, MethodAt, is_maker, name_of, types_in, type_named, class_at, field_member, method_member, fields_of, methods_of, fields_declared, methods_declared, fields_from, methods_from, fields_in, methods_in, object, class_outline, field_outline, method_outline, outline}
use Rattle.name_rules.specs.Resolves.{BodyResolves, BodiesResolve, r_no_methods, r_method, heading_of, Resolves}
use Rattle.name_rules.proofs.NoMakers.{methods_written, no_maker_in}
use Rattle.flow_rules.specs.Ordered.{each}
use Rattle.flow_rules.proofs.Listed.{each_from, each_has, first, more, contains_at, at_contains, at_map, map_at, position_there}

-- ---- what declarations have

as_each : {A : Type 0} (of : ℕ → DeclTree → List A) (from : ℕ → List DeclTree → List A) → ((c : ℕ) → from c [] ≡ [])
    → ((c : ℕ) (d : DeclTree) (ds : List DeclTree) → from c (d ∷ ds) ≡ of c d ++ from (suc c) ds) → (c : ℕ) (ds : List DeclTree) → from c ds ≡ each of c ds
as_each of from none some c [] = none c
as_each of from none some c (d ∷ ds) =
    let e : suc c ≡ c + 1 = omega arith in
    some c d ds ∙ ap (λ z. of c d ++ z) (as_each of from none some (suc c) ds ∙ ap (λ n. each of n ds) e)

pub fields_each : (c : ℕ) (ds : List DeclTree) → fields_from c ds ≡ each fields_declared c ds
fields_each = as_each fields_declared fields_from (λ c. refl) (λ c d ds. refl)

pub methods_each : (c : ℕ) (ds : List DeclTree) → methods_from c ds ≡ each methods_declared c ds
methods_each = as_each methods_declared methods_from (λ c. refl) (λ c d ds. refl)

-- those of a tree without constructors
pub methods_in_each : (ds : List DeclTree) → has_maker ds ≡ false → methods_in ds ≡ each methods_declared 1 ds
methods_in_each ds makerless = methods_written ds makerless ∙ methods_each 1 ds

-- one of some declarations has it
pub record IsDeclared {A : Type 0} (of : ℕ → DeclTree → List A) (ds : List DeclTree) (f : A) : Type 0 where
  pub number : ℕ
  pub declaration : DeclTree
  pub stands : slice_get ds number ≡ Some declaration
  pub has : Contains (of (suc number) declaration) f

-- where what declarations have is what each has, it is had by one
module _ {A : Type 0} (of : ℕ → DeclTree → List A) {xs : List A} (c : ℕ) (ds : List DeclTree) (same : xs ≡ each of c ds) (f : A) where
  pub declared_from : c ≡ 1 → Contains xs f → IsDeclared of ds f
  declared_from one h =
      let x = each_from of c ds f (subst (λ z. Contains z f) same h) in
      record { number = x.0; declaration = x.2; stands = x.3; has = subst (λ j. Contains (of j x.2) f) (omega (arith, x.4, one)) x.5 }

  pub declared_has : (i j : ℕ) (d : DeclTree) → slice_get ds i ≡ Some d → j ≡ c + i → Contains (of j d) f → Contains xs f
  declared_has i j d e h k = subst (λ z. Contains z f) (sym same) (each_has of c ds i d f e j h k)

-- ---- what members have

pub member_field_from : (c : ℕ) (ms : List MemberTree) (f : FieldAt) → Contains (fields_of c ms) f
    → (m : MemberTree) × Contains ms m × Contains (field_member c m) f
member_field_from c [] f h = absurd (omega (arith, h.1))
member_field_from c (m ∷ ms) f h =
    ⊎_elim (λ x. (m, first m ms, x)) (λ x. let z = member_field_from c ms f x in (z.0, more z.0 m ms z.1, z.2))
    (Contains-append_cases (field_member c m) (fields_of c ms) f h)

pub member_field_has : (c : ℕ) (ms : List MemberTree) (f : FieldAt) (m : MemberTree) → Contains ms m → Contains (field_member c m) f
    → Contains (fields_of c ms) f
member_field_has c [] f m h k = absurd (omega (arith, h.1))
member_field_has c (x ∷ ms) f m (zero, lt, e) k = Contains-append_left (field_member c x) (fields_of c ms) f
    (subst (λ z. Contains (field_member c z) f) (sym e) k)
member_field_has c (x ∷ ms) f m (suc i, lt, e) k = Contains-append_right (field_member c x) (fields_of c ms) f
    (member_field_has c ms f m (i, omega (arith, lt), e) k)

pub member_method_from : (c : ℕ) (a : _) (ms : List MemberTree) (f : MethodAt) → Contains (methods_of c a ms) f
    → (m : MemberTree) × Contains ms m × Contains (method_member c a m) f
member_method_from c a [] f h = absurd (omega (arith, h.1))
member_method_from c a (m ∷ ms) f h =
    ⊎_elim (λ x. (m, first m ms, x)) (λ x. let z = member_method_from c a ms f x in (z.0, more z.0 m ms z.1, z.2))
    (Contains-append_cases (method_member c a m) (methods_of c a ms) f h)

pub member_method_has : (c : ℕ) (a : _) (ms : List MemberTree) (f : MethodAt) (m : MemberTree) → Contains ms m → Contains (method_member c a m) f
    → Contains (methods_of c a ms) f
member_method_has c a [] f m h k = absurd (omega (arith, h.1))
member_method_has c a (x ∷ ms) f m (zero, lt, e) k = Contains-append_left (method_member c a x) (methods_of c a ms) f
    (subst (λ z. Contains (method_member c a z) f) (sym e) k)
member_method_has c a (x ∷ ms) f m (suc i, lt, e) k = Contains-append_right (method_member c a x) (methods_of c a ms) f
    (member_method_has c a ms f m (i, omega (arith, lt), e) k)

-- ---- numbers of names

-- the number of the type of a name
abbrev pub number : List (List ℕ) → List ℕ → ℕ
number types x = (class_at (type_named types x)).0

pub named_at : (types : List (List ℕ)) → HasNoTwice types → (i : ℕ) (x : List ℕ) → slice_get types i ≡ Some x → type_named types x ≡ Some i
unfolding HasNoTwice
named_at types once i x e =
    let z = position_there (λ m. bytes_eq m x) types x (contains_at types i x e) ((bytes_eq-Decides x x).1 refl) in
    let w = position-passes (λ m. bytes_eq m x) types z.0 z.1 in
    let same : w.0 ≡ x = (bytes_eq-Decides w.0 x).0 w.2 in
    z.1 ∙ ap Some (once z.0 i x (w.1 ∙ ap Some same) e)

outline_names : (types : List (List ℕ)) (ds : List DeclTree) → map (λ (k : PlainClass). k.name)
    (map (class_outline types) ds) ≡ map name_of ds
outline_names types [] = refl
outline_names types (d ∷ ds) = ap (λ z. name_of d ∷ z) (outline_names types ds)

body_there : (O : Plain) (ms : List MethodAt) (ks : List PlainMethod) (g : ℕ) (m : MethodAt) → BodiesResolve O ms ks → slice_get ms g ≡ Some m
    → (k : PlainMethod) × (slice_get ks g ≡ Some k) × BodyResolves O m k
body_there O _ _ g m r_no_methods e = absurd (cc e)
body_there O _ _ zero m (r_method {k = k} b bs) e = (k, refl, subst (λ z. BodyResolves O z k) (same_Some _ _ e) b)
body_there O _ _ (suc g) m (r_method b bs) e = body_there O _ _ g m bs e

module _ (tree : List DeclTree) (V : Plain) (resolves : Resolves tree V) (new : IsFormed V) where
  abbrev pub types : List (List ℕ)
  types = types_in tree

  classes_are : V.classes ≡ object ∷ map (class_outline types) tree
  unfolding outline
  classes_are = resolves.classes

  fields_are : V.fields ≡ map (field_outline types) (fields_in tree)
  unfolding outline
  fields_are = resolves.fields

  headings_are : map heading_of V.methods ≡ map (method_outline types) (methods_in tree)
  unfolding outline
  headings_are = resolves.headings

  pub types_once : HasNoTwice types
  types_once = subst HasNoTwice (ap (map (λ (k : PlainClass). k.name)) classes_are ∙ ap (λ z. codes "Object" ∷ z) (outline_names types tree)) new.class_names

  -- each declaration has its number
  pub declared_named : (i : ℕ) (d : DeclTree) → slice_get tree i ≡ Some d → type_named types (name_of d) ≡ Some (suc i)
  declared_named i d e = named_at types types_once (suc i) (name_of d) (at_map name_of tree i d e)

  pub declared_number : (i : ℕ) (d : DeclTree) → slice_get tree i ≡ Some d → number types (name_of d) ≡ suc i
  declared_number i d e = ap (λ z. (class_at z).0) (declared_named i d e)

  pub class_there : (i : ℕ) (d : DeclTree) → slice_get tree i ≡ Some d → slice_get V.classes (suc i) ≡ Some (class_outline types d)
  class_there i d e = ap (λ z. slice_get z (suc i)) classes_are
      ∙ at_map (class_outline types) tree i d e

  pub class_back : (k : ℕ) (class : PlainClass) → slice_get V.classes k ≡ Some class
      → (k ≡ 0) ⊎ ((i : ℕ) × (d : DeclTree) × (k ≡ suc i) × (slice_get tree i ≡ Some d))
  class_back zero class e = inl refl
  class_back (suc i) class e =
      let w = map_at (class_outline types) tree i class (sym (ap (λ w. slice_get w (suc i)) classes_are) ∙ e) in
      inr (i, w.0, refl, w.1)

  -- fields
  pub field_there : (i : ℕ) (d : DeclTree) (f : FieldAt) → slice_get tree i ≡ Some d → Contains (fields_declared (suc i) d) f
      → (g : ℕ) × (slice_get V.fields g ≡ Some (field_outline types f))
  field_there i d f e c =
      let z = at_contains (fields_in tree) f (declared_has fields_declared 1 tree (fields_each 1 tree) f i (suc i) d e (omega arith) c) in
      (z.0, ap (λ w. slice_get w z.0) fields_are ∙ at_map (field_outline types) (fields_in tree) z.0 f z.1)

  pub record IsDeclaredField (k : PlainField) : Type 0 where
    pub field : FieldAt
    pub declared : IsDeclared fields_declared tree field
    pub is : field_outline types field ≡ k

  pub field_back : (g : ℕ) (k : PlainField) → slice_get V.fields g ≡ Some k → IsDeclaredField k
  field_back g k e =
      let w = map_at (field_outline types) (fields_in tree) g k (sym (ap (λ y. slice_get y g) fields_are) ∙ e) in
      record {
        field = w.0;
        declared = declared_from fields_declared 1 tree (fields_each 1 tree) w.0 refl (contains_at (fields_in tree) g w.0 w.1);
        is = w.2;
      }

  -- methods
  pub record IsResolved (m : MethodAt) (g : ℕ) : Type 0 where
    pub method : PlainMethod
    pub stands : slice_get V.methods g ≡ Some method
    pub heading : heading_of method ≡ method_outline types m
    pub body : BodyResolves (outline tree) m method
    pub other : is_maker m ≡ false

  resolved_at : has_maker tree ≡ false → (g : ℕ) (m : MethodAt) → slice_get (methods_in tree) g ≡ Some m → IsResolved m g
  resolved_at makerless g m e =
      let z = body_there (outline tree) (methods_in tree) V.methods g m resolves.bodies e in
      record {
        method = z.0;
        stands = z.1;
        heading = same_Some _ _ (sym (at_map heading_of V.methods g z.0 z.1)
            ∙ (ap (λ w. slice_get w g) headings_are ∙ at_map (method_outline types) (methods_in tree) g m e));
        body = z.2;
        other = (no_maker_in tree makerless m (contains_at (methods_in tree) g m e)).other;
      }

  pub method_there : has_maker tree ≡ false → (i : ℕ) (d : DeclTree) (m : MethodAt) → slice_get tree i ≡ Some d
      → Contains (methods_declared (suc i) d) m → (g : ℕ) × IsResolved m g
  method_there makerless i d m e c =
      let z = at_contains (methods_in tree) m (declared_has methods_declared 1 tree (methods_in_each tree makerless) m i (suc i) d e (omega arith) c) in
      (z.0, resolved_at makerless z.0 m z.1)

  pub record IsDeclaredMethod (g : ℕ) (k : PlainMethod) : Type 0 where
    pub method : MethodAt
    pub declared : IsDeclared methods_declared tree method
    pub resolved : IsResolved method g
    pub is : resolved.method ≡ k

  pub method_back : has_maker tree ≡ false → (g : ℕ) (k : PlainMethod) → slice_get V.methods g ≡ Some k → IsDeclaredMethod g k
  method_back makerless g k e =
      let w = map_at (method_outline types) (methods_in tree) g (heading_of k)
      (sym (ap (λ y. slice_get y g) headings_are) ∙ at_map heading_of V.methods g k e) in
      let r = resolved_at makerless g w.0 w.1 in
      record {
        method = w.0;
        declared = declared_from methods_declared 1 tree (methods_in_each tree makerless) w.0 refl (contains_at (methods_in tree) g w.0 w.1);
        resolved = r;
        is = same_Some _ _ (sym r.stands ∙ e);
      }
