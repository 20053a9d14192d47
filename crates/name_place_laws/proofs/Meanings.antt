-- What a name means in an outline does not depend on the tags.
use Rattle.std.proofs.Common.{◌≡◌, ℕ, zero, suc, ◌&&◌, ◌++◌, not, List, [], ◌∷◌, map, length, Option, Some, None, Contains, refl, sym, ap, ◌∙◌, subst, ap₂}
use Rattle.std.specs.Prelude.{slice_get, option_and_then}
use Rattle.std.specs.Option.{option_map, option_map_or, option_to_list, is_none}
use Rattle.std.proofs.lemmas.List.{length-map}
use Rattle.std.proofs.lemmas.Option.{slice_get-map}
use Rattle.kaba_base.specs.declared.Place.{Place}
use Rattle.kaba_base.specs.declared.ClassId.{ClassId}
use Rattle.kaba_base.proofs.ListLemmas.{map_at, at_map}
use Rattle.java_tree.specs.declared.TypeBase.{TypeBase}
use Rattle.java_tree.specs.declared.TypeName.{TypeName}
use Rattle.java_tree.specs.Syntax.{NameRef}
use Rattle.java_tree.specs.Places.{type_unplaced}
use Rattle.java_core.specs.declared.Ty.{Ty}
use Rattle.java_core.specs.declared.TyBase.{TyBase}
use Rattle.java_core.specs.Programs.{Plain, PlainClass, PlainField, PlainMethod}
use Rattle.java_core.specs.Classes.{parent_of, faces_of, supers_of, IsSubclass, same_class, through, first_or, nearest, is_field_of, own_field_of, field_of, is_method_of, own_method}
use Rattle.java_core.specs.Makers.{maker_name, maker_of}
use Rattle.java_core.proofs.Positions.{position-map}
use Rattle.name_rules.specs.Outline.{type_named}
use Rattle.name_rules.specs.Meanings.{type_names, class_named, MeansBase, an_int, a_boolean, a_char, a_text, a_class, Means, MeansCastBase, to_int, to_boolean, to_char, to_class, MeansCast, is_bound, is_class_name, IsStaticFieldOf, IsStaticMethodOf, IsNearestField, IsMet}
use Rattle.java_core.specs.Untagged.{untag_class, untag_field, untag_method, untagged}

-- what is looked for in each item is found in its image
pub maps : {A B C : Type 0} (u : A → B) (f : B → C) (g : A → C) → ((x : A) → f (u x) ≡ g x) → (xs : List A) → map f (map u xs) ≡ map g xs
maps u f g e [] = refl
maps u f g e (x ∷ xs) = ap₂ (λ y ys. y ∷ ys) (e x) (maps u f g e xs)

module _ (O : Plain) where
  abbrev bare-outline : Plain
  bare-outline = untagged O

  pub names-same : type_names bare-outline ≡ type_names O
  names-same = maps untag_class (λ k. k.name) (λ k. k.name) (λ k. refl) O.classes

  pub named-same : (n : List ℕ) → class_named bare-outline n ≡ class_named O n
  named-same n = ap (λ z. type_named z n) names-same

  means-base : (b : TypeBase) (x : TyBase) → MeansBase O b x → MeansBase bare-outline b x
  means-base b x an_int = an_int
  means-base b x a_boolean = a_boolean
  means-base b x a_char = a_char
  means-base b x (a_text e) = a_text e
  means-base b x (a_class {n = n} f e) = a_class f (named-same n ∙ e)

  pub means : {u : TypeName} {t : Ty} → Means O u t → Means bare-outline (type_unplaced u) t
  means {u} {t} m = record { base = means-base u.base t.base m.base; dim = m.dim }

  cast-base : (b : TypeBase) (x : TyBase) → MeansCastBase O b x → MeansCastBase bare-outline b x
  cast-base b x to_int = to_int
  cast-base b x to_boolean = to_boolean
  cast-base b x to_char = to_char
  cast-base b x (to_class {n = n} e) = to_class (named-same n ∙ e)

  pub means-cast : {u : TypeName} {t : Ty} → MeansCast O u t → MeansCast bare-outline (type_unplaced u) t
  means-cast {u} {t} m = record { base = cast-base u.base t.base m.base; dim = m.dim }

  -- ---- classes

  pub parent-same : (a : ℕ) → parent_of bare-outline a ≡ parent_of O a
  parent-same a = ap (option_and_then (λ k. k.parent)) (slice_get-map untag_class O.classes a) ∙ go (slice_get O.classes a)
    where
      go : (k : Option PlainClass) → option_and_then (λ k. k.parent) (option_map untag_class k) ≡ option_and_then (λ k. k.parent) k
      go None = refl
      go (Some k) = refl

  pub faces-same : (a : ℕ) → faces_of bare-outline a ≡ faces_of O a
  faces-same a = ap (λ z. option_map_or (λ k. k.faces) z []) (slice_get-map untag_class O.classes a) ∙ go (slice_get O.classes a)
    where
      go : (k : Option PlainClass) → option_map_or (λ k. k.faces) (option_map untag_class k) [] ≡ option_map_or (λ k. k.faces) k []
      go None = refl
      go (Some k) = refl

  pub supers-same : (a : ℕ) → supers_of bare-outline a ≡ supers_of O a
  supers-same a = ap₂ (λ p fs. option_to_list p ++ fs) (parent-same a) (faces-same a)

  pub below : {a b : ℕ} → IsSubclass O a b → IsSubclass bare-outline a b
  below same_class = same_class
  below (through {a = a} {c = c} h r) = through (subst (λ z. Contains z c) (sym (supers-same a)) h) (below r)

  pub below-back : {a b : ℕ} → IsSubclass bare-outline a b → IsSubclass O a b
  below-back same_class = same_class
  below-back (through {a = a} {c = c} h r) = through (subst (λ z. Contains z c) (supers-same a) h) (below-back r)

  -- ---- members

  pub own-field-same : (c : ℕ) (n : List ℕ) → own_field_of bare-outline c n ≡ own_field_of O c n
  own-field-same c n = position-map untag_field (λ f. is_field_of c n f) O.fields

  pub nearest-same : (f g : ℕ → Option ℕ) → ((k : ℕ) → f k ≡ g k) → (n c : ℕ) → nearest bare-outline f n c ≡ nearest O g n c
  nearest-same f g e zero c = e c
  nearest-same f g e (suc n) c =
      ap₂ first_or (e c) (ap (option_and_then (λ p. nearest bare-outline f n p.0)) (parent-same c) ∙ go (λ k. nearest-same f g e n k) (parent_of O c))
    where
      go : ((k : ℕ) → nearest bare-outline f n k ≡ nearest O g n k) → (p : Option ClassId)
          → option_and_then (λ p. nearest bare-outline f n p.0) p ≡ option_and_then (λ p. nearest O g n p.0) p
      go h None = refl
      go h (Some p) = h p.0

  field-same : (c : ℕ) (n : List ℕ) → field_of bare-outline c n ≡ field_of O c n
  unfolding field_of
  field-same c n =
      ap (λ z. nearest bare-outline (λ k. own_field_of bare-outline k n) z c) (length-map O.classes untag_class)
      ∙ nearest-same (λ k. own_field_of bare-outline k n) (λ k. own_field_of O k n) (λ k. own-field-same k n) (length O.classes) c

  pub class-name-same : (c : ℕ) (names : List (List ℕ)) (n : List ℕ) (p q : Place)
      → is_class_name bare-outline c names (NameRef n p) ≡ is_class_name O c names (NameRef n q)
  class-name-same c names n p q = ap (λ z. not (is_bound names n) && is_none z) (field-same c n)

  pub static-field : {c f : ℕ} {n : List ℕ} → IsStaticFieldOf O c n f → IsStaticFieldOf bare-outline c n f
  static-field {c} {f} {n} s =
      record { member = untag_field s.member; own = own-field-same c n ∙ s.own; stands = at_map untag_field O.fields f s.member s.stands; static = s.static }

  pub static-field-back : {c f : ℕ} {n : List ℕ} → IsStaticFieldOf bare-outline c n f → IsStaticFieldOf O c n f
  static-field-back {c} {f} {n} s =
      let a = map_at untag_field O.fields f s.member s.stands in
      record { member = a.0; own = sym (own-field-same c n) ∙ s.own; stands = a.1; static = ap (λ z. z.is_static) a.2 ∙ s.static }

  pub static-method : {c m : ℕ} {n : List ℕ} → IsStaticMethodOf O c n m → IsStaticMethodOf bare-outline c n m
  static-method {c} {m} {n} s =
      record { member = untag_method s.member; stands = at_map untag_method O.methods m s.member s.stands; owner = s.owner; name = s.name; static = s.static }

  pub static-method-back : {c m : ℕ} {n : List ℕ} → IsStaticMethodOf bare-outline c n m → IsStaticMethodOf O c n m
  static-method-back {c} {m} {n} s =
      let a = map_at untag_method O.methods m s.member s.stands in record {
        member = a.0;
        stands = a.1;
        owner = ap (λ z. z.owner) a.2 ∙ s.owner;
        name = ap (λ z. z.name) a.2 ∙ s.name;
        static = ap (λ z. z.is_static) a.2 ∙ s.static;
      }

  pub nearest-field : {c f : ℕ} {n : List ℕ} {k : PlainField} → IsNearestField O c n f k → IsNearestField bare-outline c n f (untag_field k)
  nearest-field {c} {f} {n} {k} s = record { nearest = field-same c n ∙ s.nearest; stands = at_map untag_field O.fields f k s.stands }

  pub nearest-back : {c f : ℕ} {n : List ℕ} {k : PlainField} → IsNearestField bare-outline c n f k
      → (h : PlainField) × IsNearestField O c n f h × (untag_field h ≡ k)
  nearest-back {c} {f} {n} {k} s =
      let a = map_at untag_field O.fields f k s.stands in
      (a.0, record { nearest = sym (field-same c n) ∙ s.nearest; stands = a.1 }, a.2)

  pub met : {c m : ℕ} {n : List ℕ} {k : PlainMethod} → IsMet O c n m k → IsMet bare-outline c n m (untag_method k)
  met {c} {m} {n} {k} s = record { stands = at_map untag_method O.methods m k s.stands; name = s.name; above = below s.above }

  pub met-back : {c m : ℕ} {n : List ℕ} {k : PlainMethod} → IsMet bare-outline c n m k → (h : PlainMethod) × IsMet O c n m h × (untag_method h ≡ k)
  met-back {c} {m} {n} {k} s =
      let a = map_at untag_method O.methods m k s.stands in (
        a.0,
        record {
          stands = a.1;
          name = ap (λ z. z.name) a.2 ∙ s.name;
          above = subst (λ z. IsSubclass O c z) (ap (λ z. z.owner) (sym a.2))
              (below-back s.above);
        },
        a.2,
      )

  -- ---- constructors

  own-method-same : (c : ℕ) (n : List ℕ) → own_method bare-outline c n ≡ own_method O c n
  own-method-same c n = position-map untag_method (λ k. is_method_of c n k) O.methods

  pub maker-same : (c : ℕ) → maker_of bare-outline c ≡ maker_of O c
  maker-same c = ap (option_and_then (λ k. own_method bare-outline c (maker_name k.name))) (slice_get-map untag_class O.classes c) ∙ go (slice_get O.classes c)
    where
      go : (o : Option PlainClass) → option_and_then (λ k. own_method bare-outline c (maker_name k.name)) (option_map untag_class o)
          ≡ option_and_then (λ k. own_method O c (maker_name k.name)) o
      go None = refl
      go (Some k) = own-method-same c (maker_name k.name)
