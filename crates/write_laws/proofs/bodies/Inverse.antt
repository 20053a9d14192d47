-- What a written name, access or call resolves to, where it is known what its names are.
use Rattle.std.proofs.Common.{◌≡◌, ℕ, List, Some, None, refl, sym, ap, ◌∙◌, subst}
use Rattle.std.specs.Prelude.{true, false}
use Rattle.std.proofs.lemmas.Bool.{false≢true}
use Rattle.std.proofs.lemmas.Option.{same_Some}
use Rattle.kaba_base.specs.declared.Place.{Place}
use Rattle.java_tree.specs.Syntax.{Expression, NameRef, FieldOf, CallOf, CallOn, Expressions, NewOf}
use Rattle.java_core.specs.Trees.{at_place, Ex, Exs, local, static_field, field, call, static_call, create}
use Rattle.java_core.specs.Programs.{Plain, PlainField, PlainMethod}
use Rattle.java_core.specs.Classes.{field_of}
use Rattle.name_rules.specs.declared.parts.Bound.{Bound}
use Rattle.name_rules.specs.declared.parts.Here.{Here}
use Rattle.name_rules.proofs.FirstMethods.{first-met}
use Rattle.name_rules.specs.Meanings.{class_named, in_scope, bound_names, is_class_name, IsStaticFieldOf, IsStaticMethodOf, IsNearestField, IsMet}
use Rattle.name_rules.specs.Resolves.{ResolvesTo, AllResolve, r_local, r_static_field, r_own_field, r_class_field, r_field, r_own_static_call, r_own_call, r_static_call, r_call, r_create}
use Rattle.java_tree.specs.declared.Id.{Id}

module _ (O : Plain) (here : Here) (bs : List Bound) where
  abbrev To : Expression → Ex → Type 0
  To e d = ResolvesTo O here bs e d

  pub at_local : (n : List ℕ) (p : Place) (i : ℕ) (d : Ex) → in_scope bs n ≡ Some i → To (NameRef n p) d → d ≡ local (at_place p) i
  at_local n p i d e (r_local {i = j} h) = ap (λ z. local (at_place p) z) (same_Some j i (sym h ∙ e))
  at_local n p i d e (r_static_field h f s o) = absurd (let z = sym h ∙ e in cc)
  at_local n p i d e (r_own_field h f s o) = absurd (let z = sym h ∙ e in cc)

  -- a name that no variable has is none
  pub no_variable : (n : List ℕ) (p : Place) (d : Ex) → in_scope bs n ≡ None → field_of O here.owner n ≡ None → To (NameRef n p) d → ⊥
  no_variable n p d e f (r_local h) = let z = sym h ∙ e in cc
  no_variable n p d e f (r_static_field h g s o) = let z = sym g.nearest ∙ f in cc
  no_variable n p d e f (r_own_field h g s o) = let z = sym g.nearest ∙ f in cc

  -- a static field of the class itself
  pub record OwnField (n : List ℕ) (p : Place) (d : Ex) : Type 0 where
    pub number : ℕ
    pub member : PlainField
    pub nearest : IsNearestField O here.owner n number member
    pub is : d ≡ static_field (at_place p) number

  pub at_static : (n : List ℕ) (p : Place) (d : Ex) → in_scope bs n ≡ None → here.is_static ≡ true → To (NameRef n p) d → OwnField n p d
  at_static n p d e s (r_local h) = absurd (let z = sym h ∙ e in cc)
  at_static n p d e s (r_static_field {f = f} {k = k} h g t o) = record { number = f; member = k; nearest = g; is = refl }
  at_static n p d e s (r_own_field h g t o) = absurd (false≢true (sym o ∙ s))

  -- a creation
  pub at_create : (c : Id) (es : Expressions) (p : Place) (d : Ex) → To (NewOf c es p) d
      → (i : ℕ) × (k : ℕ) × (xs : Exs) × (class_named O c.name ≡ Some k) × AllResolve O here bs es xs × (d ≡ create (at_place p) i k xs)
  at_create c es p d (r_create {xs = xs} {i = i} {k = k} named all) = (i, k, xs, named, all, refl)

  pub at_field : (e : Expression) (n : List ℕ) (p : Place) (d : Ex) → is_class_name O here.owner (bound_names bs) e ≡ false → To (FieldOf e n p) d
      → (x : Ex) × To e x × (d ≡ field (at_place p) x n)
  at_field e n p d free (r_class_field is c f) = absurd (false≢true (sym free ∙ is))
  at_field e n p d free (r_field {x = x} r) = (x, r, refl)

  pub at_class_field : (c n : List ℕ) (q p : Place) (h : ℕ) (d : Ex) → class_named O c ≡ Some h → ((x : Ex) → To (NameRef c q) x → ⊥)
      → To (FieldOf (NameRef c q) n p) d
      → (f : ℕ) × IsStaticFieldOf O h n f × (d ≡ static_field (at_place p) f)
  at_class_field c n q p h d e free (r_class_field {k = k} {f = f} is l s) = (f, subst (λ z. IsStaticFieldOf O z n f) (same_Some k h (sym l ∙ e)) s, refl)
  at_class_field c n q p h d e free (r_field {x = x} r) = absurd (free x r)

  -- a static method of the class itself
  pub record OwnMethod (n : List ℕ) (es : Expressions) (p : Place) (d : Ex) : Type 0 where
    pub number : ℕ
    pub member : PlainMethod
    pub met : IsMet O here.owner n number member
    pub static : member.is_static ≡ true
    pub owner : member.owner ≡ here.owner
    pub args : Exs
    pub all : AllResolve O here bs es args
    pub is : d ≡ static_call (at_place p) number args

  pub at_own_call : (n : List ℕ) (es : Expressions) (p : Place) (d : Ex) → here.is_static ≡ true → To (CallOf n es p) d → OwnMethod n es p d
  at_own_call n es p d s (r_own_static_call {xs = xs} {m = m} {k = k} met t o all) =
      record { number = m; member = k; met = first-met O met; static = t; owner = o; args = xs; all = all; is = refl }
  at_own_call n es p d s (r_own_call met t o all) = absurd (false≢true (sym o ∙ s))

  pub at_call : (e : Expression) (n : List ℕ) (es : Expressions) (p : Place) (d : Ex) → is_class_name O here.owner (bound_names bs) e ≡ false
      → To (CallOn e n es p) d
      → (x : Ex) × (xs : Exs) × To e x × AllResolve O here bs es xs × (d ≡ call (at_place p) x n xs)
  at_call e n es p d free (r_static_call is c f all) = absurd (false≢true (sym free ∙ is))
  at_call e n es p d free (r_call {x = x} {xs = xs} r all) = (x, xs, r, all, refl)

  pub at_class_call : (c n : List ℕ) (es : Expressions) (q p : Place) (h : ℕ) (d : Ex) → class_named O c ≡ Some h
      → ((x : Ex) → To (NameRef c q) x → ⊥) → To (CallOn (NameRef c q) n es p) d
      → (m : ℕ) × (xs : Exs) × IsStaticMethodOf O h n m × AllResolve O here bs es xs × (d ≡ static_call (at_place p) m xs)
  at_class_call c n es q p h d e free (r_static_call {xs = xs} {k = k} {m = m} is l s all) =
      (m, xs, subst (λ z. IsStaticMethodOf O z n m) (same_Some k h (sym l ∙ e)) s, all, refl)
  at_class_call c n es q p h d e free (r_call {x = x} r all) = absurd (free x r)
