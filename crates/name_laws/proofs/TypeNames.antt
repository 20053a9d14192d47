-- What the names of types mean, or that one is not there.
use Rattle.std.proofs.Common.{◌≡◌, ℕ, Bool, true, false, List, Option, Some, None, refl, sym, ap, ◌∙◌, subst}
use Rattle.std.specs.Str.{chars}
use Rattle.kaba_base.specs.declared.Place.{Place}
use Rattle.java_tree.specs.declared.TypeName.{TypeName}
use Rattle.java_tree.specs.declared.TypeBase.{TypeBase}
use Rattle.java_tree.specs.declared.TypeBase.TheVariants as bases
use Rattle.java_core.specs.declared.Ty.{Ty}
use Rattle.java_core.specs.declared.TyBase.{TyBase}
use Rattle.java_core.specs.Programs.{Plain}
use Rattle.name_rules.specs.declared.Refusal.TheVariants.{Unknown}
use Rattle.name_laws.specs.Known.{KnownClass}
use Rattle.name_laws.specs.Names.{number_of, asked, or_unknown, base_of, type_of}
use Rattle.name_rules.specs.Outline.{is_text_type, base_meant, type_meant}
use Rattle.name_rules.specs.Meanings.{type_names, class_named, Means, MeansBase, an_int, a_boolean, a_char, a_text, a_class}
use Rattle.name_rules.specs.Conditions.{IsUnknownType, no_such_type}
use Rattle.name_laws.proofs.Sees.{Tells, tell}

module _ (known : List KnownClass) (O : Plain) (types : (n : List ℕ) → number_of known n ≡ class_named O n) where
  pub asked-tells : (n : List ℕ) (p : Place) → Tells (λ k. class_named O n ≡ Some k) (λ r. (r ≡ Unknown n p) × (class_named O n ≡ None)) (asked known n p)
  asked-tells n p = go (number_of known n) refl
    where
      go : (o : Option ℕ) → number_of known n ≡ o → Tells (λ k. class_named O n ≡ Some k) (λ r. (r ≡ Unknown n p) × (class_named O n ≡ None)) (or_unknown o n p)
      go (Some k) e = sym (types n) ∙ e
      go None e = (refl, sym (types n) ∙ e)

  -- the type of a declaration or a new array
  base-tells : (u : TypeName) (b : TypeBase) → u.base ≡ b → Tells (λ x. MeansBase O b x) (IsUnknownType O u) (base_of known b u.place)
  unfolding chars
  base-tells u bases.Int e = an_int
  base-tells u bases.Boolean e = a_boolean
  base-tells u bases.Char e = a_char
  base-tells u (bases.Named n) e = go (is_text_type n) refl
    where
      go : (c : Bool) → is_text_type n ≡ c → Tells (λ x. MeansBase O (bases.Named n) x) (IsUnknownType O u) (base_of known (bases.Named n) u.place)
      go true h = rw h (a_text h)
      go false h = rw h (tell (λ x. MeansBase O (bases.Named n) x) (IsUnknownType O u) (asked known n u.place) _ (asked-tells n u.place) (λ k f. a_class h f)
          (λ r f. subst (IsUnknownType O u) (sym f.0) (no_such_type e h f.1)))

  pub type-tells : (u : TypeName) → Tells (Means O u) (IsUnknownType O u) (type_of known u)
  type-tells u = tell (Means O u) (IsUnknownType O u) (base_of known u.base u.place) _ (base-tells u u.base refl)
      (λ b h. record { base = h; dim = refl }) (λ r h. h)

-- a type that a name means is the one that the outline has for it
base-meant : (O : Plain) (b : TypeBase) (x : TyBase) → MeansBase O b x → x ≡ base_meant (type_names O) b
base-meant O bases.Int x an_int = refl
base-meant O bases.Boolean x a_boolean = refl
base-meant O bases.Char x a_char = refl
base-meant O (bases.Named n) x (a_text e) = rw e refl
base-meant O (bases.Named n) x (a_class e f) = rw (e, f) refl

pub type-meant : (O : Plain) (u : TypeName) (t : Ty) → Means O u t → t ≡ type_meant (type_names O) u
type-meant O u t m = ap (λ b. record { base = b; dim = t.dim }) (base-meant O u.base t.base m.base)
    ∙ ap (λ d. record { base = base_meant (type_names O) u.base; dim = d }) m.dim
