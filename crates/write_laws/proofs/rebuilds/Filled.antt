-- What fills in for a body resolves to the default of its result.
use Rattle.std.proofs.Common.{◌≡◌, ℕ, zero, suc, Bool, true, false, List, Option, Some, None, refl, sym, ap, ◌∙◌, subst}
use Rattle.std.specs.Prelude.{pos, not, ◌==◌}
use Rattle.std.proofs.lemmas.Bool.{or_left, or_right, ne_eqb}
use Rattle.kaba_base.specs.declared.ClassId.{ClassId}
use Rattle.java_tree.specs.declared.TypeBase.TheVariants as bases
use Rattle.java_core.specs.declared.Ty.{Ty}
use Rattle.java_core.specs.declared.TyBase.{TyBase}
use Rattle.java_core.specs.declared.TyBase.TheVariants.{Int, Boolean, Char, Str, Class}
use Rattle.java_core.specs.Trees.{Tag, Ex, number, cast, Sts}
use Rattle.java_core.specs.Programs.{Plain, PlainMethod}
use Rattle.java_core.specs.Types.{plain_type, is_class, is_object, is_base, is_reference}
use Rattle.name_rules.specs.declared.parts.Here.{Here}
use Rattle.name_rules.specs.declared.parts.Bound.{Bound}
use Rattle.name_rules.specs.Meanings.{MeansCastBase, to_char, MeansCast}
use Rattle.name_rules.specs.Resolves.{ResolvesTo, r_number, r_truth, r_null, r_cast, r_some, r_return, StsResolve, r_no_statements, r_and_then}
use Rattle.rebuild_model.specs.Renaming.{retyped, retyped_if}
use Rattle.rebuild_model.specs.Written.{IsDefault, zero_int, no_truth, zero_char, no_object, IsFilling, fills_nothing, fills}
use Rattle.write_model.specs.Names.{nowhere}
use Rattle.write_model.specs.Members.{value_of_none, filling}

str_reference : (d : ℕ) → is_reference (record { base = Str; dim = d }) ≡ true
str_reference d = or_right (is_object (record { base = Str; dim = d })) true refl

class_reference : (c : ClassId) (d : ℕ) → is_reference (record { base = Class c; dim = d }) ≡ true
class_reference c d = or_left (is_object (record { base = Class c; dim = d })) false (or_right (not (d == 0)) true refl)

array_reference : (b : TyBase) (d : ℕ) → is_reference (record { base = b; dim = suc d }) ≡ true
array_reference b d =
    or_left (is_object (record { base = b; dim = suc d })) (is_base b Str)
    (or_left (not (suc d == 0)) (is_class b) (ap not (ne_eqb (suc d) 0 (λ e. cc e))))

char_base : (O : Plain) (b : TyBase) → MeansCastBase O bases.Char b → b ≡ Char
char_base O _ to_char = refl

cast_default : {w u : Tag} (O : Plain) (t : Ty) (i : ℕ) → MeansCast O (record { base = bases.Char; dim = 0; place = nowhere }) t
    → IsDefault (plain_type Char) (cast w i t (number u (pos 0)))
cast_default {w} {u} O t i m =
    let same : plain_type Char ≡ t = ap (λ (b : TyBase). record { base = b; dim = 0 }) (sym (char_base O t.base m.base))
    ∙ ap (λ (d : ℕ). record { base = t.base; dim = d }) (sym m.dim) in
    subst (λ z. IsDefault (plain_type Char) (cast w i z (number u (pos 0)))) same zero_char

module _ (O : Plain) (here : Here) (scope : List Bound) where
  pub default_is : (o : Option ℕ) (b : TyBase) (d : ℕ) (x : Ex) → ResolvesTo O here scope (value_of_none b d) x
      → IsDefault (retyped o (record { base = b; dim = d })) x
  default_is None Int zero _ r_number = zero_int
  default_is (Some c) Int zero _ r_number = zero_int
  default_is None Int (suc d) _ r_null = no_object (array_reference Int d)
  default_is (Some c) Int (suc d) _ r_null = no_object (array_reference Int d)
  default_is None Boolean zero _ r_truth = no_truth
  default_is (Some c) Boolean zero _ r_truth = no_truth
  default_is None Boolean (suc d) _ r_null = no_object (array_reference Boolean d)
  default_is (Some c) Boolean (suc d) _ r_null = no_object (array_reference Boolean d)
  default_is None Char zero _ (r_cast {t = t} {i = i} m r_number) = cast_default O t i m
  default_is (Some c) Char zero _ (r_cast {t = t} {i = i} m r_number) = cast_default O t i m
  default_is None Char (suc d) _ r_null = no_object (array_reference Char d)
  default_is (Some c) Char (suc d) _ r_null = no_object (array_reference Char d)
  default_is None Str d _ r_null = no_object (str_reference d)
  default_is (Some c) Str d _ r_null = no_object (str_reference d)
  default_is None (Class c) d _ r_null = no_object (class_reference c d)
  default_is (Some e) (Class c) d _ r_null = no_object (class_reference (record { 0 = e }) d)

pub filling_is : (O : Plain) (here : Here) (k : PlainMethod) (in_loop : Bool) (scope : List Bound) (o : Option ℕ) (r : Option Ty) (ys : Sts)
    → StsResolve O here k in_loop scope (filling r) ys
    → IsFilling (retyped_if o r) ys
filling_is O here k in_loop scope o None _ r_no_statements = fills_nothing
filling_is O here k in_loop scope o (Some t) _ (r_and_then (r_return (r_some {x = x} d)) r_no_statements) = fills (default_is O here scope o t.base t.dim x d)
