-- The types of the written tree have names that can be written.
use Rattle.std.proofs.Common.{◌≡◌, ℕ, zero, suc, [], Option, Some, None, refl, sym, ap, ◌∙◌, subst, ⊎_elim, true}
use Rattle.std.specs.Prelude.{slice_get, codes}
use Rattle.std.specs.Option.{option_map, option_map_or}
use Rattle.std.proofs.lemmas.Option.{same_Some}
use Rattle.java_lex.specs.Writable.{IsName}
use Rattle.java_tree.specs.Formed.{IsFormedBase, IsCastBase}
use Rattle.java_core.specs.declared.Ty.{Ty}
use Rattle.java_core.specs.declared.TyBase.{TyBase}
use Rattle.java_core.specs.declared.TyBase.TheVariants.{Int, Boolean, Char, Str, Class}
use Rattle.java_core.specs.Programs.{PlainClass, PlainMethod}
use Rattle.java_core.specs.Formed.{IsClass, IsKnownBase, IsCastType, to_int, to_char, to_class}
use Rattle.hier_model.specs.Hierarchies.{place_of_row}
use Rattle.flow_rules.specs.declared.items.RowItem.{RowItem}
use Rattle.flow_rules.specs.Numbered.{row_number}
use Rattle.flow_rules.specs.Facts.{numbers}
use Rattle.flow_rules.proofs.Listed.{below_at}
use Rattle.rebuild_model.specs.Renaming.{renaming_of}
use Rattle.write_model.specs.Names.{class_name, row_name, written_base}
use Rattle.write_laws.proofs.rebuilds.Retyped.{row_live}
use Rattle.write_laws.proofs.given.Given.{Given, words}
use Rattle.write_laws.proofs.given.Names.{type_named}
use Rattle.java_meaning.proofs.Small.{named}
use Rattle.std.proofs.lemmas.Bool.{false≢true}

module _ (C : Given) where
  open C use {program as P, facts as F, hierarchy as H}
  open words C use {renaming as R}

  -- a class of the program
  pub class_named : (c : ℕ) (k : PlainClass) → slice_get P.classes c ≡ Some k → IsName k.name
  class_named zero k e =
      let o = C.ready.formed.object in
      subst IsName (sym (ap (λ (k : PlainClass). k.name) (same_Some _ _ (sym e ∙ o.first)) ∙ o.name)) (named (codes "Object") refl)
  class_named (suc c) k e = (C.ready.formed.classes c k e).name

  pub known_class_named : (c : ℕ) → IsClass P c → IsName (class_name P c)
  known_class_named c lt =
      let k = below_at P.classes c lt in
      subst IsName (sym (ap (λ o. option_map_or (λ (k : PlainClass). k.name) o []) k.1)) (class_named c k.0 k.1)

  -- the name by which the class of an item is written
  pub row_named : (i : RowItem) (c : ℕ) → IsClass P c → IsName (row_name P H (R.row_type i) c)
  unfolding renaming_of numbers
  row_named i c lt = go (row_number P i) refl
    where
      go : (o : Option ℕ) → row_number P i ≡ o → IsName (row_name P H (option_map (place_of_row H) o) c)
      go None e = known_class_named c lt
      go (Some r) e = type_named C (place_of_row H r) (row_live P F C.ready.facts H C.ready.hierarchy i r e)

  pub base_formed : (i : RowItem) (b : TyBase) → IsKnownBase P b → IsFormedBase (written_base P H (R.row_type i) b)
  base_formed i Int h = tt
  base_formed i Boolean h = tt
  base_formed i Char h = tt
  base_formed i Str h = (named (codes "String") refl)
  base_formed i (Class c) h = row_named i c.0 h

  -- the type of a cast
  pub cast_formed : (i : RowItem) (v : Ty) → IsCastType P v
      → IsCastBase (written_base P H (R.row_type i) v.base) × (v.dim ≡ 0)
  cast_formed i _ to_int = (tt, refl)
  cast_formed i _ to_char = (tt, refl)
  cast_formed i _ (to_class {c = c} lt) = (row_named i c.0 lt, refl)

  -- a static method is no constructor
  pub static_named : (d : ℕ) (k : PlainMethod) → slice_get P.methods d ≡ Some k → k.is_static ≡ true → IsName k.name
  static_named d k e s =
      ⊎_elim (λ n. n) (λ i. absurd (false≢true (sym (C.ready.formed.makers d k e i).instance ∙ s))) (C.ready.formed.methods d k e).name
