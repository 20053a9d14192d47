-- Mirror. What the outline of a written program tells of the names in its bodies, and in which order a program numbers
-- its locals.
use Rattle.std.specs.Prelude.{◌≡◌, ◌≢◌, ◌==◌, ℕ, true, false, length, Some, slice_get}
use Rattle.std.specs.Option.{is_some}
use Rattle.java_core.specs.Trees.{Sts}
use Rattle.java_core.specs.Programs.{Plain, PlainField, PlainMethod}
use Rattle.java_core.specs.Classes.{own_field_of}
use Rattle.java_core.specs.Makers.{maker_of}
use Rattle.java_core.specs.Formed.{variables_of}
use Rattle.kaba_order.specs.Orders.{is_live}
use Rattle.hier_model.specs.Hierarchies.{Hierarchy, type_name, place_of_row}
use Rattle.flow_rules.specs.declared.items.RowItem.{RowItem}
use Rattle.flow_rules.specs.declared.items.Site.{Site}
use Rattle.flow_rules.specs.Numbered.{sites_of}
use Rattle.flow_rules.specs.Facts.{is_holder, makers_of, numbers}
use Rattle.name_rules.specs.Outline.{is_text_type}
use Rattle.name_rules.specs.Meanings.{class_named}
use Rattle.name_rules.specs.Resolves.{Counts, declares_all}
use Rattle.write_model.specs.Names.{class_name, makers_name}
use Rattle.rebuild_model.specs.Renaming.{Places, renaming_of, make_name}
use Rattle.rebuild_model.specs.Makes.{IsMake}
use Rattle.rebuild_model.specs.Matches.{IsStaticField, IsStaticMethod}

-- the locals of a body are numbered behind the parameters in the order of the text
unfoldable pub HasLocalsInOrder : Plain → Type 0
HasLocalsInOrder P = (m : ℕ) (k : PlainMethod) (xs : Sts) → slice_get P.methods m ≡ Some k → k.body ≡ Some xs
    → Counts (length k.params) (declares_all xs) (length (variables_of k))

-- P is the old program, U the new one, and O its outline
pub record KnowsNames (P : Plain) (H : Hierarchy) (U O : Plain) (T : Places) : Type 0 where
  -- rows stand at live nodes, whose names name their types
  pub row_live : (i : RowItem) (r : ℕ) → (numbers P).row i ≡ Some r → is_live H.order (place_of_row H r) ≡ true
  pub type : (n : ℕ) → is_live H.order n ≡ true → class_named O (type_name H n) ≡ Some (T.type_of n)
  pub no_text : (n : ℕ) → is_live H.order n ≡ true → is_text_type (type_name H n) ≡ false
  -- the name of a holder names it, and no field has that name
  pub holder : (c : ℕ) → is_holder P c ≡ true → class_named O (class_name P c) ≡ Some (T.holder_of c)
  pub no_field : (c f : ℕ) (k : PlainField) → is_holder P c ≡ true → slice_get O.fields f ≡ Some k → k.name ≢ class_name P c
  -- a static field is found in its holder, and so is a static method
  pub static_field : (f : ℕ) (old : PlainField) → slice_get P.fields f ≡ Some old → old.is_static ≡ true
      → (g : ℕ) × (own_field_of O (T.holder_of old.owner) old.name ≡ Some g) × IsStaticField P U (renaming_of P H T) f g
  pub static_method : (m g : ℕ) (old new : PlainMethod) → slice_get P.methods m ≡ Some old → old.is_static ≡ true
      → slice_get O.methods g ≡ Some new → new.is_static ≡ true → new.owner ≡ T.holder_of old.owner → new.name ≡ old.name
      → IsStaticMethod P U (renaming_of P H T) m g
  -- the name of the holder of the methods that make objects names it, and no field has that name
  pub makers : is_some (makers_of P) ≡ true → class_named O (makers_name P) ≡ Some T.makers
  pub makers_no_field : (f : ℕ) (k : PlainField) → is_some (makers_of P) ≡ true → slice_get O.fields f ≡ Some k → k.name ≢ makers_name P
  -- what it has under the name of a site's method makes the objects of the site
  pub make : (s m g : ℕ) (z : Site) (new : PlainMethod) → slice_get (sites_of P) s ≡ Some z → (z.ty.dim == 0) ≡ true → maker_of P z.ty.class.0 ≡ Some m
      → slice_get O.methods g ≡ Some new → new.owner ≡ T.makers → new.name ≡ make_name P z.number → IsMake P U (renaming_of P H T) z.number m g
