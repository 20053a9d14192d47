-- Mirror. What a written body rests on in the outline of the tree where it stands.
use Rattle.std.specs.Prelude.{◌≡◌, ◌≢◌, ◌==◌, ℕ, true, false, List, Some, None, slice_get}
use Rattle.java_core.specs.Programs.{Plain, PlainField, PlainLocal, PlainMethod}
use Rattle.java_core.specs.Classes.{field_of}
use Rattle.java_core.specs.Formed.{variables_of}
use Rattle.java_core.specs.Makers.{maker_of}
use Rattle.flow_rules.specs.declared.items.Site.{Site}
use Rattle.flow_rules.specs.Numbered.{sites_of}
use Rattle.rebuild_model.specs.Renaming.{make_name}
use Rattle.name_rules.specs.declared.parts.Here.{Here}
use Rattle.name_rules.specs.Outline.{is_type_name}
use Rattle.name_rules.specs.Meanings.{type_names, class_named, IsStaticFieldOf, IsStaticMethodOf, IsNearestField, IsMet}
use Rattle.write_model.specs.Names.{class_name, makers_name}

-- the method k of the program P is written in the type that `here` says, of a tree with the outline O
module _ (P : Plain) (k : PlainMethod) (O : Plain) (here : Here) where
  -- the name of a class with static members is that of a type, and neither that of a variable nor of a field there
  pub record HasHolder (c : ℕ) : Type 0 where
    pub number : ℕ
    pub named : class_named O (class_name P c) ≡ Some number
    pub no_field : field_of O here.owner (class_name P c) ≡ None
    pub no_variable : (i : ℕ) (v : PlainLocal) → slice_get (variables_of k) i ≡ Some v → v.name ≢ class_name P c

  -- a static field is found by its holder's name, and inside its holder by its own
  pub record FindsField (old : PlainField) : Type 0 where
    pub holder : HasHolder old.owner
    pub field : ℕ
    pub found : IsStaticFieldOf O holder.number old.name field
    pub near : k.is_static ≡ true → k.owner ≡ old.owner
        → (g : ℕ) × (new : PlainField) × IsNearestField O here.owner old.name g new × (new.is_static ≡ true) × (new.owner ≡ here.owner)

  -- and a static method
  pub record FindsMethod (old : PlainMethod) : Type 0 where
    pub holder : HasHolder old.owner
    pub method : ℕ
    pub found : IsStaticMethodOf O holder.number old.name method
    pub near : k.is_static ≡ true → k.owner ≡ old.owner → (g : ℕ) × (new : PlainMethod) × IsMet O here.owner old.name g new

  -- the name of the holder of the methods that make objects is that of a type, and neither that of a variable nor of a field there, and it has the
  -- method of a creation
  pub record FindsMake (n : ℕ) : Type 0 where
    pub number : ℕ
    pub named : class_named O (makers_name P) ≡ Some number
    pub no_field : field_of O here.owner (makers_name P) ≡ None
    pub no_variable : (i : ℕ) (v : PlainLocal) → slice_get (variables_of k) i ≡ Some v → v.name ≢ makers_name P
    pub method : ℕ
    pub found : IsStaticMethodOf O number (make_name P n) method

  -- a written body can stand here: its static members are found, and no variable has the name of a type
  pub record IsStage : Type 0 where
    pub static : here.is_static ≡ k.is_static
    pub fields : (f : ℕ) (old : PlainField) → slice_get P.fields f ≡ Some old → old.is_static ≡ true → FindsField old
    pub methods : (d : ℕ) (old : PlainMethod) → slice_get P.methods d ≡ Some old → old.is_static ≡ true → FindsMethod old
    pub makes : (s m : ℕ) (x : Site) → slice_get (sites_of P) s ≡ Some x → (x.ty.dim == 0) ≡ true → maker_of P x.ty.class.0 ≡ Some m → FindsMake x.number
    -- a holder has no methods but its own
    pub met : k.is_static ≡ true → (x : List ℕ) (g : ℕ) (new : PlainMethod) → IsMet O here.owner x g new → (new.is_static ≡ true) × (new.owner ≡ here.owner)
    -- no variable has the name of a type
    pub variables : (i : ℕ) (v : PlainLocal) → slice_get (variables_of k) i ≡ Some v → is_type_name (type_names O) v.name ≡ false
