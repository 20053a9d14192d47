-- Believed. When a program is another one over a new class hierarchy (after Streckenbach and Snelting, 2004, who write
-- the program of a hierarchy).
use Rattle.std.specs.Prelude.{◌≡◌, ◌≢◌, ◌↔◌, ◌⊎◌, ◌==◌, ℕ, true, false, not, [], Some, None, slice_get}
use Rattle.std.specs.Option.{is_some}
use Rattle.java_core.specs.Programs.{Plain, PlainClass, PlainField, PlainMethod}
use Rattle.java_core.specs.Classes.{IsSubclass}
use Rattle.java_core.specs.Makers.{maker_of, HasNoMaker}
use Rattle.kaba_order.specs.Orders.{is_live, is_le}
use Rattle.fact_model.specs.declared.facts.Facts.{Facts}
use Rattle.hier_model.specs.Hierarchies.{Hierarchy, type_name, is_class_node}
use Rattle.flow_rules.specs.declared.items.ColumnItem.TheVariants as column
use Rattle.flow_rules.specs.declared.items.Site.{Site}
use Rattle.flow_rules.specs.Numbered.{sites_of}
use Rattle.flow_rules.specs.Facts.{is_holder, PlainMakers, makers_of}
use Rattle.rebuild_model.specs.Renaming.{Places, renaming_of}
use Rattle.rebuild_model.specs.Makes.{IsMake}
use Rattle.rebuild_model.specs.Matches.{IsStaticMethod}
use Rattle.rebuild_model.specs.Members.{is_made_at, is_headed, is_filled, StandsAt, IsField, IsBody, IsOfSlot, IsHead, IsFiller, IsStaticFieldOf, IsStaticMethodOf}

-- P is the old program, and W the new one
module _ (P : Plain) (F : Facts) (H : Hierarchy) (W : Plain) where
  -- the type of a live node bears its name, is a class exactly where the node is a class node, and then abstract exactly where no object is created there
  pub record IsNodeType (T : Places) (n : ℕ) : Type 0 where
    pub class : PlainClass
    pub stands : slice_get W.classes (T.type_of n) ≡ Some class
    pub no_object : T.type_of n ≢ 0
    pub name : class.name ≡ type_name H n
    pub kind : class.is_interface ≡ not (is_class_node F H n)
    pub abstract : is_class_node F H n ≡ true → class.is_abstract ≡ not (is_made_at F H n)

  -- the holder of an old class's static members bears its name, and has no supertype but Object
  pub record IsHolderType (T : Places) (c : ℕ) : Type 0 where
    pub class : PlainClass
    pub old : PlainClass
    pub stands : slice_get W.classes (T.holder_of c) ≡ Some class
    pub old_stands : slice_get P.classes c ≡ Some old
    pub no_object : T.holder_of c ≢ 0
    pub name : class.name ≡ old.name
    pub parent : class.parent ≡ Some (record { 0 = 0 })
    pub faces : class.faces ≡ []

  -- the holder of the methods that make objects bears its name, and has no supertype but Object
  pub record IsMakersType (T : Places) (makers : PlainMakers) : Type 0 where
    pub class : PlainClass
    pub stands : slice_get W.classes T.makers ≡ Some class
    pub no_object : T.makers ≢ 0
    pub name : class.name ≡ makers.holder
    pub parent : class.parent ≡ Some (record { 0 = 0 })
    pub faces : class.faces ≡ []

  -- a creation of an object of a class with a constructor, by its number among the sites
  pub record IsMadeSite (s : ℕ) : Type 0 where
    pub site : Site
    pub stands : slice_get (sites_of P) s ≡ Some site
    pub object : (site.ty.dim == 0) ≡ true
    pub maker : ℕ
    pub has : maker_of P site.ty.class.0 ≡ Some maker

  -- each type but Object is that of one live node, or of one class with static members, or the holder of the methods that make objects
  pub record AreTypes (T : Places) : Type 0 where
    pub nodes : (n : ℕ) → is_live H.order n ≡ true → IsNodeType T n
    pub holders : (c : ℕ) → is_holder P c ≡ true → IsHolderType T c
    pub makers : (m : PlainMakers) → makers_of P ≡ Some m → IsMakersType T m
    pub nodes_once : (n m : ℕ) → is_live H.order n ≡ true → is_live H.order m ≡ true → T.type_of n ≡ T.type_of m → n ≡ m
    pub holders_once : (c d : ℕ) → is_holder P c ≡ true → is_holder P d ≡ true → T.holder_of c ≡ T.holder_of d → c ≡ d
    pub apart : (n c : ℕ) → is_live H.order n ≡ true → is_holder P c ≡ true → T.type_of n ≢ T.holder_of c
    pub makers_no_node : (n : ℕ) → is_live H.order n ≡ true → is_some (makers_of P) ≡ true → T.type_of n ≢ T.makers
    pub makers_no_holder : (c : ℕ) → is_holder P c ≡ true → is_some (makers_of P) ≡ true → T.holder_of c ≢ T.makers
    pub all : (k : ℕ) (class : PlainClass) → slice_get W.classes k ≡ Some class
        → (k ≡ 0) ⊎ (((n : ℕ) × (is_live H.order n ≡ true) × (k ≡ T.type_of n)) ⊎ (((c : ℕ) × (is_holder P c ≡ true) × (k ≡ T.holder_of c))
        ⊎ ((is_some (makers_of P) ≡ true) × (k ≡ T.makers))))

  -- the instance members are the fields, bodies, heads and fillers of the nodes, and no others
  pub record AreMembers (T : Places) : Type 0 where
    pub fields : (g : ℕ) (new : PlainField) → slice_get W.fields g ≡ Some new → new.is_static ≡ false → (f : ℕ) × IsField P F H W T f new
    pub each_field : (f n : ℕ) → StandsAt P F H W T (column.Fld f) n → (g : ℕ) × (new : PlainField) × (slice_get W.fields g ≡ Some new)
        × IsField P F H W T f new
    pub methods : (g : ℕ) (new : PlainMethod) → slice_get W.methods g ≡ Some new → new.is_static ≡ false
        → ((m : ℕ) × IsBody P F H W T m new) ⊎ ((n : ℕ) × (m : ℕ) × (IsHead P F H W T n m new ⊎ IsFiller P F H W T n m new))
    pub each_body : (m n : ℕ) → StandsAt P F H W T (column.Def m) n → (g : ℕ) × (new : PlainMethod) × (slice_get W.methods g ≡ Some new)
        × IsBody P F H W T m new
    pub each_head : (m n s : ℕ) (old : PlainMethod) → StandsAt P F H W T (column.Dcl m) n → slice_get P.methods m ≡ Some old → old.slot ≡ Some s
        → is_headed F H n s ≡ true
        → (g : ℕ) × (new : PlainMethod) × (slice_get W.methods g ≡ Some new) × (new.body ≡ None) × IsOfSlot P F H W T n m new
    pub each_filler : (m n s : ℕ) (old : PlainMethod) → is_live H.order n ≡ true → slice_get P.methods m ≡ Some old → old.slot ≡ Some s
        → is_filled F H n s ≡ true
        → (g : ℕ) × (new : PlainMethod) × (slice_get W.methods g ≡ Some new) × IsOfSlot P F H W T n m new

  -- the method g makes the objects of a creation whose class has a constructor
  pub record IsMakeMethod (T : Places) (g : ℕ) : Type 0 where
    pub number : ℕ
    pub at : IsMadeSite number
    pub is : IsMake P W (renaming_of P H T) at.site.number at.maker g

  -- the static members are the old ones, in the holders of their classes, and the methods that make objects, one for each creation of a class with a
  -- constructor
  pub record AreStatics (T : Places) : Type 0 where
    pub fields : (g : ℕ) (new : PlainField) → slice_get W.fields g ≡ Some new → new.is_static ≡ true → (f : ℕ) × IsStaticFieldOf P F H W T f g
    pub each_field : (f : ℕ) (old : PlainField) → slice_get P.fields f ≡ Some old → old.is_static ≡ true → (g : ℕ) × IsStaticFieldOf P F H W T f g
    pub methods : (g : ℕ) (new : PlainMethod) → slice_get W.methods g ≡ Some new → new.is_static ≡ true
        → ((m : ℕ) × IsStaticMethodOf P F H W T m g) ⊎ IsMakeMethod T g
    pub each_method : (m : ℕ) (old : PlainMethod) → slice_get P.methods m ≡ Some old → old.is_static ≡ true → (g : ℕ) × IsStaticMethodOf P F H W T m g
    pub each_make : (s : ℕ) (z : IsMadeSite s) → (g : ℕ) × IsMake P W (renaming_of P H T) z.site.number z.maker g

  -- the program W is P over the hierarchy H: its types, their order, its members and where it begins
  pub record Rebuilds : Type 0 where
    pub places : Places
    pub types : AreTypes places
    -- the type of a node is a subtype of that of another exactly where the node stands at or below the other
    pub order : (a b : ℕ) → is_live H.order a ≡ true → is_live H.order b ≡ true → IsSubclass W (places.type_of a) (places.type_of b) ↔
        (is_le H.order a b ≡ true)
    pub members : AreMembers places
    pub statics : AreStatics places
    pub main : IsStaticMethod P W (renaming_of P H places) P.main W.main
    -- no class of it has a constructor
    pub makerless : HasNoMaker W
