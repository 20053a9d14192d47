-- Believed. The conditions that refuse a tree's names, each with the place at which it holds (Java Language
-- Specification, 6.3 to 6.5, 8.1, 8.3, 8.4, 9.1, 14.15, 15.12).
use Rattle.std.specs.Prelude.{◌≡◌, ◌≢◌, ◌⊎◌, ℕ, suc, ◌<◌, ◌||◌, Bool, true, false, List, [], ◌∷◌, ◌++◌, map, Contains, Option, Some, None, slice_get, codes}
use Rattle.std.specs.Option.{is_some}
use Rattle.kaba_base.specs.declared.Place.{Place}
use Rattle.kaba_base.specs.declared.words.Keyword.{Keyword}
use Rattle.kaba_base.specs.declared.words.Keyword.TheVariants as keys
use Rattle.java_lex.specs.declared.Mark.{Mark}
use Rattle.java_tree.specs.declared.Id.{Id}
use Rattle.java_tree.specs.declared.Modifier.{Modifier}
use Rattle.java_tree.specs.declared.TypeName.{TypeName}
use Rattle.java_tree.specs.declared.TypeBase.TheVariants as bases
use Rattle.java_tree.specs.Syntax.{Expression, ThisRef, NameRef, FieldOf, IndexOf, CallOf, CallOn, SuperCallOf, NewOf, NewArrayOf, CastOf, InstanceOfClass, UnaryOf, BinaryOf, Expressions, and_more, Statement, LocalOf, BlockOf, AssignOf, DoOf, PrintOf, IfOf, WhileOf, ForOf, ReturnOf, BreakOf, ContinueOf, Statements, and_then, Else, OptionalStatement, absent, present, DeclTree}
use Rattle.java_tree.specs.Syntax as tree
use Rattle.java_core.specs.Programs.{Plain, PlainClass, PlainField, PlainMethod}
use Rattle.java_core.specs.Classes.{IsSubclass, IsProperSubclass}
use Rattle.java_core.specs.Types.{types_of}
use Rattle.java_core.specs.Formed.{IsMain}
use Rattle.name_rules.specs.declared.Form.TheVariants as forms
use Rattle.name_rules.specs.declared.Refusal.{Refusal}
use Rattle.name_rules.specs.declared.Refusal.TheVariants.{Unknown, Twice, Loop, Overload, TwoKinds, PrivateReused, NoMain, NotInProfile}
use Rattle.name_rules.specs.declared.parts.Here.{Here}
use Rattle.name_rules.specs.declared.parts.Kind.{Kind}
use Rattle.name_rules.specs.declared.parts.Kind.TheVariants as kinds
use Rattle.name_rules.specs.Outline.{FieldAt, MethodAt, is_maker, is_private, has_word, is_public_word, is_protected_word, is_private_word, is_abstract_word, is_static_word, is_final_word, outline, fields_in, methods_in, types_in, is_text_type, is_type_name, is_known, name_of, place_of, mods_of, parent_named, faces_named}
use Rattle.name_rules.specs.Meanings.{type_names, class_named, is_bound, is_class_name, IsStaticFieldOf, IsStaticMethodOf, IsNearestField, IsMet, IsFirstMethod}
use Rattle.name_rules.specs.Asked.{Asks}
use Rattle.name_rules.specs.Resolves.{here_of, before_object}

-- a type's name that no class has
pub data IsUnknownType (O : Plain) (u : TypeName) : Refusal → Type 0 where
  no_such_type : {n : List ℕ} → u.base ≡ bases.Named n → is_text_type n ≡ false → class_named O n ≡ None → IsUnknownType O u (Unknown n u.place)

-- the same in a cast, where String is no class
pub data IsUnknownCast (O : Plain) (u : TypeName) : Refusal → Type 0 where
  no_such_cast : {n : List ℕ} → u.base ≡ bases.Named n → class_named O n ≡ None → IsUnknownCast O u (Unknown n u.place)

-- a condition in an expression of a body: the outline of the program, where the body stands, and the names of the parameters and locals in scope
module _ (O : Plain) (here : Here) (scope : List (List ℕ)) where
  mutual
    -- a condition holds somewhere in an expression, and this is its refusal
    pub data FaultIn : Expression → Refusal → Type 0 where
      -- `this` in a static method
      this_in_static : {p : Place} → here.is_static ≡ true → FaultIn (ThisRef p) (NotInProfile forms.ThisInStatic p)
      -- a simple name that no variable has, that of a static field of an ancestor, and that of an instance field in a static method
      no_variable : {n : List ℕ} {p : Place} → is_class_name O here.owner scope (NameRef n p) ≡ true → FaultIn (NameRef n p) (Unknown n p)
      static_above : {n : List ℕ} {p : Place} {f : ℕ} {k : PlainField} → is_bound scope n ≡ false → IsNearestField O here.owner n f k
          → k.is_static ≡ true → k.owner ≢ here.owner → FaultIn (NameRef n p) (Unknown n p)
      own_in_static : {n : List ℕ} {p : Place} {f : ℕ} {k : PlainField} → is_bound scope n ≡ false → IsNearestField O here.owner n f k
          → k.is_static ≡ false → here.is_static ≡ true
          → FaultIn (NameRef n p) (NotInProfile forms.ThisInStatic p)
      -- a class before a dot that is not there, or that has no such static field of its own
      no_class_of_field : {c n : List ℕ} {p q : Place} → is_class_name O here.owner scope (NameRef c q) ≡ true → class_named O c ≡ None
          → FaultIn (FieldOf (NameRef c q) n p) (Unknown c q)
      no_static_field : {c n : List ℕ} {p q : Place} {k : ℕ} → is_class_name O here.owner scope (NameRef c q) ≡ true → class_named O c ≡ Some k
          → ((f : ℕ) → IsStaticFieldOf O k n f → ⊥)
          → FaultIn (FieldOf (NameRef c q) n p) (Unknown n p)
      in_base : {e : Expression} {n : List ℕ} {p : Place} {r : Refusal} → is_class_name O here.owner scope e ≡ false → FaultIn e r → FaultIn (FieldOf e n p) r
      in_array : {e i : Expression} {p : Place} {r : Refusal} → FaultIn e r → FaultIn (IndexOf e i p) r
      in_index : {e i : Expression} {p : Place} {r : Refusal} → FaultIn i r → FaultIn (IndexOf e i p) r
      -- a call by a simple name that no method has, one that first finds a static method of an ancestor, and one that first finds an instance method, in a
      -- static method
      no_method : {n : List ℕ} {es : Expressions} {p : Place} → ((m : ℕ) (k : PlainMethod) → IsMet O here.owner n m k → ⊥)
          → FaultIn (CallOf n es p) (Unknown n p)
      static_method_above : {n : List ℕ} {es : Expressions} {p : Place} {m : ℕ} {k : PlainMethod} → IsFirstMethod O here.owner n m k → k.is_static ≡ true
          → k.owner ≢ here.owner → FaultIn (CallOf n es p) (Unknown n p)
      call_in_static : {n : List ℕ} {es : Expressions} {p : Place} {m : ℕ} {k : PlainMethod} → IsFirstMethod O here.owner n m k → k.is_static ≡ false
          → here.is_static ≡ true
          → FaultIn (CallOf n es p) (NotInProfile forms.ThisInStatic p)
      in_arguments : {n : List ℕ} {es : Expressions} {p : Place} {r : Refusal} → FaultInOne es r → FaultIn (CallOf n es p) r
      no_class_of_call : {c n : List ℕ} {es : Expressions} {p q : Place} → is_class_name O here.owner scope (NameRef c q) ≡ true
          → class_named O c ≡ None → FaultIn (CallOn (NameRef c q) n es p) (Unknown c q)
      no_static_method : {c n : List ℕ} {es : Expressions} {p q : Place} {k : ℕ} → is_class_name O here.owner scope (NameRef c q) ≡ true
          → class_named O c ≡ Some k → ((m : ℕ) → IsStaticMethodOf O k n m → ⊥)
          → FaultIn (CallOn (NameRef c q) n es p) (Unknown n p)
      in_receiver : {e : Expression} {n : List ℕ} {es : Expressions} {p : Place} {r : Refusal} → is_class_name O here.owner scope e ≡ false
          → FaultIn e r → FaultIn (CallOn e n es p) r
      in_call_arguments : {e : Expression} {n : List ℕ} {es : Expressions} {p : Place} {r : Refusal} → FaultInOne es r → FaultIn (CallOn e n es p) r
      -- `super` in a static method
      super_in_static : {n : List ℕ} {es : Expressions} {p : Place} → here.is_static ≡ true → FaultIn (SuperCallOf n es p) (NotInProfile forms.ThisInStatic p)
      in_super_arguments : {n : List ℕ} {es : Expressions} {p : Place} {r : Refusal} → FaultInOne es r → FaultIn (SuperCallOf n es p) r
      no_class_of_new : {c : Id} {es : Expressions} {p : Place} → class_named O c.name ≡ None → FaultIn (NewOf c es p) (Unknown c.name c.place)
      in_new_arguments : {c : Id} {es : Expressions} {p : Place} {r : Refusal} → FaultInOne es r → FaultIn (NewOf c es p) r
      no_type_of_array : {u : TypeName} {e : Expression} {p : Place} {r : Refusal} → IsUnknownType O u r → FaultIn (NewArrayOf u e p) r
      in_size : {u : TypeName} {e : Expression} {p : Place} {r : Refusal} → FaultIn e r → FaultIn (NewArrayOf u e p) r
      no_type_of_cast : {u : TypeName} {e : Expression} {p : Place} {r : Refusal} → IsUnknownCast O u r → FaultIn (CastOf u e p) r
      in_cast : {u : TypeName} {e : Expression} {p : Place} {r : Refusal} → FaultIn e r → FaultIn (CastOf u e p) r
      no_class_of_test : {e : Expression} {c : Id} {p : Place} → class_named O c.name ≡ None → FaultIn (InstanceOfClass e c p) (Unknown c.name c.place)
      in_tested : {e : Expression} {c : Id} {p : Place} {r : Refusal} → FaultIn e r → FaultIn (InstanceOfClass e c p) r
      in_operand : {m : Mark} {e : Expression} {p : Place} {r : Refusal} → FaultIn e r → FaultIn (UnaryOf m e p) r
      in_left : {m : Mark} {e d : Expression} {p : Place} {r : Refusal} → FaultIn e r → FaultIn (BinaryOf m e d p) r
      in_right : {m : Mark} {e d : Expression} {p : Place} {r : Refusal} → FaultIn d r → FaultIn (BinaryOf m e d p) r

    -- a condition holds in one of a list of expressions
    pub data FaultInOne : Expressions → Refusal → Type 0 where
      in_first : {e : Expression} {es : Expressions} {r : Refusal} → FaultIn e r → FaultInOne (and_more e es) r
      in_later : {e : Expression} {es : Expressions} {r : Refusal} → FaultInOne es r → FaultInOne (and_more e es) r

  -- a condition holds in an expression that is there
  pub data FaultInValue : Option Expression → Refusal → Type 0 where
    in_value : {e : Expression} {r : Refusal} → FaultIn e r → FaultInValue (Some e) r

-- the names in scope after a statement, and after the first or last part of a `for`
abbrev pub names_after : List (List ℕ) → Statement → List (List ℕ)
names_after scope (LocalOf final u n v p) = scope ++ n ∷ []
names_after scope _ = scope

-- the names in scope after the first or last part of a `for`, which may be absent
abbrev pub names_after_part : List (List ℕ) → OptionalStatement → List (List ℕ)
names_after_part scope absent = scope
names_after_part scope (present s) = names_after scope s

-- a condition in a statement: whether a loop is around it, and the names of the parameters and locals in scope
module _ (O : Plain) (here : Here) where
  mutual
    -- a condition holds somewhere in a statement, and this is its refusal
    pub data StFault : Bool → List (List ℕ) → Statement → Refusal → Type 0 where
      no_type_of_local : {in_loop final : Bool} {scope : List (List ℕ)} {u : TypeName} {n : List ℕ} {v : Option Expression} {p : Place} {r : Refusal}
          → IsUnknownType O u r → StFault in_loop scope (LocalOf final u n v p) r
      -- a local of the name of a type, and one in the scope of another
      type_as_local : {in_loop final : Bool} {scope : List (List ℕ)} {u : TypeName} {n : List ℕ} {v : Option Expression} {p : Place}
          → is_type_name (type_names O) n ≡ true
          → StFault in_loop scope (LocalOf final u n v p) (TwoKinds n p)
      local_twice : {in_loop final : Bool} {scope : List (List ℕ)} {u : TypeName} {n : List ℕ} {v : Option Expression} {p : Place}
          → is_bound scope n ≡ true → StFault in_loop scope (LocalOf final u n v p) (Twice n p)
      in_first_value : {in_loop final : Bool} {scope : List (List ℕ)} {u : TypeName} {n : List ℕ} {v : Option Expression} {p : Place} {r : Refusal}
          → FaultInValue O here (scope ++ n ∷ []) v r
          → StFault in_loop scope (LocalOf final u n v p) r
      in_block : {in_loop : Bool} {scope : List (List ℕ)} {ss : Statements} {p : Place} {r : Refusal} → StsFault in_loop scope ss r
          → StFault in_loop scope (BlockOf ss p) r
      in_target : {in_loop : Bool} {scope : List (List ℕ)} {e v : Expression} {p : Place} {r : Refusal} → FaultIn O here scope e r
          → StFault in_loop scope (AssignOf e v p) r
      in_assigned : {in_loop : Bool} {scope : List (List ℕ)} {e v : Expression} {p : Place} {r : Refusal} → FaultIn O here scope v r
          → StFault in_loop scope (AssignOf e v p) r
      in_call : {in_loop : Bool} {scope : List (List ℕ)} {e : Expression} {p : Place} {r : Refusal} → FaultIn O here scope e r
          → StFault in_loop scope (DoOf e p) r
      in_printed : {in_loop line : Bool} {scope : List (List ℕ)} {v : Option Expression} {p : Place} {r : Refusal} → FaultInValue O here scope v r
          → StFault in_loop scope (PrintOf line v p) r
      in_choice : {in_loop : Bool} {scope : List (List ℕ)} {a : tree.Arms} {other : Else} {p : Place} {r : Refusal} → ArmsFault in_loop scope a r
          → StFault in_loop scope (IfOf a other p) r
      in_else : {in_loop : Bool} {scope : List (List ℕ)} {a : tree.Arms} {ss : Statements} {p : Place} {r : Refusal} → StsFault in_loop scope ss r
          → StFault in_loop scope (IfOf a (tree.otherwise ss) p) r
      in_while_test : {in_loop : Bool} {scope : List (List ℕ)} {e : Expression} {ss : Statements} {p : Place} {r : Refusal} → FaultIn O here scope e r
          → StFault in_loop scope (WhileOf e ss p) r
      in_while : {in_loop : Bool} {scope : List (List ℕ)} {e : Expression} {ss : Statements} {p : Place} {r : Refusal} → StsFault true scope ss r
          → StFault in_loop scope (WhileOf e ss p) r
      in_first_part : {in_loop : Bool} {scope : List (List ℕ)} {f g : OptionalStatement} {v : Option Expression} {ss : Statements} {p : Place}
          {r : Refusal} → PartFault in_loop scope f r → StFault in_loop scope (ForOf f v g ss p) r
      in_for_test : {in_loop : Bool} {scope : List (List ℕ)} {f g : OptionalStatement} {v : Option Expression} {ss : Statements} {p : Place}
          {r : Refusal} → FaultInValue O here (names_after_part scope f) v r
          → StFault in_loop scope (ForOf f v g ss p) r
      in_last_part : {in_loop : Bool} {scope : List (List ℕ)} {f g : OptionalStatement} {v : Option Expression} {ss : Statements} {p : Place}
          {r : Refusal} → PartFault in_loop (names_after_part scope f) g r
          → StFault in_loop scope (ForOf f v g ss p) r
      in_for : {in_loop : Bool} {scope : List (List ℕ)} {f g : OptionalStatement} {v : Option Expression} {ss : Statements} {p : Place} {r : Refusal}
          → StsFault true (names_after_part scope f) ss r
          → StFault in_loop scope (ForOf f v g ss p) r
      in_returned : {in_loop : Bool} {scope : List (List ℕ)} {v : Option Expression} {p : Place} {r : Refusal} → FaultInValue O here scope v r
          → StFault in_loop scope (ReturnOf v p) r
      -- `break` and `continue` outside a loop
      break_outside : {scope : List (List ℕ)} {p : Place} → StFault false scope (BreakOf p) (NotInProfile forms.BreakOutside p)
      continue_outside : {scope : List (List ℕ)} {p : Place} → StFault false scope (ContinueOf p) (NotInProfile forms.BreakOutside p)

    -- a condition holds in one of a list of statements, in the scope that those before it leave
    pub data StsFault : Bool → List (List ℕ) → Statements → Refusal → Type 0 where
      in_statement : {in_loop : Bool} {scope : List (List ℕ)} {s : Statement} {ss : Statements} {r : Refusal} → StFault in_loop scope s r
          → StsFault in_loop scope (and_then s ss) r
      in_rest : {in_loop : Bool} {scope : List (List ℕ)} {s : Statement} {ss : Statements} {r : Refusal} → StsFault in_loop (names_after scope s) ss r
          → StsFault in_loop scope (and_then s ss) r

    -- a condition holds in the arms of an `if`: in a test, in the body of an arm or in the `else`
    pub data ArmsFault : Bool → List (List ℕ) → tree.Arms → Refusal → Type 0 where
      in_test : {in_loop : Bool} {scope : List (List ℕ)} {e : Expression} {ss : Statements} {a : tree.Arms} {r : Refusal} → FaultIn O here scope e r
          → ArmsFault in_loop scope (tree.and_arm e ss a) r
      in_arm : {in_loop : Bool} {scope : List (List ℕ)} {e : Expression} {ss : Statements} {a : tree.Arms} {r : Refusal} → StsFault in_loop scope ss r
          → ArmsFault in_loop scope (tree.and_arm e ss a) r
      in_more_arms : {in_loop : Bool} {scope : List (List ℕ)} {e : Expression} {ss : Statements} {a : tree.Arms} {r : Refusal}
          → ArmsFault in_loop scope a r → ArmsFault in_loop scope (tree.and_arm e ss a) r

    -- a condition holds in the first or last part of a `for` that is there
    pub data PartFault : Bool → List (List ℕ) → OptionalStatement → Refusal → Type 0 where
      in_part : {in_loop : Bool} {scope : List (List ℕ)} {s : Statement} {r : Refusal} → StFault in_loop scope s r → PartFault in_loop scope (present s) r

-- ---- declarations

-- two modifiers that cannot stand together, a second one behind a first: the same twice, or `abstract` with `static` or `private`
abbrev pub disagree : Keyword → Keyword → Bool
disagree keys.Public w = is_public_word w
disagree keys.Protected w = is_protected_word w
disagree keys.Private w = is_private_word w || is_abstract_word w
disagree keys.Abstract w = is_abstract_word w || (is_static_word w || is_private_word w)
disagree keys.Static w = is_static_word w || is_abstract_word w
disagree keys.Final w = is_final_word w
disagree _ w = false

-- a modifier that cannot stand there: `static` on a class or interface, `abstract` on a field, any but `public` and `abstract` in an interface, any but
-- `public`, `protected` and `private` on a constructor
abbrev pub is_unfit : Kind → Keyword → Bool
is_unfit kinds.Class w = is_static_word w
is_unfit kinds.Interface w = is_static_word w
is_unfit kinds.Field w = is_abstract_word w
is_unfit kinds.Head w = (is_protected_word w || is_private_word w) || (is_static_word w || is_final_word w)
is_unfit kinds.Method w = false
is_unfit kinds.Maker w = is_abstract_word w || (is_static_word w || is_final_word w)

-- where modifiers stand, and before what
abbrev pub kind_of : DeclTree → Kind
kind_of (tree.ClassTree mods n parent faces ms p) = kinds.Class
kind_of (tree.InterfaceTree mods n parents hs p) = kinds.Interface

-- these modifiers stand in the declarations before something of this kind
pub data HasModifiers (declarations : List DeclTree) : Kind → List Modifier → Type 0 where
  of_type : {d : DeclTree} → Contains declarations d → HasModifiers declarations (kind_of d) (mods_of d)
  of_field : {f : FieldAt} → Contains (fields_in declarations) f → HasModifiers declarations kinds.Field f.mods
  of_method : {m : MethodAt} → Contains (methods_in declarations) m → HasModifiers declarations m.kind m.head.mods

-- a method without body that is not abstract, an abstract method with one, and an abstract method in a class that is not abstract
pub data HasWrongBody (m : MethodAt) : Type 0 where
  missing : m.kind ≡ kinds.Method → has_word is_abstract_word m.head.mods ≡ false → m.body ≡ None → HasWrongBody m
  superfluous : is_maker m ≡ false → has_word is_abstract_word m.head.mods ≡ true → is_some m.body ≡ true → HasWrongBody m
  in_concrete : is_maker m ≡ false → has_word is_abstract_word m.head.mods ≡ true → m.in_abstract ≡ false → HasWrongBody m

-- the constructors that a class writes, each under its own name
abbrev pub written_makers : List tree.MemberTree → List Id
written_makers [] = []
written_makers (tree.FieldTree mods u n p ∷ ms) = written_makers ms
written_makers (tree.MethodTree h body p ∷ ms) = written_makers ms
written_makers (tree.MakerTree mods n ps up ss p ∷ ms) = record { name = n; place = p } ∷ written_makers ms

-- and those that a declaration writes; an interface has none
abbrev pub makers_written : DeclTree → List Id
makers_written (tree.ClassTree mods n parent faces ms p) = written_makers ms
makers_written (tree.InterfaceTree mods n parents hs p) = []

-- two methods are of one slot: instance methods whose parameter types and results agree
pub record AreOneSlot (h k : PlainMethod) : Type 0 where
  pub first : h.is_static ≡ false
  pub second : k.is_static ≡ false
  pub params : types_of h.params ≡ types_of k.params
  pub result : h.result ≡ k.result

-- the condition of a refusal holds of the tree, at the place that it says
pub data ConditionAt (declarations : List DeclTree) : Refusal → Type 0 where
  -- a type that a declaration names is not there
  unknown : {n : List ℕ} {p : Place} → Asks declarations n p → class_named (outline declarations) n ≡ None → ConditionAt declarations (Unknown n p)
  -- two types of one name; a type called Object, String or System
  type_twice : {i j : ℕ} {c d : DeclTree} → slice_get declarations i ≡ Some c → slice_get declarations j ≡ Some d → i < j → name_of c ≡ name_of d
      → ConditionAt declarations (Twice (name_of d) (place_of d))
  known_twice : {d : DeclTree} → Contains declarations d → name_of d ≡ codes "Object" ⊎ is_known (name_of d) ≡ true
      → ConditionAt declarations (Twice (name_of d) (place_of d))
  -- two supertypes of one name in one list
  super_twice : {d : DeclTree} {i j : ℕ} {a b : Id} → Contains declarations d → slice_get (faces_named d) i ≡ Some a → slice_get (faces_named d) j
      ≡ Some b → i < j → a.name ≡ b.name
      → ConditionAt declarations (Twice b.name b.place)
  -- two fields, two methods, two parameters of one name
  field_twice : {i j : ℕ} {f g : FieldAt} → slice_get (fields_in declarations) i ≡ Some f → slice_get (fields_in declarations) j ≡ Some g → i < j
      → f.owner ≡ g.owner → f.name ≡ g.name
      → ConditionAt declarations (Twice g.name g.place)
  method_twice : {i j : ℕ} {h k : MethodAt} → slice_get (methods_in declarations) i ≡ Some h → slice_get (methods_in declarations) j ≡ Some k → i < j
      → h.owner ≡ k.owner → h.head.name ≡ k.head.name → is_maker k ≡ false
      → ConditionAt declarations (Twice k.head.name k.head.place)
  param_twice : {m : MethodAt} {i j : ℕ} {a b : _} → Contains (methods_in declarations) m → slice_get m.head.params i ≡ Some a
      → slice_get m.head.params j ≡ Some b → i < j → a.name ≡ b.name
      → ConditionAt declarations (Twice b.name b.place)
  -- a type that is its own ancestor
  loop : {c : ℕ} {d : DeclTree} → slice_get declarations c ≡ Some d → IsProperSubclass (outline declarations) (suc c) (suc c)
      → ConditionAt declarations (Loop (name_of d) (place_of d))
  -- two methods of one name in a type and its ancestors that are not of one slot
  overload : {i j c : ℕ} {h k : PlainMethod} → slice_get (outline declarations).methods i ≡ Some h → slice_get (outline declarations).methods j
      ≡ Some k → i < j → h.name ≡ k.name
      → IsSubclass (outline declarations) c h.owner → IsSubclass (outline declarations) c k.owner → (AreOneSlot h k → ⊥)
      → ConditionAt declarations (Overload k.name k.tag.place)
  -- a second constructor of a class, and one that has not its class's name
  maker_twice : {d : DeclTree} {i j : ℕ} {a b : Id} → Contains declarations d → slice_get (makers_written d) i ≡ Some a
      → slice_get (makers_written d) j ≡ Some b → i < j → ConditionAt declarations (Overload b.name b.place)
  maker_named : {d : DeclTree} {i : Id} → Contains declarations d → Contains (makers_written d) i → i.name ≢ name_of d
      → ConditionAt declarations (Unknown i.name i.place)
  -- a field or a parameter of the name of a type
  type_as_field : {f : FieldAt} → Contains (fields_in declarations) f → is_type_name (types_in declarations) f.name ≡ true
      → ConditionAt declarations (TwoKinds f.name f.place)
  type_as_param : {m : MethodAt} {q : _} → Contains (methods_in declarations) m → Contains m.head.params q
      → is_type_name (types_in declarations) q.name ≡ true → ConditionAt declarations (TwoKinds q.name q.place)
  -- an interface as a superclass, and a class as an interface
  face_as_parent : {d : DeclTree} {i : Id} {c : ℕ} {k : PlainClass} → Contains declarations d → parent_named d ≡ Some i
      → class_named (outline declarations) i.name ≡ Some c
      → slice_get (outline declarations).classes c ≡ Some k → k.is_interface ≡ true → ConditionAt declarations (TwoKinds i.name i.place)
  class_as_face : {d : DeclTree} {i : Id} {c : ℕ} {k : PlainClass} → Contains declarations d → Contains (faces_named d) i
      → class_named (outline declarations) i.name ≡ Some c
      → slice_get (outline declarations).classes c ≡ Some k → k.is_interface ≡ false → ConditionAt declarations (TwoKinds i.name i.place)
  -- the name of a private method again in an ancestor or a descendant
  private_reused : {i j : ℕ} {h k : MethodAt} → slice_get (methods_in declarations) i ≡ Some h → slice_get (methods_in declarations) j ≡ Some k
      → i < j → h.head.name ≡ k.head.name
      → h.owner ≢ k.owner → is_private h || is_private k ≡ true → IsSubclass (outline declarations) h.owner k.owner
      ⊎ IsSubclass (outline declarations) k.owner h.owner → ConditionAt declarations (PrivateReused k.head.name k.head.place)
  no_main : ((m : ℕ) (k : PlainMethod) → slice_get (outline declarations).methods m ≡ Some k → IsMain k → ⊥) → ConditionAt declarations NoMain
  -- a modifier that disagrees with one before it, or does not fit
  modifiers_disagree : {kind : Kind} {mods : List Modifier} {i j : ℕ} {a b : Modifier} → HasModifiers declarations kind mods
      → slice_get mods i ≡ Some a → slice_get mods j ≡ Some b → i < j → disagree a.word b.word ≡ true
      → ConditionAt declarations (NotInProfile forms.Modifier b.place)
  modifier_unfit : {kind : Kind} {mods : List Modifier} {a : Modifier} → HasModifiers declarations kind mods → Contains mods a
      → is_unfit kind a.word ≡ true → ConditionAt declarations (NotInProfile forms.Modifier a.place)
  wrong_body : {m : MethodAt} → Contains (methods_in declarations) m → HasWrongBody m → ConditionAt declarations (NotInProfile forms.Body m.head.place)
  -- a condition in a body
  in_body : {m : MethodAt} {ss : Statements} {r : Refusal} → Contains (methods_in declarations) m → m.body ≡ Some ss
      → StsFault (outline declarations) (here_of m) false (map (λ q. q.name) m.head.params) ss r → ConditionAt declarations r
  -- and in the arguments of a constructor's `super(..)`, where the parameters are in scope
  in_up : {m : MethodAt} {es : Expressions} {r : Refusal} → Contains (methods_in declarations) m → m.up ≡ Some es
      → FaultInOne (outline declarations) (before_object m) (map (λ q. q.name) m.head.params) es r → ConditionAt declarations r
