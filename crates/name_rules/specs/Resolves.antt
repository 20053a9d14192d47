-- Believed. Which program a tree is once its names are resolved: the meaning of each name as a relation, one
-- constructor a meaning.
use Rattle.std.specs.Prelude.{◌≡◌, ℕ, ℤ, suc, ◌<◌, ◌≤◌, ◌||◌, if◌then◌else◌, Bool, true, false, List, [], ◌∷◌, ◌++◌, length, map, Option, Some, None, slice_get}
use Rattle.std.specs.Option.{is_some, option_map_or}
use Rattle.kaba_base.specs.declared.Place.{Place}
use Rattle.kaba_base.specs.declared.ClassId.{ClassId}
use Rattle.java_lex.specs.declared.Mark.{Mark}
use Rattle.java_lex.specs.declared.Mark.TheVariants as marks
use Rattle.java_tree.specs.declared.Id.{Id}
use Rattle.java_tree.specs.declared.TypeName.{TypeName}
use Rattle.java_tree.specs.Syntax.{Expression, IntLit, CharLit, StrLit, BoolLit, NullLit, ThisRef, NameRef, FieldOf, IndexOf, CallOf, CallOn, SuperCallOf, NewOf, NewArrayOf, CastOf, InstanceOfClass, UnaryOf, BinaryOf, Expressions, no_more, and_more, Statement, LocalOf, BlockOf, AssignOf, DoOf, PrintOf, IfOf, WhileOf, ForOf, ReturnOf, BreakOf, ContinueOf, Statements, no_statements, and_then, Else, no_else, OptionalStatement, absent, present, DeclTree}
use Rattle.java_tree.specs.Syntax as tree
use Rattle.java_core.specs.declared.Ty.{Ty}
use Rattle.java_core.specs.declared.UnOp.{UnOp}
use Rattle.java_core.specs.declared.UnOp.TheVariants as un
use Rattle.java_core.specs.declared.BinOp.{BinOp}
use Rattle.java_core.specs.declared.BinOp.TheVariants as bin
use Rattle.java_core.specs.declared.Op.TheVariants as op
use Rattle.java_core.specs.Trees.{at_place, Ex, number, character, text, truth, null, this, local, static_field, own_field, field, index, call, static_call, super_call, create, create_array, cast, instance_of, unary, binary, Exs, no_ex, ex_then, Target, to_local, to_static, to_own, to_field, to_element, no_target, St, declare, block, assign, act, print, choose, loop, return, break, continue, Sts, no_st, st_then, IfArms, no_other, otherwise, arm}
use Rattle.java_core.specs.Programs.{Plain, PlainLocal, PlainField, PlainMethod, PlainSlot}
use Rattle.java_core.specs.Types.{types_of}
use Rattle.java_core.specs.Classes.{parent_of}
use Rattle.java_core.specs.Makers.{maker_of, call_above}
use Rattle.java_core.specs.Formed.{variables_of, numbers_methods, IsMain}
use Rattle.name_rules.specs.declared.parts.Bound.{Bound}
use Rattle.name_rules.specs.declared.parts.Here.{Here}
use Rattle.name_rules.specs.Outline.{MethodAt, is_maker, is_static, outline, methods_in, is_type_name}
use Rattle.name_rules.specs.Meanings.{type_names, class_named, Means, MeansCast, in_scope, is_bound, bound_names, is_class_name, IsStaticFieldOf, IsStaticMethodOf, IsNearestField, IsFirstMethod}
use Rattle.name_rules.specs.Asked.{Asks}

-- the operator of a mark; a mark that is none does not come from a text
abbrev pub un_op : Mark → UnOp
un_op marks.Plus = un.Plus
un_op marks.Minus = un.Minus
un_op marks.Flip = un.Flip
un_op marks.Bang = un.Not
-- marks that are no such operator: they never come from a text
un_op marks.OpenRound = un.Not
un_op marks.CloseRound = un.Not
un_op marks.OpenBrace = un.Not
un_op marks.CloseBrace = un.Not
un_op marks.OpenSquare = un.Not
un_op marks.CloseSquare = un.Not
un_op marks.Semi = un.Not
un_op marks.Comma = un.Not
un_op marks.Dot = un.Not
un_op marks.Assign = un.Not
un_op marks.Star = un.Not
un_op marks.Slash = un.Not
un_op marks.Percent = un.Not
un_op marks.ShiftLeft = un.Not
un_op marks.ShiftRight = un.Not
un_op marks.ShiftRightLogical = un.Not
un_op marks.And = un.Not
un_op marks.Or = un.Not
un_op marks.Xor = un.Not
un_op marks.Both = un.Not
un_op marks.Either = un.Not
un_op marks.Equal = un.Not
un_op marks.NotEqual = un.Not
un_op marks.Less = un.Not
un_op marks.Greater = un.Not
un_op marks.AtMost = un.Not
un_op marks.AtLeast = un.Not
un_op marks.PlusAssign = un.Not
un_op marks.MinusAssign = un.Not
un_op marks.StarAssign = un.Not
un_op marks.SlashAssign = un.Not
un_op marks.PercentAssign = un.Not
un_op marks.PlusPlus = un.Not
un_op marks.MinusMinus = un.Not

-- the binary operator of a mark; a mark that is none does not come from a text
abbrev pub bin_op : Mark → BinOp
bin_op marks.Plus = bin.Int op.Plus
bin_op marks.Minus = bin.Int op.Minus
bin_op marks.Star = bin.Int op.Times
bin_op marks.Slash = bin.Int op.Divide
bin_op marks.Percent = bin.Int op.Remainder
bin_op marks.ShiftLeft = bin.Int op.ShiftLeft
bin_op marks.ShiftRight = bin.Int op.ShiftRight
bin_op marks.ShiftRightLogical = bin.Int op.ShiftRightUnsigned
bin_op marks.And = bin.Int op.And
bin_op marks.Or = bin.Int op.Or
bin_op marks.Xor = bin.Int op.Xor
bin_op marks.Equal = bin.Same
bin_op marks.NotEqual = bin.Differs
bin_op marks.Less = bin.Less
bin_op marks.Greater = bin.Greater
bin_op marks.AtMost = bin.AtMost
bin_op marks.AtLeast = bin.AtLeast
bin_op marks.Both = bin.Both
bin_op marks.Either = bin.Either
-- marks that are no such operator: they never come from a text
bin_op marks.OpenRound = bin.Either
bin_op marks.CloseRound = bin.Either
bin_op marks.OpenBrace = bin.Either
bin_op marks.CloseBrace = bin.Either
bin_op marks.OpenSquare = bin.Either
bin_op marks.CloseSquare = bin.Either
bin_op marks.Semi = bin.Either
bin_op marks.Comma = bin.Either
bin_op marks.Dot = bin.Either
bin_op marks.Assign = bin.Either
bin_op marks.Flip = bin.Either
bin_op marks.Bang = bin.Either
bin_op marks.PlusAssign = bin.Either
bin_op marks.MinusAssign = bin.Either
bin_op marks.StarAssign = bin.Either
bin_op marks.SlashAssign = bin.Either
bin_op marks.PercentAssign = bin.Either
bin_op marks.PlusPlus = bin.Either
bin_op marks.MinusMinus = bin.Either

-- what an assignment to an expression changes
abbrev pub target : Ex → Target
target (local t n) = to_local t n
target (static_field t f) = to_static t f
target (own_field t f) = to_own t f
target (field t e n) = to_field t e n
target (index t e i) = to_element t e i
target _ = no_target

-- the scope with one more local, of this name and number
abbrev pub bound : List Bound → List ℕ → ℕ → List Bound
bound scope n k = scope ++ record { name = n; number = k } ∷ []

-- numbers that count from one up to below another
pub data Counts : ℕ → List ℕ → ℕ → Type 0 where
  no_number : {k : ℕ} → Counts k [] k
  next_number : {k j : ℕ} {ns : List ℕ} → Counts (suc k) ns j → Counts k (k ∷ ns) j

-- an expression in a body of the outline O: the class and kind of the method, and the parameters and locals in scope (Java Language Specification, 6.5)
module _ (O : Plain) (here : Here) (scope : List Bound) where
  mutual
    -- what an expression is once its names are resolved
    pub data ResolvesTo : Expression → Ex → Type 0 where
      r_number : {v : ℤ} {p : Place} → ResolvesTo (IntLit v p) (number (at_place p) v)
      r_character : {c : ℕ} {p : Place} → ResolvesTo (CharLit c p) (character (at_place p) c)
      r_text : {u : List ℕ} {p : Place} → ResolvesTo (StrLit u p) (text (at_place p) u)
      r_truth : {b : Bool} {p : Place} → ResolvesTo (BoolLit b p) (truth (at_place p) b)
      r_null : {p : Place} → ResolvesTo (NullLit p) (null (at_place p))
      r_this : {p : Place} → here.is_static ≡ false → ResolvesTo (ThisRef p) (this (at_place p))
      -- a simple name: a parameter or local in scope
      r_local : {n : List ℕ} {p : Place} {i : ℕ} → in_scope scope n ≡ Some i → ResolvesTo (NameRef n p) (local (at_place p) i)
      -- else the nearest field from the holding class upwards: a static one is the class's own
      r_static_field : {n : List ℕ} {p : Place} {f : ℕ} {k : PlainField} → in_scope scope n ≡ None → IsNearestField O here.owner n f k
          → k.is_static ≡ true → k.owner ≡ here.owner
          → ResolvesTo (NameRef n p) (static_field (at_place p) f)
      r_own_field : {n : List ℕ} {p : Place} {f : ℕ} {k : PlainField} → in_scope scope n ≡ None → IsNearestField O here.owner n f k
          → k.is_static ≡ false → here.is_static ≡ false
          → ResolvesTo (NameRef n p) (own_field (at_place p) f)
      -- else a class, where a static member of its own follows
      r_class_field : {c n : List ℕ} {p q : Place} {k f : ℕ} → is_class_name O here.owner (bound_names scope) (NameRef c q) ≡ true
          → class_named O c ≡ Some k → IsStaticFieldOf O k n f
          → ResolvesTo (FieldOf (NameRef c q) n p) (static_field (at_place p) f)
      r_field : {e : Expression} {x : Ex} {n : List ℕ} {p : Place} → ResolvesTo e x → ResolvesTo (FieldOf e n p) (field (at_place p) x n)
      r_index : {e i : Expression} {x y : Ex} {p : Place} → ResolvesTo e x → ResolvesTo i y → ResolvesTo (IndexOf e i p) (index (at_place p) x y)
      -- a call by a simple name, of the method that is found first: a static method of the class itself, or an instance method, on `this`
      r_own_static_call : {n : List ℕ} {es : Expressions} {xs : Exs} {p : Place} {m : ℕ} {k : PlainMethod} → IsFirstMethod O here.owner n m k
          → k.is_static ≡ true → k.owner ≡ here.owner → AllResolve es xs
          → ResolvesTo (CallOf n es p) (static_call (at_place p) m xs)
      r_own_call : {n : List ℕ} {es : Expressions} {xs : Exs} {p : Place} {m : ℕ} {k : PlainMethod} → IsFirstMethod O here.owner n m k → k.is_static ≡ false
          → here.is_static ≡ false → AllResolve es xs
          → ResolvesTo (CallOf n es p) (call (at_place p) (this (at_place p)) n xs)
      r_static_call : {c n : List ℕ} {es : Expressions} {xs : Exs} {p q : Place} {k m : ℕ} → is_class_name O here.owner (bound_names scope)
          (NameRef c q) ≡ true → class_named O c ≡ Some k → IsStaticMethodOf O k n m
          → AllResolve es xs → ResolvesTo (CallOn (NameRef c q) n es p) (static_call (at_place p) m xs)
      r_call : {e : Expression} {x : Ex} {n : List ℕ} {es : Expressions} {xs : Exs} {p : Place} → ResolvesTo e x → AllResolve es xs
          → ResolvesTo (CallOn e n es p) (call (at_place p) x n xs)
      r_super_call : {n : List ℕ} {es : Expressions} {xs : Exs} {p : Place} → here.is_static ≡ false → AllResolve es xs
          → ResolvesTo (SuperCallOf n es p) (super_call (at_place p) n xs)
      -- creations, casts and instanceof have a number each
      r_create : {c : Id} {es : Expressions} {xs : Exs} {p : Place} {i k : ℕ} → class_named O c.name ≡ Some k → AllResolve es xs
          → ResolvesTo (NewOf c es p) (create (at_place p) i k xs)
      r_create_array : {u : TypeName} {t : Ty} {e : Expression} {x : Ex} {p : Place} {i : ℕ} → Means O u t → ResolvesTo e x
          → ResolvesTo (NewArrayOf u e p) (create_array (at_place p) i t x)
      r_cast : {u : TypeName} {t : Ty} {e : Expression} {x : Ex} {p : Place} {i : ℕ} → MeansCast O u t → ResolvesTo e x
          → ResolvesTo (CastOf u e p) (cast (at_place p) i t x)
      r_instance_of : {e : Expression} {x : Ex} {c : Id} {p : Place} {i k : ℕ} → ResolvesTo e x → class_named O c.name ≡ Some k
          → ResolvesTo (InstanceOfClass e c p) (instance_of (at_place p) i x k)
      r_unary : {m : Mark} {e : Expression} {x : Ex} {p : Place} → ResolvesTo e x → ResolvesTo (UnaryOf m e p) (unary (at_place p) (un_op m) x)
      r_binary : {m : Mark} {e d : Expression} {x y : Ex} {p : Place} → ResolvesTo e x → ResolvesTo d y
          → ResolvesTo (BinaryOf m e d p) (binary (at_place p) (bin_op m) x y)

    -- what a list of expressions is once its names are resolved, each by itself
    pub data AllResolve : Expressions → Exs → Type 0 where
      r_no_more : AllResolve no_more no_ex
      r_and_more : {e : Expression} {x : Ex} {es : Expressions} {xs : Exs} → ResolvesTo e x → AllResolve es xs → AllResolve (and_more e es) (ex_then x xs)

  -- what an expression that may be absent is once its names are resolved
  pub data ResolvesIf : Option Expression → Option Ex → Type 0 where
    r_none : ResolvesIf None None
    r_some : {e : Expression} {x : Ex} → ResolvesTo e x → ResolvesIf (Some e) (Some x)

-- the parameters and locals in scope after a statement
abbrev pub scope_after : List Bound → Statement → St → List Bound
scope_after scope (LocalOf final u n v p) (declare t i x) = bound scope n i
scope_after scope _ _ = scope

-- and after the first or last part of a `for`
abbrev pub scope_after_part : List Bound → OptionalStatement → Sts → List Bound
scope_after_part scope (present s) (st_then x xs) = scope_after scope s x
scope_after_part scope _ _ = scope

-- the local i of the method is this one, and its name is no type's and no other's in scope
pub record IsDeclaredLocal (O : Plain) (k : PlainMethod) (scope : List Bound) (u : TypeName) (n : List ℕ) (p : Place) (i : ℕ) : Type 0 where
  pub ty : Ty
  pub means : Means O u ty
  pub stands : slice_get (variables_of k) i ≡ Some (record { name = n; ty = ty; tag = at_place p })
  pub no_type : is_type_name (type_names O) n ≡ false
  pub fresh : is_bound (bound_names scope) n ≡ false

-- a statement of the method k; whether a loop is around it, and the parameters and locals in scope (Java Language Specification, 6.3)
module _ (O : Plain) (here : Here) (k : PlainMethod) where
  mutual
    -- what a statement is once its names are resolved
    pub data StResolves : Bool → List Bound → Statement → St → Type 0 where
      -- the scope of a local begins with its own first value
      r_declare : {in_loop final : Bool} {scope : List Bound} {u : TypeName} {n : List ℕ} {v : Option Expression} {x : Option Ex} {p : Place} {i : ℕ}
          → IsDeclaredLocal O k scope u n p i
          → ResolvesIf O here (bound scope n i) v x → StResolves in_loop scope (LocalOf final u n v p) (declare (at_place p) i x)
      r_block : {in_loop : Bool} {scope : List Bound} {ss : Statements} {xs : Sts} {p : Place} → StsResolve in_loop scope ss xs
          → StResolves in_loop scope (BlockOf ss p) (block (at_place p) xs)
      r_assign : {in_loop : Bool} {scope : List Bound} {e v : Expression} {x y : Ex} {p : Place} → ResolvesTo O here scope e x → ResolvesTo O here scope v y
          → StResolves in_loop scope (AssignOf e v p) (assign (at_place p) (target x) y)
      r_act : {in_loop : Bool} {scope : List Bound} {e : Expression} {x : Ex} {p : Place} → ResolvesTo O here scope e x
          → StResolves in_loop scope (DoOf e p) (act (at_place p) x)
      r_print : {in_loop line : Bool} {scope : List Bound} {v : Option Expression} {x : Option Ex} {p : Place} → ResolvesIf O here scope v x
          → StResolves in_loop scope (PrintOf line v p) (print (at_place p) line x)
      r_choose : {in_loop : Bool} {scope : List Bound} {a : tree.Arms} {other : Else} {xs : IfArms} {p : Place} → ArmsResolve in_loop scope a other xs
          → StResolves in_loop scope (IfOf a other p) (choose (at_place p) xs)
      r_while : {in_loop : Bool} {scope : List Bound} {e : Expression} {x : Ex} {ss : Statements} {xs : Sts} {p : Place} → ResolvesTo O here scope e x
          → StsResolve true scope ss xs
          → StResolves in_loop scope (WhileOf e ss p) (loop (at_place p) true no_st (Some x) no_st xs)
      r_for : {in_loop : Bool} {scope : List Bound} {f g : OptionalStatement} {v : Option Expression} {x : Option Ex} {ss : Statements}
          {first step xs : Sts} {p : Place} → PartResolves in_loop scope f first
          → ResolvesIf O here (scope_after_part scope f first) v x → PartResolves in_loop (scope_after_part scope f first) g step
          → StsResolve true (scope_after_part scope f first) ss xs
          → StResolves in_loop scope (ForOf f v g ss p) (loop (at_place p) false first x step xs)
      r_return : {in_loop : Bool} {scope : List Bound} {v : Option Expression} {x : Option Ex} {p : Place} → ResolvesIf O here scope v x
          → StResolves in_loop scope (ReturnOf v p) (return (at_place p) x)
      r_break : {scope : List Bound} {p : Place} → StResolves true scope (BreakOf p) (break (at_place p))
      r_continue : {scope : List Bound} {p : Place} → StResolves true scope (ContinueOf p) (continue (at_place p))

    -- what a block declares leaves the scope at its end
    pub data StsResolve : Bool → List Bound → Statements → Sts → Type 0 where
      r_no_statements : {in_loop : Bool} {scope : List Bound} → StsResolve in_loop scope no_statements no_st
      r_and_then : {in_loop : Bool} {scope : List Bound} {s : Statement} {x : St} {ss : Statements} {xs : Sts} → StResolves in_loop scope s x
          → StsResolve in_loop (scope_after scope s x) ss xs
          → StsResolve in_loop scope (and_then s ss) (st_then x xs)

    -- the arms of an `if`, and behind them its `else` or none
    pub data ArmsResolve : Bool → List Bound → tree.Arms → Else → IfArms → Type 0 where
      r_no_else : {in_loop : Bool} {scope : List Bound} → ArmsResolve in_loop scope tree.no_arms no_else no_other
      r_else : {in_loop : Bool} {scope : List Bound} {ss : Statements} {xs : Sts} → StsResolve in_loop scope ss xs
          → ArmsResolve in_loop scope tree.no_arms (tree.otherwise ss) (otherwise xs)
      r_arm : {in_loop : Bool} {scope : List Bound} {e : Expression} {x : Ex} {ss : Statements} {xs : Sts} {a : tree.Arms} {other : Else}
          {more : IfArms} → ResolvesTo O here scope e x → StsResolve in_loop scope ss xs
          → ArmsResolve in_loop scope a other more → ArmsResolve in_loop scope (tree.and_arm e ss a) other (arm x xs more)

    -- the first or last part of a `for`
    pub data PartResolves : Bool → List Bound → OptionalStatement → Sts → Type 0 where
      r_absent : {in_loop : Bool} {scope : List Bound} → PartResolves in_loop scope absent no_st
      r_present : {in_loop : Bool} {scope : List Bound} {s : Statement} {x : St} → StResolves in_loop scope s x
          → PartResolves in_loop scope (present s) (st_then x no_st)

-- the locals that a body declares, by number, in the order of the text
abbrev mutual
  -- the locals that a statement declares, in the order of the text
  pub declares : St → List ℕ
  declares (declare t i e) = i ∷ []
  declares (block t xs) = declares_all xs
  declares (choose t xs) = declares_arms xs
  declares (loop t is_while first test step body) = declares_all first ++ declares_all step ++ declares_all body
  declares (assign t b e) = []
  declares (act t e) = []
  declares (print t n e) = []
  declares (return t e) = []
  declares (break t) = []
  declares (continue t) = []

  -- the locals that a list of statements declares, in the order of the text
  pub declares_all : Sts → List ℕ
  declares_all no_st = []
  declares_all (st_then x xs) = declares x ++ declares_all xs

  -- the locals that the arms of an `if` declare, in the order of the text
  pub declares_arms : IfArms → List ℕ
  declares_arms no_other = []
  declares_arms (otherwise xs) = declares_all xs
  declares_arms (arm e xs more) = declares_all xs ++ declares_arms more

-- the parameters in scope, the first numbered i
abbrev pub params_from : ℕ → List PlainLocal → List Bound
params_from i [] = []
params_from i (v ∷ vs) = record { name = v.name; number = i } ∷ params_from (suc i) vs

-- where a method's body stands
abbrev pub here_of : MethodAt → Here
here_of m = record { owner = m.owner; is_static = is_static m }

-- where the arguments of a constructor's `super(..)` stand: nothing of the object may be named, as in a static method
abbrev pub before_object : MethodAt → Here
before_object m = record { owner = m.owner; is_static = true }

-- the arguments of a constructor's `super(..)`; without it there are none
pub data UpResolves (O : Plain) (m : MethodAt) (scope : List Bound) : Option Expressions → Exs → Type 0 where
  r_no_up : UpResolves O m scope None no_ex
  r_up : {es : Expressions} {xs : Exs} → AllResolve O (before_object m) scope es xs → UpResolves O m scope (Some es) xs

-- whether there are arguments
abbrev pub has_arguments : Exs → Bool
has_arguments no_ex = false
has_arguments (ex_then e es) = true

-- the call of the constructor of a class b on the object that is being made, before the statements; there is none where b has none and nothing is
-- passed to it
abbrev pub after_call : Plain → ClassId → Place → Exs → Sts → Sts
after_call O b p es xs =
    if is_some (maker_of O b.0) || has_arguments es
    then option_map_or (λ k. st_then (call_above (at_place p) k.name es) xs) (slice_get O.classes b.0) xs
    else xs

-- the code of a constructor: the call of the superclass's constructor, and then its statements (Java Language Specification, 8.8.7)
abbrev pub maker_code : Plain → MethodAt → Exs → Sts → Sts
maker_code O m es xs = option_map_or (λ b. after_call O b m.head.place es xs) (parent_of O m.owner) xs

-- the body of a method or a constructor, with its locals numbered behind the parameters in the order of the text
pub data BodyResolves (O : Plain) (m : MethodAt) (k : PlainMethod) : Type 0 where
  r_no_body : m.body ≡ None → k.body ≡ None → k.locals ≡ [] → BodyResolves O m k
  r_body : {ss : Statements} {xs : Sts} → is_maker m ≡ false → m.body ≡ Some ss → k.body ≡ Some xs
      → StsResolve O (here_of m) k false (params_from 0 k.params) ss xs
      → Counts (length k.params) (declares_all xs) (length (variables_of k)) → BodyResolves O m k
  r_maker : {ss : Statements} {es : Exs} {xs : Sts} → is_maker m ≡ true → m.body ≡ Some ss → k.body ≡ Some (maker_code O m es xs)
      → UpResolves O m (params_from 0 k.params) m.up es → StsResolve O (here_of m) k false (params_from 0 k.params) ss xs
      → Counts (length k.params) (declares_all xs) (length (variables_of k)) → BodyResolves O m k

-- the bodies of methods, each in its turn
pub data BodiesResolve (O : Plain) : List MethodAt → List PlainMethod → Type 0 where
  r_no_methods : BodiesResolve O [] []
  r_method : {m : MethodAt} {k : PlainMethod} {ms : List MethodAt} {ks : List PlainMethod} → BodyResolves O m k → BodiesResolve O ms ks
      → BodiesResolve O (m ∷ ms) (k ∷ ks)

-- a method up to its slot, its locals and its body
abbrev pub heading_of : PlainMethod → PlainMethod
heading_of k = record {
  owner = k.owner;
  name = k.name;
  is_static = k.is_static;
  is_public = k.is_public;
  slot = None;
  params = k.params;
  locals =
      [];
  result = k.result;
  body = None;
  tag = k.tag;
}

-- a slot is that of a method: the name, the types of the parameters and the result agree
pub record IsOfSlot (slot : PlainSlot) (k : PlainMethod) : Type 0 where
  pub name : k.name ≡ slot.name
  pub params : types_of k.params ≡ slot.params
  pub result : k.result ≡ slot.result

-- which slot a method has: an instance method that of its name, parameter types and result, a static method none
pub data HasSlot (P : Plain) (k : PlainMethod) : Type 0 where
  no_slot : k.is_static ≡ true → k.slot ≡ None → HasSlot P k
  a_slot : {s : ℕ} {slot : PlainSlot} → k.is_static ≡ false → k.slot ≡ Some s → slice_get P.slots s ≡ Some slot → IsOfSlot slot k → HasSlot P k

-- the instance methods of one name, one list of parameter types and one result are one slot; the slots stand in the order of their first methods
pub record AreSlots (P : Plain) : Type 0 where
  pub each : (m : ℕ) (k : PlainMethod) → slice_get P.methods m ≡ Some k → HasSlot P k
  pub first : (s : ℕ) (slot : PlainSlot) → slice_get P.slots s ≡ Some slot → (k : PlainMethod) × (slice_get P.methods slot.first ≡ Some k) × (k.slot ≡ Some s)
  pub least : (s m : ℕ) (slot : PlainSlot) (k : PlainMethod) → slice_get P.slots s ≡ Some slot → slice_get P.methods m ≡ Some k → k.slot ≡ Some s
      → slot.first ≤ m
  pub apart : (r s : ℕ) (a b : PlainSlot) → slice_get P.slots r ≡ Some a → slice_get P.slots s ≡ Some b → a.name ≡ b.name → a.params ≡ b.params
      → a.result ≡ b.result → r ≡ s
  pub order : (r s : ℕ) (a b : PlainSlot) → slice_get P.slots r ≡ Some a → slice_get P.slots s ≡ Some b → r < s → a.first < b.first

-- the tree resolves to the program
pub record Resolves (declarations : List DeclTree) (P : Plain) : Type 0 where
  -- each type that is named is there
  pub known : (n : List ℕ) (p : Place) → Asks declarations n p → is_some (class_named (outline declarations) n) ≡ true
  pub classes : P.classes ≡ (outline declarations).classes
  pub fields : P.fields ≡ (outline declarations).fields
  pub headings : map heading_of P.methods ≡ (outline declarations).methods
  pub bodies : BodiesResolve (outline declarations) (methods_in declarations) P.methods
  pub slots : AreSlots P
  -- creations, casts and instanceof are numbered in one count in the order of the text
  pub last : ℕ
  pub numbers : Counts 0 (numbers_methods P.methods) last
  pub main : PlainMethod
  pub main_stands : slice_get P.methods P.main ≡ Some main
  pub main_is : IsMain main
  pub main_first : (m : ℕ) (k : PlainMethod) → slice_get P.methods m ≡ Some k → IsMain k → P.main ≤ m
