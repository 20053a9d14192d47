-- Believed. How a body is written: the forms are those of the old body; types are those of the rows' nodes, members
-- have their new names.
use Rattle.std.specs.Prelude.{ℕ, ◌==◌, ◌&&◌, Bool, true, false, not, List, [], ◌∷◌, ◌++◌, Option, Some, None, slice_get, option_and_then}
use Rattle.std.specs.Option.{is_some, option_map_or}
use Rattle.std.specs.List.{list_any}
use Rattle.std.specs.Str.{bytes_eq}
use Rattle.java_tree.specs.Syntax as tree
use Rattle.java_tree.specs.Syntax.{Expression, IntLit, CharLit, StrLit, BoolLit, NullLit, ThisRef, NameRef, FieldOf, IndexOf, CallOf, CallOn, SuperCallOf, NewOf, NewArrayOf, CastOf, InstanceOfClass, UnaryOf, BinaryOf, Expressions, no_more, and_more, Statement, LocalOf, BlockOf, AssignOf, DoOf, PrintOf, IfOf, WhileOf, ForOf, ReturnOf, BreakOf, ContinueOf, Statements, no_statements, and_then, Else, no_else, OptionalStatement, absent, present}
use Rattle.java_core.specs.Trees.{Ex, Exs, no_ex, ex_then, number, character, text, truth, null, this, local, static_field, own_field, field, index, call, static_call, super_call, create, create_array, cast, instance_of, unary, binary, Target, to_local, to_static, to_own, to_field, to_element, no_target, St, Sts, IfArms, declare, block, assign, act, print, choose, loop, return, break, continue, no_st, st_then, no_other, otherwise, arm}
use Rattle.java_core.specs.Programs.{Plain, PlainMethod}
use Rattle.java_core.specs.Formed.{variables_of}
use Rattle.java_core.specs.Classes.{declaration_of, super_method}
use Rattle.java_core.specs.Makers.{maker_of}
use Rattle.java_core.specs.Types.{Static, class_of, field_in, env_of, static}
use Rattle.hier_model.specs.Hierarchies.{Hierarchy}
use Rattle.flow_rules.specs.declared.items.RowItem.TheVariants as row
use Rattle.flow_rules.specs.Operands.{variable_row}
use Rattle.rebuild_model.specs.Renaming.{Renaming}
use Rattle.write_model.specs.Names.{nowhere, id, makers_name, class_name, row_name, written_type, prefix_mark, infix_mark}

-- a static member by its simple name, or by its holder's name and its own
abbrev pub static_field_tree : Bool → List ℕ → List ℕ → Expression
static_field_tree true holder x = NameRef x nowhere
static_field_tree false holder x = FieldOf (NameRef holder nowhere) x nowhere

-- a call of a static method by its simple name, or by its holder's name and its own
abbrev pub static_call_tree : Bool → List ℕ → List ℕ → Expressions → Expression
static_call_tree true holder x es = CallOf x es nowhere
static_call_tree false holder x es = CallOn (NameRef holder nowhere) x es nowhere

-- a creation; where the class has a constructor, a call of the method that makes its objects, in the holder of these
abbrev pub creation_tree : Bool → List ℕ → List ℕ → List ℕ → Expressions → Expression
creation_tree true holder make class es = CallOn (NameRef holder nowhere) make es nowhere
creation_tree false holder make class es = NewOf (id class) es nowhere

-- a loop is written with its own word: a `while`, which has a test and neither first nor last part, as a `while`
abbrev pub loop_tree : Bool → OptionalStatement → Option Expression → OptionalStatement → Statements → Statement
loop_tree true absent (Some e) absent body = WhileOf e body nowhere
loop_tree is_while first test step body = ForOf first test step body nowhere

-- the parameters and locals in scope after a statement, and after the first part of a `for`
abbrev pub scope_after : List ℕ → St → List ℕ
scope_after scope (declare t i e) = scope ++ i ∷ []
scope_after scope _ = scope

-- the parameters and locals in scope after the first part of a `for`
abbrev pub scope_after_part : List ℕ → Sts → List ℕ
scope_after_part scope no_st = scope
scope_after_part scope (st_then x xs) = scope_after scope x

-- the name of a parameter or local of a method
abbrev pub variable_name : PlainMethod → ℕ → List ℕ
variable_name k i = option_map_or (λ v. v.name) (slice_get (variables_of k) i) []

-- whether a parameter or local has a name, and whether one of those in scope has it
abbrev pub is_named : PlainMethod → List ℕ → ℕ → Bool
is_named k x i = option_map_or (λ v. bytes_eq v.name x) (slice_get (variables_of k) i) false

-- whether one of the parameters and locals in scope has a name
abbrev pub is_in_scope : PlainMethod → List ℕ → List ℕ → Bool
is_in_scope k scope x = list_any (is_named k x) scope

-- inside its own holder a static member has its simple name, unless a parameter or local in scope has that name
abbrev pub is_simple : PlainMethod → List ℕ → ℕ → List ℕ → Bool
is_simple k scope owner x = k.is_static && ((k.owner == owner) && not (is_in_scope k scope x))

-- a static field as it is written where these parameters and locals are in scope
abbrev pub static_field_name : Plain → PlainMethod → List ℕ → ℕ → Expression
static_field_name P k scope f =
    option_map_or (λ g. static_field_tree (is_simple k scope g.owner g.name) (class_name P g.owner) g.name) (slice_get P.fields f) (NullLit nowhere)

-- a call of a static method as it is written where these parameters and locals are in scope
abbrev pub static_call_name : Plain → PlainMethod → List ℕ → ℕ → Expressions → Expression
static_call_name P k scope d es =
    option_map_or (λ g. static_call_tree (is_simple k scope g.owner g.name) (class_name P g.owner) g.name es) (slice_get P.methods d) (NullLit nowhere)

-- in the method m of the program, with the locals in scope
module _ (P : Plain) (R : Renaming) (H : Hierarchy) (m : ℕ) (k : PlainMethod) where
  -- the new name of the field that an expression has, and of the method that it is called; the length of an array and the methods of a String keep theirs
  abbrev pub field_name : Static → List ℕ → List ℕ
  field_name s x = option_map_or R.field_name (field_in P s x) x

  -- the new name of the method that a call finds statically; another name stays
  abbrev pub called_name : Static → List ℕ → List ℕ
  called_name s x = option_map_or R.method_name (option_and_then (λ c. declaration_of P c x) (class_of s)) x

  -- the new name of the method that a super call runs; another name stays
  abbrev pub super_name : List ℕ → List ℕ
  super_name x = option_map_or R.method_name (super_method P k.owner x) x

  -- one line a form
  abbrev mutual
    -- an expression as it is written
    pub written : List ℕ → Ex → Expression
    written scope (number t n) = IntLit n nowhere
    written scope (character t c) = CharLit c nowhere
    written scope (text t u) = StrLit u nowhere
    written scope (truth t b) = BoolLit b nowhere
    written scope (null t) = NullLit nowhere
    written scope (this t) = ThisRef nowhere
    written scope (local t i) = NameRef (variable_name k i) nowhere
    written scope (static_field t f) = static_field_name P k scope f
    written scope (own_field t f) = FieldOf (ThisRef nowhere) (R.field_name f) nowhere
    written scope (field t e x) = FieldOf (written scope e) (field_name (static P (env_of m k) e) x) nowhere
    written scope (index t e i) = IndexOf (written scope e) (written scope i) nowhere
    written scope (call t e x es) = CallOn (written scope e) (called_name (static P (env_of m k) e) x) (written_all scope es) nowhere
    written scope (static_call t d es) = static_call_name P k scope d (written_all scope es)
    written scope (super_call t x es) = SuperCallOf (super_name x) (written_all scope es) nowhere
    written scope (create t n c es) = creation_tree (is_some (maker_of P c)) (makers_name P) (R.make_name n) (row_name P H (R.row_type (row.New n)) c)
        (written_all scope es)
    written scope (create_array t n v e) = NewArrayOf (written_type P H (R.row_type (row.New n)) v) (written scope e) nowhere
    written scope (cast t n v e) = CastOf (written_type P H (R.row_type (row.Cast n)) v) (written scope e) nowhere
    written scope (instance_of t n e c) = InstanceOfClass (written scope e) (id (row_name P H (R.row_type (row.Test n)) c)) nowhere
    written scope (unary t o e) = UnaryOf (prefix_mark o) (written scope e) nowhere
    written scope (binary t o e d) = BinaryOf (infix_mark o) (written scope e) (written scope d) nowhere

    -- arguments as they are written
    pub written_all : List ℕ → Exs → Expressions
    written_all scope no_ex = no_more
    written_all scope (ex_then e es) = and_more (written scope e) (written_all scope es)

  -- an expression that may be left out, as it is written
  abbrev pub written_if : List ℕ → Option Ex → Option Expression
  written_if scope None = None
  written_if scope (Some e) = Some (written scope e)

  -- the target of an assignment as it is written; a field of `this` has a written `this`
  abbrev pub written_target : List ℕ → Target → Expression
  written_target scope (to_local t i) = NameRef (variable_name k i) nowhere
  written_target scope (to_static t f) = static_field_name P k scope f
  written_target scope (to_own t f) = FieldOf (ThisRef nowhere) (R.field_name f) nowhere
  written_target scope (to_field t e x) = FieldOf (written scope e) (field_name (static P (env_of m k) e) x) nowhere
  written_target scope (to_element t e i) = IndexOf (written scope e) (written scope i) nowhere
  written_target scope no_target = NullLit nowhere

  -- a local, without `final`
  abbrev pub declared : ℕ → Option Expression → Statement
  declared i e = option_map_or (λ v. LocalOf false (written_type P H (R.row_type (variable_row m k i)) v.ty) v.name e nowhere)
      (slice_get (variables_of k) i) (BlockOf no_statements nowhere)

  abbrev mutual
    -- a statement as it is written
    pub written_st : List ℕ → St → Statement
    written_st scope (declare t i e) = declared i (written_if (scope ++ i ∷ []) e)
    written_st scope (block t xs) = BlockOf (written_sts scope xs) nowhere
    written_st scope (assign t b e) = AssignOf (written_target scope b) (written scope e) nowhere
    written_st scope (act t e) = DoOf (written scope e) nowhere
    written_st scope (print t line e) = PrintOf line (written_if scope e) nowhere
    written_st scope (choose t a) = IfOf (written_arms scope a) (written_else scope a) nowhere
    written_st scope (loop t is_while first e step body) =
        let inner = scope_after_part scope first in loop_tree is_while (written_part scope first) (written_if inner e) (written_part inner step)
        (written_sts inner body)
    written_st scope (return t e) = ReturnOf (written_if scope e) nowhere
    written_st scope (break t) = BreakOf nowhere
    written_st scope (continue t) = ContinueOf nowhere

    -- statements as they are written, each in the scope that those before it leave
    pub written_sts : List ℕ → Sts → Statements
    written_sts scope no_st = no_statements
    written_sts scope (st_then x xs) = and_then (written_st scope x) (written_sts (scope_after scope x) xs)

    -- the first or the last part of a `for`: at most one statement
    pub written_part : List ℕ → Sts → OptionalStatement
    written_part scope no_st = absent
    written_part scope (st_then x xs) = present (written_st scope x)

    -- the arms of an `if` as they are written, without its `else`
    pub written_arms : List ℕ → IfArms → tree.Arms
    written_arms scope no_other = tree.no_arms
    written_arms scope (otherwise xs) = tree.no_arms
    written_arms scope (arm e xs more) = tree.and_arm (written scope e) (written_sts scope xs) (written_arms scope more)

    -- the `else` of an `if` as it is written, where there is one
    pub written_else : List ℕ → IfArms → Else
    written_else scope no_other = no_else
    written_else scope (otherwise xs) = tree.otherwise (written_sts scope xs)
    written_else scope (arm e xs more) = written_else scope more
