-- Mirror. Which statement a tree is once its names are resolved, or the first of its faults.
use Rattle.std.specs.Prelude.{ℕ, suc, Bool, true, false, List, [], ◌∷◌, ◌++◌, Option, Some, None, is_some, Result, Ok, Err, if◌then◌else◌}
use Rattle.kaba_base.specs.declared.Place.{Place}
use Rattle.java_tree.specs.declared.TypeName.{TypeName}
use Rattle.java_tree.specs.Syntax.{Expression, Statement, LocalOf, BlockOf, AssignOf, DoOf, PrintOf, IfOf, WhileOf, ForOf, ReturnOf, BreakOf, ContinueOf, Statements, no_statements, and_then, Else, no_else, OptionalStatement, absent, present}
use Rattle.java_tree.specs.Syntax as tree
use Rattle.java_core.specs.declared.Ty.{Ty}
use Rattle.java_core.specs.Trees.{at_place, Ex, St, declare, block, assign, act, print, choose, loop, return, break, continue, Sts, no_st, st_then, IfArms, no_other, otherwise, arm}
use Rattle.java_core.specs.Programs.{PlainLocal}
use Rattle.name_rules.specs.declared.Form.TheVariants.{BreakOutside}
use Rattle.name_rules.specs.declared.Refusal.{Refusal}
use Rattle.name_rules.specs.declared.Refusal.TheVariants.{TwoKinds, Twice, NotInProfile}
use Rattle.name_rules.specs.declared.parts.Bound.{Bound}
use Rattle.name_rules.specs.declared.parts.Here.{Here}
use Rattle.name_rules.specs.Resolves.{target, bound}
use Rattle.name_laws.specs.Answers.{with, unless}
use Rattle.name_laws.specs.Names.{type_of, names_type}
use Rattle.name_laws.specs.Tables.{Table}
use Rattle.name_rules.specs.Meanings.{local_of}
use Rattle.name_laws.specs.Expressions.{walk}

-- the locals of a method so far, how many parameters and locals there are, and the next free number
pub record LocalsState : Type 0 where
  pub locals : List PlainLocal
  pub count : ℕ
  pub number : ℕ

-- the state with another next free number
abbrev pub at_number : LocalsState → ℕ → LocalsState
at_number s k = record { locals = s.locals; count = s.count; number = k }

-- why no parameter and no local can have this name
abbrev pub clash : Table → List Bound → List ℕ → Place → Option Refusal
clash t scope n p = if names_type t.known n then Some (TwoKinds n p) else if is_some (local_of n scope) then Some (Twice n p) else None

-- the statements so far, and one more
abbrev pub st_last : Sts → St → Sts
st_last no_st s = st_then s no_st
st_last (st_then x xs) s = st_then x (st_last xs s)

-- the arms so far, and one more; and their end
abbrev pub arm_last : IfArms → Ex → Sts → IfArms
arm_last no_other e ss = arm e ss no_other
arm_last (otherwise other) e ss = arm e ss (otherwise other)
arm_last (arm x xs more) e ss = arm x xs (arm_last more e ss)

-- the arms of an `if` with their `else`
abbrev pub ending : IfArms → IfArms → IfArms
ending no_other other = other
ending (otherwise old) other = other
ending (arm e ss more) other = arm e ss (ending more other)

-- a statement, the scope and the state after it, or the first fault
abbrev pub StatementStepped : Type 0
StatementStepped = Result (St × List Bound × LocalsState) Refusal

-- `break` or `continue`, which must stand in a loop
abbrev pub in_loop : Bool → Place → St → List Bound → LocalsState → StatementStepped
in_loop true p st scope s = Ok (st, scope, s)
in_loop false p st scope s = Err (NotInProfile BreakOutside p)

-- a statement with what follows of its parts
abbrev pub kept : {A : Type 0} → Result (A × LocalsState) Refusal → List Bound → (A → St) → StatementStepped
kept w scope f = with w (λ x. Ok (f x.0, scope, x.1))

-- the state with one local more
abbrev pub with_local : LocalsState → List ℕ → Ty → Place → LocalsState
with_local s n u p = record { locals = s.locals ++ record { name = n; ty = u; tag = at_place p } ∷ []; count = suc s.count; number = s.number }

module _ (t : Table) (here : Here) where
  -- an expression with its names resolved, and the state after it
  abbrev pub walk_expr : List Bound → LocalsState → Expression → Result (Ex × LocalsState) Refusal
  walk_expr scope s e = with (walk t here scope s.number e) (λ x. Ok (x.0, at_number s x.1))

  -- an expression that may be absent, with its names resolved, and the state after it
  abbrev pub walk_value : List Bound → LocalsState → Option Expression → Result (Option Ex × LocalsState) Refusal
  walk_value scope s None = Ok (None, s)
  walk_value scope s (Some e) = with (walk_expr scope s e) (λ x. Ok (Some x.0, x.1))

  -- a declaration; the scope of a local begins with its own first value (Java Language Specification, 6.3)
  abbrev pub declared : List Bound → LocalsState → List ℕ → Option Expression → Place → Ty → StatementStepped
  declared scope s n v p u = with (walk_value (bound scope n s.count) (with_local s n u p) v)
      (λ x. Ok (declare (at_place p) s.count x.0, bound scope n s.count, x.1))

  -- the declaration of a local, whose type must be there and whose name must be free
  abbrev pub walk_local : List Bound → LocalsState → TypeName → List ℕ → Option Expression → Place → StatementStepped
  walk_local scope s u n v p = with (type_of t.known u) (λ u. unless (clash t scope n p) (declared scope s n v p u))

  abbrev mutual
    -- a statement with its names resolved, and the scope and the state after it; whether it is inside a loop
    pub walk_st : Bool → List Bound → LocalsState → Statement → StatementStepped
    walk_st inside scope s (LocalOf f u n v p) = walk_local scope s u n v p
    walk_st inside scope s (BlockOf ss p) = kept (walk_sts inside no_st scope s ss) scope (block (at_place p))
    walk_st inside scope s (AssignOf e v p) = with (walk_expr scope s e) (λ x. kept (walk_expr scope x.1 v) scope (assign (at_place p) (target x.0)))
    walk_st inside scope s (DoOf e p) = kept (walk_expr scope s e) scope (act (at_place p))
    walk_st inside scope s (PrintOf l v p) = kept (walk_value scope s v) scope (print (at_place p) l)
    walk_st inside scope s (IfOf arms other p) =
        with (walk_arms inside no_other scope s arms) (λ a. kept (walk_else inside scope a.1 other) scope (λ o. choose (at_place p) (ending a.0 o)))
    walk_st inside scope s (WhileOf e ss p) =
        with (walk_expr scope s e) (λ x. kept (walk_sts true no_st scope x.1 ss) scope (loop (at_place p) true no_st (Some x.0) no_st))
    walk_st inside scope s (ForOf f v g ss p) =
        with (walk_optional inside scope s f)
        (λ a. with (walk_value a.1 a.2 v) (λ b. with (walk_optional inside a.1 b.1 g) (λ c. kept (walk_sts true no_st c.1 c.2 ss) scope
        (loop (at_place p) false a.0 b.0 c.0))))
    walk_st inside scope s (ReturnOf v p) = kept (walk_value scope s v) scope (return (at_place p))
    walk_st inside scope s (BreakOf p) = in_loop inside p (break (at_place p)) scope s
    walk_st inside scope s (ContinueOf p) = in_loop inside p (continue (at_place p)) scope s

    -- the statements so far and those that are left; the locals leave the scope at their end
    pub walk_sts : Bool → Sts → List Bound → LocalsState → Statements → Result (Sts × LocalsState) Refusal
    walk_sts inside done scope s no_statements = Ok (done, s)
    walk_sts inside done scope s (and_then x xs) = with (walk_st inside scope s x) (λ r. walk_sts inside (st_last done r.0) r.1 r.2 xs)

    -- the arms so far and those that are left, and the state after them
    pub walk_arms : Bool → IfArms → List Bound → LocalsState → tree.Arms → Result (IfArms × LocalsState) Refusal
    walk_arms inside done scope s tree.no_arms = Ok (done, s)
    walk_arms inside done scope s (tree.and_arm e ss more) =
        with (walk_expr scope s e) (λ x. with (walk_sts inside no_st scope x.1 ss) (λ b. walk_arms inside (arm_last done x.0 b.0) scope b.1 more))

    -- the `else` of an `if`, where it has one, and the state after it
    pub walk_else : Bool → List Bound → LocalsState → Else → Result (IfArms × LocalsState) Refusal
    walk_else inside scope s no_else = Ok (no_other, s)
    walk_else inside scope s (tree.otherwise ss) = with (walk_sts inside no_st scope s ss) (λ x. Ok (otherwise x.0, x.1))

    -- the first or last part of a `for`
    pub walk_optional : Bool → List Bound → LocalsState → OptionalStatement → Result (Sts × List Bound × LocalsState) Refusal
    walk_optional inside scope s absent = Ok (no_st, scope, s)
    walk_optional inside scope s (present x) = with (walk_st inside scope s x) (λ r. Ok (st_then r.0 no_st, r.1, r.2))

  -- the test and the body of one arm, and the state after them
  abbrev pub walk_arm : Bool → List Bound → LocalsState → Expression → Statements → Result (Ex × Sts × LocalsState) Refusal
  walk_arm inside scope s e ss = with (walk_expr scope s e) (λ x. with (walk_sts inside no_st scope x.1 ss) (λ b. Ok (x.0, b.0, b.1)))
