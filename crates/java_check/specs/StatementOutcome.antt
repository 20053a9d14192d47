-- Mirror. What is answered of each statement: the first rule of types that fails, from the left and parts before the
-- whole.
use Rattle.std.specs.Prelude.{ℕ, ◌&&◌, Option, Some, None, Result, Ok, slice_get}
use Rattle.std.specs.Option.{is_some, is_none}
use Rattle.java_core.specs.declared.Ty.{Ty}
use Rattle.java_core.specs.Trees.{Tag, Ex, Target, to_local, to_static, to_own, to_field, to_element, no_target, St, Sts, IfArms, declare, block, assign, act, print, choose, loop, return, break, continue, no_st, st_then, no_other, otherwise, arm}
use Rattle.java_core.specs.Programs.{Plain}
use Rattle.java_core.specs.Types.{Static, Env, or_nothing, element_of, is_numeric, is_boolean, is_printable, fits, fits_in, field_type, field_in}
use Rattle.java_core.specs.declared.statics.Static as declared
use Rattle.java_check.specs.declared.Kind.TheVariants.{Operand, Condition, Assign, Return, NoMember}
use Rattle.java_check.specs.declared.CheckFault.{CheckFault}
use Rattle.java_core.specs.Statics.{static_seen as seen, given_of}
use Rattle.java_check.specs.Outcome.{Answer, and_then, asked, refused, answer}
use Rattle.java_check.specs.Fails.{tag_of}

module _ (P : Plain) (g : Env) where
  -- the variable that an assignment changes, and its type
  abbrev pub field_answer : Option ℕ → Tag → Answer
  field_answer None t = refused NoMember t
  field_answer (Some f) t = Ok (given_of (field_type P f))

  -- the answer for the target of an assignment: its static type, or the rule that it breaks
  abbrev pub target_answer : Tag → Target → Answer
  target_answer a (to_local t i) = Ok (given_of (slice_get g.locals i))
  target_answer a (to_static t f) = Ok (given_of (field_type P f))
  target_answer a (to_own t f) = Ok (given_of (field_type P f))
  target_answer a (to_field t e x) = and_then (answer P g e) (λ s. field_answer (field_in P (seen s) x) t)
  target_answer a (to_element t e i) =
      and_then (answer P g e) (λ s. and_then (answer P g i) (λ j. asked (is_some (element_of (seen s)) && is_numeric (seen j)) Operand t
      (given_of (element_of (seen s)))))
  target_answer a no_target = refused Assign a

  -- the answer for a test: it must be a boolean
  abbrev pub condition_answer : Ex → Result (Unit {0}) CheckFault
  condition_answer e = and_then (answer P g e) (λ s. asked (is_boolean (seen s)) Condition (tag_of e) (tt {0}))

  -- the answer for the test of a loop, where it has one
  abbrev pub test_answer : Option Ex → Result (Unit {0}) CheckFault
  test_answer None = Ok (tt {0})
  test_answer (Some e) = condition_answer e

  -- the answer for a value that flows into something of the type: it must fit
  abbrev pub assign_answer : Answer → Static → Tag → Result (Unit {0}) CheckFault
  assign_answer r d t = and_then r (λ s. asked (fits_in P (seen s) d) Assign t (tt {0}))

  -- the answer for a `return` with a value: the method must have a result, and the value must fit it
  abbrev pub return_answer : Option Ty → declared.Static → Tag → Result (Unit {0}) CheckFault
  return_answer None s t = refused Return t
  return_answer (Some u) s t = asked (fits P (seen s) u) Return t (tt {0})

  abbrev mutual
    -- the answer for a statement: the first rule that it breaks, where it breaks one
    pub st_answer : St → Result (Unit {0}) CheckFault
    st_answer (declare t i None) = Ok (tt {0})
    st_answer (declare t i (Some e)) = assign_answer (answer P g e) (or_nothing (slice_get g.locals i)) t
    st_answer (block t xs) = sts_answer xs
    st_answer (assign t b e) = and_then (target_answer t b) (λ d. assign_answer (answer P g e) (seen d) t)
    st_answer (act t e) = and_then (answer P g e) (λ _. Ok (tt {0}))
    st_answer (print t n None) = Ok (tt {0})
    st_answer (print t n (Some e)) = and_then (answer P g e) (λ s. asked (is_printable (seen s)) Operand t (tt {0}))
    st_answer (choose t xs) = arms_answer xs
    st_answer (loop t is_while first test step body) =
        and_then (sts_answer first) (λ _. and_then (test_answer test) (λ _. and_then (sts_answer step) (λ _. sts_answer body)))
    st_answer (return t None) = asked (is_none g.result) Return t (tt {0})
    st_answer (return t (Some e)) = and_then (answer P g e) (λ s. return_answer g.result s t)
    st_answer (break t) = Ok (tt {0})
    st_answer (continue t) = Ok (tt {0})

    -- the answer for a list of statements: the first refusal among them
    pub sts_answer : Sts → Result (Unit {0}) CheckFault
    sts_answer no_st = Ok (tt {0})
    sts_answer (st_then x xs) = and_then (st_answer x) (λ _. sts_answer xs)

    -- the answer for the arms of an `if`: the first refusal among them
    pub arms_answer : IfArms → Result (Unit {0}) CheckFault
    arms_answer no_other = Ok tt
    arms_answer (otherwise xs) = sts_answer xs
    arms_answer (arm e xs more) = and_then (condition_answer e) (λ _. and_then (sts_answer xs) (λ _. arms_answer more))
