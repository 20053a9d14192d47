-- Mirror. What is answered of each form of a body: what it gives, or the first rule of types that fails, from the left
-- and parts before the whole.
use Rattle.std.specs.Prelude.{ℕ, ◌&&◌, Bool, true, false, List, [], ◌∷◌, Option, Some, None, Result, Ok, Err, slice_get, if◌then◌else◌}
use Rattle.std.specs.Option.{option_map_or, is_some, unwrap_or}
use Rattle.java_core.specs.declared.Ty.{Ty}
use Rattle.java_core.specs.declared.TyBase.TheVariants.{Int, Boolean, Char, Str}
use Rattle.java_core.specs.Trees.{Tag, Ex, Exs, no_ex, ex_then, number, character, text, truth, null, this, local, static_field, own_field, field, index, call, static_call, super_call, create, create_array, cast, instance_of, unary, binary}
use Rattle.java_core.specs.Programs.{Plain}
use Rattle.java_core.specs.Classes.{super_method, has_body, is_concrete}
use Rattle.java_core.specs.Makers.{maker_of}
use Rattle.java_core.specs.Types.{Env, env_of, plain_type, class_type, class_of, element_of, is_numeric, fits, Signature, call_signature, signature_of_method, field_type, access_type, unary_type, binary_type}
use Rattle.java_core.specs.Typing.{takes_one, takes_two, are_related, can_cast}
use Rattle.java_core.specs.declared.statics.Static as declared
use Rattle.java_core.specs.declared.statics.Static.TheVariants.{Value, Null}
use Rattle.java_check.specs.declared.Kind.{Kind}
use Rattle.java_check.specs.declared.Kind.TheVariants.{Operand, Arguments, Cast, NoMember, AbstractNew, MissingBody}
use Rattle.java_check.specs.declared.CheckFault.{CheckFault}
use Rattle.java_check.specs.declared.CheckFault.TheVariants.{IllTyped}
use Rattle.java_core.specs.Statics.{static_seen as seen, given_of}
use Rattle.java_check.specs.Fails.{names_maker}

-- the body of a method: what it sees, by the method's number
abbrev pub env_in : Plain → ℕ → Env
env_in P m = option_map_or (λ k. env_of m k) (slice_get P.methods m) (record { body = m; self = 0; locals = []; result = None })

-- what the check of an expression gives: its static type, or the rule that it breaks
abbrev pub Answer : Type 0
Answer = Result declared.Static CheckFault

-- an answer that goes on where there is none of a fault
abbrev pub and_then : {A B : Type 0} → Result A CheckFault → (A → Result B CheckFault) → Result B CheckFault
and_then (Ok x) f = f x
and_then (Err e) f = Err e

-- the refusal by a rule, at the place of a tag
abbrev pub refused : {A : Type 0} → Kind → Tag → Result A CheckFault
refused k t = Err (IllTyped k t.place)

-- a rule that must hold
abbrev pub asked : {A : Type 0} → Bool → Kind → Tag → A → Result A CheckFault
asked true k t x = Ok x
asked false k t x = refused k t

-- the answer for a field: its type, or that there is none
abbrev pub member_answer : Option Ty → Tag → Answer
member_answer None t = refused NoMember t
member_answer (Some u) t = Ok (Value u)

-- the types of the parameters of the constructor of a class; where it has none, there are none
abbrev pub made_params : Plain → Option ℕ → List Ty
made_params P None = []
made_params P (Some m) = (unwrap_or (signature_of_method P m) (record { params = []; result = None })).params

-- the answer for a creation with this answer for its arguments: the class must be one of which objects can be made
abbrev pub create_answer : Bool → Result (Unit {0}) CheckFault → ℕ → Tag → Answer
create_answer false args c t = refused AbstractNew t
create_answer true args c t = and_then args (λ _. Ok (Value (class_type c)))

-- the rule that a call of a name breaks where it calls nothing
abbrev pub none_called : List ℕ → Kind
none_called x = if names_maker x then Arguments else NoMember

-- a call of a method with this signature; the rule that is broken where there is no method
abbrev pub call_answer : Kind → Option Signature → (List Ty → Result (Unit {0}) CheckFault) → Tag → Answer
call_answer k None args t = refused k t
call_answer k (Some s) args t = and_then (args s.params) (λ _. Ok (given_of s.result))

-- the answer for a call on `super` of a method that was found: it must have a body
abbrev pub super_body : Plain → Bool → ℕ → (List Ty → Result (Unit {0}) CheckFault) → Tag → Answer
super_body P false m args t = refused MissingBody t
super_body P true m args t = call_answer NoMember (signature_of_method P m) args t

-- the answer for a call on `super`: the method must be there and have a body
abbrev pub super_answer : Plain → Option ℕ → (List Ty → Result (Unit {0}) CheckFault) → Tag → Answer
super_answer P None args t = refused MissingBody t
super_answer P (Some m) args t = super_body P (has_body P m) m args t

module _ (P : Plain) (g : Env) where
  abbrev mutual
    -- the answer for an expression: its static type, or the first rule that it breaks
    pub answer : Ex → Answer
    answer (number t n) = Ok (Value (plain_type Int))
    answer (character t c) = Ok (Value (plain_type Char))
    answer (text t u) = Ok (Value (plain_type Str))
    answer (truth t b) = Ok (Value (plain_type Boolean))
    answer (null t) = Ok Null
    answer (this t) = Ok (Value (class_type g.self))
    answer (local t i) = Ok (given_of (slice_get g.locals i))
    answer (static_field t f) = Ok (given_of (field_type P f))
    answer (own_field t f) = Ok (given_of (field_type P f))
    answer (field t e x) = and_then (answer e) (λ s. member_answer (access_type P (seen s) x) t)
    answer (index t e i) = and_then (answer e) (λ s. and_then (answer i) (λ j. asked (is_some (element_of (seen s)) && is_numeric (seen j)) Operand t
        (given_of (element_of (seen s)))))
    answer (call t e x es) = and_then (answer e) (λ s. call_answer (none_called x) (call_signature P (seen s) x) (args_answer es t) t)
    answer (static_call t m es) = call_answer NoMember (signature_of_method P m) (args_answer es t) t
    answer (super_call t x es) = super_answer P (super_method P g.self x) (args_answer es t) t
    answer (create t n c es) = create_answer (is_concrete P c) (args_answer es t (made_params P (maker_of P c))) c t
    answer (create_array t n u e) = and_then (answer e) (λ s. asked (is_numeric (seen s)) Operand t (Value u))
    answer (cast t n u e) = and_then (answer e) (λ s. asked (can_cast P (seen s) u) Cast t (Value u))
    answer (instance_of t n e c) = and_then (answer e) (λ s. asked (are_related P (class_of (seen s)) (Some c)) Cast t (Value (plain_type Boolean)))
    answer (unary t o e) = and_then (answer e) (λ s. asked (takes_one o (seen s)) Operand t (Value (unary_type o)))
    answer (binary t o e d) = and_then (answer e) (λ s. and_then (answer d) (λ r. asked (takes_two P o (seen s) (seen r)) Operand t
        (Value (binary_type o (seen s) (seen r)))))

    -- the arguments of a call against the types of the parameters, one by one
    pub args_answer : Exs → Tag → List Ty → Result (Unit {0}) CheckFault
    args_answer no_ex t [] = Ok (tt {0})
    args_answer no_ex t (u ∷ us) = refused Arguments t
    args_answer (ex_then e es) t [] = refused Arguments t
    args_answer (ex_then e es) t (u ∷ us) = and_then (and_then (answer e) (λ s. asked (fits P (seen s) u) Arguments t (tt {0}))) (λ _. args_answer es t us)
