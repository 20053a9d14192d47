-- Mirror. What is answered of a program: the first class that breaks a rule, then the first body in which one fails.
use Rattle.std.specs.Prelude.{ℕ, suc, List, [], ◌∷◌, Option, Some, None, Result, Ok}
use Rattle.java_core.specs.Trees.{Tag, Sts}
use Rattle.java_core.specs.Programs.{Plain, PlainClass, PlainMethod}
use Rattle.java_core.specs.Types.{Env}
use Rattle.java_check.specs.declared.Kind.{Kind}
use Rattle.java_check.specs.declared.CheckFault.{CheckFault}
use Rattle.java_check.specs.Outcome.{env_in, and_then, refused}
use Rattle.java_check.specs.StatementOutcome.{sts_answer}
use Rattle.java_check.specs.ClassOutcome.{class_rule}

-- the refusal by the rule that a class breaks, where it breaks one
abbrev pub class_answer : Option Kind → Tag → Result (Unit {0}) CheckFault
class_answer None t = Ok (tt {0})
class_answer (Some k) t = refused k t

-- the answer for classes of which the first has the number c: the first refusal among them
abbrev pub classes_answer : Plain → ℕ → List PlainClass → Result (Unit {0}) CheckFault
classes_answer P c [] = Ok (tt {0})
classes_answer P c (k ∷ ks) = and_then (class_answer (class_rule P c P.methods) k.tag) (λ _. classes_answer P (suc c) ks)

-- the answer for the body of a method, where it has one
abbrev pub body_answer : Plain → Env → Option Sts → Result (Unit {0}) CheckFault
body_answer P g None = Ok (tt {0})
body_answer P g (Some xs) = sts_answer P g xs

-- the answer for methods of which the first has the number m: the first refusal among them
abbrev pub methods_answer : Plain → ℕ → List PlainMethod → Result (Unit {0}) CheckFault
methods_answer P m [] = Ok (tt {0})
methods_answer P m (k ∷ ks) = and_then (body_answer P (env_in P m) k.body) (λ _. methods_answer P (suc m) ks)
