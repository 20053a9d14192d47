-- A list of tokens has one answer.
use Rattle.std.proofs.Common.{◌≤◌, List, Ok, Err, refl, arith}
use Rattle.java_lex.specs.declared.Token.{Token}
use Rattle.java_tree.specs.Syntax.{DeclTree}
use Rattle.java_tree.specs.Declarations.{IsPlaced, Derives}
use Rattle.java_tree.specs.Nesting.{nesting_of, IsTooDeep}
use Rattle.java_parse.specs.declared.ParseFault.{ParseFault}
use Rattle.java_parse.specs.declared.ParseFault.TheVariants as faults
use Rattle.java_parse.specs.Faults.{IsParseCause}
use Rattle.java_parse.specs.OneAnswer.{AreOneFault, OneReading}
use Rattle.java_parse.proofs.CompleteDeclarations.{one_placed}
use Rattle.java_parse.proofs.Deep.{deep_nested, one_deep}
use Rattle.java_parse.proofs.Exact.{exact_once}

derives : (ts : List Token) (tree : List DeclTree) → IsPlaced ts tree → Derives ts tree
derives ts tree h = record { placed = tree; derived = h; same = refl }

not_both : (ts : List Token) (k : _) → nesting_of ts ≤ 128 → IsTooDeep ts k → ⊥
not_both ts k h d = let l = deep_nested ts k d in omega (arith, h, l)

one_fault : (ts : List Token) (f g : ParseFault) → IsParseCause ts f → IsParseCause ts g → AreOneFault f g
one_fault ts faults.Memory g c d = tt
one_fault ts (faults.NotAProgram j) faults.Memory c d = tt
one_fault ts (faults.TooDeep j) faults.Memory c d = tt
one_fault ts (faults.NotAProgram j) (faults.NotAProgram k) c d = exact_once ts j k c.1 d.1
one_fault ts (faults.TooDeep j) (faults.TooDeep k) c d = one_deep ts j k c d
one_fault ts (faults.NotAProgram j) (faults.TooDeep k) c d = not_both ts k c.0 d
one_fault ts (faults.TooDeep j) (faults.NotAProgram k) c d = not_both ts j d.0 c

pub one_answer : OneReading
one_answer ts (Ok a) (Ok b) c d = one_placed ts a b c.0 d.0
one_answer ts (Ok a) (Err faults.Memory) c d = tt
one_answer ts (Ok a) (Err (faults.NotAProgram k)) c d = d.1.none a (derives ts a c.0)
one_answer ts (Ok a) (Err (faults.TooDeep k)) c d = not_both ts k c.1 d
one_answer ts (Err faults.Memory) (Ok b) c d = tt
one_answer ts (Err (faults.NotAProgram k)) (Ok b) c d = c.1.none b (derives ts b d.0)
one_answer ts (Err (faults.TooDeep k)) (Ok b) c d = not_both ts k d.1 c
one_answer ts (Err f) (Err g) c d = one_fault ts f g c d
