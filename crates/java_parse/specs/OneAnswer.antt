-- Mirror. A list of tokens has one answer.
use Rattle.std.specs.Prelude.{◌≡◌, ◌≤◌, List, Result, Ok, Err}
use Rattle.java_lex.specs.declared.Token.{Token}
use Rattle.java_tree.specs.Syntax.{DeclTree}
use Rattle.java_tree.specs.Places.{unplaced}
use Rattle.java_tree.specs.Declarations.{IsPlaced, Derives}
use Rattle.java_tree.specs.Nesting.{nesting_of}
use Rattle.java_parse.specs.declared.ParseFault.{ParseFault}
use Rattle.java_parse.specs.declared.ParseFault.TheVariants as faults
use Rattle.java_parse.specs.Faults.{IsParseCause}

-- the tokens have at most one tree, places aside
abbrev pub OneTree : Type 0
OneTree = (tokens : List Token) (a b : List DeclTree) → Derives tokens a → Derives tokens b → unplaced a ≡ unplaced b

-- what `parse` says of the tokens by an answer: this tree derives them, or that is why none is given
abbrev pub IsAnswer : List Token → Result (List DeclTree) ParseFault → Type 0
IsAnswer tokens (Ok tree) = IsPlaced tokens tree × (nesting_of tokens ≤ 128)
IsAnswer tokens (Err fault) = IsParseCause tokens fault

-- the same fault, or memory was short
abbrev pub AreOneFault : ParseFault → ParseFault → Type 0
AreOneFault faults.Memory g = Unit {0}
AreOneFault f faults.Memory = Unit {0}
AreOneFault (faults.NotAProgram j) (faults.NotAProgram k) = j ≡ k
AreOneFault (faults.TooDeep j) (faults.TooDeep k) = j ≡ k
AreOneFault f g = ⊥

-- the same tree with the same places, or the same fault, or memory was short
abbrev pub AreOneReading : Result (List DeclTree) ParseFault → Result (List DeclTree) ParseFault → Type 0
AreOneReading (Ok a) (Ok b) = a ≡ b
AreOneReading (Err f) (Err g) = AreOneFault f g
AreOneReading (Ok a) (Err faults.Memory) = Unit {0}
AreOneReading (Err faults.Memory) (Ok b) = Unit {0}
AreOneReading r s = ⊥

-- two answers to the same tokens are one
abbrev pub OneReading : Type 0
OneReading = (tokens : List Token) (r s : Result (List DeclTree) ParseFault) → IsAnswer tokens r → IsAnswer tokens s → AreOneReading r s
