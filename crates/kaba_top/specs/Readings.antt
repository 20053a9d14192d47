-- Mirror. What is known once a text was read.
use Rattle.std.specs.Prelude.{◌≡◌, ◌⊎◌, ℕ, ◌≤◌, List, length}
use Rattle.kaba_base.specs.declared.Place.{Place}
use Rattle.java_tree.specs.Syntax.{DeclTree}
use Rattle.java_core.specs.declared.Program.{Program}
use Rattle.java_core.specs.Programs.{program_of}
use Rattle.java_core.specs.Formed.{IsFormed}
use Rattle.java_core.specs.Typing.{IsTyped}
use Rattle.name_rules.specs.declared.Refusal.{Refusal}
use Rattle.name_rules.specs.Conditions.{ConditionAt}
use Rattle.name_rules.specs.Causes.{HasNoCondition}
use Rattle.name_rules.specs.Resolves.{Resolves}
use Rattle.java_check.specs.declared.Kind.{Kind}
use Rattle.java_check.specs.Fails.{FailsIn}
use Rattle.kaba_top.specs.declared.reading.Reading.{Reading}
use Rattle.kaba_top.specs.declared.reading.Reading.TheVariants as readings
use Rattle.kaba_top.specs.Lines.{Says, most_bytes}
use Rattle.kaba_top.specs.TextPrograms.{IsTypedText}
use Rattle.kaba_top.specs.Reading.{IsRefusedText, refused, naming_text, typing_text}
use Rattle.kaba_top.specs.MakeAnswers.{IsLongText}

-- the bytes are those of this typed program, or a reply refuses them
abbrev pub IsProgramReading : List ℕ → Reading → Type 0
IsProgramReading bytes (readings.Typed program) = IsTypedText bytes (program_of program)
IsProgramReading bytes (readings.Refused reply) = IsRefusedText bytes reply.status reply.out.items reply.err.items

-- the program is not typed
pub record IsIllTyped (program : Program) (status : ℕ) (out err : List ℕ) : Type 0 where
  pub untyped : IsTyped (program_of program) → ⊥
  pub kind : Kind
  pub place : Place
  pub fails : FailsIn (program_of program) kind place
  pub says : Says 65 (refused (typing_text kind place)) status out err

-- the program was found typed, or a reply says why it is not
abbrev pub IsReadingOfProgram : Program → Reading → Type 0
IsReadingOfProgram given (readings.Typed program) = (◌≡◌ {A = Program} program given) × IsTyped (program_of given)
IsReadingOfProgram given (readings.Refused reply) = IsIllTyped given reply.status reply.out.items reply.err.items

-- a tree is resolved to this program
pub record IsResolved (tree : List DeclTree) (program : Program) : Type 0 where
  pub resolves : Resolves tree (program_of program)
  pub none : HasNoCondition tree
  pub formed : IsFormed (program_of program)

-- a tree is resolved to this typed program
pub record IsTypedTree (tree : List DeclTree) (program : Program) : Type 0 where
  pub resolved : IsResolved tree program
  pub typed : IsTyped (program_of program)

-- a tree is refused: a condition on names holds, or its program is not typed
pub record IsUnresolvedTree (tree : List DeclTree) (status : ℕ) (out err : List ℕ) : Type 0 where
  pub why : Refusal
  pub condition : ConditionAt tree why
  pub says : Says 65 (refused (naming_text why)) status out err

-- a tree is resolved to a program that is not typed
pub record IsUntypedTree (tree : List DeclTree) (status : ℕ) (out err : List ℕ) : Type 0 where
  pub program : Program
  pub resolved : IsResolved tree program
  pub ill : IsIllTyped program status out err

-- a tree is that of this typed program, or a reply refuses it
abbrev pub IsReadingOfTree : List DeclTree → Reading → Type 0
IsReadingOfTree tree (readings.Typed program) = IsTypedTree tree program
IsReadingOfTree tree (readings.Refused reply) = IsUnresolvedTree tree reply.status reply.out.items reply.err.items
    ⊎ IsUntypedTree tree reply.status reply.out.items reply.err.items

-- the bytes of a text that no file holds are those of this typed program, or a reply refuses them
abbrev pub IsMadeReading : List ℕ → Reading → Type 0
IsMadeReading bytes (readings.Typed program) = (length bytes ≤ most_bytes) × IsTypedText bytes (program_of program)
IsMadeReading bytes (readings.Refused reply) =
    IsLongText bytes reply.status reply.out.items reply.err.items
    ⊎ ((length bytes ≤ most_bytes) × IsRefusedText bytes reply.status reply.out.items reply.err.items)
