-- Mirror. What is known once the program of a file was asked for, whose name is told where it is refused.
use Rattle.std.specs.Prelude.{◌≡◌, ◌⊎◌, ℕ, ◌≤◌, List, length, Option, Some}
use Rattle.kaba_base.specs.Outside.{Files}
use Rattle.java_core.specs.declared.Program.{Program}
use Rattle.java_core.specs.Programs.{program_of}
use Rattle.kaba_top.specs.declared.same.Found.{Found}
use Rattle.kaba_top.specs.declared.same.Found.TheVariants as founds
use Rattle.kaba_top.specs.Lines.{most_bytes}
use Rattle.kaba_top.specs.Agreement.{Agrees}
use Rattle.kaba_top.specs.TextPrograms.{IsTypedText}
use Rattle.kaba_top.specs.Reading.{IsRefusedText}
use Rattle.kaba_top.specs.SameAnswers.{IsFileNamed}
use Rattle.kaba_top.specs.Answers.{IsShelfFault, IsAnswered, NamedAnswers}

-- the bytes are those of this typed program, or a reply with the file's name refuses them
abbrev pub IsNamedReading : List ℕ → List ℕ → Found → Type 0
IsNamedReading file bytes (founds.Typed program) = IsTypedText bytes (program_of program)
IsNamedReading file bytes (founds.Refused reply) = IsFileNamed file (IsRefusedText bytes) reply.status reply.out.items reply.err.items

-- some files that agree with what is told have under the name the text of this typed program
pub record IsProgramThere (told : Option Files) (name : List ℕ) (program : Program) : Type 0 where
  pub files : Files
  pub agrees : Agrees told files
  pub bytes : List ℕ
  pub there : files name ≡ Some bytes
  pub small : length bytes ≤ most_bytes
  pub is : IsTypedText bytes (program_of program)

-- nothing is answered
abbrev pub NothingFor : Program → ℕ → List ℕ → List ℕ → Type 0
NothingFor program status out err = ⊥

-- for some files that agree with what is told, the file has no typed program
pub record IsNoProgram (told : Option Files) (name : List ℕ) (status : ℕ) (out err : List ℕ) : Type 0 where
  pub files : Files
  pub agrees : Agrees told files
  pub refused : NamedAnswers NothingFor files name status out err

-- the program of the file was found, or the reply says that there is none, or that there was a fault
abbrev pub IsProgramFound : Option Files → ℕ → ℕ → List ℕ → Found → Type 0
IsProgramFound told before now name (founds.Typed program) = IsProgramThere told name program
IsProgramFound told before now name (founds.Refused reply) = IsNoProgram told name reply.status reply.out.items reply.err.items
    ⊎ IsShelfFault before now name reply.status reply.out.items reply.err.items

-- the reply to a file of a command, where K are the answers for its program
abbrev pub NamedReplies : Option Files → ℕ → ℕ → (Program → ℕ → List ℕ → List ℕ → Type 0) → List ℕ → ℕ → List ℕ → List ℕ → Type 0
NamedReplies told before now K name status out err = IsAnswered told (λ first second. NamedAnswers K first name) status out err
    ⊎ IsShelfFault before now name status out err
