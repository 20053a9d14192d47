-- Believed. The answers of `same`, for the programs of its two files.
use Rattle.std.specs.Prelude.{◌≡◌, ◌⊎◌, ℕ, List, [], ◌++◌, codes}
use Rattle.std.specs.Fmt.{decimal}
use Rattle.java_core.specs.declared.Program.{Program}
use Rattle.java_core.specs.Programs.{program_of}
use Rattle.rebuild_model.specs.OnePrograms.{AreOne}
use Rattle.same_program.specs.declared.Parting.{Parting}
use Rattle.kaba_top.specs.declared.cause_words.Cause.TheVariants as cause
use Rattle.kaba_top.specs.CauseWords.{cause_text}
use Rattle.kaba_top.specs.Lines.{Says, GivesReply, line}

-- a line with the name of a file before its text
abbrev pub named : List ℕ → List ℕ → List ℕ
named file text = file ++ (codes ": " ++ text)

-- an answer with one line for err, to which the name of the file is added
pub record IsFileNamed (file : List ℕ) (A : ℕ → List ℕ → List ℕ → Type 0) (status : ℕ) (out err : List ℕ) : Type 0 where
  pub text : List ℕ
  pub answers : A status out (line text)
  pub says : Says status (named file text) status out err

-- the text that says where two programs part: a line in each file, and in what
abbrev pub parting_text : List ℕ → List ℕ → Parting → List ℕ
parting_text file other p =
    codes "differ: "
    ++ (file ++ (codes " line " ++ (decimal p.first.line
    ++ (codes ", " ++ (other ++ (codes " line " ++ (decimal p.second.line ++ (codes ": " ++ cause_text (cause.Parted p.what)))))))))

-- the programs are one, and nothing is told
pub record AreFoundOne (first second : Program) (status : ℕ) (out err : List ℕ) : Type 0 where
  pub one : AreOne (program_of first) (program_of second)
  pub gives : GivesReply 0 [] [] status out err

-- the programs are not one, and places are told at which they part
pub record AreFoundApart (file other : List ℕ) (first second : Program) (status : ℕ) (out err : List ℕ) : Type 0 where
  pub apart : AreOne (program_of first) (program_of second) → ⊥
  pub parting : Parting
  pub says : Says 1 (parting_text file other parting) status out err

-- the answers of `same` for two programs, of files of these names
abbrev pub SameOf : List ℕ → List ℕ → Program → Program → ℕ → List ℕ → List ℕ → Type 0
SameOf file other first second status out err = AreFoundOne first second status out err ⊎ AreFoundApart file other first second status out err
