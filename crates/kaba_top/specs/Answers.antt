-- Believed. The answers of the program, for the words and the files.
use Rattle.std.specs.Prelude.{◌≡◌, ◌⊎◌, ℕ, ◌<◌, ◌≤◌, List, [], length, Option, Some, None}
use Rattle.kaba_base.specs.Outside.{Files, Rose, taken_more, HoldsPrefix}
use Rattle.kaba_words.specs.Commands.{Cmd, run, table, lattice, base, why, sure, same, edit, regen, make, help, version, Fits, FitsNone}
use Rattle.kaba_top.specs.About.{help_text, version_text}
use Rattle.kaba_top.specs.Agreement.{Agrees}
use Rattle.kaba_top.specs.Lines.{Says, GivesReply, usage, cannot_read, most_bytes, file_too_large}
use Rattle.java_core.specs.declared.Program.{Program}
use Rattle.kaba_top.specs.Reading.{IsRefusedText, IsAnsweredText, TextAnswers}
use Rattle.kaba_top.specs.RunAnswers.{RunAnswers}
use Rattle.kaba_top.specs.FactsAnswers.{AnalysisAnswers, TableOf, LatticeOf}
use Rattle.kaba_top.specs.BaseAnswers.{BaseOf}
use Rattle.kaba_top.specs.WhyAnswers.{WhyOf}
use Rattle.kaba_top.specs.SureAnswers.{SureOf}
use Rattle.kaba_top.specs.SameAnswers.{IsFileNamed, SameOf}
use Rattle.kaba_top.specs.EditAnswers.{EditOf}
use Rattle.kaba_top.specs.RegenAnswers.{RegenOf}
use Rattle.kaba_top.specs.MakeAnswers.{MakeAnswers}

-- the words fit no pattern
pub record IsUsage (words : List (List ℕ)) (status : ℕ) (out err : List ℕ) : Type 0 where
  pub fits_none : FitsNone words
  pub says : Says 64 usage status out err

-- the file is not there
pub record IsMissing (files : Files) (file : List ℕ) (status : ℕ) (out err : List ℕ) : Type 0 where
  pub missing : files file ≡ None
  pub says : Says 66 (cannot_read file) status out err

-- the file has too many bytes
pub record IsTooLarge (files : Files) (file : List ℕ) (status : ℕ) (out err : List ℕ) : Type 0 where
  pub bytes : List ℕ
  pub there : files file ≡ Some bytes
  pub large : most_bytes < length bytes
  pub says : Says 67 file_too_large status out err

-- the file is there with bytes within the limit, for which there is this answer
pub record IsRead (K : List ℕ → ℕ → List ℕ → List ℕ → Type 0) (files : Files) (file : List ℕ) (status : ℕ) (out err : List ℕ) : Type 0 where
  pub bytes : List ℕ
  pub there : files file ≡ Some bytes
  pub small : length bytes ≤ most_bytes
  pub answers : K bytes status out err

-- the answers of a command that reads a file, where K are those for its bytes
abbrev pub FileAnswers : (List ℕ → ℕ → List ℕ → List ℕ → Type 0) → Files → List ℕ → ℕ → List ℕ → List ℕ → Type 0
FileAnswers K files file status out err = IsMissing files file status out err ⊎ (IsTooLarge files file status out err ⊎ IsRead K files file status out err)

-- the answers for the bytes of a file whose name is told where its text is refused, where K are those for its program
abbrev pub NamedTextAnswers : List ℕ → (Program → ℕ → List ℕ → List ℕ → Type 0) → List ℕ → ℕ → List ℕ → List ℕ → Type 0
NamedTextAnswers file K bytes status out err = IsFileNamed file (IsRefusedText bytes) status out err ⊎ IsAnsweredText K bytes status out err

-- the answers of a command that reads the program of a file, whose name is told where it is refused
abbrev pub NamedAnswers : (Program → ℕ → List ℕ → List ℕ → Type 0) → Files → List ℕ → ℕ → List ℕ → List ℕ → Type 0
NamedAnswers K files file status out err = IsMissing files file status out err
    ⊎ (IsFileNamed file (IsTooLarge files file) status out err ⊎ IsRead (NamedTextAnswers file K) files file status out err)

-- the answers of `same`: the refusals of its first file, then those of its second, and then whether their programs are one
abbrev pub SameAnswers : List ℕ → List ℕ → Files → Files → ℕ → List ℕ → List ℕ → Type 0
SameAnswers file other first second = NamedAnswers (λ p. NamedAnswers (SameOf file other p) second other) first file

-- the answers of `edit` for the bytes of its file and of its script
abbrev pub EditAnswers : ℕ → List ℕ → List ℕ → ℕ → List ℕ → List ℕ → Type 0
EditAnswers bound bytes script = TextAnswers (AnalysisAnswers (EditOf bound script)) bytes

-- and those of `regen`
abbrev pub RegenAnswers : ℕ → List ℕ → List ℕ → ℕ → List ℕ → List ℕ → Type 0
RegenAnswers bound bytes script = TextAnswers (λ program. AnalysisAnswers (RegenOf bound script program) program) bytes

-- the answers of a command, where first are the files as its first file is read, and second as its second one is
abbrev pub CommandAnswers : Cmd → Files → Files → ℕ → List ℕ → List ℕ → Type 0
CommandAnswers (run file steps words) first second = FileAnswers (TextAnswers (RunAnswers steps words)) first file
CommandAnswers (table file) first second = FileAnswers (TextAnswers (AnalysisAnswers TableOf)) first file
CommandAnswers (lattice json bound file) first second = FileAnswers (TextAnswers (AnalysisAnswers (LatticeOf json bound))) first file
CommandAnswers (base file) first second = FileAnswers (TextAnswers (AnalysisAnswers BaseOf)) first file
CommandAnswers (why file row column) first second = FileAnswers (TextAnswers (AnalysisAnswers (WhyOf row column))) first file
CommandAnswers (sure file) first second = FileAnswers (TextAnswers (AnalysisAnswers SureOf)) first file
CommandAnswers (same file other) first second = SameAnswers file other first second
CommandAnswers (edit bound file script) first second = FileAnswers (λ bytes. FileAnswers (EditAnswers bound bytes) second script) first file
CommandAnswers (regen bound file script) first second = FileAnswers (λ bytes. FileAnswers (RegenAnswers bound bytes) second script) first file
CommandAnswers (make prints number) first second = MakeAnswers prints number
CommandAnswers help first second = GivesReply 0 help_text []
CommandAnswers version first second = GivesReply 0 version_text []

-- the names of the files that a command reads
abbrev pub NamesFiles : Cmd → List ℕ → Type 0
NamesFiles (run file steps words) name = name ≡ file
NamesFiles (table file) name = name ≡ file
NamesFiles (lattice json bound file) name = name ≡ file
NamesFiles (base file) name = name ≡ file
NamesFiles (why file row column) name = name ≡ file
NamesFiles (sure file) name = name ≡ file
NamesFiles (same file other) name = (name ≡ file) ⊎ (name ≡ other)
NamesFiles (edit bound file script) name = (name ≡ file) ⊎ (name ≡ script)
NamesFiles (regen bound file script) name = (name ≡ file) ⊎ (name ≡ script)
NamesFiles (make prints number) name = ⊥
NamesFiles help name = ⊥
NamesFiles version name = ⊥

-- the words say a command, and this is an answer of it
pub record IsOfCommand (words : List (List ℕ)) (first second : Files) (status : ℕ) (out err : List ℕ) : Type 0 where
  pub command : Cmd
  pub fits : Fits words command
  pub answers : CommandAnswers command first second status out err

-- the answers of the program for the words and the files; where no file changes meanwhile, first and second are the same
abbrev pub Answers : List (List ℕ) → Files → Files → ℕ → List ℕ → List ℕ → Type 0
Answers words first second status out err = IsUsage words status out err ⊎ IsOfCommand words first second status out err

-- an answer of the command for some files that agree with what the shelf tells
pub record IsAnswered (told : Option Files) (A : Files → Files → ℕ → List ℕ → List ℕ → Type 0) (status : ℕ) (out err : List ℕ) : Type 0 where
  pub first : Files
  pub second : Files
  pub first_agrees : Agrees told first
  pub second_agrees : Agrees told second
  pub answers : A first second status out err

-- a fault of the shelf: its count rose, and the line names this file
pub record IsShelfFault (before now : ℕ) (file : List ℕ) (status : ℕ) (out err : List ℕ) : Type 0 where
  pub rose : Rose before now
  pub says : Says 66 (cannot_read file) status out err

-- a fault at a file that the command reads
pub record IsUnread (before now : ℕ) (command : Cmd) (status : ℕ) (out err : List ℕ) : Type 0 where
  pub file : List ℕ
  pub names : NamesFiles command file
  pub fault : IsShelfFault before now file status out err

-- a fault at a file that the words name
pub record WasUnread (before now : ℕ) (words : List (List ℕ)) (status : ℕ) (out err : List ℕ) : Type 0 where
  pub command : Cmd
  pub fits : Fits words command
  pub unread : IsUnread before now command status out err

-- what a command may answer, before it writes: told are the shelf's files, and before and now its counts of faults
abbrev pub CommandReplies : Option Files → ℕ → ℕ → Cmd → ℕ → List ℕ → List ℕ → Type 0
CommandReplies told before now command status out err = IsAnswered told (CommandAnswers command) status out err ⊎ IsUnread before now command status out err

-- what the program may answer, before it writes
abbrev pub Replies : Option Files → ℕ → ℕ → List (List ℕ) → ℕ → List ℕ → List ℕ → Type 0
Replies told before now words status out err = IsAnswered told (Answers words) status out err ⊎ WasUnread before now words status out err

-- the sinks took all the bytes of a reply
pub record Gave (told : Option Files) (before now : ℕ) (words : List (List ℕ)) (status : ℕ) (out_before out_now err_before err_now : Option
    (List ℕ)) : Type 0 where
  pub out : List ℕ
  pub err : List ℕ
  pub replies : Replies told before now words status out err
  pub out_taken : out_now ≡ taken_more out_before out
  pub err_taken : err_now ≡ taken_more err_before err

-- the sinks took fronts of these bytes, and of err nothing before the whole of out
pub record Cut (out_before out_now : Option (List ℕ)) (out : List ℕ) (err_before err_now : Option (List ℕ)) (err : List ℕ) : Type 0 where
  pub out_front : HoldsPrefix out_before out_now out
  pub err_front : HoldsPrefix err_before err_now err
  pub in_order : (err_now ≡ err_before) ⊎ (out_now ≡ taken_more out_before out)

-- the sinks took fronts of the bytes of a reply
pub record WasCut (told : Option Files) (before now : ℕ) (words : List (List ℕ)) (out_before out_now err_before err_now : Option (List ℕ)) : Type 0 where
  pub status : ℕ
  pub out : List ℕ
  pub err : List ℕ
  pub replies : Replies told before now words status out err
  pub cut : Cut out_before out_now out err_before err_now err
