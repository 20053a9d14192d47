-- Mirror. The answers of the program are one; and which statuses there are where nothing is refused.
use Rattle.std.specs.Prelude.{◌≡◌, ◌⊎◌, ℕ, ◌≤◌, List, length, Some, None}
use Rattle.kaba_base.specs.Outside.{Files}
use Rattle.java_core.specs.Programs.{Plain}
use Rattle.fact_model.specs.declared.facts.Facts.{Facts}
use Rattle.fact_model.specs.declared.sets.Table.{Table}
use Rattle.fact_model.specs.Entries.{IsTable}
use Rattle.fact_model.specs.Concepts.{AreMoreThan}
use Rattle.stem_base.specs.Base.{common, AreMoreStems}
use Rattle.flow_rules.specs.Facts.{IsWithinLimits}
use Rattle.edit_script.specs.Script.{IsFirstBadLine, HasTooManyEdits}
use Rattle.kaba_words.specs.Commands.{Cmd, run, table, lattice, base, why, sure, same, edit, regen, make, help, version, Fits, usual_concepts}
use Rattle.kaba_top.specs.Lines.{line, most_bytes}
use Rattle.kaba_top.specs.TextPrograms.{IsTypedText}
use Rattle.kaba_top.specs.TextFacts.{HasTextFacts}
use Rattle.kaba_top.specs.Reading.{IsUnresolved, IsUntyped}
use Rattle.flow_program.specs.Same.{AreSameFacts}
use Rattle.why_table.specs.declared.trail.Trail.{Trail}
use Rattle.why_table.specs.Found.{IsTrailOf}
use Rattle.why_table.specs.Text.{trail_text}
use Rattle.kaba_top.specs.BaseAnswers.{most_implications}
use Rattle.java_core.specs.declared.Program.{Program}
use Rattle.kaba_top.specs.SameAnswers.{named, AreFoundApart}
use Rattle.kaba_top.specs.Answers.{Answers}

-- two refusals of a text that may differ: which condition on names holds, or which rule of types fails
abbrev pub AreFree : List ℕ → ℕ → List ℕ → List ℕ → ℕ → List ℕ → List ℕ → Type 0
AreFree bytes s o e t p f =
    (IsUnresolved bytes s o e × IsUnresolved bytes t p f) ⊎ (IsUntyped bytes s o e × IsUntyped bytes t p f)

-- two such refusals of the text of a file, with its name
pub record AreNamedFree (s : ℕ) (o e : List ℕ) (t : ℕ) (p f : List ℕ) : Type 0 where
  pub bytes : List ℕ
  pub file : List ℕ
  pub text : List ℕ
  pub other : List ℕ
  pub free : AreFree bytes s o (line text) t p (line other)
  pub err_is : e ≡ line (named file text)
  pub other_is : f ≡ line (named file other)

-- two programs are not one, and two pairs of places may be told at which they part
pub record ArePartings (s : ℕ) (o e : List ℕ) (t : ℕ) (p f : List ℕ) : Type 0 where
  pub file : List ℕ
  pub other : List ℕ
  pub first : Program
  pub second : Program
  pub again_first : Program
  pub again_second : Program
  pub one : AreFoundApart file other first second s o e
  pub two : AreFoundApart file other again_first again_second t p f

-- the text of a trail to an entry of facts
pub record IsTrailText (F : Facts) (row column : ℕ) (out : List ℕ) : Type 0 where
  pub trail : Trail
  pub is : IsTrailOf F (record { 0 = row }) (record { 0 = column }) trail.steps.items
  pub out_is : out ≡ trail_text trail.steps.items

-- two texts of trails to one entry, which may differ: of the same facts of one program
pub record AreTrails (o p : List ℕ) : Type 0 where
  pub facts : Facts
  pub other : Facts
  pub same : AreSameFacts facts other
  pub row : ℕ
  pub column : ℕ
  pub one : IsTrailText facts row column o
  pub two : IsTrailText other row column p

-- two answers are one: the status, the bytes for out but for two trails to one entry, and those for err but for such refusals
-- and for two tellings of where programs part
pub record AreOneAnswer (s : ℕ) (o e : List ℕ) (t : ℕ) (p f : List ℕ) : Type 0 where
  pub status : s ≡ t
  pub out : (o ≡ p) ⊎ AreTrails o p
  pub err : (e ≡ f) ⊎ (((bytes : List ℕ) × AreFree bytes s o e t p f) ⊎ (AreNamedFree s o e t p f ⊎ ArePartings s o e t p f))

-- an answer of one kind and one of another are one
abbrev pub AreOneKind : (ℕ → List ℕ → List ℕ → Type 0) → (ℕ → List ℕ → List ℕ → Type 0) → Type 0
AreOneKind A B = (s t : ℕ) (o p e f : List ℕ) → A s o e → B t p f → AreOneAnswer s o e t p f

-- for one list of words and one pair of files there is one answer
unfoldable pub HasOneAnswer : Type 0
HasOneAnswer = (words : List (List ℕ)) (first second : Files) → AreOneKind (Answers words first second) (Answers words first second)

-- a file of bytes within the limit, of which this holds
pub record OfSmallFile (files : Files) (file : List ℕ) (K : List ℕ → Type 0) : Type 0 where
  pub bytes : List ℕ
  pub there : files file ≡ Some bytes
  pub small : length bytes ≤ most_bytes
  pub holds : K bytes

-- the text of a typed program
abbrev pub IsTaken : List ℕ → Type 0
IsTaken bytes = (P : Plain) × IsTypedText bytes P

-- the text of a typed program within the limits
abbrev pub IsTakenWithin : List ℕ → Type 0
IsTakenWithin bytes = (P : Plain) × IsTypedText bytes P × IsWithinLimits P

-- its table has no more concepts than are allowed
abbrev pub HasFewConcepts : ℕ → Plain → Type 0
HasFewConcepts bound P = (F : Facts) (t : Table) → HasTextFacts P F → IsTable F t → AreMoreThan t.rows.items t.width bound → ⊥

-- the text of such a program with so few concepts
abbrev pub IsTakenFor : ℕ → List ℕ → Type 0
IsTakenFor bound bytes = (P : Plain) × IsTypedText bytes P × IsWithinLimits P × HasFewConcepts bound P

-- its table has no more implications than a base may have
abbrev pub HasFewImplications : Plain → Type 0
HasFewImplications P = (F : Facts) (t : Table) → HasTextFacts P F → IsTable F t → AreMoreStems t.width (common t.rows.items t.width) most_implications → ⊥

-- the text of such a program with so few concepts and implications
abbrev pub IsTakenForBase : List ℕ → Type 0
IsTakenForBase bytes = (P : Plain) × IsTypedText bytes P × IsWithinLimits P × HasFewConcepts usual_concepts P × HasFewImplications P

-- each line of a script is an edit or an undo or says nothing, and there are not too many of them
abbrev pub IsAcceptedScript : List ℕ → Type 0
IsAcceptedScript script = ((n : ℕ) → IsFirstBadLine script n → ⊥) × (HasTooManyEdits script → ⊥)

-- nothing is refused of what a command reads
abbrev pub HasAllInput : Cmd → Files → Files → Type 0
HasAllInput (run file steps words) first second = OfSmallFile first file IsTaken
HasAllInput (table file) first second = OfSmallFile first file IsTakenWithin
HasAllInput (lattice json bound file) first second = OfSmallFile first file (IsTakenFor bound)
HasAllInput (base file) first second = OfSmallFile first file IsTakenForBase
HasAllInput (why file row column) first second = OfSmallFile first file IsTakenWithin
HasAllInput (sure file) first second = OfSmallFile first file IsTakenWithin
HasAllInput (same file other) first second = OfSmallFile first file IsTaken × OfSmallFile second other IsTaken
HasAllInput (edit bound file script) first second = OfSmallFile first file (IsTakenFor bound) × OfSmallFile second script IsAcceptedScript
HasAllInput (regen bound file script) first second = OfSmallFile first file (IsTakenFor bound) × OfSmallFile second script IsAcceptedScript
HasAllInput (make prints number) first second = ⊥
HasAllInput help first second = Unit {0}
HasAllInput version first second = Unit {0}

-- the statuses of a command then: a run ends, at a fault or at its bound; a row may lack a column; programs may part; an edit may be refused, and there may be
-- no tree
abbrev pub IsDoneWith : Cmd → ℕ → Type 0
IsDoneWith (run file steps words) status = (status ≡ 0) ⊎ ((status ≡ 10) ⊎ (status ≡ 11))
IsDoneWith (table file) status = status ≡ 0
IsDoneWith (lattice json bound file) status = status ≡ 0
IsDoneWith (base file) status = status ≡ 0
IsDoneWith (why file row column) status = (status ≡ 0) ⊎ (status ≡ 71)
IsDoneWith (sure file) status = status ≡ 0
IsDoneWith (same file other) status = (status ≡ 0) ⊎ (status ≡ 1)
IsDoneWith (edit bound file script) status = (status ≡ 0) ⊎ (status ≡ 4)
IsDoneWith (regen bound file script) status = (status ≡ 0) ⊎ ((status ≡ 4) ⊎ (status ≡ 5))
IsDoneWith (make prints number) status = Unit {0}
IsDoneWith help status = status ≡ 0
IsDoneWith version status = status ≡ 0

-- where the words say a command and nothing is refused of what it reads, the status is one of these
unfoldable pub IsComplete : Type 0
IsComplete = (words : List (List ℕ)) (command : Cmd) → Fits words command → (first second : Files) → HasAllInput command first second
    → (status : ℕ) (out err : List ℕ) → Answers words first second status out err → IsDoneWith command status
