-- Believed. The answers of `make`, for its number.
use Rattle.std.specs.Prelude.{◌⊎◌, ℕ, ◌-◌, ◌<◌, ◌≤◌, Bool, true, false, List, [], ◌++◌, length, codes}
use Rattle.std.specs.Fmt.{decimal}
use Rattle.std.specs.Str.{encode_utf8_all}
use Rattle.java_core.specs.declared.Program.{Program}
use Rattle.java_core.specs.Programs.{program_of}
use Rattle.java_meaning.specs.Moment as meaning
use Rattle.java_print.specs.Layout.{tree_text}
use Rattle.java_run.specs.Outcomes.{meant}
use Rattle.java_write.specs.Written.{IsWrittenText}
use Rattle.fact_model.specs.declared.facts.Facts.{Facts}
use Rattle.fact_model.specs.declared.sets.Lattice.{Lattice}
use Rattle.hier_model.specs.Hierarchies.{Hierarchy}
use Rattle.hier_view.specs.Text.{live_nodes}
use Rattle.tree_merge.specs.declared.steps.TreeStep.{TreeStep}
use Rattle.kaba_words.specs.Commands.{usual_concepts}
use Rattle.kaba_work.specs.Sample.{sample_tree}
use Rattle.kaba_top.specs.declared.make.Counts.{Counts}
use Rattle.kaba_top.specs.Lines.{Says, GivesReply, most_bytes, file_too_large}
use Rattle.kaba_top.specs.Reading.{TextAnswers}
use Rattle.kaba_top.specs.RunAnswers.{EndGives}
use Rattle.kaba_top.specs.FactsAnswers.{AnalysisAnswers}
use Rattle.kaba_top.specs.ScriptAnswers.{HasLattice, IsOverBound, start_of}
use Rattle.kaba_top.specs.RegenAnswers.{IsTreeOf}

-- the text of the sample of a number
abbrev pub sample_text : ℕ → List ℕ
sample_text n = encode_utf8_all (tree_text (sample_tree n))

-- a text has more bytes than a file may have
pub record IsLongText (text : List ℕ) (status : ℕ) (out err : List ℕ) : Type 0 where
  pub large : most_bytes < length text
  pub says : Says 67 file_too_large status out err

-- a text has no more, and this is the answer for a file of its bytes
pub record IsShortText (K : Program → ℕ → List ℕ → List ℕ → Type 0) (text : List ℕ) (status : ℕ) (out err : List ℕ) : Type 0 where
  pub small : length text ≤ most_bytes
  pub answers : TextAnswers K text status out err

-- the answers for a text that no file holds, where K are those for its program
abbrev pub MadeTextAnswers : (Program → ℕ → List ℕ → List ℕ → Type 0) → List ℕ → ℕ → List ℕ → List ℕ → Type 0
MadeTextAnswers K text status out err = IsLongText text status out err ⊎ IsShortText K text status out err

-- the most steps that the written program may take
abbrev pub made_steps : ℕ
made_steps = 1000000

-- the rows, columns and concepts of the analysis, the types of the hierarchy at the end, and the steps that led there
abbrev pub counts_of : Facts → Lattice → Hierarchy → List TreeStep → Counts
counts_of facts lattice tree log = record {
  rows = length facts.rows.items;
  columns = length facts.columns.items;
  concepts = length lattice.concepts.items;
  types = length (live_nodes tree);
  tree = length log;
}

-- the line of a count
abbrev pub count_line : List ℕ → ℕ → List ℕ
count_line word n = word ++ (codes " " ++ (decimal n ++ codes "\n"))

-- the lines of all counts, at the end those of the run's steps and of the bytes that it printed
abbrev pub summary : Counts → ℕ → ℕ → List ℕ
summary counts steps bytes =
    count_line (codes "rows") counts.rows
    ++ (count_line (codes "columns") counts.columns
    ++ (count_line (codes "concepts") counts.concepts
    ++ (count_line (codes "types") counts.types
    ++ (count_line (codes "tree") counts.tree
    ++ (count_line (codes "steps") steps
    ++ count_line (codes "bytes") bytes)))))

-- a run that came to its end gives the counts; any other gives what `run` gives of it
abbrev pub RunGives : Counts → meaning.End → ℕ → List ℕ → ℕ → List ℕ → List ℕ → Type 0
RunGives counts meaning.Ended steps bytes = GivesReply 0 (summary counts steps (length bytes)) []
RunGives counts (meaning.Faulted kind) steps bytes = EndGives (meaning.Faulted kind) bytes
RunGives counts meaning.Going steps bytes = EndGives meaning.Going bytes
RunGives counts meaning.Wrong steps bytes = EndGives meaning.Wrong bytes
RunGives counts meaning.Escaped steps bytes = EndGives meaning.Escaped bytes

-- what the outcome of the written program's run gives, with the counts of its analysis
abbrev pub OutcomeGives : Counts → meaning.Outcome → ℕ → List ℕ → List ℕ → Type 0
OutcomeGives counts outcome = RunGives counts outcome.end (made_steps - outcome.left) outcome.out

-- what the run of the written program without words gives
abbrev pub WrittenGives : Counts → Program → ℕ → List ℕ → List ℕ → Type 0
WrittenGives counts program = OutcomeGives counts (meant (program_of program) [] made_steps)

-- the hierarchy of the lattice is brought into a tree, the program of the tree is written, and what is written is read and run
pub record IsMade (program : Program) (facts : Facts) (status : ℕ) (out err : List ℕ) : Type 0 where
  pub has : HasLattice usual_concepts facts
  pub log : List TreeStep
  pub tree : Hierarchy
  pub is : IsTreeOf facts has.sets (start_of usual_concepts facts has) log tree
  pub text : List ℕ
  pub written : IsWrittenText program facts tree text
  pub answers : MadeTextAnswers (WrittenGives (counts_of facts has.lattice tree log)) text status out err

-- the answers of `make` for the program of a sample and its facts
abbrev pub MadeOf : Program → Facts → ℕ → List ℕ → List ℕ → Type 0
MadeOf program facts status out err = IsOverBound usual_concepts facts status out err ⊎ IsMade program facts status out err

-- what comes of the text of a sample
abbrev pub SampleAnswers : List ℕ → ℕ → List ℕ → List ℕ → Type 0
SampleAnswers text = MadeTextAnswers (λ program. AnalysisAnswers (MadeOf program) program) text

-- the text of the sample, or what comes of it
abbrev pub MakeAnswers : Bool → ℕ → ℕ → List ℕ → List ℕ → Type 0
MakeAnswers true number = GivesReply 0 (sample_text number) []
MakeAnswers false number = SampleAnswers (sample_text number)
