-- Believed. What Kaba promises of its analysis and of the programs that it writes, without the answers around it.
use Rattle.std.specs.Prelude.{◌≡◌, ◌⊎◌, ℕ, ◌≤◌, Bool, false, List, [], ◌∷◌, ◌++◌, codes, length, Option, Some, None, Ok, Err}
use Rattle.kaba_base.specs.Outside.{Files, taken_more}
use Rattle.java_tree.specs.Syntax.{DeclTree}
use Rattle.java_lex.specs.declared.Token.{Token}
use Rattle.java_lex.specs.Lexing.{tokens_of}
use Rattle.java_tree.specs.Nesting.{nesting_of}
use Rattle.java_tree.specs.Declarations.{Derives}
use Rattle.java_tree.specs.Makers.{has_maker}
use Rattle.java_core.specs.declared.Program.{Program}
use Rattle.java_core.specs.Programs.{Plain, program_of}
use Rattle.java_core.specs.Untagged.{untagged}
use Rattle.java_core.specs.Typing.{IsTyped}
use Rattle.name_rules.specs.Resolves.{Resolves}
use Rattle.fact_model.specs.declared.facts.Facts.{Facts}
use Rattle.fact_model.specs.declared.sets.Table.{Table}
use Rattle.fact_model.specs.declared.sets.Lattice.{Lattice}
use Rattle.fact_model.specs.declared.sets.PointsTo.{PointsTo}
use Rattle.fact_model.specs.Entries.{IsTable}
use Rattle.fact_model.specs.Concepts.{IsLatticeOf}
use Rattle.fact_model.specs.Flowing.{AreSets}
use Rattle.stem_base.specs.Base.{Sides, IsBaseOf}
use Rattle.stem_base.specs.Text.{base_text}
use Rattle.why_table.specs.declared.trail.Trail.{Trail}
use Rattle.why_table.specs.Found.{HasEntry, IsTrailOf}
use Rattle.why_table.specs.Text.{trail_text}
use Rattle.sure_report.specs.declared.Sure.{Sure}
use Rattle.sure_report.specs.Report.{IsSureReport}
use Rattle.sure_report.specs.Text.{sure_text}
use Rattle.sure_laws.specs.Laws.{IsTrueOfRuns}
use Rattle.hier_model.specs.Hierarchies.{Hierarchy}
use Rattle.hier_model.specs.Edits.{changed}
use Rattle.hier_model.specs.Start.{start_from}
use Rattle.hier_model.specs.declared.edits.Edit.{Edit}
use Rattle.hier_model.specs.declared.edits.Act.TheVariants as acts
use Rattle.hier_model.specs.declared.edits.ChangeFault.{ChangeFault}
use Rattle.hier_rules.specs.declared.broken.Broken.{Broken}
use Rattle.hier_rules.specs.First.{first_of_edit, first_broken}
use Rattle.hier_edit.specs.Applied.{fault_of}
use Rattle.hier_edit.specs.declared.ApplyFault.TheVariants.{Breaks}
use Rattle.hier_view.specs.Text.{hierarchy_text}
use Rattle.hier_script.specs.Refusals.{refusal_line, no_undo_line}
use Rattle.hier_tree.specs.Trees.{Tree, Stuck, Grows}
use Rattle.tree_merge.specs.declared.steps.TreeStep.{TreeStep}
use Rattle.tree_merge.specs.declared.trees.NoTree.{NoTree}
use Rattle.tree_merge.specs.Logs.{steps_of}
use Rattle.kaba_top.specs.Logs.{log_text, no_tree_text}
use Rattle.edit_script.specs.declared.lines.Line.{Line}
use Rattle.edit_script.specs.Script.{AreEditsOf}
use Rattle.rebuild_model.specs.OnePrograms.{AreOne}
use Rattle.rebuild_model.specs.Rebuilds.{Rebuilds}
use Rattle.rebuild_laws.specs.types.Rows.{OffersRows}
use Rattle.rebuild_laws.specs.runs.Same.{HasSameRun}
use Rattle.kaba_words.specs.Commands.{Cmd, run, table, lattice, base, why, sure, same, edit, regen, make, help, version, Fits}
use Rattle.kaba_top.specs.TextPrograms.{IsTypedText, most_nesting}
use Rattle.kaba_top.specs.TextFacts.{HasTextFacts, shown}
use Rattle.kaba_top.specs.Agreement.{Agrees}
use Rattle.kaba_top.specs.Fresh.{DeclaresNoInterface, AreDropsAndFreshNames}

-- the facts of the program of a text, the least table closed under the rules, and its concept lattice
pub record IsAnalysis (bytes : List ℕ) (program : Program) (facts : Facts) (table : Table) (lattice : Lattice) : Type 0 where
  pub text : IsTypedText bytes (program_of program)
  pub facts_are : HasTextFacts (program_of program) facts
  pub least : IsTable facts table
  pub concepts : IsLatticeOf table lattice

-- the lattice shown is that one
pub record ShowsLattice (json : Bool) (bytes out : List ℕ) : Type 0 where
  pub program : Program
  pub facts : Facts
  pub table : Table
  pub lattice : Lattice
  pub is : IsAnalysis bytes program facts table lattice
  pub shown_is : out ≡ shown json facts lattice

-- the implications shown are a base of those of the least table: each holds there, and a set of columns is closed under them exactly where it is
-- all that the rows with its columns have in common; and no list of which that holds is shorter
pub record ShowsBase (bytes out : List ℕ) : Type 0 where
  pub program : Program
  pub facts : Facts
  pub table : Table
  pub implications : List Sides
  pub text : IsTypedText bytes (program_of program)
  pub facts_are : HasTextFacts (program_of program) facts
  pub least : IsTable facts table
  pub is : IsBaseOf table.rows.items table.width implications
  pub none_shorter : (other : List Sides) → IsBaseOf table.rows.items table.width other → length implications ≤ length other
  pub shown_is : out ≡ base_text implications

-- the row has the column in the least table, and the steps shown are a trail to that: each follows from earlier ones by its rule
pub record ShowsTrail (row column : ℕ) (bytes out : List ℕ) : Type 0 where
  pub program : Program
  pub facts : Facts
  pub trail : Trail
  pub text : IsTypedText bytes (program_of program)
  pub facts_are : HasTextFacts (program_of program) facts
  pub holds : HasEntry facts row column
  pub is : IsTrailOf facts (record { 0 = row }) (record { 0 = column }) trail.steps.items
  pub shown_is : out ≡ trail_text trail.steps.items

-- the report on the facts and their points-to sets is shown, and it is true of every run: for all words and every bound on the steps no cast that is
-- sure fails, a call runs only bodies that are told of it, and no run enters a body or touches a field that is dead
pub record ShowsSure (bytes out : List ℕ) : Type 0 where
  pub program : Program
  pub facts : Facts
  pub sets : PointsTo
  pub report : Sure
  pub text : IsTypedText bytes (program_of program)
  pub facts_are : HasTextFacts (program_of program) facts
  pub sets_are : AreSets facts sets
  pub is : IsSureReport facts sets report
  pub true_of_runs : IsTrueOfRuns (program_of program) facts report
  pub shown_is : out ≡ sure_text facts report

-- the programs of two texts are one, and have for all words and every bound on the steps the same output, end and steps
pub record IsSameProgram (bytes others : List ℕ) : Type 0 where
  pub program : Program
  pub other : Program
  pub text : IsTypedText bytes (program_of program)
  pub other_text : IsTypedText others (program_of other)
  pub one : AreOne (program_of program) (program_of other)
  pub same : HasSameRun (program_of program) (program_of other)

module _ (F : Facts) (pt : PointsTo) where
  -- edits and undos one after the other, from a hierarchy and those before its edits, the last one first, to the hierarchy that they leave, with what
  -- is told of those that are refused
  pub data AreJudged : Hierarchy → List Hierarchy → List Line → Hierarchy → List ℕ → Type 0 where
    none : {H : Hierarchy} {past : List Hierarchy} → AreJudged H past [] H []
    -- an edit is made where the edited hierarchy breaks none of the obligations
    made : {H K New : Hierarchy} {past : List Hierarchy} {line : Line} {lines : List Line} {told : List ℕ} {e : Edit} → line.act ≡ acts.Edit e
        → changed F H e ≡ Ok K → first_of_edit F pt K ≡ None → AreJudged K (H ∷ past) lines New told → AreJudged H past (line ∷ lines) New told
    -- and refused where it breaks one, of which the first instance is told; then nothing changes
    breaks : {H K New : Hierarchy} {past : List Hierarchy} {line : Line} {lines : List Line} {b : Broken} {told : List ℕ} {e : Edit}
        → line.act ≡ acts.Edit e → changed F H e ≡ Ok K → first_of_edit F pt K ≡ Some b → AreJudged H past lines New told
        → AreJudged H past (line ∷ lines) New (refusal_line line.number (Breaks b) ++ told)
    -- or where it names what is not there, drops what is used, or leaves no order
    unmade : {H New : Hierarchy} {past : List Hierarchy} {line : Line} {lines : List Line} {fault : ChangeFault} {told : List ℕ} {e : Edit}
        → line.act ≡ acts.Edit e → changed F H e ≡ Err fault → AreJudged H past lines New told
        → AreJudged H past (line ∷ lines) New (refusal_line line.number (fault_of fault) ++ told)
    -- an undo brings back the hierarchy before the last edit that was made and not taken back
    undone : {H K New : Hierarchy} {past : List Hierarchy} {line : Line} {lines : List Line} {told : List ℕ} → line.act ≡ acts.Undo
        → AreJudged K past lines New told → AreJudged H (K ∷ past) (line ∷ lines) New told
    -- and is refused where there is none
    none_left : {H New : Hierarchy} {line : Line} {lines : List Line} {told : List ℕ} → line.act ≡ acts.Undo → AreJudged H [] lines New told
        → AreJudged H [] (line ∷ lines) New (no_undo_line line.number ++ told)

-- the edits of the script, each so judged, from the hierarchy that the lattice proposes
pub record JudgesEdits (bytes script : List ℕ) (program : Program) (facts : Facts) (sets : PointsTo) (after : Hierarchy) (told : List ℕ) : Type 0 where
  pub table : Table
  pub lattice : Lattice
  pub is : IsAnalysis bytes program facts table lattice
  pub sets_are : AreSets facts sets
  pub edits : List Line
  pub are : AreEditsOf script edits
  pub judged : AreJudged facts sets (start_from facts table lattice) [] edits after told

-- the tokens of what is written derive a tree without a constructor that resolves to a typed program; it rebuilds the old one over the hierarchy,
-- offers each row its columns, and has for all words and every bound on the steps the same output, end and steps
pub record IsRebuilt (program : Program) (facts : Facts) (H : Hierarchy) (text : List ℕ) : Type 0 where
  pub tree : List DeclTree
  pub tokens : List Token
  pub lexed : tokens_of text ≡ Ok tokens
  pub derives : Derives tokens tree
  pub makerless : has_maker tree ≡ false
  pub new : Program
  pub resolves : Resolves tree (program_of new)
  pub typed : IsTyped (program_of new)
  pub rebuilds : Rebuilds (program_of program) facts H (program_of new)
  pub offers : OffersRows (program_of program) facts H (program_of new) rebuilds.places
  pub same : HasSameRun (program_of program) (program_of new)
  -- where the tokens nest as deep as a file's may, and no deeper, the text is that of a typed program, as a file's text has to be
  pub taken : nesting_of tokens ≤ most_nesting → (again : Plain) × IsTypedText text again
  -- whatever program the text is read as, again from a file, is the one above, places aside, and has the same run
  pub one : (again : Plain) → IsTypedText text again → program_of new ≡ untagged again
  pub same_again : (again : Plain) → IsTypedText text again → HasSameRun (program_of program) again

-- the script's edits are judged, and the hierarchy that they leave is shown
pub record TellsEdits (bytes script out err : List ℕ) : Type 0 where
  pub program : Program
  pub facts : Facts
  pub sets : PointsTo
  pub after : Hierarchy
  pub judges : JudgesEdits bytes script program facts sets after err
  pub shows : out ≡ hierarchy_text facts after

-- the text written is that of a program over the tree of the hierarchy that they leave, and the steps to the tree are told behind the refusals
pub record WritesProgram (bytes script out err : List ℕ) : Type 0 where
  pub program : Program
  pub facts : Facts
  pub sets : PointsTo
  pub after : Hierarchy
  pub told : List ℕ
  pub judges : JudgesEdits bytes script program facts sets after told
  pub log : List TreeStep
  pub tree : Hierarchy
  pub grows : Grows facts sets after (steps_of log) (Tree tree)
  pub unbroken : first_broken facts sets tree ≡ None
  pub rebuilt : IsRebuilt program facts tree out
  pub tells : err ≡ told ++ log_text log

-- the steps from the hierarchy that the edits leave end at a conflict, which is told behind them, and no program is written: the old one declares
-- an interface, or the edits do more than drop nodes and give names that nothing bears
pub record FindsNoTree (bytes script out err : List ℕ) : Type 0 where
  pub program : Program
  pub facts : Facts
  pub sets : PointsTo
  pub after : Hierarchy
  pub told : List ℕ
  pub judges : JudgesEdits bytes script program facts sets after told
  pub more : DeclaresNoInterface program → AreDropsAndFreshNames facts sets (start_from facts judges.table judges.lattice) judges.edits → ⊥
  pub fault : NoTree
  pub last : Hierarchy
  pub grows : Grows facts sets after (steps_of fault.log.items) (Stuck last fault.conflict fault.broken)
  pub nothing : out ≡ []
  pub tells : err ≡ told ++ (log_text fault.log.items ++ (codes "kaba: " ++ (no_tree_text fault ++ 10 ∷ [])))

-- a file's bytes, of which this holds
pub record OfFile (files : Files) (file : List ℕ) (K : List ℕ → Type 0) : Type 0 where
  pub bytes : List ℕ
  pub there : files file ≡ Some bytes
  pub holds : K bytes

-- what is promised of each command
abbrev pub Promises : Cmd → Files → Files → ℕ → List ℕ → List ℕ → Type 0
Promises (lattice json bound file) first second status out err = status ≡ 0 → OfFile first file (λ bytes. ShowsLattice json bytes out)
Promises (base file) first second status out err = status ≡ 0 → OfFile first file (λ bytes. ShowsBase bytes out)
Promises (why file row column) first second status out err = status ≡ 0 → OfFile first file (λ bytes. ShowsTrail row column bytes out)
Promises (sure file) first second status out err = status ≡ 0 → OfFile first file (λ bytes. ShowsSure bytes out)
Promises (same file other) first second status out err = status ≡ 0 → OfFile first file (λ bytes. OfFile second other (λ others. IsSameProgram bytes others))
Promises (edit bound file script) first second status out err = (status ≡ 0) ⊎ (status ≡ 4)
    → OfFile first file (λ bytes. OfFile second script (λ lines. TellsEdits bytes lines out err))
Promises (regen bound file script) first second status out err =
    ((status ≡ 0) ⊎ (status ≡ 4) → OfFile first file (λ bytes. OfFile second script (λ lines. WritesProgram bytes lines out err)))
    × (status ≡ 5 → OfFile first file (λ bytes. OfFile second script (λ lines. FindsNoTree bytes lines out err)))
Promises (run file steps words) first second status out err = Unit {0}
Promises (table file) first second status out err = Unit {0}
Promises (make prints number) first second status out err = Unit {0}
Promises help first second status out err = Unit {0}
Promises version first second status out err = Unit {0}

-- the words say a command, of which what is promised holds, for files that agree with what the shelf tells
pub record IsPromised (told : Option Files) (words : List (List ℕ)) (status : ℕ) (out err : List ℕ) : Type 0 where
  pub command : Cmd
  pub fits : Fits words command
  pub first : Files
  pub second : Files
  pub first_agrees : Agrees told first
  pub second_agrees : Agrees told second
  pub promise : Promises command first second status out err

-- the sinks took the whole bytes for out and for err, and what is promised of them holds
pub record Kept (told : Option Files) (words : List (List ℕ)) (status : ℕ) (out_before out_now err_before err_now : Option (List ℕ)) : Type 0 where
  pub out : List ℕ
  pub err : List ℕ
  pub promised : IsPromised told words status out err
  pub out_taken : out_now ≡ taken_more out_before out
  pub err_taken : err_now ≡ taken_more err_before err
