-- What is promised follows from the answers.
use Rattle.std.proofs.Common.{◌≡◌, ◌⊎◌, inl, inr, ℕ, Bool, ◌==◌, true, false, List, length, if◌then◌else◌, Option, sym, ap, ◌∙◌, subst, arith, ⊎_elim}
use Rattle.kaba_base.specs.Outside.{Files}
use Rattle.java_tree.specs.Syntax.{DeclTree}
use Rattle.java_tree.specs.Places.{unplaced}
use Rattle.java_tree.specs.Formed.{IsGiven}
use Rattle.java_core.specs.declared.Program.{Program}
use Rattle.java_core.specs.Programs.{Plain, program_of}
use Rattle.java_core.specs.Untagged.{untagged}
use Rattle.name_rules.specs.Resolves.{Resolves}
use Rattle.name_rules.specs.Causes.{HasNoCondition}
use Rattle.fact_model.specs.declared.facts.Facts.{Facts}
use Rattle.fact_model.specs.declared.sets.PointsTo.{PointsTo}
use Rattle.hier_model.specs.Hierarchies.{Hierarchy}
use Rattle.hier_script.specs.Scripts.{unedited}
use Rattle.edit_script.specs.declared.lines.Line.{Line}
use Rattle.edit_script.specs.Script.{AreEditsOf}
use Rattle.java_write.specs.Written.{IsWrittenText, tree_of_hierarchy}
use Rattle.kaba_words.specs.Commands.{Cmd, run, table, lattice, base, why, sure, same, edit, regen, make, help, version}
use Rattle.stem_base.proofs.Laws.{are_a_base, none_shorter}
use Rattle.java_meaning.proofs.UntaggedRuns.{same_aside}
use Rattle.write_model.proofs.Nowhere.{without_places}
use Rattle.write_model.proofs.NoMaker as written
use Rattle.name_place_laws.specs.Laws.{HasNoPlaces}
use Rattle.name_place_laws.proofs.Whole.{has_no_places}
use Rattle.sure_laws.specs.Laws.{IsTrueOfRuns, ReportsAreTrue}
use Rattle.sure_laws.proofs.Sure.{reports_true}
use Rattle.sure_report.specs.declared.Sure.{Sure}
use Rattle.sure_report.specs.Report.{IsSureReport}
use Rattle.fact_model.specs.Flowing.{AreSets}
use Rattle.flow_rules.specs.Facts.{IsFactsOf}
use Rattle.kaba_top.proofs.Judging.{judged}
use Rattle.kaba_top.proofs.ReadsOne.{reads_one}
use Rattle.kaba_top.proofs.TakenAgain.{taken_again}
use Rattle.kaba_top.specs.TextPrograms.{IsTypedText}
use Rattle.kaba_top.specs.Lines.{line}
use Rattle.kaba_top.specs.Reading.{IsRefusedText, TextAnswers}
use Rattle.kaba_top.specs.TextFacts.{HasTextFacts}
use Rattle.kaba_top.specs.FactsAnswers.{HasFacts, AnalysisAnswers, LatticeOf}
use Rattle.kaba_top.specs.BaseAnswers.{BaseOf}
use Rattle.kaba_top.specs.WhyAnswers.{WhyOf}
use Rattle.kaba_top.specs.SureAnswers.{SureOf}
use Rattle.kaba_top.specs.SameAnswers.{SameOf}
use Rattle.java_core.specs.Formed.{IsFormed}
use Rattle.java_core.specs.Typing.{IsTyped}
use Rattle.rebuild_model.specs.OnePrograms.{AreOne}
use Rattle.rebuild_laws.specs.runs.Same.{HasSameRun, OneRunsTheSame}
use Rattle.rebuild_laws.proofs.one.Whole.{one_runs_the_same}
use Rattle.kaba_top.specs.ScriptAnswers.{HasLattice, IsRun, ScriptAnswers, start_of, edited, refusals}
use Rattle.kaba_top.specs.EditAnswers.{EditOf, ShowsHierarchy}
use Rattle.kaba_top.specs.RegenAnswers.{IsRegeneration, RegenOf}
use Rattle.kaba_top.specs.Answers.{FileAnswers, NamedAnswers, EditAnswers, RegenAnswers, CommandAnswers, Replies}
use Rattle.kaba_top.specs.Promise.{ShowsLattice, ShowsBase, ShowsTrail, ShowsSure, IsSameProgram, JudgesEdits, IsRebuilt, TellsEdits, WritesProgram, FindsNoTree, OfFile, Promises, IsPromised}

-- programs that are one have the same run
runs_alike : (P Q : Plain) → IsFormed P → IsTyped P → IsFormed Q → AreOne P Q → HasSameRun P Q
unfolding OneRunsTheSame
runs_alike = one_runs_the_same

-- what is sure by the report is so in each run
reported : (P : Plain) (F : Facts) (t : PointsTo) (r : Sure) → IsFormed P → IsTyped P → IsFactsOf P F → AreSets F t → IsSureReport F t r
    → IsTrueOfRuns P F r
unfolding ReportsAreTrue
reported = reports_true

-- what is known of the facts of a program tells which facts they are
text_facts : (p : Program) (F : Facts) → HasFacts p F → HasTextFacts (program_of p) F
text_facts p F facts = record { within = facts.within; is = facts.is; names = facts.names }

-- each edit was made, or refused
abbrev pub IsJudging : ℕ → Type 0
IsJudging status = (status ≡ 0) ⊎ (status ≡ 4)

-- no other status than 0 and 4
other : (n status : ℕ) → (n ≡ 0 → ⊥) → (n ≡ 4 → ⊥) → status ≡ n → IsJudging status → ⊥
other n status no_zero no_four e (inl z) = no_zero (sym e ∙ z)
other n status no_zero no_four e (inr f) = no_four (sym e ∙ f)

not_one : {status : ℕ} → status ≡ 1 → IsJudging status → ⊥
not_one {status} e j = other 1 status (omega arith) (omega arith) e j

refused : (bytes : List ℕ) (status : ℕ) (out err : List ℕ) → IsJudging status → IsRefusedText bytes status out err → ⊥
unfolding IsRefusedText
refused bytes status out err j (inl a) = other 65 status (omega arith) (omega arith) a.says.status_is j
refused bytes status out err j (inr (inl a)) = other 65 status (omega arith) (omega arith) a.says.status_is j
refused bytes status out err j (inr (inr (inl a))) = other 65 status (omega arith) (omega arith) a.says.status_is j
refused bytes status out err j (inr (inr (inr (inl a)))) = other 65 status (omega arith) (omega arith) a.says.status_is j
refused bytes status out err j (inr (inr (inr (inr a)))) = other 65 status (omega arith) (omega arith) a.says.status_is j

module _ (status : ℕ) (out err : List ℕ) (j : IsJudging status) where
  in_file : (K : List ℕ → ℕ → List ℕ → List ℕ → Type 0) (P : List ℕ → Type 0) (files : Files) (file : List ℕ)
      → ((bytes : List ℕ) → K bytes status out err → P bytes)
      → FileAnswers K files file status out err → OfFile files file P
  in_file K P files file f (inl a) = absurd (other 66 status (omega arith) (omega arith) a.says.status_is j)
  in_file K P files file f (inr (inl a)) = absurd (other 67 status (omega arith) (omega arith) a.says.status_is j)
  in_file K P files file f (inr (inr a)) = record { bytes = a.bytes; there = a.there; holds = f a.bytes a.answers }

  in_text : (K : Program → ℕ → List ℕ → List ℕ → Type 0) (R : Type 0) (bytes : List ℕ) → ((p : Program) → IsTypedText bytes (program_of p)
      → K p status out err → R)
      → TextAnswers K bytes status out err → R
  in_text K R bytes f (inl a) = absurd (refused bytes status out err j a)
  in_text K R bytes f (inr a) = f a.program a.is a.answers

  in_facts : (J : Facts → ℕ → List ℕ → List ℕ → Type 0) (R : Type 0) (p : Program) → ((F : Facts) → HasFacts p F → J F status out err → R)
      → AnalysisAnswers J p status out err → R
  in_facts J R p f (inl a) = absurd (other 67 status (omega arith) (omega arith) a.says.status_is j)
  in_facts J R p f (inr a) = f a.facts a.has a.answers

  in_run : (bound : ℕ) (script : List ℕ) (F : Facts) (A : HasLattice bound F → List Line → ℕ → List ℕ → List ℕ → Type 0) (R : Type 0)
      → (IsRun bound script F A status out err → R) → ScriptAnswers bound script F A status out err → R
  in_run bound script F A R f (inl (inl a)) = absurd (other 68 status (omega arith) (omega arith) a.many.says.status_is j)
  in_run bound script F A R f (inl (inr a)) = elim a.fault as (λ _. R) [
    | inl bad ↦ absurd (other 69 status (omega arith) (omega arith) bad.says.status_is j)
    | inr long ↦ absurd (other 67 status (omega arith) (omega arith) long.says.status_is j)
  ]
  in_run bound script F A R f (inr a) = f a

  lattice_shown : (json : Bool) (bound : ℕ) (bytes : List ℕ) (p : Program) → IsTypedText bytes (program_of p) → (F : Facts) → HasFacts p F
      → LatticeOf json bound F status out err → ShowsLattice json bytes out
  lattice_shown json bound bytes p text F facts a = elim a.answers as (λ _. ShowsLattice json bytes out) [
    | inl many ↦ absurd (other 68 status (omega arith) (omega arith) many.says.status_is j)
    | inr shown ↦ record {
      program = p;
      facts = F;
      table = a.table;
      lattice = shown.lattice;
      is = record { text = text; facts_are = text_facts p F facts; least = a.is; concepts = shown.is };
      shown_is = shown.gives.out_is;
    }
  ]

  base_shown : (bytes : List ℕ) (p : Program) → IsTypedText bytes (program_of p) → (F : Facts) → HasFacts p F → BaseOf F status out err
      → ShowsBase bytes out
  base_shown bytes p text F facts a = elim a.answers as (λ _. ShowsBase bytes out) [
    | inl many ↦ absurd (other 68 status (omega arith) (omega arith) many.says.status_is j)
    | inr few ↦ elim few.answers as (λ _. ShowsBase bytes out) [
      | inl many ↦ absurd (other 67 status (omega arith) (omega arith) many.says.status_is j)
      | inr shown ↦ record {
        program = p;
        facts = F;
        table = a.table;
        implications = shown.base;
        text = text;
        facts_are = text_facts p F facts;
        least = a.is;
        is = are_a_base a.table.rows.items a.table.width shown.base shown.is;
        none_shorter = λ other good. none_shorter a.table.rows.items a.table.width shown.base other shown.is good;
        shown_is = shown.gives.out_is;
      }
    ]
  ]

  in_named : (K : Program → ℕ → List ℕ → List ℕ → Type 0) (P : List ℕ → Type 0) (files : Files) (file : List ℕ)
      → ((bytes : List ℕ) (p : Program) → IsTypedText bytes (program_of p) → K p status out err → P bytes) → NamedAnswers K files file status out err
      → OfFile files file P
  in_named K P files file f (inl a) = absurd (other 66 status (omega arith) (omega arith) a.says.status_is j)
  in_named K P files file f (inr (inl a)) = absurd (other 67 status (omega arith) (omega arith) a.answers.says.status_is j)
  in_named K P files file f (inr (inr a)) = elim a.answers as (λ _. OfFile files file P) [
    | inl b ↦ absurd (refused a.bytes status out (line b.text) j b.answers)
    | inr b ↦ record { bytes = a.bytes; there = a.there; holds = f a.bytes b.program b.is b.answers }
  ]

  found_one : (file next : List ℕ) (bytes others : List ℕ) (p q : Program) → IsTypedText bytes (program_of p) → IsTypedText others (program_of q)
      → SameOf file next p q status out err → IsSameProgram bytes others
  found_one file next bytes others p q text again (inl b) = record {
    program = p;
    other = q;
    text = text;
    other_text = again;
    one = b.one;
    same = runs_alike (program_of p) (program_of q) text.formed text.typed again.formed b.one;
  }
  found_one file next bytes others p q text again (inr b) = absurd (not_one b.says.status_is j)

  trail_shown : (row column : ℕ) (bytes : List ℕ) (p : Program) → IsTypedText bytes (program_of p) → (F : Facts) → HasFacts p F
      → WhyOf row column F status out err → ShowsTrail row column bytes out
  trail_shown row column bytes p text F facts (inl absent) = absurd (other 71 status (omega arith) (omega arith) absent.says.status_is j)
  trail_shown row column bytes p text F facts (inr shown) = record {
    program = p;
    facts = F;
    trail = shown.trail;
    text = text;
    facts_are = text_facts p F facts;
    holds = shown.holds;
    is = shown.is;
    shown_is = shown.gives.out_is;
  }

  sure_shown : (bytes : List ℕ) (p : Program) → IsTypedText bytes (program_of p) → (F : Facts) → HasFacts p F → SureOf F status out err
      → ShowsSure bytes out
  sure_shown bytes p text F facts a = record {
    program = p;
    facts = F;
    sets = a.sets;
    report = a.report;
    text = text;
    facts_are = text_facts p F facts;
    sets_are = a.are_sets;
    is = a.is;
    true_of_runs = reported (program_of p) F a.sets a.report text.formed text.typed facts.is a.are_sets a.is;
    shown_is = a.gives.out_is;
  }

-- the edits of a run
abbrev judges : (bound : ℕ) (bytes script : List ℕ) (p : Program) (F : Facts) → IsTypedText bytes (program_of p) → HasFacts p F
    → (has : HasLattice bound F) (edits : List Line)
    → AreEditsOf script edits → JudgesEdits bytes script p F has.sets (edited bound F has edits) (refusals bound F has edits)
judges bound bytes script p F text facts has edits are = record {
  table = has.table;
  lattice = has.lattice;
  is = record { text = text; facts_are = text_facts p F facts; least = has.is_table; concepts = has.is_lattice };
  sets_are = has.are_sets;
  edits = edits;
  are = are;
  judged = judged F has.sets edits (unedited (start_of bound F has));
}

written_bare : (tree : List DeclTree) (P : Plain) → unplaced tree ≡ tree → IsGiven tree → HasNoCondition tree → Resolves tree P → untagged P ≡ P
unfolding HasNoPlaces
written_bare = has_no_places

rebuilt : (p : Program) (F : Facts) (H : Hierarchy) (text out : List ℕ) → out ≡ text → IsWrittenText p F H text → IsRebuilt p F H out
rebuilt p F H text out e w =
    let tree = tree_of_hierarchy p F H in
    let new = program_of w.new in
    let bare = written_bare tree new (without_places (program_of p) F H) (record { bytes = text; read = w.read }) w.none w.resolves in
    subst (IsRebuilt p F H) (sym e) (record {
      tree = tree;
      tokens = w.read.tokens;
      lexed = w.read.lexed;
      derives = w.read.derived;
      makerless = written.no_maker (program_of p) F H;
      new = w.new;
      resolves = w.resolves;
      typed = w.keeps.typed;
      rebuilds = w.keeps.rebuilds;
      offers = w.keeps.rows;
      same = w.keeps.run;
      taken = λ nested. taken_again text tree new w.read nested w.none w.resolves w.formed w.keeps.typed bare;
      one = λ again is. sym bare ∙ reads_one text tree new again w.read w.resolves is;
      same_again = λ again is.
          let same = same_aside new again (reads_one text tree new again w.read w.resolves is) in
          record {
            end = λ words n. w.keeps.run.end words n ∙ ap (λ o. o.end) (same words n);
            out = λ words n. w.keeps.run.out words n ∙ ap (λ o. o.out) (same words n);
            left = λ words n. w.keeps.run.left words n ∙ ap (λ o. o.left) (same words n);
          };
    })

module _ (status : ℕ) (out err : List ℕ) (j : IsJudging status) where
  edits_told : (bound : ℕ) (bytes script : List ℕ) (p : Program) → IsTypedText bytes (program_of p) → (F : Facts) → HasFacts p F
      → IsRun bound script F (ShowsHierarchy bound F) status out err
      → TellsEdits bytes script out err
  edits_told bound bytes script p text F facts a =
      let J = judges bound bytes script p F text facts a.has a.edits a.are in
      record {
        program = p;
        facts = F;
        sets = a.has.sets;
        after = edited bound F a.has a.edits;
        judges = subst
            (JudgesEdits bytes script p F a.has.sets (edited bound F a.has a.edits)) (sym a.answers.err_is) J;
        shows = a.answers.out_is;
      }

  text_written : (bound : ℕ) (bytes script : List ℕ) (p : Program) → IsTypedText bytes (program_of p) → (F : Facts) → HasFacts p F
      → IsRun bound script F (IsRegeneration p bound F) status out err
      → WritesProgram bytes script out err
  text_written bound bytes script p text F facts a = elim a.answers as (λ _. WritesProgram bytes script out err) [
    | inr w ↦ absurd (other 5 status (omega arith) (omega arith) w.gives.status_is j)
    | inl g ↦ record {
      program = p;
      facts = F;
      sets = a.has.sets;
      after = edited bound F a.has a.edits;
      told = refusals bound F a.has a.edits;
      judges = judges bound bytes script p F text facts a.has a.edits a.are;
      log = g.log;
      tree = g.tree;
      grows = g.is.grows;
      unbroken = g.is.unbroken;
      rebuilt = rebuilt p F g.tree g.text out g.gives.out_is g.written;
      tells = g.gives.err_is;
    }
  ]

  edit_promised : (bound : ℕ) (bytes script : List ℕ) → EditAnswers bound bytes script status out err → TellsEdits bytes script out err
  edit_promised bound bytes script a =
      in_text status out err j (AnalysisAnswers (EditOf bound script)) (TellsEdits bytes script out err) bytes
      (λ p text. in_facts status out err j (EditOf bound script) (TellsEdits bytes script out err) p
      (λ F facts. in_run status out err j bound script F (ShowsHierarchy bound F) (TellsEdits bytes script out err)
      (edits_told bound bytes script p text F facts)))
      a

  regen_promised : (bound : ℕ) (bytes script : List ℕ) → RegenAnswers bound bytes script status out err → WritesProgram bytes script out err
  regen_promised bound bytes script a =
      in_text status out err j (λ p. AnalysisAnswers (RegenOf bound script p) p) (WritesProgram bytes script out err) bytes
      (λ p text. in_facts status out err j (RegenOf bound script p) (WritesProgram bytes script out err) p
      (λ F facts. in_run status out err j bound script F (IsRegeneration p bound F) (WritesProgram bytes script out err)
      (text_written bound bytes script p text F facts)))
      a

-- a status of 5 is that of a conflict alone
module _ (status : ℕ) (out err : List ℕ) (z : status ≡ 5) where
  not_five : (n : ℕ) → (n ≡ 5 → ⊥) → status ≡ n → ⊥
  not_five n apart e = apart (sym e ∙ z)

  five_refused : (bytes : List ℕ) → IsRefusedText bytes status out err → ⊥
  unfolding IsRefusedText
  five_refused bytes (inl a) = not_five 65 (omega arith) a.says.status_is
  five_refused bytes (inr (inl a)) = not_five 65 (omega arith) a.says.status_is
  five_refused bytes (inr (inr (inl a))) = not_five 65 (omega arith) a.says.status_is
  five_refused bytes (inr (inr (inr (inl a)))) = not_five 65 (omega arith) a.says.status_is
  five_refused bytes (inr (inr (inr (inr a)))) = not_five 65 (omega arith) a.says.status_is

  no_done : (none : Bool) → status ≡ (if none then 0 else 4) → ⊥
  no_done true e = not_five 0 (omega arith) e
  no_done false e = not_five 4 (omega arith) e

  no_tree : (bound : ℕ) (bytes script : List ℕ) (p : Program) → IsTypedText bytes (program_of p) → (F : Facts) → HasFacts p F
      → IsRun bound script F (IsRegeneration p bound F) status out err → FindsNoTree bytes script out err
  no_tree bound bytes script p text F facts a = elim a.answers as (λ _. FindsNoTree bytes script out err) [
    | inl g ↦ absurd (no_done (length (refusals bound F a.has a.edits) == 0) g.gives.status_is)
    | inr w ↦ record {
      program = p;
      facts = F;
      sets = a.has.sets;
      after = edited bound F a.has a.edits;
      told = refusals bound F a.has a.edits;
      judges = judges bound bytes script p F text facts a.has a.edits a.are;
      more = w.more;
      fault = w.fault;
      last = w.ends.last;
      grows = w.ends.grows;
      nothing = w.gives.out_is;
      tells = w.gives.err_is;
    }
  ]

  five_run : (bound : ℕ) (bytes script : List ℕ) (p : Program) → IsTypedText bytes (program_of p) → (F : Facts) → HasFacts p F
      → RegenOf bound script p F status out err → FindsNoTree bytes script out err
  five_run bound bytes script p text F facts (inl (inl a)) = absurd (not_five 68 (omega arith) a.many.says.status_is)
  five_run bound bytes script p text F facts (inl (inr a)) = elim a.fault as (λ _. FindsNoTree bytes script out err) [
    | inl bad ↦ absurd (not_five 69 (omega arith) bad.says.status_is)
    | inr long ↦ absurd (not_five 67 (omega arith) long.says.status_is)
  ]
  five_run bound bytes script p text F facts (inr a) = no_tree bound bytes script p text F facts a

  in_script : (bound : ℕ) (bytes script : List ℕ) → RegenAnswers bound bytes script status out err → FindsNoTree bytes script out err
  in_script bound bytes script (inl a) = absurd (five_refused bytes a)
  in_script bound bytes script (inr a) = elim a.answers as (λ _. FindsNoTree bytes script out err) [
    | inl m ↦ absurd (not_five 67 (omega arith) m.says.status_is)
    | inr b ↦ five_run bound bytes script a.program a.is b.facts b.has b.answers
  ]

  in_five : (K : List ℕ → ℕ → List ℕ → List ℕ → Type 0) (P : List ℕ → Type 0) (files : Files) (file : List ℕ)
      → ((bytes : List ℕ) → K bytes status out err → P bytes) → FileAnswers K files file status out err → OfFile files file P
  in_five K P files file f (inl a) = absurd (not_five 66 (omega arith) a.says.status_is)
  in_five K P files file f (inr (inl a)) = absurd (not_five 67 (omega arith) a.says.status_is)
  in_five K P files file f (inr (inr a)) = record { bytes = a.bytes; there = a.there; holds = f a.bytes a.answers }

  without_tree : (bound : ℕ) (file script : List ℕ) (first second : Files) → CommandAnswers (regen bound file script) first second status out err
      → OfFile first file (λ bytes. OfFile second script (λ lines. FindsNoTree bytes lines out err))
  without_tree bound file script first second a =
      in_five (λ bytes. FileAnswers (RegenAnswers bound bytes) second script)
      (λ bytes. OfFile second script (λ lines. FindsNoTree bytes lines out err)) first file
      (λ bytes. in_five (RegenAnswers bound bytes) (λ lines. FindsNoTree bytes lines out err) second script (in_script bound bytes)) a

-- what is promised of a command
command_promised : (c : Cmd) (first second : Files) (status : ℕ) (out err : List ℕ) → CommandAnswers c first second status out err
    → Promises c first second status out err
command_promised (lattice json bound file) first second status out err a = λ z.
    in_file status out err (inl z) (TextAnswers (AnalysisAnswers (LatticeOf json bound))) (λ bytes. ShowsLattice json bytes out) first file
    (λ bytes. in_text status out err (inl z) (AnalysisAnswers (LatticeOf json bound)) (ShowsLattice json bytes out) bytes
    (λ p text. in_facts status out err (inl z) (LatticeOf json bound) (ShowsLattice json bytes out) p
    (lattice_shown status out err (inl z) json bound bytes p text)))
    a
command_promised (base file) first second status out err a = λ z.
    in_file status out err (inl z) (TextAnswers (AnalysisAnswers BaseOf)) (λ bytes. ShowsBase bytes out) first file
    (λ bytes. in_text status out err (inl z) (AnalysisAnswers BaseOf) (ShowsBase bytes out) bytes
    (λ p text. in_facts status out err (inl z) BaseOf (ShowsBase bytes out) p (base_shown status out err (inl z) bytes p text)))
    a
command_promised (why file row column) first second status out err a = λ z.
    in_file status out err (inl z) (TextAnswers (AnalysisAnswers (WhyOf row column))) (λ bytes. ShowsTrail row column bytes out) first file
    (λ bytes. in_text status out err (inl z) (AnalysisAnswers (WhyOf row column)) (ShowsTrail row column bytes out) bytes
    (λ p text. in_facts status out err (inl z) (WhyOf row column) (ShowsTrail row column bytes out) p
    (trail_shown status out err (inl z) row column bytes p text)))
    a
command_promised (sure file) first second status out err a = λ z.
    in_file status out err (inl z) (TextAnswers (AnalysisAnswers SureOf)) (λ bytes. ShowsSure bytes out) first file
    (λ bytes. in_text status out err (inl z) (AnalysisAnswers SureOf) (ShowsSure bytes out) bytes
    (λ p text. in_facts status out err (inl z) SureOf (ShowsSure bytes out) p (sure_shown status out err (inl z) bytes p text)))
    a
command_promised (same file other) first second status out err a = λ z.
    in_named status out err (inl z) (λ p. NamedAnswers (SameOf file other p) second other)
    (λ bytes. OfFile second other (λ others. IsSameProgram bytes others)) first file
    (λ bytes p text. in_named status out err (inl z) (SameOf file other p) (λ others. IsSameProgram bytes others) second other
    (λ others q again. found_one status out err (inl z) file other bytes others p q text again))
    a
command_promised (edit bound file script) first second status out err a = λ j.
    in_file status out err j (λ bytes. FileAnswers (EditAnswers bound bytes) second script)
    (λ bytes. OfFile second script (λ lines. TellsEdits bytes lines out err)) first file
    (λ bytes. in_file status out err j (EditAnswers bound bytes) (λ lines. TellsEdits bytes lines out err) second script
    (edit_promised status out err j bound bytes))
    a
command_promised (regen bound file script) first second status out err a = (
  (λ j.
      in_file status out err j (λ bytes. FileAnswers (RegenAnswers bound bytes) second script)
      (λ bytes. OfFile second script (λ lines. WritesProgram bytes lines out err)) first file
      (λ bytes. in_file status out err j (RegenAnswers bound bytes) (λ lines. WritesProgram bytes lines out err) second script
      (regen_promised status out err j bound bytes))
      a),
  (λ z. without_tree status out err z bound file script first second a),
)
command_promised (run file steps words) first second status out err a = tt
command_promised (table file) first second status out err a = tt
command_promised (make prints number) first second status out err a = tt
command_promised help first second status out err a = tt
command_promised version first second status out err a = tt

-- the statuses of which something is promised
abbrev IsTold : ℕ → Type 0
IsTold status = (status ≡ 0) ⊎ ((status ≡ 4) ⊎ (status ≡ 5))

not_told : (n status : ℕ) → (n ≡ 0 → ⊥) → (n ≡ 4 → ⊥) → (n ≡ 5 → ⊥) → status ≡ n → IsTold status → ⊥
not_told n status no_zero no_four no_five e (inl z) = no_zero (sym e ∙ z)
not_told n status no_zero no_four no_five e (inr (inl z)) = no_four (sym e ∙ z)
not_told n status no_zero no_four no_five e (inr (inr z)) = no_five (sym e ∙ z)

pub promised : (told : Option Files) (before now : ℕ) (words : List (List ℕ)) (status : ℕ) (out err : List ℕ) → IsTold status
    → Replies told before now words status out err
    → IsPromised told words status out err
promised told before now words status out err j (inl a) = elim a.answers as (λ _. IsPromised told words status out err) [
  | inl usage ↦ absurd (not_told 64 status (omega arith) (omega arith) (omega arith) usage.says.status_is j)
  | inr c ↦ record {
    command = c.command;
    fits = c.fits;
    first = a.first;
    second = a.second;
    first_agrees = a.first_agrees;
    second_agrees = a.second_agrees;
    promise = command_promised c.command a.first a.second status out err c.answers;
  }
]
promised told before now words status out err j (inr u) = absurd (not_told 66 status (omega arith) (omega arith) (omega arith) u.unread.fault.says.status_is j)
