-- The statuses of want of memory and of a failed write are no reply's.
use Rattle.std.proofs.Common.{◌≡◌, inl, inr, ℕ, ◌-◌, ◌++◌, Bool, ◌==◌, true, false, List, [], length, Option, if◌then◌else◌, arith, ⊎_elim}
use Rattle.kaba_base.specs.Outside.{Files}
use Rattle.java_core.specs.declared.Program.{Program}
use Rattle.java_core.specs.Programs.{program_of}
use Rattle.java_meaning.specs.Moment as meaning
use Rattle.fact_model.specs.declared.facts.Facts.{Facts}
use Rattle.java_run.specs.Outcomes.{meant}
use Rattle.kaba_words.specs.Commands.{Cmd, run, table, lattice, base, why, sure, same, edit, regen, make, help, version}
use Rattle.kaba_top.specs.About.{help_text, version_text}
use Rattle.kaba_top.specs.Lines.{Says, GivesReply}
use Rattle.kaba_top.specs.Reading.{IsRefusedText, TextAnswers}
use Rattle.kaba_top.specs.RunAnswers.{EndGives, RunAnswers}
use Rattle.kaba_top.specs.FactsAnswers.{AnalysisAnswers, TableOf, LatticeOf}
use Rattle.kaba_top.specs.BaseAnswers.{BaseOf}
use Rattle.kaba_top.specs.WhyAnswers.{WhyOf}
use Rattle.kaba_top.specs.SureAnswers.{SureOf}
use Rattle.kaba_top.specs.SameAnswers.{SameOf}
use Rattle.hier_view.specs.Text.{hierarchy_text}
use Rattle.edit_script.specs.declared.lines.Line.{Line}
use Rattle.kaba_top.specs.Logs.{log_text}
use Rattle.kaba_top.specs.ScriptAnswers.{HasLattice, ScriptAnswers, edited, refusals}
use Rattle.kaba_top.specs.EditAnswers.{EditOf, ShowsHierarchy}
use Rattle.kaba_top.specs.RegenAnswers.{IsRegeneration, IsWithoutTree, RegenOf}
use Rattle.kaba_top.specs.MakeAnswers.{sample_text, MadeTextAnswers, RunGives, WrittenGives, MadeOf, MakeAnswers, counts_of, made_steps}
use Rattle.kaba_top.specs.declared.make.Counts.{Counts}
use Rattle.kaba_top.specs.Answers.{FileAnswers, NamedAnswers, EditAnswers, RegenAnswers, CommandAnswers, Answers, Replies}

abbrev pub IsOther : ℕ → Type 0
IsOther status = (status ≡ 70 → ⊥) × (status ≡ 74 → ⊥)

-- all answers of a kind have other statuses
abbrev AreOther : (ℕ → List ℕ → List ℕ → Type 0) → Type 0
AreOther A = (status : ℕ) (out err : List ℕ) → A status out err → IsOther status

said : (n : ℕ) → IsOther n → (text : List ℕ) → AreOther (Says n text)
said n o text status out err h = ((λ e. o.0 (omega (arith, e, h.status_is))), (λ e. o.1 (omega (arith, e, h.status_is))))

gave : (n : ℕ) → IsOther n → (bytes lines : List ℕ) → AreOther (GivesReply n bytes lines)
gave n o bytes lines status out err h = ((λ e. o.0 (omega (arith, e, h.status_is))), (λ e. o.1 (omega (arith, e, h.status_is))))

refused : (bytes : List ℕ) → AreOther (IsRefusedText bytes)
unfolding IsRefusedText
refused bytes status out err (inl a) = said 65 (omega arith, omega arith) _ status out err a.says
refused bytes status out err (inr (inl a)) = said 65 (omega arith, omega arith) _ status out err a.says
refused bytes status out err (inr (inr (inl a))) = said 65 (omega arith, omega arith) _ status out err a.says
refused bytes status out err (inr (inr (inr (inl a)))) = said 65 (omega arith, omega arith) _ status out err a.says
refused bytes status out err (inr (inr (inr (inr a)))) = said 65 (omega arith, omega arith) _ status out err a.says

text_other : (K : Program → ℕ → List ℕ → List ℕ → Type 0) → ((p : Program) → AreOther (K p)) → (bytes : List ℕ) → AreOther (TextAnswers K bytes)
text_other K o bytes status out err (inl a) = refused bytes status out err a
text_other K o bytes status out err (inr a) = o a.program status out err a.answers

end_other : (e : meaning.End) (bytes : List ℕ) → AreOther (EndGives e bytes)
end_other meaning.Ended bytes status out err h = gave 0 (omega arith, omega arith) _ _ status out err h
end_other (meaning.Faulted kind) bytes status out err h = gave 10 (omega arith, omega arith) _ _ status out err h
end_other meaning.Going bytes status out err h = gave 11 (omega arith, omega arith) _ _ status out err h
end_other meaning.Wrong bytes status out err h = absurd h
end_other meaning.Escaped bytes status out err h = absurd h

run_other : (steps : ℕ) (words : List (List ℕ)) (p : Program) → AreOther (RunAnswers steps words p)
run_other steps words p = end_other (meant (program_of p) words steps).end (meant (program_of p) words steps).out

analysis_other : (J : Facts → ℕ → List ℕ → List ℕ → Type 0) → ((f : Facts) → AreOther (J f)) → (p : Program) → AreOther (AnalysisAnswers J p)
analysis_other J o p status out err (inl a) = said 67 (omega arith, omega arith) _ status out err a.says
analysis_other J o p status out err (inr a) = o a.facts status out err a.answers

table_other : (f : Facts) → AreOther (TableOf f)
table_other f status out err a = gave 0 (omega arith, omega arith) _ _ status out err a.gives

lattice_other : (json : Bool) (bound : ℕ) (f : Facts) → AreOther (LatticeOf json bound f)
lattice_other json bound f status out err a = elim a.answers as (λ _. IsOther status) [
  | inl many ↦ said 68 (omega arith, omega arith) _ status out err many.says
  | inr shown ↦ gave 0 (omega arith, omega arith) _ _ status out err shown.gives
]

base_other : (f : Facts) → AreOther (BaseOf f)
base_other f status out err a = elim a.answers as (λ _. IsOther status) [
  | inl many ↦ said 68 (omega arith, omega arith) _ status out err many.says
  | inr few ↦ elim few.answers as (λ _. IsOther status) [
    | inl many ↦ said 67 (omega arith, omega arith) _ status out err many.says
    | inr shown ↦ gave 0 (omega arith, omega arith) _ _ status out err shown.gives
  ]
]

why_other : (row column : ℕ) (f : Facts) → AreOther (WhyOf row column f)
why_other row column f status out err (inl none) = said 71 (omega arith, omega arith) _ status out err none.says
why_other row column f status out err (inr shown) = gave 0 (omega arith, omega arith) _ _ status out err shown.gives

sure_other : (f : Facts) → AreOther (SureOf f)
sure_other f status out err a = gave 0 (omega arith, omega arith) _ _ status out err a.gives

after_script : (none : Bool) (bytes refusals : List ℕ) → AreOther (GivesReply (if none then 0 else 4) bytes refusals)
after_script true bytes refusals status out err h = gave 0 (omega arith, omega arith) _ _ status out err h
after_script false bytes refusals status out err h = gave 4 (omega arith, omega arith) _ _ status out err h

script_run_other : (bound : ℕ) (script : List ℕ) (f : Facts) (A : HasLattice bound f → List Line → ℕ → List ℕ → List ℕ → Type 0)
    → ((has : HasLattice bound f) (edits : List Line) → AreOther (A has edits))
    → AreOther (ScriptAnswers bound script f A)
script_run_other bound script f A o status out err (inl (inl a)) = said 68 (omega arith, omega arith) _ status out err a.many.says
script_run_other bound script f A o status out err (inl (inr a)) = elim a.fault as (λ _. IsOther status) [
  | inl bad ↦ said 69 (omega arith, omega arith) _ status out err bad.says
  | inr long ↦ said 67 (omega arith, omega arith) _ status out err long.says
]
script_run_other bound script f A o status out err (inr a) = o a.has a.edits status out err a.answers

edit_other : (bound : ℕ) (script : List ℕ) (f : Facts) → AreOther (EditOf bound script f)
edit_other bound script f =
    script_run_other bound script f (ShowsHierarchy bound f) (λ has edits. after_script (length (refusals bound f has edits) == 0)
    (hierarchy_text f (edited bound f has edits)) (refusals bound f has edits))

no_tree_other : (program : Program) (bound : ℕ) (f : Facts) (has : HasLattice bound f) (edits : List Line) → AreOther (IsWithoutTree program bound f has edits)
no_tree_other program bound f has edits status out err a = gave 5 (omega arith, omega arith) _ _ status out err a.gives

regen_other : (bound : ℕ) (script : List ℕ) (program : Program) (f : Facts) → AreOther (RegenOf bound script program f)
regen_other bound script program f = script_run_other bound script f (IsRegeneration program bound f) (λ has edits status out err a. elim a as
    (λ _. IsOther status) [
      | inl g ↦ after_script (length (refusals bound f has edits) == 0) g.text (refusals bound f has edits ++ log_text g.log) status out err g.gives
      | inr w ↦ no_tree_other program bound f has edits status out err w
    ])

file_other : (K : List ℕ → ℕ → List ℕ → List ℕ → Type 0) → ((bytes : List ℕ) → AreOther (K bytes)) → (files : Files) (name : List ℕ)
    → AreOther (FileAnswers K files name)
file_other K o files name status out err (inl a) = said 66 (omega arith, omega arith) _ status out err a.says
file_other K o files name status out err (inr (inl a)) = said 67 (omega arith, omega arith) _ status out err a.says
file_other K o files name status out err (inr (inr a)) = o a.bytes status out err a.answers

same_other : (file other : List ℕ) (p q : Program) → AreOther (SameOf file other p q)
same_other file other p q status out err (inl b) = gave 0 (omega arith, omega arith) _ _ status out err b.gives
same_other file other p q status out err (inr b) = said 1 (omega arith, omega arith) _ status out err b.says

named_other : (K : Program → ℕ → List ℕ → List ℕ → Type 0) → ((p : Program) → AreOther (K p)) → (files : Files) (name : List ℕ)
    → AreOther (NamedAnswers K files name)
named_other K o files name status out err (inl a) = said 66 (omega arith, omega arith) _ status out err a.says
named_other K o files name status out err (inr (inl a)) = said 67 (omega arith, omega arith) _ status out _ a.answers.says
named_other K o files name status out err (inr (inr a)) = elim a.answers as (λ _. IsOther status) [
  | inl b ↦ refused a.bytes status out _ b.answers
  | inr b ↦ o b.program status out err b.answers
]

edits_other : (bound : ℕ) (bytes script : List ℕ) → AreOther (EditAnswers bound bytes script)
edits_other bound bytes script = text_other (AnalysisAnswers (EditOf bound script)) (analysis_other (EditOf bound script) (edit_other bound script)) bytes

regens_other : (bound : ℕ) (bytes script : List ℕ) → AreOther (RegenAnswers bound bytes script)
regens_other bound bytes script =
    text_other (λ p. AnalysisAnswers (RegenOf bound script p) p) (λ p. analysis_other (RegenOf bound script p) (regen_other bound script p) p) bytes

made_text_other : (K : Program → ℕ → List ℕ → List ℕ → Type 0) → ((p : Program) → AreOther (K p)) → (text : List ℕ) → AreOther (MadeTextAnswers K text)
made_text_other K o text status out err (inl a) = said 67 (omega arith, omega arith) _ status out err a.says
made_text_other K o text status out err (inr a) = text_other K o text status out err a.answers

counts_other : (counts : Counts) (e : meaning.End) (steps : ℕ) (bytes : List ℕ) → AreOther (RunGives counts e steps bytes)
counts_other counts meaning.Ended steps bytes status out err h = gave 0 (omega arith, omega arith) _ _ status out err h
counts_other counts (meaning.Faulted kind) steps bytes status out err h = end_other (meaning.Faulted kind) bytes status out err h
counts_other counts meaning.Going steps bytes status out err h = end_other meaning.Going bytes status out err h
counts_other counts meaning.Wrong steps bytes status out err h = absurd h
counts_other counts meaning.Escaped steps bytes status out err h = absurd h

written_other : (counts : Counts) (p : Program) → AreOther (WrittenGives counts p)
written_other counts p =
    let o = meant (program_of p) [] made_steps in
    counts_other counts o.end (made_steps - o.left) o.out

made_other : (program : Program) (f : Facts) → AreOther (MadeOf program f)
made_other program f status out err (inl a) = said 68 (omega arith, omega arith) _ status out err a.many.says
made_other program f status out err (inr a) =
    let counts = counts_of f a.has.lattice a.tree a.log in
    made_text_other (WrittenGives counts) (written_other counts) a.text status out err a.answers

make_other : (prints : Bool) (number : ℕ) → AreOther (MakeAnswers prints number)
make_other true number = gave 0 (omega arith, omega arith) (sample_text number) []
make_other false number =
    made_text_other (λ p. AnalysisAnswers (MadeOf p) p) (λ p. analysis_other (MadeOf p) (made_other p) p) (sample_text number)

command_other : (command : Cmd) (first second : Files) → AreOther (CommandAnswers command first second)
command_other (run file steps words) first second =
    file_other (TextAnswers (RunAnswers steps words)) (text_other (RunAnswers steps words) (run_other steps words)) first file
command_other (table file) first second =
    file_other (TextAnswers (AnalysisAnswers TableOf)) (text_other (AnalysisAnswers TableOf) (analysis_other TableOf table_other)) first file
command_other (lattice json bound file) first second =
    file_other (TextAnswers (AnalysisAnswers (LatticeOf json bound))) (text_other (AnalysisAnswers (LatticeOf json bound))
    (analysis_other (LatticeOf json bound) (lattice_other json bound))) first file
command_other (base file) first second =
    file_other (TextAnswers (AnalysisAnswers BaseOf)) (text_other (AnalysisAnswers BaseOf) (analysis_other BaseOf base_other)) first file
command_other (why file row column) first second =
    file_other (TextAnswers (AnalysisAnswers (WhyOf row column))) (text_other (AnalysisAnswers (WhyOf row column))
    (analysis_other (WhyOf row column) (why_other row column))) first file
command_other (sure file) first second =
    file_other (TextAnswers (AnalysisAnswers SureOf)) (text_other (AnalysisAnswers SureOf) (analysis_other SureOf sure_other)) first file
command_other (same file other) first second =
    named_other (λ p. NamedAnswers (SameOf file other p) second other) (λ p. named_other (SameOf file other p) (same_other file other p) second other)
    first file
command_other (edit bound file script) first second =
    file_other (λ bytes. FileAnswers (EditAnswers bound bytes) second script) (λ bytes. file_other (EditAnswers bound bytes) (edits_other bound bytes)
    second script) first file
command_other (regen bound file script) first second =
    file_other (λ bytes. FileAnswers (RegenAnswers bound bytes) second script) (λ bytes. file_other (RegenAnswers bound bytes)
    (regens_other bound bytes) second script) first file
command_other (make prints number) first second = make_other prints number
command_other help first second = gave 0 (omega arith, omega arith) help_text []
command_other version first second = gave 0 (omega arith, omega arith) version_text []

answer_other : (words : List (List ℕ)) (first second : Files) → AreOther (Answers words first second)
answer_other words first second status out err (inl a) = said 64 (omega arith, omega arith) _ status out err a.says
answer_other words first second status out err (inr a) = command_other a.command first second status out err a.answers

pub reply_other : (told : Option Files) (before now : ℕ) (words : List (List ℕ)) (status : ℕ) (out err : List ℕ)
    → Replies told before now words status out err → IsOther status
reply_other told before now words status out err (inl a) = answer_other words a.first a.second status out err a.answers
reply_other told before now words status out err (inr u) = said 66 (omega arith, omega arith) _ status out err u.unread.fault.says
