-- For one list of words and one pair of files there is one answer.
use Rattle.std.proofs.Common.{◌≡◌, inl, inr, ℕ, ◌-◌, Bool, true, false, List, [], length, map, refl, sym, ap, ◌∙◌, subst, arith}
use Rattle.std.proofs.lemmas.List.{length-map}
use Rattle.std.proofs.lemmas.Option.{same_Some}
use Rattle.kaba_base.specs.Outside.{Files}
use Rattle.java_core.specs.declared.Program.{Program}
use Rattle.java_core.specs.Programs.{program_of}
use Rattle.java_meaning.specs.Moment as meaning
use Rattle.java_run.specs.Outcomes.{meant}
use Rattle.fact_model.specs.declared.facts.Facts.{Facts}
use Rattle.fact_model.specs.declared.sets.Lattice.{Lattice}
use Rattle.flow_program.specs.Same.{AreSameFacts}
use Rattle.hier_model.specs.Hierarchies.{Hierarchy}
use Rattle.hier_view.specs.Text.{live_nodes}
use Rattle.tree_merge.specs.declared.steps.TreeStep.{TreeStep}
use Rattle.tree_merge.specs.Logs.{step_of, steps_of}
use Rattle.concept_build.specs.Laws.{told}
use Rattle.kaba_words.specs.Commands.{Cmd, run, table, lattice, base, why, sure, same, edit, regen, make, help, version, usual_concepts}
use Rattle.kaba_top.specs.declared.make.Counts.{Counts}
use Rattle.kaba_top.specs.About.{help_text, version_text}
use Rattle.kaba_top.specs.Lines.{usage, cannot_read, file_too_large}
use Rattle.kaba_top.specs.Reading.{TextAnswers}
use Rattle.kaba_top.specs.RunAnswers.{EndGives, RunAnswers}
use Rattle.kaba_top.specs.FactsAnswers.{AnalysisAnswers, TableOf, LatticeOf, too_many_concepts}
use Rattle.kaba_top.specs.BaseAnswers.{BaseOf}
use Rattle.kaba_top.specs.WhyAnswers.{WhyOf}
use Rattle.kaba_top.specs.SureAnswers.{SureOf}
use Rattle.kaba_top.specs.EditAnswers.{EditOf}
use Rattle.kaba_top.specs.RegenAnswers.{RegenOf}
use Rattle.kaba_top.specs.MakeAnswers.{sample_text, MadeTextAnswers, RunGives, WrittenGives, MadeOf, MakeAnswers, counts_of, made_steps}
use Rattle.kaba_top.specs.Answers.{FileAnswers, EditAnswers, RegenAnswers, CommandAnswers}
use Rattle.kaba_top.specs.OneAnswer.{AreOneKind, HasOneAnswer}
use Rattle.kaba_top.proofs.SameSets.{one_table, one_width}
use Rattle.kaba_words.proofs.OneCommand.{one_command}
use Rattle.kaba_top.proofs.OneText.{one_text}
use Rattle.kaba_top.proofs.OneBase.{one_base_text}
use Rattle.kaba_top.proofs.OneWhy.{one_why_text}
use Rattle.kaba_top.proofs.OneSure.{one_sure_text}
use Rattle.kaba_top.proofs.OneSame.{one_same}
use Rattle.kaba_top.proofs.Absent.{none_some}
use Rattle.kaba_top.proofs.OneAnalysis.{said, given, one_analysis, one_table_text, one_lattice_text, one_edit_text, one_regen_text, one_told, tree_of_start, trees_same, one_written, few}

-- ---- runs

one_end : (e : meaning.End) (bytes : List ℕ) → AreOneKind (EndGives e bytes) (EndGives e bytes)
one_end meaning.Ended bytes s t o p e f a b = given 0 0 _ _ _ _ refl refl refl s t o p e f a b
one_end (meaning.Faulted kind) bytes s t o p e f a b = given 10 10 _ _ _ _ refl refl refl s t o p e f a b
one_end meaning.Going bytes s t o p e f a b = given 11 11 _ _ _ _ refl refl refl s t o p e f a b
one_end meaning.Wrong bytes s t o p e f a b = absurd a
one_end meaning.Escaped bytes s t o p e f a b = absurd a

one_run : (steps : ℕ) (words : List (List ℕ)) (p q : Program) → program_of p ≡ program_of q → AreOneKind (RunAnswers steps words p) (RunAnswers steps words q)
one_run steps words p q alike =
    subst (λ P. AreOneKind (RunAnswers steps words p) (EndGives (meant P words steps).end (meant P words steps).out)) alike
    (one_end (meant (program_of p) words steps).end (meant (program_of p) words steps).out)

one_counted : (counts : Counts) (e : meaning.End) (steps : ℕ) (bytes : List ℕ) → AreOneKind (RunGives counts e steps bytes) (RunGives counts e steps bytes)
one_counted counts meaning.Ended steps bytes s t o p e f a b = given 0 0 _ _ _ _ refl refl refl s t o p e f a b
one_counted counts (meaning.Faulted kind) steps bytes s t o p e f a b = given 10 10 _ _ _ _ refl refl refl s t o p e f a b
one_counted counts meaning.Going steps bytes s t o p e f a b = given 11 11 _ _ _ _ refl refl refl s t o p e f a b
one_counted counts meaning.Wrong steps bytes s t o p e f a b = absurd a
one_counted counts meaning.Escaped steps bytes s t o p e f a b = absurd a

one_made_run : (counts other : Counts) → counts ≡ other → (p q : Program) → program_of p ≡ program_of q
    → AreOneKind (WrittenGives counts p) (WrittenGives other q)
one_made_run counts other c p q alike =
    subst (λ z. AreOneKind (WrittenGives counts p) (WrittenGives z q)) c
    (subst (λ P. AreOneKind (WrittenGives counts p) (RunGives counts (meant P [] made_steps).end (made_steps - (meant P [] made_steps).left)
    (meant P [] made_steps).out)) alike
    (one_counted counts (meant (program_of p) [] made_steps).end (made_steps - (meant (program_of p) [] made_steps).left)
    (meant (program_of p) [] made_steps).out))

-- ---- `make`

one_made_text : (K L : Program → ℕ → List ℕ → List ℕ → Type 0) → ((p q : Program) → program_of p ≡ program_of q → AreOneKind (K p) (L q)) → (v w : List ℕ)
    → v ≡ w → AreOneKind (MadeTextAnswers K v) (MadeTextAnswers L w)
one_made_text K L one v w alike s t o p e f (inl a) (inl b) = said 67 file_too_large file_too_large refl s t o p e f a.says b.says
one_made_text K L one v w alike s t o p e f (inl a) (inr b) = let n = ap length alike in absurd (omega (arith, n, a.large, b.small))
one_made_text K L one v w alike s t o p e f (inr a) (inl b) = let n = ap length alike in absurd (omega (arith, n, a.small, b.large))
one_made_text K L one v w alike s t o p e f (inr a) (inr b) =
    one_text K L one w s t o p e f (subst (λ z. TextAnswers K z s o e) alike a.answers) b.answers

one_counts : (F G : Facts) → AreSameFacts F G → (l m : Lattice) → map told l.concepts.items ≡ map told m.concepts.items → (H K : Hierarchy) → H ≡ K
    → (log other : List TreeStep) → steps_of log ≡ steps_of other → counts_of F l H log ≡ counts_of G m K other
one_counts F G alike l m tells H K trees log other e =
    let concepts : length l.concepts.items ≡ length m.concepts.items =
    sym (length-map l.concepts.items told) ∙ ap length tells ∙ length-map m.concepts.items told in
    let steps : length log ≡ length other = sym (length-map log step_of) ∙ ap length e ∙ length-map other step_of in
    λ i. record {
      rows = length (alike.rows i);
      columns = length (alike.columns i);
      concepts = concepts i;
      types = length (live_nodes (trees i));
      tree = steps i;
    }

one_made : (p q : Program) → program_of p ≡ program_of q → (F G : Facts) → AreSameFacts F G → AreOneKind (MadeOf p F) (MadeOf q G)
one_made p q program F G alike s t o r e f (inl a) (inl b) =
    said 68 (too_many_concepts usual_concepts) (too_many_concepts usual_concepts) refl s t o r e f a.many.says b.many.says
one_made p q program F G alike s t o r e f (inl a) (inr b) =
    absurd (few alike usual_concepts a.table b.has.table b.has.lattice (one_table alike a.table b.has.table a.is b.has.is_table)
    (one_width alike a.table b.has.table a.is b.has.is_table) a.many.more b.has.is_lattice b.has.within)
one_made p q program F G alike s t o r e f (inr a) (inl b) =
    absurd (few alike usual_concepts b.table a.has.table a.has.lattice (sym (one_table alike a.has.table b.table a.has.is_table b.is))
    (sym (one_width alike a.has.table b.table a.has.is_table b.is)) b.many.more a.has.is_lattice a.has.within)
one_made p q program F G alike s t o r e f (inr a) (inr b) =
    let h = a.has in let k = b.has in
    let both = tree_of_start alike usual_concepts h k a.is.grows b.is.grows in
    let trees = trees_same both.1 in
    let tells = one_told alike h.table k.table h.lattice k.lattice (one_table alike h.table k.table h.is_table k.is_table)
    (one_width alike h.table k.table h.is_table k.is_table) h.is_lattice k.is_lattice in
    let counts = one_counts F G alike h.lattice k.lattice tells a.tree b.tree trees a.log b.log both.0 in
    one_made_text (WrittenGives (counts_of F h.lattice a.tree a.log)) (WrittenGives (counts_of G k.lattice b.tree b.log))
    (one_made_run (counts_of F h.lattice a.tree a.log) (counts_of G k.lattice b.tree b.log) counts) a.text b.text
    (one_written F G alike p q program a.tree b.tree trees a.text b.text a.written b.written) s t o r e f a.answers b.answers

one_make : (prints : Bool) (number : ℕ) → AreOneKind (MakeAnswers prints number) (MakeAnswers prints number)
one_make true number = given 0 0 (sample_text number) (sample_text number) [] [] refl refl refl
one_make false number =
    one_made_text (λ p. AnalysisAnswers (MadeOf p) p) (λ p. AnalysisAnswers (MadeOf p) p)
    (λ p q alike. one_analysis (MadeOf p) (MadeOf q) (one_made p q alike) p q alike) (sample_text number) (sample_text number) refl

-- ---- files

one_file : (K : List ℕ → ℕ → List ℕ → List ℕ → Type 0) → ((bytes : List ℕ) → AreOneKind (K bytes) (K bytes)) → (files : Files) (file : List ℕ)
    → AreOneKind (FileAnswers K files file) (FileAnswers K files file)
one_file K one files file s t o p e f (inl a) (inl b) = said 66 (cannot_read file) (cannot_read file) refl s t o p e f a.says b.says
one_file K one files file s t o p e f (inl a) (inr (inl b)) = absurd (none_some a.missing b.there)
one_file K one files file s t o p e f (inl a) (inr (inr b)) = absurd (none_some a.missing b.there)
one_file K one files file s t o p e f (inr (inl a)) (inl b) = absurd (none_some b.missing a.there)
one_file K one files file s t o p e f (inr (inl a)) (inr (inl b)) = said 67 file_too_large file_too_large refl s t o p e f a.says b.says
one_file K one files file s t o p e f (inr (inl a)) (inr (inr b)) =
    let n = ap length (same_Some a.bytes b.bytes (sym a.there ∙ b.there)) in absurd (omega (arith, n, a.large, b.small))
one_file K one files file s t o p e f (inr (inr a)) (inl b) = absurd (none_some b.missing a.there)
one_file K one files file s t o p e f (inr (inr a)) (inr (inl b)) =
    let n = ap length (same_Some a.bytes b.bytes (sym a.there ∙ b.there)) in absurd (omega (arith, n, a.small, b.large))
one_file K one files file s t o p e f (inr (inr a)) (inr (inr b)) =
    one b.bytes s t o p e f (subst (λ z. K z s o e) (same_Some a.bytes b.bytes (sym a.there ∙ b.there)) a.answers) b.answers

-- ---- commands

one_edit : (bound : ℕ) (bytes script : List ℕ) → AreOneKind (EditAnswers bound bytes script) (EditAnswers bound bytes script)
one_edit bound bytes script =
    one_text (AnalysisAnswers (EditOf bound script)) (AnalysisAnswers (EditOf bound script))
    (λ p q alike. one_analysis (EditOf bound script) (EditOf bound script) (λ F G s. one_edit_text s bound script) p q alike) bytes

one_regen : (bound : ℕ) (bytes script : List ℕ) → AreOneKind (RegenAnswers bound bytes script) (RegenAnswers bound bytes script)
one_regen bound bytes script =
    one_text (λ p. AnalysisAnswers (RegenOf bound script p) p) (λ p. AnalysisAnswers (RegenOf bound script p) p)
    (λ p q alike. one_analysis (RegenOf bound script p) (RegenOf bound script q) (λ F G s. one_regen_text p q alike s bound script) p q alike) bytes

one_of_command : (c : Cmd) (first second : Files) → AreOneKind (CommandAnswers c first second) (CommandAnswers c first second)
one_of_command (run file steps words) first second =
    one_file (TextAnswers (RunAnswers steps words)) (one_text (RunAnswers steps words) (RunAnswers steps words) (one_run steps words)) first file
one_of_command (table file) first second =
    one_file (TextAnswers (AnalysisAnswers TableOf)) (one_text (AnalysisAnswers TableOf) (AnalysisAnswers TableOf)
    (λ p q alike. one_analysis TableOf TableOf (λ F G s. one_table_text s) p q alike)) first file
one_of_command (lattice json bound file) first second =
    one_file (TextAnswers (AnalysisAnswers (LatticeOf json bound))) (one_text (AnalysisAnswers (LatticeOf json bound)) (AnalysisAnswers
    (LatticeOf json bound))
    (λ p q alike. one_analysis (LatticeOf json bound) (LatticeOf json bound) (λ F G s. one_lattice_text s json bound) p q alike)) first file
one_of_command (base file) first second =
    one_file (TextAnswers (AnalysisAnswers BaseOf)) (one_text (AnalysisAnswers BaseOf) (AnalysisAnswers BaseOf)
    (λ p q alike. one_analysis BaseOf BaseOf (λ F G s. one_base_text s) p q alike)) first file
one_of_command (why file row column) first second =
    one_file (TextAnswers (AnalysisAnswers (WhyOf row column))) (one_text (AnalysisAnswers (WhyOf row column)) (AnalysisAnswers (WhyOf row column))
    (λ p q alike. one_analysis (WhyOf row column) (WhyOf row column) (λ F G s. one_why_text row column s) p q alike)) first file
one_of_command (sure file) first second =
    one_file (TextAnswers (AnalysisAnswers SureOf)) (one_text (AnalysisAnswers SureOf) (AnalysisAnswers SureOf)
    (λ p q alike. one_analysis SureOf SureOf (λ F G s. one_sure_text s) p q alike)) first file
one_of_command (same file other) first second = one_same file other first second
one_of_command (edit bound file script) first second =
    one_file (λ bytes. FileAnswers (EditAnswers bound bytes) second script)
    (λ bytes. one_file (EditAnswers bound bytes) (one_edit bound bytes) second script) first file
one_of_command (regen bound file script) first second =
    one_file (λ bytes. FileAnswers (RegenAnswers bound bytes) second script)
    (λ bytes. one_file (RegenAnswers bound bytes) (one_regen bound bytes) second script) first file
one_of_command (make prints number) first second = one_make prints number
one_of_command help first second = given 0 0 help_text help_text [] [] refl refl refl
one_of_command version first second = given 0 0 version_text version_text [] [] refl refl refl

pub one_answer : HasOneAnswer
unfolding HasOneAnswer
one_answer words first second s t o p e f (inl a) (inl b) = said 64 usage usage refl s t o p e f a.says b.says
one_answer words first second s t o p e f (inl a) (inr b) = absurd (a.fits_none b.command b.fits)
one_answer words first second s t o p e f (inr a) (inl b) = absurd (b.fits_none a.command a.fits)
one_answer words first second s t o p e f (inr a) (inr b) =
    one_of_command b.command first second s t o p e f
    (subst (λ c. CommandAnswers c first second s o e) (one_command words a.command b.command a.fits b.fits) a.answers) b.answers
