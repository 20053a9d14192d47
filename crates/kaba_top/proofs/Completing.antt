-- Where nothing is refused of what a command reads, its status is one of its own.
use Rattle.std.proofs.Common.{◌≡◌, ◌⊎◌, inl, inr, ⊎_elim, ℕ, ◌==◌, Bool, true, false, List, length, sym, ap, ◌∙◌, subst, arith, if◌then◌else◌, None}
use Rattle.std.proofs.lemmas.Option.{same_Some}
use Rattle.kaba_base.specs.Outside.{Files}
use Rattle.java_core.specs.declared.Program.{Program}
use Rattle.java_core.specs.Programs.{Plain, program_of}
use Rattle.java_meaning.specs.Moment as meaning
use Rattle.java_run.specs.Outcomes.{meant}
use Rattle.fact_model.specs.declared.facts.Facts.{Facts}
use Rattle.flow_rules.specs.Facts.{IsWithinLimits}
use Rattle.edit_script.specs.declared.lines.Line.{Line}
use Rattle.kaba_words.specs.Commands.{Cmd, run, table, lattice, base, why, sure, same, edit, regen, make, help, version, usual_concepts}
use Rattle.kaba_top.specs.TextPrograms.{IsTypedText}
use Rattle.kaba_top.specs.TextFacts.{HasTextFacts}
use Rattle.kaba_top.specs.Lines.{line}
use Rattle.kaba_top.specs.Reading.{IsRefusedText, TextAnswers}
use Rattle.kaba_top.specs.RunAnswers.{EndGives, RunAnswers}
use Rattle.kaba_top.specs.FactsAnswers.{HasFacts, AnalysisAnswers, TableOf, LatticeOf}
use Rattle.kaba_top.specs.BaseAnswers.{BaseOf}
use Rattle.kaba_top.specs.WhyAnswers.{WhyOf}
use Rattle.kaba_top.specs.SureAnswers.{SureOf}
use Rattle.kaba_top.specs.SameAnswers.{SameOf}
use Rattle.kaba_top.specs.ScriptAnswers.{HasLattice, ScriptAnswers, refusals}
use Rattle.kaba_top.specs.EditAnswers.{ShowsHierarchy, EditOf}
use Rattle.kaba_top.specs.RegenAnswers.{IsRegeneration, RegenOf}
use Rattle.kaba_top.specs.Answers.{FileAnswers, NamedAnswers, EditAnswers, RegenAnswers, CommandAnswers}
use Rattle.kaba_top.specs.OneAnswer.{OfSmallFile, IsTaken, IsTakenWithin, HasFewConcepts, IsTakenFor, HasFewImplications, IsTakenForBase, IsAcceptedScript, HasAllInput, IsDoneWith, IsComplete}
use Rattle.kaba_words.proofs.OneCommand.{one_command}
use Rattle.kaba_top.proofs.OneText.{one_program, not_both}
use Rattle.kaba_top.proofs.Absent.{none_some}

module _ (status : ℕ) (out err : List ℕ) where
  -- the file is there with its bytes
  of_file : (K : List ℕ → ℕ → List ℕ → List ℕ → Type 0) (R : List ℕ → Type 0) (D : Type 0) (files : Files) (file : List ℕ) → OfSmallFile files file R
      → ((bytes : List ℕ) → R bytes → K bytes status out err → D) → FileAnswers K files file status out err → D
  of_file K R D files file r f (inl a) = absurd (none_some a.missing r.there)
  of_file K R D files file r f (inr (inl a)) =
      let n = ap length (same_Some a.bytes r.bytes (sym a.there ∙ r.there)) in absurd (omega (arith, n, a.large, r.small))
  of_file K R D files file r f (inr (inr a)) =
      f r.bytes r.holds (subst (λ z. K z status out err) (same_Some a.bytes r.bytes (sym a.there ∙ r.there)) a.answers)

  -- its text is that of the program
  of_text : (K : Program → ℕ → List ℕ → List ℕ → Type 0) (D : Type 0) (bytes : List ℕ) (P : Plain) → IsTypedText bytes P
      → ((p : Program) → P ≡ program_of p → K p status out err → D) → TextAnswers K bytes status out err → D
  of_text K D bytes P t f (inl a) = absurd (not_both bytes status out err P a t)
  of_text K D bytes P t f (inr a) = f a.program (one_program bytes P (program_of a.program) t a.is) a.answers

  -- the program has facts
  of_facts : (J : Facts → ℕ → List ℕ → List ℕ → Type 0) (D : Type 0) (p : Program) → IsWithinLimits (program_of p)
      → ((F : Facts) → HasFacts p F → J F status out err → D) → AnalysisAnswers J p status out err → D
  of_facts J D p w f (inl a) = absurd (none_some w.counts a.over)
  of_facts J D p w f (inr a) = f a.facts a.has a.answers

  text_facts : (p : Program) (F : Facts) → HasFacts p F → HasTextFacts (program_of p) F
  text_facts p F h = record { within = h.within; is = h.is; names = h.names }

  -- its table has few concepts, and the script is accepted
  of_script : (bound : ℕ) (script : List ℕ) (p : Program) (F : Facts) (A : HasLattice bound F → List Line → ℕ → List ℕ → List ℕ → Type 0) (D : Type 0)
      → HasFacts p F → HasFewConcepts bound (program_of p) → IsAcceptedScript script
      → ((h : HasLattice bound F) (es : List Line) → A h es status out err → D) → ScriptAnswers bound script F A status out err → D
  of_script bound script p F A D h few ok f (inl (inl a)) = absurd (few F a.table (text_facts p F h) a.is a.many.more)
  of_script bound script p F A D h few ok f (inl (inr a)) = ⊎_elim (λ b. absurd (ok.0 b.line b.first)) (λ b. absurd (ok.1 b.many)) a.fault
  of_script bound script p F A D h few ok f (inr a) = f a.has a.edits a.answers

  -- the program of a file that is told by its name
  of_named : (K : Program → ℕ → List ℕ → List ℕ → Type 0) (D : Type 0) (files : Files) (file : List ℕ) → OfSmallFile files file IsTaken
      → ((p : Program) → K p status out err → D) → NamedAnswers K files file status out err → D
  of_named K D files file r f (inl a) = absurd (none_some a.missing r.there)
  of_named K D files file r f (inr (inl a)) =
      let n = ap length (same_Some a.answers.bytes r.bytes (sym a.answers.there ∙ r.there)) in absurd (omega (arith, n, a.answers.large, r.small))
  of_named K D files file r f (inr (inr a)) =
      let e = same_Some a.bytes r.bytes (sym a.there ∙ r.there) in
      ⊎_elim
      (λ b. absurd (not_both r.bytes status out (line b.text) r.holds.0 (subst (λ z. IsRefusedText z status out (line b.text)) e b.answers) r.holds.1))
      (λ b. f b.program b.answers) a.answers

  -- two programs are compared
  of_same : (file next : List ℕ) (p q : Program) → SameOf file next p q status out err → (status ≡ 0) ⊎ (status ≡ 1)
  of_same file next p q (inl one) = inl one.gives.status_is
  of_same file next p q (inr apart) = inr apart.says.status_is

  by_end : (e : meaning.End) (bytes : List ℕ) → EndGives e bytes status out err → (status ≡ 0) ⊎ ((status ≡ 10) ⊎ (status ≡ 11))
  by_end meaning.Ended bytes a = inl a.status_is
  by_end (meaning.Faulted kind) bytes a = inr (inl a.status_is)
  by_end meaning.Going bytes a = inr (inr a.status_is)
  by_end meaning.Wrong bytes a = absurd a
  by_end meaning.Escaped bytes a = absurd a

  by_lines : (none : Bool) → status ≡ (if none then 0 else 4) → (status ≡ 0) ⊎ (status ≡ 4)
  by_lines true e = inl e
  by_lines false e = inr e

  of_edit : (bound : ℕ) (bytes script : List ℕ) → IsTakenFor bound bytes → IsAcceptedScript script → EditAnswers bound bytes script status out err
      → (status ≡ 0) ⊎ (status ≡ 4)
  of_edit bound bytes script t ok a =
      of_text (AnalysisAnswers (EditOf bound script)) ((status ≡ 0) ⊎ (status ≡ 4)) bytes t.0 t.1
      (λ p e b. of_facts (EditOf bound script) ((status ≡ 0) ⊎ (status ≡ 4)) p (subst IsWithinLimits e t.2)
      (λ F h c. of_script bound script p F (ShowsHierarchy bound F) ((status ≡ 0) ⊎ (status ≡ 4)) h (subst (HasFewConcepts bound) e t.3) ok
      (λ l es g. by_lines (length (refusals bound F l es) == 0) g.status_is) c) b) a

  of_regen : (bound : ℕ) (bytes script : List ℕ) → IsTakenFor bound bytes → IsAcceptedScript script → RegenAnswers bound bytes script status out err
      → (status ≡ 0) ⊎ ((status ≡ 4) ⊎ (status ≡ 5))
  of_regen bound bytes script t ok a =
      of_text (λ p. AnalysisAnswers (RegenOf bound script p) p) ((status ≡ 0) ⊎ ((status ≡ 4) ⊎ (status ≡ 5))) bytes t.0 t.1
      (λ p e b. of_facts (RegenOf bound script p) ((status ≡ 0) ⊎ ((status ≡ 4) ⊎ (status ≡ 5))) p (subst IsWithinLimits e t.2)
      (λ F h c. of_script bound script p F (IsRegeneration p bound F) ((status ≡ 0) ⊎ ((status ≡ 4) ⊎ (status ≡ 5))) h
      (subst (HasFewConcepts bound) e t.3) ok
      (λ l es g. ⊎_elim (λ w. ⊎_elim (λ z. inl z) (λ z. inr (inl z)) (by_lines (length (refusals bound F l es) == 0) w.gives.status_is))
      (λ n. inr (inr n.gives.status_is)) g) c) b) a

  done : (c : Cmd) (first second : Files) → HasAllInput c first second → CommandAnswers c first second status out err → IsDoneWith c status
  done (run file steps words) first second r a =
      of_file (TextAnswers (RunAnswers steps words)) IsTaken ((status ≡ 0) ⊎ ((status ≡ 10) ⊎ (status ≡ 11))) first file r
      (λ bytes t b. of_text (RunAnswers steps words) ((status ≡ 0) ⊎ ((status ≡ 10) ⊎ (status ≡ 11))) bytes t.0 t.1
      (λ p e g. by_end (meant (program_of p) words steps).end (meant (program_of p) words steps).out g) b) a
  done (table file) first second r a =
      of_file (TextAnswers (AnalysisAnswers TableOf)) IsTakenWithin (status ≡ 0) first file r
      (λ bytes t b. of_text (AnalysisAnswers TableOf) (status ≡ 0) bytes t.0 t.1
      (λ p e c. of_facts TableOf (status ≡ 0) p (subst IsWithinLimits e t.2) (λ F h g. g.gives.status_is) c) b) a
  done (lattice json bound file) first second r a =
      of_file (TextAnswers (AnalysisAnswers (LatticeOf json bound))) (IsTakenFor bound) (status ≡ 0) first file r
      (λ bytes t b. of_text (AnalysisAnswers (LatticeOf json bound)) (status ≡ 0) bytes t.0 t.1
      (λ p e c. of_facts (LatticeOf json bound) (status ≡ 0) p (subst IsWithinLimits e t.2)
      (λ F h g. ⊎_elim (λ m. absurd (subst (HasFewConcepts bound) e t.3 F g.table (text_facts p F h) g.is m.more)) (λ l. l.gives.status_is) g.answers) c) b) a
  done (base file) first second r a =
      of_file (TextAnswers (AnalysisAnswers BaseOf)) IsTakenForBase (status ≡ 0) first file r
      (λ bytes t b. of_text (AnalysisAnswers BaseOf) (status ≡ 0) bytes t.0 t.1
      (λ p e c. of_facts BaseOf (status ≡ 0) p (subst IsWithinLimits e t.2)
      (λ F h g. ⊎_elim (λ m. absurd (subst (HasFewConcepts usual_concepts) e t.3 F g.table (text_facts p F h) g.is m.more))
      (λ few. ⊎_elim (λ m. absurd (subst HasFewImplications e t.4 F g.table (text_facts p F h) g.is m.more)) (λ l. l.gives.status_is) few.answers)
      g.answers) c) b) a
  done (why file row column) first second r a =
      of_file (TextAnswers (AnalysisAnswers (WhyOf row column))) IsTakenWithin ((status ≡ 0) ⊎ (status ≡ 71)) first file r
      (λ bytes t b. of_text (AnalysisAnswers (WhyOf row column)) ((status ≡ 0) ⊎ (status ≡ 71)) bytes t.0 t.1
      (λ p e c. of_facts (WhyOf row column) ((status ≡ 0) ⊎ (status ≡ 71)) p (subst IsWithinLimits e t.2)
      (λ F h g. ⊎_elim (λ n. inr n.says.status_is) (λ l. inl l.gives.status_is) g) c) b) a
  done (sure file) first second r a =
      of_file (TextAnswers (AnalysisAnswers SureOf)) IsTakenWithin (status ≡ 0) first file r
      (λ bytes t b. of_text (AnalysisAnswers SureOf) (status ≡ 0) bytes t.0 t.1
      (λ p e c. of_facts SureOf (status ≡ 0) p (subst IsWithinLimits e t.2) (λ F h g. g.gives.status_is) c) b) a
  done (same file other) first second r a =
      of_named (λ p. NamedAnswers (SameOf file other p) second other) ((status ≡ 0) ⊎ (status ≡ 1)) first file r.0
      (λ p b. of_named (SameOf file other p) ((status ≡ 0) ⊎ (status ≡ 1)) second other r.1 (λ q c. of_same file other p q c) b) a
  done (edit bound file script) first second r a =
      of_file (λ bytes. FileAnswers (EditAnswers bound bytes) second script) (IsTakenFor bound) ((status ≡ 0) ⊎ (status ≡ 4)) first file r.0
      (λ bytes t b. of_file (EditAnswers bound bytes) IsAcceptedScript ((status ≡ 0) ⊎ (status ≡ 4)) second script r.1
      (λ lines ok c. of_edit bound bytes lines t ok c) b) a
  done (regen bound file script) first second r a =
      of_file (λ bytes. FileAnswers (RegenAnswers bound bytes) second script) (IsTakenFor bound) ((status ≡ 0) ⊎ ((status ≡ 4) ⊎ (status ≡ 5))) first file r.0
      (λ bytes t b. of_file (RegenAnswers bound bytes) IsAcceptedScript ((status ≡ 0) ⊎ ((status ≡ 4) ⊎ (status ≡ 5))) second script r.1
      (λ lines ok c. of_regen bound bytes lines t ok c) b) a
  done (make prints number) first second r a = tt
  done help first second r a = a.status_is
  done version first second r a = a.status_is

pub complete : IsComplete
unfolding IsComplete
complete words c fits first second ready status out err (inl a) = absurd (a.fits_none c fits)
complete words c fits first second ready status out err (inr a) =
    done status out err c first second ready
    (subst (λ z. CommandAnswers z first second status out err) (one_command words a.command c a.fits fits) a.answers)
