-- From the parts of the work on a sample to the answers of `make`.
use Rattle.std.proofs.Common.{◌≡◌, inl, inr, ℕ, ◌<◌, ◌≤◌, Bool, List, [], ◌∷◌, length, Result, Ok, Err, IfOk, refl, ap, sym, subst, arith}
use Rattle.std.proofs.lemmas.Str.{IsUtf8-nil}
use Rattle.std.specs.declared.alloc.AllocError.{AllocError}
use Rattle.java_core.specs.declared.Program.{Program}
use Rattle.fact_model.specs.declared.facts.Facts.{Facts}
use Rattle.fact_model.specs.InRange.{InRange}
use Rattle.fact_model.specs.InOrder.{InOrder}
use Rattle.hier_model.specs.Hierarchies.{Hierarchy}
use Rattle.hier_model.specs.declared.edits.Edit.{Edit}
use Rattle.hier_model.specs.declared.edits.Edit.TheVariants.{Merge, Under, Move, TypeName, MemberName, Drop}
use Rattle.hier_model.specs.declared.edits.Act.{Act}
use Rattle.hier_model.specs.declared.edits.Act.TheVariants as acts
use Rattle.hier_script.specs.Scripts.{after_edits}
use Rattle.edit_script.specs.declared.lines.Line.{Line}
use Rattle.edit_script.specs.Script.{words_of, WritesAct, IsNone, AreEditsOf, IsFirstBadLine, HasTooManyEdits}
use Rattle.hier_tree.specs.Kept.{HasNoInterface}
use Rattle.hier_tree.specs.Reached.{IsReached, begun}
use Rattle.tree_merge.specs.declared.steps.TreeStep.{TreeStep}
use Rattle.tree_merge.specs.declared.trees.NoTree.{NoTree}
use Rattle.kaba_words.specs.Commands.{make, Fits, most_samples, usual_concepts}
use Rattle.kaba_top.specs.declared.reply.Reply.{Reply}
use Rattle.kaba_top.specs.declared.reading.Reading.TheVariants as readings
use Rattle.kaba_top.specs.declared.script.Proposal.{Proposal}
use Rattle.kaba_top.specs.declared.make.Counts.{Counts}
use Rattle.kaba_top.specs.Readings.{IsMadeReading}
use Rattle.kaba_top.specs.ScriptAnswers.{IsNotRun, IsOverBound, start_of}
use Rattle.kaba_top.specs.RegenAnswers.{IsTreeOf}
use Rattle.kaba_top.specs.MakeAnswers.{MadeTextAnswers, MadeOf, WrittenGives, counts_of}
use Rattle.kaba_top.specs.Proposals.{IsProposal, IsStuck, IsWritten}
use Rattle.kaba_top.proofs.Analysing.{has_lattice}

-- the answers for a text of a typed program
pub made_answers : (K : Program → ℕ → List ℕ → List ℕ → Type 0) (bytes : List ℕ) (program : Program) (r : Result Reply AllocError)
    → IsMadeReading bytes (readings.Typed program)
    → IfOk r (λ reply. K program reply.status reply.out.items reply.err.items)
    → IfOk r (λ reply. MadeTextAnswers K bytes reply.status reply.out.items reply.err.items)
made_answers K bytes program (Err e) h k = tt
made_answers K bytes program (Ok reply) h k = inr (record { small = h.0; answers = inr (record { program = program; is = h.1; answers = k }) })

-- no edit is written by no words
wordless : (e : Edit) → [] ≡ words_of e → ⊥
wordless (Merge nodes) h = let u = h in cc
wordless (Under n p) h = let u = h in cc
wordless (Move c n) h = let u = h in cc
wordless (TypeName n name) h = let u = h in cc
wordless (MemberName c name) h = let u = h in cc
wordless (Drop n) h = let u = h in cc

actless : (a : Act) → WritesAct [] a → ⊥
actless (acts.Edit e) w = wordless e w.words_are
actless acts.Undo w = let u = w in cc

no_lines : (edits : List Line) → IsNone edits → edits ≡ []
no_lines [] h = refl
no_lines (e ∷ edits) h = absurd h

-- the empty script has no edits
pub no_edits : (edits : List Line) → AreEditsOf [] edits → edits ≡ []
no_edits edits (inl h) = no_lines edits h.1
no_edits [] (inr h) = refl
no_edits (e ∷ edits) (inr h) = absurd (actless e.act h.1.writes)

-- and no bad line
well_written : (n : ℕ) → IsFirstBadLine [] n → ⊥
well_written n (inl h) = h.0.no_comment (record { utf8 = IsUtf8-nil; skipped = inl refl })
well_written n (inr h) = h.1

-- nor too many edits
few : HasTooManyEdits [] → ⊥
few many = omega (arith, many.many, ap length (no_edits many.edits many.are))

-- so it is run where the concepts are within what is allowed
pub not_run : (facts : Facts) (script : List ℕ) (status : ℕ) (out err : List ℕ) → script ≡ []
    → IsNotRun usual_concepts script facts status out err → IsOverBound usual_concepts facts status out err
not_run facts script status out err none (inl over) = over
not_run facts script status out err none (inr a) = elim a.fault as (λ _. IsOverBound usual_concepts facts status out err) [
  | inl bad ↦ absurd (well_written bad.line (subst (λ s. IsFirstBadLine s bad.line) none bad.first))
  | inr long ↦ absurd (few (subst HasTooManyEdits none long.many))
]

-- the hierarchy after the empty script is the start
pub unedited : (facts : Facts) (script : List ℕ) (p : Proposal) → script ≡ [] → (is : IsProposal usual_concepts script facts p)
    → p.edited.hier ≡ start_of usual_concepts facts (has_lattice usual_concepts script facts p is)
unedited facts script p none is =
    let start = start_of usual_concepts facts (has_lattice usual_concepts script facts p is) in
    let none_made = no_edits is.edits (subst (λ s. AreEditsOf s is.edits) none is.are) in
    subst (λ edits. ◌≡◌ {A = Hierarchy} p.edited.hier (after_edits facts p.sets start edits)) none_made is.is.hierarchy

-- there is a tree
pub never_stuck : (facts : Facts) (script : List ℕ) (p : Proposal) (fault : NoTree) → script ≡ [] → IsProposal usual_concepts script facts p
    → InRange facts → InOrder facts → HasNoInterface facts → IsStuck facts p.sets p.edited.hier fault → ⊥
never_stuck facts script p fault none is range order no_interface stuck =
    stuck.unreached p.table p.lattice
    (record { range = range; order = order; sets = is.are_sets; table = is.is_table; lattice = is.is_lattice }) no_interface
    (subst (IsReached facts p.sets p.table p.lattice) (sym (unedited facts script p none is)) begun)

-- and its program was written
pub made : (program : Program) (facts : Facts) (script : List ℕ) (p : Proposal) (tree : Hierarchy) (log : List TreeStep) (text : List ℕ) (counts : Counts)
    (r : Result Reply AllocError) → script ≡ []
    → IsProposal usual_concepts script facts p → IsWritten program facts p.sets p.edited.hier tree log text → counts ≡ counts_of facts p.lattice tree log
    → IfOk r (λ reply. MadeTextAnswers (WrittenGives counts) text reply.status reply.out.items reply.err.items)
    → IfOk r (λ reply. MadeOf program facts reply.status reply.out.items reply.err.items)
made program facts script p tree log text counts (Err e) none is written same h = tt
made program facts script p tree log text counts (Ok reply) none is written same h = inr (record {
  has = has_lattice usual_concepts script facts p is;
  log = log;
  tree = tree;
  is = subst (λ H. IsTreeOf facts p.sets H log tree) (unedited facts script p none is) written.is;
  text = text;
  written = written.written;
  answers = subst (λ c. MadeTextAnswers (WrittenGives c) text reply.status reply.out.items reply.err.items) same h;
})

-- what the words of `make` give of its number
pub make_number : (words : List (List ℕ)) (prints : Bool) (number : ℕ) → Fits words (make prints number) → (0 < number) × (number ≤ most_samples)
make_number [] prints number h = absurd h
make_number (name ∷ words) prints number h = (h.1.some, h.1.number.small)
