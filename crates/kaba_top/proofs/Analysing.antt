-- From the facts of a program and their table to the reply.
use Rattle.std.proofs.Common.{◌≡◌, ◌∙◌, inl, inr, ℕ, ◌≤◌, Bool, List, [], ◌++◌, length, Result, Ok, Err, IfOk, ap, subst, sym, append_assoc}
use Rattle.std.specs.declared.alloc.AllocError.{AllocError}
use Rattle.java_core.specs.declared.Program.{Program}
use Rattle.fact_model.specs.declared.facts.Facts.{Facts}
use Rattle.fact_model.specs.declared.sets.Table.{Table}
use Rattle.fact_model.specs.Entries.{IsTable}
use Rattle.fact_model.specs.Concepts.{AreMoreThan, IsLatticeOf}
use Rattle.fact_model.specs.Flowing.{AreSets}
use Rattle.fact_model.specs.declared.sets.PointsTo.{PointsTo}
use Rattle.fact_model.specs.declared.sets.Lattice.{Lattice}
use Rattle.hier_model.specs.Hierarchies.{Hierarchy}
use Rattle.hier_view.specs.Text.{hierarchy_text}
use Rattle.edit_script.specs.declared.lines.Line.{Line}
use Rattle.hier_tree.specs.Reached.{IsReached, begun}
use Rattle.tree_merge.specs.declared.steps.TreeStep.{TreeStep}
use Rattle.tree_merge.specs.declared.trees.NoTree.{NoTree}
use Rattle.kaba_top.specs.Logs.{log_text, no_tree_text}
use Rattle.kaba_top.specs.declared.reply.Reply.{Reply}
use Rattle.kaba_top.specs.declared.script.Proposal.{Proposal}
use Rattle.kaba_top.specs.Lines.{Says, GivesReply, line}
use Rattle.kaba_top.specs.FactsAnswers.{HasFacts, AnalysisAnswers, LatticeOf, too_many_concepts}
use Rattle.kaba_top.specs.ScriptAnswers.{HasLattice, ScriptAnswers, start_of, edited}
use Rattle.kaba_top.specs.EditAnswers.{EditOf, ShowsHierarchy, edit_status}
use Rattle.kaba_top.specs.RegenAnswers.{IsTreeOf, EndsAtConflict, IsWithoutTree, RegenOf}
use Rattle.kaba_top.specs.Proposals.{IsProposal, IsStuck, IsWritten}
use Rattle.kaba_top.proofs.Reaching.{reached, no_interface}

-- what an analysis has come to before its script is run
abbrev pub lattice_by : {bound : ℕ} {facts : Facts} (sets : PointsTo) (table : Table) (lattice : Lattice) → AreSets facts sets → IsTable facts table
    → IsLatticeOf table lattice → length lattice.concepts.items ≤ bound → HasLattice bound facts
lattice_by sets table lattice are_sets is_table is_lattice within = record {
  sets = sets;
  are_sets = are_sets;
  table = table;
  is_table = is_table;
  lattice = lattice;
  is_lattice = is_lattice;
  within = within;
}

pub too_many : (json : Bool) (bound : ℕ) (facts : Facts) (table : Table) (r : Result Reply AllocError) → IsTable facts table
    → AreMoreThan table.rows.items table.width bound
    → IfOk r (λ reply. Says 68 (too_many_concepts bound) reply.status reply.out.items reply.err.items)
    → IfOk r (λ reply. LatticeOf json bound facts reply.status reply.out.items reply.err.items)
too_many json bound facts table (Err e) is more h = tt
too_many json bound facts table (Ok reply) is more h = record { table = table; is = is; answers = inl (record { more = more; says = h }) }

pub analysed : (J : Facts → ℕ → List ℕ → List ℕ → Type 0) (program : Program) (facts : Facts) (r : Result Reply AllocError) → HasFacts program facts
    → IfOk r (λ reply. J facts reply.status reply.out.items reply.err.items)
    → IfOk r (λ reply. AnalysisAnswers J program reply.status reply.out.items reply.err.items)
analysed J program facts (Err e) has h = tt
analysed J program facts (Ok reply) has h = inr (record { facts = facts; has = has; answers = h })

-- what the hierarchy after a script was found by
abbrev pub has_lattice : (bound : ℕ) (script : List ℕ) (facts : Facts) (p : Proposal) → IsProposal bound script facts p → HasLattice bound facts
has_lattice bound script facts p is = lattice_by p.sets p.table p.lattice is.are_sets is.is_table is.is_lattice is.within

-- a script was run, and a reply follows
pub ran : (bound : ℕ) (script : List ℕ) (facts : Facts) (A : HasLattice bound facts → List Line → ℕ → List ℕ → List ℕ → Type 0) (p : Proposal)
    (r : Result Reply AllocError)
    → (is : IsProposal bound script facts p)
    → IfOk r (λ reply. A (has_lattice bound script facts p is) is.edits reply.status reply.out.items reply.err.items)
    → IfOk r (λ reply. ScriptAnswers bound script facts A reply.status reply.out.items reply.err.items)
ran bound script facts A p (Err e) is h = tt
ran bound script facts A p (Ok reply) is h =
    inr (record { has = has_lattice bound script facts p is; edits = is.edits; are = is.are; few = is.few; answers = h })

-- the hierarchy after it is shown
pub shows : (bound : ℕ) (script : List ℕ) (facts : Facts) (p : Proposal) (r : Result Reply AllocError) → IsProposal bound script facts p
    → IfOk r (λ reply. GivesReply (edit_status p.edited.refusals.items) (hierarchy_text facts p.edited.hier) p.edited.refusals.items reply.status
    reply.out.items reply.err.items)
    → IfOk r (λ reply. EditOf bound script facts reply.status reply.out.items reply.err.items)
shows bound script facts p r is h =
    let has = has_lattice bound script facts p is in
    ran bound script facts (ShowsHierarchy bound facts) p r is
    (subst (λ lines. IfOk r (λ reply. GivesReply (edit_status lines) (hierarchy_text facts (edited bound facts has is.edits)) lines reply.status
    reply.out.items reply.err.items)) is.is.refusals
    (subst (λ H. IfOk r (λ reply. GivesReply (edit_status p.edited.refusals.items) (hierarchy_text facts H) p.edited.refusals.items reply.status
    reply.out.items reply.err.items)) is.is.hierarchy h))

-- the program of a tree is written
pub regenerated : (bound : ℕ) (script : List ℕ) (program : Program) (facts : Facts) (p : Proposal) (tree : Hierarchy) (log : List TreeStep) (text : List ℕ)
    (r : Result Reply AllocError) → (is : IsProposal bound script facts p)
    → IsWritten program facts p.sets p.edited.hier tree log text
    → IfOk r (λ reply. GivesReply (edit_status p.edited.refusals.items) text (p.edited.refusals.items ++ log_text log) reply.status reply.out.items
    reply.err.items)
    → IfOk r (λ reply. RegenOf bound script program facts reply.status reply.out.items reply.err.items)
regenerated bound script program facts p tree log text (Err e) is written h = tt
regenerated bound script program facts p tree log text (Ok reply) is written h = inr (record {
  has = has_lattice bound script facts p is;
  edits = is.edits;
  are = is.are;
  few = is.few;
  answers = inl (record {
    log = log;
    tree = tree;
    is = subst (λ H. IsTreeOf facts p.sets H log tree) is.is.hierarchy written.is;
    text = text;
    written = written.written;
    gives = subst (λ lines. GivesReply (edit_status lines) text (lines ++ log_text log) reply.status reply.out.items reply.err.items) is.is.refusals h;
  });
})

-- there is no tree, and drops and fresh names alone do not lead there
pub without_tree : (bound : ℕ) (script : List ℕ) (program : Program) (facts : Facts) (p : Proposal) (fault : NoTree) (status : ℕ) (out err : List ℕ)
    → (is : IsProposal bound script facts p) → HasFacts program facts → IsStuck facts p.sets p.edited.hier fault
    → GivesReply 5 [] (p.edited.refusals.items ++ (log_text fault.log.items ++ line (no_tree_text fault))) status out err
    → IsWithoutTree program bound facts (has_lattice bound script facts p is) is.edits status out err
without_tree bound script program facts p fault status out err is known stuck h =
    let has = has_lattice bound script facts p is in
    record {
      fault = fault;
      ends = subst (λ H. EndsAtConflict facts p.sets H fault) is.is.hierarchy stuck.ends;
      more = λ none modest. stuck.unreached p.table p.lattice
          (record { range = known.in_range; order = known.in_order; sets = is.are_sets; table = is.is_table; lattice = is.is_lattice })
          (no_interface program facts known none)
          (subst (IsReached facts p.sets p.table p.lattice) (sym is.is.hierarchy) (reached facts p.sets p.table p.lattice (start_of bound facts has)
          is.edits modest begun));
      gives = subst (λ lines. GivesReply 5 [] (lines ++ (log_text fault.log.items ++ line (no_tree_text fault))) status out err) is.is.refusals h;
    }

pub stuck_answers : (bound : ℕ) (script : List ℕ) (program : Program) (facts : Facts) (p : Proposal) (fault : NoTree) (r : Result Reply AllocError)
    → IsProposal bound script facts p → HasFacts program facts → IsStuck facts p.sets p.edited.hier fault
    → IfOk r (λ reply. GivesReply 5 [] (p.edited.refusals.items ++ (log_text fault.log.items ++ line (no_tree_text fault))) reply.status reply.out.items
    reply.err.items)
    → IfOk r (λ reply. RegenOf bound script program facts reply.status reply.out.items reply.err.items)
stuck_answers bound script program facts p fault (Err e) is known stuck h = tt
stuck_answers bound script program facts p fault (Ok reply) is known stuck h = inr (record {
  has = has_lattice bound script facts p is;
  edits = is.edits;
  are = is.are;
  few = is.few;
  answers = inr (without_tree bound script program facts p fault reply.status reply.out.items reply.err.items is known stuck h);
})

-- and lines after those of a log
pub lines_then : (refusals log last lines now : List ℕ) → lines ≡ refusals ++ log → now ≡ lines ++ last → now ≡ refusals ++ (log ++ last)
lines_then refusals log last lines now e f = f ∙ ap (λ front. front ++ last) e ∙ append_assoc refusals log last
