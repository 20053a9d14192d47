-- From a table to the reply of `base`.
use Rattle.std.proofs.Common.{inl, inr, ◌≤◌, length, Result, Ok, Err, IfOk}
use Rattle.std.specs.declared.alloc.AllocError.{AllocError}
use Rattle.fact_model.specs.declared.facts.Facts.{Facts}
use Rattle.fact_model.specs.declared.sets.Table.{Table}
use Rattle.fact_model.specs.declared.sets.Lattice.{Lattice}
use Rattle.fact_model.specs.Entries.{IsTable}
use Rattle.fact_model.specs.Concepts.{AreMoreThan, IsLatticeOf}
use Rattle.concept_build.proofs.Uniqueness.{not_both}
use Rattle.stem_base.specs.Base.{common, AreMoreStems}
use Rattle.kaba_words.specs.Commands.{usual_concepts}
use Rattle.kaba_top.specs.declared.reply.Reply.{Reply}
use Rattle.kaba_top.specs.Lines.{Says}
use Rattle.kaba_top.specs.FactsAnswers.{too_many_concepts}
use Rattle.kaba_top.specs.BaseAnswers.{most_implications, too_many_implications, StemsOf, BaseOf}

pub many_implications : (table : Table) (r : Result Reply AllocError) → AreMoreStems table.width (common table.rows.items table.width) most_implications
    → IfOk r (λ reply. Says 67 too_many_implications reply.status reply.out.items reply.err.items)
    → IfOk r (λ reply. StemsOf table reply.status reply.out.items reply.err.items)
many_implications table (Err e) more h = tt
many_implications table (Ok reply) more h = inl (record { more = more; says = h })

pub many_concepts : (facts : Facts) (table : Table) (r : Result Reply AllocError) → IsTable facts table
    → AreMoreThan table.rows.items table.width usual_concepts
    → IfOk r (λ reply. Says 68 (too_many_concepts usual_concepts) reply.status reply.out.items reply.err.items)
    → IfOk r (λ reply. BaseOf facts reply.status reply.out.items reply.err.items)
many_concepts facts table (Err e) is more h = tt
many_concepts facts table (Ok reply) is more h = record { table = table; is = is; answers = inl (record { more = more; says = h }) }

-- where there is a lattice within the bound, there are not more concepts
pub few_concepts : (facts : Facts) (table : Table) (lattice : Lattice) (r : Result Reply AllocError) → IsTable facts table → IsLatticeOf table lattice
    → length lattice.concepts.items ≤ usual_concepts → IfOk r (λ reply. StemsOf table reply.status reply.out.items reply.err.items)
    → IfOk r (λ reply. BaseOf facts reply.status reply.out.items reply.err.items)
few_concepts facts table lattice (Err e) is good within h = tt
few_concepts facts table lattice (Ok reply) is good within h = record {
  table = table;
  is = is;
  answers = inr (record {
    few = λ more. not_both table.rows.items table.width usual_concepts lattice.concepts.items good within more;
    answers = h;
  });
}
