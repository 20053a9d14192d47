use Rattle.std.proofs.Common.{inl, inr, subst}
use Rattle.hier_model.specs.Start.{start_from}
use Rattle.hier_script.specs.Answers.{IsScripted}
use Rattle.kaba_top.proofs.Analysing.{lattice_by}
use Rattle.kaba_top.proofs.script.run_over.Goals as goal

pub returns-in_ok-bad_script-in-BadLine : goal.returns-in_ok-bad_script-in-BadLine
returns-in_ok-bad_script-in-BadLine c = record {
  proposed = inr (record {
    has = lattice_by c.args.sets c.args.table c.args.lattice c.requires.sets c.requires.table c.requires.lattice c.requires.within;
    fault = inl (record {
      line = c.in-BadLine.line;
      first = subst (IsScripted c.args.facts.now c.args.sets (start_from c.args.facts.now c.args.table c.args.lattice) c.args.task.now.script.now.items)
          c.in-BadLine.is c.in_ok-edited.ensures.scripted;
      says = c.in_ok-bad_script-in-BadLine.ensures;
    });
  });
}

pub returns-in_ok-too_many_edits-in-TooManyEdits : goal.returns-in_ok-too_many_edits-in-TooManyEdits
returns-in_ok-too_many_edits-in-TooManyEdits c = record {
  proposed = inr (record {
    has = lattice_by c.args.sets c.args.table c.args.lattice c.requires.sets c.requires.table c.requires.lattice c.requires.within;
    fault = inr (record {
      many = subst (IsScripted c.args.facts.now c.args.sets (start_from c.args.facts.now c.args.table c.args.lattice) c.args.task.now.script.now.items)
          c.in-TooManyEdits.is c.in_ok-edited.ensures.scripted;
      says = c.in_ok-too_many_edits-in-TooManyEdits.ensures;
    });
  });
}
