use Rattle.std.proofs.Common.{◌≡◌, IfOk, subst, sym}
use Rattle.source_gen.specs.Sources.{HaveMakes}
use Rattle.java_tree.specs.Syntax.{tree_of}
use Rattle.java_core.specs.Programs.{program_of}
use Rattle.write_model.specs.Written.{written_by}
use Rattle.write_forms.specs.Renamed.{renamed}
use Rattle.java_write.specs.Numbers.{AreNumbersOf}
use Rattle.java_write.proofs.Fitting.{fitting, have_makes, same_tree}
use Rattle.java_write.proofs.tree_of_hierarchy.Goals as goal

pub generate-requires-clause-fits : goal.generate-requires-clause-fits
generate-requires-clause-fits c =
    fitting c.args.program.now c.in_ok-numbering.numbering c.args.facts.now c.args.hier.now
    (subst (λ p. AreNumbersOf p c.args.facts.now c.in_ok-numbering.numbering) c.program-plain.ensures.value c.in_ok-numbering.ensures.numbers)
    c.requires.facts.is c.requires.unbroken.hierarchy

pub generate-requires-clause-makes : goal.generate-requires-clause-makes
generate-requires-clause-makes c =
    subst (λ q. HaveMakes (program_of q) c.in_ok-numbering.numbering c.args.facts.now) (sym c.program-plain.ensures.value)
    (have_makes c.args.program.now c.in_ok-numbering.numbering c.args.facts.now
    (subst (λ p. AreNumbersOf p c.args.facts.now c.in_ok-numbering.numbering) c.program-plain.ensures.value c.in_ok-numbering.ensures.numbers)
    c.requires.facts.is)

pub returns : goal.returns
returns c =
    let p = c.args.program.now in
    let n = c.in_ok-numbering.numbering in
    let F = c.args.facts.now in
    let H = c.args.hier.now in
    let are = subst (λ q. AreNumbersOf q F n) c.program-plain.ensures.value c.in_ok-numbering.ensures.numbers in
    record {
      tree = subst (λ d. IfOk c.generate.result (λ t. tree_of t ≡ d)) (same_tree p n F H are c.requires.facts.is)
          (subst (λ q. IfOk c.generate.result (λ t. tree_of t ≡ written_by (program_of q) (renamed n H) F H n.columns.keys))
          c.program-plain.ensures.value c.generate.ensures.tree);
      formed = c.program-plain.ensures.formed;
      typed = c.program-plain.ensures.typed;
    }
