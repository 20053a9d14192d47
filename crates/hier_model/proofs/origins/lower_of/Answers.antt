use Rattle.std.proofs.Common.{◌+◌, get_or, sym, subst, arith, Contains}
use Rattle.std.proofs.lemmas.List.{get_or_default}
use Rattle.std.proofs.lemmas.List.Elements.{Contains-get_or}
use Rattle.kaba_base.specs.declared.ClassId.{ClassId}
use Rattle.hier_model.proofs.LowestLemmas.{Only, only_taken, only_left}
use Rattle.hier_model.proofs.origins.lower_of.Goals as goal
use Rattle.hier_model.proofs.origins.lower_of.Goals.{then-below, else-below}

pub loop-class-preserved : goal.loop-class-preserved
loop-class-preserved c =
    let F = c.args.facts.now in
    let cs = c.args.classes.now in
    let i = c.loop-class.class-index in
    let low = c.loop-class.lower in
    let d : ClassId = record { 0 = 0 } in
    let x = get_or cs i d in
    let is = λ (e : ClassId). get_or_default cs i d e (omega arith) in
    elim c.if-below.branch [
      | then-below w ↦ record {
        member = subst (Contains cs) (sym w.lower-is) (Contains-get_or cs i d (omega arith));
        only = subst (Only F c.requires.range.acyclic cs (i + 1)) (sym w.lower-is) (only_taken F c.requires.range.acyclic cs i low x (omega arith) is
            (sym w.if-below.ensures.value) c.loop-class.invariant.only);
      }
      | else-below w ↦ record {
        member = subst (Contains cs) (sym w.lower-is) c.loop-class.invariant.member;
        only = subst (Only F c.requires.range.acyclic cs (i + 1)) (sym w.lower-is)
            (only_left F c.requires.range.acyclic cs i low x c.loop-class.invariant.member is (sym w.if-below.ensures.value)
            c.loop-class.invariant.only);
      }
    ]
