use Rattle.std.proofs.Common.{◌≡◌, sym, subst, arith}
use Rattle.java_tree.specs.Syntax.{decl_of, tree_of}
use Rattle.kaba_work.specs.Sample.{class_tree, sample_tree}
use Rattle.java_tree.specs.Formed.{IsFormedTree, IsGiven}
use Rattle.kaba_work.proofs.FormedTree.{sample_formed, sample_given}
use Rattle.kaba_work.proofs.Ranges.{one_pushed}
use Rattle.kaba_work.proofs.Listed.{is_sample}
use Rattle.kaba_work.proofs.classes.sample.Goals as goal

pub loop-i-preserved : goal.loop-i-preserved
loop-i-preserved c =
    one_pushed decl_of class_tree c.loop-i.decls.items c.push.new.self.items c.loop-i.i c.in_ok-class.field-0
    c.loop-i.invariant c.in_ok-push.ensures.items c.in_ok-class.ensures

pub returns : goal.returns
returns c =
    let is : tree_of (record { decls = c.push-2.new.self }) ≡ sample_tree c.args.number =
    is_sample c.loop-i.decls.items c.push-2.new.self.items c.in_ok-main_class.field-0 c.loop-i.i c.args.number c.loop-i.invariant
    (omega arith) c.in_ok-push-2.ensures.items
    c.in_ok-main_class.ensures in
    record {
      tree = is;
      formed = subst IsFormedTree (sym is) (sample_formed c.args.number c.requires.most);
      given = subst IsGiven (sym is) (sample_given c.args.number c.requires.most);
    }
