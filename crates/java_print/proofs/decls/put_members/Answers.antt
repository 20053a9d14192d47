use Rattle.std.proofs.Common.{List}
use Rattle.java_print.specs.Layout.{member_items, members_items}
use Rattle.std.proofs.Common.{refl}
use Rattle.java_tree.specs.Syntax.{member_of, members}
use Rattle.java_tree.specs.declared.Member.{Member}
use Rattle.java_print.proofs.DeclAdding.{each_step, each_end}
use Rattle.java_print.proofs.decls.put_members.Goals as goal

pub loop-member-preserved : goal.loop-member-preserved
loop-member-preserved c = each_step (λ (ms : List Member). members_items (members ms)) (λ (m : Member). member_items (member_of m)) (λ x xs r. refl) _
    c.loop-member-test.true c.member-item.is c.loop-member.invariant c.in_ok-put_member.ensures.value

pub returns : goal.returns
returns c = record { value = each_end (λ (ms : List Member). members_items (members ms)) _ c.loop-member-test.false c.loop-member.invariant }
