use Rattle.std.proofs.Common.{◌≡◌, drop}
use Rattle.java_tree.specs.Syntax.{members}
use Rattle.name_laws.specs.Answers.{run}
use Rattle.name_laws.specs.Members.{member_step}
use Rattle.name_types.specs.Found.{members_seen}
use Rattle.name_types.specs.Found.{AreDeclarationsFound}
use Rattle.name_types.proofs.members.class_members.Given as goal

-- the members so far, and then the rest
abbrev pub invariant-loop-member : goal.invariant-loop-member
invariant-loop-member l = record {
  rest : run (member_step l.known l.owner l.in_abstract) (members_seen l.draft) (members (drop l.member-index l.member-items))
      ≡ run (member_step l.known l.owner l.in_abstract) (members_seen l.fn.draft) (members l.list.items);
  found : AreDeclarationsFound l.draft;
}
