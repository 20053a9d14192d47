use Rattle.std.proofs.Common.{◌≡◌, drop}
use Rattle.java_tree.specs.Syntax.{heads}
use Rattle.name_laws.specs.Answers.{run}
use Rattle.name_laws.specs.Members.{interface_step}
use Rattle.name_types.specs.Found.{members_seen}
use Rattle.name_types.specs.Found.{AreDeclarationsFound}
use Rattle.name_types.proofs.members.interface_members.Given as goal

-- the methods so far, and then the rest
abbrev pub invariant-loop-head : goal.invariant-loop-head
invariant-loop-head l = record {
  rest : run (interface_step l.known l.owner) (members_seen l.draft) (heads (drop l.head-index l.head-items))
      ≡ run (interface_step l.known l.owner) (members_seen l.fn.draft) (heads l.list.items);
  found : AreDeclarationsFound l.draft;
}
