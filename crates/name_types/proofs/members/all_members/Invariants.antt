use Rattle.std.proofs.Common.{◌≡◌, drop}
use Rattle.java_tree.specs.Syntax.{decls}
use Rattle.name_laws.specs.Answers.{run}
use Rattle.name_laws.specs.Members.{decl_step}
use Rattle.name_types.specs.Found.{members_seen}
use Rattle.name_types.specs.Found.{AreDeclarationsFound}
use Rattle.name_types.proofs.members.all_members.Given as goal

-- the members so far, and then the rest
abbrev pub invariant-loop-decl : goal.invariant-loop-decl
invariant-loop-decl l = record {
  rest : run (decl_step l.known) (l.owner, members_seen l.draft) (decls (drop l.decl-index l.list)) ≡ run (decl_step l.known)
      (1, members_seen l.fn.draft) (decls l.list);
  found : AreDeclarationsFound l.draft;
}
