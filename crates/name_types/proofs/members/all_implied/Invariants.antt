use Rattle.std.proofs.Common.{◌≡◌, drop}
use Rattle.java_tree.specs.Syntax.{decls}
use Rattle.name_laws.specs.Members.{with_implied}
use Rattle.name_types.specs.Found.{AreDeclarationsFound, members_seen}
use Rattle.name_types.proofs.members.all_implied.Given as goal

-- the members so far, and then the rest
abbrev pub invariant-loop-decl : goal.invariant-loop-decl
invariant-loop-decl l = record {
  rest : with_implied (decls l.list) (l.owner, members_seen l.draft) (decls (drop l.decl-index l.list)) ≡ with_implied (decls l.list)
      (1, members_seen l.fn.draft) (decls l.list);
  found : AreDeclarationsFound l.draft;
}
