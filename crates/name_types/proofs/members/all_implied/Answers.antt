use Rattle.std.proofs.Common.{map, ap, ◌∙◌}
use Rattle.std.specs.Prelude.{is_some}
use Rattle.java_tree.specs.Syntax.{decls}
use Rattle.java_core.specs.Programs.{class_seen}
use Rattle.name_tables.proofs.SpotLemmas.{same_ok}
use Rattle.name_types.specs.Found.{members_seen}
use Rattle.name_types.proofs.WriterLemmas.{writer_told, implied_next}
use Rattle.name_types.proofs.members.all_implied.Goals as goal

pub loop-decl-preserved : goal.loop-decl-preserved
loop-decl-preserved c =
    let tree = decls c.args.list.now in
    record {
      rest = implied_next tree c.args.list.now c.loop-decl.decl-index c.decl-item.result c.loop-decl.owner c.in_ok-owner.owner
          (members_seen c.loop-decl.draft) (members_seen c.implied_step.new.draft) c.has_writer-above.result _ c.loop-decl-test.true c.decl-item.is
          (c.has_writer-above.ensures ∙ ap is_some (writer_told tree (map class_seen c.args.classes.now.items) c.in_ok-writers.writers.items c.loop-decl.owner
          c.requires.classes c.in_ok-writers.ensures))
          (same_ok _ _ c.in_ok-implied_step.ensures.given) (same_ok _ _ c.in_ok-owner.ensures) c.loop-decl.invariant.rest;
      found = c.in_ok-implied_step.ensures.found;
    }
