use Rattle.std.proofs.Common.{◌∙◌}
use Rattle.hier_model.specs.Edits.{renamed_member}
use Rattle.hier_model.proofs.Pushed.{pushed}
use Rattle.hier_model.proofs.moves.renamed_members.Goals as goal

pub loop-d-preserved : goal.loop-d-preserved
loop-d-preserved c =
    pushed (renamed_member c.args.facts.now c.args.members.now c.args.c c.args.name.now) c.loop-d.d c.in_ok-copy.field-0 c.loop-d.renamed.items
    c.push.new.self.items c.in_ok-push.ensures.items
    (c.in_ok-copy.ensures.value ∙ c.renamed_member-new.ensures) c.loop-d.invariant
