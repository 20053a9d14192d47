use Rattle.hier_model.proofs.CoverLemmas.{cover_test}
use Rattle.hier_view.proofs.lists.is_upper_cover.Goals as goal

pub returns : goal.returns
returns c = cover_test c.args.order.now c.args.a c.args.b c.requires.order c.is_cover.result c.is_cover.ensures
