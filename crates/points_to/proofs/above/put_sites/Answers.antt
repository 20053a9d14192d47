use Rattle.std.proofs.Common.{sym, ◌∙◌, arith}
use Rattle.points_to.proofs.AboveLemmas.{sites_more}
use Rattle.points_to.proofs.above.put_sites.Goals as goal

pub put_site-requires-clause-len : goal.put_site-requires-clause-len
put_site-requires-clause-len c = c.loop-s.invariant.len ∙ sym c.in_ok-classes.ensures.len

pub put_site-requires-clause-widths : goal.put_site-requires-clause-widths
put_site-requires-clause-widths c = λ k lt. let w = c.loop-s.invariant.widths k lt in omega (arith, w)

pub loop-s-preserved : goal.loop-s-preserved
loop-s-preserved c = sites_more c.args.facts.now c.loop-s.rows c.put_site.new.rows c.in_ok-classes.classes c.loop-s.s c.loop-s.invariant
    (rw c.site_at.ensures at c.in_ok-classes.ensures) c.put_site.ensures
