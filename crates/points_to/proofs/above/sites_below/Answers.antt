use Rattle.std.proofs.Common.{◌∙◌, sym, subst, arith}
use Rattle.std.proofs.lemmas.Bool.{false≢true}
use Rattle.std.proofs.lemmas.List.{with_items_is}
use Rattle.points_to.specs.Above.{AreSitesBelow}
use Rattle.points_to.proofs.above.sites_below.Goals as goal

pub put_sites-requires-clause-rows : goal.put_sites-requires-clause-rows
put_sites-requires-clause-rows c =
    let empty = c.in_ok-rows.ensures in
    subst (AreSitesBelow c.args.facts.now 0) (sym c.deref_mut.ensures.value) (record {
      len = empty.len;
      widths = empty.widths;
      sound = λ k s b. absurd (false≢true (sym (empty.empty k s) ∙ b));
      whole = λ k s lt b. absurd (omega (arith, lt));
    })

pub returns : goal.returns
returns c = rw (with_items_is c.in_ok-rows.rows c.put_sites.new.rows (omega arith)) c.in_ok-put_sites.ensures
