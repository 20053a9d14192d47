use Rattle.std.proofs.Common.{◌≡◌, Option, Some, None, sym, ◌∙◌, subst}
use Rattle.kaba_order.specs.Formers.{IsFormerOf}
use Rattle.hier_model.specs.Hierarchies.{Hierarchy}
use Rattle.hier_model.proofs.PlacesLemmas.{parted}
use Rattle.hier_model.proofs.Hier.part.Goals as goal

pub returns-in-Some : goal.returns-in-Some
returns-in-Some c = λ old b.
    let view = c.self.view_is in
    let order = c.put_back.ensures old.order (subst (λ (h : Hierarchy). IsFormerOf old.order h.order c.args.join.order.former) (sym view) b.order) in
    c.exchange-joined.ensures.made
    ∙ parted old c.args.self.now _ c.args.join c.put_back.new.self (Some c.in-Some.places) view order c.in-Some.is b

pub returns : goal.returns
returns c = λ old b.
    let view = c.self.view_is in
    let order = c.put_back.ensures old.order (subst (λ (h : Hierarchy). IsFormerOf old.order h.order c.args.join.order.former) (sym view) b.order) in
    parted old c.args.self.now _ c.args.join c.put_back.new.self None view order c.in_default.is b
