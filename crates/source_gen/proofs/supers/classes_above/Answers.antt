use Rattle.std.proofs.Common.{◌≡◌, ℕ, ◌<◌, Bool, List, length, false, sym, ap, ◌∙◌, subst}
use Rattle.std.proofs.lemmas.List.{length-set}
use Rattle.kaba_bits.specs.Sets.{bit, row}
use Rattle.kaba_bits.proofs.SetLemmas.{bit-below}
use Rattle.kaba_order.specs.Orders.{Ordered}
use Rattle.source_gen.proofs.Uppers.{classes_left}
use Rattle.source_gen.proofs.supers.classes_above.Goals as goal

pub returns : goal.returns
returns c =
    let F = c.args.nodes.now.facts.now in
    let H = c.args.nodes.now.source.hier.now in
    let n = c.args.n.0 in
    let P = c.requires.nodes.hierarchy.sized.order in
    let old = c.in_ok-above.above in
    let met = c.and_into.new.self in
    let at : old ≡ row H.order.le n = c.in_ok-above.ensures ∙ (c.above.ensures ∙ ap (λ (o : Ordered). row o.le n) c.order.ensures) in
    let below : n < length H.order.live = bit-below H.order.live n c.requires.node in
    let wide : length old ≡ length H.order.live = ap (λ (r : List Bool). length r) at ∙ P.widths n (subst (λ (w : ℕ). n < w) (sym P.count) below) in
    let kept : length met ≡ length H.order.live = c.and_into.ensures.width ∙ wide in
    record {
      width = ap (λ (r : List Bool). length r) c.remove.ensures ∙ length-set met n false ∙ kept;
      exact = λ a. ap (λ (r : List Bool). bit r a) c.remove.ensures
          ∙ classes_left F H n old c.args.nodes.now.classes.now met at c.requires.nodes.classes c.and_into.ensures.meet
          (subst (λ (w : ℕ). n < w) (sym kept) below) a;
    }
