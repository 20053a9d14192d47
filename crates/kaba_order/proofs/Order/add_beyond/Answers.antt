use Rattle.std.proofs.Common.{sym, ◌∙◌, subst, arith}
use Rattle.std.proofs.lemmas.Bool.{false≢true, eq-eqb, eqb-true}
use Rattle.kaba_bits.proofs.SetLemmas.{bit-below}
use Rattle.kaba_order.specs.Orders.{IsPartialOrder}
use Rattle.kaba_order.proofs.BeyondLemmas.{more_found}
use Rattle.kaba_order.proofs.Order.add_beyond.Goals as goal
use Rattle.kaba_order.proofs.Order.add_beyond.Goals.{then-eq-via-then-eq, then-eq-via-else-eq+then-has}

pub has-requires : goal.has-requires
has-requires c =
    let o = c.args.self.now in
    let order : IsPartialOrder o = subst IsPartialOrder c.self.view_is c.self.invariant.order in
    omega (arith, bit-below o.live c.args.k.0 (order.upper_lives c.args.n.0 c.args.k.0 c.requires.above), c.requires.width)

pub add_above-requires-clause-k : goal.add_above-requires-clause-k
add_above-requires-clause-k c =
    let o = c.args.self.now in
    let order : IsPartialOrder o = subst IsPartialOrder c.self.view_is c.self.invariant.order in
    bit-below o.live c.args.k.0 (order.upper_lives c.args.n.0 c.args.k.0 c.requires.above)

pub returns-then-eq-clause-all : goal.returns-then-eq-clause-all
returns-then-eq-clause-all c = λ up. elim c.then-eq.branch [
  | then-eq-via-then-eq w ↦ absurd (up.1 (sym (eqb-true c.args.k.0 c.args.n.0 (sym w.if-eq.ensures))))
  | then-eq-via-else-eq+then-has w ↦ c.requires.before.closed c.args.k.0 (sym w.if-has.ensures)
]

pub returns-clause-found : goal.returns-clause-found
returns-clause-found c =
    let n = c.args.n.0 in
    let k = c.args.k.0 in
    more_found c.args.self.now n k c.args.beyond.now c.add_above.new.set c.add_above.ensures.bits (subst IsPartialOrder c.self.view_is c.self.invariant.order)
    (c.requires.above, λ e. false≢true (c.if-eq.ensures ∙ eq-eqb k n (sym e))) c.requires.before
