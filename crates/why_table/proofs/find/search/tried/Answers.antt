use Rattle.std.proofs.Common.{◌≡◌, List, ℕ, true, false, ◌++◌, refl, sym, ap, ◌∙◌}
use Rattle.why_table.proofs.FindLemmas.{none_tried}
use Rattle.why_table.proofs.find.search.tried.Goals as goal

pub returns-then-follows : goal.returns-then-follows
returns-then-follows c = record { claim_is = refl; follows = c.follows.ensures.0 c.if-follows.true }

pub returns : goal.returns
returns c =
    let from : c.extend_from_slice.new.self.items ≡ c.args.from.now =
    c.in_ok-extend_from_slice.ensures.items ∙ ap (λ (l : List ℕ). l ++ c.args.from.now) c.new-numbers.ensures.items in
    none_tried c.args.asked.now.facts.now c.args.asked.now.steps.now c.args.asked.now.claim c.args.rule c.args.from.now
    (record { claim = c.args.asked.now.claim; rule = c.args.rule; from = c.extend_from_slice.new.self }) refl refl from
    (λ f. let z : false ≡ true = sym c.if-follows.false ∙ c.follows.ensures.1 f in cc z)
