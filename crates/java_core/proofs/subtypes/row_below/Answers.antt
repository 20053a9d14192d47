use Rattle.std.proofs.Common.{◌≡◌, ℕ, Bool, List, [], ◌∷◌, ◌++◌, Contains, length, sym, ap, ◌∙◌, subst, arith}
use Rattle.std.specs.Prelude.{Result, Ok, Err, IfOk}
use Rattle.std.proofs.lemmas.Grind.{common_steps}
use Rattle.std.proofs.lemmas.List.{nil_from_length}
use Rattle.std.specs.declared.vec.Vec.{Vec}
use Rattle.std.specs.declared.alloc.Global.{Global}
use Rattle.java_core.specs.Subtypes.{IsExactRow, WalkedBelow, GainedTypes}
use Rattle.java_core.specs.Owned.{listed}
use Rattle.java_core.proofs.Walks.{alone, walked-start, walked-step, walked-end}
use Rattle.java_core.proofs.subtypes.row_below.Goals as goal

alone-in : {E : Type 0} (lists : List (Vec ℕ Global)) (n b : ℕ) → listed lists b ≡ [] → (r : Result (List Bool) E) → IfOk r (λ x. length x ≡ 0)
    → IfOk r (λ x. IsExactRow lists n b x)
alone-in lists n b none (Ok x) e = subst (IsExactRow lists n b) (sym (nil_from_length x e)) (alone lists n b none)
alone-in lists n b none (Err x) e = tt

pub returns-then-is_empty : goal.returns-then-is_empty
returns-then-is_empty c =
    let lists = c.args.graph.now.lists.now in
    let zero : length c.listed.result.now ≡ 0 = grind (arith, common_steps) in
    let none : listed lists c.args.b ≡ [] = sym c.listed.ensures ∙ nil_from_length c.listed.result.now zero in
    alone-in lists c.args.graph.now.count c.args.b none c.new.result c.new.ensures.width

pub walk-init : goal.walk-init
walk-init c = subst (WalkedBelow c.args.graph.now.lists.now c.args.graph.now.count c.args.b c.in_ok-row.row)
    (sym (c.in_ok-push.ensures.items ∙ ap (λ l. l ++ c.args.b ∷ []) c.new-waiting.ensures.items))
    (walked-start c.args.graph.now.lists.now c.args.graph.now.count c.args.b c.in_ok-row.row c.in_ok-row.ensures)

pub reach_all-requires-clause-inside : goal.reach_all-requires-clause-inside
reach_all-requires-clause-inside c = λ x k.
    let lt = c.requires.inside.each c.in-Some.x x (subst (λ l. Contains l x) c.listed-in-Some.ensures k) in
    let len = c.walk.invariant.len in
    omega (arith, lt, len)

pub walk-preserved : goal.walk-preserved
walk-preserved c =
    let lists = c.args.graph.now.lists.now in
    let rest = c.pop.new.self.items in
    let x = c.in-Some.x in
    walked-step lists c.args.graph.now.count c.args.b c.requires.inside c.args.known.now c.args.rows.now c.requires.others c.walk.row c.reach_all.new.row rest
    c.reach_all.new.waiting.items x
    (subst (WalkedBelow lists c.args.graph.now.count c.args.b c.walk.row) c.in-Some.ensures.items c.walk.invariant)
    (subst (λ l. GainedTypes c.args.rows.now c.args.known.now l c.walk.row c.reach_all.new.row rest c.reach_all.new.waiting.items) c.listed-in-Some.ensures
    c.in_ok-reach_all.ensures)

pub returns : goal.returns
returns c =
    let none : c.walk.waiting.items ≡ [] = nil_from_length c.walk.waiting.items (omega (arith, c.walk.waiting.ok.0, c.in_default.ensures.cases.0)) in
    walked-end c.args.graph.now.lists.now c.args.graph.now.count c.args.b c.walk.row
    (subst (WalkedBelow c.args.graph.now.lists.now c.args.graph.now.count c.args.b c.walk.row) none c.walk.invariant)
