use Rattle.std.proofs.Common.{◌≡◌, ℕ, List, ◌+◌, ◌<◌, length, get_or, Err, sym, ◌∙◌, subst, arith}
use Rattle.hier_model.specs.Hierarchies.{Hierarchy}
use Rattle.hier_model.specs.declared.edits.Edit.{Edit}
use Rattle.hier_edit.specs.declared.ApplyFault.TheVariants.{Breaks}
use Rattle.hier_rules.specs.First.{MeetsEdit}
use Rattle.hier_rules.specs.Index.{AreClashesOf}
use Rattle.hier_tree.specs.Trees.{tried, try_of}
use Rattle.tree_merge.specs.Attempts.{IsAttempt}
use Rattle.tree_merge.proofs.AttemptLemmas.{refused_at, last_more}
use Rattle.tree_merge.proofs.attempts.first_accepted.Goals as goal

pub attempt_one-requires-clause-names : goal.attempt_one-requires-clause-names
attempt_one-requires-clause-names c =
    subst (λ (m : List (List ℕ)). AreClashesOf c.args.given.now.facts.now m c.args.given.now.clashes.now.items)
    (sym c.tries.invariant.members) c.requires.names

pub tries-preserved : goal.tries-preserved
tries-preserved c =
    let F = c.args.given.now.facts.now in
    let pt = c.args.given.now.sets.now in
    let H = c.args.hier.now in
    let T = c.args.tries.now in
    let k = c.tries.k in
    let e = c.index-tries-k.result in
    let b = c.in-Some-2.field-0 in
    let cur = c.tries.hier in
    let a = subst (IsAttempt F pt cur c.attempt_one.new.hier e) c.in-Some-2.is c.in_ok-attempt_one.ensures.attempt in
    let there : tried F pt H (try_of (get_or T k e)) ≡ Err (Breaks b) =
    subst (λ (x : Edit). tried F pt H (try_of x) ≡ Err (Breaks b)) c.index-tries-k.is
    (subst (λ (z : Hierarchy). tried F pt z (try_of e) ≡ Err (Breaks b)) c.tries.invariant.same a.1) in
    let more : k + 1 < length T = omega (arith, c.tries.invariant.below, c.if-k-tries.false) in
    record {
      below = more;
      same = a.0 ∙ c.tries.invariant.same;
      first = sym (refused_at F pt H T k e (Breaks b) c.tries.invariant.below there) ∙ c.tries.invariant.first;
      last = sym (last_more T k e more) ∙ c.tries.invariant.last;
      is = c.attempt_one.ensures.is;
      meets = subst (MeetsEdit F pt) (sym a.0) c.tries.invariant.meets;
      members = c.attempt_one.ensures.members ∙ c.tries.invariant.members;
      known = c.attempt_one.ensures.known;
    }
