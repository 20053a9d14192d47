use Rattle.std.proofs.Common.{◌≡◌, ℕ, ◌+◌, ◌<◌, ◌∙◌, ap, sym, subst, None, List, Option, get_or, arith}
use Rattle.kaba_base.proofs.Texts.{bytes_exact}
use Rattle.hier_model.specs.Hierarchies.{member_name}
use Rattle.hier_rules.specs.declared.clashes.ClashPair.{ClashPair}
use Rattle.hier_rules.specs.Namesakes.{last_of, AreClashes}
use Rattle.hier_rules.proofs.ClashLemmas.{limit, last_says, within_some, fewer, with_one}
use Rattle.hier_rules.proofs.clashes.add_clashes.Goals as goal

pub namesakes-init : goal.namesakes-init
namesakes-init c =
    let F = c.args.asked.now.facts.now in
    let H = c.args.asked.now.hier.now in
    let d = c.args.d in
    let xs : List ClashPair = c.args.clashes.now.items in
    let name = member_name H d in
    let o : Option ℕ = get_or c.args.links.now d None in
    let e : o ≡ last_of H name d = c.requires.links.exact d (omega (arith, c.requires.column, c.requires.links.width)) in
    let r = last_says H name d in
    record {
      below = λ k h. within_some H name d (last_of H name d) r.within k (sym e ∙ h);
      named = λ k h. r.named k (sym e ∙ h);
      found = subst (λ (p : Option ℕ). AreClashes F H d (limit p) xs) (sym e) (fewer F H d (limit (last_of H name d)) d xs r.within r.none c.requires.before);
    }

pub namesakes-preserved : goal.namesakes-preserved
namesakes-preserved c =
    let F = c.args.asked.now.facts.now in
    let H = c.args.asked.now.hier.now in
    let d = c.args.d in
    let name = member_name H d in
    let k : ℕ = c.in-Some.c in
    let xs : List ClashPair = c.namesakes.clashes.items in
    let more : List ClashPair = c.add_clash.new.clashes.items in
    let lt : k < d = c.namesakes.invariant.below k c.in-Some.is in
    let same : member_name H k ≡ name = bytes_exact (member_name H k) name (c.namesakes.invariant.named k c.in-Some.is) in
    let was : AreClashes F H d (k + 1) xs = subst (λ (p : Option ℕ). AreClashes F H d (limit p) xs) c.in-Some.is c.namesakes.invariant.found in
    let now : AreClashes F H d k more = subst (λ (l : List ClashPair). AreClashes F H d k l) (sym c.in_ok-add_clash-in-Some.ensures)
    (with_one F H d k xs lt was) in
    let e : get_or c.args.links.now k None ≡ last_of H name k =
    c.requires.links.exact k (omega (arith, lt, c.requires.column, c.requires.links.width)) ∙ ap (λ x. last_of H x k) same in
    let r = last_says H name k in
    record {
      below = λ j h. let b = within_some H name k (last_of H name k) r.within j (sym e ∙ h) in omega (arith, b, lt);
      named = λ j h. r.named j (sym e ∙ h);
      found = subst (λ (p : Option ℕ). AreClashes F H d (limit p) more) (sym e) (fewer F H d (limit (last_of H name k)) k more r.within r.none now);
    }

pub namesakes-smaller : goal.namesakes-smaller
namesakes-smaller c =
    let H = c.args.asked.now.hier.now in
    let d = c.args.d in
    let name = member_name H d in
    let k : ℕ = c.in-Some.c in
    let lt : k < d = c.namesakes.invariant.below k c.in-Some.is in
    let same : member_name H k ≡ name = bytes_exact (member_name H k) name (c.namesakes.invariant.named k c.in-Some.is) in
    let e : get_or c.args.links.now k None ≡ last_of H name k =
    c.requires.links.exact k (omega (arith, lt, c.requires.column, c.requires.links.width)) ∙ ap (λ x. last_of H x k) same in
    let r = last_says H name k in
    let less : limit (last_of H name k) < k + 1 = omega (arith, r.within) in
    subst (λ (p : Option ℕ). limit (get_or c.args.links.now k None) < limit p) (sym c.in-Some.is)
    (subst (λ (p : Option ℕ). limit p < k + 1) (sym e) less)
