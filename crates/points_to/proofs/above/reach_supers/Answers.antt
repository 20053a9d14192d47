use Rattle.std.proofs.Common.{◌≡◌, [], ◌++◌, sym, ap, subst}
use Rattle.std.specs.Option.{option_to_list, option_map_or, option_and_then}
use Rattle.fact_model.specs.Classes.{supers_of}
use Rattle.points_to.specs.Above.{GainedClasses}
use Rattle.points_to.proofs.AboveLemmas.{gained-then}
use Rattle.points_to.proofs.above.reach_supers.Goals as goal

pub returns : goal.returns
returns c =
    let class = c.class_at-class.result.now in
    let direct : supers_of c.args.facts.now c.args.x.0 ≡ option_to_list class.parent ++ class.faces.items =
    ap (λ o. option_to_list (option_and_then (λ k. k.parent) o) ++ option_map_or (λ k. k.faces.items) o []) c.class_at-class.ensures in
    subst (λ l. GainedClasses l c.args.row.now c.reach_all.new.row c.args.waiting.now.items c.reach_all.new.waiting.items) (sym direct)
    (gained-then (option_to_list class.parent) class.faces.items _ _ _ _ _ _ c.in_ok-reach_parent.ensures
    (subst (λ l. GainedClasses l c.reach_parent.new.row c.reach_all.new.row c.reach_parent.new.waiting.items c.reach_all.new.waiting.items)
    c.as_slice.ensures.value c.in_ok-reach_all.ensures))
