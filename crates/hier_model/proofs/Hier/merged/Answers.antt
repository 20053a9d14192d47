use Rattle.std.proofs.Common.{◌≡◌, map, length, refl, sym, ap, ◌∙◌, arith}
use Rattle.std.specs.Prelude.{slice_set, slice_index_or, None}
use Rattle.std.specs.Option.{option_map}
use Rattle.hier_model.specs.Hierarchies.{Hierarchy}
use Rattle.hier_model.specs.Edits.{least_of, merged_as, merged_node, merged_origin}
use Rattle.hier_model.proofs.BeginLemmas.{same_parts}
use Rattle.hier_model.proofs.MergedLemmas.{among_below, least_is}
use Rattle.hier_model.proofs.Hier.merged.Goals as goal

pub merged_origins-requires-clause-least : goal.merged_origins-requires-clause-least
merged_origins-requires-clause-least c =
    let fit = c.requires.hierarchy in
    let below = among_below c.args.self.now.order c.args.set.now fit.sized.order c.requires.live c.least_of-least.result.0 c.least_of-least.ensures.among in
    omega (arith, below, fit.sized.origins, ap length (c.deref-3.ensures.value ∙ ap (λ (h : Hierarchy). h.origins) c.self.view_is))

pub returns : goal.returns
returns c =
    let set = c.args.set.now in
    let H = c.args.self.now in
    let m = c.least_of-least.result.0 in
    let view = c.self.view_is in
    let least : least_of H.order set ≡ m = least_is H.order set c.requires.hierarchy.sized.order c.requires.live m c.least_of-least.ensures in
    same_parts _ _ _ _ _ _ _ _ _ _ _ _ _ _ refl
    (c.in_ok-merged_columns.ensures ∙ ap (map (option_map (merged_node set m))) (c.deref.ensures.value ∙ ap (λ (h : Hierarchy). h.columns) view))
    (c.in_ok-merged_rows.ensures ∙ ap (map (merged_node set m)) (c.deref-2.ensures.value ∙ ap (λ (h : Hierarchy). h.rows) view))
    refl refl
    (c.in_ok-merged_origins.ensures
    ∙ ap (λ os. slice_set os m (merged_origin c.args.facts.now (map (λ n. slice_index_or os n.0 None) set)))
    (c.deref-3.ensures.value ∙ ap (λ (h : Hierarchy). h.origins) view)) refl
    ∙ ap (λ l. let h : Hierarchy = record (merged_as c.args.facts.now H set l) { order = H.order } in h) (sym least)
