use Rattle.std.proofs.Common.{◌≡◌, length, map, sym, ap, ◌∙◌, subst}
use Rattle.std.specs.List.{range_with_len}
use Rattle.fact_model.specs.Concepts.{pair_of, AreAllConcepts, IsLattice}
use Rattle.hier_model.specs.Hierarchies.{IsHierarchyOf}
use Rattle.hier_model.specs.Listed.{listed_column, row_node}
use Rattle.hier_model.specs.Names.{member_names, type_names}
use Rattle.hier_model.specs.Start.{order_of, origins_of, column_place, row_place}
use Rattle.hier_model.proofs.BeginLemmas.{extents_alike, intents_wide, order_orders, columns_start, rows_start, same_parts, keeps_table, start_fits}
use Rattle.hier_model.proofs.begin.start.Goals as goal

pub order_of-requires-clause-widths : goal.order_of-requires-clause-widths
order_of-requires-clause-widths c =
    let t = c.args.table.now in
    let all = extents_alike t.rows.items t.width c.args.lattice.now.concepts.items c.requires.lattice c.requires.table.sized.widths in
    rw c.deref.ensures.value all

pub order_of-requires-clause-order : goal.order_of-requires-clause-order
order_of-requires-clause-order c =
    let t = c.args.table.now in
    rw c.deref.ensures.value (order_orders t.rows.items t.width c.args.lattice.now.concepts.items c.requires.lattice c.requires.table.sized.widths)

pub origins_of-requires-clause-intents : goal.origins_of-requires-clause-intents
origins_of-requires-clause-intents c =
    let t = c.args.table.now in
    let all = intents_wide t.rows.items t.width c.args.lattice.now.concepts.items c.requires.lattice c.requires.table.sized.widths in
    rw c.deref-4.ensures.value (λ k lt. all k lt ∙ c.requires.table.sized.columns)

pub returns-clause-value : goal.returns-clause-value
returns-clause-value c =
    let F = c.args.facts.now in
    let T = c.args.table.now.rows.items in
    let cs = c.args.lattice.now.concepts.items in
    let n = length F.columns.items in
    let xs = map pair_of cs in
    let lattice : IsLattice T n cs = subst (λ w. IsLattice T w cs) c.requires.table.sized.columns c.requires.lattice in
    let order : c.in_ok-order.order ≡ order_of xs = c.in_ok-order.ensures ∙ ap (λ l. order_of (map pair_of l)) c.deref.ensures.value in
    let wide : c.len.result ≡ n = c.len.ensures ∙ F.columns.ok.0 in
    let columns : c.in_ok-columns.columns.items ≡ map (column_place T xs) (range_with_len 0 n) =
    c.in_ok-columns.ensures ∙ ap (λ l. map (listed_column l) (range_with_len 0 c.len.result)) c.deref-2.ensures.value
    ∙ ap (λ k. map (listed_column cs) (range_with_len 0 k)) wide ∙ columns_start T n cs lattice in
    let tall : c.len-2.result ≡ length T = c.len-2.ensures ∙ F.rows.ok.0 ∙ sym c.requires.table.sized.rows in
    let rows : c.in_ok-rows.rows.items ≡ map (row_place xs) T =
    c.in_ok-rows.ensures ∙ ap (λ l. map (row_node l) (range_with_len 0 c.len-2.result)) c.deref-3.ensures.value
    ∙ ap (λ k. map (row_node cs) (range_with_len 0 k)) tall ∙ rows_start T n cs lattice in
    let origins : c.in_ok-origins.origins.items ≡ origins_of F xs = c.in_ok-origins.ensures ∙ ap (λ l. origins_of F (map pair_of l)) c.deref-4.ensures.value in
    let members : c.in_ok-members.members.items ≡ member_names F n = c.in_ok-members.ensures in
    let types : c.in_ok-types.types.items ≡ type_names F (member_names F n) (origins_of F xs) (length (origins_of F xs)) =
    c.in_ok-types.ensures ∙ ap (λ l. type_names F l c.deref-6.result.now (length c.deref-6.result.now)) (c.deref-5.ensures.value ∙ members)
    ∙ ap (λ l. type_names F (member_names F n) l (length l)) (c.deref-6.ensures.value ∙ origins) in
    let table : c.in_ok-table.table.items ≡ T = c.in_ok-table.ensures ∙ c.deref-7.ensures.value in
    same_parts c.in_ok-order.order (order_of xs) c.in_ok-columns.columns.items (map (column_place T xs) (range_with_len 0 n))
    c.in_ok-rows.rows.items
    (map (row_place xs) T) c.in_ok-types.types.items
    (type_names F (member_names F n) (origins_of F xs) (length (origins_of F xs))) c.in_ok-members.members.items (member_names F n)
    c.in_ok-origins.origins.items (origins_of F xs) c.in_ok-table.table.items T
    order columns rows types members origins table

pub returns-clause-fits : goal.returns-clause-fits
returns-clause-fits c =
    let F = c.args.facts.now in
    let t = c.args.table.now in
    let xs = map pair_of c.args.lattice.now.concepts.items in
    let all : AreAllConcepts t.rows.items (length F.columns.items) xs = subst (λ w. AreAllConcepts t.rows.items w xs) c.requires.table.sized.columns
    c.requires.lattice.all in
    subst (IsHierarchyOf F) (sym (returns-clause-value c)) (start_fits F c.requires.range c.requires.order t.rows.items
    (keeps_table F t c.requires.table) xs all)
