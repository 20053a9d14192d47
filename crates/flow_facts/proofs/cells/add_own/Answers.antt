-- One list of the table has the field more.
use Rattle.std.proofs.Common.{◌≡◌, ◌++◌, ◌∷◌, [], map, sym, ap, ◌∙◌}
use Rattle.std.proofs.lemmas.List.{map-append}
use Rattle.flow_facts.specs.Owned.{own_at}
use Rattle.flow_facts.specs.Seen.{field_cell_seen}
use Rattle.flow_facts.proofs.Passed.{on_ok}
use Rattle.flow_facts.proofs.Owned.{own_index, own_set}
use Rattle.flow_facts.proofs.cells.add_own.Goals as goal

pub returns-clause-value : goal.returns-clause-value
returns-clause-value c =
    let vs = c.args.own.now.items in
    let i = c.args.field.owner.0 in
    let f = field_cell_seen c.args.field in
    let r = c.index_mut.result.now in
    on_ok c.put.result (λ h k.
    let more : map field_cell_seen c.put.new.list.items ≡ own_at vs i ++ f ∷ [] =
    ap (map field_cell_seen) h ∙ map-append field_cell_seen r.items (c.args.field ∷ [])
    ∙ ap (λ l. l ++ f ∷ []) (sym (own_index vs i r c.requires c.index_mut.ensures.value)) in
    own_set vs i k c.put.new.list f c.requires more) c.put.ensures.value
