use Rattle.std.proofs.Common.{map, string_bytes, ◌∙◌}
use Rattle.java_heap.specs.Seen.{value_of}
use Rattle.run_code.specs.Seen.{entry_of}
use Rattle.run_state.specs.Words.{units_of}
use Rattle.run_state.proofs.StartLemmas.{first_state, first_is}
use Rattle.run_state.proofs.starts.start.Goals as goal

pub returns-clause-config : goal.returns-clause-config
returns-clause-config c =
    first_is c.args.p.now (entry_of c.args.entry.now)
    (map (λ w. units_of (string_bytes w)) c.args.words.now.items) c.args.bound c.in_ok-slots.slots c.fit.new.self
    (map value_of c.slots-2.inside.values.items) c.new.result _ c.in_ok-slots.ensures c.in_ok-fit.ensures
    (c.slots-2.view_is ∙ c.in_ok-put_all.ensures) c.new.ensures
    (first_state c.args.p.now _ c.args.bound c.in_ok-words_heap.field-0
    (map value_of c.in_ok-statics.field-0.items) c.new-2.result.items
    c.in_ok-words_heap.ensures.strings c.in_ok-words_heap.ensures.cells c.in_ok-statics.ensures c.new-2.ensures.items)
