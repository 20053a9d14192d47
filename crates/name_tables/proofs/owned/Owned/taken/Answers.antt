use Rattle.std.proofs.Common.{None}
use Rattle.std.specs.Str.{encode_utf8_all}
use Rattle.std.proofs.lemmas.Map.Text.{hash_map_updates_text}
use Rattle.indexmap.specs.IndexMap.{get_by_text}
use Rattle.name_tables.proofs.OwnedLemmas.{in_table}
use Rattle.name_tables.proofs.owned.Owned.taken.Goals as goal

pub returns-in-Some-clause-rest : goal.returns-in-Some-clause-rest
returns-in-Some-clause-rest c = λ d n.
    in_table d c.args.name.now n c.as_str.result.now None (get_by_text c.args.self.now.numbers (encode_utf8_all n)) _ c.as_str.ensures.value
    (hash_map_updates_text c.as_str.result.now c.args.self.now.numbers c.swap_remove.new.self None c.swap_remove.ensures.updates (encode_utf8_all n))
