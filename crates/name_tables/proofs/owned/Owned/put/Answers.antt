use Rattle.std.proofs.Common.{Some, ap, ◌∙◌}
use Rattle.std.specs.Prelude.{nat_eq, string_bytes, ◌==◌}
use Rattle.std.specs.Str.{bytes_eq, encode_utf8_all}
use Rattle.std.proofs.lemmas.Map.Text.{hash_map_updates_text}
use Rattle.std.proofs.lemmas.Slice.Eq.{bytes_eq-Decides}
use Rattle.indexmap.specs.IndexMap.{get, get_by_text}
use Rattle.name_tables.specs.Owned.{owned_in}
use Rattle.name_tables.proofs.OwnedLemmas.{in_table, put_back}
use Rattle.name_tables.proofs.owned.Owned.put.Goals as goal

pub returns : goal.returns
returns c = λ d n.
    put_back (c.args.class == d) (bytes_eq c.args.name.now n) c.args.number (owned_in c.args.self.now d n) (get nat_eq c.taken-numbers.result d)
    (owned_in c.taken-numbers.new.self d n) (get nat_eq c.insert.new.self d) _
    (λ e. c.taken-numbers.ensures.taken d ∙ ap (owned_in c.args.self.now d) ((bytes_eq-Decides c.args.name.now n).0 e))
    (c.taken-numbers.ensures.rest d n) (c.in_ok-insert.ensures.updates.0 d)
    (in_table d c.args.name.now n (string_bytes c.in_ok-text.text) (Some c.insert.new.self)
    (get_by_text c.taken-numbers.new.self.numbers (encode_utf8_all n)) _ (c.in_ok-text.ensures.ok ∙ c.as_str.ensures.value)
    (hash_map_updates_text (string_bytes c.in_ok-text.text) c.taken-numbers.new.self.numbers c.insert-2.new.self (Some c.insert.new.self)
    c.in_ok-insert-2.ensures.updates (encode_utf8_all n)))
