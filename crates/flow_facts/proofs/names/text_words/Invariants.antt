use Rattle.std.proofs.Common.{◌≡◌, ◌++◌, drop, map}
use Rattle.std.specs.Prelude.{string_bytes}
use Rattle.std.specs.Str.{bytes_eq, encode_utf8_all}
use Rattle.fact_model.specs.Taken.{texts}
use Rattle.flow_rules.specs.Ordered.{once, once_after}
use Rattle.flow_facts.proofs.names.text_words.Given as goal

abbrev pub invariant-loop-name : goal.invariant-loop-name
invariant-loop-name l = record {
  words : l.words.items ++ once_after bytes_eq encode_utf8_all (map string_bytes l.seen.keys) (drop l.name-index l.name-items)
      ≡ once bytes_eq encode_utf8_all l.name-items;
  set : texts l.seen.keys ≡ l.words.items;
}
