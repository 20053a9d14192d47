use Rattle.std.proofs.Common.{◌+◌, ◌++◌, ◌∷◌, drop, map, sym, ap, ◌∙◌}
use Rattle.std.specs.Prelude.{string_bytes}
use Rattle.std.specs.Str.{bytes_eq, encode_utf8_all}
use Rattle.std.proofs.lemmas.List.{drop_more}
use Rattle.flow_rules.specs.Ordered.{once_after}
use Rattle.flow_facts.proofs.names.text_words.Goals as goal

pub loop-name-preserved : goal.loop-name-preserved
loop-name-preserved c =
    let xs = c.deref-name-items.result.now in
    let i = c.loop-name.name-index in
    let x = c.name-item.result in
    record {
      words =
          c.in-Ok-add_word.ensures.value (drop (i + 1) xs)
          ∙ ap (λ l. c.loop-name.words.items ++ once_after bytes_eq encode_utf8_all (map string_bytes c.loop-name.seen.keys) l)
          (sym (drop_more xs i x c.loop-name-test.true ∙ ap (λ y. y ∷ drop (i + 1) xs) (sym c.name-item.is)))
          ∙ c.loop-name.invariant.words;
      set = c.in-Ok-add_word.ensures.names c.loop-name.invariant.set;
    }
