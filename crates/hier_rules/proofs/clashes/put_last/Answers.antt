use Rattle.std.proofs.Common.{◌∙◌, ap, Some, cond}
use Rattle.std.specs.Prelude.{string_bytes}
use Rattle.std.specs.Str.{bytes_eq, encode_utf8_all}
use Rattle.std.proofs.lemmas.Map.Text.{hash_map_updates_text}
use Rattle.kaba_base.proofs.Texts.{text_test}
use Rattle.indexmap.specs.IndexMap.{get_by_text}
use Rattle.hier_rules.proofs.clashes.put_last.Goals as goal

pub returns-clause-put : goal.returns-clause-put
returns-clause-put c = λ x.
    let old = get_by_text c.args.last.now (encode_utf8_all x) in
    hash_map_updates_text (string_bytes c.in_ok-text.text) c.args.last.now c.insert.new.self _ c.in_ok-old.ensures.updates (encode_utf8_all x)
    ∙ ap (λ bs. cond (bytes_eq bs (encode_utf8_all x)) (Some c.args.c) old) (c.in_ok-text.ensures.ok ∙ c.as_str.ensures.value)
    ∙ ap (λ b. cond b (Some c.args.c) old) (text_test c.args.name.now x)

pub returns-clause-old : goal.returns-clause-old
returns-clause-old c = c.in_ok-old.ensures.old ∙ ap (get_by_text c.args.last.now) (c.in_ok-text.ensures.ok ∙ c.as_str.ensures.value)
