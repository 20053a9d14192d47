use Rattle.std.proofs.Common.{◌∙◌, ap, ◌∷◌}
use Rattle.std.specs.Str.{bytes_eq, encode_utf8_all}
use Rattle.java_core.proofs.MakerNames.{by_bytes, none_begins, other_begins, begins_so}
use Rattle.java_core.proofs.makers.is_maker_name.Goals as goal

pub returns-in-empty : goal.returns-in-empty
returns-in-empty c = record {
  value =
      none_begins c.as_bytes.result.now (encode_utf8_all c.args.class.now) c.in-empty.len_below
      ∙ ap (λ b. bytes_eq b (60 ∷ encode_utf8_all c.args.class.now)) (c.as_bytes.ensures.value ∙ c.as_str.ensures.value)
      ∙ by_bytes c.args.name.now c.args.class.now;
}

pub returns-then-first-eq-MARK : goal.returns-then-first-eq-MARK
returns-then-first-eq-MARK c = record {
  value =
      begins_so c.eq.result c.as_bytes.result.now (encode_utf8_all c.args.class.now) c.in-len1-up.len_at_least c.if-first-eq-MARK.true
      (c.eq.ensures ∙ ap (bytes_eq _) (c.as_bytes-then-first-eq-MARK.ensures.value ∙ c.as_str-then-first-eq-MARK.ensures.value))
      ∙ ap (λ b. bytes_eq b (60 ∷ encode_utf8_all c.args.class.now)) (c.as_bytes.ensures.value ∙ c.as_str.ensures.value)
      ∙ by_bytes c.args.name.now c.args.class.now;
}

pub returns-else-first-eq-MARK : goal.returns-else-first-eq-MARK
returns-else-first-eq-MARK c = record {
  value =
      other_begins c.as_bytes.result.now (encode_utf8_all c.args.class.now) c.in-len1-up.len_at_least c.if-first-eq-MARK.false
      ∙ ap (λ b. bytes_eq b (60 ∷ encode_utf8_all c.args.class.now)) (c.as_bytes.ensures.value ∙ c.as_str.ensures.value)
      ∙ by_bytes c.args.name.now c.args.class.now;
}
