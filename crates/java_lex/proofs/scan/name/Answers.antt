use Rattle.std.proofs.Common.{rules, ◌≡◌, ◌∙◌, ap, string_bytes}
use Rattle.std.specs.Str.{encode_utf8_all, chars}
use Rattle.std.proofs.lemmas.Str.{encodes_same, encodes-chars, IsUtf8-string_bytes}
use Rattle.java_lex.proofs.Made.{ok_along}
use Rattle.java_lex.proofs.scan.name.Goals as goal

pub returns : goal.returns
returns c =
    let e : string_bytes c.in_ok-text.text ≡ encode_utf8_all c.args.word.now = search rules in
    ok_along c.new.result _ _ c.new.ensures.value (ap chars c.as_str.ensures.value
    ∙ encodes_same (chars (string_bytes c.in_ok-text.text)) c.args.word.now (encodes-chars (string_bytes c.in_ok-text.text)
    (IsUtf8-string_bytes c.in_ok-text.text) ∙ e))
