use Rattle.std.proofs.Common.{◌∙◌, ap, string_bytes}
use Rattle.std.specs.Str.{chars}
use Rattle.std.specs.Char.Utf16.{utf16_lossy_chars}
use Rattle.std.proofs.lemmas.Str.{encodes_same, encodes-chars, IsUtf8-string_bytes}
use Rattle.java_print.proofs.Adding.{ok_along}
use Rattle.java_print.proofs.put.characters.Goals as goal

pub returns : goal.returns
returns c = ok_along c.decoded.result _ _ c.decoded.ensures (ap chars c.as_str.ensures.value
    ∙ encodes_same (chars (string_bytes c.in_ok-text.text)) (utf16_lossy_chars c.args.units.now) (encodes-chars (string_bytes c.in_ok-text.text)
    (IsUtf8-string_bytes c.in_ok-text.text) ∙ c.in_ok-text.ensures))
