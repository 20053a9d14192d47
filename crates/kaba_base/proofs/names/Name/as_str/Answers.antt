use Rattle.std.proofs.Common.{◌∙◌, ap, sym, string_bytes}
use Rattle.std.specs.Str.{encode_utf8_all}
use Rattle.std.proofs.lemmas.Str.{encodes-chars, IsUtf8-string_bytes}
use Rattle.kaba_base.proofs.names.Name.as_str.Goals as goal

pub returns : goal.returns
returns c = record {
  value = c.as_str.ensures.value ∙ sym (encodes-chars (string_bytes c.self.inside.text) (IsUtf8-string_bytes c.self.inside.text))
      ∙ ap encode_utf8_all c.self.view_is;
}
