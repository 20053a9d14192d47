use Rattle.std.proofs.Common.{◌∙◌, ap, sym, string_bytes}
use Rattle.std.specs.Str.{chars}
use Rattle.std.proofs.lemmas.Str.{IsUtf8-string_bytes}
use Rattle.std.proofs.lemmas.Slice.Eq.{bytes_eq-Decides}
use Rattle.kaba_base.proofs.Texts.{same_chars}
use Rattle.kaba_base.proofs.names.Name.same.Goals as goal

pub returns : goal.returns
returns c =
    let mine = string_bytes c.self.inside.text in
    let others = string_bytes c.other.inside.text in
    let told = bytes_eq-Decides c.as_str.result.now c.as_str-2.result.now in
    record {
      value = (
        (λ t. sym c.self.view_is ∙ ap chars (sym c.as_str.ensures.value ∙ told.0 (sym c.eq.ensures ∙ t) ∙ c.as_str-2.ensures.value) ∙ c.other.view_is),
        (λ e. c.eq.ensures ∙ told.1 (c.as_str.ensures.value ∙ same_chars mine others (IsUtf8-string_bytes c.self.inside.text)
            (IsUtf8-string_bytes c.other.inside.text) (c.self.view_is ∙ e ∙ sym c.other.view_is) ∙ sym c.as_str-2.ensures.value)),
      );
    }
