use Rattle.std.proofs.Common.{◌∙◌, ◌≡◌, refl, sym, ap, lit<}
use Rattle.std.specs.Prelude.{codes}
use Rattle.std.specs.Str.{chars, encode_utf8_all}
use Rattle.std.proofs.lemmas.Result.{IfOk-weaker}
use Rattle.std.proofs.lemmas.Str.{chars-encodes, encode_ascii}
use Rattle.write_forms.proofs.names.text_name.Goals as goal

spelled : encode_utf8_all (codes "String") ≡ codes "String"
spelled =
    rw (
      encode_ascii 83 (lit< tt),
      encode_ascii 116 (lit< tt),
      encode_ascii 114 (lit< tt),
      encode_ascii 105 (lit< tt),
      encode_ascii 110 (lit< tt),
      encode_ascii 103 (lit< tt),
    )
    refl

pub returns : goal.returns
returns c = IfOk-weaker c.new.result _ (λ n. n ≡ codes "String") (λ n h. h ∙ ap chars (sym spelled) ∙ chars-encodes (codes "String") refl) c.new.ensures.value
