use Rattle.std.proofs.Common.{◌≡◌, ap, ◌∙◌, subst, ◌++◌, ◌∷◌}
use Rattle.std.specs.Str.{chars, encode_utf8_all, IsUtf8}
use Rattle.std.specs.Result.{IfOk}
use Rattle.java_core.proofs.MakerNames.{marked_chars, whole_chars}
use Rattle.java_core.proofs.makers.maker_name.Goals as goal

pub returns : goal.returns
returns c =
    let whole = whole_chars c.args.class.now (subst IsUtf8 c.as_str.ensures.value c.as_str.utf8) in
    let bytes : c.as_str-2.result.now ≡ 60 ∷ encode_utf8_all c.args.class.now =
    c.as_str-2.ensures.value ∙ c.in_ok-push_str.ensures.bytes ∙ ap (λ b. b ++ c.as_str.result.now) c.in_ok-text.ensures.ok
    ∙ ap (λ b. 60 ∷ b) c.as_str.ensures.value in
    record { value = subst (λ x. IfOk c.new.result (λ name. name ≡ x)) (ap chars bytes ∙ marked_chars c.args.class.now whole) c.new.ensures.value }
