use Rattle.std.proofs.Common.{◌++◌, ◌∙◌, ap, refl}
use Rattle.std.specs.Str.{encode_utf8_all}
use Rattle.java_lex.specs.declared.TokenKind.TheVariants as kinds
use Rattle.java_print.specs.Items.{units_written}
use Rattle.java_print.proofs.Adding.{on_ok, adds_quoted}
use Rattle.java_print.proofs.put.put_string_literal.Goals as goal

pub returns : goal.returns
returns c = record {
  value = on_ok c.put_char-2.result c.put_char-2.ensures.value (λ h. adds_quoted c.args.into.now.items c.put_char.new.into.items
      c.put_units.new.into.items c.put_char-2.new.into.items 34 (units_written (c.args.units.now)) (kinds.Str c.args.units.now) refl
      c.in_ok-put_char.ensures.value (c.in_ok-put_units.ensures.value ∙ ap (λ us. c.put_char.new.into.items ++ encode_utf8_all (units_written us))
      c.as_slice.ensures.value) h);
}
