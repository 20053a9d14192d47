use Rattle.std.proofs.Common.{ap, ◌∙◌, sym, ◌≡◌, subst}
use Rattle.std.specs.Str.{IsUtf8, chars}
use Rattle.std.specs.Str.Lossy.{utf8_valid_len}
use Rattle.kaba_base.specs.declared.Place.{Place}
use Rattle.java_lex.specs.declared.LexFault.TheVariants as faults
use Rattle.java_lex.specs.Lexing.{lexed, start, byte_place}
use Rattle.java_lex.proofs.Reading.{tokens_ok, tokens_err, gives_along, fails}
use Rattle.java_lex.proofs.read.lex.Goals as goal

pub returns-in-Ok : goal.returns-in-Ok
returns-in-Ok c =
    let e : c.in-Ok.text.now ≡ c.args.bytes.now.items = c.in-Ok.ensures.cases.0 ∙ c.as_slice.ensures.value in
    let u : IsUtf8 c.args.bytes.now.items = subst IsUtf8 c.as_slice.ensures.value c.in-Ok.ensures.cases.1 in
    record { value = gives_along c.lex_text.result _ _ c.lex_text.ensures (tokens_ok c.args.bytes.now.items u ∙ ap (λ bs. lexed (chars bs) 0 start) (sym e)) }

pub returns-in-Err : goal.returns-in-Err
returns-in-Err c =
    let e = c.as_slice.ensures.value in
    let n : c.valid_up_to.result ≡ utf8_valid_len c.args.bytes.now.items = c.valid_up_to.ensures ∙ c.in-Err.ensures.valid_len ∙ ap utf8_valid_len e in
    record {
      value = tokens_err c.args.bytes.now.items c.valid_up_to.result (λ u. c.in-Err.ensures.cases.0 (subst IsUtf8 (sym e) u)) n
          ∙ ap (λ (p : Place). fails (faults.BadByte p))
          (sym (c.byte_place.ensures ∙ ap (λ bs. byte_place bs c.valid_up_to.result) c.as_slice-in-Err.ensures.value));
    }
