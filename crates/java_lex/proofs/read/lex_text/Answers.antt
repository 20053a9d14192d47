use Rattle.std.proofs.Common.{ap, ◌∙◌, sym, arith}
use Rattle.java_lex.specs.Lexing.{width, lexed, start}
use Rattle.java_lex.proofs.Reading.{width-chars, gives_along}
use Rattle.java_lex.proofs.read.lex_text.Goals as goal

pub read-requires : goal.read-requires
read-requires c = omega (arith, c.requires, ap width c.as_slice.ensures.value, ap width c.in_ok-chars.ensures.value, width-chars c.args.text.now c.utf8.text)

pub returns : goal.returns
returns c = gives_along c.read.result _ _ c.read.ensures (ap (λ cs. lexed cs 0 start) (sym (c.as_slice.ensures.value ∙ c.in_ok-chars.ensures.value)))
