use Rattle.std.proofs.Common.{rules, ◌≡◌, ◌*◌, ◌+◌}
use Rattle.std.specs.Char.{digit_value}
use Rattle.java_lex.proofs.Steps.{split_first, value_over}
use Rattle.java_lex.proofs.scan.+value_after.Goals as goal

pub returns-then-more-gt2147483648 : goal.returns-then-more-gt2147483648
returns-then-more-gt2147483648 t c =
    let e : c.args.value * 10 + c.from.result ≡ c.args.value * 10 + digit_value c.c-item.result = search rules in
    value_over c.args.value c.c-item.result _ c.args.digits.now _ (split_first _ _ c.in-len1-up.len_at_least c.c-item.is) e c.if-more-gt2147483648.true
