use Rattle.std.proofs.Common.{rules, ◌≡◌, unsigned_abs, arith, ◌<◌, ◌^◌, ◌<ℤ◌, ◌≤ℤ◌, pos}
use Rattle.std.proofs.lemmas.Int.{ints}
use Rattle.java_print.proofs.Adding.{adds_negative, adds_positive}
use Rattle.java_print.proofs.put.put_int.Goals as goal

pub returns-in_ok-put_decimal : goal.returns-in_ok-put_decimal
returns-in_ok-put_decimal c = let l : c.args.value <ℤ pos 0 = omega (arith, ints) in record {
  value = adds_negative c.args.into.now.items c.put_mark.new.into.items c.put_decimal.new.into.items c.args.value l c.in_ok-put_mark.ensures.value
      c.in_ok-put_decimal.ensures.value;
}

pub returns-in_ok-put_decimal-2 : goal.returns-in_ok-put_decimal-2
returns-in_ok-put_decimal-2 c =
    let s : c.unsigned_abs.result < 2 ^ 64 = omega (arith, c.unsigned_abs.ensures.bound) in
    let l : pos 0 ≤ℤ c.args.value = omega (arith, ints) in
    let e : c.unsigned_abs.result ≡ unsigned_abs c.args.value = search rules in
    record {
      value = adds_positive c.args.into.now.items c.put_decimal-else-value-lt0.new.into.items c.args.value c.unsigned_abs.result l e s
          c.in_ok-put_decimal-2.ensures.value;
    }
