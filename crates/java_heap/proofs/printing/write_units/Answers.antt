use Rattle.std.proofs.Common.{◌++◌, sym, ap, ◌∙◌, append-nil}
use Rattle.std.specs.Option.{unwrap_or}
use Rattle.std.specs.Prelude.{map}
use Rattle.std.specs.Str.{encode_utf8_all}
use Rattle.java_heap.proofs.Units.{utf16_chars-drop_all}
use Rattle.java_heap.proofs.printing.write_units.Goals as goal

pub returns : goal.returns
returns c =
    sym (append-nil c.loop-at.out.items)
    ∙ ap (λ l. c.loop-at.out.items ++ encode_utf8_all (map (λ o. unwrap_or o 63) l)) (sym (utf16_chars-drop_all c.args.units.now c.loop-at.at c.loop-at-test.false))
    ∙ c.loop-at.invariant
