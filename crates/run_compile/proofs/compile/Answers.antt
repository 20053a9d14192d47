use Rattle.std.proofs.Common.{◌≡◌, [], ◌∷◌, ◌++◌, length, map, slice_get, sym, ap, ◌∙◌, arith, length-append, subst}
use Rattle.java_core.specs.Programs.{program_of, method_seen}
use Rattle.std.specs.Option.{option_map}
use Rattle.run_code.specs.Seen.{op_of, entry_of}
use Rattle.run_compile.specs.Bodies.{IsMethodCode}
use Rattle.run_compile.specs.Scopes.{plain}
use Rattle.run_compile.proofs.Compiled.{one_more, all_fit}
use Rattle.run_compile.proofs.Placed.{seen_in, seen_all}
use Rattle.run_compile.proofs.compile.Goals as goal

pub add_method-requires : goal.add_method-requires
unfolding plain
add_method-requires c = record { formed = c.requires.formed; places = c.in_ok-places.ensures }

pub loop-i-preserved : goal.loop-i-preserved
unfolding plain
loop-i-preserved c =
    let P = program_of c.args.p.now in
    let k = c.method-item.result in
    let here = seen_in method_seen _ _ c.loop-i.i k c.deref-method-items.ensures.value c.loop-i-test.true c.method-item.is in
    let number = c.in_ok-small.ensures in
    let at = ap (λ j. slice_get P.methods j) number ∙ here in
    let entry = c.in_ok-add_method.field-0 in
    let pushed : c.push.new.self.items ≡ c.loop-i.entries.items ++ entry ∷ [] = c.in_ok-push.ensures.items in
    record {
      counted = omega (arith, c.loop-i.invariant.counted, ap length pushed, length-append c.loop-i.entries.items (entry ∷ []));
      compiled = rw pushed (one_more P c.in_ok-small.field-0 (method_seen k) (map op_of c.loop-i.code.items) (map op_of c.add_method.new.code.items)
          c.loop-i.entries.items (number ∙ sym c.loop-i.invariant.counted) entry at
          c.loop-i.invariant.compiled
          (subst (λ m. IsMethodCode P c.in_ok-small.field-0 m (map op_of c.loop-i.code.items) (map op_of c.add_method.new.code.items) (option_map entry_of entry))
          c.code.ensures.value c.in_ok-add_method.ensures));
    }

pub returns : goal.returns
returns c =
    let P = program_of c.args.p.now in
    let all = seen_all method_seen _ _ c.loop-i.i c.deref-method-items.ensures.value c.loop-i-test.false c.loop-i.auto.i-end in
    record { fits = all_fit P (map op_of c.loop-i.code.items) c.loop-i.entries.items (c.loop-i.invariant.counted ∙ sym all) c.loop-i.invariant.compiled }
