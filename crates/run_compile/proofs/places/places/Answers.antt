use Rattle.std.proofs.Common.{◌≡◌, ◌==◌, [], ◌∷◌, ◌++◌, length, position, sym, ap, ◌∙◌, arith, length-append}
use Rattle.std.specs.Option.{unwrap_or}
use Rattle.java_core.specs.Programs.{program_of, field_seen}
use Rattle.kaba_base.specs.declared.ClassId.{ClassId}
use Rattle.java_meaning.specs.Languages.{layout}
use Rattle.run_code.specs.Code.{place_of}
use Rattle.run_compile.proofs.Placed.{seen_in, seen_all, placed_more, place_is, places_all}
use Rattle.run_compile.proofs.places.places.Goals as goal

pub loop-i-preserved : goal.loop-i-preserved
loop-i-preserved c =
    let P = program_of c.args.p.now in
    let i = c.loop-i.i in
    let k = c.field-item.result in
    let at = seen_in field_seen _ _ i k c.deref-field-items.ensures.value c.loop-i-test.true c.field-item.is in
    let place = c.in_ok-place_in.ensures ∙ ap (λ l. unwrap_or (position (λ g. g == i) l) 0) c.in_ok-last-2.ensures.1 in
    let pushed : c.push.new.self.items ≡ c.loop-i.places.items ++ c.in_ok-place_in.field-0 ∷ [] = c.in_ok-push.ensures.items in
    record {
      kept = c.in_ok-last-2.ensures.1 ∙ ap (λ (d : ClassId). layout P d.0) (sym c.in_ok-last-2.ensures.0);
      counted = omega (arith, c.loop-i.invariant.counted, ap length pushed, length-append c.loop-i.places.items (c.in_ok-place_in.field-0 ∷ []));
      placed = rw pushed (placed_more c.loop-i.places.items i c.in_ok-place_in.field-0 (place_of P) c.loop-i.invariant.counted c.loop-i.invariant.placed
          (place_is P i _ (field_seen k) at place));
    }

pub returns : goal.returns
returns c =
    let all = seen_all field_seen _ _ c.loop-i.i c.deref-field-items.ensures.value c.loop-i-test.false c.loop-i.auto.i-end in
    places_all (program_of c.args.p.now) c.loop-i.places.items c.loop-i.i c.loop-i.invariant.counted all c.loop-i.invariant.placed
