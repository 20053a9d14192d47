use Rattle.std.proofs.Common.{◌≡◌, length, map, sym, subst, arith}
use Rattle.std.proofs.lemmas.List.{length-map, with_items_is}
use Rattle.java_core.specs.Plain.{class_seen}
use Rattle.java_core.specs.Subtypes.{AreInside, AllExact}
use Rattle.java_core.proofs.Entries.{direct-inside, above-given}
use Rattle.java_core.proofs.subtypes.subtypes_of.Goals as goal

pub fill-requires-clause-inside : goal.fill-requires-clause-inside
fill-requires-clause-inside c =
    let all = map class_seen c.args.all.now.items in
    let n = c.args.count in
    let len : length all ≡ n = omega (arith, c.requires, length-map c.args.all.now.items class_seen) in
    subst (λ m. AreInside m c.as_slice-2.result.now) len
    (subst (AreInside (length all)) (sym c.as_slice-2.ensures.value) (direct-inside all n c.in_ok-lists.lists.items c.in_ok-lists.ensures))

pub returns : goal.returns
returns c =
    let all = map class_seen c.args.all.now.items in
    let n = c.args.count in
    let len : length all ≡ n = omega (arith, c.requires, length-map c.args.all.now.items class_seen) in
    let exact : AllExact c.in_ok-lists.lists.items n c.fill.new.rows = subst (λ l. AllExact l n c.fill.new.rows) c.as_slice-2.ensures.value
    c.in_ok-fill.ensures in
    above-given all n c.in_ok-lists.lists.items c.fill.new.rows _ len c.in_ok-lists.ensures exact
    (with_items_is c.in_ok-below.below c.fill.new.rows (let l = exact.len in let k = c.in_ok-below.ensures.len in omega arith))
