use Rattle.std.proofs.Common.{rules, length, refl}
use Rattle.java_core.specs.declared.tables.MemberKey.TheVariants as key
use Rattle.java_core.specs.MemberKeys.{method_keys}
use Rattle.java_core.specs.Tables.{place_by}
use Rattle.java_core.proofs.Buckets.{keyed_at, slot_owner, slot_there, body_slot}
use Rattle.java_core.proofs.own.methods_in.Goals as goal

pub returns-then-own-le-FEW-clause-declaration : goal.returns-then-own-le-FEW-clause-declaration
returns-then-own-le-FEW-clause-declaration c = keyed_at (λ m. m.owner.0) _ c.args.p.now.methods.items c.listed_under-own.ensures refl
    c.args.p.now.tables_shown.methods.members.own (slot_owner c.args.class.0 c.args.slot)

pub returns-then-own-le-FEW-clause-body : goal.returns-then-own-le-FEW-clause-body
returns-then-own-le-FEW-clause-body c = keyed_at (λ m. m.owner.0) _ c.args.p.now.methods.items c.listed_under-own.ensures refl
    c.args.p.now.tables_shown.methods.members.own (λ m e. slot_owner c.args.class.0 c.args.slot m (body_slot c.args.class.0 c.args.slot m e))

pub returns-clause-declaration : goal.returns-clause-declaration
returns-clause-declaration c =
    let n = length c.args.p.now.methods.items in
    keyed_at (λ m. place_by key.OwnerAndSlot n (method_keys m)) _ c.args.p.now.methods.items c.listed_under.ensures (search rules)
    c.args.p.now.tables_shown.methods.by_slot (slot_there n c.args.class.0 c.args.slot)

pub returns-clause-body : goal.returns-clause-body
returns-clause-body c =
    let n = length c.args.p.now.methods.items in
    keyed_at (λ m. place_by key.OwnerAndSlot n (method_keys m)) _ c.args.p.now.methods.items c.listed_under.ensures (search rules)
    c.args.p.now.tables_shown.methods.by_slot (λ m e. slot_there n c.args.class.0 c.args.slot m (body_slot c.args.class.0 c.args.slot m e))
