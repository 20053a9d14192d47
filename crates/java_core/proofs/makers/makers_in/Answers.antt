use Rattle.std.proofs.Common.{rules, length, refl}
use Rattle.java_core.specs.declared.tables.MemberKey.TheVariants as key
use Rattle.java_core.specs.MemberKeys.{method_keys}
use Rattle.java_core.specs.Tables.{place_by}
use Rattle.java_core.proofs.Buckets.{keyed_at}
use Rattle.java_core.proofs.MakerNames.{maker_owner, maker_there}
use Rattle.java_core.proofs.makers.makers_in.Goals as goal

pub returns-then-own-le-FEW : goal.returns-then-own-le-FEW
returns-then-own-le-FEW c = keyed_at (λ m. m.owner.0) _ c.args.p.now.methods.items c.listed_under-own.ensures refl
    c.args.p.now.tables_shown.methods.members.own (maker_owner c.args.class.0 c.args.name.now)

pub returns : goal.returns
returns c =
    let n = length c.args.p.now.methods.items in
    keyed_at (λ m. place_by key.OwnerAndName n (method_keys m)) _ c.args.p.now.methods.items c.listed_under.ensures (search rules)
    c.args.p.now.tables_shown.methods.members.by_name (maker_there n c.args.class.0 c.args.name.now)
