use Rattle.std.proofs.Common.{rules, length, refl, ap₂}
use Rattle.java_core.specs.declared.tables.MemberKey.TheVariants as key
use Rattle.java_core.specs.Tables.{name_bucket, place_by}
use Rattle.java_core.proofs.Buckets.{keyed_at}
use Rattle.java_core.proofs.own.named_in.Goals as goal

pub returns-then-own-le-FEW : goal.returns-then-own-le-FEW
returns-then-own-le-FEW g c p is = keyed_at (λ m. (g.M.Member.keys m).owner) p c.args.members.now c.listed_under-own.ensures refl c.requires.own
    (λ m e. (is m e).0)

pub returns : goal.returns
returns g c p is =
    let n = length c.args.members.now in
    keyed_at (λ m. place_by key.OwnerAndName n (g.M.Member.keys m)) p c.args.members.now c.listed_under.ensures (search rules) c.requires.by_name
    (λ m e. ap₂ (name_bucket n) (is m e).0 (is m e).1)
