use Rattle.std.proofs.Common.{rules, length}
use Rattle.java_core.specs.Programs.{program_of}
use Rattle.java_core.specs.declared.tables.MemberKey.TheVariants as key
use Rattle.java_core.specs.MemberKeys.{method_keys}
use Rattle.java_core.specs.Tables.{place_by}
use Rattle.java_core.proofs.Buckets.{keyed_at, offer_there}
use Rattle.java_core.proofs.own.methods_named.Goals as goal

pub returns : goal.returns
returns c k =
    let n = length c.args.p.now.methods.items in
    keyed_at (λ m. place_by key.Name n (method_keys m)) _ c.args.p.now.methods.items c.listed_under.ensures (search rules)
    c.args.p.now.tables_shown.methods.members.named (offer_there n (program_of c.args.p.now) k c.args.name.now)
