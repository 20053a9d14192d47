use Rattle.std.proofs.Common.{rules, length, ◌∙◌}
use Rattle.java_core.specs.declared.tables.MemberKey.TheVariants as key
use Rattle.java_core.specs.Tables.{place_by}
use Rattle.java_core.specs.Nearest.{has_name}
use Rattle.java_core.proofs.Buckets.{keyed_at, named_there}
use Rattle.java_core.proofs.nearest.name_number.Goals as goal

pub returns : goal.returns
returns g c =
    let keys = g.M.Member.keys in
    let n = length c.args.members.now in
    c.first_among.ensures.value (λ m. has_name keys c.args.name.now m) (search rules)
    ∙ keyed_at (λ m. place_by key.Name n (keys m)) _ c.args.members.now c.listed_under-list.ensures (search rules) c.requires
    (named_there keys n c.args.name.now)
