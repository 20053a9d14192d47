use Rattle.std.proofs.Common.{◌≡◌, ◌++◌, drop, map, get_or, None}
use Rattle.std.specs.Option.{option_map}
use Rattle.hier_model.specs.Edits.{all_there}
use Rattle.hier_model.proofs.origins.origins_there.Given as goal

-- with those that are left, it is the whole
abbrev pub invariant-loop-n : goal.invariant-loop-n
invariant-loop-n l = option_map (λ ks. l.classes.items ++ ks) (all_there (map (λ n. get_or l.origins n.0 None) (drop l.n-index l.set)))
    ≡ all_there (map (λ n. get_or l.origins n.0 None) l.set)
