use Rattle.std.proofs.Common.{◌≡◌, false, subst, sym}
use Rattle.serde_json.specs.Written.{has_float}
use Rattle.lattice_view.proofs.FloatLemmas.{lattice_whole}
use Rattle.lattice_view.proofs.json.line_of.Goals as goal

pub in_one_line-requires : goal.in_one_line-requires
in_one_line-requires c = subst (λ d. has_float d ≡ false) (sym c.in_ok-value.ensures) (lattice_whole c.args.facts.now c.args.lattice.now)
