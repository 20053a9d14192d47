use Rattle.std.proofs.Common.{◌≡◌, ℕ, Option, Some, None, rules, sym}
use Rattle.std.specs.Option.{option_map, IfSome, IfNone}
use Rattle.kaba_base.specs.declared.MemberId.{MemberId}
use Rattle.java_core.specs.Programs.{Plain, program_of}
use Rattle.java_core.specs.Classes.{own_body, nearest_of}
use Rattle.java_core.specs.Found.{Runs}
use Rattle.java_core.proofs.Subclasses.{IsAcyclic, nearest_of-nearest, nearest-nearest_of}
use Rattle.java_core.proofs.classes.lookup.Goals as goal
use Rattle.java_core.proofs.classes.lookup.Goals.{After-nearest_up}

body : (c : After-nearest_up) → option_map (λ (d : MemberId). d.0) c.nearest_up.result ≡ nearest_of (program_of c.args.p.now)
    (λ k. own_body (program_of c.args.p.now) k c.args.slot) c.args.class.0
body c = c.nearest_up.ensures (λ k. own_body (program_of c.args.p.now) k c.args.slot) (search rules)

module _ (P : Plain) (a s : ℕ) where
  found : (r : Option MemberId) → option_map (λ (d : MemberId). d.0) r ≡ nearest_of P (λ k. own_body P k s) a → IfSome r (λ d. Runs P a s d.0)
  unfolding Runs
  found None e = tt
  found (Some d) e = nearest_of-nearest P (λ k. own_body P k s) (sym e)

  none : (r : Option MemberId) → IsAcyclic P → option_map (λ (d : MemberId). d.0) r ≡ nearest_of P (λ k. own_body P k s) a
      → IfNone r ((d : ℕ) → Runs P a s d → ⊥)
  unfolding Runs
  none None acyclic e = λ d h. cc (nearest-nearest_of P (λ k. own_body P k s) acyclic h, e)
  none (Some d) acyclic e = tt

pub returns-clause-found : goal.returns-clause-found
returns-clause-found c = found (program_of c.args.p.now) c.args.class.0 c.args.slot c.nearest_up.result
    (body (goal.at.returns-clause-found c).After-nearest_up)

pub returns-clause-none : goal.returns-clause-none
returns-clause-none c = none (program_of c.args.p.now) c.args.class.0 c.args.slot c.nearest_up.result c.requires.acyclic
    (body (goal.at.returns-clause-none c).After-nearest_up)
