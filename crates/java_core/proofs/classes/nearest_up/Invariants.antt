use Rattle.std.proofs.Common.{◌≡◌, ℕ, Option}
use Rattle.std.specs.Option.{option_map}
use Rattle.kaba_base.specs.declared.ClassId.{ClassId}
use Rattle.kaba_base.specs.declared.MemberId.{MemberId}
use Rattle.java_core.specs.Programs.{program_of}
use Rattle.java_core.specs.Classes.{nearest}
use Rattle.java_core.proofs.classes.nearest_up.Given as goal

-- none so far
abbrev pub invariant-up : goal.invariant-up
invariant-up g l = (f : ℕ → Option ℕ) → ((k : ClassId) (r : Option MemberId) → goal.F-post g l.own k r → option_map (λ d. d.0) r ≡ f k.0)
    → nearest (program_of l.p) f l.steps l.at.0 ≡ nearest (program_of l.p) f l.initial.steps l.initial.at.0

abbrev pub decreases-up : goal.decreases-up
decreases-up g l = l.steps
