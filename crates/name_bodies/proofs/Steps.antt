-- Steps of the loops over lists.
use Rattle.std.proofs.Common.{◌≡◌, Result, Ok, ap, sym, subst}
use Rattle.name_rules.specs.declared.Refusal.{Refusal}
use Rattle.name_rules.specs.declared.Refusal.TheVariants as refusals
use Rattle.name_laws.specs.Answers.{with, GivesValue, IsRefused}

-- a fault passes on
pub passes : {B D : Type 0} (r : Refusal) (o : Result B Refusal) (go : B → Result D Refusal) → IsRefused r o → IsRefused r (with o go)
passes refusals.Memory o go h = tt
passes (refusals.Unknown n p) o go h = ap (λ x. with x go) h
passes (refusals.Twice n p) o go h = ap (λ x. with x go) h
passes (refusals.Loop n p) o go h = ap (λ x. with x go) h
passes (refusals.Overload n p) o go h = ap (λ x. with x go) h
passes (refusals.TwoKinds n p) o go h = ap (λ x. with x go) h
passes (refusals.PrivateReused n p) o go h = ap (λ x. with x go) h
passes refusals.NoMain o go h = ap (λ x. with x go) h
passes (refusals.NotInProfile f p) o go h = ap (λ x. with x go) h

-- what is given of what follows a step is given of both
pub follows : {A B D : Type 0} (f : A → B) (r : Result A Refusal) {o : Result D Refusal} {d : D} (go : D → Result B Refusal) → o ≡ Ok d
    → GivesValue f r (go d) → GivesValue f r (with o go)
follows f r go e g = subst (λ o. GivesValue f r (with o go)) (sym e) g
