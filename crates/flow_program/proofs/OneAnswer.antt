-- A program has one answer: two that it may have are the same.
use Rattle.std.proofs.Common.{◌≡◌, List, refl, sym, ap, ◌∙◌, rules}
use Rattle.std.specs.Prelude.{◌≢◌}
use Rattle.std.proofs.lemmas.Option.{same_Some}
use Rattle.java_core.specs.Programs.{Plain}
use Rattle.fact_model.specs.declared.facts.Facts.{Facts}
use Rattle.flow_rules.specs.declared.faults.FactsFault.{FactsFault}
use Rattle.flow_rules.specs.declared.faults.FactsFault.TheVariants as fault
use Rattle.flow_rules.specs.Facts.{IsFactsRefusal, IsSameSet, IsWithinLimits}
use Rattle.flow_program.specs.Known.{AreProgramFacts}
use Rattle.flow_program.specs.Same.{AreSameFacts}

-- two lists that have the items of a third
both : {A : Type 0} (xs ys zs : List A) → IsSameSet xs zs → IsSameSet ys zs → IsSameSet xs ys
both xs ys zs f g x = ((λ c. (g x).1 ((f x).0 c)), (λ c. (f x).1 ((g x).0 c)))

pub same_facts : (P : Plain) (F G : Facts) → AreProgramFacts P F → AreProgramFacts P G → AreSameFacts F G
same_facts P F G f g =
    let a = f.is in
    let b = g.is in
    let m = f.names in
    let n = g.names in
    search (rules, both)

pub same_faults : (P : Plain) (e f : FactsFault) → IsFactsRefusal P e → IsFactsRefusal P f → e ≢ fault.Memory → f ≢ fault.Memory → e ≡ f
same_faults P (fault.TooMany k i) (fault.TooMany l j) a b m n =
    ap (λ t. fault.TooMany t.what t.number) (same_Some (record { what = k; number = i }) (record { what = l; number = j }) (sym a ∙ b))
same_faults P fault.Memory f a b m n = absurd (m refl)
same_faults P (fault.TooMany k i) fault.Memory a b m n = absurd (n refl)

-- a program that has facts is refused for want of memory alone
pub not_refused : (P : Plain) (e : FactsFault) → IsWithinLimits P → IsFactsRefusal P e → e ≡ fault.Memory
not_refused P (fault.TooMany k i) w r = absurd (let e = sym r ∙ w.counts in cc)
not_refused P fault.Memory w r = refl
