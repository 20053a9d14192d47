-- The static member that was looked for is what the name means.
use Rattle.std.proofs.Common.{◌≡◌, ℕ, Bool, List, Option, Some, None, Result, Ok, refl, ap, ◌∙◌, subst}
use Rattle.std.specs.Option.{option_and_then}
use Rattle.kaba_base.specs.declared.Place.{Place}
use Rattle.java_tree.specs.declared.Id.{Id}
use Rattle.name_rules.specs.declared.Refusal.{Refusal}
use Rattle.name_laws.specs.Answers.{with, GivesValue}
use Rattle.name_laws.specs.Names.{asked}
use Rattle.name_laws.specs.Tables.{Table}
use Rattle.name_laws.specs.Expressions.{static_at, static_member}
use Rattle.name_bodies.specs.Members.{member_found}
use Rattle.name_bodies.proofs.Steps.{follows}

found_is : (n : List ℕ) (p : Place) (f : ℕ → Option Bool) (o : Option ℕ) → member_found n p o (option_and_then f o) ≡ static_member n p f o
found_is n p f None = refl
found_is n p f (Some k) = go (f k)
  where
    go : (s : Option Bool) → member_found n p (Some k) s ≡ static_at n p k s
    go None = refl
    go (Some s) = refl

-- the class before the dot, and then its member
pub static_given : (t : Table) (c : Id) (n : List ℕ) (p : Place) (own : ℕ → Option ℕ) (f : ℕ → Option Bool) (r : Result ℕ Refusal) {owner : ℕ}
    {found : Option ℕ} {static : Option Bool} → asked t.known c.name c.place ≡ Ok owner → found ≡ own owner → static ≡ option_and_then f found
    → GivesValue (λ k. k) r (member_found n p found static)
    → GivesValue (λ k. k) r (with (asked t.known c.name c.place) (λ k. static_member n p f (own k)))
static_given t c n p own f r {found = found} known is kind g =
    follows (λ k. k) r (λ k. static_member n p f (own k)) known
    (subst (GivesValue (λ k. k) r) (ap (member_found n p found) kind ∙ found_is n p f found ∙ ap (static_member n p f) is) g)
