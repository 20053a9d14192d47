-- No condition holds in a body of a sample, since it resolves.
use Rattle.std.proofs.Common.{◌≡◌, ℕ, ◌≤◌, false, map, Some, refl, sym, ap, ◌∙◌, subst}
use Rattle.std.proofs.lemmas.Bool.{false≢true}
use Rattle.std.proofs.lemmas.Option.{same_Some}
use Rattle.java_tree.specs.Syntax.{Statements}
use Rattle.java_core.specs.Programs.{Plain, PlainMethod}
use Rattle.name_rules.specs.declared.Refusal.{Refusal}
use Rattle.name_rules.specs.Outline.{MethodAt, is_maker, outline}
use Rattle.name_rules.specs.Meanings.{bound_names}
use Rattle.name_rules.specs.Resolves.{StsResolve, params_from, here_of, BodyResolves, r_no_body, r_body, r_maker}
use Rattle.name_rules.specs.Conditions.{StsFault}
use Rattle.name_laws.proofs.Excludes.{sts-holds}
use Rattle.kaba_work.specs.Sample.{sample_tree}
use Rattle.kaba_work.specs.Program.{method_made, main_made}
use Rattle.kaba_work.proofs.Places.{StandsAt, is_row, is_last}
use Rattle.kaba_work.proofs.Outlined.{method_at, main_at}
use Rattle.kaba_work.proofs.Bodies.{method_resolves, main_resolves}

module _ (n : ℕ) (most : n ≤ 100) where
  abbrev O : Plain
  O = outline (sample_tree n)

  abbrev HasFault : MethodAt → Statements → Refusal → Type 0
  HasFault m ss r = StsFault O (here_of m) false (map (λ q. q.name) m.head.params) ss r

  body_holds : (m : MethodAt) (k : PlainMethod) (ss : Statements) (r : Refusal) → is_maker m ≡ false → BodyResolves O m k
      → map (λ q. q.name) m.head.params ≡ bound_names (params_from 0 k.params) → m.body ≡ Some ss
      → HasFault m ss r → ⊥
  body_holds m k ss r other (r_no_body none b l) names e f = cc (sym none ∙ e)
  body_holds m k ss r other (r_maker is some b u h c) names e f = false≢true (sym other ∙ is)
  body_holds m k ss r other (r_body {ss = given} {xs = xs} is some b h c) names e f =
      sts-holds O (here_of m) k names f
      (subst (λ z. StsResolve O (here_of m) k false (params_from 0 k.params) z xs) (same_Some given ss (sym some ∙ e)) h)

  pub no_body_fault : (j : ℕ) (m : MethodAt) (ss : Statements) (r : Refusal) → StandsAt method_at (main_at n) n j m → m.body ≡ Some ss → HasFault m ss r → ⊥
  no_body_fault j m ss r (is_row lt e) b f =
      body_holds (method_at j) (method_made j) ss r refl (method_resolves n most j) refl (sym (ap (λ (z : MethodAt). z.body) e) ∙ b)
      (subst (λ (z : MethodAt). HasFault z ss r) e f)
  no_body_fault j m ss r (is_last l e) b f =
      body_holds (main_at n) (main_made n) ss r refl (main_resolves n most) refl (sym (ap (λ (z : MethodAt). z.body) e) ∙ b)
      (subst (λ (z : MethodAt). HasFault z ss r) e f)
