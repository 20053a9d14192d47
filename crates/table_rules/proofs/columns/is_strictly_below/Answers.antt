use Rattle.std.proofs.Common.{◌≡◌, ◌≢◌, false, refl, sym, ◌∙◌}
use Rattle.std.specs.Prelude.{not}
use Rattle.std.proofs.lemmas.Bool.{false≢true}
use Rattle.fact_model.proofs.ClassLemmas.{strictly-exact}
use Rattle.table_rules.proofs.columns.is_strictly_below.Goals as goal

pub returns-then-not-is_same_class : goal.returns-then-not-is_same_class
returns-then-not-is_same_class c =
    let exact = strictly-exact c.args.facts.now c.requires.facts.acyclic c.args.a.0 c.args.b.0 in
    let ne : c.args.a.0 ≢ c.args.b.0 = λ e. false≢true (c.if-not-is_same_class.ensures.1 e) in
    (λ h. exact.1 ne (c.is_below.ensures.0 h), λ s. c.is_below.ensures.1 (exact.0 s).1)

pub returns-else-not-is_same_class : goal.returns-else-not-is_same_class
returns-else-not-is_same_class c =
    let exact = strictly-exact c.args.facts.now c.requires.facts.acyclic c.args.a.0 c.args.b.0 in
    let no : not c.is_same_class.result ≡ false = rw c.if-not-is_same_class.false refl in
    (λ h. absurd (false≢true (sym no ∙ h)), λ s. absurd ((exact.0 s).0 (c.if-not-is_same_class.ensures.0 refl)))
