use Rattle.std.proofs.Common.{◌≡◌, ℕ, List, [], ◌∷◌, ap, ◌∙◌, Option, Some}
use Rattle.java_core.specs.Programs.{Plain, PlainMethod, code_seen}
use Rattle.flow_rules.specs.declared.items.PointItem.TheVariants as point
use Rattle.flow_rules.specs.Lists.{Numbers}
use Rattle.flow_rules.specs.Facts.{PlainBody, body_if, param_points}
use Rattle.flow_facts.specs.Seen.{numbers_seen}
use Rattle.flow_facts.proofs.infos.method_body.Goals as goal

abbrev one : ℕ → ℕ → List (Option ℕ) → Option ℕ → List PlainBody
one c t p r = record { column = c; this = t; params = p; result = r } ∷ []

one_body : (N : Numbers) (P : Plain) (c m : ℕ) (k : PlainMethod) (t : ℕ) (p : List (Option ℕ)) (r : Option ℕ) → Some t ≡ N.point (point.This m)
    → p ≡ param_points N P m k → r ≡ N.point (point.Result m) → one c t p r ≡ body_if N P c m k (N.point (point.This m))
one_body N P c m k t p r h e g =
    ap (λ q. one c t q r) e ∙ ap (one c t (param_points N P m k)) g ∙ ap (body_if N P c m k) h

pub returns-in-Ok : goal.returns-in-Ok
returns-in-Ok c = record {
  value = λ P. one_body (numbers_seen c.args.given.now.numbering.now) P c.args.c c.args.m (code_seen c.args.code.now) c.in-Some.this
      c.in-Ok.made.items c.point-result.result c.in-Some.ensures.value (c.in-Ok.ensures.value P) c.point-result.ensures.value;
}
