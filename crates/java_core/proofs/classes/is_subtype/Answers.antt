use Rattle.std.proofs.Common.{◌≡◌, ◌||◌, map, refl, ap, ◌∙◌}
use Rattle.std.specs.Prelude.{◌==◌}
use Rattle.java_core.specs.Plain.{class_seen}
use Rattle.java_core.specs.Programs.{program_of}
use Rattle.java_core.specs.Squares.{is_above}
use Rattle.java_core.specs.Subtypes.{subtype_rows}
use Rattle.java_core.proofs.SeenClasses.{rows-subclass, rows-below}
use Rattle.java_core.proofs.classes.is_subtype.Goals as goal

said : (c : goal.After-is_above) → (c.eq.result || c.is_above.result)
    ≡ ((c.args.a.0 == c.args.b.0) || is_above (subtype_rows (map class_seen c.args.p.now.classes.items)) c.args.a.0 c.args.b.0)
said c = ap (λ x. x || c.is_above.result) c.eq.ensures
    ∙ ap (λ x. (c.args.a.0 == c.args.b.0) || x) (c.is_above.ensures ∙ ap (λ r. is_above r c.args.a.0 c.args.b.0) c.args.p.now.above_shown)

pub returns-clause-value : goal.returns-clause-value
returns-clause-value c =
    rows-below (program_of c.args.p.now) c.args.p.now.classes.items refl c.requires c.args.a.0 c.args.b.0 _ (said c)

pub returns-clause-exact : goal.returns-clause-exact
returns-clause-exact c =
    rows-subclass (program_of c.args.p.now) c.args.p.now.classes.items refl c.requires c.args.a.0 c.args.b.0 _ (said c)
