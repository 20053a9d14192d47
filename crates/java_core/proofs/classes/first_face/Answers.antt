use Rattle.std.proofs.Common.{◌≡◌, ℕ, List, Option, Some, None, IfSome, Contains, subst}
use Rattle.std.specs.Option.{option_to_list}
use Rattle.std.proofs.lemmas.List.Elements.{Contains-append_right}
use Rattle.kaba_base.specs.declared.ClassId.{ClassId}
use Rattle.java_core.specs.Plain.{Plain}
use Rattle.java_core.specs.Programs.{program_of}
use Rattle.java_core.specs.Classes.{parent_of, faces_of, supers_of}
use Rattle.java_core.proofs.classes.first_face.Goals as goal

-- an interface that a type names is directly above it
face_above : (P : Plain) (a : ℕ) (faces : List ClassId) (o : Option ClassId) → faces ≡ faces_of P a → IfSome o (λ k. Contains faces k)
    → IfSome o (λ k. Contains (supers_of P a) k)
face_above P a faces None is h = tt
face_above P a faces (Some k) is h = Contains-append_right (option_to_list (parent_of P a)) (faces_of P a) k (subst (λ l. Contains l k) is h)

pub returns : goal.returns
returns c = face_above (program_of c.args.p.now) c.args.class.0 c.faces_of.result.now c.first_of.result c.faces_of.ensures.value c.first_of.ensures
