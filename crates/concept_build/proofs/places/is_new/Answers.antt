use Rattle.std.proofs.Common.{refl}
use Rattle.std.specs.Prelude.{◌==◌}
use Rattle.std.specs.Cmp.Lexicographic.{pointwise}
use Rattle.std.proofs.lemmas.Bool.Decides.{Decides-eqb}
use Rattle.std.proofs.lemmas.Slice.Eq.{slice_eq-Decides}
use Rattle.concept_build.proofs.KnownLemmas.{IsAddition-insert_key}
use Rattle.concept_build.proofs.places.is_new.Goals as goal

pub returns : goal.returns
returns c =
    let columns = c.args.columns in
    IsAddition-insert_key (λ v. v.items) columns c.args.known.now.keys c.insert_full.new.self.keys c.in_ok-added.added
    (λ x y. pointwise (λ a b. a == b) x.items y.items) (λ x. slice_eq-Decides Decides-eqb columns.items x.items _ refl)
    c.in_ok-added.ensures.added c.in_ok-added.ensures.keys
