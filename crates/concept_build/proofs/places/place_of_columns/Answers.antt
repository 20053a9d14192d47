use Rattle.std.proofs.Common.{refl}
use Rattle.std.specs.Prelude.{◌==◌}
use Rattle.std.specs.Cmp.Lexicographic.{pointwise}
use Rattle.std.proofs.lemmas.Bool.Decides.{Decides-eqb}
use Rattle.std.proofs.lemmas.Slice.Eq.{slice_eq-Decides}
use Rattle.concept_build.proofs.KnownLemmas.{IsFound-position}
use Rattle.concept_build.proofs.places.place_of_columns.Goals as goal

pub returns : goal.returns
returns c =
    let columns = c.args.columns.now in
    IsFound-position (λ v. v.items) (λ x. pointwise (λ a b. a == b) columns x.items) columns (λ x. slice_eq-Decides Decides-eqb columns x.items _
    refl) c.args.places.now.keys c.get_index_of.result c.get_index_of.ensures.index c.get_index_of.ensures.found
