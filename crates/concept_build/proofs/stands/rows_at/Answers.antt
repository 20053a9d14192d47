use Rattle.std.proofs.Common.{length, map, refl, subst, arith}
use Rattle.std.proofs.lemmas.Bool.{false≢true}
use Rattle.std.proofs.lemmas.List.{map-append}
use Rattle.fact_model.specs.Concepts.{RowStands}
use Rattle.kaba_base.specs.declared.RowId.{RowId}
use Rattle.kaba_bits.specs.Sets.{bit, IsNoneFrom}
use Rattle.kaba_bits.proofs.ListLemmas.{ListsBelow-push, ListsBelow-skip, ListsBelow-rest}
use Rattle.concept_build.proofs.StandLemmas.{row_below, none_rows}
use Rattle.concept_build.proofs.stands.rows_at.Goals as goal
use Rattle.concept_build.proofs.stands.rows_at.Goals.{then-row_stands+in_ok-push, else-row_stands}

pub row_stands-requires-clause-r : goal.row_stands-requires-clause-r
row_stands-requires-clause-r c = row_below _ _ _ _ c.requires.concept c.in-Some.r (rw c.extent-extent.ensures at c.in-Some.ensures.holds)

pub overflow_add-at : goal.overflow_add-at
overflow_add-at c =
    omega (arith, row_below _ _ _ _ c.requires.concept c.in-Some.r (rw c.extent-extent.ensures at c.in-Some.ensures.holds), c.requires.rows)

pub loop-r-preserved : goal.loop-r-preserved
loop-r-preserved c =
    let T = c.args.table.now in
    let A = c.args.item.now.0 in
    let B = c.args.item.now.1 in
    let P = RowStands T B in
    let r = c.in-Some.r in
    let found = rw c.extent-extent.ensures at c.in-Some.ensures in
    let lt = row_below T c.args.width A B c.requires.concept r found.holds in
    let none = none_rows T c.args.width A B c.requires.concept c.loop-r.at r (omega (arith, lt)) found.least in
    let listed = ListsBelow-rest P c.loop-r.at _ c.loop-r.invariant.listed r found.low none in
    record {
      at = omega (arith, lt);
      listed = elim c.if-row_stands.branch [
        | then-row_stands+in_ok-push w ↦ rw (w.rows-is, w.in_ok-push.ensures.items, map-append) (ListsBelow-push P r _ listed (w.if-row_stands.ensures.0 refl))
        | else-row_stands w ↦ rw w.rows-is (ListsBelow-skip P r _ listed (λ h. false≢true (w.if-row_stands.ensures.1 h)))
      ];
    }

pub returns : goal.returns
returns c =
    let T = c.args.table.now in
    let A = c.args.item.now.0 in
    let B = c.args.item.now.1 in
    let none : IsNoneFrom (bit A) c.loop-r.at (length T) = subst (IsNoneFrom (bit A) c.loop-r.at) c.requires.concept.extent.len
    (rw c.extent-extent.ensures at c.in_default.ensures) in
    ListsBelow-rest (RowStands T B) c.loop-r.at (map (λ (x : RowId). x.0) c.loop-r.rows.items) c.loop-r.invariant.listed
    (length T) c.loop-r.invariant.at (none_rows T c.args.width A B c.requires.concept c.loop-r.at (length T) (omega arith) none)
