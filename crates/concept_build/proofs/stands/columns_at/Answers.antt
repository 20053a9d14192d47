use Rattle.std.proofs.Common.{map, refl, subst, arith}
use Rattle.std.proofs.lemmas.Bool.{false≢true}
use Rattle.std.proofs.lemmas.List.{map-append}
use Rattle.fact_model.specs.Concepts.{ColumnStands}
use Rattle.kaba_base.specs.declared.ColId.{ColId}
use Rattle.kaba_bits.specs.Sets.{bit, IsNoneFrom}
use Rattle.kaba_bits.proofs.ListLemmas.{ListsBelow-push, ListsBelow-skip, ListsBelow-rest}
use Rattle.concept_build.proofs.StandLemmas.{column_below, none_columns}
use Rattle.concept_build.proofs.stands.columns_at.Goals as goal
use Rattle.concept_build.proofs.stands.columns_at.Goals.{then-column_stands+in_ok-push, else-column_stands}

pub column_stands-requires-clause-c : goal.column_stands-requires-clause-c
column_stands-requires-clause-c c = column_below _ _ _ _ c.requires.concept c.in-Some.c (rw c.intent-intent.ensures at c.in-Some.ensures.holds)

pub overflow_add-at : goal.overflow_add-at
overflow_add-at c =
    omega (arith, column_below _ _ _ _ c.requires.concept c.in-Some.c (rw c.intent-intent.ensures at c.in-Some.ensures.holds))

pub loop-c-preserved : goal.loop-c-preserved
loop-c-preserved c =
    let T = c.args.table.now in
    let w = c.args.width in
    let A = c.args.item.now.0 in
    let B = c.args.item.now.1 in
    let P = ColumnStands T A in
    let k = c.in-Some.c in
    let found = rw c.intent-intent.ensures at c.in-Some.ensures in
    let lt = column_below T w A B c.requires.concept k found.holds in
    let none = none_columns T w A B c.requires.concept c.loop-c.at k (omega (arith, lt)) found.least in
    let listed = ListsBelow-rest P c.loop-c.at _ c.loop-c.invariant.listed k found.low none in
    record {
      at = omega (arith, lt);
      listed = elim c.if-column_stands.branch [
        | then-column_stands+in_ok-push w ↦ rw (w.columns-is, w.in_ok-push.ensures.items, map-append)
            (ListsBelow-push P k _ listed (w.if-column_stands.ensures.0 refl))
        | else-column_stands w ↦ rw w.columns-is (ListsBelow-skip P k _ listed (λ h. false≢true (w.if-column_stands.ensures.1 h)))
      ];
    }

pub returns : goal.returns
returns c =
    let T = c.args.table.now in
    let w = c.args.width in
    let A = c.args.item.now.0 in
    let B = c.args.item.now.1 in
    let none : IsNoneFrom (bit B) c.loop-c.at w = subst (IsNoneFrom (bit B) c.loop-c.at) c.requires.concept.intent.len
    (rw c.intent-intent.ensures at c.in_default.ensures) in
    ListsBelow-rest (ColumnStands T A) c.loop-c.at (map (λ (x : ColId). x.0) c.loop-c.columns.items) c.loop-c.invariant.listed w c.loop-c.invariant.at
    (none_columns T w A B c.requires.concept c.loop-c.at w (omega arith) none)
