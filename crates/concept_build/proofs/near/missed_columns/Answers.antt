use Rattle.std.proofs.Common.{◌≡◌, ⊎_elim, ◌<◌, false, [], ◌∷◌, ◌++◌, length, get_or, sym, ap, ◌∙◌, subst, arith, zero-add}
use Rattle.std.specs.Prelude.{Contains}
use Rattle.std.proofs.lemmas.Bool.{cases_lt, true≢false}
use Rattle.std.proofs.lemmas.List.{get_or_default}
use Rattle.std.proofs.lemmas.List.Elements.{All-push, Contains-push, Contains-append_left}
use Rattle.kaba_bits.specs.Sets.{bit, rising}
use Rattle.concept_build.proofs.KnownLemmas.{listed-below, rising_from-has}
use Rattle.concept_build.proofs.near.missed_columns.Goals as goal
use Rattle.concept_build.proofs.near.missed_columns.Goals.{then-not-has+in_ok-push, else-not-has}

pub has-requires : goal.has-requires
has-requires c = listed-below c.args.item.now.1 _ _ c.loop-c.c-index c.columns-c-items.ensures c.loop-c-test.true c.requires

pub loop-c-preserved : goal.loop-c-preserved
loop-c-preserved c =
    let R = c.args.row.now in
    let xs = c.columns-c-items.result.now in
    let i = c.loop-c.c-index in
    let old = c.loop-c.missed.items in
    let x = get_or xs i 0 in
    let below : x < length R = listed-below c.args.item.now.1 _ _ i c.columns-c-items.ensures c.loop-c-test.true c.requires in
    elim c.if-not-has.branch [
      | then-not-has+in_ok-push w ↦ rw (w.missed-is, w.in_ok-push.ensures.items) (record {
        missed = λ k d klt h.
            ⊎_elim
            (λ less. Contains-append_left old (x ∷ []) (get_or xs k d) (c.loop-c.invariant.missed k d less h))
            (λ high.
            let e : i ≡ k = omega (arith, high, klt) in
            subst (Contains (old ++ x ∷ [])) (get_or_default xs i 0 d c.loop-c-test.true ∙ ap (λ n. get_or xs n d) e) (Contains-push old x))
            (cases_lt k i);
        below = All-push (λ n. n < length R) old x c.loop-c.invariant.below below;
      })
      | else-not-has w ↦ rw w.missed-is (record {
        missed = λ k d klt h.
            ⊎_elim
            (λ less. c.loop-c.invariant.missed k d less h)
            (λ high.
            let e : i ≡ k = omega (arith, high, klt) in
            absurd (true≢false (sym w.if-not-has.false
            ∙ (c.has.ensures ∙ (ap (bit R) (get_or_default xs i 0 d c.loop-c-test.true ∙ ap (λ n. get_or xs n d) e) ∙ h)))))
            (cases_lt k i);
        below = c.loop-c.invariant.below;
      })
    ]

pub returns-clause-missed : goal.returns-clause-missed
returns-clause-missed c k b h =
    let xs = c.columns-c-items.result.now in
    let B = c.args.item.now.1 in
    let p : Contains (rising B) k = subst (Contains (rising B)) (zero-add k) (rising_from-has 0 B k b) in
    let o = subst (λ l. Contains l k) (sym c.columns-c-items.ensures) p in
    subst (Contains c.loop-c.missed.items) o.2 (c.loop-c.invariant.missed o.0 k (omega (arith, o.1, c.loop-c-test.false))
    (subst (λ n. bit c.args.row.now n ≡ false) (sym o.2) h))
