use Rattle.std.proofs.Common.{ap, sym, subst, ◌∙◌, length, List, Bool}
use Rattle.std.proofs.lemmas.Bool.{false≢true}
use Rattle.kaba_bits.specs.Sets.{IsSubset}
use Rattle.stem_base.specs.Base.{all_sides}
use Rattle.stem_base.proofs.TableLemmas.{common_wide}
use Rattle.stem_base.proofs.FoundLemmas.{noted_same}
use Rattle.stem_base.proofs.StemLemmas.{noted_pushed}
use Rattle.stem_base.proofs.stems.note.Goals as goal

pub is_subset-requires : goal.is_subset-requires
is_subset-requires c = ap length c.in_ok-closed.ensures ∙ common_wide c.args.table.now c.args.width c.args.a.now ∙ sym c.requires.kept.len

pub returns-in_ok-push : goal.returns-in_ok-push
returns-in_ok-push c =
    let T = c.args.table.now in
    let w = c.args.width in
    let A = c.args.a.now in
    noted_pushed T w A c.args.base.now.items c.push.new.self.items (record { left = c.in_ok-left.left; right = c.in_ok-closed.closed })
    c.requires.kept c.requires.before
    (λ s. false≢true (sym c.if-not-is_subset.true ∙ c.is_subset.ensures.1 (subst (λ (X : List Bool). IsSubset X A) (sym c.in_ok-closed.ensures) s)))
    c.in_ok-push.ensures.items c.in_ok-left.ensures c.in_ok-closed.ensures

pub returns-else-not-is_subset : goal.returns-else-not-is_subset
returns-else-not-is_subset c =
    noted_same c.args.table.now c.args.width c.args.a.now c.requires.kept (all_sides c.args.base.now.items) c.requires.before
    (subst (λ (X : List Bool). IsSubset X c.args.a.now) c.in_ok-closed.ensures (c.is_subset.ensures.0 c.if-not-is_subset.false))
