use Rattle.std.proofs.Common.{◌≡◌, subst, rules}
use Rattle.std.specs.List.{ReversedBelow}
use Rattle.std.proofs.lemmas.Fn.{always_returns_same}
use Rattle.std.proofs.lemmas.List.Sorted.{IsPermutation-map, IsPermutation-trans}
use Rattle.kaba_bits.specs.Sets.{size}
use Rattle.stem_base.specs.declared.implications.Implication.{Implication}
use Rattle.stem_base.specs.Base.{sides_of}
use Rattle.stem_base.proofs.SortLemmas.{sort_ends}
use Rattle.stem_base.proofs.stems.sort_stems.Goals as goal

pub returns-in_err-sort_by_key-clause-same : goal.returns-in_err-sort_by_key-clause-same
returns-in_err-sort_by_key-clause-same c = IsPermutation-map sides_of c.args.base.now.items c.sort_by_key.new.self.items
    (IsPermutation-trans c.args.base.now.items c.reverse.new.self.items c.sort_by_key.new.self.items c.reverse.ensures.permutation
    c.in_err-sort_by_key.ensures.permutation)

pub returns-clause-same : goal.returns-clause-same
returns-clause-same c = IsPermutation-map sides_of c.args.base.now.items c.sort_by_key.new.self.items
    (IsPermutation-trans c.args.base.now.items c.reverse.new.self.items c.sort_by_key.new.self.items c.reverse.ensures.permutation
    c.in_ok-sort_by_key.ensures.permutation)

pub returns-clause-ordered : goal.returns-clause-ordered
returns-clause-ordered c =
    let o = c.in_ok-sort_by_key.ensures in
    let key = λ (x : Implication). size x.left in
    let back = subst (λ n. ReversedBelow c.args.base.now.items c.reverse.new.self.items n) c.args.base.now.ok.0 c.reverse.ensures.by_index in
    let computes = always_returns_same _ (λ a r. r ≡ key a.0.now) _ (λ a r f k. search rules) in
    sort_ends c.args.base.now.items c.reverse.new.self.items c.sort_by_key.new.self.items c.requires.rising c.requires.widths back
    c.reverse.ensures.permutation o.permutation (o.sorted key computes) (o.stable key computes)
