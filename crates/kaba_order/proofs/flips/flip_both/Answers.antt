use Rattle.std.proofs.Common.{◌≡◌, inl, inr, ⊎_elim, ◌==◌, ◌&&◌, sym, ap, ◌∙◌}
use Rattle.std.proofs.lemmas.Bool.{cases_Bool, and_parts, eqb-true}
use Rattle.kaba_bits.specs.Sets.{bit, row}
use Rattle.kaba_order.specs.Flips.{flip_where}
use Rattle.kaba_order.proofs.LowerLemmas.{lower_kept}
use Rattle.kaba_order.proofs.flips.flip_both.Goals as goal

pub returns-clause-lower : goal.returns-clause-lower
returns-clause-lower c =
    let old = c.args.le.now in
    lower_kept (λ x y. (x ≡ c.args.a) × (y ≡ c.args.b)) old c.flip_pair.new.le c.args.lower.now c.add_at.new.lower c.requires.lower c.add_at.ensures
    c.flip_pair.ensures.size.len
    (λ x y h. ⊎_elim
    (λ t. let p = and_parts (x == c.args.a) (y == c.args.b) t in inr (eqb-true x c.args.a p.0, eqb-true y c.args.b p.1))
    (λ f. inl (sym (c.flip_pair.ensures.rows x y ∙ ap (λ t. flip_where t (bit (row old x) y)) f) ∙ h))
    (cases_Bool ((x == c.args.a) && (y == c.args.b))))
