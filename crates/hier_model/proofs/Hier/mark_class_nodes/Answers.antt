use Rattle.std.proofs.Common.{◌≡◌, ◌∙◌, ⊎_elim, length, refl, sym, subst, arith}
use Rattle.std.proofs.lemmas.Bool.{cases_lt, false_from_ne_true, false≢true}
use Rattle.std.proofs.lemmas.List.{length-set}
use Rattle.kaba_bits.specs.Sets.{bit}
use Rattle.kaba_bits.proofs.SetLemmas.{bit-below}
use Rattle.hier_model.proofs.ClassLemmas.{marked_done, marked_rest}
use Rattle.hier_model.proofs.Hier.mark_class_nodes.Goals as goal

pub scan-init : goal.scan-init
scan-init c = record {
  below = omega arith;
  width = refl;
  done = λ x lt. absurd (omega (arith, lt));
  rest = c.requires.others.exact;
}

pub scan-preserved : goal.scan-preserved
scan-preserved c =
    let n = c.in-Some.n in
    let lt = bit-below c.args.unasked.now n c.in-Some.ensures.holds in
    record {
      below = omega (arith, lt);
      width = subst (λ l. length l ≡ length c.args.classes.now) (sym c.mark_class.ensures) (length-set c.scan.classes n _ ∙ c.scan.invariant.width);
      done = marked_done _ c.scan.at n c.scan.classes c.mark_class.new.classes c.mark_class.ensures
          (omega (arith, lt, c.scan.invariant.width, c.requires.others.width, c.requires.others.unasked_width))
          c.args.unasked.now c.in-Some.ensures.least c.scan.invariant.done c.scan.invariant.rest;
      rest = marked_rest _ n c.scan.classes c.mark_class.new.classes c.mark_class.ensures
          (omega (arith, lt, c.scan.invariant.width, c.requires.others.width, c.requires.others.unasked_width))
          c.args.unasked.now c.scan.invariant.rest;
    }

pub returns-clause-all : goal.returns-clause-all
returns-clause-all c = record {
  width = c.scan.invariant.width ∙ c.requires.others.width;
  exact = λ x. ⊎_elim
      (c.scan.invariant.done x)
      (λ past. c.scan.invariant.rest x (false_from_ne_true (bit c.args.unasked.now x) (λ h.
      false≢true (sym (c.in_default.ensures x past (bit-below c.args.unasked.now x h)) ∙ h))))
      (cases_lt x c.scan.at);
}
