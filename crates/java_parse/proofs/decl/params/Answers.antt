use Rattle.std.proofs.Common.{List, [], ◌∷◌, ◌++◌, sym, subst, arith, rules}
use Rattle.java_tree.specs.declared.Param.{Param}
use Rattle.java_parse.specs.Want.{NMoreParams}
use Rattle.java_parse.specs.Reading.{Reads}
use Rattle.java_parse.proofs.DeclarationSteps.{params_some, params_some_fails, more_params_next, more_params_next_fails, more_params_end, more_params_open}
use Rattle.java_parse.proofs.decl.params.Goals as goal

pub more-init : goal.more-init
more-init c = record {
  so_far = λ q us o a b. params_some (search rules) a (subst (λ (qs : List Param). Reads (NMoreParams (qs ++ q ∷ [])) us o) c.new-all.ensures.items b);
  fails = λ f a. params_some_fails (search rules) a;
  shorter = omega arith;
}

pub returns-in-Some-mark_at-clause-reads : goal.returns-in-Some-mark_at-clause-reads
returns-in-Some-mark_at-clause-reads c = c.more.invariant.so_far _ _ _ c.in_ok-next.ensures.reads
    (rw c.in_ok-push.ensures.items (more_params_end (sym c.in-Some-mark_at.ensures.value)))

pub returns-in_default-mark_at-2-clause-reads : goal.returns-in_default-mark_at-2-clause-reads
returns-in_default-mark_at-2-clause-reads c = c.more.invariant.so_far _ _ _ c.in_ok-next.ensures.reads (more_params_open (search rules) (search rules))

pub more-preserved : goal.more-preserved
more-preserved c = record {
  so_far = λ q us o a b. c.more.invariant.so_far _ _ o c.in_ok-next.ensures.reads (more_params_next (search rules) (sym c.in-Some-mark_at-2.ensures.value) a
      (subst (λ (qs : List Param). Reads (NMoreParams (qs ++ q ∷ [])) us o) c.in_ok-push.ensures.items b));
  fails = λ f a. c.more.invariant.so_far _ _ _ c.in_ok-next.ensures.reads (more_params_next_fails (search rules) (sym c.in-Some-mark_at-2.ensures.value) a);
  shorter = omega (arith, c.in_ok-next.ensures.shorter, c.in-Some-mark_at-2.ensures.shorter);
}
