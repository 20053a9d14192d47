-- Whether something follows the mark.
use Rattle.std.proofs.Common.{◌∙◌, sym, lit<}
use Rattle.std.proofs.lemmas.Str.Pattern.{strip_prefix_char}
use Rattle.flow_facts.proofs.Shown.{marked_so, marked_not}
use Rattle.flow_facts.proofs.makers.is_marked.Goals as goal

pub returns-in-Some : goal.returns-in-Some
returns-in-Some c = record {
  value = marked_so c.args.name.now _ (sym c.as_str.ensures.value
      ∙ (rw c.in-Some.is at (strip_prefix_char 60 c.as_str.result.now c.strip_prefix.result c.strip_prefix.ensures.cases (lit< tt))));
}

pub returns-in-None : goal.returns-in-None
returns-in-None c = record {
  value = marked_not c.args.name.now (λ r e.
      (rw c.in-None.is at (strip_prefix_char 60 c.as_str.result.now c.strip_prefix.result c.strip_prefix.ensures.cases (lit< tt))) r
      (c.as_str.ensures.value ∙ e));
}
