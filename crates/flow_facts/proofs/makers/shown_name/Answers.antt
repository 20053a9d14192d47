-- What follows the mark, or all of it.
use Rattle.std.proofs.Common.{◌∙◌, sym, lit<}
use Rattle.std.proofs.lemmas.Str.Pattern.{strip_prefix_char}
use Rattle.flow_facts.proofs.Shown.{shown_marked, shown_plain}
use Rattle.flow_facts.proofs.makers.shown_name.Goals as goal

pub returns-in-Some : goal.returns-in-Some
returns-in-Some c = record {
  value = shown_marked c.args.name.now c.in-Some.shown.now (sym c.as_str.ensures.value
      ∙ (rw c.in-Some.is at (strip_prefix_char 60 c.as_str.result.now c.strip_prefix.result c.strip_prefix.ensures.cases (lit< tt))));
}

pub returns-in-None : goal.returns-in-None
returns-in-None c = record {
  value = c.as_str-in-None.ensures.value ∙ shown_plain c.args.name.now (λ r e.
      (rw c.in-None.is at (strip_prefix_char 60 c.as_str.result.now c.strip_prefix.result c.strip_prefix.ensures.cases (lit< tt))) r
      (c.as_str.ensures.value ∙ e));
}
