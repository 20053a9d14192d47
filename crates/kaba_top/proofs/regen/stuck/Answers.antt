use Rattle.std.proofs.Common.{◌∙◌, ap, refl, ◌++◌}
use Rattle.kaba_top.specs.Logs.{log_text, no_tree_text}
use Rattle.kaba_top.specs.Lines.{line}
use Rattle.kaba_top.proofs.Analysing.{lines_then}
use Rattle.kaba_top.proofs.regen.stuck.Goals as goal

pub returns : goal.returns
returns c = record {
  status_is = refl;
  out_is = c.new.ensures.items;
  err_is = lines_then c.args.refusals.items (log_text c.args.fault.now.log.items) (line (no_tree_text c.args.fault.now)) c.in_ok-err.err.items
      c.extend_from_slice.new.self.items
      (c.in_ok-err.ensures ∙ ap (λ log. c.args.refusals.items ++ log_text log) c.deref.ensures.value)
      (c.in_ok-extend_from_slice.ensures.items ∙ ap (λ last. c.in_ok-err.err.items ++ last) (c.deref-2.ensures.value
      ∙ c.in_ok-last.ensures.says.err_is ∙ ap line (c.as_bytes.ensures.value ∙ c.in_ok-text.ensures)));
}
