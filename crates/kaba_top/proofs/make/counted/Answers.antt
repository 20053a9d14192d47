use Rattle.std.proofs.Common.{rules, ◌≡◌, ◌∙◌, ap, length, refl, subst, sym, vec_len}
use Rattle.java_run.specs.Outcomes.{end_of}
use Rattle.kaba_top.specs.MakeAnswers.{RunGives, summary}
use Rattle.kaba_top.proofs.make.counted.Goals as goal

pub returns-in_ok-from_slice-in-Ended : goal.returns-in_ok-from_slice-in-Ended
returns-in_ok-from_slice-in-Ended c =
    let counts = c.args.counts.now in
    let steps = c.args.outcome.used in
    let printed : vec_len c.args.outcome.out ≡ length c.args.outcome.out.items = search rules in
    let text = c.in_ok-from_slice-in-Ended.field-0 in
    subst (λ end. RunGives counts (end_of end) steps c.args.outcome.out.items 0 text.items c.new.result.items) (sym c.in-Ended.is)
    (record {
      status_is = refl;
      out_is = c.in_ok-from_slice-in-Ended.ensures.items ∙ c.as_bytes.ensures.value ∙ c.in_ok-text-in-Ended.ensures
          ∙ ap (summary counts steps) (c.len.ensures ∙ printed);
      err_is = c.new.ensures.items;
    })
