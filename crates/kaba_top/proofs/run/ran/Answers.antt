use Rattle.std.proofs.Common.{◌++◌, ◌∙◌, IfOk, Ok, ap, codes, refl, subst}
use Rattle.java_run.specs.declared.runs.End.TheVariants as ends
use Rattle.kaba_top.specs.Lines.{GivesReply, line}
use Rattle.kaba_top.proofs.Runs.{at_end}
use Rattle.kaba_top.proofs.run.ran.Goals as goal

pub returns-in-Ended : goal.returns-in-Ended
returns-in-Ended c = at_end c.args.outcome.end ends.Ended c.args.outcome.out.items
    (Ok (record { status = 0; out = c.args.outcome.out; err = c.new.result })) c.in-Ended.is
    (record { status_is = refl; out_is = refl; err_is = c.new.ensures.items })

pub returns-in_ok-text-in-Fault : goal.returns-in_ok-text-in-Fault
returns-in_ok-text-in-Fault c =
    let said = c.as_bytes.ensures.value ∙ c.in_ok-text-in-Fault.ensures.ok ∙ ap (λ word. codes "fault " ++ word) c.cause_text-word.ensures in
    at_end c.args.outcome.end (ends.Fault c.in-Fault.fault) c.args.outcome.out.items c.with_line.result c.in-Fault.is
    (subst (λ text. IfOk c.with_line.result (λ reply. GivesReply 10 c.args.outcome.out.items (line text) reply.status reply.out.items reply.err.items))
    said c.with_line.ensures.gives)

pub returns-in-Going : goal.returns-in-Going
returns-in-Going c = at_end c.args.outcome.end ends.Going c.args.outcome.out.items c.with_line-in-Going.result c.in-Going.is c.with_line-in-Going.ensures.gives
