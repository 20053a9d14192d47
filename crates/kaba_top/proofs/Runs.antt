-- From the end of a run to its reply.
use Rattle.std.proofs.Common.{◌≡◌, ℕ, List, Result, IfOk, subst, sym}
use Rattle.std.specs.declared.alloc.AllocError.{AllocError}
use Rattle.java_run.specs.declared.runs.End.{End}
use Rattle.java_run.specs.Outcomes.{end_of}
use Rattle.kaba_top.specs.declared.reply.Reply.{Reply}
use Rattle.kaba_top.specs.RunAnswers.{EndGives}

pub at_end : (end known : End) (bytes : List ℕ) (r : Result Reply AllocError) → end ≡ known
    → IfOk r (λ reply. EndGives (end_of known) bytes reply.status reply.out.items reply.err.items)
    → IfOk r (λ reply. EndGives (end_of end) bytes reply.status reply.out.items reply.err.items)
at_end end known bytes r is h = subst (λ e. IfOk r (λ reply. EndGives (end_of e) bytes reply.status reply.out.items reply.err.items)) (sym is) h
