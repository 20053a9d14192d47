use Rattle.kaba_top.proofs.Promised.{promised}
use Rattle.kaba_top.proofs.Statuses.{reply_other}
use Rattle.kaba_top.proofs.kaba.Goals as goal

pub returns-in-Ok-deliver-clause-cut : goal.returns-in-Ok-deliver-clause-cut
returns-in-Ok-deliver-clause-cut g c = λ h. absurd ((reply_other _ _ _ _ _ _ _ c.in-Ok.ensures.replies).1 h)

pub returns-in-Ok-deliver-clause-cannot_write : goal.returns-in-Ok-deliver-clause-cannot_write
returns-in-Ok-deliver-clause-cannot_write g c = λ h. absurd ((reply_other _ _ _ _ _ _ _ c.in-Ok.ensures.replies).1 h)

pub returns-in-Ok-deliver-clause-memory_out : goal.returns-in-Ok-deliver-clause-memory_out
returns-in-Ok-deliver-clause-memory_out g c = λ h. absurd ((reply_other _ _ _ _ _ _ _ c.in-Ok.ensures.replies).0 h)

pub returns-in-Ok-deliver-clause-memory_err : goal.returns-in-Ok-deliver-clause-memory_err
returns-in-Ok-deliver-clause-memory_err g c = λ h. absurd ((reply_other _ _ _ _ _ _ _ c.in-Ok.ensures.replies).0 h)

pub returns-in-Ok-deliver-clause-promise : goal.returns-in-Ok-deliver-clause-promise
returns-in-Ok-deliver-clause-promise g c = λ j. record {
  out = c.in-Ok.reply.out.items;
  err = c.in-Ok.reply.err.items;
  promised = promised _ _ _ _ _ _ _ j c.in-Ok.ensures.replies;
  out_taken = c.in-Ok-deliver.ensures.out;
  err_taken = c.in-Ok-deliver.ensures.err;
}
