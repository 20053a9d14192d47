use Rattle.std.proofs.Common.{refl}
use Rattle.std.proofs.lemmas.Bool.{false≢true}
use Rattle.points_to.proofs.ChainLemmas.{chained_body, chained_other}
use Rattle.points_to.proofs.bodies.chain.Goals as goal

pub returns-then-is_def : goal.returns-then-is_def
returns-then-is_def c = record {
  chained = rw c.bucket_of-at.ensures.value (chained_body _ _ _ _ c.requires.column c.requires.chained (c.if-is_def.ensures.0 refl));
}

pub returns-else-is_def : goal.returns-else-is_def
returns-else-is_def c = record {
  chained = rw c.bucket_of-at.ensures.value (chained_other _ _ _ _ c.requires.column c.requires.chained (λ d. false≢true (c.if-is_def.ensures.1 d)));
}
