use Rattle.std.proofs.Common.{rules}
use Rattle.java_parse.proofs.DeclarationSteps.{mods_end}
use Rattle.java_parse.proofs.decl.modifiers.Goals as goal

pub returns-in_default-clause-reads : goal.returns-in_default-clause-reads
returns-in_default-clause-reads c = c.more.invariant.so_far _ (mods_end (search rules))
