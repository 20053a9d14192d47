use Rattle.std.proofs.Common.{◌≡◌, drop}
use Rattle.name_laws.specs.Answers.{run}
use Rattle.name_laws.specs.Classes.{flag, flags_of}
use Rattle.name_tables.proofs.flags.flags_of.Given as goal

-- the modifiers so far, and then the rest
abbrev pub invariant-loop-modifier : goal.invariant-loop-modifier
invariant-loop-modifier l = run (flag l.kind) l.flags (drop l.modifier-index l.mods) ≡ flags_of l.kind l.mods
