use Rattle.std.proofs.Common.{◌≡◌, drop}
use Rattle.java_core.specs.Programs.{code_seen}
use Rattle.write_model.specs.Bodies.{is_in_scope}
use Rattle.write_forms.proofs.holders.is_in_scope.Given as goal

-- the name is that of one of those that are left, if at all
abbrev pub invariant-loop-number : goal.invariant-loop-number
invariant-loop-number l = is_in_scope (code_seen l.code) (drop l.number-index l.number-items) l.name
    ≡ is_in_scope (code_seen l.code) l.scope.items l.name
