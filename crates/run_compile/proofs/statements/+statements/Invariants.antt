-- The statements and the arms that are left to the end have their code.
use Rattle.std.proofs.Common.{◌≡◌, ◌≤◌, ◌-◌, ◌++◌, List, drop, length}
use Rattle.java_core.specs.Trees.{IfArms, stmts, arms_seen}
use Rattle.run_code.specs.Ops.{Op}
use Rattle.run_code.specs.Code.{code_sts, code_arms}
use Rattle.run_compile.specs.Scopes.{plain, env}
use Rattle.run_compile.proofs.statements.+statements.Given as goal

abbrev pub invariant-compile_stmts-loop-i : goal.invariant-compile_stmts-loop-i
invariant-compile_stmts-loop-i l = record {
  grown : length l.fn.code ≤ length l.code;
  code : l.code ≡ code_sts (plain l.site.scope.now) (env l.site.scope.now) (stmts (drop l.i l.list.items)) l.site.at (length l.fn.code - l.exits.broke)
      (length l.fn.code - l.exits.next) ++ l.fn.code;
}

abbrev pub invariant-compile_arms-loop-i : goal.invariant-compile_arms-loop-i
invariant-compile_arms-loop-i l = record {
  placed : l.end ≤ length l.code;
  code : (other : IfArms) (rest : List Op) → length rest ≡ l.end
      → l.fn.code ≡ code_arms (plain l.site.scope.now) (env l.site.scope.now) other l.site.at (l.end - l.exits.broke) (l.end - l.exits.next) ++ rest
      → l.code ≡ code_arms (plain l.site.scope.now) (env l.site.scope.now) (arms_seen (drop l.i l.arms.items) other) l.site.at (l.end - l.exits.broke)
      (l.end - l.exits.next) ++ rest;
}
