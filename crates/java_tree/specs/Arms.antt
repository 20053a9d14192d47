-- Mirror. The size of one arm.
use Rattle.std.specs.Prelude.{ℕ, ◌+◌}
use Rattle.java_tree.specs.declared.Arm.{Arm}
use Rattle.java_tree.specs.Syntax.{expr_of, stmts}
use Rattle.java_tree.specs.Size.{expr_size, stmts_size}

-- how many statements and expressions an arm has, in its test and its body
abbrev pub arm_size : Arm → ℕ
arm_size a = expr_size (expr_of a.test) + stmts_size (stmts a.body.items)
