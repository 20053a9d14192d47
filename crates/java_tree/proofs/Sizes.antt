-- That an expression counts.
use Rattle.std.proofs.Common.{◌≤◌, arith}
use Rattle.java_tree.specs.declared.Expr.{Expr}
use Rattle.java_tree.specs.Syntax.{Expression, IntLit, CharLit, StrLit, BoolLit, NullLit, ThisRef, NameRef, FieldOf, IndexOf, CallOf, CallOn, SuperCallOf, NewOf, NewArrayOf, CastOf, InstanceOfClass, UnaryOf, BinaryOf, expr_of}
use Rattle.java_tree.specs.Size.{expr_size}

expr_positive : (e : Expression) → 1 ≤ expr_size e
expr_positive (IntLit v p) = omega arith
expr_positive (CharLit c p) = omega arith
expr_positive (StrLit u p) = omega arith
expr_positive (BoolLit b p) = omega arith
expr_positive (NullLit p) = omega arith
expr_positive (ThisRef p) = omega arith
expr_positive (NameRef n p) = omega arith
expr_positive (FieldOf e n p) = omega arith
expr_positive (IndexOf e i p) = omega arith
expr_positive (CallOf n es p) = omega arith
expr_positive (CallOn e n es p) = omega arith
expr_positive (SuperCallOf n es p) = omega arith
expr_positive (NewOf c es p) = omega arith
expr_positive (NewArrayOf t e p) = omega arith
expr_positive (CastOf t e p) = omega arith
expr_positive (InstanceOfClass e c p) = omega arith
expr_positive (UnaryOf m e p) = omega arith
expr_positive (BinaryOf m a b p) = omega arith

pub test_positive : (e : Expr) → 1 ≤ expr_size (expr_of e)
test_positive e = expr_positive (expr_of e)
