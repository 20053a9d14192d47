-- The marks, literals and small forms that are written are ones that the grammar gives.
use Rattle.std.proofs.Common.{◌≡◌, ℕ, ◌<◌, Bool, true, false, List, Option, Some, None, refl, arith}
use Rattle.std.specs.Prelude.{ℤ}
use Rattle.java_lex.specs.Writable.{IsName}
use Rattle.java_tree.specs.Tokens.{level, is_sign}
use Rattle.java_tree.specs.Syntax.{Expression, Expressions, OptionalStatement, absent, present, Statements}
use Rattle.java_tree.specs.Formed as printed
use Rattle.java_tree.specs.Formed.{IsNumber, a_small, the_least, is_target, IsFormedExpression, AreFormed, IsFormedValue, IsFormedStmt, AreFormedStmts, IsFormedFirst, IsFormedStep}
use Rattle.java_core.specs.declared.UnOp.{UnOp}
use Rattle.java_core.specs.declared.UnOp.TheVariants as un
use Rattle.java_core.specs.declared.BinOp.{BinOp}
use Rattle.java_core.specs.declared.BinOp.TheVariants as bin
use Rattle.java_core.specs.declared.Op.{Op}
use Rattle.java_core.specs.declared.Op.TheVariants as op
use Rattle.java_core.specs.Formed.{IsLiteral, small, least}
use Rattle.write_model.specs.Names.{prefix_mark, operation, infix_mark}
use Rattle.write_model.specs.Bodies.{static_field_tree, static_call_tree, loop_tree, creation_tree}

pub literal : {z : ℤ} → IsLiteral z → IsNumber z
literal (small h) = a_small h
literal least = the_least

pub sign : (o : UnOp) → is_sign (prefix_mark o) ≡ true
sign un.Plus = refl
sign _ = refl

level_of : (o : Op) → 0 < level (operation o)
level_of op.Plus = omega arith
level_of _ = omega arith

pub infix_level : (o : BinOp) → 0 < level (infix_mark o)
infix_level (bin.Int o) = level_of o
infix_level _ = omega arith

-- a static member by its name alone, or on its holder
pub field_tree : (b : Bool) (x y : List ℕ) → IsName x → IsName y → IsFormedExpression (static_field_tree b x y) × (is_target (static_field_tree b x y) ≡ true)
field_tree true x y a c = (c, refl)
field_tree false x y a c = ((a, c), refl)

pub call_tree : (b : Bool) (x y : List ℕ) (es : Expressions) → IsName x → IsName y
    → (AreFormed es → IsFormedExpression (static_call_tree b x y es)) × (printed.is_call (static_call_tree b x y es) ≡ true)
call_tree true x y es a c = (λ f. (c, f), refl)
call_tree false x y es a c = (λ f. (a, c, f), refl)

-- a creation, or a call of the method that makes its object
pub creation_formed : (b : Bool) (x y z : List ℕ) (es : Expressions) → (b ≡ true → IsName x × IsName y) → (b ≡ false → IsName z) → AreFormed es
    → IsFormedExpression (creation_tree b x y z es)
creation_formed true x y z es f g h = let n = f refl in (n.0, n.1, h)
creation_formed false x y z es f g h = (g refl, h)

pub creation_called : (b : Bool) (x y z : List ℕ) (es : Expressions) → printed.is_call (creation_tree b x y z es) ≡ true
creation_called true x y z es = refl
creation_called false x y z es = refl

pub loop_formed : (is_while : Bool) (a : OptionalStatement) (v : Option Expression) (s : OptionalStatement) (ss : Statements) → IsFormedFirst a
    → IsFormedValue v
    → IsFormedStep s → AreFormedStmts ss → IsFormedStmt (loop_tree is_while a v s ss)
loop_formed true absent None s ss f w g h = (f, w, g, h)
loop_formed true absent (Some e) absent ss f w g h = (w, h)
loop_formed true absent (Some e) (present s) ss f w g h = (f, w, g, h)
loop_formed true (present a) v s ss f w g h = (f, w, g, h)
loop_formed false a v s ss f w g h = (f, w, g, h)
