use Rattle.std.proofs.Common.{sym, ap, ◌∙◌}
use Rattle.java_tree.specs.declared.Stmt.{Stmt}
use Rattle.java_tree.specs.Syntax.{stmt_of}
use Rattle.java_tree.specs.Statements.{as_body}
use Rattle.java_tree.proofs.Rows.{stmts_vec}
use Rattle.java_parse.proofs.parts.body_of.Goals as goal

pub returns-in-Block : goal.returns-in-Block
returns-in-Block c = record { value = sym (stmts_vec c.in-Block.items) ∙ ap (λ (s : Stmt). as_body (stmt_of s)) (sym c.in-Block.is) }
