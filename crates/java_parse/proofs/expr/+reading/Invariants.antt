use Rattle.std.proofs.Common.{◌+◌, ◌*◌, ◌≤◌, length, List, Ok, Err}
use Rattle.java_lex.specs.declared.Token.{Token}
use Rattle.java_tree.specs.Syntax.{Expression, Expressions, exprs}
use Rattle.java_parse.specs.Want.{NExpr, NArgs, NMoreArgs}
use Rattle.java_parse.specs.Reading.{Fault, ParseOutcome, Reads}
use Rattle.java_parse.specs.Front.{expr_snoc}
use Rattle.java_parse.proofs.expr.+reading.Given as goal

-- what is read first from the same tokens has the lower rank; what is read behind a token that was taken has none
abbrev pub decreases-args : goal.decreases-args
decreases-args l = 8 * length l.tokens.now + 5

-- the next argument, and what follows it with the arguments so far, comes to what the whole comes to
abbrev pub invariant-args-more : goal.invariant-args-more
invariant-args-more l = record {
  so_far : (e : Expression) (us : List Token) (o : ParseOutcome Expressions) → Reads (NExpr 1) l.rest (Ok (e, us))
      → Reads (NMoreArgs (expr_snoc (exprs l.all.items) e)) us o → Reads NArgs l.fn.tokens o;
  fails : (f : Fault) → Reads (NExpr 1) l.rest (Err f) → Reads NArgs l.fn.tokens (Err f);
  shorter : length l.rest ≤ length l.fn.tokens;
}

abbrev pub decreases-args-more : goal.decreases-args-more
decreases-args-more l = length l.rest

abbrev pub decreases-expr : goal.decreases-expr
decreases-expr l = 8 * length l.tokens.now + 4

abbrev pub decreases-prefixed : goal.decreases-prefixed
decreases-prefixed l = 8 * length l.tokens.now + 3

abbrev pub decreases-post : goal.decreases-post
decreases-post l = 8 * length l.tokens.now + 2

abbrev pub decreases-atom : goal.decreases-atom
decreases-atom l = 8 * length l.tokens.now + 1

abbrev pub decreases-above : goal.decreases-above
decreases-above l = 8 * length l.tokens.now

abbrev pub decreases-created : goal.decreases-created
decreases-created l = 8 * length l.tokens.now

abbrev pub decreases-sized : goal.decreases-sized
decreases-sized l = 8 * length l.tokens.now

abbrev pub decreases-more : goal.decreases-more
decreases-more l = 8 * length l.tokens.now

abbrev pub decreases-tail : goal.decreases-tail
decreases-tail l = 8 * length l.tokens.now
