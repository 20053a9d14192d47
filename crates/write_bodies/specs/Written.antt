-- Mirror. The parts of a method's body, as they are written for a numbering and a hierarchy.
use Rattle.std.specs.Prelude.{ℕ, List, Option}
use Rattle.java_tree.specs.Syntax as tree
use Rattle.java_core.specs.Trees.{Ex, Exs, Target, St, Sts, IfArms}
use Rattle.java_core.specs.Programs.{PlainMethod, code_seen}
use Rattle.hier_model.specs.Hierarchies.{Hierarchy}
use Rattle.write_model.specs.Bodies as written
use Rattle.write_forms.specs.Sources.{old_program, renaming}
use Rattle.write_bodies.specs.declared.within.Within.{Within}

-- the body with its heading, as plain data
abbrev pub method_of : Within → PlainMethod
method_of w = code_seen w.code

-- the hierarchy
abbrev pub hierarchy_of : Within → Hierarchy
hierarchy_of w = w.source.now.hier.now

-- an expression of the method's body, as it is written, and one that may be left out
abbrev pub expression : Within → List ℕ → Ex → tree.Expression
expression w scope e = written.written (old_program w.source.now) (renaming w.source.now) (hierarchy_of w) w.number (method_of w) scope e

-- arguments in the method's body, as they are written
abbrev pub expressions : Within → List ℕ → Exs → tree.Expressions
expressions w scope es = written.written_all (old_program w.source.now) (renaming w.source.now) (hierarchy_of w) w.number (method_of w) scope es

-- an expression that may be left out, as it is written
abbrev pub expression_if : Within → List ℕ → Option Ex → Option tree.Expression
expression_if w scope e = written.written_if (old_program w.source.now) (renaming w.source.now) (hierarchy_of w) w.number (method_of w) scope e

-- what is assigned to
abbrev pub target : Within → List ℕ → Target → tree.Expression
target w scope e = written.written_target (old_program w.source.now) (renaming w.source.now) (hierarchy_of w) w.number (method_of w) scope e

-- the declaration of a local
abbrev pub declared : Within → ℕ → Option tree.Expression → tree.Statement
declared w local e = written.declared (old_program w.source.now) (renaming w.source.now) (hierarchy_of w) w.number (method_of w) local e

-- a statement, and a part of a `for`
abbrev pub statement : Within → List ℕ → St → tree.Statement
statement w scope s = written.written_st (old_program w.source.now) (renaming w.source.now) (hierarchy_of w) w.number (method_of w) scope s

-- statements of the method's body, as they are written
abbrev pub statements : Within → List ℕ → Sts → tree.Statements
statements w scope ss = written.written_sts (old_program w.source.now) (renaming w.source.now) (hierarchy_of w) w.number (method_of w) scope ss

-- the first or the last part of a `for`, as it is written
abbrev pub part : Within → List ℕ → Sts → tree.OptionalStatement
part w scope ss = written.written_part (old_program w.source.now) (renaming w.source.now) (hierarchy_of w) w.number (method_of w) scope ss

-- the arms of an `if`, and its `else`
abbrev pub arms : Within → List ℕ → IfArms → tree.Arms
arms w scope a = written.written_arms (old_program w.source.now) (renaming w.source.now) (hierarchy_of w) w.number (method_of w) scope a

-- the `else` of an `if`, as it is written, where there is one
abbrev pub otherwise : Within → List ℕ → IfArms → tree.Else
otherwise w scope a = written.written_else (old_program w.source.now) (renaming w.source.now) (hierarchy_of w) w.number (method_of w) scope a
