-- Believed. The words of causes: what the program prints of a form that the language leaves out, of a rule of types, of
-- what there is too much of, with its limit, of what went wrong in a run, and of that in which two programs part.
use Rattle.std.specs.Prelude.{ℕ, List, codes}
use Rattle.java_core.specs.declared.Fault.TheVariants as faults
use Rattle.name_rules.specs.declared.Form.TheVariants as forms
use Rattle.java_check.specs.declared.Kind.TheVariants as kinds
use Rattle.flow_rules.specs.declared.faults.Counted.TheVariants as counted
use Rattle.same_program.specs.declared.What.TheVariants as parted
use Rattle.kaba_top.specs.declared.cause_words.Cause.{Cause}
use Rattle.kaba_top.specs.declared.cause_words.Cause.TheVariants.{Form, Rule, Limit, Fault, Parted}

-- what is printed of a cause: its word, and of a limit its number too
abbrev pub cause_text : Cause → List ℕ
cause_text (Form forms.Modifier) = codes "Modifier"
cause_text (Form forms.Body) = codes "Body"
cause_text (Form forms.ThisInStatic) = codes "ThisInStatic"
cause_text (Form forms.BreakOutside) = codes "BreakOutside"
cause_text (Rule kinds.Operand) = codes "Operand"
cause_text (Rule kinds.Condition) = codes "Condition"
cause_text (Rule kinds.Assign) = codes "Assign"
cause_text (Rule kinds.Arguments) = codes "Arguments"
cause_text (Rule kinds.Return) = codes "Return"
cause_text (Rule kinds.Cast) = codes "Cast"
cause_text (Rule kinds.NoMember) = codes "NoMember"
cause_text (Rule kinds.AbstractNew) = codes "AbstractNew"
cause_text (Rule kinds.MissingBody) = codes "MissingBody"
cause_text (Rule kinds.NotPublic) = codes "NotPublic"
cause_text (Limit counted.Rows) = codes "rows 16384"
cause_text (Limit counted.Columns) = codes "columns 8192"
cause_text (Limit counted.Sites) = codes "sites 8192"
cause_text (Limit counted.Points) = codes "points 65536"
cause_text (Fault faults.Null) = codes "Null"
cause_text (Fault faults.Bounds) = codes "Bounds"
cause_text (Fault faults.NegativeSize) = codes "NegativeSize"
cause_text (Fault faults.ArrayStore) = codes "ArrayStore"
cause_text (Fault faults.ClassCast) = codes "ClassCast"
cause_text (Fault faults.DivZero) = codes "DivZero"
cause_text (Fault faults.TooLong) = codes "TooLong"
cause_text (Parted parted.Type) = codes "type"
cause_text (Parted parted.Field) = codes "field"
cause_text (Parted parted.Method) = codes "method"
cause_text (Parted parted.Variable) = codes "variable"
cause_text (Parted parted.Main) = codes "main"
cause_text (Parted parted.Statement) = codes "statement"
cause_text (Parted parted.Expression) = codes "expression"
cause_text (Parted parted.Literal) = codes "literal"
cause_text (Parted parted.Operator) = codes "operator"
cause_text (Parted parted.Call) = codes "call"
cause_text (Parted parted.Creation) = codes "creation"
cause_text (Parted parted.Cast) = codes "cast"
cause_text (Parted parted.Test) = codes "test"
