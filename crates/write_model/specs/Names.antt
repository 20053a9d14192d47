-- Believed. How types, names and operators are written.
use Rattle.std.specs.Prelude.{ℕ, List, [], Option, Some, None, slice_get, codes}
use Rattle.std.specs.Option.{option_map_or}
use Rattle.kaba_base.specs.declared.Place.{Place}
use Rattle.kaba_base.specs.declared.words.Keyword.{Keyword}
use Rattle.java_lex.specs.declared.Mark.{Mark}
use Rattle.java_lex.specs.declared.Mark.TheVariants as marks
use Rattle.java_tree.specs.declared.Id.{Id}
use Rattle.java_tree.specs.declared.Modifier.{Modifier}
use Rattle.java_tree.specs.declared.TypeName.{TypeName}
use Rattle.java_tree.specs.declared.TypeBase.{TypeBase}
use Rattle.java_tree.specs.declared.TypeBase.TheVariants as base
use Rattle.java_core.specs.declared.Ty.{Ty}
use Rattle.java_core.specs.declared.TyBase.{TyBase}
use Rattle.java_core.specs.declared.TyBase.TheVariants.{Int, Boolean, Char, Str, Class}
use Rattle.java_core.specs.declared.UnOp.{UnOp}
use Rattle.java_core.specs.declared.UnOp.TheVariants as un
use Rattle.java_core.specs.declared.BinOp.{BinOp}
use Rattle.java_core.specs.declared.BinOp.TheVariants as bin
use Rattle.java_core.specs.declared.Op.{Op}
use Rattle.java_core.specs.declared.Op.TheVariants as op
use Rattle.java_core.specs.Programs.{Plain}
use Rattle.hier_model.specs.Hierarchies.{Hierarchy, type_name}
use Rattle.flow_rules.specs.Facts.{makers_of}
use Rattle.rebuild_model.specs.Renaming.{Places}

-- what is written has no place in a text
abbrev pub nowhere : Place
nowhere = record { at = 0; line = 0 }

-- a name as an identifier of the tree
abbrev pub id : List ℕ → Id
id x = record { name = x; place = nowhere }

-- the modifier that a keyword writes
abbrev pub modifier : Keyword → Modifier
modifier k = record { word = k; place = nowhere }

-- each node and each holder by its own number
abbrev pub by_number : Places
by_number = record { type_of = λ n. n; holder_of = λ c. c; makers = 0 }

-- the names of the holder of the methods that make objects, and of the local in each
abbrev pub makers_name : Plain → List ℕ
makers_name P = option_map_or (λ m. m.holder) (makers_of P) []

abbrev pub makers_local : Plain → List ℕ
makers_local P = option_map_or (λ m. m.local) (makers_of P) []

-- the name of a class of the program
abbrev pub class_name : Plain → ℕ → List ℕ
class_name P c = option_map_or (λ k. k.name) (slice_get P.classes c) []

-- a class is written by the name of its row's node; a class without a row, which no program has, by its own
abbrev pub row_name : Plain → Hierarchy → Option ℕ → ℕ → List ℕ
row_name P H (Some n) c = type_name H n
row_name P H None c = class_name P c

-- a base type as it is written; a class by the type of its row's node
abbrev pub written_base : Plain → Hierarchy → Option ℕ → TyBase → TypeBase
written_base P H n Int = base.Int
written_base P H n Boolean = base.Boolean
written_base P H n Char = base.Char
written_base P H n Str = base.Named (codes "String")
written_base P H n (Class c) = base.Named (row_name P H n c.0)

-- the type of what has its row at a node: the node's, with the old dimension
abbrev pub written_type : Plain → Hierarchy → Option ℕ → Ty → TypeName
written_type P H n t = record { base = written_base P H n t.base; dim = t.dim; place = nowhere }

-- the mark of an operator
abbrev pub prefix_mark : UnOp → Mark
prefix_mark un.Plus = marks.Plus
prefix_mark un.Minus = marks.Minus
prefix_mark un.Flip = marks.Flip
prefix_mark un.Not = marks.Bang

-- the mark of an arithmetic or a bitwise operation
abbrev pub operation : Op → Mark
operation op.Plus = marks.Plus
operation op.Minus = marks.Minus
operation op.Times = marks.Star
operation op.Divide = marks.Slash
operation op.Remainder = marks.Percent
operation op.ShiftLeft = marks.ShiftLeft
operation op.ShiftRight = marks.ShiftRight
operation op.ShiftRightUnsigned = marks.ShiftRightLogical
operation op.And = marks.And
operation op.Or = marks.Or
operation op.Xor = marks.Xor

-- the mark of a binary operator
abbrev pub infix_mark : BinOp → Mark
infix_mark (bin.Int o) = operation o
infix_mark bin.Same = marks.Equal
infix_mark bin.Differs = marks.NotEqual
infix_mark bin.Less = marks.Less
infix_mark bin.Greater = marks.Greater
infix_mark bin.AtMost = marks.AtMost
infix_mark bin.AtLeast = marks.AtLeast
infix_mark bin.Both = marks.Both
infix_mark bin.Either = marks.Either
