-- Believed. Whether a program declares a constructor.
use Rattle.std.specs.Prelude.{List, Bool, true, false}
use Rattle.std.specs.List.{list_any}
use Rattle.java_tree.specs.Syntax.{MemberTree, FieldTree, MethodTree, MakerTree, DeclTree, ClassTree, InterfaceTree}

-- whether a member is a constructor
abbrev pub is_maker : MemberTree → Bool
is_maker (FieldTree m t n p) = false
is_maker (MethodTree h b p) = false
is_maker (MakerTree m n qs u ss p) = true

-- whether a class has a constructor among its members
abbrev pub declares_maker : DeclTree → Bool
declares_maker (ClassTree m n c f ms p) = list_any is_maker ms
declares_maker (InterfaceTree m n f hs p) = false

-- whether some class of a program has one
abbrev pub has_maker : List DeclTree → Bool
has_maker ds = list_any declares_maker ds
