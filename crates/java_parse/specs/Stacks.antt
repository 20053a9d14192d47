-- Mirror. The entries of a nesting stack, from the top.
use Rattle.std.specs.Prelude.{List, [], ◌∷◌}
use Rattle.java_tree.specs.declared.Entry.{Entry}
use Rattle.java_parse.specs.declared.nest.Stack.{Stack, Empty, On'}

-- the entries of a stack as a list, the topmost first
abbrev pub entries_of : Stack → List Entry
entries_of Empty = []
entries_of (On' e b s) = e ∷ entries_of s
