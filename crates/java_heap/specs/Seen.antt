-- Mirror. Which value of the step meaning a value is.
use Rattle.java_heap.specs.declared.values.Value.{Value}
use Rattle.java_heap.specs.declared.values.Value.TheVariants.{Int, Bool, Char, Null, Str, Ref}
use Rattle.java_heap.specs.declared.heap.CellKind.{CellKind}
use Rattle.java_heap.specs.declared.heap.CellKind.TheVariants as kind
use Rattle.java_meaning.specs.Moment as moment
use Rattle.java_meaning.specs.Moment.{Number, Truth, CodeUnit, Nothing, Text, Object, Kind, an_object, an_array}

-- the value of the meaning that a value of the code stands for
abbrev pub value_of : Value → moment.Value
value_of (Int n) = Number n
value_of (Bool b) = Truth b
value_of (Char c) = CodeUnit c
value_of Null = Nothing
value_of (Str a) = Text a
value_of (Ref a) = Object a

-- the kind of the meaning that the kind of a cell stands for: an object of a class, or an array of a type
abbrev pub kind_of : CellKind → Kind
kind_of (kind.Object c) = an_object c.0
kind_of (kind.Array t) = an_array t
