-- Mirror. Values as a tag and a word each.
use Rattle.std.specs.Prelude.{ℕ, List, [], ◌∷◌, ◌%◌, true, false, if◌then◌else◌}
use Rattle.std.specs.Int.{w32, cast_signed}
use Rattle.java_heap.specs.declared.values.Value.{Value}
use Rattle.java_heap.specs.declared.values.Value.TheVariants.{Int, Bool, Char, Null, Str, Ref}
use Rattle.java_heap.specs.declared.packed.Tag.{Tag}
use Rattle.java_heap.specs.declared.packed.Tag.TheVariants as tag

-- the tag of a value
abbrev pub tag_of : Value → Tag
tag_of (Int n) = tag.Int
tag_of (Bool b) = if b then tag.True else tag.False
tag_of (Char c) = tag.Char
tag_of Null = tag.Null
tag_of (Str a) = tag.Str
tag_of (Ref a) = tag.Ref

-- the value of a tag and a word
abbrev pub value_at : Tag → ℕ → Value
value_at tag.Int w = Int (cast_signed w32 w)
value_at tag.False w = Bool false
value_at tag.True w = Bool true
value_at tag.Char w = Char (w % 65536)
value_at tag.Null w = Null
value_at tag.Str w = Str w
value_at tag.Ref w = Ref w

-- the values of as many tags and words
abbrev pub unpacked : List Tag → List ℕ → List Value
unpacked [] ws = []
unpacked (t ∷ ts) [] = []
unpacked (t ∷ ts) (w ∷ ws) = value_at t w ∷ unpacked ts ws
