-- Believed. Values and what operators make of them (Java Language Specification, chapters 4, 5 and 15, the subset's
-- part).
use Rattle.std.specs.Prelude.{ℕ, zero, suc, ◌+◌, ◌/◌, ◌%◌, ◌^◌, ◌==◌, ℤ, pos, negsuc, int_lt, int_le, int_rem, nat_le, Bool, true, false, not, if◌then◌else◌, List, [], ◌∷◌, ◌++◌, length, map, Option, Some, None, slice_get, replicate, codes}
use Rattle.std.specs.declared.result.Result.{Result}
use Rattle.std.specs.declared.result.Result.TheVariants.{Ok, Err}
use Rattle.std.specs.Option.{option_map, unwrap_or}
use Rattle.std.specs.Ordering.{int_eq}
use Rattle.std.specs.Int.{w32, int_wrapping_add, int_wrapping_sub, int_wrapping_mul, int_wrapping_div, int_wrapping_neg, int_bit_and, int_bit_or, int_bit_xor, int_bit_not, int_shl, int_shr, cast_unsigned, cast_signed}
use Rattle.std.specs.Fmt.{signed_decimal}
use Rattle.std.specs.Str.{bytes_eq, encode_utf8_all}
use Rattle.std.specs.Char.Utf16.{utf16_chars}
use Rattle.java_core.specs.declared.Ty.{Ty}
use Rattle.java_core.specs.declared.TyBase.{TyBase}
use Rattle.java_core.specs.declared.TyBase.TheVariants.{Int, Boolean, Char, Str, Class}
use Rattle.java_core.specs.declared.UnOp.{UnOp}
use Rattle.java_core.specs.declared.UnOp.TheVariants as un
use Rattle.java_core.specs.declared.BinOp.{BinOp}
use Rattle.java_core.specs.declared.BinOp.TheVariants as bin
use Rattle.java_core.specs.declared.Op.{Op}
use Rattle.java_core.specs.declared.Op.TheVariants as op
use Rattle.java_core.specs.declared.Fault.{Fault}
use Rattle.java_core.specs.declared.Fault.TheVariants as fault
use Rattle.java_meaning.specs.Moment.{Value, Number, Truth, CodeUnit, Nothing, Text, Object}

-- the default of a type: 0, false, the character 0, null (Java Language Specification, 4.12.5)
abbrev pub default_in : TyBase → ℕ → Value
default_in Int zero = Number (pos 0)
default_in Boolean zero = Truth false
default_in Char zero = CodeUnit 0
default_in Str zero = Nothing
default_in (Class c) zero = Nothing
default_in b (suc d) = Nothing

-- the default of a type
abbrev pub default_of : Ty → Value
default_of t = default_in t.base t.dim

-- what a value is once it flows into something of the type: a char becomes an int in an int (Java Language Specification, 5.1.2)
abbrev pub widened : TyBase → ℕ → ℕ → Value
widened Int zero c = Number (pos c)
widened Int (suc d) c = CodeUnit c
widened Boolean d c = CodeUnit c
widened Char d c = CodeUnit c
widened Str d c = CodeUnit c
widened (Class k) d c = CodeUnit c

-- what a value is once it flows into something of the type; all but a char stay as they are
abbrev pub convert : Ty → Value → Value
convert t (CodeUnit c) = widened t.base t.dim c
convert t (Number n) = Number n
convert t (Truth b) = Truth b
convert t Nothing = Nothing
convert t (Text a) = Text a
convert t (Object a) = Object a

-- arguments at the parameters' types; there are as many of both
abbrev pub and_argument : Value → Option (List Value) → Option (List Value)
and_argument v None = None
and_argument v (Some vs) = Some (v ∷ vs)

-- the arguments as their parameters hold them, where there are as many of both
abbrev pub arguments : List Ty → List Value → Option (List Value)
arguments [] [] = Some []
arguments (t ∷ ts) (v ∷ vs) = and_argument (convert t v) (arguments ts vs)
arguments [] (v ∷ vs) = None
arguments (t ∷ ts) [] = None

-- the number that an int or a char is
abbrev pub number_of : Value → Option ℤ
number_of (Number n) = Some n
number_of (CodeUnit c) = Some (pos c)
number_of (Truth b) = None
number_of Nothing = None
number_of (Text a) = None
number_of (Object a) = None

-- the truth that a boolean is
abbrev pub truth_of : Value → Option Bool
truth_of (Truth b) = Some b
truth_of v = None

-- a number as a count of elements, or a place among them
abbrev pub natural_of : ℤ → Option ℕ
natural_of (pos n) = Some n
natural_of (negsuc n) = None

-- a count as an int: the same number, within the limits of strings and arrays
abbrev pub int_of : ℕ → ℤ
int_of n = cast_signed w32 (n % 2 ^ 32)

-- the text of a boolean
abbrev pub word_of : Bool → List ℕ
word_of true = codes "true"
word_of false = codes "false"

-- the text of a value, as units (Java Language Specification, 5.1.11); an object or an array has none
abbrev pub text_of : List (List ℕ) → Value → Option (List ℕ)
text_of strings (Number n) = Some (signed_decimal n)
text_of strings (CodeUnit c) = Some (c ∷ [])
text_of strings (Truth b) = Some (word_of b)
text_of strings Nothing = Some (codes "null")
text_of strings (Text a) = slice_get strings a
text_of strings (Object a) = None

-- units as UTF-8; a surrogate without its partner is `?`
abbrev pub bytes_of : List ℕ → List ℕ
bytes_of units = encode_utf8_all (map (λ o. unwrap_or o 63) (utf16_chars units))

-- what ends a line where one ends: a line feed
abbrev pub line_end : Bool → List ℕ
line_end true = 10 ∷ []
line_end false = []

-- division by zero is a fault
abbrev pub unless_zero : ℤ → ℤ → Result ℤ Fault
unless_zero b z = if int_eq b (pos 0) then Err fault.DivZero else Ok z

-- the low five bits of a shift distance
abbrev pub distance_of : ℤ → ℕ
distance_of b = cast_unsigned w32 b % 32

-- the operators that give an int: 32 bits in two's complement
abbrev pub arith : Op → ℤ → ℤ → Result ℤ Fault
arith op.Plus a b = Ok (int_wrapping_add w32 a b)
arith op.Minus a b = Ok (int_wrapping_sub w32 a b)
arith op.Times a b = Ok (int_wrapping_mul w32 a b)
arith op.Divide a b = unless_zero b (int_wrapping_div w32 a b)
arith op.Remainder a b = unless_zero b (int_rem a b)
arith op.ShiftLeft a b = Ok (int_shl w32 a (distance_of b))
arith op.ShiftRight a b = Ok (int_shr a (distance_of b))
arith op.ShiftRightUnsigned a b = Ok (cast_signed w32 (cast_unsigned w32 a / 2 ^ distance_of b))
arith op.And a b = Ok (int_bit_and w32 a b)
arith op.Or a b = Ok (int_bit_or w32 a b)
arith op.Xor a b = Ok (int_bit_xor w32 a b)

-- what a prefix operator on ints gives: the number, its negation, or its bits flipped; `!` takes no number
abbrev pub negated : UnOp → ℤ → ℤ
negated un.Plus a = a
negated un.Minus a = int_wrapping_neg w32 a
negated un.Flip a = int_bit_not w32 a
negated un.Not a = a

-- what a prefix operator gives, where the value is of the kind that it takes
abbrev pub unary_value : UnOp → Value → Option Value
unary_value un.Not v = option_map (λ b. Truth (not b)) (truth_of v)
unary_value un.Plus v = option_map (λ a. Number (negated un.Plus a)) (number_of v)
unary_value un.Minus v = option_map (λ a. Number (negated un.Minus a)) (number_of v)
unary_value un.Flip v = option_map (λ a. Number (negated un.Flip a)) (number_of v)

-- a cast to int or char; `(char)` keeps the low 16 bits
abbrev pub cast_number : TyBase → ℤ → Value
cast_number Char a = CodeUnit (cast_unsigned w32 a % 2 ^ 16)
cast_number Int a = Number a
cast_number Boolean a = Number a
cast_number Str a = Number a
cast_number (Class k) a = Number a

-- `==`: two numbers, two booleans, or two references
abbrev pub same_bool : Bool → Bool → Bool
same_bool true b = b
same_bool false b = not b

-- whether two references or two booleans are the same; two strings are not compared
abbrev pub same_reference : Value → Value → Option Bool
same_reference Nothing Nothing = Some true
same_reference Nothing (Text b) = Some false
same_reference Nothing (Object b) = Some false
same_reference (Text a) Nothing = Some false
same_reference (Object a) Nothing = Some false
same_reference (Object a) (Object b) = Some (a == b)
same_reference (Truth a) (Truth b) = Some (same_bool a b)
same_reference _ _ = None

-- whether two numbers are the same, where both are numbers; else the other answer
abbrev pub same_numbers : Option ℤ → Option ℤ → Option Bool → Option Bool
same_numbers (Some a) (Some b) other = Some (int_eq a b)
same_numbers (Some a) None other = other
same_numbers None b other = other

-- what `==` gives, where the two can be compared
abbrev pub same_value : Value → Value → Option Bool
same_value v w = same_numbers (number_of v) (number_of w) (same_reference v w)

-- the comparisons of numbers
abbrev pub compared : BinOp → ℤ → ℤ → Option Bool
compared bin.Less a b = Some (int_lt a b)
compared bin.Greater a b = Some (int_lt b a)
compared bin.AtMost a b = Some (int_le a b)
compared bin.AtLeast a b = Some (int_le b a)
compared _ a b = None

-- the largest number of units in one string
abbrev pub limit : ℕ
limit = 2147483647

-- two texts as one
abbrev pub join : List ℕ → List ℕ → Result (List ℕ) Fault
join a b = if nat_le (length a + length b) limit then Ok (a ++ b) else Err fault.TooLong

-- a string or null: what makes a `+` a join
abbrev pub is_text : Value → Bool
is_text (Text a) = true
is_text Nothing = true
is_text v = false

-- the elements of a new array
abbrev pub defaults : Ty → ℕ → List Value
defaults t n = replicate n (default_of t)

-- what `equals` of a string gives
abbrev pub equals_value : List (List ℕ) → List ℕ → Value → Option Bool
equals_value strings u Nothing = Some false
equals_value strings u (Text b) = option_map (λ v. bytes_eq u v) (slice_get strings b)
equals_value strings u (Number n) = None
equals_value strings u (CodeUnit c) = None
equals_value strings u (Truth b) = None
equals_value strings u (Object a) = None
