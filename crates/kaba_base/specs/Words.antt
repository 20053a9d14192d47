-- Believed. Keywords, and which texts are identifiers. All texts are lists of characters.
use Rattle.std.specs.Prelude.{ℕ, Bool, true, false, ◌||◌, ◌&&◌, ◌==◌, List, [], ◌∷◌, Option, Some, None, codes, if◌then◌else◌}
use Rattle.std.specs.List.{list_all}
use Rattle.std.specs.Str.{bytes_eq}
use Rattle.unicode_ident.specs.Ident.{is_xid_start, is_xid_continue}
use Rattle.kaba_base.specs.declared.words.Keyword.{Keyword}
use Rattle.kaba_base.specs.declared.words.Keyword.TheVariants as keys
use Rattle.kaba_base.specs.declared.words.TheConstants.{KEYWORDS}

-- an identifier begins with `_`, `$` or a character of Unicode's XID_Start
abbrev pub is_start : ℕ → Bool
is_start c = is_xid_start c || (c == 95) || (c == 36)

-- and goes on with `$` and characters of XID_Continue
abbrev pub is_part : ℕ → Bool
is_part c = is_xid_continue c || (c == 36)

-- whether there is a first one, and it passes
abbrev pub next_is : (ℕ → Bool) → List ℕ → Bool
next_is p [] = false
next_is p (c ∷ cs) = p c

-- a word: an identifier, or a keyword, or `_`
abbrev pub is_word : List ℕ → Bool
is_word [] = false
is_word (c ∷ cs) = is_start c && list_all is_part cs

-- how each keyword is written
unfoldable pub key_text : Keyword → List ℕ
key_text keys.Abstract = codes "abstract"
key_text keys.Assert = codes "assert"
key_text keys.Boolean = codes "boolean"
key_text keys.Break = codes "break"
key_text keys.Byte = codes "byte"
key_text keys.Case = codes "case"
key_text keys.Catch = codes "catch"
key_text keys.Char = codes "char"
key_text keys.Class = codes "class"
key_text keys.Const = codes "const"
key_text keys.Continue = codes "continue"
key_text keys.Default = codes "default"
key_text keys.Do = codes "do"
key_text keys.Double = codes "double"
key_text keys.Else = codes "else"
key_text keys.Enum = codes "enum"
key_text keys.Extends = codes "extends"
key_text keys.Final = codes "final"
key_text keys.Finally = codes "finally"
key_text keys.Float = codes "float"
key_text keys.For = codes "for"
key_text keys.Goto = codes "goto"
key_text keys.If = codes "if"
key_text keys.Implements = codes "implements"
key_text keys.Import = codes "import"
key_text keys.InstanceOf = codes "instanceof"
key_text keys.Int = codes "int"
key_text keys.Interface = codes "interface"
key_text keys.Long = codes "long"
key_text keys.Native = codes "native"
key_text keys.New = codes "new"
key_text keys.Package = codes "package"
key_text keys.Private = codes "private"
key_text keys.Protected = codes "protected"
key_text keys.Public = codes "public"
key_text keys.Return = codes "return"
key_text keys.Short = codes "short"
key_text keys.Static = codes "static"
key_text keys.StrictFp = codes "strictfp"
key_text keys.Super = codes "super"
key_text keys.Switch = codes "switch"
key_text keys.Synchronized = codes "synchronized"
key_text keys.This = codes "this"
key_text keys.Throw = codes "throw"
key_text keys.Throws = codes "throws"
key_text keys.Transient = codes "transient"
key_text keys.Try = codes "try"
key_text keys.Void = codes "void"
key_text keys.Volatile = codes "volatile"
key_text keys.While = codes "while"
key_text keys.True = codes "true"
key_text keys.False = codes "false"
key_text keys.Null = codes "null"
key_text keys.Underscore = codes "_"

-- the first that passes
abbrev pub first_that : {X : Type 0} → (X → Bool) → List X → Option X
first_that p [] = None
first_that p (x ∷ xs) = if p x then Some x else first_that p xs

-- the keyword that is written so
abbrev pub key_of : List ℕ → Option Keyword
key_of cs = first_that (λ k. bytes_eq (key_text k) cs) KEYWORDS

-- whether there is no value
abbrev pub is_none : {X : Type 0} → Option X → Bool
is_none None = true
is_none (Some x) = false

-- a name: an identifier that is no keyword
abbrev pub is_name : List ℕ → Bool
is_name cs = is_word cs && is_none (key_of cs)
