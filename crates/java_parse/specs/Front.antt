-- Mirror. What stands at the front of a list of tokens.
use Rattle.std.specs.Prelude.{ℕ, pos, List, [], ◌∷◌, Option, Some, None, Bool, true, false, if◌then◌else◌, nat_le, nat_lt, ◌&&◌}
use Rattle.kaba_base.specs.declared.Place.{Place}
use Rattle.kaba_base.specs.declared.words.Keyword.{Keyword}
use Rattle.kaba_base.specs.declared.words.Keyword.TheVariants as keys
use Rattle.java_lex.specs.declared.Token.{Token}
use Rattle.java_lex.specs.declared.TokenKind.{TokenKind}
use Rattle.java_lex.specs.declared.TokenKind.TheVariants as kinds
use Rattle.java_lex.specs.declared.Mark.{Mark}
use Rattle.java_lex.specs.declared.Mark.TheVariants as marks
use Rattle.java_tree.specs.declared.Modifier.{Modifier}
use Rattle.java_tree.specs.declared.TypeBase.{TypeBase}
use Rattle.java_tree.specs.declared.TypeBase.TheVariants as bases
use Rattle.java_tree.specs.declared.TypeName.{TypeName}
use Rattle.java_tree.specs.Syntax.{Expression, IntLit, CharLit, StrLit, BoolLit, NullLit, ThisRef, NameRef, BinaryOf, Expressions, no_more, and_more, Statement, AssignOf, DoOf, PrintOf, Statements, no_statements, and_then, Arms, no_arms, and_arm}
use Rattle.java_tree.specs.Tokens.{level, is_sign, compound, stepping, is_modifier, casts}
use Rattle.java_tree.specs.Statements.{printed_by}
use Rattle.java_parse.specs.declared.End.{End}
use Rattle.java_parse.specs.declared.End.TheVariants as ends
use denote.Enum.Bare.{sameb}
use Rattle.java_lex.specs.contracts.Mark.{the_type as mark_type}
use Rattle.kaba_base.specs.contracts.words.Keyword.{the_type as key_type}

-- the place of this mark and the rest, if it is next
abbrev pub after_by : Mark → TokenKind → Place → List Token → Option (Place × List Token)
after_by m (kinds.Mark k) p ts = if sameb mark_type k m then Some (p, ts) else None
after_by m _ p ts = None

-- the place of this mark and the tokens behind it, where it is next
abbrev pub after : Mark → List Token → Option (Place × List Token)
after m [] = None
after m (t ∷ ts) = after_by m t.kind t.place ts

-- the place of this keyword and the rest
abbrev pub after_key_by : Keyword → TokenKind → Place → List Token → Option (Place × List Token)
after_key_by m (kinds.Key k) p ts = if sameb key_type k m then Some (p, ts) else None
after_key_by m _ p ts = None

-- the place of this keyword and the tokens behind it, where it is next
abbrev pub after_key : Keyword → List Token → Option (Place × List Token)
after_key m [] = None
after_key m (t ∷ ts) = after_key_by m t.kind t.place ts

-- a word, its place and the rest
abbrev pub word_by : TokenKind → Place → List Token → Option (List ℕ × Place × List Token)
word_by (kinds.Word n) p ts = Some (n, p, ts)
word_by _ p ts = None

-- the name that is next, its place and the tokens behind it
abbrev pub word_next : List Token → Option (List ℕ × Place × List Token)
word_next [] = None
word_next (t ∷ ts) = word_by t.kind t.place ts

-- a name that begins a constructor, its place and what follows the bracket behind it, once that was looked for
abbrev pub maker_by : List ℕ → Place → Option (Place × List Token) → Option (List ℕ × Place × List Token)
maker_by n p None = None
maker_by n p (Some b) = Some (n, p, b.1)

-- the name that is next with an opening bracket behind it, its place and the tokens behind the bracket
abbrev pub maker_next : List Token → Option (List ℕ × Place × List Token)
maker_next ts = elim (word_next ts) [ None ↦ None | Some w ↦ maker_by w.0 w.1 (after marks.OpenRound w.2) ]

-- the place of an opening bracket and the tokens behind it, where `super` and the bracket are next
abbrev pub up_next : List Token → Option (Place × List Token)
up_next ts = elim (after_key keys.Super ts) [ None ↦ None | Some a ↦ after marks.OpenRound a.1 ]

-- a binary operator whose level is within these bounds
abbrev pub operator_by : ℕ → ℕ → TokenKind → Place → List Token → Option (Mark × Place × List Token)
operator_by l c (kinds.Mark m) p ts = if nat_lt 0 (level m) && (nat_le l (level m) && nat_le (level m) c) then Some (m, p, ts) else None
operator_by l c _ p ts = None

-- the binary operator that is next with a level from l to c, its place and the tokens behind it
abbrev pub operator : ℕ → ℕ → List Token → Option (Mark × Place × List Token)
operator l c [] = None
operator l c (t ∷ ts) = operator_by l c t.kind t.place ts

-- `instanceof`, where its level is within these bounds
abbrev pub instance_next : ℕ → ℕ → List Token → Option (Place × List Token)
instance_next l c ts = if nat_le l 7 && nat_le 7 c then after_key keys.InstanceOf ts else None

-- the place of 2147483648 and the tokens behind it, where that is the token
abbrev pub least_kind : TokenKind → Place → List Token → Option (Place × List Token)
least_kind kinds.Least p ts = Some (p, ts)
least_kind _ p ts = None

-- the place p of a minus and the tokens behind 2147483648, where that is next
abbrev pub least_by : Place → List Token → Option (Place × List Token)
least_by p [] = None
least_by p (t ∷ ts) = least_kind t.kind p ts

-- the place of the minus and the tokens behind the number, where `-` and 2147483648 are next
abbrev pub least_next : List Token → Option (Place × List Token)
least_next ts = elim (after marks.Minus ts) [ None ↦ None | Some a ↦ least_by a.0 a.1 ]

-- a prefix operator
abbrev pub sign_by : TokenKind → Place → List Token → Option (Mark × Place × List Token)
sign_by (kinds.Mark m) p ts = if is_sign m then Some (m, p, ts) else None
sign_by _ p ts = None

-- the prefix operator that is next, its place and the tokens behind it
abbrev pub sign_next : List Token → Option (Mark × Place × List Token)
sign_next [] = None
sign_next (t ∷ ts) = sign_by t.kind t.place ts

-- a type without brackets, its place and the rest
abbrev pub base_by : TokenKind → Place → List Token → Option (TypeBase × Place × List Token)
base_by (kinds.Word n) p ts = Some (bases.Named n, p, ts)
base_by (kinds.Key keys.Int) p ts = Some (bases.Int, p, ts)
base_by (kinds.Key keys.Boolean) p ts = Some (bases.Boolean, p, ts)
base_by (kinds.Key keys.Char) p ts = Some (bases.Char, p, ts)
base_by _ p ts = None

-- the type without brackets that is next, its place and the tokens behind it
abbrev pub base_next : List Token → Option (TypeBase × Place × List Token)
base_next [] = None
base_next (t ∷ ts) = base_by t.kind t.place ts

-- a keyword at q that opens a cast behind the bracket at p: the type, the place of the bracket and the rest
abbrev pub opens_by : TokenKind → Place → Place → List Token → Option (TypeName × Place × List Token)
opens_by (kinds.Key keys.Int) q p ts = Some (record { base = bases.Int; dim = 0; place = q }, p, ts)
opens_by (kinds.Key keys.Char) q p ts = Some (record { base = bases.Char; dim = 0; place = q }, p, ts)
opens_by _ q p ts = None

-- the same of the tokens behind the bracket at p
abbrev pub opens_behind : Place → List Token → Option (TypeName × Place × List Token)
opens_behind p [] = None
opens_behind p (t ∷ ts) = opens_by t.kind t.place p ts

-- a round bracket and `int` or `char`, which open a cast: the type, the place of the bracket and what follows the type
abbrev pub opens_cast : List Token → Option (TypeName × Place × List Token)
opens_cast ts = elim (after marks.OpenRound ts) [ None ↦ None | Some a ↦ opens_behind a.0 a.1 ]

-- a cast to a name, once its closing bracket was looked for: the type, the place p of the opening one, the rest
abbrev pub cast_end : List ℕ → Place → Place → Option (Place × List Token) → Option (TypeName × Place × List Token)
cast_end n q p None = None
cast_end n q p (Some c) = if casts c.1 then Some (record { base = bases.Named n; dim = 0; place = q }, p, c.1) else None

-- a cast behind its opening bracket at p, once a name was looked for there
abbrev pub cast_by : Place → Option (List ℕ × Place × List Token) → Option (TypeName × Place × List Token)
cast_by p None = None
cast_by p (Some b) = cast_end b.0 b.1 p (after marks.CloseRound b.2)

-- a name in round brackets that casts what follows: the type, the place of the bracket and the rest
abbrev pub cast_next : List Token → Option (TypeName × Place × List Token)
cast_next ts = elim (after marks.OpenRound ts) [ None ↦ None | Some a ↦ cast_by a.0 (word_next a.1) ]

-- a literal or `this`
abbrev pub literal_by : TokenKind → Place → List Token → Option (Expression × List Token)
literal_by (kinds.Int v) p ts = Some (IntLit v p, ts)
literal_by (kinds.Char c) p ts = Some (CharLit c p, ts)
literal_by (kinds.Str u) p ts = Some (StrLit u p, ts)
literal_by (kinds.Key keys.True) p ts = Some (BoolLit true p, ts)
literal_by (kinds.Key keys.False) p ts = Some (BoolLit false p, ts)
literal_by (kinds.Key keys.Null) p ts = Some (NullLit p, ts)
literal_by (kinds.Key keys.This) p ts = Some (ThisRef p, ts)
literal_by _ p ts = None

-- the literal or `this` that is next, and the tokens behind it
abbrev pub literal_next : List Token → Option (Expression × List Token)
literal_next [] = None
literal_next (t ∷ ts) = literal_by t.kind t.place ts

-- whether what was read ends as a new array, which takes no index
abbrev pub is_array : End → Bool
is_array ends.Array = true
is_array _ = false

-- the place of the `[` that opens an index and the tokens behind it, where one is next and may follow
abbrev pub index_next : End → List Token → Option (Place × List Token)
index_next z ts = if is_array z then None else after marks.OpenSquare ts

-- one more at the end
abbrev pub expr_snoc : Expressions → Expression → Expressions
expr_snoc no_more e = and_more e no_more
expr_snoc (and_more x es) e = and_more x (expr_snoc es e)

-- the statements with one more at the end
abbrev pub stmt_snoc : Statements → Statement → Statements
stmt_snoc no_statements s = and_then s no_statements
stmt_snoc (and_then x ss) s = and_then x (stmt_snoc ss s)

-- the arms with one more at the end, by its test and its body
abbrev pub arm_snoc : Arms → Expression → Statements → Arms
arm_snoc no_arms e ss = and_arm e ss no_arms
arm_snoc (and_arm x b a) e ss = and_arm x b (arm_snoc a e ss)

-- whether `final` is next, and what follows
abbrev pub final_of : List Token → Bool × List Token
final_of ts = elim (after_key keys.Final ts) [ None ↦ (false, ts) | Some a ↦ (true, a.1) ]

-- the operator that was found for a mark, if any, with its place and the rest
abbrev pub operator_of : Option Mark → Place → List Token → Option (Mark × Place × List Token)
operator_of None p ts = None
operator_of (Some o) p ts = Some (o, p, ts)

-- the operator that a token stands for by f, where it is a mark, its place and the rest
abbrev pub stands_by : (Mark → Option Mark) → TokenKind → Place → List Token → Option (Mark × Place × List Token)
stands_by f (kinds.Mark m) p ts = operator_of (f m) p ts
stands_by f _ p ts = None

-- the operator that the mark at the front stands for, its place and the rest
abbrev pub stands_next : (Mark → Option Mark) → List Token → Option (Mark × Place × List Token)
stands_next f [] = None
stands_next f (t ∷ ts) = stands_by f t.kind t.place ts

-- `++` or `--`
abbrev pub stepping_next : List Token → Option (Mark × Place × List Token)
stepping_next = stands_next stepping

-- a compound assignment
abbrev pub compound_next : List Token → Option (Mark × Place × List Token)
compound_next = stands_next compound

-- the name that an expression is, where it has no round brackets
abbrev pub named : End → Expression → Option (List ℕ × Place)
named ends.Name (NameRef n p) = Some (n, p)
named _ _ = None

-- whether an expression that ends so may be assigned to
abbrev pub is_target : End → Bool
is_target ends.Name = true
is_target ends.Target = true
is_target _ = false

-- whether an expression that ends so may be a statement: a call or a new object
abbrev pub is_call : End → Bool
is_call ends.Call = true
is_call ends.New = true
is_call _ = false

-- `n++`, `++n` and their like
abbrev pub stepped : Mark → List ℕ → Place → Place → Statement
stepped o n p q = AssignOf (NameRef n p) (BinaryOf o (NameRef n p) (IntLit (pos 1) q) q) q

-- a call as a statement
abbrev pub done_by : Place → Expression → Option (Bool × Option Expression) → Statement
done_by p e None = DoOf e p
done_by p e (Some x) = PrintOf x.0 x.1 p

-- a call as a statement, whose first token stands at p and is a name or not: what it prints, or else a `Do`
abbrev pub done : Bool → Place → Expression → Statement
done w p e = done_by p e (if w then printed_by e else None)

-- whether a token is `]`
abbrev pub is_close : TokenKind → Bool
is_close (kinds.Mark marks.CloseSquare) = true
is_close _ = false

-- whether a `]` is next
abbrev pub closes : List Token → Bool
closes [] = false
closes (t ∷ ts) = is_close t.kind

-- whether this token and those behind it, after a name, make that the type of a local: a name, or `[` and `]`
abbrev pub behind_word : TokenKind → List Token → Bool
behind_word (kinds.Word n) ts = true
behind_word (kinds.Mark marks.OpenSquare) ts = closes ts
behind_word _ ts = false

-- whether the tokens after a name make it the type of a local
abbrev pub follows_word : List Token → Bool
follows_word [] = false
follows_word (t ∷ ts) = behind_word t.kind ts

-- whether this token and those behind it begin the declaration of a local
abbrev pub local_by : TokenKind → List Token → Bool
local_by (kinds.Word n) ts = follows_word ts
local_by (kinds.Key keys.Final) ts = true
local_by (kinds.Key keys.Int) ts = true
local_by (kinds.Key keys.Boolean) ts = true
local_by (kinds.Key keys.Char) ts = true
local_by _ ts = false

-- whether the declaration of a local begins here: with `final`, a type's keyword, or a name that is a type
abbrev pub starts_local : List Token → Bool
starts_local [] = false
starts_local (t ∷ ts) = local_by t.kind ts

-- how a statement begins
pub data Start : Type 0 where
  SBlock : Place → List Token → Start
  SEmpty : Place → List Token → Start
  SIf : Place → List Token → Start
  SWhile : Place → List Token → Start
  SFor : Place → List Token → Start
  SReturn : Place → List Token → Start
  SBreak : Place → List Token → Start
  SContinue : Place → List Token → Start
  SOther : Start

-- how a statement begins, by its first token and its place
abbrev pub start_by : TokenKind → Place → List Token → Start
start_by (kinds.Mark marks.OpenBrace) p ts = SBlock p ts
start_by (kinds.Mark marks.Semi) p ts = SEmpty p ts
start_by (kinds.Key keys.If) p ts = SIf p ts
start_by (kinds.Key keys.While) p ts = SWhile p ts
start_by (kinds.Key keys.For) p ts = SFor p ts
start_by (kinds.Key keys.Return) p ts = SReturn p ts
start_by (kinds.Key keys.Break) p ts = SBreak p ts
start_by (kinds.Key keys.Continue) p ts = SContinue p ts
start_by _ p ts = SOther

-- how the statement begins that is next
abbrev pub start : List Token → Start
start [] = SOther
start (t ∷ ts) = start_by t.kind t.place ts

-- a modifier and the rest
abbrev pub modifier_by : TokenKind → Place → List Token → Option (Modifier × List Token)
modifier_by (kinds.Key k) p ts = if is_modifier k then Some (record { word = k; place = p }, ts) else None
modifier_by _ p ts = None

-- the modifier that is next, and the tokens behind it
abbrev pub modifier_next : List Token → Option (Modifier × List Token)
modifier_next [] = None
modifier_next (t ∷ ts) = modifier_by t.kind t.place ts

-- whether no token is left
abbrev pub at_end : List Token → Bool
at_end [] = true
at_end (t ∷ ts) = false
