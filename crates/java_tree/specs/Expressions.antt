-- Believed. The grammar of expressions and types, one case for each line of it. `IsX ts rest x` says that the tokens of
-- the
-- list `ts` up to its end `rest` are the x.
use Rattle.std.specs.Prelude.{◌≡◌, ℕ, suc, ◌<◌, ◌≤◌, ℤ, negsuc, List, ◌∷◌, Bool, true, false}
use Rattle.kaba_base.specs.declared.Place.{Place}
use Rattle.kaba_base.specs.declared.words.Keyword.TheVariants as keys
use Rattle.java_lex.specs.declared.Token.{Token}
use Rattle.java_lex.specs.declared.TokenKind.TheVariants as kinds
use Rattle.java_lex.specs.declared.Mark.{Mark}
use Rattle.java_lex.specs.declared.Mark.TheVariants as marks
use Rattle.java_lex.specs.Lexing.{token}
use Rattle.java_tree.specs.declared.TypeBase.{TypeBase}
use Rattle.java_tree.specs.declared.TypeBase.TheVariants as bases
use Rattle.java_tree.specs.declared.TypeName.{TypeName}
use Rattle.java_tree.specs.Syntax.{Expression, IntLit, CharLit, StrLit, BoolLit, NullLit, ThisRef, NameRef, FieldOf, IndexOf, CallOf, CallOn, SuperCallOf, NewOf, NewArrayOf, CastOf, InstanceOfClass, UnaryOf, BinaryOf, Expressions, no_more, and_more}
use Rattle.java_tree.specs.Tokens.{mark, key, word, level, is_sign, casts}

-- a type without brackets
pub data IsBase : List Token → List Token → TypeBase → Place → Type 0 where
  int_base : {p : Place} {rest : List Token} → IsBase (key keys.Int p ∷ rest) rest bases.Int p
  boolean_base : {p : Place} {rest : List Token} → IsBase (key keys.Boolean p ∷ rest) rest bases.Boolean p
  char_base : {p : Place} {rest : List Token} → IsBase (key keys.Char p ∷ rest) rest bases.Char p
  named_base : {n : List ℕ} {p : Place} {rest : List Token} → IsBase (word n p ∷ rest) rest (bases.Named n) p

-- pairs of square brackets
pub data IsDims : List Token → List Token → ℕ → Type 0 where
  no_dims : {rest : List Token} → IsDims rest rest 0
  one_dim : {ts rest : List Token} {d : ℕ} (p q : Place) → IsDims ts rest d →
      IsDims (mark marks.OpenSquare p ∷ mark marks.CloseSquare q ∷ ts) rest (suc d)

-- type = ("int" | "boolean" | "char" | ID) { "[" "]" }
pub data IsType : List Token → List Token → TypeName → Type 0 where
  a_type : {ts us rest : List Token} {b : TypeBase} {p : Place} {d : ℕ} → IsBase ts us b p → IsDims us rest d →
      IsType ts rest (record { base = b; dim = d; place = p })

mutual
  -- an expression of a level: its operators outside brackets bind at least so tightly
  pub data IsExpr : ℕ → List Token → List Token → Expression → Type 0 where
    -- expr = expr op expr, which groups to the left
    binary : {l : ℕ} {m : Mark} {p : Place} {a b : Expression} {ts us rest : List Token} → 0 < level m → l ≤ level m →
        IsExpr (level m) ts (mark m p ∷ us) a → IsExpr (suc (level m)) us rest b → IsExpr l ts rest (BinaryOf m a b p)
    -- expr = expr "instanceof" ID, on the level of `<`
    instance_of : {l : ℕ} {n : List ℕ} {p q : Place} {e : Expression} {ts rest : List Token} → l ≤ 7 →
        IsExpr 7 ts (key keys.InstanceOf p ∷ word n q ∷ rest) e →
        IsExpr l ts rest (InstanceOfClass e (record { name = n; place = q }) p)
    operand : {l : ℕ} {ts rest : List Token} {e : Expression} → IsPrefixed ts rest e → IsExpr l ts rest e

  -- what prefix operators and casts stand before
  pub data IsPrefixed : List Token → List Token → Expression → Type 0 where
    -- prefixed = ("+" | "-" | "!" | "~") prefixed
    signed : {m : Mark} {p : Place} {e : Expression} {ts rest : List Token} → is_sign m ≡ true → IsPrefixed ts rest e →
        IsPrefixed (mark m p ∷ ts) rest (UnaryOf m e p)
    -- prefixed = "-" 2147483648, which is a literal
    least : {p q : Place} {rest : List Token} →
        IsPrefixed (mark marks.Minus p ∷ token kinds.Least q ∷ rest) rest (IntLit (negsuc 2147483647) p)
    -- prefixed = "(" ID ")" prefixed, where the token after the bracket says so
    cast_named : {n : List ℕ} {p q r : Place} {e : Expression} {ts rest : List Token} → casts ts ≡ true → IsPrefixed ts rest e →
        IsPrefixed (mark marks.OpenRound p ∷ word n q ∷ mark marks.CloseRound r ∷ ts) rest
        (CastOf (record { base = bases.Named n; dim = 0; place = q }) e p)
    -- prefixed = "(" "int" ")" prefixed | "(" "char" ")" prefixed
    cast_int : {p q r : Place} {e : Expression} {ts rest : List Token} → IsPrefixed ts rest e →
        IsPrefixed (mark marks.OpenRound p ∷ key keys.Int q ∷ mark marks.CloseRound r ∷ ts) rest
        (CastOf (record { base = bases.Int; dim = 0; place = q }) e p)
    cast_char : {p q r : Place} {e : Expression} {ts rest : List Token} → IsPrefixed ts rest e →
        IsPrefixed (mark marks.OpenRound p ∷ key keys.Char q ∷ mark marks.CloseRound r ∷ ts) rest
        (CastOf (record { base = bases.Char; dim = 0; place = q }) e p)
    -- prefixed = post
    bare : {b : Bool} {ts rest : List Token} {e : Expression} → IsPost b ts rest e → IsPrefixed ts rest e

  -- a literal, a name, a call and so on, with postfixes. The flag says that an index may follow
  pub data IsPost : Bool → List Token → List Token → Expression → Type 0 where
    -- post = post "." ID
    field : {b : Bool} {e : Expression} {n : List ℕ} {p q : Place} {ts rest : List Token} →
        IsPost b ts (mark marks.Dot q ∷ word n p ∷ rest) e → IsPost true ts rest (FieldOf e n p)
    -- post = post "." ID "(" args ")"
    call_on : {b : Bool} {e : Expression} {n : List ℕ} {es : Expressions} {p q r : Place} {ts us rest : List Token} →
        IsPost b ts (mark marks.Dot q ∷ word n p ∷ mark marks.OpenRound r ∷ us) e → IsArgs us rest es →
        IsPost true ts rest (CallOn e n es p)
    -- post = post "[" expr "]", where the post is no new array
    index : {e i : Expression} {p q : Place} {ts us rest : List Token} → IsPost true ts (mark marks.OpenSquare p ∷ us) e →
        IsExpr 1 us (mark marks.CloseSquare q ∷ rest) i → IsPost true ts rest (IndexOf e i p)
    -- post = literal
    int_literal : {v : ℤ} {p : Place} {rest : List Token} → IsPost true (token (kinds.Int v) p ∷ rest) rest (IntLit v p)
    char_literal : {c : ℕ} {p : Place} {rest : List Token} → IsPost true (token (kinds.Char c) p ∷ rest) rest (CharLit c p)
    string_literal : {u : List ℕ} {p : Place} {rest : List Token} → IsPost true (token (kinds.Str u) p ∷ rest) rest (StrLit u p)
    true_literal : {p : Place} {rest : List Token} → IsPost true (key keys.True p ∷ rest) rest (BoolLit true p)
    false_literal : {p : Place} {rest : List Token} → IsPost true (key keys.False p ∷ rest) rest (BoolLit false p)
    null_literal : {p : Place} {rest : List Token} → IsPost true (key keys.Null p ∷ rest) rest (NullLit p)
    -- post = "this" | ID | ID "(" args ")" | "super" "." ID "(" args ")" | "(" expr ")"
    this_word : {p : Place} {rest : List Token} → IsPost true (key keys.This p ∷ rest) rest (ThisRef p)
    name : {n : List ℕ} {p : Place} {rest : List Token} → IsPost true (word n p ∷ rest) rest (NameRef n p)
    call : {n : List ℕ} {es : Expressions} {p r : Place} {us rest : List Token} → IsArgs us rest es →
        IsPost true (word n p ∷ mark marks.OpenRound r ∷ us) rest (CallOf n es p)
    super_call : {n : List ℕ} {es : Expressions} {p q r s : Place} {us rest : List Token} → IsArgs us rest es →
        IsPost true (key keys.Super q ∷ mark marks.Dot r ∷ word n p ∷ mark marks.OpenRound s ∷ us) rest (SuperCallOf n es p)
    round : {e : Expression} {p q : Place} {ts rest : List Token} → IsExpr 1 ts (mark marks.CloseRound q ∷ rest) e →
        IsPost true (mark marks.OpenRound p ∷ ts) rest e
    -- post = "new" ID "(" args ")"
    new_object : {n : List ℕ} {es : Expressions} {p q r : Place} {us rest : List Token} → IsArgs us rest es →
        IsPost true (key keys.New p ∷ word n q ∷ mark marks.OpenRound r ∷ us) rest (NewOf (record { name = n; place = q }) es p)
    -- post = "new" type "[" expr "]" { "[" "]" }
    new_array : {b : TypeBase} {e : Expression} {d : ℕ} {p q r s : Place} {ts us vs rest : List Token} →
        IsBase ts (mark marks.OpenSquare r ∷ us) b q → IsExpr 1 us (mark marks.CloseSquare s ∷ vs) e → IsDims vs rest d →
        IsPost false (key keys.New p ∷ ts) rest (NewArrayOf (record { base = b; dim = suc d; place = q }) e p)

  -- the arguments, and the bracket that closes them
  pub data IsArgs : List Token → List Token → Expressions → Type 0 where
    no_args : {p : Place} {rest : List Token} → IsArgs (mark marks.CloseRound p ∷ rest) rest no_more
    some_args : {e : Expression} {es : Expressions} {ts us rest : List Token} → IsExpr 1 ts us e → IsMoreArgs us rest es →
        IsArgs ts rest (and_more e es)

  -- the arguments behind the first one, each behind a comma, and the bracket that closes them
  pub data IsMoreArgs : List Token → List Token → Expressions → Type 0 where
    last_arg : {p : Place} {rest : List Token} → IsMoreArgs (mark marks.CloseRound p ∷ rest) rest no_more
    next_arg : {e : Expression} {es : Expressions} {p : Place} {ts us rest : List Token} → IsExpr 1 ts us e → IsMoreArgs us rest es →
        IsMoreArgs (mark marks.Comma p ∷ ts) rest (and_more e es)
