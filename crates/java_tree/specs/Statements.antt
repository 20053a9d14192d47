-- Believed. The grammar of statements, one case for each line of it.
use Rattle.std.specs.Prelude.{◌≡◌, ℕ, pos, List, [], ◌∷◌, Bool, true, false, Option, Some, None, ◌&&◌, codes, if◌then◌else◌}
use Rattle.std.specs.Str.{bytes_eq, encode_utf8_all}
use Rattle.kaba_base.specs.declared.Place.{Place}
use Rattle.kaba_base.specs.declared.words.Keyword.TheVariants as keys
use Rattle.java_lex.specs.declared.Token.{Token}
use Rattle.java_lex.specs.declared.TokenKind.{TokenKind}
use Rattle.java_lex.specs.declared.TokenKind.TheVariants as kinds
use Rattle.java_lex.specs.declared.Mark.{Mark}
use Rattle.java_lex.specs.declared.Mark.TheVariants as marks
use Rattle.java_tree.specs.declared.TypeName.{TypeName}
use Rattle.java_tree.specs.Syntax.{Expression, IntLit, NameRef, FieldOf, IndexOf, CallOf, CallOn, SuperCallOf, NewOf, BinaryOf, Expressions, no_more, and_more, Statement, LocalOf, BlockOf, AssignOf, DoOf, PrintOf, IfOf, WhileOf, ForOf, ReturnOf, BreakOf, ContinueOf, Statements, no_statements, and_then, Arms, no_arms, and_arm, Else, no_else, otherwise, OptionalStatement, absent, present}
use Rattle.java_tree.specs.Tokens.{mark, key, word, first_place, compound, stepping}
use Rattle.java_tree.specs.Expressions.{IsType, IsExpr, IsPost, IsArgs}

-- a body: a block gives its list, another statement is a list of one
abbrev pub as_body : Statement → Statements
as_body (BlockOf ss p) = ss
as_body s = and_then s no_statements

-- whether a statement is an `if`
abbrev pub is_choice : Statement → Bool
is_choice (IfOf a o p) = true
is_choice _ = false

-- whether the name is this text, in bytes
abbrev pub is_called : List ℕ → List ℕ → Bool
is_called n text = bytes_eq (encode_utf8_all n) text

-- `System.out`
abbrev pub is_out : Expression → Bool
is_out (FieldOf (NameRef s p) o q) = is_called s (codes "System") && is_called o (codes "out")
is_out _ = false

-- the name and the arguments of a call upon `System.out`
abbrev pub output_call : Expression → Option (List ℕ × Expressions)
output_call (CallOn b n es r) = if is_out b then Some (n, es) else None
output_call _ = None

-- whether a line ends, and what is printed: `println` takes at most one argument, `print` takes one
abbrev pub printed_args : List ℕ → Expressions → Option (Bool × Option Expression)
printed_args n no_more = if is_called n (codes "println") then Some (true, None) else None
printed_args n (and_more e no_more) = if is_called n (codes "println") then Some (true, Some e) else if is_called n (codes "print") then Some
    (false, Some e) else None
printed_args n (and_more e (and_more f es)) = None

-- what an expression prints where it is a call upon `System.out`: whether a line ends, and the value
abbrev pub printed_by : Expression → Option (Bool × Option Expression)
printed_by (CallOn b n es r) = if is_out b then printed_args n es else None
printed_by _ = None

-- whether a token is a name
abbrev pub is_word : TokenKind → Bool
is_word (kinds.Word n) = true
is_word _ = false

-- what a call prints that is written so without round brackets about its front: its tokens begin with the word
abbrev pub printed : List Token → Expression → Option (Bool × Option Expression)
printed [] e = None
printed (t ∷ ts) e = if is_word t.kind then printed_by e else None

-- ["final"]
pub data IsFinal : List Token → List Token → Bool → Type 0 where
  not_final : {ts : List Token} → IsFinal ts ts false
  is_final : {p : Place} {ts : List Token} → IsFinal (key keys.Final p ∷ ts) ts true

-- [expr]
pub data IsValue : List Token → List Token → Option Expression → Type 0 where
  no_value : {ts : List Token} → IsValue ts ts None
  a_value : {e : Expression} {ts rest : List Token} → IsExpr 1 ts rest e → IsValue ts rest (Some e)

-- ["=" expr]
pub data IsInit : List Token → List Token → Option Expression → Type 0 where
  no_init : {ts : List Token} → IsInit ts ts None
  an_init : {e : Expression} {p : Place} {ts rest : List Token} → IsExpr 1 ts rest e → IsInit (mark marks.Assign p ∷ ts) rest (Some e)

-- ["final"] type ID ["=" expr]
pub data IsLocal : List Token → List Token → Statement → Type 0 where
  a_local : {f : Bool} {t : TypeName} {n : List ℕ} {v : Option Expression} {p : Place} {ts us vs rest : List Token} →
      IsFinal ts us f → IsType us (word n p ∷ vs) t → IsInit vs rest v → IsLocal ts rest (LocalOf f t n v p)

-- target = ID | post "." ID | post "[" expr "]"
pub data IsTarget : List Token → List Token → Expression → Type 0 where
  to_name : {n : List ℕ} {p : Place} {rest : List Token} → IsTarget (word n p ∷ rest) rest (NameRef n p)
  to_field : {b : Bool} {e : Expression} {n : List ℕ} {p q : Place} {ts rest : List Token} →
      IsPost b ts (mark marks.Dot q ∷ word n p ∷ rest) e → IsTarget ts rest (FieldOf e n p)
  to_index : {e i : Expression} {p q : Place} {ts us rest : List Token} → IsPost true ts (mark marks.OpenSquare p ∷ us) e →
      IsExpr 1 us (mark marks.CloseSquare q ∷ rest) i → IsTarget ts rest (IndexOf e i p)

-- call = ID "(" args ")" | post "." ID "(" args ")" | "super" "." ID "(" args ")"
pub data IsCall : List Token → List Token → Expression → Type 0 where
  plain_call : {n : List ℕ} {es : Expressions} {p r : Place} {us rest : List Token} → IsArgs us rest es →
      IsCall (word n p ∷ mark marks.OpenRound r ∷ us) rest (CallOf n es p)
  call_upon : {b : Bool} {e : Expression} {n : List ℕ} {es : Expressions} {p q r : Place} {ts us rest : List Token} →
      IsPost b ts (mark marks.Dot q ∷ word n p ∷ mark marks.OpenRound r ∷ us) e → IsArgs us rest es → IsCall ts rest (CallOn e n es p)
  call_above : {n : List ℕ} {es : Expressions} {p q r s : Place} {us rest : List Token} → IsArgs us rest es →
      IsCall (key keys.Super q ∷ mark marks.Dot r ∷ word n p ∷ mark marks.OpenRound s ∷ us) rest (SuperCallOf n es p)

-- what stands before a `;`, or steps a `for`
pub data IsAct : List Token → List Token → Statement → Type 0 where
  -- act = target "=" expr
  assign : {t e : Expression} {p : Place} {ts us rest : List Token} → IsTarget ts (mark marks.Assign p ∷ us) t → IsExpr 1 us rest e →
      IsAct ts rest (AssignOf t e p)
  -- act = ID op "=" expr
  assign_by : {n : List ℕ} {m o : Mark} {e : Expression} {p q : Place} {us rest : List Token} → compound m ≡ Some o → IsExpr 1 us rest e →
      IsAct (word n p ∷ mark m q ∷ us) rest (AssignOf (NameRef n p) (BinaryOf o (NameRef n p) e q) q)
  -- act = ID "++" | ID "--"
  step_after : {n : List ℕ} {m o : Mark} {p q : Place} {rest : List Token} → stepping m ≡ Some o →
      IsAct (word n p ∷ mark m q ∷ rest) rest (AssignOf (NameRef n p) (BinaryOf o (NameRef n p) (IntLit (pos 1) q) q) q)
  -- act = "++" ID | "--" ID
  step_before : {n : List ℕ} {m o : Mark} {p q : Place} {rest : List Token} → stepping m ≡ Some o →
      IsAct (mark m q ∷ word n p ∷ rest) rest (AssignOf (NameRef n p) (BinaryOf o (NameRef n p) (IntLit (pos 1) q) q) q)
  -- act = call, which is a Do where it is no Print
  do_call : {e : Expression} {ts rest : List Token} → IsCall ts rest e → printed ts e ≡ None → IsAct ts rest (DoOf e (first_place ts))
  -- act = System.out.println "(" [expr] ")" | System.out.print "(" expr ")"
  print : {e : Expression} {l : Bool} {v : Option Expression} {ts rest : List Token} → IsCall ts rest e → printed ts e ≡ Some (l, v) →
      IsAct ts rest (PrintOf l v (first_place ts))
  -- act = "new" ID "(" args ")"
  do_new : {n : List ℕ} {es : Expressions} {p q r : Place} {us rest : List Token} → IsArgs us rest es →
      IsAct (key keys.New p ∷ word n q ∷ mark marks.OpenRound r ∷ us) rest (DoOf (NewOf (record { name = n; place = q }) es p) p)

-- [first], where first = act | ["final"] type ID ["=" expr]
pub data IsForFirst : List Token → List Token → OptionalStatement → Type 0 where
  no_first : {ts : List Token} → IsForFirst ts ts absent
  first_local : {s : Statement} {ts rest : List Token} → IsLocal ts rest s → IsForFirst ts rest (present s)
  first_act : {s : Statement} {ts rest : List Token} → IsAct ts rest s → IsForFirst ts rest (present s)

-- [act]
pub data IsForStep : List Token → List Token → OptionalStatement → Type 0 where
  no_step : {ts : List Token} → IsForStep ts ts absent
  a_step : {s : Statement} {ts rest : List Token} → IsAct ts rest s → IsForStep ts rest (present s)

mutual
  -- item = ["final"] type ID ["=" expr] ";" | stmt
  pub data IsItem : List Token → List Token → Statement → Type 0 where
    local_item : {s : Statement} {q : Place} {ts rest : List Token} → IsLocal ts (mark marks.Semi q ∷ rest) s → IsItem ts rest s
    stmt_item : {o : Bool} {s : Statement} {ts rest : List Token} → IsStmt o ts rest s → IsItem ts rest s

  -- items, and the brace that closes them
  pub data IsItems : List Token → List Token → Statements → Type 0 where
    no_items : {p : Place} {rest : List Token} → IsItems (mark marks.CloseBrace p ∷ rest) rest no_statements
    next_item : {s : Statement} {ss : Statements} {ts us rest : List Token} → IsItem ts us s → IsItems us rest ss → IsItems ts rest (and_then s ss)

  -- a statement. The flag says that an `else` behind it would belong to an `if` inside it
  pub data IsStmt : Bool → List Token → List Token → Statement → Type 0 where
    -- stmt = block | ";"
    block : {ss : Statements} {p : Place} {us rest : List Token} → IsItems us rest ss → IsStmt false (mark marks.OpenBrace p ∷ us) rest (BlockOf ss p)
    empty : {p : Place} {rest : List Token} → IsStmt false (mark marks.Semi p ∷ rest) rest (BlockOf no_statements p)
    -- stmt = act ";"
    acting : {s : Statement} {q : Place} {ts rest : List Token} → IsAct ts (mark marks.Semi q ∷ rest) s → IsStmt false ts rest s
    -- stmt = "if" arms
    choice : {o : Bool} {a : Arms} {e : Else} {p : Place} {us rest : List Token} → IsArms o us rest a e → IsStmt o (key keys.If p ∷ us) rest (IfOf a e p)
    -- stmt = "while" "(" expr ")" stmt
    while_loop : {o : Bool} {e : Expression} {s : Statement} {p q r : Place} {us vs rest : List Token} →
        IsExpr 1 us (mark marks.CloseRound r ∷ vs) e → IsStmt o vs rest s →
        IsStmt o (key keys.While p ∷ mark marks.OpenRound q ∷ us) rest (WhileOf e (as_body s) p)
    -- stmt = "for" "(" [first] ";" [expr] ";" [act] ")" stmt
    for_loop : {o : Bool} {f g : OptionalStatement} {v : Option Expression} {s : Statement} {p q r t w : Place} {us vs ws xs rest : List Token} →
        IsForFirst us (mark marks.Semi r ∷ vs) f → IsValue vs (mark marks.Semi t ∷ ws) v → IsForStep ws (mark marks.CloseRound w ∷ xs) g → IsStmt o xs rest s →
        IsStmt o (key keys.For p ∷ mark marks.OpenRound q ∷ us) rest (ForOf f v g (as_body s) p)
    -- stmt = "return" [expr] ";" | "break" ";" | "continue" ";"
    return_word : {v : Option Expression} {p q : Place} {us rest : List Token} → IsValue us (mark marks.Semi q ∷ rest) v
        → IsStmt false (key keys.Return p ∷ us) rest (ReturnOf v p)
    break_word : {p q : Place} {rest : List Token} → IsStmt false (key keys.Break p ∷ mark marks.Semi q ∷ rest) rest (BreakOf p)
    continue_word : {p q : Place} {rest : List Token} → IsStmt false (key keys.Continue p ∷ mark marks.Semi q ∷ rest) rest (ContinueOf p)

  -- what follows an `if`. An `else` belongs to the nearest `if`, and an `else if` is one more arm
  pub data IsArms : Bool → List Token → List Token → Arms → Else → Type 0 where
    last_arm : {o : Bool} {e : Expression} {s : Statement} {q r : Place} {us vs rest : List Token} →
        IsExpr 1 us (mark marks.CloseRound r ∷ vs) e → IsStmt o vs rest s →
        IsArms true (mark marks.OpenRound q ∷ us) rest (and_arm e (as_body s) no_arms) no_else
    else_arm : {o : Bool} {e : Expression} {s t : Statement} {q r w : Place} {us vs ws rest : List Token} →
        IsExpr 1 us (mark marks.CloseRound r ∷ vs) e → IsStmt false vs (key keys.Else w ∷ ws) s → IsStmt o ws rest t → is_choice t ≡ false →
        IsArms o (mark marks.OpenRound q ∷ us) rest (and_arm e (as_body s) no_arms) (otherwise (as_body t))
    more_arms : {o : Bool} {e : Expression} {s : Statement} {a : Arms} {l : Else} {q r w x : Place} {us vs ws rest : List Token} →
        IsExpr 1 us (mark marks.CloseRound r ∷ vs) e → IsStmt false vs (key keys.Else w ∷ key keys.If x ∷ ws) s → IsArms o ws rest a l →
        IsArms o (mark marks.OpenRound q ∷ us) rest (and_arm e (as_body s) a) l
