-- The text of an expression is read as its kinds.
use Rattle.std.proofs.Common.{◌≡◌, ℕ, zero, suc, ◌<◌, ◌≤◌, ℤ, pos, negsuc, Bool, true, false, not, List, ◌∷◌, ◌++◌, refl, sym, subst, arith, drop, nat_le, inl, inr}
use Rattle.std.proofs.lemmas.Bool.{and_parts, true≢false, cases_Bool, leb-true, leb-false}
use Rattle.unicode_ident.proofs.Computing.{unicode_ident}
use Rattle.kaba_base.specs.declared.Place.{Place}
use Rattle.kaba_base.specs.declared.Keyword.TheVariants as keys
use Rattle.kaba_base.specs.Words.{next_is, key_text}
use Rattle.java_lex.specs.declared.Mark.{Mark}
use Rattle.java_lex.specs.declared.Mark.TheVariants as marks
use Rattle.java_lex.specs.declared.TokenKind.TheVariants as kinds
use Rattle.java_lex.specs.Spelling.{mark_text}
use Rattle.java_lex.proofs.Spelled as tokens
use Rattle.java_tree.specs.declared.TypeBase.{TypeBase}
use Rattle.java_tree.specs.declared.TypeBase.TheVariants as bases
use Rattle.java_tree.specs.declared.TypeName.{TypeName}
use Rattle.java_tree.specs.Syntax.{Expression, IntLit, CharLit, StrLit, BoolLit, NullLit, ThisRef, NameRef, FieldOf, IndexOf, CallOf, CallOn, SuperCallOf, NewOf, NewArrayOf, CastOf, InstanceOfClass, UnaryOf, BinaryOf, Expressions, no_more, and_more}
use Rattle.java_tree.specs.Places.{expr_unplaced, exprs_unplaced}
use Rattle.java_tree.specs.Tokens.{level, is_sign}
use Rattle.java_print.specs.Items.{Item, Lexeme, text}
use Rattle.java_print.specs.Layout.{rank, sign_of, same_sign, fits, fits_sign, fits_cast, in_round, comma, base_items, dims_items, more_dims_items, type_items, expr_items, args_items}
use Rattle.java_tree.specs.Formed.{IsNumber, a_small, the_least, IsFormedBase, IsCastBase, IsFormedExpression, AreFormed}
use Rattle.java_print.proofs.Lexes.{Lexes, Loose, word, key, small, least, char, string, closed, space, spaced, IsSign, plus, minus, bang, flip, extends, signy, signed, clear, number_head, name_head}

-- an expression before other items, with what its text begins with where no brackets are needed before a postfix
pub record Shows (e : Expression) (r : List Item) : Type 0 where
  pub lexes : Lexes (expr_items e r)
  pub head : 12 ≤ rank e → next_is signy (text (expr_items e r)) ≡ false

abbrev pub Shown : Expression → Type 0
Shown e = (r : List Item) → Loose r → Lexes r → Shows e r

pub level_low : (m : Mark) → level m ≤ 10
level_low marks.Either = omega arith
level_low _ = omega arith

pub round : (b : Bool) (e : Expression) → Shown e → (r : List Item) → Loose r → Lexes r → Lexes (in_round b (expr_items e) r)
unfolding unicode_ident
round true e h r a s = (h r a s).lexes
round false e h r a s = closed tokens.cOpenRound (h _ refl (closed tokens.cCloseRound s)).lexes

round_head : (b : Bool) (e : Expression) (r : List Item) → (b ≡ true → next_is signy (text (expr_items e r)) ≡ false)
    → next_is signy (text (in_round b (expr_items e) r)) ≡ false
round_head true e r h = h refl
round_head false e r h = refl

post_head : (k : ℕ) → 12 ≤ k → (e : Expression) → Shown e → (r : List Item) → Loose r → Lexes r
    → next_is signy (text (in_round (fits k e) (expr_items e) r)) ≡ false
post_head k l e h r a s = round_head (fits k e) e r (λ f. (h r a s).head (omega (arith, leb-true k (rank e) f, l)))

pub a_sign : (m : Mark) → is_sign m ≡ true → IsSign m
a_sign marks.Plus h = plus
a_sign marks.Minus h = minus
a_sign marks.Bang h = bang
a_sign marks.Flip h = flip
a_sign _ h = absurd (true≢false (sym h))

-- a sign whose operand does not begin with the same one
two_signs : {m k : Mark} → IsSign m → IsSign k → (e : Expression) (p : Place) (rest : List ℕ) → not (same_sign m (sign_of (UnaryOf k e p))) ≡ true
    → next_is (extends m) (mark_text k ++ rest) ≡ false
two_signs plus plus e p rest h = absurd (true≢false (sym h))
two_signs plus minus e p rest h = refl
two_signs plus bang e p rest h = refl
two_signs plus flip e p rest h = refl
two_signs minus plus e p rest h = refl
two_signs minus minus e p rest h = absurd (true≢false (sym h))
two_signs minus bang e p rest h = refl
two_signs minus flip e p rest h = refl
two_signs bang plus e p rest h = refl
two_signs bang minus e p rest h = refl
two_signs bang bang e p rest h = refl
two_signs bang flip e p rest h = refl
two_signs flip k e p rest h = open_flip k rest
  where
    open_flip : {k : Mark} → IsSign k → (rest : List ℕ) → next_is (extends marks.Flip) (mark_text k ++ rest) ≡ false
    open_flip plus rest = refl
    open_flip minus rest = refl
    open_flip bang rest = refl
    open_flip flip rest = refl

bracket : {m : Mark} → IsSign m → (rest : List ℕ) → next_is (extends m) (40 ∷ rest) ≡ false
bracket plus rest = refl
bracket minus rest = refl
bracket bang rest = refl
bracket flip rest = refl

sign_eleven : {m : Mark} → IsSign m → (e : Expression) → IsFormedExpression (expr_unplaced e) → 11 ≤ rank e → rank e < 12 → not (same_sign m (sign_of e)) ≡ true
    → (r : List Item) → next_is (extends m) (text (expr_items e r)) ≡ false
sign_eleven g (UnaryOf k e p) w l u q r = two_signs g (a_sign k w.0) e p _ q
sign_eleven g (CastOf t e p) w l u q r = bracket g (drop 1 (text (expr_items (CastOf t e p) r)))
sign_eleven g (BinaryOf m a b p) w l u q r = absurd (omega (arith, level_low m, l))
sign_eleven g (IntLit (pos n) p) w l u q r = absurd (omega (arith, u))
sign_eleven g (IntLit (negsuc n) p) w l u q r = absurd (omega (arith, l))
sign_eleven g _ w l u q r = absurd (omega (arith, l, u))

sign_head : {m : Mark} → IsSign m → (e : Expression) → IsFormedExpression (expr_unplaced e) → Shown e → fits_sign m e ≡ true → (r : List Item) → Loose r
    → Lexes r → next_is (extends m) (text (expr_items e r)) ≡ false
sign_head {m} g e w h f r a s =
    let p = and_parts (fits 11 e) (not (same_sign m (sign_of e))) f in
    elim (cases_Bool (nat_le 12 (rank e))) as (λ _. next_is (extends m) (text (expr_items e r)) ≡ false) [
      | inl k ↦ clear g (text (expr_items e r)) ((h r a s).head (leb-true 12 (rank e) k))
      | inr k ↦ sign_eleven g e w (leb-true 11 (rank e) p.0) (leb-false 12 (rank e) k) p.1 r
    ]

sign_round : {m : Mark} → IsSign m → (b : Bool) (e : Expression) → fits_sign m e ≡ b → IsFormedExpression (expr_unplaced e) → Shown e → (r : List Item)
    → Loose r → Lexes r → next_is (extends m) (text (in_round b (expr_items e) r)) ≡ false
sign_round g true e f w h r a s = sign_head g e w h f r a s
sign_round g false e f w h r a s = bracket g (drop 1 (text (in_round false (expr_items e) r)))

small_shows : (n : ℕ) (p : Place) → n < 2147483648 → Shown (IntLit (pos n) p)
small_shows n p h r a s = record { lexes = small n h a s; head = λ k. number_head n (text r) (omega (arith, h)) }

int : (z : ℤ) (p : Place) → IsNumber z → Shown (IntLit z p)
int z p (a_small q) = subst (λ y. Shown (IntLit y p)) (sym q.is) (small_shows q.value p q.small)
int z p the_least = λ r a s. record {
  lexes = signed minus (clear minus (text (Lexeme kinds.Least ∷ r)) (number_head 2147483648 (text r) (omega arith))) (least a s);
  head = λ k.
      absurd (omega (arith, k));
}

pub base : (b : TypeBase) → IsFormedBase b → (r : List Item) → Loose r → Lexes r → Lexes (base_items b r)
base bases.Int w r a s = key keys.Int a s
base bases.Boolean w r a s = key keys.Boolean a s
base bases.Char w r a s = key keys.Char a s
base (bases.Named n) w r a s = word w a s

pub cast_base : (b : TypeBase) → IsCastBase b → IsFormedBase b
cast_base bases.Boolean w = absurd w
cast_base bases.Int w = tt
cast_base bases.Char w = tt
cast_base (bases.Named n) w = w

dims : (d : ℕ) (r : List Item) → Lexes r → Lexes (dims_items d r)
dims zero r s = s
dims (suc d) r s = closed tokens.cOpenSquare (closed tokens.cCloseSquare (dims d r s))

dims_loose : (d : ℕ) (r : List Item) → Loose r → Loose (dims_items d r)
unfolding unicode_ident
dims_loose zero r a = a
dims_loose (suc d) r a = refl

more_dims : (d : ℕ) (r : List Item) → Lexes r → Lexes (more_dims_items d r)
more_dims zero r s = s
more_dims (suc d) r s = dims d r s

pub a_type : (t : TypeName) → IsFormedBase t.base → (r : List Item) → Loose r → Lexes r → Lexes (type_items t r)
a_type t w r a s = base t.base w _ (dims_loose t.dim r a) (dims t.dim r s)

pub commas : (b : Bool) (r : List Item) → Lexes r → Lexes (comma b r)
commas true r s = closed tokens.cComma (space s)
commas false r s = s

args_loose : (es : Expressions) (r : List Item) → Loose (args_items true es r)
unfolding unicode_ident
args_loose no_more r = refl
args_loose (and_more e es) r = refl

mutual
  unfolding unicode_ident key_text

  pub expr : (e : Expression) → IsFormedExpression (expr_unplaced e) → Shown e
  expr (IntLit z p) w = int z p w
  expr (CharLit u p) w = λ r a s. record { lexes = char w s; head = λ h. refl }
  expr (StrLit us p) w = λ r a s. record { lexes = string w s; head = λ h. refl }
  expr (BoolLit true p) w = λ r a s. record { lexes = key keys.True a s; head = λ h. refl }
  expr (BoolLit false p) w = λ r a s. record { lexes = key keys.False a s; head = λ h. refl }
  expr (NullLit p) w = λ r a s. record { lexes = key keys.Null a s; head = λ h. refl }
  expr (ThisRef p) w = λ r a s. record { lexes = key keys.This a s; head = λ h. refl }
  expr (NameRef n p) w = λ r a s. record { lexes = word w a s; head = λ h. name_head n (text r) w.named }
  expr (FieldOf e n p) w = λ r a s. let t = closed tokens.cDot (word w.1 a s) in
      record { lexes = round (fits 12 e) e (expr e w.0) _ refl t; head = λ h. post_head 12 (omega arith) e (expr e w.0) _ refl t }
  expr (IndexOf e i p) w = λ r a s. let t = closed tokens.cOpenSquare (expr i w.1 _ refl (closed tokens.cCloseSquare s)).lexes in
      record { lexes = round (fits 13 e) e (expr e w.0) _ refl t; head = λ h. post_head 13 (omega arith) e (expr e w.0) _ refl t }
  expr (CallOf n es p) w = λ r a s. record { lexes = word w.0 refl (closed tokens.cOpenRound (args false es w.1 r s)); head = λ h. name_head n _ w.0.named }
  expr (CallOn e n es p) w = λ r a s. let t = closed tokens.cDot (word w.1 refl (closed tokens.cOpenRound (args false es w.2 r s))) in
      record { lexes = round (fits 12 e) e (expr e w.0) _ refl t; head = λ h. post_head 12 (omega arith) e (expr e w.0) _ refl t }
  expr (SuperCallOf n es p) w =
      λ r a s. record {
        lexes = key keys.Super refl (closed tokens.cDot (word w.0 refl (closed tokens.cOpenRound (args false es w.1 r s))));
        head = λ h. refl;
      }
  expr (NewOf c es p) w = λ r a s. record {
    lexes = key keys.New refl (space (word w.0 refl (closed tokens.cOpenRound (args false es w.1 r s))));
    head = λ h. refl;
  }
  expr (NewArrayOf t e p) w = λ r a s. record {
    lexes = key keys.New refl (space
        (base t.base w.0 _ refl (closed tokens.cOpenSquare (expr e w.2 _ refl (closed tokens.cCloseSquare (more_dims t.dim r s))).lexes)));
    head = λ h. refl;
  }
  expr (CastOf t e p) w = λ r a s. record {
    lexes = closed tokens.cOpenRound (base t.base (cast_base t.base w.0) _ refl
        (closed tokens.cCloseRound (space (round (fits_cast t.base e) e (expr e w.2) r a s))));
    head = λ h. absurd (omega (arith, h));
  }
  expr (InstanceOfClass e c p) w = λ r a s. record {
    lexes = round (fits 7 e) e (expr e w.0) _ refl (space (key keys.InstanceOf refl (space (word w.1 a s))));
    head = λ h. absurd (omega (arith, h));
  }
  expr (UnaryOf m e p) w = λ r a s. let g = a_sign m w.0 in record {
    lexes = signed g (sign_round g (fits_sign m e) e refl w.1 (expr e w.1) r a s) (round (fits_sign m e) e (expr e w.1) r a s);
    head = λ h. absurd (omega (arith, h));
  }
  expr (BinaryOf m a b p) w = λ r x s. record {
    lexes = round (fits (level m) a) a (expr a w.1) _ refl (space (spaced m (round (fits (suc (level m)) b) b (expr b w.2) r x s)));
    head = λ h. absurd (omega (arith, h, level_low m));
  }

  pub args : (b : Bool) (es : Expressions) → AreFormed (exprs_unplaced es) → (r : List Item) → Lexes r → Lexes (args_items b es r)
  args b no_more w r s = closed tokens.cCloseRound s
  args b (and_more e es) w r s = commas b _ (expr e w.0 _ (args_loose es r) (args true es w.1 r s)).lexes
