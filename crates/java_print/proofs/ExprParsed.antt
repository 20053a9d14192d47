-- Tokens of the kinds of an expression derive it.
use Rattle.std.proofs.Common.{◌≡◌, ℕ, zero, suc, ◌<◌, ◌≤◌, ◌&&◌, ℤ, pos, negsuc, Bool, true, false, not, List, [], ◌∷◌, map, refl, ap, sym, subst, ◌∙◌, arith, nat_le, inl, inr}
use Rattle.std.proofs.lemmas.Bool.{and_parts, true≢false, cases_Bool, leb-true, leb-false}
use Rattle.java_lex.specs.declared.Token.{Token}
use Rattle.java_lex.specs.declared.TokenKind.{TokenKind}
use Rattle.java_lex.specs.Spells.{kind_of}
use Rattle.kaba_base.specs.declared.Place.{Place}
use Rattle.java_lex.specs.declared.Mark.{Mark}
use Rattle.java_lex.specs.declared.Mark.TheVariants as marks
use Rattle.java_lex.specs.declared.TokenKind.TheVariants as kinds
use Rattle.java_tree.specs.declared.TypeBase.{TypeBase}
use Rattle.java_tree.specs.declared.TypeBase.TheVariants as bases
use Rattle.java_tree.specs.declared.TypeName.{TypeName}
use Rattle.java_tree.specs.Syntax.{Expression, IntLit, CharLit, StrLit, BoolLit, NullLit, ThisRef, NameRef, FieldOf, IndexOf, CallOf, CallOn, SuperCallOf, NewOf, NewArrayOf, CastOf, InstanceOfClass, UnaryOf, BinaryOf, Expressions, no_more, and_more}
use Rattle.java_tree.specs.Places.{nowhere, expr_unplaced, exprs_unplaced, id_unplaced, type_unplaced}
use Rattle.java_tree.specs.Tokens.{level}
use Rattle.java_print.specs.Items.{Item, Space, kinds_in}
use Rattle.java_print.specs.Layout.{mark_then, rank, sign_of, same_sign, is_plus_or_minus, is_named, fits, fits_sign, fits_cast, in_round, base_items, dims_items, more_dims_items, type_items, expr_items, args_items}
use Rattle.java_tree.specs.Formed.{IsNumber, a_small, the_least, IsCastBase, IsFormedExpression, AreFormed}
use Rattle.java_lex.specs.Lexing.{token}
use Rattle.java_tree.specs.Tokens.{mark, casts, casts_kind}
use Rattle.java_tree.specs.Expressions.{IsBase, int_base, boolean_base, char_base, named_base, IsDims, no_dims, one_dim, IsType, a_type, IsExpr, binary, instance_of, operand, IsPrefixed, signed, least, cast_named, cast_int, cast_char, bare, IsPost, field, call_on, index, int_literal, char_literal, string_literal, true_literal, false_literal, null_literal, this_word, name, call, super_call, round, new_object, new_array, IsArgs, no_args, some_args, IsMoreArgs, last_arg, next_arg}
use Rattle.java_print.proofs.ExprLexes.{level_low, a_sign}
use Rattle.java_print.proofs.Lexes.{IsSign, plus, minus, bang, flip}

-- tokens of these kinds, at any places
pub data Of : List TokenKind → List Token → Type 0 where
  none : Of [] []
  one : {k : TokenKind} {p : Place} {ks : List TokenKind} {ts : List Token} → Of ks ts → Of (k ∷ ks) (token k p ∷ ts)

pub of_tokens : (ts : List Token) → Of (map kind_of ts) ts
of_tokens [] = none
of_tokens (t ∷ ts) = one (of_tokens ts)

-- a part that the tokens up to some end are, places aside; what follows has these kinds
pub record Got {A : Type 0} (plain : A → A) (P : List Token → List Token → A → Type 0) (x : A) (ks : List TokenKind) (ts : List Token) : Type 0 where
  pub rest : List Token
  pub tree : A
  pub fact : P ts rest tree
  pub left : Of ks rest
  pub same : plain tree ≡ plain x

-- with a token behind it
abbrev pub Then : {A : Type 0} → TokenKind → (List Token → List Token → A → Type 0) → List Token → List Token → A → Type 0
Then k P ts rest x = (p : Place) × P ts (token k p ∷ rest) x

step_by : {A : Type 0} {plain : A → A} {x : A} {k : TokenKind} {ks : List TokenKind} {ts : List Token} (P : List Token → List Token → A → Type 0)
    (us : List Token) (tree : A) → P ts us tree → Of (k ∷ ks) us → plain tree ≡ plain x → Got plain (Then k P) x ks ts
step_by P _ tree d (one {p = p} {ts = vs} o) s = record { rest = vs; tree = tree; fact = (p, d); left = o; same = s }

pub step : {A : Type 0} {plain : A → A} {P : List Token → List Token → A → Type 0} {x : A} {k : TokenKind} {ks : List TokenKind} {ts : List Token}
    → Got plain P x (k ∷ ks) ts → Got plain (Then k P) x ks ts
step {P = P} g = step_by P g.rest g.tree g.fact g.left g.same

-- what was got, as a part of a larger tree
pub got_in : {A B : Type 0} {plain : A → A} {whole : B → B} {P : List Token → List Token → A → Type 0} {Q : List Token → List Token → B → Type 0}
    {x : A} {z : B} {ks : List TokenKind} {ts us : List Token} (f h : A → B) → ((y : A) → whole (f y) ≡ h (plain y)) → h (plain x) ≡ whole z
    → ((rest : List Token) (y : A) → P ts rest y → Q us rest (f y)) → Got plain P x ks ts → Got whole Q z ks us
got_in f h e l d g = record { rest = g.rest; tree = f g.tree; fact = d g.rest g.tree g.fact; left = g.left; same = e g.tree ∙ ap h g.same ∙ l }

-- an expression where a level is asked
pub record At (k : ℕ) (ts rest : List Token) (e : Expression) : Type 0 where
  pub level : IsExpr k ts rest e
  pub prefixed : 11 ≤ k → IsPrefixed ts rest e
  pub any_post : 12 ≤ k → (b : Bool) × IsPost b ts rest e
  pub post : 13 ≤ k → IsPost true ts rest e

-- an expression as a whole, and where at most the level of a given one is asked
pub record Shape (e : Expression) (ts rest : List Token) (tree : Expression) : Type 0 where
  pub whole : IsExpr 1 ts rest tree
  pub at : (k : ℕ) → k ≤ rank e → At k ts rest tree

abbrev pub Found : Expression → List TokenKind → List Token → Type 0
Found e ks ts = Got expr_unplaced (Shape e) e ks ts

abbrev pub Finds : Expression → Type 0
Finds e = (r : List Item) (ts : List Token) → Of (kinds_in (expr_items e r)) ts → Found e (kinds_in r) ts

at_post : {ts rest : List Token} {t : Expression} (k : ℕ) → IsPost true ts rest t → At k ts rest t
at_post k d = record { level = operand (bare d); prefixed = λ l. bare d; any_post = λ l. (true, d); post = λ l. d }

post_shape : {e t : Expression} {ts rest : List Token} → IsPost true ts rest t → Shape e ts rest t
post_shape d = record { whole = operand (bare d); at = λ k l. at_post k d }

array_shape : {e t : Expression} {b : Bool} {ts rest : List Token} → rank e ≤ 12 → IsPost b ts rest t → Shape e ts rest t
array_shape {b = b} h d = record {
  whole = operand (bare d);
  at = λ k l. record {
    level = operand (bare d);
    prefixed = λ m. bare d;
    any_post = λ m.
        (b, d);
    post = λ m. absurd (omega (arith, h, l, m));
  };
}

prefixed_shape : {e t : Expression} {ts rest : List Token} → rank e ≤ 11 → IsPrefixed ts rest t → Shape e ts rest t
prefixed_shape h d = record {
  whole = operand d;
  at = λ k l. record {
    level = operand d;
    prefixed = λ m. d;
    any_post = λ m. absurd
        (omega (arith, h, l, m));
    post = λ m. absurd (omega (arith, h, l, m));
  };
}

open_shape : {e t : Expression} {ts rest : List Token} → rank e ≤ 10 → 1 ≤ rank e → ((k : ℕ) → k ≤ rank e → IsExpr k ts rest t) → Shape e ts rest t
open_shape h i d = record {
  whole = d 1 i;
  at = λ k l. record {
    level = d k l;
    prefixed = λ m. absurd (omega (arith, h, l, m));
    any_post = λ m. absurd
        (omega (arith, h, l, m));
    post = λ m. absurd (omega (arith, h, l, m));
  };
}

-- an operand, in round brackets where the test says so
pub rounded : (k : ℕ) (b : Bool) (e : Expression) → (b ≡ true → k ≤ rank e) → Finds e → (r : List Item) (ts : List Token)
    → Of (kinds_in (in_round b (expr_items e) r)) ts → Got expr_unplaced (At k) e (kinds_in r) ts
rounded k true e f h r ts o = let x = h r ts o in record { rest = x.rest; tree = x.tree; fact = x.fact.at k (f refl); left = x.left; same = x.same }
rounded k false e f h r _ (one {ts = ts} o) = let x = step (h (mark_then marks.CloseRound r) ts o) in
    record { rest = x.rest; tree = x.tree; fact = at_post k (round x.fact.1.whole); left = x.left; same = x.same }

pub operand_found : (k : ℕ) (e : Expression) → Finds e → (r : List Item) (ts : List Token) → Of (kinds_in (in_round (fits k e) (expr_items e) r)) ts
    → Got expr_unplaced (At k) e (kinds_in r) ts
operand_found k e h r ts o = rounded k (fits k e) e (λ f. leb-true k (rank e) f) h r ts o

-- a type without brackets, at the place of its token
abbrev pub BaseAt : TypeBase → List Token → List Token → Place → Type 0
BaseAt b ts rest p = IsBase ts rest b p

abbrev pub BaseFound : TypeBase → List TokenKind → List Token → Type 0
BaseFound b ks ts = Got (λ p. nowhere) (BaseAt b) nowhere ks ts

pub base : (b : TypeBase) (r : List Item) (ts : List Token) → Of (kinds_in (base_items b r)) ts → BaseFound b (kinds_in r) ts
base bases.Int r _ (one {p = p} {ts = ts} o) = record { rest = ts; tree = p; fact = int_base; left = o; same = refl }
base bases.Boolean r _ (one {p = p} {ts = ts} o) = record { rest = ts; tree = p; fact = boolean_base; left = o; same = refl }
base bases.Char r _ (one {p = p} {ts = ts} o) = record { rest = ts; tree = p; fact = char_base; left = o; same = refl }
base (bases.Named n) r _ (one {p = p} {ts = ts} o) = record { rest = ts; tree = p; fact = named_base; left = o; same = refl }

pub record DimsFound (d : ℕ) (ks : List TokenKind) (ts : List Token) : Type 0 where
  pub rest : List Token
  pub fact : IsDims ts rest d
  pub left : Of ks rest

dims : (d : ℕ) (r : List Item) (ts : List Token) → Of (kinds_in (dims_items d r)) ts → DimsFound d (kinds_in r) ts
dims zero r ts o = record { rest = ts; fact = no_dims; left = o }
dims (suc d) r _ (one {p = p} (one {p = q} o)) = let x = dims d r _ o in record { rest = x.rest; fact = one_dim p q x.fact; left = x.left }

pub type_found : (t : TypeName) (r : List Item) (ts : List Token) → Of (kinds_in (type_items t r)) ts → Got type_unplaced IsType t (kinds_in r) ts
type_found t r ts o = let x = base t.base _ ts o in let y = dims t.dim r x.rest x.left in
    record { rest = y.rest; tree = record { base = t.base; dim = t.dim; place = x.tree }; fact = a_type x.fact y.fact; left = y.left; same = refl }

-- what a name in round brackets before it is a cast of begins with
abbrev first_casts : List TokenKind → Bool
first_casts [] = false
first_casts (k ∷ ks) = casts_kind k

of_casts : (ks : List TokenKind) (ts : List Token) → Of ks ts → first_casts ks ≡ true → casts ts ≡ true
of_casts _ _ none h = absurd (true≢false (sym h))
of_casts _ _ (one o) h = h

starts_round : (b : Bool) (e : Expression) (r : List Item) → (b ≡ true → first_casts (kinds_in (expr_items e r)) ≡ true)
    → first_casts (kinds_in (in_round b (expr_items e) r)) ≡ true
starts_round true e r h = h refl
starts_round false e r h = refl

starts : (e : Expression) → 12 ≤ rank e → (r : List Item) → first_casts (kinds_in (expr_items e r)) ≡ true
starts (IntLit (pos n) p) l r = refl
starts (IntLit (negsuc n) p) l r = absurd (omega (arith, l))
starts (BoolLit true p) l r = refl
starts (BoolLit false p) l r = refl
starts (FieldOf e n p) l r = starts_round (fits 12 e) e _ (λ f. starts e (leb-true 12 (rank e) f) _)
starts (IndexOf e i p) l r = let m : 12 ≤ 13 = omega arith in starts_round (fits 13 e) e _
    (λ f. let k : 12 ≤ rank e = omega (arith, leb-true 13 (rank e) f) in starts e k _)
starts (CallOn e n es p) l r = starts_round (fits 12 e) e _ (λ f. starts e (leb-true 12 (rank e) f) _)
starts (CastOf t e p) l r = absurd (omega (arith, l))
starts (InstanceOfClass e c p) l r = absurd (omega (arith, l))
starts (UnaryOf m e p) l r = absurd (omega (arith, l))
starts (BinaryOf m a b p) l r = absurd (omega (arith, l, level_low m))
starts _ l r = refl

sign_starts : {k : Mark} → IsSign k → (n : List ℕ) (e : Expression) (p : Place)
    → not (is_named (bases.Named n) && is_plus_or_minus (sign_of (UnaryOf k e p))) ≡ true → casts_kind (kinds.Mark k) ≡ true
sign_starts plus n e p h = absurd (true≢false (sym h))
sign_starts minus n e p h = absurd (true≢false (sym h))
sign_starts bang n e p h = refl
sign_starts flip n e p h = refl

eleven_starts : (e : Expression) → IsFormedExpression (expr_unplaced e) → 11 ≤ rank e → rank e < 12 → (n : List ℕ)
    → not (is_named (bases.Named n) && is_plus_or_minus (sign_of e)) ≡ true → (r : List Item) → first_casts (kinds_in (expr_items e r)) ≡ true
eleven_starts (UnaryOf k e p) w l u n q r = sign_starts (a_sign k w.0) n e p q
eleven_starts (CastOf t e p) w l u n q r = refl
eleven_starts (BinaryOf m a b p) w l u n q r = absurd (omega (arith, level_low m, l))
eleven_starts (IntLit (pos m) p) w l u n q r = absurd (omega (arith, u))
eleven_starts (IntLit (negsuc m) p) w l u n q r = absurd (omega (arith, l))
eleven_starts _ w l u n q r = absurd (omega (arith, l, u))

cast_starts : (b : Bool) (n : List ℕ) (e : Expression) → fits_cast (bases.Named n) e ≡ b → IsFormedExpression (expr_unplaced e) → (r : List Item)
    → first_casts (kinds_in (in_round b (expr_items e) r)) ≡ true
cast_starts false n e f w r = refl
cast_starts true n e f w r =
    let p = and_parts (fits 11 e) (not (is_named (bases.Named n) && is_plus_or_minus (sign_of e))) f in
    elim (cases_Bool (nat_le 12 (rank e))) as (λ _. first_casts (kinds_in (expr_items e r)) ≡ true) [
      | inl k ↦ starts e (leb-true 12 (rank e) k) r
      | inr k ↦ eleven_starts e w (leb-true 11 (rank e) p.0) (leb-false 12 (rank e) k) n p.1 r
    ]

-- a cast to a type without brackets
abbrev CastTo : TypeBase → Place → List Token → List Token → Expression → Type 0
CastTo b q ts rest e = (p : Place) × IsPrefixed (mark marks.OpenRound q ∷ ts) rest (CastOf (record { base = b; dim = 0; place = p }) e q)

cast_operand : (b : TypeBase) (e : Expression) → Finds e → (r : List Item) (ts : List Token)
    → Of (kinds_in (in_round (fits_cast b e) (expr_items e) r)) ts → Got expr_unplaced IsPrefixed e (kinds_in r) ts
cast_operand b e h r ts o =
    let x = rounded 11 (fits_cast b e) e (λ f. leb-true 11 (rank e) (and_parts (fits 11 e) (not (is_named b && is_plus_or_minus (sign_of e))) f).0) h r ts o in
    record { rest = x.rest; tree = x.tree; fact = x.fact.prefixed (omega arith); left = x.left; same = x.same }

cast_to : (b : TypeBase) → IsCastBase b → (e : Expression) → IsFormedExpression (expr_unplaced e) → Finds e → (q : Place) (r : List Item) (ts : List Token)
    → Of (kinds_in (base_items b (mark_then marks.CloseRound (Space ∷ in_round (fits_cast b e) (expr_items e) r)))) ts
    → Got expr_unplaced (CastTo b q) e (kinds_in r) ts
cast_to bases.Boolean c e w h q r ts o = absurd c
cast_to bases.Int c e w h q r _ (one {p = p} (one {ts = us} o)) =
    let x = cast_operand bases.Int e h r us o in record { rest = x.rest; tree = x.tree; fact = (p, cast_int x.fact); left = x.left; same = x.same }
cast_to bases.Char c e w h q r _ (one {p = p} (one {ts = us} o)) =
    let x = cast_operand bases.Char e h r us o in record { rest = x.rest; tree = x.tree; fact = (p, cast_char x.fact); left = x.left; same = x.same }
cast_to (bases.Named n) c e w h q r _ (one {p = p} (one {ts = us} o)) = let x = cast_operand (bases.Named n) e h r us o in
    record {
      rest = x.rest;
      tree = x.tree;
      fact = (p, cast_named (of_casts _ us o (cast_starts (fits_cast (bases.Named n) e) n e refl w r)) x.fact);
      left = x.left;
      same = x.same;
    }

small_found : (n : ℕ) (p : Place) → Finds (IntLit (pos n) p)
small_found n p r _ (one {p = q} {ts = ts} o) = record { rest = ts; tree = IntLit (pos n) q; fact = post_shape int_literal; left = o; same = refl }

int : (z : ℤ) (p : Place) → IsNumber z → Finds (IntLit z p)
int z p (a_small q) = subst (λ y. Finds (IntLit y p)) (sym q.is) (small_found q.value p)
int z p the_least = λ r ts o. least_found p r ts o
  where
    least_found : (p : Place) → Finds (IntLit (negsuc 2147483647) p)
    least_found p r _ (one {p = q} (one {ts = ts} o)) =
        record { rest = ts; tree = IntLit (negsuc 2147483647) q; fact = prefixed_shape (omega arith) least; left = o; same = refl }

array_dims : (n : ℕ) → 1 ≤ n → (r : List Item) (ts : List Token) → Of (kinds_in (more_dims_items n r)) ts → (d : ℕ) × (n ≡ suc d) × DimsFound d (kinds_in r) ts
array_dims zero h r ts o = absurd (omega (arith, h))
array_dims (suc d) h r ts o = (d, refl, dims d r ts o)

mutual
  pub expr : (e : Expression) → IsFormedExpression (expr_unplaced e) → Finds e
  expr (IntLit z p) w r ts o = int z p w r ts o
  expr (CharLit u p) w r _ (one {p = q} {ts = ts} o) = record { rest = ts; tree = CharLit u q; fact = post_shape char_literal; left = o; same = refl }
  expr (StrLit us p) w r _ (one {p = q} {ts = ts} o) = record { rest = ts; tree = StrLit us q; fact = post_shape string_literal; left = o; same = refl }
  expr (BoolLit true p) w r _ (one {p = q} {ts = ts} o) = record { rest = ts; tree = BoolLit true q; fact = post_shape true_literal; left = o; same = refl }
  expr (BoolLit false p) w r _ (one {p = q} {ts = ts} o) = record { rest = ts; tree = BoolLit false q; fact = post_shape false_literal; left = o; same = refl }
  expr (NullLit p) w r _ (one {p = q} {ts = ts} o) = record { rest = ts; tree = NullLit q; fact = post_shape null_literal; left = o; same = refl }
  expr (ThisRef p) w r _ (one {p = q} {ts = ts} o) = record { rest = ts; tree = ThisRef q; fact = post_shape this_word; left = o; same = refl }
  expr (NameRef n p) w r _ (one {p = q} {ts = ts} o) = record { rest = ts; tree = NameRef n q; fact = post_shape name; left = o; same = refl }
  expr (FieldOf e n p) w r ts o =
      let x = step (step (operand_found 12 e (expr e w.0) _ ts o)) in
      record {
        rest = x.rest;
        tree = FieldOf x.tree n x.fact.0;
        fact = post_shape (field (x.fact.1.1.any_post (omega arith)).1);
        left = x.left;
        same =
            ap (λ t. FieldOf t n nowhere) x.same;
      }
  expr (IndexOf e i p) w r ts o =
      let x = step (operand_found 13 e (expr e w.0) _ ts o) in
      let y = step (expr i w.1 _ x.rest x.left) in
      record {
        rest = y.rest;
        tree = IndexOf x.tree y.tree x.fact.0;
        fact = post_shape (index (x.fact.1.post (omega arith)) y.fact.1.whole);
        left = y.left;
        same = ap (λ t. IndexOf t (expr_unplaced y.tree) nowhere) x.same ∙ ap (λ t. IndexOf (expr_unplaced e) t nowhere) y.same;
      }
  expr (CallOf n es p) w r _ (one {p = q} (one {ts = ts} o)) = let y = args es w.1 r ts o in
      record { rest = y.rest; tree = CallOf n y.tree q; fact = post_shape (call y.fact); left = y.left; same = ap (λ t. CallOf n t nowhere) y.same }
  expr (CallOn e n es p) w r ts o =
      let x = step (step (step (operand_found 12 e (expr e w.0) _ ts o))) in
      let y = args es w.2 r x.rest x.left in
      record {
        rest = y.rest;
        tree = CallOn x.tree n y.tree x.fact.1.0;
        fact = post_shape (call_on (x.fact.1.1.1.any_post (omega arith)).1 y.fact);
        left = y.left;
        same = ap (λ t. CallOn t n (exprs_unplaced y.tree) nowhere) x.same ∙ ap (λ t. CallOn (expr_unplaced e) n t nowhere) y.same;
      }
  expr (SuperCallOf n es p) w r _ (one (one (one {p = q} (one {ts = ts} o)))) = let y = args es w.1 r ts o in
      record {
        rest = y.rest;
        tree = SuperCallOf n y.tree q;
        fact = post_shape (super_call y.fact);
        left = y.left;
        same = ap
            (λ t. SuperCallOf n t nowhere) y.same;
      }
  expr (NewOf c es p) w r _ (one {p = q} (one {p = s} (one {ts = ts} o))) = let y = args es w.1 r ts o in
      record {
        rest = y.rest;
        tree = NewOf (record { name = c.name; place = s }) y.tree q;
        fact = post_shape (new_object y.fact);
        left = y.left;
        same = ap (λ t. NewOf (id_unplaced c) t nowhere) y.same;
      }
  expr (NewArrayOf t e p) w r _ (one {p = q} {ts = ts} o) =
      let b = step (base t.base _ ts o) in
      let x = step (expr e w.2 _ b.rest b.left) in
      let m = array_dims t.dim w.1 r x.rest x.left in
      record {
        rest = m.2.rest;
        tree = NewArrayOf (record { base = t.base; dim = suc m.0; place = b.tree }) x.tree q;
        fact = array_shape (omega arith) (new_array b.fact.1 x.fact.1.whole m.2.fact);
        left = m.2.left;
        same = ap (λ d. NewArrayOf (record { base = t.base; dim = d; place = nowhere }) (expr_unplaced x.tree) nowhere) (sym m.1)
            ∙ ap (λ y. NewArrayOf (type_unplaced t) y nowhere) x.same;
      }
  expr (CastOf t e p) w r _ (one {p = q} {ts = ts} o) =
      let x = cast_to t.base w.0 e w.2 (expr e w.2) q r ts o in
      record {
        rest = x.rest;
        tree = CastOf (record { base = t.base; dim = 0; place = x.fact.0 }) x.tree q;
        fact = prefixed_shape (omega arith) x.fact.1;
        left = x.left;
        same = ap (λ d. CastOf (record { base = t.base; dim = d; place = nowhere }) (expr_unplaced x.tree) nowhere) (sym w.1)
            ∙ ap (λ y. CastOf (type_unplaced t) y nowhere) x.same;
      }
  expr (InstanceOfClass e c p) w r ts o =
      let x = step (step (operand_found 7 e (expr e w.0) _ ts o)) in
      record {
        rest = x.rest;
        tree = InstanceOfClass x.tree (record { name = c.name; place = x.fact.0 }) x.fact.1.0;
        fact = open_shape (omega arith) (omega arith) (λ k l. instance_of l x.fact.1.1.level);
        left = x.left;
        same = ap (λ t. InstanceOfClass t (id_unplaced c) nowhere) x.same;
      }
  expr (UnaryOf m e p) w r _ (one {p = q} {ts = ts} o) =
      let x = rounded 11 (fits_sign m e) e (λ f. leb-true 11 (rank e) (and_parts (fits 11 e) (not (same_sign m (sign_of e))) f).0) (expr e w.1) r ts o in
      record {
        rest = x.rest;
        tree = UnaryOf m x.tree q;
        fact = prefixed_shape (omega arith) (signed w.0 (x.fact.prefixed (omega arith)));
        left =
            x.left;
        same = ap (λ t. UnaryOf m t nowhere) x.same;
      }
  expr (BinaryOf m a b p) w r ts o =
      let x = step (operand_found (level m) a (expr a w.1) _ ts o) in
      let y = operand_found (suc (level m)) b (expr b w.2) r x.rest x.left in
      record {
        rest = y.rest;
        tree = BinaryOf m x.tree y.tree x.fact.0;
        fact = open_shape (level_low m) w.0 (λ k l. binary w.0 l x.fact.1.level y.fact.level);
        left = y.left;
        same = ap (λ t. BinaryOf m t (expr_unplaced y.tree) nowhere) x.same ∙ ap (λ t. BinaryOf m (expr_unplaced a) t nowhere) y.same;
      }

  pub args : (es : Expressions) → AreFormed (exprs_unplaced es) → (r : List Item) (ts : List Token) → Of (kinds_in (args_items false es r)) ts
      → Got exprs_unplaced IsArgs es (kinds_in r) ts
  args no_more w r _ (one {ts = ts} o) = record { rest = ts; tree = no_more; fact = no_args; left = o; same = refl }
  args (and_more e es) w r ts o = let x = expr e w.0 _ ts o in
      got_in (and_more x.tree) (and_more (expr_unplaced x.tree)) (λ y. refl) (ap (λ t. and_more t (exprs_unplaced es)) x.same)
      (λ us y d. some_args x.fact.whole d) (more es w.1 r x.rest x.left)

  more : (es : Expressions) → AreFormed (exprs_unplaced es) → (r : List Item) (ts : List Token) → Of (kinds_in (args_items true es r)) ts
      → Got exprs_unplaced IsMoreArgs es (kinds_in r) ts
  more no_more w r _ (one {ts = ts} o) = record { rest = ts; tree = no_more; fact = last_arg; left = o; same = refl }
  more (and_more e es) w r _ (one {ts = ts} o) = let x = expr e w.0 _ ts o in
      got_in (and_more x.tree) (and_more (expr_unplaced x.tree)) (λ y. refl) (ap (λ t. and_more t (exprs_unplaced es)) x.same)
      (λ us y d. next_arg x.fact.whole d) (more es w.1 r x.rest x.left)
