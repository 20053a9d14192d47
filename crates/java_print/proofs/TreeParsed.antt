-- Tokens of the kinds of statements and declarations derive them.
use Rattle.std.proofs.Common.{◌≡◌, ℕ, ◌+◌, ◌||◌, Bool, true, false, List, [], ◌∷◌, Option, Some, None, refl, ap, sym, subst, ◌∙◌, arith, codes, is_some, if◌then◌else◌, inl, inr}
use Rattle.std.proofs.lemmas.Bool.{and_parts, true≢false, cases_Bool}
use Rattle.std.proofs.lemmas.Slice.Eq.{bytes_eq-Decides}
use Rattle.std.specs.Str.{encode_utf8_all}
use Rattle.std.specs.Char.{encode_utf8}
use Rattle.std.proofs.lemmas.Str.{encodes_same}
use Rattle.java_lex.specs.declared.Token.{Token}
use Rattle.java_lex.specs.declared.TokenKind.{TokenKind}
use Rattle.kaba_base.specs.declared.Place.{Place}
use Rattle.kaba_base.proofs.TestLemmas.{none_of}
use Rattle.java_lex.specs.declared.Mark.TheVariants as marks
use Rattle.java_tree.specs.declared.TypeName.{TypeName}
use Rattle.java_tree.specs.Syntax.{Expression, NameRef, FieldOf, IndexOf, CallOf, CallOn, SuperCallOf, NewOf, Expressions, no_more, and_more, Statement, LocalOf, BlockOf, AssignOf, DoOf, PrintOf, IfOf, WhileOf, ForOf, ReturnOf, BreakOf, ContinueOf, Statements, no_statements, and_then, Arms, no_arms, and_arm, Else, no_else, otherwise, OptionalStatement, absent, present}
use Rattle.java_tree.specs.Places.{nowhere, expr_unplaced, exprs_unplaced, value_unplaced, stmt_unplaced, stmts_unplaced, arms_unplaced, else_unplaced, step_unplaced, id_unplaced, type_unplaced}
use Rattle.java_print.specs.Items.{Item, End, kinds_in}
use Rattle.java_print.specs.Layout.{expr_items, value_items, spaced_items, init_items, final_items, prints, bracketed_items, call_items, simple_items, first_items, step_items, close_body, stmt_items, stmts_items, arms_items, else_items, stop_then}
use Rattle.java_tree.specs.Formed.{is_target, is_call, IsFormedExpression, IsFormedValue, is_act, IsFormedStmt, AreFormedStmts, AreFormedArms, IsFormedElse, IsFormedFirst, IsFormedStep}
use Rattle.java_tree.specs.Tokens.{mark, first_place}
use Rattle.java_tree.specs.Expressions.{IsExpr, operand, bare, field, name, round, no_args, some_args, last_arg}
use Rattle.java_tree.specs.Statements.{is_called, is_out, as_body, printed_args, printed_by, is_word, printed, IsFinal, not_final, is_final, IsValue, no_value, a_value, IsInit, no_init, an_init, IsLocal, a_local, IsTarget, to_name, to_field, to_index, plain_call, call_upon, call_above, IsAct, assign, do_call, print, do_new, IsForFirst, no_first, first_local, first_act, IsForStep, no_step, a_step, IsItem, local_item, stmt_item, IsItems, no_items, next_item, IsStmt, block, acting, choice, while_loop, for_loop, return_word, break_word, continue_word, IsArms, last_arm, else_arm, more_arms}
use Rattle.java_print.proofs.ExprParsed.{Of, one, Got, step, got_in, operand_found, type_found, expr, args}

value : (v : Option Expression) → IsFormedValue (value_unplaced v) → (r : List Item) (ts : List Token) → Of (kinds_in (value_items v r)) ts
    → Got value_unplaced IsValue v (kinds_in r) ts
value None w r ts o = record { rest = ts; tree = None; fact = no_value; left = o; same = refl }
value (Some e) w r ts o = got_in Some Some (λ y. refl) refl (λ us y d. a_value d.whole) (expr e w r ts o)

spaced_value : (v : Option Expression) → IsFormedValue (value_unplaced v) → (r : List Item) (ts : List Token) → Of (kinds_in (spaced_items v r)) ts
    → Got value_unplaced IsValue v (kinds_in r) ts
spaced_value None w r ts o = value None w r ts o
spaced_value (Some e) w r ts o = value (Some e) w r ts o

init : (v : Option Expression) → IsFormedValue (value_unplaced v) → (r : List Item) (ts : List Token) → Of (kinds_in (init_items v r)) ts
    → Got value_unplaced IsInit v (kinds_in r) ts
init None w r ts o = record { rest = ts; tree = None; fact = no_init; left = o; same = refl }
init (Some e) w r _ (one {ts = ts} o) = got_in Some Some (λ y. refl) refl (λ us y d. an_init d.whole) (expr e w r ts o)

pub final : (f : Bool) (r : List Item) (ts : List Token) → Of (kinds_in (final_items f r)) ts → Got (λ b. b) IsFinal f (kinds_in r) ts
final true r _ (one {ts = ts} o) = record { rest = ts; tree = true; fact = is_final; left = o; same = refl }
final false r ts o = record { rest = ts; tree = false; fact = not_final; left = o; same = refl }

local : (f : Bool) (t : TypeName) (n : List ℕ) (v : Option Expression) (p : Place) → IsFormedValue (value_unplaced v)
    → (r : List Item) (ts : List Token) → Of (kinds_in (simple_items (LocalOf f t n v p) r)) ts
    → Got stmt_unplaced IsLocal (LocalOf f t n v p) (kinds_in r) ts
local f t n v p w r ts o =
    let a = final f _ ts o in
    let b = step (type_found t _ a.rest a.left) in
    let c = init v w r b.rest b.left in
    record {
      rest = c.rest;
      tree = LocalOf a.tree b.tree n c.tree b.fact.0;
      fact = a_local a.fact b.fact.1 c.fact;
      left = c.left;
      same = ap (λ x. LocalOf x (type_unplaced b.tree) n (value_unplaced c.tree) nowhere) a.same
          ∙ ap (λ x. LocalOf f x n (value_unplaced c.tree) nowhere) b.same ∙ ap (λ x. LocalOf f (type_unplaced t) n x nowhere) c.same;
    }

target : (t : Expression) → is_target (expr_unplaced t) ≡ true → IsFormedExpression (expr_unplaced t) → (r : List Item) (ts : List Token)
    → Of (kinds_in (expr_items t r)) ts → Got expr_unplaced IsTarget t (kinds_in r) ts
target (NameRef n p) h w r _ (one {p = q} {ts = ts} o) = record { rest = ts; tree = NameRef n q; fact = to_name; left = o; same = refl }
target (FieldOf e n p) h w r ts o = let x = step (step (operand_found 12 e (expr e w.0) _ ts o)) in
    record {
      rest = x.rest;
      tree = FieldOf x.tree n x.fact.0;
      fact = to_field (x.fact.1.1.any_post (omega arith)).1;
      left = x.left;
      same = ap
          (λ t. FieldOf t n nowhere) x.same;
    }
target (IndexOf e i p) h w r ts o =
    let x = step (operand_found 13 e (expr e w.0) _ ts o) in
    let y = step (expr i w.1 _ x.rest x.left) in
    record {
      rest = y.rest;
      tree = IndexOf x.tree y.tree x.fact.0;
      fact = to_index (x.fact.1.post (omega arith)) y.fact.1.whole;
      left = y.left;
      same = ap (λ t. IndexOf t (expr_unplaced y.tree) nowhere) x.same ∙ ap (λ t. IndexOf (expr_unplaced e) t nowhere) y.same;
    }
target _ h w r ts o = absurd (true≢false (sym h))

-- whether a call prints is not a matter of places
two_tests : {A : Type 0} (a b : Bool) (x y u v : A) → is_some (if a then Some x else if b then Some y else None)
    ≡ is_some (if a then Some u else if b then Some v else None)
two_tests true b x y u v = refl
two_tests false true x y u v = refl
two_tests false false x y u v = refl

args_plain : (n : List ℕ) (es : Expressions) → is_some (printed_args n es) ≡ is_some (printed_args n (exprs_unplaced es))
args_plain n no_more = refl
args_plain n (and_more e no_more) = two_tests (is_called n (codes "println")) (is_called n (codes "print")) _ _ _ _
args_plain n (and_more e (and_more f es)) = refl

guarded : {A B : Type 0} (b : Bool) (x : Option A) (y : Option B) → is_some x ≡ is_some y → is_some (if b then x else None) ≡ is_some (if b then y else None)
guarded true x y h = h
guarded false x y h = refl

out_plain : (e : Expression) → is_out e ≡ is_out (expr_unplaced e)
out_plain (FieldOf (NameRef s p) o q) = refl
out_plain _ = refl

prints_plain : (e : Expression) → prints e ≡ prints (expr_unplaced e)
prints_plain (CallOn b n es r) = ap (λ t. is_some (if t then printed_args n es else None)) (out_plain b)
    ∙ guarded (is_out (expr_unplaced b)) (printed_args n es) (printed_args n (exprs_unplaced es)) (args_plain n es)
prints_plain _ = refl

if_none : {A : Type 0} (b : Bool) (o : Option A) → o ≡ None → (if b then o else None) ≡ None
if_none true o h = h
if_none false o h = refl

not_printed : (ts : List Token) (t e : Expression) → expr_unplaced t ≡ expr_unplaced e → prints e ≡ false → printed ts t ≡ None
not_printed [] t e s h = refl
not_printed (k ∷ ts) t e s h = if_none (is_word k.kind) (printed_by t) (none_of (printed_by t) (prints_plain t ∙ ap prints s ∙ sym (prints_plain e) ∙ h))

-- the base of a call that prints
texts_same : (xs ys : List ℕ) → encode_utf8_all ys ≡ ys → is_called xs ys ≡ true → xs ≡ ys
texts_same xs ys e h = encodes_same xs ys ((bytes_eq-Decides (encode_utf8_all xs) ys).0 h ∙ sym e)

guard_holds : {A : Type 0} (b : Bool) (o : Option A) → is_some (if b then o else None) ≡ true → b ≡ true
guard_holds true o h = refl
guard_holds false o h = h

out_base : (e : Expression) → is_out e ≡ true → expr_unplaced e ≡ FieldOf (NameRef (codes "System") nowhere) (codes "out") nowhere
unfolding encode_utf8
out_base (FieldOf (NameRef s p) o r) h =
    let c = and_parts (is_called s (codes "System")) (is_called o (codes "out")) h in
    ap (λ x. FieldOf (NameRef x nowhere) o nowhere) (texts_same s (codes "System") refl c.0)
    ∙ ap (λ x. FieldOf (NameRef (codes "System") nowhere) x nowhere) (texts_same o (codes "out") refl c.1)
out_base _ h = absurd (true≢false (sym h))

system_base : (e : Expression) (n : List ℕ) (es : Expressions) (q : Place) → prints (CallOn e n es q) ≡ true
    → expr_unplaced e ≡ FieldOf (NameRef (codes "System") nowhere) (codes "out") nowhere
system_base e n es q h = out_base e (guard_holds (is_out e) (printed_args n es) h)

abbrev Acts : Statement → List TokenKind → List Token → Type 0
Acts s ks ts = Got stmt_unplaced IsAct s ks ts

bracketed : (c : Expression) (p : Place) → prints c ≡ true → IsFormedExpression (expr_unplaced c) → (r : List Item) (ts : List Token)
    → Of (kinds_in (bracketed_items c r)) ts → Acts (DoOf c p) (kinds_in r) ts
bracketed (CallOn e n es q) p h w r _
    (one {p = p1} (one {p = p2} (one {p = p3} (one {p = p4} (one {p = p5} (one {p = p6} (one {p = p7} (one {p = p8} {ts = ts} o)))))))) =
    let y = args es w.2 r ts o in
    record {
      rest = y.rest;
      tree = DoOf (CallOn (FieldOf (NameRef (codes "System") p2) (codes "out") p5) n y.tree p7) p1;
      fact = do_call (call_upon (field (round (operand (bare name)))) y.fact) refl;
      left = y.left;
      same = ap (λ x. DoOf (CallOn x n (exprs_unplaced y.tree) nowhere) nowhere) (sym (system_base e n es q h))
          ∙ ap (λ x. DoOf (CallOn (expr_unplaced e) n x nowhere) nowhere) y.same;
    }
bracketed _ p h w r ts o = absurd (true≢false (sym h))

-- the call that is read is done
done_by : {c : Expression} {p : Place} {ks : List TokenKind} {ts rest : List Token} (d : Expression) (q : Place) → IsAct ts rest (DoOf d q) → Of ks rest
    → expr_unplaced d ≡ expr_unplaced c → Acts (DoOf c p) ks ts
done_by {rest = rest} d q fact left same = record { rest = rest; tree = DoOf d q; fact = fact; left = left; same = ap (λ x. DoOf x nowhere) same }

plain_do : (c : Expression) (p : Place) → prints c ≡ false → is_call (expr_unplaced c) ≡ true → IsFormedExpression (expr_unplaced c)
    → (r : List Item) (ts : List Token) → Of (kinds_in (expr_items c r)) ts → Acts (DoOf c p) (kinds_in r) ts
plain_do (CallOf n es q) p h i w r _ (one {p = p1} (one {ts = ts} o)) = let y = args es w.1 r ts o in
    done_by (CallOf n y.tree p1) p1 (do_call (plain_call y.fact) refl) y.left (ap (λ x. CallOf n x nowhere) y.same)
plain_do (CallOn e n es q) p h i w r ts o =
    let x = step (step (step (operand_found 12 e (expr e w.0) _ ts o))) in
    let y = args es w.2 r x.rest x.left in
    let t : Expression = CallOn x.tree n y.tree x.fact.1.0 in
    let same : expr_unplaced t ≡ expr_unplaced (CallOn e n es q) = ap (λ t. CallOn t n (exprs_unplaced y.tree) nowhere) x.same
    ∙ ap (λ t. CallOn (expr_unplaced e) n t nowhere) y.same in
    record {
      rest = y.rest;
      tree = DoOf t (first_place ts);
      fact = do_call (call_upon (x.fact.1.1.1.any_post (omega arith)).1 y.fact)
          (not_printed ts t (CallOn e n es q) same h);
      left = y.left;
      same = ap (λ t. DoOf t nowhere) same;
    }
plain_do (SuperCallOf n es q) p h i w r _ (one {p = p0} (one (one {p = p1} (one {ts = ts} o)))) = let y = args es w.1 r ts o in
    done_by (SuperCallOf n y.tree p1) p0 (do_call (call_above y.fact) refl) y.left (ap (λ x. SuperCallOf n x nowhere) y.same)
plain_do (NewOf c es q) p h i w r _ (one {p = p0} (one {p = p1} (one {ts = ts} o))) = let y = args es w.1 r ts o in
    done_by (NewOf (record { name = c.name; place = p1 }) y.tree p0) p0 (do_new y.fact) y.left (ap (λ x. NewOf (id_unplaced c) x nowhere) y.same)
plain_do _ p h i w r ts o = absurd (true≢false (sym i))

do_found : (c : Expression) (p : Place) → is_call (expr_unplaced c) ≡ true → IsFormedExpression (expr_unplaced c) → (r : List Item) (ts : List Token)
    → Of (kinds_in (call_items c r)) ts → Acts (DoOf c p) (kinds_in r) ts
do_found c p i w r ts o =
    let at : Bool → Type 0 = λ b. Of (kinds_in (if b then bracketed_items c r else expr_items c r)) ts in
    elim (cases_Bool (prints c)) as (λ _. Acts (DoOf c p) (kinds_in r) ts) [
      | inl h ↦ bracketed c p h w r ts (subst at h o)
      | inr h ↦ plain_do c p h i
          w r ts (subst at h o)
    ]

print_found : (l : Bool) (v : Option Expression) (p : Place) → (l || is_some (value_unplaced v)) ≡ true → IsFormedValue (value_unplaced v)
    → (r : List Item) (ts : List Token) → Of (kinds_in (simple_items (PrintOf l v p) r)) ts → Acts (PrintOf l v p) (kinds_in r) ts
unfolding encode_utf8
print_found true None p h w r _ (one {p = p0} (one (one (one (one (one (one {ts = ts} o))))))) =
    record { rest = ts; tree = PrintOf true None p0; fact = print (call_upon (field name) no_args) refl; left = o; same = refl }
print_found true (Some e) p h w r _ (one {p = p0} (one (one (one (one (one {ts = ts} o)))))) = got_in (λ x. PrintOf true (Some x) p0)
    (λ x. PrintOf true (Some x) nowhere) (λ y. refl) refl (λ us y d. print (call_upon (field name) (some_args d.1.whole last_arg)) refl) (step (expr e w _ ts o))
print_found false (Some e) p h w r _ (one {p = p0} (one (one (one (one (one {ts = ts} o)))))) = got_in (λ x. PrintOf false (Some x) p0)
    (λ x. PrintOf false (Some x) nowhere) (λ y. refl) refl (λ us y d. print (call_upon (field name) (some_args d.1.whole last_arg)) refl) (step (expr e w _ ts o))
print_found false None p h w r ts o = absurd (true≢false (sym h))

act : (s : Statement) → is_act (stmt_unplaced s) ≡ true → IsFormedStmt (stmt_unplaced s) → (r : List Item) (ts : List Token)
    → Of (kinds_in (simple_items s r)) ts → Acts s (kinds_in r) ts
act (AssignOf t v p) h w r ts o =
    let x = step (target t w.0 w.1 _ ts o) in
    let y = expr v w.2 r x.rest x.left in
    record {
      rest = y.rest;
      tree = AssignOf x.tree y.tree x.fact.0;
      fact = assign x.fact.1 y.fact.whole;
      left = y.left;
      same = ap (λ x. AssignOf x (expr_unplaced y.tree) nowhere) x.same ∙ ap (λ y. AssignOf (expr_unplaced t) y nowhere) y.same;
    }
act (DoOf c p) h w r ts o = do_found c p w.0 w.1 r ts o
act (PrintOf l v p) h w r ts o = print_found l v p w.0 w.1 r ts o
act _ h w r ts o = absurd (true≢false (sym h))

acting_first : (s : Statement) → is_act (stmt_unplaced s) ≡ true → IsFormedStmt (stmt_unplaced s) → (r : List Item) (ts : List Token)
    → Of (kinds_in (simple_items s r)) ts → Got step_unplaced IsForFirst (present s) (kinds_in r) ts
acting_first s h w r ts o = got_in present present (λ y. refl) refl (λ us y d. first_act d) (act s h w r ts o)

acting_item : (s : Statement) → is_act (stmt_unplaced s) ≡ true → IsFormedStmt (stmt_unplaced s) → (r : List Item) (ts : List Token)
    → Of (kinds_in (simple_items s (stop_then r))) ts → Got stmt_unplaced IsItem s (kinds_in (End ∷ r)) ts
acting_item s h w r ts o = got_in (λ x. x) (λ x. x) (λ y. refl) refl (λ us y d. stmt_item (acting d.1)) (step (act s h w _ ts o))

first : (f : OptionalStatement) → IsFormedFirst (step_unplaced f) → (r : List Item) (ts : List Token) → Of (kinds_in (first_items f r)) ts
    → Got step_unplaced IsForFirst f (kinds_in r) ts
first absent w r ts o = record { rest = ts; tree = absent; fact = no_first; left = o; same = refl }
first (present (LocalOf f t n v p)) w r ts o = got_in present present (λ y. refl) refl (λ us y d. first_local d) (local f t n v p w.1.2 r ts o)
first (present s) w r ts o = acting_first s w.0 w.1 r ts o

step_part : (g : OptionalStatement) → IsFormedStep (step_unplaced g) → (r : List Item) (ts : List Token) → Of (kinds_in (step_items g r)) ts
    → Got step_unplaced IsForStep g (kinds_in r) ts
step_part absent w r ts o = record { rest = ts; tree = absent; fact = no_step; left = o; same = refl }
step_part (present s) w r ts o = got_in present present (λ y. refl) refl (λ us y d. a_step d) (act s w.0 w.1 r ts o)

-- what follows the closing brace of an arm's body
record Tail (a : Arms) (l : Else) (ks : List TokenKind) (us : List Token) : Type 0 where
  flag : Bool
  rest : List Token
  arms : Arms
  other : Else
  left : Of ks rest
  same_arms : arms_unplaced arms ≡ arms_unplaced a
  same_other : else_unplaced other ≡ else_unplaced l
  extend : {e : Expression} {s : Statement} {q r : Place} {ts vs : List Token} → IsExpr 1 ts (mark marks.CloseRound r ∷ vs) e → IsStmt false vs us s
      → IsArms flag (mark marks.OpenRound q ∷ ts) rest (and_arm e (as_body s) arms) other

abbrev Items : Statements → List TokenKind → List Token → Type 0
Items ss ks ts = Got stmts_unplaced IsItems ss ks ts

mutual
  pub stmt : (s : Statement) → IsFormedStmt (stmt_unplaced s) → (d : ℕ) (r : List Item) (ts : List Token) → Of (kinds_in (stmt_items d s r)) ts
      → Got stmt_unplaced IsItem s (kinds_in r) ts
  stmt (LocalOf f t n v p) w d r ts o =
      got_in (λ x. x) (λ x. x) (λ y. refl) refl (λ us y e. local_item e.1) (step (local f t n v p w.2 _ ts o))
  stmt (BlockOf ss p) w d r _ (one {p = q} {ts = ts} o) = got_in (λ x. BlockOf x q) (λ x. BlockOf x nowhere) (λ y. refl) refl
      (λ us y e. stmt_item (block e)) (stmts ss w (d + 2) d (End ∷ r) ts o)
  stmt (IfOf no_arms l p) w d r ts o = absurd (true≢false (sym w.0))
  stmt (IfOf (and_arm e ss a) l p) w d r _ (one {p = q} (one {ts = ts} o)) =
      let y = step (step (expr e w.1.0 _ ts o)) in
      let z = stmts ss w.1.1 (d + 2) d (arms_items d true a (else_items d l r)) y.rest y.left in
      let t = tail a w.1.2 l d r (else_tail l w.2 d r) z.rest z.left in
      record {
        rest = t.rest;
        tree = IfOf (and_arm y.tree z.tree t.arms) t.other q;
        fact = stmt_item (choice (t.extend y.fact.1.1.whole (block z.fact)));
        left = t.left;
        same = ap (λ x. IfOf (and_arm x (stmts_unplaced z.tree) (arms_unplaced t.arms)) (else_unplaced t.other) nowhere) y.same
            ∙ ap (λ x. IfOf (and_arm (expr_unplaced e) x (arms_unplaced t.arms)) (else_unplaced t.other) nowhere) z.same
            ∙ ap (λ x. IfOf (and_arm (expr_unplaced e) (stmts_unplaced ss) x) (else_unplaced t.other) nowhere) t.same_arms
            ∙ ap (λ x. IfOf (and_arm (expr_unplaced e) (stmts_unplaced ss) (arms_unplaced a)) x nowhere) t.same_other;
      }
  stmt (WhileOf e ss p) w d r _ (one {p = q} (one {ts = ts} o)) =
      let y = step (step (expr e w.0 _ ts o)) in
      let z = stmts ss w.1 (d + 2) d (End ∷ r) y.rest y.left in
      record {
        rest = z.rest;
        tree = WhileOf y.tree z.tree q;
        fact = stmt_item (while_loop y.fact.1.1.whole (block z.fact));
        left = z.left;
        same = ap (λ x. WhileOf x (stmts_unplaced z.tree) nowhere) y.same ∙ ap (λ x. WhileOf (expr_unplaced e) x nowhere) z.same;
      }
  stmt (ForOf f v g ss p) w d r _ (one {p = q} (one {ts = ts} o)) =
      let x = step (first f w.0 _ ts o) in
      let y = step (spaced_value v w.1 _ x.rest x.left) in
      let t = step (step (step_part g w.2 _ y.rest y.left)) in
      let z = stmts ss w.3 (d + 2) d (End ∷ r) t.rest t.left in
      record {
        rest = z.rest;
        tree = ForOf x.tree y.tree t.tree z.tree q;
        fact = stmt_item (for_loop x.fact.1 y.fact.1 t.fact.1.1 (block z.fact));
        left = z.left;
        same = ap (λ k. ForOf k (value_unplaced y.tree) (step_unplaced t.tree) (stmts_unplaced z.tree) nowhere) x.same
            ∙ ap (λ k. ForOf (step_unplaced f) k (step_unplaced t.tree) (stmts_unplaced z.tree) nowhere) y.same
            ∙ ap (λ k. ForOf (step_unplaced f) (value_unplaced v) k (stmts_unplaced z.tree) nowhere) t.same
            ∙ ap (λ k. ForOf (step_unplaced f) (value_unplaced v) (step_unplaced g) k nowhere) z.same;
      }
  stmt (ReturnOf v p) w d r _ (one {p = q} {ts = ts} o) = got_in (λ x. ReturnOf x q) (λ x. ReturnOf x nowhere) (λ y. refl) refl
      (λ us y e. stmt_item (return_word e.1)) (step (spaced_value v w _ ts o))
  stmt (BreakOf p) w d r _ (one {p = q} (one {ts = ts} o)) = record { rest = ts; tree = BreakOf q; fact = stmt_item break_word; left = o; same = refl }
  stmt (ContinueOf p) w d r _ (one {p = q} (one {ts = ts} o)) = record { rest = ts; tree = ContinueOf q; fact = stmt_item continue_word; left = o; same = refl }
  stmt (AssignOf t v p) w d r ts o = acting_item (AssignOf t v p) refl w _ ts o
  stmt (DoOf c p) w d r ts o = acting_item (DoOf c p) refl w _ ts o
  stmt (PrintOf l v p) w d r ts o = acting_item (PrintOf l v p) refl w _ ts o

  -- the items of a body and the brace that closes it
  pub stmts : (ss : Statements) → AreFormedStmts (stmts_unplaced ss) → (d c : ℕ) (r : List Item) (ts : List Token)
      → Of (kinds_in (stmts_items d ss (close_body c r))) ts → Items ss (kinds_in r) ts
  stmts no_statements w d c r _ (one {ts = ts} o) = record { rest = ts; tree = no_statements; fact = no_items; left = o; same = refl }
  stmts (and_then s ss) w d c r ts o = let x = stmt s w.0 d _ ts o in
      got_in (and_then x.tree) (and_then (stmt_unplaced x.tree)) (λ y. refl) (ap (λ t. and_then t (stmts_unplaced ss)) x.same)
      (λ us y e. next_item x.fact e) (stmts ss w.1 d c r x.rest x.left)

  else_tail : (l : Else) → IsFormedElse (else_unplaced l) → (d : ℕ) (r : List Item) (us : List Token) → Of (kinds_in (else_items d l r)) us
      → Tail no_arms l (kinds_in r) us
  else_tail no_else v d r us o = record {
    flag = true;
    rest = us;
    arms = no_arms;
    other = no_else;
    left = o;
    same_arms = refl;
    same_other = refl;
    extend = λ c b. last_arm c b;
  }
  else_tail (otherwise ss) v d r _ (one (one {p = q} {ts = ts} o)) = let x = stmts ss v (d + 2) d (End ∷ r) ts o in
      record {
        flag = false;
        rest = x.rest;
        arms = no_arms;
        other = otherwise x.tree;
        left = x.left;
        same_arms = refl;
        same_other = ap otherwise
            x.same;
        extend = λ c b. else_arm c b (block {p = q} x.fact) refl;
      }

  tail : (a : Arms) → AreFormedArms (arms_unplaced a) → (l : Else) (d : ℕ) (r : List Item) → ((us : List Token) → Of (kinds_in (else_items d l r)) us
      → Tail no_arms l (kinds_in r) us)
      → (us : List Token) → Of (kinds_in (arms_items d true a (else_items d l r))) us → Tail a l (kinds_in r) us
  tail no_arms w l d r h us o = h us o
  tail (and_arm e ss a) w l d r h _ (one (one (one {ts = ts} o))) =
      let y = step (step (expr e w.0 _ ts o)) in
      let z = stmts ss w.1 (d + 2) d (arms_items d true a (else_items d l r)) y.rest y.left in
      let t = tail a w.2 l d r h z.rest z.left in
      record {
        flag = t.flag;
        rest = t.rest;
        arms = and_arm y.tree z.tree t.arms;
        other = t.other;
        left = t.left;
        same_arms = ap (λ x. and_arm x (stmts_unplaced z.tree) (arms_unplaced t.arms)) y.same
            ∙ ap (λ x. and_arm (expr_unplaced e) x (arms_unplaced t.arms)) z.same ∙ ap (and_arm (expr_unplaced e) (stmts_unplaced ss)) t.same_arms;
        same_other = t.same_other;
        extend = λ c b. more_arms c b (t.extend y.fact.1.1.whole (block z.fact));
      }
