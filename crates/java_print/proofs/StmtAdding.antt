-- Statements added after others.
use Rattle.std.proofs.Common.{◌≡◌, ℕ, zero, suc, ◌+◌, ◌<◌, ◌≤◌, ◌==◌, ◌&&◌, ◌||◌, List, [], ◌∷◌, ◌++◌, length, get_or, drop, Option, Some, None, Bool, true, false, nat_lt, is_some, if◌then◌else◌, refl, ap, sym, subst, ◌∙◌, arith, codes, Vec, Global, Box}
use Rattle.std.proofs.lemmas.List.{drop_more, drop_all, append_assoc}
use Rattle.std.proofs.lemmas.Bool.{lt-ltb, le-ltb, ne_eqb}
use Rattle.std.specs.Str.{encode_utf8_all}
use Rattle.std.specs.Char.{encode_utf8}
use Rattle.kaba_base.specs.declared.Place.{Place}
use Rattle.kaba_base.specs.declared.Keyword.TheVariants as keys
use Rattle.kaba_base.specs.Words.{key_text}
use Rattle.java_lex.specs.declared.Mark.TheVariants as marks
use Rattle.java_tree.specs.declared.Expr.{Expr}
use Rattle.java_tree.specs.declared.Stmt.{Stmt, Block, If, While, For}
use Rattle.java_tree.specs.declared.Arm.{Arm}
use Rattle.java_tree.specs.declared.Stmt.TheBlock.{hidden-the_row-Stmt-0}
use Rattle.java_tree.specs.Syntax.{Expression, Expressions, CallOn, Statement, BlockOf, IfOf, WhileOf, ForOf, Statements, and_then, and_arm, otherwise, expr_of, exprs, value_of, stmt_of, stmts, stmts_of, arms_seen, else_seen}
use Rattle.java_tree.specs.Statements.{is_called, is_out, output_call, printed_args}
use Rattle.java_tree.specs.Size.{stmt_size, stmts_size, arms_size}
use Rattle.java_tree.proofs.Rows.{stmts_vec, arms_vec, for_as}
use Rattle.java_tree.proofs.Outputs.{output_is, output_none}
use Rattle.java_print.specs.Items.{Item, Space, Margin, text}
use Rattle.java_print.specs.Layout.{mark_then, key_then, word_then, prints, is_printing, print_head, print_name, bracketed_items, upon_system, call_items, expr_items, stmt_items, stmts_items, arms_items, arm_items, else_then, else_items, last_items, bare_items}
use Rattle.java_print.specs.Adds.{Adds, Puts}
use Rattle.java_tree.specs.Syntax.{boxed_step}
use Rattle.java_print.proofs.Adding.{adds_then}

-- an ASCII text that stands for items
by_text : (a b xs : List ℕ) (x y : List Item) → b ≡ a ++ xs → encode_utf8_all (text x) ≡ xs ++ encode_utf8_all (text y) → Adds a b x y
by_text a b xs x y h e = record {
  added = ap (λ zs. a ++ zs) e ∙ sym (append_assoc a xs (encode_utf8_all (text y)))
      ∙ ap (λ zs. zs ++ encode_utf8_all (text y)) (sym h);
}

pub adds_print : (a b : List ℕ) (l : Bool) → b ≡ a ++ print_head l → (r : List Item)
    → Adds a b (word_then (codes "System")
    (mark_then marks.Dot (word_then (codes "out") (mark_then marks.Dot (word_then (print_name l) (mark_then marks.OpenRound r)))))) r
unfolding encode_utf8
adds_print a b true h r = by_text a b (print_head true) _ r h refl
adds_print a b false h r = by_text a b (print_head false) _ r h refl

pub adds_system : (a b : List ℕ) → b ≡ a ++ codes "(System).out." → (r : List Item)
    → Adds a b (mark_then marks.OpenRound
    (word_then (codes "System") (mark_then marks.CloseRound (mark_then marks.Dot (word_then (codes "out") (mark_then marks.Dot r)))))) r
unfolding encode_utf8
adds_system a b h r = by_text a b (codes "(System).out.") _ r h refl

pub adds_for : (a b : List ℕ) → b ≡ a ++ codes "for (" → (r : List Item) → Adds a b (key_then keys.For (Space ∷ mark_then marks.OpenRound r)) r
unfolding encode_utf8 key_text
adds_for a b h r = by_text a b (codes "for (") _ r h refl

-- a call of `System.out` prints by its name and its count of arguments
one_name : {A : Type 0} (a b : Bool) (x : A) → ((true && a) || (false && b)) ≡ is_some (if a then Some x else None)
one_name true b x = refl
one_name false b x = refl

two_names : {A : Type 0} (a b : Bool) (x y : A) → ((true && a) || (true && b)) ≡ is_some (if a then Some x else if b then Some y else None)
two_names true b x y = refl
two_names false true x y = refl
two_names false false x y = refl

no_names : (s t a b : Bool) → s ≡ false → t ≡ false → ((s && a) || (t && b)) ≡ false
no_names s t a b h k = rw (h, k) refl

printing_by : (n : List ℕ) (xs : List Expr) → is_printing n (length xs) ≡ is_some (printed_args n (exprs xs))
printing_by n [] = one_name (is_called n (codes "println")) (is_called n (codes "print")) _
printing_by n (x ∷ []) = two_names (is_called n (codes "println")) (is_called n (codes "print")) _ _
printing_by n (x ∷ y ∷ xs) = no_names (nat_lt (length (x ∷ y ∷ xs)) 2) (length (x ∷ y ∷ xs) == 1) _ _ (le-ltb (length (x ∷ y ∷ xs)) 2 (omega arith))
    (ne_eqb (length (x ∷ y ∷ xs)) 1 (λ e. omega (arith, e)))

prints_by : (e : Expression) (n : List ℕ) (xs : List Expr) {t : Bool} → Some (n, exprs xs) ≡ output_call e
    → t ≡ is_printing n (length xs) → prints e ≡ t
prints_by e n xs h f = ap is_some (output_is e (sym h)) ∙ sym (f ∙ printing_by n xs)

bracketed_where : (t : Bool) (n : List ℕ) (es : Expressions) {y : List ℕ × Expressions}
    → ◌≡◌ {A = Option (List ℕ × Expressions)} (if t then Some (n, es) else None) (Some y) → (r : List Item) → upon_system n es r ≡ upon_system y.0 y.1 r
bracketed_where true n es {y = y} h r =
    let e : ◌≡◌ {A = List ℕ × Expressions} (n, es) y = cc in ap (λ (z : List ℕ × Expressions). upon_system z.0 z.1 r) e
bracketed_where false n es h r = cc

bracketed_by : (e : Expression) {y : List ℕ × Expressions} → output_call e ≡ Some y → (r : List Item) → bracketed_items e r ≡ upon_system y.0 y.1 r
bracketed_by (CallOn b n es p) h r = bracketed_where (is_out b) n es h r
bracketed_by _ h r = cc

-- a call as a statement, with brackets where it would be read as a printing
pub puts_printing : {a c : List ℕ} (e : Expression) (n : List ℕ) (xs : List Expr) {t : Bool} → Some (n, exprs xs) ≡ output_call e
    → t ≡ is_printing n (length xs) → t ≡ true → Puts a c (upon_system n (exprs xs)) → Puts a c (call_items e)
puts_printing {a} {c} e n xs h f y p r =
    let whole = ap (λ (s : Bool). if s then bracketed_items e r else expr_items e r) (prints_by e n xs h f ∙ y) ∙ bracketed_by e (sym h) r in
    subst (λ z. Adds a c z r) (sym whole) (p r)

bare_call : {a c : List ℕ} (e : Expression) → prints e ≡ false → Puts a c (expr_items e) → Puts a c (call_items e)
bare_call {a} {c} e h p r = subst (λ (s : Bool). Adds a c (if s then bracketed_items e r else expr_items e r) r) (sym h) (p r)

pub puts_other : {a c : List ℕ} (e : Expression) (n : List ℕ) (xs : List Expr) {t : Bool} → Some (n, exprs xs) ≡ output_call e
    → t ≡ is_printing n (length xs) → t ≡ false → Puts a c (expr_items e) → Puts a c (call_items e)
puts_other e n xs h f y = bare_call e (prints_by e n xs h f ∙ y)

pub puts_call : {a c : List ℕ} (e : Expression) → None ≡ output_call e → Puts a c (expr_items e) → Puts a c (call_items e)
puts_call e h = bare_call e (ap is_some (output_none e (sym h)))

-- opened statements
pub block_of : (s : Stmt) (v : Vec Stmt Global) (p : Place) → s ≡ Block v p → stmt_of s ≡ BlockOf (stmts v.items) p
block_of s v p h = ap stmt_of h ∙ ap (λ ss. BlockOf ss p) (stmts_vec v)

pub while_of : (s : Stmt) (e : Expr) (v : Vec Stmt Global) (p : Place) → s ≡ While e v p → stmt_of s ≡ WhileOf (expr_of e) (stmts v.items) p
while_of s e v p h = ap stmt_of h ∙ ap (λ ss. WhileOf (expr_of e) ss p) (stmts_vec v)

pub for_of : (s : Stmt) (f : Option (Box Stmt Global)) (x : Option Expr) (g : Option (Box Stmt Global)) (v : Vec Stmt Global) (p : Place)
    → s ≡ For f x g v p → stmt_of s ≡ ForOf (boxed_step f) (value_of x) (boxed_step g) (stmts v.items) p
for_of s f x g v p h = ap stmt_of h ∙ for_as f x g v p

if_parts : (a : Vec Arm Global) (o : Option (Vec Stmt Global)) (p : Place) → stmt_of (If a o p) ≡ IfOf (arms_seen a.items) (else_seen o) p
if_parts a None p = ap (λ al. IfOf al (else_seen None) p) (arms_vec a)
if_parts a (Some v) p = ap (λ al. IfOf al (otherwise (stmts_of (hidden-the_row-Stmt-0 v))) p) (arms_vec a)
    ∙ ap (λ ss. IfOf (arms_seen a.items) (otherwise ss) p) (stmts_vec v)

pub if_of : (s : Stmt) (a : Vec Arm Global) (o : Option (Vec Stmt Global)) (p : Place) → s ≡ If a o p → stmt_of s ≡ IfOf (arms_seen a.items) (else_seen o) p
if_of s a o p h = ap stmt_of h ∙ if_parts a o p

pub bare_along : {a b : List ℕ} (d : ℕ) (x y : Statement) → x ≡ y → ((r : List Item) → Adds a b (bare_items d y r) r) → (r : List Item)
    → Adds a b (bare_items d x r) r
bare_along {a} {b} d x y e h = subst (λ z. (r : List Item) → Adds a b (bare_items d z r) r) (sym e) h

-- a statement stands behind its margin
behind : (d : ℕ) (s : Statement) (r : List Item) → stmt_items d s r ≡ Margin d ∷ bare_items d s r
behind d (BlockOf ss p) r = refl
behind d _ r = refl

stmts_at : (xs : List Stmt) (i : ℕ) (s : Stmt) → i < length xs → s ≡ get_or xs i s → stmts (drop i xs) ≡ and_then (stmt_of s) (stmts (drop (i + 1) xs))
stmts_at xs i s l k = ap stmts (drop_more xs i s l) ∙ ap (λ y. and_then (stmt_of y) (stmts (drop (i + 1) xs))) (sym k)

pub stmt_smaller : (xs : List Stmt) (i : ℕ) (s : Stmt) → i < length xs → s ≡ get_or xs i s → stmt_size (stmt_of s) ≤ stmts_size (stmts xs)
stmt_smaller [] i s l k = absurd (omega arith)
stmt_smaller (x ∷ xs) zero s l k = let e = ap (λ y. stmt_size (stmt_of y)) k in omega (arith, e)
stmt_smaller (x ∷ xs) (suc i) s l k = omega (arith, stmt_smaller xs i s (omega arith) k)

-- one more statement
pub stmts_step : (a b c d : List ℕ) (m : ℕ) (xs : List Stmt) (i : ℕ) (s : Stmt) (whole : List Item → List Item) → i < length xs → s ≡ get_or xs i s
    → ((r : List Item) → Adds a b (whole r) (stmts_items m (stmts (drop i xs)) r)) → ((r : List Item) → Adds b c (Margin m ∷ r) r)
    → ((r : List Item) → Adds c d (bare_items m (stmt_of s) r) r)
    → (r : List Item) → Adds a d (whole r) (stmts_items m (stmts (drop (i + 1) xs)) r)
stmts_step a b c d m xs i s whole l k h f g r =
    let w : List Item = stmts_items m (stmts (drop (i + 1) xs)) r in
    adds_then (h r) (subst (λ ss. Adds b d (stmts_items m ss r) w) (sym (stmts_at xs i s l k))
    (subst (λ ys. Adds b d ys w) (sym (behind m (stmt_of s) w)) (adds_then (f (bare_items m (stmt_of s) w)) (g w))))

pub stmts_end : (a b : List ℕ) (m : ℕ) (xs : List Stmt) (i : ℕ) (whole : List Item → List Item) → length xs ≤ i
    → ((r : List Item) → Adds a b (whole r) (stmts_items m (stmts (drop i xs)) r)) → Puts a b whole
stmts_end a b m xs i whole l h r = subst (λ ys. Adds a b (whole r) (stmts_items m (stmts ys) r)) (drop_all i xs l) (h r)

arms_at : (xs : List Arm) (i : ℕ) (x : Arm) → i < length xs → x ≡ get_or xs i x → arms_seen (drop i xs) ≡ and_arm (expr_of x.test)
    (stmts x.body.items) (arms_seen (drop (i + 1) xs))
arms_at xs i x l k = ap arms_seen (drop_more xs i x l) ∙ ap (λ (y : Arm). and_arm (expr_of y.test) (stmts y.body.items) (arms_seen (drop (i + 1) xs))) (sym k)

pub arm_smaller : (xs : List Arm) (i : ℕ) (x : Arm) → i < length xs → x ≡ get_or xs i x → stmts_size (stmts x.body.items) ≤ arms_size (arms_seen xs)
arm_smaller [] i s l k = absurd (omega arith)
arm_smaller (x ∷ xs) zero s l k = let e = ap (λ (y : Arm). stmts_size (stmts y.body.items)) k in omega (arith, e)
arm_smaller (x ∷ xs) (suc i) s l k = omega (arith, arm_smaller xs i s (omega arith) k)

-- one more arm
pub arms_step : (a b c d : List ℕ) (m : ℕ) (xs : List Arm) (i : ℕ) (x : Arm) (body : List Stmt) (whole : List Item → List Item) → i < length xs
    → x ≡ get_or xs i x → body ≡ x.body.items
    → ((r : List Item) → Adds a b (whole r) (arms_items m (nat_lt 0 i) (arms_seen (drop i xs)) r)) → Puts b c (else_then (nat_lt 0 i))
    → Puts c d (arm_items m (expr_of x.test) (stmts body))
    → (r : List Item) → Adds a d (whole r) (arms_items m (nat_lt 0 (i + 1)) (arms_seen (drop (i + 1) xs)) r)
arms_step a b c d m xs i x body whole l k q h f g r =
    let w : List Item = arms_items m true (arms_seen (drop (i + 1) xs)) r in
    let t : nat_lt 0 (i + 1) ≡ true = lt-ltb 0 (i + 1) (omega arith) in
    let y = subst (λ ys. Puts c d (arm_items m (expr_of x.test) (stmts ys))) q g in
    adds_then (h r) (subst (λ al. Adds b d (arms_items m (nat_lt 0 i) al r) (arms_items m (nat_lt 0 (i + 1)) (arms_seen (drop (i + 1) xs)) r))
    (sym (arms_at xs i x l k))
    (subst (λ z. Adds b d (else_then (nat_lt 0 i) (arm_items m (expr_of x.test) (stmts x.body.items) w))
    (arms_items m z (arms_seen (drop (i + 1) xs)) r)) (sym t)
    (adds_then (f (arm_items m (expr_of x.test) (stmts x.body.items) w)) (y w))))

pub arms_end : (a b : List ℕ) (m : ℕ) (xs : List Arm) (i : ℕ) (whole : List Item → List Item) → length xs ≤ i
    → ((r : List Item) → Adds a b (whole r) (arms_items m (nat_lt 0 i) (arms_seen (drop i xs)) r)) → Puts a b whole
arms_end a b m xs i whole l h r = subst (λ ys. Adds a b (whole r) (arms_items m (nat_lt 0 i) (arms_seen ys) r)) (drop_all i xs l) (h r)

-- margins that are equal
pub deeper_as : {a b : List ℕ} (m n : ℕ) (ss : Statements) → m ≡ n → Puts a b (stmts_items m ss) → Puts a b (stmts_items n ss)
deeper_as {a} {b} m n ss e h = subst (λ k. Puts a b (stmts_items k ss)) e h

pub other_along : {a b : List ℕ} (m : ℕ) (o : Option (Vec Stmt Global)) (v : Vec Stmt Global) (xs : List Stmt) → o ≡ Some v → xs ≡ v.items
    → Puts a b (last_items m (stmts xs)) → Puts a b (else_items m (else_seen o))
other_along {a} {b} m o v xs h k f = subst (λ x. Puts a b (else_items m (else_seen x))) (sym h) (subst (λ ys. Puts a b (last_items m (stmts ys))) k f)
