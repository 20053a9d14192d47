-- Lists of trees that are compared one by one, and what the parts of a tree say of the whole.
use Rattle.std.proofs.Common.{◌≡◌, ◌≢◌, ℕ, suc, ◌+◌, ◌<◌, List, [], ◌∷◌, length, drop, get_or, add-one, drop-cons, refl, sym, ap, ap₂, ◌∙◌, arith, ⊎_elim}
use Rattle.std.specs.Prelude.{◌&&◌, ◌==◌, Bool, true, false, Option, Some, None}
use Rattle.std.specs.declared.vec.Vec.{Vec}
use Rattle.std.specs.declared.alloc.Global.{Global}
use Rattle.std.proofs.lemmas.Bool.{false≢true, eq-eqb, ne_eqb, cases_eq}
use Rattle.kaba_base.specs.declared.Place.{Place}
use Rattle.java_core.specs.declared.RExpr.{RExpr}
use Rattle.java_core.specs.declared.RExpr.TheBlock as ex
use Rattle.java_core.specs.declared.RStmt.{RStmt, If}
use Rattle.java_core.specs.declared.RArm.{RArm}
use Rattle.java_core.specs.Trees.{Tag, Ex, this, Target, to_local, no_target, St, IfArms, no_other, expr_of, exprs, target_of, stmt_of, stmts, arms_seen, else_seen}
use Rattle.java_core.specs.Programs.{Plain}
use Rattle.java_core.proofs.Forms.{call_form, static_form, super_form, creation_form, block_form, if_form, while_form, for_form}
use Rattle.same_program.specs.Same.{is_this, is_target, one_ex, one_all, one_target, one_st, one_sts, one_arms}

and_right : (a b : Bool) → (a && b) ≡ true → b ≡ true
and_right true b h = h
and_right false b h = absurd (false≢true h)

pub and_true : (b : Bool) → b ≡ (b && true)
and_true true = refl
and_true false = refl

pub and_false : (b : Bool) → false ≡ (b && false)
and_false true = refl
and_false false = refl

not_so : {A : Type 0} (b : Bool) → (b ≡ true → A) → (A → ⊥) → false ≡ b
not_so true f g = absurd (g (f refl))
not_so false f g = refl

module _ (P Q : Plain) where
  -- one more item of both lists is compared
  pub exprs_step : (xs ys : List RExpr) (i : ℕ) (d e : RExpr) → i < length xs → i < length ys → one_all P Q (exprs (drop i xs)) (exprs (drop i ys))
      ≡ (one_ex P Q (expr_of (get_or xs i d)) (expr_of (get_or ys i e)) && one_all P Q (exprs (drop (i + 1) xs)) (exprs (drop (i + 1) ys)))
  exprs_step xs ys i d e h k = rw (add-one, drop-cons xs i d, drop-cons ys i e)

  exprs_long : (xs ys : List RExpr) → one_all P Q (exprs xs) (exprs ys) ≡ true → length xs ≡ length ys
  exprs_long [] [] h = refl
  exprs_long (x ∷ xs) (y ∷ ys) h = let k = exprs_long xs ys (and_right (one_ex P Q (expr_of x) (expr_of y)) _ h) in omega (arith, k)
  exprs_long _ _ h = absurd (false≢true h)

  -- lists of other lengths are not one
  pub exprs_apart : (xs ys : List RExpr) → length xs ≢ length ys → false ≡ one_all P Q (exprs xs) (exprs ys)
  exprs_apart xs ys h = not_so _ (exprs_long xs ys) h

  -- what is one with `this`
  pub this_first : (t : Tag) (e : Ex) → one_ex P Q (this t) e ≡ is_this e
  this_first t (this u) = refl
  this_first t _ = refl

  pub this_second : (e : Ex) (t : Tag) → one_ex P Q e (this t) ≡ is_this e
  this_second (this u) t = refl
  this_second _ t = refl

  -- what two trees are seen as decides
  pub ex_by : {x y : Ex} (u v : Ex) {r : Bool} → x ≡ u → y ≡ v → r ≡ one_ex P Q u v → r ≡ one_ex P Q x y
  ex_by u v h k e = rw (h, k) e

  pub ex_at : {r : Bool} {x u y v : RExpr} → x ≡ u → y ≡ v → r ≡ one_ex P Q (expr_of x) (expr_of y) → r ≡ one_ex P Q (expr_of u) (expr_of v)
  ex_at {x = x} {v = v} h k e = e ∙ ap (λ y. one_ex P Q (expr_of x) (expr_of y)) k ∙ ap (λ x. one_ex P Q (expr_of x) (expr_of v)) h

  -- statements, one after another
  pub stmts_step : (xs ys : List RStmt) (i : ℕ) (d e : RStmt) → i < length xs → i < length ys → one_sts P Q (stmts (drop i xs)) (stmts (drop i ys))
      ≡ (one_st P Q (stmt_of (get_or xs i d)) (stmt_of (get_or ys i e)) && one_sts P Q (stmts (drop (i + 1) xs)) (stmts (drop (i + 1) ys)))
  stmts_step xs ys i d e h k = rw (add-one, drop-cons xs i d, drop-cons ys i e)

  stmts_long : (xs ys : List RStmt) → one_sts P Q (stmts xs) (stmts ys) ≡ true → length xs ≡ length ys
  stmts_long [] [] h = refl
  stmts_long (x ∷ xs) (y ∷ ys) h = let k = stmts_long xs ys (and_right (one_st P Q (stmt_of x) (stmt_of y)) _ h) in omega (arith, k)
  stmts_long _ _ h = absurd (false≢true h)

  pub stmts_apart : (xs ys : List RStmt) → length xs ≢ length ys → false ≡ one_sts P Q (stmts xs) (stmts ys)
  stmts_apart xs ys h = not_so _ (stmts_long xs ys) h

  -- all of two lists of one length
  pub stmts_end : (xs ys : List RStmt) → length xs ≡ length ys → true ≡ one_sts P Q (stmts (drop (length xs) xs)) (stmts (drop (length xs) ys))
  stmts_end [] [] h = refl
  stmts_end (x ∷ xs) (y ∷ ys) h = stmts_end xs ys (let k : suc (length xs) ≡ suc (length ys) = h in omega (arith, k))
  stmts_end [] (y ∷ ys) h = absurd (let k : 0 ≡ suc (length ys) = h in omega (arith, k))
  stmts_end (x ∷ xs) [] h = absurd (let k : suc (length xs) ≡ 0 = h in omega (arith, k))

  -- arms, one after another
  pub arms_step : (xs ys : List RArm) (o r : IfArms) (i : ℕ) (d e : RArm) → i < length xs → i < length ys
      → one_arms P Q (arms_seen (drop i xs) o) (arms_seen (drop i ys) r)
      ≡ ((one_ex P Q (expr_of (get_or xs i d).test) (expr_of (get_or ys i e).test)
      && one_sts P Q (stmts (get_or xs i d).body.items) (stmts (get_or ys i e).body.items))
      && one_arms P Q (arms_seen (drop (i + 1) xs) o) (arms_seen (drop (i + 1) ys) r))
  arms_step xs ys o r i d e h k = rw (add-one, drop-cons xs i d, drop-cons ys i e)

  arms_long : (xs ys : List RArm) → one_arms P Q (arms_seen xs no_other) (arms_seen ys no_other) ≡ true → length xs ≡ length ys
  arms_long [] [] h = refl
  arms_long (x ∷ xs) (y ∷ ys) h =
      let k = arms_long xs ys (and_right (one_ex P Q (expr_of x.test) (expr_of y.test) && one_sts P Q (stmts x.body.items) (stmts y.body.items)) _ h) in
      omega (arith, k)
  arms_long [] (y ∷ ys) h = absurd (false≢true h)
  arms_long (x ∷ xs) [] h = absurd (false≢true h)

  pub arms_apart : (xs ys : List RArm) → length xs ≢ length ys → false ≡ one_arms P Q (arms_seen xs no_other) (arms_seen ys no_other)
  arms_apart xs ys h = not_so _ (arms_long xs ys) h

  -- behind all arms of two lists of one length
  pub arms_end : (xs ys : List RArm) → length xs ≡ length ys
      → true ≡ one_arms P Q (arms_seen (drop (length xs) xs) no_other) (arms_seen (drop (length xs) ys) no_other)
  arms_end [] [] h = refl
  arms_end (x ∷ xs) (y ∷ ys) h = arms_end xs ys (let k : suc (length xs) ≡ suc (length ys) = h in omega (arith, k))
  arms_end [] (y ∷ ys) h = absurd (let k : 0 ≡ suc (length ys) = h in omega (arith, k))
  arms_end (x ∷ xs) [] h = absurd (let k : suc (length xs) ≡ 0 = h in omega (arith, k))

  and_assoc : (a b c : Bool) → (a && (b && c)) ≡ ((a && b) && c)
  and_assoc true b c = refl
  and_assoc false b c = refl

  -- arms, and the `else` behind them
  arms_split : (xs ys : List RArm) (o r : Option (Vec RStmt Global)) → one_arms P Q (arms_seen xs (else_seen o)) (arms_seen ys (else_seen r))
      ≡ (one_arms P Q (arms_seen xs no_other) (arms_seen ys no_other) && one_arms P Q (else_seen o) (else_seen r))
  arms_split [] [] o r = refl
  arms_split (x ∷ xs) (y ∷ ys) o r =
      let here = one_ex P Q (expr_of x.test) (expr_of y.test) && one_sts P Q (stmts x.body.items) (stmts y.body.items) in
      ap (λ b. here && b) (arms_split xs ys o r)
      ∙ and_assoc here (one_arms P Q (arms_seen xs no_other) (arms_seen ys no_other)) (one_arms P Q (else_seen o) (else_seen r))
  arms_split [] (y ∷ ys) None r = refl
  arms_split [] (y ∷ ys) (Some v) r = refl
  arms_split (x ∷ xs) [] o None = refl
  arms_split (x ∷ xs) [] o (Some v) = refl

  -- two `if`s are one where their arms are and their `else`s
  pub if_by : (s u : RStmt) (v w : Vec RArm Global) (o r : Option (Vec RStmt Global)) (p z : Place) → s ≡ If v o p → u ≡ If w r z
      → one_st P Q (stmt_of s) (stmt_of u)
      ≡ (one_arms P Q (arms_seen v.items no_other) (arms_seen w.items no_other) && one_arms P Q (else_seen o) (else_seen r))
  if_by s u v w o r p z e h =
      ap₂ (λ x y. one_st P Q x y) (if_form s v o p e) (if_form u w r z h) ∙ arms_split v.items w.items o r

  pub if_as : (s u : RStmt) (v w : Vec RArm Global) {o r : Option (Vec RStmt Global)} (i j : Option (Vec RStmt Global)) (p z : Place)
      → s ≡ If v o p → u ≡ If w r z → o ≡ i → r ≡ j
      → (one_arms P Q (arms_seen v.items no_other) (arms_seen w.items no_other) && one_arms P Q (else_seen i) (else_seen j))
      ≡ one_st P Q (stmt_of s) (stmt_of u)
  if_as s u v w i j p z e h a b = sym (if_by s u v w i j p z (e ∙ ap (λ o. If v o p) a) (h ∙ ap (λ r. If w r z) b))

  -- statements are compared up to the end of the shorter list
  pub statements_all : (xs ys : List RStmt) (i : ℕ) → (length xs ≡ length ys → i ≡ length xs)
      → one_sts P Q (stmts (drop i xs)) (stmts (drop i ys)) ≡ one_sts P Q (stmts xs) (stmts ys) → (length xs == length ys) ≡ one_sts P Q (stmts xs) (stmts ys)
  statements_all xs ys i at e = ⊎_elim
      (λ (h : length xs ≡ length ys). eq-eqb (length xs) (length ys) h ∙ stmts_end xs ys h
      ∙ ap (λ n. one_sts P Q (stmts (drop n xs)) (stmts (drop n ys))) (sym (at h)) ∙ e)
      (λ h. ne_eqb (length xs) (length ys) h ∙ stmts_apart xs ys h)
      (cases_eq (length xs) (length ys))

  pub st_by : {x y : St} (u v : St) {r : Bool} → x ≡ u → y ≡ v → r ≡ one_st P Q u v → r ≡ one_st P Q x y
  st_by u v h k e = rw (h, k) e

  -- what can be assigned to is compared as an expression
  pub target_same : (a b : RExpr) → is_target (target_of a) ≡ true → one_target P Q (target_of a) (target_of b) ≡ one_ex P Q (expr_of a) (expr_of b)
  target_same (ex.Local n p) (ex.Local m q) h = refl
  target_same (ex.Local n p) (ex.Call' ex.None' x z args q) h = refl
  target_same (ex.Local n p) (ex.Call' (ex.Some' r y) x z args q) h = refl
  target_same (ex.Local n p) _ h = refl
  target_same (ex.Static f p) (ex.Static g q) h = refl
  target_same (ex.Static f p) (ex.Call' ex.None' x z args q) h = refl
  target_same (ex.Static f p) (ex.Call' (ex.Some' r y) x z args q) h = refl
  target_same (ex.Static f p) _ h = refl
  target_same (ex.Own f p) (ex.Own g q) h = refl
  target_same (ex.Own f p) (ex.Call' ex.None' x z args q) h = refl
  target_same (ex.Own f p) (ex.Call' (ex.Some' r y) x z args q) h = refl
  target_same (ex.Own f p) _ h = refl
  target_same (ex.Field' b e n p) (ex.Own g q) h = refl
  target_same (ex.Field' b e n p) (ex.Call' ex.None' x z args q) h = refl
  target_same (ex.Field' b e n p) (ex.Call' (ex.Some' r y) x z args q) h = refl
  target_same (ex.Field' b e n p) _ h = refl
  target_same (ex.Index' b e c i p) (ex.Own g q) h = refl
  target_same (ex.Index' b e c i p) (ex.Call' ex.None' x z args q) h = refl
  target_same (ex.Index' b e c i p) (ex.Call' (ex.Some' r y) x z args q) h = refl
  target_same (ex.Index' b e c i p) _ h = refl
  target_same _ _ h = absurd (false≢true h)

  pub no_target_one : (b c : Target) → is_target b ≡ false → false ≡ one_target P Q b c
  no_target_one no_target (to_local t i) h = refl
  no_target_one no_target _ h = refl
  no_target_one _ c h = absurd (false≢true (sym h))

pub ruleset forms = (call_form, static_form, super_form, creation_form, exprs_step, exprs_apart, this_first, this_second)

pub ruleset targets = (target_same, no_target_one)

pub ruleset statements = (block_form, if_form, while_form, for_form, stmts_step, stmts_apart, stmts_end, arms_step, arms_apart, arms_end)
