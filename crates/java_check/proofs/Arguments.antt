-- Steps through arguments, parameters and locals.
use Rattle.std.proofs.Common.{◌≡◌, ℕ, suc, zero, ◌+◌, ◌<◌, ◌≤◌, ◌==◌, List, [], ◌∷◌, length, drop, get_or, Option, Some, None, Result, Ok, Err, slice_get, refl, sym, ap, ◌∙◌, add-one, drop-cons, arith}
use Rattle.std.proofs.lemmas.Bool.{ne_eqb}
use Rattle.java_core.specs.declared.Ty.{Ty}
use Rattle.std.specs.declared.vec.Vec.{Vec}
use Rattle.std.specs.declared.boxed.Box.{Box}
use Rattle.std.specs.declared.alloc.Global.{Global}
use Rattle.kaba_base.specs.declared.Place.{Place}
use Rattle.kaba_base.specs.declared.ClassId.{ClassId}
use Rattle.kaba_base.specs.declared.MemberId.{MemberId}
use Rattle.java_core.specs.declared.RExpr.{RExpr, Call, StaticCall, SuperCall, New}
use Rattle.java_core.specs.Trees.{Tag, at_place, expr_of, exprs, base_seen}
use Rattle.java_core.specs.Programs.{Plain}
use Rattle.java_core.specs.Classes.{super_method, is_concrete}
use Rattle.java_core.specs.Makers.{maker_of}
use Rattle.java_core.specs.Types.{Env, fits, call_signature, signature_of_method}
use Rattle.java_core.proofs.Rows.{exprs_vec, call_as}
use Rattle.java_core.specs.declared.statics.Static as declared
use Rattle.java_check.specs.declared.Kind.TheVariants.{Arguments, NoMember}
use Rattle.java_check.specs.declared.CheckFault.{CheckFault}
use Rattle.java_core.specs.Statics.{static_seen as seen}
use Rattle.java_check.specs.Outcome.{Answer, answer, args_answer, and_then, asked, refused, none_called, call_answer, super_answer, made_params, create_answer}

pub drop-some : {A : Type 0} (xs : List A) (i : ℕ) (x : A) → Some x ≡ slice_get xs i → drop i xs ≡ x ∷ drop (i + 1) xs
drop-some [] i x e = absurd (cc e)
drop-some (y ∷ ys) zero x e = let h : x ≡ y = cc in rw h refl
drop-some (y ∷ ys) (suc i) x e = drop-some ys i x e ∙ rw (add-one, add-one) refl

pub drop-none : {A : Type 0} (xs : List A) (i : ℕ) → None ≡ slice_get xs i → drop i xs ≡ []
drop-none [] zero e = refl
drop-none [] (suc i) e = refl
drop-none (y ∷ ys) zero e = absurd (cc e)
drop-none (y ∷ ys) (suc i) e = drop-none ys i e

pub drop-all : {A : Type 0} (xs : List A) (i : ℕ) → length xs ≤ i → drop i xs ≡ []
drop-all [] zero h = refl
drop-all [] (suc i) h = refl
drop-all (y ∷ ys) zero h = absurd (omega (arith, h))
drop-all (y ∷ ys) (suc i) h = drop-all ys i (omega (arith, h))

pub and_then-ok : {A B : Type 0} {r : Result A CheckFault} (f : A → Result B CheckFault) {x : A} → r ≡ Ok x → and_then r f ≡ f x
and_then-ok f e = ap (λ r. and_then r f) e

pub and_then-err : {A B : Type 0} {r : Result A CheckFault} (f : A → Result B CheckFault) {e : CheckFault} → r ≡ Err e → and_then r f ≡ Err e
and_then-err f e = ap (λ r. and_then r f) e

module _ (P : Plain) (g : Env) (t : Tag) (xs : List RExpr) (us : List Ty) (i : ℕ) where
  pub no_parameter : (d : RExpr) → slice_get us i ≡ None → i < length xs → args_answer P g (exprs (drop i xs)) t (drop i us) ≡ refused Arguments t
  no_parameter d e h = rw (drop-none us i (sym e), drop-cons xs i d) refl

  pub argument : (d : RExpr) (u : Ty) → d ≡ get_or xs i d → slice_get us i ≡ Some u → i < length xs
      → args_answer P g (exprs (drop i xs)) t (drop i us)
      ≡ and_then (and_then (answer P g (expr_of d)) (λ s. asked (fits P (seen s) u) Arguments t (tt {0})))
      (λ _. args_answer P g (exprs (drop (i + 1) xs)) t (drop (i + 1) us))
  argument d u here e h =
      rw (drop-some us i u (sym e), drop-cons xs i d, add-one)
      (ap (λ d. and_then (and_then (answer P g (expr_of d)) (λ s. asked (fits P (seen s) u) Arguments t (tt {0})))
      (λ _. args_answer P g (exprs (drop (suc i) xs)) t (drop (suc i) us))) (sym here))

  pub all_given : length xs ≤ i → slice_get us i ≡ None → args_answer P g (exprs (drop i xs)) t (drop i us) ≡ Ok (tt {0})
  all_given h e = rw (drop-none us i (sym e), drop-all xs i h) refl

  pub more_wanted : (u : Ty) → length xs ≤ i → slice_get us i ≡ Some u → args_answer P g (exprs (drop i xs)) t (drop i us) ≡ refused Arguments t
  more_wanted u h e = rw (drop-some us i u (sym e), drop-all xs i h) refl

-- where there are no parameters, there are no arguments
pub none_given : (P : Plain) (g : Env) (t : Tag) (xs : List RExpr) → asked (length xs == 0) Arguments t (tt {0}) ≡ args_answer P g (exprs xs) t []
none_given P g t [] = refl
none_given P g t (x ∷ xs) = ap (λ b. asked b Arguments t (tt {0})) (ne_eqb (length (x ∷ xs)) 0 (λ e. absurd (cc e)))

-- forms of expressions with arguments
module _ (P : Plain) (g : Env) where
  seen_as : {e d : RExpr} → e ≡ d → answer P g (expr_of e) ≡ answer P g (expr_of d)
  seen_as h = ap (λ e. answer P g (expr_of e)) h

  -- a call of an instance method by its name, where its receiver gives s, or a fault
  pub named_answer : {e : RExpr} (b : Option (Box RExpr Global)) (x : List ℕ) (v : Vec RExpr Global) (p : Place) {s : declared.Static} {r : Answer}
      → e ≡ Call b x v p → r ≡ answer P g (base_seen b p) → r ≡ Ok s
      → call_answer (none_called x) (call_signature P (seen s) x) (args_answer P g (exprs v.items) (at_place p)) (at_place p) ≡ answer P g (expr_of e)
  named_answer b x v p h k o = sym (seen_as h ∙ ap (answer P g) (call_as b x v p) ∙ and_then-ok _ (sym k ∙ o))

  pub named_fault : {e : RExpr} (b : Option (Box RExpr Global)) (x : List ℕ) (v : Vec RExpr Global) (p : Place) {f : CheckFault} {r : Answer}
      → e ≡ Call b x v p → r ≡ answer P g (base_seen b p) → r ≡ Err f → Err f ≡ answer P g (expr_of e)
  named_fault b x v p h k o = sym (seen_as h ∙ ap (answer P g) (call_as b x v p) ∙ and_then-err _ (sym k ∙ o))

  pub static_answer : {e : RExpr} (m : MemberId) (v : Vec RExpr Global) (p : Place) → e ≡ StaticCall m v p
      → call_answer NoMember (signature_of_method P m.0) (args_answer P g (exprs v.items) (at_place p)) (at_place p) ≡ answer P g (expr_of e)
  static_answer m v p h = sym (seen_as h ∙ ap (λ es. call_answer NoMember (signature_of_method P m.0) (args_answer P g es (at_place p)) (at_place p)) (exprs_vec v))

  pub super_call_answer : {e : RExpr} (x : List ℕ) (v : Vec RExpr Global) (p : Place) → e ≡ SuperCall x v p
      → super_answer P (super_method P g.self x) (args_answer P g (exprs v.items) (at_place p)) (at_place p) ≡ answer P g (expr_of e)
  super_call_answer x v p h = sym (seen_as h ∙ ap (λ es. super_answer P (super_method P g.self x) (args_answer P g es (at_place p)) (at_place p)) (exprs_vec v))

  pub new_answer : {e : RExpr} (k : ℕ) (c : ClassId) (v : Vec RExpr Global) (p : Place) → e ≡ New k c v p
      → create_answer (is_concrete P c.0) (args_answer P g (exprs v.items) (at_place p) (made_params P (maker_of P c.0))) c.0 (at_place p)
      ≡ answer P g (expr_of e)
  new_answer k c v p h = sym (seen_as h ∙ ap (λ es. create_answer (is_concrete P c.0) (args_answer P g es (at_place p) (made_params P (maker_of P c.0)))
      c.0 (at_place p)) (exprs_vec v))
