-- What is answered of a statement is right: it is typed, or a rule fails at the place.
use Rattle.std.proofs.Common.{◌≡◌, ◌&&◌, ℕ, Bool, true, false, List, Option, Some, None, Result, Ok, Err, refl, ap, ◌∙◌, slice_get}
use Rattle.std.specs.Option.{is_some, is_none}
use Rattle.std.proofs.lemmas.Bool.{and_parts}
use Rattle.kaba_base.specs.declared.Place.{Place}
use Rattle.java_core.specs.declared.Ty.{Ty}
use Rattle.java_core.specs.Trees.{Tag, Ex, Target, to_local, to_static, to_own, to_field, to_element, no_target, St, Sts, IfArms, declare, block, assign, act, print, choose, loop, return, break, continue, no_st, st_then, no_other, otherwise, arm}
use Rattle.java_core.specs.Programs.{Plain}
use Rattle.java_core.specs.Types.{Env, or_nothing, element_of, is_numeric, is_boolean, is_printable, fits, fits_in, field_type, field_in, static, target_type}
use Rattle.java_core.specs.Typing.{Typed, TypedTarget, t_to_local, t_to_static, t_to_own, t_to_field, t_to_element, TypedTest, t_always, t_test, TypedSt, TypedSts, TypedArms, t_declare, t_declare_as, t_block, t_assign, t_act, t_print_line, t_print, t_choose, t_loop, t_return_nothing, t_return, t_break, t_continue, t_no_st, t_st_then, t_no_other, t_otherwise, t_arm}
use Rattle.java_core.specs.declared.statics.Static as declared
use Rattle.java_check.specs.declared.Kind.{Kind}
use Rattle.java_check.specs.declared.Kind.TheVariants.{Operand, Condition, Assign, Return}
use Rattle.java_check.specs.declared.CheckFault.{CheckFault}
use Rattle.java_check.specs.declared.CheckFault.TheVariants.{IllTyped, Memory}
use Rattle.java_core.specs.Statics.{static_seen as seen, given_of}
use Rattle.java_check.specs.Outcome.{Answer, answer, and_then, asked}
use Rattle.java_check.specs.Fails.{tag_of, Fails, no_own_field, bad_element, bad_initial, bad_target, no_variable, bad_assign, bad_print, bad_loop_test, value_wanted, no_value_wanted, bad_return, HasEx, initial, target_base, element_base, element_at, assigned, acted, printed, loop_test, returned, FailsSt, itself_st, in_ex, in_block, in_choose, in_first, in_step, in_body, FailsSts, here, later, FailsArms, in_else, in_test, bad_test, in_arm, in_more}
use Rattle.java_check.specs.StatementOutcome.{field_answer, target_answer, condition_answer, test_answer, return_answer, st_answer, sts_answer, arms_answer}
use Rattle.java_check.proofs.Judged.{Judged, judged, seen-given_of}

-- an answer where Ok says T, and a fault of this kind at this place says F
pub data Right (T : Type 0) (F : Kind → Place → Type 0) : Result (Unit {0}) CheckFault → Type 0 where
  holds : {x : Unit {0}} → T → Right T F (Ok x)
  fails : {k : Kind} {p : Place} → F k p → Right T F (Err (IllTyped k p))

pub then_right : {T U : Type 0} {E F : Kind → Place → Type 0} {r : Result (Unit {0}) CheckFault} (q : Result (Unit {0}) CheckFault) → Right T E r
    → ((k : Kind) (p : Place) → E k p → F k p) → (T → Right U F q) → Right U F (and_then r (λ _. q))
then_right q (holds h) up more = more h
then_right q (fails f) up more = fails (up _ _ f)

pub mapped : {T U : Type 0} {E F : Kind → Place → Type 0} {r : Result (Unit {0}) CheckFault} → Right T E r → ((k : Kind) (p : Place) → E k p → F k p)
    → (T → U) → Right U F r
mapped (holds h) up more = holds (more h)
mapped (fails f) up more = fails (up _ _ f)

asked_right : {T : Type 0} (F : Kind → Place → Type 0) (b : Bool) (k : Kind) (t : Tag) → (b ≡ true → T) → (b ≡ false → F k t.place)
    → Right T F (asked b k t (tt {0}))
asked_right F true k t h f = holds (h refl)
asked_right F false k t h f = fails (f refl)

module _ (P : Plain) (g : Env) where
  given_right : {T : Type 0} {F : Kind → Place → Type 0} (e : Ex) (r : Answer) (f : declared.Static → Result (Unit {0}) CheckFault) → Judged P g e r
      → ((k : Kind) (p : Place) → Fails P g e k p → F k p)
      → ((s : declared.Static) → Typed P g e → static P g e ≡ seen s → Right T F (f s)) → Right T F (and_then r f)
  given_right e (Ok s) f h up more = more s h.0 h.1
  given_right e (Err (IllTyped k p)) f h up more = fails (up k p h)
  given_right e (Err Memory) f h up more = absurd h

  -- a test that is boolean
  condition_right : {T : Type 0} (F : Kind → Place → Type 0) (e : Ex) → ((k : Kind) (p : Place) → Fails P g e k p → F k p)
      → (Typed P g e → is_boolean (static P g e) ≡ true → T) → (Typed P g e → is_boolean (static P g e) ≡ false → F Condition (tag_of e).place)
      → Right T F (condition_answer P g e)
  condition_right F e up typed broken = given_right e (answer P g e) _ (judged P g e) up (λ s te se. asked_right F (is_boolean (seen s)) Condition
      (tag_of e) (λ h. typed te (ap is_boolean se ∙ h)) (λ h. broken te (ap is_boolean se ∙ h)))

  -- what is answered of a target
  abbrev JudgedTarget : Tag → Ex → Target → Answer → Type 0
  JudgedTarget a e b (Ok d) = TypedTarget P g b × (target_type P g b ≡ seen d)
  JudgedTarget a e b (Err (IllTyped k p)) = FailsSt P g (assign a b e) k p
  JudgedTarget a e b (Err Memory) = ⊥

  part_target : (a : Tag) (e : Ex) (b : Target) {d : Ex} (r : Answer) (f : declared.Static → Answer) → HasEx P g (assign a b e) d → Judged P g d r
      → ((s : declared.Static) → Typed P g d → static P g d ≡ seen s → JudgedTarget a e b (f s)) → JudgedTarget a e b (and_then r f)
  part_target a e b (Ok s) f has h more = more s h.0 h.1
  part_target a e b (Err (IllTyped k p)) f has h more = in_ex has h
  part_target a e b (Err Memory) f has h more = h

  field_target : (a : Tag) (e : Ex) (t : Tag) (d : Ex) (x : List ℕ) → Typed P g d → (o : Option ℕ) → field_in P (static P g d) x ≡ o
      → JudgedTarget a e (to_field t d x) (field_answer P g o t)
  field_target a e t d x td None h = itself_st (bad_target (no_own_field td h))
  field_target a e t d x td (Some f) h = (t_to_field td (rw h refl), rw h (seen-given_of (field_type P f)))

  element_target : (a : Tag) (e : Ex) (t : Tag) (d i : Ex) (s j : declared.Static) → Typed P g d → static P g d ≡ seen s → Typed P g i → static P g i ≡ seen j
      → (b : Bool) → (is_some (element_of (seen s)) && is_numeric (seen j)) ≡ b
      → JudgedTarget a e (to_element t d i) (asked b Operand t (given_of (element_of (seen s))))
  element_target a e t d i s j td sd ti si true h =
      let same : (is_some (element_of (static P g d)) && is_numeric (static P g i)) ≡ true = rw (sd, si) h in
      let both = and_parts (is_some (element_of (static P g d))) (is_numeric (static P g i)) same in
      (t_to_element td both.0 ti both.1, ap (λ s. or_nothing (element_of s)) sd ∙ seen-given_of (element_of (seen s)))
  element_target a e t d i s j td sd ti si false h =
      let same : (is_some (element_of (static P g d)) && is_numeric (static P g i)) ≡ false = rw (sd, si) h in
      itself_st (bad_target (bad_element td ti same))

  target_judged : (a : Tag) (e : Ex) (b : Target) → JudgedTarget a e b (target_answer P g a b)
  target_judged a e (to_local t i) = (t_to_local, seen-given_of (slice_get g.locals i))
  target_judged a e (to_static t f) = (t_to_static, seen-given_of (field_type P f))
  target_judged a e (to_own t f) = (t_to_own, seen-given_of (field_type P f))
  target_judged a e (to_field t d x) = part_target a e (to_field t d x) (answer P g d) _ target_base (judged P g d)
      (λ s td sd. field_target a e t d x td (field_in P (seen s) x) (ap (λ s. field_in P s x) sd))
  target_judged a e (to_element t d i) = part_target a e (to_element t d i) (answer P g d) _ element_base (judged P g d)
      (λ s td sd. part_target a e (to_element t d i) (answer P g i) _ element_at (judged P g i) (λ j ti si. element_target a e t d i s j td sd ti si
      (is_some (element_of (seen s)) && is_numeric (seen j)) refl))
  target_judged a e no_target = itself_st no_variable

  assign_judged : (t : Tag) (b : Target) (e : Ex) (r : Answer) → JudgedTarget t e b r
      → Right (TypedSt P g (assign t b e)) (FailsSt P g (assign t b e))
      (and_then r (λ d. and_then (answer P g e) (λ s. asked (fits_in P (seen s) (seen d)) Assign t (tt {0}))))
  assign_judged t b e (Err (IllTyped k p)) h = fails h
  assign_judged t b e (Err Memory) h = absurd h
  assign_judged t b e (Ok d) h =
      given_right e (answer P g e) _ (judged P g e) (λ k p f. in_ex assigned f)
      (λ s te se. let same : fits_in P (static P g e) (target_type P g b) ≡ fits_in P (seen s) (seen d) = rw (se, h.1) refl in
      asked_right (FailsSt P g (assign t b e)) (fits_in P (seen s) (seen d)) Assign t (λ k. t_assign h.0 te (same ∙ k))
      (λ k. itself_st (bad_assign h.0 te (same ∙ k))))

  return_judged : (t : Tag) (e : Ex) (s : declared.Static) → Typed P g e → static P g e ≡ seen s → (o : Option Ty) → g.result ≡ o
      → Right (TypedSt P g (return t (Some e))) (FailsSt P g (return t (Some e))) (return_answer P g o s t)
  return_judged t e s te se None r = fails (itself_st (no_value_wanted r))
  return_judged t e s te se (Some u) r = asked_right (FailsSt P g (return t (Some e))) (fits P (seen s) u) Return t
      (λ h. t_return te r (ap (λ s. fits P s u) se ∙ h)) (λ h. itself_st (bad_return r te (ap (λ s. fits P s u) se ∙ h)))

  none-is : (o : Option Ty) → is_none o ≡ true → o ≡ None
  none-is None h = refl
  none-is (Some u) h = cc h

  none-some : (o : Option Ty) → is_none o ≡ false → is_some o ≡ true
  none-some None h = cc h
  none-some (Some u) h = refl

  test_judged : (t : Tag) (is_while : Bool) (first step body : Sts) (test : Option Ex)
      → Right (TypedTest P g test) (FailsSt P g (loop t is_while first test step body)) (test_answer P g test)
  test_judged t is_while first step body None = holds t_always
  test_judged t is_while first step body (Some e) = condition_right (FailsSt P g (loop t is_while first (Some e) step body)) e
      (λ k p f. in_ex loop_test f) (λ te h. t_test te h) (λ te h. itself_st (bad_loop_test te h))

  mutual
    pub judged_st : (x : St) → Right (TypedSt P g x) (FailsSt P g x) (st_answer P g x)
    judged_st (declare t i None) = holds t_declare
    judged_st (declare t i (Some e)) = given_right e (answer P g e) _ (judged P g e) (λ k p f. in_ex initial f)
        (λ s te se. let d = or_nothing (slice_get g.locals i) in
        asked_right (FailsSt P g (declare t i (Some e))) (fits_in P (seen s) d) Assign t (λ h. t_declare_as te (ap (λ s. fits_in P s d) se ∙ h))
        (λ h. itself_st (bad_initial te (ap (λ s. fits_in P s d) se ∙ h))))
    judged_st (block t xs) = mapped (judged_sts xs) (λ k p f. in_block f) (λ h. t_block h)
    judged_st (assign t b e) = assign_judged t b e (target_answer P g t b) (target_judged t e b)
    judged_st (act t e) = given_right e (answer P g e) _ (judged P g e) (λ k p f. in_ex acted f) (λ s te se. holds (t_act te))
    judged_st (print t n None) = holds t_print_line
    judged_st (print t n (Some e)) = given_right e (answer P g e) _ (judged P g e) (λ k p f. in_ex printed f)
        (λ s te se. asked_right (FailsSt P g (print t n (Some e))) (is_printable (seen s)) Operand t (λ h. t_print te (ap is_printable se ∙ h))
        (λ h. itself_st (bad_print te (ap is_printable se ∙ h))))
    judged_st (choose t xs) = mapped (judged_arms xs) (λ k p f. in_choose f) (λ h. t_choose h)
    judged_st (loop t is_while first test step body) =
        then_right _ (judged_sts first) (λ k p f. in_first f)
        (λ hf. then_right _ (test_judged t is_while first step body test) (λ k p f. f)
        (λ ht. then_right _ (judged_sts step) (λ k p f. in_step f)
        (λ hs. mapped (judged_sts body) (λ k p f. in_body f) (λ hb. t_loop hf ht hs hb))))
    judged_st (return t None) = asked_right (FailsSt P g (return t None)) (is_none g.result) Return t (λ h. t_return_nothing (none-is g.result h))
        (λ h. itself_st (value_wanted (none-some g.result h)))
    judged_st (return t (Some e)) = given_right e (answer P g e) _ (judged P g e) (λ k p f. in_ex returned f)
        (λ s te se. return_judged t e s te se g.result refl)
    judged_st (break t) = holds t_break
    judged_st (continue t) = holds t_continue

    pub judged_sts : (xs : Sts) → Right (TypedSts P g xs) (FailsSts P g xs) (sts_answer P g xs)
    judged_sts no_st = holds t_no_st
    judged_sts (st_then x xs) = then_right _ (judged_st x) (λ k p f. here f) (λ h. mapped (judged_sts xs) (λ k p f. later f) (λ k. t_st_then h k))

    pub judged_arms : (xs : IfArms) → Right (TypedArms P g xs) (FailsArms P g xs) (arms_answer P g xs)
    judged_arms no_other = holds t_no_other
    judged_arms (otherwise xs) = mapped (judged_sts xs) (λ k p f. in_else f) (λ h. t_otherwise h)
    judged_arms (arm e xs more) =
        then_right _
        (condition_right {T = Typed P g e × (is_boolean (static P g e) ≡ true)} (FailsArms P g (arm e xs more)) e (λ k p f. in_test f)
        (λ te h. (te, h)) (λ te h. bad_test te h)) (λ k p f. f)
        (λ he. then_right _ (judged_sts xs) (λ k p f. in_arm f)
        (λ hx. mapped (judged_arms more) (λ k p f. in_more f) (λ hm. t_arm he.0 he.1 hx hm)))
