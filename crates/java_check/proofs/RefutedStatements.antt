-- Where a rule fails in a statement, it is not typed.
use Rattle.std.proofs.Common.{◌≡◌, ℕ, true, false, Some, None, sym, ap, ◌∙◌, subst}
use Rattle.std.specs.Option.{is_some}
use Rattle.kaba_base.specs.declared.Place.{Place}
use Rattle.java_core.specs.declared.Ty.{Ty}
use Rattle.java_core.specs.Trees.{Ex, Target, St, Sts, IfArms}
use Rattle.java_core.specs.Programs.{Plain}
use Rattle.java_core.specs.Types.{Env, fits, static}
use Rattle.java_core.specs.Typing.{Typed, TypedTarget, t_to_field, t_to_element, t_test, TypedSt, TypedSts, TypedArms, t_declare_as, t_block, t_assign, t_act, t_print, t_choose, t_loop, t_return_nothing, t_return, t_st_then, t_otherwise, t_arm}
use Rattle.java_check.specs.declared.Kind.{Kind}
use Rattle.java_check.specs.Fails.{BreaksTarget, no_own_field, bad_element, BreaksSt, bad_initial, bad_target, no_variable, bad_assign, bad_print, bad_loop_test, value_wanted, no_value_wanted, bad_return, HasEx, initial, target_base, element_base, element_at, assigned, acted, printed, loop_test, returned, FailsSt, itself_st, in_ex, in_block, in_choose, in_first, in_step, in_body, FailsSts, here, later, FailsArms, in_else, in_test, bad_test, in_arm, in_more}
use Rattle.java_check.proofs.Refuted.{clash, fails_untyped}

module _ (P : Plain) (g : Env) where
  has_typed : {x : St} {e : Ex} → HasEx P g x e → TypedSt P g x → Typed P g e
  has_typed initial (t_declare_as h f) = h
  has_typed target_base (t_assign (t_to_field k a) h f) = k
  has_typed element_base (t_assign (t_to_element k a i b) h f) = k
  has_typed element_at (t_assign (t_to_element k a i b) h f) = i
  has_typed assigned (t_assign k h f) = h
  has_typed acted (t_act h) = h
  has_typed printed (t_print h f) = h
  has_typed loop_test (t_loop a (t_test h f) b c) = h
  has_typed returned (t_return h r f) = h

  target_untyped : {b : Target} {k : Kind} {p : Place} → BreaksTarget P g b k p → TypedTarget P g b → ⊥
  target_untyped (no_own_field h a) (t_to_field k b) = let f : is_some {T = ℕ} None ≡ true = sym (ap is_some a) ∙ b in cc f
  target_untyped (bad_element h k f) (t_to_element i a j b) = clash (rw (a, b)) f

  unfit_result : (e : Ex) {u v : Ty} → g.result ≡ Some u → g.result ≡ Some v → fits P (static P g e) u ≡ false → fits P (static P g e) v ≡ true → ⊥
  unfit_result e {u} {v} r s f h = let same : u ≡ v = cc in clash h (subst (λ (w : Ty). fits P (static P g e) w ≡ false) same f)

  breaks_st_untyped : {x : St} {k : Kind} {p : Place} → BreaksSt P g x k p → TypedSt P g x → ⊥
  breaks_st_untyped (bad_initial h f) (t_declare_as k fit) = clash fit f
  breaks_st_untyped (bad_target b) (t_assign k h f) = target_untyped b k
  breaks_st_untyped no_variable (t_assign k h f) = elim k [ ]
  breaks_st_untyped (bad_assign b h f) (t_assign k i fit) = clash fit f
  breaks_st_untyped (bad_print h f) (t_print k fit) = clash fit f
  breaks_st_untyped (bad_loop_test h f) (t_loop a (t_test k fit) b c) = clash fit f
  breaks_st_untyped (value_wanted w) (t_return_nothing r) = let f : is_some {T = Ty} None ≡ true = sym (ap is_some r) ∙ w in cc f
  breaks_st_untyped (no_value_wanted r) (t_return h s f) = cc (r, s)
  breaks_st_untyped (bad_return {e = e} r h f) (t_return k s fit) = unfit_result e r s f fit

  mutual
    pub fails_st_untyped : {x : St} {k : Kind} {p : Place} → FailsSt P g x k p → TypedSt P g x → ⊥
    fails_st_untyped (itself_st b) h = breaks_st_untyped b h
    fails_st_untyped (in_ex has f) h = fails_untyped P g f (has_typed has h)
    fails_st_untyped (in_block f) (t_block h) = fails_sts_untyped f h
    fails_st_untyped (in_choose f) (t_choose h) = fails_arms_untyped f h
    fails_st_untyped (in_first f) (t_loop a t b c) = fails_sts_untyped f a
    fails_st_untyped (in_step f) (t_loop a t b c) = fails_sts_untyped f b
    fails_st_untyped (in_body f) (t_loop a t b c) = fails_sts_untyped f c

    pub fails_sts_untyped : {xs : Sts} {k : Kind} {p : Place} → FailsSts P g xs k p → TypedSts P g xs → ⊥
    fails_sts_untyped (here f) (t_st_then h k) = fails_st_untyped f h
    fails_sts_untyped (later f) (t_st_then h k) = fails_sts_untyped f k

    pub fails_arms_untyped : {xs : IfArms} {k : Kind} {p : Place} → FailsArms P g xs k p → TypedArms P g xs → ⊥
    fails_arms_untyped (in_else f) (t_otherwise h) = fails_sts_untyped f h
    fails_arms_untyped (in_test f) (t_arm e b h k) = fails_untyped P g f e
    fails_arms_untyped (bad_test e f) (t_arm k b h m) = clash b f
    fails_arms_untyped (in_arm f) (t_arm e b h k) = fails_sts_untyped f h
    fails_arms_untyped (in_more f) (t_arm e b h k) = fails_arms_untyped f k
