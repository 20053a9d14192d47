-- What the body of a formed program's method names is there.
use Rattle.std.proofs.Common.{◌≡◌, ℕ, zero, suc, ◌<◌, List, [], ◌∷◌, Option, Some, None, length, refl, sym, ◌∙◌, arith}
use Rattle.std.specs.Prelude.{Bool, true, slice_get}
use Rattle.std.specs.Option.{is_some}
use Rattle.std.proofs.lemmas.Bool.{false≢true}
use Rattle.java_core.specs.declared.TyBase.{TyBase}
use Rattle.java_core.specs.Trees.{Ex, Exs, Target, St, Sts, IfArms}
use Rattle.java_core.specs.Programs.{Plain, PlainMethod, PlainLocal}
use Rattle.java_core.specs.Classes.{member_field, has_body}
use Rattle.java_core.specs.Types.{Env, env_of, types_of, field_type, element_in}
use Rattle.java_core.specs.Formed.{variables_of, IsOwnField, IsStaticField, IsStaticMethod, FormedEx, FormedExs, FormedTarget, FormedOption, FormedSt, FormedSts, FormedArms, IsFormed}
use Rattle.java_core.specs.Formed.{f_local, f_static_field, f_own_field, f_field, f_index, f_call, f_static_call, f_super_call, f_create, f_create_array, f_cast, f_instance_of, f_unary, f_binary, f_no_ex, f_ex_then, f_to_local, f_to_static, f_to_own, f_to_field, f_to_element, f_none, f_some, f_declare, f_block, f_assign, f_act, f_print, f_choose, f_loop, f_return, f_break, f_continue, f_no_st, f_st_then, f_no_other, f_otherwise, f_arm}
use Rattle.java_meaning.specs.TypedLang.{Stands, StandAll, StandsTarget, standing}
use Rattle.java_meaning.specs.EachStatement.{OfOption, InSt, InSts, InArms}

typed_within : (ls : List PlainLocal) (i : ℕ) → i < length ls → is_some (slice_get (types_of ls) i) ≡ true
typed_within [] i lt = absurd (omega (arith, lt))
typed_within (l ∷ ls) zero lt = refl
typed_within (l ∷ ls) (suc i) lt = typed_within ls i (let h : suc i < suc (length ls) = lt in omega (arith, h))

typed_there : (ls : List PlainLocal) (i : ℕ) (v : PlainLocal) → slice_get ls i ≡ Some v → is_some (slice_get (types_of ls) i) ≡ true
typed_there [] i v e = absurd (cc)
typed_there (l ∷ ls) zero v e = refl
typed_there (l ∷ ls) (suc i) v e = typed_there ls i v e

element_there : (b : TyBase) (d : ℕ) → 0 < d → is_some (element_in b d) ≡ true
element_there b zero lt = absurd (omega (arith, lt))
element_there b (suc d) lt = refl

module _ (P : Plain) (formed : IsFormed P) where
  field_there : (f : ℕ) → IsStaticField P f → is_some (field_type P f) ≡ true
  field_there f h = rw h.stands refl

  pub own_member : (c f : ℕ) → IsOwnField P c f → (x : List ℕ) × (member_field P c x ≡ Some f)
  unfolding member_field
  own_member c f h = (h.member.name, rw (h.nearest, h.stands, h.kind) refl)

  pub static_body : (m : ℕ) → IsStaticMethod P m → has_body P m ≡ true
  static_body m h = go h.member.body refl
    where
      go : (o : Option Sts) → h.member.body ≡ o → has_body P m ≡ true
      go (Some xs) e = rw (h.stands, e) refl
      go None e = absurd (false≢true (sym ((formed.methods m h.member h.stands).bodyless e).0 ∙ h.kind))

  module _ (m : ℕ) (k : PlainMethod) where
    abbrev g : Env
    g = env_of m k

    module _ (scope : List ℕ) where
      mutual
        stands_ex : {e : Ex} → FormedEx P k scope e → Stands P g e
        stands_ex (f_local {i = i} h lt) = typed_within (variables_of k) i lt
        stands_ex (f_static_field {f = f} h) = field_there f h
        stands_ex (f_own_field {f = f} n h) = own_member k.owner f h
        stands_ex (f_field h n) = stands_ex h
        stands_ex (f_index h d) = (stands_ex h, stands_ex d)
        stands_ex (f_call h n hs) = (stands_ex h, stands_all hs)
        stands_ex (f_static_call {m = x} h hs) = (static_body x h, stands_all hs)
        stands_ex (f_super_call s n hs) = stands_all hs
        stands_ex (f_create h hs) = stands_all hs
        stands_ex (f_create_array {u = u} h lt d) = (element_there u.base u.dim lt, stands_ex d)
        stands_ex (f_cast h d) = stands_ex d
        stands_ex (f_instance_of h d) = stands_ex h
        stands_ex (f_unary h) = stands_ex h
        stands_ex (f_binary h d) = (stands_ex h, stands_ex d)
        stands_ex h = tt

        stands_all : {es : Exs} → FormedExs P k scope es → StandAll P g es
        stands_all f_no_ex = tt
        stands_all (f_ex_then h hs) = (stands_ex h, stands_all hs)

      stands_if : {e : Option Ex} → FormedOption P k scope e → OfOption (Stands P g) e
      stands_if f_none = tt
      stands_if (f_some h) = stands_ex h

      stands_target : {b : Target} → FormedTarget P k scope b → StandsTarget P g b
      stands_target (f_to_local {i = i} h lt) = typed_within (variables_of k) i lt
      stands_target (f_to_static {f = f} h) = field_there f h
      stands_target (f_to_own {f = f} n h) = own_member k.owner f h
      stands_target (f_to_field h n) = stands_ex h
      stands_target (f_to_element h d) = (stands_ex h, stands_ex d)

    mutual
      stands_st : {l : Bool} {scope : List ℕ} {x : St} → FormedSt P k l scope x → InSt (standing P g) x
      stands_st (f_declare {scope = scope} {i = i} h d) = (typed_there (variables_of k) i h.variable h.declared, stands_if (i ∷ scope) d)
      stands_st (f_block h) = stands_sts h
      stands_st (f_assign {scope = scope} h d) = (stands_target scope h, stands_ex scope d)
      stands_st (f_act {scope = scope} n h) = stands_ex scope h
      stands_st (f_print {scope = scope} n h) = stands_if scope h
      stands_st (f_choose h) = stands_arms h
      stands_st (f_loop head n d first test last body) = (stands_sts first, stands_if _ test, stands_sts last, stands_sts body)
      stands_st (f_return {scope = scope} h) = stands_if scope h
      stands_st (f_break h) = tt
      stands_st (f_continue h) = tt

      pub stands_sts : {l : Bool} {scope : List ℕ} {xs : Sts} → FormedSts P k l scope xs → InSts (standing P g) xs
      stands_sts f_no_st = tt
      stands_sts (f_st_then h hs) = (stands_st h, stands_sts hs)

      stands_arms : {l : Bool} {scope : List ℕ} {xs : IfArms} → FormedArms P k l scope xs → InArms (standing P g) xs
      stands_arms f_no_other = tt
      stands_arms (f_otherwise h) = stands_sts h
      stands_arms (f_arm {scope = scope} e h hs) = (stands_ex scope e, stands_sts h, stands_arms hs)
