-- The body of a method that makes objects is typed.
use Rattle.std.proofs.Common.{◌≡◌, ℕ, zero, suc, ◌+◌, List, [], ◌∷◌, ◌++◌, Option, Some, None, length, refl, sym, ap, ◌∙◌, subst, arith}
use Rattle.std.specs.Prelude.{◌==◌, ◌&&◌, true, Contains, slice_get, option_and_then}
use Rattle.std.proofs.lemmas.Bool.{and_from, or_left, eq-eqb, eqb-true}
use Rattle.std.proofs.lemmas.Option.{same_Some}
use Rattle.java_core.specs.declared.Ty.{Ty}
use Rattle.java_core.specs.declared.TyBase.{TyBase}
use Rattle.java_core.specs.declared.TyBase.TheVariants.{Int, Boolean, Char, Str, Class}
use Rattle.java_core.specs.Trees.{Exs, Sts}
use Rattle.java_core.specs.Programs.{Plain, PlainLocal, PlainMethod}
use Rattle.java_core.specs.Classes.{same_class, slot_of, is_concrete}
use Rattle.java_core.specs.Makers.{maker_of, maker_slot}
use Rattle.java_core.specs.Types.{a_value, or_nothing, Env, env_of, types_of, class_type, class_of, is_only, is_sub_base, is_subtype, fits, fits_in, signature_of_slot}
use Rattle.java_core.specs.Typing.{IsTyped, IsTypedMethod, TypedArgs, TypedSts, t_local, t_call, t_create, t_no_ex, t_ex_then, t_declare_as, t_act, t_return, t_no_st, t_st_then}
use Rattle.java_core.proofs.Subclasses.{IsAcyclic, subclass-below}
use Rattle.fact_model.specs.InRange.{InRange}
use Rattle.fact_model.specs.InOrder.{InOrder}
use Rattle.fact_model.specs.Flowing.{AreSets}
use Rattle.fact_model.specs.Entries.{IsTable}
use Rattle.fact_model.specs.declared.facts.Facts.{Facts}
use Rattle.fact_model.specs.declared.sets.PointsTo.{PointsTo}
use Rattle.fact_model.specs.declared.sets.Table.{Table}
use Rattle.hier_model.specs.Hierarchies.{Hierarchy, IsHierarchyOf}
use Rattle.hier_rules.specs.First.{first_broken}
use Rattle.flow_rules.specs.declared.items.RowItem.TheVariants as row
use Rattle.flow_rules.specs.Parts.{a_creation, parts_of}
use Rattle.flow_rules.specs.Facts.{IsFactsOf}
use Rattle.rebuild_model.specs.Makes.{AreLocalsFrom, none_passed, one_passed, IsMakeCode, makes}
use Rattle.rebuild_model.specs.Rebuilds.{IsMakeMethod}
use Rattle.rebuild_laws.specs.looks.Known.{KnownOfBoth, sides}
use Rattle.rebuild_laws.proofs.given.Made.{IsMadePart, made_part}
use Rattle.rebuild_laws.proofs.types.Retypes.{from_front, each_retypes}
use Rattle.rebuild_laws.proofs.types.Asked.{retypes, new_class, FindsSlot}
use Rattle.rebuild_laws.proofs.types.Finding.{called_at}
use Rattle.rebuild_laws.proofs.types.Served.{has_slot, access_of, created, object_there}

no_further : (i : ℕ) → i + 0 ≡ i
no_further i = omega arith

one_further : (i j : ℕ) → i + suc j ≡ suc i + j
one_further i j = omega arith

-- the code that makes an object, in a program whose classes are in order
module _ (W : Plain) (acyclic : IsAcyclic W) (h : Env) where
  own_base : (b : TyBase) → is_sub_base W b b ≡ true
  own_base (Class c) = subclass-below W acyclic same_class
  own_base Int = refl
  own_base Boolean = refl
  own_base Char = refl
  own_base Str = refl

  -- what has a type fits it
  own_fits : (u : Ty) → fits W (a_value u) u ≡ true
  own_fits u =
      or_left (is_subtype W u u) (is_only Char (a_value u) && is_only Int (a_value u))
      (and_from (u.dim == u.dim) (is_sub_base W u.base u.base) (eq-eqb u.dim u.dim refl) (own_base u.base))

  local_fits : (i : ℕ) (u : Ty) → slice_get h.locals i ≡ Some u → fits W (or_nothing (slice_get h.locals i)) u ≡ true
  local_fits i u e = subst (λ z. fits W (or_nothing z) u ≡ true) (sym e) (own_fits u)

  -- locals are passed for parameters of their types
  passed : (i n : ℕ) (es : Exs) (us : List Ty) → AreLocalsFrom i n es → length us ≡ n
      → ((j : ℕ) (u : Ty) → slice_get us j ≡ Some u → slice_get h.locals (i + j) ≡ Some u) → TypedArgs W h es us
  passed i n es [] none_passed e at = t_no_ex
  passed i n es (u ∷ us) none_passed e at = absurd (omega (arith, e))
  passed i n es [] (one_passed p) e at = absurd (omega (arith, e))
  passed i n es (u ∷ us) (one_passed {n = m} {es = ds} p) e at =
      t_ex_then t_local (local_fits i u (ap (slice_get h.locals) (sym (no_further i)) ∙ at 0 u refl))
      (passed (suc i) m ds us p (omega (arith, e)) (λ j v q. ap (slice_get h.locals) (sym (one_further i j)) ∙ at (suc j) v q))

  code_typed : (k : ℕ) (x : List ℕ) (n : ℕ) (code : Sts) → IsMakeCode k x n code → slice_get h.locals n ≡ Some (class_type k)
      → h.result ≡ Some (class_type k) → is_concrete W k ≡ true → maker_of W k ≡ None → (j : ℕ) → slot_of W k x ≡ Some j
      → (us : List Ty) (r : Option Ty) → signature_of_slot W j ≡ Some (record { params = us; result = r }) → length us ≡ n
      → ((i : ℕ) (u : Ty) → slice_get us i ≡ Some u → slice_get h.locals i ≡ Some u) → TypedSts W h code
  code_typed k x n code (makes {es = es} given) local result concrete none j found us r sig long at =
      t_st_then (t_declare_as (t_create concrete none) (subst (λ z. fits_in W (a_value (class_type k)) (or_nothing z) ≡ true) (sym local)
      (own_fits (class_type k))))
      (t_st_then (t_act (t_call t_local (called_at W (or_nothing (slice_get h.locals n)) k x j (record { params = us; result = r })
      (ap (λ z. class_of (or_nothing z)) local) found sig)
      (passed zero n es us given long (λ i u q. ap (slice_get h.locals) (from_front i) ∙ at i u q))))
      (t_st_then (t_return t_local result (local_fits n (class_type k) local)) t_no_st))

-- the types of parameters, and of what stands behind them
types_long : (xs : List PlainLocal) → length (types_of xs) ≡ length xs
types_long [] = refl
types_long (x ∷ xs) = ap suc (types_long xs)

in_front : (xs ys : List PlainLocal) (i : ℕ) (u : Ty) → slice_get (types_of xs) i ≡ Some u → slice_get (types_of (xs ++ ys)) i ≡ Some u
in_front [] ys i u e = absurd (cc)
in_front (x ∷ xs) ys zero u e = e
in_front (x ∷ xs) ys (suc i) u e = in_front xs ys i u e

behind : (xs ys : List PlainLocal) → slice_get (types_of (xs ++ ys)) (length xs) ≡ slice_get (types_of ys) 0
behind [] ys = refl
behind (x ∷ xs) ys = behind xs ys

module _ {P : Plain} {F : Facts} {H : Hierarchy} {W : Plain} (K : KnownOfBoth P F H W)
    (typed : IsTyped P) (facts : IsFactsOf P F) (pt : PointsTo) (t : Table)
    (A : InRange F) (O : InOrder F) (S : AreSets F pt) (B : IsTable F t) (table : H.table ≡ t.rows.items) (none : first_broken F pt H ≡ None)
    (hierarchy : IsHierarchyOf F H) where
  open sides K use {places as T, renaming as R}

  module _ (g : ℕ) (x : IsMakeMethod P F H W T g) where
    open x.at use {site, maker}
    open x.is use {was, new, class}

    part : IsMadePart P site
    part = made_part P K.old typed x.number site x.at.stands x.at.object

    row_class : new_class P W R part.operand.row ≡ Some class
    row_class = ap (new_class P W R) part.row_is ∙ x.is.row

    -- the class of the creation's row has objects
    made_class : is_concrete W class ≡ true
    made_class =
        created K typed facts pt t A O S B table none hierarchy part.number part.method part.stands part.operand class row_class
        (object_there K typed facts pt t A O S B table none hierarchy part.number part.method part.stands part.place part.used part.operand
        (maker_slot P site.ty.class.0) (maker_of P site.ty.class.0) part.arguments part.part site.number part.created site.ty part.type
        (eqb-true site.ty.dim 0 x.at.object))

    -- and finds the slot of the constructor
    slot_there : FindsSlot P W R class was.slot maker
    slot_there =
        let there = subst (λ z. Contains (parts_of P part.number part.method)
        (a_creation part.place part.used part.operand (maker_slot P site.ty.class.0) z part.arguments)) x.at.has part.part in
        has_slot K typed facts pt t A O S B table none hierarchy part.operand was.slot maker
        (access_of K typed facts pt t A O S B table none hierarchy part.number part.method part.stands
        (a_creation part.place part.used part.operand (maker_slot P site.ty.class.0) (Some maker) part.arguments) there)
        (ap (option_and_then (λ (k : PlainMethod). k.slot)) was.old_stands ∙ was.of_slot) class row_class

    -- so the body is typed
    pub make_typed : IsTypedMethod W g new
    unfolding IsTypedMethod
    make_typed ys body =
        let p : ℕ → Option ℕ = λ i. R.row_type (row.Param was.slot i) in
        let params : types_of new.params ≡ retypes p was.signature.params = x.is.params ∙ each_retypes p was.signature.params in
        subst (λ z. TypedSts W (env_of g new) z) (same_Some x.is.code ys (sym x.is.new_code ∙ body))
        (code_typed W K.new.acyclic (env_of g new) class (R.method_name maker) (length new.params) x.is.code x.is.makes
        (behind new.params new.locals ∙ ap (λ z. slice_get z 0) x.is.locals) x.is.result made_class (K.rebuilt.makerless class)
        slot_there.number slot_there.found (retypes p was.signature.params) _ (slot_there.type was.signature was.slot_stands)
        (ap length (sym params) ∙ types_long new.params) (λ i u q. in_front new.params new.locals i u (ap (λ z. slice_get z i) params ∙ q)))
