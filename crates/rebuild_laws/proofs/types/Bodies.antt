-- Each body of a program that rebuilds a typed one is typed.
use Rattle.std.proofs.Common.{◌≡◌, ℕ, zero, suc, ◌+◌, List, [], ◌∷◌, ◌++◌, Option, Some, None, length, refl, sym, ap, ◌∙◌, subst, arith, ⊎_elim}
use Rattle.std.specs.Prelude.{true, false, slice_get}
use Rattle.std.specs.Option.{option_map, is_some}
use Rattle.std.proofs.lemmas.Bool.{false≢true, cases_Bool}
use Rattle.std.proofs.lemmas.Option.{same_Some}
use Rattle.java_core.specs.declared.Ty.{Ty}
use Rattle.java_core.specs.Trees.{Sts}
use Rattle.java_core.specs.Programs.{Plain, PlainLocal, PlainMethod}
use Rattle.java_core.specs.Types.{Env, types_of, env_of}
use Rattle.java_core.specs.Typing.{IsTyped, IsTypedMethod, TypedSts, t_number, t_truth, t_null, t_cast, t_return, t_no_st, t_st_then}
use Rattle.fact_model.specs.Items.{row_this}
use Rattle.fact_model.specs.InRange.{InRange}
use Rattle.fact_model.specs.InOrder.{InOrder}
use Rattle.fact_model.specs.Flowing.{AreSets}
use Rattle.fact_model.specs.Entries.{IsTable}
use Rattle.fact_model.specs.declared.facts.Facts.{Facts}
use Rattle.fact_model.specs.declared.sets.PointsTo.{PointsTo}
use Rattle.fact_model.specs.declared.sets.Table.{Table}
use Rattle.hier_model.specs.Hierarchies.{Hierarchy, IsHierarchyOf, place_of_row, node}
use Rattle.hier_rules.specs.First.{first_broken}
use Rattle.flow_rules.specs.declared.items.RowItem.TheVariants as row
use Rattle.flow_rules.specs.declared.items.ColumnItem.TheVariants as column
use Rattle.flow_rules.specs.Ordered.{each}
use Rattle.flow_rules.specs.Operands.{variable_row}
use Rattle.flow_rules.specs.Facts.{numbers, this_of_row, IsFactsOf}
use Rattle.flow_laws.specs.cover.Slotted.{HaveSlots}
use Rattle.flow_laws.proofs.cover.HasNumbers.{this_row}
use Rattle.flow_laws.proofs.order.Owners.{row_there}
use Rattle.rebuild_model.specs.Renaming.{retyped, retyped_if}
use Rattle.rebuild_model.specs.Matches.{MatchesSts}
use Rattle.rebuild_model.specs.Members.{new_types, HasTypes, HasCode, StandsAt, IsBody, IsHead, IsFiller, IsStaticMethodOf}
use Rattle.rebuild_model.specs.Rebuilds.{IsMakeMethod}
use Rattle.rebuild_model.specs.Written.{zero_int, no_truth, zero_char, no_object, IsFilling, fills_nothing, fills, IsWritten}
use Rattle.rebuild_laws.specs.looks.Known.{KnownOfBoth, sides}
use Rattle.rebuild_laws.proofs.types.Asked.{retypes, SeesNew}
use Rattle.flow_laws.proofs.cover.TypedParts.{TypedBody}
use Rattle.rebuild_laws.proofs.types.Walk.{CopiedBody}
use Rattle.rebuild_laws.proofs.types.Statements.{again_body}
use Rattle.rebuild_laws.proofs.types.Retypes.{each_retypes, variables_after}
use Rattle.rebuild_laws.proofs.types.Served.{row_class_is, renewed, served}
use Rattle.rebuild_laws.proofs.types.Making.{make_typed}

get_retyped : (p : ℕ → Option ℕ) (ts : List Ty) (i : ℕ) → slice_get (retypes p ts) i ≡ retyped_if (p i) (slice_get ts i)
get_retyped p [] i = refl
get_retyped p (t ∷ ts) zero = refl
get_retyped p (t ∷ ts) (suc i) = get_retyped (λ i. p (suc i)) ts i

types_join : (xs ys : List PlainLocal) → types_of (xs ++ ys) ≡ types_of xs ++ types_of ys
types_join [] ys = refl
types_join (x ∷ xs) ys = ap (λ z. x.ty ∷ z) (types_join xs ys)

each_join : (p : ℕ → Option ℕ) (n : ℕ) (xs ys : List PlainLocal)
    → each (λ i v. retyped (p i) v.ty ∷ []) n xs ++ each (λ i v. retyped (p i) v.ty ∷ []) (n + length xs) ys ≡ each
    (λ i v. retyped (p i) v.ty ∷ []) n (xs ++ ys)
each_join p n [] ys = ap (λ z. each (λ i v. retyped (p i) v.ty ∷ []) z ys) (no_more n)
  where
    no_more : (n : ℕ) → n + 0 ≡ n
    no_more n = omega arith
each_join p n (x ∷ xs) ys =
    ap (λ z. retyped (p n) x.ty ∷ (each (λ i v. retyped (p i) v.ty ∷ []) (n + 1) xs ++ each (λ i v. retyped (p i) v.ty ∷ []) z ys))
    (one_more n (length xs))
    ∙ ap (λ z. retyped (p n) x.ty ∷ z) (each_join p (n + 1) xs ys)
  where
    one_more : (n m : ℕ) → n + suc m ≡ (n + 1) + m
    one_more n m = omega arith

from_nothing : (n : ℕ) → n ≡ 0 + n
from_nothing n = omega arith

-- what fills in for a body is typed
filled_typed : (W : Plain) (g : Env) (r : Option Ty) (xs : Sts) → IsFilling r xs → g.result ≡ r → TypedSts W g xs
filled_typed W g r xs fills_nothing e = t_no_st
filled_typed W g r xs (fills {e = d} zero_int) e = t_st_then (t_return t_number e refl) t_no_st
filled_typed W g r xs (fills {e = d} no_truth) e = t_st_then (t_return t_truth e refl) t_no_st
filled_typed W g r xs (fills {e = d} zero_char) e = t_st_then (t_return (t_cast t_number refl) e refl) t_no_st
filled_typed W g r xs (fills {e = d} (no_object f)) e = t_st_then (t_return t_null e f) t_no_st

module _ {P : Plain} {F : Facts} {H : Hierarchy} {W : Plain} (K : KnownOfBoth P F H W)
    (typed : IsTyped P) (facts : IsFactsOf P F) (pt : PointsTo) (t : Table)
    (A : InRange F) (O : InOrder F) (S : AreSets F pt) (B : IsTable F t) (table : H.table ≡ t.rows.items) (none : first_broken F pt H ≡ None)
    (hierarchy : IsHierarchyOf F H) where
  open sides K use {places as T, renaming as R}

  pub have_slots : HaveSlots P
  unfolding HaveSlots
  have_slots m k e i = (K.old.methods m k e).slotted i

  -- the variables of a copy
  pub copied_locals : (m : ℕ) (k new : PlainMethod) → HasTypes R m k new → (code : HasCode P W R m k new) → (i : ℕ)
      → slice_get (types_of (new.params ++ new.locals)) i ≡ retyped_if (R.row_type (variable_row m k i)) (slice_get (env_of m k).locals i)
  copied_locals m k new types code i =
      let p : ℕ → Option ℕ = λ i. R.row_type (variable_row m k i) in
      ap (λ z. slice_get z i)
      (types_join new.params new.locals ∙ ap (λ z. z ++ types_of new.locals) types.params ∙ ap (λ z. new_types R m k 0 k.params ++ z) code.locals
      ∙ ap (λ z. new_types R m k 0 k.params ++ new_types R m k z k.locals) (from_nothing (length k.params)) ∙ each_join p 0 k.params k.locals
      ∙ variables_after p 0 (k.params ++ k.locals) ∙ each_retypes p (types_of (k.params ++ k.locals)))
      ∙ get_retyped p (types_of (k.params ++ k.locals)) i

  -- a copy of the body of an old method is typed
  copy_typed : (m : ℕ) (k new : PlainMethod) (g : ℕ) → slice_get P.methods m ≡ Some k → HasTypes R m k new
      → HasCode P W R m k new → (k.is_static ≡ false → R.row_type (row.This m) ≡ Some new.owner)
      → (ys : Sts) → new.body ≡ Some ys → TypedSts W (env_of g new) ys
  unfolding IsTypedMethod
  copy_typed m k new g stands types code self ys e =
      let written : code.written ≡ ys = same_Some code.written ys (sym code.new_code ∙ e) in
      let sees : SeesNew P W R m k (env_of g new) = record { self = self; locals = copied_locals m k new types code; result = types.result } in
      let there : is_some k.body ≡ true = ap is_some code.old_code in
      let body : TypedBody =
      record { program = P; facts = F; formed = K.old; slots = have_slots; are_facts = facts; number = m; method = k; stands = stands; bodied = there } in
      let serves = served K typed facts pt t A O S B table none hierarchy m k stands new.owner self in
      let copied : CopiedBody = record { body = body; written = W; renaming = R; renewed = renewed K; env = env_of g new; sees = sees; serves = serves } in
      again_body copied code.code ys code.old_code (typed.methods m k stands code.code code.old_code)
      ((K.old.methods m k stands).code code.code code.old_code) (subst (λ z. MatchesSts P W R (env_of m k) code.code z) written code.matches)

  -- `this` has the class where the body stands
  pub this_class : (m : ℕ) (k : PlainMethod) (n : ℕ) → slice_get P.methods m ≡ Some k → is_some k.body ≡ true → k.is_static ≡ false
      → StandsAt P F H W T (column.Def m) n → R.row_type (row.This m) ≡ Some (T.type_of n)
  this_class m k n e b s st =
      let r = this_row P m k e b s in
      let x = row_there P K.old typed F facts (row.This m) r.0 r.1 in
      let this : row_this F r.0 ≡ Some (record { 0 = st.number }) = ap (λ i. i.this_of) x.info ∙ ap (this_of_row (numbers P)) x.item
      ∙ ap (option_map (λ c. record { 0 = c })) st.numbered in
      let place = hierarchy.placed.these r.0 (record { 0 = st.number }) this in
      let same : node (place_of_row H r.0) ≡ st.place = same_Some (node (place_of_row H r.0)) st.place (sym place ∙ st.placed) in
      row_class_is K (row.This m) r.0 r.1 ∙ ap (λ z. Some (T.type_of z)) (ap (λ z. z.0) same ∙ st.at)

  static_typed : (g : ℕ) (new : PlainMethod) → slice_get W.methods g ≡ Some new → new.is_static ≡ true → IsTypedMethod W g new
  unfolding IsTypedMethod
  static_typed g new e s ys body = ⊎_elim (λ x. copied_typed x.0 x.1) (λ x. made_typed x) (K.rebuilt.statics.methods g new e s)
    where
      copied_typed : (m : ℕ) → IsStaticMethodOf P F H W T m g → TypedSts W (env_of g new) ys
      copied_typed m x =
          let y = x.same in
          let same : y.new ≡ new = same_Some y.new new (sym y.new_stands ∙ e) in
          copy_typed m y.old new g y.old_stands (subst (λ z. HasTypes R m y.old z) same x.types) (subst (λ z. HasCode P W R m y.old z) same x.code)
          (λ i. absurd (false≢true (sym i ∙ y.old_static))) ys body

      made_typed : IsMakeMethod P F H W T g → TypedSts W (env_of g new) ys
      made_typed x =
          let same : x.is.new ≡ new = same_Some x.is.new new (sym x.is.stands ∙ e) in
          subst (λ z. IsTypedMethod W g z) same (make_typed K typed facts pt t A O S B table none hierarchy g x) ys body

  body_typed : (g m : ℕ) (new : PlainMethod) → IsBody P F H W T m new → IsTypedMethod W g new
  unfolding IsTypedMethod
  body_typed g m new b ys body =
      copy_typed m b.old new g b.old_stands b.types b.code
      (λ i. this_class m b.old b.at.node b.old_stands (ap is_some b.code.old_code) i b.at.stands ∙ ap Some (sym b.at.owner_is)) ys body

  head_typed : (g n m : ℕ) (new : PlainMethod) → IsHead P F H W T n m new → IsTypedMethod W g new
  unfolding IsTypedMethod
  head_typed g n m new b ys body = absurd (let z = sym b.bodyless ∙ body in cc)

  module _ (written : IsWritten P F H W K.rebuilt.places) where
    filler_typed : (g n m : ℕ) (new : PlainMethod) → slice_get W.methods g ≡ Some new → IsFiller P F H W T n m new → IsTypedMethod W g new
    unfolding IsTypedMethod
    filler_typed g n m new e b ys body =
        let x = written.fillers g n m new e b in
        filled_typed W (env_of g new) new.result ys (subst (λ z. IsFilling new.result z) (same_Some x.code ys (sym x.is ∙ body)) x.fills) refl

    pub methods_typed : (g : ℕ) (new : PlainMethod) → slice_get W.methods g ≡ Some new → IsTypedMethod W g new
    methods_typed g new e = ⊎_elim (λ s. static_typed g new e s)
        (λ i. ⊎_elim (λ b. body_typed g b.0 new b.1) (λ x. ⊎_elim (λ h. head_typed g x.0 x.1 new h) (λ f. filler_typed g x.0 x.1 new e f) x.2)
        (K.rebuilt.members.methods g new e i))
        (cases_Bool new.is_static)
