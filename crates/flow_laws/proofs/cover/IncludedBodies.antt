-- All that the bodies of a program do stays in the typed sets of a family that the inclusions of its facts close.
use Rattle.std.proofs.Common.{◌≡◌, ℕ, [], ◌∷◌, ◌++◌, Option, Some, None, refl, sym, ap, ◌∙◌, subst}
use Rattle.std.specs.Prelude.{true, false, Contains}
use Rattle.kaba_base.specs.declared.Place.{Place}
use Rattle.java_core.specs.Trees.{Tag, Ex, this, local, static_field, Target, to_local, to_static, to_own, to_field, to_element, no_target, St, Sts, IfArms, declare, block, assign, act, print, choose, loop, return, break, continue, no_st, st_then, no_other, otherwise, arm}
use Rattle.java_meaning.specs.Moment.{bound, result_of, set_static}
use Rattle.flow_rules.specs.declared.items.ObjectType.{ObjectType}
use Rattle.flow_rules.specs.declared.items.Operand.{Operand}
use Rattle.flow_rules.specs.declared.items.PointItem.TheVariants as point
use Rattle.flow_rules.specs.Operands.{type_in}
use Rattle.flow_rules.specs.Labels.{label_sts}
use Rattle.flow_rules.specs.Parts.{a_set, a_store, an_element_store, a_return, is_accessed, parts_if, parts_set, parts_return, parts_assign, parts_st, parts_arms, parts_body, parts_of}
use Rattle.flow_rules.specs.Lists.{point_at}
use Rattle.flow_rules.specs.Facts.{numbers}
use Rattle.flow_laws.specs.cover.Families.{Sub, Included, Sets as SetsTo, Assigns, included}
use Rattle.java_meaning.specs.EachStatement.{OfOption, InSt, InSts, InArms}
use Rattle.flow_laws.specs.cover.Covers.{at_point}
use Rattle.flow_laws.proofs.cover.Kinded.{IsPoint, IsKindedReturn, IsKindedPart}
use Rattle.flow_laws.proofs.cover.SeenOperands.{at_seen, part_at, plain}
use Rattle.flow_laws.proofs.cover.Each.{left, right, here}
use Rattle.flow_laws.proofs.cover.Flows.{when_object, when_is, value_sites, is_at, HasTypes, value_typed, operand_goes}
use Rattle.flow_laws.proofs.cover.Calls.{result_is, result_object}
use Rattle.flow_laws.proofs.cover.Included.{ClosedBody, watch, sub_sites}
use Rattle.flow_laws.proofs.cover.Included as sets
use Rattle.flow_laws.proofs.cover.IncludedExpressions as expressions
use Rattle.flow_laws.proofs.cover.Walked.{walked}

module _ (B : ClosedBody) where
  open B use {program as P, facts as F, sets as S, closed, are_facts as facts, kinded, number as m, method as k, stands}
  open watch B use {at, lang as L, Made, sites, spots as V}
  open walked P m k use {env as g, operand as seen, Stands, tree, tree_sts as sts, tree_if as if_there}

  -- a value that is put in a local or a static field, and one that is given back
  set_kind : (v o : Operand) → Contains (parts_of P m k) (a_set v o) → (t : ObjectType) → o.ty ≡ Some t → IsPoint P F v
  unfolding IsKindedPart
  set_kind v o c = kinded.parts m k stands (a_set v o) c

  return_kind : (o : Operand) → Contains (parts_of P m k) (a_return o) → (t : ObjectType) → o.ty ≡ Some t → IsKindedReturn P F m k
  unfolding IsKindedPart
  return_kind o c = kinded.parts m k stands (a_return o) c

  set_goes : (v e : Ex) → Contains (parts_of P m k) (a_set (at v) (at e)) → HasTypes P F S (at e) → (s : ℕ) → value_sites P F S (at e) s ≡ true
      → when_object (type_in P m k v) (at_point P F S (point_at (numbers P) (seen v))) s ≡ true
  set_goes v e c h s w =
      let t = value_typed P F S (at e) s h w in
      let q = set_kind (at v) (at e) c t.0 t.1 in
      when_is (type_in P m k v) q.type (at_point P F S (point_at (numbers P) (seen v))) s (ap (λ z. z.ty) (sym (at_seen P m k stands v)) ∙ q.typed)
      (is_at P F S (point_at (numbers P) (seen v)) q.number s (ap (λ z. point_at (numbers P) z) (sym (at_seen P m k stands v)) ∙ q.point)
      (operand_goes P F S closed facts m k stands (a_set (at v) (at e)) c (at e) (point_at (numbers P) (at v)) q.number s (λ x d. d) (λ x d. d) q.point w))

  set_part : (v e : Ex) → Contains (parts_of P m k) (a_set (seen v) (seen e)) → Contains (parts_of P m k) (a_set (at v) (at e))
  set_part v e c = part_at P m k stands (λ o z. a_set o z) v e c

  sets_local : (t : Tag) (i : ℕ) (e : Ex) → Stands (tree false e ++ a_set (seen (local t i)) (seen e) ∷ []) → Included L Made V g e
      × Sub (V.value m e) (V.spot (bound m i))
  sets_local t i e st = (
    expressions.included B false e (left (tree false e) _ st),
    sub_sites P (value_sites P F S (at e)) (sites (bound m i))
        (λ s h. subst (λ z. when_object z (at_point P F S ((numbers P).point (point.Local m i))) s ≡ true) (expressions.local_seen B t i)
        (set_goes (local t i) e (set_part (local t i) e (here _ [] (right (tree false e) _ st))) (sets.has_types B false e (left (tree false e) _ st)) s h)),
  )

  sets_static : (t : Tag) (f : ℕ) (e : Ex) → Stands (tree false e ++ a_set (seen (static_field t f)) (seen e) ∷ []) → Included L Made V g e
      × Sub (V.value m e) (V.spot (set_static f))
  sets_static t f e st = (
    expressions.included B false e (left (tree false e) _ st),
    sub_sites P (value_sites P F S (at e)) (sites (set_static f))
        (λ s h. subst (λ z. when_object z (at_point P F S ((numbers P).point (point.Static f))) s ≡ true) (expressions.static_seen B t f)
        (set_goes (static_field t f) e (set_part (static_field t f) e (here _ [] (right (tree false e) _ st)))
        (sets.has_types B false e (left (tree false e) _ st)) s h)),
  )

  sets_initial : (t : Tag) (i : ℕ) (e : Option Ex) → Stands (parts_set P (type_in P m k) m k (local t i) e) → SetsTo L Made V g e (bound m i)
  sets_initial t i None st = tt
  sets_initial t i (Some e) st = sets_local t i e st

  sets_result : (e : Option Ex) → Stands (parts_return P (type_in P m k) m k e) → SetsTo L Made V g e (result_of m)
  sets_result None st = tt
  sets_result (Some e) st =
      let c = part_at P m k stands (λ o z. a_return o) e e (here _ [] (right (tree false e) _ st)) in (
        expressions.included B false e (left (tree false e) _ st),
        sub_sites P (value_sites P F S (at e)) (sites (result_of m)) (λ s w.
            let t = value_typed P F S (at e) s (sets.has_types B false e (left (tree false e) _ st)) w in
            let q = return_kind (at e) c t.0 t.1 in
            when_is (result_object P F S m) q.type (at_point P F S ((numbers P).point (point.Result m))) s (result_is P F S m k stands ∙ q.typed)
            (is_at P F S ((numbers P).point (point.Result m)) q.number s q.point
            (operand_goes P F S closed facts m k stands (a_return (at e)) c (at e) ((numbers P).point (point.Result m)) q.number s (λ x d. d)
            (λ x d. d) q.point w))),
      )

  included_if : (e : Option Ex) → Stands (parts_if P (type_in P m k) m k e) → OfOption (Included L Made V g) e
  included_if None st = tt
  included_if (Some e) st = expressions.included B false e st

  assigns : (p : Place) (b : Target) (d : Ex) → Stands (parts_assign P (type_in P m k) m k p b d) → Assigns L Made V g b d
  assigns p (to_local t i) d st = sets_local t i d st
  assigns p (to_static t f) d st = sets_static t f d st
  assigns p (to_own t f) d st = (
    expressions.included B true d (left (tree true d) _ st),
    expressions.this_sub B t,
    sets.writes B p (this t) d (Some f) (λ j e. (
      expressions.one_some B (λ j. Contains (parts_of P m k) (a_store p (at (this t)) (Some j) (at d))) f j e
          (expressions.own_store B t p f d (here _ [] (right (tree true d) _ st))),
      (λ b. sets.plain_used B (at (this t)) (plain P m k stands (this t) refl)),
    )) (sets.is_used B d (left (tree true d) _ st)),
  )
  assigns p (to_field t e x) d st =
      let se = left (tree (is_accessed e) e) (tree true d) (left (tree (is_accessed e) e ++ tree true d) _ st) in
      let sd = right (tree (is_accessed e) e) (tree true d) (left (tree (is_accessed e) e ++ tree true d) _ st) in (
        expressions.included B (is_accessed e) e se,
        expressions.included B true d sd,
        sets.writes B p e d (L.field g e x) (λ j ej. (
          part_at P m k stands (λ o z. a_store p o (Some j) z) e d
              (subst (λ z. Contains (parts_of P m k) (a_store p (seen e) z (seen d))) (sets.field_seen B e x
              ∙ ej) (here _ [] (right (tree (is_accessed e) e ++ tree true d) _ st))),
          (λ b. sets.base_used B e se b),
        )) (sets.is_used B d sd),
      )
  assigns p (to_element t e i) d st =
      let first3 = left (tree true e ++ tree false i ++ tree true d) _ st in
      let first2 = left (tree true e ++ tree false i) (tree true d) first3 in
      let se = left (tree true e) (tree false i) first2 in
      let sd = right (tree true e ++ tree false i) (tree true d) first3 in (
        expressions.included B true e se,
        expressions.included B false i (right (tree true e) (tree false i) first2),
        expressions.included B true d sd,
        sets.writes_element B p e d (part_at P m k stands (λ o z. an_element_store p o z) e d
            (here _ [] (right (tree true e ++ tree false i ++ tree true d) _ st))) (sets.is_used B e se) (sets.is_used B d sd),
      )
  assigns p no_target d st = tt

  mutual
    included_st : (x : St) → Stands (parts_st P (type_in P m k) m k x) → InSt (included L Made V g) x
    included_st (declare t i e) st = sets_initial t i e st
    included_st (block t xs) st = included_sts xs st
    included_st (assign t b e) st = assigns t.place b e st
    included_st (act t e) st = expressions.included B false e st
    included_st (print t n e) st = included_if e st
    included_st (choose t xs) st = included_arms xs st
    included_st (loop t is_while first test step body) st =
        let first3 = left (sts first ++ if_there test ++ sts step) (sts body) st in
        let first2 = left (sts first ++ if_there test) (sts step) first3 in (
          included_sts first (left (sts first) (if_there test) first2),
          included_if test (right (sts first) (if_there test) first2),
          included_sts step (right (sts first ++ if_there test) (sts step) first3),
          included_sts body (right (sts first ++ if_there test ++ sts step) (sts body) st),
        )
    included_st (return t e) st = sets_result e st
    included_st (break t) st = tt
    included_st (continue t) st = tt

    included_sts : (xs : Sts) → Stands (sts xs) → InSts (included L Made V g) xs
    included_sts no_st st = tt
    included_sts (st_then x xs) st = (
      included_st x (left (parts_st P (type_in P m k) m k x) (sts xs) st),
      included_sts xs (right (parts_st P (type_in P m k) m k x) (sts xs) st),
    )

    included_arms : (xs : IfArms) → Stands (parts_arms P (type_in P m k) m k xs) → InArms (included L Made V g) xs
    included_arms no_other st = tt
    included_arms (otherwise xs) st = included_sts xs st
    included_arms (arm e xs more) st =
        let first2 = left (tree false e ++ sts xs) (parts_arms P (type_in P m k) m k more) st in (
          expressions.included B false e (left (tree false e) (sts xs) first2),
          included_sts xs (right (tree false e) (sts xs) first2),
          included_arms more (right (tree false e ++ sts xs) (parts_arms P (type_in P m k) m k more) st),
        )

  pub included_code : (xs : Sts) → k.body ≡ Some xs → InSts (included L Made V g) (label_sts 0 xs)
  unfolding parts_of
  included_code xs e = included_sts (label_sts 0 xs) (λ p c. subst (λ z. Contains (parts_body P (type_in P m k) m k z) p) (sym e) c)
