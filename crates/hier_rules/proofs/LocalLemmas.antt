-- What a join leaves as it was: all that stands above a node which is at or below none of those that were joined.
use Rattle.std.proofs.Common.{◌≡◌, ⊎_elim, ℕ, ◌<◌, ◌&&◌, ◌||◌, ◌==◌, not, Bool, true, false, cond, List, [], ◌∷◌, length, get_or, Option, Some, None, refl, sym, ap, ◌∙◌, subst, eq-eqb, zero, suc, All, arith, inl, inr}
use Rattle.std.specs.Option.{option_map, option_and_then}
use Rattle.std.proofs.lemmas.Bool.{cases_Bool, false≢true, and_parts, and_from, or_cases, or_left, or_right}
use Rattle.kaba_base.specs.declared.NodeId.{NodeId}
use Rattle.kaba_base.proofs.TestLemmas.{same_truth, refuted}
use Rattle.kaba_bits.specs.Sets.{bit, row, or_else, first_below, when}
use Rattle.kaba_bits.proofs.SetLemmas.{bit-below}
use Rattle.kaba_bits.proofs.FirstLemmas.{first_below_None, first_below_clear, or_else-None, when-None}
use Rattle.kaba_order.specs.Orders.{differ, is_le, is_live, is_among, is_below_some, is_above_some, merged_to, stays, IsLeastMerged, IsPartialOrder}
use Rattle.kaba_order.proofs.MergeLemmas.{has_any_some, stays-merged}
use Rattle.kaba_order.proofs.MergeSteps.{has_any_among}
use Rattle.fact_model.specs.Items.{site_at, site_row, site_class, row_class, column_class, column_kind}
use Rattle.fact_model.specs.Classes.{below, finds}
use Rattle.fact_model.specs.declared.facts.Facts.{Facts}
use Rattle.fact_model.specs.declared.sets.PointsTo.{PointsTo}
use Rattle.hier_model.specs.Hierarchies.{Hierarchy, IsHierarchyOf, node, place_of_column, place_of_row, is_offered, any_below, is_above as stands_over, is_of_class, has_class_member, has_object, is_class_node}
use Rattle.hier_model.proofs.AnyLemmas.{any_below_some, any_below_has}
use Rattle.hier_rules.specs.declared.broken.Rule.TheVariants.{B4, B5, B7, B8}
use Rattle.hier_rules.specs.Asked.{is_super, meets, is_called, slots_of, is_other_body}
use Rattle.hier_rules.specs.Instances.{of_both, of_row, of_column}
use Rattle.hier_rules.specs.Obligations.{is_below, is_strictly_above, column_le, is_above, place_of_site, is_nearer, has_nearer, wrong_body, wrong_need, first_wrong_need, is_between, has_between, wrong_super, first_wrong_super, first_unoffered, first_untied, first_two_bodies, row_le, wrong_outcome, first_wrong_outcome, is_class_above}
use Rattle.hier_rules.specs.Names.{first_misnamed, clash, is_confused, confused, first_unwritable, first_taken_type, first_taken_field, first_confused}
use Rattle.hier_rules.specs.First.{first_changed_run, MeetsEdit}
use Rattle.hier_rules.specs.After.{AreKeptOutside}
use Rattle.hier_rules.specs.Chains.{first_unchained_at, AreChained}
use Rattle.hier_rules.proofs.ChainLemmas.{says, said, chained, chain_of}
use Rattle.hier_rules.proofs.NeedLemmas.{none_anywhere}
use Rattle.hier_rules.proofs.ClashLemmas.{clash_same}

-- above the nodes that are at or below no root, all is as it was
pub record IsLocal (roots : List NodeId) (H K : Hierarchy) : Type 0 where
  pub le : (a b : ℕ) → is_live K.order a ≡ true → is_below_some K.order roots a ≡ false → is_le K.order a b ≡ is_le H.order a b
  pub stood : (a c : ℕ) (p : NodeId) → is_live K.order a ≡ true → is_below_some K.order roots a ≡ false → place_of_column K c ≡ Some p
      → is_le K.order a p.0 ≡ true → place_of_column H c ≡ Some p
  pub stands : (a c : ℕ) (p : NodeId) → is_live K.order a ≡ true → is_below_some K.order roots a ≡ false → place_of_column H c ≡ Some p
      → is_le K.order a p.0 ≡ true → place_of_column K c ≡ Some p
  pub rows : (r : ℕ) → is_live K.order (place_of_row K r) ≡ true → is_below_some K.order roots (place_of_row K r) ≡ false
      → place_of_row H r ≡ place_of_row K r
  pub over : (a t : ℕ) → is_live K.order a ≡ true → is_below_some K.order roots a ≡ false
      → is_le K.order a (place_of_row K t) ≡ is_le H.order a (place_of_row H t)

none_if : {B : Type 0} (t u : Bool) (v w : B) → (t ≡ true → u ≡ true) → when u w ≡ None → when t v ≡ None
none_if true u v w f h = absurd (false≢true (sym (when-None u w h) ∙ f refl))
none_if false u v w f h = refl

not_more : (x y : Bool) → (y ≡ true → x ≡ true) → not x ≡ true → not y ≡ true
not_more x true f h = refuted x h (f refl)
not_more x false f h = refl

pub or_more : (x y u v : Bool) → (x ≡ true → u ≡ true) → (y ≡ true → v ≡ true) → (x || y) ≡ true → (u || v) ≡ true
or_more x y u v f g h = ⊎_elim (λ a. or_left u v (f a)) (λ b. or_right u v (g b)) (or_cases x y h)

pub any_rest : (p q : ℕ → Bool) (n : ℕ) → ((k : ℕ) → p k ≡ true → q k ≡ true) → any_below n p ≡ true → any_below n q ≡ true
any_rest p q n f h = let k = any_below_some p n h in any_below_has q n k.0 k.1 (f k.0 k.2)

or_false : (x : Bool) → (x || false) ≡ x
or_false true = refl
or_false false = refl

module _ (F : Facts) (H K : Hierarchy) (fit : IsHierarchyOf F K) (roots : List NodeId) (L : IsLocal roots H K) where
  abbrev C : ℕ
  C = length F.columns.items

  module _ (a : ℕ) (live : is_live K.order a ≡ true) (out : is_below_some K.order roots a ≡ false) where
    up : (p : ℕ) → is_le K.order a p ≡ true → is_below_some K.order roots p ≡ false
    up p h =
        ⊎_elim
        (λ t.
        let s = has_any_some (row K.order.le p) roots t in
        absurd (false≢true (sym out ∙ has_any_among (row K.order.le a) roots s.0 s.1 (fit.sized.order.transitive a p s.0 h s.2))))
        (λ f. f)
        (cases_Bool (is_below_some K.order roots p))

    offered_before : (c : ℕ) → is_offered K a c ≡ true → is_offered H a c ≡ true
    offered_before c h = at (place_of_column K c) refl h
      where
        at : (o : Option NodeId) → place_of_column K c ≡ o → stands_over K.order a o ≡ true → is_offered H a c ≡ true
        at None e k = absurd (false≢true k)
        at (Some p) e k = ap (stands_over H.order a) (L.stood a c p live out e k) ∙ (sym (L.le a p.0 live out) ∙ k)

    offered_still : (c : ℕ) → is_offered H a c ≡ true → is_offered K a c ≡ true
    offered_still c h = at (place_of_column H c) refl h
      where
        at : (o : Option NodeId) → place_of_column H c ≡ o → stands_over H.order a o ≡ true → is_offered K a c ≡ true
        at None e k = absurd (false≢true k)
        at (Some p) e k =
            let j : is_le K.order a p.0 ≡ true = L.le a p.0 live out ∙ k in
            ap (stands_over K.order a) (L.stands a c p live out e j) ∙ j

    column_before : (e d : ℕ) → is_offered K a e ≡ true → column_le K e d ≡ true → column_le H e d ≡ true
    column_before e d k h = at (place_of_column K e) (place_of_column K d) refl refl k h
      where
        at : (o u : Option NodeId) → place_of_column K e ≡ o → place_of_column K d ≡ u → stands_over K.order a o ≡ true → is_below K.order o u ≡ true
            → column_le H e d ≡ true
        at None u eo eu k h = absurd (false≢true k)
        at (Some p) None eo eu k h = absurd (false≢true h)
        at (Some p) (Some q) eo eu k h =
            let lives = fit.placed.columns e p eo in
            let above = up p.0 k in
            let x = L.stood a e p live out eo k in
            let y = L.stood p.0 d q lives above eu h in
            (λ i. is_below H.order (x i) (y i)) ∙ (sym (L.le p.0 q.0 lives above) ∙ h)

    nearer_before : (d : ℕ) → has_nearer F K a d ≡ true → has_nearer F H a d ≡ true
    nearer_before d h = any_rest (is_nearer F K a d) (is_nearer F H a d) C (λ e t.
        let x = and_parts (is_other_body F d e && is_offered K a e) (column_le K e d) t in
        let y = and_parts (is_other_body F d e) (is_offered K a e) x.0 in
        and_from (is_other_body F d e && is_offered H a e) (column_le H e d) (and_from (is_other_body F d e) (is_offered H a e) y.0 (offered_before e y.1))
        (column_before e d y.1 x.1)) h

    above_before : (c : ℕ) → is_above K a c ≡ true → (is_above H a c ≡ true) × (is_offered K a c ≡ true)
    above_before c h = at (place_of_column K c) refl h
      where
        at : (o : Option NodeId) → place_of_column K c ≡ o → is_strictly_above K.order a o ≡ true → (is_above H a c ≡ true) × (is_offered K a c ≡ true)
        at None e k = absurd (false≢true k)
        at (Some p) e k =
            let q = and_parts (is_le K.order a p.0) (not (a == p.0)) k in (
              ap (is_strictly_above H.order a) (L.stood a c p live out e q.0)
                  ∙ and_from (is_le H.order a p.0) (not (a == p.0)) (sym (L.le a p.0 live out) ∙ q.0) q.1,
              ap (stands_over K.order a) e ∙ q.0,
            )

    above_still : (c : ℕ) → is_above H a c ≡ true → is_above K a c ≡ true
    above_still c h = at (place_of_column H c) refl h
      where
        at : (o : Option NodeId) → place_of_column H c ≡ o → is_strictly_above H.order a o ≡ true → is_above K a c ≡ true
        at None e k = absurd (false≢true k)
        at (Some p) e k =
            let q = and_parts (is_le H.order a p.0) (not (a == p.0)) k in
            let j : is_le K.order a p.0 ≡ true = L.le a p.0 live out ∙ q.0 in
            ap (is_strictly_above K.order a) (L.stands a c p live out e j) ∙ and_from (is_le K.order a p.0) (not (a == p.0)) j q.1

    confused_none : K.members ≡ H.members → (d : ℕ) → confused F H a d ≡ None → confused F K a d ≡ None
    confused_none members d h =
        none_if (is_confused F K a d) (is_confused F H a d) (of_column B8 a d) (of_column B8 a d) (λ t.
        let old : ℕ → Bool = λ c. is_offered H a c && clash F H c d in
        let new : ℕ → Bool = λ c. is_offered K a c && clash F K c d in
        let x = and_parts (is_offered K a d) (any_below d new) t in
        and_from (is_offered H a d) (any_below d old) (offered_before d x.0)
        (any_rest new old d (λ c k.
        let y = and_parts (is_offered K a c) (clash F K c d) k in
        and_from (is_offered H a c) (clash F H c d) (offered_before c y.0) (sym (clash_same F H K members c d) ∙ y.1)) x.1)) h

    pub class_before : is_class_node F K a ≡ true → is_class_node F H a ≡ true
    class_before h =
        or_more (has_class_member F K a) (has_object F K a) (has_class_member F H a) (has_object F H a)
        (any_rest (λ c. is_of_class (column_kind F c) && is_offered K a c) (λ c. is_of_class (column_kind F c) && is_offered H a c) C (λ c t.
        let x = and_parts (is_of_class (column_kind F c)) (is_offered K a c) t in
        and_from (is_of_class (column_kind F c)) (is_offered H a c) x.0 (offered_before c x.1)))
        (any_rest (λ s. ((site_at F s).dim == 0) && is_le K.order a (place_of_site F K s))
        (λ s. ((site_at F s).dim == 0) && is_le H.order a (place_of_site F H s)) (length F.sites.items) (λ s t.
        let x = and_parts ((site_at F s).dim == 0) (is_le K.order a (place_of_site F K s)) t in
        and_from ((site_at F s).dim == 0) (is_le H.order a (place_of_site F H s)) x.0 (sym (L.over a (site_row F s) live out) ∙ x.1)))
        h

  -- what was chained stays so
  module _ (a : ℕ) (live : is_live K.order a ≡ true) (out : is_below_some K.order roots a ≡ false) where
    says_before : (x : ℕ) → is_class_above F K a x ≡ true → (is_class_above F H a x ≡ true) × (is_live K.order x ≡ true)
        × (is_below_some K.order roots x ≡ false)
    says_before x h =
        let s = says F K a x h in
        let lives = fit.sized.order.upper_lives a x s.le in
        let above = up a live out x s.le in (
          said F H a x (record { low = class_before a live out s.low; high = class_before x lives above s.high; le = sym (L.le a x live out) ∙ s.le }),
          lives,
          above,
        )

    pub chained_still : IsPartialOrder H.order → first_unchained_at F H a ≡ None → first_unchained_at F K a ≡ None
    chained_still P none =
        chained F K a (λ x y hx hy.
        let bx = says_before x hx in
        let by = says_before y hy in
        ⊎_elim (λ h. inl (L.le x y bx.1 bx.2 ∙ h)) (λ h. inr (L.le y x by.1 by.2 ∙ h)) (chain_of F H P a none x y bx.0 by.0))

  pub chained_left : IsPartialOrder H.order → length K.order.live ≡ length H.order.live → (old new : List Bool) → AreChained F H old
      → length new ≡ length old → ((n : ℕ) → bit new n ≡ true → bit old n ≡ true)
      → ((n : ℕ) → bit new n ≡ true → is_below_some K.order roots n ≡ false) → AreChained F K new
  chained_left P count old new are len was left = record {
    width = len ∙ (are.width ∙ sym count);
    each = λ n h. ⊎_elim (kept n h) (dead n) (cases_Bool (is_live K.order n));
  }
    where
      kept : (n : ℕ) → bit new n ≡ true → is_live K.order n ≡ true → first_unchained_at F K n ≡ None
      kept n h live =
          chained_still n live (left n h) P (are.each n (was n h))

      dead : (n : ℕ) → is_live K.order n ≡ false → first_unchained_at F K n ≡ None
      dead n off = chained F K n (λ x y hx hy. absurd (false≢true (sym off ∙ fit.sized.order.lower_lives n x (says F K n x hx).le)))

  module _ (pt : PointsTo) (s : ℕ) (live : is_live K.order (place_of_site F K s) ≡ true) (out : is_below_some K.order roots (place_of_site F K s) ≡ false) where
    body_none : (d : ℕ) → wrong_body F H s d ≡ None → wrong_body F K s d ≡ None
    body_none d h =
        let a = place_of_site F K s in
        let same : place_of_site F H s ≡ a = L.rows (site_row F s) live out in
        none_if (not (is_offered K a d) || has_nearer F K a d) (not (is_offered H a d) || has_nearer F H a d) (of_both B4 a (site_row F s) d)
        (of_both B4 a (site_row F s) d)
        (or_more (not (is_offered K a d)) (has_nearer F K a d) (not (is_offered H a d)) (has_nearer F H a d)
        (not_more (is_offered K a d) (is_offered H a d) (offered_still a live out d)) (nearer_before a live out d))
        (subst (λ n. when (not (is_offered H n d) || has_nearer F H n d) (of_both B4 n (site_row F s) d) ≡ None) same h)

    need_none : (x : ℕ) → wrong_need F pt H s x ≡ None → wrong_need F pt K s x ≡ None
    need_none x h = at (is_called F pt s x) (finds F (site_class F s) x) h
      where
        at : (b : Bool) (o : Option ℕ) → cond b (option_and_then (wrong_body F H s) o) None ≡ None
            → cond b (option_and_then (wrong_body F K s) o) None ≡ None
        at false o h = refl
        at true None h = refl
        at true (Some d) h = body_none d h

    outcome_none : (p t : ℕ) → wrong_outcome F pt H p t s ≡ None → wrong_outcome F pt K p t s ≡ None
    outcome_none p t h =
        let a = place_of_site F K s in
        let r = site_row F s in
        let same : place_of_site F H s ≡ a = L.rows r live out in
        let stays : row_le K r t ≡ row_le H r t = L.over a t live out ∙ ap (λ n. is_le H.order n (place_of_row H t)) (sym same) in
        let wrong : Bool → Bool = λ b. meets F pt p t s && differ b (below F (site_class F s) (row_class F t)) in
        none_if (wrong (row_le K r t)) (wrong (row_le H r t)) (of_row B7 (place_of_site F K s) (place_of_row K t) r)
        (of_row B7 (place_of_site F H s) (place_of_row H t) r) (λ k. subst (λ b. wrong b ≡ true) stays k) h

  module _ (r : ℕ) (live : is_live K.order (place_of_row K r) ≡ true) (out : is_below_some K.order roots (place_of_row K r) ≡ false) where
    same_place : place_of_row H r ≡ place_of_row K r
    same_place = L.rows r live out

    between_before : (d : ℕ) → has_between F K r d ≡ true → has_between F H r d ≡ true
    between_before d h = any_rest (is_between F K r d) (is_between F H r d) C (λ e t.
        let a = place_of_row K r in
        let class = column_class F e == row_class F r in
        let x = and_parts (is_other_body F d e && is_above K a e) (column_le K e d || class) t in
        let y = and_parts (is_other_body F d e) (is_above K a e) x.0 in
        let z = above_before a live out e y.1 in
        let over : is_above H (place_of_row H r) e ≡ true = subst (λ n. is_above H n e ≡ true) (sym same_place) z.0 in
        and_from (is_other_body F d e && is_above H (place_of_row H r) e) (column_le H e d || class)
        (and_from (is_other_body F d e) (is_above H (place_of_row H r) e) y.0 over)
        (or_more (column_le K e d) class (column_le H e d) class (column_before a live out e d z.1) (λ k. k) x.1)) h

    super_none : (c : ℕ) → wrong_super F H r c ≡ None → wrong_super F K r c ≡ None
    super_none c h =
        let a = place_of_row K r in
        let b = place_of_row H r in
        let new = not (is_above K a c) || has_between F K r c in
        let old = not (is_above H b c) || has_between F H r c in
        none_if (is_super F r c && new) (is_super F r c && old) (of_both B5 a r c) (of_both B5 b r c)
        (λ t.
        let x = and_parts (is_super F r c) new t in
        and_from (is_super F r c) old x.0
        (or_more (not (is_above K a c)) (has_between F K r c) (not (is_above H b c)) (has_between F H r c)
        (not_more (is_above K a c) (is_above H b c) (λ k. above_still a live out c (subst (λ n. is_above H n c ≡ true) same_place k)))
        (between_before c) x.1))
        h

  pub kept_outside : (pt : PointsTo) → length K.order.live ≡ length H.order.live → K.members ≡ H.members → MeetsEdit F pt H → AreKeptOutside F pt K roots
  kept_outside pt count members meets =
      let a = or_else-None (first_unoffered F H) (or_else (first_untied F pt H) (or_else (first_changed_run F pt H) (first_misnamed F H))) meets in
      let b = or_else-None (first_untied F pt H) (or_else (first_changed_run F pt H) (first_misnamed F H)) a.1 in
      let c = or_else-None (first_changed_run F pt H) (first_misnamed F H) b.1 in
      let d = or_else-None (first_wrong_need F pt H) (or_else (first_wrong_super F H) (or_else (first_two_bodies F H) (first_wrong_outcome F pt H))) c.0 in
      let e = or_else-None (first_wrong_super F H) (or_else (first_two_bodies F H) (first_wrong_outcome F pt H)) d.1 in
      record {
        needs = λ s ls live out. first_below_clear (wrong_need F pt K s) (slots_of F) (λ x lx.
            need_none pt s live out x (first_below_None (wrong_need F pt H s) (slots_of F) x
            (first_below_None (λ s. first_below (slots_of F) (wrong_need F pt H s)) (length F.sites.items) s d.0 ls) lx));
        supers = λ r lr live out. first_below_clear (wrong_super F K r) C (λ c lc.
            super_none r live out c (first_below_None (wrong_super F H r) C c
            (first_below_None (λ r. first_below C (wrong_super F H r)) (length F.rows.items) r e.0 lr) lc));
        outcomes = λ p t s lt ls live out.
            let g = or_else-None (first_two_bodies F H) (first_wrong_outcome F pt H) e.1 in
            outcome_none pt s live out p t (first_below_None (wrong_outcome F pt H p t) (length F.sites.items) s
            (first_below_None (λ t. first_below (length F.sites.items) (wrong_outcome F pt H p t)) (length F.rows.items) t
            (none_anywhere F pt H g.1 p) lt) ls);
        names = λ n live out.
            let u = or_else-None (first_unwritable F H) (or_else (first_taken_type F H) (or_else (first_taken_field F H) (first_confused F H))) c.1 in
            let v = or_else-None (first_taken_type F H) (or_else (first_taken_field F H) (first_confused F H)) u.1 in
            let w = or_else-None (first_taken_field F H) (first_confused F H) v.1 in
            first_below_clear (confused F K n) C (λ d ld.
            confused_none n live out members d (first_below_None (confused F H n) C d
            (first_below_None (λ n. first_below C (confused F H n)) (length H.order.live) n w.1
            (let l = bit-below K.order.live n live in omega (arith, l, count))) ld));
      }

module _ (H K : Hierarchy) where
  -- a node put under another: nothing changes above what is not at or below it
  pub under_local : (n : NodeId) (p : ℕ) → ((a b : ℕ) → is_le K.order a b ≡ (is_le H.order a b || (is_le H.order a n.0 && is_le H.order p b)))
      → K.columns ≡ H.columns → K.rows ≡ H.rows → IsLocal (n ∷ []) H K
  under_local n p pairs columns rows = record {
    le = λ a b live out. same a b out;
    stood = λ a c q live out e h. subst (λ (xs : List (Option NodeId)). get_or xs c None ≡ Some q) columns e;
    stands = λ a c q live out e h. subst (λ (xs : List (Option NodeId)). get_or xs c None ≡ Some q) (sym columns) e;
    rows = λ r live out. ap (λ (xs : List NodeId). (get_or xs r (node 0)).0) (sym rows);
    over = λ a t live out. ap (λ (xs : List NodeId). is_le K.order a (get_or xs t (node 0)).0) rows ∙ same a (place_of_row H t) out;
  }
    where
      apart : (a : ℕ) → is_below_some K.order (n ∷ []) a ≡ false → is_le H.order a n.0 ≡ false
      apart a out =
          ⊎_elim
          (λ t. absurd
          (false≢true
          (sym out
          ∙ has_any_among (row K.order.le a) (n ∷ []) n.0 (or_left (n.0 == n.0) false (eq-eqb n.0 n.0 refl))
          (pairs a n.0 ∙ or_left (is_le H.order a n.0) (is_le H.order a n.0 && is_le H.order p n.0) t))))
          (λ f. f)
          (cases_Bool (is_le H.order a n.0))

      same : (a b : ℕ) → is_below_some K.order (n ∷ []) a ≡ false → is_le K.order a b ≡ is_le H.order a b
      same a b out = pairs a b ∙ (ap (λ t. is_le H.order a b || (t && is_le H.order p b)) (apart a out) ∙ or_false (is_le H.order a b))

  -- nodes made one: nothing changes above what is not at or below that
  module _ (set : List NodeId) (m : ℕ) (among : is_among set m ≡ true) (made : IsLeastMerged H.order set m K.order)
      (pairs : (a b : ℕ) → is_le K.order a b
      ≡ ((is_le H.order a b || (is_below_some H.order set a && is_above_some H.order set b)) && stays set m a && stays set m b))
      (columns : (c : ℕ) → place_of_column K c ≡ option_map (λ (q : NodeId). node (merged_to set m q.0)) (place_of_column H c))
      (rows : (r : ℕ) → place_of_row K r ≡ merged_to set m (place_of_row H r)) where
    not_among : (a x : ℕ) → is_below_some K.order set a ≡ false → is_le K.order a (merged_to set m x) ≡ true → is_among set x ≡ false
    not_among a x out h =
        ⊎_elim
        (λ t. absurd
        (false≢true
        (sym out ∙ has_any_among (row K.order.le a) set m among (subst (λ y. is_le K.order a y ≡ true) (ap (λ b. cond b m x) t) h))))
        (λ f. f)
        (cases_Bool (is_among set x))

    stays_live : (a : ℕ) → is_live K.order a ≡ true → stays set m a ≡ true
    stays_live a live = (and_parts (is_live H.order a) (stays set m a) (sym (made.live a) ∙ live)).1

    -- the old pairs of such a node are new ones
    held : (a b : ℕ) → is_live K.order a ≡ true → is_le H.order a b ≡ true → is_le K.order a (merged_to set m b) ≡ true
    held a b live h = subst (λ x. is_le K.order x (merged_to set m b) ≡ true) (stays-merged set m a (stays_live a live)) (made.holds a b h)

    merged_same : (a b : ℕ) → is_live K.order a ≡ true → is_below_some K.order set a ≡ false → is_le K.order a b ≡ is_le H.order a b
    merged_same a b live out = same_truth (is_le K.order a b) (is_le H.order a b) old new
      where
        new : is_le H.order a b ≡ true → is_le K.order a b ≡ true
        new h =
            let k = held a b live h in
            subst (λ x. is_le K.order a x ≡ true) (ap (λ t. cond t m b) (not_among a b out k)) k

        old : is_le K.order a b ≡ true → is_le H.order a b ≡ true
        old h =
            let pair = is_le H.order a b || (is_below_some H.order set a && is_above_some H.order set b) in
            let x = and_parts (pair && stays set m a) (stays set m b) (sym (pairs a b) ∙ h) in
            let y = and_parts pair (stays set m a) x.0 in
            ⊎_elim
            (λ t. t)
            (λ t.
            let z = and_parts (is_below_some H.order set a) (is_above_some H.order set b) t in
            let s = has_any_some (row H.order.le a) set z.0 in
            absurd (false≢true (sym (not_among a s.0 out (held a s.0 live s.2)) ∙ s.1)))
            (or_cases (is_le H.order a b) (is_below_some H.order set a && is_above_some H.order set b) y.0)

    over_row : (a x : ℕ) → is_live K.order a ≡ true → is_below_some K.order set a ≡ false → is_le K.order a (merged_to set m x) ≡ is_le H.order a x
    over_row a x live out =
        same_truth (is_le K.order a (merged_to set m x)) (is_le H.order a x)
        (λ h.
        let k = subst (λ y. is_le K.order a y ≡ true) (ap (λ t. cond t m x) (not_among a x out h)) h in
        sym (merged_same a x live out) ∙ k)
        (λ h. held a x live h)

    pub merged_local : IsLocal set H K
    merged_local = record {
      le = merged_same;
      stood = λ a c p live out e h. stood_at a c p out h (place_of_column H c) refl (sym (columns c) ∙ e);
      stands = λ a c p live out e h.
          let k = subst (λ x. x ≡ true) (merged_same a p.0 live out) h in
          let j = held a p.0 live k in
          columns c ∙ (ap (option_map (λ (q : NodeId). node (merged_to set m q.0))) e ∙ ap (λ t. Some (node (cond t m p.0))) (not_among a p.0 out j));
      rows = λ r live out.
          let x = place_of_row H r in
          ⊎_elim
          (λ t.
          let e : place_of_row K r ≡ m = rows r ∙ ap (λ b. cond b m x) t in
          let self = subst (λ y. is_le K.order (place_of_row K r) y ≡ true) e (made.order.reflexive (place_of_row K r) live) in
          absurd (false≢true (sym out ∙ has_any_among (row K.order.le (place_of_row K r)) set m among self)))
          (λ f. sym (rows r ∙ ap (λ b. cond b m x) f))
          (cases_Bool (is_among set x));
      over = λ a t live out. ap (is_le K.order a) (rows t) ∙ over_row a (place_of_row H t) live out;
    }
      where
        stood_at : (a c : ℕ) (p : NodeId) → is_below_some K.order set a ≡ false → is_le K.order a p.0 ≡ true
            → (o : Option NodeId) → place_of_column H c ≡ o → option_map (λ (q : NodeId). node (merged_to set m q.0)) (place_of_column H c) ≡ Some p
            → place_of_column H c ≡ Some p
        stood_at a c p out h None e k = let z : None ≡ Some p = sym (ap (option_map (λ (q : NodeId). node (merged_to set m q.0))) e) ∙ k in absurd (cc z)
        stood_at a c p out h (Some q) e k =
            let z : Some (node (merged_to set m q.0)) ≡ Some p = sym (ap (option_map (λ (q : NodeId). node (merged_to set m q.0))) e) ∙ k in
            let same : node (merged_to set m q.0) ≡ p = cc z in
            let number : merged_to set m q.0 ≡ p.0 = ap (λ (x : NodeId). x.0) same in
            let f = not_among a q.0 out (subst (λ x. is_le K.order a x ≡ true) (sym number) h) in
            e ∙ ap Some (sym (ap (λ b. node (cond b m q.0)) f) ∙ same)

-- the one node of a list is below a bound
pub one_in : {k : ℕ} (n : NodeId) → n.0 < k → All (λ (s : NodeId). s.0 < k) (n ∷ [])
one_in n lt zero s e = lt
one_in n lt (suc i) s e = absurd (omega (arith, e))
