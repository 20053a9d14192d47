-- A conflict of class nodes has a try that is accepted, so that the steps end at a tree.
use Rattle.std.proofs.Common.{◌≡◌, ◌≢◌, ℕ, ⊎_elim, ◌==◌, ◌&&◌, not, true, false, cond, List, [], ◌∷◌, Option, Some, None, Result, Ok, Err, All, refl, sym, ap, ◌∙◌, subst, arith, eq-eqb, eqb-true}
use Rattle.std.specs.Prelude.{is_some, IfSome}
use Rattle.std.specs.Option.{option_map_or}
use Rattle.std.proofs.lemmas.Bool.{cases_Bool, false≢true}
use Rattle.std.proofs.lemmas.Option.{same_Some}
use Rattle.std.proofs.lemmas.List.Elements.{All-nil, All-cons}
use Rattle.kaba_base.specs.declared.NodeId.{NodeId}
use Rattle.kaba_base.specs.declared.ClassId.{ClassId}
use Rattle.kaba_bits.specs.Sets.{row}
use Rattle.kaba_order.specs.Orders.{is_le, is_live, is_among}
use Rattle.kaba_order.proofs.MergeLemmas.{has_any_some, any_has_some, among-All}
use Rattle.fact_model.specs.Classes.{below}
use Rattle.fact_model.specs.Closures.{IsPlainClass}
use Rattle.fact_model.specs.InRange.{InRange, IsClass}
use Rattle.fact_model.specs.InOrder.{InOrder}
use Rattle.fact_model.specs.Flowing.{AreSets}
use Rattle.fact_model.specs.Entries.{IsTable}
use Rattle.fact_model.specs.declared.facts.Facts.{Facts}
use Rattle.fact_model.specs.declared.sets.PointsTo.{PointsTo}
use Rattle.fact_model.specs.declared.sets.Table.{Table}
use Rattle.fact_model.proofs.ChainLemmas.{chain}
use Rattle.hier_model.specs.Hierarchies.{Hierarchy, origin_of}
use Rattle.hier_model.specs.Edits.{under_order, first_between, first_unknown, merged, unless}
use Rattle.hier_model.specs.declared.edits.ChangeFault.TheVariants.{UnknownNode, Cycle}
use Rattle.hier_model.proofs.MergedLemmas.{between_none}
use Rattle.hier_rules.specs.declared.broken.Broken.{Broken}
use Rattle.hier_rules.specs.Obligations.{first_unchained}
use Rattle.hier_rules.specs.First.{first_of_edit}
use Rattle.hier_edit.specs.declared.ApplyFault.{ApplyFault}
use Rattle.hier_edit.specs.Applied.{outcome, unless_broken}
use Rattle.hier_tree.specs.declared.Conflict.{Conflict}
use Rattle.hier_tree.proofs.ConflictLemmas.{IsConflict, conflict_says, some_among, none_unknown, from_live, from_origin, from_has}
use Rattle.hier_tree.specs.Trees.{Try, MakeOne, PutUnder, conflict_of, nodes_from, tries_of_one, tries_of_lower, tries_of_higher, tries_of_others, tries_by, tries_of, changed_by, GrowthStep, GrowthEnd, accepted_or, tried, first_accepted, Grows, done, stuck, step}
use Rattle.hier_laws.proofs.GivenLemmas as facts
use Rattle.hier_laws.proofs.GivenLemmas.{given, roles, in_order}
use Rattle.hier_laws.specs.Starts.{AreInOrder}
use Rattle.hier_tree.specs.Kept.{origin_at, IsKept, HasNoInterface}
use Rattle.hier_tree.specs.Laws.{IsTree}
use Rattle.hier_tree.proofs.KeptLemmas.{no_cycle, under_kept, merge_kept, whole_kept}
use Rattle.hier_tree.proofs.ReachedLemmas.{accepted, unless_ok, is_ok}

some_of : (o : Option ClassId) → is_some o ≡ true → (k : ClassId) × (o ≡ Some k)
some_of None h = absurd (false≢true h)
some_of (Some k) h = (k, refl)

module _ (F : Facts) (pt : PointsTo) (t : Table) (R : InRange F) (O : InOrder F) (S : AreSets F pt) (T : IsTable F t) (N : HasNoInterface F) where
  ordered : AreInOrder (given F pt t) (roles F pt t)
  ordered = in_order F pt t R O S T

  -- the try of a list is accepted where it is taken
  accept : (H : Hierarchy) (u : Try) (us : List Try) (h : Hierarchy) → tried F pt H u ≡ Ok h → first_accepted F pt H (u ∷ us) ≡ Some (u, h)
  accept H u us h e = ap (λ r. accepted_or u r (first_accepted F pt H us)) e

  -- what is found for a conflict
  record IsTaken (H : Hierarchy) (us : List Try) : Type 0 where
    try : Try
    new : Hierarchy
    first : first_accepted F pt H us ≡ Some (try, new)
    kept : IsKept F pt t new

  module _ (H : Hierarchy) (K : IsKept F pt t H) where
    take_under : (l h : NodeId) (us : List Try) → is_live H.order l.0 ≡ true → is_live H.order h.0 ≡ true → below F (origin_at H l.0) (origin_at H h.0) ≡ true
        → origin_at H l.0 ≢ origin_at H h.0 → IsTaken H (PutUnder l h ∷ us)
    take_under l h us ll lh lower differ =
        let made : Hierarchy = record H { order = under_order H.order l.0 h.0 } in
        let kept : IsKept F pt t made = under_kept F pt t R O S T H K l.0 h.0 ll lh lower differ in
        let both : All (λ (s : NodeId). is_live H.order s.0 ≡ true) (l ∷ h ∷ []) =
        All-cons (λ (s : NodeId). is_live H.order s.0 ≡ true) l (h ∷ []) ll (All-cons (λ (s : NodeId). is_live H.order s.0 ≡ true) h [] lh
        (All-nil (λ (s : NodeId). is_live H.order s.0 ≡ true))) in
        let changed : changed_by F H (PutUnder l h) ≡ Ok made =
        ap (λ o. unless o UnknownNode (cond (is_le H.order h.0 l.0 && not (h.0 == l.0)) (Err (Cycle l)) (Ok made))) (none_unknown H.order (l ∷ h ∷ []) both)
        ∙ ap (λ b. cond b (Err (Cycle l)) (Ok made)) (no_cycle F pt t R O S T H K l.0 h.0 ll lh lower differ) in
        let is : tried F pt H (PutUnder l h) ≡ Ok made = ap (outcome F pt) changed ∙ ap (unless_broken made) kept.meets in
        record { try = PutUnder l h; new = made; first = accept H (PutUnder l h) us made is; kept = kept }

    -- all nodes of an origin become one
    module _ (k : ClassId) where
      abbrev set : List NodeId
      set = nodes_from H k

      whole : (x : ℕ) → is_live H.order x ≡ true → origin_at H x ≡ k.0 → is_among set x ≡ true
      whole x live same =
          let o = some_of (origin_of H x) (K.there x live) in
          let number : o.0.0 ≡ k.0 = sym (ap (λ c. option_map_or (λ (j : ClassId). j.0) c 0) o.1) ∙ same in
          from_has H k x live (o.1 ∙ ap (λ n. Some (record { 0 = n })) number)

      convex : first_between H.order set ≡ None
      convex = between_none H.order set K.fits.sized.order (λ z b.
          let up = any_has_some H.order.le set z.0 b.between.above in
          let down = has_any_some (row H.order.le z.0) set b.between.below in
          let live = K.fits.sized.order.upper_lives up.0 z.0 up.2 in
          let from : (s : ℕ) → is_among set s ≡ true → origin_at H s ≡ k.0 = λ s h. ap (λ c. option_map_or (λ (j : ClassId). j.0) c 0)
          (among-All (λ x. origin_of H x ≡ Some k) set (from_origin H k) s h) in
          let low = subst (λ x. below F x (origin_at H z.0) ≡ true) (from up.0 up.1) (K.origins.up up.0 z.0 up.2) in
          let high = subst (λ x. below F (origin_at H z.0) x ≡ true) (from down.0 down.1) (K.origins.up z.0 down.0 down.2) in
          false≢true (sym b.between.outside ∙ whole z.0 live (ordered.both (origin_at H z.0) k.0 high low)))

      take_whole : (x : ℕ) (us : List Try) → is_live H.order x ≡ true → origin_at H x ≡ k.0 → IsTaken H (MakeOne (nodes_from H k) ∷ us)
      take_whole x us live same =
          let some = some_among set x (whole x live same) in
          let kept : IsKept F pt t (merged F H set) = whole_kept F pt t R O S T H K set some (from_live H k) k (from_origin H k) convex whole in
          let changed : changed_by F H (MakeOne set) ≡ Ok (merged F H set) =
          ap (λ o. unless o UnknownNode (unless (first_between H.order set) Cycle (Ok (merged F H set)))) (none_unknown H.order set (from_live H k))
          ∙ ap (λ o. unless o Cycle (Ok (merged F H set))) convex in
          let is : tried F pt H (MakeOne set) ≡ Ok (merged F H set) = ap (outcome F pt) changed ∙ ap (unless_broken (merged F H set)) kept.meets in
          record { try = MakeOne set; new = merged F H set; first = accept H (MakeOne set) us (merged F H set) is; kept = kept }

      -- two nodes of it become one, or else all do
      take_one : (x y : NodeId) (us : List Try) → is_live H.order x.0 ≡ true → is_live H.order y.0 ≡ true → origin_of H x.0 ≡ Some k → origin_of H y.0 ≡ Some k
          → IsTaken H (MakeOne (x ∷ y ∷ []) ∷ MakeOne (nodes_from H k) ∷ us)
      take_one x y us lx ly ox oy = at (tried F pt H (MakeOne (x ∷ y ∷ []))) refl
        where
          lives : All (λ (s : NodeId). is_live H.order s.0 ≡ true) (x ∷ y ∷ [])
          lives = All-cons (λ (s : NodeId). is_live H.order s.0 ≡ true) x (y ∷ []) lx (All-cons (λ (s : NodeId). is_live H.order s.0 ≡ true) y [] ly
              (All-nil (λ (s : NodeId). is_live H.order s.0 ≡ true)))

          origins : All (λ (s : NodeId). origin_of H s.0 ≡ Some k) (x ∷ y ∷ [])
          origins = All-cons (λ (s : NodeId). origin_of H s.0 ≡ Some k) x (y ∷ []) ox (All-cons (λ (s : NodeId). origin_of H s.0 ≡ Some k) y [] oy
              (All-nil (λ (s : NodeId). origin_of H s.0 ≡ Some k)))

          at : (r : Result Hierarchy ApplyFault) → tried F pt H (MakeOne (x ∷ y ∷ [])) ≡ r → IsTaken H (MakeOne (x ∷ y ∷ []) ∷ MakeOne (nodes_from H k) ∷ us)
          at (Err fault) e =
              let next = take_whole x.0 us lx (ap (λ c. option_map_or (λ (j : ClassId). j.0) c 0) ox) in
              record {
                try = next.try;
                new = next.new;
                first = ap (λ r. accepted_or (MakeOne (x ∷ y ∷ [])) r (first_accepted F pt H (MakeOne (nodes_from H k) ∷ us))) e ∙ next.first;
                kept = next.kept;
              }
          at (Ok h) e =
              let a = accepted F pt (changed_by F H (MakeOne (x ∷ y ∷ []))) h e in
              let b = unless_ok (first_unknown H.order (x ∷ y ∷ [])) UnknownNode (unless (first_between H.order (x ∷ y ∷ [])) Cycle
              (Ok (merged F H (x ∷ y ∷ [])))) h a.0 in
              let c = unless_ok (first_between H.order (x ∷ y ∷ [])) Cycle (Ok (merged F H (x ∷ y ∷ []))) h b.1 in
              let same : merged F H (x ∷ y ∷ []) ≡ h = is_ok (merged F H (x ∷ y ∷ [])) h c.1 in
              let kept = merge_kept F pt t R O S T H K (x ∷ y ∷ []) (omega arith) lives k origins c.0
              (subst (λ (z : Hierarchy). first_of_edit F pt z ≡ None) (sym same) a.1) in
              record {
                try = MakeOne (x ∷ y ∷ []);
                new = h;
                first = accept H (MakeOne (x ∷ y ∷ [])) (MakeOne (nodes_from H k) ∷ us) h e;
                kept = subst
                    (IsKept F pt t) same kept;
              }

    -- the tries of different origins
    abbrev others : ClassId → ClassId → Conflict → List Try
    others k l c = cond (below F k.0 l.0) (tries_of_lower c.first c.second) (cond (below F l.0 k.0) (tries_of_higher c.first c.second)
        (tries_of_others c.first c.second))

    -- one of its tries is taken
    goes : (b : Broken) → first_unchained F H ≡ Some b → IsTaken H (tries_of F H (conflict_of b))
    goes b h =
        let c = conflict_of b in
        let says = conflict_says F H b h in
        let lx = K.fits.sized.order.upper_lives c.lower.0 c.first.0 says.first in
        let ly = K.fits.sized.order.upper_lives c.lower.0 c.second.0 says.second in
        let k = some_of (origin_of H c.first.0) (K.there c.first.0 lx) in
        let l = some_of (origin_of H c.second.0) (K.there c.second.0 ly) in
        let tries : tries_of F H c ≡ tries_by F H c.first c.second (Some k.0) (Some l.0) =
        ap (λ o. tries_by F H c.first c.second o (origin_of H c.second.0)) k.1 ∙ ap (λ o. tries_by F H c.first c.second (Some k.0) o) l.1 in
        subst (IsTaken H) (sym tries) (take c k.0 l.0 lx ly k.1 l.1 says)
      where
        number : (x : ℕ) (k : ClassId) → origin_of H x ≡ Some k → origin_at H x ≡ k.0
        number x k e = ap (λ c. option_map_or (λ (j : ClassId). j.0) c 0) e

        plain : (x : ℕ) (k : ClassId) → is_live H.order x ≡ true → origin_of H x ≡ Some k → IsPlainClass F k.0
        plain x k live e = record { below = subst (λ o. IfSome o (IsClass F)) e (K.fits.origins x live); kind = N.classes k.0 }

        take : (c : Conflict) (k l : ClassId) → is_live H.order c.first.0 ≡ true → is_live H.order c.second.0 ≡ true → origin_of H c.first.0 ≡ Some k
            → origin_of H c.second.0 ≡ Some l → IsConflict H c
            → IsTaken H (tries_by F H c.first c.second (Some k) (Some l))
        take c k l lx ly ox oy says =
            ⊎_elim
            (λ one.
            let same : k ≡ l = ap (λ n. let r : ClassId = record { 0 = n } in r) (eqb-true k.0 l.0 one) in
            subst (IsTaken H) (sym (ap (λ b. cond b (tries_of_one H k c.first c.second) (others k l c)) one))
            (take_one k c.first c.second (PutUnder c.first c.second ∷ PutUnder c.second c.first ∷ []) lx ly ox (oy ∙ ap Some (sym same))))
            (λ two. subst (IsTaken H) (sym (ap (λ b. cond b (tries_of_one H k c.first c.second) (others k l c)) two))
            (⊎_elim
            (λ low. subst (IsTaken H) (sym
            (ap (λ b. cond b (tries_of_lower c.first c.second) (cond (below F l.0 k.0) (tries_of_higher c.first c.second)
            (tries_of_others c.first c.second))) low))
            (take_under c.first c.second (MakeOne (c.first ∷ c.second ∷ []) ∷ PutUnder c.second c.first ∷ []) lx ly
            (rw (number c.first.0 k ox, number c.second.0 l oy) low) (differ two)))
            (λ high.
            let down : below F l.0 k.0 ≡ true =
            ⊎_elim
            (λ up. absurd (false≢true (sym high ∙ facts.le F pt t R O S T k.0 l.0 up)))
            (λ up. facts.le F pt t R O S T l.0 k.0 up)
            (chain F O (origin_at H c.lower.0) k.0 l.0 (plain c.first.0 k lx ox) (plain c.second.0 l ly oy)
            (facts.is_le F pt t R O S T (origin_at H c.lower.0) k.0 (rw (sym (number c.first.0 k ox)) (K.origins.up c.lower.0 c.first.0 says.first)))
            (facts.is_le F pt t R O S T (origin_at H c.lower.0) l.0 (rw (sym (number c.second.0 l oy)) (K.origins.up c.lower.0 c.second.0 says.second)))) in
            subst (IsTaken H) (sym (ap (λ b. cond b (tries_of_lower c.first c.second) (cond (below F l.0 k.0) (tries_of_higher c.first c.second)
            (tries_of_others c.first c.second))) high
            ∙ ap (λ b. cond b (tries_of_higher c.first c.second) (tries_of_others c.first c.second)) down))
            (take_under c.second c.first (MakeOne (c.first ∷ c.second ∷ []) ∷ PutUnder c.first c.second ∷ []) ly lx
            (rw (number c.second.0 l oy, number c.first.0 k ox) down) (λ e. differ two (sym e))))
            (cases_Bool (below F k.0 l.0))))
            (cases_Bool (k.0 == l.0))
          where
            differ : (k.0 == l.0) ≡ false → origin_at H c.first.0 ≢ origin_at H c.second.0
            differ two e = false≢true (sym two ∙ eq-eqb k.0 l.0 (sym (number c.first.0 k ox) ∙ e ∙ number c.second.0 l oy))

  -- the steps end at a tree
  pub found : {H : Hierarchy} {log : List GrowthStep} {end : GrowthEnd} → IsKept F pt t H → Grows F pt H log end → IsTree end
  found K (done none) = tt
  found {H} K (stuck {b = b} conflict none last err) = let g = goes H K b conflict in absurd (cc (sym none ∙ g.first))
  found {H} K (step {K = New} {b = b} {t = u} conflict taken rest) =
      let g = goes H K b conflict in
      let same : g.new ≡ New = ap (λ (r : Try × Hierarchy). r.1) (same_Some (g.try, g.new) (u, New) (sym g.first ∙ taken)) in
      found (subst (IsKept F pt t) same g.kept) rest
