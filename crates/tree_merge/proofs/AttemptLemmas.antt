-- What an attempt and a step come to.
use Rattle.std.proofs.Common.{◌≡◌, ◌≢◌, ℕ, ◌+◌, ◌<◌, ◌==◌, ◌&&◌, not, Bool, true, false, cond, List, [], ◌∷◌, length, map, drop, get_or, Option, Some, None, Ok, Err, All, refl, sym, ap, ◌∙◌, subst, arith}
use Rattle.std.proofs.lemmas.List.{drop_more}
use Rattle.kaba_base.specs.declared.NodeId.{NodeId}
use Rattle.kaba_order.specs.Orders.{is_le, is_live, IsPartialOrder}
use Rattle.kaba_order.proofs.MergeLemmas.{among-All}
use Rattle.fact_model.specs.declared.facts.Facts.{Facts}
use Rattle.fact_model.specs.declared.sets.PointsTo.{PointsTo}
use Rattle.hier_model.specs.Hierarchies.{Hierarchy, IsHierarchyOf}
use Rattle.hier_model.specs.Edits.{under_order, least_of, first_between, first_unknown, merged, unless, changed}
use Rattle.hier_model.specs.Places.{JoinsNodes}
use Rattle.hier_model.specs.declared.edits.Edit.{Edit}
use Rattle.hier_model.specs.declared.edits.Edit.TheVariants as edit
use Rattle.hier_model.specs.declared.edits.ChangeFault.TheVariants.{UnknownNode, Cycle}
use Rattle.hier_model.proofs.MergedLemmas.{none_between}
use Rattle.hier_model.proofs.EditedOrders.{least_among}
use Rattle.hier_rules.specs.declared.broken.Broken.{Broken}
use Rattle.hier_rules.specs.declared.kept.KnownNodes.{KnownNodes}
use Rattle.hier_rules.specs.Chains.{AreKnown, WereKnown}
use Rattle.hier_rules.specs.First.{first_of_edit}
use Rattle.hier_rules.specs.Obligations.{first_unchained}
use Rattle.hier_edit.specs.declared.ApplyFault.{ApplyFault}
use Rattle.hier_edit.specs.declared.ApplyFault.TheVariants.{Breaks}
use Rattle.hier_edit.specs.declared.ApplyFault.TheVariants as fault
use Rattle.hier_edit.specs.Applied.{outcome, unless_broken, applied}
use Rattle.hier_tree.specs.Trees.{Try, conflict_of, MakeOne, PutUnder, changed_by, accepted_or, tried, first_accepted, last_try, IsEditOf, try_of}
use Rattle.hier_tree.proofs.ConflictLemmas.{conflict_says, none_unknown, some_among}
use Rattle.hier_tree.proofs.ReachedLemmas.{accepted, unless_ok, if_ok, is_ok}
use Rattle.tree_merge.specs.Attempts.{unordered, nodes_of, Joins, AreApart, IsTryOf, IsOfTry, IsAccepted}
use Rattle.tree_merge.proofs.CountLemmas.{under_fewer, merged_fewer}

module _ (F : Facts) (pt : PointsTo) where
  -- a try is the same as its edit
  same_change : (H : Hierarchy) (e : Edit) → IsEditOf (try_of e) e → changed F H e ≡ changed_by F H (try_of e)
  same_change H (edit.Merge set) h = refl
  same_change H (edit.Under n p) h = refl
  same_change H (edit.Move c n) h = absurd h
  same_change H (edit.TypeName n name) h = absurd h
  same_change H (edit.MemberName c name) h = absurd h
  same_change H (edit.Drop n) h = absurd h

  pub same_outcome : (H : Hierarchy) (e : Edit) → IsEditOf (try_of e) e → applied F pt H e ≡ tried F pt H (try_of e)
  same_outcome H e h = ap (outcome F pt) (same_change H e h)

  pub joins_nodes : (e : Edit) → IsEditOf (try_of e) e → JoinsNodes e
  joins_nodes (edit.Merge set) h = tt
  joins_nodes (edit.Under n p) h = tt
  joins_nodes (edit.Move c n) h = absurd h
  joins_nodes (edit.TypeName n name) h = absurd h
  joins_nodes (edit.MemberName c name) h = absurd h
  joins_nodes (edit.Drop n) h = absurd h

  broken_says : (H : Hierarchy) (o : Option Broken) (f : ApplyFault) → unless_broken H o ≡ Err f → (b : Broken) × (f ≡ Breaks b)
  broken_says H None f h = absurd (cc h)
  broken_says H (Some b) f h = (b, cc (sym h))

  cycle_says : (n : NodeId) (f : ApplyFault) → outcome F pt (Err (Cycle n)) ≡ Err f → (b : Broken) × (f ≡ Breaks b)
  cycle_says n (Breaks b) h = (b, refl)
  cycle_says n f h = absurd (cc h)

  unless_says : (o : Option NodeId) (H : Hierarchy) (f : ApplyFault) → outcome F pt (unless o Cycle (Ok H)) ≡ Err f → (b : Broken) × (f ≡ Breaks b)
  unless_says None H f h = broken_says H (first_of_edit F pt H) f h
  unless_says (Some n) H f h = cycle_says n f h

  cond_says : (b : Bool) (n : NodeId) (H : Hierarchy) (f : ApplyFault) → outcome F pt (cond b (Err (Cycle n)) (Ok H)) ≡ Err f
      → (x : Broken) × (f ≡ Breaks x)
  cond_says true n H f h = cycle_says n f h
  cond_says false n H f h = broken_says H (first_of_edit F pt H) f h

  -- a try of live nodes that is refused breaks an obligation
  pub breaks : (H : Hierarchy) (t : Try) → All (λ s. is_live H.order s.0 ≡ true) (nodes_of t) → (f : ApplyFault) → tried F pt H t ≡ Err f
      → (b : Broken) × (f ≡ Breaks b)
  breaks H (MakeOne set) live f h =
      unless_says (first_between H.order set) (merged F H set) f
      (sym (ap (λ o. outcome F pt (unless o UnknownNode (unless (first_between H.order set) Cycle (Ok (merged F H set)))))
      (none_unknown H.order set live)) ∙ h)
  breaks H (PutUnder n p) live f h =
      let made : Hierarchy = record H { order = under_order H.order n.0 p.0 } in
      let test = is_le H.order p.0 n.0 && not (p.0 == n.0) in
      cond_says test n made f (sym (ap (λ o. outcome F pt (unless o UnknownNode (cond test (Err (Cycle n)) (Ok made))))
      (none_unknown H.order (n ∷ p ∷ []) live)) ∙ h)

  pub of_try : (H : Hierarchy) (e : Edit) → IsTryOf H e → (f : ApplyFault) → (f ≢ fault.Memory → applied F pt H e ≡ Err f) → IsOfTry f
  of_try H e is (Breaks b) h = tt
  of_try H e is fault.Memory h = tt
  of_try H e is (fault.UnknownNode n) h = cc (breaks H (try_of e) is.live (fault.UnknownNode n) (sym (same_outcome H e is.is) ∙ h (λ z. cc z))).1
  of_try H e is (fault.UnknownMember c) h = cc (breaks H (try_of e) is.live (fault.UnknownMember c) (sym (same_outcome H e is.is) ∙ h (λ z. cc z))).1
  of_try H e is (fault.NotEmpty n) h = cc (breaks H (try_of e) is.live (fault.NotEmpty n) (sym (same_outcome H e is.is) ∙ h (λ z. cc z))).1

  -- an accepted try makes fewer pairs that are not ordered
  falls : (H : Hierarchy) (p : IsPartialOrder H.order) (t : Try) → All (λ s. is_live H.order s.0 ≡ true) (nodes_of t) → Joins H.order t
      → (New : Hierarchy) → changed_by F H t ≡ Ok New → unordered New.order < unordered H.order
  falls H p (MakeOne set) live (x, y, ax, ay, apart) New h =
      let a = unless_ok (first_unknown H.order set) UnknownNode (unless (first_between H.order set) Cycle (Ok (merged F H set))) New h in
      let b = unless_ok (first_between H.order set) Cycle (Ok (merged F H set)) New a.1 in
      let same : merged F H set ≡ New = is_ok (merged F H set) New b.1 in
      let low = least_among H.order set (some_among set x ax) live in
      subst (λ (z : Hierarchy). unordered z.order < unordered H.order) same
      (merged_fewer H.order p set (least_of H.order set) low.0 (λ s m. among-All (λ x. is_live H.order x ≡ true) set live s m)
      (none_between H.order set p b.0) x y ax ay apart)
  falls H p (PutUnder n q) live apart New h =
      let made : Hierarchy = record H { order = under_order H.order n.0 q.0 } in
      let a = unless_ok (first_unknown H.order (n ∷ q ∷ [])) UnknownNode (cond (is_le H.order q.0 n.0 && not (q.0 == n.0)) (Err (Cycle n)) (Ok made)) New h in
      let same : made ≡ New = (if_ok (is_le H.order q.0 n.0 && not (q.0 == n.0)) (Cycle n) made New a.1).1 in
      subst (λ (z : Hierarchy). unordered z.order < unordered H.order) same
      (under_fewer H.order p n.0 q.0 (live 0 n (omega arith)) (live 1 n (omega arith)) apart)

  pub is_accepted : (H New : Hierarchy) → IsPartialOrder H.order → (e : Edit) → IsTryOf H e → tried F pt H (try_of e) ≡ Ok New
      → IsAccepted F pt H New e
  is_accepted H New p e is h =
      let a = accepted F pt (changed_by F H (try_of e)) New h in
      record { made = h; meets = a.1; fewer = falls H p (try_of e) is.live is.joins New a.0 }

  pub refused_at : (H : Hierarchy) (tries : List Edit) (k : ℕ) (d : Edit) (f : ApplyFault) → k < length tries
      → tried F pt H (try_of (get_or tries k d)) ≡ Err f
      → first_accepted F pt H (map try_of (drop k tries)) ≡ first_accepted F pt H (map try_of (drop (k + 1) tries))
  refused_at H tries k d f lt h =
      let e = get_or tries k d in
      ap (λ l. first_accepted F pt H (map try_of l)) (drop_more tries k d lt)
      ∙ ap (λ r. accepted_or (try_of e) r (first_accepted F pt H (map try_of (drop (k + 1) tries)))) h

  -- what was known before a try that is accepted
  pub was_known : (H New : Hierarchy) → IsHierarchyOf F H → (e : Edit) → applied F pt H e ≡ Ok New → (known : KnownNodes) → AreKnown F H known
      → WereKnown F New e known
  was_known H New fits e h known were = record { before = H; fits = fits; were = were; made = (accepted F pt (changed F H e) New h).0 }

-- the last of the tries from one on is the last of those from the next
pub last_more : (tries : List Edit) (k : ℕ) (d : Edit) → k + 1 < length tries
    → last_try (map try_of (drop k tries)) ≡ last_try (map try_of (drop (k + 1) tries))
last_more tries k d lt =
    let next = drop_more tries (k + 1) d lt in
    let here : k < length tries = omega (arith, lt) in
    ap (λ l. last_try (map try_of l)) (drop_more tries k d here) ∙ ap (λ l. last_try (try_of (get_or tries k d) ∷ map try_of l)) next
    ∙ sym (ap (λ l. last_try (map try_of l)) next)

-- the two nodes of a conflict are live and not ordered
pub apart_of : (F : Facts) (H : Hierarchy) → IsPartialOrder H.order → (b : Broken) → first_unchained F H ≡ Some b
    → AreApart H.order (conflict_of b).first (conflict_of b).second
apart_of F H p b h =
    let c = conflict_of b in
    let s = conflict_says F H b h in
    record { first = p.upper_lives c.lower.0 c.first.0 s.first; second = p.upper_lives c.lower.0 c.second.0 s.second; apart = s.apart; also = s.also }
