-- The tries of a conflict join two nodes that are not ordered.
use Rattle.std.proofs.Common.{◌≡◌, ℕ, zero, suc, ◌+◌, ◌<◌, ◌==◌, Bool, true, false, cond, List, [], ◌∷◌, ◌++◌, length, map, Some, Result, Ok, Err, All, refl, sym, ap, subst, arith, add-one, eq-eqb}
use Rattle.std.specs.Prelude.{filter, IfOk}
use Rattle.std.specs.List.{range_with_len}
use Rattle.std.proofs.lemmas.Bool.{or_left, or_right}
use Rattle.std.proofs.lemmas.List.Elements.{All-nil, All-cons}
use Rattle.kaba_base.specs.declared.NodeId.{NodeId}
use Rattle.kaba_base.specs.declared.ClassId.{ClassId}
use Rattle.kaba_order.specs.Orders.{Ordered, is_live, is_among}
use Rattle.hier_model.specs.Hierarchies.{Hierarchy, node, origin_of}
use Rattle.hier_model.specs.declared.edits.Edit.{Edit}
use Rattle.hier_model.specs.declared.edits.Edit.TheVariants as edit
use Rattle.hier_tree.specs.Trees.{MakeOne, IsEditOf, nodes_from}
use Rattle.hier_tree.proofs.ConflictLemmas.{some_among, from_live, from_has}
use Rattle.tree_merge.specs.Attempts.{AreApart, IsTryOf}

both_live : (o : Ordered) (x y : NodeId) → is_live o x.0 ≡ true → is_live o y.0 ≡ true → All (λ (s : NodeId). is_live o s.0 ≡ true) (x ∷ y ∷ [])
both_live o x y lx ly =
    All-cons (λ (s : NodeId). is_live o s.0 ≡ true) x (y ∷ []) lx
    (All-cons (λ (s : NodeId). is_live o s.0 ≡ true) y [] ly (All-nil (λ (s : NodeId). is_live o s.0 ≡ true)))

first_among : (x y : NodeId) → is_among (x ∷ y ∷ []) x.0 ≡ true
first_among x y = or_left (x.0 == x.0) (is_among (y ∷ []) x.0) (eq-eqb x.0 x.0 refl)

second_among : (x y : NodeId) → is_among (x ∷ y ∷ []) y.0 ≡ true
second_among x y = or_right (y.0 == x.0) (is_among (y ∷ []) y.0) (or_left (y.0 == y.0) (is_among [] y.0) (eq-eqb y.0 y.0 refl))

pub other_way : (o : Ordered) (x y : NodeId) → AreApart o x y → AreApart o y x
other_way o x y a = record { first = a.second; second = a.first; apart = a.also; also = a.apart }

module _ (H : Hierarchy) (x y : NodeId) (a : AreApart H.order x y) where
  pub under_is_try : IsTryOf H (edit.Under x y)
  under_is_try = record { is = (refl, refl); some = tt; live = both_live H.order x y a.first a.second; joins = a.apart }

  -- a merge of live nodes, with both among them
  merge_is_try : (e : Edit) (set : List NodeId) → IsEditOf (MakeOne set) e → All (λ (s : NodeId). is_live H.order s.0 ≡ true) set
      → is_among set x.0 ≡ true → is_among set y.0 ≡ true → IsTryOf H e
  merge_is_try (edit.Merge v) set same live ax ay = record {
    is = refl;
    some = subst (λ l. 0 < length l) (sym same) (some_among set x.0 ax);
    live = subst (λ l. All (λ (s : NodeId). is_live H.order s.0 ≡ true) l) (sym same) live;
    joins = (x.0, y.0, subst (λ l. is_among l x.0 ≡ true) (sym same) ax, subst (λ l. is_among l y.0 ≡ true) (sym same) ay, a.apart);
  }
  merge_is_try (edit.Under n p) set h live ax ay = absurd h
  merge_is_try (edit.Move c n) set h live ax ay = absurd h
  merge_is_try (edit.TypeName n name) set h live ax ay = absurd h
  merge_is_try (edit.MemberName c name) set h live ax ay = absurd h
  merge_is_try (edit.Drop n) set h live ax ay = absurd h

  pub pair_is_try : (e : Edit) → IsEditOf (MakeOne (x ∷ y ∷ [])) e → IsTryOf H e
  pair_is_try e h = merge_is_try e (x ∷ y ∷ []) h (both_live H.order x y a.first a.second) (first_among x y) (second_among x y)

  pub all_is_try : (k : ClassId) → origin_of H x.0 ≡ Some k → origin_of H y.0 ≡ Some k → (e : Edit) → IsEditOf (MakeOne (nodes_from H k)) e
      → IsTryOf H e
  all_is_try k ox oy e h = merge_is_try e (nodes_from H k) h (from_live H k) (from_has H k x.0 a.first ox) (from_has H k y.0 a.second oy)

module _ (H : Hierarchy) (x y : NodeId) (a : AreApart H.order x y) where
  two_under : All (IsTryOf H) (edit.Under x y ∷ edit.Under y x ∷ [])
  two_under =
      All-cons (IsTryOf H) (edit.Under x y) (edit.Under y x ∷ []) (under_is_try H x y a)
      (All-cons (IsTryOf H) (edit.Under y x) [] (under_is_try H y x (other_way H.order x y a)) (All-nil (IsTryOf H)))

  pub one_are : (k : ClassId) → origin_of H x.0 ≡ Some k → origin_of H y.0 ≡ Some k → (e f : Edit) → IsEditOf (MakeOne (x ∷ y ∷ [])) e
      → IsEditOf (MakeOne (nodes_from H k)) f
      → All (IsTryOf H) (e ∷ f ∷ edit.Under x y ∷ edit.Under y x ∷ [])
  one_are k ox oy e f he hf =
      All-cons (IsTryOf H) e (f ∷ edit.Under x y ∷ edit.Under y x ∷ []) (pair_is_try H x y a e he)
      (All-cons (IsTryOf H) f (edit.Under x y ∷ edit.Under y x ∷ []) (all_is_try H x y a k ox oy f hf) two_under)

-- the nodes with the numbers that pass, from one on and n of them, and one number more
abbrev pub passing : (ℕ → Bool) → ℕ → ℕ → List NodeId
passing has a n = map node (filter has (range_with_len a n))

abbrev pub if_has : (ℕ → Bool) → ℕ → List NodeId
if_has has k = cond (has k) (node k ∷ []) []

from_more : (has : ℕ → Bool) (a n : ℕ) → passing has a (suc n) ≡ passing has a n ++ if_has has (a + n)
from_more has a zero = let e : a + 0 ≡ a = omega arith in rw e (one (has a) refl)
  where
    one : (b : Bool) → has a ≡ b → map node (filter has (a ∷ [])) ≡ if_has has a
    one true e = rw e refl
    one false e = rw e refl
from_more has a (suc n) = step (has a) refl (subst (λ k. passing has (a + 1) (suc n) ≡ passing has (a + 1) n ++ if_has has k) next (from_more has (a + 1) n))
  where
    next : a + 1 + n ≡ a + suc n
    next = omega arith

    step : (b : Bool) → has a ≡ b → passing has (a + 1) (suc n) ≡ passing has (a + 1) n ++ if_has has (a + suc n)
        → map node (filter has (a ∷ range_with_len (a + 1) (suc n))) ≡ map node (filter has (a ∷ range_with_len (a + 1) n)) ++ if_has has (a + suc n)
    step true e rest = rw e (ap (λ l. node a ∷ l) rest)
    step false e rest = rw e rest

pub from_next : (has : ℕ → Bool) (n : ℕ) → passing has 0 (n + 1) ≡ passing has 0 n ++ if_has has n
from_next has n =
    let e : 0 + n ≡ n = omega arith in
    subst (λ k. passing has 0 (n + 1) ≡ passing has 0 n ++ if_has has k) e (rw add-one (from_more has 0 n))

-- where an answer is there, what follows from what it meets
pub follows : {T E : Type 0} (P Q : T → Type 0) → ((x : T) → P x → Q x) → (r : Result T E) → IfOk r P → IfOk r Q
follows P Q h (Ok x) p = h x p
follows P Q h (Err e) p = tt
