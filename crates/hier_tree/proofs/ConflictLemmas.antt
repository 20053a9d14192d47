-- What a conflict says of its nodes, and the nodes that its tries name.
use Rattle.std.proofs.Common.{◌≡◌, ℕ, zero, suc, ◌+◌, ◌<◌, ◌==◌, ◌&&◌, not, Bool, true, false, List, [], ◌∷◌, length, map, get_or, Option, Some, None, All, Contains, refl, sym, ap, ◌∙◌, subst, arith, eq-eqb, eqb-true}
use Rattle.std.specs.Prelude.{nat_lt, filter}
use Rattle.std.specs.List.{range_with_len}
use Rattle.std.proofs.lemmas.Bool.{false≢true, and_parts, and_from, or_left, or_right, not-true}
use Rattle.std.proofs.lemmas.Option.{same_Some}
use Rattle.std.proofs.lemmas.List.Elements.{All-map, filter_passes, Contains-get_or}
use Rattle.std.proofs.lemmas.List.FromFn.{get_or-range_with_len, length-range_with_len}
use Rattle.kaba_base.specs.declared.NodeId.{NodeId}
use Rattle.kaba_base.specs.declared.ClassId.{ClassId}
use Rattle.kaba_bits.specs.Sets.{first_below}
use Rattle.kaba_bits.proofs.SetLemmas.{bit-below}
use Rattle.kaba_bits.proofs.FirstLemmas.{first_below_Some}
use Rattle.kaba_order.specs.Orders.{Ordered, is_le, is_live, is_among}
use Rattle.fact_model.specs.declared.facts.Facts.{Facts}
use Rattle.hier_model.specs.Hierarchies.{Hierarchy, node, origin_of, is_class_node}
use Rattle.hier_model.specs.Edits.{first_unknown}
use Rattle.hier_model.proofs.MergedLemmas.{when_some, when_true}
use Rattle.hier_rules.specs.declared.broken.Broken.{Broken}
use Rattle.hier_rules.specs.declared.broken.Rule.TheVariants.{B9}
use Rattle.hier_rules.specs.Instances.{of_three}
use Rattle.hier_rules.specs.Obligations.{is_class_above, unchained, first_unchained}
use Rattle.hier_tree.specs.declared.Conflict.{Conflict}
use Rattle.hier_tree.specs.Trees.{conflict_of, is_from, nodes_from}

-- two nodes at or above one that are not ordered
pub record IsConflict (H : Hierarchy) (c : Conflict) : Type 0 where
  pub first : is_le H.order c.lower.0 c.first.0 ≡ true
  pub second : is_le H.order c.lower.0 c.second.0 ≡ true
  pub apart : is_le H.order c.first.0 c.second.0 ≡ false
  pub also : is_le H.order c.second.0 c.first.0 ≡ false

pub conflict_says : (F : Facts) (H : Hierarchy) (b : Broken) → first_unchained F H ≡ Some b → IsConflict H (conflict_of b)
conflict_says F H b h =
    let M = length H.order.live in
    let n = first_below_Some (λ n. first_below M (λ x. first_below M (unchained F H n x))) M b h in
    let x = first_below_Some (λ x. first_below M (unchained F H n.0 x)) M b n.2 in
    let y = first_below_Some (unchained F H n.0 x.0) M b x.2 in
    let rest = is_class_above F H n.0 y.0 && nat_lt x.0 y.0 && not (is_le H.order x.0 y.0) && not (is_le H.order y.0 x.0) in
    let test = when_some (is_class_above F H n.0 x.0 && rest) (of_three B9 n.0 x.0 y.0) b y.2 in
    let same : of_three B9 n.0 x.0 y.0 ≡ b = same_Some (of_three B9 n.0 x.0 y.0) b
    (sym (when_true (is_class_above F H n.0 x.0 && rest) (of_three B9 n.0 x.0 y.0) test) ∙ y.2) in
    let p = and_parts (is_class_above F H n.0 x.0) rest test in
    let q = and_parts (is_class_above F H n.0 y.0 && nat_lt x.0 y.0 && not (is_le H.order x.0 y.0)) (not (is_le H.order y.0 x.0)) p.1 in
    let r = and_parts (is_class_above F H n.0 y.0 && nat_lt x.0 y.0) (not (is_le H.order x.0 y.0)) q.0 in
    let s = and_parts (is_class_above F H n.0 y.0) (nat_lt x.0 y.0) r.0 in
    let up = (and_parts (is_class_node F H n.0 && is_class_node F H x.0) (is_le H.order n.0 x.0) p.0).1 in
    let other = (and_parts (is_class_node F H n.0 && is_class_node F H y.0) (is_le H.order n.0 y.0) s.0).1 in
    subst (λ (z : Broken). IsConflict H (conflict_of z)) same
    (record { first = up; second = other; apart = not-true (is_le H.order x.0 y.0) r.1; also = not-true (is_le H.order y.0 x.0) q.1 })

pub from_says : (k : ClassId) (o : Option ClassId) → is_from k o ≡ true → o ≡ Some k
from_says k None h = absurd (false≢true h)
from_says k (Some o) h = let same : o.0 ≡ k.0 = eqb-true o.0 k.0 h in ap (λ n. Some (record { 0 = n })) same

from_test : (k : ClassId) (o : Option ClassId) → o ≡ Some k → is_from k o ≡ true
from_test k o e = ap (is_from k) e ∙ eq-eqb k.0 k.0 refl

among_made : (p : ℕ → Bool) (xs : List ℕ) (x : ℕ) → Contains xs x → p x ≡ true → is_among (map node (filter p xs)) x ≡ true
among_made p [] x h t = absurd (omega (arith, h.1))
among_made p (y ∷ ys) x h t = at (p y) refl h (λ c. among_made p ys x c t)
  where
    at : (b : Bool) → p y ≡ b → Contains (y ∷ ys) x → (Contains ys x → is_among (map node (filter p ys)) x ≡ true)
        → is_among (map node (filter p (y ∷ ys))) x ≡ true
    at true e (zero, lt, same) rest = rw e (or_left (x == y) (is_among (map node (filter p ys)) x) (eq-eqb x y (sym same)))
    at true e (suc i, lt, same) rest = rw e (or_right (x == y) (is_among (map node (filter p ys)) x) (rest (i, omega (arith, lt), same)))
    at false e (zero, lt, same) rest = absurd (false≢true (sym e ∙ ap p same ∙ t))
    at false e (suc i, lt, same) rest = rw e (rest (i, omega (arith, lt), same))

pub some_among : (set : List NodeId) (x : ℕ) → is_among set x ≡ true → 0 < length set
some_among [] x h = absurd (false≢true h)
some_among (s ∷ set) x h = omega arith

pub none_unknown : (o : Ordered) (ns : List NodeId) → All (λ s. is_live o s.0 ≡ true) ns → first_unknown o ns ≡ None
none_unknown o [] all = refl
none_unknown o (n ∷ ns) all = rw (all 0 n (omega arith)) (none_unknown o ns (λ i d lt. all (suc i) d (omega (arith, lt))))

-- the nodes of an origin are live and have it, and each such node is one of them
module _ (H : Hierarchy) (k : ClassId) where
  abbrev has : ℕ → Bool
  has n = is_live H.order n && is_from k (origin_of H n)

  passes : All (λ n. has n ≡ true) (filter has (range_with_len 0 (length H.order.live)))
  passes = filter_passes has (range_with_len 0 (length H.order.live))

  abbrev get_at : ℕ → ℕ → ℕ
  get_at i d = get_or (filter has (range_with_len 0 (length H.order.live))) i d

  pub from_live : All (λ (s : NodeId). is_live H.order s.0 ≡ true) (nodes_from H k)
  from_live = All-map (λ (s : NodeId). is_live H.order s.0 ≡ true) node (filter has (range_with_len 0 (length H.order.live)))
      (λ i d lt. (and_parts (is_live H.order (get_at i d)) (is_from k (origin_of H (get_at i d))) (passes i d lt)).0)

  pub from_origin : All (λ (s : NodeId). origin_of H s.0 ≡ Some k) (nodes_from H k)
  from_origin = All-map (λ (s : NodeId). origin_of H s.0 ≡ Some k) node (filter has (range_with_len 0 (length H.order.live)))
      (λ i d lt. from_says k (origin_of H (get_at i d)) (and_parts (is_live H.order (get_at i d)) (is_from k (origin_of H (get_at i d))) (passes i d lt)).1)

  pub from_has : (x : ℕ) → is_live H.order x ≡ true → origin_of H x ≡ Some k → is_among (nodes_from H k) x ≡ true
  from_has x live origin =
      let lt = bit-below H.order.live x live in
      let from_zero : 0 + x ≡ x = omega arith in
      let there : Contains (range_with_len 0 (length H.order.live)) x =
      subst (λ z. Contains (range_with_len 0 (length H.order.live)) z) (get_or-range_with_len 0 (length H.order.live) x 0 lt ∙ from_zero)
      (Contains-get_or (range_with_len 0 (length H.order.live)) x 0 (omega (arith, lt, length-range_with_len 0 (length H.order.live)))) in
      among_made has (range_with_len 0 (length H.order.live)) x there
      (and_from (is_live H.order x) (is_from k (origin_of H x)) live (from_test k (origin_of H x) origin))
