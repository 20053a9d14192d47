-- What is known of the nodes of a hierarchy, at first and after a join.
use Rattle.std.proofs.Common.{◌≡◌, ℕ, ◌<◌, ◌&&◌, ◌||◌, ◌==◌, true, false, List, Bool, length, refl, sym, ◌∙◌, ⊎_elim}
use Rattle.std.proofs.lemmas.Bool.{cases_Bool, false≢true, false_from_ne_true, and_parts, and_from}
use Rattle.kaba_base.specs.declared.NodeId.{NodeId}
use Rattle.kaba_base.proofs.TestLemmas.{same_truth}
use Rattle.kaba_bits.specs.Sets.{bit, IsEmpty}
use Rattle.kaba_order.specs.Orders.{is_le, is_live, is_among, is_below_some, IsPartialOrder}
use Rattle.fact_model.specs.Items.{site_at, site_row, column_kind}
use Rattle.fact_model.specs.declared.facts.Facts.{Facts}
use Rattle.hier_model.specs.Hierarchies.{Hierarchy, IsHierarchyOf, place_of_row, is_offered, is_of_class, has_class_member, has_object, is_class_node}
use Rattle.hier_model.specs.Classes.{AreClassNodes, AreClassNodesBut}
use Rattle.hier_model.proofs.ClassLemmas.{class_dead, class_within}
use Rattle.hier_rules.specs.declared.kept.KnownNodes.{KnownNodes}
use Rattle.hier_rules.specs.Chains.{AreKnown}
use Rattle.hier_rules.proofs.AfterLemmas.{IsJoin}
use Rattle.hier_rules.proofs.LocalLemmas.{IsLocal, any_rest, or_more, class_before}

-- at first nothing
pub none_known : (F : Facts) (H : Hierarchy) → IsPartialOrder H.order → (known : KnownNodes)
    → (length known.chained ≡ length H.order.live) × IsEmpty known.chained
    → (length known.classes ≡ length H.order.live) × IsEmpty known.classes
    → (length known.unasked ≡ length H.order.live) × ((n : ℕ) → n < length H.order.live → bit known.unasked n ≡ true) → AreKnown F H known
none_known F H P known chained classes unasked = record {
  chained = record { width = chained.0; each = λ n h. absurd (false≢true (sym (chained.1 n) ∙ h)) };
  classes = record {
    unasked_width = unasked.0;
    width = classes.0;
    exact = λ n off. classes.1 n ∙ sym (false_from_ne_true (is_class_node F H n)
        (λ h. false≢true (sym off ∙ unasked.1 n (class_within F H P n h))));
  };
}

-- of two that are not one there is none
pub neither : (x y : Bool) → (x || y) ≡ false → (x ≡ false) × (y ≡ false)
neither false y h = (refl, h)
neither true y h = absurd (false≢true (sym h))

-- where all were asked
pub all_asked : (F : Facts) (H : Hierarchy) (unasked nodes : List Bool) → length unasked ≡ length H.order.live → AreClassNodes F H nodes
    → AreClassNodesBut F H unasked nodes
all_asked F H unasked nodes width are = record { unasked_width = width; width = are.width; exact = λ n off. are.exact n }

module _ (F : Facts) (H K : Hierarchy) (set : List NodeId) (J : IsJoin set H K) where
  -- a class node that a join leaves stays one
  class_stays : (n : ℕ) → is_live K.order n ≡ true → is_class_node F H n ≡ true → is_class_node F K n ≡ true
  class_stays n on h =
      or_more (has_class_member F H n) (has_object F H n) (has_class_member F K n) (has_object F K n)
      (any_rest (λ c. is_of_class (column_kind F c) && is_offered H n c) (λ c. is_of_class (column_kind F c) && is_offered K n c) (length F.columns.items)
      (λ c t.
      let p = and_parts (is_of_class (column_kind F c)) (is_offered H n c) t in
      and_from (is_of_class (column_kind F c)) (is_offered K n c) p.0 (J.offers_on n c on p.1)))
      (any_rest (λ s. ((site_at F s).dim == 0) && is_le H.order n (place_of_row H (site_row F s)))
      (λ s. ((site_at F s).dim == 0) && is_le K.order n (place_of_row K (site_row F s))) (length F.sites.items)
      (λ s t.
      let p = and_parts ((site_at F s).dim == 0) (is_le H.order n (place_of_row H (site_row F s))) t in
      and_from ((site_at F s).dim == 0) (is_le K.order n (place_of_row K (site_row F s))) p.0 (J.under n (site_row F s) on p.1)))
      h

  -- of a node that is at or below none of those that were joined, and none of them, it stays true whether it is a class node
  class_same : IsHierarchyOf F K → IsPartialOrder H.order → (roots : List NodeId) → IsLocal roots H K → (n : ℕ)
      → is_below_some K.order roots n ≡ false → is_among set n ≡ false → is_class_node F H n ≡ is_class_node F K n
  class_same fit P roots local n low out =
      ⊎_elim
      (λ on. same_truth (is_class_node F H n) (is_class_node F K n) (class_stays n on) (class_before F H K fit roots local n on low))
      (λ off.
      class_dead F H P n (false_from_ne_true (is_live H.order n) (λ h. false≢true (sym off ∙ J.stay n out h)))
      ∙ sym (class_dead F K fit.sized.order n off))
      (cases_Bool (is_live K.order n))

  pub classes_left : IsHierarchyOf F K → IsPartialOrder H.order → (roots : List NodeId) → IsLocal roots H K → (unasked new nodes : List Bool)
      → AreClassNodesBut F H unasked nodes → length new ≡ length unasked
      → ((n : ℕ) → bit new n ≡ false → (bit unasked n ≡ false) × (is_below_some K.order roots n ≡ false) × (is_among set n ≡ false))
      → AreClassNodesBut F K new nodes
  classes_left fit P roots local unasked new nodes are len off = record {
    unasked_width = len ∙ (are.unasked_width ∙ sym J.count);
    width = are.width ∙ sym J.count;
    exact = λ n h. let o = off n h in are.exact n o.0 ∙ class_same fit P roots local n o.1 o.2;
  }
