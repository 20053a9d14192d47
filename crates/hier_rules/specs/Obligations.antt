-- Believed. The obligations B2 to B7 and B9: for each the first instance against it, in the order in which they are
-- asked.
use Rattle.std.specs.Prelude.{ℕ, ◌==◌, ◌&&◌, ◌||◌, nat_lt, Bool, false, not, length, cond, Option, Some, None}
use Rattle.std.specs.Option.{option_and_then}
use Rattle.kaba_base.specs.declared.NodeId.{NodeId}
use Rattle.kaba_bits.specs.Sets.{bit, row, or_else, first_below, when}
use Rattle.kaba_order.specs.Orders.{Ordered, is_le, differ}
use Rattle.fact_model.specs.Items.{site_class, site_row, row_class, column_kind, column_class, column_slot}
use Rattle.fact_model.specs.Classes.{is_def, below, finds}
use Rattle.fact_model.specs.declared.facts.Facts.{Facts}
use Rattle.fact_model.specs.declared.sets.PointsTo.{PointsTo}
use Rattle.hier_model.specs.Hierarchies.{Hierarchy, place_of_column, place_of_row, stands_at, is_offered, any_below, is_class_node}
use Rattle.hier_model.specs.Edits.{is_one_slot}
use Rattle.hier_rules.specs.declared.broken.Broken.{Broken}
use Rattle.hier_rules.specs.declared.broken.Rule.TheVariants.{B2, B3, B4, B5, B6, B7, B9}
use Rattle.hier_rules.specs.Asked.{is_tie, is_super, is_called, slots_of, is_other_body, meets, places_of}
use Rattle.hier_rules.specs.Instances.{of_both, of_row, of_column, of_three}

-- whether a place is strictly above the node n
abbrev pub is_strictly_above : Ordered → ℕ → Option NodeId → Bool
is_strictly_above o n None = false
is_strictly_above o n (Some p) = is_le o n p.0 && not (n == p.0)

-- whether one place is at or below another
abbrev pub is_below : Ordered → Option NodeId → Option NodeId → Bool
is_below o None q = false
is_below o (Some p) None = false
is_below o (Some p) (Some q) = is_le o p.0 q.0

module _ (H : Hierarchy) where
  -- whether the row r stands at or below the row v
  abbrev pub row_le : ℕ → ℕ → Bool
  row_le r v = is_le H.order (place_of_row H r) (place_of_row H v)

  -- whether the column c stands at or below the column d
  abbrev pub column_le : ℕ → ℕ → Bool
  column_le c d = is_below H.order (place_of_column H c) (place_of_column H d)

  -- whether the column c stands strictly above the node n
  abbrev pub is_above : ℕ → ℕ → Bool
  is_above n c = is_strictly_above H.order n (place_of_column H c)

module _ (F : Facts) (H : Hierarchy) where
  -- the node of a site
  abbrev pub place_of_site : ℕ → ℕ
  place_of_site s = place_of_row H (site_row F s)

  -- B2: each row is offered all its columns
  abbrev pub unoffered : ℕ → ℕ → Option Broken
  unoffered r c = when (bit (row H.table r) c && not (is_offered H (place_of_row H r) c)) (of_both B2 (place_of_row H r) r c)

  -- the first instance against B2, by row and column
  abbrev pub first_unoffered : Option Broken
  first_unoffered = first_below (length F.rows.items) (λ r. first_below (length F.columns.items) (unoffered r))

  -- B3: for each tie the lower stands at or below the upper
  abbrev pub untied : ℕ → ℕ → Option Broken
  untied l u = when (is_tie F l u && not (row_le H l u)) (of_row B3 (place_of_row H l) (place_of_row H u) l)

  -- whether e is another body of the slot of d, is offered at a node, and stands at or below d
  abbrev pub is_nearer : ℕ → ℕ → ℕ → Bool
  is_nearer n d e = is_other_body F d e && is_offered H n e && column_le H e d

  -- whether some other body that a node offers is nearer than d
  abbrev pub has_nearer : ℕ → ℕ → Bool
  has_nearer n d = any_below (length F.columns.items) (is_nearer n d)

  -- B4: for each need the body is offered, and no other body of the slot that is offered there stands at or below it
  abbrev pub wrong_body : ℕ → ℕ → Option Broken
  wrong_body s d = when (not (is_offered H (place_of_site s) d) || has_nearer (place_of_site s) d) (of_both B4 (place_of_site s) (site_row F s) d)

  -- whether e is another body of the slot of d, stands strictly above the row r, and at or below d or in the class of r
  abbrev pub is_between : ℕ → ℕ → ℕ → Bool
  is_between r d e = is_other_body F d e && is_above H (place_of_row H r) e && (column_le H e d || (column_class F e == row_class F r))

  -- whether some other body is between the row r and d
  abbrev pub has_between : ℕ → ℕ → Bool
  has_between r d = any_below (length F.columns.items) (is_between r d)

  -- B5: the body that a super call runs stands strictly above the method of the call, and no other body of the slot is between
  abbrev pub wrong_super : ℕ → ℕ → Option Broken
  wrong_super r c = when (is_super F r c && (not (is_above H (place_of_row H r) c) || has_between r c)) (of_both B5 (place_of_row H r) r c)

  -- the first instance against B5, by row and column
  abbrev pub first_wrong_super : Option Broken
  first_wrong_super = first_below (length F.rows.items) (λ r. first_below (length F.columns.items) (wrong_super r))

  -- whether a body stands at a node
  abbrev pub is_body_at : ℕ → ℕ → Bool
  is_body_at n c = stands_at H n c && is_def (column_kind F c)

  -- B6: no node has two bodies of one slot
  abbrev pub two_bodies : ℕ → ℕ → ℕ → Option Broken
  two_bodies n c d = when (is_body_at n c && (is_body_at n d && nat_lt c d && is_one_slot (column_slot F c) (column_slot F d))) (of_column B6 n d)

  -- the first instance against B6, by node and columns
  abbrev pub first_two_bodies : Option Broken
  first_two_bodies = first_below (length H.order.live) (λ n. first_below (length F.columns.items) (λ c. first_below (length F.columns.items) (two_bodies n c)))

  -- whether a class node is at or above another
  abbrev pub is_class_above : ℕ → ℕ → Bool
  is_class_above n x = is_class_node F H n && is_class_node F H x && is_le H.order n x

  -- B9: the class nodes at or above each class node form a chain
  abbrev pub unchained : ℕ → ℕ → ℕ → Option Broken
  unchained n x y = when (is_class_above n x && (is_class_above n y && nat_lt x y && not (is_le H.order x y) && not (is_le H.order y x))) (of_three B9 n x y)

  -- the first instance against B9, by node and then the two above it
  abbrev pub first_unchained : Option Broken
  first_unchained = first_below (length H.order.live) (λ n. first_below (length H.order.live) (λ x. first_below (length H.order.live) (unchained n x)))

module _ (F : Facts) (pt : PointsTo) (H : Hierarchy) where
  -- B3: and each site in the set of a row stands at or below the row
  abbrev pub unheld : ℕ → ℕ → Option Broken
  unheld o v = when (bit (row pt.rows.items v) o && not (row_le H (site_row F o) v)) (of_row B3 (place_of_site F H o) (place_of_row H v) (site_row F o))

  -- the first instance against B3: the ties before the sites
  abbrev pub first_untied : Option Broken
  first_untied = or_else
      (first_below (length F.rows.items) (λ l. first_below (length F.rows.items) (untied F H l)))
      (first_below (length F.sites.items) (λ o. first_below (length F.rows.items) (unheld o)))

  -- the instance against B4 of a site and a slot, where some call of the slot may meet the site
  abbrev pub wrong_need : ℕ → ℕ → Option Broken
  wrong_need s x = cond (is_called F pt s x) (option_and_then (wrong_body F H s) (finds F (site_class F s) x)) None

  -- the first instance against B4, by site and slot
  abbrev pub first_wrong_need : Option Broken
  first_wrong_need = first_below (length F.sites.items) (λ s. first_below (slots_of F) (wrong_need s))

  -- B7: a site that meets a target stands at or below its node exactly where its class is a subtype of the target's
  abbrev pub wrong_outcome : ℕ → ℕ → ℕ → Option Broken
  wrong_outcome p t s =
      when
      (meets F pt p t s && differ (row_le H (site_row F s) t) (below F (site_class F s) (row_class F t)))
      (of_row B7 (place_of_site F H s) (place_of_row H t) (site_row F s))

  -- the first at a place
  abbrev pub first_wrong_of_place : ℕ → Option Broken
  first_wrong_of_place p = first_below (length F.rows.items) (λ t. first_below (length F.sites.items) (wrong_outcome p t))

  -- the first instance against B7, by the place of the test or the store
  abbrev pub first_wrong_outcome : Option Broken
  first_wrong_outcome = first_below (places_of F) first_wrong_of_place
