-- Where no name is broken, the types of live nodes and the members that stand have names of the text.
use Rattle.std.proofs.Common.{◌≡◌, ℕ, ◌&&◌, Bool, true, false, length, Option, Some, None, refl, sym, ap, ◌∙◌, subst}
use Rattle.std.specs.Prelude.{not}
use Rattle.std.proofs.lemmas.Bool.{false≢true, and_from, eqb-true}
use Rattle.kaba_base.specs.Words.{is_name}
use Rattle.kaba_base.specs.declared.NodeId.{NodeId}
use Rattle.kaba_bits.specs.Sets.{or_else, first_below}
use Rattle.kaba_bits.proofs.FirstLemmas.{first_below_None, or_else-None, when-None}
use Rattle.kaba_bits.proofs.SetLemmas.{bit-below}
use Rattle.kaba_order.specs.Orders.{is_live}
use Rattle.fact_model.specs.Items.{column_kind}
use Rattle.fact_model.specs.declared.facts.Facts.{Facts}
use Rattle.fact_model.specs.declared.facts.ColKind.{ColKind}
use Rattle.fact_model.specs.declared.facts.ColKind.TheVariants.{Fld, Dcl, Def, Is}
use Rattle.fact_model.specs.declared.sets.PointsTo.{PointsTo}
use Rattle.fact_model.proofs.RangeLemmas.{column-below}
use Rattle.hier_model.specs.Hierarchies.{Hierarchy, place_of_column, is_at, stands_at, is_method, type_name, member_name}
use Rattle.hier_rules.specs.declared.broken.Rule.TheVariants.{B8}
use Rattle.hier_rules.specs.Instances.{of_column, of_node}
use Rattle.hier_rules.specs.Names.{is_member, unwritable_type, is_unwritable, unwritable}
use Rattle.hier_rules.specs.First.{first_broken}
use Rattle.hier_laws.proofs.Unbroken.{none_broken}

passes : (b c : Bool) → b ≡ true → (b && not c) ≡ false → c ≡ true
passes true true e h = refl
passes true false e h = sym h
passes false c e h = absurd (false≢true e)

pub method_member : (k : ColKind) → is_method k ≡ true → is_member k ≡ true
method_member Fld h = refl
method_member Dcl h = refl
method_member Def h = refl
method_member Is h = h

module _ (F : Facts) (pt : PointsTo) (H : Hierarchy) (none : first_broken F pt H ≡ None) where
  at_node : (n : ℕ) → is_live H.order n ≡ true
      → (unwritable_type F H n ≡ None) × (first_below (length F.columns.items) (unwritable F H n) ≡ None)
  at_node n live =
      or_else-None (unwritable_type F H n) (first_below (length F.columns.items) (unwritable F H n))
      (first_below_None (λ n. or_else (unwritable_type F H n) (first_below (length F.columns.items) (unwritable F H n))) (length H.order.live) n
      (none_broken F pt H none).names.written (bit-below H.order.live n live))

  -- the name of a live node
  pub type_written : (n : ℕ) → is_live H.order n ≡ true → is_name (type_name H n) ≡ true
  type_written n live =
      let x = type_name H n in
      passes (is_live H.order n) (is_name x) live (when-None (is_live H.order n && not (is_name x)) (of_node B8 n) (at_node n live).0)

  module _ (placed : (c : ℕ) (p : NodeId) → place_of_column H c ≡ Some p → is_live H.order p.0 ≡ true) where
    live_there : (n c : ℕ) → stands_at H n c ≡ true → is_live H.order n ≡ true
    live_there n c h = go (place_of_column H c) refl h
      where
        go : (o : Option NodeId) → place_of_column H c ≡ o → is_at n o ≡ true → is_live H.order n ≡ true
        go None e d = absurd (false≢true d)
        go (Some p) e d = subst (λ z. is_live H.order z ≡ true) (eqb-true p.0 n d) (placed c p e)

    -- the name of a member that stands somewhere
    pub member_written : (n c : ℕ) → stands_at H n c ≡ true → is_member (column_kind F c) ≡ true → is_name (member_name H c) ≡ true
    member_written n c at kind =
        let x = member_name H c in
        let below = column-below F c (column_kind F c) refl (λ e. false≢true (sym (ap is_member e) ∙ kind)) in
        let no = first_below_None (unwritable F H n) (length F.columns.items) c (at_node n (live_there n c at)).1 below in
        passes (stands_at H n c && is_member (column_kind F c)) (is_name x) (and_from (stands_at H n c) (is_member (column_kind F c)) at kind)
        (when-None (is_unwritable F H n c) (of_column B8 n c) no)
