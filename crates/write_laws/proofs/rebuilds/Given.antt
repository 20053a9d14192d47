-- What the proofs rest on: a formed program with its facts, a hierarchy that breaks no obligation, and a formed program to which the written tree resolves.
use Rattle.std.proofs.Common.{◌≡◌, ℕ, ◌&&◌, true, Option, Some, None, refl, sym, ap, ◌∙◌, subst}
use Rattle.std.specs.Prelude.{length, slice_get}
use Rattle.std.proofs.lemmas.Bool.{false≢true, and_from, or_left, eqb-true, eq-eqb}
use Rattle.std.proofs.lemmas.Option.{slice_get_within}
use Rattle.kaba_base.specs.declared.NodeId.{NodeId}
use Rattle.kaba_order.specs.Orders.{is_le, is_live}
use Rattle.java_core.specs.Programs.{Plain}
use Rattle.java_core.specs.Formed.{IsFormed}
use Rattle.name_rules.specs.Resolves.{Resolves}
use Rattle.fact_model.specs.Items.{column_kind}
use Rattle.fact_model.specs.declared.facts.Facts.{Facts}
use Rattle.fact_model.specs.declared.sets.PointsTo.{PointsTo}
use Rattle.hier_model.specs.Hierarchies.{Hierarchy, IsHierarchyOf, place_of_column, is_at, is_above, stands_at, is_offered, is_of_class, has_class_member, has_object, is_class_node}
use Rattle.hier_model.proofs.AnyLemmas.{any_below_has}
use Rattle.hier_rules.specs.First.{first_broken}
use Rattle.flow_rules.specs.declared.items.ColumnItem.{ColumnItem}
use Rattle.flow_rules.specs.Numbered.{columns_of}
use Rattle.flow_rules.specs.Facts.{numbers, column_info, kind_of, IsFactsOf}
use Rattle.flow_rules.proofs.Listed.{at_map, map_at}
use Rattle.flow_rules.proofs.NumberedItems.{numbered_columns}
use Rattle.rebuild_model.specs.Renaming.{Places, Renaming, renaming_of}
use Rattle.rebuild_model.specs.Members.{StandsAt}
use Rattle.rebuild_laws.specs.looks.Known.{AreItemColumns}
use Rattle.rebuild_laws.proofs.given.Given.{columns as columns_are}
use Rattle.write_model.specs.Written.{java_tree}
use Rattle.write_laws.proofs.rebuilds.Nodes.{items, places}

pub record Given (P : Plain) (F : Facts) (pt : PointsTo) (H : Hierarchy) (V : Plain) : Type 0 where
  pub formed : IsFormed P
  pub facts : IsFactsOf P F
  pub hierarchy : IsHierarchyOf F H
  pub unbroken : first_broken F pt H ≡ None
  pub resolves : Resolves (java_tree P F H) V
  pub new : IsFormed V

module _ {P : Plain} {F : Facts} {pt : PointsTo} {H : Hierarchy} {V : Plain} (G : Given P F pt H V) where
  abbrev pub T : Places
  T = places P F H V G.resolves G.new

  abbrev pub R : Renaming
  R = renaming_of P H T

  abbrev pub Stands : ColumnItem → ℕ → Type 0
  Stands i n = StandsAt P F H V T i n

  pub columns : AreItemColumns P F
  columns = columns_are P G.formed F G.facts

  pub at_from : (n : ℕ) (o : Option NodeId) → is_at n o ≡ true → (p : NodeId) × (o ≡ Some p) × (p.0 ≡ n)
  at_from n None h = absurd (false≢true h)
  at_from n (Some p) h = (p, refl, eqb-true p.0 n h)

  -- a column in the tree, and the same as an item that stands at the node
  pub record IsColumnAt (i : ColumnItem) (n : ℕ) : Type 0 where
    pub number : ℕ
    pub item : slice_get (items P F H) number ≡ Some i
    pub info : slice_get F.columns.items number ≡ Some (column_info P i)
    pub at : stands_at H n number ≡ true
    pub live : is_live H.order n ≡ true
    pub numbered : (numbers P).column i ≡ Some number

  pub stands_from : (c : ℕ) (i : ColumnItem) (n : ℕ) → slice_get (items P F H) c ≡ Some i → stands_at H n c ≡ true → Stands i n
  unfolding numbers
  stands_from c i n e h =
      let z = map_at (λ c. c.item) (columns_of P) c i e in
      let p = at_from n (place_of_column H c) h in
      record { number = c; numbered = ap (λ j. (numbers P).column j) (sym z.2) ∙ (numbered_columns P).back c z.0 z.1; place = p.0; placed = p.1; at = p.2 }

  pub column_there : (i : ColumnItem) (n : ℕ) → Stands i n → IsColumnAt i n
  unfolding numbers
  column_there i n s =
      let x = (numbered_columns P).at i s.number s.numbered in
      record {
        number = s.number;
        item = at_map (λ c. c.item) (columns_of P) s.number x.0 x.1 ∙ ap Some x.2;
        info = ap (λ w. slice_get w s.number) G.facts.columns ∙ at_map (λ c. column_info P c.item) (columns_of P) s.number x.0 x.1
            ∙ ap (λ j. Some (column_info P j)) x.2;
        at = ap (is_at n) s.placed ∙ eq-eqb s.place.0 n s.at;
        live = subst (λ z. is_live H.order z ≡ true) s.at (G.hierarchy.placed.columns s.number s.place s.placed);
        numbered = s.numbered;
      }

  pub offered_there : (n c : ℕ) → is_live H.order n ≡ true → stands_at H n c ≡ true → is_offered H n c ≡ true
  offered_there n c live h =
      let p = at_from n (place_of_column H c) h in
      ap (is_above H.order n) p.1 ∙ subst (λ z. is_le H.order n z ≡ true) (sym p.2) (G.hierarchy.sized.order.reflexive n live)

  -- where a field or a body stands is a class node
  pub class_there : (i : ColumnItem) (n : ℕ) → Stands i n → is_of_class (kind_of i) ≡ true → is_class_node F H n ≡ true
  class_there i n s k =
      let c = column_there i n s in
      or_left (has_class_member F H n) (has_object F H n)
      (any_below_has (λ c. is_of_class (column_kind F c) && is_offered H n c) (length F.columns.items) c.number
      (slice_get_within F.columns.items c.number (column_info P i) c.info)
      (and_from (is_of_class (column_kind F c.number)) (is_offered H n c.number) (ap is_of_class (columns.kind i c.number c.numbered) ∙ k)
      (offered_there n c.number c.live c.at)))
