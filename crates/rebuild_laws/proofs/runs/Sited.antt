-- What the creations of a program make in the program that rebuilds it, which fields their objects keep, and which numbers these have.
use Rattle.std.proofs.Common.{◌≡◌, ℕ, ◌<◌, Option, Some, None, length, refl, ap, ◌∙◌, subst}
use Rattle.std.specs.Prelude.{Bool, true, false, ◌==◌}
use Rattle.std.specs.Option.{option_map_or, unwrap_or}
use Rattle.std.proofs.lemmas.Bool.{false≢true, and_right}
use Rattle.kaba_base.specs.declared.NodeId.{NodeId}
use Rattle.kaba_bits.specs.Sets.{bit, row as bits}
use Rattle.kaba_order.specs.Orders.{is_le}
use Rattle.java_core.specs.declared.Ty.{Ty}
use Rattle.java_core.specs.declared.TyBase.{TyBase}
use Rattle.java_core.specs.declared.TyBase.TheVariants.{Int, Boolean, Char, Str, Class}
use Rattle.java_core.specs.Programs.{Plain}
use Rattle.java_core.specs.Classes.{member_field}
use Rattle.java_core.specs.Types.{is_sub_base, is_subtype}
use Rattle.java_meaning.specs.Moment.{Kind, an_array, own_type}
use Rattle.java_meaning.specs.Meaning.{words_type}
use Rattle.fact_model.specs.Items.{site_row, point_row}
use Rattle.fact_model.specs.InRange.{InRange}
use Rattle.fact_model.specs.InOrder.{InOrder}
use Rattle.fact_model.specs.Flowing.{AreSets, by_point}
use Rattle.fact_model.specs.Entries.{IsTable}
use Rattle.fact_model.specs.declared.facts.Facts.{Facts}
use Rattle.fact_model.specs.declared.sets.PointsTo.{PointsTo}
use Rattle.fact_model.specs.declared.sets.Table.{Table}
use Rattle.fact_model.proofs.EntryLemmas.{site_entry}
use Rattle.hier_model.specs.Hierarchies.{Hierarchy, place_of_column, place_of_row}
use Rattle.flow_rules.specs.declared.items.ObjectType.{ObjectType}
use Rattle.flow_rules.specs.declared.items.Operand.{Operand}
use Rattle.flow_rules.specs.declared.items.ColumnItem.TheVariants as column
use Rattle.flow_rules.specs.Operands.{object_of, object_in}
use Rattle.flow_rules.specs.Lists.{point_at, site_in}
use Rattle.flow_rules.specs.Facts.{numbers}
use Rattle.flow_laws.specs.cover.Covers.{point_sites, at_point, solved, passes}
use Rattle.flow_laws.proofs.cover.Kinded.{site_type}
use Rattle.rebuild_laws.specs.looks.Known.{KnownOfBoth, Offers, sides}
use Rattle.rebuild_laws.specs.types.Laws.{IsRebuildable}
use Rattle.hier_rules.specs.First.{first_broken}
use Rattle.rebuild_laws.proofs.looks.Nodes.{offers_own}
use Rattle.rebuild_laws.proofs.looks.Fields as fields
use Rattle.rebuild_laws.proofs.looks.Fields.{finds_field, one_field}
use Rattle.rebuild_laws.proofs.given.Rest.{half}
use Rattle.rebuild_laws.proofs.given.Needed as needed
use Rattle.rebuild_laws.proofs.runs.Ties.{type_at, type_over}

-- what a test of an option found
pub some_test : {A : Type 0} (o : Option A) (f : A → Bool) → option_map_or f o false ≡ true → (a : A) × (o ≡ Some a) × (f a ≡ true)
some_test None f e = absurd (false≢true e)
some_test (Some a) f e = (a, refl, e)

-- a type with a class is no subtype of one without, nor the other way round
class_free : (P : Plain) (b : TyBase) (d : ℕ) (t : ObjectType) → object_in b d ≡ None → is_sub_base P b (Class t.class) ≡ false
class_free P Int d t e = refl
class_free P Boolean d t e = refl
class_free P Char d t e = refl
class_free P Str d t e = refl
class_free P (Class c) d t e = absurd (cc)

pub free_apart : (P : Plain) (s : Ty) (t : ObjectType) → object_of s ≡ None → is_subtype P s (type_at t) ≡ false
free_apart P s t e = and_right (s.dim == t.dim) (is_sub_base P s.base (Class t.class)) (class_free P s.base s.dim t e)

-- what a program is rebuilt from: it is ready with its facts, their sets and their table, and the hierarchy is that of the table
pub record IsGiven (P : Plain) (F : Facts) (H : Hierarchy) (pt : PointsTo) (t : Table) : Type 0 where
  pub ready : IsRebuildable P F pt t H
  pub table : H.table ≡ t.rows.items

module _ {P : Plain} {F : Facts} {H : Hierarchy} {W : Plain} (K : KnownOfBoth P F H W) (t : Table) where
  open sides K use {places as T, renaming as R}

  -- the node of a site
  abbrev pub node_of : ℕ → ℕ
  node_of s = place_of_row H (site_row F s)

  -- what a creation makes: of its site's type, over the class of the site's node; what has no class is the same
  pub record MadeAs (o : Option ℕ) (k l : Kind) : Type 0 where
    pub sited : (s : ℕ) → site_in (numbers P) o ≡ Some s
        → (own_type k ≡ type_at (site_type F s)) × (own_type l ≡ type_over (T.type_of (node_of s)) (site_type F s))
    pub free : site_in (numbers P) o ≡ None → (object_of (own_type k) ≡ None) × (l ≡ k)

  -- the fields that the row of a site has
  abbrev pub has_in : ℕ → ℕ → Bool
  has_in s f = option_map_or (λ c. bit (bits t.rows.items (site_row F s)) c) ((numbers P).column (column.Fld f)) false

  abbrev pub has : Option ℕ → ℕ → Bool
  has o f = option_map_or (λ s. has_in s f) (site_in (numbers P) o) false

  -- the new number of a field: found where it stands
  abbrev pub found_at : ℕ → ℕ → ℕ
  found_at n f = unwrap_or (member_field W (T.type_of n) (R.field_name f)) 0

  unfoldable pub new_field : ℕ → ℕ
  new_field f = option_map_or (λ c. option_map_or (λ (p : NodeId). found_at p.0 f) (place_of_column H c) 0) ((numbers P).column (column.Fld f)) 0

  pub new_field_is : (f n : ℕ) (o : Offers K n (column.Fld f)) → new_field f ≡ (fields.new_field K f o.node o.stands).0
  unfolding new_field
  new_field_is f n o =
      let own = offers_own K o.node (column.Fld f) o.stands in
      ap (λ z. option_map_or (λ c. option_map_or (λ (p : NodeId). found_at p.0 f) (place_of_column H c) 0) z 0) o.stands.numbered
      ∙ ap (λ z. option_map_or (λ (p : NodeId). found_at p.0 f) z 0) o.stands.placed
      ∙ ap (λ z. found_at z f) o.stands.at ∙ ap (λ z. unwrap_or z 0) (finds_field K f o.node own)
      ∙ one_field K f (fields.new_field K f own.node own.stands).0 (fields.new_field K f o.node o.stands).0
      (fields.new_field K f own.node own.stands).1 (fields.new_field K f o.node o.stands).1

  -- the words
  pub words_made : MadeAs None (an_array words_type) (an_array words_type)
  words_made = record { sited = λ s e. absurd (cc); free = λ e. (refl, refl) }

  module _ (pt : PointsTo) (A : InRange F) (O : InOrder F) (S : AreSets F pt) (B : IsTable F t) (table : H.table ≡ t.rows.items)
      (none : first_broken F pt H ≡ None) where
    -- a field that a site's row has is offered at the site's node
    pub has_offered : (s f : ℕ) → has_in s f ≡ true → Offers K (node_of s) (column.Fld f)
    has_offered s f e =
        let c = some_test ((numbers P).column (column.Fld f)) (λ c. bit (bits t.rows.items (site_row F s)) c) e in
        needed.offers_item K (node_of s) c.0 (column.Fld f) c.1 ((half F pt t A O S B H table none).offered (site_row F s) c.0 c.2)

    -- a site that an operand meets is at a point of the operand's row
    pub record IsMet (b : Operand) (s : ℕ) : Type 0 where
      pub point : ℕ
      pub point_is : point_at (numbers P) b ≡ Some point
      pub held : bit (bits pt.points.items point) s ≡ true

    pub met_at : (b : Operand) (s : ℕ) → point_sites P F (solved pt) b s ≡ true → IsMet b s
    met_at b s e = go (point_at (numbers P) b) refl e
      where
        go : (o : Option ℕ) → point_at (numbers P) b ≡ o → at_point P F (solved pt) o s ≡ true → IsMet b s
        go None d e = absurd (false≢true e)
        go (Some q) d e = record { point = q; point_is = d; held = e }

    pub met_passing : (b : Operand) (o : Option ℕ) (s : ℕ) → site_in (numbers P) o ≡ Some s
        → passes (point_sites P F (solved pt) b) (site_in (numbers P) o) ≡ true → IsMet b s
    met_passing b o s e q = met_at b s (subst (λ z. passes (point_sites P F (solved pt) b) z ≡ true) e q)

    -- so it is in the set of the row
    pub in_row : (q s : ℕ) → q < length F.points.items → bit (bits pt.points.items q) s ≡ true → bit (bits pt.rows.items (point_row F q)) s ≡ true
    in_row q s lt e = (S.rows (point_row F q) s).1 (by_point q s lt ((S.points q s).0 e))

    -- and stands at or below it
    pub below_row : (q s : ℕ) → q < length F.points.items → bit (bits pt.points.items q) s ≡ true
        → is_le H.order (node_of s) (place_of_row H (point_row F q)) ≡ true
    below_row q s lt e = (half F pt t A O S B H table none).held s (point_row F q) (in_row q s lt e)

    -- and its row has all that the row has
    pub row_has : (q s c : ℕ) → q < length F.points.items → bit (bits pt.points.items q) s ≡ true → bit (bits t.rows.items (point_row F q)) c ≡ true
        → bit (bits t.rows.items (site_row F s)) c ≡ true
    row_has q s c lt e h = site_entry F t B pt S (point_row F q) s (in_row q s lt e) c h
