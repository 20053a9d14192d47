-- Facts that are the same, some lists of them read as sets: what is looked up in them is the same.
use Rattle.std.proofs.Common.{◌≡◌, ℕ, zero, suc, false, ◌||◌, List, [], ◌++◌, length, Contains, None, refl, sym, ap, ◌∙◌, subst}
use Rattle.std.specs.Prelude.{◌==◌, position, slice_index_or, slice_get, option_and_then}
use Rattle.std.specs.Option.{option_map_or, option_to_list}
use Rattle.std.specs.List.{list_any}
use Rattle.std.proofs.lemmas.List.{length-map}
use Rattle.kaba_bits.specs.Sets.{or_else}
use Rattle.fact_model.specs.declared.facts.Facts.{Facts}
use Rattle.fact_model.specs.declared.facts.SiteInfo.{SiteInfo}
use Rattle.fact_model.specs.declared.facts.RowInfo.{RowInfo}
use Rattle.fact_model.specs.declared.facts.ColumnInfo.{ColumnInfo}
use Rattle.fact_model.specs.declared.facts.CellInfo.{CellInfo}
use Rattle.fact_model.specs.declared.facts.ColKind.TheVariants.{Is}
use Rattle.fact_model.specs.Items.{site_at, cell_at, row_at, column_at, point_row, site_class, site_row, row_class, row_this, column_class, column_kind, column_slot}
use Rattle.fact_model.specs.Classes.{parent_of, supers_of, IsBelow, same, through, IsStrictSubclass, reaches, below, is_interface, is_body, own_body, finds_within, finds}
use Rattle.flow_rules.specs.Facts.{ClassFacts, class_seen}
use Rattle.flow_program.specs.Same.{AreSameFacts}
use Rattle.kaba_top.proofs.SameLists.{or_seen, then_seen}

-- the same from the other side
pub turned : (F G : Facts) → AreSameFacts F G → AreSameFacts G F
turned F G s = record {
  rows = sym s.rows;
  columns = sym s.columns;
  sites = sym s.sites;
  classes = sym s.classes;
  points = sym s.points;
  cells = sym s.cells;
  bodies = sym s.bodies;
  calls = sym s.calls;
  tests = sym s.tests;
  makers = sym s.makers;
  makes = sym s.makes;
  spots = sym s.spots;
  words = sym s.words;
  news = λ x. ((s.news x).1, (s.news x).0);
  flows = λ x. ((s.flows x).1, (s.flows x).0);
  loads = λ x. ((s.loads x).1, (s.loads x).0);
  stores = λ x. ((s.stores x).1, (s.stores x).0);
  casts = λ x. ((s.casts x).1, (s.casts x).0);
  accesses = λ x. ((s.accesses x).1, (s.accesses x).0);
  supers = λ x. ((s.supers x).1, (s.supers x).0);
  ties = λ x. ((s.ties x).1, (s.ties x).0);
  vars = λ x. ((s.vars x).1, (s.vars x).0);
}

module _ {F G : Facts} (s : AreSameFacts F G) where
  -- ---- what a number names

  pub site_at_is : (n : ℕ) → site_at F n ≡ site_at G n
  site_at_is n = ap (λ (z : List SiteInfo). slice_index_or z n (record { row = record { 0 = 0 }; class = record { 0 = 0 }; dim = 0 })) s.sites

  pub cell_at_is : (n : ℕ) → cell_at F n ≡ cell_at G n
  cell_at_is n = ap (λ (z : List CellInfo). slice_index_or z n (record { site = record { 0 = 0 }; column = None; row = record { 0 = 0 } })) s.cells

  pub row_at_is : (n : ℕ) → row_at F n ≡ row_at G n
  row_at_is n = ap (λ (z : List RowInfo). slice_index_or z n (record { label = []; class = record { 0 = 0 }; dim = 0; site = None; this_of = None })) s.rows

  pub column_at_is : (n : ℕ) → column_at F n ≡ column_at G n
  column_at_is n =
      ap (λ (z : List ColumnInfo). slice_index_or z n (record { kind = Is; class = record { 0 = 0 }; slot = None; name = []; label = [] })) s.columns

  pub point_row_is : (n : ℕ) → point_row F n ≡ point_row G n
  point_row_is n = λ i. (slice_index_or (s.points i) n (record { 0 = 0 })).0

  pub site_class_is : (n : ℕ) → site_class F n ≡ site_class G n
  site_class_is n = λ i. (site_at_is n i).class.0

  pub site_row_is : (n : ℕ) → site_row F n ≡ site_row G n
  site_row_is n = λ i. (site_at_is n i).row.0

  pub row_class_is : (n : ℕ) → row_class F n ≡ row_class G n
  row_class_is n = λ i. (row_at_is n i).class.0

  pub row_this_is : (n : ℕ) → row_this F n ≡ row_this G n
  row_this_is n = λ i. (row_at_is n i).this_of

  pub column_class_is : (n : ℕ) → column_class F n ≡ column_class G n
  column_class_is n = λ i. (column_at_is n i).class.0

  pub kind_is : (n : ℕ) → column_kind F n ≡ column_kind G n
  kind_is n = λ i. (column_at_is n i).kind

  pub slot_is : (n : ℕ) → column_slot F n ≡ column_slot G n
  slot_is n = λ i. (column_at_is n i).slot

  -- ---- classes

  pub by_class : {B : Type 0} (f : ClassFacts → B) (none : B) (a : ℕ) → option_map_or (λ k. f (class_seen k)) (slice_get F.classes.items a) none
      ≡ option_map_or (λ k. f (class_seen k)) (slice_get G.classes.items a) none
  by_class f none a =
      or_seen class_seen f none F.classes.items a ∙ ap (λ z. option_map_or f (slice_get z a) none) s.classes ∙ sym (or_seen class_seen f none G.classes.items a)

  parent_is : (a : ℕ) → parent_of F a ≡ parent_of G a
  parent_is a =
      then_seen class_seen (λ (k : ClassFacts). k.parent) F.classes.items a
      ∙ ap (λ z. option_and_then (λ (k : ClassFacts). k.parent) (slice_get z a)) s.classes
      ∙ sym (then_seen class_seen (λ (k : ClassFacts). k.parent) G.classes.items a)

  supers_is : (a : ℕ) → supers_of F a ≡ supers_of G a
  supers_is a = λ i. option_to_list (parent_is a i) ++ by_class (λ (k : ClassFacts). k.faces) [] a i

  pub many : length F.classes.items ≡ length G.classes.items
  many = sym (length-map F.classes.items class_seen) ∙ ap length s.classes ∙ length-map G.classes.items class_seen

  pub interface_is : (a : ℕ) → is_interface F a ≡ is_interface G a
  interface_is a = by_class (λ (k : ClassFacts). k.is_interface) false a

  reaches_is : (n a b : ℕ) → reaches F n a b ≡ reaches G n a b
  reaches_is zero a b = refl
  reaches_is (suc n) a b = λ i. (a == b) || list_any (λ c. reaches_is n c.0 b i) (supers_is a i)

  pub below_is : (a b : ℕ) → below F a b ≡ below G a b
  below_is a b = ap (λ z. reaches F z a b) many ∙ reaches_is (length G.classes.items) a b

  own_body_is : (a x : ℕ) → own_body F a x ≡ own_body G a x
  own_body_is a x = ap (position (λ k. is_body a x k)) s.columns

  finds_within_is : (n a x : ℕ) → finds_within F n a x ≡ finds_within G n a x
  finds_within_is zero a x = own_body_is a x
  finds_within_is (suc n) a x = λ i. or_else (own_body_is a x i) (option_and_then (λ p. finds_within_is n p.0 x i) (parent_is a i))

  pub finds_is : (a x : ℕ) → finds F a x ≡ finds G a x
  finds_is a x = ap (λ z. finds_within F z a x) many ∙ finds_within_is (length G.classes.items) a x

  pub below_on : {a b : ℕ} → IsBelow F a b → IsBelow G a b
  below_on same = same
  below_on (through {a = a} {c = c} h r) = through (subst (λ z. Contains z c) (supers_is a) h) (below_on r)

  pub strictly_on : {a b : ℕ} → IsStrictSubclass F a b → IsStrictSubclass G a b
  strictly_on {a} h = record { by = h.by; direct = subst (λ z. Contains z h.by) (supers_is a) h.direct; rest = below_on h.rest }
