-- The numbers of a program fit each hierarchy of its facts, and rename as the written tree does.
use Rattle.std.proofs.Common.{◌≡◌, ◌∙◌, refl, ap, sym, subst, ℕ, zero, suc, ◌<◌, Bool, true, false, List, [], ◌∷◌, ◌++◌, Option, Some, None, length, map, get_or, arith}
use Rattle.std.specs.Prelude.{◌==◌, nat_eq, slice_get, if◌then◌else◌}
use Rattle.std.specs.Option.{option_map, option_map_or, option_and_then}
use Rattle.std.specs.List.{flat_map}
use Rattle.std.proofs.lemmas.Bool.{eqb-true, eq-eqb}
use Rattle.std.proofs.lemmas.List.{length-map}
use Rattle.std.proofs.lemmas.List.Quantifiers.{position-Some}
use Rattle.java_core.specs.declared.Program.{Program}
use Rattle.java_core.specs.Programs.{Plain, program_of}
use Rattle.fact_model.specs.declared.facts.Facts.{Facts}
use Rattle.kaba_bits.proofs.SetLemmas.{bit-below}
use Rattle.hier_model.specs.Hierarchies.{Hierarchy, IsHierarchyOf, place_of_row}
use Rattle.flow_rules.specs.declared.items.RowItem.{RowItem}
use Rattle.flow_rules.specs.declared.items.ColumnItem.{ColumnItem}
use Rattle.flow_rules.specs.declared.items.ColumnItem.TheVariants as columns
use Rattle.flow_rules.specs.Facts.{IsFactsOf, numbers, row_info, column_info, site_info, FixedFor, an_init, the_holder, the_local, a_make, FixedName, same_fixed, name_for, fixed_names, PlainMake, make_of}
use Rattle.flow_rules.specs.Numbered.{number_among, same_row, same_column, rows_of, columns_of, sites_of, row_number, column_number, site_number}
use Rattle.rebuild_model.specs.Renaming.{Renaming, renaming_of, column_name, make_name}
use Rattle.write_model.specs.Names.{by_number}
use Rattle.write_model.specs.Written.{written_by, java_tree}
use Rattle.write_forms.specs.declared.numbers.Numbering.{Numbering}
use Rattle.write_forms.specs.Makes.{name_at}
use Rattle.write_forms.specs.Renamed.{make_at, renamed, IsFitting}
use Rattle.source_gen.specs.Sources.{HaveMakes}
use Rattle.java_write.specs.Numbers.{AreNumbersOf}
use Rattle.java_write.specs.Written.{tree_of_hierarchy}

-- a number among some keys is below their count
number_below : {K : Type 0} (eq : K → K → Bool) (keys : List K) (i : K) (n : ℕ) → number_among eq keys i ≡ Some n → n < length keys
number_below eq keys i n e = (position-Some (eq i) keys n i e).0

row_below : (P : Plain) (F : Facts) → IsFactsOf P F → (i : RowItem) (r : ℕ) → (numbers P).row i ≡ Some r → r < length F.rows.items
unfolding numbers row_number
row_below P F facts i r e =
    let few = number_below same_row (map (λ k. k.item) (rows_of P)) i r e in
    let counted = length-map (rows_of P) (λ k. k.item) in
    let listed = ap length facts.rows ∙ length-map (rows_of P) (row_info (numbers P) P) in
    omega (arith, few, counted, listed)

column_below : (P : Plain) (F : Facts) → IsFactsOf P F → (i : ColumnItem) (c : ℕ) → (numbers P).column i ≡ Some c → c < length F.columns.items
unfolding numbers column_number
column_below P F facts i c e =
    let few = number_below same_column (map (λ k. k.item) (columns_of P)) i c e in
    let counted = length-map (columns_of P) (λ k. k.item) in
    let listed = ap length facts.columns ∙ length-map (columns_of P) (λ k. column_info P k.item) in
    omega (arith, few, counted, listed)

site_below : (P : Plain) (F : Facts) → IsFactsOf P F → (i s : ℕ) → (numbers P).site i ≡ Some s → s < length F.sites.items
unfolding numbers site_number
site_below P F facts i s e =
    let few = number_below nat_eq (map (λ z. z.number) (sites_of P)) i s e in
    let counted = length-map (sites_of P) (λ z. z.number) in
    let listed = ap length facts.sites ∙ length-map (sites_of P) site_info in
    omega (arith, few, counted, listed)

-- rows and columns of the program are those of the hierarchy, and rows stand at its nodes
pub fitting : (p : Program) (n : Numbering) (F : Facts) (H : Hierarchy) → AreNumbersOf p F n
    → IsFactsOf (program_of p) F → IsHierarchyOf F H → IsFitting n H
fitting p n F H are facts is =
    record {
      rows = λ i r e. subst (λ k. r < k) (sym is.sized.rows) (row_below (program_of p) F facts i r (sym (ap (λ f. f i) are.rows) ∙ e));
      columns = λ i c e. subst (λ k. c < k) (sym is.sized.members) (column_below (program_of p) F facts i c (sym (ap (λ f. f i) are.columns) ∙ e));
      placed = λ r below. subst (λ k. place_of_row H r < k) (sym is.sized.types)
          (bit-below H.order.live (place_of_row H r) (is.placed.rows r (subst (λ k. r < k) is.sized.rows below)));
    }

-- its sites are those of the facts, and so are the names that are fixed for makers
pub have_makes : (p : Program) (n : Numbering) (F : Facts) → AreNumbersOf p F n → IsFactsOf (program_of p) F → HaveMakes (program_of p) n F
have_makes p n F are facts = record { sites = record { numbers = are.creations; infos = facts.sites }; makers = facts.makers }

-- ---- the names of the methods that make objects

-- where no name is fixed, there is none
abbrev or_none : Option (List ℕ) → List ℕ
or_none o = option_map_or (λ x. x) o []

chosen : (b : Bool) (n : List ℕ) (o : Option (List ℕ)) → (if b then n else or_none o) ≡ or_none (if b then Some n else o)
chosen true n o = refl
chosen false n o = refl

-- two tests that go with one another are one, so a test of two numbers may be turned round
same_truth : (x y : Bool) → (x ≡ true → y ≡ true) → (y ≡ true → x ≡ true) → x ≡ y
same_truth true true f g = refl
same_truth true false f g = sym (f refl)
same_truth false true f g = g refl
same_truth false false f g = refl

turned : (a b : ℕ) → (a == b) ≡ (b == a)
turned a b = same_truth (a == b) (b == a) (λ e. eq-eqb b a (sym (eqb-true a b e))) (λ e. eq-eqb a b (sym (eqb-true b a e)))

-- one fixed name more
one_make : (s : ℕ) (for : FixedFor) (name : List ℕ) (ms : List PlainMake) (o : Option (List ℕ)) → name_at s ms ≡ or_none o
    → name_at s (make_of (record { for = for; name = name }) ++ ms) ≡ or_none (if same_fixed (a_make s) for then Some name else o)
one_make s (an_init c) name ms o rest = rest
one_make s the_holder name ms o rest = rest
one_make s the_local name ms o rest = rest
one_make s (a_make i) name ms o rest =
    ap (λ b. if b then name else name_at s ms) (turned i s) ∙ ap (λ x. if s == i then name else x) rest ∙ chosen (s == i) name o

fixed_make : (s : ℕ) (fs : List FixedName) → name_at s (flat_map make_of fs) ≡ or_none (name_for (a_make s) fs)
fixed_make s [] = refl
fixed_make s (f ∷ fs) = one_make s f.for f.name (flat_map make_of fs) (name_for (a_make s) fs) (fixed_make s fs)

-- a name is where it is looked for
looked : (xs : List (List ℕ)) (s : ℕ) → or_none (slice_get xs s) ≡ get_or xs s []
looked [] s = refl
looked (x ∷ xs) zero = refl
looked (x ∷ xs) (suc s) = looked xs s

same_make : (p : Program) (n : Numbering) (F : Facts) → AreNumbersOf p F n → IsFactsOf (program_of p) F → (i : ℕ)
    → or_none (make_at n i) ≡ make_name (program_of p) i
same_make p n F are facts i =
    ap (λ f. or_none (option_and_then (λ s. slice_get n.makes.items s) (f i))) are.sites
    ∙ go ((numbers P).site i) (λ s e. site_below P F facts i s e)
  where
    P : Plain
    P = program_of p

    named : (s : ℕ) → s < length F.sites.items → or_none (slice_get n.makes.items s) ≡ or_none (name_for (a_make s) (fixed_names P))
    named s lt =
        looked n.makes.items s ∙ are.makes.each s lt ∙ ap (name_at s) facts.makes ∙ fixed_make s (fixed_names P)

    go : (o : Option ℕ) → ((s : ℕ) → o ≡ Some s → s < length F.sites.items)
        → or_none (option_and_then (λ s. slice_get n.makes.items s) o) ≡ or_none (option_and_then (λ s. name_for (a_make s) (fixed_names P)) o)
    go None below = refl
    go (Some s) below = named s (below s refl)

-- the renaming by the numbers, and the holders by their own
abbrev renamed_by : Hierarchy → (RowItem → Option ℕ) → (ColumnItem → Option ℕ) → (ℕ → List ℕ) → Renaming
renamed_by H row column make = record {
  row_type = λ i. option_map (λ r. place_of_row H r) (row i);
  field_name = λ f. column_name H (column (columns.Fld f));
  method_name = λ m. column_name H (column (columns.Dcl m));
  holder_of = λ c. c;
  makers = 0;
  make_name = make;
}

same_renaming : (p : Program) (n : Numbering) (F : Facts) (H : Hierarchy) → AreNumbersOf p F n → IsFactsOf (program_of p) F
    → renamed n H ≡ renaming_of (program_of p) H by_number
unfolding renaming_of
same_renaming p n F H are facts =
    ap (λ row. renamed_by H row (number_among same_column n.columns.keys) (λ i. or_none (make_at n i))) are.rows
    ∙ ap (λ column. renamed_by H (numbers (program_of p)).row column (λ i. or_none (make_at n i))) are.columns
    ∙ (λ j. renamed_by H (numbers (program_of p)).row (numbers (program_of p)).column (λ i. same_make p n F are facts i j))

-- the tree by the numbering is the hierarchy's
pub same_tree : (p : Program) (n : Numbering) (F : Facts) (H : Hierarchy) → AreNumbersOf p F n → IsFactsOf (program_of p) F
    → written_by (program_of p) (renamed n H) F H n.columns.keys ≡ tree_of_hierarchy p F H
unfolding java_tree
same_tree p n F H are facts =
    ap (λ R. written_by (program_of p) R F H n.columns.keys) (same_renaming p n F H are facts)
    ∙ ap (written_by (program_of p) (renaming_of (program_of p) H by_number) F H) are.items
