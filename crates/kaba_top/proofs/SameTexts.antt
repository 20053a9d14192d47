-- Facts that are the same: the texts of a table, a lattice and a hierarchy are the same.
use Rattle.std.proofs.Common.{◌≡◌, ℕ, ◌+◌, ◌==◌, List, [], ◌∷◌, ◌++◌, length, map, Option, Some, None, refl, sym, ap, ◌∙◌, codes}
use Rattle.std.specs.Prelude.{slice_get}
use Rattle.std.specs.Option.{option_map_or}
use Rattle.std.specs.List.{flat_map}
use Rattle.std.specs.Fmt.{decimal}
use Rattle.std.specs.Str.{encode_utf8_all}
use Rattle.std.proofs.lemmas.List.{length-map}
use Rattle.serde_json.specs.Data.{Data, array}
use Rattle.serde_json.specs.View.{items_of}
use Rattle.serde_json.specs.Written.{compact_text}
use Rattle.kaba_base.specs.declared.ClassId.{ClassId}
use Rattle.kaba_base.proofs.ListLemmas.{map_map}
use Rattle.kaba_bits.specs.Sets.{size}
use Rattle.fact_model.specs.declared.facts.Facts.{Facts}
use Rattle.fact_model.specs.declared.facts.ClassInfo.{ClassInfo}
use Rattle.fact_model.specs.declared.sets.Table.{Table}
use Rattle.fact_model.specs.declared.sets.Lattice.{Lattice}
use Rattle.fact_model.specs.declared.sets.Concept.{Concept}
use Rattle.hier_model.specs.Hierarchies.{Hierarchy, stands_at, place_of_row, type_name, member_name, origin_of}
use Rattle.hier_model.specs.Edits.{is_mark}
use Rattle.concept_build.specs.Laws.{ToldConcept, told}
use Rattle.lattice_view.specs.Lists.{part_text}
use Rattle.lattice_view.specs.Table.{rows_text, columns_text, table_text}
use Rattle.lattice_view.specs.Text.{concept_text, concepts_text, lattice_text}
use Rattle.lattice_view.specs.Json.{numbers_data, names_data, concept_parts, concept_data, lattice_parts, lattice_json}
use Rattle.hier_view.specs.Text.{those_below, live_nodes, covers_of, columns_at, name_part, column_part, column_parts, name_in, origin_text, kind_text, head_text, node_line, hierarchy_text}
use Rattle.flow_rules.specs.Facts.{ClassFacts}
use Rattle.flow_program.specs.Same.{AreSameFacts}
use Rattle.kaba_top.proofs.SameFacts.{kind_is, by_class}
use Rattle.kaba_top.proofs.SameHierarchies.{class_node_is}

-- ---- lattices

abbrev line_of : ℕ → ToldConcept → List ℕ
line_of k x =
    codes "k" ++ (decimal k ++ (codes " " ++ (decimal (size x.0.0) ++ (codes " " ++ (decimal (size x.0.1)
    ++ (part_text (codes " columns:") (codes "c") (map (λ c. c.0) x.3)
    ++ (part_text (codes " rows:") (codes "r") (map (λ r. r.0) x.2)
    ++ (part_text (codes " above:") (codes "k") x.1
    ++ codes "\n"))))))))

abbrev lines_of : ℕ → List ToldConcept → List ℕ
lines_of k [] = []
lines_of k (x ∷ xs) = line_of k x ++ lines_of (k + 1) xs

lines_told : (k : ℕ) (xs : List Concept) → concepts_text k xs ≡ lines_of k (map told xs)
lines_told k [] = refl
lines_told k (x ∷ xs) = ap (λ z. concept_text k x ++ z) (lines_told (k + 1) xs)

abbrev data_of : ToldConcept → Data
data_of x = concept_parts (numbers_data x.1) (numbers_data (map (λ c. c.0) x.3)) (numbers_data (map (λ r. r.0) x.2)) (size x.0.0)

one_text : (xs ys : List Concept) → map told xs ≡ map told ys → concepts_text 0 xs ≡ concepts_text 0 ys
one_text xs ys e = lines_told 0 xs ∙ ap (lines_of 0) e ∙ sym (lines_told 0 ys)

one_data : (xs ys : List Concept) → map told xs ≡ map told ys → map concept_data xs ≡ map concept_data ys
one_data xs ys e = sym (map_map data_of told xs) ∙ ap (map data_of) e ∙ map_map data_of told ys

one_length : (xs ys : List Concept) → map told xs ≡ map told ys → length xs ≡ length ys
one_length xs ys e = sym (length-map xs told) ∙ ap length e ∙ length-map ys told

pub lattice_text_is : (l m : Lattice) → map told l.concepts.items ≡ map told m.concepts.items → lattice_text l ≡ lattice_text m
lattice_text_is l m e =
    λ i. codes "concepts " ++ (decimal (one_length l.concepts.items m.concepts.items e i)
    ++ (codes "\n" ++ one_text l.concepts.items m.concepts.items e i))

module _ {F G : Facts} (s : AreSameFacts F G) where
  pub lattice_json_is : (l m : Lattice) → map told l.concepts.items ≡ map told m.concepts.items → lattice_json F l ≡ lattice_json G m
  lattice_json_is l m e =
      λ i. compact_text (lattice_parts (names_data (map (λ c. c.label) (s.columns i)))
      (array (items_of (one_data l.concepts.items m.concepts.items e i))) (names_data (map (λ r. r.label) (s.rows i)))) ++ codes "\n"

  pub table_text_is : (t u : Table) → t.rows.items ≡ u.rows.items → table_text F t ≡ table_text G u
  table_text_is t u e =
      λ i. codes "rows " ++ (decimal (length (s.rows i)) ++ (codes "\n" ++ (rows_text 0 (s.rows i) (e i)
      ++ (codes "columns " ++ (decimal (length (s.columns i)) ++ (codes "\n" ++ columns_text 0 (s.columns i)))))))

  -- ---- hierarchies

  in_words : (o : Option ClassInfo) → name_in o ≡ option_map_or (λ k. encode_utf8_all k.name) o []
  in_words None = refl
  in_words (Some k) = refl

  origin_is : (o : Option ClassId) → origin_text F o ≡ origin_text G o
  origin_is None = refl
  origin_is (Some k) =
      in_words (slice_get F.classes.items k.0) ∙ by_class s (λ (c : ClassFacts). encode_utf8_all c.name) [] k.0
      ∙ sym (in_words (slice_get G.classes.items k.0))

  module _ (H : Hierarchy) where
    part_is : (c : ℕ) → column_part F H c ≡ column_part G H c
    part_is c = λ i. codes " c" ++ (decimal c ++ name_part (is_mark (kind_is s c i)) (member_name H c))

    parts_are : (cs : List ℕ) → column_parts F H cs ≡ column_parts G H cs
    parts_are [] = refl
    parts_are (c ∷ cs) = λ i. flat_map (λ d. part_is d i) (c ∷ cs)

    columns_are : (n : ℕ) → column_parts F H (columns_at F H n) ≡ column_parts G H (columns_at G H n)
    columns_are n = (λ i. column_parts F H (those_below (length (s.columns i)) (stands_at H n))) ∙ parts_are (columns_at G H n)

    head_is : (n : ℕ) → head_text F H n ≡ head_text G H n
    head_is n =
        λ i. codes "n" ++ (decimal n ++ (codes " " ++ (kind_text (class_node_is s H n i) ++ (codes " " ++ (encode_utf8_all (type_name H n)
        ++ (codes " origin " ++ origin_is (origin_of H n) i))))))

    line_is : (n : ℕ) → node_line F H n ≡ node_line G H n
    line_is n =
        λ i. head_is n i
        ++ (part_text (codes " above:") (codes "n") (covers_of H n)
        ++ ((codes " columns:" ++ columns_are n i)
        ++ (part_text (codes " rows:") (codes "r") (those_below (length (s.rows i)) (λ r. place_of_row H r == n)) ++ codes "\n")))

    pub hierarchy_text_is : hierarchy_text F H ≡ hierarchy_text G H
    hierarchy_text_is = λ i. codes "nodes " ++ (decimal (length (live_nodes H)) ++ (codes "\n" ++ flat_map (λ n. line_is n i) (live_nodes H)))
