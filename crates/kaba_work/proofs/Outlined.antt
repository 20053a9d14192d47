-- What the declarations of a sample say.
use Rattle.std.proofs.Common.{◌≡◌, ℕ, zero, suc, ◌+◌, ◌<◌, ◌≤◌, true, false, List, [], ◌∷◌, ◌++◌, map, Option, Some, None, refl, sym, ap, ◌∙◌, arith}
use Rattle.std.specs.Prelude.{nat_lt, codes}
use Rattle.std.specs.List.{range_with_len, flat_map}
use Rattle.java_tree.specs.Makers.{has_maker}
use Rattle.java_core.specs.Programs.{Plain, PlainClass}
use Rattle.name_rules.specs.declared.parts.Kind.TheVariants as kinds
use Rattle.name_rules.specs.Outline.{FieldAt, MethodAt, name_of, class_at, type_named, types_in, is_known, is_type_name, fields_from, methods_from, fields_in, methods_in, object, class_outline, field_outline, method_outline, outline}
use Rattle.name_rules.specs.Meanings.{type_names, class_named}
use Rattle.name_rules.specs.Resolves.{heading_of}
use Rattle.name_rules.proofs.NoMakers.{methods_written}
use Rattle.kaba_work.specs.Sample.{nowhere, class_name, field_name, extra_name, int_type, method_head, addition, total, main_head, main_body, class_tree, main_tree, sample_tree}
use Rattle.java_tree.specs.Syntax.{and_then, no_statements, ReturnOf}
use Rattle.kaba_work.specs.Program.{tag, class_made, main_class_made, method_made, main_made, sample_program}
use Rattle.kaba_work.proofs.Places.{map_ends, map_pairs}
use Rattle.kaba_work.proofs.Apart.{names, first, class_found, small_free}

-- the fields and methods of a sample
abbrev pub field_at : ℕ → List ℕ → FieldAt
field_at i n = record { owner = suc i; mods = []; type = int_type; name = n; place = nowhere }

abbrev pub sum_field : ℕ → FieldAt
sum_field i = field_at i (field_name i)

abbrev pub extra_field : ℕ → FieldAt
extra_field i = field_at i (extra_name i)

abbrev pub method_at : ℕ → MethodAt
method_at i =
    record {
      owner = suc i;
      kind = kinds.Method;
      in_abstract = false;
      head = method_head;
      up = None;
      body = Some (and_then (addition i) (and_then (ReturnOf (Some (total i)) nowhere) no_statements));
    }

abbrev pub main_at : ℕ → MethodAt
main_at n = record { owner = suc n; kind = kinds.Method; in_abstract = false; head = main_head; up = None; body = Some (main_body n) }

fields_rest : (z a n : ℕ)
    → fields_from (suc a) (map class_tree (range_with_len a n) ++ main_tree z ∷ []) ≡ flat_map (λ i. sum_field i ∷ extra_field i ∷ []) (range_with_len a n)
fields_rest z a zero = refl
fields_rest z a (suc n) =
    let s : suc a ≡ a + 1 = omega arith in
    ap (λ k. sum_field a ∷ extra_field a ∷ fields_from (suc k) (map class_tree (range_with_len (a + 1) n) ++ main_tree z ∷ [])) s
    ∙ ap (λ xs. sum_field a ∷ extra_field a ∷ xs) (fields_rest z (a + 1) n)

pub fields_are : (n : ℕ) → fields_in (sample_tree n) ≡ flat_map (λ i. sum_field i ∷ extra_field i ∷ []) (range_with_len 0 n)
unfolding sample_tree
fields_are n = fields_rest n 0 n

-- the main class has the number behind those of the others
abbrev main_of : ℕ → ℕ → MethodAt
main_of z c = record { owner = suc c; kind = kinds.Method; in_abstract = false; head = main_head; up = None; body = Some (main_body z) }

methods_rest : (z a n : ℕ)
    → methods_from (suc a) (map class_tree (range_with_len a n) ++ main_tree z ∷ []) ≡ map method_at (range_with_len a n) ++ main_of z (a + n) ∷ []
methods_rest z a zero = let s : a ≡ a + 0 = omega arith in ap (λ k. main_of z k ∷ []) s
methods_rest z a (suc n) =
    let s : suc a ≡ a + 1 = omega arith in
    let t : a + 1 + n ≡ a + suc n = omega arith in
    ap (λ k. method_at a ∷ methods_from (suc k) (map class_tree (range_with_len (a + 1) n) ++ main_tree z ∷ [])) s
    ∙ ap (λ xs. method_at a ∷ xs) (methods_rest z (a + 1) n)
    ∙ ap (λ k. method_at a ∷ (map method_at (range_with_len (a + 1) n) ++ main_of z k ∷ [])) t

-- no class of a sample writes a constructor
makerless_rest : (z a n : ℕ) → has_maker (map class_tree (range_with_len a n) ++ main_tree z ∷ []) ≡ false
makerless_rest z a zero = refl
makerless_rest z a (suc n) = makerless_rest z (a + 1) n

makerless : (n : ℕ) → has_maker (sample_tree n) ≡ false
unfolding sample_tree
makerless n = makerless_rest n 0 n

pub methods_are : (n : ℕ) → methods_in (sample_tree n) ≡ map method_at (range_with_len 0 n) ++ main_at n ∷ []
unfolding sample_tree
methods_are n =
    methods_written (sample_tree n) (makerless n) ∙ methods_rest n 0 n
    ∙ (let s : 0 + n ≡ n = omega arith in ap (λ k. map method_at (range_with_len 0 n) ++ main_of n k ∷ []) s)

pub types_are : (n : ℕ) → types_in (sample_tree n) ≡ names n
unfolding sample_tree
types_are n = ap (λ xs. codes "Object" ∷ xs) (map_ends name_of class_tree class_name (main_tree n) 0 n (λ i h. refl))

class_is : (n : ℕ) → n ≤ 100 → (types : List (List ℕ)) → types ≡ names n → (i : ℕ) → i < n → class_outline types (class_tree i) ≡ class_made i
class_is n most types e zero h = refl
class_is n most types e (suc i) h =
    ap (λ (o : Option ℕ). let k : PlainClass = record {
      name = class_name (suc i);
      is_interface = false;
      is_abstract = false;
      parent = Some
          (class_at o);
      faces = [];
      tag = tag;
    } in k)
    (ap (λ ts. type_named ts (class_name i)) e ∙ class_found n i most (omega (arith, h)))

-- the outline of a sample is that of its program
module _ (n : ℕ) (most : n ≤ 100) where
  abbrev O : Plain
  O = outline (sample_tree n)

  pub same_classes : (sample_program n).classes ≡ O.classes
  unfolding outline sample_tree sample_program
  same_classes =
      sym (ap (λ xs. object ∷ xs)
      (map_ends (class_outline (types_in (sample_tree n))) class_tree class_made (main_tree n) 0 n
      (λ i h. class_is n most (types_in (sample_tree n)) (types_are n) i (omega (arith, h)))))

  pub same_fields : (sample_program n).fields ≡ O.fields
  unfolding outline sample_program
  same_fields =
      sym (ap (map (field_outline (types_in (sample_tree n)))) (fields_are n) ∙ map_pairs (field_outline (types_in (sample_tree n))) sum_field extra_field 0 n)

  pub headings : O.methods ≡ map (λ i. heading_of (method_made i)) (range_with_len 0 n) ++ heading_of (main_made n) ∷ []
  unfolding outline
  headings =
      let outlined = method_outline (types_in (sample_tree n)) in
      ap (map outlined) (methods_are n) ∙ map_ends outlined method_at (λ i. heading_of (method_made i)) (main_at n) 0 n (λ i h. refl)

  pub same_methods : map heading_of (sample_program n).methods ≡ O.methods
  unfolding sample_program
  same_methods = map_ends heading_of method_made (λ i. heading_of (method_made i)) (main_made n) 0 n (λ i h. refl) ∙ sym headings

  names_are : type_names (sample_program n) ≡ names n
  unfolding sample_program
  names_are = ap (λ xs. codes "Object" ∷ xs) (map_ends (λ (k : PlainClass). k.name) class_made class_name main_class_made 0 n (λ i h. refl))

  pub types_named : type_names O ≡ names n
  types_named = ap (map (λ (k : PlainClass). k.name)) (sym same_classes) ∙ names_are

  pub named : (i : ℕ) → i < n → class_named O (class_name i) ≡ Some (suc i)
  named i h = ap (λ ts. type_named ts (class_name i)) types_named ∙ class_found n i most h

  pub free : (x : List ℕ) → nat_lt 96 (first x) ≡ true → is_known x ≡ false → is_type_name (type_names O) x ≡ false
  free x small known = ap (λ ts. is_type_name ts x) types_named ∙ small_free n x small known
