-- The fields that have a row are fields of classes, in the rising order of their columns.
use Rattle.std.proofs.Common.{◌≡◌, ℕ, zero, suc, eqb, ◌+◌, ◌<◌, ◌≤◌, Bool, true, false, cond, List, [], ◌∷◌, ◌++◌, length, refl, sym, ap, ◌∙◌, subst, arith}
use Rattle.std.specs.Prelude.{nat_lt, not, Option, Some, None, slice_get}
use Rattle.std.specs.Option.{option_map_or, is_some}
use Rattle.std.specs.List.{flat_map, list_any}
use Rattle.std.proofs.lemmas.Option.{slice_get_within}
use Rattle.indexmap.specs.IndexSet.{insert_key}
use Rattle.kaba_base.specs.declared.Place.{Place}
use Rattle.java_core.specs.Programs.{Plain, PlainField, PlainMethod}
use Rattle.java_core.specs.Formed.{IsFormed}
use Rattle.flow_rules.specs.declared.items.ObjectType.{ObjectType}
use Rattle.flow_rules.specs.declared.items.Column.{Column}
use Rattle.flow_rules.specs.declared.items.ColumnItem.{ColumnItem}
use Rattle.flow_rules.specs.declared.items.ColumnItem.TheVariants as column
use Rattle.flow_rules.specs.declared.items.RowItem.TheVariants as row
use Rattle.flow_rules.specs.Ordered.{put_in, by_place, once_after, each, when}
use Rattle.flow_rules.specs.Parts.{Part, parts_of, a_load, an_element, a_creation, a_call, a_static_call, a_super_call, a_test, a_pair, a_set, a_store, an_element_store, a_return}
use Rattle.flow_rules.specs.Numbered.{same_column, mark, array_mark, form_columns, field_columns, method_columns, columns_of}
use Rattle.flow_rules.specs.Lists.{Numbers}
use Rattle.flow_rules.specs.Facts.{FieldCell, owner_of, field_if, field_at, fields_of}
use Rattle.flow_facts.specs.Owned.{IsHolder, AreFieldsListed}
use Rattle.flow_facts.proofs.Owned.{listed_lower}

module _ (count : ℕ) where
  -- the column of a field is that of one of so many
  abbrev pub Ranged : ColumnItem → Type 0
  Ranged (column.Fld f) = f < count
  Ranged (column.Dcl m) = Unit {0}
  Ranged (column.Def m) = Unit {0}
  Ranged (column.Is c) = Unit {0}

  abbrev pub AllRanged : List Column → Type 0
  AllRanged [] = Unit {0}
  AllRanged (k ∷ ks) = Ranged k.item × AllRanged ks

  both : (xs ys : List Column) → AllRanged xs → AllRanged ys → AllRanged (xs ++ ys)
  both [] ys h g = g
  both (x ∷ xs) ys h g = (h.0, both xs ys h.1 g)

  put : (x : Column) (xs : List Column) → Ranged x.item → AllRanged xs → AllRanged (put_in (λ c. c.place.at) x xs)
  put x [] r h = (r, tt)
  put x (y ∷ ys) r h =
      elim (nat_lt y.place.at x.place.at) as (λ b. AllRanged (cond b (y ∷ put_in (λ c. c.place.at) x ys) (x ∷ (y ∷ ys))))
      [ true ↦ (h.0, put x ys r h.1) | false ↦ (r, h) ]

  sorted : (xs : List Column) → AllRanged xs → AllRanged (by_place (λ c. c.place.at) xs)
  sorted [] h = tt
  sorted (x ∷ xs) h = put x (by_place (λ c. c.place.at) xs) h.0 (sorted xs h.1)

  kept : (seen : List ColumnItem) (xs : List Column) → AllRanged xs → AllRanged (once_after same_column (λ c. c.item) seen xs)
  kept seen [] h = tt
  kept seen (x ∷ xs) h =
      elim (list_any (same_column x.item) seen) as
      (λ b. AllRanged (cond b (once_after same_column (λ c. c.item) (insert_key same_column seen x.item) xs)
      (x ∷ once_after same_column (λ c. c.item) (insert_key same_column seen x.item) xs))) [
        | true ↦ kept (insert_key same_column seen x.item) xs h.1
        | false ↦ (h.0, kept (insert_key same_column seen x.item) xs h.1)
      ]

  of_fields : (n : ℕ) (fs : List PlainField) → n + length fs ≤ count → AllRanged (each field_columns n fs)
  of_fields n [] h = tt
  of_fields n (f ∷ fs) h =
      let rest = of_fields (n + 1) fs (omega (arith, h)) in
      elim (not f.is_static) as (λ b. AllRanged (when b (record { item = column.Fld n; place = f.tag.place } ∷ []) ++ each field_columns (n + 1) fs))
      [ true ↦ (omega (arith, h), rest) | false ↦ rest ]

  of_mark : (p : Place) (t : Option ObjectType) → AllRanged (mark p t)
  of_mark p None = tt
  of_mark p (Some t) = (tt, tt)

  of_array : (p : Place) (t : Option ObjectType) → AllRanged (array_mark p t)
  of_array p None = tt
  of_array p (Some t) = elim (not (eqb t.dim 0)) as (λ b. AllRanged (when b (record { item = column.Is t.class; place = p } ∷ [])))
      [ true ↦ (tt, tt) | false ↦ tt ]

  of_form : (a : Part) → AllRanged (form_columns a)
  of_form (a_creation p u o s d es) = of_array p o.ty
  of_form (a_test p e o) = of_mark p o.ty
  of_form (a_load p b f o) = tt
  of_form (an_element p b o) = tt
  of_form (a_call p b s d es o) = tt
  of_form (a_static_call p d es o) = tt
  of_form (a_super_call p d es o) = tt
  of_form (a_pair f l r) = tt
  of_form (a_set v o) = tt
  of_form (a_store p b f o) = tt
  of_form (an_element_store p b o) = tt
  of_form (a_return o) = tt

  of_forms : (ps : List Part) → AllRanged (flat_map form_columns ps)
  of_forms [] = tt
  of_forms (a ∷ ps) = both (form_columns a) (flat_map form_columns ps) (of_form a) (of_forms ps)

  of_methods : (P : Plain) (n : ℕ) (ks : List PlainMethod) → AllRanged (each (method_columns P) n ks)
  of_methods P n [] = tt
  of_methods P n (k ∷ ks) = both (method_columns P n k) (each (method_columns P) (n + 1) ks) (both _ (flat_map form_columns (parts_of P n k))
      (own n k) (of_forms (parts_of P n k))) (of_methods P (n + 1) ks)
    where
      body : (n : ℕ) (k : PlainMethod) (b : Bool) → AllRanged (when b (record { item = column.Def n; place = k.tag.place } ∷ []))
      body n k true = (tt, tt)
      body n k false = tt

      declared : (n : ℕ) (k : PlainMethod) (b d : Bool)
          → AllRanged (when b (record { item = column.Dcl n; place = k.tag.place }
          ∷ when d (record { item = column.Def n; place = k.tag.place } ∷ [])))
      declared n k true d = (tt, body n k d)
      declared n k false d = tt

      own : (n : ℕ) (k : PlainMethod)
          → AllRanged (when (not k.is_static) (record { item = column.Dcl n; place = k.tag.place } ∷ when (is_some k.body)
          (record { item = column.Def n; place = k.tag.place } ∷ [])))
      own n k = declared n k (not k.is_static) (is_some k.body)

  pub of_columns : (P : Plain) → length P.fields ≤ count → AllRanged (columns_of P)
  unfolding columns_of
  of_columns P h = kept [] _ (sorted _ (both (each field_columns 0 P.fields) (each (method_columns P) 0 P.methods)
      (of_fields 0 P.fields (omega (arith, h))) (of_methods P 0 P.methods)))

  module _ (N : Numbers) (P : Plain) (holder : (f : ℕ) → f < count → IsHolder P (owner_of P (column.Fld f))) where
    one : (n : ℕ) (i : ColumnItem) (rest : List FieldCell) → Ranged i → AreFieldsListed P (n + 1) rest → AreFieldsListed P n (field_at N P n i ++ rest)
    one n (column.Fld f) rest r h =
        elim (N.row (row.Field f)) as (λ x. AreFieldsListed P n (field_if N P n (owner_of P (column.Fld f)) x ++ rest))
        [ None ↦ listed_lower P n (n + 1) rest (omega arith) h | Some y ↦ (omega arith, (holder f r, h)) ]
    one n (column.Dcl m) rest r h = listed_lower P n (n + 1) rest (omega arith) h
    one n (column.Def m) rest r h = listed_lower P n (n + 1) rest (omega arith) h
    one n (column.Is c) rest r h = listed_lower P n (n + 1) rest (omega arith) h

    all : (n : ℕ) (ks : List Column) → AllRanged ks → AreFieldsListed P n (each (λ c k. field_at N P c k.item) n ks)
    all n [] h = tt
    all n (k ∷ ks) h = one n k.item (each (λ c k. field_at N P c k.item) (n + 1) ks) h.0 (all (n + 1) ks h.1)

-- the class of a field of a formed program
holder_of : (P : Plain) → IsFormed P → (f : ℕ) (g : PlainField) → slice_get P.fields f ≡ Some g → IsHolder P (owner_of P (column.Fld f))
holder_of P formed f g e =
    let K = formed.fields f g e in
    subst (IsHolder P) (sym (ap (λ x. option_map_or (λ k. k.owner) x 0) e)) (record {
      no_object = K.no_object;
      class = ap (λ x. option_map_or (λ k. k.is_interface) x false) K.stands ∙ K.class;
      within = slice_get_within P.classes g.owner K.holder K.stands;
    })

pub fields_listed : (P : Plain) → IsFormed P → (N : Numbers) (ks : List Column) (fs : List FieldCell) → ks ≡ columns_of P → fs ≡ fields_of N P ks
    → AreFieldsListed P 0 fs
fields_listed P formed N ks fs e h =
    let count = length P.fields in
    let holder = λ (f : ℕ) (lt : f < count). let found = in_list P.fields f lt in holder_of P formed f found.0 found.1 in
    subst (AreFieldsListed P 0) (sym (h ∙ ap (fields_of N P) e)) (all count N P holder 0 (columns_of P) (of_columns count P (omega arith)))
  where
    in_list : (xs : List PlainField) (i : ℕ) → i < length xs → (x : PlainField) × (slice_get xs i ≡ Some x)
    in_list [] i h = absurd (omega (arith, h))
    in_list (x ∷ xs) zero h = (x, refl)
    in_list (x ∷ xs) (suc i) h = in_list xs i (omega (arith, h))
