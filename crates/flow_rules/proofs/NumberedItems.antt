-- Rows, columns, sites and flow points by their numbers: each number has one item, and each item one number.
use Rattle.std.proofs.Common.{◌≡◌, ℕ, List, [], ◌∷◌, ◌++◌, Option, Some}
use Rattle.std.specs.Prelude.{nat_eq, Bool, true, not, length, Contains, map, position, slice_get}
use Rattle.std.specs.List.{flat_map}
use Rattle.java_core.specs.Programs.{Plain, PlainMethod}
use Rattle.flow_rules.specs.declared.items.RowItem.TheVariants as row
use Rattle.flow_rules.specs.declared.items.PointItem.TheVariants as point
use Rattle.flow_rules.specs.declared.items.PointAt.{PointAt}
use Rattle.flow_rules.specs.Operands.{result_in}
use Rattle.flow_rules.specs.Parts.{parts_of}
use Rattle.flow_rules.specs.declared.items.Row.{Row}
use Rattle.flow_rules.specs.declared.items.Column.{Column}
use Rattle.flow_rules.specs.declared.items.Site.{Site}
use Rattle.flow_rules.specs.declared.items.Point.{Point}
use Rattle.flow_rules.specs.Ordered.{by_place, once, each, when}
use Rattle.flow_rules.specs.Numbered.{same_row, same_column, same_point, field_rows, method_rows, rows_of, row_number, field_columns, method_columns, columns_of, column_number, form_sites, bodies_of, sites_of, site_number, listed, static_points, variable_points, form_points, outline_if, points_of, point_number}
use Rattle.flow_rules.proofs.Keys.{row_exact, row_alike, column_exact, column_alike, point_exact, point_alike, nat_exact, nat_alike}
use Rattle.flow_rules.proofs.Listed.{place_from, place_has, number_at, number_there, number_back, number_raw}

-- the items of a raw list stand in a list, each key once, and a key has the number of its item
pub record AreNumbered {A K : Type 0} (key : A → K) (raw items : List A) (number : K → Option ℕ) : Type 0 where
  pub at : (i : K) (n : ℕ) → number i ≡ Some n → (x : A) × (slice_get items n ≡ Some x) × (key x ≡ i)
  pub back : (n : ℕ) (x : A) → slice_get items n ≡ Some x → number (key x) ≡ Some n
  pub from : (n : ℕ) (x : A) → slice_get items n ≡ Some x → Contains raw x
  pub there : (x : A) → Contains raw x → (n : ℕ) × (number (key x) ≡ Some n)

module _ {A K : Type 0} (eq : K → K → Bool) (exact : (x y : K) → eq x y ≡ true → x ≡ y) (alike : (x : K) → eq x x ≡ true) (key : A → K) where
  once_numbered : (xs : List A) → AreNumbered key xs (once eq key xs) (λ i. position (eq i) (map key (once eq key xs)))
  once_numbered xs = record {
    at = number_at eq exact alike key xs;
    back = number_back eq exact alike key xs;
    from = number_raw eq exact alike key xs;
    there = number_there eq exact alike key xs;
  }

  -- in the order of their places
  placed_numbered : (place : A → ℕ) (xs : List A)
      → AreNumbered key xs (once eq key (by_place place xs)) (λ i. position (eq i) (map key (once eq key (by_place place xs))))
  placed_numbered place xs = let p = once_numbered (by_place place xs) in record {
    at = p.at;
    back = p.back;
    from = λ n x e. place_from place xs x (p.from n x e);
    there = λ x c. p.there x (place_has place xs x c);
  }

module _ (P : Plain) where
  abbrev pub raw_rows : List Row
  raw_rows = each field_rows 0 P.fields ++ each (method_rows P) 0 P.methods

  pub numbered_rows : AreNumbered (λ (r : Row). r.item) raw_rows (rows_of P) (row_number P)
  unfolding row_number rows_of
  numbered_rows = placed_numbered same_row row_exact row_alike (λ r. r.item) (λ r. r.place.at) raw_rows

  abbrev pub raw_columns : List Column
  raw_columns = each field_columns 0 P.fields ++ each (method_columns P) 0 P.methods

  pub numbered_columns : AreNumbered (λ (c : Column). c.item) raw_columns (columns_of P) (column_number P)
  unfolding column_number columns_of
  numbered_columns = placed_numbered same_column column_exact column_alike (λ c. c.item) (λ c. c.place.at) raw_columns

  abbrev pub raw_sites : List Site
  raw_sites = flat_map (λ b. flat_map (form_sites (row_number P)) b.parts) (bodies_of P)

  pub numbered_sites : AreNumbered (λ (s : Site). s.number) raw_sites (sites_of P) (site_number P)
  unfolding site_number sites_of
  numbered_sites = placed_numbered nat_eq nat_exact nat_alike (λ s. s.number) (λ s. s.place.at) raw_sites

  abbrev pub raw_points : List Point
  raw_points = flat_map (listed (row_number P)) (by_place (λ p. p.place.at) (each static_points 0 P.fields))
      ++ flat_map (λ o. flat_map (listed (row_number P)) o.points) (by_place (λ o. o.place.at) (each (outline_if P) 0 P.methods))

  pub numbered_points : AreNumbered (λ (p : Point). p.item) raw_points (points_of P) (point_number P)
  unfolding point_number points_of
  numbered_points = once_numbered same_point point_exact point_alike (λ p. p.item) raw_points

  -- what the points of a method are joined of
  module _ (m : ℕ) (k : PlainMethod) where
    abbrev pub this_points : List PointAt
    this_points = when (not k.is_static) (record { item = point.This m; place = k.tag.place; row = row.This m } ∷ [])

    abbrev pub param_points : List PointAt
    param_points = each (variable_points m k) 0 k.params

    abbrev pub local_points : List PointAt
    local_points = each (variable_points m k) (length k.params) k.locals

    abbrev pub result_points : List PointAt
    result_points = record { item = point.Result m; place = k.tag.place; row = result_in k.slot m } ∷ []

    abbrev pub part_points : List PointAt
    part_points = by_place (λ p. p.place.at) (flat_map form_points (parts_of P m k))
