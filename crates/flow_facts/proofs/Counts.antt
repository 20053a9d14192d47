-- What is over its limit, and the numbers of a numbering.
use Rattle.std.proofs.Common.{◌≡◌, ℕ, ◌+◌, ◌<◌, ◌≤◌, List, [], ◌∷◌, ◌++◌, length, refl, ap, ◌∙◌}
use Rattle.std.specs.List.{flat_map}
use Rattle.std.specs.Prelude.{Bool, Option, Some, None, cond, nat_eq, map}
use Rattle.std.proofs.lemmas.Bool.{lt-ltb, le-ltb}
use Rattle.java_core.specs.Programs.{Plain}
use Rattle.flow_rules.specs.declared.faults.Counted.{Counted}
use Rattle.flow_rules.specs.declared.faults.Counted.TheVariants as counted
use Rattle.flow_facts.specs.declared.lists.PlacedCall.{PlacedCall}
use Rattle.fact_model.specs.declared.facts.CallInfo.{CallInfo}
use Rattle.fact_model.specs.declared.facts.CellInfo.{CellInfo}
use Rattle.flow_rules.specs.declared.items.RowItem.{RowItem}
use Rattle.flow_rules.specs.declared.items.ColumnItem.{ColumnItem}
use Rattle.flow_rules.specs.declared.items.PointItem.{PointItem}
use Rattle.flow_rules.specs.declared.items.Row.{Row}
use Rattle.flow_rules.specs.declared.items.Column.{Column}
use Rattle.flow_rules.specs.declared.items.Site.{Site}
use Rattle.flow_rules.specs.declared.items.Point.{Point}
use Rattle.flow_rules.specs.declared.items.PointAt.{PointAt}
use Rattle.flow_rules.specs.declared.items.Outline as declared
use Rattle.flow_rules.specs.Ordered.{by_place, once, each}
use Rattle.flow_rules.specs.Lists.{Numbers}
use Rattle.flow_facts.specs.Views.{outline_seen}
use Rattle.flow_facts.proofs.Along.{map-by_place, once_as}
use Rattle.flow_rules.specs.Numbered.{BodyParts, Outline, bodies_of, field_rows, method_rows, field_columns, method_columns, form_sites, listed, static_points, outline_if, number_among, same_row, same_column, same_point, rows_of, columns_of, sites_of, points_of, row_number, column_number, site_number, point_number}
use Rattle.flow_rules.specs.Facts.{TooMany, over, too_many, numbers, FieldCell, fields_of, site_cells, cells_of, call_seen}
use Rattle.flow_facts.specs.Seen.{call_at, calls_seen}

pub over_here : (limit n : ℕ) (what : Counted) (rest : Option TooMany) → limit < n → over limit n what rest ≡ Some (record { what = what; number = limit + 1 })
over_here limit n what rest h = ap (λ b. cond b (Some (record { what = what; number = limit + 1 })) rest) (lt-ltb limit n h)

pub over_not : (limit n : ℕ) (what : Counted) (rest : Option TooMany) → n ≤ limit → over limit n what rest ≡ rest
over_not limit n what rest h = ap (λ b. cond b (Some (record { what = what; number = limit + 1 })) rest) (le-ltb limit n h)

-- the numbers of items among rows, columns, sites and flow points
abbrev numbers_among : List RowItem → List ColumnItem → List ℕ → List PointItem → Numbers
numbers_among rs cs ss ps =
    record {
      row = number_among same_row rs;
      column = number_among same_column cs;
      site = number_among nat_eq ss;
      point = number_among same_point ps;
    }

pub numbers_are : (P : Plain) (rs : List RowItem) (cs : List ColumnItem) (ss : List ℕ) (ps : List PointItem) → rs ≡ map (λ r. r.item) (rows_of P)
    → cs ≡ map (λ c. c.item) (columns_of P)
    → ss ≡ map (λ s. s.number) (sites_of P) → ps ≡ map (λ p. p.item) (points_of P) → numbers_among rs cs ss ps ≡ numbers P
unfolding numbers row_number column_number site_number point_number
numbers_are P rs cs ss ps r c s p =
    let R = map (λ r. r.item) (rows_of P) in
    let C = map (λ c. c.item) (columns_of P) in
    let S = map (λ s. s.number) (sites_of P) in
    ap (λ k. numbers_among k cs ss ps) r ∙ ap (λ k. numbers_among R k ss ps) c ∙ ap (λ k. numbers_among R C k ps) s
    ∙ ap (λ k. numbers_among R C S k) p

pub rows_are : (P : Plain) (xs : List Row) {same : RowItem → RowItem → Bool} → same ≡ same_row
    → xs ≡ each field_rows 0 P.fields ++ each (method_rows P) 0 P.methods → once same (λ r. r.item) (by_place (λ r. r.place.at) xs) ≡ rows_of P
unfolding rows_of
rows_are P xs h e = once_as (λ r. r.item) h (ap (by_place (λ r. r.place.at)) e)

pub columns_are : (P : Plain) (xs : List Column) {same : ColumnItem → ColumnItem → Bool} → same ≡ same_column
    → xs ≡ each field_columns 0 P.fields ++ each (method_columns P) 0 P.methods
    → once same (λ c. c.item) (by_place (λ c. c.place.at) xs) ≡ columns_of P
unfolding columns_of
columns_are P xs h e = once_as (λ c. c.item) h (ap (by_place (λ c. c.place.at)) e)

-- the numbers of the rows
rows_numbered : (P : Plain) (keys : List RowItem) → keys ≡ map (λ r. r.item) (rows_of P) → number_among same_row keys ≡ row_number P
unfolding row_number
rows_numbered P keys e = ap (number_among same_row) e

pub sites_are : (P : Plain) (keys : List RowItem) (bs : List BodyParts) (xs : List Site) → keys ≡ map (λ r. r.item) (rows_of P) → bs ≡ bodies_of P
    → xs ≡ flat_map (λ b. flat_map (form_sites (number_among same_row keys)) b.parts) bs
    → once nat_eq (λ s. s.number) (by_place (λ s. s.place.at) xs) ≡ sites_of P
unfolding sites_of
sites_are P keys bs xs k b e =
    ap (λ l. once nat_eq (λ s. s.number) (by_place (λ s. s.place.at) l))
    (e ∙ ap (λ n. flat_map (λ c. flat_map (form_sites n) c.parts) bs) (rows_numbered P keys k)
    ∙ ap (λ l. flat_map (λ c. flat_map (form_sites (row_number P)) c.parts) l) b)

pub points_are : (P : Plain) (keys : List RowItem) (ss : List PointAt) (os : List Outline) (xs : List Point) {same : PointItem → PointItem → Bool}
    → same ≡ same_point → keys ≡ map (λ r. r.item) (rows_of P)
    → ss ≡ by_place (λ p. p.place.at) (each static_points 0 P.fields) → os ≡ by_place (λ o. o.place.at) (each (outline_if P) 0 P.methods)
    → xs ≡ flat_map (listed (number_among same_row keys)) ss ++ flat_map (λ o. flat_map (listed (number_among same_row keys)) o.points) os
    → once same (λ p. p.item) xs ≡ points_of P
unfolding points_of
points_are P keys ss os xs h k s o e =
    once_as (λ p. p.item) h
    (e ∙ ap (λ n. flat_map (listed n) ss ++ flat_map (λ u. flat_map (listed n) u.points) os) (rows_numbered P keys k)
    ∙ ap (λ l. flat_map (listed (row_number P)) l ++ flat_map (λ u. flat_map (listed (row_number P)) u.points) os) s
    ∙ ap (λ l. flat_map (listed (row_number P)) (by_place (λ p. p.place.at) (each static_points 0 P.fields))
    ++ flat_map (λ u. flat_map (listed (row_number P)) u.points) l) o)

pub cells_are : (P : Plain) (N : Numbers) (cs : List Column) (ss : List Site) (fs : List FieldCell) (xs : List CellInfo) → N ≡ numbers P
    → cs ≡ columns_of P → ss ≡ sites_of P
    → fs ≡ fields_of N P cs → xs ≡ each (site_cells P fs) 0 ss → xs ≡ cells_of P
unfolding cells_of
cells_are P N cs ss fs xs n c s f e =
    e ∙ ap (λ l. each (site_cells P l) 0 ss) (f ∙ ap (λ m. fields_of m P cs) n ∙ ap (fields_of (numbers P) P) c)
    ∙ ap (λ l. each (site_cells P (fields_of (numbers P) P (columns_of P))) 0 l) s

pub outlines_are : (P : Plain) (os ps : List declared.Outline) → map outline_seen os ≡ each (outline_if P) 0 P.methods → ps ≡ by_place (λ o. o.place.at) os
    → map outline_seen ps ≡ by_place (λ o. o.place.at) (each (outline_if P) 0 P.methods)
outlines_are P os ps e h = ap (map outline_seen) h ∙ map-by_place (λ o. o.place.at) (λ o. o.place.at) outline_seen (λ _. refl) os
    ∙ ap (by_place (λ o. o.place.at)) e

-- what there is too much of, kind by kind
module _ (P : Plain) where
  pub over_rows : 16384 < length (rows_of P) → too_many P ≡ Some (record { what = counted.Rows; number = 16385 })
  over_rows h = over_here 16384 _ counted.Rows _ h

  pub over_columns : length (rows_of P) ≤ 16384 → 8192 < length (columns_of P) → too_many P ≡ Some (record { what = counted.Columns; number = 8193 })
  over_columns r h = over_not 16384 _ counted.Rows _ r ∙ over_here 8192 _ counted.Columns _ h

  pub over_sites : length (rows_of P) ≤ 16384 → length (columns_of P) ≤ 8192 → 8192 < length (sites_of P)
      → too_many P ≡ Some (record { what = counted.Sites; number = 8193 })
  over_sites r c h = over_not 16384 _ counted.Rows _ r ∙ over_not 8192 _ counted.Columns _ c ∙ over_here 8192 _ counted.Sites _ h

  points_counted : length (rows_of P) ≤ 16384 → length (columns_of P) ≤ 8192 → length (sites_of P) ≤ 8192
      → too_many P ≡ over 65536 (length (points_of P) + length (cells_of P)) counted.Points None
  points_counted r c s = over_not 16384 _ counted.Rows _ r ∙ over_not 8192 _ counted.Columns _ c ∙ over_not 8192 _ counted.Sites _ s

  pub over_points : length (rows_of P) ≤ 16384 → length (columns_of P) ≤ 8192 → length (sites_of P) ≤ 8192
      → 65536 < length (points_of P) + length (cells_of P)
      → too_many P ≡ Some (record { what = counted.Points; number = 65537 })
  over_points r c s h = points_counted r c s ∙ over_here 65536 _ counted.Points _ h

  pub none_over : length (rows_of P) ≤ 16384 → length (columns_of P) ≤ 8192 → length (sites_of P) ≤ 8192
      → length (points_of P) + length (cells_of P) ≤ 65536 → too_many P ≡ None
  none_over r c s h = points_counted r c s ∙ over_not 65536 _ counted.Points _ h

-- calls without their places
pub calls_apart : (xs : List PlacedCall) → map call_seen (map (λ c. c.call) xs) ≡ map (λ c. c.item) (calls_seen xs)
calls_apart [] = refl
calls_apart (x ∷ xs) = ap (λ l. call_seen x.call ∷ l) (calls_apart xs)

pub calls_by_place : (xs ys : List PlacedCall) (zs : List CallInfo) → ys ≡ by_place (λ c. c.place.at) xs → zs ≡ map (λ c. c.call) ys
    → map call_seen zs ≡ map (λ c. c.item) (by_place (λ c. c.place.at) (calls_seen xs))
calls_by_place xs ys zs e h = ap (map call_seen) (h ∙ ap (map (λ c. c.call)) e) ∙ calls_apart (by_place (λ c. c.place.at) xs)
    ∙ ap (map (λ c. c.item)) (map-by_place (λ c. c.place.at) (λ c. c.place.at) call_at (λ _. refl) xs)
