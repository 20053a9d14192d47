-- Believed. Each family of sets that the inclusions of the facts close covers each run of the program (Andersen, 1994).
use Rattle.std.specs.Prelude.{◌≡◌, ◌≢◌, ℕ, suc, ◌==◌, ◌&&◌, Bool, true, false, List, [], ◌∷◌, Option, Some, None, slice_get, position}
use Rattle.std.specs.Option.{option_map, option_map_or, option_and_then}
use Rattle.std.specs.List.{AllByRecursion}
use Rattle.kaba_base.specs.declared.ColId.{ColId}
use Rattle.java_core.specs.Trees.{Ex, call, cast, instance_of}
use Rattle.java_core.specs.Programs.{Plain, PlainMethod}
use Rattle.java_meaning.specs.Watched.{watched_with}
use Rattle.java_meaning.specs.Moment.{Value, Number, Truth, CodeUnit, Nothing, Text, Object, Cell, Spot, held, bound, self_of, result_of, set_static, kept, put_in, touched, tested, ran, unnoted, Escaped, Body, Lang}
use Rattle.java_meaning.specs.Meaning.{run_in}
use Rattle.java_meaning.specs.Languages.{body_with, run}
use Rattle.fact_model.specs.Flowing.{Fact, in_point, in_cell, Inclusion}
use Rattle.kaba_bits.specs.Sets.{bit, row}
use Rattle.fact_model.specs.declared.sets.PointsTo.{PointsTo}
use Rattle.fact_model.specs.declared.facts.Facts.{Facts}
use Rattle.fact_model.specs.declared.facts.CellInfo.{CellInfo}
use Rattle.flow_rules.specs.declared.items.Operand.{Operand}
use Rattle.flow_rules.specs.declared.items.ColumnItem.TheVariants as column
use Rattle.flow_rules.specs.declared.items.PointItem.TheVariants as point
use Rattle.flow_rules.specs.Labels.{label_sts}
use Rattle.flow_rules.specs.Operands.{operand_of, type_in}
use Rattle.flow_rules.specs.Parts.{nothing}
use Rattle.flow_rules.specs.Lists.{point_at, site_in}
use Rattle.flow_rules.specs.Facts.{numbers}
use Rattle.flow_laws.specs.cover.Families.{Set}

-- which sites each point and each cell has
pub record Sets : Type 0 where
  pub point : ℕ → ℕ → Bool
  pub cell : ℕ → ℕ → Bool

-- whether the sets have what a fact says: a site in a point or in a cell
abbrev pub has : Sets → Fact → Bool
has S (in_point p s) = S.point p s
has S (in_cell c s) = S.cell c s

-- the points-to sets of the facts
abbrev pub solved : PointsTo → Sets
solved t = record { point = λ p s. bit (row t.points.items p) s; cell = λ c s. bit (row t.cells.items c) s }

-- closed under the inclusions: a fact that follows from what the sets have is in the sets
unfoldable pub IsClosed : Facts → Sets → Type 0
IsClosed F S = (ps : List Fact) (f : Fact) → Inclusion F ps f → AllByRecursion (λ p. has S p ≡ true) ps → has S f ≡ true

-- whether there is a site, and it is s
abbrev pub is_site : Option ℕ → ℕ → Bool
is_site None s = false
is_site (Some r) s = r == s

-- the column of a cell of fields; the elements of an array have none
abbrev pub is_column : Option ColId → Option ℕ → Bool
is_column None None = true
is_column None (Some d) = false
is_column (Some c) None = false
is_column (Some c) (Some d) = c.0 == d

-- whether a cell is that of the site s at a column, or for its elements where there is none
abbrev pub is_cell : ℕ → Option ℕ → CellInfo → Bool
is_cell s c k = (k.site.0 == s) && is_column k.column c

-- a set of creations from one of sites: what has no site passes
abbrev pub passes : (ℕ → Bool) → Option ℕ → Bool
passes X None = true
passes X (Some s) = X s

-- what the facts have of an expression, and of a site
module _ (P : Plain) where
  -- what the facts see of an expression of the method m
  unfoldable pub operand_at : ℕ → Ex → Operand
  operand_at m e = option_map_or (λ k. operand_of P (type_in P m k) m k e) (slice_get P.methods m) nothing

  module _ (F : Facts) where
    -- the cell of a site at a field, and that of the elements of one
    abbrev pub cell_number : ℕ → Option ℕ → Option ℕ
    cell_number s c = position (is_cell s c) F.cells.items

    -- the number of the cell of the site s at the field f
    abbrev pub field_cell : ℕ → ℕ → Option ℕ
    field_cell f s = option_and_then (λ c. cell_number s (Some c)) ((numbers P).column (column.Fld f))

    -- the number of the cell of the elements of the site s
    abbrev pub element_cell : ℕ → Option ℕ
    element_cell s = cell_number s None

-- the watch of sets over the bodies of a program
module _ (P : Plain) (F : Facts) (S : Sets) where
  -- whether the set of a point has a site; no point has none
  abbrev pub at_point : Option ℕ → ℕ → Bool
  at_point None s = false
  at_point (Some p) s = S.point p s

  -- whether the set of a cell has a site; no cell has none
  abbrev pub at_cell : Option ℕ → ℕ → Bool
  at_cell None s = false
  at_cell (Some c) s = S.cell c s

  -- a creation that is no point is itself alone
  abbrev pub or_itself : Option ℕ → Option ℕ → ℕ → Bool
  or_itself None r s = is_site r s
  or_itself (Some p) r s = S.point p s

  -- whether an operand may give the site s: by its point, or for a creation by itself where it is no point
  abbrev pub held_in : Option ℕ → Operand → ℕ → Bool
  held_in None o s = at_point (point_at (numbers P) o) s
  held_in (Some n) o s = or_itself (point_at (numbers P) o) ((numbers P).site n) s

  -- the sites of what an expression gives
  abbrev pub held_sites : Operand → ℕ → Bool
  held_sites o s = held_in o.created o s

  -- the sites of the flow point of an operand
  abbrev pub point_sites : Operand → ℕ → Bool
  point_sites o s = at_point (point_at (numbers P) o) s

  -- the operand of a cast or instanceof, and the receiver of a call
  abbrev pub tested_by : Ex → Ex
  tested_by (cast t n u e) = e
  tested_by (instance_of t n e c) = e
  tested_by e = e

  -- the receiver of a call
  abbrev pub called_on : Ex → Ex
  called_on (call t e x es) = e
  called_on e = e

  -- the sites that the facts give to each spot
  abbrev pub sites_at : Spot → ℕ → Bool
  sites_at (held m e) s = held_sites (operand_at P m e) s
  sites_at (bound m i) s = at_point ((numbers P).point (point.Local m i)) s
  sites_at (self_of m) s = at_point ((numbers P).point (point.This m)) s
  sites_at (result_of m) s = at_point ((numbers P).point (point.Result m)) s
  sites_at (set_static f) s = at_point ((numbers P).point (point.Static f)) s
  sites_at (kept o f) s = at_cell (option_and_then (field_cell P F f) (site_in (numbers P) o)) s
  sites_at (put_in o) s = at_cell (option_and_then (element_cell P F) (site_in (numbers P) o)) s
  sites_at (touched m e f) s = point_sites (operand_at P m e) s
  sites_at (tested m d passed) s = point_sites (operand_at P m (tested_by d)) s
  sites_at (ran m d b) s = point_sites (operand_at P m (called_on d)) s

  -- the creations that may stand at a spot: those whose site is there, and those without a site
  abbrev pub spot_set : Spot → Set
  spot_set p o = passes (sites_at p) (site_in (numbers P) o)

  -- whether the watch lets a value pass, and the arguments of a body from number i on
  abbrev pub is_seen : Set → Value → List Cell → Bool
  is_seen X (Object a) h = option_map_or (λ c. X c.site) (slice_get h a) false
  is_seen X (Number n) h = true
  is_seen X (Truth b) h = true
  is_seen X (CodeUnit c) h = true
  is_seen X Nothing h = true
  is_seen X (Text a) h = true

  -- whether the watch lets all values pass that a body takes as its arguments from number i on
  abbrev pub are_seen : ℕ → ℕ → List Value → List Cell → Bool
  are_seen b i [] h = true
  are_seen b i (v ∷ vs) h = is_seen (spot_set (bound b i)) v h && are_seen b (suc i) vs h

  -- a method's body with its labels
  abbrev pub labelled_with : ℕ → PlainMethod → Option Body
  labelled_with m k = option_map (λ xs. body_with m k (label_sts 0 xs)) k.body

  -- the body of the method m, with the labels of its parts
  unfoldable pub labelled_body : ℕ → Option Body
  labelled_body m = option_and_then (labelled_with m) (slice_get P.methods m)

  -- what a run asks of the program, under the watch of the sets
  abbrev pub watched : Lang
  watched = watched_with P labelled_body (record {
    sees = λ p v h. is_seen (spot_set p) v h;
    sees_all = λ b vs h. are_seen b 0 vs h;
    note = λ p v h m. m;
    note_all = λ b vs h m. m;
  })

-- no run of the program under the watch of sets that the inclusions close escapes: each object and array that a local, a parameter, `this`, a field,
-- an element or a result holds comes from a site in the set that the facts give it
unfoldable pub CoversEachRun : Plain → Facts → Type 0
CoversEachRun P F = (S : Sets) → IsClosed F S → (words : List (List ℕ)) (n : ℕ) → (run_in (watched P F S) P.main words n).end ≢ Escaped

-- and each is the run of the program itself, but for what it notes: it ends the same way, with the same output and as many steps left
pub record CoversProgram (P : Plain) (F : Facts) : Type 0 where
  pub covers : CoversEachRun P F
  pub same : (S : Sets) → IsClosed F S → (words : List (List ℕ)) (n : ℕ) → unnoted (run_in (watched P F S) P.main words n) ≡ run P words n
