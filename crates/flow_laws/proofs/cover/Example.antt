-- A program that makes an object and keeps it in a local: sets that lack its site let the run escape, and sets that have it do not.
use Rattle.std.proofs.Common.{◌≡◌, ◌⊎◌, ⊎_elim, ℕ, List, [], ◌∷◌, Option, Some, None, refl, ap, ◌∙◌}
use Rattle.std.specs.Prelude.{true, false, slice_get, codes, ◌==◌, map}
use Rattle.std.specs.Option.{option_map_or}
use Rattle.java_core.specs.declared.TyBase.TheVariants.{Class, Str}
use Rattle.java_core.specs.Trees.{Tag, at_place, no_ex, create, Sts, declare, no_st, st_then, act}
use Rattle.java_core.specs.Programs.{Plain, PlainClass, PlainMethod, PlainLocal}
use Rattle.java_meaning.specs.Moment.{Object, Cell, Spot, held, kept as kept_in, put_in, Ended, Escaped}
use Rattle.java_meaning.specs.Meaning.{run_in}
use Rattle.fact_model.specs.declared.facts.Facts.{Facts}
use Rattle.flow_rules.specs.Operands.{type_in}
use Rattle.flow_rules.specs.Parts.{parts_of}
use Rattle.flow_rules.specs.Numbered.{rows_of, row_number, columns_of, column_number, bodies_of, sites_of, site_number, points_of, point_number}
use Rattle.flow_rules.specs.Facts.{numbers}
use Rattle.flow_rules.specs.declared.items.Operand.{Operand}
use Rattle.flow_rules.specs.Lists.{point_at, site_in}
use Rattle.flow_laws.specs.cover.Covers.{Sets, operand_at, passes, at_point, at_cell, or_itself, held_in, sites_at, spot_set, is_seen, labelled_body, watched}
use Rattle.java_core.specs.Makers.{maker_name}
use Rattle.java_core.specs.Classes.{lookup}
use Rattle.java_meaning.specs.Languages.{layout}
use Rattle.flow_rules.specs.declared.items.PointItem.TheVariants as point

abbrev start : Tag
start = at_place (record { at = 0; line = 0 })

object : PlainClass
object = record { name = codes "Object"; is_interface = false; is_abstract = false; parent = None; faces = []; tag = start }

main_class : PlainClass
main_class = record { name = codes "Main"; is_interface = false; is_abstract = false; parent = Some (record { 0 = 0 }); faces = []; tag = start }

args : PlainLocal
args = record { name = codes "args"; ty = record { base = Str; dim = 1 }; tag = start }

kept : PlainLocal
kept = record { name = codes "o"; ty = record { base = Class (record { 0 = 0 }); dim = 0 }; tag = start }

code : Sts
code = st_then (declare start 1 (Some (create start 0 0 no_ex))) no_st

main : PlainMethod
main = record {
  owner = 1;
  name = codes "main";
  is_static = true;
  is_public = true;
  slot = None;
  params = args ∷ [];
  locals = kept
      ∷ [];
  result = None;
  body = Some code;
  tag = start;
}

program : Plain
program = record { classes = object ∷ main_class ∷ []; fields = []; methods = main ∷ []; slots = []; main = 0 }

none : Sets
none = record { point = λ p s. false; cell = λ c s. false }

all : Sets
all = record { point = λ p s. true; cell = λ c s. true }

-- the local lacks the site
escapes : (F : Facts) → (run_in (watched program F none) 0 [] 5).end ≡ Escaped
unfolding run_in labelled_body operand_at numbers rows_of row_number columns_of column_number bodies_of sites_of site_number points_of point_number
    parts_of type_in object main_class args kept code main program none
escapes F = refl

ends : (F : Facts) → (run_in (watched program F all) 0 [] 5).end ≡ Ended
unfolding run_in labelled_body operand_at numbers rows_of row_number columns_of column_number bodies_of sites_of site_number points_of point_number
    parts_of type_in object main_class args kept code main program all
ends F = refl

-- class A { A() {} }: new A(); the creation is the flow point 0, and the constructor's `this` is 1
made_class : PlainClass
made_class = record { name = codes "A"; is_interface = false; is_abstract = false; parent = Some (record { 0 = 0 }); faces = []; tag = start }

maker : PlainMethod
maker = record {
  owner = 1;
  name = maker_name (codes "A");
  is_static = false;
  is_public = true;
  slot = Some 0;
  params = [];
  locals = [];
  result = None;
  body = Some no_st;
  tag = start;
}

making : Plain
making =
    record {
      classes = object ∷ made_class ∷ main_class ∷ [];
      fields = [];
      methods = record main { owner = 2; locals = []; body = Some (st_then (act start (create start 0 1 no_ex)) no_st) } ∷ maker ∷ [];
      slots = record { name = maker_name (codes "A"); params = []; result = None; first = 1 } ∷ [];
      main = 0;
    }

made_points : map (λ p. p.item) (points_of making) ≡ point.Expr 0 0 ∷ point.This 1 ∷ []
unfolding numbers rows_of row_number columns_of column_number bodies_of sites_of site_number points_of point_number parts_of type_in object main_class
    made_class args kept code main maker making lookup layout
made_points = refl

-- the creation alone has the site
own_alone : Sets
own_alone = record { point = λ p s. p == 0; cell = λ c s. false }

made_escapes : (F : Facts) → (run_in (watched making F own_alone) 0 [] 5).end ≡ Escaped
unfolding run_in labelled_body operand_at numbers rows_of row_number columns_of column_number bodies_of sites_of site_number points_of point_number
    parts_of type_in object main_class made_class args kept code main maker making own_alone lookup layout
made_escapes F = refl

made_ends : (F : Facts) → (run_in (watched making F all) 0 [] 5).end ≡ Ended
unfolding run_in labelled_body operand_at numbers rows_of row_number columns_of column_number bodies_of sites_of site_number points_of point_number
    parts_of type_in object main_class made_class args kept code main maker making all lookup layout
made_ends F = refl

-- sets without sites let no object of a creation pass at any spot; a creation that is no flow point is itself alone
module _ (P : Plain) (F : Facts) where
  at_no_point : (o : Option ℕ) (s : ℕ) → at_point P F none o s ≡ false
  unfolding none
  at_no_point None s = refl
  at_no_point (Some p) s = refl

  at_no_cell : (o : Option ℕ) (s : ℕ) → at_cell P F none o s ≡ false
  unfolding none
  at_no_cell None s = refl
  at_no_cell (Some c) s = refl

  -- what is held there is no creation, or one that is a flow point
  Flows : Spot → Type 0
  Flows (held m e) = ((operand_at P m e).created ≡ None) ⊎ ((p : ℕ) × (point_at (numbers P) (operand_at P m e) ≡ Some p))
  Flows q = Unit {0}

  held_nowhere : (c q : Option ℕ) (o : Operand) (s : ℕ) → point_at (numbers P) o ≡ q → (c ≡ None) ⊎ ((p : ℕ) × (q ≡ Some p))
      → held_in P F none c o s ≡ false
  held_nowhere None q o s e h = at_no_point (point_at (numbers P) o) s
  held_nowhere (Some n) q o s e h =
      ⊎_elim (λ d. absurd (cc)) (λ d. ap (λ z. or_itself P F none z ((numbers P).site n) s) (e ∙ d.1) ∙ at_no_point (Some d.0) s) h

  nowhere : (p : Spot) (s : ℕ) → Flows p → sites_at P F none p s ≡ false
  unfolding Flows
  nowhere (held m e) s h = held_nowhere (operand_at P m e).created _ (operand_at P m e) s refl h
  nowhere (kept_in o f) s h = at_no_cell _ s
  nowhere (put_in o) s h = at_no_cell _ s
  nowhere p s h = at_no_point _ s

  stopped : (p : Spot) (a r : ℕ) (c : Cell) (h : List Cell) → slice_get h a ≡ Some c → site_in (numbers P) c.site ≡ Some r → Flows p
      → is_seen P F none (spot_set P F none p) (Object a) h ≡ false
  stopped p a r c h there made flows =
      ap (λ z. option_map_or (λ k. spot_set P F none p k.site) z false) there ∙ ap (passes (sites_at P F none p)) made ∙ nowhere p r flows
