-- The facts of a formed and typed program are in order, and in range where there are not too many.
use Rattle.std.proofs.Common.{◌≡◌, ℕ, ◌+◌, Option, Some, None, length, refl, ap, arith, ⊎_elim}
use Rattle.std.specs.Prelude.{◌<◌, ◌≤◌, nat_lt, if◌then◌else◌, Bool, true, false}
use Rattle.std.proofs.lemmas.Bool.{ltb-false, cases_lt}
use Rattle.std.proofs.lemmas.List.{length-map}
use Rattle.std.proofs.lemmas.Option.{slice_get_within}
use Rattle.kaba_base.specs.declared.RowId.{RowId}
use Rattle.java_core.specs.Programs.{Plain}
use Rattle.java_core.specs.Typing.{IsTyped}
use Rattle.java_core.specs.Formed.{IsFormed}
use Rattle.fact_model.specs.InOrder.{InOrder}
use Rattle.fact_model.specs.InRange.{AreCounted, InRange}
use Rattle.fact_model.specs.declared.facts.Facts.{Facts}
use Rattle.flow_rules.specs.declared.faults.Counted.{Counted}
use Rattle.flow_rules.specs.declared.faults.Counted.TheVariants as counted
use Rattle.flow_rules.specs.declared.items.Point.{Point}
use Rattle.flow_rules.specs.Numbered.{rows_of, columns_of, sites_of, points_of}
use Rattle.flow_rules.specs.Facts.{TooMany, row_info, column_info, site_info, numbers, cells_of, over, too_many, IsFactsOf, AreNamesOf}
use Rattle.flow_rules.proofs.Listed.{below_at}
use Rattle.flow_laws.proofs.order.Classes.{class_at, classes_in_order}
use Rattle.flow_laws.proofs.order.Members.{members_in_order}
use Rattle.flow_laws.proofs.order.Names.{names_in_order}
use Rattle.flow_laws.proofs.order.Sites.{sites_in_order, site_types}
use Rattle.flow_laws.proofs.order.Bodies.{one_this, listed, apart, this_body, this_site}
use Rattle.flow_laws.proofs.order.Accesses.{access_kinds, accesses_below}
use Rattle.flow_laws.proofs.order.Tied.{ties_below, ties_free}
use Rattle.flow_laws.proofs.order.Supers.{supers_below, super_bodies}
use Rattle.flow_laws.proofs.order.Contained.{members_below, arrays_free}
use Rattle.flow_laws.proofs.order.Tests.{tests_in_order}
use Rattle.flow_laws.proofs.order.Range.{in_range as all_in_range}

pub in_order : (P : Plain) → IsFormed P → IsTyped P → (F : Facts) → IsFactsOf P F → AreNamesOf P F → InOrder F
in_order P formed typed F facts named =
    record {
      classes = classes_in_order P F facts formed;
      types = record {
        ties = ties_below P formed typed F facts;
        accesses = accesses_below P F facts formed typed;
        supers = supers_below P formed typed F facts;
        sites = site_types P formed typed F facts;
        members = members_below P formed typed F facts;
      };
      owners = record { ties = ties_free P formed typed F facts; arrays = arrays_free P formed typed F facts };
      bodies = record {
        accesses = access_kinds P F facts;
        supers = super_bodies P formed typed F facts;
        one_this = one_this P formed typed F facts;
        listed = listed P formed typed F facts;
        apart = apart P formed typed F facts;
        this_body = this_body P formed typed F facts;
        this_site = this_site P formed typed F facts;
      };
      sites = sites_in_order P formed typed F facts;
      tests = tests_in_order P formed typed F facts;
      members = members_in_order P formed F facts;
      names = names_in_order P formed F facts named;
    }

over_none : (limit n : ℕ) (what : Counted) (rest : Option TooMany) → over limit n what rest ≡ None → (n ≤ limit) × (rest ≡ None)
over_none limit n what rest e = go (nat_lt limit n) refl e
  where
    go : (b : Bool) → nat_lt limit n ≡ b → (if b then Some (record { what = what; number = limit + 1 }) else rest) ≡ None → (n ≤ limit) × (rest ≡ None)
    go true d e = absurd (cc)
    go false d e = (ltb-false limit n d, e)

module _ (P : Plain) (formed : IsFormed P) (F : Facts) (facts : IsFactsOf P F) where
  classes_counted : length F.classes.items < 4294967295
  classes_counted = ⊎_elim
      (λ h. let z = below_at F.classes.items 4294967294 h in
      let k = class_at P F facts 4294967294 z.0 z.1 in
      absurd (omega (arith, slice_get_within P.classes 4294967294 k.plain k.stands, formed.counted.classes))) (λ h. omega (arith, h))
      (cases_lt 4294967294 (length F.classes.items))

  are_counted : too_many P ≡ None → length F.calls.items < 4294967295 → length F.tests.items < 4294967295 → AreCounted F
  are_counted few calls tests =
      let a = over_none 16384 (length (rows_of P)) counted.Rows _ few in
      let b = over_none 8192 (length (columns_of P)) counted.Columns _ a.1 in
      let c = over_none 8192 (length (sites_of P)) counted.Sites _ b.1 in
      let d = over_none 65536 (length (points_of P) + length (cells_of P)) counted.Points None c.1 in
      record {
        rows = omega (arith, a.0, ap length facts.rows, length-map (rows_of P) (row_info (numbers P) P));
        columns = omega (arith, b.0, ap length facts.columns, length-map (columns_of P) (λ c. column_info P c.item));
        sites = omega (arith, c.0, ap length facts.sites, length-map (sites_of P) site_info);
        classes = classes_counted;
        points = omega (arith, d.0, ap length facts.points, length-map {A = Point} {B = RowId} (points_of P) (λ p. record { 0 = p.row }));
        cells = omega (arith, d.0, ap length facts.cells);
        calls = calls;
        tests = tests;
      }

pub in_range : (P : Plain) → IsFormed P → IsTyped P → (F : Facts) → IsFactsOf P F → too_many P ≡ None → length F.calls.items < 4294967295
    → length F.tests.items < 4294967295 → InRange F
in_range P formed typed F facts few calls tests = all_in_range P formed typed F facts (are_counted P formed F facts few calls tests)
