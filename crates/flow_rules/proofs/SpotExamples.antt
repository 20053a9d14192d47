-- The spots of a small program: class P { void m() {} }, and a main with P x = new P(); a line printed of x instanceof P; x = (P) x; x.m(); ((P) x).m();
use Rattle.std.proofs.Common.{◌≡◌, true, false, [], ◌∷◌, refl}
use Rattle.std.specs.Prelude.{Some, None, codes}
use Rattle.java_core.specs.Trees.{Sts, no_ex, local, call, create, cast, instance_of, to_local, declare, assign, act, print, no_st, st_then}
use Rattle.java_core.specs.Programs.{Plain}
use Rattle.java_core.specs.Classes.{search_order, declaration_of}
use Rattle.java_core.specs.Types.{call_signature}
use Rattle.fact_model.specs.declared.facts.SpotKind.TheVariants as spot
use Rattle.flow_rules.specs.Ordered.{by_place}
use Rattle.flow_rules.specs.Operands.{type_in}
use Rattle.flow_rules.specs.Parts.{parts_of}
use Rattle.flow_rules.specs.Numbered.{rows_of, columns_of, sites_of, points_of, bodies_of, row_number, column_number, site_number, point_number}
use Rattle.flow_rules.specs.Spots.{marks_of, numbered_spots}
use Rattle.flow_rules.specs.Facts.{numbers, gathered}
use Rattle.flow_rules.proofs.Examples.{place, of_p, main_method, program}

abbrev lines : Sts
lines = st_then (declare (place 50) 1 (Some (create (place 54) 0 1 no_ex)))
    (st_then (print (place 60) true (Some (instance_of (place 62) 1 (local (place 61) 1) 1)))
    (st_then (assign (place 70) (to_local (place 70) 1) (cast (place 72) 2 of_p (local (place 73) 1)))
    (st_then (act (place 80) (call (place 81) (local (place 80) 1) (codes "m") no_ex))
    (st_then (act (place 90) (call (place 95) (cast (place 91) 3 of_p (local (place 92) 1)) (codes "m") no_ex)) no_st))))

abbrev calling : Plain
calling = record program {
  fields = [];
  methods = record {
    owner = 1;
    name = codes "m";
    is_static = false;
    is_public = false;
    slot = Some 0;
    params = [];
    locals = [];
    result = None;
    body = Some no_st;
    tag = place 20;
  } ∷ record main_method { body = Some lines } ∷ [];
  slots = record { name = codes "m"; params = []; result = None; first = 0 } ∷ [];
  main = 1;
}

-- the `instanceof` has the first number among the tests, and no spot
spots : numbered_spots 0 0 (by_place (λ x. x.place.at) (gathered calling (λ b. marks_of calling (numbers calling))))
    ≡ record { kind = spot.Cast; at = 1; place = record { at = 72; line = 1 } } ∷ record { kind = spot.Call; at = 0; place = record { at = 81; line = 1 } }
    ∷ record { kind = spot.Cast; at = 2; place = record { at = 91; line = 1 } } ∷ record { kind = spot.Call; at = 1; place = record { at = 95; line = 1 } } ∷ []
unfolding numbers bodies_of points_of point_number sites_of site_number rows_of row_number columns_of column_number parts_of type_in search_order declaration_of
    call_signature
spots = refl
