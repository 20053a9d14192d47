-- A program to which the written tree resolves rebuilds the old one, where its bodies match.
use Rattle.java_core.specs.Programs.{Plain}
use Rattle.fact_model.specs.declared.facts.Facts.{Facts}
use Rattle.fact_model.specs.declared.sets.PointsTo.{PointsTo}
use Rattle.hier_model.specs.Hierarchies.{Hierarchy}
use Rattle.rebuild_model.specs.Rebuilds.{Rebuilds}
use Rattle.write_laws.proofs.rebuilds.Nodes.{are_types}
use Rattle.write_laws.proofs.rebuilds.Supers.{order_is}
use Rattle.write_laws.proofs.rebuilds.Given.{Given, T}
use Rattle.write_laws.proofs.rebuilds.Fields.{instance_field, static_field, each_field, each_static_field}
use Rattle.write_laws.proofs.rebuilds.Resolved.{BodiesMatch}
use Rattle.write_laws.proofs.rebuilds.Methods.{each_body, each_head, each_filler}
use Rattle.write_laws.proofs.rebuilds.Origins.{instance_method, static_method, each_static_method}
use Rattle.write_laws.proofs.rebuilds.Main.{main_is}
use Rattle.write_laws.proofs.rebuilds.Makes.{each_make}
use Rattle.write_laws.proofs.rebuilds.NewNames.{no_maker_new}

module _ {P : Plain} {F : Facts} {pt : PointsTo} {H : Hierarchy} {V : Plain} (G : Given P F pt H V) (match : BodiesMatch G) where
  unfoldable pub rebuilt : Rebuilds P F H V
  rebuilt = record {
    places = T G;
    types = are_types P F H V G.resolves G.new G.formed G.facts pt G.unbroken;
    order = order_is P F H V G.resolves G.new G.hierarchy.sized.order pt G.unbroken G.formed G.facts;
    members = record {
      fields = instance_field G;
      each_field = each_field G;
      methods = instance_method G match;
      each_body = each_body G match;
      each_head = each_head G;
      each_filler = each_filler G;
    };
    statics = record {
      fields = static_field G;
      each_field = each_static_field G;
      methods = static_method G match;
      each_method = each_static_method G match;
      each_make = each_make G;
    };
    main = main_is G match;
    makerless = no_maker_new G match;
  }
