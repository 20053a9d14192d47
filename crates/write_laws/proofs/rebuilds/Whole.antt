-- The law.
use Rattle.java_core.specs.Programs.{Plain}
use Rattle.java_core.specs.Typing.{IsTyped}
use Rattle.name_rules.specs.Outline.{outline}
use Rattle.fact_model.specs.declared.facts.Facts.{Facts}
use Rattle.fact_model.specs.declared.sets.PointsTo.{PointsTo}
use Rattle.hier_model.specs.Hierarchies.{Hierarchy}
use Rattle.write_model.specs.Written.{java_tree}
use Rattle.write_laws.specs.bodies.Known.{HasLocalsInOrder, KnowsNames}
use Rattle.write_laws.proofs.bodies.Bodies.{body_matched}
use Rattle.write_laws.specs.rebuilds.Laws.{IsRebuiltProgram, TreeRebuilds}
use Rattle.write_laws.proofs.rebuilds.Given.{Given, T}
use Rattle.write_laws.proofs.rebuilds.Resolved.{BodiesMatch}
use Rattle.write_laws.proofs.rebuilds.Named.{named_row, named_node, node_no_text, named_holder, no_field_holder, named_static_field, named_static_method, named_makers, no_field_makers}
use Rattle.write_laws.proofs.rebuilds.Rebuilt.{rebuilt}
use Rattle.write_laws.proofs.rebuilds.Public.{written}
use Rattle.write_laws.proofs.rebuilds.Makes.{named_make}

module _ {P : Plain} {F : Facts} {pt : PointsTo} {H : Hierarchy} {V : Plain} (G : Given P F pt H V) where
  knows : KnowsNames P H V (outline (java_tree P F H)) (T G)
  knows = record {
    row_live = named_row G;
    type = named_node G;
    no_text = node_no_text G;
    holder = named_holder G;
    no_field = no_field_holder G;
    static_field = named_static_field G;
    static_method = named_static_method G;
    makers = named_makers G;
    makers_no_field = no_field_makers G;
    make = λ s m g z new e object has at ow name. named_make G s
        (record { site = z; stands = e; object = object; maker = m; has = has }) g new at ow name;
  }

  bodies_match : IsTyped P → HasLocalsInOrder P → BodiesMatch G
  unfolding BodiesMatch
  bodies_match typed locals m k xs here new ys e b st ow names resolved counts =
      let z = body_matched P H V (outline (java_tree P F H)) (T G) knows G.formed typed locals m k new here xs ys e
      (record { body = b; names = names; static = st; owner = ow; resolves = resolved; counts = counts }) in
      (z.matches, z.locals)

  is_rebuilt : IsTyped P → HasLocalsInOrder P → IsRebuiltProgram P F H V
  unfolding rebuilt
  is_rebuilt typed locals = record {
    rebuilds = rebuilt G (bodies_match typed locals);
    written = written G;
  }

pub tree_rebuilds : TreeRebuilds
unfolding TreeRebuilds
tree_rebuilds P F s H W ready resolves new =
    let G : Given P F s H W = record {
      formed = ready.formed;
      facts = ready.facts;
      hierarchy = ready.hierarchy;
      unbroken = ready.unbroken;
      resolves = resolves;
      new = new;
    } in is_rebuilt G ready.typed ready.locals
