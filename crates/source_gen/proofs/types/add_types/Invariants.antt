use Rattle.std.proofs.Common.{ℕ, Bool}
use Rattle.std.proofs.Common.{◌≡◌, ◌∷◌, [], ◌++◌, drop}
use Rattle.java_tree.specs.Syntax.{decls}
use Rattle.flow_rules.specs.Ordered.{each, when}
use Rattle.hier_model.specs.Hierarchies.{is_class_node}
use Rattle.write_model.specs.Written.{type_tree}
use Rattle.write_forms.specs.Sources.{old_program, renaming}
use Rattle.source_gen.proofs.types.add_types.Given as goal

abbrev pub invariant-loop-n : goal.invariant-loop-n
invariant-loop-n l =
    let f = λ (n : ℕ) (live : Bool). when live
    (type_tree (old_program l.nodes.source) (renaming l.nodes.source) l.nodes.facts.now l.nodes.source.hier.now l.nodes.source.numbering.now.columns.keys
    (is_class_node l.nodes.facts.now l.nodes.source.hier.now n) n ∷ []) in
    decls l.into.items ++ each f l.n (drop l.n l.nodes.source.hier.now.order.live) ≡ decls l.fn.into.items ++ each f 0 l.nodes.source.hier.now.order.live
