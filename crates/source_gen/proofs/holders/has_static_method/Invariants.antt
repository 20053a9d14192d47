use Rattle.std.proofs.Common.{◌≡◌, ◌==◌, ◌&&◌, drop, map}
use Rattle.std.specs.List.{list_any}
use Rattle.java_core.specs.Programs.{PlainMethod, method_seen}
use Rattle.source_gen.proofs.holders.has_static_method.Given as goal

abbrev pub invariant-loop-method : goal.invariant-loop-method
invariant-loop-method l =
    let p = λ (m : PlainMethod). m.is_static && (m.owner == l.c) in
    list_any p (map method_seen (drop l.method-index l.method-items)) ≡ list_any p (map method_seen l.program.methods.items)
