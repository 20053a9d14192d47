use Rattle.std.proofs.Common.{◌≡◌, ◌==◌, ◌&&◌, drop, map}
use Rattle.std.specs.List.{list_any}
use Rattle.java_core.specs.Programs.{PlainField, field_seen}
use Rattle.source_gen.proofs.holders.has_static_field.Given as goal

abbrev pub invariant-loop-field : goal.invariant-loop-field
invariant-loop-field l =
    let p = λ (f : PlainField). f.is_static && (f.owner == l.c) in
    list_any p (map field_seen (drop l.field-index l.field-items)) ≡ list_any p (map field_seen l.program.fields.items)
