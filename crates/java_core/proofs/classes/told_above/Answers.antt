use Rattle.std.proofs.Common.{refl, sym, ap, ◌∙◌}
use Rattle.java_core.specs.Programs.{program_of, field_seen, method_seen}
use Rattle.java_core.specs.Classes.{is_field_of, is_method_of}
use Rattle.java_core.specs.Own.{own_named}
use Rattle.java_core.proofs.NearestLemmas.{told-nearest}
use Rattle.java_core.proofs.classes.told_above.Goals as goal

pub returns-in-Field : goal.returns-in-Field
returns-in-Field c =
    let p = c.args.p.now in
    told-nearest p.classes.items (program_of p) refl _ (c.deref.ensures.value ∙ p.tables_shown.parents)
    field_seen (λ k f. is_field_of k c.args.name.now f) p.fields.items _ c.deref-in-Field.ensures.value _
    (λ k. ap (λ n. own_named (program_of p) n k c.args.name.now) (sym c.in-Field.is)) c.args.class.0 c.nearest_above.result c.nearest_above.ensures

pub returns-in-Method : goal.returns-in-Method
returns-in-Method c =
    let p = c.args.p.now in
    told-nearest p.classes.items (program_of p) refl _ (c.deref-in-Method.ensures.value ∙ p.tables_shown.parents)
    method_seen (λ k m. is_method_of k c.args.name.now m) p.methods.items _ c.deref-in-Method-2.ensures.value _
    (λ k. ap (λ n. own_named (program_of p) n k c.args.name.now) (sym c.in-Method.is)) c.args.class.0 c.nearest_above-in-Method.result
    c.nearest_above-in-Method.ensures
