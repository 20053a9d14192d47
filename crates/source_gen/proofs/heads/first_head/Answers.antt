use Rattle.std.proofs.Common.{List, ℕ, [], ◌∷◌, Option, ap, ◌∙◌}
use Rattle.std.specs.Option.{option_map_or}
use Rattle.java_tree.specs.Syntax.{HeadTree}
use Rattle.java_core.specs.Programs.{code_seen, PlainMethod}
use Rattle.write_model.specs.Members.{head}
use Rattle.write_forms.specs.Sources.{old_program, renaming}
use Rattle.source_gen.proofs.heads.first_head.Goals as goal

pub returns : goal.returns
returns c =
    let P = old_program c.args.source.now in
    let H = c.args.source.now.hier.now in
    let R = renaming c.args.source.now in
    let mods = c.args.mods.items in
    let m = c.args.slot.now.first.0 in
    let named = c.in_ok-made.ensures ∙ ap (λ (x : List ℕ). head P R H mods x m (code_seen c.in-Some.code)) c.in_ok-name.ensures in
    ap (λ (h : HeadTree). h ∷ []) named
    ∙ ap (λ (o : Option PlainMethod). option_map_or (λ (k : PlainMethod). head P R H mods (R.method_name m) m k ∷ []) o []) c.in-Some.ensures
