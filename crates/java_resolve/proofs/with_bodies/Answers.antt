use Rattle.std.proofs.Common.{map, Ok, sym, ap, ◌∙◌}
use Rattle.java_tree.specs.Syntax.{decls}
use Rattle.java_core.specs.Programs.{class_seen}
use Rattle.name_laws.specs.Answers.{with}
use Rattle.name_laws.specs.Members.{clashes_of, main_of}
use Rattle.name_laws.specs.Resolved.{methods_of, table, program}
use Rattle.name_types.specs.Found.{members_seen}
use Rattle.java_resolve.proofs.Made.{with-then, made-seen}
use Rattle.java_resolve.proofs.with_bodies.Goals as goal

pub returns-in-Ok-new : goal.returns-in-Ok-new
returns-in-Ok-new c =
    let tree = decls c.args.list.now in
    let cs = map class_seen c.args.classes.items in
    let rows = c.args.above in
    let m = members_seen c.args.draft in
    let k = c.in-Ok.main in
    let methods = c.in-Ok-methods_of.methods in
    with-then (clashes_of rows m.headings) (main_of m.headings) (λ n. with (methods_of (table c.args.known cs rows m) tree) (λ w. Ok (program cs m n w))) k
    c.in-Ok.ensures
    ∙ ap (λ r. with r (λ w. Ok (program cs m k w)))
    (ap (λ ps. methods_of (record { known = c.args.known; parents = ps; above = rows; fields = m.fields; headings = m.headings }) tree)
    (sym c.in-Ok-parents_of.ensures.seen)
    ∙ c.in-Ok-methods_of.ensures)
    ∙ ap Ok
    (made-seen c.args.classes c.args.draft.declared.fields methods c.args.draft.slots (record { 0 = k }) c.in-Ok-new.program c.in-Ok-new.ensures)
