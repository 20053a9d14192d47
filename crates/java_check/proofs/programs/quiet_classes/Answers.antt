use Rattle.std.proofs.Common.{rules, ◌≡◌, ◌<◌, length, sym, ◌∙◌, subst, vec_len}
use Rattle.std.proofs.lemmas.List.{length-map}
use Rattle.java_core.specs.Programs.{program_of, class_seen}
use Rattle.java_check.proofs.Bodied.{classes_fine}
use Rattle.java_check.proofs.programs.quiet_classes.Goals as goal

pub returns-then-all_quiet : goal.returns-then-all_quiet
returns-then-all_quiet c = λ k lt.
    let all = rw c.deref.ensures.value at c.if-all_quiet.ensures in
    let many : vec_len c.args.p.now.classes ≡ length c.args.p.now.classes.items = search rules in
    let count : c.len.result ≡ length c.args.p.now.classes.items = c.len.ensures ∙ many in
    classes_fine (program_of c.args.p.now) c.requires (sym all) k (subst (λ n. k < n) (count ∙ sym (length-map c.args.p.now.classes.items class_seen)) lt)
