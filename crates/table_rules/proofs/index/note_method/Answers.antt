use Rattle.std.proofs.Common.{◌<◌, length, ◌∙◌, arith}
use Rattle.std.proofs.lemmas.Bool.{false≢true}
use Rattle.table_rules.proofs.IndexLemmas.{place-below, methods_more, keep_same}
use Rattle.table_rules.proofs.index.note_method.Goals as goal

pub returns-then-not-is_method : goal.returns-then-not-is_method
returns-then-not-is_method c = record {
  count = c.requires.count;
  here = methods_more c.args.facts.now c.args.lists.now c.args.lists.now (keep_same c.args.lists.now) c.args.c c.requires.before
      (λ m. absurd (false≢true (c.if-not-is_method.ensures.1 m)));
}

pub returns : goal.returns
returns c =
    let F = c.args.facts.now in
    let old = c.args.lists.now in
    let step = c.in_ok-note.ensures in
    let is = c.place_of-at.ensures in
    let lt : 0 < length old = omega (arith, c.requires.column, c.requires.count) in
    record {
      count = step.kept.len ∙ c.requires.count;
      here = methods_more F old c.note.new.lists step.kept c.args.c c.requires.before (λ m. rw (c.place_of-at.ensures, c.slot_of.ensures) at
          (step.here (rw c.place_of-at.ensures (place-below (length old) c.slot_of.result lt))));
    }
