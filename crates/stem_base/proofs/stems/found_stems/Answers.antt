use Rattle.std.proofs.Common.{ap, sym, subst, ◌∙◌, length, arith}
use Rattle.stem_base.specs.Base.{common, all_sides}
use Rattle.stem_base.specs.Found.{AreBefore}
use Rattle.stem_base.proofs.FoundLemmas.{first_kept, first_before}
use Rattle.stem_base.proofs.StemLemmas.{IsStep, step_sides, step_more, step_all, step_kept, step_before, step_falls}
use Rattle.stem_base.proofs.stems.found_stems.Goals as goal

pub scan-init : goal.scan-init
scan-init c =
    let T = c.args.table.now in
    let w = c.args.width in
    let A = c.in_ok-a.a in
    record {
      width = c.in_ok-x.ensures.width;
      kept = first_kept T w A c.in_ok-a.ensures.width c.in_ok-a.ensures.empty;
      before = subst (AreBefore w (common T w) A) (sym (ap all_sides c.new-base.ensures.items)) (first_before T w A c.in_ok-a.ensures.empty);
    }

pub returns-then-len-bound : goal.returns-then-len-bound
returns-then-len-bound c =
    step_more c.args.table.now c.args.width c.scan.a c.note.new.base.items (record { kept = c.scan.invariant.kept; noted = c.in_ok-note.ensures })
    c.args.bound (omega (arith, c.if-len-bound.true, c.len.ensures))

pub next_set-requires-clause-sides : goal.next_set-requires-clause-sides
next_set-requires-clause-sides c =
    step_sides c.args.table.now c.args.width c.scan.a c.note.new.base.items (record { kept = c.scan.invariant.kept; noted = c.in_ok-note.ensures })

pub returns-then-not-next_set : goal.returns-then-not-next_set
returns-then-not-next_set c =
    step_all c.args.table.now c.args.width c.scan.a c.note.new.base.items (record { kept = c.scan.invariant.kept; noted = c.in_ok-note.ensures })
    c.args.bound c.if-not-next_set.ensures.none

pub scan-smaller : goal.scan-smaller
scan-smaller c =
    rw c.swap.ensures.x_after (step_falls c.args.table.now c.args.width c.scan.a c.note.new.base.items
    (record { kept = c.scan.invariant.kept; noted = c.in_ok-note.ensures })
    c.next_set.new.x c.if-not-next_set.ensures.next)

pub scan-preserved : goal.scan-preserved
scan-preserved c =
    let T = c.args.table.now in
    let w = c.args.width in
    let s : IsStep T w c.scan.a c.note.new.base.items = record { kept = c.scan.invariant.kept; noted = c.in_ok-note.ensures } in
    let next = c.if-not-next_set.ensures.next in
    record {
      width = ap length c.swap.ensures.y_after ∙ c.scan.invariant.kept.len;
      kept = rw c.swap.ensures.x_after (step_kept T w c.scan.a c.note.new.base.items s c.next_set.new.x next);
      before = rw c.swap.ensures.x_after (step_before T w c.scan.a c.note.new.base.items s c.next_set.new.x next);
    }
