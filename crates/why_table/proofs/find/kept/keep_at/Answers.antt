use Rattle.std.proofs.Common.{◌≡◌, ℕ, List, length, get_or, subst, sym, ◌∙◌, arith}
use Rattle.why_table.specs.Kept.{IsPut}
use Rattle.why_table.proofs.KeptLemmas.{rank-le}
use Rattle.why_table.proofs.FindLemmas.{kept_more, kept_clear}
use Rattle.why_table.proofs.find.kept.keep_at.Goals as goal

pub overflow_cast-len : goal.overflow_cast-len
overflow_cast-len c = omega (arith, c.len.ensures, c.requires.kept.moved.len, rank-le c.args.marks.now c.args.k, c.ranges.k.fits)

pub returns-in_ok-put_moved : goal.returns-in_ok-put_moved
returns-in_ok-put_moved c =
    let s = c.step_at.result.now in
    let out = c.args.out.now.items in
    let is : c.len.result ≡ length out = omega (arith, c.len.ensures) in
    kept_more c.args.steps.now c.args.marks.now c.args.k c.len.result c.args.places.now.items c.push.new.self.items out c.put_moved.new.out.items s
    c.requires.steps c.requires.kept is c.in_ok-push.ensures.items (sym c.has.ensures ∙ c.if-has.true) c.step_at.ensures
    (subst (λ (l : List ℕ). IsPut (λ x. get_or l x 0) s out c.put_moved.new.out.items) c.deref.ensures.value c.in_ok-put_moved.ensures)

pub returns-else-has : goal.returns-else-has
returns-else-has c =
    let out = c.args.out.now.items in
    let is : c.len.result ≡ length out = omega (arith, c.len.ensures) in
    kept_clear c.args.steps.now c.args.marks.now c.args.k c.len.result c.args.places.now.items c.push.new.self.items out c.requires.kept is
    c.in_ok-push.ensures.items (sym c.has.ensures ∙ c.if-has.false)
