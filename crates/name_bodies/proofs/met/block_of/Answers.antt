use Rattle.std.proofs.Common.{◌≡◌, subst, arith}
use Rattle.name_bodies.specs.Met.{IsBlock}
use Rattle.name_bodies.proofs.MetLemmas.{block-more}
use Rattle.name_bodies.proofs.met.block_of.Goals as goal

pub loop-k-preserved : goal.loop-k-preserved
loop-k-preserved c = block-more c.args.rows.now c.args.headings.now.items c.args.list.now c.args.from c.loop-k.k c.loop-k.block c.note_at.new.block
    c.loop-k.invariant c.note_at.ensures.wide c.note_at.ensures.kept c.note_at.ensures.told

pub returns : goal.returns
returns c = subst (λ k. IsBlock c.args.rows.now c.args.headings.now.items c.args.list.now c.args.from k c.loop-k.block)
    (let e : c.loop-k.k ≡ 64 = omega (arith, c.loop-k-test.false, c.loop-k.auto.k-end) in e) c.loop-k.invariant
