use Rattle.std.proofs.Common.{refl, sym, ap, ◌∙◌, subst}
use Rattle.std.specs.Prelude.{IfOk, slice_get}
use Rattle.std.proofs.lemmas.Option.{slice_get_read}
use Rattle.name_bodies.specs.Met.{AreBlocks, begun_at}
use Rattle.name_bodies.proofs.MetLemmas.{blocks-first}
use Rattle.name_bodies.proofs.met.blocks_at.Goals as goal

pub returns-in-Some : goal.returns-in-Some
returns-in-Some c = blocks-first c.args.rows.now c.args.headings.now.items c.args.spots.now c.requires c.args.at c.in-Some.heading.now
    (ap (λ l. slice_get l c.args.at) (sym c.deref.ensures.value)
    ∙ (let h = c.in-Some.ensures.lookup in slice_get_read c.deref.result.now _ c.args.at c.in-Some.heading.now refl h.3.0 h.1)) c.blocks_of.result
    (subst (λ l. IfOk c.blocks_of.result (λ v. AreBlocks c.args.rows.now c.args.headings.now.items l v.items))
    (c.begun_at.ensures ∙ ap (λ l. begun_at l c.args.at) c.at.ensures) c.blocks_of.ensures)
