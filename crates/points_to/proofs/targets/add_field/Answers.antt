use Rattle.std.proofs.Common.{◌+◌, length, Contains, sym, subst}
use Rattle.std.proofs.lemmas.List.Elements.{All-contains}
use Rattle.fact_model.specs.Flowing.{IsCell}
use Rattle.points_to.specs.Listed.{numbers_at}
use Rattle.points_to.proofs.targets.add_field.Goals as goal

pub returns : goal.returns
returns c =
    let F = c.args.given.now.facts.now in
    let o = c.args.o in
    let list = c.add_cells.new.list.items in
    let cells = c.args.given.now.index.now.cells.items in
    let here = rw (c.numbers_at.ensures, c.deref.ensures.value) at c.in_ok-add_cells.ensures.here in
    record {
      sound = c.in_ok-add_cells.ensures.sound;
      whole = λ n t. subst (Contains list) (sym t.node)
          (All-contains (λ k. IsCell F k o c.args.column → Contains list (length F.points.items + k)) (numbers_at cells o) t.cell here
          (subst (λ k. Contains (numbers_at cells k) t.cell) t.is.site_is (c.requires.given.index.cells t.cell t.is.below)) t.is);
    }
