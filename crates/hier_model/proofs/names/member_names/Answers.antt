use Rattle.std.proofs.Common.{◌++◌, ◌∷◌, [], sym, ap, ◌∙◌, subst}
use Rattle.fact_model.specs.FreeNames.{is_taken}
use Rattle.hier_model.specs.Names.{named_member, member_names}
use Rattle.fact_model.specs.Taken.{texts, AreSameNames}
use Rattle.fact_model.proofs.FreeLemmas.{AreSame-more}
use Rattle.hier_model.proofs.NameLemmas.{grown}
use Rattle.hier_model.proofs.names.member_names.Goals as goal

pub loop-c-init : goal.loop-c-init
loop-c-init c = record {
  names = c.new-names.ensures.items;
  taken = λ x.
      c.in_ok-taken.ensures x ∙ ap (λ w. is_taken (w ++ c.deref-2.result.now) x) c.deref.ensures.value
      ∙ ap (λ m. is_taken (c.args.facts.now.words.items ++ m) x) c.deref-2.ensures.value;
}

pub loop-c-preserved : goal.loop-c-preserved
loop-c-preserved c =
    let F = c.args.facts.now in
    let k = c.loop-c.c in
    let g = c.loop-c.names.items in
    let n = c.in_ok-name.name in
    record {
      names =
          grown (member_names F) k n g c.push.new.self.items c.in_ok-push.ensures.items c.loop-c.invariant.names
          (ap (λ y. member_names F k ++ y ∷ []) (sym (c.in_ok-name.ensures g c.loop-c.invariant.taken
          ∙ ap (λ l. named_member F l k) c.loop-c.invariant.names)));
      taken =
          subst (λ l. AreSameNames (texts c.add_name.new.taken.keys) (F.words.items ++ l)) (sym c.in_ok-push.ensures.items)
          (AreSame-more (texts c.loop-c.taken.keys) (texts c.add_name.new.taken.keys) F.words.items g n c.loop-c.invariant.taken c.in_ok-add_name.ensures);
    }
