use Rattle.std.proofs.Common.{◌++◌, ◌∷◌, [], sym, ap, ◌∙◌, subst, append_assoc}
use Rattle.std.proofs.lemmas.List.{append-nil}
use Rattle.fact_model.specs.FreeNames.{is_taken}
use Rattle.hier_model.specs.Names.{named_type, type_names}
use Rattle.fact_model.specs.Taken.{texts, AreSameNames}
use Rattle.fact_model.proofs.FreeLemmas.{AreSame-more}
use Rattle.hier_model.proofs.NameLemmas.{grown}
use Rattle.hier_model.proofs.names.type_names.Goals as goal

pub loop-n-init : goal.loop-n-init
loop-n-init c = record {
  names = c.new-names.ensures.items;
  taken = λ x.
      c.in_ok-taken.ensures x ∙ ap (λ w. is_taken (w ++ c.args.members.now) x) c.deref.ensures.value
      ∙ ap (λ m. is_taken (c.args.facts.now.words.items ++ m) x) (sym (ap (λ l. c.args.members.now ++ l) c.new-names.ensures.items
      ∙ append-nil c.args.members.now));
}

pub loop-n-preserved : goal.loop-n-preserved
loop-n-preserved c =
    let F = c.args.facts.now in
    let k = c.loop-n.n in
    let g = c.loop-n.names.items in
    let ms = c.args.members.now in
    let os = c.args.origins.now in
    let n = c.in_ok-name.name in
    record {
      names =
          grown (type_names F ms os) k n g c.push.new.self.items c.in_ok-push.ensures.items c.loop-n.invariant.names
          (ap (λ y. type_names F ms os k ++ y ∷ []) (sym (c.in_ok-name.ensures (ms ++ g) c.loop-n.invariant.taken
          ∙ ap (λ l. named_type F os (ms ++ l) k) c.loop-n.invariant.names)));
      taken =
          subst (λ l. AreSameNames (texts c.add_name.new.taken.keys) (F.words.items ++ (ms ++ l))) (sym c.in_ok-push.ensures.items)
          (subst (λ l. AreSameNames (texts c.add_name.new.taken.keys) (F.words.items ++ l)) (append_assoc ms g (n ∷ []))
          (AreSame-more (texts c.loop-n.taken.keys) (texts c.add_name.new.taken.keys) F.words.items (ms ++ g) n c.loop-n.invariant.taken
          c.in_ok-add_name.ensures));
    }
