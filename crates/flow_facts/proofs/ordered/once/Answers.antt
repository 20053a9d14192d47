-- One more item, listed where its key is new.
use Rattle.std.proofs.Common.{◌≡◌, [], ◌∷◌, ◌++◌, cond, sym, ap, ◌∙◌}
use Rattle.std.proofs.lemmas.List.{append-nil}
use Rattle.flow_facts.proofs.Steps.{listed_step, keys_step}
use Rattle.flow_facts.proofs.ordered.once.Goals as goal
use Rattle.flow_facts.proofs.ordered.once.Goals.{then-added+in-Ok-push, else-added}

pub loop-item-preserved : goal.loop-item-preserved
loop-item-preserved g c =
    let old = c.loop-item.items.items in
    let x = c.item-item.result in
    let listed : c.if-added.items.items ≡ old ++ cond c.in-Ok.made.1 (x ∷ []) [] =
    elim c.if-added.branch [
      | then-added+in-Ok-push w ↦ ap (λ v. v.items) w.items-is ∙ w.in-Ok-push.ensures.items
          ∙ sym (ap (λ b. old ++ cond b (x ∷ []) []) w.if-added.true)
      | else-added w ↦ ap (λ v. v.items) w.items-is ∙ sym (append-nil old) ∙ sym (ap (λ b. old ++ cond b (x ∷ []) []) w.if-added.false)
    ] in
    let e = g.K.PartialEq.eq in
    let f = g.T.HasKey.key in
    let now = c.in-Ok.ensures in
    record {
      items = listed_step e f x _ _ _ old _ _ c.key.ensures.value now.added now.keys listed c.args.all.now.items _ _ _ c.deref-item-items.ensures.value
          c.loop-item-test.true c.item-item.is c.loop-item.invariant.items;
      keys = keys_step e f x _ _ _ old _ _ c.key.ensures.value now.added now.keys listed c.loop-item.invariant.keys;
    }
