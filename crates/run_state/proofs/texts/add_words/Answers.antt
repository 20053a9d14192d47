use Rattle.std.proofs.Common.{arith, ap, ◌∙◌, length, length-append, ◌∷◌, [], string_bytes, subst, get_or, ◌<◌}
use Rattle.run_state.specs.Words.{units_of}
use Rattle.run_state.proofs.StartLemmas.{words_more, values_more}
use Rattle.run_state.proofs.texts.add_words.Goals as goal

pub loop-word-preserved : goal.loop-word-preserved
loop-word-preserved c =
    let e = ap (λ h. h.strings) c.in_ok-at.ensures.strings in
    let n = ap (λ h. length h.strings) c.in_ok-at.ensures.strings in
    record {
      strings = words_more (λ w. units_of (string_bytes w)) c.args.words.now.items c.loop-word.word-index c.word-item.result _ _ _
          (subst (λ l. c.loop-word.word-index < length l) c.deref-word-items.ensures.value c.loop-word-test.true)
          (c.word-item.is ∙ ap (λ l. get_or l c.loop-word.word-index c.word-item.result) c.deref-word-items.ensures.value)
          (c.in_ok-units_in.ensures ∙ ap units_of c.as_str.ensures.value) e c.loop-word.invariant.strings;
      many = omega (arith, n, c.loop-word.invariant.many, length-append c.loop-word.heap.strings (c.in_ok-units_in.field-0.items ∷ []));
      cells = ap (λ h. h.cells) c.in_ok-at.ensures.strings ∙ c.loop-word.invariant.cells;
      values = values_more _ _ _ _ c.in_ok-push.ensures.items c.loop-word.invariant.values (c.in_ok-at.ensures.place ∙ c.loop-word.invariant.many);
    }
