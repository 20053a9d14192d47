use Rattle.std.proofs.Common.{◌+◌, [], ◌∷◌, map, sym, ap, ◌∙◌, subst}
use Rattle.std.proofs.lemmas.Bool.{false≢true}
use Rattle.std.proofs.lemmas.List.{map-append}
use Rattle.kaba_base.specs.declared.ColId.{ColId}
use Rattle.kaba_bits.specs.Sets.{ListsBelow}
use Rattle.kaba_bits.proofs.ListLemmas.{ListsBelow-push, ListsBelow-skip}
use Rattle.sure_report.specs.Report.{IsDead}
use Rattle.sure_report.proofs.members.dead_members.Goals as goal
use Rattle.sure_report.proofs.members.dead_members.Goals.{then-is_dead+in_ok-push, else-is_dead}

pub loop-c-preserved : goal.loop-c-preserved
loop-c-preserved c = elim c.if-is_dead.branch [
  | then-is_dead+in_ok-push w ↦
      let one : ColId = record { 0 = c.loop-c.c } in
      subst (λ z. ListsBelow (IsDead c.args.facts.now c.args.pt.now) (c.loop-c.c + 1) z)
      (sym (map-append (λ d. d.0) c.loop-c.dead.items (one ∷ [])) ∙ ap (map (λ d. d.0)) (sym w.in_ok-push.ensures.items)
      ∙ ap (λ z. map (λ d. d.0) z.items) (sym w.dead-is))
      (ListsBelow-push (IsDead c.args.facts.now c.args.pt.now) c.loop-c.c (map (λ d. d.0) c.loop-c.dead.items) c.loop-c.invariant
      (c.is_dead.ensures.0 w.if-is_dead.true))
  | else-is_dead w ↦
      subst (λ z. ListsBelow (IsDead c.args.facts.now c.args.pt.now) (c.loop-c.c + 1) z) (ap (λ z. map (λ d. d.0) z.items) (sym w.dead-is))
      (ListsBelow-skip (IsDead c.args.facts.now c.args.pt.now) c.loop-c.c (map (λ d. d.0) c.loop-c.dead.items) c.loop-c.invariant
      (λ h. false≢true (sym w.if-is_dead.false ∙ c.is_dead.ensures.1 h)))
]
