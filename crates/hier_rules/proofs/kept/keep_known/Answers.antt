use Rattle.std.proofs.Common.{◌≡◌, ℕ, ◌<◌, [], ◌∷◌, length, All, false, refl, sym, ◌∙◌, subst}
use Rattle.kaba_base.specs.declared.NodeId.{NodeId}
use Rattle.kaba_order.specs.Formers.{AreBelow}
use Rattle.kaba_order.specs.Orders.{is_among}
use Rattle.kaba_bits.specs.Sets.{bit}
use Rattle.hier_model.specs.Places.{joined_nodes}
use Rattle.hier_model.proofs.EditedLemmas.{edited_alike}
use Rattle.hier_rules.proofs.KnownLemmas.{classes_left, neither}
use Rattle.hier_rules.proofs.LocalLemmas.{chained_left}
use Rattle.hier_rules.proofs.JoinLemmas.{merge_local, put_local}
use Rattle.hier_rules.proofs.kept.keep_known.Goals as goal

pub remove_all-requires : goal.remove_all-requires
remove_all-requires c =
    let w = c.requires.known.3 in
    let alike = edited_alike w.before c.args.hier.now
    (record { facts = c.requires.known.0; range = c.requires.known.1; edit = c.args.edit.now; fits = w.fits; some = c.requires.some; made = w.made }) in
    c.requires.low.width ∙ (alike.count ∙ sym w.were.chained.width)

pub or_into-requires : goal.or_into-requires
or_into-requires c =
    let w = c.requires.known.3 in
    let alike = edited_alike w.before c.args.hier.now
    (record { facts = c.requires.known.0; range = c.requires.known.1; edit = c.args.edit.now; fits = w.fits; some = c.requires.some; made = w.made }) in
    w.were.classes.unasked_width ∙ (sym alike.count ∙ sym c.requires.low.width)

pub add_all-requires : goal.add_all-requires
add_all-requires c =
    let w = c.requires.known.3 in
    let local = merge_local c.requires.known.0 w.before w.fits c.args.hier.now c.args.edit.now w.made c.in-Merge.set c.in-Merge.is c.requires.some in
    subst (λ (k : ℕ). All (λ (s : NodeId). s.0 < k) c.deref.result.now)
    (local.2.count ∙ (sym w.were.classes.unasked_width ∙ sym c.or_into.ensures.width))
    (subst (All (λ (s : NodeId). s.0 < length c.args.hier.now.order.live)) (sym c.deref.ensures.value) local.1)

pub returns-in-Merge : goal.returns-in-Merge
returns-in-Merge c = λ F R fit w.
    let K = c.args.hier.now in
    let set = c.in-Merge.set.items in
    let local = merge_local F w.before w.fits K c.args.edit.now w.made c.in-Merge.set c.in-Merge.is c.requires.some in
    let below = subst (λ e. AreBelow K.order (joined_nodes e) c.args.low.now) c.in-Merge.is c.requires.low in
    let left = c.remove_all.ensures in
    record {
      chained = chained_left F w.before K fit set local.0 w.fits.sized.order local.2.count c.args.known.now.chained c.remove_all.new.set w.were.chained
          left.width left.was (λ n h. sym (below.exact n) ∙ left.left n h);
      classes = classes_left F w.before K set local.2 fit w.fits.sized.order set local.0 c.args.known.now.unasked c.add_all.new.set c.args.known.now.classes
          w.were.classes (c.add_all.ensures.width ∙ c.or_into.ensures.width)
          (λ n h.
          let off = c.add_all.ensures.off n h in
          let both = neither (bit c.args.known.now.unasked n) (bit c.args.low.now n) (sym (c.or_into.ensures.join n) ∙ off.0) in
          (both.0, sym (below.exact n) ∙ both.1, subst (λ l. is_among l n ≡ false) c.deref.ensures.value off.1));
    }

pub returns-in-Under : goal.returns-in-Under
returns-in-Under c = λ F R fit w.
    let K = c.args.hier.now in
    let n = c.in-Under.field-0 in
    let local = put_local F w.before w.fits K c.args.edit.now w.made n c.in-Under.field-1 c.in-Under.is in
    let below = subst (λ e. AreBelow K.order (joined_nodes e) c.args.low.now) c.in-Under.is c.requires.low in
    let left = c.remove_all.ensures in
    record {
      chained = chained_left F w.before K fit (n ∷ []) local.0 w.fits.sized.order local.2.count c.args.known.now.chained c.remove_all.new.set
          w.were.chained left.width left.was (λ n h. sym (below.exact n) ∙ left.left n h);
      classes = classes_left F w.before K [] local.2 fit w.fits.sized.order (n ∷ []) local.0 c.args.known.now.unasked c.or_into.new.self
          c.args.known.now.classes w.were.classes c.or_into.ensures.width
          (λ n h.
          let both = neither (bit c.args.known.now.unasked n) (bit c.args.low.now n) (sym (c.or_into.ensures.join n) ∙ h) in
          (both.0, sym (below.exact n) ∙ both.1, refl));
    }
