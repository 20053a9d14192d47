use Rattle.std.proofs.Common.{◌≡◌, ℕ, ◌<◌, ◌++◌, ◌∷◌, [], not, true, false, None, length, get_or, sym, ap, ◌∙◌, subst, arith, All, Contains}
use Rattle.std.proofs.lemmas.List.Elements.{Contains-get_or, All-append, All-cons}
use Rattle.std.specs.declared.vec.Vec.{Vec}
use Rattle.std.specs.declared.alloc.Global.{Global}
use Rattle.kaba_base.specs.declared.ClassId.{ClassId}
use Rattle.fact_model.specs.Items.{column_at}
use Rattle.fact_model.specs.Classes.{is_interface}
use Rattle.fact_model.specs.InRange.{IsClass}
use Rattle.fact_model.specs.declared.facts.ColumnInfo.{ColumnInfo}
use Rattle.fact_model.specs.declared.facts.ColKind.TheVariants.{Is}
use Rattle.hier_model.proofs.BeginLemmas.{owned_then, owned_else}
use Rattle.hier_model.proofs.begin.owners.Goals as goal
use Rattle.hier_model.proofs.begin.owners.Goals.{After-deref-c-items, then-is_owner+in_ok-push, else-is_owner}

below : (c : After-deref-c-items) (i : ℕ) → i < length c.deref-c-items.result.now
    → get_or c.deref-c-items.result.now i 0 < length c.args.facts.now.columns.items
below c i lt =
    let N = c.deref-c-items.result.now in
    let has : Contains c.in_ok-numbers.numbers.items (get_or N i 0) = subst (λ l. Contains l (get_or N i 0)) c.deref-c-items.ensures.value
    (Contains-get_or N i 0 lt) in
    let lt = ((c.in_ok-numbers.ensures.exact.each (get_or N i 0)).0 has).0 in
    omega (arith, lt, c.requires.columns)

class_of : (c : After-deref-c-items) (i : ℕ) → i < length c.deref-c-items.result.now
    → IsClass c.args.facts.now (column_at c.args.facts.now (get_or c.deref-c-items.result.now i 0)).class
class_of c i lt =
    let none : ColumnInfo = record { kind = Is; class = record { 0 = 0 }; slot = None; name = []; label = [] } in
    c.requires.range.columns (get_or c.deref-c-items.result.now i 0) none (below c i lt)

pub column_at-requires : goal.column_at-requires
column_at-requires c = below (goal.at.column_at-requires c).After-deref-c-items c.loop-c.c-index c.loop-c-test.true

pub is_owner-requires : goal.is_owner-requires
is_owner-requires c = subst (λ (k : ColumnInfo). IsClass c.args.facts.now k.class) (sym c.column_at.ensures)
    (class_of (goal.at.is_owner-requires c).After-deref-c-items c.loop-c.c-index c.loop-c-test.true)

pub loop-c-preserved : goal.loop-c-preserved
loop-c-preserved c =
    let F = c.args.facts.now in
    let N = c.deref-c-items.result.now in
    let i = c.loop-c.c-index in
    let p = λ (k : ClassId). not (is_interface F k.0) in
    let g = λ (x : ℕ). (column_at F x).class in
    let old = c.loop-c.classes.items in
    let column = ap (λ (k : ColumnInfo). k.class) c.column_at.ensures in
    let class = class_of (goal.at.loop-c-preserved c).After-deref-c-items i c.loop-c-test.true in
    elim c.if-is_owner.branch [
      | then-is_owner+in_ok-push w ↦
          let new_is : c.if-is_owner.classes.items ≡ old ++ g (get_or N i 0) ∷ [] = ap (λ (v : Vec ClassId Global). v.items) w.classes-is
          ∙ w.in_ok-push.ensures.items ∙ ap (λ k. old ++ k ∷ []) column in
          let owned : p (g (get_or N i 0)) ≡ true = ap p (sym column) ∙ sym w.if-is_owner.ensures in
          record {
            list = owned_then p g N i c.loop-c-test.true old c.if-is_owner.classes.items owned new_is ∙ c.loop-c.invariant.list;
            classes = subst (All (IsClass F)) (sym new_is) (All-append (IsClass F) old (g (get_or N i 0) ∷ []) c.loop-c.invariant.classes
                (All-cons (IsClass F) (g (get_or N i 0)) [] class (λ j d lt. absurd (omega (arith, lt)))));
          }
      | else-is_owner w ↦
          let new_is : c.if-is_owner.classes.items ≡ old = ap (λ (v : Vec ClassId Global). v.items) w.classes-is in
          let other : p (g (get_or N i 0)) ≡ false = ap p (sym column) ∙ sym w.if-is_owner.ensures in
          record {
            list = owned_else p g N i c.loop-c-test.true old c.if-is_owner.classes.items other new_is ∙ c.loop-c.invariant.list;
            classes = subst (All (IsClass F)) (sym new_is) c.loop-c.invariant.classes;
          }
    ]
