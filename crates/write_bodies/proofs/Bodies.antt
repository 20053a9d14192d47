-- The arms and the `else` of an `if` apart, a declaration, and a loop.
use Rattle.std.proofs.Common.{◌≡◌, ℕ, List, [], ◌∷◌, refl, ap, ◌∙◌}
use Rattle.std.specs.Prelude.{Option, Some, None, slice_get, false}
use Rattle.std.specs.Option.{option_map_or}
use Rattle.std.specs.declared.vec.Vec.{Vec}
use Rattle.std.specs.declared.alloc.Global.{Global}
use Rattle.kaba_base.specs.declared.Place.{Place}
use Rattle.java_tree.specs.declared.TypeName.{TypeName}
use Rattle.java_tree.specs.Syntax.{Expression, Statements, OptionalStatement, LocalOf, BlockOf, ForOf, no_statements, and_arm}
use Rattle.java_core.specs.declared.RStmt.{RStmt}
use Rattle.java_core.specs.declared.RArm.{RArm}
use Rattle.java_core.specs.Trees.{Tag, Ex, Sts, IfArms, no_other, loop, expr_of, stmts, arms_seen, else_seen}
use Rattle.java_core.specs.Programs.{PlainLocal}
use Rattle.java_core.specs.Formed.{variables_of}
use Rattle.flow_rules.specs.declared.items.RowItem.{RowItem}
use Rattle.flow_rules.specs.Operands.{variable_row}
use Rattle.write_model.specs.Names.{nowhere}
use Rattle.write_model.specs.Bodies.{scope_after_part}
use Rattle.write_forms.specs.Sources.{row_typed}
use Rattle.write_bodies.specs.declared.within.Within.{Within}
use Rattle.write_bodies.specs.Written as written

module _ (w : Within) where
  pub arms_alike : (scope : List ℕ) (xs : List RArm) (o : Option (Vec RStmt Global))
      → written.arms w scope (arms_seen xs (else_seen o))
      ≡ written.arms w scope (arms_seen xs no_other)
  arms_alike scope [] None = refl
  arms_alike scope [] (Some v) = refl
  arms_alike scope (x ∷ xs) o = ap (and_arm (written.expression w scope (expr_of x.test)) (written.statements w scope (stmts
      x.body.items))) (arms_alike scope xs o)

  pub else_alike : (scope : List ℕ) (xs : List RArm) (o : IfArms) → written.otherwise w scope (arms_seen xs o)
      ≡ written.otherwise w scope o
  else_alike scope [] o = refl
  else_alike scope (x ∷ xs) o = else_alike scope xs o

  pub declared_is : {ty : TypeName} {name : List ℕ} {place : Place} {e : Option Expression} (i : ℕ) (v : PlainLocal) (r : RowItem)
      → Some v ≡ slice_get (variables_of (written.method_of w)) i → place ≡ nowhere → ty ≡ row_typed w.source.now r v.ty
      → r ≡ variable_row w.number (written.method_of w) i → name ≡ v.name → LocalOf false ty name e place ≡ written.declared w i e
  declared_is {ty = ty} {name = name} {e = e} i v r found a b d f =
      let type = row_typed w.source.now (variable_row w.number (written.method_of w) i) in
      let kind = λ (x : PlainLocal). LocalOf false (type x.ty) x.name e nowhere in
      ap (λ q. LocalOf false ty name e q) a
      ∙ ap (λ y. LocalOf false y name e nowhere) (b ∙ ap (λ x. row_typed w.source.now x v.ty) d)
      ∙ ap (λ y. LocalOf false (type v.ty) y e nowhere) f
      ∙ ap (λ o. option_map_or kind o (BlockOf no_statements nowhere)) found

  pub for_is : {first step : OptionalStatement} {test : Option Expression} {run : Statements} {place : Place} (scope from inner : List ℕ) (t : Tag) (f : Sts)
      (e : Option Ex) (g body : Sts)
      → from ≡ scope → inner ≡ scope_after_part from f → first ≡ written.part w from f → test ≡ written.expression_if w inner e
      → step ≡ written.part w inner g → run ≡ written.statements w inner body → place ≡ nowhere
      → ForOf first test step run place
      ≡ written.statement w scope (loop t false f e g body)
  for_is {first = first} {step = step} {test = test} {run = run} scope from inner t f e g body a b c d h j l =
      let before = written.part w from f in
      let shape = λ (y : List ℕ). ForOf before (written.expression_if w y e) (written.part w y g) (written.statements w y body) nowhere in
      ap (λ y. ForOf first test step run y) l
      ∙ ap (λ y. ForOf y test step run nowhere) c
      ∙ ap (λ y. ForOf before y step run nowhere) d
      ∙ ap (λ y. ForOf before (written.expression_if w inner e) y run nowhere) h
      ∙ ap (λ y. ForOf before (written.expression_if w inner e) (written.part w inner g) y nowhere) j
      ∙ ap shape b
      ∙ ap (λ (s : List ℕ). written.statement w s (loop t false f e g body)) a
