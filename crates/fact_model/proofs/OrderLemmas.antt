-- What the table of facts in order keeps: columns stand at or above the class of their row, and a row of a body's own class is its `this`.
use Rattle.std.proofs.Common.{◌≡◌, ◌≢◌, ℕ, ◌<◌, ◌⊎◌, ⊎_elim, true, false, Some, None, List, [], ◌∷◌, length, eqb, Contains, refl, sym, ap, ◌∙◌, subst, arith}
use Rattle.std.specs.List.{AllByRecursion}
use Rattle.std.proofs.lemmas.Bool.{cases_eq, eq-eqb, false≢true}
use Rattle.std.proofs.lemmas.List.Elements.{All-contains}
use Rattle.kaba_derivations.proofs.Derivations.{derivable_by, derivable_least}
use Rattle.kaba_base.specs.declared.ColId.{ColId}
use Rattle.kaba_base.specs.declared.RowId.{RowId}
use Rattle.fact_model.specs.Items.{site_at, site_class, site_row, row_class, row_this, is_object_row, column_class, column_kind}
use Rattle.fact_model.specs.Classes.{IsBelow, same, IsStrictSubclass, finds}
use Rattle.fact_model.specs.Flowing.{Holds, in_point, Inclusion, by_this as flow_this, CallRuns, IsInRow, by_point}
use Rattle.fact_model.specs.Entries.{Entry, Entails, by_access, by_need, by_this, by_declared, by_body, by_super, by_tie, by_site, by_hiding, by_test, by_array, IsEntry}
use Rattle.kaba_derivations.specs.Derivation.{IsDerivable}
use Rattle.std.specs.Prelude.{is_some}
use Rattle.fact_model.specs.InRange.{InRange}
use Rattle.fact_model.specs.InOrder.{InOrder, IsThisOf, IsDef, HasOneThis, IsNearestAbove}
use Rattle.fact_model.proofs.RangeLemmas.{site-below, member-below, column-below}
use Rattle.fact_model.specs.declared.facts.Facts.{Facts}
use Rattle.fact_model.specs.declared.facts.CallInfo.{CallInfo}
use Rattle.fact_model.specs.declared.facts.ColKind.{ColKind}
use Rattle.fact_model.specs.declared.facts.ColKind.TheVariants.{Fld, Dcl, Def, Is}
use Rattle.fact_model.proofs.ClassLemmas.{below-then, below-both, strictly-below, strictly-then, parent-super, finds-found}

module _ (F : Facts) (R : InRange F) (O : InOrder F) where
  along : {a b c : ℕ} → IsBelow F a b → b ≡ c → IsBelow F a c
  along {a} h e = subst (λ x. IsBelow F a x) e h

  from : {a b c : ℕ} → a ≡ b → IsBelow F b c → IsBelow F a c
  from {c = c} e h = subst (λ x. IsBelow F x c) (sym e) h

  -- two ways round are one place
  both : {a b : ℕ} → IsBelow F a b → IsBelow F b a → a ≡ b
  both = below-both F O.classes.acyclic

  def-below : (d : ℕ) → column_kind F d ≡ Def → d < length F.columns.items
  def-below d e = column-below F d Def e (λ x. cc x)

  one_this : (d : ℕ) → column_kind F d ≡ Def → HasOneThis F d
  one_this d e = O.bodies.one_this d (def-below d e) e

  this_class : (v : ℕ) (d : ColId) → row_this F v ≡ Some d → row_class F v ≡ column_class F d.0
  this_class v d e =
      let one = one_this d.0 (O.bodies.this_body v d e) in
      let at = one.one_row v (record { column = d; row = e; body = refl }) in
      ap (row_class F) at ∙ one.class

  site_row_class : (s : ℕ) → s < length F.sites.items → row_class F (site_row F s) ≡ site_class F s
  site_row_class s lt = sym (O.types.sites s lt)

  -- a site whose row is that of no object is an array's
  array_dim : (s : ℕ) → s < length F.sites.items → is_object_row F (site_row F s) ≡ false → 0 < (site_at F s).dim
  array_dim s lt o =
      let zero : eqb (site_at F s).dim 0 ≡ false = rw (O.sites.own s lt) at o in
      let some : (site_at F s).dim ≢ 0 = λ e. false≢true (sym zero ∙ eq-eqb (site_at F s).dim 0 e) in
      omega (arith, some)

  no_this : {v c : ℕ} {A : Type 0} → row_this F v ≡ None → IsThisOf F v c → A
  no_this e t = absurd (cc (e, t.row))

  abbrev IsAbove : Entry → Type 0
  IsAbove e = IsBelow F (row_class F e.0) (column_class F e.1)

  abbrev IsOwn : Entry → Type 0
  IsOwn e = column_kind F e.1 ≡ Def → column_class F e.1 ≡ row_class F e.0 → is_object_row F e.0 ≡ false → IsThisOf F e.0 e.1

  abbrev IsKept : Entry → Type 0
  IsKept e = IsAbove e × IsOwn e

  found : (o x d : ℕ) → finds F (site_class F o) x ≡ Some d → IsBelow F (site_class F o) (column_class F d)
  found o x d e = let f = finds-found F (site_class F o) x d e in along f.above (sym f.body.class)

  above : (ps : List Entry) (e : Entry) → Entails F ps e → AllByRecursion IsAbove ps → IsAbove e
  above ps e (by_access x is) h = All-contains (λ y. IsBelow F (row_class F y.row.0) (column_class F y.column.0)) F.accesses.items x O.types.accesses is
  above ps e (by_need call o d is holds f) h = from (site_row_class o (site-below F R (in_point call.receiver o) holds)) (found o call.slot d f)
  above ps e (by_this v d t) h = from (this_class v d t) same
  above ps e (by_declared r d c lt k) h = along h.0 k.class
  above ps e (by_body r v c d t) h = below-then F h.0 (from (sym (this_class v d t)) h.1.0)
  above ps e (by_super x is) h = All-contains (λ y. IsBelow F (row_class F y.row.0) (column_class F y.column.0)) F.supers.items x O.types.supers is
  above ps e (by_tie x c is) h = below-then F (All-contains (λ y. IsBelow F (row_class F y.lower.0) (row_class F y.upper.0)) F.ties.items x O.types.ties is) h.0
  above ps e (by_site v o c m) h = from (site_row_class o (member-below F R v o m)) (below-then F (O.types.members v o m) h.0)
  above ps e (by_hiding q r d c k) h = below-then F h.1.1.0 (strictly-below F k.class)
  above ps e (by_test x c is m) h = from (All-contains (λ y. row_class F y.target.0 ≡ y.class.0) F.tests.items x O.tests.targets is)
      (along same (sym m.class_is))
  above ps e (by_array s c lt dim m) h = from (site_row_class s lt) (along same (sym m.class_is))

  -- the site of a call of a body is in the set of the body's `this`
  needed : (call : CallInfo) (o d : ℕ) → Contains F.calls.items call → Holds F (in_point call.receiver o) → finds F (site_class F o) call.slot
      ≡ Some d → (one : HasOneThis F d) → IsInRow F one.row o
  needed call o d is holds f one =
      let runs : CallRuns F call o one.body = record { called = is; listed = one.listed; found = f ∙ ap Some (sym one.column) } in
      subst (λ v. IsInRow F v o) one.point_is
      (by_point one.body.this o one.point (derivable_by (Inclusion F) (in_point call.receiver o ∷ []) (in_point one.body.this o)
      (flow_this call o one.body runs) (holds, tt)))

  super_above : (a d : ℕ) → IsNearestAbove F a d → IsStrictSubclass F a (column_class F d)
  super_above a d n =
      let f = finds-found F n.parent.0 n.slot d n.found in
      record { by = n.parent; direct = parent-super F a n.parent n.above; rest = along f.above (sym f.body.class) }

  not_def : {A : Type 0} (c : ℕ) (k : ColKind) → column_kind F c ≡ Def → column_kind F c ≡ k → k ≢ Def → A
  not_def c k d e ne = absurd (ne (sym e ∙ d))

  own : (ps : List Entry) (e : Entry) → Entails F ps e → AllByRecursion IsKept ps → IsOwn e
  own ps e (by_access x is) h d c o =
      ⊎_elim (λ k. not_def x.column.0 Fld d k (λ y. cc y)) (λ k. not_def x.column.0 Dcl d k (λ y. cc y))
      (All-contains (λ y. (column_kind F y.column.0 ≡ Fld) ⊎ (column_kind F y.column.0 ≡ Dcl)) F.accesses.items x O.bodies.accesses is)
  own ps e (by_need call s b is holds f) h d c o =
      let one = one_this b d in
      let lt = site-below F R (in_point call.receiver s) holds in
      no_this (O.owners.arrays one.row s (needed call s b is holds f one) (array_dim s lt o)).0 one.this
  own ps e (by_this v b t) h d c o = record { column = b; row = t; body = refl }
  own ps e (by_declared r b k lt by) h d c o = not_def k Dcl d by.declaration (λ y. cc y)
  own ps e (by_body r v k b t) h d c o =
      let of = this_class v b t in
      let one : column_class F b.0 ≡ row_class F r = both (along (from (sym of) h.1.0.0) c) h.0.0 in
      let mine = h.0.1 (O.bodies.this_body v b t) one o in
      let this = one_this b.0 (O.bodies.this_body v b t) in
      let vr : v ≡ r = this.one_row v (record { column = b; row = t; body = refl }) ∙ sym (this.one_row r mine) in
      subst (λ w. IsThisOf F w k) vr (h.1.0.1 d (c ∙ ap (row_class F) (sym vr)) (subst (λ w. is_object_row F w ≡ false) (sym vr) o))
  own ps e (by_super x is) h d c o =
      let n = All-contains (λ y. (is_some (row_this F y.row.0) ≡ true) × IsDef F y.column.0 × IsNearestAbove F (row_class F y.row.0) y.column.0)
      F.supers.items x O.bodies.supers is in
      absurd (O.classes.acyclic (row_class F x.row.0) (subst (λ a. IsStrictSubclass F (row_class F x.row.0) a) c
      (super_above (row_class F x.row.0) x.column.0 n.2)))
  own ps e (by_tie x k is) h d c o =
      let tie = All-contains (λ y. IsBelow F (row_class F y.lower.0) (row_class F y.upper.0)) F.ties.items x O.types.ties is in
      let one : row_class F x.lower.0 ≡ row_class F x.upper.0 = both tie (along h.0.0 c) in
      ⊎_elim
      (λ same. subst (λ w. IsThisOf F w k) (sym same) (h.0.1 d (c ∙ one) (subst (λ w. is_object_row F w ≡ false) same o)))
      (λ ne. let apart = O.owners.ties x is (λ y. ne (ap (λ (r : RowId). r.0) y)) one o in no_this apart.0 (h.0.1 d (c ∙ one) apart.1))
      (cases_eq x.lower.0 x.upper.0)
  own ps e (by_site v s k m) h d c o =
      let lt = member-below F R v s m in
      let apart = O.owners.arrays v s m (array_dim s lt o) in
      let site = site_row_class s lt in
      let one : site_class F s ≡ row_class F v = both (O.types.members v s m) (along h.0.0 (c ∙ site)) in
      no_this apart.0 (h.0.1 d (c ∙ site ∙ one) apart.1)
  own ps e (by_hiding q r b k hides) h d c o =
      absurd (O.classes.acyclic (column_class F b) (strictly-then F hides.class (from c h.1.1.0.0)))
  own ps e (by_test x k is m) h d c o = not_def k Is d m.kind_is (λ y. cc y)
  own ps e (by_array s k lt dim m) h d c o = not_def k Is d m.kind_is (λ y. cc y)

  aboves : (ps : List Entry) → AllByRecursion IsKept ps → AllByRecursion IsAbove ps
  aboves [] h = tt
  aboves (p ∷ ps) h = (h.0.0, aboves ps h.1)

  kept : (e : Entry) → IsDerivable (Entails F) e → IsKept e
  kept = derivable_least (Entails F) IsKept (λ ps e r h. (above ps e r (aboves ps h), own ps e r h))

  -- each column of a row belongs to the row's class or to one above it
  pub column-above : (r c : ℕ) → IsEntry F r c → IsBelow F (row_class F r) (column_class F c)
  column-above r c h = (kept (r, c) h).0

  -- a row that is that of no object has a body of its own class only where it is the body's `this`
  pub body-own : (r c : ℕ) → IsEntry F r c → column_kind F c ≡ Def → column_class F c ≡ row_class F r → is_object_row F r ≡ false → IsThisOf F r c
  body-own r c h = (kept (r, c) h).1
