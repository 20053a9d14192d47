-- Each type that a body of the tree names is there, since the creations, casts and tests of a body have rows.
use Rattle.std.proofs.Common.{◌≡◌, ℕ, ◌+◌, Bool, true, false, List, [], ◌∷◌, ◌++◌, Option, Some, None, Contains, refl, sym, ap, ◌∙◌, subst}
use Rattle.std.specs.Prelude.{slice_get, length, ◌||◌}
use Rattle.std.proofs.lemmas.List.Elements.{Contains-append_left, Contains-append_right}
use Rattle.kaba_base.specs.declared.Place.{Place}
use Rattle.java_tree.specs.declared.TypeBase.TheVariants as base
use Rattle.java_core.specs.declared.Ty.{Ty}
use Rattle.java_core.specs.Programs.{Plain, PlainMethod}
use Rattle.java_core.specs.Trees.{Ex, Exs, no_ex, ex_then, local, field, index, call, static_call, super_call, create, create_array, cast, instance_of, unary, binary, Target, to_local, to_static, to_own, to_field, to_element, no_target, St, Sts, IfArms, declare, block, assign, act, print, choose, loop, return, break, continue, no_st, st_then, no_other, otherwise, arm}
use Rattle.java_core.specs.Formed.{IsCastType, to_int, to_char, to_class, FormedEx, f_field, f_index, f_call, f_static_call, f_super_call, f_create, f_create_array, f_cast, f_instance_of, f_unary, f_binary, FormedExs, f_ex_then, FormedTarget, f_to_field, f_to_element, FormedOption, f_some, FormedSt, f_declare, f_block, f_assign, f_act, f_print, f_choose, f_loop, f_return, FormedSts, f_st_then, FormedArms, f_otherwise, f_arm, numbers_below}
use Rattle.fact_model.specs.declared.facts.Facts.{Facts}
use Rattle.fact_model.specs.declared.sets.PointsTo.{PointsTo}
use Rattle.hier_model.specs.Hierarchies.{Hierarchy}
use Rattle.flow_rules.specs.declared.items.ObjectType.{ObjectType}
use Rattle.flow_rules.specs.declared.items.Row.{Row}
use Rattle.flow_rules.specs.declared.items.RowItem.{RowItem}
use Rattle.flow_rules.specs.declared.items.RowItem.TheVariants as row
use Rattle.flow_rules.specs.Operands.{object_of, variable_row, type_in, operand_of, test_operand}
use Rattle.flow_rules.specs.Parts.{Part, a_creation, a_test, is_accessed, parts, parts_all, parts_if, parts_set, parts_return, parts_assign, parts_st, parts_sts, parts_arms, parts_body, parts_of}
use Rattle.flow_rules.specs.Numbered.{form_rows, own_row}
use Rattle.flow_laws.proofs.cover.HasNumbers.{form_row}
use Rattle.flow_rules.specs.Labels.{size, labelled, label, label_all, size_if, label_if, size_target, label_target, size_st, size_sts, label_st, label_sts, label_arms}
use Rattle.flow_rules.proofs.Listed.{first, more}
use Rattle.name_rules.specs.Outline.{outline}
use Rattle.name_rules.specs.Conditions.{no_such_cast}
use Rattle.name_rules.specs.Meanings.{class_named}
use Rattle.rebuild_model.specs.Renaming.{Renaming}
use Rattle.write_model.specs.Names.{row_name, written_type}
use Rattle.write_laws.proofs.rebuilds.Nodes.{tree}
use Rattle.write_laws.proofs.rebuilds.Retyped.{HasRow, variable_has_row}
use Rattle.write_laws.specs.names.Known.{IsKnownCast, KnownEx, KnownExs, KnownTarget, KnownVariable, known}
use Rattle.java_meaning.specs.EachStatement.{OfOption, InSt, InSts, InArms}
use Rattle.write_laws.proofs.names.Origins.{R}
use Rattle.write_laws.specs.names.Laws.{IsNamedProgram}
use Rattle.write_laws.proofs.names.Named.{row_known, type_known}
use Rattle.std.specs.Option.{is_some}
use Rattle.java_core.specs.Makers.{maker_of}
use Rattle.write_laws.proofs.bodies.Sites.{creation_part, object_site}

module _ {P : Plain} {F : Facts} {pt : PointsTo} {H : Hierarchy} (G : IsNamedProgram P F pt H) (m : ℕ) (k : PlainMethod)
    (stands : slice_get P.methods m ≡ Some k) where
  abbrev O : Plain
  O = outline (tree P F H)

  abbrev R₀ : Renaming
  R₀ = R P F H

  -- the parts of a list stand among those of the body
  abbrev Rows : List Part → Type 0
  Rows ps = (p : Part) → Contains ps p → Contains (parts_of P m k) p

  left : (xs ys : List Part) → Rows (xs ++ ys) → Rows xs
  left xs ys r p c = r p (Contains-append_left xs ys p c)

  right : (xs ys : List Part) → Rows (xs ++ ys) → Rows ys
  right xs ys r p c = r p (Contains-append_right xs ys p c)

  tail : (p : Part) (ps : List Part) → Rows (p ∷ ps) → Rows ps
  tail p ps r q c = r q (more q p ps c)

  of_first : (p : Part) (ps : List Part) → Rows (p ∷ ps) → (x : Row) → Contains (form_rows p) x → HasRow P x.item
  of_first p ps r x c = form_row P m k stands p (r p (first p ps)) x c

  own : (q : Place) (i : RowItem) (o : Option ObjectType) (t : ObjectType) → o ≡ Some t
      → ((x : Row) → Contains (own_row q (Some i) o) x → HasRow P x.item) → HasRow P i
  own q i o t e r = let x : Row = record { item = i; place = q; ty = t } in r x (subst (λ z. Contains (own_row q (Some i) z) x) (sym e) (first x []))

  cast_known : (i : RowItem) (v : Ty) → IsCastType P v → ((o : ObjectType) → object_of v ≡ Some o → HasRow P i)
      → IsKnownCast O (written_type P H (R₀.row_type i) v)
  cast_known i _ to_int f r (no_such_cast b none) = absurd (cc b)
  cast_known i _ to_char f r (no_such_cast b none) = absurd (cc b)
  cast_known i _ (to_class {c = c} lt) f r (no_such_cast {n = n} b none) =
      row_known G i c.0 (f (record { class = c; dim = 0 }) refl) (ap (class_named O) (named_is (row_name P H (R₀.row_type i) c.0) n b) ∙ none)
    where
      named_is : (a b : List ℕ) → base.Named a ≡ base.Named b → a ≡ b
      named_is a b h = cc

  abbrev ps : Bool → Ex → List Part
  ps u e = parts P (type_in P m k) m k u e

  abbrev all : Bool → Exs → List Part
  all u es = parts_all P (type_in P m k) m k u es

  abbrev E : Ex → Type 0
  E e = KnownEx P R₀ H m k O e

  create_row : (q : Place) (u : Bool) (t : _) (n c : ℕ) (es : Exs) (rest : List Part)
      → Rows (creation_part P m k q u t n c es ∷ rest) → HasRow P (row.New n)
  unfolding type_in
  create_row q u t n c es rest r = own q (row.New n) _ (record { class = record { 0 = c }; dim = 0 }) refl (of_first _ rest r)

  array_row : (q : Place) (u : Bool) (t : _) (n : ℕ) (v : Ty) (e : Ex) (rest : List Part) (o : ObjectType) → object_of v ≡ Some o
      → Rows (a_creation q u (operand_of P (type_in P m k) m k (create_array t n v e)) None None [] ∷ rest) → HasRow P (row.New n)
  unfolding type_in
  array_row q u t n v e rest o d r = own q (row.New n) (object_of v) o d (of_first _ rest r)

  cast_row : (q : Place) (t : _) (n : ℕ) (v : Ty) (e : Ex) (rest : List Part) (o : ObjectType) → object_of v ≡ Some o
      → Rows (a_test q (operand_of P (type_in P m k) m k e) (operand_of P (type_in P m k) m k (cast t n v e)) ∷ rest) → HasRow P (row.Cast n)
  unfolding type_in
  cast_row q t n v e rest o d r = own q (row.Cast n) (object_of v) o d (of_first _ rest r)

  test_row : (q : Place) (t : _) (n c : ℕ) (e : Ex) → Rows (a_test q (operand_of P (type_in P m k) m k e) (test_operand m t n c) ∷ [])
      → HasRow P (row.Test n)
  test_row q t n c e r = own q (row.Test n) _ (record { class = record { 0 = c }; dim = 0 }) refl (of_first _ [] r)

  -- of an expression with its labels
  mutual
    ex_known : {s : List ℕ} (at : ℕ) (u : Bool) (e : Ex) → FormedEx P k s e → Rows (ps u (label at e)) → E e
    ex_known at u (field t e x) (f_field a b) r = ex_known at _ e a (left (ps (is_accessed (label at e)) (label at e)) _ r)
    ex_known at u (index t e i) (f_index a b) r =
        let B = ps true (label at e) in
        (ex_known at true e a (left B _ r), ex_known (at + size e + 1) false i b (tail _ (ps false (label (at + size e + 1) i)) (right B _ r)))
    ex_known at u (call t e x es) (f_call a b c) r =
        let B = ps true (label at e) in
        (ex_known at true e a (left B _ r), exs_known (at + size e + 1) true es c (tail _ (all true (label_all (at + size e + 1) es)) (right B _ r)))
    ex_known at u (static_call t d es) (f_static_call a b) r = exs_known (at + 1) false es b (tail _ (all false (label_all (at + 1) es)) r)
    ex_known at u (super_call t x es) (f_super_call a b c) r = exs_known (at + 1) false es c (tail _ (all false (label_all (at + 1) es)) r)
    ex_known at u (create t n c es) (f_create a b) r =
        let made = is_some (maker_of P c) in
        let labels = label_all (at + 1) es in
        let A = all made labels in (
          row_known G (row.New n) c (create_row t.place (u || made) (labelled at t) n c labels A r),
          object_site P G.formed m k stands t.place (u || made) (labelled at t) n c labels (r _ (first _ A)),
          exs_known (at + 1) made es b (tail _ A r),
        )
    ex_known at u (create_array t n v e) (f_create_array a b c) r =
        let B = ps false (label (at + 1) e) in
        (type_known G (row.New n) v (λ o d. array_row t.place u (labelled at t) n v (label (at + 1) e) B o d r), ex_known (at + 1) false e c (tail _ B r))
    ex_known at u (cast t n v e) (f_cast a b) r =
        let B = ps true (label (at + 1) e) in
        (cast_known (row.Cast n) v a (λ o d. cast_row t.place (labelled at t) n v (label (at + 1) e) B o d r), ex_known (at + 1) true e b (tail _ B r))
    ex_known at u (instance_of t n e c) (f_instance_of a b) r =
        let B = ps true (label at e) in
        (row_known G (row.Test n) c (test_row t.place (labelled (at + size e) t) n c (label at e) (right B _ r)), ex_known at true e a (left B _ r))
    ex_known at u (unary t o e) (f_unary a) r = ex_known at false e a r
    ex_known at u (binary t o e d) (f_binary a b) r =
        let L = ps false (label at e) in let R = ps false (label (at + size e) d) in let both = left (L ++ R) _ r in
        (ex_known at false e a (left L R both), ex_known (at + size e) false d b (right L R both))
    ex_known at u e f r = tt

    exs_known : {s : List ℕ} (at : ℕ) (u : Bool) (es : Exs) → FormedExs P k s es → Rows (all u (label_all at es)) → KnownExs P R₀ H m k O es
    exs_known at u no_ex f r = tt
    exs_known at u (ex_then e es) (f_ex_then a b) r =
        (ex_known at u e a (left (ps u (label at e)) _ r), exs_known (at + size e) u es b (right (ps u (label at e)) _ r))

  abbrev type : Ex → Option ObjectType
  type = type_in P m k

  if_known : {s : List ℕ} (at : ℕ) (e : Option Ex) → FormedOption P k s e → Rows (parts_if P type m k (label_if at e))
      → OfOption (KnownEx P R₀ H m k O) e
  if_known at None f r = tt
  if_known at (Some e) (f_some a) r = ex_known at false e a r

  set_known : {s : List ℕ} (v : Ex) (at : ℕ) (e : Option Ex) → FormedOption P k s e → Rows (parts_set P type m k v (label_if at e))
      → OfOption (KnownEx P R₀ H m k O) e
  set_known v at None f r = tt
  set_known v at (Some e) (f_some a) r = ex_known at false e a (left (ps false (label at e)) _ r)

  return_known : {s : List ℕ} (at : ℕ) (e : Option Ex) → FormedOption P k s e → Rows (parts_return P type m k (label_if at e))
      → OfOption (KnownEx P R₀ H m k O) e
  return_known at None f r = tt
  return_known at (Some e) (f_some a) r = ex_known at false e a (left (ps false (label at e)) _ r)

  assign_known : {s : List ℕ} (q : Place) (at : ℕ) (b : Target) (e : Ex) → FormedTarget P k s b → FormedEx P k s e
      → Rows (parts_assign P type m k q (label_target at b) (label (at + size_target b) e))
      → KnownTarget P R₀ H m k O b × E e
  assign_known q at (to_local t i) e f g r = (tt, ex_known (at + 0) false e g (left (ps false (label (at + 0) e)) _ r))
  assign_known q at (to_static t i) e f g r = (tt, ex_known (at + 0) false e g (left (ps false (label (at + 0) e)) _ r))
  assign_known q at (to_own t i) e f g r = (tt, ex_known (at + 0) true e g (left (ps true (label (at + 0) e)) _ r))
  assign_known q at (to_field t b x) e (f_to_field a c) g r =
      let B = ps (is_accessed (label at b)) (label at b) in let V = ps true (label (at + size b) e) in
      let all = left (B ++ V) _ r in
      (ex_known at _ b a (left B V all), ex_known (at + size b) true e g (right B V all))
  assign_known q at (to_element t b i) e (f_to_element a c) g r =
      let B = ps true (label at b) in let I = ps false (label (at + size b) i) in let V = ps true (label (at + (size b + size i)) e) in
      let all = left (B ++ I ++ V) _ r in let two = left (B ++ I) V all in (
        (ex_known at true b a (left B I two), ex_known (at + size b) false i c (right B I two)),
        ex_known (at + (size b + size i)) true e g (right (B ++ I) V all),
      )
  assign_known q at no_target e f g r = (tt, ex_known (at + 0) false e g (left (ps false (label (at + 0) e)) _ r))

  variable_known : (i : ℕ) → KnownVariable P R₀ H m k O i
  variable_known i v e = type_known G (variable_row m k i) v.ty (λ o d. variable_has_row P G.formed m k i v stands e o d)

  mutual
    st_known : {l : Bool} {s : List ℕ} (at : ℕ) (x : St) → FormedSt P k l s x → Rows (parts_st P type m k (label_st at x)) → InSt (known P R₀ H m k O) x
    st_known at (declare t i e) (f_declare a b) r = (variable_known i, set_known (local t i) at e b r)
    st_known at (block t xs) (f_block a) r = sts_known at xs a r
    st_known at (assign t b e) (f_assign a c) r = assign_known t.place at b e a c r
    st_known at (act t e) (f_act a b) r = ex_known at false e b r
    st_known at (print t n e) (f_print a b) r = if_known at e b r
    st_known at (choose t (arm e xs more)) (f_choose a) r = arms_known at (arm e xs more) a r
    st_known at (choose t no_other) f r = elim f [ ]
    st_known at (choose t (otherwise xs)) f r = elim f [ ]
    st_known at (loop t is_while x e y xs) (f_loop of p q a b c d) r =
        let to_e : ℕ = at + size_sts x in
        let to_y : ℕ = to_e + size_if e in
        let to_xs : ℕ = to_y + size_sts y in
        let X = parts_sts P type m k (label_sts at x) in
        let E = parts_if P type m k (label_if to_e e) in
        let Y = parts_sts P type m k (label_sts to_y y) in
        let Z = parts_sts P type m k (label_sts to_xs xs) in
        let three = left (X ++ E ++ Y) Z r in
        let two = left (X ++ E) Y three in (
          sts_known at x a (left X E two),
          if_known to_e e b (right X E two),
          sts_known to_y y c (right (X ++ E) Y three),
          sts_known to_xs xs d (right (X ++ E ++ Y) Z r),
        )
    st_known at (return t e) (f_return a) r = return_known at e a r
    st_known at (break t) f r = tt
    st_known at (continue t) f r = tt

    sts_known : {l : Bool} {s : List ℕ} (at : ℕ) (xs : Sts) → FormedSts P k l s xs → Rows (parts_sts P type m k (label_sts at xs))
        → InSts (known P R₀ H m k O) xs
    sts_known at no_st f r = tt
    sts_known at (st_then x xs) (f_st_then a b) r =
        let X = parts_st P type m k (label_st at x) in (st_known at x a (left X _ r), sts_known (at + size_st x) xs b (right X _ r))

    arms_known : {l : Bool} {s : List ℕ} (at : ℕ) (a : IfArms) → FormedArms P k l s a → Rows (parts_arms P type m k (label_arms at a))
        → InArms (known P R₀ H m k O) a
    arms_known at no_other f r = tt
    arms_known at (otherwise xs) (f_otherwise a) r = sts_known at xs a r
    arms_known at (arm e xs more) (f_arm a b c) r =
        let to_xs : ℕ = at + size e in
        let to_more : ℕ = to_xs + size_sts xs in
        let E = ps false (label at e) in
        let X = parts_sts P type m k (label_sts to_xs xs) in
        let M = parts_arms P type m k (label_arms to_more more) in
        let two = left (E ++ X) M r in
        (ex_known at false e a (left E X two), sts_known to_xs xs b (right E X two), arms_known to_more more c (right (E ++ X) M r))

  -- each type that a body names is there
  pub body_known : (xs : Sts) → k.body ≡ Some xs → FormedSts P k false (numbers_below (length k.params)) xs → InSts (known P R₀ H m k O) xs
  unfolding parts_of
  body_known xs e f = sts_known 0 xs f (λ p c. subst (λ z. Contains (parts_body P (type_in P m k) m k z) p) (sym e) c)
