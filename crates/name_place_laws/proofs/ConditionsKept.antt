-- No condition that refuses names holds of a tree where none holds of it without its places.
use Rattle.std.proofs.Common.{◌≡◌, ◌⊎◌, inl, inr, ⊎_elim, ℕ, ◌||◌, true, false, List, map, Some, Contains, sym, ap, ◌∙◌, subst, ap₂}
use Rattle.std.specs.Prelude.{slice_get, codes}
use Rattle.kaba_base.specs.declared.Place.{Place}
use Rattle.kaba_base.proofs.ListLemmas.{at_map, map_has}
use Rattle.java_tree.specs.declared.Id.{Id}
use Rattle.java_tree.specs.declared.Modifier.{Modifier}
use Rattle.java_tree.specs.declared.TypeName.{TypeName}
use Rattle.java_tree.specs.Syntax.{Expressions, Statements, DeclTree}
use Rattle.java_tree.specs.Places.{all_unplaced, may_unplaced, id_unplaced, modifier_unplaced, type_unplaced, param_unplaced, exprs_unplaced, stmts_unplaced, decl_unplaced, unplaced}
use Rattle.java_core.specs.Programs.{Plain, PlainClass, PlainMethod}
use Rattle.java_core.specs.Classes.{IsSubclass, IsProperSubclass}
use Rattle.java_core.specs.Formed.{IsMain}
use Rattle.name_rules.specs.declared.Refusal.{Refusal}
use Rattle.name_rules.specs.declared.parts.Kind.{Kind}
use Rattle.name_rules.specs.Outline.{FieldAt, MethodAt, is_private_word, is_abstract_word, outline, fields_in, methods_in, is_type_name, is_known, mods_of, parent_named, faces_named}
use Rattle.name_rules.specs.Meanings.{class_named}
use Rattle.name_rules.specs.Asked.{IsSuper, a_parent, a_face, IsDeclared, of_field, of_param, of_result, Asks, by_super, by_type}
use Rattle.name_rules.specs.Resolves.{here_of, before_object}
use Rattle.name_rules.specs.Conditions.{makers_written, maker_twice, maker_named, in_up, FaultInOne, StsFault, kind_of, HasModifiers, HasWrongBody, missing, superfluous, in_concrete, ConditionAt, unknown, type_twice, known_twice, super_twice, field_twice, method_twice, param_twice, loop, overload, type_as_field, type_as_param, face_as_parent, class_as_face, private_reused, no_main, modifiers_disagree, modifier_unfit, wrong_body, in_body}
use Rattle.name_rules.specs.Conditions as conditions
use Rattle.name_rules.specs.Causes.{HasNoCondition}
use Rattle.java_core.specs.Untagged.{untag_class, untag_method, untagged}
use Rattle.name_place_laws.proofs.Outlines.{all-mapped, word-same, name-same, types-same, field_at_unplaced, method_at_unplaced, fields-same, methods-same, outline-same}
use Rattle.name_place_laws.proofs.Meanings.{named-same, supers-same, below}
use Rattle.name_place_laws.proofs.Resolved.{parent-unplaced, faces-unplaced, main-back}
use Rattle.name_place_laws.proofs.Untagged.{param-types-same}
use Rattle.name_place_laws.proofs.Conditions.{written-same, kind-same, mods-same, some-body, method-in, here-same, names-same}
use Rattle.name_place_laws.proofs.FaultsKept.{faults, sts}

-- an item stands without its place where it stands, and is an item
stands-on : {A : Type 0} (u : A → A) (xs : List A) (i : ℕ) (x : A) → slice_get xs i ≡ Some x → slice_get (all_unplaced u xs) i ≡ Some (u x)
stands-on u xs i x e = ap (λ z. slice_get z i) (all-mapped u xs) ∙ at_map u xs i x e

has-on : {A : Type 0} (u : A → A) (xs : List A) (x : A) → Contains xs x → Contains (all_unplaced u xs) (u x)
has-on u xs x c = subst (λ z. Contains z (u x)) (sym (all-mapped u xs)) (map_has u xs x c)

module _ (tree : List DeclTree) where
  abbrev O : Plain
  O = outline tree

  same : outline (unplaced tree) ≡ untagged O
  same = outline-same tree

  named-on : (n : List ℕ) → class_named (outline (unplaced tree)) n ≡ class_named O n
  named-on n = ap (λ z. class_named z n) same ∙ named-same O n

  below-on : {a b : ℕ} → IsSubclass O a b → IsSubclass (outline (unplaced tree)) a b
  below-on {a} {b} h = subst (λ z. IsSubclass z a b) (sym same) (below O h)

  above-on : {a : ℕ} → IsProperSubclass O a a → IsProperSubclass (outline (unplaced tree)) a a
  above-on {a} h =
      subst (λ z. IsProperSubclass z a a) (sym same)
      (record { by = h.by; direct = subst (λ z. Contains z h.by) (sym (supers-same O a)) h.direct; rest = below O h.rest })

  method-on : (i : ℕ) (k : PlainMethod) → slice_get O.methods i ≡ Some k → slice_get (outline (unplaced tree)).methods i ≡ Some (untag_method k)
  method-on i k e = ap (λ (z : Plain). slice_get z.methods i) same ∙ at_map untag_method O.methods i k e

  class-on : (i : ℕ) (k : PlainClass) → slice_get O.classes i ≡ Some k → slice_get (outline (unplaced tree)).classes i ≡ Some (untag_class k)
  class-on i k e = ap (λ (z : Plain). slice_get z.classes i) same ∙ at_map untag_class O.classes i k e

  field-at-on : (i : ℕ) (f : FieldAt) → slice_get (fields_in tree) i ≡ Some f → slice_get (fields_in (unplaced tree)) i ≡ Some (field_at_unplaced f)
  field-at-on i f e = ap (λ z. slice_get z i) (fields-same tree) ∙ at_map field_at_unplaced (fields_in tree) i f e

  method-at-on : (i : ℕ) (m : MethodAt) → slice_get (methods_in tree) i ≡ Some m → slice_get (methods_in (unplaced tree)) i ≡ Some (method_at_unplaced m)
  method-at-on i m e = ap (λ z. slice_get z i) (methods-same tree) ∙ at_map method_at_unplaced (methods_in tree) i m e

  has-field : (f : FieldAt) → Contains (fields_in tree) f → Contains (fields_in (unplaced tree)) (field_at_unplaced f)
  has-field f c = subst (λ z. Contains z (field_at_unplaced f)) (sym (fields-same tree)) (map_has field_at_unplaced (fields_in tree) f c)

  has-method : (m : MethodAt) → Contains (methods_in tree) m → Contains (methods_in (unplaced tree)) (method_at_unplaced m)
  has-method m c = subst (λ z. Contains z (method_at_unplaced m)) (sym (methods-same tree)) (map_has method_at_unplaced (methods_in tree) m c)

  parent-on : (d : DeclTree) (i : Id) → parent_named d ≡ Some i → parent_named (decl_unplaced d) ≡ Some (id_unplaced i)
  parent-on d i e = parent-unplaced d ∙ ap (may_unplaced id_unplaced) e

  has-face : (d : DeclTree) (i : Id) → Contains (faces_named d) i → Contains (faces_named (decl_unplaced d)) (id_unplaced i)
  has-face d i h = subst (λ z. Contains z (id_unplaced i)) (sym (faces-unplaced d)) (has-on id_unplaced (faces_named d) i h)

  face-on : (d : DeclTree) (n : ℕ) (i : Id) → slice_get (faces_named d) n ≡ Some i → slice_get (faces_named (decl_unplaced d)) n ≡ Some (id_unplaced i)
  face-on d n i e = ap (λ z. slice_get z n) (faces-unplaced d) ∙ stands-on id_unplaced (faces_named d) n i e

  -- a name that is asked for is asked for without places
  super-on : (i : Id) → IsSuper tree i → IsSuper (unplaced tree) (id_unplaced i)
  super-on i (a_parent {d = d} c e) = a_parent (has-on decl_unplaced tree d c) (parent-on d i e)
  super-on i (a_face {d = d} c h) = a_face (has-on decl_unplaced tree d c) (has-face d i h)

  declared-on : (u : TypeName) → IsDeclared tree u → IsDeclared (unplaced tree) (type_unplaced u)
  declared-on u (of_field {f = f} c) = of_field (has-field f c)
  declared-on u (of_param {m = m} {q = q} c h) = of_param (has-method m c) (has-on param_unplaced m.head.params q h)
  declared-on u (of_result {m = m} c e) = of_result (has-method m c) (ap (may_unplaced type_unplaced) e)

  asked-on : (n : List ℕ) (p : Place) → Asks tree n p → (q : Place) × Asks (unplaced tree) n q
  asked-on n p (by_super {i = i} s) = (_, by_super (super-on i s))
  asked-on n p (by_type {u = u} d e f) = (_, by_type (declared-on u d) e f)

  -- modifiers stand before what they stood before
  mods-on : {kind : Kind} {ms : List Modifier} → HasModifiers tree kind ms → HasModifiers (unplaced tree) kind (all_unplaced modifier_unplaced ms)
  mods-on (conditions.of_type {d = d} c) =
      subst (λ z. HasModifiers (unplaced tree) (kind_of d) z) (mods-same d)
      (subst (λ z. HasModifiers (unplaced tree) z (mods_of (decl_unplaced d))) (kind-same d) (conditions.of_type (has-on decl_unplaced tree d c)))
  mods-on (conditions.of_field {f = f} c) = conditions.of_field (has-field f c)
  mods-on (conditions.of_method {m = m} c) = conditions.of_method (has-method m c)

  wrong-on : (m : MethodAt) → HasWrongBody m → HasWrongBody (method_at_unplaced m)
  wrong-on m (missing k a b) = missing k (word-same is_abstract_word m.head.mods ∙ a) (ap (may_unplaced stmts_unplaced) b)
  wrong-on m (superfluous k a b) = superfluous k (word-same is_abstract_word m.head.mods ∙ a) (some-body m.body ∙ b)
  wrong-on m (in_concrete k a b) = in_concrete k (word-same is_abstract_word m.head.mods ∙ a) b

  module _ (none : HasNoCondition (unplaced tree)) where
    body-on : (m : MethodAt) (ss : Statements) {r : Refusal} → Contains (methods_in tree) m → m.body ≡ Some ss
        → StsFault O (here_of m) false (map (λ q. q.name) m.head.params) ss r → ⊥
    body-on m ss c b h =
        sts O (here_of m) (λ t g. none t (in_body (has-method m c) (ap (may_unplaced stmts_unplaced) b)
        (subst (λ z. StsFault z (here_of (method_at_unplaced m)) false (map (λ q. q.name) (all_unplaced param_unplaced m.head.params))
        (stmts_unplaced ss) t) (sym same)
        (subst (λ z. StsFault (untagged O) z false (map (λ q. q.name) (all_unplaced param_unplaced m.head.params)) (stmts_unplaced ss) t)
        (sym (here-same tree m))
        (subst (λ z. StsFault (untagged O) (here_of m) false z (stmts_unplaced ss) t) (sym (names-same tree m)) g))))) h

    up-on : (m : MethodAt) (es : Expressions) {r : Refusal} → Contains (methods_in tree) m → m.up ≡ Some es
        → FaultInOne O (before_object m) (map (λ q. q.name) m.head.params) es r → ⊥
    up-on m es c b h =
        faults O (before_object m) (map (λ q. q.name) m.head.params) (λ t g. none t (in_up (has-method m c) (ap (may_unplaced exprs_unplaced) b)
        (subst (λ z. FaultInOne z (before_object m) (map (λ q. q.name) (all_unplaced param_unplaced m.head.params)) (exprs_unplaced es) t) (sym same)
        (subst (λ z. FaultInOne (untagged O) (before_object m) z (exprs_unplaced es) t) (sym (names-same tree m)) g)))) h

    word-on : (d : DeclTree) (n : ℕ) (i : Id) → slice_get (makers_written d) n ≡ Some i
        → slice_get (makers_written (decl_unplaced d)) n ≡ Some (id_unplaced i)
    word-on d n i e = ap (λ z. slice_get z n) (written-same d) ∙ stands-on id_unplaced (makers_written d) n i e

    at-none : (r : Refusal) → ConditionAt tree r → ⊥
    at-none r (unknown {n = n} {p = p} a e) = none _ (unknown (asked-on n p a).1 (named-on n ∙ e))
    at-none r (type_twice {i = i} {j = j} {c = c} {d = d} x y lt e) =
        none _ (type_twice (stands-on decl_unplaced tree i c x) (stands-on decl_unplaced tree j d y) lt (name-same c ∙ e ∙ sym (name-same d)))
    at-none r (known_twice {d = d} c h) =
        none _ (known_twice (has-on decl_unplaced tree d c) (subst (λ z. (z ≡ codes "Object") ⊎ (is_known z ≡ true)) (sym (name-same d)) h))
    at-none r (super_twice {d = d} {i = i} {j = j} {a = x} {b = y} c e f lt n) =
        none _ (super_twice (has-on decl_unplaced tree d c) (face-on d i x e) (face-on d j y f) lt n)
    at-none r (field_twice {i = i} {j = j} {f = f} {g = g} x y lt o n) = none _ (field_twice (field-at-on i f x) (field-at-on j g y) lt o n)
    at-none r (method_twice {i = i} {j = j} {h = h} {k = k} x y lt o n plain) =
        none _ (method_twice (method-at-on i h x) (method-at-on j k y) lt o n plain)
    at-none r (param_twice {m = m} {i = i} {j = j} {a = x} {b = y} c e f lt n) =
        none _ (param_twice (has-method m c) (stands-on param_unplaced m.head.params i x e) (stands-on param_unplaced m.head.params j y f) lt n)
    at-none r (loop {c = c} {d = d} x h) = none _ (loop (stands-on decl_unplaced tree c d x) (above-on h))
    at-none r (overload {i = i} {j = j} {h = h} {k = k} x y lt n s t other) =
        none _ (overload (method-on i h x) (method-on j k y) lt n (below-on s) (below-on t) (λ o. other (record {
          first = o.first;
          second = o.second;
          params = sym (param-types-same h.params) ∙ o.params ∙ param-types-same k.params;
          result = o.result;
        })))
    at-none r (type_as_field {f = f} c e) = none _ (type_as_field (has-field f c) (ap (λ z. is_type_name z f.name) (types-same tree) ∙ e))
    at-none r (type_as_param {m = m} {q = q} c d e) =
        none _ (type_as_param (has-method m c) (has-on param_unplaced m.head.params q d) (ap (λ z. is_type_name z q.name) (types-same tree) ∙ e))
    at-none r (face_as_parent {d = d} {i = i} {c = c} {k = k} x e n y s) =
        none _ (face_as_parent (has-on decl_unplaced tree d x) (parent-on d i e) (named-on i.name ∙ n) (class-on c k y) s)
    at-none r (class_as_face {d = d} {i = i} {c = c} {k = k} x e n y s) =
        none _ (class_as_face (has-on decl_unplaced tree d x) (has-face d i e) (named-on i.name ∙ n) (class-on c k y) s)
    at-none r (private_reused {i = i} {j = j} {h = h} {k = k} x y lt n o p s) =
        none _ (private_reused (method-at-on i h x) (method-at-on j k y) lt n o
        (ap₂ (λ v w. v || w) (word-same is_private_word h.head.mods) (word-same is_private_word k.head.mods) ∙ p)
        (⊎_elim (λ u. inl (below-on u)) (λ u. inr (below-on u)) s))
    at-none r (no_main f) =
        none _ (no_main (λ m k e h. let a = method-in tree m k e in f m a.0 a.1 (main-back O a.0 (subst IsMain (sym a.2) h))))
    at-none r (modifiers_disagree {mods = ms} {i = i} {j = j} {a = x} {b = y} c e f lt d) =
        none _ (modifiers_disagree (mods-on c) (stands-on modifier_unplaced ms i x e) (stands-on modifier_unplaced ms j y f) lt d)
    at-none r (modifier_unfit {mods = ms} {a = x} c e d) = none _ (modifier_unfit (mods-on c) (has-on modifier_unplaced ms x e) d)
    at-none r (wrong_body {m = m} c h) = none _ (wrong_body (has-method m c) (wrong-on m h))
    at-none r (in_body {m = m} {ss = ss} c b h) = body-on m ss c b h
    at-none r (in_up {m = m} {es = es} c b h) = up-on m es c b h
    at-none r (maker_twice {d = d} {i = i} {j = j} {a = x} {b = y} c e f lt) =
        none _ (maker_twice (has-on decl_unplaced tree d c) (word-on d i x e) (word-on d j y f) lt)
    at-none r (maker_named {d = d} {i = i} c e other) =
        none _ (maker_named (has-on decl_unplaced tree d c)
        (subst (λ z. Contains z (id_unplaced i)) (sym (written-same d)) (has-on id_unplaced (makers_written d) i e)) (λ s. other (s ∙ name-same d)))

    pub no_condition_placed : HasNoCondition tree
    no_condition_placed = at-none
