-- No condition that refuses names holds of a tree without its places where none holds of it.
use Rattle.std.proofs.Common.{◌≡◌, ◌⊎◌, inl, inr, ⊎_elim, ℕ, ◌||◌, true, false, List, [], ◌∷◌, map, Option, Some, None, Contains, is_some, refl, sym, ap, ◌∙◌, subst, ap₂}
use Rattle.std.specs.Prelude.{slice_get, codes}
use Rattle.kaba_base.proofs.ListLemmas.{map_at, at_map}
use Rattle.java_tree.specs.declared.Modifier.{Modifier}
use Rattle.java_tree.specs.Syntax.{Expressions, Statements, MemberTree, FieldTree, MethodTree, MakerTree, DeclTree, ClassTree, InterfaceTree}
use Rattle.java_tree.specs.Places.{nowhere, all_unplaced, may_unplaced, id_unplaced, modifier_unplaced, param_unplaced, exprs_unplaced, stmts_unplaced, member_unplaced, decl_unplaced, unplaced}
use Rattle.java_core.specs.Programs.{Plain, PlainClass, PlainMethod}
use Rattle.java_core.specs.Classes.{IsSubclass, IsProperSubclass}
use Rattle.name_rules.specs.declared.Refusal.{Refusal}
use Rattle.name_rules.specs.declared.parts.Kind.{Kind}
use Rattle.name_rules.specs.Outline.{FieldAt, MethodAt, is_maker, is_private, is_private_word, is_abstract_word, is_static_word, outline, fields_in, methods_in, is_type_name, is_known, name_of, mods_of, parent_named, faces_named}
use Rattle.name_rules.specs.Meanings.{class_named}
use Rattle.name_rules.specs.Resolves.{here_of, before_object}
use Rattle.name_rules.specs.Conditions.{written_makers, makers_written, maker_twice, maker_named, in_up, FaultInOne, StsFault, disagree, is_unfit, kind_of, HasModifiers, of_type, of_field, of_method, HasWrongBody, missing, superfluous, in_concrete, AreOneSlot, unknown, type_twice, known_twice, super_twice, field_twice, method_twice, param_twice, loop, overload, type_as_field, type_as_param, face_as_parent, class_as_face, private_reused, no_main, modifiers_disagree, modifier_unfit, wrong_body, in_body}
use Rattle.name_rules.specs.Causes.{HasNoCondition}
use Rattle.java_core.specs.Untagged.{untag_class, untag_method, untagged}
use Rattle.name_place_laws.proofs.Outlines.{all-mapped, word-same, name-same, types-same, same-all, field_at_unplaced, method_at_unplaced, fields-same, methods-same, outline-same}
use Rattle.name_place_laws.proofs.Meanings.{named-same, supers-same, below-back}
use Rattle.name_place_laws.proofs.Resolved.{from-map, from-all, from-maybe, parent-unplaced, faces-unplaced, method-back, asked-back, main-bare}
use Rattle.name_place_laws.proofs.Untagged.{param-types-same}
use Rattle.name_place_laws.proofs.Faults.{faults, sts}

-- an item of a list without places stands where it stood
stands-back : {A : Type 0} (u : A → A) (xs : List A) (i : ℕ) (y : A) → slice_get (all_unplaced u xs) i ≡ Some y
    → (x : A) × (slice_get xs i ≡ Some x) × (u x ≡ y)
stands-back u xs i y e = map_at u xs i y (ap (λ z. slice_get z i) (sym (all-mapped u xs)) ∙ e)

pub kind-same : (d : DeclTree) → kind_of (decl_unplaced d) ≡ kind_of d
kind-same (ClassTree ms n c fs bs p) = refl
kind-same (InterfaceTree ms n fs hs p) = refl

pub mods-same : (d : DeclTree) → mods_of (decl_unplaced d) ≡ all_unplaced modifier_unplaced (mods_of d)
mods-same (ClassTree ms n c fs bs p) = refl
mods-same (InterfaceTree ms n fs hs p) = refl

pub some-body : (b : Option Statements) → is_some (may_unplaced stmts_unplaced b) ≡ is_some b
some-body None = refl
some-body (Some ss) = refl

written-members : (ms : List MemberTree) → written_makers (all_unplaced member_unplaced ms) ≡ all_unplaced id_unplaced (written_makers ms)
written-members [] = refl
written-members (FieldTree ks t n p ∷ ms) = written-members ms
written-members (MethodTree h b p ∷ ms) = written-members ms
written-members (MakerTree ks n ps up ss p ∷ ms) = ap (λ z. record { name = n; place = nowhere } ∷ z) (written-members ms)

pub written-same : (d : DeclTree) → makers_written (decl_unplaced d) ≡ all_unplaced id_unplaced (makers_written d)
written-same (ClassTree ms n c fs bs p) = written-members bs
written-same (InterfaceTree ms n fs hs p) = refl

no-body : (b : Option Statements) → may_unplaced stmts_unplaced b ≡ None → b ≡ None
no-body None e = refl
no-body (Some ss) e = absurd (cc e)

module _ (tree : List DeclTree) where
  abbrev O : Plain
  O = outline tree

  same : outline (unplaced tree) ≡ untagged O
  same = outline-same tree

  named-in : (n : List ℕ) {c : Option ℕ} → class_named (outline (unplaced tree)) n ≡ c → class_named O n ≡ c
  named-in n e = sym (named-same O n) ∙ sym (ap (λ z. class_named z n) same) ∙ e

  below-in : {a b : ℕ} → IsSubclass (outline (unplaced tree)) a b → IsSubclass O a b
  below-in {a} {b} h = below-back O (subst (λ z. IsSubclass z a b) same h)

  above-itself : {a : ℕ} → IsProperSubclass (outline (unplaced tree)) a a → IsProperSubclass O a a
  above-itself {a} h =
      let g = subst (λ z. IsProperSubclass z a a) same h in
      record { by = g.by; direct = subst (λ z. Contains z g.by) (supers-same O a) g.direct; rest = below-back O g.rest }

  pub method-in : (i : ℕ) (k : PlainMethod) → slice_get (outline (unplaced tree)).methods i ≡ Some k
      → (h : PlainMethod) × (slice_get O.methods i ≡ Some h) × (untag_method h ≡ k)
  method-in i k e = map_at untag_method O.methods i k (ap (λ (z : Plain). slice_get z.methods i) (sym same) ∙ e)

  class-in : (i : ℕ) (k : PlainClass) → slice_get (outline (unplaced tree)).classes i ≡ Some k
      → (h : PlainClass) × (slice_get O.classes i ≡ Some h) × (untag_class h ≡ k)
  class-in i k e = map_at untag_class O.classes i k (ap (λ (z : Plain). slice_get z.classes i) (sym same) ∙ e)

  field-at : (i : ℕ) (f : FieldAt) → slice_get (fields_in (unplaced tree)) i ≡ Some f
      → (g : FieldAt) × (slice_get (fields_in tree) i ≡ Some g) × (field_at_unplaced g ≡ f)
  field-at i f e = map_at field_at_unplaced (fields_in tree) i f (ap (λ z. slice_get z i) (sym (fields-same tree)) ∙ e)

  method-at : (i : ℕ) (m : MethodAt) → slice_get (methods_in (unplaced tree)) i ≡ Some m
      → (k : MethodAt) × (slice_get (methods_in tree) i ≡ Some k) × (method_at_unplaced k ≡ m)
  method-at i m e = map_at method_at_unplaced (methods_in tree) i m (ap (λ z. slice_get z i) (sym (methods-same tree)) ∙ e)

  field-back : (f : FieldAt) → Contains (fields_in (unplaced tree)) f → (g : FieldAt) × Contains (fields_in tree) g × (field_at_unplaced g ≡ f)
  field-back f c = from-map field_at_unplaced (fields_in tree) f (subst (λ z. Contains z f) (fields-same tree) c)

  mods-back : (kind : Kind) (ms : List Modifier) → HasModifiers (unplaced tree) kind ms
      → (ks : List Modifier) × HasModifiers tree kind ks × (all_unplaced modifier_unplaced ks ≡ ms)
  mods-back kind ms (of_type {d = d} c) =
      let a = from-all decl_unplaced tree d c in
      (mods_of a.0, subst (λ z. HasModifiers tree z (mods_of a.0)) (sym (kind-same a.0) ∙ ap kind_of a.2) (of_type a.1), sym (mods-same a.0) ∙ ap mods_of a.2)
  mods-back kind ms (of_field {f = f} c) = let a = field-back f c in (a.0.mods, of_field a.1, ap (λ z. z.mods) a.2)
  mods-back kind ms (of_method {m = m} c) =
      let a = method-back tree m c in
      (a.0.head.mods, subst (λ z. HasModifiers tree z a.0.head.mods) (ap (λ z. z.kind) a.2) (of_method a.1), ap (λ z. z.head.mods) a.2)

  wrong-back : (m : MethodAt) → HasWrongBody (method_at_unplaced m) → HasWrongBody m
  wrong-back m (missing k a b) = missing k (sym (word-same is_abstract_word m.head.mods) ∙ a) (no-body m.body b)
  wrong-back m (superfluous k a b) = superfluous k (sym (word-same is_abstract_word m.head.mods) ∙ a) (sym (some-body m.body) ∙ b)
  wrong-back m (in_concrete k a b) = in_concrete k (sym (word-same is_abstract_word m.head.mods) ∙ a) b

  pub here-same : (m : MethodAt) → here_of (method_at_unplaced m) ≡ here_of m
  here-same m = ap (λ z. record { owner = m.owner; is_static = z }) (word-same is_static_word m.head.mods)

  pub names-same : (m : MethodAt) → map (λ q. q.name) (all_unplaced param_unplaced m.head.params) ≡ map (λ q. q.name) m.head.params
  names-same m = same-all param_unplaced (λ q. q.name) (λ q. refl) m.head.params

  module _ (none : HasNoCondition tree) where
    body-back : (m : MethodAt) (ss us : Statements) {r : Refusal} → Contains (methods_in tree) m → m.body ≡ Some ss → stmts_unplaced ss ≡ us
        → StsFault (outline (unplaced tree)) (here_of (method_at_unplaced m)) false (map (λ q. q.name) (method_at_unplaced m).head.params) us r → ⊥
    body-back m ss us {r} c b e h =
        sts O (here_of m) ss (λ t g. none t (in_body c b g))
        (subst (λ z. StsFault (untagged O) (here_of m) false z (stmts_unplaced ss) r) (names-same m)
        (subst (λ z. StsFault (untagged O) z false (map (λ q. q.name) (all_unplaced param_unplaced m.head.params)) (stmts_unplaced ss) r) (here-same m)
        (subst (λ z. StsFault z (here_of (method_at_unplaced m)) false (map (λ q. q.name) (all_unplaced param_unplaced m.head.params))
        (stmts_unplaced ss) r) same
        (subst (λ z. StsFault (outline (unplaced tree)) (here_of (method_at_unplaced m)) false
        (map (λ q. q.name) (all_unplaced param_unplaced m.head.params)) z r) (sym e) h))))

    up-back : (m : MethodAt) (es us : Expressions) {r : Refusal} → Contains (methods_in tree) m → m.up ≡ Some es → exprs_unplaced es ≡ us
        → FaultInOne (outline (unplaced tree)) (before_object (method_at_unplaced m)) (map (λ q. q.name) (method_at_unplaced m).head.params) us r → ⊥
    up-back m es us {r} c b e h =
        faults O (before_object m) (map (λ q. q.name) m.head.params) es (λ t g. none t (in_up c b g))
        (subst (λ z. FaultInOne (untagged O) (before_object m) z (exprs_unplaced es) r) (names-same m)
        (subst (λ z. FaultInOne z (before_object m) (map (λ q. q.name) (all_unplaced param_unplaced m.head.params)) (exprs_unplaced es) r) same
        (subst (λ z. FaultInOne (outline (unplaced tree)) (before_object m) (map (λ q. q.name) (all_unplaced param_unplaced m.head.params)) z r)
        (sym e) h)))

    pub no_condition : HasNoCondition (unplaced tree)
    no_condition r (unknown {n = n} {p = p} a e) = let b = asked-back tree n p a in none _ (unknown b.1 (named-in n e))
    no_condition r (type_twice {i = i} {j = j} {c = c} {d = d} x y lt e) =
        let a = stands-back decl_unplaced tree i c x in let b = stands-back decl_unplaced tree j d y in
        none _ (type_twice a.1 b.1 lt (sym (name-same a.0) ∙ ap name_of a.2 ∙ e ∙ ap name_of (sym b.2) ∙ name-same b.0))
    no_condition r (known_twice {d = d} c h) =
        let a = from-all decl_unplaced tree d c in
        none _ (known_twice a.1 (subst (λ z. (z ≡ codes "Object") ⊎ (is_known z ≡ true)) (ap name_of (sym a.2) ∙ name-same a.0) h))
    no_condition r (super_twice {d = d} {i = i} {j = j} {a = x} {b = y} c e f lt n) =
        let a = from-all decl_unplaced tree d c in
        let faces = ap faces_named (sym a.2) ∙ faces-unplaced a.0 in
        let u = stands-back id_unplaced (faces_named a.0) i x (ap (λ z. slice_get z i) (sym faces) ∙ e) in
        let v = stands-back id_unplaced (faces_named a.0) j y (ap (λ z. slice_get z j) (sym faces) ∙ f) in
        none _ (super_twice a.1 u.1 v.1 lt (ap (λ z. z.name) u.2 ∙ n ∙ ap (λ z. z.name) (sym v.2)))
    no_condition r (field_twice {i = i} {j = j} {f = f} {g = g} x y lt o n) =
        let a = field-at i f x in let b = field-at j g y in
        none _ (field_twice a.1 b.1 lt (ap (λ z. z.owner) a.2 ∙ o ∙ ap (λ z. z.owner) (sym b.2)) (ap (λ z. z.name) a.2 ∙ n ∙ ap (λ z. z.name) (sym b.2)))
    no_condition r (method_twice {i = i} {j = j} {h = h} {k = k} x y lt o n plain) =
        let a = method-at i h x in let b = method-at j k y in
        none _ (method_twice a.1 b.1 lt (ap (λ z. z.owner) a.2 ∙ o ∙ ap (λ z. z.owner) (sym b.2))
        (ap (λ z. z.head.name) a.2 ∙ n ∙ ap (λ z. z.head.name) (sym b.2)) (ap (λ z. is_maker z) b.2 ∙ plain))
    no_condition r (param_twice {m = m} {i = i} {j = j} {a = x} {b = y} c e f lt n) =
        let a = method-back tree m c in
        let params = ap (λ (z : MethodAt). z.head.params) a.2 in
        let u = stands-back param_unplaced a.0.head.params i x (ap (λ z. slice_get z i) params ∙ e) in
        let v = stands-back param_unplaced a.0.head.params j y (ap (λ z. slice_get z j) params ∙ f) in
        none _ (param_twice a.1 u.1 v.1 lt (ap (λ z. z.name) u.2 ∙ n ∙ ap (λ z. z.name) (sym v.2)))
    no_condition r (loop {c = c} {d = d} x h) = let a = stands-back decl_unplaced tree c d x in none _ (loop a.1 (above-itself h))
    no_condition r (overload {i = i} {j = j} {c = c} {h = h} {k = k} x y lt n s t other) =
        let a = method-in i h x in let b = method-in j k y in
        none _ (overload a.1 b.1 lt (ap (λ z. z.name) a.2 ∙ n ∙ ap (λ z. z.name) (sym b.2))
        (subst (λ z. IsSubclass O c z) (ap (λ z. z.owner) (sym a.2)) (below-in s)) (subst (λ z. IsSubclass O c z) (ap (λ z. z.owner) (sym b.2)) (below-in t))
        (λ o. other (subst (λ z. AreOneSlot z k) a.2
        (subst (λ z. AreOneSlot (untag_method a.0) z) b.2
        (record {
          first = o.first;
          second = o.second;
          params = param-types-same a.0.params ∙ o.params ∙ sym (param-types-same b.0.params);
          result = o.result;
        })))))
    no_condition r (type_as_field {f = f} c e) =
        let a = field-back f c in none _ (type_as_field a.1 (ap₂ is_type_name (sym (types-same tree)) (ap (λ z. z.name) a.2) ∙ e))
    no_condition r (type_as_param {m = m} {q = q} c d e) =
        let a = method-back tree m c in
        let b = from-all param_unplaced a.0.head.params q (subst (λ z. Contains z.head.params q) (sym a.2) d) in
        none _ (type_as_param a.1 b.1 (ap₂ is_type_name (sym (types-same tree)) (ap (λ z. z.name) b.2) ∙ e))
    no_condition r (face_as_parent {d = d} {i = i} {c = c} {k = k} x e n y s) =
        let a = from-all decl_unplaced tree d x in
        let b = from-maybe id_unplaced (parent_named a.0) i (sym (parent-unplaced a.0) ∙ ap parent_named a.2 ∙ e) in
        let g = class-in c k y in
        none _ (face_as_parent a.1 b.1 (ap (class_named O) (ap (λ z. z.name) b.2) ∙ named-in i.name n) g.1 (ap (λ z. z.is_interface) g.2 ∙ s))
    no_condition r (class_as_face {d = d} {i = i} {c = c} {k = k} x e n y s) =
        let a = from-all decl_unplaced tree d x in
        let b = from-all id_unplaced (faces_named a.0) i (subst (λ z. Contains z i) (ap faces_named (sym a.2) ∙ faces-unplaced a.0) e) in
        let g = class-in c k y in
        none _ (class_as_face a.1 b.1 (ap (class_named O) (ap (λ z. z.name) b.2) ∙ named-in i.name n) g.1 (ap (λ z. z.is_interface) g.2 ∙ s))
    no_condition r (private_reused {i = i} {j = j} {h = h} {k = k} x y lt n o p s) =
        let a = method-at i h x in let b = method-at j k y in
        let first = ap (λ (z : MethodAt). z.owner) a.2 in let second = ap (λ (z : MethodAt). z.owner) b.2 in
        none _ (private_reused a.1 b.1 lt (ap (λ z. z.head.name) a.2 ∙ n ∙ ap (λ z. z.head.name) (sym b.2)) (λ e. o (sym first ∙ e ∙ second))
        (ap₂ (λ v w. v || w) (sym (word-same is_private_word a.0.head.mods) ∙ ap is_private a.2)
        (sym (word-same is_private_word b.0.head.mods) ∙ ap is_private b.2) ∙ p)
        (⊎_elim (λ u. inl (subst (λ z. IsSubclass O z b.0.owner) (sym first) (subst (λ z. IsSubclass O h.owner z) (sym second) (below-in u))))
        (λ u. inr (subst (λ z. IsSubclass O z a.0.owner) (sym second) (subst (λ z. IsSubclass O k.owner z) (sym first) (below-in u)))) s))
    no_condition r (no_main f) =
        none _ (no_main (λ m k e h. f m (untag_method k) (ap (λ (z : Plain). slice_get z.methods m) same ∙ at_map untag_method O.methods m k e)
        (main-bare O h)))
    no_condition r (modifiers_disagree {kind = kind} {mods = ms} {i = i} {j = j} {a = x} {b = y} c e f lt d) =
        let a = mods-back kind ms c in
        let u = stands-back modifier_unplaced a.0 i x (ap (λ z. slice_get z i) a.2 ∙ e) in
        let v = stands-back modifier_unplaced a.0 j y (ap (λ z. slice_get z j) a.2 ∙ f) in
        none _ (modifiers_disagree a.1 u.1 v.1 lt (ap₂ disagree (ap (λ z. z.word) u.2) (ap (λ z. z.word) v.2) ∙ d))
    no_condition r (modifier_unfit {kind = kind} {mods = ms} {a = x} c e d) =
        let a = mods-back kind ms c in
        let u = from-all modifier_unplaced a.0 x (subst (λ z. Contains z x) (sym a.2) e) in
        none _ (modifier_unfit a.1 u.1 (ap (λ z. is_unfit kind z.word) u.2 ∙ d))
    no_condition r (wrong_body {m = m} c h) = let a = method-back tree m c in none _ (wrong_body a.1 (wrong-back a.0 (subst HasWrongBody (sym a.2) h)))
    no_condition r (in_body {m = m} {ss = ss} c b h) =
        let a = method-back tree m c in
        let g = from-maybe stmts_unplaced a.0.body ss (ap (λ z. z.body) a.2 ∙ b) in
        body-back a.0 g.0 ss a.1 g.1 g.2 (subst (λ z. StsFault (outline (unplaced tree)) (here_of z) false (map (λ q. q.name) z.head.params) ss r) (sym a.2) h)
    no_condition r (in_up {m = m} {es = es} c b h) =
        let a = method-back tree m c in
        let g = from-maybe exprs_unplaced a.0.up es (ap (λ z. z.up) a.2 ∙ b) in
        up-back a.0 g.0 es a.1 g.1 g.2
        (subst (λ z. FaultInOne (outline (unplaced tree)) (before_object z) (map (λ q. q.name) z.head.params) es r) (sym a.2) h)
    no_condition r (maker_twice {d = d} {i = i} {j = j} {a = x} {b = y} c e f lt) =
        let a = from-all decl_unplaced tree d c in
        let words = ap makers_written (sym a.2) ∙ written-same a.0 in
        let u = stands-back id_unplaced (makers_written a.0) i x (ap (λ z. slice_get z i) (sym words) ∙ e) in
        let v = stands-back id_unplaced (makers_written a.0) j y (ap (λ z. slice_get z j) (sym words) ∙ f) in
        none _ (maker_twice a.1 u.1 v.1 lt)
    no_condition r (maker_named {d = d} {i = i} c e other) =
        let a = from-all decl_unplaced tree d c in
        let b = from-all id_unplaced (makers_written a.0) i (subst (λ z. Contains z i) (ap makers_written (sym a.2) ∙ written-same a.0) e) in
        none _ (maker_named a.1 b.1 (λ s. other (ap (λ z. z.name) (sym b.2) ∙ s ∙ sym (name-same a.0) ∙ ap name_of a.2)))
