-- No condition holds of a tree that resolves.
use Rattle.std.proofs.Common.{◌≡◌, ℕ, zero, suc, ◌<◌, ◌⊎◌, inl, inr, ⊎_elim, Bool, true, false, ◌||◌, ◌&&◌, List, [], ◌∷◌, map, length, Option, Some, None, drop, refl, sym, ap, ◌∙◌, subst, arith}
use Rattle.std.specs.Prelude.{slice_get, if◌then◌else◌}
use Rattle.std.specs.Option.{is_some}
use Rattle.std.proofs.lemmas.Bool.{false≢true, or_left, or_right}
use Rattle.std.specs.Str.{bytes_eq}
use Rattle.std.proofs.lemmas.Slice.Eq.{bytes_eq-Decides}
use Rattle.std.proofs.lemmas.Option.{slice_get_within}
use Rattle.kaba_base.proofs.ListLemmas.{map_at, at_map, at_contains, at_left}
use Rattle.java_tree.specs.declared.Modifier.{Modifier}
use Rattle.java_tree.specs.declared.Id.{Id}
use Rattle.java_tree.specs.declared.Param.{Param}
use Rattle.java_tree.specs.Syntax.{Expressions, Statements, DeclTree}
use Rattle.java_core.specs.Trees.{Exs, Sts}
use Rattle.java_core.specs.Makers.{maker_name}
use Rattle.java_core.specs.Programs.{Plain, PlainClass, PlainMethod}
use Rattle.java_core.specs.Classes.{IsSubclass}
use Rattle.java_core.specs.Types.{types_of}
use Rattle.java_core.specs.Formed.{HasNoTwice}
use Rattle.name_rules.specs.declared.Refusal.{Refusal}
use Rattle.name_rules.specs.declared.Refusal.TheVariants.{PrivateReused}
use Rattle.name_rules.specs.declared.parts.Kind.{Kind}
use Rattle.name_laws.specs.declared.parts.Heading.{Heading}
use Rattle.name_laws.specs.Tables.{is_above}
use Rattle.name_rules.specs.Outline.{MethodAt, name_of, class_at, type_named, id_meant, faces_named, is_private, is_maker, fields_in, methods_from, implied_from, methods_in, types_in, param_outline, method_outline, outline}
use Rattle.name_rules.specs.Meanings.{class_named, bound_names}
use Rattle.name_rules.specs.Resolves.{HasSlot, no_slot, a_slot, AllResolve, StsResolve, params_from, here_of, before_object, heading_of, UpResolves, r_no_up, r_up, BodyResolves, r_no_body, r_body, r_maker, Resolves}
use Rattle.name_rules.specs.Conditions.{ConditionAt, unknown, type_twice, known_twice, super_twice, field_twice, method_twice, param_twice, loop, overload, type_as_field, type_as_param, face_as_parent, class_as_face, private_reused, no_main, modifiers_disagree, modifier_unfit, wrong_body, in_body, in_up, makers_written, maker_twice, maker_named, AreOneSlot, FaultInOne, StsFault, HasModifiers, of_type, of_field, of_method}
use Rattle.name_laws.proofs.Sees.{same_some}
use Rattle.name_laws.proofs.Runs.{stands-beside}
use Rattle.name_laws.proofs.Modifiers.{AreFit}
use Rattle.name_laws.proofs.KnownClasses.{StandsNamed}
use Rattle.name_laws.proofs.KnownMembers.{HeadIs}
use Rattle.name_laws.proofs.MethodClashes.{classes-count, owner-within, method_at-outline}
use Rattle.name_laws.proofs.Bridge.{Steps, P, program-resolves, of-main}
use Rattle.name_laws.proofs.FormedMembers.{body-at}
use Rattle.name_laws.proofs.FormedWhole.{one-slot}
use Rattle.name_laws.proofs.MembersOf.{MethodIn, HasMaker, maker-from, makers-from}
use Rattle.name_laws.proofs.MembersOf as members
use Rattle.name_laws.proofs.Excludes.{none-holds as args-hold, sts-holds}

params-names : (c : ℕ) (types : List (List ℕ)) (qs : List Param) → bound_names (params_from c (map (param_outline types) qs)) ≡ map (λ q. q.name) qs
params-names c types [] = refl
params-names c types (q ∷ qs) = ap (λ z. q.name ∷ z) (params-names (suc c) types qs)

-- the test of two methods finds what it looks for
caught : (name private related : Bool) (r : Refusal) (other : Option Refusal) → name ≡ true → private ≡ true → related ≡ true
    → (if name then (if private && related then Some r else other) else None) ≡ None → ⊥
caught true true true r other a b c e = cc e
caught true true false r other a b c e = false≢true c
caught true false related r other a b c e = false≢true b
caught false private related r other a b c e = false≢true a

-- a type stands under its name, and is of one kind
one-kind : {tree : List DeclTree} {n : List ℕ} {kind : Bool} (s : StandsNamed tree n kind) (c : ℕ) (k : PlainClass) → class_named (outline tree) n
    ≡ Some c → slice_get (outline tree).classes c ≡ Some k → k.is_interface ≡ kind
one-kind {tree} s c k e f = ap (λ z. z.is_interface) (same_some (sym f ∙ ap (slice_get (outline tree).classes) (same_some (sym e ∙ s.named))
    ∙ s.stands)) ∙ s.kind

-- methods of one slot agree in parameter types and result
agree : (P : Plain) (h k : PlainMethod) → h.is_static ≡ false → k.is_static ≡ false → h.slot ≡ k.slot → HasSlot P h → HasSlot P k
    → (types_of h.params ≡ types_of k.params) × (h.result ≡ k.result)
agree P h k a b e (no_slot s n) t = absurd (false≢true (sym a ∙ s))
agree P h k a b e (a_slot s n at of) (no_slot t m) = absurd (false≢true (sym b ∙ t))
agree P h k a b e (a_slot {slot = x} s n at of) (a_slot {slot = y} t m there on) =
    let same : x ≡ y = same_some (sym at ∙ ap (slice_get P.slots) (same_some (sym n ∙ e ∙ m)) ∙ there) in
    (of.params ∙ ap (λ z. z.params) same ∙ sym on.params, of.result ∙ ap (λ z. z.result) same ∙ sym on.result)

module _ (tree : List DeclTree) (s : Steps tree) where
  res : Resolves tree (P tree s)
  res = program-resolves tree s

  -- a method of the outline is one of the program's
  method-of : (i : ℕ) (h : PlainMethod) → slice_get (outline tree).methods i ≡ Some h → (k : PlainMethod) × (slice_get s.methods i ≡ Some k)
      × (heading_of k ≡ h)
  method-of i h e = map_at heading_of s.methods i h (ap (λ z. slice_get z i) res.headings ∙ e)

  -- two methods of one name that meet are of one slot
  are-one : (c i j : ℕ) (h k : PlainMethod) → slice_get (outline tree).methods i ≡ Some h → slice_get (outline tree).methods j ≡ Some k → i < j
      → h.name ≡ k.name → IsSubclass (outline tree) c h.owner → IsSubclass (outline tree) c k.owner → AreOneSlot h k
  are-one c i j h k p q lt same u v =
      let a = method-of i h p in let b = method-of j k q in
      let o = one-slot tree s c i j a.0 b.0 a.1 b.1 lt
      (subst (λ z. IsSubclass (outline tree) c z.owner) (sym a.2) u) (subst (λ z. IsSubclass (outline tree) c z.owner) (sym b.2) v)
      (ap (λ z. z.name) a.2 ∙ same ∙ sym (ap (λ z. z.name) b.2)) in
      let g = agree (P tree s) a.0 b.0 o.0 o.2 o.1 (res.slots.each i a.0 a.1) (res.slots.each j b.0 b.1) in
      record {
        first = sym (ap (λ z. z.is_static) a.2) ∙ o.0;
        second = sym (ap (λ z. z.is_static) b.2) ∙ o.2;
        params = sym (ap (λ z. types_of z.params) a.2) ∙ g.0 ∙ ap (λ z. types_of z.params) b.2;
        result = sym (ap (λ z. z.result) a.2) ∙ g.1 ∙ ap (λ z. z.result) b.2;
      }

  fits : (kind : Kind) (mods : List Modifier) → HasModifiers tree kind mods → AreFit kind mods
  fits kind mods (of_type {d = d} at) = let a = at_contains tree d at in (s.supers a.0 d a.1).fit
  fits kind mods (of_field {f = f} at) = let a = at_contains (fields_in tree) f at in (s.members.good_field a.0 f a.1).fit
  fits kind mods (of_method {m = x} at) = let a = at_contains (methods_in tree) x at in (s.members.good a.0 x a.1).fit

  -- the name of a private method again
  reused : (i j : ℕ) (x y : MethodAt) → slice_get (methods_in tree) i ≡ Some x → slice_get (methods_in tree) j ≡ Some y → i < j
      → x.head.name ≡ y.head.name → is_private x || is_private y ≡ true
      → IsSubclass (outline tree) x.owner y.owner ⊎ IsSubclass (outline tree) y.owner x.owner → ⊥
  reused i j x y p q lt same private related =
      caught (bytes_eq a.name b.name) (a.is_private || b.is_private) (is_above s.rows a.owner b.owner || is_above s.rows b.owner a.owner)
      (PrivateReused b.name b.place) _
      ((bytes_eq-Decides a.name b.name).1 (hx.name ∙ same ∙ sym hy.name))
      (ap (λ z. z || b.is_private) hx.private ∙ ap (λ z. is_private x || z) hy.private ∙ private)
      (⊎_elim
      (λ u. or_left (is_above s.rows a.owner b.owner) (is_above s.rows b.owner a.owner) (up b a y x hy hx (owner-within tree j y q) u))
      (λ u. or_right (is_above s.rows a.owner b.owner) (is_above s.rows b.owner a.owner) (up a b x y hx hy (owner-within tree i x p) u))
      related)
      (s.clash.none i j a b at.1 there.1 lt)
    where
      at : (h : Heading) × (slice_get s.draft.headings i ≡ Some h)
      at = stands-beside (methods_in tree) s.draft.headings (sym s.members.count) i x p

      there : (h : Heading) × (slice_get s.draft.headings j ≡ Some h)
      there = stands-beside (methods_in tree) s.draft.headings (sym s.members.count) j y q

      a : Heading
      a = at.0

      b : Heading
      b = there.0

      hx : HeadIs tree s.known s.are a x
      hx = s.members.heads i a x at.1 p

      hy : HeadIs tree s.known s.are b y
      hy = s.members.heads j b y there.1 q

      up : (a b : Heading) (x y : MethodAt) → HeadIs tree s.known s.are a x → HeadIs tree s.known s.are b y → x.owner < length (outline tree).classes
          → IsSubclass (outline tree) y.owner x.owner → is_above s.rows b.owner a.owner ≡ true
      up a b x y hx hy lt u = ap (λ z. is_above s.rows z a.owner) hy.owner ∙ ap (is_above s.rows y.owner) hx.owner ∙ s.above.whole y.owner x.owner lt u

  body-holds : (i : ℕ) (x : MethodAt) (ss : Statements) (r : Refusal) → slice_get (methods_in tree) i ≡ Some x → x.body ≡ Some ss
      → StsFault (outline tree) (here_of x) false (map (λ q. q.name) x.head.params) ss r → ⊥
  body-holds i x ss r at e f = go (body-at res.bodies i x k.0 at k.1)
    where
      k : (k : PlainMethod) × (slice_get s.methods i ≡ Some k) × (heading_of k ≡ method_outline (types_in tree) x)
      k = method-of i (method_outline (types_in tree) x) (method_at-outline tree i x at)

      names : map (λ q. q.name) x.head.params ≡ bound_names (params_from 0 k.0.params)
      names = sym (ap (λ z. bound_names (params_from 0 z.params)) k.2 ∙ params-names 0 (types_in tree) x.head.params)

      of-sts : {us : Statements} {xs : Sts} → x.body ≡ Some us
          → StsResolve (outline tree) (here_of x) k.0 false (params_from 0 k.0.params) us xs → ⊥
      of-sts {xs = xs} some h =
          sts-holds (outline tree) (here_of x) k.0 names f
          (subst (λ z. StsResolve (outline tree) (here_of x) k.0 false (params_from 0 k.0.params) z xs) (same_some (sym some ∙ e)) h)

      go : BodyResolves (outline tree) x k.0 → ⊥
      go (r_no_body none b l) = cc (sym none ∙ e)
      go (r_body plain some b h c) = of-sts some h
      go (r_maker maker some b u h c) = of-sts some h

  -- no condition holds in the arguments of `super(..)`
  up-holds : (i : ℕ) (x : MethodAt) (es : Expressions) (r : Refusal) → slice_get (methods_in tree) i ≡ Some x → x.up ≡ Some es
      → FaultInOne (outline tree) (before_object x) (map (λ q. q.name) x.head.params) es r → ⊥
  up-holds i x es r at e f = go (body-at res.bodies i x k.0 at k.1)
    where
      k : (k : PlainMethod) × (slice_get s.methods i ≡ Some k) × (heading_of k ≡ method_outline (types_in tree) x)
      k = method-of i (method_outline (types_in tree) x) (method_at-outline tree i x at)

      in-decl : MethodIn 1 tree x
      in-decl = members.method-of tree s.formed i x at

      names : map (λ q. q.name) x.head.params ≡ bound_names (params_from 0 k.0.params)
      names = sym (ap (λ z. bound_names (params_from 0 z.params)) k.2 ∙ params-names 0 (types_in tree) x.head.params)

      bodyless : x.body ≡ None → (b : Bool) → is_maker x ≡ b → is_maker x ≡ false
      bodyless none false m = m
      bodyless none true m = absurd (let c = (in-decl.is.maker m).1 in cc (sym c.1 ∙ none))

      of-up : (up : Option Expressions) (us : Exs) → up ≡ Some es → UpResolves (outline tree) x (params_from 0 k.0.params) up us → ⊥
      of-up None us g r_no_up = cc g
      of-up (Some vs) us g (r_up h) =
          args-hold (outline tree) (before_object x) (params_from 0 k.0.params) (subst (λ z. FaultInOne (outline tree) (before_object x) z es r) names f)
          (subst (λ z. AllResolve (outline tree) (before_object x) (params_from 0 k.0.params) z us) (same_some g) h)

      go : BodyResolves (outline tree) x k.0 → ⊥
      go (r_no_body none b l) = cc (sym (in-decl.is.no_up (bodyless none (is_maker x) refl)) ∙ e)
      go (r_body plain some b h c) = cc (sym (in-decl.is.no_up plain) ∙ e)
      go (r_maker {es = us} maker some b u h c) = of-up x.up us e u

  -- two constructors of one class
  two-makers : (k : ℕ) (d : DeclTree) → slice_get tree k ≡ Some d → (i j : ℕ) (v w : Id) → slice_get (makers_written d) i ≡ Some v
      → slice_get (makers_written d) j ≡ Some w → i < j → ⊥
  two-makers k d at i j v w p q lt =
      let m = makers-from 1 tree k (suc k) d at (omega arith) i j v w p q lt in
      let a = in-tree m.0 in let b = in-tree m.1 in
      let e = s.members.method_once m.0.number m.1.number m.0.method m.1.method a b (m.0.owner ∙ sym m.1.owner)
      (named k d at v m.0 ∙ sym (named k d at w m.1)) in
      let l = m.2 in omega (arith, e, l)
    where
      in-tree : {c : ℕ} {w : Id} (h : HasMaker c (methods_from 1 tree) w) → slice_get (methods_in tree) h.number ≡ Some h.method
      in-tree h = at_left (methods_from 1 tree) (implied_from tree 1 tree) h.number h.method h.stands

      named : (k : ℕ) (d : DeclTree) → slice_get tree k ≡ Some d → (w : Id) (h : HasMaker (suc k) (methods_from 1 tree) w)
          → h.method.head.name ≡ maker_name (name_of d)
      named k d at w h =
          let c = (s.members.good h.number h.method (in-tree h)).maker h.maker in
          let index : c.index ≡ k = let a = c.owned in let b = h.owner in omega (arith, a, b) in
          c.name ∙ ap (λ z. maker_name (name_of z)) (same_some (sym c.stands ∙ ap (slice_get tree) index ∙ at))

  -- a constructor of another name
  other-name : (k : ℕ) (d : DeclTree) → slice_get tree k ≡ Some d → (i : ℕ) (w : Id) → slice_get (makers_written d) i ≡ Some w → w.name ≡ name_of d
  other-name k d at i w p =
      let h = maker-from 1 tree k (suc k) d at (omega arith) i w p in
      let there = at_left (methods_from 1 tree) (implied_from tree 1 tree) h.number h.method h.stands in
      let c = (s.members.good h.number h.method there).maker h.maker in
      let index : c.index ≡ k = let a = c.owned in let b = h.owner in omega (arith, a, b) in
      let same = sym h.name ∙ c.name ∙ ap (λ z. maker_name (name_of z)) (same_some (sym c.stands ∙ ap (slice_get tree) index ∙ at)) in
      ap (drop 1) same

  pub none-holds : (r : Refusal) → ConditionAt tree r → ⊥
  unfolding HasNoTwice
  none-holds r (unknown {n = x} {p = p} asks none) = false≢true (sym (ap is_some none) ∙ res.known x p asks)
  none-holds r (type_twice {i = i} {j = j} {c = c} {d = d} p q lt same) =
      let e : suc i ≡ suc j = s.are.once (suc i) (suc j) (name_of d) (at_map name_of tree i c p ∙ ap Some same) (at_map name_of tree j d q) in
      omega (arith, e, lt)
  none-holds r (known_twice {d = d} at (inl e)) =
      let a = at_contains tree d at in let t : zero ≡ suc a.0 = s.are.once 0 (suc a.0) (name_of d) (ap Some (sym e))
      (at_map name_of tree a.0 d a.1) in omega (arith, t)
  none-holds r (known_twice {d = d} at (inr e)) = let a = at_contains tree d at in false≢true (sym (s.are.apart a.0 d a.1) ∙ e)
  none-holds r (super_twice {d = d} {i = i} {j = j} {a = f} {b = g} at p q lt same) =
      let a = at_contains tree d at in
      let e = (s.supers a.0 d a.1).once i j (id_meant (types_in tree) f) (at_map (id_meant (types_in tree)) (faces_named d) i f p)
      (at_map (id_meant (types_in tree)) (faces_named d) j g q ∙ ap (λ z. Some (class_at (type_named (types_in tree) z))) (sym same)) in
      omega (arith, e, lt)
  none-holds r (field_twice {i = i} {j = j} {f = f} {g = g} p q lt own same) = let e = s.members.field_once i j f g p q own same in omega (arith, e, lt)
  none-holds r (method_twice {i = i} {j = j} {h = h} {k = k} p q lt own same plain) = let e = s.members.method_once i j h k p q own same in omega (arith, e, lt)
  none-holds r (param_twice {m = x} {i = i} {j = j} {a = f} {b = g} at p q lt same) =
      let a = at_contains (methods_in tree) x at in
      let e = (s.members.good a.0 x a.1).params.once i j f.name (at_map (λ q. q.name) x.head.params i f p)
      (at_map (λ q. q.name) x.head.params j g q ∙ ap Some (sym same)) in
      omega (arith, e, lt)
  none-holds r (loop {c = c} {d = d} at h) = s.loops.none (suc c) (let l = slice_get_within tree c d at in let n = classes-count tree in omega (arith, l, n)) h
  none-holds r (overload {i = i} {j = j} {c = c} {h = h} {k = k} p q lt same u v other) = other (are-one c i j h k p q lt same u v)
  none-holds r (type_as_field {f = f} at e) = let a = at_contains (fields_in tree) f at in false≢true (sym (s.members.good_field a.0 f a.1).free ∙ e)
  none-holds r (type_as_param {m = x} {q = q} at has e) =
      let a = at_contains (methods_in tree) x at in let t = at_contains x.head.params q has in false≢true
      (sym ((s.members.good a.0 x a.1).params.free t.0 q t.1) ∙ e)
  none-holds r (face_as_parent {d = d} {i = i} {c = c} {k = k} at e named stands face) =
      let a = at_contains tree d at in false≢true (sym (one-kind ((s.supers a.0 d a.1).parent i e) c k named stands) ∙ face)
  none-holds r (class_as_face {d = d} {i = i} {c = c} {k = k} at has named stands class) =
      let a = at_contains tree d at in let t = at_contains (faces_named d) i has in false≢true (sym class
      ∙ one-kind ((s.supers a.0 d a.1).faces t.0 i t.1) c k named stands)
  none-holds r (private_reused {i = i} {j = j} {h = x} {k = y} p q lt same apart private related) = reused i j x y p q lt same private related
  none-holds r (no_main none) = none s.main (heading_of res.main) (ap (λ z. slice_get z s.main) (sym res.headings)
      ∙ at_map heading_of s.methods s.main res.main res.main_stands) (of-main refl res.main_is)
  none-holds r (modifiers_disagree {kind = kind} {mods = mods} {i = i} {j = j} {a = a} {b = b} has p q lt d) =
      false≢true (sym ((fits kind mods has).agree i j a b p q lt) ∙ d)
  none-holds r (modifier_unfit {kind = kind} {mods = mods} {a = m} has at u) =
      let a = at_contains mods m at in false≢true (sym ((fits kind mods has).fit a.0 m a.1) ∙ u)
  none-holds r (wrong_body {m = x} at w) = let a = at_contains (methods_in tree) x at in (s.members.good a.0 x a.1).body w
  none-holds r (in_body {m = x} {ss = ss} at e f) = let a = at_contains (methods_in tree) x at in body-holds a.0 x ss r a.1 e f
  none-holds r (in_up {m = x} {es = es} at e f) = let a = at_contains (methods_in tree) x at in up-holds a.0 x es r a.1 e f
  none-holds r (maker_twice {d = d} {i = i} {j = j} {a = v} {b = w} at p q lt) = let a = at_contains tree d at in two-makers a.0 d a.1 i j v w p q lt
  none-holds r (maker_named {d = d} {i = w} at has other) =
      let a = at_contains tree d at in let b = at_contains (makers_written d) w has in other (other-name a.0 d a.1 b.0 w b.1)
