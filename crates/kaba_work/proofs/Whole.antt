-- A sample resolves to its program.
use Rattle.std.proofs.Common.{◌≡◌, ℕ, zero, suc, ◌+◌, ◌<◌, ◌≤◌, true, false, List, [], ◌∷◌, ◌++◌, map, Some, Contains, refl, sym, ap, ◌∙◌, subst, arith}
use Rattle.std.specs.Prelude.{slice_get, codes}
use Rattle.std.specs.Option.{is_some}
use Rattle.std.specs.List.{range_with_len}
use Rattle.std.proofs.lemmas.Bool.{false≢true}
use Rattle.std.proofs.lemmas.Option.{same_Some}
use Rattle.kaba_base.specs.declared.Place.{Place}
use Rattle.kaba_base.proofs.ListLemmas.{at_contains as at_contains}
use Rattle.java_tree.specs.declared.Id.{Id}
use Rattle.java_tree.specs.declared.TypeName.{TypeName}
use Rattle.java_tree.specs.declared.TypeBase.TheVariants as bases
use Rattle.java_tree.specs.declared.Param.{Param}
use Rattle.java_tree.specs.Syntax.{DeclTree}
use Rattle.java_core.specs.Programs.{Plain, PlainMethod, PlainSlot}
use Rattle.java_core.specs.Formed.{IsMain}
use Rattle.name_rules.specs.Outline.{FieldAt, MethodAt, parent_named, faces_named, fields_in, methods_in, is_text_type, outline}
use Rattle.name_rules.specs.Meanings.{class_named}
use Rattle.name_rules.specs.Asked.{Asks, by_super, by_type, IsSuper, a_parent, a_face, IsDeclared, of_field, of_param, of_result}
use Rattle.name_rules.specs.Resolves.{BodiesResolve, HasSlot, no_slot, a_slot, AreSlots, Resolves}
use Rattle.kaba_work.specs.Sample.{id_nowhere, class_name, int_type, main_param, class_tree, main_tree, sample_tree}
use Rattle.kaba_work.specs.Program.{method_made, main_made, slot_made, sample_program}
use Rattle.kaba_work.proofs.Places.{StandsAt, is_row, is_last, stands, row_at, last_at, PairAt, is_first, is_second, pair_stands}
use Rattle.kaba_work.proofs.Outlined.{sum_field, extra_field, method_at, main_at, fields_are, methods_are, same_classes, same_fields, same_methods, named}
use Rattle.kaba_work.proofs.Bodies.{bodies_resolve, numbers_counted}

pub decl_at : (n j : ℕ) (d : DeclTree) → slice_get (sample_tree n) j ≡ Some d → StandsAt class_tree (main_tree n) n j d
unfolding sample_tree
decl_at n j d e = stands class_tree (main_tree n) n j d e

pub decl_in : (n : ℕ) (d : DeclTree) → Contains (sample_tree n) d → (j : ℕ) × StandsAt class_tree (main_tree n) n j d
decl_in n d c = let z = at_contains (sample_tree n) d c in (z.0, decl_at n z.0 d z.1)

pub field_at_place : (n j : ℕ) (f : FieldAt) → slice_get (fields_in (sample_tree n)) j ≡ Some f → PairAt sum_field extra_field n j f
field_at_place n j f e = pair_stands sum_field extra_field n j f (ap (λ xs. slice_get xs j) (sym (fields_are n)) ∙ e)

pub field_in : (n : ℕ) (f : FieldAt) → Contains (fields_in (sample_tree n)) f → (j : ℕ) × PairAt sum_field extra_field n j f
field_in n f c = let z = at_contains (fields_in (sample_tree n)) f c in (z.0, field_at_place n z.0 f z.1)

pub method_at_place : (n j : ℕ) (m : MethodAt) → slice_get (methods_in (sample_tree n)) j ≡ Some m → StandsAt method_at (main_at n) n j m
method_at_place n j m e = stands method_at (main_at n) n j m (ap (λ xs. slice_get xs j) (sym (methods_are n)) ∙ e)

pub method_in : (n : ℕ) (m : MethodAt) → Contains (methods_in (sample_tree n)) m → (j : ℕ) × StandsAt method_at (main_at n) n j m
method_in n m c = let z = at_contains (methods_in (sample_tree n)) m c in (z.0, method_at_place n z.0 m z.1)

pub none_in : {A : Type 0} (xs : List A) (x : A) → xs ≡ [] → Contains xs x → ⊥
none_in xs x e c = let z : Contains [] x = subst (λ ys. Contains ys x) e c in omega (arith, z.1)

pub one_in : {A : Type 0} (xs : List A) (a x : A) → xs ≡ a ∷ [] → Contains xs x → a ≡ x
one_in xs a x e c = go (at_contains (a ∷ []) x (subst (λ ys. Contains ys x) e c))
  where
    go : (i : ℕ) × (slice_get (a ∷ []) i ≡ Some x) → a ≡ x
    go (zero, h) = same_Some a x h
    go (suc i, h) = absurd (cc h)

-- no declaration names an interface
pub no_faces : (n j : ℕ) (d : DeclTree) → StandsAt class_tree (main_tree n) n j d → faces_named d ≡ []
no_faces n j d (is_row lt e) = ap faces_named e
no_faces n j d (is_last l e) = ap faces_named e

-- the superclass that a declaration names is one before it
pub parent_is : (n j : ℕ) (d : DeclTree) (i : Id) → StandsAt class_tree (main_tree n) n j d → parent_named d ≡ Some i
    → (k : ℕ) × (k < n) × (i ≡ id_nowhere (class_name k))
parent_is n zero d i (is_row lt e) p = absurd (cc (sym (ap parent_named e) ∙ p))
parent_is n (suc j) d i (is_row lt e) p = (j, omega (arith, lt), sym (same_Some (id_nowhere (class_name j)) i (sym (ap parent_named e) ∙ p)))
parent_is n j d i (is_last l e) p = absurd (cc (sym (ap parent_named e) ∙ p))

-- the parameters of methods
pub params_are : (n j : ℕ) (m : MethodAt) (q : Param) → StandsAt method_at (main_at n) n j m → Contains m.head.params q → main_param ≡ q
params_are n j m q (is_row lt e) c = absurd (none_in m.head.params q (ap (λ (z : MethodAt). z.head.params) e) c)
params_are n j m q (is_last l e) c = one_in m.head.params main_param q (ap (λ (z : MethodAt). z.head.params) e) c

module _ (n : ℕ) (most : n ≤ 100) where
  abbrev T : List DeclTree
  T = sample_tree n

  abbrev O : Plain
  O = outline T

  -- ---- the types that the declarations name

  super_known : (i : Id) → IsSuper T i → is_some (class_named O i.name) ≡ true
  super_known i (a_parent {d = d} c p) =
      let z = decl_in n d c in
      let k = parent_is n z.0 d i z.1 p in
      ap (λ (x : Id). is_some (class_named O x.name)) k.2 ∙ ap is_some (named n most k.0 k.1)
  super_known i (a_face {d = d} c f) = absurd (let z = decl_in n d c in none_in (faces_named d) i (no_faces n z.0 d z.1) f)

  field_int : (f : FieldAt) (j : ℕ) → PairAt sum_field extra_field n j f → f.type ≡ int_type
  field_int f j (is_first i lt at e) = ap (λ (z : FieldAt). z.type) e
  field_int f j (is_second i lt at e) = ap (λ (z : FieldAt). z.type) e

  result_int : (m : MethodAt) (j : ℕ) (u : TypeName) → StandsAt method_at (main_at n) n j m → m.head.type ≡ Some u → int_type ≡ u
  result_int m j u (is_row lt e) r = same_Some int_type u (sym (ap (λ (z : MethodAt). z.head.type) e) ∙ r)
  result_int m j u (is_last l e) r = absurd (cc (sym (ap (λ (z : MethodAt). z.head.type) e) ∙ r))

  no_int : (u : TypeName) (x : List ℕ) → u ≡ int_type → u.base ≡ bases.Named x → ⊥
  no_int u x e b = cc (sym (ap (λ (z : TypeName). z.base) e) ∙ b)

  type_known : (u : TypeName) (x : List ℕ) → IsDeclared T u → u.base ≡ bases.Named x → is_text_type x ≡ false → ⊥
  type_known u x (of_field {f = f} c) b t = let z = field_in n f c in no_int f.type x (field_int f z.0 z.1) b
  type_known u x (of_param {m = m} {q = q} c d) b t =
      let z = method_in n m c in
      let s : bases.Named (codes "String") ≡ bases.Named x = ap (λ (p : Param). p.ty.base) (params_are n z.0 m q z.1 d) ∙ b in
      let text : codes "String" ≡ x = cc in
      false≢true (sym t ∙ sym (ap is_text_type text))
  type_known u x (of_result {m = m} c r) b t = let z = method_in n m c in no_int u x (sym (result_int m z.0 u z.1 r)) b

  pub asks_known : (x : List ℕ) (p : Place) → Asks T x p → is_some (class_named O x) ≡ true
  asks_known _ _ (by_super {i = i} s) = super_known i s
  asks_known _ _ (by_type {u = u} {n = x} d b t) = absurd (type_known u x d b t)

  -- ---- slots

  abbrev M : List PlainMethod
  M = map method_made (range_with_len 0 n) ++ main_made n ∷ []

  slot_there : (s : ℕ) (slot : PlainSlot) → slice_get (slot_made ∷ []) s ≡ Some slot → (s ≡ 0) × (slot_made ≡ slot)
  slot_there zero slot e = (refl, same_Some slot_made slot e)
  slot_there (suc s) slot e = absurd (cc e)

  has_slot : (m : ℕ) (k : PlainMethod) → StandsAt method_made (main_made n) n m k → HasSlot (sample_program n) k
  unfolding sample_program
  has_slot m k (is_row lt e) = subst (HasSlot (sample_program n)) (sym e) (a_slot refl refl refl (record { name = refl; params = refl; result = refl }))
  has_slot m k (is_last l e) = subst (HasSlot (sample_program n)) (sym e) (no_slot refl refl)

  are_slots : 1 ≤ n → AreSlots (sample_program n)
  unfolding sample_program
  are_slots one = record {
    each = λ m k e. has_slot m k (stands method_made (main_made n) n m k e);
    first =
        λ s slot e.
        let z = slot_there s slot e in
        (method_made 0, ap (λ (x : PlainSlot). slice_get M x.first) (sym z.1) ∙ row_at method_made (main_made n) n 0 (omega (arith, one)), ap Some (sym z.0));
    least = λ s m slot k e f g. let z = ap (λ (x : PlainSlot). x.first) (slot_there s slot e).1 in omega (arith, z);
    apart = λ r s a b e f x y z. (slot_there r a e).0 ∙ sym (slot_there s b f).0;
    order = λ r s a b e f lt. absurd (let x = (slot_there r a e).0 in let y = (slot_there s b f).0 in omega (arith, x, y, lt));
  }

  -- ---- main

  main_is : IsMain (main_made n)
  main_is = record { static = refl; name = refl; params = refl; result = refl }

  first_main : (m : ℕ) (k : PlainMethod) → StandsAt method_made (main_made n) n m k → IsMain k → n ≤ m
  first_main m k (is_row lt e) h = absurd (false≢true (sym (ap (λ (z : PlainMethod). z.is_static) e) ∙ h.static))
  first_main m k (is_last l e) h = omega (arith, l)

  pub resolves : 1 ≤ n → Resolves T (sample_program n)
  unfolding sample_program
  resolves one = record {
    known = asks_known;
    classes = same_classes n most;
    fields = same_fields n most;
    headings = same_methods n most;
    bodies = subst (λ ms. BodiesResolve O ms M) (sym (methods_are n)) (bodies_resolve n most);
    slots = are_slots one;
    last = 0 + n;
    numbers = numbers_counted n;
    main = main_made n;
    main_stands = last_at method_made (main_made n) n;
    main_is = main_is;
    main_first = λ m k e h. first_main m k (stands method_made (main_made n) n m k e) h;
  }
