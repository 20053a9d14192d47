-- The program that a tree resolves to is formed, whole.
use Rattle.std.proofs.Common.{◌≡◌, ℕ, zero, suc, ◌+◌, ◌<◌, ◌≤◌, ◌⊎◌, inl, inr, ⊎_elim, true, false, List, Some, refl, sym, ap, ◌∙◌, subst, arith}
use Rattle.std.specs.Prelude.{slice_get, codes}
use Rattle.std.specs.Option.{is_some}
use Rattle.std.proofs.lemmas.Bool.{cases_lt}
use Rattle.kaba_base.specs.declared.ClassId.{ClassId}
use Rattle.kaba_base.proofs.ListLemmas.{append_cases}
use Rattle.java_tree.specs.Syntax.{DeclTree}
use Rattle.java_core.specs.Programs.{PlainMethod, PlainSlot}
use Rattle.java_core.specs.Classes.{IsSubclass, parent_of}
use Rattle.java_core.specs.Makers.{maker_name, maker_of, IsMakerOf, IsFormedMaker}
use Rattle.java_core.specs.Formed.{HasNoTwice, IsFormedSlot, IsMain, HasSmallNumbers, IsFormed}
use Rattle.name_laws.specs.declared.parts.Heading.{Heading}
use Rattle.name_rules.specs.Outline.{MethodAt, name_of, fields_in, methods_from, implied_from, methods_in, types_in, method_outline, outline}
use Rattle.name_rules.specs.Resolves.{heading_of, Counts, no_number, next_number, Resolves}
use Rattle.name_laws.proofs.MethodClashes.{meeting}
use Rattle.name_laws.proofs.Bridge.{Steps, P, whole, program-resolves, of-main}
use Rattle.name_laws.proofs.Sees.{same_some}
use Rattle.name_laws.proofs.FormedProgram.{classes-subclass, formed-object, formed-class, formed-names, formed-acyclic}
use Rattle.name_laws.proofs.FormedMembers.{formed-field, formed-field_names, method-seen, maker-alike, formed-maker, formed-method}
use Rattle.name_laws.proofs.Inherited.{maker-below}
use Rattle.name_laws.proofs.MembersOf.{implied-at, owners-rise}

counts-at : {a b : ℕ} {ns : List ℕ} → Counts a ns b → (i x : ℕ) → slice_get ns i ≡ Some x → x ≡ a + i
counts-at no_number i x e = absurd (cc e)
counts-at {a} (next_number c) zero x e = let f : a ≡ x = same_some e in omega (arith, f)
counts-at {a} (next_number c) (suc i) x e = let f = counts-at c i x e in omega (arith, f)

-- numbers that count are each there once
counts-once : {a b : ℕ} {ns : List ℕ} → Counts a ns b → HasNoTwice ns
unfolding HasNoTwice
counts-once c i j x e f = let g = counts-at c i x e in let h = counts-at c j x f in omega (arith, g, h)

module _ (tree : List DeclTree) (s : Steps tree) where
  res : Resolves tree (P tree s)
  res = program-resolves tree s

  down : {c a : ℕ} → IsSubclass (P tree s) c a → IsSubclass (outline tree) c a
  down h = classes-subclass (P tree s) (outline tree) refl h

  -- two methods of one name in a type and its ancestors, the one before the other
  pub one-slot : (c i j : ℕ) (H K : PlainMethod) → slice_get s.methods i ≡ Some H → slice_get s.methods j ≡ Some K → i < j → IsSubclass (outline tree) c H.owner
      → IsSubclass (outline tree) c K.owner → H.name ≡ K.name → (H.is_static ≡ false) × (H.slot ≡ K.slot) × (K.is_static ≡ false)
  one-slot c i j H K p q lt u v same =
      let n = meeting tree s.known s.are s.rows s.above (fields_in tree) s.draft s.members s.clash c i j wh.0 wk.0 wh.1 wk.1 wh.2 wk.2 wh.3 wk.3 lt
      (subst (λ z. IsSubclass (outline tree) c z) (ap (λ z. z.owner) wh.4) u) (subst (λ z. IsSubclass (outline tree) c z) (ap (λ z. z.owner) wk.4) v)
      (ap (λ z. z.name) (sym wh.4) ∙ same ∙ ap (λ z. z.name) wk.4) in
      (ap (λ z. z.is_static) wh.4 ∙ n.first, wh.5 ∙ n.slots ∙ sym wk.5, ap (λ z. z.is_static) wk.4 ∙ n.second)
    where
      wh : (h : Heading) × (x : MethodAt) × (slice_get s.draft.headings i ≡ Some h) × (slice_get (methods_in tree) i ≡ Some x)
          × (heading_of H ≡ method_outline (types_in tree) x) × (H.slot ≡ h.slot)
      wh = whole tree s i H p

      wk : (h : Heading) × (x : MethodAt) × (slice_get s.draft.headings j ≡ Some h) × (slice_get (methods_in tree) j ≡ Some x)
          × (heading_of K ≡ method_outline (types_in tree) x) × (K.slot ≡ h.slot)
      wk = whole tree s j K q

  all-one-slot : (c i j : ℕ) (h k : PlainMethod) → slice_get (P tree s).methods i ≡ Some h → slice_get (P tree s).methods j ≡ Some k
      → IsSubclass (P tree s) c h.owner
      → IsSubclass (P tree s) c k.owner → h.name ≡ k.name → (i ≡ j) ⊎ ((h.is_static ≡ false) × (h.slot ≡ k.slot))
  all-one-slot c i j h k e f u v same =
      ⊎_elim
      (λ lt. let g = one-slot c i j h k e f lt (down u) (down v) same in inr (g.0, g.1))
      (λ le. ⊎_elim
      (λ lt. let g = one-slot c j i k h f e lt (down v) (down u) (sym same) in inr (g.2, sym g.1))
      (λ ge. inl (omega (arith, le, ge)))
      (cases_lt j i))
      (cases_lt i j)

  method-names : (i j : ℕ) (h k : PlainMethod) → slice_get (P tree s).methods i ≡ Some h → slice_get (P tree s).methods j ≡ Some k → h.owner ≡ k.owner
      → h.name ≡ k.name → i ≡ j
  method-names i j h k e f o same =
      let x = method-seen tree s i h e in
      let y = method-seen tree s j k f in
      s.members.method_once i j x.0 y.0 x.1 y.1 (ap (λ z. z.owner) (sym x.2) ∙ o ∙ ap (λ z. z.owner) y.2)
      (ap (λ z. z.name) (sym x.2) ∙ same ∙ ap (λ z. z.name) y.2)

  formed-slot : (n : ℕ) (slot : PlainSlot) → slice_get (P tree s).slots n ≡ Some slot → IsFormedSlot (P tree s) n slot
  formed-slot n slot e =
      let a = res.slots.first n slot e in
      record {
        method = a.0;
        stands = a.1;
        of = a.2;
        least = λ i k. res.slots.least n i slot k e;
      }

  -- a main method is written
  main-written : (i : ℕ) (x : MethodAt) → slice_get (methods_in tree) i ≡ Some x → IsMain (method_outline (types_in tree) x)
      → slice_get (methods_from 1 tree) i ≡ Some x
  main-written i x e is =
      ⊎_elim (λ h. h)
      (λ h. let k = implied-at tree 1 tree h.0 x h.2 in absurd (no-main (name_of k.decl) (ap (λ z. z.head.name) k.is ∙ is.name)))
      (append_cases (methods_from 1 tree) (implied_from tree 1 tree) i x e)
    where
      no-main : (n : List ℕ) → maker_name n ≡ codes "main" → ⊥
      no-main n f = cc f

  main-first : (j : ℕ) (k : PlainMethod) → slice_get (P tree s).methods j ≡ Some k → IsMain k → res.main.owner ≤ k.owner
  main-first j k e h =
      let le = res.main_first j k e h in
      let x = method-seen tree s s.main res.main res.main_stands in
      let y = method-seen tree s j k e in
      let r = owners-rise 1 tree s.formed s.main j x.0 y.0 (main-written s.main x.0 x.1 (of-main x.2 res.main_is))
      (main-written j y.0 y.1 (of-main y.2 h)) le in
      let p = ap (λ z. z.owner) x.2 in let q = ap (λ z. z.owner) y.2 in omega (arith, r, p, q)

  -- a constructor is one of those that the tree has
  makers : (i : ℕ) (k : PlainMethod) → slice_get (P tree s).methods i ≡ Some k → (m : IsMakerOf (P tree s) k) → IsFormedMaker (P tree s) m.class k
  makers i k e m =
      let x = method-seen tree s i k e in
      formed-maker tree s i k e x.0 x.1 x.2 ((s.members.good i x.0 x.1).marked m.class.name (ap (λ z. z.name) (sym x.2) ∙ m.name)) m.class m.stands

  inherited : (c : ℕ) (b : ClassId) → parent_of (P tree s) c ≡ Some b → is_some (maker_of (P tree s) b.0) ≡ true → is_some (maker_of (P tree s) c) ≡ true
  inherited c b up has =
      ap is_some (maker-alike tree s c) ∙ maker-below tree s c b up (sym (ap is_some (maker-alike tree s b.0)) ∙ has)

  pub is-formed : HasSmallNumbers (P tree s) → IsFormed (P tree s)
  is-formed counted = record {
    object = formed-object tree s;
    classes = formed-class tree s;
    class_names = formed-names tree s;
    acyclic = formed-acyclic tree s;
    fields = formed-field tree s;
    field_names = formed-field_names tree s;
    methods = λ i k e. let x = method-seen tree s i k e in formed-method tree s i k e x.0 x.1 x.2;
    method_names = method-names;
    one_slot = all-one-slot;
    slots = formed-slot;
    makers = makers;
    inherited = inherited;
    numbered = counts-once res.numbers;
    main = res.main;
    main_stands = res.main_stands;
    main_is = res.main_is;
    main_first = main-first;
    counted = counted;
  }
