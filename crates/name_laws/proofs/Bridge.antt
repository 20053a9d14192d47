-- What a tree resolves to, or which condition holds of it: the one function over the tree tells it.
use Rattle.std.proofs.Common.{◌≡◌, ℕ, ◌≤◌, ⊎_elim, Bool, true, false, List, length, Some, refl, sym, ap, ◌∙◌, subst}
use Rattle.std.specs.Prelude.{slice_get, position}
use Rattle.std.specs.Option.{is_some}
use Rattle.std.proofs.lemmas.Bool.{false≢true, cases_lt}
use Rattle.std.proofs.lemmas.List.{length-map}
use Rattle.std.proofs.lemmas.List.Quantifiers.{position-Some}
use Rattle.std.proofs.lemmas.Option.{slice_get-get_or, slice_get_within}
use Rattle.kaba_base.specs.declared.Place.{Place}
use Rattle.kaba_base.proofs.ListLemmas.{map_at, at_map, at_contains}
use Rattle.java_tree.specs.declared.TypeBase.{TypeBase}
use Rattle.java_tree.specs.declared.TypeBase.TheVariants as bases
use Rattle.java_tree.specs.Syntax.{DeclTree}
use Rattle.java_core.specs.declared.TyBase.{TyBase}
use Rattle.java_core.specs.Programs.{Plain, PlainMethod, PlainSlot}
use Rattle.java_core.specs.Formed.{IsMain}
use Rattle.java_tree.specs.Formed.{IsFormedTree}
use Rattle.name_laws.specs.Known.{KnownClass}
use Rattle.name_laws.specs.declared.parts.Heading.{Heading}
use Rattle.name_laws.specs.Members.{Members}
use Rattle.name_laws.specs.Resolved.{slot_at, program}
use Rattle.name_laws.specs.Resolved as resolved_by
use Rattle.name_rules.specs.Outline.{MethodAt, is_text_type, fields_in, methods_in, types_in, method_outline, outline}
use Rattle.name_rules.specs.Meanings.{class_named, MeansBase, an_int, a_boolean, a_char, a_text, a_class}
use Rattle.name_rules.specs.Asked.{a_parent, a_face, of_field, of_param, of_result, Asks, by_super, by_type}
use Rattle.name_rules.specs.Resolves.{heading_of, IsOfSlot, HasSlot, no_slot, a_slot, AreSlots, Resolves}
use Rattle.name_laws.proofs.Sees.{same_some}
use Rattle.name_laws.proofs.Runs.{stands-beside}
use Rattle.name_laws.proofs.KnownTypes.{AreKnown}
use Rattle.name_laws.proofs.KnownClasses.{HasSupers}
use Rattle.name_laws.proofs.Reached.{AreAbove, NoLoops}
use Rattle.name_laws.proofs.SlotsOf.{SlotOf, none_of, one_of}
use Rattle.name_laws.proofs.KnownMembers.{AreMembers}
use Rattle.name_laws.proofs.MethodClashes.{NoClash, IsFirstMain, outline-met}
use Rattle.name_laws.proofs.SeesOutline.{sees-outline}
use Rattle.name_laws.proofs.MethodBodies.{BodiesAre}

-- the class of a type that has a meaning is there
means-known : (O : Plain) (b : TypeBase) (x : TyBase) (n : List ℕ) → MeansBase O b x → b ≡ bases.Named n → is_text_type n ≡ false
    → is_some (class_named O n) ≡ true
means-known O bases.Int x n an_int e f = absurd (cc e)
means-known O bases.Boolean x n a_boolean e f = absurd (cc e)
means-known O bases.Char x n a_char e f = absurd (cc e)
means-known O (bases.Named k) x n (a_text g) e f = let s : k ≡ n = cc in absurd (false≢true (sym f ∙ ap is_text_type (sym s) ∙ g))
means-known O (bases.Named k) x n (a_class g h) e f = let s : k ≡ n = cc in ap (λ z. is_some (class_named O z)) (sym s) ∙ ap is_some h

pub main-of : {k l : PlainMethod} → heading_of k ≡ l → IsMain l → IsMain k
main-of {k} {l} e m = let h = subst IsMain (sym e) m in record { static = h.static; name = h.name; params = h.params; result = h.result }

pub of-main : {k l : PlainMethod} → heading_of k ≡ l → IsMain k → IsMain l
of-main {k} {l} e h = let m : IsMain (heading_of k) = record { static = h.static; name = h.name; params = h.params; result = h.result } in subst IsMain e m

-- the first that passes stands before the others
first-least : {A : Type 0} (p : A → Bool) (xs : List A) (i j : ℕ) (x : A) → position p xs ≡ Some i → slice_get xs j ≡ Some x → p x ≡ true → i ≤ j
first-least p xs i j x e at f =
    ⊎_elim (λ lt. absurd (false≢true (sym ((position-Some p xs i x e).2 j lt)
    ∙ ap p (same_some (sym (slice_get-get_or xs j x (slice_get_within xs j x at)) ∙ at)) ∙ f))) (λ le. le) (cases_lt j i)

-- all that the steps tell of a tree that they go through
pub record Steps (tree : List DeclTree) : Type 0 where
  pub formed : IsFormedTree tree
  pub known : List KnownClass
  pub are : AreKnown tree known
  pub supers : (i : ℕ) (d : DeclTree) → slice_get tree i ≡ Some d → HasSupers tree d
  pub rows : List (List Bool)
  pub above : AreAbove (outline tree) rows
  pub number : ℕ
  pub loops : NoLoops tree (outline tree).classes number
  pub draft : Members
  pub members : AreMembers tree known are (fields_in tree) (methods_in tree) draft
  pub count : ℕ
  pub clash : NoClash tree known are rows above (fields_in tree) draft members draft.headings count
  pub main : ℕ
  pub first : IsFirstMain tree known are rows above (fields_in tree) draft members main
  pub methods : List PlainMethod
  pub last : ℕ
  pub written : BodiesAre tree known are (resolved_by.table known (outline tree).classes rows draft) refl
      (sees-outline tree known are rows above draft members supers loops (outline-met tree known are rows above (fields_in tree) draft members clash))
      (methods_in tree) (methods, last)

module _ (tree : List DeclTree) (s : Steps tree) where
  -- the program that they give
  abbrev pub P : Plain
  P = program (outline tree).classes s.draft s.main s.methods

  all-known : (n : List ℕ) (p : Place) → Asks tree n p → is_some (class_named (outline tree) n) ≡ true
  all-known n p (by_super (a_parent {d = d} {i = i} at e)) = let a = at_contains tree d at in let h = (s.supers a.0 d a.1).parent i e in
      ap is_some h.named
  all-known n p (by_super (a_face {d = d} {i = i} at e)) =
      let a = at_contains tree d at in let j = at_contains _ i e in let h = (s.supers a.0 d a.1).faces j.0 i j.1 in ap is_some h.named
  all-known n p (by_type {u = u} (of_field {f = f} at) e g) = let a = at_contains (fields_in tree) f at in let h = s.members.good_field a.0 f a.1 in
      means-known (outline tree) u.base _ n h.means.base e g
  all-known n p (by_type {u = u} (of_param {m = x} {q = q} at has) e g) =
      let a = at_contains (methods_in tree) x at in let h = s.members.good a.0 x a.1 in let j = at_contains x.head.params q has in
      let k = h.params.means j.0 q j.1 in means-known (outline tree) u.base _ n k.1.base e g
  all-known n p (by_type {u = u} (of_result {m = x} at is) e g) =
      let a = at_contains (methods_in tree) x at in let h = s.members.good a.0 x a.1 in let k = h.result u is in means-known (outline tree) u.base
      _ n k.1.base e g

  -- each method with its heading
  pub whole : (i : ℕ) (k : PlainMethod) → slice_get s.methods i ≡ Some k → (h : Heading) × (x : MethodAt) × (slice_get s.draft.headings i ≡ Some h)
      × (slice_get (methods_in tree) i ≡ Some x) × (heading_of k ≡ method_outline (types_in tree) x) × (k.slot ≡ h.slot)
  whole i k e =
      let a = map_at (method_outline (types_in tree)) (methods_in tree) i (heading_of k) (ap (λ z. slice_get z i) (sym s.written.heads)
      ∙ at_map heading_of s.methods i k e) in
      let b = stands-beside (methods_in tree) s.draft.headings (sym s.members.count) i a.0 a.1 in
      (b.0, a.0, b.1, a.1, sym a.2, s.written.slots i k e ∙ ap slot_at b.1)

  pub size : length (methods_in tree) ≡ length s.methods
  size = sym (length-map (methods_in tree) _) ∙ ap length (sym s.written.heads) ∙ length-map s.methods _

  method-at : (i : ℕ) (h : Heading) → slice_get s.draft.headings i ≡ Some h → (k : PlainMethod) × (slice_get s.methods i ≡ Some k) × (k.slot ≡ h.slot)
  method-at i h e =
      let a = stands-beside s.draft.headings s.methods (s.members.count ∙ size) i h e in
      (a.0, a.1, s.written.slots i a.0 a.1 ∙ ap slot_at e)

  pub slots-are : AreSlots P
  slots-are = record {
    each = λ i k e. let a = whole i k e in has i k a.0 a.1 a.4 a.5 (s.members.slots.each i a.0 a.1 a.2 a.3);
    first = λ r slot e. let a = s.members.slots.first r slot e in let b = method-at slot.first a.0 a.1 in (b.0, b.1, b.2 ∙ a.2);
    least = λ r i slot k e f g. let a = whole i k f in s.members.slots.least r i slot a.0 e a.2 (sym a.5 ∙ g);
    apart = s.members.slots.apart;
    order = s.members.slots.order;
  }
    where
      of-slot : (slot : PlainSlot) (k l : PlainMethod) → heading_of k ≡ l → IsOfSlot slot l → IsOfSlot slot k
      of-slot slot k l e g = let h = subst (IsOfSlot slot) (sym e) g in record { name = h.name; params = h.params; result = h.result }

      has : (i : ℕ) (k : PlainMethod) (h : Heading) (x : MethodAt) → heading_of k ≡ method_outline (types_in tree) x → k.slot ≡ h.slot
          → SlotOf (types_in tree) s.draft.slots h x → HasSlot P k
      has i k h x e f (none_of a b) = no_slot (ap (λ z. z.is_static) e ∙ a) (f ∙ b)
      has i k h x e f (one_of {slot = slot} a b c d) =
          a_slot (ap (λ z. z.is_static) e ∙ a) (f ∙ b) c (of-slot slot k (method_outline (types_in tree) x) e d)

  pub program-resolves : Resolves tree P
  unfolding outline
  program-resolves =
      let x = stands-beside (methods_in tree) s.methods size s.main s.first.method s.first.stands in
      let w = whole s.main x.0 x.1 in
      record {
        known = all-known;
        classes = refl;
        fields = s.members.fields;
        headings = s.written.heads;
        bodies = s.written.bodies;
        slots = slots-are;
        last = s.last;
        numbers = s.written.numbers;
        main = x.0;
        main_stands = x.1;
        main_is = main-of w.4 (subst (λ z. IsMain (method_outline (types_in tree) z)) (same_some (sym s.first.stands ∙ w.3)) s.first.is);
        main_first = λ j k e is. let v = whole j k e in first-least (λ h. h.is_main) s.draft.headings s.main j v.0 s.first.first v.2
            ((s.members.heads j v.0 v.1 v.2 v.3).no_main (of-main v.4 is));
      }
