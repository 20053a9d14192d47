-- The program over the worked hierarchy is formed.
use Rattle.std.proofs.Common.{◌≡◌, ℕ, zero, suc, ◌<◌, ◌≤◌, ◌⊎◌, [], ◌∷◌, Some, None, Contains, refl, sym, ap, ◌∙◌, subst, inl, inr, arith}
use Rattle.std.specs.Prelude.{true, false, codes, slice_get}
use Rattle.std.specs.Option.{is_some}
use Rattle.std.proofs.lemmas.Bool.{false≢true}
use Rattle.std.proofs.lemmas.Option.{same_Some}
use Rattle.kaba_base.specs.declared.ClassId.{ClassId}
use Rattle.java_core.specs.Trees.{Sts, field, this, return, no_st, st_then}
use Rattle.java_core.specs.Programs.{PlainClass, PlainMethod}
use Rattle.java_core.specs.Classes.{supers_of}
use Rattle.java_core.specs.Makers.{maker_of, IsMakerOf}
use Rattle.java_core.specs.Formed.{IsFormedClass, IsFormedField, IsFormedMethod, IsFormedSlot, IsMain, FormedSts, IsFormed, numbers_below, f_field, f_this, f_some, f_return, f_no_st, f_st_then}
use Rattle.rebuild_model.proofs.Worked.{place, class, object, the_field, method, main, main_code, new}
use Rattle.rebuild_laws.proofs.looks.WorkedParts.{one_item, at_only, no_maker_m, no_maker_main, formed_m, formed_main}
use Rattle.java_meaning.proofs.Small.{Each, each_at, no_item, no_twice, one_once, once_each, differ, named, variable_name, formed_class, acyclic}

abbrev face : PlainClass
face = record { name = codes "A_0"; is_interface = true; is_abstract = false; parent = object; faces = []; tag = place 0 }

abbrev made : PlainClass
made = record { name = codes "A_1"; is_interface = false; is_abstract = false; parent = object; faces = record { 0 = 1 } ∷ []; tag = place 0 }

abbrev holder : PlainClass
holder = class (codes "Main") object 0

abbrev top : PlainClass
top = class (codes "Object") None 0

lower : (c : ℕ) → Each (λ (k : ClassId). k.0 < c) (supers_of new c)
lower zero = tt
lower (suc zero) = (omega arith, tt)
lower (suc (suc zero)) = (omega arith, (omega arith, tt))
lower (suc (suc (suc zero))) = (omega arith, tt)
lower (suc (suc (suc (suc c)))) = tt

formed_face : IsFormedClass new face
formed_face = formed_class new top refl refl face (named (codes "A_0") refl) refl refl refl (λ f h. no_item f h) (no_twice ClassId)

one_face : (f : ClassId) → Contains (record { 0 = 1 } ∷ []) f → (i : PlainClass) × (slice_get new.classes f.0 ≡ Some i) × (i.is_interface ≡ true)
one_face f (zero, lt, e) = (face, ap (slice_get new.classes) (sym (ap (λ (q : ClassId). q.0) e)), refl)
one_face f (suc i, lt, e) = absurd (omega (arith, lt))

formed_made : IsFormedClass new made
formed_made = formed_class new top refl refl made (named (codes "A_1") refl) refl refl refl one_face (one_once (record { 0 = 1 }))

formed_holder : IsFormedClass new holder
formed_holder = formed_class new top refl refl holder (named (codes "Main") refl) refl refl refl (λ f h. no_item f h) (no_twice ClassId)

formed_field : IsFormedField new (the_field 2)
formed_field = record {
  name = variable_name new (codes "f") (named (codes "f") refl) refl refl refl;
  type = tt;
  no_object = λ e. omega (arith, e);
  holder = made;
  stands = refl;
  class = refl;
}

abbrev body_m : Sts
body_m = st_then (return (place 0) (Some (field (place 0) (this (place 0)) (codes "f")))) no_st

abbrev head_m : PlainMethod
head_m = method 1 None

abbrev method_m : PlainMethod
method_m = method 2 (Some body_m)

abbrev method_main : PlainMethod
method_main = main 3 1 (main_code 2)

formed_body : (xs : Sts) → Some body_m ≡ Some xs → FormedSts new method_m false (numbers_below 0) xs
formed_body xs e = subst (λ z. FormedSts new method_m false (numbers_below 0) z) (same_Some _ _ e)
    (f_st_then (f_return (f_some (f_field (f_this refl) (named (codes "f") refl)))) f_no_st)

-- method n stands in class n + 1
owned : (m : ℕ) (k : PlainMethod) → slice_get new.methods m ≡ Some k → suc m ≡ k.owner
owned zero k e = ap (λ (z : PlainMethod). z.owner) (same_Some _ _ e)
owned (suc zero) k e = ap (λ (z : PlainMethod). z.owner) (same_Some _ _ e)
owned (suc (suc zero)) k e = ap (λ (z : PlainMethod). z.owner) (same_Some _ _ e)
owned (suc (suc (suc m))) k e = absurd (cc e)

one_method : (m n : ℕ) (h k : PlainMethod) → slice_get new.methods m ≡ Some h → slice_get new.methods n ≡ Some k → h.owner ≡ k.owner → m ≡ n
one_method m n h k e d o = let x = owned m h e in let y = owned n k d in omega (arith, x, y, o)

-- the two methods of the name m are of one slot
one_slot : (m n : ℕ) (h k : PlainMethod) → slice_get new.methods m ≡ Some h → slice_get new.methods n ≡ Some k → h.name ≡ k.name
    → (m ≡ n) ⊎ ((h.is_static ≡ false) × (h.slot ≡ k.slot))
one_slot m n h k e d x = go m n h k e d x
  where
    main_name : (h k : PlainMethod) → h.name ≡ codes "m" → Some method_main ≡ Some k → h.name ≡ k.name → ⊥
    main_name h k a b x = differ (codes "m") (codes "main") refl (sym a ∙ x ∙ sym (ap (λ (z : PlainMethod). z.name) (same_Some _ _ b)))

    is_m : (h k : PlainMethod) → Some h ≡ Some k → h.name ≡ codes "m" → k.name ≡ codes "m"
    is_m h k e n = sym (ap (λ (z : PlainMethod). z.name) (same_Some _ _ e)) ∙ n

    both : (a b h k : PlainMethod) → Some a ≡ Some h → Some b ≡ Some k → a.is_static ≡ false → a.slot ≡ b.slot → (h.is_static ≡ false) × (h.slot ≡ k.slot)
    both a b h k e d i s = (
      sym (ap (λ (z : PlainMethod). z.is_static) (same_Some _ _ e)) ∙ i,
      sym (ap (λ (z : PlainMethod). z.slot) (same_Some _ _ e))
          ∙ s ∙ ap (λ (z : PlainMethod). z.slot) (same_Some _ _ d),
    )

    go : (m n : ℕ) (h k : PlainMethod) → slice_get new.methods m ≡ Some h → slice_get new.methods n ≡ Some k → h.name ≡ k.name
        → (m ≡ n) ⊎ ((h.is_static ≡ false) × (h.slot ≡ k.slot))
    go zero zero h k e d x = inl refl
    go zero (suc zero) h k e d x = inr (both head_m method_m h k e d refl refl)
    go (suc zero) zero h k e d x = inr (both method_m head_m h k e d refl refl)
    go (suc zero) (suc zero) h k e d x = inl refl
    go (suc (suc zero)) (suc (suc zero)) h k e d x = inl refl
    go zero (suc (suc zero)) h k e d x = absurd (main_name h k (is_m head_m h e refl) d x)
    go (suc zero) (suc (suc zero)) h k e d x = absurd (main_name h k (is_m method_m h e refl) d x)
    go (suc (suc zero)) zero h k e d x = absurd (main_name k h (is_m head_m k d refl) e (sym x))
    go (suc (suc zero)) (suc zero) h k e d x = absurd (main_name k h (is_m method_m k d refl) e (sym x))
    go zero (suc (suc (suc n))) h k e d x = absurd (cc d)
    go (suc zero) (suc (suc (suc n))) h k e d x = absurd (cc d)
    go (suc (suc zero)) (suc (suc (suc n))) h k e d x = absurd (cc d)
    go (suc (suc (suc m))) n h k e d x = absurd (cc e)

-- no class has a constructor
pub none : (c : ℕ) → maker_of new c ≡ None
none zero = refl
none (suc zero) = refl
none (suc (suc zero)) = refl
none (suc (suc (suc zero))) = refl
none (suc (suc (suc (suc c)))) = refl

pub formed : IsFormed new
formed = record {
  object = record { object = top; first = refl; name = refl; class = refl; concrete = refl; parent = refl; faces = refl };
  classes = λ c k e. each_at (λ k. IsFormedClass new k) (face ∷ made ∷ holder ∷ []) c k (formed_face, (formed_made, (formed_holder, tt))) e;
  class_names = once_each (codes "Object" ∷ codes "A_0" ∷ codes "A_1" ∷ codes "Main" ∷ []) refl;
  acyclic = acyclic new lower;
  fields = λ f k e. each_at (λ k. IsFormedField new k) new.fields f k (formed_field, tt) e;
  field_names = λ f g h k e d o x. sym (one_item (the_field 2) f h e) ∙ one_item (the_field 2) g k d;
  methods = λ m k e. each_at (λ k. IsFormedMethod new k) new.methods m k (
    formed_m new (λ s. refl) 1 (λ e. omega (arith, e)) face refl None (λ e. refl) (λ e. refl) (λ xs e. absurd (cc e)),
    (
      formed_m new (λ s. refl) 2 (λ e. omega (arith, e)) made refl (Some body_m) (λ e. absurd (false≢true e)) (λ e. absurd (cc e)) formed_body,
      (formed_main new (λ s. refl) 3 (λ e. omega (arith, e)) holder refl 2 (omega arith) (omega arith) refl refl refl, tt),
    ),
  ) e;
  method_names = λ m n h k e d o x. one_method m n h k e d o;
  one_slot = λ c m n h k e d p q x. one_slot m n h k e d x;
  slots = at_only (IsFormedSlot new) _ (record { method = head_m; stands = refl; of = refl; least = λ m k d f. omega arith });
  makers = λ m k e i. absurd (each_at (λ k. IsMakerOf new k → ⊥) new.methods m k
      ((λ i. no_maker_m new 1 None i), ((λ i. no_maker_m new 2 (Some body_m) i), ((λ i. no_maker_main new 3 1 (main_code 2) i), tt))) e i);
  inherited = λ c b p h. absurd (false≢true (sym (ap is_some (none b.0)) ∙ h));
  numbered = one_once 0;
  main = method_main;
  main_stands = refl;
  main_is = record { static = refl; name = refl; params = refl; result = refl };
  main_first = λ m k e h. each_at (λ (k : PlainMethod). IsMain k → 3 ≤ k.owner) new.methods m k
      ((λ i. absurd (false≢true i.static)), ((λ i. absurd (false≢true i.static)), ((λ i. omega arith), tt))) e h;
  counted = record { classes = omega arith; fields = omega arith; methods = omega arith; slots = omega arith };
}
