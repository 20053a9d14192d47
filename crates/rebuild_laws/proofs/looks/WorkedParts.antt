-- What the worked program and the one over the worked hierarchy have alike: classes below Object, methods m of slot 0, and main.
use Rattle.std.proofs.Common.{◌≡◌, ◌≢◌, ℕ, zero, suc, ◌<◌, ◌||◌, List, [], ◌∷◌, ◌++◌, length, Option, Some, None, Contains, refl, sym, ap, ◌∙◌, subst, inl, arith}
use Rattle.std.specs.Prelude.{true, false, codes, slice_get}
use Rattle.std.specs.List.{list_any}
use Rattle.std.specs.Str.{bytes_eq}
use Rattle.std.proofs.lemmas.Bool.{false≢true}
use Rattle.std.proofs.lemmas.Option.{same_Some}
use Rattle.java_core.specs.Trees.{Sts}
use Rattle.java_core.specs.Programs.{Plain, PlainClass, PlainLocal}
use Rattle.java_core.specs.Makers.{maker_name, IsMakerOf}
use Rattle.java_core.specs.Formed.{IsFormedLocal, IsFormedMethod, IsInSlot, FormedSts, numbers_below, f_some, f_no_st, f_st_then, f_declare, f_create, f_no_ex, f_act, f_call, f_local}
use Rattle.rebuild_model.proofs.Worked.{place, object_of, method, main, slot, main_code}
use Rattle.java_meaning.proofs.Small.{each_in, no_item, no_twice, one_once, differ, named, variable_name, other_name}

-- only one field is there, and only slot 0
pub one_item : {A : Type 0} (a : A) (i : ℕ) (x : A) → slice_get (a ∷ []) i ≡ Some x → 0 ≡ i
one_item a zero x e = refl
one_item a (suc i) x e = absurd (cc e)

-- what holds of it at 0 holds of what stands there
pub at_only : {A : Type 0} (P : ℕ → A → Type 0) (a : A) → P 0 a → (i : ℕ) (x : A) → slice_get (a ∷ []) i ≡ Some x → P i x
at_only P a h zero x e = subst (P 0) (same_Some a x e) h
at_only P a h (suc i) x e = absurd (cc e)

-- no method is a constructor
pub no_maker_m : (A : Plain) (owner : ℕ) (b : Option Sts) → IsMakerOf A (method owner b) → ⊥
no_maker_m A owner b i = differ (codes "m") (maker_name i.class.name) refl i.name

pub no_maker_main : (A : Plain) (owner kept : ℕ) (code : Sts) → IsMakerOf A (main owner kept code) → ⊥
no_maker_main A owner kept code i = differ (codes "main") (maker_name i.class.name) refl i.name

module _ (A : Plain) (slots : (s : ℕ) → slice_get A.slots s ≡ slice_get (slot ∷ []) s) (owner : ℕ) (own : owner ≢ 0) (holder : PlainClass)
    (stands : slice_get A.classes owner ≡ Some holder) where
  pub formed_m : (b : Option Sts) → (holder.is_interface ≡ true → b ≡ None) → (b ≡ None → holder.is_interface || holder.is_abstract ≡ true)
      → ((xs : Sts) → b ≡ Some xs → FormedSts A (method owner b) false (numbers_below 0) xs) → IsFormedMethod A (method owner b)
  formed_m b face bare code = record {
    name = inl (named (codes "m") refl);
    variables = λ v h. no_item v h;
    params = no_twice (List ℕ);
    result = tt;
    no_object = own;
    holder = holder;
    stands = stands;
    in_interface = λ e. (refl, face e);
    bodyless = λ e. (refl, bare e);
    code = code;
    slotted = λ e. (0, refl);
    slots = λ s. (
      λ e. subst (λ z. IsInSlot A z (method owner b)) (same_Some _ _ e)
          (record { slot = slot; stands = slots 0; instance = refl; name = refl; params = refl; result = refl }),
      λ i. ap Some (one_item slot s i.slot (sym (slots s) ∙ i.stands)),
    );
  }

  -- main makes an object of the class made, which is known as one of class 1
  module _ (made : ℕ) (known : 1 < length A.classes) (makes : made < length A.classes)
      (x_apart : list_any (λ (k : PlainClass). bytes_eq k.name (codes "x")) A.classes ≡ false)
      (args_apart : list_any (λ (k : PlainClass). bytes_eq k.name (codes "args")) A.classes ≡ false) (concrete : holder.is_interface ≡ false) where
    abbrev variables : List PlainLocal
    variables = (main owner 1 (main_code made)).params ++ (main owner 1 (main_code made)).locals

    formed_local : (v : PlainLocal) → Contains variables v → IsFormedLocal A v
    formed_local v h =
        each_in (λ v. IsFormedLocal A v) variables v (
          record { name = variable_name A (codes "args") (named (codes "args") refl) args_apart refl refl; type = tt },
          (record { name = variable_name A (codes "x") (named (codes "x") refl) x_apart refl refl; type = known }, tt),
        ) h

    formed_code : FormedSts A (main owner 1 (main_code made)) false (numbers_below 1) (main_code made)
    formed_code =
        f_st_then (f_declare (record {
          variable = record { name = codes "x"; ty = object_of 1; tag = place 50 };
          declared = refl;
          no_parameter = omega arith;
          other = other_name variables _ (codes "x") refl refl;
        }) (f_some (f_create makes f_no_ex)))
        (f_st_then (f_act refl (f_call (f_local (0, omega arith, refl) (omega arith)) (inl (named (codes "m") refl)) f_no_ex)) f_no_st)

    pub formed_main : IsFormedMethod A (main owner 1 (main_code made))
    formed_main = record {
      name = inl (named (codes "main") refl);
      variables = formed_local;
      params = one_once (codes "args");
      result = tt;
      no_object = own;
      holder = holder;
      stands = stands;
      in_interface = λ e. absurd (false≢true (sym concrete ∙ e));
      bodyless = λ e. absurd (cc e);
      code = λ xs e. subst (λ z. FormedSts A (main owner 1 (main_code made)) false (numbers_below 1) z) (same_Some _ _ e) formed_code;
      slotted = λ e. absurd (false≢true (sym e));
      slots = λ s. (λ e. absurd (cc e), λ i. absurd (false≢true (sym i.instance)));
    }
