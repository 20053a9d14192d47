-- What a program finds for a class by a name, and the types of String's methods.
use Rattle.std.proofs.Common.{◌≡◌, ℕ, zero, suc, List, Option, Some, None, refl, sym, ap, ◌∙◌, subst}
use Rattle.std.specs.Prelude.{if◌then◌else◌, Bool, true, false, slice_get}
use Rattle.std.specs.Option.{option_map, option_map_or, option_and_then, is_some}
use Rattle.std.proofs.lemmas.Option.{same_Some}
use Rattle.std.proofs.lemmas.Bool.{false≢true}
use Rattle.java_core.specs.declared.Ty.{Ty}
use Rattle.java_core.specs.declared.TyBase.TheVariants.{Int}
use Rattle.java_core.specs.Programs.{Plain, PlainField}
use Rattle.java_core.specs.Classes.{member_field, field_of, is_static_field, if_instance, when_instance, slot_of, super_method}
use Rattle.java_core.specs.Types.{Static, or_nothing, plain_type, is_length, class_of, element_of, is_string, length_or, field_type, value_type, field_in, access_type, string_method, StringMethod, LengthOf, CharAt, Equals, string_params, string_result, signature_of_string, object_signature, Signature, signature_of_slot, signature_of_method, call_signature, super_signature}
use Rattle.flow_rules.specs.Operands.{object_of}
use Rattle.flow_laws.proofs.cover.Types.{class_apart}
use Rattle.rebuild_model.specs.Renaming.{retyped, retyped_if}
use Rattle.rebuild_model.proofs.Reclassed.{reclassed_plain}
use Rattle.rebuild_laws.proofs.types.Retyped.{retyped_static, HasClass}
use Rattle.rebuild_laws.proofs.types.Asked.{retypes}

-- what a program finds by a class
module _ (P : Plain) where
  pub field_class : (s : Static) (x : List ℕ) (f : ℕ) → field_in P s x ≡ Some f → (c : ℕ) × (class_of s ≡ Some c)
  unfolding field_in
  field_class s x f e = go (class_of s) refl e
    where
      go : (z : Option ℕ) → class_of s ≡ z → option_and_then (λ c. member_field P c x) z ≡ Some f → (c : ℕ) × (class_of s ≡ Some c)
      go None h e = absurd (cc)
      go (Some c) h e = (c, h)

  pub access_found : (s : Static) (x : List ℕ) (f : ℕ) → field_in P s x ≡ Some f → access_type P s x ≡ field_type P f
  unfolding access_type
  access_found s x f e =
      let c = field_class s x f e in
      ap (λ z. length_or z (value_type P s x) x) (class_apart s c.0 c.1).0 ∙ ap (λ z. option_and_then (field_type P) z) e

  pub field_at : (s : Static) (c : ℕ) (x : List ℕ) (f : ℕ) → class_of s ≡ Some c → member_field P c x ≡ Some f → field_in P s x ≡ Some f
  unfolding field_in
  field_at s c x f h e = ap (λ z. option_and_then (λ c. member_field P c x) z) h ∙ e

  pub instance_at : (c : ℕ) (x : List ℕ) (f : ℕ) → member_field P c x ≡ Some f → is_static_field P f ≡ false
  unfolding member_field
  instance_at c x f e = go (field_of P c x) e
    where
      by_kind : (y : ℕ) (b : Bool) → is_static_field P y ≡ b → if_instance y b ≡ Some f → is_static_field P f ≡ false
      by_kind y true d e = absurd (cc)
      by_kind y false d e = ap (is_static_field P) (sym (same_Some y f e)) ∙ d

      go : (z : Option ℕ) → when_instance P z ≡ Some f → is_static_field P f ≡ false
      go None e = absurd (cc)
      go (Some y) e = by_kind y (is_static_field P y) refl e

  -- what is found is an instance field
  pub found_instance : (s : Static) (x : List ℕ) (f : ℕ) → field_in P s x ≡ Some f → is_some (field_type P f) ≡ true
      → (w : PlainField) × (slice_get P.fields f ≡ Some w) × (w.is_static ≡ false)
  unfolding field_in
  found_instance s x f e some =
      let c = field_class s x f e in
      go (slice_get P.fields f) refl some (instance_at c.0 x f (sym (ap (λ z. option_and_then (λ c. member_field P c x) z) c.1) ∙ e))
    where
      go : (z : Option PlainField) → slice_get P.fields f ≡ z → is_some (option_map (λ (k : PlainField). k.ty) z) ≡ true
          → is_static_field P f ≡ false → (w : PlainField) × (slice_get P.fields f ≡ Some w) × (w.is_static ≡ false)
      go None d k i = absurd (false≢true k)
      go (Some w) d k i = (w, d, sym (ap (λ z. option_map_or (λ (k : PlainField). k.is_static) z false) d) ∙ i)

  -- of an array only its length is read
  pub length_type : (s : Static) (x : List ℕ) → is_some (element_of s) ≡ true → is_some (access_type P s x) ≡ true
      → access_type P s x ≡ Some (plain_type Int)
  unfolding access_type
  length_type s x e h = go (element_of s) refl e
    where
      by_name : (b : Bool) → is_length x ≡ b → is_some (if is_length x then Some (plain_type Int) else None) ≡ true
          → (if is_length x then Some (plain_type Int) else None) ≡ Some (plain_type Int)
      by_name true d w = ap (λ b. if b then Some (plain_type Int) else None) d
      by_name false d w = absurd (false≢true (sym (ap (λ b. is_some (if b then Some (plain_type Int) else None)) d) ∙ w))

      go : (z : Option Ty) → element_of s ≡ z → is_some z ≡ true → length_or (element_of s) (value_type P s x) x ≡ Some (plain_type Int)
      go None d w = absurd (false≢true w)
      go (Some u) d w =
          ap (λ z. length_or z (value_type P s x) x) d ∙ by_name (is_length x) refl (sym (ap (λ z. is_some (length_or z (value_type P s x) x)) d) ∙ h)

  pub length_there : (s : Static) (x : List ℕ) → is_some (element_of s) ≡ true → is_length x ≡ true → access_type P s x ≡ Some (plain_type Int)
  unfolding access_type
  length_there s x e h = go (element_of s) refl e
    where
      go : (z : Option Ty) → element_of s ≡ z → is_some z ≡ true → length_or (element_of s) (value_type P s x) x ≡ Some (plain_type Int)
      go None d w = absurd (false≢true w)
      go (Some u) d w = ap (λ z. length_or z (value_type P s x) x) d ∙ ap (λ b. if b then Some (plain_type Int) else None) h

  pub is_its_length : (s : Static) (x : List ℕ) → is_some (element_of s) ≡ true → is_some (access_type P s x) ≡ true → is_length x ≡ true
  unfolding access_type
  is_its_length s x e h = go (element_of s) refl e
    where
      by_name : (b : Bool) → is_length x ≡ b → is_some (if is_length x then Some (plain_type Int) else None) ≡ true → is_length x ≡ true
      by_name true d w = d
      by_name false d w = absurd (false≢true (sym (ap (λ b. is_some (if b then Some (plain_type Int) else None)) d) ∙ w))

      go : (z : Option Ty) → element_of s ≡ z → is_some z ≡ true → is_length x ≡ true
      go None d w = absurd (false≢true w)
      go (Some u) d w = by_name (is_length x) refl (sym (ap (λ z. is_some (length_or z (value_type P s x) x)) d) ∙ h)

  pub called_at : (s : Static) (c : ℕ) (x : List ℕ) (j : ℕ) (sig : Signature) → class_of s ≡ Some c → slot_of P c x ≡ Some j
      → signature_of_slot P j ≡ Some sig → call_signature P s x ≡ Some sig
  unfolding call_signature
  called_at s c x j sig h e d =
      ap (λ b. if b then option_map signature_of_string (string_method x) else object_signature P (class_of s) x) (class_apart s c h).1
      ∙ ap (λ z. object_signature P z x) h ∙ ap (λ z. option_and_then (signature_of_slot P) z) e ∙ d

  pub string_called : (s : Static) (x : List ℕ) → is_string s ≡ true → call_signature P s x ≡ option_map signature_of_string (string_method x)
  unfolding call_signature
  string_called s x h = ap (λ b. if b then option_map signature_of_string (string_method x) else object_signature P (class_of s) x) h

  pub super_called : (c : ℕ) (x : List ℕ) (d : ℕ) → super_method P c x ≡ Some d → super_signature P c x ≡ signature_of_method P d
  unfolding super_signature
  super_called c x d h = ap (λ z. option_and_then (signature_of_method P) z) h

-- the parameters and the result of a method of String have no class
pub string_plain : (m : StringMethod) → (retypes (λ i. None) (string_params m) ≡ string_params m)
    × (retyped_if None (Some (string_result m)) ≡ Some (string_result m))
string_plain LengthOf = (refl, refl)
string_plain CharAt = (refl, refl)
string_plain Equals = (refl, refl)

pub string_classless : (m : StringMethod) (i : ℕ) (u : Ty) → slice_get (string_params m) i ≡ Some u → (k : Option ℕ) → HasClass (object_of u) k
string_classless LengthOf i u e k = absurd (cc)
string_classless CharAt zero u e k = subst (λ z. HasClass (object_of z) k) (same_Some (plain_type _) u e) (λ o h. absurd (cc))
string_classless CharAt (suc i) u e k = absurd (cc)
string_classless Equals zero u e k = subst (λ z. HasClass (object_of z) k) (same_Some (plain_type _) u e) (λ o h. absurd (cc))
string_classless Equals (suc i) u e k = absurd (cc)

pub string_found : (o : Option StringMethod) (sig : Signature) → option_map signature_of_string o ≡ Some sig
    → (m : StringMethod) × (o ≡ Some m) × (signature_of_string m ≡ sig)
string_found None sig e = absurd (cc)
string_found (Some m) sig e = (m, refl, same_Some (signature_of_string m) sig e)

pub retyped_string : (k : Option ℕ) (m : StringMethod) → or_nothing (Some (string_result m)) ≡ retyped_static k (or_nothing (Some (string_result m)))
retyped_string k LengthOf = rw (reclassed_plain k Int refl) refl
retyped_string None CharAt = refl
retyped_string (Some k) CharAt = refl
retyped_string None Equals = refl
retyped_string (Some k) Equals = refl

pub plain_kept : (k : Option ℕ) → retyped k (plain_type Int) ≡ plain_type Int
plain_kept None = refl
plain_kept (Some k) = refl
