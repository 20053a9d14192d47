-- What is found in the program of a sample: fields, methods and supertypes.
use Rattle.std.proofs.Common.{◌≡◌, ℕ, zero, suc, ◌+◌, ◌*◌, ◌<◌, ⊎_elim, Bool, true, false, List, [], ◌∷◌, ◌++◌, length, Option, Some, None, Contains, refl, sym, ap, ◌∙◌, subst, arith}
use Rattle.std.specs.Prelude.{◌==◌, ◌&&◌, not, slice_get, option_and_then}
use Rattle.std.specs.Option.{option_map, option_map_or, option_to_list, is_some}
use Rattle.std.specs.List.{list_any}
use Rattle.std.specs.Str.{bytes_eq}
use Rattle.std.proofs.lemmas.Bool.{false≢true, and_from, and_parts, or_left, eq-eqb}
use Rattle.std.proofs.lemmas.Option.{same_Some}
use Rattle.kaba_base.specs.declared.ClassId.{ClassId}
use Rattle.kaba_base.proofs.ListLemmas.{at_contains as at_contains}
use Rattle.kaba_base.proofs.Texts.{bytes_of}
use Rattle.java_core.specs.Programs.{Plain, PlainClass, PlainField, PlainMethod}
use Rattle.java_core.specs.Classes.{parent_of, supers_of, IsSubclass, IsProperSubclass, reaches, below, first_or, nearest_of, is_field_of, own_field_of, field_of, is_static_field, when_instance, if_instance, member_field, is_method_of, own_method, chain, search_order, first_found, declaration_of, slot_of_method, has_slot, own_declaration, nearest_declaration, super_method, has_body, is_interface, class_id}
use Rattle.java_core.specs.Makers.{maker_name, maker_of}
use Rattle.java_core.specs.Types.{a_value, class_type, types_of, Signature, signature_of_slot, signature_of_method, call_signature, super_signature, field_type, field_in, value_type, access_type}
use Rattle.java_core.proofs.Positions.{position-passes, passes-position}
use Rattle.java_core.proofs.Subclasses.{subclass_cases, below-subclass, nearest-here}
use Rattle.kaba_work.specs.Sample.{field_name, extra_name, method_name}
use Rattle.kaba_work.specs.Program.{int, class_made, main_class_made, field_made, method_made, main_made, sample_program}
use Rattle.kaba_work.proofs.Places.{StandsAt, is_row, is_last, stands, row_at, last_at, PairAt, is_first, is_second, pair_stands, first_at, second_at}

first_of_chain : (P : Plain) (f : ℕ → Option ℕ) (k c d : ℕ) (more : List ℕ) → f c ≡ Some d → first_found f (chain P k c ++ more) ≡ Some d
first_of_chain P f zero c d more e = ap (λ z. first_or z (first_found f more)) e
first_of_chain P f (suc k) c d more e = ap (λ z. first_or z (first_found f (option_map_or (λ p. chain P k p.0) (parent_of P c) [] ++ more))) e

reaches_self : (P : Plain) (k a : ℕ) → reaches P k a a ≡ true
reaches_self P zero a = eq-eqb a a refl
reaches_self P (suc k) a = or_left (a == a) (list_any (λ c. reaches P k c.0 a) (supers_of P a)) (eq-eqb a a refl)

pub below_self : (P : Plain) (a : ℕ) → below P a a ≡ true
unfolding below
below_self P a = reaches_self P (length P.classes) a

module _ (n : ℕ) where
  -- ---- classes

  pub class_stands : (i : ℕ) → i < n → slice_get (sample_program n).classes (suc i) ≡ Some (class_made i)
  unfolding sample_program
  class_stands i h = row_at class_made main_class_made n i h

  -- no class has a constructor: no method has the name of one
  pub none_made : (c : ℕ) → maker_of (sample_program n) c ≡ None
  unfolding sample_program
  none_made c = at (slice_get (sample_program n).classes c)
    where
      other : (x : List ℕ) (m : ℕ) (k : PlainMethod) → StandsAt method_made (main_made n) n m k → bytes_eq k.name (maker_name x) ≡ true → ⊥
      other x m k (is_row lt e) h = false≢true (sym (ap (λ (z : PlainMethod). bytes_eq z.name (maker_name x)) e) ∙ h)
      other x m k (is_last l e) h = false≢true (sym (ap (λ (z : PlainMethod). bytes_eq z.name (maker_name x)) e) ∙ h)

      found : (x : List ℕ) (o : Option ℕ) → own_method (sample_program n) c (maker_name x) ≡ o → o ≡ None
      found x None e = refl
      found x (Some m) e =
          let z = position-passes (λ k. is_method_of c (maker_name x) k) (sample_program n).methods m e in
          let w = and_parts (z.0.owner == c) (not z.0.is_static && bytes_eq z.0.name (maker_name x)) z.2 in
          absurd (other x m z.0 (stands method_made (main_made n) n m z.0 z.1) (and_parts (not z.0.is_static) (bytes_eq z.0.name (maker_name x)) w.1).1)

      at : (o : Option PlainClass) → option_and_then (λ k. own_method (sample_program n) c (maker_name k.name)) o ≡ None
      at None = refl
      at (Some k) = found k.name (own_method (sample_program n) c (maker_name k.name)) refl

  -- the supertypes of a class
  supers_are : (a : ℕ) (k : PlainClass) → slice_get (sample_program n).classes a ≡ Some k → supers_of (sample_program n) a ≡ option_to_list k.parent ++ k.faces
  supers_are a k e =
      ap (λ (o : Option PlainClass). option_to_list (option_and_then (λ (x : PlainClass). x.parent) o) ++ option_map_or (λ (x : PlainClass). x.faces) o []) e

  nothing_above_object : (b : ℕ) → IsProperSubclass (sample_program n) 0 b → ⊥
  unfolding sample_program
  nothing_above_object b h = let z : Contains [] h.by = h.direct in omega (arith, z.1)

  only_object_above_main : (b : ℕ) → IsProperSubclass (sample_program n) (suc n) b → b ≡ 0
  unfolding sample_program
  only_object_above_main b h =
      let c : Contains (class_id 0 ∷ []) h.by =
      subst (λ xs. Contains xs h.by) (supers_are (suc n) main_class_made (last_at class_made main_class_made n)) h.direct in
      let by : class_id 0 ≡ h.by = one (at_contains (class_id 0 ∷ []) h.by c) in
      let up : IsSubclass (sample_program n) 0 b = subst (λ (z : ClassId). IsSubclass (sample_program n) z.0 b) (sym by) h.rest in
      ⊎_elim (λ e. sym e) (λ p. absurd (nothing_above_object b p)) (subclass_cases (sample_program n) up)
    where
      one : {x : ClassId} → (i : ℕ) × (slice_get (class_id 0 ∷ []) i ≡ Some x) → class_id 0 ≡ x
      one (zero, e) = same_Some _ _ e
      one (suc i, e) = absurd (cc e)

  -- no class of the chain is above Object or the main class
  pub chain_not_above_object : (j : ℕ) → below (sample_program n) 0 (suc j) ≡ true → ⊥
  chain_not_above_object j h =
      ⊎_elim (λ e. cc e) (λ p. nothing_above_object (suc j) p) (subclass_cases (sample_program n) (below-subclass (sample_program n) 0 (suc j) h))

  pub chain_not_above_main : (j : ℕ) → j < n → below (sample_program n) (suc n) (suc j) ≡ true → ⊥
  chain_not_above_main j lt h =
      ⊎_elim (λ e. omega (arith, e, lt)) (λ p. let z = only_object_above_main (suc j) p in cc z)
      (subclass_cases (sample_program n) (below-subclass (sample_program n) (suc n) (suc j) h))

  -- ---- fields

  pub record FieldFound (i : ℕ) (x : List ℕ) : Type 0 where
    pub number : ℕ
    pub found : member_field (sample_program n) (suc i) x ≡ Some number
    pub type : field_type (sample_program n) number ≡ Some int

  made : (j : ℕ) (k : PlainField) → slice_get (sample_program n).fields j ≡ Some k → (k.is_static ≡ false) × (k.ty ≡ int)
  unfolding sample_program
  made j k e = at (pair_stands (λ i. field_made i (field_name i)) (λ i. field_made i (extra_name i)) n j k e)
    where
      at : PairAt (λ i. field_made i (field_name i)) (λ i. field_made i (extra_name i)) n j k → (k.is_static ≡ false) × (k.ty ≡ int)
      at (is_first i lt l s) = (ap (λ (z : PlainField). z.is_static) s, ap (λ (z : PlainField). z.ty) s)
      at (is_second i lt l s) = (ap (λ (z : PlainField). z.is_static) s, ap (λ (z : PlainField). z.ty) s)

  found_at : (i j : ℕ) (x : List ℕ) → slice_get (sample_program n).fields j ≡ Some (field_made i x) → FieldFound i x
  unfolding member_field field_of
  found_at i j x e =
      let P = sample_program n in
      let own = λ (k : ℕ). own_field_of P k x in
      let z =
      passes-position (λ f. is_field_of (suc i) x f) P.fields j (field_made i x) e
      (and_from (suc i == suc i) (bytes_eq x x) (eq-eqb (suc i) (suc i) refl) (bytes_of x x refl)) in
      let k = position-passes (λ f. is_field_of (suc i) x f) P.fields z.0 z.1 in
      let m = made z.0 k.0 k.1 in
      let static : is_static_field P z.0 ≡ false = ap (λ o. option_map_or (λ (f : PlainField). f.is_static) o false) k.1 ∙ m.0 in
      record {
        number = z.0;
        found = ap (when_instance P) (nearest-here P own (length P.classes) (suc i) z.0 z.1) ∙ ap (if_instance z.0) static;
        type = ap (option_map (λ (f : PlainField). f.ty)) k.1 ∙ ap Some m.1;
      }

  pub field_found : (i : ℕ) → i < n → FieldFound i (field_name i)
  unfolding sample_program
  field_found i h = found_at i (2 * i) (field_name i) (first_at (λ k. field_made k (field_name k)) (λ k. field_made k (extra_name k)) n i h)

  pub extra_found : (i : ℕ) → i < n → FieldFound i (extra_name i)
  unfolding sample_program
  extra_found i h = found_at i (2 * i + 1) (extra_name i) (second_at (λ k. field_made k (field_name k)) (λ k. field_made k (extra_name k)) n i h)

  -- a field that is found is a value of its type
  pub field_there : (i : ℕ) (x : List ℕ) → FieldFound i x → is_some (field_in (sample_program n) (a_value (class_type (suc i))) x) ≡ true
  unfolding field_in
  field_there i x f = ap is_some f.found

  pub value_is : (i : ℕ) (x : List ℕ) → FieldFound i x → value_type (sample_program n) (a_value (class_type (suc i))) x ≡ Some int
  unfolding field_in
  value_is i x f = ap (option_and_then (field_type (sample_program n))) f.found ∙ f.type

  pub access_is : (i : ℕ) (x : List ℕ) → FieldFound i x → access_type (sample_program n) (a_value (class_type (suc i))) x ≡ Some int
  unfolding access_type
  access_is i x f = value_is i x f

  -- ---- methods

  -- the method m is the one of a class of the chain
  pub record IsMade (m : ℕ) : Type 0 where
    pub number : ℕ
    pub below_all : number < n
    pub stands : slice_get (sample_program n).methods m ≡ Some (method_made number)

  -- one that passes a test that main does not
  chosen : (p : PlainMethod → Bool) (m : ℕ) (k : PlainMethod) → p (main_made n) ≡ false → slice_get (sample_program n).methods m ≡ Some k → p k ≡ true
      → IsMade m
  unfolding sample_program
  chosen p m k not_main e h = at (stands method_made (main_made n) n m k e)
    where
      at : StandsAt method_made (main_made n) n m k → IsMade m
      at (is_row lt s) = record { number = m; below_all = lt; stands = e ∙ ap Some s }
      at (is_last l s) = absurd (false≢true (sym not_main ∙ ap p (sym s) ∙ h))

  pub method_row : (i : ℕ) → i < n → slice_get (sample_program n).methods i ≡ Some (method_made i)
  unfolding sample_program
  method_row i h = row_at method_made (main_made n) n i h

  pub record MethodFound (i : ℕ) : Type 0 where
    pub number : ℕ
    pub made : IsMade number
    pub own : own_method (sample_program n) (suc i) method_name ≡ Some number

  pub method_found : (i : ℕ) → i < n → MethodFound i
  method_found i h =
      let P = sample_program n in
      let test = λ (m : PlainMethod). is_method_of (suc i) method_name m in
      let z = passes-position test P.methods i (method_made i) (method_row i h) (and_from (suc i == suc i) true (eq-eqb (suc i) (suc i) refl) refl) in
      let k = position-passes test P.methods z.0 z.1 in
      record { number = z.0; made = chosen test z.0 k.0 (none (suc n == suc i)) k.1 k.2; own = z.1 }
    where
      none : (b : Bool) → (b && false) ≡ false
      none true = refl
      none false = refl

  -- what the method gives
  abbrev pub gives : Signature
  gives = record { params = []; result = Some int }

  pub made_body : (m : ℕ) → IsMade m → has_body (sample_program n) m ≡ true
  made_body m k = ap (λ o. option_map_or (λ (x : PlainMethod). is_some x.body) o false) k.stands

  made_signature : (m : ℕ) → IsMade m → signature_of_method (sample_program n) m ≡ Some gives
  made_signature m k = ap (option_map (λ (x : PlainMethod). let s : Signature = record { params = types_of x.params; result = x.result } in s)) k.stands

  made_slot : (m : ℕ) → IsMade m → slot_of_method (sample_program n) m ≡ Some 0
  made_slot m k = ap (option_and_then (λ (x : PlainMethod). x.slot)) k.stands

  slot_signature : signature_of_slot (sample_program n) 0 ≡ Some gives
  unfolding sample_program
  slot_signature = refl

  -- a call on an object of a class of the chain
  pub call_is : (i : ℕ) → i < n → call_signature (sample_program n) (a_value (class_type (suc i))) method_name ≡ Some gives
  unfolding call_signature declaration_of search_order
  call_is i h =
      let P = sample_program n in
      let f = method_found i h in
      ap (λ o. option_and_then (signature_of_slot P) (option_and_then (slot_of_method P) o))
      (first_of_chain P (λ k. own_method P k method_name) (length P.classes) (suc i) f.number _ f.own)
      ∙ ap (option_and_then (signature_of_slot P)) (made_slot f.number f.made) ∙ slot_signature

  -- a call of what the class above does
  pub record SuperFound (i : ℕ) : Type 0 where
    pub number : ℕ
    pub found : super_method (sample_program n) (suc (suc i)) method_name ≡ Some number
    pub body : has_body (sample_program n) number ≡ true
    pub signature : super_signature (sample_program n) (suc (suc i)) method_name ≡ Some gives

  pub super_found : (i : ℕ) → suc i < n → SuperFound i
  unfolding super_method super_signature
  super_found i h =
      let P = sample_program n in
      let f = method_found i (omega (arith, h)) in
      let parent : parent_of P (suc (suc i)) ≡ Some (class_id (suc i)) = ap (option_and_then (λ (k : PlainClass). k.parent)) (class_stands (suc i) h) in
      let own = λ (k : ℕ). own_method P k method_name in
      let found : super_method P (suc (suc i)) method_name ≡ Some f.number =
      ap (option_and_then (λ (p : ClassId). nearest_of P own p.0)) parent ∙ nearest-here P own (length P.classes) (suc i) f.number f.own in
      record {
        number = f.number;
        found = found;
        body = made_body f.number f.made;
        signature = ap (option_and_then (signature_of_method P)) found
            ∙ made_signature f.number f.made;
      }

  -- the declaration of the slot nearest to a class of the chain
  pub declaration_found : (i : ℕ) → i < n → (d : ℕ) × (nearest_declaration (sample_program n) (suc i) 0 ≡ Some d) × (has_body (sample_program n) d ≡ true)
  unfolding nearest_declaration
  declaration_found i h =
      let P = sample_program n in
      let test = λ (m : PlainMethod). has_slot (suc i) 0 m in
      let z = passes-position test P.methods i (method_made i) (method_row i h) (and_from (suc i == suc i) true (eq-eqb (suc i) (suc i) refl) refl) in
      let k = position-passes test P.methods z.0 z.1 in (
        z.0,
        nearest-here P (λ c. own_declaration P c 0) (length P.classes) (suc i) z.0 z.1,
        made_body z.0
            (chosen test z.0 k.0 (none (suc n == suc i)) k.1 k.2),
      )
    where
      none : (b : Bool) → (b && false) ≡ false
      none true = refl
      none false = refl

  -- no class is an interface
  pub no_interface : (i : ℕ) → i < n → is_interface (sample_program n) (suc i) ≡ false
  no_interface i h = ap (λ o. option_map_or (λ (k : PlainClass). k.is_interface) o false) (class_stands i h)
