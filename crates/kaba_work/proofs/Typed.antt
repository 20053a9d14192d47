-- The program of a sample is typed.
use Rattle.std.proofs.Common.{◌≡◌, ℕ, zero, suc, ◌+◌, ◌<◌, ◌≤◌, true, false, List, map, Some, refl, sym, ap, ◌∙◌, subst, arith}
use Rattle.std.specs.Prelude.{◌&&◌, ◌||◌, not, pos, slice_get}
use Rattle.std.specs.Option.{option_map, option_map_or, is_some}
use Rattle.std.specs.List.{range_with_len}
use Rattle.std.proofs.lemmas.Bool.{false≢true, or_left}
use Rattle.std.proofs.lemmas.Option.{same_Some, slice_get-map}
use Rattle.java_core.specs.declared.Op.TheVariants as op
use Rattle.java_core.specs.declared.BinOp.TheVariants as bin
use Rattle.java_core.specs.Trees.{Ex, no_ex, number, this, field, call, super_call, to_field}
use Rattle.java_core.specs.Programs.{Plain, PlainClass, PlainMethod, PlainLocal}
use Rattle.java_core.specs.Classes.{below, is_interface, is_concrete, nearest_declaration}
use Rattle.java_core.specs.Types.{Static, a_value, Env, env_of, class_type, or_nothing, is_printable, fits, fits_in, call_signature, result_of, value_type, access_type, field_in, static, target_type, is_string, sum_type}
use Rattle.java_core.specs.Typing.{Typed, TypedTarget, TypedSts, t_number, t_this, t_local, t_field, t_call, t_super_call, t_create, t_binary, t_no_ex, t_to_field, t_declare_as, t_assign, t_print, t_return, t_no_st, t_st_then, takes_two, Offers, HasBodies, HasPublicMethods, IsTypedClass, IsTypedMethod, IsTyped}
use Rattle.kaba_work.specs.Sample.{field_name, extra_name, method_name}
use Rattle.kaba_work.specs.Program.{tag, int, class_made, main_class_made, own_made, sum_made, total_made, body_made, method_made, variable_made, extra_made, main_body_made, local_made, main_made, sample_program}
use Rattle.kaba_work.proofs.Places.{StandsAt, is_row, is_last, stands, mapped_at}
use Rattle.kaba_work.proofs.Found.{below_self, none_made, class_stands, chain_not_above_object, chain_not_above_main, FieldFound, field_found, extra_found, field_there, value_is, access_is, call_is, super_found, declaration_found, no_interface}

abbrev number_value : Static
number_value = a_value int

-- ---- forms whose parts give numbers

module _ (P : Plain) (g : Env) where
  sum_static : (e d : Ex) → static P g e ≡ number_value → static P g d ≡ number_value → static P g (sum_made e d) ≡ number_value
  sum_static e d h k =
      ap (λ s. a_value (sum_type (is_string s || is_string (static P g d)))) h ∙ ap (λ s. a_value (sum_type (is_string number_value || is_string s))) k

  sum_typed : (e d : Ex) → Typed P g e → Typed P g d → static P g e ≡ number_value → static P g d ≡ number_value → Typed P g (sum_made e d)
  sum_typed e d te td h k =
      t_binary te td (ap (λ s. takes_two P (bin.Int op.Plus) s (static P g d)) h ∙ ap (λ s. takes_two P (bin.Int op.Plus) number_value s) k)

  numbers_fit : (s t : Static) → s ≡ number_value → t ≡ number_value → fits_in P s t ≡ true
  numbers_fit s t h k = ap (λ x. fits_in P x t) h ∙ ap (λ x. fits_in P number_value x) k

module _ (n : ℕ) where
  abbrev P : Plain
  P = sample_program n

  -- ---- a field of an object of a class of the chain

  module _ (g : Env) (i : ℕ) (e : Ex) (te : Typed (sample_program n) g e) (se : static (sample_program n) g e ≡ a_value (class_type (suc i))) (x : List ℕ)
      (f : FieldFound n i x) where
    access_static : static (sample_program n) g (field tag e x) ≡ number_value
    access_static = ap (λ s. or_nothing (access_type (sample_program n) s x)) se ∙ ap or_nothing (access_is n i x f)

    access_typed : Typed (sample_program n) g (field tag e x)
    access_typed = t_field te (ap (λ s. is_some (access_type (sample_program n) s x)) se ∙ ap is_some (access_is n i x f))

    target_typed : TypedTarget (sample_program n) g (to_field tag e x)
    target_typed = t_to_field te (ap (λ s. is_some (field_in (sample_program n) s x)) se ∙ field_there n i x f)

    target_static : target_type (sample_program n) g (to_field tag e x) ≡ number_value
    target_static = ap (λ s. or_nothing (value_type (sample_program n) s x)) se ∙ ap or_nothing (value_is n i x f)

  -- ---- the method of a class

  total_static : (m i : ℕ) → i < n → static P (env_of m (method_made i)) (total_made i) ≡ number_value
  total_static m zero h = access_static (env_of m (method_made 0)) 0 (this tag) t_this refl (field_name 0) (field_found n 0 h)
  total_static m (suc i) h =
      let g = env_of m (method_made (suc i)) in
      let above = super_found n i h in
      sum_static P g (super_call tag method_name no_ex) (own_made (field_name (suc i))) (ap result_of above.signature)
      (access_static g (suc i) (this tag) t_this refl (field_name (suc i)) (field_found n (suc i) h))

  total_typed : (m i : ℕ) → i < n → Typed P (env_of m (method_made i)) (total_made i)
  total_typed m zero h = access_typed (env_of m (method_made 0)) 0 (this tag) t_this refl (field_name 0) (field_found n 0 h)
  total_typed m (suc i) h =
      let g = env_of m (method_made (suc i)) in
      let above = super_found n i h in
      let f = field_found n (suc i) h in
      sum_typed P g (super_call tag method_name no_ex) (own_made (field_name (suc i))) (t_super_call above.found above.body above.signature t_no_ex)
      (access_typed g (suc i) (this tag) t_this refl (field_name (suc i)) f) (ap result_of above.signature)
      (access_static g (suc i) (this tag) t_this refl (field_name (suc i)) f)

  body_typed : (m i : ℕ) → i < n → TypedSts P (env_of m (method_made i)) (body_made i)
  body_typed m i h =
      let g = env_of m (method_made i) in
      let f = field_found n i h in
      let own = access_static g i (this tag) t_this refl (field_name i) f in
      let sum : Typed P g (sum_made (own_made (field_name i)) (number tag (pos (i + 1)))) =
      sum_typed P g (own_made (field_name i)) (number tag (pos (i + 1))) (access_typed g i (this tag) t_this refl (field_name i) f) t_number own refl in
      t_st_then
      (t_assign (target_typed g i (this tag) t_this refl (field_name i) f) sum
      (numbers_fit P g _ _ (sum_static P g (own_made (field_name i)) (number tag (pos (i + 1))) own refl)
      (target_static g i (this tag) t_this refl (field_name i) f)))
      (t_st_then (t_return (total_typed m i h) refl (ap (λ s. fits P s int) (total_static m i h))) t_no_st)

  -- ---- main

  module _ (m : ℕ) where
    abbrev G : Env
    G = env_of m (main_made n)

    variable_type : (i : ℕ) → i < n → slice_get (env_of m (main_made n)).locals (suc i) ≡ Some (class_type (suc i))
    variable_type i h =
        slice_get-map (λ (l : PlainLocal). l.ty) (map local_made (range_with_len 0 n)) i
        ∙ ap (option_map (λ (l : PlainLocal). l.ty)) (mapped_at local_made n i h)

    concrete : (i : ℕ) → i < n → is_concrete P (suc i) ≡ true
    concrete i h = ap (λ o. option_map_or (λ (k : PlainClass). not k.is_interface && not k.is_abstract) o false) (class_stands n i h)

    object_fits : (i : ℕ) → fits P (a_value (class_type (suc i))) (class_type (suc i)) ≡ true
    object_fits i = or_left (below P (suc i) (suc i)) false (below_self P (suc i))

    steps_typed : (a k : ℕ) → a + k ≤ n → TypedSts P (env_of m (main_made n)) (main_body_made (range_with_len a k))
    steps_typed a zero h = t_no_st
    steps_typed a (suc k) h =
        let lt : a < n = omega (arith, h) in
        let v : static P (env_of m (main_made n)) (variable_made a) ≡ a_value (class_type (suc a)) = ap or_nothing (variable_type a lt) in
        let f = extra_found n a lt in
        let signature = ap (λ s. call_signature P s method_name) v ∙ call_is n a lt in
        let e = access_static G a (variable_made a) t_local v (extra_name a) f in
        let sum =
        sum_typed P G (call tag (variable_made a) method_name no_ex) (extra_made a) (t_call t_local signature t_no_ex)
        (access_typed G a (variable_made a) t_local v (extra_name a) f)
        (ap result_of signature) e in
        let value = sum_static P G (call tag (variable_made a) method_name no_ex) (extra_made a) (ap result_of signature) e in
        t_st_then (t_declare_as (t_create (concrete a lt) (none_made n (suc a)))
        (ap (λ o. fits_in P (a_value (class_type (suc a))) (or_nothing o)) (variable_type a lt) ∙ object_fits a))
        (t_st_then
        (t_assign (target_typed G a (variable_made a) t_local v (extra_name a) f) t_number
        (numbers_fit P G _ _ refl (target_static G a (variable_made a) t_local v (extra_name a) f)))
        (t_st_then (t_print sum (ap is_printable value)) (steps_typed (a + 1) k (omega (arith, h)))))

  -- ---- methods

  method_typed : (m : ℕ) (k : PlainMethod) → StandsAt method_made (main_made n) n m k → IsTypedMethod P m k
  unfolding IsTypedMethod
  method_typed m k (is_row lt s) =
      subst (IsTypedMethod P m) (sym s) (λ xs b. subst (TypedSts P (env_of m (method_made m))) (same_Some (body_made m) xs b) (body_typed m m lt))
  method_typed m k (is_last l s) =
      subst (IsTypedMethod P m) (sym s)
      (λ xs b. subst (TypedSts P (env_of m (main_made n))) (same_Some (main_body_made (range_with_len 0 n)) xs b) (steps_typed m 0 n (omega arith)))

  -- ---- classes

  -- a method that a class offers is that of a class of the chain
  pub record OfChain (c s m : ℕ) (o : Offers (sample_program n) c s m) : Type 0 where
    pub class : ℕ
    pub there : class < n
    pub owner : o.method.owner ≡ suc class
    pub slot : s ≡ 0

  of_chain : (c s m : ℕ) (o : Offers (sample_program n) c s m) → OfChain c s m o
  unfolding sample_program
  of_chain c s m o = at (stands method_made (main_made n) n m o.method o.stands)
    where
      at : StandsAt method_made (main_made n) n m o.method → OfChain c s m o
      at (is_row lt e) = record {
        class = m;
        there = lt;
        owner = ap (λ (k : PlainMethod). k.owner) e;
        slot = sym (same_Some 0 s (sym (ap (λ (k : PlainMethod). k.slot) e) ∙ o.slot));
      }
      at (is_last l e) = absurd (cc (sym (ap (λ (k : PlainMethod). k.slot) e) ∙ o.slot))

  above_owner : (c s m : ℕ) (o : Offers (sample_program n) c s m) (z : OfChain c s m o) → below (sample_program n) c (suc z.class) ≡ true
  above_owner c s m o z = ap (below (sample_program n) c) (sym z.owner) ∙ o.above

  object_bodies : HasBodies (sample_program n) 0
  unfolding HasBodies
  object_bodies s m o = absurd (let z = of_chain 0 s m o in chain_not_above_object n z.class (above_owner 0 s m o z))

  class_bodies : (i : ℕ) (k : PlainClass) → StandsAt class_made main_class_made n i k → HasBodies (sample_program n) (suc i)
  unfolding HasBodies
  class_bodies i k (is_row lt e) s m o =
      let z = of_chain (suc i) s m o in
      let d = declaration_found n i lt in
      (d.0, ap (nearest_declaration (sample_program n) (suc i)) z.slot ∙ d.1, d.2)
  class_bodies i k (is_last l e) s m o =
      absurd (let z = of_chain (suc i) s m o in
      chain_not_above_main n z.class z.there (ap (λ c. below (sample_program n) (suc c) (suc z.class)) (sym l) ∙ above_owner (suc i) s m o z))

  public_methods : (c : ℕ) → HasPublicMethods (sample_program n) c
  unfolding HasPublicMethods
  public_methods c s m o h =
      absurd (let z = of_chain c s m o in false≢true (sym (ap (is_interface (sample_program n)) z.owner ∙ no_interface n z.class z.there) ∙ h))

  class_typed : (c : ℕ) (k : PlainClass) → slice_get (sample_program n).classes c ≡ Some k → IsTypedClass (sample_program n) c
  unfolding sample_program
  class_typed zero k e = record { bodies = λ h. object_bodies; public_methods = λ h. public_methods 0 }
  class_typed (suc i) k e = record { bodies = λ h. class_bodies i k (stands class_made main_class_made n i k e); public_methods = λ h. public_methods (suc i) }

  all_methods : (m : ℕ) (k : PlainMethod) → slice_get (sample_program n).methods m ≡ Some k → IsTypedMethod (sample_program n) m k
  unfolding sample_program
  all_methods m k e = method_typed m k (stands method_made (main_made n) n m k e)

  pub program_typed : IsTyped (sample_program n)
  program_typed = record { classes = class_typed; methods = all_methods }
