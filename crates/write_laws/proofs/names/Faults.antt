-- Forms of a tree in which no condition on names holds.
use Rattle.std.proofs.Common.{◌≡◌, ℕ, ◌&&◌, Bool, true, false, List, [], ◌∷◌, ◌++◌, Option, Some, None, refl, sym, ap, ◌∙◌, subst}
use Rattle.std.specs.Prelude.{not, slice_get}
use Rattle.std.specs.Option.{is_none}
use Rattle.std.proofs.lemmas.Bool.{false≢true, and_parts}
use Rattle.std.proofs.lemmas.Option.{same_Some}
use Rattle.kaba_base.specs.declared.Place.{Place}
use Rattle.java_tree.specs.Syntax.{Expression, NameRef, FieldOf, CallOf, CallOn, Expressions, Statement, LocalOf, IfOf, WhileOf, ForOf, Statements, Else, OptionalStatement, absent, present}
use Rattle.java_tree.specs.Syntax as tree
use Rattle.java_tree.specs.declared.TypeName.{TypeName}
use Rattle.java_core.specs.Programs.{Plain, PlainField, PlainMethod}
use Rattle.java_core.specs.Classes.{field_of}
use Rattle.name_rules.specs.declared.parts.Here.{Here}
use Rattle.name_rules.specs.declared.Refusal.{Refusal}
use Rattle.name_rules.specs.Outline.{is_type_name}
use Rattle.name_rules.proofs.FirstMethods.{first-met}
use Rattle.name_rules.specs.Meanings.{type_names, class_named, is_bound, is_class_name, IsStaticFieldOf, IsStaticMethodOf, IsNearestField, IsMet}
use Rattle.name_rules.specs.Conditions.{IsUnknownType, FaultIn, FaultInOne, FaultInValue, no_variable, static_above, own_in_static, no_class_of_field, no_static_field, in_base, no_method, static_method_above, call_in_static, in_arguments, no_class_of_call, no_static_method, in_receiver, in_call_arguments, StFault, StsFault, ArmsFault, PartFault, in_choice, in_else, in_while_test, in_while, in_first_part, in_for_test, in_last_part, in_for, no_type_of_local, type_as_local, local_twice, in_first_value, in_value, names_after_part}
use Rattle.write_model.specs.Names.{nowhere}
use Rattle.write_model.specs.Bodies.{loop_tree}

module _ (O : Plain) (here : Here) (scope : List (List ℕ)) where
  pub bound_no_class : (n : List ℕ) (p : Place) → is_bound scope n ≡ true → is_class_name O here.owner scope (NameRef n p) ≡ false
  bound_no_class n p b = ap (λ z. not z && is_none (field_of O here.owner n)) b

  pub variable_fault : (n : List ℕ) (p : Place) (r : Refusal) → is_bound scope n ≡ true → FaultIn O here scope (NameRef n p) r → ⊥
  variable_fault n p r b (no_variable h) = false≢true (sym (bound_no_class n p b) ∙ h)
  variable_fault n p r b (static_above free near st other) = false≢true (sym free ∙ b)
  variable_fault n p r b (own_in_static free near st here_static) = false≢true (sym free ∙ b)

  field_none : (n : List ℕ) (p : Place) → is_class_name O here.owner scope (NameRef n p) ≡ true → is_none (field_of O here.owner n) ≡ true
  field_none n p h = (and_parts (not (is_bound scope n)) (is_none (field_of O here.owner n)) h).1

  -- the nearest field is static, and of the class itself
  module _ (n : List ℕ) (p : Place) (g : ℕ) (new : PlainField) (near : IsNearestField O here.owner n g new) (static : new.is_static ≡ true)
      (own : new.owner ≡ here.owner) where
    same_field : (f : ℕ) (k : PlainField) → IsNearestField O here.owner n f k → new ≡ k
    same_field f k other = same_Some new k
        (sym near.stands ∙ subst (λ z. slice_at z ≡ Some k) (same_Some f g (sym other.nearest ∙ near.nearest)) other.stands)
      where
        slice_at : ℕ → Option PlainField
        slice_at z = slice_get O.fields z

    pub own_field_fault : (r : Refusal) → FaultIn O here scope (NameRef n p) r → ⊥
    own_field_fault r (no_variable h) = false≢true (sym (ap is_none near.nearest) ∙ field_none n p h)
    own_field_fault r (static_above {f = f} {k = k} free other st differs) = differs (sym (ap (λ (z : PlainField). z.owner) (same_field f k other)) ∙ own)
    own_field_fault r (own_in_static {f = f} {k = k} free other st here_static) = false≢true
        (sym st ∙ sym (ap (λ (z : PlainField). z.is_static) (same_field f k other)) ∙ static)

    pub own_field_no_class : is_class_name O here.owner scope (NameRef n p) ≡ false
    own_field_no_class = ap (λ z. not (is_bound scope n) && is_none z) near.nearest ∙ and_false (not (is_bound scope n))
      where
        and_false : (b : Bool) → (b && false) ≡ false
        and_false true = refl
        and_false false = refl

  -- a member behind the name of a class
  module _ (c n : List ℕ) (p q : Place) (m : ℕ) (is : is_class_name O here.owner scope (NameRef c q) ≡ true) (named : class_named O c ≡ Some m) where
    pub holder_field_fault : (f : ℕ) → IsStaticFieldOf O m n f → (r : Refusal) → FaultIn O here scope (FieldOf (NameRef c q) n p) r → ⊥
    holder_field_fault f found r (no_class_of_field h none) = absurd (cc (sym named ∙ none))
    holder_field_fault f found r (no_static_field {k = k} h at none) = none f (subst (λ z. IsStaticFieldOf O z n f) (same_Some m k (sym named ∙ at)) found)
    holder_field_fault f found r (in_base h x) = false≢true (sym h ∙ is)

    pub holder_call_fault : (es : Expressions) (f : ℕ) → IsStaticMethodOf O m n f → (r : Refusal) → (FaultInOne O here scope es r → ⊥)
        → FaultIn O here scope (CallOn (NameRef c q) n es p) r → ⊥
    holder_call_fault es f found r args (no_class_of_call h none) = absurd (cc (sym named ∙ none))
    holder_call_fault es f found r args (no_static_method {k = k} h at none) = none f
        (subst (λ z. IsStaticMethodOf O z n f) (same_Some m k (sym named ∙ at)) found)
    holder_call_fault es f found r args (in_receiver h x) = false≢true (sym h ∙ is)
    holder_call_fault es f found r args (in_call_arguments x) = args x

  -- a member behind what is no class's name
  pub field_fault : (e : Expression) (n : List ℕ) (p : Place) (r : Refusal) → is_class_name O here.owner scope e ≡ false → (FaultIn O here scope e r → ⊥)
      → FaultIn O here scope (FieldOf e n p) r → ⊥
  field_fault e n p r plain base (no_class_of_field h none) = false≢true (sym plain ∙ h)
  field_fault e n p r plain base (no_static_field h at none) = false≢true (sym plain ∙ h)
  field_fault e n p r plain base (in_base h x) = base x

  pub call_fault : (e : Expression) (n : List ℕ) (es : Expressions) (p : Place) (r : Refusal) → is_class_name O here.owner scope e ≡ false
      → (FaultIn O here scope e r → ⊥)
      → (FaultInOne O here scope es r → ⊥) → FaultIn O here scope (CallOn e n es p) r → ⊥
  call_fault e n es p r plain base args (no_class_of_call h none) = false≢true (sym plain ∙ h)
  call_fault e n es p r plain base args (no_static_method h at none) = false≢true (sym plain ∙ h)
  call_fault e n es p r plain base args (in_receiver h x) = base x
  call_fault e n es p r plain base args (in_call_arguments x) = args x

  -- a call by a simple name in a holder
  pub own_call_fault : (n : List ℕ) (es : Expressions) (p : Place) (r : Refusal) (g : ℕ) (new : PlainMethod) → IsMet O here.owner n g new
      → ((f : ℕ) (k : PlainMethod) → IsMet O here.owner n f k → (k.is_static ≡ true) × (k.owner ≡ here.owner)) → (FaultInOne O here scope es r → ⊥)
      → FaultIn O here scope (CallOf n es p) r → ⊥
  own_call_fault n es p r g new met own args (no_method none) = none g new met
  own_call_fault n es p r g new met own args (static_method_above {m = m} {k = k} other st differs) = differs (own m k (first-met O other)).1
  own_call_fault n es p r g new met own args (call_in_static {m = m} {k = k} other st here_static) = false≢true (sym st ∙ (own m k (first-met O other)).0)
  own_call_fault n es p r g new met own args (in_arguments x) = args x

module _ (O : Plain) (here : Here) where
  pub local_fault : (in_loop : Bool) (scope : List (List ℕ)) (u : TypeName) (n : List ℕ) (v : Option Expression) (p : Place) (r : Refusal)
      → (IsUnknownType O u r → ⊥) → is_type_name (type_names O) n ≡ false → is_bound scope n ≡ false → (FaultInValue O here (scope ++ n ∷ []) v r → ⊥)
      → StFault O here in_loop scope (LocalOf false u n v p) r → ⊥
  local_fault l s u n v p r known type fresh value (no_type_of_local x) = known x
  local_fault l s u n v p r known type fresh value (type_as_local h) = false≢true (sym type ∙ h)
  local_fault l s u n v p r known type fresh value (local_twice h) = false≢true (sym fresh ∙ h)
  local_fault l s u n v p r known type fresh value (in_first_value x) = value x

  pub if_fault : (in_loop : Bool) (scope : List (List ℕ)) (a : tree.Arms) (o : Else) (p : Place) (r : Refusal) → (ArmsFault O here in_loop scope a r → ⊥)
      → ((ss : Statements) → o ≡ tree.otherwise ss → StsFault O here in_loop scope ss r → ⊥) → StFault O here in_loop scope (IfOf a o p) r → ⊥
  if_fault l s a o p r arms other (in_choice x) = arms x
  if_fault l s a o p r arms other (in_else {ss = ss} x) = other ss refl x

  for_fault : (in_loop : Bool) (scope : List (List ℕ)) (f : OptionalStatement) (v : Option Expression) (g : OptionalStatement) (ss : Statements)
      (p : Place) (r : Refusal)
      → (PartFault O here in_loop scope f r → ⊥) → (FaultInValue O here (names_after_part scope f) v r → ⊥)
      → (PartFault O here in_loop (names_after_part scope f) g r → ⊥)
      → (StsFault O here true (names_after_part scope f) ss r → ⊥) → StFault O here in_loop scope (ForOf f v g ss p) r → ⊥
  for_fault l s f v g ss p r a b c d (in_first_part x) = a x
  for_fault l s f v g ss p r a b c d (in_for_test x) = b x
  for_fault l s f v g ss p r a b c d (in_last_part x) = c x
  for_fault l s f v g ss p r a b c d (in_for x) = d x

  while_fault : (in_loop : Bool) (scope : List (List ℕ)) (e : Expression) (ss : Statements) (p : Place) (r : Refusal)
      → (FaultInValue O here scope (Some e) r → ⊥) → (StsFault O here true scope ss r → ⊥) → StFault O here in_loop scope (WhileOf e ss p) r → ⊥
  while_fault l s e ss p r b d (in_while_test x) = b (in_value x)
  while_fault l s e ss p r b d (in_while x) = d x

  pub loop_fault : (in_loop is_while : Bool) (scope : List (List ℕ)) (f : OptionalStatement) (v : Option Expression) (g : OptionalStatement) (ss : Statements)
      (r : Refusal)
      → (PartFault O here in_loop scope f r → ⊥) → (FaultInValue O here (names_after_part scope f) v r → ⊥)
      → (PartFault O here in_loop (names_after_part scope f) g r → ⊥)
      → (StsFault O here true (names_after_part scope f) ss r → ⊥) → StFault O here in_loop scope (loop_tree is_while f v g ss) r → ⊥
  loop_fault l true s absent (Some e) absent ss r a b c d x = while_fault l s e ss nowhere r b d x
  loop_fault l true s absent (Some e) (present g) ss r a b c d x = for_fault l s absent (Some e) (present g) ss nowhere r a b c d x
  loop_fault l true s absent None g ss r a b c d x = for_fault l s absent None g ss nowhere r a b c d x
  loop_fault l true s (present f) v g ss r a b c d x = for_fault l s (present f) v g ss nowhere r a b c d x
  loop_fault l false s f v g ss r a b c d x = for_fault l s f v g ss nowhere r a b c d x
