-- Believed. What a run asks of a program, from its classes, fields and methods; and the run of a program.
use Rattle.std.specs.Prelude.{ℕ, zero, suc, ◌==◌, ◌&&◌, true, not, if◌then◌else◌, List, [], ◌∷◌, ◌++◌, length, map, Option, slice_get, position}
use Rattle.std.specs.Option.{option_map, option_map_or, option_and_then}
use Rattle.java_core.specs.Trees.{Ex, Sts}
use Rattle.java_core.specs.Programs.{Plain, PlainField, PlainMethod}
use Rattle.java_core.specs.Classes.{parent_of, lookup, slot_of, super_method}
use Rattle.java_core.specs.Makers.{maker_slot}
use Rattle.java_core.specs.Types.{Env, env_of, types_of, class_of, field_type, field_in, is_subtype, static}
use Rattle.java_meaning.specs.Moment.{Value, Nothing, Outcome, Body, Lang}
use Rattle.java_meaning.specs.Values.{default_of}
use Rattle.java_meaning.specs.Meaning.{run_in}

-- the instance fields that a class itself declares, in order, of those from number n on
abbrev pub own_fields_from : ℕ → ℕ → List PlainField → List ℕ
own_fields_from c n [] = []
own_fields_from c n (f ∷ fs) = (if (f.owner == c) && not f.is_static then n ∷ [] else []) ++ own_fields_from c (suc n) fs

-- the instance fields that a class declares itself, in their order
abbrev pub own_fields : Plain → ℕ → List ℕ
own_fields P c = own_fields_from c 0 P.fields

-- the fields of a class's objects in their places: those of its superclass first, so that a place does not depend on the subclass
abbrev pub layout_in : Plain → ℕ → ℕ → List ℕ
layout_in P zero c = own_fields P c
layout_in P (suc n) c = option_map_or (λ p. layout_in P n p.0) (parent_of P c) [] ++ own_fields P c

-- the instance fields of an object of the class, in the order in which its values stand
unfoldable pub layout : Plain → ℕ → List ℕ
layout P c = layout_in P (length P.classes) c

-- the default of the type of a field
abbrev pub default_at : Plain → ℕ → Value
default_at P f = option_map_or default_of (field_type P f) Nothing

-- the place of a field in an object of a class, and the values of a new one
abbrev pub index_of : Plain → ℕ → ℕ → Option ℕ
index_of P c f = position (λ g. g == f) (layout P c)

-- the values of a new object of a class: the defaults of its fields
abbrev pub fresh_of : Plain → ℕ → List Value
fresh_of P c = map (λ f. default_at P f) (layout P c)

-- a method with a body, as a run has it
abbrev pub body_with : ℕ → PlainMethod → Sts → Body
body_with m k xs =
    record {
      env = env_of m k;
      params = types_of k.params;
      rest = map default_of (types_of k.locals);
      ends = option_map_or default_of k.result
          Nothing;
      code = xs;
    }

-- the body of a method, where it has one
abbrev pub body_of : Plain → ℕ → Option Body
body_of P m = option_and_then (λ k. option_map (λ xs. body_with m k xs) k.body) (slice_get P.methods m)

-- the slot that a call of a name on an expression calls
abbrev pub slot_in : Plain → Env → Ex → List ℕ → Option ℕ
slot_in P g e x = option_and_then (λ c. slot_of P c x) (class_of (static P g e))

-- the values of the static fields at the start: their defaults, one for each field of the program
abbrev pub statics_of : Plain → List Value
statics_of P = map (λ f. default_of f.ty) P.fields

-- what a run asks of a program; all values pass, and nothing is noted
abbrev pub language_of : Plain → Lang
language_of P =
    record {
      field = λ g e x. field_in P (static P g e) x;
      slot = slot_in P;
      field_type = field_type P;
      index = index_of P;
      fresh = fresh_of P;
      maker = maker_slot P;
      body = λ c s. option_and_then (body_of P) (lookup P c s);
      static_body = body_of P;
      super_body = λ c x. option_and_then (body_of P) (super_method P c x);
      is_sub = is_subtype P;
      statics = statics_of P;
      sees = λ p v h. true;
      sees_all = λ b vs h. true;
      note = λ p v h m. m;
      note_all = λ b vs h m. m;
    }

-- the run of a program on these words (each a list of units), with n steps
abbrev pub run : Plain → List (List ℕ) → ℕ → Outcome
run P words n = run_in (language_of P) P.main words n
