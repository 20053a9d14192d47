-- Mirror. The program that a sample is: its classes, fields, methods and bodies by number.
use Rattle.std.specs.Prelude.{ℕ, zero, suc, ◌+◌, pos, false, true, List, [], ◌∷◌, ◌++◌, map, Some, None, codes}
use Rattle.std.specs.List.{range_with_len, flat_map}
use Rattle.java_core.specs.declared.Ty.{Ty}
use Rattle.java_core.specs.declared.TyBase.TheVariants.{Int, Str}
use Rattle.java_core.specs.declared.BinOp.TheVariants as bin
use Rattle.java_core.specs.declared.Op.TheVariants as op
use Rattle.java_core.specs.Trees.{Tag, at_place, Ex, no_ex, number, this, local, field, call, super_call, create, binary, to_field, declare, assign, print, return, Sts, no_st, st_then}
use Rattle.java_core.specs.Programs.{Plain, PlainLocal, PlainClass, PlainField, PlainMethod, PlainSlot}
use Rattle.java_core.specs.Types.{plain_type, class_type}
use Rattle.java_core.specs.Classes.{class_id}
use Rattle.name_rules.specs.Outline.{object}
use Rattle.kaba_work.specs.Sample.{nowhere, class_name, field_name, extra_name, variable_name, method_name}

-- the tag of each form
abbrev pub tag : Tag
tag = at_place nowhere

-- the type of numbers
abbrev pub int : Ty
int = plain_type Int

-- the class Ki has the number i + 1, since Object has the number 0
abbrev pub class_made : ℕ → PlainClass
class_made i = record { name = class_name i; is_interface = false; is_abstract = false; parent = Some (class_id i); faces = []; tag = tag }

-- the main class has the number n + 1
abbrev pub main_class_made : PlainClass
main_class_made = record { name = codes "Main"; is_interface = false; is_abstract = false; parent = Some (class_id 0); faces = []; tag = tag }

-- a field of the class Ki
abbrev pub field_made : ℕ → List ℕ → PlainField
field_made i n = record { owner = suc i; name = n; is_static = false; ty = int; tag = tag }

-- its two fields, of the numbers 2 * i and 2 * i + 1
abbrev pub fields_made : ℕ → List PlainField
fields_made i = field_made i (field_name i) ∷ field_made i (extra_name i) ∷ []

-- a field of `this`
abbrev pub own_made : List ℕ → Ex
own_made n = field tag (this tag) n

-- the sum of two numbers
abbrev pub sum_made : Ex → Ex → Ex
sum_made a b = binary tag (bin.Int op.Plus) a b

-- what the method of Ki gives
abbrev pub total_made : ℕ → Ex
total_made zero = own_made (field_name 0)
total_made (suc i) = sum_made (super_call tag method_name no_ex) (own_made (field_name (suc i)))

-- its body
abbrev pub body_made : ℕ → Sts
body_made i =
    st_then (assign tag (to_field tag (this tag) (field_name i)) (sum_made (own_made (field_name i)) (number tag (pos (i + 1)))))
    (st_then (return tag (Some (total_made i))) no_st)

-- the method of Ki has the number i
abbrev pub method_made : ℕ → PlainMethod
method_made i =
    record {
      owner = suc i;
      name = method_name;
      is_static = false;
      is_public = false;
      slot = Some 0;
      params = [];
      locals = [];
      result = Some int;
      body = Some (body_made i);
      tag = tag;
    }

-- the variable of Ki has the number i + 1, since `args` has the number 0
abbrev pub variable_made : ℕ → Ex
variable_made i = local tag (suc i)

-- its field that is set from outside
abbrev pub extra_made : ℕ → Ex
extra_made i = field tag (variable_made i) (extra_name i)

-- what main does with the classes of these numbers; the creation of a Ki has the number i
abbrev pub main_body_made : List ℕ → Sts
main_body_made [] = no_st
main_body_made (i ∷ is) =
    st_then (declare tag (suc i) (Some (create tag i (suc i) no_ex)))
    (st_then (assign tag (to_field tag (variable_made i) (extra_name i)) (number tag (pos i)))
    (st_then (print tag true (Some (sum_made (call tag (variable_made i) method_name no_ex) (extra_made i)))) (main_body_made is)))

-- the variable of Ki as main declares it
abbrev pub local_made : ℕ → PlainLocal
local_made i = record { name = variable_name i; ty = class_type (suc i); tag = tag }

-- the parameter of main
abbrev pub args_made : PlainLocal
args_made = record { name = codes "args"; ty = record { base = Str; dim = 1 }; tag = tag }

-- main in a sample of n classes
abbrev pub main_made : ℕ → PlainMethod
main_made n =
    record {
      owner = suc n;
      name = codes "main";
      is_static = true;
      is_public = false;
      slot = None;
      params = args_made ∷ [];
      locals = map local_made (range_with_len 0 n);
      result = None;
      body = Some (main_body_made (range_with_len 0 n));
      tag = tag;
    }

-- the slot of the methods, of which the first is that of K0
abbrev pub slot_made : PlainSlot
slot_made = record { name = method_name; params = []; result = Some int; first = 0 }

-- the program of a sample of n classes
unfoldable pub sample_program : ℕ → Plain
sample_program n =
    record {
      classes = object ∷ map class_made (range_with_len 0 n) ++ main_class_made ∷ [];
      fields = flat_map fields_made (range_with_len 0 n);
      methods = map method_made (range_with_len 0 n) ++ main_made n ∷ [];
      slots = slot_made ∷ [];
      main = n;
    }
