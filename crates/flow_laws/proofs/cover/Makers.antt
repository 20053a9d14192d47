-- The constructor of a class: a method of it with a slot, and without a result.
use Rattle.std.proofs.Common.{◌≡◌, ℕ, Some, None, sym, ap, ◌∙◌}
use Rattle.std.specs.Prelude.{slice_get, option_and_then}
use Rattle.std.proofs.lemmas.Option.{same_Some}
use Rattle.java_core.specs.Programs.{Plain, PlainClass, PlainMethod, PlainSlot}
use Rattle.java_core.specs.Classes.{own_method, slot_of_method}
use Rattle.java_core.specs.Types.{types_of, Signature, signature_of_method}
use Rattle.java_core.specs.Makers.{maker_name, maker_of, maker_slot, IsMakerOf}
use Rattle.java_core.specs.Formed.{IsFormed}
use Rattle.java_core.proofs.Offered.{own_method-own}
use Rattle.java_meaning.proofs.Moves.{then_some}
use Rattle.java_meaning.proofs.Calls.{mapped_some}

-- the constructor m of the class c, of the slot j
pub record MakerAt (P : Plain) (c m j : ℕ) : Type 0 where
  pub method : PlainMethod
  pub stands : slice_get P.methods m ≡ Some method
  pub owner : method.owner ≡ c
  pub is_maker : IsMakerOf P method
  pub slotted : method.slot ≡ Some j
  pub slot : PlainSlot
  pub slot_stands : slice_get P.slots j ≡ Some slot
  pub params : types_of method.params ≡ slot.params
  pub result : slot.result ≡ None

-- a class and its constructor
pub record OwnMaker (P : Plain) (c m : ℕ) : Type 0 where
  pub class : PlainClass
  pub class_stands : slice_get P.classes c ≡ Some class
  pub method : PlainMethod
  pub stands : slice_get P.methods m ≡ Some method
  pub owner : method.owner ≡ c
  pub name : method.name ≡ maker_name class.name

pub own_maker : (P : Plain) (c m : ℕ) → maker_of P c ≡ Some m → OwnMaker P c m
own_maker P c m e =
    let k = then_some (λ k. own_method P c (maker_name k.name)) (slice_get P.classes c) m e in
    let o = own_method-own P c (maker_name k.0.name) m k.2 in
    record { class = k.0; class_stands = k.1; method = o.method; stands = o.stands; owner = o.owner; name = o.name }

pub maker_at : (P : Plain) → IsFormed P → (c m j : ℕ) → maker_of P c ≡ Some m → maker_slot P c ≡ Some j → MakerAt P c m j
maker_at P formed c m j e h =
    let o = own_maker P c m e in
    let w = then_some (λ (k : PlainMethod). k.slot) (slice_get P.methods m) j (ap (option_and_then (slot_of_method P)) (sym e) ∙ h) in
    let slotted : o.method.slot ≡ Some j = ap (λ z. z.slot) (same_Some o.method w.0 (sym o.stands ∙ w.1)) ∙ w.2 in
    let maker : IsMakerOf P o.method =
    record { class = o.class; stands = ap (slice_get P.classes) o.owner ∙ o.class_stands; name = o.name } in
    let i = ((formed.methods m o.method o.stands).slots j).0 slotted in
    record {
      method = o.method;
      stands = o.stands;
      owner = o.owner;
      is_maker = maker;
      slotted = slotted;
      slot = i.slot;
      slot_stands = i.stands;
      params = i.params;
      result = sym i.result ∙ (formed.makers m o.method o.stands maker).result;
    }

-- what it takes is what its slot says
pub maker_signature : (P : Plain) (c m j : ℕ) (k : MakerAt P c m j) (s : Signature) → signature_of_method P m ≡ Some s → s.params ≡ k.slot.params
maker_signature P c m j k s e =
    let z = mapped_some (λ (k : PlainMethod). record { params = types_of k.params; result = k.result }) (slice_get P.methods m) s e in
    sym (ap (λ w. w.params) z.2) ∙ ap (λ w. types_of w.params) (same_Some z.0 k.method (sym z.1 ∙ k.stands)) ∙ k.params
