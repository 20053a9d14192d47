-- The bodies that a typed program's runs find: each is typed, of the signature that typing asks, and stands at or above the class.
use Rattle.std.proofs.Common.{◌≡◌, ℕ, ◌&&◌, List, Option, Some, None, eqb, refl, sym, ap, ◌∙◌, subst}
use Rattle.std.specs.Prelude.{true, false, not, slice_get}
use Rattle.std.specs.Option.{is_some, option_map, option_map_or, option_and_then}
use Rattle.std.proofs.lemmas.Bool.{false≢true, and_parts, eqb-true}
use Rattle.std.proofs.lemmas.List.{map-append}
use Rattle.std.proofs.lemmas.Option.{same_Some}
use Rattle.java_core.specs.declared.Ty.{Ty}
use Rattle.java_core.specs.Trees.{Sts}
use Rattle.java_core.specs.Programs.{Plain, PlainClass, PlainLocal, PlainMethod, PlainSlot}
use Rattle.java_core.specs.Classes.{parent_of, IsSubclass, same_class, through, below, nearest_of, own_method, own_declaration, own_body, has_slot, is_slot, nearest_declaration, lookup, slot_of, super_method, has_body, is_concrete}
use Rattle.java_core.specs.Makers.{maker_name, maker_of, maker_slot}
use Rattle.java_core.specs.Types.{types_of, Signature, signature_of_slot, signature_of_method}
use Rattle.java_core.specs.Typing.{Offers, HasBodies, IsTypedMethod, IsTyped}
use Rattle.java_core.specs.Found.{IsNearest, at_class, above_class}
use Rattle.java_core.specs.Formed.{IsInSlot, IsFormed}
use Rattle.java_core.proofs.Subclasses.{subclass-then, below-subclass, subclass-below, parent-super, nearest_of-nearest, nearest-nearest_of}
use Rattle.java_core.proofs.Positions.{position-passes, passes-position}
use Rattle.java_core.proofs.Upwards.{chain-above}
use Rattle.java_core.proofs.Offered.{own_method-own, slot_of-offered}
use Rattle.java_meaning.specs.Moment.{Nothing}
use Rattle.java_meaning.specs.Values.{default_of}
use Rattle.java_meaning.specs.Languages.{body_with, body_of}
use Rattle.java_meaning.specs.TypedLang.{TypedBody, HasBody, HasStaticBody}
use Rattle.java_meaning.proofs.Holds.{some_there}
use Rattle.java_meaning.proofs.Moves.{then_some}
use Rattle.java_meaning.proofs.Calls.{mapped_some}
use Rattle.java_meaning.proofs.FormedBodies.{stands_sts}

abbrev signature_at : List Ty → Option Ty → Signature
signature_at ps r = record { params = ps; result = r }

abbrev signature_of : PlainMethod → Signature
signature_of k = record { params = types_of k.params; result = k.result }

body_there : (P : Plain) (m : ℕ) → has_body P m ≡ true → (k : PlainMethod) × (slice_get P.methods m ≡ Some k) × ((xs : Sts) × (k.body ≡ Some xs))
body_there P m h = go (slice_get P.methods m) refl h
  where
    inside : (k : PlainMethod) → slice_get P.methods m ≡ Some k → (o : Option Sts) → k.body ≡ o → is_some o ≡ true → (k : PlainMethod)
        × (slice_get P.methods m ≡ Some k) × ((xs : Sts) × (k.body ≡ Some xs))
    inside k at (Some xs) e t = (k, at, (xs, e))
    inside k at None e t = absurd (false≢true t)

    go : (o : Option PlainMethod) → slice_get P.methods m ≡ o → option_map_or (λ k. is_some k.body) o false ≡ true → (k : PlainMethod)
        × (slice_get P.methods m ≡ Some k) × ((xs : Sts) × (k.body ≡ Some xs))
    go (Some k) at t = inside k at k.body refl t
    go None at t = absurd (false≢true t)

module _ (P : Plain) (formed : IsFormed P) (typed : IsTyped P) where
  typed_body : (m : ℕ) (k : PlainMethod) (xs : Sts) → slice_get P.methods m ≡ Some k → k.body ≡ Some xs → TypedBody P (body_with m k xs) (signature_of k)
  unfolding IsTypedMethod
  typed_body m k xs at body = record {
    params = refl;
    rest = types_of k.locals;
    locals = map-append (λ l. l.ty) k.params k.locals;
    defaults = refl;
    result = refl;
    ends = λ t e. ap (λ z. option_map_or default_of z Nothing) e;
    typed = typed.methods m k at xs body;
    stands = stands_sts P formed m k ((formed.methods m k at).code xs body);
  }

  body_found : (m : ℕ) (k : PlainMethod) (xs : Sts) → slice_get P.methods m ≡ Some k → k.body ≡ Some xs → body_of P m ≡ Some (body_with m k xs)
  body_found m k xs at body = rw (at, body) refl

  -- a body with this signature, at or above the class
  has_body_of : (o : Option ℕ) (c m : ℕ) (k : PlainMethod) (xs : Sts) (sig : Signature) → o ≡ Some m → slice_get P.methods m ≡ Some k
      → k.body ≡ Some xs → signature_of k ≡ sig → IsSubclass P c k.owner → HasBody P (option_and_then (body_of P) o) c sig
  has_body_of o c m k xs sig e at body s up = record {
    body = body_with m k xs;
    found_body = ap (option_and_then (body_of P)) e ∙ body_found m k xs at body;
    above = subclass-below P formed.acyclic up;
    typed = subst (λ z. TypedBody P (body_with m k xs) z) s (typed_body m k xs at body);
  }

  method_signature : (m : ℕ) (k : PlainMethod) (sig : Signature) → slice_get P.methods m ≡ Some k → signature_of_method P m ≡ Some sig → signature_of k ≡ sig
  method_signature m k sig at s = same_Some _ _ (sym (ap (option_map (λ z. record { params = types_of z.params; result = z.result })) at) ∙ s)

  pub static_bodies : (m : ℕ) (sig : Signature) → has_body P m ≡ true → signature_of_method P m ≡ Some sig → HasStaticBody P (body_of P m) sig
  static_bodies m sig h s =
      let b = body_there P m h in
      record {
        body = body_with m b.0 b.2.0;
        found_body = body_found m b.0 b.2.0 b.1 b.2.1;
        typed = subst (λ z. TypedBody P (body_with m b.0 b.2.0) z)
            (method_signature m b.0 sig b.1 s) (typed_body m b.0 b.2.0 b.1 b.2.1);
      }

  super_above : (c m : ℕ) (x : List ℕ) (k : PlainMethod) → super_method P c x ≡ Some m → slice_get P.methods m ≡ Some k → IsSubclass P c k.owner
  unfolding super_method
  super_above c m x k e at =
      let p = then_some (λ p. nearest_of P (λ z. own_method P z x) p.0) (parent_of P c) m e in
      let n = chain-above P (λ z. own_method P z x) (nearest_of-nearest P (λ z. own_method P z x) p.2) in
      let o = own_method-own P n.holder x m n.found in
      let same : o.method ≡ k = same_Some _ _ (sym o.stands ∙ at) in
      subst (λ z. IsSubclass P c z) (sym o.owner ∙ ap (λ (z : PlainMethod). z.owner) same) (through (parent-super P c p.0 p.1) n.above)

  pub super_bodies : (c m : ℕ) (x : List ℕ) (sig : Signature) → super_method P c x ≡ Some m → has_body P m ≡ true → signature_of_method P m ≡ Some sig
      → HasBody P (option_and_then (body_of P) (super_method P c x)) c sig
  super_bodies c m x sig e h s =
      let b = body_there P m h in
      has_body_of (super_method P c x) c m b.0 b.2.0 sig e b.1 b.2.1 (method_signature m b.0 sig b.1 s) (super_above c m x b.0 e b.1)

  pair : (ps : List PlainLocal) (r : Option Ty) (z : PlainSlot) → types_of ps ≡ z.params → r ≡ z.result → signature_at (types_of ps) r
      ≡ signature_at z.params z.result
  pair ps r z a b = subst (λ y. signature_at (types_of ps) r ≡ signature_at z.params y) b (ap (λ y. signature_at y r) a)

  -- the signature of a slot is that of each of its methods
  slot_signature : (m j : ℕ) (k : PlainMethod) (sig : Signature) → slice_get P.methods m ≡ Some k → k.slot ≡ Some j → signature_of_slot P j ≡ Some sig
      → signature_of k ≡ sig
  slot_signature m j k sig at s e =
      let i = ((formed.methods m k at).slots j).0 s in
      let q = mapped_some (λ z. record { params = z.params; result = z.result }) (slice_get P.slots j) sig e in
      let same : q.0 ≡ i.slot = same_Some _ _ (sym q.1 ∙ i.stands) in
      pair k.params k.result i.slot i.params i.result ∙ ap (λ z. record { params = z.params; result = z.result }) (sym same) ∙ q.2

  -- where the nearest declaration of a slot has a body, a body is found
  nearest_body : (s : ℕ) {c d : ℕ} → IsNearest P (λ k. own_declaration P k s) c d → has_body P d ≡ true → (b : ℕ) × IsNearest P (λ k. own_body P k s) c b
  nearest_body s {c} {d} (at_class e) h =
      let p = position-passes (λ m. has_slot c s m) P.methods d e in let b = body_there P d h in
      let same : b.0 ≡ p.0 = same_Some _ _ (sym b.1 ∙ p.1) in
      let with_body : is_some p.0.body ≡ true = ap (λ (z : PlainMethod). is_some z.body) (sym same) ∙ ap is_some b.2.1 in
      let q = passes-position (λ m. has_slot c s m && is_some m.body) P.methods d p.0 p.1 (rw (p.2, with_body) refl) in
      (q.0, at_class q.1)
  nearest_body s {c} (above_class {p = p} none e up) h = let r = nearest_body s up h in go (own_body P c s) refl r.0 r.1
    where
      go : (o : Option ℕ) → own_body P c s ≡ o → (b : ℕ) → IsNearest P (λ k. own_body P k s) p.0 b → (b : ℕ) × IsNearest P (λ k. own_body P k s) c b
      go (Some y) own b n = (y, at_class own)
      go None own b n = (b, above_class own e n)

  class_there : (c : ℕ) → is_concrete P c ≡ true → (k : PlainClass) × (slice_get P.classes c ≡ Some k)
  class_there c h = go (slice_get P.classes c) refl h
    where
      go : (o : Option PlainClass) → slice_get P.classes c ≡ o → option_map_or (λ k. not k.is_interface && not k.is_abstract) o false ≡ true
          → (k : PlainClass) × (slice_get P.classes c ≡ Some k)
      go (Some k) at t = (k, at)
      go None at t = absurd (false≢true t)

  slot_some : (o : Option ℕ) (s : ℕ) → is_slot o s ≡ true → o ≡ Some s
  slot_some None s e = absurd (false≢true e)
  slot_some (Some r) s e = ap Some (eqb-true r s e)

  -- the body that an object of a class runs for a slot that the class offers
  offered_body : (c j m : ℕ) (sig : Signature) → is_concrete P c ≡ true → Offers P c j m → signature_of_slot P j ≡ Some sig
      → HasBody P (option_and_then (body_of P) (lookup P c j)) c sig
  unfolding HasBodies nearest_declaration lookup
  offered_body c j m sig made o s =
      let k = class_there c made in
      let declared = (typed.classes c k.0 k.1).bodies made j m o in
      let near = nearest_body j (nearest_of-nearest P (λ z. own_declaration P z j) declared.1) declared.2 in
      let up = chain-above P (λ z. own_body P z j) near.1 in
      let p = position-passes (λ m. has_slot up.holder j m && is_some m.body) P.methods near.0 up.found in
      let parts = and_parts (has_slot up.holder j p.0) (is_some p.0.body) p.2 in
      let outer = and_parts (eqb p.0.owner up.holder) (is_slot p.0.slot j) parts.0 in
      let xs = some_there p.0.body parts.1 in
      has_body_of (lookup P c j) c near.0 p.0 xs.0 sig (nearest-nearest_of P (λ z. own_body P z j) formed.acyclic near.1) p.1 xs.1
      (slot_signature near.0 j p.0 sig p.1 (slot_some p.0.slot j outer.1) s) (subst (λ z. IsSubclass P c z) (sym (eqb-true p.0.owner up.holder outer.0)) up.above)

  pub bodies : (c d j : ℕ) (x : List ℕ) (sig : Signature) → is_concrete P c ≡ true → below P c d ≡ true → slot_of P d x ≡ Some j
      → signature_of_slot P j ≡ Some sig → HasBody P (option_and_then (body_of P) (lookup P c j)) c sig
  bodies c d j x sig made bel found s =
      let o = slot_of-offered P formed d x j found in
      offered_body c j o.number sig made
      (record {
        method = o.method;
        stands = o.stands;
        slot = o.slot;
        above = subclass-below P formed.acyclic
            (subclass-then P (below-subclass P c d bel) o.above);
      }) s

  -- the body for the slot of a method that the class itself declares
  declared_body : (c j m : ℕ) (k : PlainMethod) (sig : Signature) → is_concrete P c ≡ true → slice_get P.methods m ≡ Some k → k.slot ≡ Some j
      → k.owner ≡ c → IsInSlot P j k → signature_of k ≡ sig → HasBody P (option_and_then (body_of P) (lookup P c j)) c sig
  declared_body c j m k sig made at slot owner i s = offered_body c j m sig made
      (record {
        method = k;
        stands = at;
        slot = slot;
        above = subclass-below P formed.acyclic (subst (λ z. IsSubclass P c z) (sym owner) same_class);
      }) (rw i.stands (ap Some (sym (pair k.params k.result i.slot i.params i.result) ∙ s)))

  -- the constructor of a class: its slot, and the body that an object of the class runs for it
  pub makers : (c m : ℕ) (sig : Signature) → is_concrete P c ≡ true → maker_of P c ≡ Some m → signature_of_method P m ≡ Some sig
      → (j : ℕ) × (maker_slot P c ≡ Some j) × HasBody P (option_and_then (body_of P) (lookup P c j)) c sig
  makers c m sig made there s =
      let k = then_some (λ k. own_method P c (maker_name k.name)) (slice_get P.classes c) m there in
      let o = own_method-own P c (maker_name k.0.name) m k.2 in
      let j = (formed.methods m o.method o.stands).slotted o.instance in (
        j.0,
        rw (there, o.stands) j.1,
        declared_body c j.0 m o.method sig made o.stands j.1 o.owner (((formed.methods m o.method o.stands).slots j.0).0 j.1)
            (method_signature m o.method sig o.stands s),
      )
