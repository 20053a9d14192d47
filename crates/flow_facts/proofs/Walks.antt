-- What a form adds and is, from what stands in it.
use Rattle.std.proofs.Common.{◌≡◌, ℕ, ◌+◌, Bool, true, false, List, [], ◌∷◌, ◌++◌, length, sym, ap, ◌∙◌, subst, add-zero, arith}
use Rattle.std.proofs.lemmas.List.{length-map}
use Rattle.std.proofs.lemmas.List.{append-nil}
use Rattle.std.specs.Prelude.{Some, None, Result, Ok, Err, IfOk}
use Rattle.kaba_base.specs.declared.Place.{Place}
use Rattle.java_core.specs.declared.Ty.{Ty}
use Rattle.java_core.specs.declared.UnOp.{UnOp}
use Rattle.java_core.specs.declared.BinOp.{BinOp}
use Rattle.java_core.specs.Trees.{Tag, Ex, Exs, this, own_field, field, index, call, create_array, cast, instance_of, unary, binary}
use Rattle.java_core.specs.Programs.{Plain, PlainMethod}
use Rattle.flow_rules.specs.declared.items.Operand.{Operand}
use Rattle.flow_rules.specs.declared.items.Part.{Part}
use Rattle.flow_rules.specs.declared.items.RowItem.TheVariants as row
use Rattle.flow_rules.specs.declared.items.PointItem.TheVariants as point
use Rattle.flow_rules.specs.Labels.{size, sizes, label}
use Rattle.flow_rules.specs.Operands.{operand_of, this_operand, object_of, class_object, object_field}
use Rattle.flow_rules.specs.Types.{object_type, field_object, element_object}
use Rattle.flow_rules.specs.Parts.{is_accessed, nothing, parts, a_load, an_element, a_creation, a_test, a_pair}
use Rattle.flow_rules.specs.Parts as plain
use Rattle.flow_facts.specs.Views.{parts_seen, part_seen, labelled_operand, load_operand, call_operand}
use Rattle.flow_facts.specs.Walked.{IsAdded, IsOperandMade, IsWalked, call_from}
use Rattle.flow_facts.proofs.Composed.{then, then_at}

pub if_ok : {A E : Type 0} {p q : A → Type 0} (r : Result A E) → ((a : A) → p a → q a) → IfOk r p → IfOk r q
if_ok (Ok a) f h = f a h
if_ok (Err e) f h = tt

seen-length : (xs : List Part) → length (parts_seen xs) ≡ length xs
seen-length xs = length-map xs part_seen

-- a creation of an array, and then the parts of what stands in it
begun : {p : Place} {u : Bool} {made : Operand} {old mid new : List Part} {o : Operand} {es : List Operand} (s : ℕ) (rest : ℕ → List plain.Part)
    → es ≡ [] → IsAdded old mid 1 (a_creation p u o None None es ∷ []) → o ≡ made → length new ≡ length mid + s
    → parts_seen new ≡ parts_seen mid ++ rest (length mid)
    → IsOperandMade old new (1 + s) (a_creation p u made None None [] ∷ rest (length old + 1)) o made
begun {p} {u} {made} {old} {mid} {new} {o} {es} s rest none a eo g h = record {
  grown = omega (arith, a.grown, g);
  value = eo;
  parts = then_at (parts_seen old) (parts_seen mid) (parts_seen new) (a_creation p u made None None [] ∷ []) rest (length mid) (length old + 1)
      (a.parts ∙ ap (λ q. parts_seen old ++ a_creation p u q None None es ∷ []) eo
      ∙ ap (λ l. parts_seen old ++ a_creation p u made None None l ∷ []) none) a.grown h;
}

module _ (P : Plain) (m : ℕ) (k : PlainMethod) where
  -- the operand of a form
  abbrev is_of : Ex → Operand
  is_of e = operand_of P (object_type P k) m k e

module _ (P : Plain) (m : ℕ) (k : PlainMethod) {u : Bool} {E : Ex} where
  as_form : {F : Ex} {old new : List Part} {o : Operand} → E ≡ F → IsWalked P m k u F old new o → IsWalked P m k u E old new o
  as_form {old = old} {new = new} {o = o} e w = subst (λ x. IsWalked P m k u x old new o) (sym e) w

  pub own_walked : {t : Tag} {f : ℕ} {old new : List Part} {w o : Operand} → E ≡ own_field t f → IsAdded old new 1 (a_load t.place w (Some f) o ∷ [])
      → w ≡ this_operand m k → o ≡ labelled_operand m (length old) (Some (row.Field f)) (field_object P f) → IsWalked P m k u E old new o
  own_walked {t} {f} {old} {new} {w} {o} is a ew eo = as_form is (record {
    grown = a.grown;
    value = eo;
    parts = a.parts ∙ ap (λ q. parts_seen old ++ a_load t.place q (Some f) o ∷ []) ew
        ∙ ap (λ q. parts_seen old ++ a_load t.place (this_operand m k) (Some f) q ∷ []) eo;
  })

  pub field_walked : {t : Tag} {x : List ℕ} {B : Ex} {v : Bool} {old mid new : List Part} {b o : Operand} → E ≡ field t B x
      → v ≡ is_accessed (label (length old) B) → IsWalked P m k v B old mid b
      → IsOperandMade mid new 1 (a_load t.place b (object_field P b.ty x) (load_operand P m (length mid) b.ty x) ∷ []) o
      (load_operand P m (length mid) b.ty x) → IsWalked P m k u E old new o
  field_walked {t} {x} {B} {v} {old} {mid} {new} {b} {o} is ev w h =
      let n = length old in
      let at = λ (l : ℕ) (q : Operand). load_operand P m l q.ty x in
      let first : parts_seen mid ≡ parts_seen old ++ parts P (object_type P k) m k (is_accessed (label n B)) (label n B) =
      w.parts ∙ ap (λ z. parts_seen old ++ parts P (object_type P k) m k z (label n B)) ev in
      let last : parts_seen new ≡ parts_seen mid ++ a_load t.place (is_of P m k (label n B)) (object_field P (object_type P k (label n B)) x)
      (at (length mid) (is_of P m k (label n B))) ∷ [] =
      h.parts ∙ ap (λ q. parts_seen mid ++ a_load t.place q (object_field P q.ty x) (at (length mid) q) ∷ []) w.value in
      as_form is (record {
        grown = omega (arith, w.grown, h.grown);
        value = h.value ∙ ap (λ q. at (length mid) q) w.value ∙ ap (λ l. at l (is_of P m k (label n B))) w.grown;
        parts = then_at (parts_seen old) (parts_seen mid) (parts_seen new) _ (λ l. a_load t.place (is_of P m k (label n B))
            (object_field P (object_type P k (label n B)) x) (at l (is_of P m k (label n B))) ∷ [])
            (length mid) (n + size B) first w.grown last;
      })

  pub index_walked : {t : Tag} {B I : Ex} {old x y new : List Part} {b o i : Operand} → E ≡ index t B I → IsWalked P m k true B old x b
      → IsAdded x y 1 (an_element t.place b o ∷ [])
      → o ≡ labelled_operand m (length x) b.row (element_object b.ty) → IsWalked P m k false I y new i → IsWalked P m k u E old new o
  index_walked {t} {B} {I} {old} {x} {y} {new} {b} {o} is w a eo z =
      let n = length old in
      let at = λ (l : ℕ) (q : Operand). labelled_operand m l q.row (element_object q.ty) in
      let here = at (n + size B) (is_of P m k (label n B)) in
      let value : o ≡ here = eo ∙ ap (λ q. at (length x) q) w.value ∙ ap (λ l. at l (is_of P m k (label n B))) w.grown in
      let mid : parts_seen y ≡ parts_seen x ++ an_element t.place (is_of P m k (label n B)) here ∷ [] =
      a.parts ∙ ap (λ q. parts_seen x ++ an_element t.place q o ∷ []) w.value
      ∙ ap (λ q. parts_seen x ++ an_element t.place (is_of P m k (label n B)) q ∷ []) value in
      let ly : length y ≡ n + size B + 1 = omega (arith, w.grown, a.grown) in
      let rest : parts_seen new ≡ parts_seen x ++ an_element t.place (is_of P m k (label n B)) here ∷ parts P (object_type P k) m k false
      (label (n + size B + 1) I) =
      then_at (parts_seen x) (parts_seen y) (parts_seen new) (an_element t.place (is_of P m k (label n B)) here ∷ [])
      (λ l. parts P (object_type P k) m k false (label l I)) (length y) (n + size B + 1) mid ly z.parts in
      as_form is (record {
        grown = omega (arith, w.grown, a.grown, z.grown);
        value = value;
        parts = then (parts_seen old) (parts_seen x) (parts_seen new) _ _ w.parts rest;
      })

  pub this_walked : {t : Tag} {old : List Part} {w : Operand} → E ≡ this t → w ≡ this_operand m k → IsWalked P m k u E old old w
  this_walked {old = old} is e = as_form is (record { grown = sym (add-zero (length old)); value = e; parts = sym (append-nil (parts_seen old)) })

  pub call_walked : {t : Tag} {x : List ℕ} {es : Exs} {B : Ex} {old mid new : List Part} {b o : Operand} → E ≡ call t B x es → IsWalked P m k true B old mid b
      → IsOperandMade mid new (1 + sizes es) (call_from P m k t.place b x (length mid) es) o (call_operand P m (length mid) b.ty x)
      → IsWalked P m k u E old new o
  call_walked {t} {x} {es} {B} {old} {mid} {new} {b} {o} is w h =
      let n = length old in
      let last : parts_seen new ≡ parts_seen mid ++ call_from P m k t.place (is_of P m k (label n B)) x (length mid) es =
      h.parts ∙ ap (λ q. parts_seen mid ++ call_from P m k t.place q x (length mid) es) w.value in
      as_form is (record {
        grown = omega (arith, w.grown, h.grown);
        value = h.value ∙ ap (λ q. call_operand P m (length mid) q.ty x) w.value ∙ ap (λ l. call_operand P m l (object_type P k (label n B)) x) w.grown;
        parts = then_at (parts_seen old) (parts_seen mid) (parts_seen new) _ (λ l. call_from P m k t.place (is_of P m k (label n B)) x l es)
            (length mid) (n + size B) w.parts w.grown last;
      })

  pub made_walked : {F : Ex} {old new : List Part} {o : Operand} → E ≡ F
      → IsOperandMade old new (size F) (parts P (object_type P k) m k u (label (length old) F)) o (is_of P m k (label (length old) F))
      → IsWalked P m k u E old new o
  made_walked is h = as_form is (record { grown = h.grown; value = h.value; parts = h.parts })

  pub array_walked : {t : Tag} {i : ℕ} {y : Ty} {S : Ex} {old mid new : List Part} {o s : Operand} {es : List Operand} → E ≡ create_array t i y S
      → es ≡ [] → IsAdded old mid 1 (a_creation t.place u o None None es ∷ [])
      → o ≡ record { point = Some (point.Expr m (length old)); row = Some (row.New i); ty = object_of y; created = Some i }
      → IsWalked P m k false S mid new s → IsWalked P m k u E old new o
  array_walked {S = S} is none a eo w = made_walked is (begun _ (λ l. parts P (object_type P k) m k false (label l S)) none a eo w.grown w.parts)

  pub cast_walked : {t : Tag} {i : ℕ} {y : Ty} {V : Ex} {old mid z new : List Part} {v o p : Operand} → E ≡ cast t i y V
      → IsAdded old mid 1 (a_test t.place p o ∷ []) → IsWalked P m k true V mid z v
      → o ≡ labelled_operand m (length old) (Some (row.Cast i)) (object_of y) → length new ≡ length z
      → ((xs ys : List plain.Part) (q : plain.Part) → length xs ≡ length old → parts_seen z ≡ xs ++ q ∷ ys → parts_seen new ≡ xs ++ a_test t.place v o
      ∷ ys) → IsWalked P m k u E old new o
  cast_walked {t} {i} {y} {V} {old} {mid} {z} {new} {v} {o} {p} is a w eo el f =
      let n = length old in
      let T = parts P (object_type P k) m k true in
      let held : parts_seen z ≡ parts_seen old ++ a_test t.place p o ∷ T (label (n + 1) V) =
      then_at (parts_seen old) (parts_seen mid) (parts_seen z) (a_test t.place p o ∷ []) (λ l. T (label l V)) (length mid) (n + 1) a.parts a.grown w.parts in
      let value : v ≡ is_of P m k (label (n + 1) V) = w.value ∙ ap (λ l. is_of P m k (label l V)) a.grown in
      as_form is (record {
        grown = omega (arith, a.grown, w.grown, el);
        value = eo;
        parts = f (parts_seen old) (T (label (n + 1) V)) (a_test t.place p o) (seen-length old) held
            ∙ ap (λ q. parts_seen old ++ a_test t.place q o ∷ T (label (n + 1) V)) value
            ∙ ap (λ q. parts_seen old ++ a_test t.place (is_of P m k (label (n + 1) V)) q ∷ T (label (n + 1) V)) eo;
      })

  pub test_walked : {t : Tag} {i c : ℕ} {V : Ex} {old mid new : List Part} {v o w : Operand} → E ≡ instance_of t i V c
      → IsWalked P m k true V old mid v → IsAdded mid new 1 (a_test t.place v o ∷ [])
      → o ≡ labelled_operand m (length mid) (Some (row.Test i)) (class_object c) → w ≡ nothing → IsWalked P m k u E old new w
  test_walked {t} {i} {c} {V} {old} {mid} {new} {v} {o} is w a eo ew =
      let n = length old in
      let at = λ (l : ℕ). labelled_operand m l (Some (row.Test i)) (class_object c) in
      let last : parts_seen new ≡ parts_seen mid ++ a_test t.place (is_of P m k (label n V)) (at (length mid)) ∷ [] =
      a.parts ∙ ap (λ q. parts_seen mid ++ a_test t.place q o ∷ []) w.value ∙ ap (λ q. parts_seen mid ++ a_test t.place (is_of P m k (label n V)) q ∷ []) eo in
      as_form is (record {
        grown = omega (arith, w.grown, a.grown);
        value = ew;
        parts = then_at (parts_seen old) (parts_seen mid) (parts_seen new) _ (λ l. a_test t.place (is_of P m k (label n V)) (at l) ∷ []) (length mid)
            (n + size V) w.parts w.grown last;
      })

  pub unary_walked : {t : Tag} {f : UnOp} {V : Ex} {old new : List Part} {v w : Operand} → E ≡ unary t f V → IsWalked P m k false V old new v
      → w ≡ nothing → IsWalked P m k u E old new w
  unary_walked is h ew = as_form is (record { grown = h.grown; value = ew; parts = h.parts })

  pub binary_walked : {t : Tag} {f : BinOp} {L R : Ex} {old x y new : List Part} {l r w : Operand} → E ≡ binary t f L R
      → IsWalked P m k false L old x l → IsWalked P m k false R x y r
      → IsAdded y new 1 (a_pair f l r ∷ []) → w ≡ nothing → IsWalked P m k u E old new w
  binary_walked {t} {f} {L} {R} {old} {x} {y} {new} {l} {r} is h g a ew =
      let n = length old in
      let T = parts P (object_type P k) m k false in
      let right : r ≡ is_of P m k (label (n + size L) R) = g.value ∙ ap (λ j. is_of P m k (label j R)) h.grown in
      let last : parts_seen new ≡ parts_seen y ++ a_pair f (is_of P m k (label n L)) (is_of P m k (label (n + size L) R)) ∷ [] =
      a.parts ∙ ap (λ q. parts_seen y ++ a_pair f q r ∷ []) h.value ∙ ap (λ q. parts_seen y ++ a_pair f (is_of P m k (label n L)) q ∷ []) right in
      let both = then_at (parts_seen old) (parts_seen x) (parts_seen y) (T (label n L)) (λ j. T (label j R)) (length x) (n + size L) h.parts h.grown g.parts in
      as_form is (record {
        grown = omega (arith, h.grown, g.grown, a.grown);
        value = ew;
        parts = then (parts_seen old) (parts_seen y) (parts_seen new) _ _ both last;
      })
