-- Moves of two languages that are twins: fields, elements, creations, casts and tests, from states that are the same.
use Rattle.std.proofs.Common.{◌≡◌, ℕ, List, [], ◌∷◌, Option, Some, None, length, refl, sym, ap, ◌∙◌, subst}
use Rattle.std.specs.Prelude.{ℤ, Bool, true, false, slice_get, slice_set, replicate}
use Rattle.std.specs.Option.{option_map, option_and_then}
use Rattle.java_core.specs.declared.Ty.{Ty}
use Rattle.java_core.specs.declared.TyBase.{TyBase}
use Rattle.java_core.specs.declared.TyBase.TheVariants.{Char}
use Rattle.java_core.specs.declared.Fault.TheVariants as fault
use Rattle.java_core.specs.Trees.{Ex}
use Rattle.java_core.specs.Types.{Env, class_type, element_in}
use Rattle.java_meaning.specs.Moment.{Value, Number, Truth, CodeUnit, Nothing, Text, Object, Kind, an_object, an_array, Cell, own_type, Spot, held, set_static, kept, put_in, touched, tested, Met, State, Faulted, Wrong, Escaped, Outcome, stop, Body, Lang, with_some, or_fault, on_bool, look, look_all}
use Rattle.java_meaning.specs.Values.{int_of, convert, number_of, natural_of, cast_number, defaults}
use Rattle.java_meaning.specs.Meaning.{ToValue, add_cell, set_value, write_static, read_field, write_field, names_length, read_member, element_type, place_in, read_element, on_fitting, write_element, make_cell, made_by, Later, make_array, is_number_type, cast_object, cast_to, test_class}
use Rattle.java_meaning.proofs.Moves.{then_some}
use Rattle.flow_laws.specs.cover.Families.{Set}
use Rattle.flow_laws.specs.cover.Watched.{Of}
use Rattle.flow_laws.proofs.cover.Held.{keeps_same, keeps_set, keeps_add, member_of}
use Rattle.rebuild_laws.specs.twins.Twins.{shape_of, Link, spot_of, value_at, SameNew, SameArray, SameStatic, SameField, SameLength, SameTest, SameStore, AreTwins}
use Rattle.rebuild_laws.proofs.twins.Shapes.{same_convert, same_default, same_number_type, same_cast_number, same_element, shape_there}
use Rattle.rebuild_laws.proofs.twins.States.{Alike, wrong_first, escaped_first, first_some, second_some, equals_at, equals, shapes, passed, bools, at_place, SameValues, same_fields, same_elements, SameCell, SameState, KV, KS, noted, with_set, with_added, same_length, with_static, fields_set, ended, faults, steps, with_cells, cells_at}

-- what is done with the cell of an array
abbrev get_element : Lang → ℕ → Ex → ℤ → Cell → State → ToValue → Outcome
get_element L b d i c s k =
    with_some (element_type c.kind) s
    (λ t. or_fault fault.Bounds (option_and_then (λ n. slice_get c.values n) (natural_of i)) s (λ u. look L (held b d) u s (λ s1. k u s1)))

abbrev put_element : Lang → ℤ → Value → ℕ → Cell → State → (State → Outcome) → Outcome
put_element L i u a c s k =
    with_some (element_type c.kind) s (λ t. or_fault fault.Bounds (place_in c i) s (λ n. on_fitting L u t s (λ s1.
    look L (put_in c.site) (convert t u) s1 (λ s2. k (set_value a c n (convert t u) s2)))))

cast_plain : (b : TyBase) (n : ℤ) (h : List Cell) (X : Set) → Of h (cast_number b n) X
cast_plain Char n h X = tt
cast_plain _ n h X = tt

module _ (L M : Lang) (K : Link) (Made : Option ℕ → Kind → Kind → Type 0) (Pair : Body → Body → Type 0) (twins : AreTwins L M K Made Pair) where
  abbrev R : State → State → Type 0
  R s t = SameState L M K Made s t

  abbrev cell : Option ℕ → Kind → List Value → Cell
  cell o k vs = record { site = o; kind = k; values = vs }

  -- a look: in the first the value may be at the spot, in the second it passes
  pub looks : (p q : Spot) (v w : Value) (s t : State) (k j : State → Outcome) → R s t
      → ((m n : List Met) → R (record s { met = m }) (record t { met = n }) → Of s.cells v (K.may p)
      → Alike (k (record s { met = m })) (j (record t { met = n })))
      → Alike (look L p v s k) (look M q w t j)
  looks p q v w s t k j r h =
      subst (λ z. Alike (look L p v s k) (on_bool z (record t { met = M.note q w t.cells t.met }) j (stop Escaped))) (sym (twins.passes q w t.cells))
      (go (L.sees p v s.cells) refl)
    where
      go : (b : Bool) → L.sees p v s.cells ≡ b
          → Alike (on_bool b (record s { met = L.note p v s.cells s.met }) k (stop Escaped)) (j (record t { met = M.note q w t.cells t.met }))
      go true e = h _ _ (noted L M K Made s t _ _ r) (twins.sees p v s.cells e)
      go false e = escaped_first (record s { met = L.note p v s.cells s.met }) (j (record t { met = M.note q w t.cells t.met }))

  -- a look in the first alone
  pub looks_first : (p : Spot) (v : Value) (s : State) (k : State → Outcome) (q : Outcome) → (L.sees p v s.cells ≡ true → Alike (look L p v s k) q)
      → Alike (look L p v s k) q
  looks_first p v s k q h = go (L.sees p v s.cells) refl
    where
      go : (b : Bool) → L.sees p v s.cells ≡ b → Alike (look L p v s k) q
      go true e = h e
      go false e = subst (λ z. Alike (on_bool z (record s { met = L.note p v s.cells s.met }) k (stop Escaped)) q) (sym e)
          (escaped_first (record s { met = L.note p v s.cells s.met }) q)

  -- and what goes on with it
  pub first_look : (p : Spot) (v : Value) (s : State) (k : State → Outcome) (q : Outcome)
      → ((m : List Met) → Of s.cells v (K.may p) → Alike (k (record s { met = m })) q) → Alike (look L p v s k) q
  first_look p v s k q h = go (L.sees p v s.cells) refl
    where
      go : (b : Bool) → L.sees p v s.cells ≡ b → Alike (on_bool b (record s { met = L.note p v s.cells s.met }) k (stop Escaped)) q
      go true e = h (L.note p v s.cells s.met) (twins.sees p v s.cells e)
      go false e = escaped_first (record s { met = L.note p v s.cells s.met }) q

  pub looks_all : (b c : ℕ) (vs ws : List Value) (s t : State) (k j : State → Outcome) → R s t
      → ((m n : List Met) → R (record s { met = m }) (record t { met = n }) → L.sees_all b vs s.cells ≡ true
      → Alike (k (record s { met = m })) (j (record t { met = n })))
      → Alike (look_all L b vs s k) (look_all M c ws t j)
  looks_all b c vs ws s t k j r h =
      subst (λ z. Alike (look_all L b vs s k) (on_bool z (record t { met = M.note_all c ws t.cells t.met }) j (stop Escaped)))
      (sym (twins.passes_all c ws t.cells))
      (go (L.sees_all b vs s.cells) refl)
    where
      go : (z : Bool) → L.sees_all b vs s.cells ≡ z
          → Alike (on_bool z (record s { met = L.note_all b vs s.cells s.met }) k (stop Escaped)) (j (record t { met = M.note_all c ws t.cells t.met }))
      go true e = h _ _ (noted L M K Made s t _ _ r) e
      go false e = escaped_first (record s { met = L.note_all b vs s.cells s.met }) (j (record t { met = M.note_all c ws t.cells t.met }))

  -- a value that was looked at goes on
  pub given_on : (b c : ℕ) (d a : Ex) (u w : Value) (s t : State) (k j : ToValue) → u ≡ w → R s t → KV L M K Made s.cells (K.may (held b d)) k j
      → Alike (look L (held b d) u s (λ s1. k u s1)) (look M (held c a) w t (λ t1. j w t1))
  given_on b c d a u w s t k j e r h =
      looks (held b d) (held c a) u w s t (λ s1. k u s1) (λ t1. j w t1) r (λ m n r1 o.
      subst (λ z. Alike (k u (record s { met = m })) (j z (record t { met = n }))) e (h u _ _ r1 (keeps_same s.cells) o))

  -- a static field is set
  pub static_set : (x y : ℕ) (v : Value) (s t : State) (k j : State → Outcome) → SameStatic L M K Made Pair x y → R s t → KS L M K Made s.cells k j
      → Alike (write_static L x v s k) (write_static M y v t j)
  static_set x y v s t k j f r h =
      shapes (L.field_type x) (M.field_type y) s t _ _ (twins.static_shapes x f.static ∙ ap (λ z. option_map shape_of (M.field_type z)) (sym f.new))
      (λ a b ea eb shape.
      let there = r.statics x f.static ∙ ap (slice_get t.statics) (sym f.new) in
      equals_at (slice_get s.statics x) (slice_get t.statics y) s t _ _ there (λ old eo.
      let same = same_convert v a b shape in
      looks (set_static x) (set_static y) (convert a v) (convert b v) s t _ _ r (λ m n r1 o.
      let s1 = record s { met = m } in let t1 = record t { met = n } in
      subst (λ z. Alike (k (record s1 { statics = slice_set s1.statics x (convert a v) })) (j (record t1 { statics = slice_set t1.statics y z }))) same
      (h _ _ (with_static L M K Made s1 t1 x y old old (convert a v) (λ z hz e. twins.statics_apart z x hz f.static e) f.new r1 eo (sym there ∙ eo) o)
      (keeps_same s.cells)))))

  -- the parts of a field access: the field is kept, and has one value
  module _ (g h : Env) (e : Ex) (x y : Option ℕ) (f : SameField L M K Made Pair g h e x y) where
    had_there : (at : ℕ) (o : Option ℕ) (c : ℕ) (xs : List Value) (i : ℕ) (s : State) → slice_get s.cells at ≡ Some (cell o (an_object c) xs)
        → L.sees (touched g.body e i) (Object at) s.cells ≡ true → K.may (touched g.body e i) o ≡ true
    had_there at o c xs i s there seen =
        member_of s.cells at (cell o (an_object c) xs) (K.may (touched g.body e i)) (twins.sees (touched g.body e i) (Object at) s.cells seen) there

    field_read : (d a b : Ex) (at : ℕ) (o p : Option ℕ) (c k : ℕ) (xs ys : List Value) → Made o (an_object c) (an_object k)
        → ((i : ℕ) → K.has o i ≡ true → value_at L c i xs ≡ value_at M k (K.new_field i) ys)
        → (s t : State) (go on : ToValue) → R s t → slice_get s.cells at ≡ Some (cell o (an_object c) xs) → KV L M K Made s.cells (K.may (held g.body d)) go on
        → Alike (read_field L g.body e d x at (cell o (an_object c) xs) s go) (read_field M h.body a b y at (cell p (an_object k) ys) t on)
    field_read d a b at o p c k xs ys made same s t go on r there q =
        first_some x s _ _ (λ i ei. first_some (L.index c i) s _ _ (λ n en. first_some (slice_get xs n) s _ _ (λ u eu.
        looks_first (touched g.body e i) (Object at) s _ _ (λ seen.
        let j = K.new_field i in
        let had = f.had i ei o c k made (had_there at o c xs i s there seen) in
        let m = then_some (λ m. slice_get ys m) (M.index k j) u (sym (same i had) ∙ at_place L c i n xs u en eu) in
        second_some y j t _ _ (f.new i ei) (second_some (M.index k j) m.0 t _ _ m.1 (second_some (slice_get ys m.0) u t _ _ m.2
        (looks (touched g.body e i) (touched h.body a j) (Object at) (Object at) s t _ _ r (λ m1 n1 r1 ot.
        given_on g.body h.body d b u u (record s { met = m1 }) (record t { met = n1 }) go on refl r1 q))))))))

    pub member_read : (d b dd : Ex) (z w : List ℕ) → L.field g e z ≡ x → M.field h b w ≡ y → SameLength L M K Made Pair g h e b z w
        → (at : ℕ) (o p : Option ℕ) (k l : Kind) (xs ys : List Value) → Made o k l → SameValues L M K Made o k l xs ys
        → (s t : State) (go on : ToValue) → R s t → slice_get s.cells at ≡ Some (cell o k xs) → KV L M K Made s.cells (K.may (held g.body d)) go on
        → Alike (read_member L g e d z k at (cell o k xs) s go) (read_member M h b dd w l at (cell p l ys) t on)
    member_read d b dd z w ex ey len at o p k l xs ys made (same_fields {c = c} {k = c2} same) s t go on r there q =
        subst (λ i. Alike (read_field L g.body e d i at (cell o (an_object c) xs) s go)
        (read_field M h.body b dd (M.field h b w) at (cell p (an_object c2) ys) t on)) (sym ex)
        (subst (λ i. Alike (read_field L g.body e d x at (cell o (an_object c) xs) s go) (read_field M h.body b dd i at (cell p (an_object c2) ys) t on))
        (sym ey)
        (field_read d b dd at o p c c2 xs ys made same s t go on r there q))
    member_read d b dd z w ex ey len at o p k l xs ys made (same_elements shape) s t go on r there q =
        passed (names_length (L.field g e z) z) (names_length (M.field h b w) w) s t _ _ len (q (Number (int_of (length xs))) s t r (keeps_same s.cells) tt)

    -- a field of `this` by its simple name
    pub own_read : (d b dd : Ex) (w : List ℕ) → M.field h b w ≡ y → (at : ℕ) (o p : Option ℕ) (k l : Kind) (xs ys : List Value) → Made o k l
        → SameValues L M K Made o k l xs ys
        → (s t : State) (go on : ToValue) → R s t → slice_get s.cells at ≡ Some (cell o k xs) → KV L M K Made s.cells (K.may (held g.body d)) go on
        → Alike (read_field L g.body e d x at (cell o k xs) s go) (read_member M h b dd w l at (cell p l ys) t on)
    own_read d b dd w ey at o p k l xs ys made (same_fields {c = c} {k = c2} same) s t go on r there q =
        subst (λ i. Alike (read_field L g.body e d x at (cell o (an_object c) xs) s go) (read_field M h.body b dd i at (cell p (an_object c2) ys) t on))
        (sym ey)
        (field_read d b dd at o p c c2 xs ys made same s t go on r there q)
    own_read d b dd w ey at o p k l xs ys made (same_elements {t = v} {u = v2} shape) s t go on r there q = wrong_first s
        (read_member M h b dd w (an_array v2) at (cell p (an_array v2) xs) t on)

    -- one by its simple name in the second
    pub both_read : (d b dd : Ex) (at : ℕ) (o p : Option ℕ) (k l : Kind) (xs ys : List Value) → Made o k l → SameValues L M K Made o k l xs ys
        → (s t : State) (go on : ToValue) → R s t → slice_get s.cells at ≡ Some (cell o k xs) → KV L M K Made s.cells (K.may (held g.body d)) go on
        → Alike (read_field L g.body e d x at (cell o k xs) s go) (read_field M h.body b dd y at (cell p l ys) t on)
    both_read d b dd at o p k l xs ys made (same_fields {c = c} {k = c2} same) s t go on r there q =
        field_read d b dd at o p c c2 xs ys made same s t go on r there q
    both_read d b dd at o p k l xs ys made (same_elements {t = v} {u = v2} shape) s t go on r there q = wrong_first s
        (read_field M h.body b dd y at (cell p (an_array v2) xs) t on)

    -- and on a written `this` in the first
    pub written_read : (d b dd : Ex) (w : List ℕ) (i : ℕ) → L.field g e w ≡ x → x ≡ Some i → (at : ℕ) (o p : Option ℕ) (k l : Kind) (xs ys : List Value)
        → Made o k l → SameValues L M K Made o k l xs ys
        → (s t : State) (go on : ToValue) → R s t → slice_get s.cells at ≡ Some (cell o k xs) → KV L M K Made s.cells (K.may (held g.body d)) go on
        → Alike (read_member L g e d w k at (cell o k xs) s go) (read_field M h.body b dd y at (cell p l ys) t on)
    written_read d b dd w i ew ex at o p k l xs ys made (same_fields {c = c} {k = c2} same) s t go on r there q =
        subst (λ z. Alike (read_field L g.body e d z at (cell o (an_object c) xs) s go) (read_field M h.body b dd y at (cell p (an_object c2) ys) t on))
        (sym ew)
        (field_read d b dd at o p c c2 xs ys made same s t go on r there q)
    written_read d b dd w i ew ex at o p k l xs ys made (same_elements {t = v} {u = v2} shape) s t go on r there q =
        subst (λ z. Alike (on_bool (names_length z w) s (λ s1. go (Number (int_of (length xs))) s1) (stop Wrong))
        (read_field M h.body b dd y at (cell p (an_array v2) xs) t on)) (sym (ew ∙ ex))
        (wrong_first s (read_field M h.body b dd y at (cell p (an_array v2) xs) t on))

    pub field_write : (b : Ex) (v : Value) (at : ℕ) (o p : Option ℕ) (k l : Kind) (xs ys : List Value) → Made o k l → SameValues L M K Made o k l xs ys
        → (s t : State) (go on : State → Outcome) → R s t → slice_get s.cells at ≡ Some (cell o k xs) → KS L M K Made s.cells go on
        → Alike (write_field L g.body e x v at (cell o k xs) s go) (write_field M h.body b y v at (cell p l ys) t on)
    field_write b v at o p k l xs ys made (same_fields {c = c} {k = c2} same) s t go on r there q =
        first_some x s _ _ (λ i ei. first_some (L.field_type i) s _ _ (λ a ea. first_some (L.index c i) s _ _ (λ n en.
        first_some (slice_get xs n) s _ _ (λ old eo. looks_first (touched g.body e i) (Object at) s _ _ (λ seen.
        let j = K.new_field i in
        let had = f.had i ei o c c2 made (had_there at o c xs i s there seen) in
        let w = shape_there (L.field_type i) (M.field_type j) a (twins.field_shapes o i had) ea in
        let at2 = then_some (λ m. slice_get ys m) (M.index c2 j) old (sym (same i had) ∙ at_place L c i n xs old en eo) in
        let a2 = w.0 in let m = at2.0 in
        let u = convert a v in
        let one : u ≡ convert a2 v = same_convert v a a2 w.2 in
        second_some y j t _ _ (f.new i ei) (second_some (M.field_type j) a2 t _ _ w.1 (second_some (M.index c2 j) m t _ _ at2.1
        (second_some (slice_get ys m) old t _ _ at2.2
        (looks (touched g.body e i) (touched h.body b j) (Object at) (Object at) s t _ _ r (λ m1 n1 r1 ot.
        looks (kept o i) (kept p j) u (convert a2 v) (record s { met = m1 }) (record t { met = n1 }) _ _ r1 (λ m2 n2 r2 ov.
        subst (λ z. Alike (go (set_value at (cell o (an_object c) xs) n u (record s { met = m2 })))
        (on (set_value at (cell p (an_object c2) ys) m z (record t { met = n2 })))) one
        (q _ _ (with_set L M K Made (record s { met = m2 }) (record t { met = n2 }) at (cell o (an_object c) xs) (cell o (an_object c) (slice_set xs n u))
        (cell p (an_object c2) (slice_set ys m u)) r2 there refl
        (record {
          made = made;
          values = same_fields (fields_set L M K Made o c c2 i j n m xs ys old old u (λ c0 f0 i0 d0 e0. twins.old_places c0 f0 i i0 d0 e0)
              (λ c0 f0 i0 d0 e0. twins.new_places c0 f0 j i0 d0 e0)
              (λ f0 h0 e0. twins.fields_apart o f0 i h0 had e0) refl same en at2.1 eo at2.2);
        }))
        (keeps_set s.cells at (cell o (an_object c) xs) (cell o (an_object c) (slice_set xs n u)) there refl)))))))))))))
    field_write b v at o p k l xs ys made (same_elements {t = w} {u = w2} shape) s t go on r there q = wrong_first s
        (write_field M h.body b y v at (cell p (an_array w2) xs) t on)

  -- an element of an array
  pub element_read : (b c : ℕ) (d a : Ex) (v : Value) (i : ℤ) (s t : State) (go on : ToValue) → R s t → KV L M K Made s.cells (K.may (held b d)) go on
      → Alike (read_element L b d v i s go) (read_element M c a v i t on)
  element_read b c d a v i s t go on r q = with_cells L M K Made v s t _ _ r
      (λ at x y ev there same. read x.site y.site x.kind y.kind x.values y.values same.values)
    where
      read : (o p : Option ℕ) (k l : Kind) (xs ys : List Value) → SameValues L M K Made o k l xs ys
          → Alike (get_element L b d i (cell o k xs) s go) (get_element M c a i (cell p l ys) t on)
      read o p k l xs ys (same_fields {k = c2} same) = wrong_first s (get_element M c a i (cell p (an_object c2) ys) t on)
      read o p k l xs ys (same_elements {t = u} {u = u2} shape) =
          shapes (element_in u.base u.dim) (element_in u2.base u2.dim) s t _ _ (same_element u u2 shape) (λ w w2 ew ew2 same.
          faults L M K Made fault.Bounds (option_and_then (λ n. slice_get xs n) (natural_of i)) s t _ _ r (λ z ez. given_on b c d a z z s t go on refl r q))

  -- the test of a store has one outcome
  fitting : (u : Value) (X : Set) (w w2 : Ty) (s t : State) (go on : State → Outcome) → R s t → Of s.cells u X
      → ((q : Option ℕ) (k l : Kind) → Made q k l → X q ≡ true → L.is_sub (own_type k) w ≡ M.is_sub (own_type l) w2) → Alike (go s) (on t)
      → Alike (on_fitting L u w s go) (on_fitting M u w2 t on)
  fitting (Object a) X w w2 s t go on r o f h =
      cells_at L M K Made a s t _ _ r (λ c d ec same.
      let one = f c.site c.kind d.kind same.made (member_of s.cells a c X o ec) in
      bools (L.is_sub (own_type c.kind) w) (M.is_sub (own_type d.kind) w2) s t go _ on _ one (λ e. h) (λ e. ended L M K Made (Faulted fault.ArrayStore) s t r))
  fitting (Number n) X w w2 s t go on r o f h = h
  fitting (Truth n) X w w2 s t go on r o f h = h
  fitting (CodeUnit n) X w w2 s t go on r o f h = h
  fitting Nothing X w w2 s t go on r o f h = h
  fitting (Text n) X w w2 s t go on r o f h = h

  pub element_write : (g h : Env) (e d : Ex) → SameStore L M K Made Pair g h e d → (v : Value) (i : ℤ) (u : Value) (s t : State) (go on : State → Outcome)
      → R s t
      → Of s.cells v (K.may (spot_of g.body e)) → Of s.cells u (K.may (spot_of g.body d)) → KS L M K Made s.cells go on
      → Alike (write_element L v i u s go) (write_element M v i u t on)
  element_write g h e d store v i u s t go on r ov ou q =
      with_cells L M K Made v s t _ _ r (λ at x y ev there same. write at x.site y.site x.kind y.kind x.values y.values same.made same.values there
      (member_of s.cells at x (K.may (spot_of g.body e)) (subst (λ z. Of s.cells z (K.may (spot_of g.body e))) ev ov) there))
    where
      write : (at : ℕ) (o p : Option ℕ) (k l : Kind) (xs ys : List Value) → Made o k l → SameValues L M K Made o k l xs ys
          → slice_get s.cells at ≡ Some (cell o k xs)
          → K.may (spot_of g.body e) o ≡ true → Alike (put_element L i u at (cell o k xs) s go) (put_element M i u at (cell p l ys) t on)
      write at o p k l xs ys made (same_fields {k = c2} same) there may = wrong_first s (put_element M i u at (cell p (an_object c2) ys) t on)
      write at o p k l xs ys made (same_elements {t = a} {u = a2} shape) there may =
          shapes (element_in a.base a.dim) (element_in a2.base a2.dim) s t _ _ (same_element a a2 shape) (λ w w2 ew ew2 fits.
          faults L M K Made fault.Bounds (place_in (cell o (an_array a) xs) i) s t _ _ r (λ n en.
          let one = same_convert u w w2 fits in
          fitting u (K.may (spot_of g.body d)) w w2 s t _ _ r ou (λ z k2 l2 mz hz. store o z (an_array a) (an_array a2) k2 l2 w w2 made mz ew ew2 may hz)
          (looks (put_in o) (put_in p) (convert w u) (convert w2 u) s t _ _ r (λ m1 n1 r1 o1.
          subst (λ z. Alike (go (set_value at (cell o (an_array a) xs) n (convert w u) (record s { met = m1 })))
          (on (set_value at (cell p (an_array a2) xs) n z (record t { met = n1 })))) one
          (q _ _ (with_set L M K Made (record s { met = m1 }) (record t { met = n1 }) at (cell o (an_array a) xs)
          (cell o (an_array a) (slice_set xs n (convert w u))) (cell p (an_array a2) (slice_set xs n (convert w u)))
          r1 there refl (record { made = made; values = same_elements shape }))
          (keeps_set s.cells at (cell o (an_array a) xs) (cell o (an_array a) (slice_set xs n (convert w u))) there refl))))))

  -- a new object or array, and what goes on with it
  pub cell_there : (b c : ℕ) (d a : Ex) (x y : Cell) (s t : State) (go on : ToValue) → R s t → SameCell L M K Made x y
      → ((m n : List Met) → R (record (add_cell x s) { met = m }) (record (add_cell y t) { met = n })
      → Of (add_cell x s).cells (Object (length s.cells)) (K.may (held b d))
      → Alike (go (Object (length s.cells)) (record (add_cell x s) { met = m })) (on (Object (length s.cells)) (record (add_cell y t) { met = n })))
      → Alike (make_cell L b d x s go) (make_cell M c a y t on)
  cell_there b c d a x y s t go on r same q =
      let at = length s.cells in let at2 = length t.cells in
      looks (held b d) (held c a) (Object at) (Object at2) (add_cell x s) (add_cell y t) (λ s1. go (Object at) s1) (λ t1. on (Object at2) t1)
      (with_added L M K Made s t x y r same) (λ m n r1 o.
      subst (λ z. Alike (go (Object at) (record (add_cell x s) { met = m })) (on (Object z) (record (add_cell y t) { met = n }))) (same_length L M K Made s t r)
      (q m n r1 o))

  cell_made : (b c : ℕ) (d a : Ex) (x y : Cell) (s t : State) (go on : ToValue) → R s t → SameCell L M K Made x y
      → KV L M K Made s.cells (K.may (held b d)) go on
      → Alike (make_cell L b d x s go) (make_cell M c a y t on)
  cell_made b c d a x y s t go on r same q =
      cell_there b c d a x y s t go on r same (λ m n r1 o. q (Object (length s.cells)) _ _ r1 (keeps_add s.cells x) o)

  -- a creation without a constructor
  pub bare_made : (later next : Later) (g h : Env) (d a : Ex) (n m c k : ℕ) (vs : List Value) → SameNew L M K Made Pair n c k → (s t : State) (go on : ToValue)
      → R s t → KV L M K Made s.cells (K.may (held g.body d)) go on
      → Alike (made_by L later g d n c None vs s go) (made_by M next h a m k None vs t on)
  bare_made later next g h d a n m c k [] new s t go on r q = steps L M K Made s t _ _ r (λ l r1.
      cell_made g.body h.body d a (cell (Some n) (an_object c) (L.fresh c)) (cell (Some m) (an_object k) (M.fresh k)) (record s { left = l })
      (record t { left = l }) go on r1
      (record { made = new.made; values = same_fields new.values }) q)
  bare_made later next g h d a n m c k (v ∷ vs) new s t go on r q = wrong_first s (stop Wrong t)

  pub array_made : (g h : Env) (d a : Ex) (n m : ℕ) (v w : Ty) (size : ℤ) → SameArray L M K Made Pair n v w → (s t : State) (go on : ToValue) → R s t
      → KV L M K Made s.cells (K.may (held g.body d)) go on
      → Alike (make_array L g d n v size s go) (make_array M h a m w size t on)
  array_made g h d a n m v w size new s t go on r q =
      shapes (element_in v.base v.dim) (element_in w.base w.dim) s t _ _ (same_element v w new.shape)
      (λ x y ex ey fits. faults L M K Made fault.NegativeSize (natural_of size) s t _ _ r (λ many em.
      steps L M K Made s t _ _ r (λ l r1.
      let s1 = record s { left = l } in let t1 = record t { left = l } in
      subst (λ z. Alike (make_cell L g.body d (cell (Some n) (an_array v) (defaults x many)) s1 go)
      (make_cell M h.body a (cell (Some m) (an_array w) (replicate many z)) t1 on))
      (same_default x y fits)
      (cell_made g.body h.body d a (cell (Some n) (an_array v) (defaults x many)) (cell (Some m) (an_array w) (defaults x many)) s1 t1 go on r1
      (record { made = new.made; values = same_elements new.shape }) q))))

  -- a test of an object has one outcome
  test_at : (g h : Env) (a : Ex) (v w : Ty) → SameTest L M K Made Pair g h a v w → (c d : Cell) → SameCell L M K Made c d
      → K.may (tested g.body a (L.is_sub (own_type c.kind) v)) c.site ≡ true
      → L.is_sub (own_type c.kind) v ≡ M.is_sub (own_type d.kind) w
  test_at g h a v w f c d same = f c.site c.kind d.kind same.made

  object_cast : (g h : Env) (d a : Ex) (v w : Ty) → SameTest L M K Made Pair g h d v w → (x : Value) (s t : State) (go on : ToValue) → R s t
      → KV L M K Made s.cells (K.may (held g.body d)) go on
      → Alike (cast_object L g.body d v x s go) (cast_object M h.body a w x t on)
  object_cast g h d a v w f Nothing s t go on r q = q Nothing s t r (keeps_same s.cells) tt
  object_cast g h d a v w f (Object at) s t go on r q =
      cells_at L M K Made at s t _ _ r (λ x y ex same.
      let old = L.is_sub (own_type x.kind) v in let new = M.is_sub (own_type y.kind) w in
      looks (tested g.body d old) (tested h.body a new) (Object at) (Object at) s t _ _ r (λ m1 n1 r1 o1.
      let s1 = record s { met = m1 } in let t1 = record t { met = n1 } in
      bools old new s1 t1 _ _ _ _ (test_at g h d v w f x y same (member_of s.cells at x (K.may (tested g.body d old)) o1 ex))
      (λ e. given_on g.body h.body d a (Object at) (Object at) s1 t1 go on refl r1 q) (λ e. ended L M K Made (Faulted fault.ClassCast) s1 t1 r1)))
  object_cast g h d a v w f (Number n) s t go on r q = wrong_first s (stop Wrong t)
  object_cast g h d a v w f (Truth n) s t go on r q = wrong_first s (stop Wrong t)
  object_cast g h d a v w f (CodeUnit n) s t go on r q = wrong_first s (stop Wrong t)
  object_cast g h d a v w f (Text n) s t go on r q = wrong_first s (stop Wrong t)

  pub cast_done : (g h : Env) (d a : Ex) (v w : Ty) → shape_of v ≡ shape_of w → (is_number_type v.base v.dim ≡ false → SameTest L M K Made Pair g h d v w)
      → (x : Value) (s t : State) (go on : ToValue) → R s t → KV L M K Made s.cells (K.may (held g.body d)) go on
      → Alike (cast_to L g.body d v x s go) (cast_to M h.body a w x t on)
  cast_done g h d a v w shape f x s t go on r q =
      bools (is_number_type v.base v.dim) (is_number_type w.base w.dim) s t _ _ _ _ (same_number_type v w shape)
      (λ e. equals (number_of x) (number_of x) s t _ _ refl (λ n.
      subst (λ z. Alike (go (cast_number v.base n) s) (on z t)) (same_cast_number n v w shape)
      (q (cast_number v.base n) s t r (keeps_same s.cells) (cast_plain v.base n s.cells (K.may (held g.body d))))))
      (λ e. object_cast g h d a v w (f e) x s t go on r q)

  pub class_tested : (g h : Env) (d a : Ex) (v w : ℕ) (X : Set) → SameTest L M K Made Pair g h d (class_type v) (class_type w)
      → (x : Value) (s t : State) (go on : ToValue) → R s t → KV L M K Made s.cells X go on
      → Alike (test_class L g.body d v x s go) (test_class M h.body a w x t on)
  class_tested g h d a v w X f Nothing s t go on r q = q (Truth false) s t r (keeps_same s.cells) tt
  class_tested g h d a v w X f (Object at) s t go on r q =
      cells_at L M K Made at s t _ _ r (λ x y ex same.
      let old = L.is_sub (own_type x.kind) (class_type v) in let new = M.is_sub (own_type y.kind) (class_type w) in
      looks (tested g.body d old) (tested h.body a new) (Object at) (Object at) s t _ _ r (λ m1 n1 r1 o1.
      subst (λ z. Alike (go (Truth old) (record s { met = m1 })) (on (Truth z) (record t { met = n1 })))
      (test_at g h d (class_type v) (class_type w) f x y same (member_of s.cells at x (K.may (tested g.body d old)) o1 ex))
      (q (Truth old) _ _ r1 (keeps_same s.cells) tt)))
  class_tested g h d a v w X f (Number n) s t go on r q = wrong_first s (stop Wrong t)
  class_tested g h d a v w X f (Truth n) s t go on r q = wrong_first s (stop Wrong t)
  class_tested g h d a v w X f (CodeUnit n) s t go on r q = wrong_first s (stop Wrong t)
  class_tested g h d a v w X f (Text n) s t go on r q = wrong_first s (stop Wrong t)
