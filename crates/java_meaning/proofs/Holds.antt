-- Values of types: what each holds, and what follows of a value from the tests that typing makes of its static type.
use Rattle.std.proofs.Common.{◌≡◌, ℕ, zero, suc, List, Option, Some, None, refl, sym, ap, ◌∙◌, subst, ⊎_elim, arith}
use Rattle.std.specs.Prelude.{ℤ, pos, Bool, true, false, not, ◌==◌, ◌&&◌, ◌||◌, slice_get}
use Rattle.std.specs.Option.{is_some}
use Rattle.std.proofs.lemmas.Bool.{or_cases, false≢true, eqb-true, eq-eqb, and_parts, and_from}
use Rattle.java_core.specs.declared.Ty.{Ty}
use Rattle.java_core.specs.declared.TyBase.{TyBase}
use Rattle.java_core.specs.declared.TyBase.TheVariants.{Int, Boolean, Char, Str, Class}
use Rattle.java_core.specs.Programs.{Plain}
use Rattle.java_core.specs.Classes.{below}
use Rattle.java_core.specs.Types.{Static, a_value, null_value, no_value, plain_type, is_base, is_only, is_numeric, is_boolean, is_string, is_printable, is_class, is_object, is_reference, is_sub_base, is_subtype, fits, are_comparable}
use Rattle.java_meaning.specs.Moment.{Value, Number, Truth, CodeUnit, Nothing, Text, Object, Cell, State, own_type}
use Rattle.java_meaning.specs.Values.{default_in, default_of, convert, number_of, text_of, same_bool, same_value}
use Rattle.std.specs.Ordering.{int_eq}

-- the cells and the strings of a state
pub record Heap : Type 0 where
  pub cells : List Cell
  pub strings : List (List ℕ)

abbrev pub heap_of : State → Heap
heap_of s = record { cells = s.cells; strings = s.strings }

pub some_there : {A : Type 0} (o : Option A) → is_some o ≡ true → (a : A) × (o ≡ Some a)
some_there None e = absurd (false≢true e)
some_there (Some a) e = (a, refl)

same_base : (b c : TyBase) → is_class b ≡ false → is_base b c ≡ true → b ≡ c
same_base Int Int p q = refl
same_base Boolean Boolean p q = refl
same_base Char Char p q = refl
same_base Str Str p q = refl
same_base (Class a) c p q = absurd (false≢true (sym p))
same_base _ _ p q = absurd (false≢true q)

abbrev type : TyBase → ℕ → Ty
type b d = record { base = b; dim = d }

flat_type : (b c : TyBase) (d : ℕ) → b ≡ c → d ≡ 0 → plain_type b ≡ record { base = c; dim = d }
flat_type b c d e f = subst (λ z. plain_type b ≡ record { base = c; dim = z }) (sym f) (ap (λ z. plain_type z) e)

-- a type that passes the test of a base is that base without brackets
pub only_is : (b : TyBase) (t : Ty) → is_class t.base ≡ false → is_only b (a_value t) ≡ true → plain_type b ≡ t
only_is b t c p = let q = and_parts (is_base t.base b) (t.dim == 0) p in flat_type b t.base t.dim (sym (same_base t.base b c q.0)) (eqb-true t.dim 0 q.1)

no_class : (b c : TyBase) → is_class c ≡ false → is_base b c ≡ true → is_class b ≡ false
no_class Int c p q = refl
no_class Boolean c p q = refl
no_class Char c p q = refl
no_class Str c p q = refl
no_class (Class a) (Class c) p q = absurd (false≢true (sym p))
no_class (Class a) Int p q = absurd (false≢true q)
no_class (Class a) Boolean p q = absurd (false≢true q)
no_class (Class a) Char p q = absurd (false≢true q)
no_class (Class a) Str p q = absurd (false≢true q)

pub only_type : (b : TyBase) (t : Ty) → is_class b ≡ false → is_only b (a_value t) ≡ true → plain_type b ≡ t
only_type b t c p = only_is b t (no_class t.base b c (and_parts (is_base t.base b) (t.dim == 0) p).0) p

-- no number or boolean is a reference, and no number, boolean or string an object
apart : (b : TyBase) (t : Ty) (test : Ty → Bool) → is_class b ≡ false → test (plain_type b) ≡ false → is_only b (a_value t) ≡ true → test t ≡ true → ⊥
apart b t test c f p q = false≢true (sym f ∙ ap test (only_type b t c p) ∙ q)

numeric_apart : (t : Ty) (test : Ty → Bool) → test (plain_type Int) ≡ false → test (plain_type Char) ≡ false → is_numeric (a_value t) ≡ true → test t ≡ true → ⊥
numeric_apart t test e d p q = ⊎_elim (λ h. apart Int t test refl e h q) (λ h. apart Char t test refl d h q)
    (or_cases (is_only Int (a_value t)) (is_only Char (a_value t)) p)

module _ (P : Plain) where
  -- a value is one of the type that an expression has
  pub data Holds (h : Heap) : Value → Static → Type 0 where
    holds_number : {n : ℤ} → Holds h (Number n) (a_value (plain_type Int))
    holds_truth : {b : Bool} → Holds h (Truth b) (a_value (plain_type Boolean))
    holds_unit : {c : ℕ} → Holds h (CodeUnit c) (a_value (plain_type Char))
    holds_text : {a : ℕ} {u : List ℕ} → slice_get h.strings a ≡ Some u → Holds h (Text a) (a_value (plain_type Str))
    holds_null : {t : Ty} → is_reference t ≡ true → Holds h Nothing (a_value t)
    holds_object : {a : ℕ} {t : Ty} {c : Cell} → slice_get h.cells a ≡ Some c → is_object t ≡ true → is_subtype P (own_type c.kind) t ≡ true
        → Holds h (Object a) (a_value t)
    holds_nothing : Holds h Nothing null_value
    holds_any : {v : Value} → Holds h v no_value

  -- cells keep what they are, and strings stay
  pub record Grows (h k : Heap) : Type 0 where
    pub cells : (a : ℕ) (c : Cell) → slice_get h.cells a ≡ Some c → (d : Cell) × (slice_get k.cells a ≡ Some d) × (d.kind ≡ c.kind)
    pub strings : (a : ℕ) (u : List ℕ) → slice_get h.strings a ≡ Some u → slice_get k.strings a ≡ Some u

  pub grows_same : (h : Heap) → Grows h h
  grows_same h = record { cells = λ a c e. (c, e, refl); strings = λ a u e. e }

  pub grows_on : (h k l : Heap) → Grows h k → Grows k l → Grows h l
  grows_on h k l p q = record {
    cells = λ a c e. let d = p.cells a c e in let f = q.cells a d.0 d.1 in (f.0, f.1, f.2 ∙ d.2);
    strings = λ a u e. q.strings a u (p.strings a u e);
  }

  pub grown : {h k : Heap} {v : Value} {s : Static} → Grows h k → Holds h v s → Holds k v s
  grown g holds_number = holds_number
  grown g holds_truth = holds_truth
  grown g holds_unit = holds_unit
  grown g (holds_text e) = holds_text (g.strings _ _ e)
  grown g (holds_null e) = holds_null e
  grown g (holds_object {t = t} there e sub) = let d = g.cells _ _ there in holds_object d.1 e (ap (λ x. is_subtype P (own_type x) t) d.2 ∙ sub)
  grown g holds_nothing = holds_nothing
  grown g holds_any = holds_any

  -- what the tests of typing say of values
  pub number_held : {h : Heap} {v : Value} {s : Static} → Holds h v s → is_numeric s ≡ true → (n : ℤ) × (number_of v ≡ Some n)
  number_held (holds_number {n = n}) p = (n, refl)
  number_held holds_truth p = absurd (false≢true p)
  number_held (holds_unit {c = c}) p = (pos c, refl)
  number_held (holds_text e) p = absurd (false≢true p)
  number_held (holds_null {t = t} e) p = absurd (numeric_apart t is_reference refl refl p e)
  number_held (holds_object {t = t} there e sub) p = absurd (numeric_apart t is_object refl refl p e)
  number_held holds_nothing p = absurd (false≢true p)
  number_held holds_any p = absurd (false≢true p)

  pub truth_held : {h : Heap} {v : Value} {s : Static} → Holds h v s → is_boolean s ≡ true → (b : Bool) × (v ≡ Truth b)
  truth_held holds_number p = absurd (false≢true p)
  truth_held (holds_truth {b = b}) p = (b, refl)
  truth_held holds_unit p = absurd (false≢true p)
  truth_held (holds_text e) p = absurd (false≢true p)
  truth_held (holds_null {t = t} e) p = absurd (apart Boolean t is_reference refl refl p e)
  truth_held (holds_object {t = t} there e sub) p = absurd (apart Boolean t is_object refl refl p e)
  truth_held holds_nothing p = absurd (false≢true p)
  truth_held holds_any p = absurd (false≢true p)

  -- a string or null
  pub data IsText (h : Heap) : Value → Type 0 where
    text_null : IsText h Nothing
    text_there : {a : ℕ} {u : List ℕ} → slice_get h.strings a ≡ Some u → IsText h (Text a)

  pub text_held : {h : Heap} {v : Value} {s : Static} → Holds h v s → is_string s ≡ true → IsText h v
  text_held holds_number p = absurd (false≢true p)
  text_held holds_truth p = absurd (false≢true p)
  text_held holds_unit p = absurd (false≢true p)
  text_held (holds_text e) p = text_there e
  text_held (holds_null {t = t} e) p = text_null
  text_held (holds_object {t = t} there e sub) p = absurd (apart Str t is_object refl refl p e)
  text_held holds_nothing p = absurd (false≢true p)
  text_held holds_any p = absurd (false≢true p)

  printable_apart : (t : Ty) → is_printable (a_value t) ≡ true → is_object t ≡ true → ⊥
  printable_apart t p q =
      ⊎_elim (λ n. numeric_apart t is_object refl refl n q)
      (λ o. ⊎_elim (λ b. apart Boolean t is_object refl refl b q) (λ u. apart Str t is_object refl refl u q)
      (or_cases (is_boolean (a_value t)) (is_string (a_value t)) o))
      (or_cases (is_numeric (a_value t)) (is_boolean (a_value t) || is_string (a_value t)) p)

  pub units_held : {h : Heap} {v : Value} {s : Static} → Holds h v s → is_printable s ≡ true → (u : List ℕ) × (text_of h.strings v ≡ Some u)
  units_held holds_number p = (_, refl)
  units_held holds_truth p = (_, refl)
  units_held holds_unit p = (_, refl)
  units_held (holds_text {u = u} e) p = (u, e)
  units_held (holds_null e) p = (_, refl)
  units_held (holds_object {t = t} there e sub) p = absurd (printable_apart t p e)
  units_held holds_nothing p = (_, refl)
  units_held holds_any p = absurd (false≢true p)

  -- null, an object or a string
  pub data IsReference : Value → Type 0 where
    ref_null : IsReference Nothing
    ref_object : {a : ℕ} → IsReference (Object a)
    ref_text : {a : ℕ} → IsReference (Text a)

  pub reference_held : {h : Heap} {v : Value} {t : Ty} → Holds h v (a_value t) → is_reference t ≡ true → IsReference v
  reference_held holds_number p = absurd (false≢true p)
  reference_held holds_truth p = absurd (false≢true p)
  reference_held holds_unit p = absurd (false≢true p)
  reference_held (holds_text e) p = ref_text
  reference_held (holds_null e) p = ref_null
  reference_held (holds_object there e sub) p = ref_object

  pub data IsObject : Value → Type 0 where
    obj_null : IsObject Nothing
    obj_object : {a : ℕ} → IsObject (Object a)

  pub object_held : {h : Heap} {v : Value} {t : Ty} → Holds h v (a_value t) → is_object t ≡ true → IsObject v
  object_held holds_number p = absurd (false≢true p)
  object_held holds_truth p = absurd (false≢true p)
  object_held holds_unit p = absurd (false≢true p)
  object_held (holds_text e) p = absurd (false≢true p)
  object_held (holds_null e) p = obj_null
  object_held (holds_object there e sub) p = obj_object

  pub null_held : {h : Heap} {v : Value} → Holds h v null_value → v ≡ Nothing
  null_held holds_nothing = refl

  same_objects : {v w : Value} → IsObject v → IsObject w → (b : Bool) × (same_value v w ≡ Some b)
  same_objects obj_null obj_null = (_, refl)
  same_objects obj_null obj_object = (_, refl)
  same_objects obj_object obj_null = (_, refl)
  same_objects obj_object obj_object = (_, refl)

  same_null : {v : Value} → IsReference v → ((b : Bool) × (same_value v Nothing ≡ Some b)) × ((b : Bool) × (same_value Nothing v ≡ Some b))
  same_null ref_null = ((_, refl), (_, refl))
  same_null ref_object = ((_, refl), (_, refl))
  same_null ref_text = ((_, refl), (_, refl))

  -- what `==` compares is the same or not
  pub comparable_held : {h : Heap} {v w : Value} (s t : Static) → Holds h v s → Holds h w t → are_comparable P s t ≡ true → (b : Bool)
      × (same_value v w ≡ Some b)
  comparable_held {v = v} {w = w} (a_value s) (a_value t) p q e =
      ⊎_elim (λ n. let d = and_parts (is_numeric (a_value s)) (is_numeric (a_value t)) n in numbers (number_held p d.0) (number_held q d.1))
      (λ o. ⊎_elim (λ b. let d = and_parts (is_boolean (a_value s)) (is_boolean (a_value t)) b in truths (truth_held p d.0) (truth_held q d.1))
      (λ r. let d = and_parts (is_object s && is_object t) (is_subtype P s t || is_subtype P t s) r in let f = and_parts (is_object s) (is_object t)
      d.0 in same_objects (object_held p f.0) (object_held q f.1))
      (or_cases (is_boolean (a_value s) && is_boolean (a_value t)) ((is_object s && is_object t) && (is_subtype P s t || is_subtype P t s)) o))
      (or_cases (is_numeric (a_value s) && is_numeric (a_value t)) ((is_boolean (a_value s) && is_boolean (a_value t)) ||
      ((is_object s && is_object t) && (is_subtype P s t || is_subtype P t s))) e)
    where
      numbers : ((m : ℤ) × (number_of v ≡ Some m)) → ((n : ℤ) × (number_of w ≡ Some n)) → (b : Bool) × (same_value v w ≡ Some b)
      numbers (m, a) (n, b) = (int_eq m n, rw (a, b) refl)

      truths : ((m : Bool) × (v ≡ Truth m)) → ((n : Bool) × (w ≡ Truth n)) → (b : Bool) × (same_value v w ≡ Some b)
      truths (m, a) (n, b) = (same_bool m n, rw (a, b) refl)
  comparable_held {v = v} {w = w} (a_value s) null_value p q e = subst (λ z. (b : Bool) × (same_value v z ≡ Some b)) (sym (null_held q))
      (same_null (reference_held p e)).0
  comparable_held (a_value s) no_value p q e = absurd (false≢true e)
  comparable_held {v = v} {w = w} null_value (a_value t) p q e = subst (λ z. (b : Bool) × (same_value z w ≡ Some b)) (sym (null_held p))
      (same_null (reference_held q e)).1
  comparable_held {v = v} {w = w} null_value null_value p q e = (true, rw (null_held p, null_held q) refl)
  comparable_held null_value no_value p q e = absurd (false≢true e)
  comparable_held no_value t p q e = absurd (false≢true e)

  -- subtypes are references and objects alike
  sub_alike : (b c : TyBase) → is_sub_base P b c ≡ true → (is_class b ≡ is_class c) × (is_base b Str ≡ is_base c Str)
  sub_alike (Class a) (Class c) p = (refl, refl)
  sub_alike (Class a) Int p = absurd (false≢true p)
  sub_alike (Class a) Boolean p = absurd (false≢true p)
  sub_alike (Class a) Char p = absurd (false≢true p)
  sub_alike (Class a) Str p = absurd (false≢true p)
  sub_alike Int Int p = (refl, refl)
  sub_alike Boolean Boolean p = (refl, refl)
  sub_alike Char Char p = (refl, refl)
  sub_alike Str Str p = (refl, refl)
  sub_alike _ _ p = absurd (false≢true p)

  pub sub_parts : (s t : Ty) → is_subtype P s t ≡ true → (s.dim ≡ t.dim) × (is_sub_base P s.base t.base ≡ true)
  sub_parts s t p = let q = and_parts (s.dim == t.dim) (is_sub_base P s.base t.base) p in (eqb-true s.dim t.dim q.0, q.1)

  pub of_parts : (s t : Ty) → s.dim ≡ t.dim → is_sub_base P s.base t.base ≡ true → is_subtype P s t ≡ true
  of_parts s t e d = and_from (s.dim == t.dim) (is_sub_base P s.base t.base) (eq-eqb s.dim t.dim e) d

  pub sub_object : (s t : Ty) → is_subtype P s t ≡ true → is_object s ≡ true → is_object t ≡ true
  sub_object s t p e = let q = sub_parts s t p in subst (λ z. not (z == 0) || is_class t.base ≡ true) q.0 (subst (λ z. not (s.dim == 0) || z ≡ true)
      (sub_alike s.base t.base q.1).0 e)

  pub sub_reference : (s t : Ty) → is_subtype P s t ≡ true → is_reference s ≡ true → is_reference t ≡ true
  sub_reference s t p e = let q = sub_parts s t p in
      subst (λ z. (not (z == 0) || is_class t.base) || is_base t.base Str ≡ true) q.0 (subst (λ z. (not (s.dim == 0) || z) || is_base t.base Str
      ≡ true) (sub_alike s.base t.base q.1).0
      (subst (λ z. (not (s.dim == 0) || is_class s.base) || z ≡ true) (sub_alike s.base t.base q.1).1 e))

  sub_flat : (b : TyBase) (t : Ty) → is_class b ≡ false → ((0 == t.dim) && is_base b t.base) ≡ true → plain_type b ≡ t
  sub_flat b t c p = let q = and_parts (0 == t.dim) (is_base b t.base) p in flat_type b t.base t.dim (same_base b t.base c q.1) (sym (eqb-true 0 t.dim q.0))

  same_class_base : (a b : TyBase) → is_class a ≡ false → is_sub_base P a b ≡ true → a ≡ b
  same_class_base Int b p q = same_base Int b refl q
  same_class_base Boolean b p q = same_base Boolean b refl q
  same_class_base Char b p q = same_base Char b refl q
  same_class_base Str b p q = same_base Str b refl q
  same_class_base (Class a) b p q = absurd (false≢true (sym p))

  -- and back: what is below a type without class is that type
  sub_reference_back : (s t : Ty) → is_subtype P s t ≡ true → is_reference t ≡ true → is_reference s ≡ true
  sub_reference_back s t p e = let q = sub_parts s t p in
      subst (λ z. (not (z == 0) || is_class s.base) || is_base s.base Str ≡ true) (sym q.0) (subst (λ z. (not (t.dim == 0) || z) || is_base s.base Str
      ≡ true) (sym (sub_alike s.base t.base q.1).0)
      (subst (λ z. (not (t.dim == 0) || is_class t.base) || z ≡ true) (sym (sub_alike s.base t.base q.1).1) e))

  sub_back : (s t : Ty) → is_subtype P s t ≡ true → is_class t.base ≡ false → s ≡ t
  sub_back s t p c = let q = sub_parts s t p in
      pair s.base t.base s.dim t.dim (same_class_base s.base t.base ((sub_alike s.base t.base q.1).0 ∙ c) q.1) q.0
    where
      pair : (a b : TyBase) (d e : ℕ) → a ≡ b → d ≡ e → type a d ≡ type b e
      pair a b d e x y = subst (λ z. type a d ≡ type b z) y (ap (λ z. type z d) x)

  -- the default of a type is one of its values
  default_holds : (h : Heap) (b : TyBase) (d : ℕ) → Holds h (default_in b d) (a_value (record { base = b; dim = d }))
  default_holds h Int zero = holds_number
  default_holds h Boolean zero = holds_truth
  default_holds h Char zero = holds_unit
  default_holds h Str zero = holds_null refl
  default_holds h (Class c) zero = holds_null refl
  default_holds h b (suc d) = holds_null (rw (deep d) refl)
    where
      deep : (d : ℕ) → (suc d == 0) ≡ false
      deep d = grind arith

  pub default_held : (h : Heap) (t : Ty) → Holds h (default_of t) (a_value t)
  default_held h t = default_holds h t.base t.dim

  module _ (above_all : (c d e : ℕ) → below P c d ≡ true → below P d e ≡ true → below P c e ≡ true) where
    base_all : (a b c : TyBase) → is_sub_base P a b ≡ true → is_sub_base P b c ≡ true → is_sub_base P a c ≡ true
    base_all (Class a) (Class b) (Class c) p q = above_all a.0 b.0 c.0 p q
    base_all (Class a) (Class b) Int p q = absurd (false≢true q)
    base_all (Class a) (Class b) Boolean p q = absurd (false≢true q)
    base_all (Class a) (Class b) Char p q = absurd (false≢true q)
    base_all (Class a) (Class b) Str p q = absurd (false≢true q)
    base_all (Class a) Int c p q = absurd (false≢true p)
    base_all (Class a) Boolean c p q = absurd (false≢true p)
    base_all (Class a) Char c p q = absurd (false≢true p)
    base_all (Class a) Str c p q = absurd (false≢true p)
    base_all Int b c p q = subst (λ z. is_sub_base P z c ≡ true) (sym (same_base Int b refl p)) q
    base_all Boolean b c p q = subst (λ z. is_sub_base P z c ≡ true) (sym (same_base Boolean b refl p)) q
    base_all Char b c p q = subst (λ z. is_sub_base P z c ≡ true) (sym (same_base Char b refl p)) q
    base_all Str b c p q = subst (λ z. is_sub_base P z c ≡ true) (sym (same_base Str b refl p)) q

    pub sub_all : (s t u : Ty) → is_subtype P s t ≡ true → is_subtype P t u ≡ true → is_subtype P s u ≡ true
    sub_all s t u p q = let a = sub_parts s t p in let b = sub_parts t u q in of_parts s u (a.0 ∙ b.0) (base_all s.base t.base u.base a.1 b.1)

    char_flows : {h : Heap} (c : ℕ) (t : Ty) → fits P (a_value (plain_type Char)) t ≡ true → Holds h (convert t (CodeUnit c)) (a_value t)
    char_flows {h = h} c t p =
        ⊎_elim (λ e. subst (λ u. Holds h (convert u (CodeUnit c)) (a_value u)) (sub_flat Char t refl e) holds_unit)
        (λ e. subst (λ u. Holds h (convert u (CodeUnit c)) (a_value u)) (only_type Int t refl e) holds_number)
        (or_cases (is_subtype P (plain_type Char) t) (is_only Int (a_value t)) p)

    -- a value that flows into what its type fits
    pub flows : {h : Heap} {v : Value} {s : Static} (t : Ty) → Holds h v s → fits P s t ≡ true → Holds h (convert t v) (a_value t)
    flows {h = h} t (holds_number {n = n}) p =
        ⊎_elim (λ e. subst (λ u. Holds h (Number n) (a_value u)) (sub_flat Int t refl e) holds_number) (λ e. absurd (false≢true e))
        (or_cases (is_subtype P (plain_type Int) t) false p)
    flows {h = h} t (holds_truth {b = b}) p =
        ⊎_elim (λ e. subst (λ u. Holds h (Truth b) (a_value u)) (sub_flat Boolean t refl e) holds_truth) (λ e. absurd (false≢true e))
        (or_cases (is_subtype P (plain_type Boolean) t) false p)
    flows t (holds_unit {c = c}) p = char_flows c t p
    flows {h = h} t (holds_text {a = a} there) p =
        ⊎_elim (λ e. subst (λ u. Holds h (Text a) (a_value u)) (sub_flat Str t refl e) (holds_text there)) (λ e. absurd (false≢true e))
        (or_cases (is_subtype P (plain_type Str) t) false p)
    flows t (holds_null {t = s} r) p =
        ⊎_elim (λ e. holds_null (sub_reference s t e r))
        (λ e. absurd (apart Char s is_reference refl refl (and_parts (is_only Char (a_value s)) (is_only Int (a_value t)) e).0 r))
        (or_cases (is_subtype P s t) (is_only Char (a_value s) && is_only Int (a_value t)) p)
    flows t (holds_object {t = s} {c = c} there r sub) p =
        ⊎_elim (λ e. holds_object there (sub_object s t e r) (sub_all (own_type c.kind) s t sub e))
        (λ e. absurd (apart Char s is_object refl refl (and_parts (is_only Char (a_value s)) (is_only Int (a_value t)) e).0 r))
        (or_cases (is_subtype P s t) (is_only Char (a_value s) && is_only Int (a_value t)) p)
    flows t holds_nothing p = holds_null p
    flows t holds_any p = absurd (false≢true p)

    -- a value of a type is one of the types above it
    pub sub_held : {h : Heap} {v : Value} {s : Ty} (t : Ty) → Holds h v (a_value s) → is_subtype P s t ≡ true → Holds h v (a_value t)
    sub_held {h = h} t (holds_number {n = n}) e = subst (λ u. Holds h (Number n) (a_value u)) (sub_flat Int t refl e) holds_number
    sub_held {h = h} t (holds_truth {b = b}) e = subst (λ u. Holds h (Truth b) (a_value u)) (sub_flat Boolean t refl e) holds_truth
    sub_held {h = h} t (holds_unit {c = c}) e = subst (λ u. Holds h (CodeUnit c) (a_value u)) (sub_flat Char t refl e) holds_unit
    sub_held {h = h} t (holds_text {a = a} there) e = subst (λ u. Holds h (Text a) (a_value u)) (sub_flat Str t refl e) (holds_text there)
    sub_held t (holds_null {t = s} r) e = holds_null (sub_reference s t e r)
    sub_held t (holds_object {t = s} {c = c} there r sub) e = holds_object there (sub_object s t e r) (sub_all (own_type c.kind) s t sub e)

    flat_fits : (b : TyBase) (u : Ty) → is_class b ≡ false → fits P (a_value (plain_type b)) u ≡ true → is_sub_base P b u.base ≡ is_base b u.base
        → is_class u.base ≡ false
    flat_fits b u c p same =
        ⊎_elim (λ e. ap (λ z. is_class z.base) (sym (sub_flat b u c (ap (λ z. (0 == u.dim) && z) (sym same) ∙ e))) ∙ c)
        (λ e. ap (λ z. is_class z.base) (sym (only_type Int u refl (and_parts (is_only Char (a_value (plain_type b))) (is_only Int (a_value u)) e).1)))
        (or_cases (is_subtype P (plain_type b) u) (is_only Char (a_value (plain_type b)) && is_only Int (a_value u)) p)

    -- what is no object, of a static type that fits u, is stored into elements whose type is at or below u
    abbrev pub NoObject : Value → Type 0
    NoObject (Object a) = ⊥
    NoObject v = Unit {0}

    pub stored : {h : Heap} {w : Value} {s : Static} (e u : Ty) → Holds h w s → fits P s u ≡ true → is_subtype P e u ≡ true → NoObject w
        → Holds h (convert e w) (a_value e)
    stored {h = h} {w = w} e u holds_number p q n =
        subst (λ z. Holds h (convert z w) (a_value z)) (sym (sub_back e u q (flat_fits Int u refl p refl))) (flows u holds_number p)
    stored {h = h} {w = w} e u holds_truth p q n =
        subst (λ z. Holds h (convert z w) (a_value z)) (sym (sub_back e u q (flat_fits Boolean u refl p refl))) (flows u holds_truth p)
    stored {h = h} {w = w} e u holds_unit p q n = subst (λ z. Holds h (convert z w) (a_value z)) (sym (sub_back e u q (flat_fits Char u refl p refl)))
        (flows u holds_unit p)
    stored {h = h} {w = w} e u (holds_text x) p q n =
        subst (λ z. Holds h (convert z w) (a_value z)) (sym (sub_back e u q (flat_fits Str u refl p refl))) (flows u (holds_text x) p)
    stored e u (holds_null {t = s} r) p q n =
        ⊎_elim (λ d. holds_null (sub_reference_back e u q (sub_reference s u d r)))
        (λ d. absurd (apart Char s is_reference refl refl (and_parts (is_only Char (a_value s)) (is_only Int (a_value u)) d).0 r))
        (or_cases (is_subtype P s u) (is_only Char (a_value s) && is_only Int (a_value u)) p)
    stored e u (holds_object there r sub) p q n = absurd n
    stored e u holds_nothing p q n = holds_null (sub_reference_back e u q p)
    stored e u holds_any p q n = absurd (false≢true p)
