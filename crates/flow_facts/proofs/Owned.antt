-- The fields at or above a class, found along its superclasses and put in the order of their columns.
use Rattle.std.proofs.Common.{◌≡◌, ℕ, zero, suc, ◌+◌, ◌<◌, ◌≤◌, Bool, true, false, cond, List, [], ◌∷◌, ◌++◌, length, map, get_or, refl, sym, ap, ◌∙◌, subst, arith}
use mathlib.Core.Path.{fun_ext}
use Rattle.std.specs.Prelude.{◌==◌, ◌||◌, filter, Option, Some, None, slice_get, slice_set, slice_index_or, option_and_then, Contains}
use Rattle.std.specs.Option.{option_map_or, option_to_list}
use Rattle.std.specs.List.{flat_map, list_any}
use Rattle.std.proofs.lemmas.Bool.{eqb-true, eq-eqb, ne_eqb, lt-ltb, le-ltb, false≢true}
use Rattle.std.proofs.Common.{length-append}
use Rattle.std.proofs.lemmas.List.{append_assoc, append-nil}
use Rattle.std.proofs.lemmas.List.Folds.{list_any-append}
use Rattle.kaba_base.specs.declared.ClassId.{ClassId}
use Rattle.java_core.specs.Programs.{Plain, PlainClass}
use Rattle.java_core.specs.Classes.{parent_of, faces_of, supers_of, is_interface, reaches, below}
use Rattle.java_core.specs.Formed.{IsFormed}
use Rattle.java_core.proofs.Subclasses.{reaches-subclass, parent-super}
use Rattle.flow_rules.specs.Ordered.{put_in, by_place, when}
use Rattle.flow_rules.specs.Facts.{FieldCell, field_cell}
use Rattle.std.specs.declared.vec.Vec.{Vec}
use Rattle.std.specs.declared.alloc.Global.{Global}
use Rattle.flow_facts.specs.declared.cells.FieldCell as code
use Rattle.flow_facts.specs.Owned.{IsHolder, AreFieldsListed, own_of, own_at, upwards, cell_of}
use Rattle.flow_facts.specs.Seen.{field_cell_seen}

-- tests and lists
pub or_none : (b : Bool) → (b || false) ≡ b
or_none true = refl
or_none false = refl

or_both : {a b : Bool} → a ≡ false → b ≡ false → (a || b) ≡ false
or_both {b = b} e h = ap (λ x. x || b) e ∙ h

any_none : {A : Type 0} (f : A → Bool) (xs : List A) → ((x : A) → Contains xs x → f x ≡ false) → list_any f xs ≡ false
any_none f [] h = refl
any_none f (x ∷ xs) h = or_both (h x (0, omega arith, refl)) (any_none f xs (λ y c. h y (suc c.0, omega (arith, c.1), c.2)))

abbrev put_all : List FieldCell → List FieldCell → List FieldCell
put_all [] l = l
put_all (x ∷ xs) l = put_in (λ f. f.column) x (put_all xs l)

sorted_both : (xs ys : List FieldCell) → by_place (λ f. f.column) (xs ++ ys) ≡ put_all xs (by_place (λ f. f.column) ys)
sorted_both [] ys = refl
sorted_both (x ∷ xs) ys = ap (put_in (λ f. f.column) x) (sorted_both xs ys)

filter_nothing : (fs : List FieldCell) → filter (λ f. false) fs ≡ []
filter_nothing [] = refl
filter_nothing (f ∷ fs) = filter_nothing fs

module _ (P : Plain) where
  -- what is reached within n steps, the first of which is to a superclass
  abbrev pub within : ℕ → Option ClassId → ℕ → Bool
  within zero x o = false
  within (suc n) None o = false
  within (suc n) (Some c) o = reaches P n c.0 o

  pub listed_lower : (m n : ℕ) (fs : List FieldCell) → m ≤ n → AreFieldsListed P n fs → AreFieldsListed P m fs
  listed_lower m n [] le h = tt
  listed_lower m n (f ∷ fs) le h = (omega (arith, le, h.0), h.1)

  -- one before all that are kept of later ones
  first : (x : FieldCell) (r : FieldCell → Bool) (fs : List FieldCell) → AreFieldsListed P (x.column + 1) fs → put_in (λ f. f.column) x (filter r fs)
      ≡ x ∷ filter r fs
  first x r [] h = refl
  first x r (g ∷ gs) h =
      let late = first x r gs (listed_lower (x.column + 1) (g.column + 1) gs (omega (arith, h.0)) h.1.1) in
      elim (r g) as (λ b. put_in (λ f. f.column) x (cond b (g ∷ filter r gs) (filter r gs)) ≡ x ∷ cond b (g ∷ filter r gs) (filter r gs)) [
        | true ↦ ap (λ b. cond b (g ∷ put_in (λ f. f.column) x (filter r gs)) (x ∷ (g ∷ filter r gs))) (le-ltb g.column x.column (omega (arith, h.0)))
        | false ↦ late
      ]

  -- later ones go behind one
  behind : (x : FieldCell) (l : List FieldCell) (p : FieldCell → Bool) (fs : List FieldCell) → AreFieldsListed P (x.column + 1) fs
      → put_all (filter p fs) (x ∷ l) ≡ x ∷ put_all (filter p fs) l
  behind x l p [] h = refl
  behind x l p (g ∷ gs) h =
      let late = behind x l p gs (listed_lower (x.column + 1) (g.column + 1) gs (omega (arith, h.0)) h.1.1) in
      elim (p g) as (λ b. put_all (cond b (g ∷ filter p gs) (filter p gs)) (x ∷ l) ≡ x ∷ put_all (cond b (g ∷ filter p gs) (filter p gs)) l) [
        | true ↦ ap (put_in (λ f. f.column) g) late
            ∙ ap (λ b. cond b (x ∷ put_in (λ f. f.column) g (put_all (filter p gs) l)) (g ∷ (x ∷ put_all (filter p gs) l)))
            (lt-ltb x.column g.column (omega (arith, h.0)))
        | false ↦ late
      ]

  -- those kept by one test put among those kept by another
  merged : (p q : FieldCell → Bool) (n : ℕ) (fs : List FieldCell) → AreFieldsListed P n fs → ((f : FieldCell) → IsHolder P f.owner → p f ≡ true → q f ≡ true → ⊥)
      → put_all (filter p fs) (filter q fs) ≡ filter (λ f. p f || q f) fs
  merged p q n [] h apart = refl
  merged p q n (f ∷ fs) h apart =
      let late = merged p q (f.column + 1) fs h.1.1 apart in
      let both = filter (λ g. p g || q g) fs in
      elim (p f) as (λ b. p f ≡ b → put_all (cond b (f ∷ filter p fs) (filter p fs)) (cond (q f) (f ∷ filter q fs) (filter q fs))
      ≡ cond (b || q f) (f ∷ both) both) [
        | true ↦ λ e. elim (q f) as (λ d. q f ≡ d → put_all (f ∷ filter p fs) (cond d (f ∷ filter q fs) (filter q fs)) ≡ f ∷ both) [
          | true ↦ λ k. absurd (apart f h.1.0 e k)
          | false ↦ λ k. ap (put_in (λ g. g.column) f) late ∙ first f (λ g. p g || q g) fs h.1.1
        ] refl
        | false ↦ λ e. elim (q f) as (λ d. put_all (filter p fs) (cond d (f ∷ filter q fs) (filter q fs)) ≡ cond d (f ∷ both) both) [
          | true ↦ behind f (filter q fs) p fs h.1.1 ∙ ap (λ l. f ∷ l) late
          | false ↦ late
        ]
      ] refl

  filter_as : (p q : FieldCell → Bool) (n : ℕ) (fs : List FieldCell) → AreFieldsListed P n fs → ((f : FieldCell) → IsHolder P f.owner → p f ≡ q f)
      → filter p fs ≡ filter q fs
  filter_as p q n [] h same = refl
  filter_as p q n (f ∷ fs) h same =
      ap (λ b. cond b (f ∷ filter p fs) (filter p fs)) (same f h.1.0) ∙ ap (λ l. cond (q f) (f ∷ l) l) (filter_as p q (f.column + 1) fs h.1.1 same)

module _ (P : Plain) (formed : IsFormed P) (o : ℕ) (holder : IsHolder P o) where
  -- nothing is above Object
  supers_object : supers_of P 0 ≡ []
  supers_object =
      let O = formed.object in
      ap (λ x. option_to_list (option_and_then (λ k. k.parent) x) ++ option_map_or (λ k. k.faces) x []) O.first
      ∙ ap (λ x. option_to_list x ++ O.object.faces) O.parent ∙ O.faces

  of_object : (n : ℕ) → reaches P n 0 o ≡ false
  of_object zero = ne_eqb 0 o (λ e. holder.no_object (sym e))
  of_object (suc n) = or_both (ne_eqb 0 o (λ e. holder.no_object (sym e))) (ap (list_any (λ c. reaches P n c.0 o)) supers_object)

  no_face : (a : ℕ) → is_interface P a ≡ true → (a == o) ≡ false
  no_face a face = ne_eqb a o (λ e. false≢true (sym holder.class ∙ ap (is_interface P) (sym e) ∙ face))

  -- from an interface no class but Object is reached
  of_faces : (n a : ℕ) (x : Option PlainClass) → ((f : ℕ) → is_interface P f ≡ true → reaches P n f o ≡ false) → slice_get P.classes a ≡ x
      → option_map_or (λ k. k.is_interface) x false ≡ true
      → list_any (λ c. reaches P n c.0 o) (option_to_list (option_and_then (λ k. k.parent) x) ++ option_map_or (λ k. k.faces) x []) ≡ false
  of_faces n a None each e face = refl
  of_faces n zero (Some k) each e face =
      absurd (false≢true (sym formed.object.class ∙ ap (λ x. option_map_or (λ k. k.is_interface) x false) (sym formed.object.first ∙ e) ∙ face))
  of_faces n (suc c) (Some k) each e face =
      let K = formed.classes c k e in
      ap (λ x. list_any (λ c. reaches P n c.0 o) (option_to_list x ++ k.faces)) K.has_parent
      ∙ or_both (ap (λ x. reaches P n x o) (K.interface_parent face) ∙ of_object n)
      (any_none (λ c. reaches P n c.0 o) k.faces (λ f h. let i = K.faces f h in each f.0 (ap (λ x. option_map_or (λ k. k.is_interface) x false) i.1 ∙ i.2)))

  of_face : (n a : ℕ) → is_interface P a ≡ true → reaches P n a o ≡ false
  of_face zero a face = no_face a face
  of_face (suc n) a face = or_both (no_face a face) (of_faces n a (slice_get P.classes a) (of_face n) refl face)

  faces_none : (n a : ℕ) (x : Option PlainClass) → slice_get P.classes a ≡ x → list_any (λ c. reaches P n c.0 o) (option_map_or (λ k. k.faces) x []) ≡ false
  faces_none n a None e = refl
  faces_none n zero (Some k) e = ap (λ x. list_any (λ c. reaches P n c.0 o) (option_map_or (λ k. k.faces) x [])) (sym e ∙ formed.object.first)
      ∙ ap (list_any (λ c. reaches P n c.0 o)) formed.object.faces
  faces_none n (suc c) (Some k) e =
      any_none (λ c. reaches P n c.0 o) k.faces (λ f h. let i = (formed.classes c k e).faces f h in of_face n f.0
      (ap (λ x. option_map_or (λ k. k.is_interface) x false) i.1 ∙ i.2))

  parents : (n : ℕ) (x : Option ClassId) → list_any (λ c. reaches P n c.0 o) (option_to_list x) ≡ within P (suc n) x o
  parents n None = refl
  parents n (Some c) = or_none (reaches P n c.0 o)

  -- a class is above one where it is that one, or above its superclass
  pub step : (n a : ℕ) → reaches P n a o ≡ ((a == o) || within P n (parent_of P a) o)
  step zero a = sym (or_none (a == o))
  step (suc n) a =
      ap (λ b. (a == o) || b) (list_any-append (λ c. reaches P n c.0 o) (option_to_list (parent_of P a)) (faces_of P a)
      ∙ ap (λ b. list_any (λ c. reaches P n c.0 o) (option_to_list (parent_of P a)) || b) (faces_none n a (slice_get P.classes a) refl)
      ∙ or_none (list_any (λ c. reaches P n c.0 o) (option_to_list (parent_of P a))) ∙ parents n (parent_of P a))

  not_above : (n a : ℕ) (x : Option ClassId) → parent_of P a ≡ x → (a == o) ≡ true → within P n x o ≡ true → ⊥
  not_above zero a x e same w = false≢true w
  not_above (suc n) a None e same w = false≢true w
  not_above (suc n) a (Some c) e same w =
      formed.acyclic a (record {
        by = c;
        direct = parent-super P a c e;
        rest = reaches-subclass P n c.0 a
            (ap (λ x. reaches P n c.0 x) (eqb-true a o same) ∙ w);
      })

module _ (P : Plain) (formed : IsFormed P) (fs : List FieldCell) (listed : AreFieldsListed P 0 fs) where
  all_above : (n : ℕ) (x : Option ClassId) → by_place (λ f. f.column) (upwards P (own_of fs) n x) ≡ filter (λ f. within P n x f.owner) fs
  all_above zero x = sym (filter_nothing fs)
  all_above (suc n) None = sym (filter_nothing fs)
  all_above (suc n) (Some c) =
      let rest = parent_of P c.0 in
      sorted_both (own_of fs c.0) (upwards P (own_of fs) n rest) ∙ ap (put_all (own_of fs c.0)) (all_above n rest)
      ∙ merged P (λ f. c.0 == f.owner) (λ f. within P n rest f.owner) 0 fs listed (λ f h e w. not_above P formed f.owner h n c.0 rest refl e w)
      ∙ filter_as P (λ f. (c.0 == f.owner) || within P n rest f.owner) (λ f. reaches P n c.0 f.owner) 0 fs listed (λ f h. sym (step P formed f.owner h n c.0))

  cells_kept : (i : ℕ) (p : FieldCell → Bool) (gs : List FieldCell) → flat_map (cell_of i) (filter p gs) ≡ flat_map (λ k. when (p k) (cell_of i k)) gs
  cells_kept i p [] = refl
  cells_kept i p (g ∷ gs) =
      elim (p g) as (λ b. flat_map (cell_of i) (cond b (g ∷ filter p gs) (filter p gs)) ≡ when b (cell_of i g) ++ flat_map (λ k. when (p k) (cell_of i k)) gs) [
        | true ↦ ap (λ l. cell_of i g ++ l) (cells_kept i p gs)
        | false ↦ cells_kept i p gs
      ]

  pub cells_above : (own : ℕ → List FieldCell) → ((c : ℕ) → own c ≡ own_of fs c) → (i : ℕ) (a : ClassId) (found : List FieldCell)
      → found ≡ upwards P own (suc (length P.classes)) (Some a) → flat_map (cell_of i) (by_place (λ f. f.column) found) ≡ flat_map (field_cell P i a.0) fs
  unfolding below
  cells_above own is i a found e =
      ap (λ l. flat_map (cell_of i) (by_place (λ f. f.column) l)) (e ∙ ap (λ g. upwards P g (suc (length P.classes)) (Some a)) (fun_ext is))
      ∙ ap (flat_map (cell_of i)) (all_above (suc (length P.classes)) (Some a)) ∙ cells_kept i (λ f. reaches P (length P.classes) a.0 f.owner) fs

-- one more field of a class, or of another
pub kept_one : (k : ℕ) (x : code.FieldCell) (r : List code.FieldCell) → own_of (map field_cell_seen (x ∷ r)) k
    ≡ when (k == x.owner.0) (field_cell_seen x ∷ []) ++ own_of (map field_cell_seen r) k
kept_one k x r =
    elim (k == x.owner.0) as (λ b. cond b (field_cell_seen x ∷ own_of (map field_cell_seen r) k) (own_of (map field_cell_seen r) k)
    ≡ when b (field_cell_seen x ∷ []) ++ own_of (map field_cell_seen r) k) [ true ↦ refl | false ↦ refl ]

within_at : (P : Plain) (n i : ℕ) (d : code.FieldCell) (xs : List code.FieldCell) → AreFieldsListed P n (map field_cell_seen xs) → i < length xs
    → (get_or xs i d).owner.0 < length P.classes
within_at P n i d [] h lt = absurd (omega (arith, lt))
within_at P n zero d (x ∷ xs) h lt = h.1.0.within
within_at P n (suc i) d (x ∷ xs) h lt = within_at P (x.column + 1) i d xs h.1.1 (omega (arith, lt))

pub within_own : (P : Plain) (ys xs : List code.FieldCell) (i : ℕ) (d : code.FieldCell) (n m : ℕ) → ys ≡ xs → i < length ys
    → AreFieldsListed P 0 (map field_cell_seen xs) → n ≡ m → m ≡ length P.classes → (get_or ys i d).owner.0 < n
within_own P ys xs i d n m s lt h e k =
    let w : (get_or ys i d).owner.0 < length P.classes = subst (λ l. (get_or l i d).owner.0 < length P.classes) (sym s)
    (within_at P 0 i d xs h (subst (λ l. i < length l) s lt)) in
    omega (arith, w, e, k)

-- a table with one more empty list
pub own_pushed : (vs : List (Vec code.FieldCell Global)) (v : Vec code.FieldCell Global) (c : ℕ) → v.items ≡ [] → own_at vs c ≡ []
    → own_at (vs ++ v ∷ []) c ≡ []
own_pushed [] v zero e h = ap (map field_cell_seen) e
own_pushed [] v (suc c) e h = refl
own_pushed (w ∷ vs) v zero e h = h
own_pushed (w ∷ vs) v (suc c) e h = own_pushed vs v c e h

pub own_index : (vs : List (Vec code.FieldCell Global)) (i : ℕ) (r : Vec code.FieldCell Global) → i < length vs → r ≡ slice_index_or vs i r
    → own_at vs i ≡ map field_cell_seen r.items
own_index [] i r lt e = absurd (omega (arith, lt))
own_index (w ∷ vs) zero r lt e = ap (λ y. map field_cell_seen y.items) (sym e)
own_index (w ∷ vs) (suc i) r lt e = own_index vs i r (omega (arith, lt)) e

pub pushed_count : {A : Type 0} (xs : List A) (x : A) {ys : List A} {n : ℕ} → ys ≡ xs ++ x ∷ [] → length xs ≡ n → length ys ≡ n + 1
pushed_count xs x {ys} {n} e h = let k = length-append xs (x ∷ []) in omega (arith, ap length e, k, h)

-- a table with one list that has a field more
pub own_set : (vs : List (Vec code.FieldCell Global)) (i c : ℕ) (v : Vec code.FieldCell Global) (f : FieldCell) → i < length vs
    → map field_cell_seen v.items ≡ own_at vs i ++ f ∷ []
    → own_at (slice_set vs i v) c ≡ own_at vs c ++ when (c == i) (f ∷ [])
own_set [] i c v f lt e = absurd (omega (arith, lt))
own_set (w ∷ vs) zero zero v f lt e = e
own_set (w ∷ vs) zero (suc c) v f lt e = sym (append-nil (own_at vs c))
    ∙ ap (λ b. own_at vs c ++ when b (f ∷ [])) (sym (ne_eqb (suc c) 0 (λ k. let z : suc c ≡ 0 = k in omega (arith, z))))
own_set (w ∷ vs) (suc i) zero v f lt e = sym (append-nil (map field_cell_seen w.items)) ∙ ap (λ b. map field_cell_seen w.items ++ when b (f ∷ []))
    (sym (ne_eqb 0 (suc i) (λ k. let z : 0 ≡ suc i = k in omega (arith, z))))
own_set (w ∷ vs) (suc i) (suc c) v f lt e = own_set vs i c v f (omega (arith, lt)) e ∙ ap (λ b. own_at vs c ++ when b (f ∷ [])) (same_suc c i)
  where
    same_suc : (c i : ℕ) → (c == i) ≡ (suc c == suc i)
    same_suc c i = elim (c == i) as (λ b. (c == i) ≡ b → b ≡ (suc c == suc i)) [
      | true ↦ λ h. let k = eqb-true c i h in sym (eq-eqb (suc c) (suc i) (ap suc k))
      | false ↦ λ h. sym (ne_eqb (suc c) (suc i) (λ k. let z : c ≡ i = omega (arith, k) in false≢true (sym h ∙ eq-eqb c i z)))
    ] refl

-- the way up, a class at a time
module _ (P : Plain) (own : ℕ → List FieldCell) where
  pub begun : (c : ClassId) (x : Option ClassId) (f0 f1 : List FieldCell) (r n : ℕ) → f0 ≡ [] → f1 ≡ f0 ++ own c.0 → x ≡ parent_of P c.0 → r ≡ n
      → f1 ++ upwards P own r x ≡ upwards P own (suc n) (Some c)
  begun c x f0 f1 r n e h k m =
      ap (λ l. l ++ upwards P own r x) (h ∙ ap (λ l. l ++ own c.0) e) ∙ ap (λ y. own c.0 ++ upwards P own r y) k
      ∙ ap (λ j. own c.0 ++ upwards P own j (parent_of P c.0)) m

  pub gone_on : (c : ClassId) (a x : Option ClassId) (f0 f1 W : List FieldCell) (r : ℕ) → a ≡ Some c → f1 ≡ f0 ++ own c.0 → x ≡ parent_of P c.0
      → f0 ++ upwards P own (suc r) a ≡ W → f1 ++ upwards P own r x ≡ W
  gone_on c a x f0 f1 W r is h k w =
      ap (λ l. l ++ upwards P own r x) h ∙ append_assoc f0 (own c.0) (upwards P own r x) ∙ ap (λ y. f0 ++ (own c.0 ++ upwards P own r y)) k
      ∙ ap (λ y. f0 ++ upwards P own (suc r) y) (sym is) ∙ w

  pub at_top : (a : Option ClassId) (f0 W : List FieldCell) (r : ℕ) → a ≡ None → f0 ++ upwards P own (suc r) a ≡ W → f0 ≡ W
  at_top a f0 W r is w = sym (append-nil f0) ∙ ap (λ y. f0 ++ upwards P own (suc r) y) (sym is) ∙ w

  pub at_last : (a : Option ClassId) (f0 W : List FieldCell) → f0 ++ upwards P own 0 a ≡ W → f0 ≡ W
  at_last a f0 W w = sym (append-nil f0) ∙ w
