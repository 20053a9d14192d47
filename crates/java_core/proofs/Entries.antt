-- Which types are directly below which, entered one type after the other.
use Rattle.std.proofs.Common.{◌≡◌, ℕ, ◌+◌, ◌<◌, inl, inr, ⊎_elim, Bool, List, [], ◌∷◌, ◌++◌, length, take, get_or, Some, Contains, sym, ap, ◌∙◌, subst, arith}
use Rattle.std.specs.Prelude.{slice_get}
use Rattle.std.specs.Option.{option_to_list, option_map_or, option_and_then}
use Rattle.std.specs.declared.vec.Vec.{Vec}
use Rattle.std.specs.declared.alloc.Global.{Global}
use Rattle.std.proofs.lemmas.Bool.{cases_lt}
use Rattle.std.proofs.Math.Seq.{take-suc}
use Rattle.std.proofs.Math.Numerals.{add-one}
use Rattle.std.proofs.lemmas.List.Elements.{Contains-append_left, Contains-append_right, Contains-append_cases}
use Rattle.kaba_base.specs.declared.ClassId.{ClassId}
use Rattle.java_core.specs.Plain.{PlainClass}
use Rattle.java_core.specs.Classes.{IsSubclass, same_class, through, supers_of, reaches, class_id}
use Rattle.java_core.proofs.Subclasses.{supers-within}
use Rattle.java_core.specs.Subtypes.{of_classes, subtype_rows}
use Rattle.java_core.specs.Squares.{square, is_below}
use Rattle.java_core.specs.Owned.{listed}
use Rattle.java_core.specs.Subtypes.{supers_in, IsDirect, EnteredUnder, AreDirect, StandsUnder, itself, under, AreInside, AllExact}
use Rattle.java_core.proofs.SquareLemmas.{square-same}
use Rattle.java_core.proofs.Reached.{reaches-is}

-- ---- what is entered

pub entered-then : (x : ℕ) (first second : List ClassId) (a b c : List (Vec ℕ Global)) → EnteredUnder x first a b → EnteredUnder x second b c
    → EnteredUnder x (first ++ second) a c
entered-then x first second a b c g h = record {
  len = h.len ∙ g.len;
  kept = λ y z k. h.kept y z (g.kept y z k);
  news = λ y z k. ⊎_elim
      (λ d. ⊎_elim (λ e. inl e) (λ e. inr (Contains-append_left first second (class_id y) e.0, e.1)) (g.news y z d))
      (λ e. inr (Contains-append_right first second (class_id y) e.0, e.1))
      (h.news y z k);
  told = λ s k lt. ⊎_elim (λ d. h.kept s.0 x (g.told s d lt)) (λ d. h.told s d (let l = g.len in omega (arith, l, lt)))
      (Contains-append_cases first second s k);
}

pub entered-more : (x : ℕ) (xs : List ClassId) (i : ℕ) (d : ClassId) (a b c : List (Vec ℕ Global)) → i < length xs → EnteredUnder x (take i xs) a b
    → EnteredUnder x (get_or xs i d ∷ []) b c → EnteredUnder x (take (i + 1) xs) a c
entered-more x xs i d a b c lt g h = subst (λ l. EnteredUnder x l a c) (sym (ap (λ k. take k xs) (add-one i) ∙ take-suc xs i d lt))
    (entered-then x (take i xs) (get_or xs i d ∷ []) a b c g h)

-- ---- all types

pub direct-more : (all : List PlainClass) (x : ℕ) (k : PlainClass) (old new : List (Vec ℕ Global)) → slice_get all x ≡ Some k → AreDirect all x old
    → EnteredUnder x (supers_in k) old new → AreDirect all (x + 1) new
direct-more all x k old new at d e = record {
  len = e.len ∙ d.len;
  sound = λ z y c. ⊎_elim (λ b. d.sound z y b)
      (λ b. subst (λ v. IsDirect all v y) (sym b.1) (subst (λ l. Contains l (class_id y)) (sym same) b.0)) (e.news y z c);
  whole = λ z y lt ly b. ⊎_elim (λ less. e.kept y z (d.whole z y less ly b))
      (λ more. let i : z ≡ x = omega (arith, lt, more) in
      subst (λ v. Contains (listed new y) v) (sym i)
      (e.told (class_id y) (subst (λ l. Contains l (class_id y)) (ap (supers_of (of_classes all)) i ∙ same) b) (let l = d.len in omega (arith, l, ly))))
      (cases_lt z x);
}
  where
    same : supers_of (of_classes all) x ≡ supers_in k
    same = ap (λ o. option_to_list (option_and_then (λ k. k.parent) o) ++ option_map_or (λ k. k.faces) o []) at

pub direct-inside : (all : List PlainClass) (count : ℕ) (lists : List (Vec ℕ Global)) → AreDirect all count lists → AreInside (length all) lists
direct-inside all count lists d = record { each = λ y x c. supers-within (of_classes all) x (class_id y) (d.sound x y c) }

-- ---- what stands under a type is its subtype

module _ (all : List PlainClass) (lists : List (Vec ℕ Global)) (d : AreDirect all (length all) lists) where
  pub under-subclass : {y b : ℕ} → StandsUnder lists y b → IsSubclass (of_classes all) y b
  under-subclass itself = same_class
  under-subclass (under {y = y} {x = x} direct rest) = through {c = class_id x} (d.sound y x direct) (under-subclass rest)

  subclass-within : {y b : ℕ} → IsSubclass (of_classes all) y b → b < length all → y < length all
  subclass-within same_class lt = lt
  subclass-within (through {a = a} {c = c} direct rest) lt = supers-within (of_classes all) a c direct

  pub subclass-under : {y b : ℕ} → b < length all → IsSubclass (of_classes all) y b → StandsUnder lists y b
  subclass-under lt same_class = itself
  subclass-under lt (through {a = a} {c = c} direct rest) =
      under (d.whole a c.0 (supers-within (of_classes all) a c direct) (subclass-within rest lt) direct) (subclass-under lt rest)

-- the rows say what is above what
pub above-exact : (all : List PlainClass) (lists : List (Vec ℕ Global)) (rows : List (List Bool)) → AreDirect all (length all) lists
    → AllExact lists (length all) rows → square (length rows) (is_below rows) ≡ subtype_rows all
above-exact all lists rows d e = ap (λ n. square n (is_below rows)) e.len
    ∙ square-same (length all) (is_below rows) (reaches (of_classes all) (length all)) (λ a b la lb. same a b lb)
  where
    same : (a b : ℕ) → b < length all → is_below rows a b ≡ reaches (of_classes all) (length all) a b
    same a b lb =
        let exact = e.each b lb in
        reaches-is (of_classes all) a b (is_below rows a b) lb (λ h. under-subclass all lists d (exact.sound a h))
        (λ h. exact.whole a (subclass-under all lists d lb h))

pub above-given : (all : List PlainClass) (n : ℕ) (lists : List (Vec ℕ Global)) (rows left : List (List Bool)) → length all ≡ n → AreDirect all n lists
    → AllExact lists n rows → left ≡ rows → square (length left) (is_below left) ≡ subtype_rows all
above-given all n lists rows left e d x k =
    ap (λ l. square (length l) (is_below l)) k
    ∙ above-exact all lists rows (subst (λ m. AreDirect all m lists) (sym e) d) (subst (λ m. AllExact lists m rows) (sym e) x)
