-- The walk to the nearest field.
use Rattle.std.proofs.Common.{◌≡◌, ℕ, true, false, ◌+◌, ◌<◌, drop-cons, List, [], ◌∷◌, length, drop, get_or, Option, Some, None, ◌≢◌, refl, sym, ap, ◌∙◌, add-one, arith}
use Rattle.std.specs.Prelude.{nat_eq, slice_get}
use Rattle.std.specs.HashMap.{HashMap, get}
use Rattle.std.specs.Map.{lookup}
use Rattle.std.proofs.lemmas.Bool.{ne_eqb}
use Rattle.kaba_base.specs.declared.ClassId.{ClassId}
use Rattle.std.specs.Option.{is_some, option_and_then}
use Rattle.java_core.specs.Classes.{first_or}
use Rattle.java_core.specs.Nearest.{nearest_by, IsNearestBy}
use Rattle.name_laws.specs.Tables.{Table, own_field, parent_in, parent_of, or_above, nearest_in}

split : (t : Table) (n : List ℕ) (steps : List (Option ClassId)) (i c : ℕ) → i < length steps →
    nearest_in t n (drop i steps) c ≡ or_above (own_field t c n) (parent_of t.parents c) (λ p. nearest_in t n (drop (i + 1) steps) p)
split t n steps i c below = ap (λ xs. nearest_in t n xs c) (drop-cons steps i None below ∙ ap (λ k. get_or steps i None ∷ drop k steps) (sym (add-one i)))

pub nearest_next : (t : Table) (n : List ℕ) (steps : List (Option ClassId)) (i c : ℕ) (p : ClassId) (o : Option ℕ) → i < length steps
    → own_field t c n ≡ None → parent_of t.parents c ≡ Some p →
    nearest_in t n (drop i steps) c ≡ o → nearest_in t n (drop (i + 1) steps) p.0 ≡ o
nearest_next t n steps i c p o below none up before =
    ap (λ q. or_above None q (λ p. nearest_in t n (drop (i + 1) steps) p)) (sym up)
    ∙ ap (λ f. or_above f (parent_of t.parents c) (λ p. nearest_in t n (drop (i + 1) steps) p)) (sym none)
    ∙ sym (split t n steps i c below) ∙ before

pub nearest_here : (t : Table) (n : List ℕ) (steps : List (Option ClassId)) (i c : ℕ) (f : ℕ) (o : Option ℕ) → i < length steps → own_field t c n ≡ Some f →
    nearest_in t n (drop i steps) c ≡ o → Some f ≡ o
nearest_here t n steps i c f o below own before =
    ap (λ q. or_above q (parent_of t.parents c) (λ p. nearest_in t n (drop (i + 1) steps) p)) (sym own) ∙ sym (split t n steps i c below) ∙ before

pub nearest_none : (t : Table) (n : List ℕ) (steps : List (Option ClassId)) (i c : ℕ) (o : Option ℕ) → i < length steps → own_field t c n ≡ None
    → parent_of t.parents c ≡ None →
    nearest_in t n (drop i steps) c ≡ o → None ≡ o
nearest_none t n steps i c o below none up before =
    ap (λ q. or_above None q (λ p. nearest_in t n (drop (i + 1) steps) p)) (sym up)
    ∙ ap (λ f. or_above f (parent_of t.parents c) (λ p. nearest_in t n (drop (i + 1) steps) p)) (sym none)
    ∙ sym (split t n steps i c below) ∙ before

-- where no class has a field of the name, none is found
pub nearest_nowhere : (t : Table) (n : List ℕ) (steps : List (Option ClassId)) (c : ℕ) → ((k : ℕ) → own_field t k n ≡ None) → None ≡ nearest_in t n steps c
nearest_nowhere t n [] c none = sym (none c)
nearest_nowhere t n (_ ∷ steps) c none = upwards (parent_of t.parents c) (λ p. nearest_nowhere t n steps p none)
    ∙ ap (λ f. or_above f (parent_of t.parents c) (λ p. nearest_in t n steps p)) (sym (none c))
  where
    upwards : (p : Option ClassId) → ((p : ℕ) → None ≡ nearest_in t n steps p) → None ≡ or_above None p (λ p. nearest_in t n steps p)
    upwards None later = refl
    upwards (Some p) later = later p.0

-- a table of one entry has nothing under another key
pub only_other : {S : Type 0} (m : HashMap ℕ ℕ S) (c : ℕ) → length m.entries ≡ 1 → ((e : ℕ × ℕ) → slice_get m.entries 0 ≡ Some e → e.0 ≢ c)
    → None ≡ get nat_eq m c
only_other m c one other = go m.entries one other
  where
    go : (es : List (ℕ × ℕ)) → length es ≡ 1 → ((e : ℕ × ℕ) → slice_get es 0 ≡ Some e → e.0 ≢ c) → None ≡ lookup (nat_eq c) es
    go [] l o = absurd (omega (arith, l))
    go (e ∷ []) l o = rw (ne_eqb c e.0 (λ s. o e refl (sym s))) refl
    go (e ∷ f ∷ es) l o = absurd (omega (arith, l))

-- ---- what is found at once

-- what a class itself has is nearest
pub nearest_own : (t : Table) (n : List ℕ) (steps : List (Option ClassId)) (c : ℕ) (o : Option ℕ) → is_some o ≡ true → o ≡ own_field t c n
    → o ≡ nearest_in t n steps c
nearest_own t n [] c o some e = e
nearest_own t n (_ ∷ steps) c None some e = absurd (cc some)
nearest_own t n (_ ∷ steps) c (Some f) some e = ap (λ q. or_above q (parent_of t.parents c) (λ p. nearest_in t n steps p)) e

nearest_same : (t : Table) (n : List ℕ) (steps : List (Option ClassId)) (c : ℕ)
    → nearest_by t.parents (λ k. own_field t k n) (length steps) c ≡ nearest_in t n steps c
nearest_same t n [] c = refl
nearest_same t n (_ ∷ steps) c = up (own_field t c n) (slice_get t.parents c) (λ k. nearest_same t n steps k)
  where
    up : (o : Option ℕ) (q : Option (Option ClassId)) → ((k : ℕ) → nearest_by t.parents (λ k. own_field t k n) (length steps) k ≡ nearest_in t n steps k)
        → first_or o (option_and_then (λ p. nearest_by t.parents (λ k. own_field t k n) (length steps) p.0) (option_and_then (λ x. x) q))
        ≡ or_above o (parent_in q) (λ p. nearest_in t n steps p)
    up (Some f) q h = refl
    up None None h = refl
    up None (Some None) h = refl
    up None (Some (Some p)) h = h p.0

-- what a list of superclasses tells is what is found
pub nearest_told : (t : Table) (n : List ℕ) (c : ℕ) (o r : Option ℕ) → is_some o ≡ false → o ≡ own_field t c n
    → IsNearestBy t.parents (λ k. own_field t k n) c r → r ≡ nearest_in t n t.parents c
nearest_told t n c (Some f) r none e h = absurd (cc none)
nearest_told t n c None r none e h = sym (h (sym e)) ∙ nearest_same t n t.parents c
