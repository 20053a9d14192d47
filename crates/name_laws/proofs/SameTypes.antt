-- Types, results, parameter lists and the main method, as tests and as equations.
use Rattle.std.proofs.Common.{◌≡◌, ℕ, true, false, ◌&&◌, List, [], ◌∷◌, map, Option, Some, None, refl, sym, ap, ◌∙◌, subst, Bool}
use Rattle.std.specs.Prelude.{slice_get, ◌==◌, codes}
use Rattle.std.specs.Str.{bytes_eq, chars}
use Rattle.std.proofs.lemmas.Bool.{eqb-true, eq-eqb, false≢true, and_parts, and_from}
use Rattle.std.proofs.lemmas.Slice.Eq.{bytes_eq-Decides}
use Rattle.java_core.specs.declared.Ty.{Ty}
use Rattle.java_core.specs.declared.TyBase.{TyBase}
use Rattle.java_core.specs.declared.TyBase.TheVariants.{Int, Boolean, Char, Str, Class}
use Rattle.java_core.specs.declared.Local.{Local}
use Rattle.java_core.specs.Types.{is_base}
use Rattle.java_core.specs.Programs.{PlainSlot}
use Rattle.java_core.proofs.Positions.{position-passes}
use Rattle.name_laws.specs.Members.{same_type, same_result, have_types, is_signature, slot_in, is_texts, takes_texts, is_main}
use Rattle.name_laws.proofs.Runs.{none-passes}

base-same : (b c : TyBase) → is_base b c ≡ true → b ≡ c
base-same Int Int e = refl
base-same Boolean Boolean e = refl
base-same Char Char e = refl
base-same Str Str e = refl
base-same (Class c) (Class d) e = ap (λ k. Class (record { 0 = k })) (eqb-true c.0 d.0 e)
base-same _ _ e = absurd (false≢true e)

same-base : (b : TyBase) → is_base b b ≡ true
same-base Int = refl
same-base Boolean = refl
same-base Char = refl
same-base Str = refl
same-base (Class c) = eq-eqb c.0 c.0 refl

pub type-same : (t u : Ty) → same_type t u ≡ true → t ≡ u
type-same t u e =
    let h = and_parts (is_base t.base u.base) (t.dim == u.dim) e in
    ap (λ b. record { base = b; dim = t.dim }) (base-same t.base u.base h.0) ∙ ap (λ d. record { base = u.base; dim = d }) (eqb-true t.dim u.dim h.1)

pub same-type : (t : Ty) → same_type t t ≡ true
same-type t = and_from (is_base t.base t.base) (t.dim == t.dim) (same-base t.base) (eq-eqb t.dim t.dim refl)

pub result-same : (r s : Option Ty) → same_result r s ≡ true → r ≡ s
result-same None None e = refl
result-same (Some t) (Some u) e = ap Some (type-same t u e)
result-same None (Some u) e = absurd (false≢true e)
result-same (Some t) None e = absurd (false≢true e)

pub same-result : (r : Option Ty) → same_result r r ≡ true
same-result None = refl
same-result (Some t) = same-type t

pub types-same : (ls : List Local) (ts : List Ty) → have_types ls ts ≡ true → map (λ l. l.ty) ls ≡ ts
types-same [] [] e = refl
types-same [] (t ∷ ts) e = absurd (false≢true e)
types-same (l ∷ ls) [] e = absurd (false≢true e)
types-same (l ∷ ls) (t ∷ ts) e =
    let h = and_parts (same_type l.ty t) (have_types ls ts) e in
    ap (λ z. z ∷ map (λ k. k.ty) ls) (type-same l.ty t h.0) ∙ ap (λ z. t ∷ z) (types-same ls ts h.1)

pub same-types : (ls : List Local) → have_types ls (map (λ l. l.ty) ls) ≡ true
same-types [] = refl
same-types (l ∷ ls) = and_from (same_type l.ty l.ty) (have_types ls (map (λ k. k.ty) ls)) (same-type l.ty) (same-types ls)

-- ---- the slot of a name, parameters and result

-- the slot has this name, these parameter types and this result
pub record HasSignature (n : List ℕ) (ls : List Local) (r : Option Ty) (s : PlainSlot) : Type 0 where
  pub name : s.name ≡ n
  pub params : s.params ≡ map (λ l. l.ty) ls
  pub result : s.result ≡ r

pub slot-found : (n : List ℕ) (ls : List Local) (r : Option Ty) (ss : List PlainSlot) (i : ℕ) → slot_in n ls r ss ≡ Some i → (s : PlainSlot)
    × (slice_get ss i ≡ Some s) × HasSignature n ls r s
slot-found n ls r ss i e =
    let f = position-passes (is_signature n ls r) ss i e in
    let g = and_parts (bytes_eq f.0.name n && have_types ls f.0.params) (same_result r f.0.result) f.2 in
    let h = and_parts (bytes_eq f.0.name n) (have_types ls f.0.params) g.0 in
    (f.0, f.1, record { name = (bytes_eq-Decides f.0.name n).0 h.0; params = sym (types-same ls f.0.params h.1); result = sym (result-same r f.0.result g.1) })

pub slot-none : (n : List ℕ) (ls : List Local) (r : Option Ty) (ss : List PlainSlot) → slot_in n ls r ss ≡ None → (i : ℕ) (s : PlainSlot)
    → slice_get ss i ≡ Some s → HasSignature n ls r s → ⊥
slot-none n ls r ss e i s at h =
    none-passes (is_signature n ls r) ss e i s at
    (and_from (bytes_eq s.name n && have_types ls s.params) (same_result r s.result)
    (and_from (bytes_eq s.name n) (have_types ls s.params) ((bytes_eq-Decides s.name n).1 h.name) (subst (λ z. have_types ls z ≡ true) (sym h.params)
    (same-types ls)))
    (subst (λ z. same_result r z ≡ true) (sym h.result) (same-result r)))

takes-one : (ls : List Local) → takes_texts ls ≡ true → map (λ l. l.ty) ls ≡ record { base = Str; dim = 1 } ∷ []
takes-one [] e = absurd (false≢true e)
takes-one (l ∷ []) e = ap (λ t. t ∷ []) (type-same l.ty (record { base = Str; dim = 1 }) e)
takes-one (l ∷ k ∷ ls) e = absurd (false≢true e)

one-takes : (ls : List Local) → map (λ l. l.ty) ls ≡ record { base = Str; dim = 1 } ∷ [] → takes_texts ls ≡ true
one-takes [] e = absurd (cc e)
one-takes (l ∷ []) e = let f : l.ty ≡ record { base = Str; dim = 1 } = cc in ap is_texts f
one-takes (l ∷ k ∷ ls) e = absurd (cc e)

-- a static void method of one String[], called main
pub record Begins (static : Bool) (n : List ℕ) (ls : List Local) (r : Option Ty) : Type 0 where
  pub is_static : static ≡ true
  pub name : n ≡ codes "main"
  pub params : map (λ l. l.ty) ls ≡ record { base = Str; dim = 1 } ∷ []
  pub result : r ≡ None

pub main-begins : (static : Bool) (n : List ℕ) (ls : List Local) (r : Option Ty) → is_main static n ls r ≡ true → Begins static n ls r
unfolding chars
main-begins true n ls None e = go (bytes_eq (codes "main") n) refl
  where
    go : (b : Bool) → bytes_eq (codes "main") n ≡ b → Begins true n ls None
    go true f = record {
      is_static = refl;
      name = sym ((bytes_eq-Decides (codes "main") n).0 f);
      params = takes-one ls
          (sym (ap (λ z. z && takes_texts ls) f) ∙ e);
      result = refl;
    }
    go false f = absurd (false≢true (sym (ap (λ z. z && takes_texts ls) f) ∙ e))
main-begins true n ls (Some t) e = absurd (false≢true e)
main-begins false n ls r e = absurd (false≢true e)

pub begins-main : (static : Bool) (n : List ℕ) (ls : List Local) (r : Option Ty) → Begins static n ls r → is_main static n ls r ≡ true
unfolding chars
begins-main static n ls r b = rw (b.is_static, b.result, (bytes_eq-Decides (codes "main") n).1 (sym b.name), one-takes ls b.params) refl
