-- An expression resolves to one tree, and a body to one tree with one list of locals, where numbers and locals are given out in one count each.
use Rattle.std.proofs.Common.{◌≡◌, ℕ, suc, true, false, List, [], ◌∷◌, ◌++◌, Option, Some, ⊎_elim, refl, sym, ap, ◌∙◌, subst, ◌<◌, ◌≤◌, Bool, arith}
use Rattle.std.specs.Prelude.{slice_get}
use Rattle.std.proofs.lemmas.Bool.{false≢true, cases_lt}
use Rattle.kaba_base.specs.declared.Place.{Place}
use Rattle.java_tree.specs.declared.TypeBase.{TypeBase}
use Rattle.java_tree.specs.declared.TypeBase.TheVariants as bases
use Rattle.java_tree.specs.declared.TypeName.{TypeName}
use Rattle.java_tree.specs.Syntax.{Expression, NameRef, Expressions, Statement, Statements, Else, OptionalStatement}
use Rattle.java_core.specs.declared.Ty.{Ty}
use Rattle.java_core.specs.declared.TyBase.{TyBase}
use Rattle.java_core.specs.Trees.{at_place, Ex, local, static_field, own_field, Exs, St, Sts, IfArms}
use Rattle.java_core.specs.Programs.{Plain, PlainField, PlainMethod}
use Rattle.java_core.specs.Classes.{IsSubclass, same_class}
use Rattle.java_core.specs.Formed.{numbers, numbers_all, numbers_if, variables_of, numbers_target, numbers_st, numbers_sts, numbers_arms}
use Rattle.name_rules.specs.declared.parts.Bound.{Bound}
use Rattle.name_rules.specs.declared.parts.Here.{Here}
use Rattle.name_rules.specs.Meanings.{MeansCastBase, to_int, to_boolean, to_char, to_class, MeansCast, IsStaticFieldOf, IsStaticMethodOf, IsNearestField, IsMet}
use Rattle.name_rules.specs.Resolves.{Counts, no_number, next_number, ResolvesTo, r_number, r_character, r_text, r_truth, r_null, r_this, r_local, r_static_field, r_own_field, r_class_field, r_field, r_index, r_own_static_call, r_own_call, r_static_call, r_call, r_super_call, r_create, r_create_array, r_cast, r_instance_of, r_unary, r_binary, AllResolve, r_no_more, r_and_more, ResolvesIf, r_none, r_some, target, bound, scope_after, scope_after_part, StResolves, r_declare, r_block, r_assign, r_act, r_print, r_choose, r_while, r_for, r_return, r_break, r_continue, StsResolve, r_no_statements, r_and_then, ArmsResolve, r_no_else, r_else, r_arm, PartResolves, r_absent, r_present, declares, declares_all, declares_arms}
use Rattle.name_laws.proofs.Sees.{same_some}
use Rattle.name_laws.proofs.TypeNames.{type-meant}
use Rattle.name_rules.proofs.FirstMethods.{one-first}
use Rattle.name_laws.proofs.FoundFirst.{OneMet}
use Rattle.name_laws.proofs.Excludes.{name-class, one-nearest}
use Rattle.java_tree.specs.Syntax as tree
use Rattle.java_tree.specs.Formed.{IsFormedStmt, AreFormedStmts, AreFormedArms, IsFormedElse}
use Rattle.name_laws.proofs.Statements.{numbers-target, IsFormedPart, of-first, of-step}

-- ---- numbers

pub none-only : {k i j : ℕ} → Counts k [] i → Counts k [] j → i ≡ j
none-only no_number no_number = refl

pub counts-split : {k i : ℕ} (ms ns : List ℕ) → Counts k (ms ++ ns) i → (j : ℕ) × Counts k ms j × Counts j ns i
counts-split {k} [] ns c = (k, no_number, c)
counts-split (m ∷ ms) ns (next_number c) = let s = counts-split ms ns c in (s.0, next_number s.1, s.2)

pub counts-next : {k i n : ℕ} {ns : List ℕ} → Counts k (n ∷ ns) i → (k ≡ n) × Counts (suc k) ns i
counts-next (next_number c) = (refl, c)

-- counted on from where the other ends
pub from : {k l i : ℕ} {ns : List ℕ} → k ≡ l → Counts l ns i → Counts k ns i
from {i = i} {ns = ns} e c = subst (λ z. Counts z ns i) (sym e) c

same-ty : {t u : Ty} → t.base ≡ u.base → t.dim ≡ u.dim → t ≡ u
same-ty {t} {u} e f = ap (λ z. record { base = z; dim = t.dim }) e ∙ ap (λ z. record { base = u.base; dim = z }) f

cast-base : (O : Plain) (b : TypeBase) (x y : TyBase) → MeansCastBase O b x → MeansCastBase O b y → x ≡ y
cast-base O bases.Int x y to_int to_int = refl
cast-base O bases.Boolean x y to_boolean to_boolean = refl
cast-base O bases.Char x y to_char to_char = refl
cast-base O (bases.Named n) x y (to_class e) (to_class f) = rw (same_some (sym e ∙ f)) refl

pub cast-only : (O : Plain) (u : TypeName) (t v : Ty) → MeansCast O u t → MeansCast O u v → t ≡ v
cast-only O u t v a b = same-ty (cast-base O u.base t.base v.base a.base b.base) (a.dim ∙ sym b.dim)

module _ (O : Plain) (one : OneMet O) where
  -- a static method that is met is the only one
  met-static : {c : ℕ} {n : List ℕ} {l m : ℕ} {h k : PlainMethod} → IsMet O c n l h → IsMet O c n m k → h.is_static ≡ true → l ≡ m
  met-static {c} {n} {l} {m} {h} {k} a b s = ⊎_elim (λ e. e) (λ e. absurd (false≢true (sym e.0 ∙ s))) (one c n l m h k a b)

  static-method : {c : ℕ} {n : List ℕ} {l m : ℕ} → IsStaticMethodOf O c n l → IsStaticMethodOf O c n m → l ≡ m
  static-method {c} {n} {l} {m} a b =
      met-static {c = c} {n = n} {h = a.member} {k = b.member} (record {
        stands = a.stands;
        name = a.name;
        above = subst (λ z. IsSubclass O c z)
            (sym a.owner) same_class;
      })
      (record { stands = b.stands; name = b.name; above = subst (λ z. IsSubclass O c z) (sym b.owner) same_class }) a.static

  module _ (here : Here) (scope : List Bound) where
    name-numbers : {n : List ℕ} {p : Place} {x : Ex} → ResolvesTo O here scope (NameRef n p) x → numbers x ≡ []
    name-numbers (r_local e) = refl
    name-numbers (r_static_field e near s o) = refl
    name-numbers (r_own_field e near s o) = refl

    kinds-differ : {n : List ℕ} {f g : ℕ} {h k : PlainField} → IsNearestField O here.owner n f h → IsNearestField O here.owner n g k
        → h.is_static ≡ true → k.is_static ≡ false → ⊥
    kinds-differ a b s t = false≢true (sym t ∙ ap (λ z. z.is_static) (sym (one-nearest O here scope a b)) ∙ s)

    name-only : {n : List ℕ} {p : Place} {x y : Ex} → ResolvesTo O here scope (NameRef n p) x → ResolvesTo O here scope (NameRef n p) y → x ≡ y
    name-only {p = p} (r_local e) (r_local f) = ap (local (at_place p)) (same_some (sym e ∙ f))
    name-only (r_local e) (r_static_field f near s o) = absurd (cc (sym e ∙ f))
    name-only (r_local e) (r_own_field f near s o) = absurd (cc (sym e ∙ f))
    name-only (r_static_field f near s o) (r_local e) = absurd (cc (sym e ∙ f))
    name-only (r_own_field f near s o) (r_local e) = absurd (cc (sym e ∙ f))
    name-only {p = p} (r_static_field e near s o) (r_static_field f other t q) = ap (static_field (at_place p)) (same_some (sym near.nearest ∙ other.nearest))
    name-only {p = p} (r_own_field e near s o) (r_own_field f other t q) = ap (own_field (at_place p)) (same_some (sym near.nearest ∙ other.nearest))
    name-only (r_static_field e near s o) (r_own_field f other t q) = absurd (kinds-differ near other s t)
    name-only (r_own_field e near s o) (r_static_field f other t q) = absurd (kinds-differ other near t s)

    mutual
      pub ex-only : {e : Expression} {x y : Ex} {k i j : ℕ} → ResolvesTo O here scope e x → ResolvesTo O here scope e y → Counts k (numbers x) i
          → Counts k (numbers y) j → (x ≡ y) × (i ≡ j)
      ex-only r_number r_number c d = (refl, none-only c d)
      ex-only r_character r_character c d = (refl, none-only c d)
      ex-only r_text r_text c d = (refl, none-only c d)
      ex-only r_truth r_truth c d = (refl, none-only c d)
      ex-only r_null r_null c d = (refl, none-only c d)
      ex-only (r_this s) (r_this t) c d = (refl, none-only c d)
      ex-only {k = k} {j = j} (r_local e) h c d = (name-only (r_local e) h, none-only c (subst (λ z. Counts k z j) (name-numbers h) d))
      ex-only {k = k} {j = j} (r_static_field e near s o) h c d =
          (name-only (r_static_field e near s o) h, none-only c (subst (λ z. Counts k z j) (name-numbers h) d))
      ex-only {k = k} {j = j} (r_own_field e near s o) h c d =
          (name-only (r_own_field e near s o) h, none-only c (subst (λ z. Counts k z j) (name-numbers h) d))
      ex-only (r_class_field {n = n} {f = f} a e s) (r_class_field {f = g} b q t) c d =
          let u = subst (λ z. IsStaticFieldOf O z n g) (same_some (sym q ∙ e)) t in (rw (same_some (sym s.own ∙ u.own)) refl, none-only c d)
      ex-only (r_class_field a e s) (r_field h) c d = absurd (name-class O here scope h a)
      ex-only (r_field h) (r_class_field a e s) c d = absurd (name-class O here scope h a)
      ex-only (r_field h) (r_field g) c d = let a = ex-only h g c d in (rw a.0 refl, a.1)
      ex-only (r_index {x = x} {y = y} h g) (r_index {x = u} {y = v} q r) c d =
          let s = counts-split (numbers x) (numbers y) c in let t = counts-split (numbers u) (numbers v) d in
          let a = ex-only h q s.1 t.1 in let b = ex-only g r s.2 (from a.1 t.2) in (rw (a.0, b.0) refl, b.1)
      ex-only (r_own_static_call f s o es) (r_own_static_call g t q us) c d = let a = exs-only es us c d in (rw ((one-first O f g).0, a.0) refl, a.1)
      ex-only (r_own_static_call f s o es) (r_own_call g t q us) c d = absurd (false≢true (sym t ∙ ap (λ z. z.is_static) (sym (one-first O f g).1) ∙ s))
      ex-only (r_own_call f s o es) (r_own_static_call g t q us) c d = absurd (false≢true (sym s ∙ ap (λ z. z.is_static) (one-first O f g).1 ∙ t))
      ex-only (r_own_call f s o es) (r_own_call g t q us) c d = let a = exs-only es us c d in (rw a.0 refl, a.1)
      ex-only (r_static_call {n = n} b e s es) (r_static_call {m = m} q f t us) c d =
          let a = exs-only es us c d in let u = subst (λ z. IsStaticMethodOf O z n m) (same_some (sym f ∙ e)) t in (rw (static-method s u, a.0) refl, a.1)
      ex-only (r_static_call b e s es) (r_call h us) c d = absurd (name-class O here scope h b)
      ex-only (r_call h es) (r_static_call b e s us) c d = absurd (name-class O here scope h b)
      ex-only (r_call {x = x} {xs = xs} h es) (r_call {x = u} {xs = us} g fs) c d =
          let s = counts-split (numbers x) (numbers_all xs) c in let t = counts-split (numbers u) (numbers_all us) d in
          let a = ex-only h g s.1 t.1 in let b = exs-only es fs s.2 (from a.1 t.2) in (rw (a.0, b.0) refl, b.1)
      ex-only (r_super_call s es) (r_super_call t us) c d = let a = exs-only es us c d in (rw a.0 refl, a.1)
      ex-only (r_create e es) (r_create f us) c d =
          let s = counts-next c in let t = counts-next d in let a = exs-only es us s.1 t.1 in (rw (sym s.0 ∙ t.0, same_some (sym e ∙ f), a.0) refl, a.1)
      ex-only (r_create_array {u = u} {t = y} m h) (r_create_array {t = z} n g) c d =
          let s = counts-next c in let t = counts-next d in let a = ex-only h g s.1 t.1 in (
            rw (
              sym s.0 ∙ t.0,
              type-meant O u y m
                  ∙ sym (type-meant O u z n),
              a.0,
            ) refl,
            a.1,
          )
      ex-only (r_cast {u = u} {t = y} m h) (r_cast {t = z} n g) c d =
          let s = counts-next c in let t = counts-next d in let a = ex-only h g s.1 t.1 in (rw (sym s.0 ∙ t.0, cast-only O u y z m n, a.0) refl, a.1)
      ex-only (r_instance_of {x = x} {i = l} h e) (r_instance_of {x = u} {i = m} g f) c d =
          let s = counts-split (numbers x) (l ∷ []) c in let t = counts-split (numbers u) (m ∷ []) d in
          let a = ex-only h g s.1 t.1 in let p = counts-next s.2 in let q = counts-next (from a.1 t.2) in
          (rw (a.0, sym p.0 ∙ q.0, same_some (sym e ∙ f)) refl, none-only p.1 q.1)
      ex-only (r_unary h) (r_unary g) c d = let a = ex-only h g c d in (rw a.0 refl, a.1)
      ex-only (r_binary {x = x} {y = y} h g) (r_binary {x = u} {y = v} q r) c d =
          let s = counts-split (numbers x) (numbers y) c in let t = counts-split (numbers u) (numbers v) d in
          let a = ex-only h q s.1 t.1 in let b = ex-only g r s.2 (from a.1 t.2) in (rw (a.0, b.0) refl, b.1)

      pub exs-only : {es : Expressions} {xs ys : Exs} {k i j : ℕ} → AllResolve O here scope es xs → AllResolve O here scope es ys
          → Counts k (numbers_all xs) i → Counts k (numbers_all ys) j → (xs ≡ ys) × (i ≡ j)
      exs-only r_no_more r_no_more c d = (refl, none-only c d)
      exs-only (r_and_more {x = x} {xs = xs} h hs) (r_and_more {x = u} {xs = us} g gs) c d =
          let s = counts-split (numbers x) (numbers_all xs) c in let t = counts-split (numbers u) (numbers_all us) d in
          let a = ex-only h g s.1 t.1 in let b = exs-only hs gs s.2 (from a.1 t.2) in (rw (a.0, b.0) refl, b.1)

    pub if-only : {v : Option Expression} {x y : Option Ex} {k i j : ℕ} → ResolvesIf O here scope v x → ResolvesIf O here scope v y
        → Counts k (numbers_if x) i → Counts k (numbers_if y) j → (x ≡ y) × (i ≡ j)
    if-only r_none r_none c d = (refl, none-only c d)
    if-only (r_some h) (r_some g) c d = let a = ex-only h g c d in (ap Some a.0, a.1)

counts-as : {k i : ℕ} {ms ns : List ℕ} → ms ≡ ns → Counts k ms i → Counts k ns i
counts-as {k} {i} e c = subst (λ z. Counts k z i) e c

-- two methods have the same variables of these numbers
abbrev pub Agree : PlainMethod → PlainMethod → List ℕ → Type 0
Agree k l [] = Unit {0}
Agree k l (i ∷ is) = (slice_get (variables_of k) i ≡ slice_get (variables_of l) i) × Agree k l is

agree-append : (k l : PlainMethod) (is js : List ℕ) → Agree k l is → Agree k l js → Agree k l (is ++ js)
agree-append k l [] js a b = b
agree-append k l (i ∷ is) js a b = (a.0, agree-append k l is js a.1 b)

pub agree-at : (k l : PlainMethod) {a b : ℕ} {is : List ℕ} → Counts a is b → Agree k l is → (i : ℕ) → a ≤ i → i < b → slice_get (variables_of k) i
    ≡ slice_get (variables_of l) i
agree-at k l no_number g i le lt = absurd (omega (arith, le, lt))
agree-at k l {a} (next_number c) g i le lt =
    ⊎_elim (λ more. agree-at k l c g.1 i (omega (arith, more)) lt) (λ same. let e : a ≡ i = omega (arith, le, same) in subst
    (λ z. slice_get (variables_of k) z ≡ slice_get (variables_of l) z) e g.0) (cases_lt a i)

module _ (O : Plain) (one : OneMet O) (here : Here) (k l : PlainMethod) where
  -- one tree, with the numbers and the locals counted to the same ends, and one meaning of its locals
  abbrev pub Same : {A : Type 0} → A → A → ℕ → ℕ → ℕ → ℕ → List ℕ → Type 0
  Same x y i j m n is = (x ≡ y) × (i ≡ j) × (m ≡ n) × Agree k l is

  mutual
    pub st-only : {inside : Bool} {scope : List Bound} {s : Statement} {x y : St} {a i j b m n : ℕ} → IsFormedStmt s
        → StResolves O here k inside scope s x → StResolves O here l inside scope s y
        → Counts a (numbers_st x) i → Counts a (numbers_st y) j → Counts b (declares x) m → Counts b (declares y) n → Same x y i j m n (declares x)
    st-only {scope = scope} f (r_declare {u = u} {n = n} {v = v} {x = x} {p = at} h e) (r_declare {x = y} g w) c d p q =
        let s = counts-next p in let t = counts-next q in let i = sym s.0 ∙ t.0 in
        let a = if-only O one here _ e (subst (λ z. ResolvesIf O here (bound scope n z) v y) (sym i) w) c d in
        let ty = type-meant O u h.ty h.means ∙ sym (type-meant O u g.ty g.means) in (
          rw (i, a.0) refl,
          a.1,
          none-only s.1 t.1,
          (
            h.stands ∙ ap (λ z. Some (record { name = n; ty = z; tag = at_place at })) ty ∙ sym g.stands
                ∙ ap (slice_get (variables_of l)) (sym i),
            tt,
          ),
        )
    st-only f (r_block h) (r_block g) c d p q = let a = sts-only f h g c d p q in (rw a.0 refl, a.1, a.2, a.3)
    st-only f (r_assign {e = e} {x = x} {y = y} h i) (r_assign {x = u} {y = v} g j) c d p q =
        let s = counts-split (numbers_target (target x)) (numbers y) c in let t = counts-split (numbers_target (target u)) (numbers v) d in
        let a = ex-only O one here _ h g (counts-as (numbers-target e x f.0 h) s.1) (counts-as (numbers-target e u f.0 g) t.1) in
        let b = ex-only O one here _ i j s.2 (from a.1 t.2) in (rw (a.0, b.0) refl, b.1, none-only p q, tt)
    st-only f (r_act h) (r_act g) c d p q = let a = ex-only O one here _ h g c d in (rw a.0 refl, a.1, none-only p q, tt)
    st-only f (r_print h) (r_print g) c d p q = let a = if-only O one here _ h g c d in (rw a.0 refl, a.1, none-only p q, tt)
    st-only f (r_choose h) (r_choose g) c d p q = let a = arms-only f.1 f.2 h g c d p q in (rw a.0 refl, a.1, a.2, a.3)
    st-only f (r_while {x = x} {xs = xs} h hs) (r_while {x = u} {xs = us} g gs) c d p q =
        let c2 = counts-split (numbers x ++ []) (numbers_sts xs) c in let d2 = counts-split (numbers u ++ []) (numbers_sts us) d in
        let c1 = counts-split (numbers x) [] c2.1 in let d1 = counts-split (numbers u) [] d2.1 in
        let a = ex-only O one here _ h g c1.1 d1.1 in let b = sts-only f.1 hs gs c2.2 (from (none-only c1.2 (from a.1 d1.2)) d2.2) p q in
        (rw (a.0, b.0) refl, b.1, b.2, b.3)
    st-only {inside = inside} {scope = scope} f (r_for {f = first} {g = last} {v = v} {x = x} {ss = ss} {first = x1} {step = x2} {xs = xs} h t w hs)
        (r_for {x = u} {first = u1} {step = u2} {xs = us} g r wu gs) c d p q =
        let c3 = counts-split (numbers_sts x1 ++ numbers_if x ++ numbers_sts x2) (numbers_sts xs) c in
        let d3 = counts-split (numbers_sts u1 ++ numbers_if u ++ numbers_sts u2) (numbers_sts us) d in
        let c2 = counts-split (numbers_sts x1 ++ numbers_if x) (numbers_sts x2) c3.1 in let d2 = counts-split (numbers_sts u1 ++ numbers_if u)
        (numbers_sts u2) d3.1 in
        let c1 = counts-split (numbers_sts x1) (numbers_if x) c2.1 in let d1 = counts-split (numbers_sts u1) (numbers_if u) d2.1 in
        let p2 = counts-split (declares_all x1 ++ declares_all x2) (declares_all xs) p in let q2 = counts-split (declares_all u1 ++ declares_all u2)
        (declares_all us) q in
        let p1 = counts-split (declares_all x1) (declares_all x2) p2.1 in let q1 = counts-split (declares_all u1) (declares_all u2) q2.1 in
        let a = part-only (of-first first f.0) h g c1.1 d1.1 p1.1 q1.1 in
        let after : scope_after_part scope first u1 ≡ scope_after_part scope first x1 = ap (scope_after_part scope first) (sym a.0) in
        let b = if-only O one here _ t (subst (λ z. ResolvesIf O here z v u) after r) c1.2 (from a.1 d1.2) in
        let e = part-only (of-step last f.2) w (subst (λ z. PartResolves O here l inside z last u2) after wu) c2.2 (from b.1 d2.2) p1.2 (from a.2 q1.2) in
        let y = sts-only f.3 hs (subst (λ z. StsResolve O here l true z ss us) after gs) c3.2 (from e.1 d3.2) p2.2 (from e.2 q2.2) in (
          rw (a.0, b.0, e.0, y.0) refl,
          y.1,
          y.2,
          agree-append k l (declares_all x1 ++ declares_all x2) (declares_all xs)
              (agree-append k l (declares_all x1) (declares_all x2) a.3 e.3) y.3,
        )
    st-only f (r_return h) (r_return g) c d p q = let a = if-only O one here _ h g c d in (rw a.0 refl, a.1, none-only p q, tt)
    st-only f r_break r_break c d p q = (refl, none-only c d, none-only p q, tt)
    st-only f r_continue r_continue c d p q = (refl, none-only c d, none-only p q, tt)

    pub sts-only : {inside : Bool} {scope : List Bound} {ss : Statements} {x y : Sts} {a i j b m n : ℕ} → AreFormedStmts ss
        → StsResolve O here k inside scope ss x → StsResolve O here l inside scope ss y
        → Counts a (numbers_sts x) i → Counts a (numbers_sts y) j → Counts b (declares_all x) m → Counts b (declares_all y) n
        → Same x y i j m n (declares_all x)
    sts-only f r_no_statements r_no_statements c d p q = (refl, none-only c d, none-only p q, tt)
    sts-only {inside = inside} {scope = scope} f (r_and_then {s = s} {x = x} {ss = ss} {xs = xs} h hs) (r_and_then {x = u} {xs = us} g gs) c d p q =
        let c1 = counts-split (numbers_st x) (numbers_sts xs) c in let d1 = counts-split (numbers_st u) (numbers_sts us) d in
        let p1 = counts-split (declares x) (declares_all xs) p in let q1 = counts-split (declares u) (declares_all us) q in
        let a = st-only f.0 h g c1.1 d1.1 p1.1 q1.1 in
        let b = sts-only f.1 hs (subst (λ z. StsResolve O here l inside (scope_after scope s z) ss us) (sym a.0) gs) c1.2 (from a.1 d1.2) p1.2
        (from a.2 q1.2) in
        (rw (a.0, b.0) refl, b.1, b.2, agree-append k l (declares x) (declares_all xs) a.3 b.3)

    arms-only : {inside : Bool} {scope : List Bound} {arms : tree.Arms} {o : Else} {x y : IfArms} {a i j b m n : ℕ} → AreFormedArms arms
        → IsFormedElse o → ArmsResolve O here k inside scope arms o x → ArmsResolve O here l inside scope arms o y
        → Counts a (numbers_arms x) i → Counts a (numbers_arms y) j → Counts b (declares_arms x) m → Counts b (declares_arms y) n
        → Same x y i j m n (declares_arms x)
    arms-only f g r_no_else r_no_else c d p q = (refl, none-only c d, none-only p q, tt)
    arms-only f g (r_else h) (r_else i) c d p q = let a = sts-only g h i c d p q in (rw a.0 refl, a.1, a.2, a.3)
    arms-only f g (r_arm {x = x} {xs = xs} {more = xm} h hs hm) (r_arm {x = u} {xs = us} {more = um} t ts tm) c d p q =
        let c2 = counts-split (numbers x ++ numbers_sts xs) (numbers_arms xm) c in let d2 = counts-split (numbers u ++ numbers_sts us) (numbers_arms um) d in
        let c1 = counts-split (numbers x) (numbers_sts xs) c2.1 in let d1 = counts-split (numbers u) (numbers_sts us) d2.1 in
        let p2 = counts-split (declares_all xs) (declares_arms xm) p in let q2 = counts-split (declares_all us) (declares_arms um) q in
        let a = ex-only O one here _ h t c1.1 d1.1 in let b = sts-only f.1 hs ts c1.2 (from a.1 d1.2) p2.1 q2.1 in let e = arms-only f.2 g hm tm c2.2
        (from b.1 d2.2) p2.2 (from b.2 q2.2) in
        (rw (a.0, b.0, e.0) refl, e.1, e.2, agree-append k l (declares_all xs) (declares_arms xm) b.3 e.3)

    part-only : {inside : Bool} {scope : List Bound} {s : OptionalStatement} {x y : Sts} {a i j b m n : ℕ} → IsFormedPart s
        → PartResolves O here k inside scope s x → PartResolves O here l inside scope s y
        → Counts a (numbers_sts x) i → Counts a (numbers_sts y) j → Counts b (declares_all x) m → Counts b (declares_all y) n
        → Same x y i j m n (declares_all x)
    part-only f r_absent r_absent c d p q = (refl, none-only c d, none-only p q, tt)
    part-only f (r_present {x = x} h) (r_present {x = u} g) c d p q =
        let c1 = counts-split (numbers_st x) [] c in let d1 = counts-split (numbers_st u) [] d in let p1 = counts-split (declares x) [] p in
        let q1 = counts-split (declares u) [] q in
        let a = st-only f h g c1.1 d1.1 p1.1 q1.1 in
        (rw a.0 refl, none-only c1.2 (from a.1 d1.2), none-only p1.2 (from a.2 q1.2), agree-append k l (declares x) [] a.3 tt)
