-- The names that are fixed for constructors: each is none of the words of the text, and no two are one.
use Rattle.std.proofs.Common.{◌≡◌, ◌≢◌, ℕ, List, [], ◌∷◌, ◌++◌, Bool, true, false, Option, Some, None, Contains, refl, sym, ap, ◌∙◌, subst, arith, ⊎_elim, inl, inr}
use Rattle.std.specs.Prelude.{◌==◌, map, if◌then◌else◌}
use Rattle.std.proofs.lemmas.Bool.{cases_Bool, false≢true, eqb-true, eq-eqb}
use Rattle.std.proofs.lemmas.Option.{same_Some}
use Rattle.std.proofs.lemmas.List.Elements.{Contains-append_left, Contains-append_right}
use Rattle.kaba_base.specs.Words.{is_name}
use Rattle.kaba_base.proofs.ListLemmas.{contains_cases}
use Rattle.fact_model.specs.FreeNames.{free_name, underscores}
use Rattle.fact_model.proofs.FreeLemmas.{free_name-free}
use Rattle.fact_model.proofs.MarkedNames.{not_taken, lengthened_name}
use Rattle.flow_rules.specs.Facts.{FixedFor, an_init, the_holder, the_local, a_make, FixedName, same_fixed, fixed_from, name_for}
use Rattle.flow_rules.proofs.Listed.{first, more}

-- the test of what a name is fixed for is exact
pub same_fixed-exact : (i j : FixedFor) → same_fixed i j ≡ true → i ≡ j
same_fixed-exact (an_init c) (an_init d) e = ap an_init (eqb-true c d e)
same_fixed-exact (an_init c) the_holder e = absurd (false≢true e)
same_fixed-exact (an_init c) the_local e = absurd (false≢true e)
same_fixed-exact (an_init c) (a_make j) e = absurd (false≢true e)
same_fixed-exact the_holder (an_init d) e = absurd (false≢true e)
same_fixed-exact the_holder the_holder e = refl
same_fixed-exact the_holder the_local e = absurd (false≢true e)
same_fixed-exact the_holder (a_make j) e = absurd (false≢true e)
same_fixed-exact the_local (an_init d) e = absurd (false≢true e)
same_fixed-exact the_local the_holder e = absurd (false≢true e)
same_fixed-exact the_local the_local e = refl
same_fixed-exact the_local (a_make j) e = absurd (false≢true e)
same_fixed-exact (a_make i) (an_init d) e = absurd (false≢true e)
same_fixed-exact (a_make i) the_holder e = absurd (false≢true e)
same_fixed-exact (a_make i) the_local e = absurd (false≢true e)
same_fixed-exact (a_make i) (a_make j) e = ap a_make (eqb-true i j e)

pub same_fixed-alike : (i : FixedFor) → same_fixed i i ≡ true
same_fixed-alike (an_init c) = eq-eqb c c refl
same_fixed-alike the_holder = refl
same_fixed-alike the_local = refl
same_fixed-alike (a_make i) = eq-eqb i i refl

-- a name that is found is one of the list, for what was asked
pub name_for-from : (i : FixedFor) (fs : List FixedName) (n : List ℕ) → name_for i fs ≡ Some n → (f : FixedName) × Contains fs f × (i ≡ f.for) × (f.name ≡ n)
name_for-from i [] n e = absurd (cc)
name_for-from i (f ∷ fs) n e = go (λ h. let z = name_for-from i fs n h in (z.0, more z.0 f fs z.1, z.2, z.3)) (same_fixed i f.for) refl e
  where
    go : (name_for i fs ≡ Some n → (g : FixedName) × Contains (f ∷ fs) g × (i ≡ g.for) × (g.name ≡ n)) → (b : Bool) → same_fixed i f.for ≡ b
        → (if b then Some f.name else name_for i fs) ≡ Some n → (g : FixedName) × Contains (f ∷ fs) g × (i ≡ g.for) × (g.name ≡ n)
    go rest true h e = (f, first f fs, same_fixed-exact i f.for h, same_Some f.name n e)
    go rest false h e = rest e

-- and where the list has one, a name is found
pub name_for-has : (fs : List FixedName) (f : FixedName) → Contains fs f → (n : List ℕ) × (name_for f.for fs ≡ Some n)
name_for-has [] f c = absurd (omega (arith, c.1))
name_for-has (g ∷ fs) f c = go (λ d. name_for-has fs f d) (same_fixed f.for g.for) refl
  where
    go : (Contains fs f → (n : List ℕ) × (name_for f.for fs ≡ Some n)) → (b : Bool) → same_fixed f.for g.for ≡ b
        → (n : List ℕ) × ((if b then Some g.name else name_for f.for fs) ≡ Some n)
    go rest true h = (g.name, refl)
    go rest false h =
        ⊎_elim
        (λ e. absurd (false≢true (sym h ∙ ap (λ z. same_fixed f.for z.for) e ∙ same_fixed-alike f.for)))
        rest
        (contains_cases g fs f c)

-- each name is for something that a name is wished for
pub fixed-from : (taken : List (List ℕ)) (ws : List FixedName) (f : FixedName) → Contains (fixed_from taken ws) f → (w : FixedName) × Contains ws w × (w.for ≡ f.for)
fixed-from taken [] f c = absurd (omega (arith, c.1))
fixed-from taken (w ∷ ws) f c =
    ⊎_elim (λ e. (w, first w ws, ap (λ z. z.for) e))
    (λ d. let z = fixed-from (taken ++ free_name taken w.name ∷ []) ws f d in (z.0, more z.0 w ws z.1, z.2))
    (contains_cases _ _ f c)

-- and where one is wished, one is fixed
pub fixed-has : (taken : List (List ℕ)) (ws : List FixedName) (w : FixedName) → Contains ws w → (f : FixedName) × Contains (fixed_from taken ws) f × (w.for ≡ f.for)
fixed-has taken [] w c = absurd (omega (arith, c.1))
fixed-has taken (v ∷ ws) w c =
    let name = free_name taken v.name in
    let rest = fixed_from (taken ++ name ∷ []) ws in
    ⊎_elim (λ e. (record { for = v.for; name = name }, first _ rest, sym (ap (λ z. z.for) e)))
    (λ d. let z = fixed-has (taken ++ name ∷ []) ws w d in (z.0, more z.0 _ rest z.1, z.2))
    (contains_cases v ws w c)

-- none of them is taken
pub fixed-new : (taken : List (List ℕ)) (ws : List FixedName) (x : List ℕ) (f : FixedName) → Contains taken x → Contains (fixed_from taken ws) f → f.name ≢ x
fixed-new taken [] x f t c = absurd (omega (arith, c.1))
fixed-new taken (w ∷ ws) x f t c =
    let name = free_name taken w.name in
    ⊎_elim
    (λ e. λ s. not_taken taken name x (free_name-free taken w.name) t (ap (λ z. z.name) e ∙ s))
    (λ d. fixed-new (taken ++ name ∷ []) ws x f (Contains-append_left taken (name ∷ []) x t) d)
    (contains_cases _ _ f c)

-- and no two are one
pub fixed-one : (taken : List (List ℕ)) (ws : List FixedName) (f g : FixedName) → Contains (fixed_from taken ws) f → Contains (fixed_from taken ws) g
    → f.name ≡ g.name → f ≡ g
fixed-one taken [] f g c d e = absurd (omega (arith, c.1))
fixed-one taken (w ∷ ws) f g c d e =
    let name = free_name taken w.name in
    let here = Contains-append_right taken (name ∷ []) name (first name []) in
    let apart = fixed-new (taken ++ name ∷ []) ws name in
    ⊎_elim
    (λ p. ⊎_elim (λ q. sym p ∙ q) (λ q. absurd (apart g here q (sym e ∙ sym (ap (λ z. z.name) p)))) (contains_cases _ _ g d))
    (λ p. ⊎_elim (λ q. absurd (apart f here p (e ∙ sym (ap (λ z. z.name) q)))) (λ q. fixed-one (taken ++ name ∷ []) ws f g p q e) (contains_cases _ _ g d))
    (contains_cases _ _ f c)

-- what is made of names is a name
pub fixed-named : (taken : List (List ℕ)) (ws : List FixedName) → ((w : FixedName) → Contains ws w → is_name w.name ≡ true)
    → (f : FixedName) → Contains (fixed_from taken ws) f → is_name f.name ≡ true
fixed-named taken [] named f c = absurd (omega (arith, c.1))
fixed-named taken (w ∷ ws) named f c =
    let name = free_name taken w.name in
    ⊎_elim
    (λ e. subst (λ z. is_name z.name ≡ true) e (lengthened_name w.name (underscores taken w.name) (named w (first w ws))))
    (λ d. fixed-named (taken ++ name ∷ []) ws (λ v h. named v (more v w ws h)) f d)
    (contains_cases _ _ f c)
