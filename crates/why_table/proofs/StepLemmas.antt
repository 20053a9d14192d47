-- The claims of steps, and steps that are added.
use Rattle.std.proofs.Common.{◌≡◌, ℕ, suc, zero, ◌<◌, ◌≤◌, List, [], ◌∷◌, ◌++◌, length, map, get_or, All, Contains, Some, slice_get, subst, refl, sym, ap, ◌∙◌, arith, ⊎_elim}
use Rattle.std.specs.Option.{option_map}
use Rattle.std.proofs.lemmas.Bool.{cases_lt}
use Rattle.std.proofs.lemmas.List.{map-append, length-map, length-append}
use Rattle.std.proofs.Math.ListN.{get_or-append}
use Rattle.std.proofs.Math.Seq.{get_or-append_seam}
use Rattle.std.proofs.lemmas.Option.{slice_get_within, get_or_from_slice_get, slice_get-get_or, slice_get-map}
use Rattle.std.proofs.lemmas.List.Elements.{All-weaker, All-head, All-tail, All-contains_itself}
use Rattle.fact_model.specs.declared.facts.Facts.{Facts}
use Rattle.why_table.specs.Rules.{GivesClaim}
use Rattle.why_table.specs.Trails.{claim_at, Follows, Passes}
use Rattle.why_table.specs.Found.{HaveOneEach}
use Rattle.why_table.specs.Search.{HasClaim, AreSteps, IsNextStep}
use Rattle.why_table.specs.declared.trail.Claim.{Claim}
use Rattle.why_table.specs.declared.trail.Claim.TheVariants.{InPoint}
use Rattle.why_table.specs.declared.trail.WhyStep.{WhyStep}

-- the claim of a step
abbrev pub claim_of_step : WhyStep → Claim
claim_of_step s = s.claim

pub step_here : {A : Type 0} (xs : List A) (k : ℕ) → k < length xs → (s : A) × (slice_get xs k ≡ Some s)
step_here [] k lt = absurd (omega (arith, lt))
step_here (x ∷ xs) zero lt = (x, refl)
step_here (x ∷ xs) (suc k) lt = step_here xs k (omega (arith, lt))

-- the first elements are the same with more
pub get_before : {A : Type 0} (xs ys : List A) (k : ℕ) (s : A) → slice_get xs k ≡ Some s → slice_get (xs ++ ys) k ≡ Some s
get_before [] ys k s e = absurd (cc e)
get_before (x ∷ xs) ys zero s e = e
get_before (x ∷ xs) ys (suc k) s e = get_before xs ys k s e

pub get_seam : {A : Type 0} (xs : List A) (s : A) → slice_get (xs ++ s ∷ []) (length xs) ≡ Some s
get_seam [] s = refl
get_seam (x ∷ xs) s = get_seam xs s

pub claim_here : (steps : List WhyStep) (k : ℕ) (s : WhyStep) → slice_get steps k ≡ Some s → claim_at steps k ≡ s.claim
claim_here steps k s e =
    get_or_from_slice_get (map claim_of_step steps) k s.claim (InPoint 0 (record { 0 = 0 })) (slice_get-map claim_of_step steps k ∙ ap (option_map claim_of_step) e)

-- all of a list, by what it contains
pub all_contained : {A : Type 0} (P : A → Type 0) (xs : List A) → ((x : A) → Contains xs x → P x) → All P xs
all_contained P xs f = All-weaker (Contains xs) P f xs (All-contains_itself xs)

pub passes_at : (F : Facts) (steps : List WhyStep) → Passes F steps → (k : ℕ) (s : WhyStep) → slice_get steps k ≡ Some s → Follows F steps k s
passes_at F steps p k s e = subst (Follows F steps k) (get_or_from_slice_get steps k s s e) (p k s (slice_get_within steps k s e))

pub passes_from : (F : Facts) (steps : List WhyStep) → ((k : ℕ) (s : WhyStep) → slice_get steps k ≡ Some s → Follows F steps k s) → Passes F steps
passes_from F steps h = λ k d lt. h k (get_or steps k d) (slice_get-get_or steps k d lt)

-- the claims of the first steps are the same with more steps
pub claim_before : (xs ys : List WhyStep) (k : ℕ) → k < length xs → claim_at (xs ++ ys) k ≡ claim_at xs k
claim_before xs ys k lt =
    let none : Claim = InPoint 0 (record { 0 = 0 }) in
    ap (λ l. get_or l k none) (map-append claim_of_step xs ys)
    ∙ get_or-append (map claim_of_step xs) (map claim_of_step ys) none k (omega (arith, length-map xs claim_of_step, lt))

pub claim_last : (xs : List WhyStep) (s : WhyStep) → claim_at (xs ++ s ∷ []) (length xs) ≡ s.claim
claim_last xs s =
    let none : Claim = InPoint 0 (record { 0 = 0 }) in
    ap (λ l. get_or l (length xs) none) (map-append claim_of_step xs (s ∷ []))
    ∙ ap (λ i. get_or (map claim_of_step xs ++ s.claim ∷ []) i none) (sym (length-map xs claim_of_step))
    ∙ get_or-append_seam (map claim_of_step xs) s.claim [] none

pub map_agree : {A B : Type 0} (f g : A → B) (xs : List A) → All (λ x. f x ≡ g x) xs → map f xs ≡ map g xs
map_agree f g [] h = refl
map_agree f g (x ∷ xs) h =
    ap (λ y. y ∷ map f xs) (All-head (λ x. f x ≡ g x) x xs h) ∙ ap (λ l. g x ∷ l) (map_agree f g xs (All-tail (λ x. f x ≡ g x) x xs h))

pub follows_before : (F : Facts) (xs ys : List WhyStep) (k : ℕ) (s : WhyStep) → k ≤ length xs → Follows F xs k s → Follows F (xs ++ ys) k s
follows_before F xs ys k s le h =
    let same : map (claim_at (xs ++ ys)) s.from.items ≡ map (claim_at xs) s.from.items =
    map_agree (claim_at (xs ++ ys)) (claim_at xs) s.from.items
    (All-weaker (λ j. j < k) (λ j. claim_at (xs ++ ys) j ≡ claim_at xs j) (λ j lt. claim_before xs ys j (omega (arith, lt, le))) s.from.items h.earlier) in
    record { earlier = h.earlier; given = subst (λ ps. GivesClaim F s.rule ps s.claim) (sym same) h.given }

-- the last of some steps, or one before it
pub last_or_before : {A : Type 0} (xs : List A) (s : A) (k : ℕ) → k < length (xs ++ s ∷ []) → length xs ≤ k → k ≡ length xs
last_or_before xs s k lt le = omega (arith, lt, le, length-append xs (s ∷ []))

pub passes_push : (F : Facts) (xs : List WhyStep) (s : WhyStep) → Passes F xs → Follows F xs (length xs) s → Passes F (xs ++ s ∷ [])
passes_push F xs s p h = λ k d lt.
    ⊎_elim
    (λ low. subst (Follows F (xs ++ s ∷ []) k) (sym (get_or-append xs (s ∷ []) d k low)) (follows_before F xs (s ∷ []) k (get_or xs k d) (omega (arith, low)) (p k d low)))
    (λ high. subst (λ i. Follows F (xs ++ s ∷ []) i (get_or (xs ++ s ∷ []) i d)) (sym (last_or_before xs s k lt high))
    (subst (Follows F (xs ++ s ∷ []) (length xs)) (sym (get_or-append_seam xs s [] d)) (follows_before F xs (s ∷ []) (length xs) s (omega arith) h)))
    (cases_lt k (length xs))

pub once_push : (xs : List WhyStep) (s : WhyStep) → HaveOneEach xs → (HasClaim xs s.claim → ⊥) → HaveOneEach (xs ++ s ∷ [])
once_push xs s once fresh = λ j k lt below e.
    ⊎_elim
    (λ low. once j k lt low (sym (claim_before xs (s ∷ []) j (omega (arith, lt, low))) ∙ e ∙ claim_before xs (s ∷ []) k low))
    (λ high.
    let last : k ≡ length xs = last_or_before xs s k below high in
    let low : j < length xs = omega (arith, lt, last) in
    fresh (record { at = j; below = low; is = sym (claim_before xs (s ∷ []) j low) ∙ e ∙ ap (claim_at (xs ++ s ∷ [])) last ∙ claim_last xs s }))
    (cases_lt k (length xs))

-- a step more
pub steps_push : (F : Facts) (xs : List WhyStep) (s : WhyStep) → AreSteps F xs → IsNextStep F xs s → length xs < 4294967294 → AreSteps F (xs ++ s ∷ [])
steps_push F xs s a n few = record {
  passes = passes_push F xs s a.passes n.follows;
  once = once_push xs s a.once n.fresh;
  few = omega (arith, few, length-append xs (s ∷ []));
}
