-- What is passed over meets nothing, and the blocks are those of their lists.
use Rattle.std.proofs.Common.{◌≡◌, ℕ, zero, suc, ◌+◌, ◌*◌, ◌<◌, ◌≤◌, ◌⊎◌, inl, inr, ⊎_elim, Bool, true, false, List, [], ◌∷◌, ◌++◌, map, length, drop, Option, Some, Result, Ok, Err, refl, sym, ap, ◌∙◌, subst, arith}
use Rattle.std.specs.Prelude.{slice_get, IfOk, if◌then◌else◌}
use Rattle.std.specs.Option.{option_map}
use Rattle.std.proofs.lemmas.Bool.{cases_lt, eq-eqb, false≢true, false_from_ne_true}
use Rattle.std.proofs.lemmas.List.{drop_all, length-append}
use Rattle.std.proofs.lemmas.Option.{slice_get-map}
use Rattle.std.specs.declared.vec.Vec.{Vec}
use Rattle.std.specs.declared.alloc.Global.{Global}
use Rattle.kaba_bits.specs.declared.BitRow.{BitRow}
use Rattle.kaba_bits.specs.Sets.{bit}
use Rattle.java_core.specs.Owned.{passes, first_among}
use Rattle.name_laws.specs.declared.parts.Heading.{Heading}
use Rattle.name_laws.specs.Tables.{is_above}
use Rattle.name_tables.specs.declared.spots.Spots.{Spots}
use Rattle.name_tables.specs.Spots.{AreSpots, spots_of}
use Rattle.name_tables.proofs.SpotLemmas.{first-named}
use Rattle.name_bodies.specs.Met.{is_met, IsBlock, AreBlocks, AreBlocksOf, PassesOver, begun_at}

-- where none of some numbers passes, they are left out
skipped : {A : Type 0} (p : A → Bool) (xs : List A) (list : List ℕ) (from n : ℕ) → from ≤ n
    → ((i j : ℕ) → from ≤ i → i < n → slice_get list i ≡ Some j → passes p (slice_get xs j) ≡ false)
    → first_among p xs (drop n list) ≡ first_among p xs (drop from list)
skipped p xs [] from n le h = ap (first_among p xs) (drop_all n [] (omega arith) ∙ sym (drop_all from [] (omega arith)))
skipped p xs (k ∷ ks) zero zero le h = refl
skipped p xs (k ∷ ks) zero (suc n) le h =
    skipped p xs ks zero n (omega arith) (λ i j a b e. h (suc i) j (omega arith) (omega (arith, b)) e)
    ∙ sym (ap (λ b. if b then Some k else first_among p xs ks) (h 0 k (omega arith) (omega arith) refl))
skipped p xs (k ∷ ks) (suc from) zero le h = absurd (omega (arith, le))
skipped p xs (k ∷ ks) (suc from) (suc n) le h =
    skipped p xs ks from n (omega (arith, le)) (λ i j a b e. h (suc i) j (omega (arith, a)) (omega (arith, b)) e)

-- one item more stands at the end
pub pushed_cases : {A : Type 0} (xs : List A) (x y : A) (k : ℕ) → slice_get (xs ++ x ∷ []) k ≡ Some y
    → (slice_get xs k ≡ Some y) ⊎ ((k ≡ length xs) × (y ≡ x))
pushed_cases [] x y zero e = inr (refl, cc e)
pushed_cases [] x y (suc k) e = absurd (cc e)
pushed_cases (z ∷ xs) x y zero e = inl e
pushed_cases (z ∷ xs) x y (suc k) e = ⊎_elim (λ h. inl h) (λ h. inr (ap suc h.0, h.1)) (pushed_cases xs x y k e)

-- as many as before, and one
counted : {A : Type 0} (old : List A) (x : A) {new : List A} {n : ℕ} → length old ≡ n → new ≡ old ++ x ∷ [] → length new ≡ n + 1
counted old x count push = omega (arith, count, ap length push, length-append old (x ∷ []))

module _ (rows : List (List Bool)) (all : List Heading) where
  pub passed : (list : List ℕ) (blocks : List (List Bool)) → AreBlocks rows all list blocks → (k c place : ℕ) → k * 64 ≡ place → PassesOver blocks k c
      → first_among (λ h. is_above rows c h.owner) all (drop (place + 64) list) ≡ first_among (λ h. is_above rows c h.owner) all (drop place list)
  passed list blocks are k c place at over = skipped (λ h. is_above rows c h.owner) all list place (place + 64) (omega arith)
      (λ i j a b e. false_from_ne_true (is_met rows all c j) (λ t. false≢true (sym over.out
      ∙ block.each i j c (omega (arith, a, at)) (omega (arith, b, at)) e (let w = block.wide in let l = over.inside in omega (arith, w, l)) t)))
    where
      block : IsBlock rows all list (k * 64) 64 over.block
      block = are.each k over.block over.stands

  pub block-more : (list : List ℕ) (from k : ℕ) (old new : List Bool) → IsBlock rows all list from k old → length new ≡ length rows
      → ((c : ℕ) → bit old c ≡ true → bit new c ≡ true)
      → ((j c : ℕ) → slice_get list (from + k) ≡ Some j → c < length rows → is_met rows all c j ≡ true → bit new c ≡ true)
      → IsBlock rows all list from (k + 1) new
  block-more list from k old new b wide kept told = record {
    wide = wide;
    each = λ i j c le lt e lc m. ⊎_elim
        (λ less. kept c (b.each i j c le less e lc m))
        (λ ge. told j c (subst (λ z. slice_get list z ≡ Some j) (let s : i ≡ from + k = omega (arith, lt, ge) in s) e) lc m)
        (cases_lt i (from + k));
  }

  pub blocks-more : (list : List ℕ) (old new : List (List Bool)) (r : List Bool) {n : ℕ} → (length old ≡ n) × AreBlocks rows all list old
      → IsBlock rows all list (n * 64) 64 r → new ≡ old ++ r ∷ [] → (length new ≡ n + 1) × AreBlocks rows all list new
  blocks-more list old new r {n = n} b one push = (
    counted old r b.0 push,
    record {
      each = λ k s e. ⊎_elim
          (λ h. b.1.each k s h)
          (λ h. subst (λ z. IsBlock rows all list (z * 64) 64 s) (sym (h.0 ∙ b.0)) (subst (λ z. IsBlock rows all list (n * 64) 64 z) (sym h.1) one))
          (pushed_cases old r s k (subst (λ l. slice_get l k ≡ Some s) push e));
    },
  )

  begun-first : (l : List ℕ) (at : ℕ) → slice_get l 0 ≡ Some at → begun_at l at ≡ l
  begun-first [] at e = absurd (cc e)
  begun-first (f ∷ fs) at e = let same : f ≡ at = cc e in ap (λ b. if b then f ∷ fs else []) (eq-eqb f at same)

  module _ (spots : Spots) where
    pub blocks-first : {E : Type 0} → AreSpots (map (λ (h : Heading). h.name) all) spots → (at : ℕ) (h : Heading) → slice_get all at ≡ Some h
        → (r : Result (Vec BitRow Global) E) → IfOk r (λ v. AreBlocks rows all (begun_at (spots_of spots h.name) at) v.items)
        → IfOk r (λ v. (n : List ℕ) → slice_get (spots_of spots n) 0 ≡ Some at → AreBlocks rows all (spots_of spots n) v.items)
    blocks-first exact at h stands (Err x) b = tt
    blocks-first exact at h stands (Ok v) b = λ n e.
        let same : ◌≡◌ {A = Option (List ℕ)} (Some h.name) (Some n) =
        sym (slice_get-map (λ (h : Heading). h.name) all at ∙ ap (option_map (λ (h : Heading). h.name)) stands)
        ∙ first-named (λ (h : Heading). h.name) all spots exact n at e in
        let name : h.name ≡ n = cc same in
        subst (λ l. AreBlocks rows all l v.items) (ap (λ z. begun_at (spots_of spots z) at) name ∙ begun-first (spots_of spots n) at e) b

    pub names-more : (old new : List (Vec BitRow Global)) (v : Vec BitRow Global) {k : ℕ} → (length old ≡ k) × AreBlocksOf rows all spots old
        → ((n : List ℕ) → slice_get (spots_of spots n) 0 ≡ Some k → AreBlocks rows all (spots_of spots n) v.items)
        → new ≡ old ++ v ∷ [] → (length new ≡ k + 1) × AreBlocksOf rows all spots new
    names-more old new v b one push = (
      counted old v b.0 push,
      record {
        each = λ n f w first e. ⊎_elim
            (λ h. b.1.each n f w first h)
            (λ h. subst (λ z. AreBlocks rows all (spots_of spots n) z.items) (sym h.1)
            (one n (subst (λ z. slice_get (spots_of spots n) 0 ≡ Some z) (h.0 ∙ b.0) first)))
            (pushed_cases old v w f (subst (λ l. slice_get l f ≡ Some w) push e));
      },
    )
