-- Lists of tags and of as many words: their values after one is put, added or left out.
use Rattle.std.proofs.Common.{◌≡◌, ℕ, zero, suc, ◌-◌, ◌<◌, ◌≤◌, ◌++◌, List, [], ◌∷◌, Some, refl, length, get_or, take, ap, sym, subst, ◌∙◌, arith}
use Rattle.std.proofs.lemmas.List.{take_all}
use Rattle.std.proofs.Math.ListN.{set}
use Rattle.std.specs.Prelude.{Bool, true, false, if◌then◌else◌, replicate, slice_get}
use Rattle.java_heap.specs.declared.values.Value.{Value}
use Rattle.java_heap.specs.declared.values.Value.TheVariants as kind
use Rattle.java_heap.specs.declared.packed.Tag.{Tag}
use Rattle.java_heap.specs.Packing.{tag_of, value_at, unpacked}

pub length_unpacked : (ts : List Tag) (ws : List ℕ) → length ts ≡ length ws → length (unpacked ts ws) ≡ length ts
length_unpacked [] ws h = refl
length_unpacked (t ∷ ts) [] h = absurd (omega arith)
length_unpacked (t ∷ ts) (w ∷ ws) h = let d : length ts ≡ length ws = omega arith in ap suc (length_unpacked ts ws d)

pub sized : (ts : List Tag) (ws : List ℕ) (vs : List Value) → unpacked ts ws ≡ vs → length ts ≡ length ws → length ts ≡ length vs
sized ts ws vs e h = sym (length_unpacked ts ws h) ∙ ap length e

pub unpacked_get : (ts : List Tag) (ws : List ℕ) (at : ℕ) (t : Tag) (w : ℕ) → length ts ≡ length ws → at < length ts → t ≡ get_or ts at t
    → w ≡ get_or ws at w → Some (value_at t w) ≡ slice_get (unpacked ts ws) at
unpacked_get [] ws at t w h lt p q = absurd (omega arith)
unpacked_get (a ∷ ts) [] at t w h lt p q = absurd (omega arith)
unpacked_get (a ∷ ts) (b ∷ ws) zero t w h lt p q = ap (λ k. Some (value_at k w)) p ∙ ap (λ n. Some (value_at a n)) q
unpacked_get (a ∷ ts) (b ∷ ws) (suc at) t w h lt p q =
    let d : length ts ≡ length ws = omega arith in
    let less : at < length ts = omega arith in
    unpacked_get ts ws at t w d less p q

pub unpacked_set : (ts : List Tag) (ws : List ℕ) (at : ℕ) (t : Tag) (w : ℕ) → length ts ≡ length ws
    → unpacked (set ts at t) (set ws at w) ≡ set (unpacked ts ws) at (value_at t w)
unpacked_set [] ws at t w h = refl
unpacked_set (a ∷ ts) [] at t w h = absurd (omega arith)
unpacked_set (a ∷ ts) (b ∷ ws) zero t w h = refl
unpacked_set (a ∷ ts) (b ∷ ws) (suc at) t w h =
    let d : length ts ≡ length ws = omega arith in ap (λ l. value_at a b ∷ l) (unpacked_set ts ws at t w d)

-- where the tag says all
pub truth_at : (b : Bool) (w : ℕ) → value_at (tag_of (kind.Bool b)) w ≡ kind.Bool b
truth_at true w = refl
truth_at false w = refl

pub unpacked_get_tag : (ts : List Tag) (ws : List ℕ) (at : ℕ) (t : Tag) (v : Value) → length ts ≡ length ws → at < length ts → t ≡ get_or ts at t
    → ((w : ℕ) → value_at t w ≡ v) → Some v ≡ slice_get (unpacked ts ws) at
unpacked_get_tag [] ws at t v h lt p is = absurd (omega arith)
unpacked_get_tag (a ∷ ts) [] at t v h lt p is = absurd (omega arith)
unpacked_get_tag (a ∷ ts) (b ∷ ws) zero t v h lt p is = ap Some (sym (is b)) ∙ ap (λ k. Some (value_at k b)) p
unpacked_get_tag (a ∷ ts) (b ∷ ws) (suc at) t v h lt p is =
    let d : length ts ≡ length ws = omega arith in
    let less : at < length ts = omega arith in
    unpacked_get_tag ts ws at t v d less p is

-- the value at a place whose tag says all
pub got_tag : (ts : List Tag) (ws : List ℕ) (vs : List Value) → unpacked ts ws ≡ vs → length ts ≡ length ws → (at : ℕ) (x t : Tag) (v : Value)
    → at < length vs → x ≡ t → x ≡ get_or ts at x → ((w : ℕ) → value_at t w ≡ v) → Some v ≡ slice_get vs at
got_tag ts ws vs e h at x t v lt q p is =
    let within : at < length ts = omega (arith, sized ts ws vs e h) in
    unpacked_get_tag ts ws at t v h within (subst (λ (k : Tag). k ≡ get_or ts at k) q p) is ∙ ap (λ l. slice_get l at) e

pub unpacked_set_tag : (ts : List Tag) (ws : List ℕ) (at : ℕ) (t : Tag) (v : Value) → length ts ≡ length ws → ((w : ℕ) → value_at t w ≡ v)
    → unpacked (set ts at t) ws ≡ set (unpacked ts ws) at v
unpacked_set_tag [] ws at t v h is = refl
unpacked_set_tag (a ∷ ts) [] at t v h is = absurd (omega arith)
unpacked_set_tag (a ∷ ts) (b ∷ ws) zero t v h is = ap (λ k. k ∷ unpacked ts ws) (is b)
unpacked_set_tag (a ∷ ts) (b ∷ ws) (suc at) t v h is =
    let d : length ts ≡ length ws = omega arith in ap (λ l. value_at a b ∷ l) (unpacked_set_tag ts ws at t v d is)

pub unpacked_append : (ts rs : List Tag) (ws us : List ℕ) → length ts ≡ length ws → unpacked (ts ++ rs) (ws ++ us) ≡ unpacked ts ws ++ unpacked rs us
unpacked_append [] rs [] us h = refl
unpacked_append [] rs (w ∷ ws) us h = absurd (omega arith)
unpacked_append (t ∷ ts) rs [] us h = absurd (omega arith)
unpacked_append (t ∷ ts) rs (w ∷ ws) us h =
    let d : length ts ≡ length ws = omega arith in ap (λ l. value_at t w ∷ l) (unpacked_append ts rs ws us d)

pub unpacked_replicate : (n : ℕ) (t : Tag) (w : ℕ) → unpacked (replicate n t) (replicate n w) ≡ replicate n (value_at t w)
unpacked_replicate zero t w = refl
unpacked_replicate (suc n) t w = ap (λ l. value_at t w ∷ l) (unpacked_replicate n t w)

pub unpacked_take : (n : ℕ) (ts : List Tag) (ws : List ℕ) → unpacked (take n ts) (take n ws) ≡ take n (unpacked ts ws)
unpacked_take zero ts ws = refl
unpacked_take (suc n) [] ws = refl
unpacked_take (suc n) (t ∷ ts) [] = refl
unpacked_take (suc n) (t ∷ ts) (w ∷ ws) = ap (λ l. value_at t w ∷ l) (unpacked_take n ts ws)

-- where there may be no room for one more
pub unpacked_push : (b : Bool) (ts rs : List Tag) (ws us : List ℕ) (t : Tag) (w : ℕ) (v : Value) (vs : List Value) → unpacked ts ws ≡ vs
    → length ts ≡ length ws → value_at t w ≡ v → rs ≡ (if b then ts ++ t ∷ [] else ts) → us ≡ (if b then ws ++ w ∷ [] else ws)
    → unpacked rs us ≡ (if b then vs ++ v ∷ [] else vs)
unpacked_push true ts rs ws us t w v vs e h q r u =
    ap (λ k. unpacked k us) r
    ∙ ap (unpacked (ts ++ t ∷ [])) u
    ∙ unpacked_append ts (t ∷ []) ws (w ∷ []) h
    ∙ ap (λ l. l ++ value_at t w ∷ []) e
    ∙ ap (λ x. vs ++ x ∷ []) q
unpacked_push false ts rs ws us t w v vs e h q r u = ap (λ k. unpacked k us) r ∙ ap (unpacked ts) u ∙ e

-- up to so many, copies are added
pub unpacked_fill : (ts rs : List Tag) (ws us : List ℕ) (n a b : ℕ) (t : Tag) (w : ℕ) (v : Value) (vs : List Value) → unpacked ts ws ≡ vs
    → length ts ≡ length ws → length vs ≤ n → value_at t w ≡ v → a ≡ length ts → b ≡ length ws
    → rs ≡ take n ts ++ replicate (n - a) t → us ≡ take n ws ++ replicate (n - b) w → unpacked rs us ≡ vs ++ replicate (n - length vs) v
unpacked_fill ts rs ws us n a b t w v vs e h le q p o r u =
    let s : length ts ≡ length vs = sized ts ws vs e h in
    let m = n - length vs in
    let tags : rs ≡ ts ++ replicate m t = r ∙ ap (λ l. l ++ replicate (n - a) t) (take_all n ts (omega (arith, s)))
    ∙ ap (λ k. ts ++ replicate (n - k) t) (p ∙ s) in
    let words : us ≡ ws ++ replicate m w = u ∙ ap (λ l. l ++ replicate (n - b) w) (take_all n ws (omega (arith, s, h)))
    ∙ ap (λ k. ws ++ replicate (n - k) w) (o ∙ sym h ∙ s) in
    ap (λ k. unpacked k us) tags
    ∙ ap (unpacked (ts ++ replicate m t)) words
    ∙ unpacked_append ts (replicate m t) ws (replicate m w) h
    ∙ ap (λ l. l ++ unpacked (replicate m t) (replicate m w)) e
    ∙ ap (λ l. vs ++ l) (unpacked_replicate m t w ∙ ap (replicate m) q)
