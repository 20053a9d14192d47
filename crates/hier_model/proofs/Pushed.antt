-- Lists that grow by one item at a time, and lists that are known item by item.
use Rattle.std.proofs.Common.{◌≡◌, ℕ, ◌+◌, ◌<◌, List, [], ◌∷◌, ◌++◌, length, map, get_or, sym, ap, ◌∙◌, arith}
use Rattle.std.specs.List.{range_with_len}
use Rattle.std.proofs.lemmas.List.{ext_get_or}
use Rattle.std.proofs.lemmas.List.FromFn.{map-range_with_len_more, get_or-map-range_with_len, length-map-range_with_len}

-- what a test of each number gives, with one number more
pub pushed : {A : Type 0} (f : ℕ → A) (n : ℕ) (x : A) (old new : List A) → new ≡ old ++ x ∷ [] → x ≡ f n → old ≡ map f (range_with_len 0 n)
    → new ≡ map f (range_with_len 0 (n + 1))
pushed f n x old new e is before = e ∙ ap (λ y. old ++ y ∷ []) is ∙ ap (λ l. l ++ f n ∷ []) before ∙ sym (map-range_with_len_more f 0 n n (omega arith))

-- a list of what a function gives at each number
pub each_given : {A : Type 0} (f : ℕ → A) (n : ℕ) (d : A) (xs : List A) → length xs ≡ n → ((i : ℕ) → i < n → get_or xs i d ≡ f i)
    → xs ≡ map f (range_with_len 0 n)
each_given f n d xs len each =
    ext_get_or d xs (map f (range_with_len 0 n)) (len ∙ sym (length-map-range_with_len f 0 n))
    (λ i lt. let below : i < n = omega (arith, lt, len) in each i below ∙ sym (get_or-map-range_with_len f 0 n i i d below (omega arith)))
