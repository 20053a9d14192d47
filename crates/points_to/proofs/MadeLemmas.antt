-- Lists that are made of others: what holds of each of their elements, and which elements they have.
use Rattle.std.proofs.Common.{◌≡◌, ℕ, zero, suc, ◌+◌, ◌<◌, List, [], ◌∷◌, get_or, Option, Some, None, Contains, refl, ap, sym, subst, ◌∙◌, arith}
use Rattle.std.specs.Option.{option_map}
use Rattle.std.specs.List.{All, cons_option, filter_map, flat_map, range_with_len}
use Rattle.std.proofs.lemmas.List.FromFn.{length-range_with_len, get_or-range_with_len}
use Rattle.std.proofs.lemmas.List.Elements.{All-nil, All-cons, All-head, All-tail, All-append, All-contains}

-- what holds of each of a list holds of each of those that are all in it
pub all_among : {X : Type 0} (P : X → Type 0) (xs ys : List X) → All P xs → All (Contains xs) ys → All P ys
all_among P xs ys all among k d lt = All-contains P xs _ all (among k d lt)

optional : {Y : Type 0} (P : Y → Type 0) (o : Option Y) (ys : List Y) → ((y : Y) → o ≡ Some y → P y) → All P ys → All P (cons_option o ys)
optional P None ys f all = all
optional P (Some y) ys f all = All-cons P y ys (f y refl) all

module _ {X Y : Type 0} (P : Y → Type 0) where
  pub all_some : (h : X → Option Y) (xs : List X) → All (λ x. (y : Y) → h x ≡ Some y → P y) xs → All P (filter_map h xs)
  all_some h [] all = All-nil P
  all_some h (x ∷ xs) all = optional P (h x) (filter_map h xs) (All-head (λ x. (y : Y) → h x ≡ Some y → P y) x xs all)
      (all_some h xs (All-tail (λ x. (y : Y) → h x ≡ Some y → P y) x xs all))

  pub all_flat : (f : X → List Y) (xs : List X) → All (λ x. All P (f x)) xs → All P (flat_map f xs)
  all_flat f [] all = All-nil P
  all_flat f (x ∷ xs) all = All-append P (f x) (flat_map f xs) (All-head (λ x. All P (f x)) x xs all) (all_flat f xs (All-tail (λ x. All P (f x)) x xs all))

behind : {Y : Type 0} (o : Option Y) (ys : List Y) (y : Y) → Contains ys y → Contains (cons_option o ys) y
behind None ys y c = c
behind (Some z) ys y c = (suc c.0, omega (arith, c.1), c.2)

module _ {X Y : Type 0} where
  pub has_some : (h : X → Option Y) (xs : List X) (x : X) (y : Y) → Contains xs x → h x ≡ Some y → Contains (filter_map h xs) y
  has_some h [] x y c e = absurd (omega (arith, c.1))
  has_some h (z ∷ zs) x y (zero, lt, is) e = subst (λ o. Contains (cons_option o (filter_map h zs)) y) (sym (ap h is ∙ e)) (0, omega arith, refl)
  has_some h (z ∷ zs) x y (suc k, lt, is) e = behind (h z) (filter_map h zs) y (has_some h zs x y (k, omega (arith, lt), is) e)

pub has_number : (n k : ℕ) → k < n → Contains (range_with_len 0 n) k
has_number n k lt =
    let is : get_or (range_with_len 0 n) k k ≡ 0 + k = get_or-range_with_len 0 n k k lt in
    (k, omega (arith, lt, length-range_with_len 0 n), is ∙ omega arith)

pub of_mapped : {X Y : Type 0} (P : Y → Type 0) (f : X → Y) (o : Option X) (y : Y) → option_map f o ≡ Some y → ((x : X) → o ≡ Some x → P (f x)) → P y
of_mapped P f None y e k = absurd (cc e)
of_mapped P f (Some x) y e k = let same : f x ≡ y = cc e in subst P same (k x refl)
