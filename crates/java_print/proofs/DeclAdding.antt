-- Lists of declarations and their parts added after others.
use Rattle.std.proofs.Common.{zero, suc, ◌≡◌, ℕ, ◌+◌, ◌<◌, ◌≤◌, List, [], ◌∷◌, length, get_or, drop, Bool, true, false, nat_lt, refl, sym, subst, arith}
use Rattle.std.proofs.lemmas.List.{drop_all}
use Rattle.std.proofs.lemmas.Bool.{lt-ltb}
use Rattle.java_tree.specs.declared.Modifier.{Modifier}
use Rattle.java_tree.specs.declared.Param.{Param}
use Rattle.java_print.specs.Items.{Item}
use Rattle.java_print.specs.Layout.{comma, mods_items, params_items, listed_items, list_items}
use Rattle.kaba_base.specs.declared.Keyword.{Keyword}
use Rattle.kaba_base.proofs.ListLemmas.{drop_at}
use Rattle.java_tree.specs.declared.Id.{Id}
use Rattle.java_print.specs.Adds.{Adds, Puts}
use Rattle.java_print.proofs.Adding.{adds_then}

-- one more item of a list
pub each_step : {X : Type 0} (f : List X → List Item → List Item) (g : X → List Item → List Item) → ((x : X) (xs : List X) (r : List Item)
    → f (x ∷ xs) r ≡ g x (f xs r))
    → {a b d : List ℕ} (xs : List X) {i : ℕ} {x : X} {whole : List Item → List Item} → i < length xs → x ≡ get_or xs i x
    → ((r : List Item) → Adds a b (whole r) (f (drop i xs) r)) → ((r : List Item) → Adds b d (g x r) r)
    → (r : List Item) → Adds a d (whole r) (f (drop (i + 1) xs) r)
each_step f g e {b = b} {d = d} xs {i = i} {x = x} l k h p r =
    let w : List Item = f (drop (i + 1) xs) r in
    adds_then (h r) (subst (λ ys. Adds b d (f ys r) w) (sym (drop_at xs i x l k)) (subst (λ z. Adds b d z w) (sym (e x (drop (i + 1) xs) r)) (p w)))

get_same : {X : Type 0} (xs : List X) (i : ℕ) (z y : X) → i < length xs → get_or xs i z ≡ get_or xs i y
get_same [] i z y l = absurd (omega arith)
get_same (x ∷ xs) zero z y l = refl
get_same (x ∷ xs) (suc i) z y l = get_same xs i z y (omega arith)

pub each_at : {X : Type 0} (f : List X → List Item → List Item) (g : X → List Item → List Item) → ((x : X) (xs : List X) (r : List Item)
    → f (x ∷ xs) r ≡ g x (f xs r))
    → {a b d : List ℕ} (xs : List X) {i : ℕ} (z : X) {whole : List Item → List Item} → i < length xs
    → ((r : List Item) → Adds a b (whole r) (f (drop i xs) r)) → ((r : List Item) → Adds b d (g (get_or xs i z) r) r)
    → (r : List Item) → Adds a d (whole r) (f (drop (i + 1) xs) r)
each_at f g e xs {i = i} z l h p = each_step f g e xs l (get_same xs i z (get_or xs i z) l) h p

pub each_end : {X : Type 0} (f : List X → List Item → List Item) {a b : List ℕ} (xs : List X) {i : ℕ} {whole : List Item → List Item} → length xs ≤ i
    → ((r : List Item) → Adds a b (whole r) (f (drop i xs) r))
    → (r : List Item) → Adds a b (whole r) (f [] r)
each_end f {a} {b} xs {i} {whole} l h r = subst (λ ys. Adds a b (whole r) (f ys r)) (drop_all i xs l) (h r)

-- one more item of a list with commas
pub comma_step : {X : Type 0} (f : Bool → List X → List Item → List Item) (g : X → List Item → List Item)
    → ((b : Bool) (x : X) (xs : List X) (r : List Item) → f b (x ∷ xs) r ≡ comma b (g x (f true xs r)))
    → {a b c d : List ℕ} (xs : List X) {i : ℕ} {x : X} {whole : List Item → List Item} → i < length xs → x ≡ get_or xs i x
    → ((r : List Item) → Adds a b (whole r) (f (nat_lt 0 i) (drop i xs) r))
    → Puts b c (comma (nat_lt 0 i)) → ((r : List Item) → Adds c d (g x r) r) → (r : List Item) → Adds a d (whole r) (f (nat_lt 0 (i + 1)) (drop (i + 1) xs) r)
comma_step f g e {b = b} {d = d} xs {i = i} {x = x} l k h p q r =
    let w : List Item = f true (drop (i + 1) xs) r in
    let t : nat_lt 0 (i + 1) ≡ true = lt-ltb 0 (i + 1) (omega arith) in
    adds_then (h r) (subst (λ ys. Adds b d (f (nat_lt 0 i) ys r) (f (nat_lt 0 (i + 1)) (drop (i + 1) xs) r)) (sym (drop_at xs i x l k))
    (subst (λ z. Adds b d z (f (nat_lt 0 (i + 1)) (drop (i + 1) xs) r)) (sym (e (nat_lt 0 i) x (drop (i + 1) xs) r))
    (subst (λ s. Adds b d (comma (nat_lt 0 i) (g x w)) (f s (drop (i + 1) xs) r)) (sym t) (adds_then (p (g x w)) (q w)))))

pub comma_end : {X : Type 0} (f : Bool → List X → List Item → List Item) {a b : List ℕ} (xs : List X) {i : ℕ} {whole : List Item → List Item}
    → length xs ≤ i → ((r : List Item) → Adds a b (whole r) (f (nat_lt 0 i) (drop i xs) r))
    → (r : List Item) → Adds a b (whole r) (f (nat_lt 0 i) [] r)
comma_end f {a} {b} xs {i} {whole} l h r = subst (λ ys. Adds a b (whole r) (f (nat_lt 0 i) ys r)) (drop_all i xs l) (h r)

-- equal lists
pub mods_as : {a b : List ℕ} (xs ys : List Modifier) → xs ≡ ys → Puts a b (mods_items xs) → Puts a b (mods_items ys)
mods_as {a} {b} xs ys e h = subst (λ zs. Puts a b (mods_items zs)) e h

pub params_as : {a b : List ℕ} (xs ys : List Param) → xs ≡ ys → Puts a b (params_items false xs) → Puts a b (params_items false ys)
params_as {a} {b} xs ys e h = subst (λ zs. Puts a b (params_items false zs)) e h

pub listed_along : {a b : List ℕ} (k : Keyword) (xs : List Id) → 1 ≤ length xs → Puts a b (listed_items k xs) → Puts a b (list_items k xs)
listed_along k [] l h = absurd (omega arith)
listed_along k (x ∷ xs) l h = h
