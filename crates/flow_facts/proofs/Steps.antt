-- One more item of a list that is gone through.
use Rattle.std.proofs.Common.{◌≡◌, ℕ, ◌+◌, ◌<◌, Bool, true, false, cond, List, [], ◌∷◌, ◌++◌, length, get_or, drop, map, refl, sym, ap, ◌∙◌, subst, append_assoc}
use Rattle.std.proofs.lemmas.List.{append-nil, map-append, drop_more}
use Rattle.std.specs.Prelude.{not, Option, Some, None}
use Rattle.std.specs.List.{list_any, flat_map}
use Rattle.indexmap.specs.IndexSet.{insert_key}
use Rattle.flow_rules.specs.declared.items.Column.{Column}
use Rattle.flow_rules.specs.declared.items.ColumnItem.{ColumnItem}
use Rattle.flow_rules.specs.Ordered.{each, once_after}
use Rattle.flow_facts.specs.Seen.{if_there}

-- G is what the items left give, and H what they give after the first
pub step : {A B : Type 0} (f : A → List B) (G H : List A → List B) → ((x : A) (r : List A) → G (x ∷ r) ≡ f x ++ H r)
    → (xs ys : List A) (i : ℕ) (d : A) (old new all : List B)
    → ys ≡ xs → i < length ys → old ++ G (drop i xs) ≡ all → new ≡ old ++ f (get_or ys i d) → new ++ H (drop (i + 1) xs) ≡ all
step f G H is xs ys i d old new all s h e n =
    let k : i < length xs = subst (λ l. i < length l) s h in
    ap (λ l. l ++ H (drop (i + 1) xs)) (n ∙ ap (λ l. old ++ f (get_or l i d)) s) ∙ append_assoc old (f (get_or xs i d)) (H (drop (i + 1) xs))
    ∙ ap (λ l. old ++ l) (sym (ap G (drop_more xs i d k) ∙ is (get_or xs i d) (drop (i + 1) xs))) ∙ e

-- the same for an item that is read where it stands
pub step_at : {A B : Type 0} (f : A → List B) (G H : List A → List B) → ((x : A) (r : List A) → G (x ∷ r) ≡ f x ++ H r)
    → (xs ys : List A) (i : ℕ) (d : A) (old new all : List B)
    → ys ≡ xs → i < length ys → d ≡ get_or ys i d → old ++ G (drop i xs) ≡ all → new ≡ old ++ f d → new ++ H (drop (i + 1) xs) ≡ all
step_at f G H is xs ys i d old new all s h at e n = step f G H is xs ys i d old new all s h e (n ∙ ap (λ x. old ++ f x) at)

-- the same with the number of the item, and where what an item gives is made of something of it and something of its number
pub each_at : {A B : Type 0} (f : ℕ → A → List B) (xs ys : List A) (i : ℕ) (d : A) (old new all : List B) → ys ≡ xs → i < length ys
    → old ++ each f i (drop i xs) ≡ all → new ≡ old ++ f i (get_or ys i d) → new ++ each f (i + 1) (drop (i + 1) xs) ≡ all
each_at f xs ys i = step (f i) (each f i) (each f (i + 1)) (λ _ _. refl) xs ys i

pub each_joined : {A B X Y : Type 0} (g : X → Y → List B) (a : A → X) (b : ℕ → Y) (xs ys : List A) (i : ℕ) (d : A) (x : X) (y : Y) (old new all : List B)
    → ys ≡ xs → i < length ys → old ++ each (λ j o. g (a o) (b j)) i (drop i xs) ≡ all → new ≡ old ++ g x y → x ≡ a (get_or ys i d) → y ≡ b i
    → new ++ each (λ j o. g (a o) (b j)) (i + 1) (drop (i + 1) xs) ≡ all
each_joined g a b xs ys i d x y old new all s h e n p q =
    each_at (λ j o. g (a o) (b j)) xs ys i d old new all s h e (n ∙ ap (λ z. old ++ g z y) p ∙ ap (λ z. old ++ g (a (get_or ys i d)) z) q)

-- the same where the items are seen as plain data: what each gives, one thing of each, and what each gives with its number
module _ {A B C : Type 0} (v : A → B) where
  pub flat_step : (f : B → List C) (xs ys : List A) (i : ℕ) (d : A) (old new all : List C) → ys ≡ xs → i < length ys → d ≡ get_or ys i d
      → old ++ flat_map f (map v (drop i xs)) ≡ all → new ≡ old ++ f (v d) → new ++ flat_map f (map v (drop (i + 1) xs)) ≡ all
  flat_step f = step_at (λ x. f (v x)) (λ l. flat_map f (map v l)) (λ l. flat_map f (map v l)) (λ _ _. refl)

  pub map_step : (f : B → C) (xs ys : List A) (i : ℕ) (d : A) (old new all : List C) → ys ≡ xs → i < length ys → d ≡ get_or ys i d
      → old ++ map f (map v (drop i xs)) ≡ all → new ≡ old ++ f (v d) ∷ [] → new ++ map f (map v (drop (i + 1) xs)) ≡ all
  map_step f = step_at (λ x. f (v x) ∷ []) (λ l. map f (map v l)) (λ l. map f (map v l)) (λ _ _. refl)

  pub each_step : (f : ℕ → B → List C) (xs ys : List A) (i : ℕ) (d : A) (old new all : List C) → ys ≡ xs → i < length ys → d ≡ get_or ys i d
      → old ++ each f i (map v (drop i xs)) ≡ all → new ≡ old ++ f i (v d) → new ++ each f (i + 1) (map v (drop (i + 1) xs)) ≡ all
  each_step f xs ys i = step_at (λ x. f i (v x)) (λ l. each f i (map v l)) (λ l. each f (i + 1) (map v l)) (λ _ _. refl) xs ys i

-- one thing more of a column, where it has one
listed_there : {A B : Type 0} (v : A → B) (o : Option A) → map v (if_there (λ x. x) o) ≡ if_there v o
listed_there v None = refl
listed_there v (Some x) = refl

pub column_step : {A : Type 0} {B : Type 0} (v : A → B) (f : ℕ → ColumnItem → List B) (xs ys : List Column) (i : ℕ) (d : Column) (o : Option A)
    (old new : List A) (all : List B)
    → ys ≡ xs → i < length ys → map v old ++ each (λ j k. f j k.item) i (drop i xs) ≡ all → new ≡ old ++ if_there (λ x. x) o
    → if_there v o ≡ f i (get_or ys i d).item → map v new ++ each (λ j k. f j k.item) (i + 1) (drop (i + 1) xs) ≡ all
column_step v f xs ys i d o old new all s h e n g =
    each_at (λ j k. f j k.item) xs ys i d (map v old) (map v new) all s h e
    (ap (map v) n ∙ map-append v old (if_there (λ x. x) o) ∙ ap (λ l. map v old ++ l) (listed_there v o ∙ g))

kept : {A : Type 0} (b : Bool) (old rest : List A) (x : A) → (old ++ cond (not b) (x ∷ []) []) ++ rest ≡ old ++ cond b rest (x ∷ rest)
kept true old rest x = ap (λ l. l ++ rest) (append-nil old)
kept false old rest x = append_assoc old (x ∷ []) rest

-- x is listed where it is new
pub once_step : {A K : Type 0} (eq : K → K → Bool) (key : A → K) (x : A) (seen with_x : List K) (old new rest : List A) (b : Bool)
    → b ≡ not (list_any (eq (key x)) seen)
    → with_x ≡ insert_key eq seen (key x) → new ≡ old ++ cond b (x ∷ []) [] → new ++ once_after eq key with_x rest ≡ old ++ once_after eq key seen (x ∷ rest)
once_step eq key x seen with_x old new rest b n s w =
    ap (λ l. l ++ once_after eq key with_x rest) w ∙ ap (λ k. (old ++ cond b (x ∷ []) []) ++ once_after eq key k rest) s
    ∙ ap (λ c. (old ++ cond c (x ∷ []) []) ++ once_after eq key (insert_key eq seen (key x)) rest) n
    ∙ kept (list_any (eq (key x)) seen) old (once_after eq key (insert_key eq seen (key x)) rest) x

-- one item more of a list that is listed once, and the keys of what is listed
pub listed_step : {A K : Type 0} (eq : K → K → Bool) (key : A → K) (x : A) (k : K) (seen with_x : List K) (old new : List A) (b : Bool) → k ≡ key x
    → b ≡ not (list_any (eq k) seen) → with_x ≡ insert_key eq seen k → new ≡ old ++ cond b (x ∷ []) []
    → (xs ys : List A) (i : ℕ) (all : List A) → ys ≡ xs → i < length ys → x ≡ get_or ys i x
    → old ++ once_after eq key seen (drop i xs) ≡ all → new ++ once_after eq key with_x (drop (i + 1) xs) ≡ all
listed_step eq key x k seen with_x old new b is n s w xs ys i all e h at before =
    let j : i < length xs = subst (λ l. i < length l) e h in
    let there : x ≡ get_or xs i x = subst (λ l. x ≡ get_or l i x) e at in
    once_step eq key x seen with_x old new (drop (i + 1) xs) b (n ∙ ap (λ y. not (list_any (eq y) seen)) is) (s ∙ ap (insert_key eq seen) is) w
    ∙ ap (λ l. old ++ once_after eq key seen l) (ap (λ y. y ∷ drop (i + 1) xs) there ∙ sym (drop_more xs i x j)) ∙ before

with_key : {A K : Type 0} (key : A → K) (old : List A) (x : A) (c : Bool) → map key (old ++ cond (not c) (x ∷ []) [])
    ≡ cond c (map key old) (map key old ++ key x ∷ [])
with_key key old x true = ap (map key) (append-nil old)
with_key key old x false = map-append key old (x ∷ [])

pub keys_step : {A K : Type 0} (eq : K → K → Bool) (key : A → K) (x : A) (k : K) (seen with_x : List K) (old new : List A) (b : Bool) → k ≡ key x
    → b ≡ not (list_any (eq k) seen) → with_x ≡ insert_key eq seen k → new ≡ old ++ cond b (x ∷ []) [] → seen ≡ map key old → with_x ≡ map key new
keys_step eq key x k seen with_x old new b is n s w e =
    let c = list_any (eq k) seen in
    s ∙ ap (λ l. cond c l (l ++ k ∷ [])) e ∙ ap (λ y. cond c (map key old) (map key old ++ y ∷ [])) is ∙ sym (with_key key old x c)
    ∙ ap (λ d. map key (old ++ cond d (x ∷ []) [])) (sym n) ∙ ap (map key) (sym w)
