-- One item more of a list that is gone through with its numbers.
use Rattle.std.proofs.Common.{◌≡◌, ℕ, ◌+◌, ◌<◌, None, List, [], ◌∷◌, ◌++◌, length, map, drop, get_or, append_assoc, sym, ap, ◌∙◌, subst}
use Rattle.std.proofs.lemmas.List.{drop_more}
use Rattle.fact_model.specs.Items.{column_at}
use Rattle.fact_model.specs.declared.facts.Facts.{Facts}
use Rattle.fact_model.specs.declared.facts.ColumnInfo.{ColumnInfo}
use Rattle.fact_model.specs.declared.facts.ColKind.TheVariants.{Is}
use Rattle.flow_rules.specs.Ordered.{each}

-- what was written so far, with what the next item gives
pub each_more : {A B : Type 0} (f : ℕ → A → List B) (xs : List A) (i : ℕ) (d : A) (old new all : List B) → i < length xs
    → new ≡ old ++ f i (get_or xs i d)
    → old ++ each f i (drop i xs) ≡ all → new ++ each f (i + 1) (drop (i + 1) xs) ≡ all
each_more f xs i d old new all lt step known =
    let rest = each f (i + 1) (drop (i + 1) xs) in
    ap (λ l. l ++ rest) step ∙ append_assoc old (f i (get_or xs i d)) rest ∙ ap (λ l. old ++ l) (sym (ap (each f i) (drop_more xs i d lt))) ∙ known

-- the same of the columns of facts
pub each_column_more : {B : Type 0} (F : Facts) (f : ℕ → ColumnInfo → List B) (c : ℕ) (old new all : List B) → c < length F.columns.items
    → new ≡ old ++ f c (column_at F c)
    → old ++ each f c (drop c F.columns.items) ≡ all → new ++ each f (c + 1) (drop (c + 1) F.columns.items) ≡ all
each_column_more F f c old new all lt step known =
    each_more f F.columns.items c (record { kind = Is; class = record { 0 = 0 }; slot = None; name = []; label = [] }) old new all lt step known

-- the same of items that are seen as others, of a list that is this one
pub each_seen_more : {A B C : Type 0} (g : A → C) (f : ℕ → C → List B) (xs ys : List A) (i : ℕ) (x : A) (old new all : List B) → ys ≡ xs → i < length ys
    → x ≡ get_or ys i x → new ≡ old ++ f i (g x) → old ++ each f i (map g (drop i xs)) ≡ all
    → new ++ each f (i + 1) (map g (drop (i + 1) xs)) ≡ all
each_seen_more {A} g f xs ys i x old new all same lt is step known =
    let rest = each f (i + 1) (map g (drop (i + 1) xs)) in
    let below : i < length xs = subst (λ (l : List A). i < length l) same lt in
    let here : x ≡ get_or xs i x = subst (λ (l : List A). x ≡ get_or l i x) same is in
    let first = drop_more xs i x below ∙ ap (λ y. y ∷ drop (i + 1) xs) (sym here) in
    ap (λ l. l ++ rest) step ∙ append_assoc old (f i (g x)) rest ∙ ap (λ l. old ++ l) (sym (ap (λ l. each f i (map g l)) first)) ∙ known
