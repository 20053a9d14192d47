-- Steps of the walks that list differences.
use Rattle.std.proofs.Common.{◌≡◌, ℕ, ◌+◌, ◌==◌, Bool, true, false, ◌&&◌, not, List, [], ◌++◌, refl, sym, ap, ◌∙◌, append_assoc}
use Rattle.std.proofs.lemmas.Bool.{false≢true}
use Rattle.kaba_order.specs.Orders.{Ordered, is_le, is_live, IsPartialOrder, differ}
use Rattle.hier_model.specs.Hierarchies.{Hierarchy, node}
use Rattle.hier_model.specs.Differences.{each_below, only_if, pair_change}
use Rattle.hier_model.specs.declared.differences.Change.TheVariants.{Pair}
use Rattle.kaba_order.proofs.WrittenLemmas.{each_below-more}

-- what stands below what lives
pub le_lives : (o : Ordered) → IsPartialOrder o → (a b : ℕ) → is_le o a b ≡ (is_live o a && is_live o b && is_le o a b)
le_lives o p a b = by (is_le o a b) (is_live o a) (is_live o b) (p.lower_lives a b) (p.upper_lives a b)
  where
    by : (x y z : Bool) → (x ≡ true → y ≡ true) → (x ≡ true → z ≡ true) → x ≡ (y && z && x)
    by true y z f g = both y z (f refl) (g refl)
      where
        both : (y z : Bool) → y ≡ true → z ≡ true → true ≡ (y && z && true)
        both true true e f = refl
        both true false e f = absurd (false≢true f)
        both false z e f = absurd (false≢true e)
    by false true true f g = refl
    by false true false f g = refl
    by false false z f g = refl

-- two nodes whose order is as before list nothing
pub no_change : (old new : Hierarchy) (a b : ℕ) → differ (is_le old.order a b) (is_le new.order a b) ≡ false → pair_change old new a b ≡ []
no_change old new a b e = ap (λ x. only_if (not (a == b) && x) (Pair (node a) (node b) (is_le old.order a b))) e ∙ none (not (a == b))
  where
    none : (x : Bool) → only_if (x && false) (Pair (node a) (node b) (is_le old.order a b)) ≡ []
    none true = refl
    none false = refl

-- a number more
pub listed_more : {A : Type 0} (front before after : List A) (n : ℕ) (f : ℕ → List A) → before ≡ front ++ each_below n f → after ≡ before ++ f n
    → after ≡ front ++ each_below (n + 1) f
listed_more front before after n f b a =
    a ∙ (ap (λ l. l ++ f n) b ∙ (append_assoc front (each_below n f) (f n) ∙ ap (λ l. front ++ l) (sym (each_below-more n f))))
