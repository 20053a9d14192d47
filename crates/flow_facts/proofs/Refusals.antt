-- A list that was counted, and what there is too much of.
use Rattle.std.proofs.Common.{◌≡◌, ℕ, ◌+◌, ◌<◌, ◌≤◌, List, length, ap, ◌∙◌, subst, arith, map}
use Rattle.std.specs.Prelude.{Some, None}
use Rattle.std.proofs.lemmas.List.{length-map}
use Rattle.java_core.specs.Programs.{Plain}
use Rattle.fact_model.specs.declared.facts.CellInfo.{CellInfo}
use Rattle.flow_rules.specs.declared.faults.Counted.{Counted}
use Rattle.flow_rules.specs.declared.faults.Counted.TheVariants as counted_as
use Rattle.flow_rules.specs.Numbered.{rows_of, columns_of, sites_of, points_of}
use Rattle.flow_rules.specs.declared.faults.FactsFault.{FactsFault}
use Rattle.flow_rules.specs.declared.faults.FactsFault.TheVariants as fault
use Rattle.flow_rules.specs.Facts.{too_many, IsFactsRefusal, cells_of}
use Rattle.flow_facts.specs.Stages.{IsCountOver, IsListed}
use Rattle.flow_facts.proofs.Counts.{over_points, none_over}

module _ {A : Type 0} {n : ℕ} {xs ys : List A} where
  pub counted : n ≡ length xs → xs ≡ ys → n ≡ length ys
  counted h e = h ∙ ap length e

  pub at_most : {limit : ℕ} → n ≡ length xs → xs ≡ ys → n ≤ limit → length ys ≤ limit
  at_most {limit = limit} h e l = subst (λ k. k ≤ limit) (counted h e) l

  pub above : (limit : ℕ) (what : Counted) (e : FactsFault) → n ≡ length xs → xs ≡ ys → IsCountOver n limit what e → IsCountOver (length ys) limit what e
  above limit what e h s a = subst (λ k. IsCountOver k limit what e) (counted h s) a

-- more than a limit of what a program has
pub refused : (P : Plain) (n limit : ℕ) (what : Counted) (e : FactsFault) → IsCountOver n limit what e
    → (limit < n → too_many P ≡ Some (record { what = what; number = limit + 1 })) → IsFactsRefusal P e
refused P n limit what (fault.TooMany kind k) a f =
    let e = f a.0 in
    let p = a.1 in
    let q = a.2 in
    cc
refused P n limit what fault.Memory a f = tt

-- the same count, and the same list, under another name
pub above_as : {T : Type 0} {xs ys : List T} (limit : ℕ) (what : Counted) (e : FactsFault) → xs ≡ ys → IsCountOver (length xs) limit what e
    → IsCountOver (length ys) limit what e
above_as limit what e h a = subst (λ l. IsCountOver (length l) limit what e) h a

pub listed_as : {T K : Type 0} {key : T → K} {limit : ℕ} {xs ys items : List T} {keys : List K} → xs ≡ ys → IsListed key limit xs items keys
    → IsListed key limit ys items keys
listed_as {key = key} {limit = limit} {items = items} {keys = keys} e l = subst (λ zs. IsListed key limit zs items keys) e l

pub too_many_points : (P : Plain) → length (rows_of P) ≤ 16384 → length (columns_of P) ≤ 8192 → length (sites_of P) ≤ 8192
    → 65536 < length (points_of P)
    → too_many P ≡ Some (record { what = counted_as.Points; number = 65537 })
too_many_points P r c s h = over_points P r c s (omega (arith, h))

-- the cells beside the flow points
module _ (P : Plain) (r : length (rows_of P) ≤ 16384) (c : length (columns_of P) ≤ 8192) (s : length (sites_of P) ≤ 8192) {most : ℕ}
    (p : length (points_of P) + most ≡ 65536) {xs : List CellInfo} (e : xs ≡ cells_of P) where
  pub too_many_cells : most < length xs → IsFactsRefusal P (fault.TooMany counted_as.Points 65537)
  too_many_cells h = let k : most < length (cells_of P) = subst (λ l. most < length l) e h in over_points P r c s (omega (arith, k, p))

  pub all_counted : length xs ≤ most → too_many P ≡ None
  all_counted h = let k : length (cells_of P) ≤ most = subst (λ l. length l ≤ most) e h in none_over P r c s (omega (arith, k, p))

-- the numbers of a list's keys fit
pub few : {A K : Type 0} (f : A → K) (keys : List K) (xs : List A) (n : ℕ) → keys ≡ map f xs → length xs ≤ n → n ≤ 65536 → length keys < 4294967295
few f keys xs n e h l = let k : length keys ≡ length xs = ap length e ∙ length-map xs f in omega (arith, k, h, l)
