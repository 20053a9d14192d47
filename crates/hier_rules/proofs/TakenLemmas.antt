-- Names that types and fields cannot have.
use Rattle.std.proofs.Common.{◌≡◌, ◌≢◌, ℕ, ◌<◌, ◌&&◌, eqb, not, Bool, true, List, length, refl, sym, ap, ◌∙◌, arith, ⊎_elim}
use Rattle.std.specs.Str.{bytes_eq}
use Rattle.std.proofs.lemmas.Bool.{cases_eq, cases_lt, and_parts, and_from, ne_eqb, false≢true, eq-eqb}
use Rattle.kaba_base.proofs.TestLemmas.{same_truth}
use Rattle.kaba_base.proofs.Texts.{bytes_exact, bytes_of}
use Rattle.kaba_order.specs.Orders.{is_live}
use Rattle.fact_model.specs.declared.facts.Facts.{Facts}
use Rattle.hier_model.specs.Hierarchies.{Hierarchy, type_name, any_below}
use Rattle.hier_model.proofs.AnyLemmas.{any_below_some, any_below_has}
use Rattle.hier_rules.specs.Names.{is_named, is_other_type}
use Rattle.hier_rules.specs.Namesakes.{is_twice}

pub bytes_sym : (a b : List ℕ) → bytes_eq a b ≡ bytes_eq b a
bytes_sym a b = same_truth (bytes_eq a b) (bytes_eq b a) (λ h. bytes_of b a (sym (bytes_exact a b h))) (λ h. bytes_of a b (sym (bytes_exact b a h)))

module _ (F : Facts) (H : Hierarchy) (n : ℕ) where
  abbrev name : List ℕ
  name = type_name H n

  abbrev N : ℕ
  N = length H.order.live

  abbrev named : ℕ → Bool
  named = is_named H name

  other : (m : ℕ) → m < N → m ≢ n → named m ≡ true → is_other_type F H n name ≡ true
  other m less ne h = any_below_has (λ k. not (eqb k n) && named k) N m less (and_from (not (eqb m n)) (named m) (ap not (ne_eqb m n ne)) h)

  apart : (m : ℕ) → not (eqb m n) ≡ true → m ≢ n
  apart m h e = false≢true (sym (ap not (eq-eqb m n e)) ∙ h)

  two : (a b : ℕ) → a < b → b < N → named a ≡ true → named b ≡ true → is_twice H name N ≡ true
  two a b ab bn ha hb = any_below_has (λ b. named b && any_below b named) N b bn (and_from (named b) (any_below b named) hb (any_below_has named b a ab ha))

  -- two live nodes have the name of a live node exactly where another has it
  pub other_twice : n < length H.order.live → is_live H.order n ≡ true → is_twice H (type_name H n) (length H.order.live) ≡ is_other_type F H n (type_name H n)
  other_twice lt live =
      let itself : named n ≡ true = and_from (is_live H.order n) (bytes_eq name name) live (bytes_of name name refl) in
      same_truth (is_twice H name N) (is_other_type F H n name)
      (λ h.
      let b = any_below_some (λ b. named b && any_below b named) N h in
      let p = and_parts (named b.0) (any_below b.0 named) b.2 in
      let a = any_below_some named b.0 p.1 in
      ⊎_elim
      (λ e. other a.0 (omega (arith, a.1, b.1)) (λ f. omega (arith, a.1, e, f)) a.2)
      (λ ne. other b.0 b.1 ne p.0)
      (cases_eq b.0 n))
      (λ h.
      let m = any_below_some (λ m. not (eqb m n) && named m) N h in
      let p = and_parts (not (eqb m.0 n)) (named m.0) m.2 in
      ⊎_elim
      (λ less. two m.0 n less lt p.1 itself)
      (λ ge. let ne = apart m.0 p.0 in two n m.0 (omega (arith, ge, ne)) m.1 itself p.1)
      (cases_lt m.0 n))
