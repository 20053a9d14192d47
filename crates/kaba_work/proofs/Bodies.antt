-- The bodies of a sample resolve to those of its program.
use Rattle.std.proofs.Common.{◌≡◌, ℕ, zero, suc, ◌+◌, ◌<◌, ◌≤◌, false, List, [], ◌∷◌, ◌++◌, map, length, Some, refl, sym, ap, ◌∙◌, subst, arith}
use Rattle.std.specs.Prelude.{slice_get}
use Rattle.std.specs.List.{range_with_len, flat_map}
use Rattle.std.specs.Str.{bytes_eq}
use Rattle.std.proofs.lemmas.Bool.{or_parts, or_from, false_from_ne_true}
use Rattle.std.proofs.lemmas.List.FromFn.{length-map-range_with_len}
use Rattle.kaba_base.proofs.Texts.{bytes_exact, bytes_of}
use Rattle.java_core.specs.Programs.{Plain}
use Rattle.java_core.specs.Types.{class_type}
use Rattle.java_core.specs.Formed.{variables_of, numbers_body, numbers_sts, numbers_methods}
use Rattle.name_rules.specs.declared.parts.Bound.{Bound}
use Rattle.name_rules.specs.declared.parts.Here.{Here}
use Rattle.name_rules.specs.Outline.{outline}
use Rattle.name_rules.specs.Meanings.{in_scope, is_bound, bound_names, a_class}
use Rattle.name_rules.specs.Resolves.{Counts, no_number, next_number, ResolvesTo, r_number, r_this, r_local, r_field, r_call, r_super_call, r_create, r_binary, r_no_more, r_some, bound, IsDeclaredLocal, StsResolve, r_declare, r_assign, r_print, r_return, r_no_statements, r_and_then, declares_all, here_of, params_from, BodyResolves, r_body, BodiesResolve, r_no_methods, r_method}
use Rattle.kaba_work.specs.Sample.{nowhere, variable_name, class_type as type_of, total, steps, statements, main_body, sample_tree}
use Rattle.kaba_work.specs.Program.{total_made, method_made, main_body_made, local_made, main_made}
use Rattle.kaba_work.proofs.Places.{mapped_at}
use Rattle.kaba_work.proofs.Apart.{variable_same}
use Rattle.kaba_work.proofs.Outlined.{method_at, main_at, named, free}

-- ---- scopes

last_in_scope : (x : List ℕ) (k : ℕ) (bs : List Bound) → is_bound (bound_names bs) x ≡ false → in_scope (bound bs x k) x ≡ Some k
last_in_scope x k [] h = rw (bytes_of x x refl) refl
last_in_scope x k (b ∷ bs) h = let p = or_parts (bytes_eq b.name x) (is_bound (bound_names bs) x) h in rw (p.0) (last_in_scope x k bs p.1)

unbound_more : (x y : List ℕ) (k : ℕ) (bs : List Bound) → is_bound (bound_names bs) x ≡ false → bytes_eq y x ≡ false
    → is_bound (bound_names (bound bs y k)) x ≡ false
unbound_more x y k [] h d = or_from (bytes_eq y x) false d refl
unbound_more x y k (b ∷ bs) h d =
    let p = or_parts (bytes_eq b.name x) (is_bound (bound_names bs) x) h in
    or_from (bytes_eq b.name x) (is_bound (bound_names (bound bs y k)) x) p.0 (unbound_more x y k bs p.1 d)

module _ (n : ℕ) (most : n ≤ 100) where
  abbrev O : Plain
  O = outline (sample_tree n)

  -- ---- the method of a class

  abbrev at_class : ℕ → Here
  at_class i = here_of (method_at i)

  total_resolves : (i c : ℕ) → ResolvesTo O (at_class c) [] (total i) (total_made i)
  total_resolves zero c = r_field (r_this refl)
  total_resolves (suc i) c = r_binary (r_super_call refl r_no_more) (r_field (r_this refl))

  pub method_resolves : (i : ℕ) → BodyResolves O (method_at i) (method_made i)
  method_resolves i =
      r_body refl refl refl
      (r_and_then (r_assign (r_field (r_this refl)) (r_binary (r_field (r_this refl)) r_number))
      (r_and_then (r_return (r_some (total_resolves i i))) r_no_statements))
      no_number

  -- ---- main

  -- the variables of the classes from i on are not in scope
  abbrev Fresh : List Bound → ℕ → Type 0
  Fresh bs i = (j : ℕ) → i ≤ j → j < n → is_bound (bound_names bs) (variable_name j) ≡ false

  fresh_more : (bs : List Bound) (i : ℕ) → i < n → Fresh bs i → Fresh (bound bs (variable_name i) (suc i)) (i + 1)
  fresh_more bs i h f j le lt =
      unbound_more (variable_name j) (variable_name i) (suc i) bs (f j (omega (arith, le)) lt)
      (false_from_ne_true (bytes_eq (variable_name i) (variable_name j)) (λ e.
      let s = variable_same i j (omega (arith, h, most)) (omega (arith, lt, most)) (bytes_exact (variable_name i) (variable_name j) e) in omega (arith, s, le)))

  variable_stands : (i : ℕ) → i < n → slice_get (variables_of (main_made n)) (suc i) ≡ Some (local_made i)
  variable_stands i h = mapped_at local_made n i h

  is_local : (bs : List Bound) (i : ℕ) → i < n → Fresh bs i → IsDeclaredLocal O (main_made n) bs (type_of i) (variable_name i) nowhere (suc i)
  is_local bs i h f = record {
    ty = class_type (suc i);
    means = record { base = a_class refl (named n most i h); dim = refl };
    stands = variable_stands i h;
    no_type = free n most (variable_name i) refl refl;
    fresh = f i (omega arith) h;
  }

  steps_resolve : (bs : List Bound) (a k : ℕ) → a + k ≤ n → Fresh bs a
      → StsResolve O (here_of (main_at n)) (main_made n) false bs (statements (flat_map steps (range_with_len a k))) (main_body_made (range_with_len a k))
  steps_resolve bs a zero h f = r_no_statements
  steps_resolve bs a (suc k) h f =
      let small : a < n = omega (arith, h) in
      let variable = last_in_scope (variable_name a) (suc a) bs (f a (omega arith) small) in
      r_and_then (r_declare (is_local bs a small f) (r_some (r_create (named n most a small) r_no_more)))
      (r_and_then (r_assign (r_field (r_local variable)) r_number)
      (r_and_then (r_print (r_some (r_binary (r_call (r_local variable) r_no_more) (r_field (r_local variable)))))
      (steps_resolve (bound bs (variable_name a) (suc a)) (a + 1) k (omega (arith, h)) (fresh_more bs a small f))))

  steps_counted : (a k : ℕ) → Counts (suc a) (declares_all (main_body_made (range_with_len a k))) (suc (a + k))
  steps_counted a zero = let s : a ≡ a + 0 = omega arith in subst (λ z. Counts (suc a) [] (suc z)) s no_number
  steps_counted a (suc k) =
      let s : a + 1 ≡ suc a = omega arith in
      let t : a + 1 + k ≡ a + suc k = omega arith in
      next_number (subst (λ z. Counts (suc z) (declares_all (main_body_made (range_with_len (a + 1) k))) (suc (a + suc k))) s
      (subst (λ z. Counts (suc (a + 1)) (declares_all (main_body_made (range_with_len (a + 1) k))) (suc z)) t (steps_counted (a + 1) k)))

  pub main_resolves : BodyResolves O (main_at n) (main_made n)
  unfolding main_body
  main_resolves =
      let count : suc (0 + n) ≡ length (variables_of (main_made n)) = let l = length-map-range_with_len local_made 0 n in omega (arith, l) in
      r_body refl refl refl (steps_resolve (params_from 0 (main_made n).params) 0 n (omega arith) (λ j le lt. refl))
      (subst (λ z. Counts 1 (declares_all (main_body_made (range_with_len 0 n))) z) count (steps_counted 0 n))

  -- ---- all bodies

  all_resolve : (a k : ℕ) → BodiesResolve O (map method_at (range_with_len a k) ++ main_at n ∷ []) (map method_made (range_with_len a k) ++ main_made n ∷ [])
  all_resolve a zero = r_method main_resolves r_no_methods
  all_resolve a (suc k) = r_method (method_resolves a) (all_resolve (a + 1) k)

  pub bodies_resolve : BodiesResolve O (map method_at (range_with_len 0 n) ++ main_at n ∷ []) (map method_made (range_with_len 0 n) ++ main_made n ∷ [])
  bodies_resolve = all_resolve 0 n

-- ---- the numbers of creations

no_numbers : (i : ℕ) → numbers_body (method_made i).body ≡ []
no_numbers zero = refl
no_numbers (suc i) = refl

numbers_rest : (z a k : ℕ)
    → numbers_methods (map method_made (range_with_len a k) ++ main_made z ∷ []) ≡ numbers_sts (main_body_made (range_with_len 0 z)) ++ []
numbers_rest z a zero = refl
numbers_rest z a (suc k) =
    ap (λ xs. xs ++ numbers_methods (map method_made (range_with_len (a + 1) k) ++ main_made z ∷ [])) (no_numbers a) ∙ numbers_rest z (a + 1) k

creations_counted : (a k : ℕ) → Counts a (numbers_sts (main_body_made (range_with_len a k)) ++ []) (a + k)
creations_counted a zero = let s : a ≡ a + 0 = omega arith in subst (λ z. Counts a [] z) s no_number
creations_counted a (suc k) =
    let s : a + 1 ≡ suc a = omega arith in
    let t : a + 1 + k ≡ a + suc k = omega arith in
    next_number (subst (λ z. Counts z (numbers_sts (main_body_made (range_with_len (a + 1) k)) ++ []) (a + suc k)) s
    (subst (λ z. Counts (a + 1) (numbers_sts (main_body_made (range_with_len (a + 1) k)) ++ []) z) t (creations_counted (a + 1) k)))

pub numbers_counted : (n : ℕ) → Counts 0 (numbers_methods (map method_made (range_with_len 0 n) ++ main_made n ∷ [])) (0 + n)
numbers_counted n = subst (λ xs. Counts 0 xs (0 + n)) (sym (numbers_rest n 0 n)) (creations_counted 0 n)
