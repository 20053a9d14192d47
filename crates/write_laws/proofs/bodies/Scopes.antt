-- The parameters and locals in scope, by their numbers in the old body and by their names in the new one.
use Rattle.std.proofs.Common.{◌≡◌, ℕ, zero, suc, ◌+◌, List, [], ◌∷◌, ◌++◌, Option, Some, None, length, refl, sym, ap, ◌∙◌, subst, arith, ⊎_elim}
use Rattle.std.specs.Prelude.{◌||◌, Bool, true, false, if◌then◌else◌, map, slice_get, Contains}
use Rattle.std.specs.Option.{option_map_or, is_some}
use Rattle.std.specs.List.{list_any}
use Rattle.std.specs.Str.{bytes_eq}
use Rattle.std.proofs.lemmas.Bool.{false≢true, or_parts}
use Rattle.std.proofs.lemmas.Option.{same_Some}
use Rattle.std.proofs.lemmas.List.Folds.{list_any-append}
use Rattle.std.proofs.lemmas.Slice.Eq.{bytes_eq-Decides}
use Rattle.kaba_base.proofs.ListLemmas.{contains_cases}
use Rattle.flow_rules.proofs.Listed.{at_left, below_at as get_there}
use Rattle.java_core.specs.Programs.{PlainLocal, PlainMethod}
use Rattle.java_core.specs.Formed.{variables_of, numbers_below}
use Rattle.java_core.proofs.NumbersBelow.{has_below}
use Rattle.name_rules.specs.declared.parts.Bound.{Bound}
use Rattle.name_rules.specs.Meanings.{local_of, in_scope, is_bound, bound_names}
use Rattle.name_rules.specs.Resolves.{bound, params_from}
use Rattle.write_model.specs.Bodies.{variable_name, is_named, is_in_scope}
use Rattle.write_model.specs.Members.{parameters}

-- a name is bound where it is found
pub bound_if : (bs : List Bound) (n : List ℕ) → is_bound (bound_names bs) n ≡ is_some (local_of n bs)
bound_if [] n = refl
bound_if (b ∷ bs) n = go (bytes_eq b.name n) (bound_if bs n)
  where
    go : (c : Bool) → is_bound (bound_names bs) n ≡ is_some (local_of n bs)
        → (c || is_bound (bound_names bs) n) ≡ is_some (if c then Some b.number else local_of n bs)
    go true h = refl
    go false h = h

pub unbound : (bs : List Bound) (n : List ℕ) → is_bound (bound_names bs) n ≡ false → local_of n bs ≡ None
unbound bs n e = go (local_of n bs) (sym (bound_if bs n) ∙ e)
  where
    go : (o : Option ℕ) → is_some o ≡ false → o ≡ None
    go None h = refl
    go (Some i) h = absurd (false≢true (sym h))

-- what is found stays found behind another name
pub kept : (bs : List Bound) (b : Bound) (n : List ℕ) (i : ℕ) → local_of n bs ≡ Some i → local_of n (bs ++ b ∷ []) ≡ Some i
kept [] b n i e = absurd (cc)
kept (x ∷ bs) b n i e = go (bytes_eq x.name n) (kept bs b n i) e
  where
    go : (c : Bool) → (local_of n bs ≡ Some i → local_of n (bs ++ b ∷ []) ≡ Some i) → (if c then Some x.number else local_of n bs) ≡ Some i
        → (if c then Some x.number else local_of n (bs ++ b ∷ [])) ≡ Some i
    go true r h = h
    go false r h = r h

added : (bs : List Bound) (b : Bound) (n : List ℕ) → local_of n bs ≡ None → local_of n (bs ++ b ∷ []) ≡ (if bytes_eq b.name n then Some b.number else None)
added [] b n e = refl
added (x ∷ bs) b n e = go (bytes_eq x.name n) (added bs b n) e
  where
    go : (c : Bool) → (local_of n bs ≡ None → local_of n (bs ++ b ∷ []) ≡ (if bytes_eq b.name n then Some b.number else None))
        → (if c then Some x.number else local_of n bs) ≡ None
        → (if c then Some x.number else local_of n (bs ++ b ∷ [])) ≡ (if bytes_eq b.name n then Some b.number else None)
    go true r h = absurd (cc)
    go false r h = r h

-- what is in scope of the old body is found by its name, and a name that none of the numbers has is not found
pub record Scoped (k : PlainMethod) (inner scope : List ℕ) (bs : List Bound) : Type 0 where
  pub found : (i : ℕ) → Contains inner i → in_scope bs (variable_name k i) ≡ Some i
  pub absent : (x : List ℕ) → is_in_scope k scope x ≡ false → in_scope bs x ≡ None

-- a new local is found by its name
pub own_found : (bs : List Bound) (n : List ℕ) (i : ℕ) → is_bound (bound_names bs) n ≡ false → local_of n (bound bs n i) ≡ Some i
own_found bs n i fresh =
    added bs (record { name = n; number = i }) n (unbound bs n fresh) ∙ ap (λ z. if z then Some i else None) ((bytes_eq-Decides n n).1 refl)

-- a new local with a name of its own
pub scoped_more : (k : PlainMethod) (inner scope : List ℕ) (bs : List Bound) (i : ℕ) (v : PlainLocal) → Scoped k inner scope bs
    → slice_get (variables_of k) i ≡ Some v
    → is_bound (bound_names bs) v.name ≡ false → Scoped k (i ∷ inner) (scope ++ i ∷ []) (bound bs v.name i)
scoped_more k inner scope bs i v s e fresh = record {
  found = λ j c. ⊎_elim (λ h. subst (λ z. local_of (variable_name k z) (bound bs v.name i) ≡ Some z) h own)
      (λ d. kept bs b (variable_name k j) j (s.found j d)) (contains_cases i inner j c);
  absent = none;
}
  where
    b : Bound
    b = record { name = v.name; number = i }

    own : local_of (variable_name k i) (bound bs v.name i) ≡ Some i
    own =
        ap (λ z. local_of (option_map_or (λ (v : PlainLocal). v.name) z []) (bound bs v.name i)) e ∙ added bs b v.name (unbound bs v.name fresh)
        ∙ ap (λ z. if z then Some i else None) ((bytes_eq-Decides v.name v.name).1 refl)

    none : (x : List ℕ) → is_in_scope k (scope ++ i ∷ []) x ≡ false → local_of x (bound bs v.name i) ≡ None
    none x h =
        let both = or_parts (list_any (is_named k x) scope) (list_any (is_named k x) (i ∷ [])) (sym (list_any-append (is_named k x) scope (i ∷ [])) ∙ h) in
        let last = (or_parts (is_named k x i) false both.1).0 in
        added bs b x (s.absent x both.0) ∙ ap (λ z. if z then Some i else None) (ap
        (λ z. option_map_or (λ (v : PlainLocal). bytes_eq v.name x) z false) (sym e) ∙ last)

-- parameters, by their names
abbrev pub named : ℕ → List (List ℕ) → List Bound
named c [] = []
named c (n ∷ ns) = record { name = n; number = c } ∷ named (suc c) ns

pub params_named : (c : ℕ) (ps : List PlainLocal) → params_from c ps ≡ named c (map (λ v. v.name) ps)
params_named c [] = refl
params_named c (p ∷ ps) = ap (λ z. record { name = p.name; number = c } ∷ z) (params_named (suc c) ps)

pub name_found : (c : ℕ) (ns : List (List ℕ)) (j : ℕ) (n : List ℕ) → ((a b : ℕ) (x : List ℕ) → slice_get ns a ≡ Some x → slice_get ns b ≡ Some x → a ≡ b)
    → slice_get ns j ≡ Some n
    → local_of n (named c ns) ≡ Some (c + j)
name_found c [] j n once e = absurd (cc)
name_found c (x ∷ ns) zero n once e =
    ap (λ z. if z then Some c else local_of n (named (suc c) ns)) ((bytes_eq-Decides x n).1 (same_Some x n e))
    ∙ ap Some (let z : c ≡ c + 0 = omega arith in z)
name_found c (x ∷ ns) (suc j) n once e = go (bytes_eq x n) refl (name_found (suc c) ns j n
    (λ a b y ea eb. let z = once (suc a) (suc b) y ea eb in omega (arith, z)) e)
  where
    go : (t : Bool) → bytes_eq x n ≡ t → local_of n (named (suc c) ns) ≡ Some (suc c + j)
        → (if bytes_eq x n then Some c else local_of n (named (suc c) ns)) ≡ Some (c + suc j)
    go true h r = absurd (let z = once 0 (suc j) n (ap Some ((bytes_eq-Decides x n).0 h)) e in omega (arith, z))
    go false h r = ap (λ z. if z then Some c else local_of n (named (suc c) ns)) h ∙ r ∙ ap Some (let z : suc c + j ≡ c + suc j = omega arith in z)

name_absent : (p : ℕ → Bool) (c : ℕ) (ps : List PlainLocal) (x : List ℕ) → ((j : ℕ) (v : PlainLocal) → slice_get ps j ≡ Some v
    → p (c + j) ≡ bytes_eq v.name x)
    → list_any p (parameters c ps) ≡ false → local_of x (params_from c ps) ≡ None
name_absent p c [] x h e = refl
name_absent p c (v ∷ ps) x h e =
    let both = or_parts (p c) (list_any p (parameters (suc c) ps)) e in
    let first = ap p (let z : c ≡ c + 0 = omega arith in z) ∙ h 0 v refl in
    ap (λ z. if z then Some c else local_of x (params_from (suc c) ps)) (sym first ∙ both.0)
    ∙ name_absent p (suc c) ps x (λ j w ej. ap p (let z : suc c + j ≡ c + suc j = omega arith in z) ∙ h (suc j) w ej) both.1

pub get_name : (ps : List PlainLocal) (i : ℕ) (v : PlainLocal) → slice_get ps i ≡ Some v → slice_get (map (λ (v : PlainLocal). v.name) ps) i ≡ Some v.name
get_name [] i v e = absurd (cc)
get_name (p ∷ ps) zero v e = ap Some (ap (λ z. z.name) (same_Some p v e))
get_name (p ∷ ps) (suc i) v e = get_name ps i v e

-- the parameters of the new method have the names of the old ones
pub scoped_params : (k : PlainMethod) (ps : List PlainLocal) → map (λ v. v.name) ps ≡ map (λ v. v.name) k.params
    → ((a b : ℕ) (x : List ℕ) → slice_get (map (λ (v : PlainLocal). v.name) k.params) a ≡ Some x
    → slice_get (map (λ (v : PlainLocal). v.name) k.params) b ≡ Some x → a ≡ b)
    → Scoped k (numbers_below (length k.params)) (parameters 0 k.params) (params_from 0 ps)
scoped_params k ps same once = record {
  found = λ i c.
      let v = get_there k.params i (has_below (length k.params) i c) in
      ap (λ z. local_of (option_map_or (λ (v : PlainLocal). v.name) z []) (params_from 0 ps)) (at_left k.params k.locals i v.0 v.1)
      ∙ ap (λ z. local_of v.0.name z) (params_named 0 ps ∙ ap (named 0) same)
      ∙ name_found 0 (map (λ v. v.name) k.params) i v.0.name once (get_name k.params i v.0 v.1)
      ∙ ap Some (let z : 0 + i ≡ i = omega arith in z);
  absent = λ x e.
      ap (local_of x) (params_named 0 ps ∙ ap (named 0) same ∙ sym (params_named 0 k.params))
      ∙ name_absent (is_named k x) 0 k.params x (λ j v ej. ap (is_named k x) (let z : 0 + j ≡ j = omega arith in z)
      ∙ ap (λ z. option_map_or (λ (v : PlainLocal). bytes_eq v.name x) z false) (at_left k.params k.locals j v ej)) e;
}
