-- A class that is clear by the tables of each 64 slots breaks no rule as a whole.
use Rattle.std.proofs.Common.{◌≡◌, ◌==◌, ◌&&◌, ◌||◌, ◌∷◌, ℕ, zero, suc, ◌+◌, ◌*◌, ◌/◌, ◌%◌, ◌<◌, Bool, true, false, not, cond, List, [], Option, Some, None, Contains, length, map, refl, sym, ap, ◌∙◌, subst, arith, ⊎_elim, slice_get}
use Rattle.std.specs.Option.{option_map_or, is_some}
use Rattle.std.specs.declared.vec.Vec.{Vec}
use Rattle.std.specs.declared.alloc.Global.{Global}
use Rattle.std.proofs.lemmas.Bool.{and_parts, and_from, or_parts, or_right, eq-eqb, false≢true}
use Rattle.std.proofs.lemmas.List.{length-map}
use Rattle.std.proofs.lemmas.Option.{same_Some, slice_get_within}
use Rattle.kaba_base.proofs.ListLemmas.{map_at, at_map, first, contains_cases, later}
use Rattle.java_core.specs.declared.Program.{Program}
use Rattle.java_core.specs.Programs.{Plain, PlainClass, PlainMethod, program_of, method_seen, slot_seen}
use Rattle.java_core.specs.Owned.{AreOwned, listed, owned_from}
use Rattle.java_core.specs.Classes.{below, nearest_declaration, has_body, is_interface, is_concrete}
use Rattle.java_core.specs.Formed.{IsFormed}
use Rattle.java_core.specs.Typing.{is_public_method}
use Rattle.java_check.specs.ClassOutcome.{first_rule, below_rule, slot_rule, method_rule, class_rule, is_quiet}
use Rattle.java_check.specs.SlotOutcome.{bit, word_at, batch_place, method_batch, AreMethodsListed, is_told, HasNearest, AreSlotsFound, are_apart, is_clear, IsFineFor, is_bare, has_bare}
use Rattle.java_check.specs.declared.tables.Asked.{Asked}
use Rattle.java_check.specs.declared.tables.Asked.TheVariants.{Bodied, Public}
use Rattle.java_check.specs.declared.slots.Found.{Found}
use Rattle.java_check.proofs.Bodied.{class_fine}
use Rattle.java_check.proofs.Words.{apart-bit}

-- the numbers of one owner are those of the places that have it
pub owned-every : (owners : List ℕ) (n s i : ℕ) → slice_get owners i ≡ Some s → Contains (owned_from n s owners) (n + i)
owned-every [] n s i e = absurd (cc e)
owned-every (x ∷ owners) n s zero e = rw (eq-eqb x s (same_Some _ _ e), (let z : n + 0 ≡ n = omega arith in z)) (first n (owned_from (n + 1) s owners))
owned-every (x ∷ owners) n s (suc i) e =
    go (x == s) (subst (λ j. Contains (owned_from (n + 1) s owners) j) (let z : n + 1 + i ≡ n + suc i = omega arith in z) (owned-every owners (n + 1) s i e))
  where
    go : (b : Bool) → Contains (owned_from (n + 1) s owners) (n + suc i)
        → Contains (cond b (n ∷ owned_from (n + 1) s owners) (owned_from (n + 1) s owners)) (n + suc i)
    go true h = later n (owned_from (n + 1) s owners) (n + suc i) h
    go false h = h

-- no rule is broken where what each asks is there
quiet_first : (con bod int own p : Bool) → bod || not con ≡ true → p || not (not int && own) ≡ true
    → first_rule (con && not bod) (not int && (own && not p)) ≡ None
quiet_first true false int own p e f = absurd (false≢true e)
quiet_first true true true own p e f = refl
quiet_first true true false true true e f = refl
quiet_first true true false true false e f = absurd (false≢true f)
quiet_first true true false false p e f = refl
quiet_first false bod true own p e f = refl
quiet_first false bod false true true e f = refl
quiet_first false bod false true false e f = absurd (false≢true f)
quiet_first false bod false false p e f = refl

shown_none : (int p : Bool) → (p || not (not int && false)) ≡ true
shown_none true true = refl
shown_none true false = refl
shown_none false true = refl
shown_none false false = refl

or_told : (a b : Bool) → (a || b) ≡ true → a ≡ false → b ≡ true
or_told true b e f = absurd (false≢true (sym f))
or_told false b e f = e

module _ (P : Plain) where
  body_told : (o : Option ℕ) → is_told P Bodied false o ≡ option_map_or (has_body P) o false
  body_told None = refl
  body_told (Some d) = refl

  public_told : (o : Option ℕ) → is_told P Public true o ≡ is_public_method P o
  public_told None = refl
  public_told (Some d) = go (slice_get P.methods d) refl
    where
      go : (o : Option PlainMethod) → slice_get P.methods d ≡ o → is_told P Public true (Some d) ≡ is_public_method P (Some d)
      go None e = rw e refl
      go (Some k) e = rw e refl

  no_objects : (c : ℕ) → is_interface P c ≡ true → is_concrete P c ≡ false
  no_objects c e = go (slice_get P.classes c) refl
    where
      named : (k : PlainClass) (b : Bool) → k.is_interface ≡ b → b ≡ true → not k.is_interface && not k.is_abstract ≡ false
      named k true f g = rw f refl
      named k false f g = absurd (false≢true g)

      go : (o : Option PlainClass) → slice_get P.classes c ≡ o → is_concrete P c ≡ false
      go None at = rw at refl
      go (Some k) at = rw at (named k k.is_interface refl (let f : k.is_interface ≡ is_interface P c = sym (rw at refl) in f ∙ e))

  module _ (b : ℕ) (found : Found) (are : AreSlotsFound P b found) (c m i : ℕ) (k : PlainMethod) (at : slice_get P.methods m ≡ Some k) (lt : i < 64)
      (slot : k.slot ≡ Some (64 * b + i)) (bare : is_some k.body ≡ false) (up : below P c k.owner ≡ true) where
    abbrev s : ℕ
    s = 64 * b + i

    -- what stands above is not nearest where the words are apart
    told : (q : Asked) (none : Bool) (above table : List ℕ) → HasNearest P q none b table → bit (word_at above c) i ≡ true
        → are_apart (word_at above c) (word_at table c) ≡ true → is_told P q none (nearest_declaration P c s) ≡ true
    told q none above table near set apart = go (is_told P q none (nearest_declaration P c (64 * b + i))) refl
      where
        go : (x : Bool) → is_told P q none (nearest_declaration P c (64 * b + i)) ≡ x → is_told P q none (nearest_declaration P c (64 * b + i)) ≡ true
        go true e = e
        go false e = absurd (false≢true (sym (apart-bit (word_at above c) (word_at table c) i apart set) ∙ near c i lt e))

    abbrev con : Bool
    con = is_concrete P c

    abbrev int : Bool
    int = is_interface P c

    abbrev own : Bool
    own = is_interface P k.owner

    abbrev bod : Bool
    bod = option_map_or (has_body P) (nearest_declaration P c (64 * b + i)) false

    abbrev pub_near : Bool
    pub_near = is_public_method P (nearest_declaration P c (64 * b + i))

    has_body_where : (are_apart (word_at found.offered.items c) (word_at found.bare.items c)) ≡ true → bod ≡ true
    has_body_where apart =
        sym (body_told (nearest_declaration P c (64 * b + i)))
        ∙ told Bodied false found.offered.items found.bare.items are.bare (are.offered c i m k lt at slot (ap not bare) up) apart

    is_shown_where : (are_apart (word_at found.faced.items c) (word_at found.hidden.items c)) ≡ true → own ≡ true → pub_near ≡ true
    is_shown_where apart e =
        sym (public_told (nearest_declaration P c (64 * b + i)))
        ∙ told Public true found.faced.items found.hidden.items are.hidden (are.faced c i m k lt at slot (rw (e, bare) refl) up) apart

    of_class : int ≡ false → is_clear P found c ≡ true → first_rule (con && not bod) (not int && (own && not pub_near)) ≡ None
    of_class e clear =
        let parts = and_parts (not con || are_apart (word_at found.offered.items c) (word_at found.bare.items c))
        (are_apart (word_at found.faced.items c) (word_at found.hidden.items c)) (or_told (is_interface P c) _ clear e) in
        quiet_first con bod int own pub_near (body con refl parts.0) (shown own refl parts.1)
      where
        body : (x : Bool) → con ≡ x → (not con || are_apart (word_at found.offered.items c) (word_at found.bare.items c)) ≡ true → (bod || not con) ≡ true
        body false f h = rw f (or_right bod true refl)
        body true f h = rw (has_body_where (or_told (not con) _ h (ap not f))) refl

        shown : (x : Bool) → own ≡ x → are_apart (word_at found.faced.items c) (word_at found.hidden.items c) ≡ true
            → (pub_near || not (not int && own)) ≡ true
        shown false f h = rw f (shown_none int pub_near)
        shown true f h = rw (is_shown_where h f) refl

    of_interface : int ≡ true → first_rule (con && not bod) (not int && (own && not pub_near)) ≡ None
    of_interface e = rw (e, no_objects c e) refl

    clear_below : is_clear P found c ≡ true → below_rule P c k.owner s true ≡ None
    clear_below clear = go (is_interface P c) refl
      where
        go : (x : Bool) → is_interface P c ≡ x → below_rule P c k.owner s true ≡ None
        go true e = of_interface e
        go false e = of_class e clear

  pub clear_rule : (b : ℕ) (found : Found) → AreSlotsFound P b found → (c : ℕ) → is_clear P found c ≡ true → IsFineFor P b c
  clear_rule b found are c clear m i k at lt slot bare = ap (slot_rule P c k.owner) slot ∙ go (below P c k.owner) refl
    where
      go : (x : Bool) → below P c k.owner ≡ x → below_rule P c k.owner (64 * b + i) (below P c k.owner) ≡ None
      go false up = ap (below_rule P c k.owner (64 * b + i)) up
      go true up = ap (below_rule P c k.owner (64 * b + i)) up ∙ clear_below b found are c m i k at lt slot bare up clear

  -- where none of the methods of 64 slots is without a body, no class breaks a rule for one
  pub bodied_fine : (b : ℕ) (ms : List ℕ) → AreMethodsListed P b ms → has_bare P ms ≡ false → (c : ℕ) → IsFineFor P b c
  bodied_fine b ms listed none c m i k at lt slot bare = absurd (one ms (listed m i k at lt slot) none)
    where
      one : (ms : List ℕ) → Contains ms m → has_bare P ms ≡ false → ⊥
      one [] h e = let lt : h.0 < 0 = h.1 in omega (arith, lt)
      one (n ∷ ms) h e =
          ⊎_elim
          (λ (f : n ≡ m). false≢true (sym e ∙ ap (λ j. is_bare P j || has_bare P ms) f
          ∙ ap (λ o. option_map_or (λ (x : PlainMethod). not (is_some x.body)) o false || has_bare P ms) at ∙ ap (λ x. not x || has_bare P ms) bare))
          (λ more. one ms more (or_parts (is_bare P n) (has_bare P ms) e).1)
          (contains_cases n ms m h)

  quiet_each : (c : ℕ) (ks : List PlainMethod) → ((m : ℕ) (k : PlainMethod) → slice_get ks m ≡ Some k → is_some k.body ≡ false → method_rule P c k ≡ None)
      → is_quiet P c ks ≡ true
  quiet_each c [] each = refl
  quiet_each c (k ∷ ks) each = and_from _ _ (go (is_some k.body) refl) (quiet_each c ks (λ m. each (suc m)))
    where
      go : (b : Bool) → is_some k.body ≡ b → is_some k.body || not (is_some (method_rule P c k)) ≡ true
      go true e = rw e refl
      go false e = rw (e, each zero k refl e) refl

module _ (p : Program) where
  -- the lists have the methods of each 64 slots
  pub batch_listed : (lists : List (Vec ℕ Global)) → AreOwned (map (λ m. method_batch (length p.slots.items) m) p.methods.items) lists
      → (b : ℕ) → AreMethodsListed (program_of p) b (listed lists b)
  batch_listed lists owned b m i k at lt e =
      let x = map_at method_seen p.methods.items m k at in
      let slots = length p.slots.items in
      let number : (64 * b + i) / 64 ≡ b = omega (arith, lt) in
      let place = at_map (λ m. method_batch slots m) p.methods.items m x.0 x.1
      ∙ ap Some (ap (λ (q : PlainMethod). batch_place slots q.slot) x.2 ∙ ap (batch_place slots) e ∙ number) in
      let places = map (λ m. method_batch slots m) p.methods.items in
      subst (λ ms. Contains ms m) (sym (owned.exact b)) (subst (λ j. Contains (owned_from 0 b places) j) (let z : 0 + m ≡ m = omega arith in z)
      (owned-every places 0 b m place))

  -- the classes that are fine for each 64 slots break no rule
  pub fine_class : IsFormed (program_of p) → (until : ℕ) → ((b c : ℕ) → b < length p.slots.items / 64 + 1 → c < until → IsFineFor (program_of p) b c)
      → (c : ℕ) → c < until → class_rule (program_of p) c (program_of p).methods ≡ None
  fine_class formed until fine c lt = class_fine P formed c (quiet_each P c P.methods (λ m k at none. each m k at none k.slot refl))
    where
      P : Plain
      P = program_of p

      each : (m : ℕ) (k : PlainMethod) → slice_get P.methods m ≡ Some k → is_some k.body ≡ false → (o : Option ℕ) → k.slot ≡ o → method_rule P c k ≡ None
      each m k at none None e = ap (slot_rule P c k.owner) e
      each m k at none (Some s) e =
          let i = ((formed.methods m k at).slots s).0 e in
          let within = slice_get_within P.slots s i.slot i.stands in
          let few : s < length p.slots.items = subst (λ n. s < n) (length-map p.slots.items slot_seen) within in
          let number : s ≡ 64 * (s / 64) + s % 64 = omega arith in
          fine (s / 64) c (omega (arith, few)) lt m (s % 64) k at (omega arith) (e ∙ ap Some number) none
