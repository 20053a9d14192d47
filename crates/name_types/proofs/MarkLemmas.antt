-- What the marks of types tell of the methods that reach them.
use Rattle.std.proofs.Common.{◌≡◌, ◌≢◌, ℕ, zero, suc, ◌+◌, ◌<◌, ◌≤◌, ◌⊎◌, inl, inr, ⊎_elim, Bool, true, false, ◌&&◌, ◌||◌, not, cond, List, [], ◌∷◌, ◌++◌, map, length, set, Option, Some, None, Ok, refl, sym, ap, ◌∙◌, subst, arith}
use Rattle.std.specs.Prelude.{◌==◌, slice_get, if◌then◌else◌, nat_lt}
use Rattle.std.specs.Option.{option_map_or, option_map}
use Rattle.std.specs.Str.{bytes_eq}
use Rattle.std.proofs.lemmas.Bool.{le-leb, and_parts, or_cases, or_right, eqb-true, eqb-false, eq-eqb, ne_eqb, false≢true, cases_lt}
use Rattle.std.proofs.lemmas.List.{length-set, length-map}
use Rattle.std.proofs.lemmas.Option.{slice_get-map, slice_get_within}
use Rattle.std.proofs.lemmas.Slice.Eq.{bytes_eq-Decides}
use Rattle.kaba_bits.specs.Sets.{IsLeastFrom}
use Rattle.java_core.proofs.Meets.{meet-stands}
use Rattle.name_rules.specs.declared.Refusal.{Refusal}
use Rattle.name_laws.specs.declared.parts.Heading.{Heading}
use Rattle.name_laws.specs.Tables.{is_above}
use Rattle.name_laws.specs.Members.{meet, same_slot, clash_of}
use Rattle.name_laws.specs.Answers.{unless}
use Rattle.kaba_base.proofs.ListLemmas.{middle}
use Rattle.name_types.specs.Clashes.{clash_at, or_clash, clash_among, clash_after}
use Rattle.name_types.proofs.ClashSpots.{not-below}
use Rattle.name_tables.specs.declared.spots.Spots.{Spots}
use Rattle.name_tables.specs.Spots.{AreSpots, spots_from, spots_of}
use Rattle.name_tables.proofs.SpotLemmas.{first-named}
use Rattle.name_types.specs.Marks.{mark_of, mark_at, merged, may_join, is_reached, GrowsMark, MarkedFrom, mark_in, is_suspect, clash_between, AreTested, HaveTested, HaveTestedAt, TestedOne, TestedNext, TestedBefore, begins_from, Marking, Testing}

-- ---- one mark

set-there : (marks : List ℕ) (u w : ℕ) → (mark_at (set marks u w) u ≡ w) ⊎ ((mark_at marks u ≡ 1) × (mark_at (set marks u w) u ≡ 1))
set-there [] u w = inr (refl, refl)
set-there (x ∷ xs) zero w = inl refl
set-there (x ∷ xs) (suc u) w = set-there xs u w

set-other : (marks : List ℕ) (u t w : ℕ) → (t == u) ≡ false → mark_at (set marks u w) t ≡ mark_at marks t
set-other [] u t w e = refl
set-other (x ∷ xs) zero zero w e = absurd (cc e)
set-other (x ∷ xs) zero (suc t) w e = refl
set-other (x ∷ xs) (suc u) zero w e = refl
set-other (x ∷ xs) (suc u) (suc t) w e = set-other xs u t w (ne_eqb t u (λ h. eqb-false (suc t) (suc u) e (ap suc h)))

merged-grows : (was mark : ℕ) → GrowsMark was (merged was mark)
merged-grows was mark = go (was == 0) refl (was == mark) refl
  where
    go : (b : Bool) → (was == 0) ≡ b → (c : Bool) → (was == mark) ≡ c → GrowsMark was (if b || c then mark else 1)
    go true e c f = inr (inl (eqb-true was 0 e))
    go false e true f = inl (sym (eqb-true was mark f))
    go false e false f = inr (inr refl)

merged-is : (was mark : ℕ) → (merged was mark ≡ mark) ⊎ (merged was mark ≡ 1)
merged-is was mark = go ((was == 0) || (was == mark))
  where
    go : (b : Bool) → ((if b then mark else 1) ≡ mark) ⊎ ((if b then mark else 1) ≡ 1)
    go true = inl refl
    go false = inr refl

module _ (marks : List ℕ) (u mark : ℕ) where
  abbrev put : List ℕ
  put = set marks u (merged (mark_at marks u) mark)

  put-grows : GrowsMark (mark_at marks u) (mark_at put u)
  put-grows = ⊎_elim (λ e. subst (GrowsMark (mark_at marks u)) (sym e) (merged-grows (mark_at marks u) mark)) (λ h. inr (inr h.1))
      (set-there marks u (merged (mark_at marks u) mark))

  put-reached : (mark_at put u ≡ mark) ⊎ (mark_at put u ≡ 1)
  put-reached = ⊎_elim (λ e. ⊎_elim (λ m. inl (e ∙ m)) (λ o. inr (e ∙ o)) (merged-is (mark_at marks u) mark)) (λ h. inr h.1)
      (set-there marks u (merged (mark_at marks u) mark))

-- ---- the types at or below an owner

module _ (rows : List (List Bool)) (owner mark : ℕ) (old cur : List ℕ) (quiet : Bool) (from : ℕ) (m : Marking rows owner mark old cur quiet from)
    (at : ℕ) (first : IsLeastFrom (λ t. is_above rows t owner) from at) where
  -- what is reached before the next is before that or the next
  wide : (t : ℕ) → ((t == at) ≡ false) ⊎ ((at == owner) ≡ true) → (t < at + 1) ⊎ ((t == owner) ≡ true) → is_reached rows t owner ≡ true
      → (t < from) ⊎ ((t == owner) ≡ true)
  wide t apart (inr e) r = inr e
  wide t apart (inl lt) r = ⊎_elim (λ less. inl less)
      (λ ge. ⊎_elim
      (λ before. ⊎_elim (λ e. inr e) (λ a. absurd (false≢true (sym (first.least t ge before) ∙ a))) (or_cases (t == owner) (is_above rows t owner) r))
      (λ past. let same : t ≡ at = omega (arith, lt, past) in
      ⊎_elim (λ ne. absurd (false≢true (sym ne ∙ eq-eqb t at same))) (λ e. inr (ap (λ z. z == owner) same ∙ e)) apart)
      (cases_lt t at)) (cases_lt t from)

  same-more : (at == owner) ≡ true → Marking rows owner mark old cur (quiet && true) (at + 1)
  same-more e = record {
    len = m.len;
    grows = m.grows;
    rest = λ t le ne. m.rest t (let low = first.low in omega (arith, low, le)) ne;
    reached = λ t s r. m.reached t (wide t (inr e) s r) r;
    joins = λ q t s r. m.joins (and_parts quiet true q).0 t (wide t (inr e) s r) r;
  }

  other-more : (at == owner) ≡ false → Marking rows owner mark old (put cur at mark) (quiet && may_join (mark_at cur at) mark) (at + 1)
  other-more ne = record {
    len = length-set cur at (merged (mark_at cur at) mark) ∙ m.len;
    grows = λ t. by_type t (λ z. GrowsMark (mark_at old z) (mark_at (put cur at mark) z))
        (subst (λ w. GrowsMark w (mark_at (put cur at mark) at)) here (put-grows cur at mark))
        (λ e. subst (GrowsMark (mark_at old t)) (sym (set-other cur at t (merged (mark_at cur at) mark) e)) (m.grows t));
    rest = λ t le no. set-other cur at t (merged (mark_at cur at) mark) (ne_eqb t at (λ e. omega (arith, le, e)))
        ∙ m.rest t (let low = first.low in omega (arith, low, le)) no;
    reached = λ t s r. by_type t (λ z. (mark_at (put cur at mark) z ≡ mark) ⊎ (mark_at (put cur at mark) z ≡ 1)) (put-reached cur at mark)
        (λ e. subst (λ w. (w ≡ mark) ⊎ (w ≡ 1)) (sym (set-other cur at t (merged (mark_at cur at) mark) e)) (m.reached t (wide t (inl e) s r) r));
    joins = λ q t s r. let both = and_parts quiet (may_join (mark_at cur at) mark) q in
        by_type t (λ z. may_join (mark_at old z) mark ≡ true) (subst (λ w. may_join w mark ≡ true) here both.1)
        (λ e. m.joins both.0 t (wide t (inl e) s r) r);
  }
    where
      here : mark_at cur at ≡ mark_at old at
      here = m.rest at first.low ne

      by_type : (t : ℕ) (F : ℕ → Type 0) → F at → ((t == at) ≡ false → F t) → F t
      by_type t F one other = go (t == at) refl
        where
          go : (b : Bool) → (t == at) ≡ b → F t
          go true e = subst F (sym (eqb-true t at e)) one
          go false e = other e

  pub marking-more : (new : List ℕ) (ok : Bool) → new ≡ (if at == owner then cur else put cur at mark)
      → ok ≡ ((at == owner) || may_join (mark_at cur at) mark) → Marking rows owner mark old new (quiet && ok) (at + 1)
  marking-more new ok e f = go (at == owner) refl e f
    where
      go : (b : Bool) → (at == owner) ≡ b → new ≡ (if b then cur else put cur at mark) → ok ≡ (b || may_join (mark_at cur at) mark)
          → Marking rows owner mark old new (quiet && ok) (at + 1)
      go true h e f = subst (λ n. Marking rows owner mark old n (quiet && ok) (at + 1)) (sym e)
          (subst (λ o. Marking rows owner mark old cur (quiet && o) (at + 1)) (sym f) (same-more h))
      go false h e f = subst (λ n. Marking rows owner mark old n (quiet && ok) (at + 1)) (sym e)
          (subst (λ o. Marking rows owner mark old (put cur at mark) (quiet && o) (at + 1)) (sym f) (other-more h))

-- ---- two methods

marked : (h : Heading) → mark_of h ≢ 0
marked h = go h.is_private h.slot
  where
    go : (b : Bool) (o : Option ℕ) → (if b then 1 else option_map_or (λ s. s + 2) o 1) ≢ 0
    go true o = λ e. omega (arith, e)
    go false None = λ e. omega (arith, e)
    go false (Some s) = λ e. omega (arith, e)

-- methods of one mark, which is not that of those that may meet no other, are of one slot and not private
of-one-mark : (a b : Heading) → mark_of a ≡ mark_of b → mark_of b ≢ 1 → (a.is_private ≡ false) × ((b.is_private ≡ false) × (same_slot a.slot b.slot ≡ true))
of-one-mark a b e n = go a.is_private refl a.slot refl b.is_private refl b.slot refl
  where
    mark : Bool → Option ℕ → ℕ
    mark p o = if p then 1 else option_map_or (λ s. s + 2) o 1

    go : (p : Bool) → a.is_private ≡ p → (o : Option ℕ) → a.slot ≡ o → (q : Bool) → b.is_private ≡ q → (r : Option ℕ) → b.slot ≡ r
        → (a.is_private ≡ false) × ((b.is_private ≡ false) × (same_slot a.slot b.slot ≡ true))
    go p f o g true h r k = absurd (n (rw (h) refl))
    go p f o g false h None k = absurd (n (rw (h, k) refl))
    go true f o g false h (Some s) k = absurd (n (sym e ∙ (rw f refl)))
    go false f None g false h (Some s) k = absurd (n (sym e ∙ (rw (f, g) refl)))
    go false f (Some t) g false h (Some s) k =
        let two : t + 2 ≡ s + 2 = sym (mine f g) ∙ e ∙ its h k in
        (f, (h, rw (g, k) (eq-eqb t s (omega (arith, two)))))
      where
        mine : a.is_private ≡ false → a.slot ≡ Some t → mark_of a ≡ t + 2
        mine f g = rw (f, g) refl

        its : b.is_private ≡ false → b.slot ≡ Some s → mark_of b ≡ s + 2
        its h k = rw (h, k) refl

-- where each type that both reach shows that they are of one mark and may meet, they do not clash
pub no-clash : (rows : List (List Bool)) (a b : Heading)
    → ((t : ℕ) → is_reached rows t a.owner ≡ true → is_reached rows t b.owner ≡ true → (mark_of a ≡ mark_of b) × (mark_of b ≢ 1)) → clash_of rows a b ≡ None
no-clash rows a b f = rw (
  reused ((a.is_private || b.is_private) && (is_above rows a.owner b.owner || is_above rows b.owner a.owner)) refl,
  overload (not (same_slot a.slot b.slot) && meet rows a.owner b.owner) refl,
) refl
  where
    facts : (t : ℕ) → is_reached rows t a.owner ≡ true → is_reached rows t b.owner ≡ true
        → (a.is_private ≡ false) × ((b.is_private ≡ false) × (same_slot a.slot b.slot ≡ true))
    facts t r s = let g = f t r s in of-one-mark a b g.0 g.1

    itself : (x : ℕ) → is_reached rows x x ≡ true
    itself x = rw (eq-eqb x x refl) refl

    above : (t x : ℕ) → is_above rows t x ≡ true → is_reached rows t x ≡ true
    above t x e = or_right (t == x) (is_above rows t x) e

    reused : (z : Bool) → ((a.is_private || b.is_private) && (is_above rows a.owner b.owner || is_above rows b.owner a.owner)) ≡ z → z ≡ false
    reused false e = refl
    reused true e =
        let h = and_parts (a.is_private || b.is_private) (is_above rows a.owner b.owner || is_above rows b.owner a.owner) e in
        let g = ⊎_elim (λ k. facts a.owner (itself a.owner) (above a.owner b.owner k)) (λ k. facts b.owner (above b.owner a.owner k) (itself b.owner))
        (or_cases (is_above rows a.owner b.owner) (is_above rows b.owner a.owner) h.1) in
        absurd (false≢true (sym (rw (g.0, g.1.0) refl) ∙ h.0))

    overload : (z : Bool) → (not (same_slot a.slot b.slot) && meet rows a.owner b.owner) ≡ z → z ≡ false
    overload false e = refl
    overload true e =
        let h = and_parts (not (same_slot a.slot b.slot)) (meet rows a.owner b.owner) e in
        let w = meet-stands rows a.owner b.owner h.1 in
        let g = facts w.0 (above w.0 a.owner w.1) (above w.0 b.owner w.2) in
        absurd (false≢true (sym (rw g.1.1 refl) ∙ h.0))

-- ---- the methods of one name

suspect-at : (s : List Bool) (i : ℕ) → is_suspect (set s i true) i ≡ true
suspect-at [] i = refl
suspect-at (x ∷ s) zero = refl
suspect-at (x ∷ s) (suc i) = suspect-at s i

suspect-kept : (s : List Bool) (u i : ℕ) → is_suspect (set s u true) i ≡ false → is_suspect s i ≡ false
suspect-kept [] u i e = e
suspect-kept (x ∷ s) zero zero e = absurd (cc e)
suspect-kept (x ∷ s) zero (suc i) e = e
suspect-kept (x ∷ s) (suc u) zero e = e
suspect-kept (x ∷ s) (suc u) (suc i) e = suspect-kept s u i e

module _ (rows : List (List Bool)) (all : List Heading) (list marks : List ℕ) (old cur : List Bool) (n : ℕ) (m : Testing rows all list marks old cur n) where
  none-more : slice_get list n ≡ None → Testing rows all list marks old cur (n + 1)
  none-more e = record {
    short = m.short;
    marked = λ q j h lt at. ⊎_elim (λ less. m.marked q j h less at) (λ ge. absurd (past q j (omega (arith, lt, ge)) at)) (cases_lt q n);
    tested = λ p q i j lt less at. ⊎_elim (λ before. m.tested p q i j lt before at) (λ ge. absurd (past p i (omega (arith, less, ge)) at)) (cases_lt p n);
    kept = m.kept;
  }
    where
      past : (p i : ℕ) → p ≡ n → slice_get list p ≡ Some i → ⊥
      past p i same at = cc (e, subst (λ z. slice_get list z ≡ Some i) same at)

  module _ (u : ℕ) (at : slice_get list n ≡ Some u) (after : List ℕ) (new : List Bool) (one : TestedOne rows all u marks after cur new) where
    still : (i : ℕ) → is_suspect new i ≡ false → is_suspect cur i ≡ false
    still i e = go one.quiet one.suspects
      where
        go : (b : Bool) → new ≡ (if b then cur else set cur u true) → is_suspect cur i ≡ false
        go true s = subst (λ z. is_suspect z i ≡ false) s e
        go false s = suspect-kept cur u i (subst (λ z. is_suspect z i ≡ false) s e)

    quiet-then : is_suspect new u ≡ false → one.quiet ≡ true
    quiet-then e = go one.quiet one.suspects
      where
        go : (b : Bool) → new ≡ (if b then cur else set cur u true) → b ≡ true
        go true s = refl
        go false s = absurd (false≢true (sym e ∙ ap (λ z. is_suspect z u) s ∙ suspect-at cur u))

    -- the marks after, by the method
    lengths : (o : Option Heading) → MarkedFrom rows o marks after one.quiet → length after ≡ length marks
    lengths None e = ap length e
    lengths (Some h) g = g.len

    grown : (o : Option Heading) → MarkedFrom rows o marks after one.quiet → (t : ℕ) → GrowsMark (mark_at marks t) (mark_at after t)
    grown None e t = inl (ap (λ z. mark_at z t) e)
    grown (Some h) g t = g.grows t

    stays : (w v k : ℕ) → GrowsMark w v → k ≢ 0 → (w ≡ k) ⊎ (w ≡ 1) → (v ≡ k) ⊎ (v ≡ 1)
    stays w v k (inl same) ne (inl e) = inl (same ∙ e)
    stays w v k (inl same) ne (inr e) = inr (same ∙ e)
    stays w v k (inr (inl none)) ne (inl e) = absurd (ne (sym e ∙ none))
    stays w v k (inr (inl none)) ne (inr e) = absurd (omega (arith, none, e))
    stays w v k (inr (inr last)) ne s = inr last

    joined : (w a b : ℕ) → may_join w b ≡ true → a ≢ 0 → (w ≡ a) ⊎ (w ≡ 1) → (a ≡ b) × (b ≢ 1)
    joined w a b e ne s = go (w == 0) refl (w == b) refl (b == 1) refl
      where
        nonzero : w ≢ 0
        nonzero z = ⊎_elim (λ k. ne (sym k ∙ z)) (λ k. omega (arith, k, z)) s

        go : (x : Bool) → (w == 0) ≡ x → (y : Bool) → (w == b) ≡ y → (z : Bool) → (b == 1) ≡ z → (a ≡ b) × (b ≢ 1)
        go true f y g z h = absurd (nonzero (eqb-true w 0 f))
        go false f false g z h = absurd (false≢true (sym (rw (f, g) refl) ∙ e))
        go false f true g true h = absurd (false≢true (sym (rw (f, g, h) refl) ∙ e))
        go false f true g false h =
            let other : b ≢ 1 = eqb-false b 1 h in
            let same : w ≡ b = eqb-true w b g in
            (⊎_elim (λ k. sym k ∙ same) (λ k. absurd (other (sym same ∙ k))) s, other)

    between : (q j : ℕ) → q < n → slice_get list q ≡ Some j → is_suspect new u ≡ false → (a b : Option Heading) → slice_get all j ≡ a → slice_get all u ≡ b
        → MarkedFrom rows b marks after one.quiet → clash_between rows a b ≡ None
    between q j lt e s None b f g k = refl
    between q j lt e s (Some a) None f g k = refl
    between q j lt e s (Some a) (Some b) f g k = no-clash rows a b
        (λ t r w. joined (mark_at marks t) (mark_of a) (mark_of b) (k.joins (quiet-then s) t w) (marked a) (m.marked q j a lt e f t r))

    one-more : Testing rows all list after old new (n + 1)
    one-more = record {
      short = let l = lengths (slice_get all u) one.marked in let k = m.short in omega (arith, l, k);
      marked = λ q j h lt e f t r. ⊎_elim
          (λ less. stays (mark_at marks t) (mark_at after t) (mark_of h) (grown (slice_get all u) one.marked t) (marked h) (m.marked q j h less e f t r))
          (λ ge. here h (ap (slice_get all) (number q j (omega (arith, lt, ge)) e) ∙ f) t r) (cases_lt q n);
      tested = λ p q i j lt less e f s. ⊎_elim (λ before. m.tested p q i j lt before e f (still i s))
          (λ ge. let same : p ≡ n = omega (arith, less, ge) in
          let mine = number p i same e in
          subst (λ z. clash_between rows (slice_get all j) (slice_get all z) ≡ None) mine
          (between q j (omega (arith, lt, same)) f (subst (λ z. is_suspect new z ≡ false) (sym mine) s) (slice_get all j) (slice_get all u) refl
          refl one.marked))
          (cases_lt p n);
      kept = λ i e. m.kept i (still i e);
    }
      where
        number : (p i : ℕ) → p ≡ n → slice_get list p ≡ Some i → u ≡ i
        number p i same e = cc (at, subst (λ z. slice_get list z ≡ Some i) same e)

        here : (h : Heading) → slice_get all u ≡ Some h → (t : ℕ) → is_reached rows t h.owner ≡ true → (mark_at after t ≡ mark_of h) ⊎ (mark_at after t ≡ 1)
        here h e t r = (subst (λ o. MarkedFrom rows o marks after one.quiet) e one.marked).reached t r

  pub testing-more : (after : List ℕ) (new : List Bool) (o : Option ℕ) → slice_get list n ≡ o → TestedNext rows all o marks after cur new
      → Testing rows all list after old new (n + 1)
  testing-more after new None e t = subst (λ z. Testing rows all list z old new (n + 1)) (sym t.0)
      (subst (λ z. Testing rows all list marks old z (n + 1)) (sym t.1) (none-more e))
  testing-more after new (Some u) e t = one-more u e after new t

  pub testing-all : length list ≤ n → HaveTested rows all list old cur
  testing-all le = record {
    tested = λ p q i j lt at. m.tested p q i j lt (let w = slice_get_within list p i at in omega (arith, w, le)) at;
    kept = m.kept;
  }

-- methods of one mark do not clash
pub alike-tested : (rows : List (List Bool)) (all : List Heading) (list : List ℕ) (k : ℕ) → k ≢ 1 → ((p i : ℕ) → slice_get list p ≡ Some i → mark_in all i ≡ k)
    → (suspects : List Bool) → AreTested rows all list suspects
alike-tested rows all list k ne is suspects p q i j lt e f s = go (slice_get all j) refl (slice_get all i) refl
  where
    go : (a : Option Heading) → slice_get all j ≡ a → (b : Option Heading) → slice_get all i ≡ b → clash_between rows a b ≡ None
    go None g b h = refl
    go (Some a) g None h = refl
    go (Some a) g (Some b) h =
        let x : mark_of a ≡ k = sym (ap (λ o. option_map_or mark_of o 1) g) ∙ is q j f in
        let y : mark_of b ≡ k = sym (ap (λ o. option_map_or mark_of o 1) h) ∙ is p i e in
        no-clash rows a b (λ t r w. (x ∙ sym y, λ z. ne (sym y ∙ z)))

-- ---- all names

module _ (rows : List (List Bool)) (all : List Heading) (spots : Spots) (exact : AreSpots (map (λ h. h.name) all) spots) where
  holds-name : (n : List ℕ) (f : ℕ) → slice_get (spots_of spots n) 0 ≡ Some f → slice_get (map (λ (h : Heading). h.name) all) f ≡ Some n
  holds-name = first-named (λ h. h.name) all spots exact

  begins : (l : List ℕ) (k : ℕ) → slice_get l 0 ≡ Some k → begins_from l k ≡ true
  begins [] k e = absurd (cc e)
  begins (f ∷ fs) k e = le-leb k f (let same : f ≡ k = cc e in omega (arith, same))

  pub suspects-more : (k : ℕ) (old new : List Bool) → TestedBefore rows all spots k old → (o : Option Heading) → slice_get all k ≡ o
      → HaveTestedAt rows all spots o k old new → TestedBefore rows all spots (k + 1) new
  suspects-more k old new before o at t = record {
    each = λ n f e lt p q i j. ⊎_elim
        (λ less. λ a b c s. before.each n f e less p q i j a b c (still o t i s))
        (λ ge. let same : f ≡ k = omega (arith, lt, ge) in
        here n o at t (subst (λ z. slice_get (spots_of spots n) 0 ≡ Some z) same e) p q i j) (cases_lt f k);
  }
    where
      still : (o : Option Heading) → HaveTestedAt rows all spots o k old new → (i : ℕ) → is_suspect new i ≡ false → is_suspect old i ≡ false
      still None t i s = subst (λ z. is_suspect z i ≡ false) t s
      still (Some h) t i s = t.kept i s

      here : (n : List ℕ) (o : Option Heading) → slice_get all k ≡ o → HaveTestedAt rows all spots o k old new → slice_get (spots_of spots n) 0 ≡ Some k
          → AreTested rows all (spots_of spots n) new
      here n None at t e = absurd (cc (sym (slice_get-map (λ (h : Heading). h.name) all k) ∙ holds-name n k e, at))
      here n (Some h) at t e =
          let same : ◌≡◌ {A = Option (List ℕ)} (Some h.name) (Some n) =
          sym (slice_get-map (λ (h : Heading). h.name) all k ∙ ap (option_map (λ (h : Heading). h.name)) at) ∙ holds-name n k e in
          let name : h.name ≡ n = cc same in
          subst (λ z. AreTested rows all (spots_of spots z) new) name
          (t.tested (subst (λ z. begins_from (spots_of spots z) k ≡ true) (sym name) (begins (spots_of spots n) k e)))

  pub suspects-all : (k : ℕ) (suspects : List Bool) → length all ≤ k → TestedBefore rows all spots k suspects → (n : List ℕ)
      → AreTested rows all (spots_of spots n) suspects
  suspects-all k suspects le before n p q i j lt e = go (spots_of spots n) refl
    where
      go : (l : List ℕ) → spots_of spots n ≡ l → slice_get (spots_of spots n) q ≡ Some j → is_suspect suspects i ≡ false
          → clash_between rows (slice_get all j) (slice_get all i) ≡ None
      go [] g = absurd (cc (g, e))
      go (f ∷ fs) g =
          let first : slice_get (spots_of spots n) 0 ≡ Some f = ap (λ z. slice_get z 0) g in
          let w = slice_get_within (map (λ (h : Heading). h.name) all) f n (holds-name n f first) in
          let l = length-map all (λ (h : Heading). h.name) in
          before.each n f first (omega (arith, w, l, le)) p q i j lt e

-- ---- a method that is not suspected

among-none : (rows : List (List Bool)) (k : ℕ) (b : Heading) (all : List Heading) (front back : List ℕ)
    → ((q j : ℕ) → slice_get front q ≡ Some j → clash_at rows b (slice_get all j) ≡ None) → clash_among rows all k b (front ++ k ∷ back) ≡ None
among-none rows k b all [] back h =
    ap (λ z. if z then or_clash (clash_at rows b (slice_get all k)) (clash_among rows all k b back) else None) (not-below k k (omega arith))
among-none rows k b all (j ∷ front) back h = go (nat_lt j k) (among-none rows k b all front back (λ q i e. h (suc q) i e))
  where
    go : (z : Bool) → clash_among rows all k b (front ++ k ∷ back) ≡ None
        → (if z then or_clash (clash_at rows b (slice_get all j)) (clash_among rows all k b (front ++ k ∷ back)) else None) ≡ None
    go true rest = ap (λ o. or_clash o (clash_among rows all k b (front ++ k ∷ back))) (h 0 j refl) ∙ rest
    go false rest = refl

-- the number of a name stands in its list
spots-split : (i d : ℕ) (n : List ℕ) (names : List (List ℕ)) → slice_get names d ≡ Some n
    → (front : List ℕ) × (back : List ℕ) × (spots_from i n names ≡ front ++ (i + d) ∷ back)
spots-split i d n [] e = absurd (cc e)
spots-split i zero n (x ∷ xs) e =
    let same : x ≡ n = cc e in
    ([], spots_from (i + 1) n xs, rw ((bytes_eq-Decides x n).1 same) (ap (λ z. z ∷ spots_from (i + 1) n xs) (omega arith)))
spots-split i (suc d) n (x ∷ xs) e = go (bytes_eq x n) (spots-split (i + 1) d n xs e)
  where
    sum : i + 1 + d ≡ i + suc d
    sum = omega arith

    go : (b : Bool) → (front : List ℕ) × (back : List ℕ) × (spots_from (i + 1) n xs ≡ front ++ (i + 1 + d) ∷ back)
        → (front : List ℕ) × (back : List ℕ) × (cond b (i ∷ spots_from (i + 1) n xs) (spots_from (i + 1) n xs) ≡ front ++ (i + suc d) ∷ back)
    go true r = (i ∷ r.0, r.1, ap (λ z. i ∷ z) (r.2 ∙ ap (λ z. r.0 ++ z ∷ r.1) sum))
    go false r = (r.0, r.1, r.2 ∙ ap (λ z. r.0 ++ z ∷ r.1) sum)

front-get : {A : Type 0} (front rest : List A) (q : ℕ) (j : A) → slice_get front q ≡ Some j → (slice_get (front ++ rest) q ≡ Some j) × (q < length front)
front-get [] rest q j e = absurd (cc e)
front-get (x ∷ front) rest zero j e = (e, omega arith)
front-get (x ∷ front) rest (suc q) j e = let r = front-get front rest q j e in let k = r.1 in (r.0, omega (arith, k))

pub not-suspected : (rows : List (List Bool)) (all : List Heading) (k : ℕ) (b : Heading) (suspects : List Bool)
    → AreTested rows all (spots_from 0 b.name (map (λ h. h.name) all)) suspects → slice_get all k ≡ Some b → is_suspect suspects k ≡ false
    → clash_after rows all k b (spots_from 0 b.name (map (λ h. h.name) all)) ≡ Ok (k + 1)
not-suspected rows all k b suspects tested at quiet =
    let names = map (λ (h : Heading). h.name) all in
    let r = spots-split 0 k b.name names (slice_get-map (λ (h : Heading). h.name) all k ∙ ap (option_map (λ (h : Heading). h.name)) at) in
    let here : 0 + k ≡ k = omega arith in
    let split : spots_from 0 b.name names ≡ r.0 ++ k ∷ r.1 = r.2 ∙ ap (λ z. r.0 ++ z ∷ r.1) here in
    ap (λ (o : Option Refusal). unless o (Ok (k + 1)))
    (ap (clash_among rows all k b) split
    ∙ among-none rows k b all r.0 r.1
    (λ q j e. let g = front-get r.0 (k ∷ r.1) q j e in
    same (slice_get all j) ∙ ap (clash_between rows (slice_get all j)) (sym at)
    ∙ tested (length r.0) q k j g.1 (ap (λ l. slice_get l (length r.0)) split ∙ middle r.0 k r.1) (ap (λ l. slice_get l q) split ∙ g.0) quiet))
  where
    same : (o : Option Heading) → clash_at rows b o ≡ clash_between rows o (Some b)
    same None = refl
    same (Some a) = refl
