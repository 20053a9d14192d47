-- Columns of one name, and those that a node offers.
use Rattle.std.proofs.Common.{◌≡◌, ℕ, suc, zero, ◌+◌, ◌<◌, ◌-◌, ◌≤◌, ◌⊎◌, ◌&&◌, ◌||◌, cond, Bool, true, false, List, [], ◌∷◌, ◌++◌, length, get_or, Contains, Option, Some, None, add-one, refl, sym, ap, ◌∙◌, subst, arith, ⊎_elim, inl, inr}
use Rattle.std.specs.Str.{bytes_eq}
use Rattle.std.specs.List.Sorted.{IsNonDecreasingBy}
use Rattle.std.proofs.lemmas.List.Sorted.{IsNonDecreasingBy-push}
use Rattle.std.proofs.lemmas.Bool.{cases_Bool, cases_lt, cases_eq, and_parts, and_from, false≢true}
use Rattle.std.proofs.lemmas.List.{get_or_append_left, get_or_push, length_push, append-nil, get_or_default}
use Rattle.std.proofs.lemmas.List.Elements.{Contains-append_left, Contains-push, Contains-push_cases, Contains-get_or}
use Rattle.kaba_bits.specs.Sets.{first_below, when}
use Rattle.kaba_bits.proofs.FirstLemmas.{first_below_clear, first_below_found}
use Rattle.fact_model.specs.Items.{column_kind, column_slot}
use Rattle.fact_model.specs.declared.facts.Facts.{Facts}
use Rattle.hier_model.specs.Hierarchies.{Hierarchy, is_offered, member_name, any_below}
use Rattle.hier_model.specs.Names.{is_field}
use Rattle.hier_model.proofs.AnyLemmas.{any_below_some, any_below_has}
use Rattle.hier_rules.specs.declared.broken.Rule.TheVariants.{B8}
use Rattle.hier_rules.specs.declared.clashes.ClashPair.{ClashPair}
use Rattle.hier_rules.specs.Instances.{of_column}
use Rattle.hier_rules.specs.Asked.{are_two_slots}
use Rattle.hier_rules.specs.Names.{clash, is_confused, confused, method_slot}
use Rattle.hier_rules.specs.Namesakes.{last_of, AreLinks, AreClashes, offers_both}

pub last_next : (H : Hierarchy) (name : List ℕ) (c : ℕ) → last_of H name (c + 1) ≡ cond (bytes_eq (member_name H c) name) (Some c) (last_of H name c)
last_next H name c = rw add-one refl

abbrev pub pair : ℕ → ℕ → ClashPair
pair c d = record { first = c; second = d }

-- one more than the column that was found
abbrev pub limit : Option ℕ → ℕ
limit None = 0
limit (Some c) = c + 1

module _ (H : Hierarchy) (name : List ℕ) where
  abbrev has : ℕ → Bool
  has c = bytes_eq (member_name H c) name

  -- what the last column of a name below a number says
  pub record IsLast (n : ℕ) (o : Option ℕ) : Type 0 where
    pub within : limit o ≤ n
    pub none : (c : ℕ) → limit o ≤ c → c < n → bytes_eq (member_name H c) name ≡ false
    pub named : (c : ℕ) → o ≡ Some c → bytes_eq (member_name H c) name ≡ true

  step : (n : ℕ) (b : Bool) → has n ≡ b → IsLast n (last_of H name n) → IsLast (suc n) (cond b (Some n) (last_of H name n))
  step n true h r = record {
    within = omega arith;
    none = λ c le lt. absurd (omega (arith, le, lt));
    named = λ c e. let same : n ≡ c = cc e in subst (λ k. has k ≡ true) same h;
  }
  step n false h r = record {
    within = omega (arith, r.within);
    none = λ c le lt. ⊎_elim (λ e. subst (λ k. has k ≡ false) (sym e) h) (λ ne. r.none c le (omega (arith, lt, ne))) (cases_eq c n);
    named = r.named;
  }

  pub last_says : (n : ℕ) → IsLast n (last_of H name n)
  last_says zero = record { within = omega arith; none = λ c le lt. absurd (omega (arith, lt)); named = λ c e. absurd (cc e) }
  last_says (suc n) = step n (has n) refl (last_says n)

  pub within_some : (n : ℕ) (o : Option ℕ) → limit o ≤ n → (c : ℕ) → o ≡ Some c → c < n
  within_some n None le c e = absurd (cc e)
  within_some n (Some k) le c e = let same : k ≡ c = cc e in omega (arith, le, same)

module _ (F : Facts) (H : Hierarchy) where
  same_name : (x : ClashPair) → clash F H x.first x.second ≡ true → bytes_eq (member_name H x.first) (member_name H x.second) ≡ true
  same_name x h = (and_parts (bytes_eq (member_name H x.first) (member_name H x.second)) _ h).0

  -- no column from k on before d clashes with d
  pub fewer : (d j k : ℕ) (xs : List ClashPair) → j ≤ k → ((c : ℕ) → j ≤ c → c < k → bytes_eq (member_name H c) (member_name H d) ≡ false)
      → AreClashes F H d k xs → AreClashes F H d j xs
  fewer d j k xs le none A = record {
    order = A.order;
    within = A.within;
    last = λ x m e. let a = A.last x m e in omega (arith, a, le);
    is = A.is;
    all = λ x lt w here h.
        A.all x lt w
        (λ e. ⊎_elim
        (λ less. absurd (false≢true (sym (none x.first (here e) less) ∙ subst (λ y. bytes_eq (member_name H x.first) (member_name H y) ≡ true) e
        (same_name x h))))
        (λ ge. ge)
        (cases_lt x.first k)) h;
    rising = A.rising;
  }

  -- all before d are none of d yet
  pub next_column : (d : ℕ) (xs : List ClashPair) → AreClashes F H d 0 xs → AreClashes F H (d + 1) (d + 1) xs
  next_column d xs A = record {
    order = A.order;
    within = λ x m. let w = A.within x m in omega (arith, w);
    last = λ x m e. let w = A.within x m in absurd (omega (arith, w, e));
    is = A.is;
    all = λ x lt w here h.
        A.all x lt
        (⊎_elim (λ e. let l = here e in absurd (omega (arith, lt, l, e))) (λ ne. omega (arith, w, ne)) (cases_eq x.second (d + 1)))
        (λ e. omega arith) h;
    rising = A.rising;
  }

  pub no_column : AreClashes F H 0 0 []
  no_column = record {
    order = λ x m. absurd (omega (arith, m.1));
    within = λ x m. absurd (omega (arith, m.1));
    last = λ x m e. omega arith;
    is = λ x m. absurd (omega (arith, m.1));
    all = λ x lt w here h. absurd (omega (arith, lt, w));
    rising = λ i j x le lt. absurd (omega (arith, lt));
  }

  skipped : (d c : ℕ) (xs : List ClashPair) → clash F H c d ≡ false → AreClashes F H d (c + 1) xs → AreClashes F H d c xs
  skipped d c xs f A = record {
    order = A.order;
    within = A.within;
    last = λ x m e. let a = A.last x m e in omega (arith, a);
    is = A.is;
    all = λ x lt w here h.
        A.all x lt w
        (λ e. ⊎_elim
        (λ same. absurd (false≢true (sym f ∙ subst (λ y. clash F H c y ≡ true) e (subst (λ y. clash F H y x.second ≡ true) same h))))
        (λ ne. let l = here e in omega (arith, l, ne))
        (cases_eq x.first c)) h;
    rising = A.rising;
  }

  module _ (d c : ℕ) (xs : List ClashPair) where
    abbrev new : ClashPair
    new = pair c d

    abbrev longer : List ClashPair
    longer = xs ++ new ∷ []

    made : (x : ClashPair) → x.first ≡ c → x.second ≡ d → new ≡ x
    made x e f = ap (λ a. pair a d) (sym e) ∙ ap (λ b. pair x.first b) (sym f)

    is_new : (x : ClashPair) → ((x.first ≡ c) × (x.second ≡ d)) ⊎ (x.first ≡ c → x.second ≡ d → ⊥)
    is_new x =
        ⊎_elim
        (λ e. ⊎_elim (λ f. inl (e, f)) (λ nf. inr (λ _ f. nf f)) (cases_eq x.second d))
        (λ ne. inr (λ e _. ne e))
        (cases_eq x.first c)

    still_rising : AreClashes F H d (c + 1) xs → IsNonDecreasingBy (λ (x : ClashPair). x.second) longer
    still_rising A =
        IsNonDecreasingBy-push (λ (x : ClashPair). x.second) xs new A.rising
        (λ e lt. A.within (get_or xs (length xs - 1) e) (Contains-get_or xs (length xs - 1) e (omega (arith, lt))))

    pushed : c < d → clash F H c d ≡ true → AreClashes F H d (c + 1) xs → AreClashes F H d c longer
    pushed lt t A = record {
      order = λ x m. ⊎_elim (A.order x) (λ e. subst (λ (y : ClashPair). y.first < y.second) e lt) (Contains-push_cases xs new x m);
      within = λ x m. ⊎_elim (A.within x) (λ e. subst (λ (y : ClashPair). y.second ≤ d) e (omega arith)) (Contains-push_cases xs new x m);
      last = λ x m k. ⊎_elim (λ a. let l = A.last x a k in omega (arith, l)) (λ e. subst (λ (y : ClashPair). c ≤ y.first) e (omega arith))
          (Contains-push_cases xs new x m);
      is = λ x m. ⊎_elim (A.is x) (λ e. subst (λ (y : ClashPair). clash F H y.first y.second ≡ true) e t) (Contains-push_cases xs new x m);
      all = λ x less w here h.
          ⊎_elim
          (λ both. subst (Contains longer) (made x both.0 both.1) (Contains-push xs new))
          (λ apart. Contains-append_left xs (new ∷ []) x
          (A.all x less w (λ e. ⊎_elim (λ same. absurd (apart same e)) (λ ne. let l = here e in omega (arith, l, ne)) (cases_eq x.first c)) h))
          (is_new x);
      rising = still_rising A;
    }

    -- one column of the name more
    pub with_one : c < d → AreClashes F H d (c + 1) xs → AreClashes F H d c (xs ++ cond (clash F H c d) (new ∷ []) [])
    with_one lt A =
        ⊎_elim
        (λ t. subst (λ b. AreClashes F H d c (xs ++ cond b (new ∷ []) [])) (sym t) (pushed lt t A))
        (λ f. subst (λ b. AreClashes F H d c (xs ++ cond b (new ∷ []) [])) (sym f) (subst (λ l. AreClashes F H d c l) (sym (append-nil xs))
        (skipped d c xs f A)))
        (cases_Bool (clash F H c d))

  module _ (C : ℕ) (xs : List ClashPair) (A : AreClashes F H C C xs) where
    second_below : (x : ClashPair) → Contains xs x → x.second < C
    second_below x m = ⊎_elim (λ lt. lt) (λ ge. let w = A.within x m in let e : x.second ≡ C = omega (arith, w, ge) in let l = A.last x m e in
        let o = A.order x m in absurd (omega (arith, l, o, e))) (cases_lt x.second C)

    first_below_all : (x : ClashPair) → Contains xs x → x.first < C
    first_below_all x m = let s = second_below x m in let o = A.order x m in omega (arith, s, o)

    pub both_below : (i : ℕ) → i < length xs → ((get_or xs i (pair 0 0)).first < C) × ((get_or xs i (pair 0 0)).second < C)
    both_below i lt =
        let x = get_or xs i (pair 0 0) in
        let m = Contains-get_or xs i (pair 0 0) lt in
        (first_below_all x m, second_below x m)

    module _ (n i : ℕ) (none : (j : ℕ) (x : ClashPair) → j < i → j < length xs → offers_both H n (get_or xs j x) ≡ false) where
      -- a column is not confused where its clashes are among those that are not offered
      clear : (d : ℕ) → d < C → ((j : ℕ) (x : ClashPair) → j < length xs → (get_or xs j x).second ≡ d → j < i) → confused F H n d ≡ None
      clear d lt before = ap (λ b. when b (of_column B8 n d)) no
        where
          bad : is_confused F H n d ≡ true → ⊥
          bad h =
              let p = and_parts (is_offered H n d) (any_below d (λ c. is_offered H n c && clash F H c d)) h in
              let s = any_below_some (λ c. is_offered H n c && clash F H c d) d p.1 in
              let q = and_parts (is_offered H n s.0) (clash F H s.0 d) s.2 in
              let x : ClashPair = record { first = s.0; second = d } in
              let m : Contains xs x = A.all x s.1 (omega (arith, lt)) (λ e. absurd (omega (arith, lt, e))) q.1 in
              let at : get_or xs m.0 x ≡ x = get_or_default xs m.0 x x m.1 ∙ m.2 in
              let early = before m.0 x m.1 (ap (λ (y : ClashPair). y.second) at) in
              false≢true (sym (none m.0 x early m.1) ∙ ap (λ (y : ClashPair). offers_both H n y) at ∙ and_from (is_offered H n d) (is_offered H n s.0) p.0 q.0)

          no : is_confused F H n d ≡ false
          no = ⊎_elim (λ t. absurd (bad t)) (λ f. f) (cases_Bool (is_confused F H n d))

      pub none_confused : i ≡ length xs → first_below C (confused F H n) ≡ None
      none_confused end = first_below_clear (confused F H n) C (λ d lt. clear d lt (λ j x less e. omega (arith, less, end)))

      pub one_confused : (x : ClashPair) → i < length xs → x ≡ get_or xs i x → offers_both H n x ≡ true → first_below C (confused F H n)
          ≡ Some (of_column B8 n x.second)
      one_confused x lt at h =
          let m : Contains xs x = subst (Contains xs) (sym at) (Contains-get_or xs i x lt) in
          let p = and_parts (is_offered H n x.second) (is_offered H n x.first) h in
          first_below_found (confused F H n) x.second C (of_column B8 n x.second) (second_below x m)
          (first_below_clear (confused F H n) x.second (λ d less. clear d (let s = second_below x m in omega (arith, less, s)) (λ j y jn e.
          ⊎_elim (λ early. early) (λ late.
          let up : (get_or xs i y).second ≤ (get_or xs j y).second = A.rising i j y late jn in
          let same : get_or xs i y ≡ x = get_or_default xs i y x lt ∙ sym at in
          absurd (omega (arith, up, ap (λ (z : ClashPair). z.second) same, e, less)))
          (cases_lt j i))))
          (ap (λ b. when b (of_column B8 n x.second))
          (and_from (is_offered H n x.second) (any_below x.second (λ c. is_offered H n c && clash F H c x.second)) p.0
          (any_below_has (λ c. is_offered H n c && clash F H c x.second) x.second x.first (A.order x m)
          (and_from (is_offered H n x.first) (clash F H x.first x.second) p.1 (A.is x m)))))

-- one link more
pub link_more : (H : Hierarchy) (n : ℕ) (links more : List (Option ℕ)) (o : Option ℕ) → more ≡ links ++ o ∷ [] → AreLinks H n links
    → o ≡ last_of H (member_name H n) n → AreLinks H (n + 1) more
link_more H n links more o e A h =
    subst (λ l. AreLinks H (n + 1) l) (sym e) (record {
      width = length_push links o ∙ ap (λ k. k + 1) A.width;
      exact = λ c lt.
          ⊎_elim
          (λ inner. get_or_append_left links (o ∷ []) None c inner ∙ A.exact c inner)
          (λ end.
          let w = A.width in
          let len = length_push links o in
          let same : n ≡ c = omega (arith, w, len, lt, end) in
          get_or_push links o None c (omega (arith, w, same)) ∙ h ∙ ap (λ k. last_of H (member_name H k) k) same)
          (cases_lt c (length links));
    })

-- what clashes is said by the names alone
pub clash_same : (F : Facts) (H K : Hierarchy) → K.members ≡ H.members → (c d : ℕ) → clash F K c d ≡ clash F H c d
clash_same F H K e c d =
    let kinds = (is_field (column_kind F c) && is_field (column_kind F d))
    || are_two_slots (method_slot (column_kind F c) (column_slot F c)) (method_slot (column_kind F d) (column_slot F d)) in
    ap (λ (names : List (List ℕ)). bytes_eq (get_or names c []) (get_or names d []) && kinds) e

pub clashes_same : (F : Facts) (H K : Hierarchy) (d k : ℕ) (xs : List ClashPair) → K.members ≡ H.members → AreClashes F H d k xs → AreClashes F K d k xs
clashes_same F H K d k xs e A = record {
  order = A.order;
  within = A.within;
  last = A.last;
  is = λ x m. clash_same F H K e x.first x.second ∙ A.is x m;
  all = λ x less w here h. A.all x less w here (sym (clash_same F H K e x.first x.second) ∙ h);
  rising = A.rising;
}
