-- Chains of bodies: one column on, and what a walk along one finds.
use Rattle.std.proofs.Common.{◌≡◌, ℕ, ◌+◌, ◌-◌, ◌<◌, ◌≤◌, Bool, true, false, ◌&&◌, eqb, nat_lt, cond, List, length, get_or, set, Option, Some, None, refl, sym, ap, ◌∙◌, subst, arith, ⊎_elim}
use Rattle.std.specs.List.{position, position_or_len}
use Rattle.std.specs.Option.{unwrap_or}
use Rattle.std.proofs.Math.Nat.{mod-lt}
use Rattle.std.proofs.lemmas.Bool.{cases_lt, cases_eq, cases_Bool, false≢true, and_parts, eqb-true}
use Rattle.std.proofs.lemmas.Bool.Decides.{nat_tests}
use Rattle.std.proofs.lemmas.List.{get_or-set_same, get_or-set_other, length-set}
use Rattle.std.proofs.lemmas.List.Sums.{position_or_len_is}
use Rattle.fact_model.specs.Items.{column_at, column_class, column_kind, column_slot}
use Rattle.fact_model.specs.Classes.{is_def, is_slot, is_body, own_body}
use Rattle.fact_model.specs.declared.facts.Facts.{Facts}
use Rattle.fact_model.specs.declared.facts.ColKind.{ColKind}
use Rattle.fact_model.specs.declared.facts.ColKind.TheVariants.{Fld, Dcl, Def, Is}
use Rattle.points_to.specs.Chains.{column_bucket, bucket_in, IsBodyOf, IsFirstAt, IsFirstBody, AreChained, IsWalk}

pub position_found : {X : Type 0} (p : X → Bool) (xs : List X) (i : ℕ) (d : X) → i < length xs → p (get_or xs i d) ≡ true
    → ((k : ℕ) → k < i → p (get_or xs k d) ≡ false) → position p xs ≡ Some i
position_found p xs i d lt here before =
    let e : position_or_len p xs ≡ i = position_or_len_is p xs i d (omega (arith, lt)) before (λ _. here) in
    rw e (within i (length xs) lt)
  where
    within : (i n : ℕ) → i < n → cond (nat_lt i n) (Some i) None ≡ Some i
    within i n lt = grind (arith, nat_tests)

pub position_missing : {X : Type 0} (p : X → Bool) (xs : List X) (d : X) → ((k : ℕ) → k < length xs → p (get_or xs k d) ≡ false) → position p xs ≡ None
position_missing p xs d before =
    let e : position_or_len p xs ≡ length xs = position_or_len_is p xs (length xs) d (omega arith) before (λ lt. absurd (omega (arith, lt))) in
    rw e (past (length xs))
  where
    past : (n : ℕ) → cond (nat_lt n n) (Some n) None ≡ None
    past n = grind (arith, nat_tests)

module _ (F : Facts) where
  -- one column on, that is no body of the number
  pub first_more : (a c : ℕ) (o : Option ℕ) → (IsBodyOf F a c → ⊥) → IsFirstBody F a (c + 1) o → IsFirstBody F a c o
  first_more a c o lacks x = record {
    some = λ d e.
        let h = x.some d e in
        record {
          low = omega (arith, h.low);
          high = h.high;
          body = h.body;
          least = λ k le lt b. ⊎_elim (λ same. lacks (subst (IsBodyOf F a) same b)) (λ ne. h.least k (omega (arith, le, ne)) lt b) (cases_eq k c);
        };
    none = λ e k le lt b. ⊎_elim (λ same. lacks (subst (IsBodyOf F a) same b)) (λ ne. x.none e k (omega (arith, le, ne)) lt b) (cases_eq k c);
  }

  -- a body of the number is the first from itself on
  pub first_here : (a c : ℕ) → c < length F.columns.items → IsBodyOf F a c → IsFirstBody F a c (Some c)
  first_here a c lt b = record {
    some = λ d e. let same : c ≡ d = cc in subst (IsFirstAt F a c) same
        (record { low = omega arith; high = lt; body = b; least = λ k le l _. omega (arith, le, l) });
    none = λ e. absurd (cc (e));
  }

  module _ (first next : List (Option ℕ)) (c : ℕ) (lt : c < length F.columns.items) (old : AreChained F first next (c + 1)) where
    in_range : column_bucket F c < length F.columns.items + 1
    in_range = mod-lt _ (omega arith)

    next_more : (k : ℕ) → c ≤ k → k < length F.columns.items
        → IsFirstBody F (column_bucket F k) (k + 1) (get_or (set next c (get_or first (column_bucket F c) None)) k None)
    next_more k le high =
        ⊎_elim
        (λ same. subst (λ j. IsFirstBody F (column_bucket F j) (j + 1) (get_or (set next c (get_or first (column_bucket F c) None)) j None)) (sym same)
        (rw (get_or-set_same next c (get_or first (column_bucket F c) None) None (omega (arith, lt, old.next_len))) (old.firsts (column_bucket F c) in_range)))
        (λ ne. rw (get_or-set_other next c k (get_or first (column_bucket F c) None) None ne) (old.nexts k (omega (arith, le, ne)) high))
        (cases_eq k c)

    pub chained_body : column_kind F c ≡ Def → AreChained F (set first (column_bucket F c) (Some c)) (set next c (get_or first (column_bucket F c) None)) c
    chained_body def = record {
      first_len = length-set first (column_bucket F c) (Some c) ∙ old.first_len;
      next_len = length-set next c (get_or first (column_bucket F c) None) ∙ old.next_len;
      firsts = λ a la.
          ⊎_elim
          (λ same. subst (λ j. IsFirstBody F j c (get_or (set first (column_bucket F c) (Some c)) j None)) (sym same)
          (rw (get_or-set_same first (column_bucket F c) (Some c) None (omega (arith, in_range, old.first_len)))
          (first_here (column_bucket F c) c lt (record { kind = def; bucket = refl }))))
          (λ ne. rw (get_or-set_other first (column_bucket F c) a (Some c) None ne) (first_more a c _ (λ b. ne (sym b.bucket)) (old.firsts a la)))
          (cases_eq a (column_bucket F c));
      nexts = next_more;
    }

    pub chained_other : (column_kind F c ≡ Def → ⊥) → AreChained F first (set next c (get_or first (column_bucket F c) None)) c
    chained_other other = record {
      first_len = old.first_len;
      next_len = length-set next c (get_or first (column_bucket F c) None) ∙ old.next_len;
      firsts = λ a la. first_more a c _ (λ b. other b.kind) (old.firsts a la);
      nexts = next_more;
    }

  def_is : (k : ColKind) → is_def k ≡ true → k ≡ Def
  def_is Def h = refl
  def_is Fld h = absurd (false≢true h)
  def_is Dcl h = absurd (false≢true h)
  def_is Is h = absurd (false≢true h)

  slot_is : (o : Option ℕ) (x : ℕ) → is_slot o x ≡ true → unwrap_or o 0 ≡ x
  slot_is None x h = absurd (false≢true h)
  slot_is (Some y) x h = eqb-true y x h

  -- what is a body of a slot in a class is a body of their number
  no_body : (a x k : ℕ) → (IsBodyOf F (bucket_in F a x) k → ⊥) → is_body a x (column_at F k) ≡ false
  no_body a x k lacks =
      ⊎_elim
      (λ t.
      let p = and_parts (is_def (column_kind F k)) (eqb (column_class F k) a && is_slot (column_slot F k) x) t in
      let q = and_parts (eqb (column_class F k) a) (is_slot (column_slot F k) x) p.1 in
      absurd (lacks (record {
        kind = def_is (column_kind F k) p.0;
        bucket = ap (λ i. bucket_in F i (unwrap_or (column_slot F k) 0)) (eqb-true (column_class F k) a q.0)
            ∙ ap (bucket_in F a) (slot_is (column_slot F k) x q.1);
      })))
      (λ f. f)
      (cases_Bool (is_body a x (column_at F k)))

  pub own_missing : (a x k : ℕ) → eqb (column_class F k) a && is_slot (column_slot F k) x ≡ false → is_body a x (column_at F k) ≡ false
  own_missing a x k none =
      ⊎_elim
      (λ t. absurd (false≢true (sym none ∙ (and_parts (is_def (column_kind F k)) (eqb (column_class F k) a && is_slot (column_slot F k) x) t).1)))
      (λ f. f)
      (cases_Bool (is_body a x (column_at F k)))

  own_found : (a x k : ℕ) → column_kind F k ≡ Def → eqb (column_class F k) a && is_slot (column_slot F k) x ≡ true → is_body a x (column_at F k) ≡ true
  own_found a x k def own = rw def own

  -- a walk on the first body at or after a number, where none before it is one of the slot
  pub walk_from : (a x from : ℕ) (o : Option ℕ) → IsFirstBody F (bucket_in F a x) from o → ((k : ℕ) → k < from → is_body a x (column_at F k) ≡ false)
      → IsWalk F a x o
  walk_from a x from o f none = record {
    high = λ d e. (f.some d e).high;
    body = λ d e. (f.some d e).body;
    before = λ d k e lt. ⊎_elim (λ low. none k low) (λ ge. no_body a x k ((f.some d e).least k ge lt)) (cases_lt k from);
    all = λ e k lt. ⊎_elim (λ low. none k low) (λ ge. no_body a x k (f.none e k ge lt)) (cases_lt k from);
  }

  -- the walk one step on
  pub walk_on : (a x d : ℕ) (first next : List (Option ℕ)) → AreChained F first next 0 → IsWalk F a x (Some d)
      → eqb (column_class F d) a && is_slot (column_slot F d) x ≡ false
      → IsWalk F a x (get_or next d None)
  walk_on a x d first next chained w none =
      walk_from a x (d + 1) (get_or next d None)
      (subst (λ b. IsFirstBody F b (d + 1) (get_or next d None)) ((w.body d refl).bucket) (chained.nexts d (omega arith) (w.high d refl)))
      (λ k lt. ⊎_elim (λ same. subst (λ j. is_body a x (column_at F j) ≡ false) (sym same) (own_missing a x d none))
      (λ ne. w.before d k refl (omega (arith, lt, ne))) (cases_eq k d))

  pub walk_found : (a x d : ℕ) → IsWalk F a x (Some d) → eqb (column_class F d) a && is_slot (column_slot F d) x ≡ true → own_body F a x ≡ Some d
  walk_found a x d w s = position_found (λ k. is_body a x k) F.columns.items d _ (w.high d refl) (own_found a x d (w.body d refl).kind s)
      (λ k lt. w.before d k refl lt)

  pub walk_missing : (a x : ℕ) → IsWalk F a x None → own_body F a x ≡ None
  walk_missing a x w = position_missing (λ k. is_body a x k) F.columns.items _ (w.all refl)

-- how many columns are left of a walk
abbrev pub left : ℕ → Option ℕ → ℕ
left n None = 0
left n (Some d) = n - d

pub left_less : (F : Facts) (a x d : ℕ) (first next : List (Option ℕ)) → AreChained F first next 0 → IsWalk F a x (Some d)
    → left (length F.columns.items) (get_or next d None) < left (length F.columns.items) (Some d)
left_less F a x d first next chained w = go (get_or next d None) refl
  where
    go : (o : Option ℕ) → get_or next d None ≡ o → left (length F.columns.items) o < left (length F.columns.items) (Some d)
    go None e = omega (arith, w.high d refl)
    go (Some k) e = let h = (chained.nexts d (omega arith) (w.high d refl)).some k e in omega (arith, h.low, h.high, w.high d refl)
