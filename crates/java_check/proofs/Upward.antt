-- What the words of the classes tell where each is right by those of its supertypes.
use Rattle.std.proofs.Common.{◌≡◌, ◌==◌, ◌&&◌, ◌||◌, ℕ, zero, suc, ◌+◌, ◌*◌, ◌<◌, ◌≤◌, Bool, true, false, not, cond, List, [], ◌∷◌, length, Contains, Option, Some, None, refl, sym, ap, ◌∙◌, subst, arith, ⊎_elim, slice_get}
use Rattle.std.specs.Prelude.{bit_or}
use Rattle.std.specs.Option.{option_map_or, option_and_then}
use Rattle.std.specs.List.{list_any}
use Rattle.std.proofs.lemmas.Bool.{and_parts, eq-eqb, eqb-true, false≢true, cases_lt}
use Rattle.std.proofs.lemmas.List.{get_or_past}
use Rattle.std.proofs.lemmas.List.Folds.{Any-from_list_any, list_any-from_Any}
use Rattle.std.proofs.lemmas.Option.{slice_get_within}
use Rattle.kaba_base.specs.declared.ClassId.{ClassId}
use Rattle.kaba_base.proofs.ListLemmas.{contains_cases}
use Rattle.java_core.specs.Programs.{Plain, PlainMethod}
use Rattle.java_core.specs.Classes.{parent_of, faces_of, IsSubclass, same_class, through, first_or, nearest, is_slot, has_slot, own_declaration, nearest_declaration, below}
use Rattle.java_core.specs.Formed.{IsFormed}
use Rattle.java_core.proofs.Subclasses.{ArePassed, one_left, passed_more, none_passed, parent-super, below-subclass}
use Rattle.java_core.proofs.Upwards.{super_cases}
use Rattle.java_core.proofs.Positions.{position-passes, passes-position}
use Rattle.java_core.proofs.SearchOrder.{slot_is}
use Rattle.java_check.specs.SlotOutcome.{bit, IsWordWithin, is_within, has_faces, full, word_at, own_at, answers, says, AreMethodsListed, parent_word, IsNearestAt, IsAboveAt, is_nearest_at, is_above_at, is_told, HasNearest, HasAbove}
use Rattle.java_check.specs.declared.tables.Asked.{Asked}
use Rattle.java_check.proofs.Words.{bit-or, bit-zero, bit-full, within-full, within-bits}

-- a class that has no word has all bits
pub word_past : (table : List ℕ) (c : ℕ) → length table ≤ c → word_at table c ≡ full
word_past table c past = get_or_past table c full past

pub own_past : (table : List ℕ) (c i : ℕ) → length table ≤ c → bit (own_at table c) i ≡ false
own_past table c i past = ap (λ w. bit w i) (get_or_past table c 0 past) ∙ bit-zero i

or_left_of : (a b : Bool) → (a || b) ≡ true → b ≡ false → a ≡ true
or_left_of true b h e = refl
or_left_of false b h e = absurd (false≢true (sym e ∙ h))

module _ (P : Plain) where
  pub nearest_past : (table having lacking : List ℕ) (none c : ℕ) → length table ≤ c → IsNearestAt P table having lacking none c
  nearest_past table having lacking none c past = record {
    own = subst (IsWordWithin (own_at lacking c)) (sym (word_past table c past)) (within-full (own_at lacking c));
    above = λ i lt h. bit-or (word_at table c) (own_at having c) i ∙ ap (λ w. bit w i || bit (own_at having c) i) (word_past table c past)
        ∙ ap (λ x. x || bit (own_at having c) i) (bit-full i lt);
  }

  pub above_past : (table own : List ℕ) (c : ℕ) → length table ≤ c → IsAboveAt P table own c
  above_past table own c past = record {
    own = all (own_at own c);
    parent = all (parent_word P table 0 c);
    faces = λ k h. all (word_at table k.0);
  }
    where
      all : (w : ℕ) → IsWordWithin w (word_at table c)
      all w = subst (IsWordWithin w) (sym (word_past table c past)) (within-full w)

  -- the words of the interfaces that a class names are within its own
  pub faces_within : (table : List ℕ) (w : ℕ) (ks : List ClassId) → has_faces table w ks ≡ true → (k : ClassId) → Contains ks k → IsWordWithin (word_at table k.0) w
  faces_within table w [] all k h = let lt : h.0 < 0 = h.1 in absurd (omega (arith, lt))
  faces_within table w (x ∷ ks) all k h =
      let parts = and_parts (is_within (word_at table x.0) w) (has_faces table w ks) all in
      ⊎_elim (λ (e : x ≡ k). subst (λ (y : ClassId). IsWordWithin (word_at table y.0) w) e (within-bits (word_at table x.0) w parts.0))
      (λ more. faces_within table w ks parts.1 k more) (contains_cases x ks k h)

  -- each class is right where those that have words are
  nearest_all : (table having lacking : List ℕ) (none : ℕ) → ((c : ℕ) → c < length table → is_nearest_at P table having lacking none c ≡ true)
      → (c : ℕ) → IsNearestAt P table having lacking none c
  nearest_all table having lacking none checked c =
      ⊎_elim
      (λ lt. let parts = and_parts (is_within (own_at lacking c) (word_at table c))
      (is_within (parent_word P table none c) (bit_or (word_at table c) (own_at having c)))
      (checked c lt) in
      record {
        own = within-bits (own_at lacking c) (word_at table c) parts.0;
        above = within-bits (parent_word P table none c)
            (bit_or (word_at table c) (own_at having c)) parts.1;
      })
      (λ past. nearest_past table having lacking none c past)
      (cases_lt c (length table))

  above_all : (table start : List ℕ) → ((c : ℕ) → c < length table → is_above_at P table start c ≡ true) → (c : ℕ) → IsAboveAt P table start c
  above_all table start checked c =
      ⊎_elim
      (λ lt. let parts = and_parts (is_within (own_at start c) (word_at table c))
      (is_within (parent_word P table 0 c) (word_at table c) && has_faces table (word_at table c) (faces_of P c)) (checked c lt) in
      let more = and_parts (is_within (parent_word P table 0 c) (word_at table c)) (has_faces table (word_at table c) (faces_of P c)) parts.1 in
      record {
        own = within-bits (own_at start c) (word_at table c) parts.0;
        parent = within-bits (parent_word P table 0 c) (word_at table c) more.0;
        faces = faces_within table (word_at table c) (faces_of P c) more.1;
      })
      (λ past. above_past table start c past)
      (cases_lt c (length table))

  -- what a class declares itself of a slot
  says-has : (q : Asked) (c s m : ℕ) (o : Option PlainMethod) → slice_get P.methods m ≡ o
      → option_map_or (λ k. has_slot c s k && answers P q k) o false ≡ true
      → (k : PlainMethod) × (slice_get P.methods m ≡ Some k) × (has_slot c s k ≡ true)
  says-has q c s m None at h = absurd (false≢true h)
  says-has q c s m (Some k) at h = (k, at, (and_parts (has_slot c s k) (answers P q k) h).0)

  says_none : (q : Asked) (c s : ℕ) (ms : List ℕ) → own_declaration P c s ≡ None → list_any (λ m. says P q c s m) ms ≡ false
  says_none q c s ms none = go (list_any (λ m. says P q c s m) ms) refl
    where
      go : (b : Bool) → list_any (λ m. says P q c s m) ms ≡ b → list_any (λ m. says P q c s m) ms ≡ false
      go false e = e
      go true e =
          let found = Any-from_list_any (λ m. says P q c s m) ms e in
          let x = says-has q c s found.1 (slice_get P.methods found.1) refl found.4 in
          let there = passes-position (λ m. has_slot c s m) P.methods found.1 x.0 x.1 x.2 in
          absurd (cc (none, there.1))

  says_one : (q : Asked) (c s m : ℕ) (k : PlainMethod) (ms : List ℕ) → Contains ms m → slice_get P.methods m ≡ Some k → has_slot c s k ≡ true
      → answers P q k ≡ true → list_any (λ m. says P q c s m) ms ≡ true
  says_one q c s m k ms there at has having = list_any-from_Any (λ m. says P q c s m) ms (there.0, m, there.1, there.2, rw (at, has, having) refl)

  module _ (formed : IsFormed P) (b : ℕ) (ms : List ℕ) (listed : AreMethodsListed P b ms) (count : ℕ) (many : length P.classes ≡ count) where
    -- the bits of what the classes declare themselves
    abbrev pub AreBits : Asked → List ℕ → Type 0
    AreBits q own = (c i : ℕ) → c < count → i < 64 → bit (own_at own c) i ≡ list_any (λ m. says P q c (64 * b + i) m) ms

    module _ (i : ℕ) (lt : i < 64) where
      abbrev s : ℕ
      s = 64 * b + i

      own_none : (q : Asked) (own : List ℕ) → length own ≡ count → AreBits q own → (c : ℕ) → own_declaration P c s ≡ None → bit (own_at own c) i ≡ false
      own_none q own len bits c none =
          ⊎_elim (λ within. bits c i within lt ∙ says_none q c s ms none) (λ past. own_past own c i (omega (arith, len, past))) (cases_lt c count)

      own_one : (q : Asked) (own : List ℕ) → AreBits q own → (c m : ℕ) (k : PlainMethod) → slice_get P.methods m ≡ Some k → has_slot c s k ≡ true
          → answers P q k ≡ true → bit (own_at own c) i ≡ true
      own_one q own bits c m k at has having =
          let parts = and_parts (k.owner == c) (is_slot k.slot s) has in
          let f = formed.methods m k at in
          let within = slice_get_within P.classes k.owner f.holder f.stands in
          bits c i (omega (arith, within, many, eqb-true k.owner c parts.0)) lt
          ∙ says_one q c s m k ms (listed m i k at lt (slot_is k.slot s parts.1)) at has having

      module _ (q r : Asked) (none : Bool) (other : (k : PlainMethod) → answers P r k ≡ not (answers P q k)) (table having lacking : List ℕ)
          (len : length having ≡ count) (has : AreBits q having) (lacks : AreBits r lacking)
          (right : (c : ℕ) → IsNearestAt P table having lacking (cond none 0 full) c) where
        here : (c d : ℕ) → own_declaration P c s ≡ Some d → is_told P q none (Some d) ≡ false → bit (word_at table c) i ≡ true
        here c d e told =
            let it = position-passes (λ m. has_slot c s m) P.methods d e in
            let no_answer : answers P q it.0 ≡ false = sym (ap (λ o. option_map_or (answers P q) o none) it.1) ∙ told in
            (right c).own i lt (own_one r lacking lacks c d it.0 it.1 it.2 (other it.0 ∙ ap not no_answer))

        -- the bit of the superclass, or of none
        up : (c : ℕ) → own_declaration P c s ≡ None → (o : Option ClassId) → parent_of P c ≡ o
            → bit (option_map_or (λ p. word_at table p.0) o (cond none 0 full)) i ≡ true → bit (word_at table c) i ≡ true
        up c e o at h =
            let above = (right c).above i lt (ap (λ o. bit (option_map_or (λ p. word_at table p.0) o (cond none 0 full)) i) at ∙ h) in
            or_left_of (bit (word_at table c) i) (bit (own_at having c) i) (sym (bit-or (word_at table c) (own_at having c) i) ∙ above)
            (own_none q having len has c e)

        top : (c : ℕ) → own_declaration P c s ≡ None → parent_of P c ≡ None → none ≡ false → bit (word_at table c) i ≡ true
        top c e p n = up c e None p (ap (λ x. bit (cond x 0 full) i) n ∙ bit-full i lt)

        abbrev near : ℕ → ℕ → Option ℕ
        near n c = nearest P (λ x. own_declaration P x s) n c

        last : (c : ℕ) (seen : List ℕ) → 0 + length seen ≡ length P.classes → ArePassed P seen c → (o : Option ℕ) → own_declaration P c s ≡ o
            → (r : Option ClassId) → parent_of P c ≡ r → is_told P q none o ≡ false → bit (word_at table c) i ≡ true
        last c seen e h (Some d) f r g t = here c d f t
        last c seen e h None f None g t = top c f g t
        last c seen e h None f (Some p) g t = absurd (one_left P formed.acyclic seen (parent-super P c p g) h e)

        more : (n c : ℕ) (o : Option ℕ) → own_declaration P c s ≡ o → (r : Option ClassId) → parent_of P c ≡ r
            → ((p : ClassId) → parent_of P c ≡ Some p → is_told P q none (near n p.0) ≡ false → bit (word_at table p.0) i ≡ true)
            → is_told P q none (first_or o (option_and_then (λ p. near n p.0) r)) ≡ false → bit (word_at table c) i ≡ true
        more n c (Some d) f r g rest t = here c d f t
        more n c None f None g rest t = top c f g t
        more n c None f (Some p) g rest t = up c f (Some p) g (rest p g t)

        missed : (n : ℕ) (seen : List ℕ) (c : ℕ) → n + length seen ≡ length P.classes → ArePassed P seen c
            → is_told P q none (near n c) ≡ false → bit (word_at table c) i ≡ true
        missed zero seen c e h told = last c seen e h (own_declaration P c s) refl (parent_of P c) refl told
        missed (suc n) seen c e h told =
            more n c (own_declaration P c s) refl (parent_of P c) refl
            (λ p g t. missed n (c ∷ seen) p.0 (omega (arith, e)) (passed_more P formed.acyclic seen (parent-super P c p g) h) t) told

        nearest_bit : (c : ℕ) → is_told P q none (nearest_declaration P c s) ≡ false → bit (word_at table c) i ≡ true
        unfolding nearest_declaration
        nearest_bit c told = missed (length P.classes) [] c (omega arith) (none_passed P c) told

      module _ (q : Asked) (table own : List ℕ) (has : AreBits q own) (right : (c : ℕ) → IsAboveAt P table own c) where
        raised : {c h : ℕ} → IsSubclass P c h → bit (word_at table h) i ≡ true → bit (word_at table c) i ≡ true
        raised same_class e = e
        raised {c} (through {c = k} direct rest) e =
            ⊎_elim
            (λ up. (right c).parent i lt (ap (λ o. bit (option_map_or (λ p. word_at table p.0) o 0) i) up ∙ raised rest e))
            (λ f. (right c).faces k f i lt (raised rest e))
            (super_cases P c k direct)

        above_bit : (c m : ℕ) (k : PlainMethod) → slice_get P.methods m ≡ Some k → k.slot ≡ Some s → answers P q k ≡ true
            → below P c k.owner ≡ true → bit (word_at table c) i ≡ true
        above_bit c m k at slot having up =
            let has_it : has_slot k.owner s k ≡ true = rw (eq-eqb k.owner k.owner refl, slot, eq-eqb s s refl) refl in
            raised (below-subclass P c k.owner up) ((right k.owner).own i lt (own_one q own has k.owner m k at has_it having))

    pub nearest_found : (q r : Asked) (none : Bool) → ((k : PlainMethod) → answers P r k ≡ not (answers P q k)) → (table having lacking : List ℕ)
        → length having ≡ count → AreBits q having → AreBits r lacking
        → ((c : ℕ) → c < length table → is_nearest_at P table having lacking (cond none 0 full) c ≡ true) → HasNearest P q none b table
    nearest_found q r none other table having lacking len has lacks checked c i lt told =
        nearest_bit i lt q r none other table having lacking len has lacks (nearest_all table having lacking (cond none 0 full) checked) c told

    pub above_found : (q : Asked) (table own : List ℕ) → AreBits q own → ((c : ℕ) → c < length table → is_above_at P table own c ≡ true) → HasAbove P q b table
    above_found q table own has checked c i m k lt at slot having up = above_bit i lt q table own has (above_all table own checked) c m k at slot having up

-- an empty table has all bits
pub nearest_empty : (P : Plain) (q : Asked) (none : Bool) (b : ℕ) (table : List ℕ) → table ≡ [] → HasNearest P q none b table
nearest_empty P q none b table e c i lt told = ap (λ t. bit (word_at t c) i) e ∙ bit-full i lt

pub above_empty : (P : Plain) (q : Asked) (b : ℕ) (table : List ℕ) → table ≡ [] → HasAbove P q b table
above_empty P q b table e c i m k lt at slot having up = ap (λ t. bit (word_at t c) i) e ∙ bit-full i lt
