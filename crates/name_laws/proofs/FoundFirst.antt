-- Where a method of a name is met, one is found first: all classes and interfaces above one are searched, but for Object.
use Rattle.std.proofs.Common.{◌≡◌, ◌≢◌, ℕ, zero, suc, ◌+◌, ◌<◌, ◌⊎◌, inl, inr, ⊎_elim, Bool, true, false, List, [], ◌∷◌, ◌++◌, length, Option, Some, None, Contains, refl, sym, ap, ◌∙◌, subst, arith}
use Rattle.std.specs.Prelude.{slice_get}
use Rattle.std.specs.Option.{option_map_or}
use Rattle.std.specs.List.{flat_map}
use Rattle.std.proofs.lemmas.Bool.{false≢true, cases_lt}
use Rattle.std.proofs.lemmas.List.Elements.{Contains-append_left, Contains-append_right}
use Rattle.kaba_base.specs.declared.ClassId.{ClassId}
use Rattle.kaba_base.proofs.ListLemmas.{first, one, later, contains_cases, no-member, flat_has}
use Rattle.java_core.specs.Programs.{Plain, PlainMethod}
use Rattle.java_core.specs.Classes.{parent_of, faces_of, supers_of, IsSubclass, same_class, through, first_or, faces_above, chain, search_order, first_found}
use Rattle.java_core.proofs.Positions.{passes-position}
use Rattle.java_core.proofs.Subclasses.{IsAcyclic, parent-super, ArePassed, passed_more, none_passed, one_left}
use Rattle.java_core.proofs.Upwards.{super_cases, IsOnChain, chain_here, chain_up}
use Rattle.name_rules.specs.Meanings.{IsMet, is_named_in, named_method, first_method, IsFirstMethod}
use Rattle.name_rules.specs.Conditions.{AreOneSlot}
use Rattle.name_rules.proofs.FirstMethods.{first-stands}
use Rattle.name_laws.proofs.KnownMembers.{true-both}

-- what one of the classes has, or an earlier one, is found
found-there : (f : ℕ → Option ℕ) (cs : List ℕ) (c d : ℕ) → Contains cs c → f c ≡ Some d → (l : ℕ) × (first_found f cs ≡ Some l)
found-there f [] c d h e = no-member c h
found-there f (b ∷ cs) c d h e = go (λ more. found-there f cs c d more e) (f b) refl
  where
    go : (Contains cs c → (l : ℕ) × (first_found f cs ≡ Some l)) → (o : Option ℕ) → f b ≡ o → (l : ℕ) × (first_found f (b ∷ cs) ≡ Some l)
    go rest (Some l) g = (l, ap (λ z. first_or z (first_found f cs)) g)
    go rest None g =
        ⊎_elim (λ same. absurd (cc (sym g ∙ ap f same ∙ e)))
        (λ more. let r = rest more in (r.0, ap (λ z. first_or z (first_found f cs)) g ∙ r.1)) (contains_cases b cs c h)

-- the types of a program go in no circle, Object has nothing above it, and an interface has Object as its parent
pub record IsLadder (P : Plain) : Type 0 where
  pub acyclic : IsAcyclic P
  pub top : (c : ClassId) → Contains (supers_of P 0) c → ⊥
  pub interfaces : (c : ℕ) (k p : ClassId) → Contains (faces_of P c) k → parent_of P k.0 ≡ Some p → p.0 ≡ 0

module _ (P : Plain) (ladder : IsLadder P) where
  above-object : {c b : ℕ} → c ≡ 0 → IsSubclass P c b → b ≡ 0
  above-object e same_class = e
  above-object e (through {c = k} direct rest) = absurd (ladder.top k (subst (λ z. Contains (supers_of P z) k) e direct))

  face-super : (c : ℕ) (k : ClassId) → Contains (faces_of P c) k → Contains (supers_of P c) k
  face-super c k h = Contains-append_right _ (faces_of P c) k h

  -- what stands above a class stands along its superclasses, or above an interface that one of these names
  data Way : ℕ → ℕ → Type 0 where
    along : {c b : ℕ} → IsOnChain P c b → Way c b
    across : {c h b : ℕ} {k : ClassId} → IsOnChain P c h → Contains (faces_of P h) k → IsSubclass P k.0 b → Way c b

  one-up : {c b : ℕ} {p : ClassId} → parent_of P c ≡ Some p → Way p.0 b → Way c b
  one-up up (along w) = along (chain_up up w)
  one-up up (across w face rest) = across (chain_up up w) face rest

  way : {c b : ℕ} → IsSubclass P c b → Way c b
  way same_class = along chain_here
  way {c} (through {c = k} direct rest) = ⊎_elim (λ up. one-up up (way rest)) (λ face. across chain_here face rest) (super_cases P c k direct)

  chain-has : (n : ℕ) (seen : List ℕ) {c h : ℕ} → IsOnChain P c h → n + length seen ≡ length P.classes → ArePassed P seen c → Contains (chain P n c) h
  chain-has zero seen {c} chain_here e k = one c
  chain-has (suc n) seen {c} chain_here e k = first c _
  chain-has zero seen {c} (chain_up {p = p} up w) e k = absurd (one_left P ladder.acyclic seen (parent-super P c p up) k e)
  chain-has (suc n) seen {c} {h} (chain_up {p = p} up w) e k =
      later c _ h (subst (λ o. Contains (option_map_or (λ p. chain P n p.0) o []) h) (sym up)
      (chain-has n (c ∷ seen) w (omega (arith, e)) (passed_more P ladder.acyclic seen (parent-super P c p up) k)))

  faces-have : (n c : ℕ) (seen : List ℕ) (k : ClassId) {b : ℕ} → n + length seen ≡ length P.classes → ArePassed P seen c → Contains (faces_of P c) k
      → IsSubclass P k.0 b → (b ≡ 0) ⊎ Contains (faces_above P n c) b
  faces-have zero c seen k e h direct rest = absurd (one_left P ladder.acyclic seen (face-super c k direct) h e)
  faces-have (suc n) c seen k e h direct same_class =
      inr (flat_has (λ (k : ClassId). k.0 ∷ faces_above P n k.0) (faces_of P c) k k.0 direct (first k.0 (faces_above P n k.0)))
  faces-have (suc n) c seen k {b} e h direct (through {c = j} more rest) =
      ⊎_elim
      (λ parent. inl (above-object (ladder.interfaces c k j direct parent) rest))
      (λ face. ⊎_elim (λ z. inl z)
      (λ found. inr (flat_has (λ (k : ClassId). k.0 ∷ faces_above P n k.0) (faces_of P c) k b direct (later k.0 (faces_above P n k.0) b found)))
      (faces-have n k.0 (c ∷ seen) j (omega (arith, e)) (passed_more P ladder.acyclic seen (face-super c k direct) h) face rest))
      (super_cases P k.0 j more)

  order-has : {c b : ℕ} → IsSubclass P c b → (b ≡ 0) ⊎ Contains (search_order P c) b
  unfolding search_order
  order-has {c} {b} above = go (way above)
    where
      n : ℕ
      n = length P.classes

      go : Way c b → (b ≡ 0) ⊎ Contains (chain P n c ++ flat_map (λ k. faces_above P n k) (chain P n c)) b
      go (along w) = inr (Contains-append_left (chain P n c) _ b (chain-has n [] w (omega arith) (none_passed P c)))
      go (across {h = h} {k = k} w face rest) =
          ⊎_elim (λ z. inl z)
          (λ found. inr (Contains-append_right (chain P n c) _ b
          (flat_has (λ k. faces_above P n k) (chain P n c) h b (chain-has n [] w (omega arith) (none_passed P c)) found)))
          (faces-have n h [] k (omega arith) (none_passed P h) face rest)

  -- where a method is met, and Object has none, one is found first
  pub met-first : {c m : ℕ} {n : List ℕ} {k : PlainMethod} → k.owner ≢ 0 → IsMet P c n m k → (l : ℕ) × (h : PlainMethod) × IsFirstMethod P c n l h
  unfolding first_method
  met-first {c} {m} {n} {k} owned met =
      let own = passes-position (λ h. is_named_in k.owner n h) P.methods m k met.stands (true-both k.owner k.owner k.name n refl met.name) in
      ⊎_elim
      (λ z. absurd (owned z))
      (λ in_order. let l = found-there (λ c. named_method P c n) (search_order P c) k.owner own.0 in_order own.1 in
      let s = first-stands P l.1 in (l.0, s.0, s.1))
      (order-has met.above)

-- ---- methods that meet

-- of two methods of a name in a class and its ancestors none is static
abbrev pub OneMet : Plain → Type 0
OneMet O = (c : ℕ) (n : List ℕ) (l m : ℕ) (h k : PlainMethod) → IsMet O c n l h → IsMet O c n m k → (l ≡ m) ⊎ ((h.is_static ≡ false) × (k.is_static ≡ false))

-- two different methods of one name that meet in a class are instance methods
abbrev pub MeetAsInstances : Plain → Type 0
MeetAsInstances O = (c i j : ℕ) (h k : PlainMethod) → slice_get O.methods i ≡ Some h → slice_get O.methods j ≡ Some k → i < j
    → h.name ≡ k.name → IsSubclass O c h.owner → IsSubclass O c k.owner → (h.is_static ≡ false) × (k.is_static ≡ false)

pub one-met-of : (O : Plain) → MeetAsInstances O → OneMet O
one-met-of O meet c x i j h k a b =
    ⊎_elim (λ lt. inr (two i j h k a b lt)) (λ le. ⊎_elim (λ lt. let e = two j i k h b a lt in inr (e.1, e.0))
    (λ ge. inl (omega (arith, le, ge))) (cases_lt j i)) (cases_lt i j)
  where
    two : (i j : ℕ) (h k : PlainMethod) → IsMet O c x i h → IsMet O c x j k → i < j → (h.is_static ≡ false) × (k.is_static ≡ false)
    two i j h k a b lt = meet c i j h k a.stands b.stands lt (a.name ∙ sym b.name) a.above b.above

pub one-met : (O : Plain) → ((c i j : ℕ) (h k : PlainMethod) → slice_get O.methods i ≡ Some h → slice_get O.methods j ≡ Some k → i < j
    → h.name ≡ k.name → IsSubclass O c h.owner → IsSubclass O c k.owner → (AreOneSlot h k → ⊥) → ⊥) → OneMet O
one-met O none = one-met-of O (λ c i j h k p q lt same u v. go h k (none c i j h k p q lt same u v) h.is_static refl k.is_static refl)
  where
    go : (h k : PlainMethod) → ((AreOneSlot h k → ⊥) → ⊥) → (s : Bool) → h.is_static ≡ s → (t : Bool) → k.is_static ≡ t
        → (h.is_static ≡ false) × (k.is_static ≡ false)
    go h k clash false e false f = (e, f)
    go h k clash true e t f = absurd (clash (λ o. false≢true (sym o.first ∙ e)))
    go h k clash false e true f = absurd (clash (λ o. false≢true (sym o.second ∙ f)))
