-- Turns over reads, writes and runs: one element on, and at their end.
use Rattle.std.proofs.Common.{◌≡◌, ℕ, ◌+◌, ◌<◌, ◌≤◌, ◌⊎◌, inl, inr, ⊎_elim, Bool, true, false, ◌||◌, List, length, get_or, set, Some, None, refl, sym, ap, ◌∙◌, subst, arith}
use Rattle.std.specs.Bool.{OnTrue, OnFalse}
use Rattle.std.specs.List.{All, AllWithin}
use Rattle.std.proofs.lemmas.Bool.{cases_eq, cases_lt}
use Rattle.std.proofs.lemmas.List.{get_or-set_same, get_or-set_other}
use Rattle.std.proofs.lemmas.List.Elements.{All-contains}
use Rattle.kaba_base.specs.declared.ClassId.{ClassId}
use Rattle.kaba_bits.specs.Sets.{bit, row, IsSubset, IsStep}
use Rattle.kaba_bits.proofs.SetLemmas.{bit-below}
use Rattle.kaba_bits.proofs.RowLemmas.{bit-row-below, set-kept}
use Rattle.kaba_bits.proofs.StepLemmas.{IsStep-then, closed_more, closed-both}
use Rattle.fact_model.specs.InRange.{InRange, IsClass}
use Rattle.fact_model.specs.declared.facts.Facts.{Facts}
use Rattle.points_to.specs.Sound.{node_count, InNode, AreSound}
use Rattle.points_to.specs.Work.{PassesClass, IsMemberSet, AreTargets, wanted, IsReadIn, IsWrite, IsReadClosed, IsWriteClosed, IsRunClosed}
use Rattle.points_to.specs.Rounds.{IsInSome, IsGathered, IsWhole, IsPending, IsFlushedAt, IsFlushed, IsDone, HasRow, HasSite, IsRunAt, AreBegun}
use Rattle.points_to.specs.declared.work.Member.{Member}
use Rattle.points_to.specs.declared.work.Member.TheVariants.{Field, This, Parameter, Returned}
use Rattle.points_to.specs.declared.work.Edge.{Edge}
use Rattle.points_to.specs.declared.work.Read.{Read}
use Rattle.points_to.specs.declared.work.Write.{Write}
use Rattle.points_to.specs.declared.work.Run.{Run}
use Rattle.points_to.specs.declared.reads.Union.{Union}
use Rattle.points_to.specs.declared.writes.Pending.{Pending}
use Rattle.points_to.specs.declared.runs.Begun.{Begun}
use Rattle.points_to.proofs.AboveLemmas.{set-bits}
use Rattle.points_to.proofs.EdgeLemmas.{target_below}
use Rattle.points_to.proofs.LoopLemmas.{within_more, all_end}

abbrev pub no_edge : Edge
no_edge = record { from = 0; to = 0; class = None }

abbrev pub no_read : Read
no_read = record { base = 0; member = Field None; into = 0 }

abbrev pub no_write : Write
no_write = record { base = 0; member = Field None; value = 0 }

abbrev pub no_run : Run
no_run = record { base = 0; slot = 0 }

pub on_false_of : {P : Type 0} (g : Bool) → P → OnFalse g P
on_false_of true p = tt
on_false_of false p = p

pub on_true_of : {P : Type 0} (g : Bool) → (g ≡ true → P) → OnTrue g P
on_true_of true p = p refl
on_true_of false p = tt

-- a turn over a list at one of its elements: what the sets are, whether they grew, and what holds of each element before while they did not
pub record IsTurn {X : Type 0} (F : Facts) (P : List (List Bool) → X → Type 0) (xs : List X) (first now : List (List Bool)) (grew : Bool) (k : ℕ) : Type 0 where
  pub sets : AreSound F now
  pub step : IsStep first now grew
  pub closed : OnFalse grew (AllWithin (P now) xs 0 k)

-- and something that is kept beside them
pub record IsKeeping {X : Type 0} (F : Facts) (P : List (List Bool) → X → Type 0) (xs : List X) (first now : List (List Bool)) (grew : Bool) (k : ℕ)
    (W : Type 0) : Type 0 where
  pub kept : OnFalse grew W
  pub turn : IsTurn F P xs first now grew k

-- one element on
pub turn_more : {X : Type 0} {F : Facts} {P : List (List Bool) → X → Type 0} {xs : List X} {k : ℕ} {first old new : List (List Bool)} {g : Bool}
    (h : Bool) (d : X)
    → IsTurn F P xs first old g k → k < length xs → AreSound F new → IsStep old new h → OnFalse h (P new (get_or xs k d))
    → IsTurn F P xs first new (g || h) (k + 1)
turn_more {X} {F} {P} {xs} {k} {first} {old} {new} {g} h d before lt sets step here = record {
  sets = sets;
  step = IsStep-then first old new g h before.step step;
  closed = closed_more P old new xs k d g h lt (closed-both (P new (get_or xs k d)) old new h step here) before.closed;
}

-- at its end
pub turn_all : {X : Type 0} {F : Facts} {P : List (List Bool) → X → Type 0} {xs : List X} {k : ℕ} {first now : List (List Bool)} {g : Bool}
    → IsTurn F P xs first now g k → length xs ≤ k → OnFalse g (All (P now) xs)
turn_all {X} {F} {P} {xs} {k} {first} {now} {g} t le = all_end (P now) xs k g le t.closed

-- what a turn keeps from one element to the next, and what it gives for each
round_first : (W V Q : Type 0) (g h : Bool) → OnFalse g W → OnFalse h (W → V × Q) → OnFalse (g || h) V
round_first W V Q true h w f = tt
round_first W V Q false true w f = tt
round_first W V Q false false w f = (f w).0

round_more : {X : Type 0} (P : List (List Bool) → X → Type 0) (W V : Type 0) (old new : List (List Bool)) (xs : List X) (k : ℕ) (d : X) (g h : Bool)
    → k < length xs → IsStep old new h → OnFalse g W → OnFalse h (W → V × P new (get_or xs k d)) → OnFalse g (AllWithin (P old) xs 0 k)
    → OnFalse (g || h) (AllWithin (P new) xs 0 (k + 1))
round_more P W V old new xs k d true h lt step w f before = tt
round_more P W V old new xs k d false true lt step w f before = tt
round_more P W V old new xs k d false false lt step w f before = closed_more P old new xs k d false false lt (step, (f w).1) before

-- so for a turn that keeps something beside the sets
pub kept_more : {X : Type 0} {F : Facts} {P : List (List Bool) → X → Type 0} {xs : List X} {k : ℕ} {first old new : List (List Bool)} {g : Bool}
    {W V : Type 0} (h : Bool) (d : X) → IsKeeping F P xs first old g k W → k < length xs → AreSound F new → IsStep old new h
    → OnFalse h (W → V × P new (get_or xs k d)) → IsKeeping F P xs first new (g || h) (k + 1) V
kept_more {X} {F} {P} {xs} {k} {first} {old} {new} {g} {W} {V} h d before lt sets step here = record {
  kept = round_first W V (P new (get_or xs k d)) g h before.kept here;
  turn = record {
    sets = sets;
    step = IsStep-then first old new g h before.turn.step step;
    closed = round_more P W V old new xs k d g h lt step before.kept here before.turn.closed;
  };
}

-- the sites of a set below a number, one on
module _ (from old new : List Bool) (o at : ℕ) (is : new ≡ set old o true) (lt : o < length old) where
  set_keeps : (k : ℕ) → bit old k ≡ true → bit new k ≡ true
  set_keeps k h = subst (λ r. bit r k ≡ true) (sym is) (set-kept old o k lt h)

  pub set_has : bit new o ≡ true
  set_has = subst (λ r. bit r o ≡ true) (sym is) (get_or-set_same old o true false lt)

  pub covered_more : ((k : ℕ) → at ≤ k → k < o → bit from k ≡ true → bit old k ≡ true) → ((k : ℕ) → k < at → bit from k ≡ true → bit old k ≡ true)
      → (k : ℕ) → k < o + 1 → bit from k ≡ true → bit new k ≡ true
  covered_more least before k l b =
      ⊎_elim (λ e. subst (λ j. bit new j ≡ true) (sym e) set_has)
      (λ ne. set_keeps k (⊎_elim (λ low. before k low b) (λ high. least k high (omega (arith, l, ne)) b) (cases_lt k at)))
      (cases_eq k o)

  pub within_set : IsSubset old from → bit from o ≡ true → IsSubset new from
  within_set sub here k h = ⊎_elim (λ b. sub k b) (λ e. subst (λ j. bit from j ≡ true) (sym e) here) (set-bits old o k (subst (λ r. bit r k ≡ true) is h))

module _ (F : Facts) where
  -- a site of a set is one
  pub site_below : (sets : List (List Bool)) (n s : ℕ) → AreSound F sets → bit (row sets n) s ≡ true → s < length F.sites.items
  site_below sets n s sound h =
      let w = sound.widths n (bit-row-below sets n s h) in let l = bit-below (row sets n) s h in omega (arith, w, l)

  pub targets_below : InRange F → (m : Member) (o : ℕ) (list : List ℕ) → AreTargets F m o list → All (λ n. n < node_count F) list
  targets_below R m o list t = λ k d lt. target_below F R m o (get_or list k d) (t.sound k d lt)

  -- one site more in a union
  module _ (u v : Union) (o : ℕ) (sets : List (List Bool)) (list : List ℕ) (same : v.member ≡ u.member) (is : v.sites ≡ set u.sites o true)
      (t : AreTargets F u.member o list) (site : o < length u.sites) where
    pub gathered_more : AreSound F sets → IsGathered F u → length v.sites ≡ length F.sites.items → length v.held ≡ length F.sites.items
        → ((s : ℕ) → bit v.held s ≡ true → (bit u.held s ≡ true) ⊎ IsInSome sets list s) → IsGathered F v
    gathered_more sound g width len gained = record {
      sites = width;
      held = len;
      sound = λ s h. ⊎_elim
          (λ a.
          let x = g.sound s a in
          record {
            site = x.site;
            node = x.node;
            has = set_keeps u.sites u.sites v.sites o 0 is site x.site x.has;
            target = subst (λ m. IsMemberSet F m x.site x.node) (sym same) x.target;
            holds = x.holds;
          })
          (λ i. record {
            site = o;
            node = i.node;
            has = set_has u.sites u.sites v.sites o 0 is site;
            target = subst (λ m. IsMemberSet F m o i.node) (sym same) (All-contains (IsMemberSet F u.member o) list i.node t.sound i.listed);
            holds = sound.sound i.node s i.has;
          })
          (gained s h);
    }

    pub whole_more : IsSubset u.held v.held → All (λ n. IsSubset (row sets n) v.held) list → IsWhole F sets u → IsWhole F sets v
    whole_more kept all w p n b target s h =
        let b' = subst (λ r. bit r p ≡ true) is b in
        let t' = subst (λ m. IsMemberSet F m p n) same target in
        ⊎_elim
        (λ e. All-contains (λ n. IsSubset (row sets n) v.held) list n all (t.whole n (subst (λ k. IsMemberSet F u.member k n) e t')) s h)
        (λ ne. kept s (w p n (sym (get_or-set_other u.sites o p true false ne) ∙ b') t' s h))
        (cases_eq p o)

  -- a read
  pub read_holds : (bases : List (List Bool)) (u : Union) (x : Read) → AreSound F bases → IsGathered F u → IsReadIn F x → u.member ≡ x.member
      → IsSubset u.sites (row bases x.base) → (s : ℕ) → bit u.held s ≡ true → InNode F x.into s
  read_holds bases u x sound g r same within s h =
      let a = g.sound s h in
      r.flows a.site a.node s (sound.sound x.base a.site (within a.site a.has)) (subst (λ m. IsMemberSet F m a.site a.node) same a.target) a.holds

  pub read_closed : (bases old new : List (List Bool)) (u : Union) (x : Read) (W : Type 0) (g : Bool) → IsStep old new g → (W → IsWhole F old u)
      → u.member ≡ x.member → IsSubset (row bases x.base) u.sites → OnFalse g (IsSubset u.held (row new x.into))
      → OnFalse g (W → IsWhole F new u × IsReadClosed F bases new x)
  read_closed bases old new u x W true step f same all sub = tt
  read_closed bases old new u x W false step f same all sub = λ w.
      let whole : IsWhole F new u = subst (λ s. IsWhole F s u) (sym step) (f w) in
      (whole, λ o n b t s h. sub s (whole o n (all o b) (subst (λ m. IsMemberSet F m o n) (sym same) t) s h))

  -- a write
  pub wanted_class : InRange F → (m : Member) (o : ℕ) (k : ClassId) → o < length F.sites.items → wanted F m o ≡ Some k → IsClass F k
  wanted_class R (Field None) o k lt e =
      subst (IsClass F) (cc e) (R.sites o (record { row = record { 0 = 0 }; class = record { 0 = 0 }; dim = 0 }) lt).1
  wanted_class R (Field (Some c)) o k lt e = absurd (cc e)
  wanted_class R (This c) o k lt e = absurd (cc e)
  wanted_class R (Parameter c j) o k lt e = absurd (cc e)
  wanted_class R (Returned c) o k lt e = absurd (cc e)

  module _ (p : Pending) (o : ℕ) (list : List ℕ) (extra : List Bool) (t : AreTargets F p.member o list) where
    pub into_holds : IsPending F p → bit p.sites o ≡ true
        → ((s : ℕ) → bit extra s ≡ true → (bit p.values s ≡ true) × PassesClass F (wanted F p.member o) s) → All (λ n. (s : ℕ) → bit extra s ≡ true
        → InNode F n s) list
    into_holds is site f = λ k d lt s h. let x = f s h in is.sound o s (get_or list k d) site x.0 (t.sound k d lt) x.1

    pub into_flushed : (new : List (List Bool)) (g : Bool) → ((s : ℕ) → bit p.values s ≡ true → PassesClass F (wanted F p.member o) s → bit extra s ≡ true)
        → OnFalse g (All (HasRow extra new) list) → OnFalse g (IsFlushedAt F new p o)
    into_flushed new true f all = tt
    into_flushed new false f all = λ n s target b h. All-contains (HasRow extra new) list n all (t.whole n target) s (f s h b)

  module _ (bases : List (List Bool)) where
    pub pending_more : (sets : List (List Bool)) (p q : Pending) (x : Write) → AreSound F bases → AreSound F sets → IsPending F p → IsWrite F x
        → p.member ≡ x.member → p.sites ≡ row bases x.base → q.member ≡ p.member → q.sites ≡ p.sites → length q.values ≡ length F.sites.items
        → ((s : ℕ) → bit q.values s ≡ true → (bit p.values s ≡ true) ⊎ (bit (row sets x.value) s ≡ true)) → IsPending F q
    pending_more sets p q x holds sound is w member base same_member same_sites len gained = record {
      sites = ap length same_sites ∙ is.sites;
      values = len;
      sound = λ o s n site h target pass.
          let here = subst (λ r. bit r o ≡ true) same_sites site in
          let t = subst (λ m. IsMemberSet F m o n) same_member target in
          let b = subst (λ m. PassesClass F (wanted F m o) s) same_member pass in
          ⊎_elim (λ a. is.sound o s n here a t b)
          (λ v. w.flows o n s (holds.sound x.base o (subst (λ r. bit r o ≡ true) base here)) (subst (λ m. IsMemberSet F m o n) member t)
          (subst (λ m. PassesClass F (wanted F m o) s) member b) (sound.sound x.value s v))
          (gained s h);
    }

    pub done_more : (sets : List (List Bool)) (p q : Pending) (y : Write) → q.member ≡ p.member → q.sites ≡ p.sites → IsSubset p.values q.values
        → IsDone F bases sets p y → IsDone F bases sets q y
    done_more sets p q y member sites values (inl a) = inl a
    done_more sets p q y member sites values (inr a) = inr (record {
      member = member ∙ a.member;
      sites = λ k h. subst (λ r. bit r k ≡ true) (sym sites) (a.sites k h);
      values = λ k h. values k (a.values k h);
    })

    flushed_write : (sets : List (List Bool)) (p : Pending) (y : Write) → IsFlushed F sets p → IsDone F bases sets p y → IsWriteClosed F bases sets y
    flushed_write sets p y all (inl a) = a
    flushed_write sets p y all (inr a) = λ o n s b t pass h.
        all o (a.sites o b) n s (subst (λ m. IsMemberSet F m o n) (sym a.member) t) (subst (λ m. PassesClass F (wanted F m o) s) (sym a.member) pass) (a.values s h)

    pub flush_closes : (old new : List (List Bool)) (p : Pending) (g : Bool) → IsStep old new g → OnFalse g (IsFlushed F new p)
        → OnFalse g ((y : Write) → IsDone F bases old p y → IsWriteClosed F bases new y)
    flush_closes old new p true step all = tt
    flush_closes old new p false step all = λ y d. flushed_write new p y all (subst (λ s. IsDone F bases s p y) (sym step) d)

    pub done_flushed : (old new : List (List Bool)) (p q : Pending) (g : Bool) → IsStep old new g → OnFalse g (IsFlushed F new p)
        → OnFalse g ((y : Write) → IsDone F bases old p y → IsDone F bases new q y)
    done_flushed old new p q true step all = tt
    done_flushed old new p q false step all = λ y d. inl (flush_closes old new p false step all y d)

  -- a run
  pub run_at : (new : List (List Bool)) (slot o : ℕ) (list : List ℕ) (g : Bool) → AreTargets F (This slot) o list → OnFalse g (All (HasSite o new) list)
      → OnFalse g (IsRunAt F new slot o)
  run_at new slot o list true t all = tt
  run_at new slot o list false t all = λ n target. All-contains (HasSite o new) list n all (t.whole n target)

  pub begun_more : (first old new : List (List Bool)) (b0 b c : Begun) (o : ℕ) (g h : Bool) → IsStep old new h → o < length b.sites
      → c.slot ≡ b.slot → c.sites ≡ set b.sites o true → OnFalse h (IsRunAt F new b.slot o) → OnFalse g (AreBegun F first b0 → AreBegun F old b)
      → OnFalse (g || h) (AreBegun F first b0 → AreBegun F new c)
  begun_more first old new b0 b c o true h step lt slot is here before = tt
  begun_more first old new b0 b c o false true step lt slot is here before = tt
  begun_more first old new b0 b c o false false step lt slot is here before = λ w k h n target.
      let t = subst (λ s. IsMemberSet F (This s) k n) slot target in
      ⊎_elim (λ a. subst (λ s. bit (row s n) k ≡ true) (sym step) (before w k a n t))
      (λ e. subst (λ j. IsMemberSet F (This b.slot) j n → bit (row new n) j ≡ true) (sym e) (here n) t)
      (set-bits b.sites o k (subst (λ r. bit r k ≡ true) is h))

  pub run_closed : (bases first sets : List (List Bool)) (b0 b : Begun) (x : Run) (g : Bool) → b.slot ≡ x.slot
      → OnFalse g (AreBegun F first b0 → AreBegun F sets b) → IsSubset (row bases x.base) b.sites
      → OnFalse g (AreBegun F first b0 → AreBegun F sets b × IsRunClosed F bases sets x)
  run_closed bases first sets b0 b x true slot begun all = tt
  run_closed bases first sets b0 b x false slot begun all = λ w.
      (begun w, λ o n h t. begun w o (all o h) n (subst (λ s. IsMemberSet F (This s) o n) (sym slot) t))

-- what was done, one element on
pub done_step : {X : Type 0} (D E : X → Type 0) (xs : List X) (k : ℕ) (d : X) (g h : Bool) → k < length xs → OnFalse h ((x : X) → D x → E x)
    → OnFalse h (E (get_or xs k d)) → OnFalse g (AllWithin D xs 0 k) → OnFalse (g || h) (AllWithin E xs 0 (k + 1))
done_step D E xs k d true h lt f here before = tt
done_step D E xs k d false true lt f here before = tt
done_step D E xs k d false false lt f here before = within_more D E xs k d lt f before here

-- what was done, at the end
pub done_all : {X : Type 0} (D E : X → Type 0) (xs : List X) (k : ℕ) (g h : Bool) → length xs ≤ k → OnFalse h ((x : X) → D x → E x)
    → OnFalse g (AllWithin D xs 0 k) → OnFalse (g || h) (All E xs)
done_all D E xs k true h le f before = tt
done_all D E xs k false true le f before = tt
done_all D E xs k false false le f before = λ i d lt. f (get_or xs i d) (before i d (omega arith) (omega (arith, lt, le)))
