-- Pairs of columns that were noted, and what rows have met: one step on.
use Rattle.std.proofs.Common.{◌≡◌, ℕ, ◌<◌, ◌≤◌, Bool, true, false, not, List, length, ◌||◌, ◌&&◌, Contains, refl, sym, subst, ◌∙◌, ⊎_elim, inl, inr, arith}
use Rattle.std.specs.List.{All}
use Rattle.std.specs.declared.vec.Vec.{Vec}
use Rattle.std.specs.declared.alloc.Global.{Global}
use Rattle.std.proofs.lemmas.List.Elements.{All-contains}
use Rattle.std.proofs.lemmas.Bool.{cases_eq, or_cases, false≢true}
use Rattle.kaba_bits.specs.Sets.{bit, row, GainsBit, GainsRow, HasWidth, IsEmpty, IsNoneFrom}
use Rattle.kaba_bits.proofs.RowLemmas.{HasWidth-kept, GainsRow-keeps}
use Rattle.fact_model.specs.declared.facts.Facts.{Facts}
use Rattle.fact_model.specs.Items.{column_slot}
use Rattle.points_to.specs.Listed.{numbers_at}
use Rattle.table_rules.specs.Marks.{RowMarked, Grow, AreEntries}
use Rattle.table_rules.specs.Closed.{ColumnFlows}
use Rattle.table_rules.specs.Asked.{AreColumnPairs, IsNoting, AreAsked, IsMethodColumn, HaveMethods, place_of, IsNoted, IsMetAt, IsRowAsked, IsPlain, is_beyond}
use Rattle.points_to.proofs.LoopLemmas.{pass_all}
use Rattle.table_rules.proofs.CloseLemmas.{marked-column}

module _ (F : Facts) (a b : List (List Bool)) (grows : Grow a b) where
  pub noted_more : (h k : List (List Bool)) (d c : ℕ) → Grow h k → IsNoted F a h d c → IsNoted F b k d c
  noted_more h k d c more is = record { by_body = λ by. grows d c (is.by_body by); by_hiding = λ by. more d c (is.by_hiding by) }

  pub met_more : (rows : List (List Bool)) (q d : ℕ) → IsMetAt F rows a q d → IsMetAt F rows b q d
  met_more rows q d met m c by h = grows d c (met m c by h)

  pub row_asked_more : (rows : List (List Bool)) (q : ℕ) → IsRowAsked F rows a q → IsRowAsked F rows b q
  row_asked_more rows q is = record { met = λ d. met_more rows q d (is.met d); this = λ d t c m. grows d.0 c (is.this d t c m) }

pub grow_then : (a b c : List (List Bool)) → Grow a b → Grow b c → Grow a c
grow_then a b c p q r i h = q r i (p r i h)

-- what holds of the entries of a family, and of what one of its rows gained, holds of the entries after it
pub gained : (P : ℕ → ℕ → Type 0) (old new : List (List Bool)) (into : ℕ) (extra : List Bool) → GainsRow old new into extra
    → ((r c : ℕ) → RowMarked old r c → P r c) → ((c : ℕ) → bit extra c ≡ true → P into c) → (r c : ℕ) → RowMarked new r c → P r c
gained P old new into extra g have more r c h =
    ⊎_elim
    (λ e.
    let both : (bit (row old into) c || bit extra c) ≡ true = sym (g.joined c) ∙ subst (λ k. bit (row new k) c ≡ true) e h in
    subst (λ k. P k c) (sym e) (⊎_elim (λ o. have into c o) (λ x. more c x) (or_cases (bit (row old into) c) (bit extra c) both)))
    (λ ne. have r c (subst (λ s. bit s c ≡ true) (g.others r ne) h))
    (cases_eq r into)

-- one pair more
pub pair_more : (F : Facts) (P : ℕ → ℕ → Type 0) (old new : List (List Bool)) (d c : ℕ) → length new ≡ length old → ((k : ℕ)
    → length (row new k) ≡ length (row old k)) → GainsBit old new d c → AreColumnPairs F P old → P d c → IsNoting F P old new
pair_more F P old new d c len widths g are has = record {
  pairs = record {
    len = len ∙ are.len;
    widths = HasWidth-kept (length F.columns.items) old new len widths are.widths;
    sound = λ r k h.
        ⊎_elim
        (λ e.
        subst (λ x. P x k) (sym e) (⊎_elim
        (λ same. subst (λ y. P d y) (sym same) has)
        (λ ne. are.sound d k (sym (g.rest k ne) ∙ subst (λ x. bit (row new x) k ≡ true) e h))
        (cases_eq k c)))
        (λ ne. are.sound r k (subst (λ s. bit s k ≡ true) (g.others r ne) h))
        (cases_eq r d);
  };
  grows = λ r k h.
      ⊎_elim
      (λ e.
      subst (λ x. bit (row new x) k ≡ true) (sym e) (⊎_elim
      (λ same. subst (λ y. bit (row new d) y ≡ true) (sym same) g.added)
      (λ ne. g.rest k ne ∙ subst (λ x. bit (row old x) k ≡ true) e h)
      (cases_eq k c)))
      (λ ne. subst (λ s. bit s k ≡ true) (sym (g.others r ne)) h)
      (cases_eq r d);
}

-- the columns asked for, after one has gained columns that flow from it
module _ (F : Facts) (old new : List (List Bool)) (d : ℕ) (extra : List Bool) (len : length new ≡ length old) (widths : (k : ℕ)
    → length (row new k) ≡ length (row old k)) (gains : GainsRow old new d extra) where
  pub asked_more : AreAsked F old → ((c : ℕ) → bit extra c ≡ true → ColumnFlows F d c) → AreAsked F new
  asked_more are flows = record {
    pairs = record {
      len = len ∙ are.pairs.len;
      widths = HasWidth-kept (length F.columns.items) old new len widths are.pairs.widths;
      sound = gained (ColumnFlows F) old new d extra gains are.pairs.sound flows;
    };
    declared = λ b c lb lc by. GainsRow-keeps old new d extra gains b c (are.declared b c lb lc by);
  }

-- empty sets
pub no_pairs : (F : Facts) (P : ℕ → ℕ → Type 0) (sets : List (List Bool)) (n : ℕ) → n ≡ length F.columns.items → length sets ≡ n → HasWidth n sets
    → ((k : ℕ) → IsEmpty (row sets k)) → AreColumnPairs F P sets
no_pairs F P sets n is len widths empty = record {
  len = len ∙ is;
  widths = subst (λ w. HasWidth w sets) is widths;
  sound = λ d c m. absurd (false≢true (sym (empty d c) ∙ m));
}

-- a column with all of its slot
module _ (F : Facts) (asked hidden : List (List Bool)) (d : ℕ) where
  pub none_noted : (IsMethodColumn F d → ⊥) → (c : ℕ) → IsNoted F asked hidden d c
  none_noted lacks c = record { by_body = λ by. absurd (lacks (inl by.body)); by_hiding = λ by. absurd (lacks by.method) }

  pub all_noted : (methods : List (Vec ℕ Global)) → HaveMethods F methods (length F.columns.items)
      → All (λ c. c < length F.columns.items → IsNoted F asked hidden d c) (numbers_at methods (place_of (length methods) (column_slot F d)))
      → (c : ℕ) → c < length F.columns.items → IsNoted F asked hidden d c
  all_noted methods have all c lt = record {
    by_body = λ by. (each (inr by.declaration) by.slot).by_body by;
    by_hiding = λ by. (each (⊎_elim (λ e. inl (sym by.kind ∙ e)) (λ e. inr (sym by.kind ∙ e)) by.method) by.slot).by_hiding by;
  }
    where
      each : IsMethodColumn F c → column_slot F d ≡ column_slot F c → IsNoted F asked hidden d c
      each m same =
          All-contains (λ k. k < length F.columns.items → IsNoted F asked hidden d k) (numbers_at methods (place_of (length methods) (column_slot F d))) c all
          (subst (λ s. Contains (numbers_at methods (place_of (length methods) s)) c) (sym same) (have c lt m)) lt

-- what a row has is met for a column that hides nothing, and for one past the last
module _ (F : Facts) (rows asked : List (List Bool)) (q : ℕ) where
  pub met-plain : (plain : List Bool) → AreEntries F rows → IsPlain F plain → (d : ℕ) → is_beyond plain rows q d ≡ false
      → IsMetAt F rows asked q d
  met-plain plain are is d out has c by h =
      let hides = cleared (bit plain d) (subst (λ x. (x && not (bit plain d)) ≡ false) has out) in
      absurd (is.none d c hides (marked-column (length F.columns.items) rows q c are.widths h) by)
    where
      cleared : (b : Bool) → (true && not b) ≡ false → b ≡ true
      cleared true e = refl
      cleared false e = sym e

  pub met-past : AreEntries F rows → (d : ℕ) → length F.columns.items ≤ d → IsMetAt F rows asked q d
  met-past are d past has c by h = absurd (omega (arith, past, marked-column (length F.columns.items) rows q d are.widths has))

  -- where from one column on each is plain, and those before it met, all have
  pub all-met : (plain : List Bool) (at : ℕ) → AreEntries F rows → IsPlain F plain → IsNoneFrom (is_beyond plain rows q) at (length F.columns.items)
      → ((d : ℕ) → d < at → IsMetAt F rows asked q d) → (d : ℕ) → IsMetAt F rows asked q d
  all-met plain at are is none before = pass_all (IsMetAt F rows asked q) (is_beyond plain rows q) at (met-plain plain are is) (length F.columns.items) false
      (met-past are) none before
