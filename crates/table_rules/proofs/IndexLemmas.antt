-- Lists by slot and by body, one number on.
use Rattle.std.proofs.Common.{ℕ, ◌+◌, ◌<◌, Bool, true, false, List, length, Option, Some, None, Contains, refl, sym, subst, ◌∙◌, ⊎_elim, set}
use Rattle.std.specs.declared.vec.Vec.{Vec}
use Rattle.std.specs.declared.alloc.Global.{Global}
use Rattle.std.proofs.lemmas.Nat.{mod_below}
use Rattle.std.proofs.lemmas.Bool.{cases_eq, false≢true}
use Rattle.std.proofs.lemmas.List.{get_or-set_other, length-set}
use Rattle.kaba_bits.specs.Sets.{row, IsEmpty}
use borrow.Author.Count.{below_more}
use Rattle.fact_model.specs.Items.{column_slot}
use Rattle.fact_model.specs.Entries.{Hides}
use Rattle.fact_model.specs.declared.facts.Facts.{Facts}
use Rattle.points_to.specs.Listed.{numbers_at, KeepNumbers}
use Rattle.table_rules.specs.Asked.{place_of, IsMethodColumn, HaveMethods, AreHidden, IsPlain}

pub place-below : (n : ℕ) (slot : Option ℕ) → 0 < n → place_of n slot < n
place-below n None lt = lt
place-below n (Some x) lt = mod_below x n lt

pub keep_same : (lists : List (Vec ℕ Global)) → KeepNumbers lists lists
keep_same lists = record { len = refl; each = λ k x h. h }

module _ (F : Facts) (old new : List (Vec ℕ Global)) (kept : KeepNumbers old new) (i : ℕ) where
  pub methods_more : HaveMethods F old i → (IsMethodColumn F i → Contains (numbers_at new (place_of (length old) (column_slot F i))) i) → HaveMethods F new (i + 1)
  methods_more before here =
      below_more (λ k. IsMethodColumn F k → Contains (numbers_at new (place_of (length new) (column_slot F k))) k) i
      (λ k lt m. same k (kept.each (place_of (length old) (column_slot F k)) k (before k lt m)))
      (λ m. same i (here m))
    where
      same : (k : ℕ) → Contains (numbers_at new (place_of (length old) (column_slot F k))) k
          → Contains (numbers_at new (place_of (length new) (column_slot F k))) k
      same k h = subst (λ n. Contains (numbers_at new (place_of n (column_slot F k))) k) (sym kept.len) h

-- a set of columns that hide none, and one more
module _ (F : Facts) (hidden : List (List Bool)) (are : AreHidden F hidden) (plain : List Bool) (is : IsPlain F plain) where
  pub plain-more : (d : ℕ) → d < length F.columns.items → IsEmpty (row hidden d) → IsPlain F (set plain d true)
  plain-more d lt empty = record {
    width = length-set plain d true ∙ is.width;
    none = λ e c h below hides. ⊎_elim
        (λ same. false≢true (sym (empty c) ∙ are.all d c lt below (subst (λ k. Hides F k c) same hides)))
        (λ ne. is.none e c (sym (get_or-set_other plain d e true false ne) ∙ h) below hides)
        (cases_eq e d);
  }
