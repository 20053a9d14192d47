-- No run of a typed language is Wrong.
use Rattle.std.proofs.Common.{◌≡◌, ℕ, zero, suc, ◌+◌, List, [], ◌∷◌, Some, length, refl, sym, subst, arith}
use Rattle.std.specs.Prelude.{◌≢◌, true, slice_get}
use Rattle.std.proofs.lemmas.Option.{same_Some}
use Rattle.java_core.specs.declared.TyBase.TheVariants.{Str}
use Rattle.java_core.specs.Programs.{Plain}
use Rattle.java_core.specs.Classes.{has_body}
use Rattle.java_core.specs.Types.{a_value, plain_type, Signature, signature_of_method}
use Rattle.java_meaning.specs.Moment.{Value, Object, Nothing, Cell, Ended, Going, Wrong, Lang}
use Rattle.java_meaning.specs.Values.{default_of}
use Rattle.java_meaning.specs.Meaning.{meaning, texts, words_type, words_cell, start, run_in}
use Rattle.java_meaning.specs.TypedLang.{TypedLang}
use Rattle.java_meaning.proofs.Holds.{Heap, heap_of, Holds, holds_null, holds_text, holds_object, default_held}
use Rattle.java_meaning.proofs.Sound.{sound_stop, sound_not_wrong, some_sound, KindOk, Good}
use Rattle.java_meaning.proofs.Calls.{FitAll, fit_none, fit_more, LaterOk, enter_sound}
use Rattle.java_meaning.proofs.Progress.{statements_sound}

module _ (P : Plain) (L : Lang) (tl : TypedLang P L) where
  meaning_sound : (n : ℕ) → LaterOk P L tl (meaning L n)
  meaning_sound zero = record { runs = λ g xs q p f s k ok ef fi h. sound_stop Going s tt }
  meaning_sound (suc n) = record { runs = λ g xs q p f s k ok ef fi h. statements_sound P L tl (meaning L n) (meaning_sound n) q p f s k ok ef fi h }

  -- the words of the start are strings
  words_held : (h : Heap) (first : ℕ) (ws : List (List ℕ)) → ((j : ℕ) (u : List ℕ) → slice_get ws j ≡ Some u → slice_get h.strings (first + j)
      ≡ Some u) → (i : ℕ) (v : Value) → slice_get (texts first (length ws)) i ≡ Some v
      → Holds P h v (a_value (plain_type Str))
  words_held h first [] there i v e = absurd (cc)
  words_held h first (w ∷ ws) there zero v e =
      subst (λ z. Holds P h z (a_value (plain_type Str))) (same_Some _ _ e)
      (holds_text (subst (λ z. slice_get h.strings z ≡ Some w) (let z : first + 0 ≡ first = omega arith in z) (there 0 w refl)))
  words_held h first (w ∷ ws) there (suc i) v e =
      words_held h (suc first) ws (λ j u q. subst (λ z. slice_get h.strings z ≡ Some u) (let z : first + suc j ≡ suc first + j = omega arith in z)
      (there (suc j) u q)) i v e

  start_good : (words : List (List ℕ)) (n : ℕ) → Good P L tl (start L words n)
  start_good words n = record {
    cells = λ a c e. subst (λ z. KindOk P L tl (heap_of (start L words n)) z.kind z.values) (only a c e)
        (record {
          element = plain_type Str;
          of = refl;
          values = λ i v q. words_held (heap_of (start L words n)) 0 words
              (λ j u e. subst (λ z. slice_get words z ≡ Some u) (let z : j ≡ 0 + j = omega arith in z) e) i v q;
        });
    statics = λ f t e. (default_of t, tl.statics f t e, default_held P (heap_of (start L words n)) t);
  }
    where
      only : (a : ℕ) (c : Cell) → slice_get (words_cell words ∷ []) a ≡ Some c → words_cell words ≡ c
      only zero c e = same_Some _ _ e
      only (suc a) c e = absurd (cc)

  -- a method of one parameter for the words
  pub run_sound : (m : ℕ) (sig : Signature) → has_body P m ≡ true → signature_of_method P m ≡ Some sig → sig.params ≡ words_type ∷ []
      → (words : List (List ℕ)) (n : ℕ) → (run_in L m words n).end ≢ Wrong
  unfolding run_in
  run_sound m sig body p q words n =
      let b = tl.static_bodies m sig body p in
      sound_not_wrong (run_in L m words n) (some_sound (L.static_body m) b.body (start L words n) _ b.found_body
      (enter_sound P L tl (meaning L (suc n)) (meaning_sound (suc n)) b.body sig Nothing (Object 0 ∷ []) (start L words n) _ (start_good words n)
      b.typed (holds_null refl)
      (subst (λ z. FitAll P (heap_of (start L words n)) (Object 0 ∷ []) z) (sym q)
      (fit_more (holds_object {t = words_type} {c = words_cell words} refl refl refl) refl fit_none)) (λ v s r hv. sound_stop Ended s tt)))
