-- Moves of two languages that are twins on numbers, truths and strings.
use Rattle.std.proofs.Common.{◌≡◌, ℕ, List, [], ◌∷◌, Option, Some, None, length, refl, ap, subst}
use Rattle.std.specs.Prelude.{ℤ, Bool, true, false, not, slice_get, ◌&&◌, ◌||◌}
use Rattle.std.specs.Option.{option_map, option_and_then}
use Rattle.java_core.specs.declared.UnOp.{UnOp}
use Rattle.java_core.specs.declared.UnOp.TheVariants as un
use Rattle.java_core.specs.declared.BinOp.{BinOp}
use Rattle.java_core.specs.declared.BinOp.TheVariants as bin
use Rattle.java_core.specs.declared.Op.{Op}
use Rattle.java_core.specs.declared.Fault.TheVariants as fault
use Rattle.java_core.specs.Types.{StringMethod, LengthOf, CharAt, Equals, is_plus}
use Rattle.java_meaning.specs.Moment.{Value, Number, Truth, CodeUnit, Text, Kind, State, Wrong, Outcome, stop, Lang, with_some}
use Rattle.java_meaning.specs.Values.{int_of, number_of, truth_of, natural_of, text_of, arith, negated, unary_value, same_value, compared, join, is_text, equals_value}
use Rattle.java_meaning.specs.Meaning.{ToValue, add_string, give_string, string_call, after_left, join_values, compute, operate}
use Rattle.flow_laws.specs.cover.Families.{Set}
use Rattle.flow_laws.proofs.cover.Held.{keeps_same}
use Rattle.rebuild_laws.specs.twins.Twins.{Link}
use Rattle.rebuild_laws.proofs.twins.States.{Alike, wrong_first, equals, bools, tests, SameState, KV, with_string, faults, results}

module _ (L M : Lang) (K : Link) (Made : Option ℕ → Kind → Kind → Type 0) where
  abbrev R : State → State → Type 0
  R s t = SameState L M K Made s t

  abbrev V : State → Set → ToValue → ToValue → Type 0
  V s X k j = KV L M K Made s.cells X k j

  pub string_given : (u : List ℕ) (s t : State) (X : Set) (k j : ToValue) → R s t → V s X k j → Alike (give_string u s k) (give_string u t j)
  string_given u s t X k j r q =
      subst (λ z. Alike (k (Text (length s.strings)) (add_string u s)) (j (Text z) (add_string u t))) (ap length r.strings)
      (q (Text (length s.strings)) _ _ (with_string L M K Made s t u r) (keeps_same s.cells) tt)

  texts : (s t : State) → R s t → (v : Value) → text_of s.strings v ≡ text_of t.strings v
  texts s t r v = ap (λ z. text_of z v) r.strings

  joined : (v w : Value) (s t : State) (X : Set) (k j : ToValue) → R s t → V s X k j → Alike (join_values v w s k) (join_values v w t j)
  joined v w s t X k j r q =
      equals (text_of s.strings v) (text_of t.strings v) s t _ _ (texts s t r v)
      (λ a. equals (text_of s.strings w) (text_of t.strings w) s t _ _ (texts s t r w) (λ b.
      results L M K Made (join a b) s t _ _ r (λ u. string_given u s t X k j r q)))

  computed : (joins : Bool) (a b : Option ℤ) (v w : Value) (o : Op) (s t : State) (X : Set) (k j : ToValue) → R s t → V s X k j
      → Alike (compute joins a b v w o s k) (compute joins a b v w o t j)
  computed joins (Some a) (Some b) v w o s t X k j r q = results L M K Made (arith o a b) s t _ _ r (λ n. q (Number n) s t r (keeps_same s.cells) tt)
  computed joins (Some a) None v w o s t X k j r q =
      bools joins joins s t (λ s1. join_values v w s1 k) (stop Wrong) (λ t1. join_values v w t1 j) (stop Wrong) refl (λ e. joined v w s t X k j r q)
      (λ e. wrong_first s (stop Wrong t))
  computed joins None b v w o s t X k j r q =
      bools joins joins s t (λ s1. join_values v w s1 k) (stop Wrong) (λ t1. join_values v w t1 j) (stop Wrong) refl (λ e. joined v w s t X k j r q)
      (λ e. wrong_first s (stop Wrong t))

  truth_given : (o : Option Bool) (s t : State) (X : Set) (k j : ToValue) → R s t → V s X k j
      → Alike (with_some o s (λ b. k (Truth b) s)) (with_some o t (λ b. j (Truth b) t))
  truth_given o s t X k j r q = equals o o s t _ _ refl (λ b. q (Truth b) s t r (keeps_same s.cells) tt)

  pub operated : (o : BinOp) (v w : Value) (s t : State) (X : Set) (k j : ToValue) → R s t → V s X k j → Alike (operate o v w s k) (operate o v w t j)
  operated (bin.Int o) v w s t X k j r q = computed (is_plus o && (is_text v || is_text w)) (number_of v) (number_of w) v w o s t X k j r q
  operated bin.Same v w s t X k j r q = truth_given (same_value v w) s t X k j r q
  operated bin.Differs v w s t X k j r q = equals (same_value v w) (same_value v w) s t _ _ refl (λ b.
      bools b b s t (λ s1. k (Truth false) s1) (λ s1. k (Truth true) s1) (λ t1. j (Truth false) t1) (λ t1. j (Truth true) t1) refl
      (λ e. q (Truth false) s t r (keeps_same s.cells) tt) (λ e. q (Truth true) s t r (keeps_same s.cells) tt))
  operated bin.Both v w s t X k j r q = truth_given (truth_of w) s t X k j r q
  operated bin.Either v w s t X k j r q = truth_given (truth_of w) s t X k j r q
  operated o v w s t X k j r q =
      equals (number_of v) (number_of v) s t _ _ refl (λ a. equals (number_of w) (number_of w) s t _ _ refl (λ b. truth_given (compared o a b) s t X k j r q))

  pub left_done : (o : BinOp) (v : Value) (s t : State) (x y : State → Outcome) (X : Set) (k j : ToValue) → R s t → Alike (x s) (y t) → V s X k j
      → Alike (after_left o v s x k) (after_left o v t y j)
  left_done bin.Both v s t x y X k j r h q = tests v s t x (λ s1. k (Truth false) s1) y (λ t1. j (Truth false) t1) h
      (q (Truth false) s t r (keeps_same s.cells) tt)
  left_done bin.Either v s t x y X k j r h q = tests v s t (λ s1. k (Truth true) s1) x (λ t1. j (Truth true) t1) y
      (q (Truth true) s t r (keeps_same s.cells) tt) h
  left_done _ v s t x y X k j r h q = h

  number_given : (f : ℤ → ℤ) (o : Option ℤ) (s t : State) (X : Set) (k j : ToValue) → R s t → V s X k j
      → Alike (with_some (option_map (λ a. Number (f a)) o) s (λ u. k u s)) (with_some (option_map (λ a. Number (f a)) o) t (λ u. j u t))
  number_given f None s t X k j r q = wrong_first s (stop Wrong t)
  number_given f (Some a) s t X k j r q = q (Number (f a)) s t r (keeps_same s.cells) tt

  pub unary_done : (o : UnOp) (v : Value) (s t : State) (X : Set) (k j : ToValue) → R s t → V s X k j
      → Alike (with_some (unary_value o v) s (λ u. k u s)) (with_some (unary_value o v) t (λ u. j u t))
  unary_done un.Not v s t X k j r q = go (truth_of v)
    where
      go : (o : Option Bool) → Alike (with_some (option_map (λ b. Truth (not b)) o) s (λ u. k u s))
          (with_some (option_map (λ b. Truth (not b)) o) t (λ u. j u t))
      go None = wrong_first s (stop Wrong t)
      go (Some b) = q (Truth (not b)) s t r (keeps_same s.cells) tt
  unary_done un.Plus v s t X k j r q = number_given (negated un.Plus) (number_of v) s t X k j r q
  unary_done un.Minus v s t X k j r q = number_given (negated un.Minus) (number_of v) s t X k j r q
  unary_done un.Flip v s t X k j r q = number_given (negated un.Flip) (number_of v) s t X k j r q

  -- a method of a string
  pub string_called : (x : StringMethod) (u : List ℕ) (vs : List Value) (s t : State) (X : Set) (k j : ToValue) → R s t → V s X k j
      → Alike (string_call x u vs s k) (string_call x u vs t j)
  string_called LengthOf u [] s t X k j r q = q (Number (int_of (length u))) s t r (keeps_same s.cells) tt
  string_called LengthOf u (v ∷ vs) s t X k j r q = wrong_first s (stop Wrong t)
  string_called CharAt u [] s t X k j r q = wrong_first s (stop Wrong t)
  string_called CharAt u (v ∷ []) s t X k j r q = equals (number_of v) (number_of v) s t _ _ refl (λ i.
      faults L M K Made fault.Bounds (option_and_then (λ n. slice_get u n) (natural_of i)) s t _ _ r (λ c e. q (CodeUnit c) s t r (keeps_same s.cells) tt))
  string_called CharAt u (v ∷ w ∷ vs) s t X k j r q = wrong_first s (stop Wrong t)
  string_called Equals u [] s t X k j r q = wrong_first s (stop Wrong t)
  string_called Equals u (v ∷ []) s t X k j r q =
      equals (equals_value s.strings u v) (equals_value t.strings u v) s t _ _ (ap (λ z. equals_value z u v) r.strings)
      (λ b. q (Truth b) s t r (keeps_same s.cells) tt)
  string_called Equals u (v ∷ w ∷ vs) s t X k j r q = wrong_first s (stop Wrong t)
