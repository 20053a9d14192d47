-- The parts of a form, from the parts of what stands in it.
use Rattle.std.proofs.Common.{◌≡◌, ℕ, ◌+◌, Bool, true, false, List, [], ◌∷◌, ◌++◌, sym, ap, ◌∙◌, add-zero, arith}
use Rattle.std.proofs.lemmas.List.{append_assoc, append-nil}
use Rattle.std.specs.Prelude.{Option, Some}
use Rattle.std.specs.declared.vec.Vec.{Vec}
use Rattle.std.specs.declared.alloc.Global.{Global}
use Rattle.kaba_base.specs.declared.Place.{Place}
use Rattle.java_core.specs.declared.RStmt.{RStmt}
use Rattle.java_core.specs.Trees.{Tag, Ex, Sts, no_st, loop, to_own, to_element, else_seen}
use Rattle.java_core.specs.Programs.{Plain, PlainMethod}
use Rattle.flow_rules.specs.declared.items.Operand.{Operand}
use Rattle.flow_rules.specs.Labels.{size, size_if, size_sts, size_arms, label, label_if, label_sts, label_st, label_arms}
use Rattle.flow_rules.specs.Operands.{operand_of, this_operand}
use Rattle.flow_rules.specs.Parts.{Part, a_store, an_element_store, parts, parts_if, parts_sts, parts_st, parts_arms, parts_assign}
use Rattle.flow_rules.specs.Types.{object_type}

-- two steps are one
pub then : {A : Type 0} (old mid new X Y : List A) → mid ≡ old ++ X → new ≡ mid ++ Y → new ≡ old ++ (X ++ Y)
then old mid new X Y e h = h ∙ ap (λ l. l ++ Y) e ∙ append_assoc old X Y

-- the same where the second depends on a label
pub then_at : {A : Type 0} (old mid new X : List A) (Y : ℕ → List A) (l n : ℕ) → mid ≡ old ++ X → l ≡ n → new ≡ mid ++ Y l → new ≡ old ++ (X ++ Y n)
then_at old mid new X Y l n e h k = then old mid new X (Y n) e (k ∙ ap (λ m. mid ++ Y m) h)

module _ (P : Plain) (m : ℕ) (k : PlainMethod) where
  -- what the arms of an `if` leave, where it is known whether an `else` follows
  pub with_other : {o z : Option (Vec RStmt Global)} (new : List Part) (n : ℕ) {all : List Part} {last : ℕ} → o ≡ z
      → n + size_arms (else_seen o) ≡ last
      → new ++ parts_arms P (object_type P k) m k (label_arms n (else_seen o)) ≡ all
      → (n + size_arms (else_seen z) ≡ last) × (new ++ parts_arms P (object_type P k) m k (label_arms n (else_seen z)) ≡ all)
  with_other new n e g p = (
    sym (ap (λ y. n + size_arms (else_seen y)) e) ∙ g,
    sym (ap (λ y. new ++ parts_arms P (object_type P k) m k (label_arms n (else_seen y))) e) ∙ p,
  )

  pub loop_parts : (t : Tag) (is_while : Bool) (first : Sts) (test : Option Ex) (step body : Sts) (old a b c new : List Part) (n la lb lc : ℕ)
      → a ≡ old ++ parts_sts P (object_type P k) m k (label_sts n first) → la ≡ n + size_sts first
      → b ≡ a ++ parts_if P (object_type P k) m k (label_if la test) → lb ≡ la + size_if test
      → c ≡ b ++ parts_sts P (object_type P k) m k (label_sts lb step) → lc ≡ lb + size_sts step
      → new ≡ c ++ parts_sts P (object_type P k) m k (label_sts lc body)
      → new ≡ old ++ parts_st P (object_type P k) m k (label_st n (loop t is_while first test step body))
  loop_parts t is_while first test step body old a b c new n la lb lc ea ha eb hb ec hc en =
      let kb = hb ∙ ap (λ j. j + size_if test) ha in
      let kc = hc ∙ ap (λ j. j + size_sts step) kb in
      then_at old c new _ (λ j. parts_sts P (object_type P k) m k (label_sts j body)) lc (n + size_sts first + size_if test + size_sts step)
      (then_at old b c _ (λ j. parts_sts P (object_type P k) m k (label_sts j step)) lb (n + size_sts first + size_if test)
      (then_at old a b (parts_sts P (object_type P k) m k (label_sts n first)) (λ j. parts_if P (object_type P k) m k (label_if j test)) la
      (n + size_sts first) ea ha eb) kb ec) kc en

  pub while_parts : (t : Tag) (test : Ex) (body : Sts) (old b new : List Part) (n lb : ℕ) → b ≡ old ++ parts P (object_type P k) m k false
      (label n test) → lb ≡ n + size test
      → new ≡ b ++ parts_sts P (object_type P k) m k (label_sts lb body)
      → new ≡ old ++ parts_st P (object_type P k) m k (label_st n (loop t true no_st (Some test) no_st body))
  while_parts t test body old b new n lb eb hb en =
      loop_parts t true no_st (Some test) no_st body old old b b new n n lb lb (sym (append-nil old)) (sym (add-zero n)) eb hb (sym (append-nil b))
      (sym (add-zero lb)) en

  pub own_store : (t : Tag) (p : Place) (f : ℕ) (e : Ex) (old mid new : List Part) (n : ℕ) (w v : Operand)
      → mid ≡ old ++ parts P (object_type P k) m k true (label n e)
      → v ≡ operand_of P (object_type P k) m k (label n e) → w ≡ this_operand m k → new ≡ mid ++ a_store p w (Some f) v ∷ []
      → new ≡ old ++ parts_assign P (object_type P k) m k p (to_own t f) (label (n + 0) e)
  own_store t p f e old mid new n w v ex ev ew en =
      let last : new ≡ mid ++ a_store p (this_operand m k) (Some f) (operand_of P (object_type P k) m k (label n e)) ∷ [] =
      en ∙ ap (λ q. mid ++ a_store p q (Some f) v ∷ []) ew ∙ ap (λ q. mid ++ a_store p (this_operand m k) (Some f) q ∷ []) ev in
      then old mid new (parts P (object_type P k) m k true (label n e)) _ ex last
      ∙ ap (λ j. old ++ parts_assign P (object_type P k) m k p (to_own t f) (label j e)) (sym (add-zero n))

  pub element_store : (t : Tag) (p : Place) (b i e : Ex) (old x y z new : List Part) (n ly lz : ℕ) (o v : Operand)
      → x ≡ old ++ parts P (object_type P k) m k true (label n b) → o ≡ operand_of P (object_type P k) m k (label n b) → ly ≡ n + size b
      → y ≡ x ++ parts P (object_type P k) m k false (label ly i) → lz ≡ ly + size i
      → z ≡ y ++ parts P (object_type P k) m k true (label lz e) → v ≡ operand_of P (object_type P k) m k (label lz e) → new ≡ z ++ an_element_store p o v ∷ []
      → new ≡ old ++ parts_assign P (object_type P k) m k p (to_element t (label n b) (label (n + size b) i)) (label (n + (size b + size i)) e)
  element_store t p b i e old x y z new n ly lz o v ex eo hy ey hz ez ev en =
      let kz : lz ≡ n + (size b + size i) = omega (arith, hz, hy) in
      then_at old z new _ (λ j. an_element_store p (operand_of P (object_type P k) m k (label n b)) (operand_of P (object_type P k) m k (label j e))
      ∷ []) lz (n + (size b + size i))
      (then_at old y z _ (λ j. parts P (object_type P k) m k true (label j e)) lz (n + (size b + size i))
      (then_at old x y (parts P (object_type P k) m k true (label n b)) (λ j. parts P (object_type P k) m k false (label j i)) ly (n + size b) ex
      hy ey) kz ez) kz
      (en ∙ ap (λ q. z ++ an_element_store p q v ∷ []) eo ∙ ap (λ q. z ++ an_element_store p (operand_of P (object_type P k) m k (label n b)) q ∷ []) ev)
