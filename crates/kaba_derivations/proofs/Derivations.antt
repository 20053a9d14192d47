use Rattle.std.proofs.Common.{List, [], ◌∷◌, ◌++◌, Contains, refl, arith}
use Rattle.std.specs.List.{AllByRecursion}
use Rattle.std.proofs.lemmas.List.Elements.{Contains-append_left, Contains-append_right, All-from_recursion, All-contains}
use Rattle.kaba_derivations.specs.Derivation.{IsDerivation, IsDerivable}

module _ {A : Type 0} where
  -- what holds of each premise, weakened
  pub each_weaker : (P Q : A → Type 0) → ((x : A) → P x → Q x) → (xs : List A) → AllByRecursion P xs → AllByRecursion Q xs
  each_weaker P Q f [] h = tt
  each_weaker P Q f (x ∷ xs) h = (f x h.0, each_weaker P Q f xs h.1)

  member_holds : (X : A → Type 0) (xs : List A) (x : A) → AllByRecursion X xs → Contains xs x → X x
  member_holds X xs x all c = All-contains X xs x (All-from_recursion X xs all) c

  head_member : (x : A) (xs : List A) → Contains (x ∷ xs) x
  head_member x xs = (0, omega arith, refl)

module _ {A : Type 0} (R : List A → A → Type 0) where
  joined : (xs ys : List A) → IsDerivation R xs → IsDerivation R ys → IsDerivation R (xs ++ ys)
  joined [] ys h k = k
  joined (x ∷ xs) ys h k =
      ((h.0.0, h.0.1, each_weaker (Contains xs) (Contains (xs ++ ys)) (λ p c. Contains-append_left xs ys p c) h.0.0 h.0.2), joined xs ys h.1 k)

  -- one derivation for several derivable premises
  record Gathered (ps : List A) : Type 0 where
    steps : List A
    derivation : IsDerivation R steps
    holds : AllByRecursion (Contains steps) ps

  gathered : (ps : List A) → AllByRecursion (IsDerivable R) ps → Gathered ps
  gathered [] h = record { steps = []; derivation = tt; holds = tt }
  gathered (p ∷ ps) h =
      let rest = gathered ps h.1 in
      let own = p ∷ h.0.before in
      record {
        steps = own ++ rest.steps;
        derivation = joined own rest.steps h.0.derivation rest.derivation;
        holds = (
          Contains-append_left own rest.steps p (head_member p h.0.before),
          each_weaker (Contains rest.steps) (Contains (own ++ rest.steps)) (λ q c. Contains-append_right own rest.steps q c) ps rest.holds,
        );
      }

  -- what a rule concludes from derivable premises is derivable
  pub derivable_by : (ps : List A) (a : A) → R ps a → AllByRecursion (IsDerivable R) ps → IsDerivable R a
  derivable_by ps a r h =
      let g = gathered ps h in
      record { before = g.steps; derivation = ((ps, r, g.holds), g.derivation) }

  -- what is closed under the rules holds of each step of a derivation
  steps_hold : (X : A → Type 0) → ((ps : List A) (a : A) → R ps a → AllByRecursion X ps → X a) → (xs : List A) → IsDerivation R xs → AllByRecursion X xs
  steps_hold X closed [] h = tt
  steps_hold X closed (x ∷ xs) h =
      let rest = steps_hold X closed xs h.1 in
      (closed h.0.0 x h.0.1 (each_weaker (Contains xs) X (λ p c. member_holds X xs p rest c) h.0.0 h.0.2), rest)

  -- the derivable facts are the least that are closed under the rules
  pub derivable_least : (X : A → Type 0) → ((ps : List A) (a : A) → R ps a → AllByRecursion X ps → X a) → (a : A) → IsDerivable R a → X a
  derivable_least X closed a d = (steps_hold X closed (a ∷ d.before) d.derivation).0
