-- The names of the types: all are there once, or one is there twice.
use Rattle.std.proofs.Common.{◌≡◌, ℕ, zero, suc, inl, inr, ⊎_elim, Bool, true, false, List, [], ◌∷◌, ◌++◌, map, length, Option, Some, None, refl, sym, ap, ◌∙◌, subst}
use Rattle.std.specs.Prelude.{slice_get, codes}
use Rattle.std.specs.Str.{bytes_eq, chars}
use Rattle.std.proofs.lemmas.List.{map-append}
use Rattle.std.proofs.lemmas.Slice.Eq.{bytes_eq-Decides}
use Rattle.std.proofs.lemmas.Option.{slice_get_within}
use Rattle.kaba_base.proofs.ListLemmas.{map_at, contains_at}
use Rattle.java_tree.specs.Syntax.{DeclTree}
use Rattle.java_core.specs.Formed.{HasNoTwice}
use Rattle.java_core.proofs.Positions.{position-map, position-passes}
use Rattle.name_rules.specs.declared.Refusal.TheVariants.{Twice}
use Rattle.name_laws.specs.Known.{KnownClass}
use Rattle.name_laws.specs.Names.{number_of}
use Rattle.name_laws.specs.Classes.{object_known, know_named, know, known_of}
use Rattle.name_rules.specs.Outline.{name_of, place_of, is_interface_of, is_known, types_in, type_named}
use Rattle.name_rules.specs.Conditions.{ConditionAt, type_twice, known_twice}
use Rattle.name_laws.proofs.Sees.{Tells}
use Rattle.name_laws.proofs.Runs.{run-tells, stands-at, earlier-stands, push-cases, once-push, none-passes}

pub number_of-named : (ks : List KnownClass) (n : List ℕ) → number_of ks n ≡ type_named (map (λ x. x.name) ks) n
number_of-named ks n = sym (position-map (λ x. x.name) (λ m. bytes_eq m n) ks)

-- the type of a name stands under it
pub named-stands : (types : List (List ℕ)) (n : List ℕ) (i : ℕ) → type_named types n ≡ Some i → slice_get types i ≡ Some n
named-stands types n i e = let h = position-passes (λ m. bytes_eq m n) types i e in h.1 ∙ ap Some ((bytes_eq-Decides h.0 n).0 h.2)

pub unnamed-stands : (types : List (List ℕ)) (n : List ℕ) → type_named types n ≡ None → (i : ℕ) → slice_get types i ≡ Some n → ⊥
unnamed-stands types n e i h = none-passes (λ m. bytes_eq m n) types e i n h ((bytes_eq-Decides n n).1 refl)

-- the types of the declarations so far
pub record AreKnown (done : List DeclTree) (ks : List KnownClass) : Type 0 where
  pub names : map (λ k. k.name) ks ≡ types_in done
  pub faces : map (λ k. k.is_interface) ks ≡ false ∷ map is_interface_of done
  pub once : HasNoTwice (types_in done)
  pub apart : (i : ℕ) (d : DeclTree) → slice_get done i ≡ Some d → is_known (name_of d) ≡ false

know-tells : (whole done rest : List DeclTree) (d : DeclTree) (ks : List KnownClass) → whole ≡ done ++ d ∷ rest → AreKnown done ks
    → Tells (AreKnown (done ++ d ∷ [])) (ConditionAt whole) (know ks d)
unfolding chars
know-tells whole done rest d ks e h = go (is_known (name_of d)) refl (type_named (types_in done) (name_of d)) refl
  where
    here : slice_get whole (length done) ≡ Some d
    here = stands-at done d rest e

    twice : (i : ℕ) → slice_get (types_in done) i ≡ Some (name_of d) → ConditionAt whole (Twice (name_of d) (place_of d))
    twice zero f = known_twice (contains_at whole (length done) d here) (inl (sym (cc f)))
    twice (suc i) f =
        let g = map_at name_of done i (name_of d) f in
        type_twice (earlier-stands done (d ∷ rest) e i g.0 g.1) here (slice_get_within done i g.0 g.1) g.2

    names : map name_of (done ++ d ∷ []) ≡ map name_of done ++ name_of d ∷ []
    names = map-append name_of done (d ∷ [])

    apart : is_known (name_of d) ≡ false → (i : ℕ) (c : DeclTree) → slice_get (done ++ d ∷ []) i ≡ Some c → is_known (name_of c) ≡ false
    apart b i c f = ⊎_elim (λ k. h.apart i c k) (λ k. subst (λ z. is_known (name_of z) ≡ false) k.1 b) (push-cases done d i c f)

    more : is_known (name_of d) ≡ false → type_named (types_in done) (name_of d) ≡ None
        → AreKnown (done ++ d ∷ []) (ks ++ record { name = name_of d; is_interface = is_interface_of d } ∷ [])
    more b f = record {
      names = map-append (λ k. k.name) ks (record { name = name_of d; is_interface = is_interface_of d } ∷ []) ∙ ap (λ z. z ++ name_of d ∷ []) h.names
          ∙ ap (λ z. codes "Object" ∷ z) (sym names);
      faces = map-append (λ k. k.is_interface) ks (record { name = name_of d; is_interface = is_interface_of d } ∷ [])
          ∙ ap (λ z. z ++ is_interface_of d ∷ []) h.faces ∙ ap (λ z. false ∷ z) (sym (map-append is_interface_of done (d ∷ [])));
      once = subst (λ z. HasNoTwice (codes "Object" ∷ z)) (sym names) (once-push (types_in done) (name_of d) h.once
          (λ i g. unnamed-stands (types_in done) (name_of d) f i g));
      apart = apart b;
    }

    go : (a : Bool) → is_known (name_of d) ≡ a → (o : Option ℕ) → type_named (types_in done) (name_of d) ≡ o
        → Tells (AreKnown (done ++ d ∷ [])) (ConditionAt whole) (know_named ks (name_of d) (is_interface_of d) (place_of d))
    go true b o c = rw b (known_twice (contains_at whole (length done) d here) (inr b))
    go false b (Some i) c = rw (b, number_of-named ks (name_of d), h.names, c) (twice i (named-stands (types_in done) (name_of d) i c))
    go false b None c = rw (b, number_of-named ks (name_of d), h.names, c) (more b c)

pub known-tells : (tree : List DeclTree) → Tells (AreKnown tree) (ConditionAt tree) (known_of tree)
unfolding chars HasNoTwice
known-tells tree = run-tells (ConditionAt tree) tree know AreKnown (λ done rest d ks e h. know-tells tree done rest d ks e h) [] tree (object_known ∷ []) refl
    (record { names = refl; faces = refl; once = λ i j x a b. one i j x a b; apart = λ i d e. absurd (cc e) })
  where
    one : (i j : ℕ) (x : List ℕ) → slice_get (codes "Object" ∷ []) i ≡ Some x → slice_get (codes "Object" ∷ []) j ≡ Some x → i ≡ j
    one zero zero x a b = refl
    one zero (suc j) x a b = absurd (cc b)
    one (suc i) j x a b = absurd (cc a)
