-- Which types are above which: what is reached upwards is what is a subclass; and no type is its own ancestor, or one is.
use Rattle.std.proofs.Common.{◌≡◌, ℕ, ◌<◌, Bool, true, false, ◌||◌, List, [], ◌∷◌, ◌++◌, length, Option, Some, None, refl, sym, ap, ◌∙◌, zero, suc, ◌+◌, ⊎_elim, Ok, Err, subst, arith}
use Rattle.std.specs.Prelude.{slice_get, if◌then◌else◌}
use Rattle.std.specs.Option.{option_to_list, option_and_then, option_map_or}
use Rattle.std.specs.List.{list_any}
use Rattle.std.proofs.lemmas.List.Folds.{list_any-append, Any-from_list_any, list_any-from_Any}
use Rattle.std.proofs.Math.Bool.{or-false}
use Rattle.kaba_base.specs.declared.ClassId.{ClassId}
use Rattle.java_core.specs.Programs.{Plain, PlainClass}
use Rattle.java_core.specs.Classes.{supers_of, IsSubclass, IsProperSubclass}
use Rattle.name_laws.specs.Tables.{is_above}
use Rattle.name_laws.specs.Classes.{any_above, by_parent, above_by, above_of, loop_step, loops_of}
use Rattle.name_laws.proofs.Sees.{Tells}
use Rattle.java_core.proofs.Reached.{reached, reached-sound, reached-whole}
use Rattle.std.proofs.lemmas.Bool.{false≢true, cases_lt}
use Rattle.std.proofs.lemmas.List.{length-append}
use Rattle.std.proofs.lemmas.Option.{slice_get_within}
use Rattle.kaba_base.proofs.ListLemmas.{map_at}
use Rattle.java_tree.specs.Syntax.{DeclTree}
use Rattle.name_rules.specs.declared.Refusal.TheVariants.{Loop}
use Rattle.name_rules.specs.Outline.{types_in, class_outline, outline}
use Rattle.name_rules.specs.Conditions.{ConditionAt, loop}
use Rattle.name_laws.proofs.Runs.{run-tells, stands-at}

module _ (P : Plain) where
  or-if : (x y : Bool) → (if x then true else y) ≡ x || y
  or-if true y = refl
  or-if false y = refl

  any-list : (rows : List (List Bool)) (b : ℕ) (cs : List ClassId) → any_above rows cs b ≡ list_any (λ c. is_above rows c.0 b) cs
  any-list rows b [] = refl
  any-list rows b (c ∷ cs) = ap (λ x. if is_above rows c.0 b then true else x) (any-list rows b cs)
      ∙ or-if (is_above rows c.0 b) (list_any (λ c. is_above rows c.0 b) cs)

  parent-list : (rows : List (List Bool)) (b : ℕ) (o : Option ClassId) → by_parent rows o b ≡ list_any (λ c. is_above rows c.0 b) (option_to_list o)
  parent-list rows b None = refl
  parent-list rows b (Some c) = sym (or-false (is_above rows c.0 b))

  above_by-list : (rows : List (List Bool)) (b a : ℕ) (k : PlainClass) → slice_get P.classes a ≡ Some k
      → above_by rows k b ≡ list_any (λ c. is_above rows c.0 b) (supers_of P a)
  above_by-list rows b a k e =
      ap (λ x. x || any_above rows k.faces b) (parent-list rows b k.parent)
      ∙ ap (λ x. list_any (λ c. is_above rows c.0 b) (option_to_list k.parent) || x) (any-list rows b k.faces)
      ∙ sym (list_any-append (λ c. is_above rows c.0 b) (option_to_list k.parent) k.faces)
      ∙ ap (λ o. list_any (λ c. is_above rows c.0 b) (option_to_list (option_and_then (λ k. k.parent) o) ++ option_map_or (λ k. k.faces) o [])) (sym e)

  -- the rows say which type is at or above which
  pub record AreAbove (rows : List (List Bool)) : Type 0 where
    pub sound : (a b : ℕ) → b < length P.classes → is_above rows a b ≡ true → IsSubclass P a b
    pub whole : (a b : ℕ) → b < length P.classes → IsSubclass P a b → is_above rows a b ≡ true
    pub proper : (a b : ℕ) (k : PlainClass) → slice_get P.classes a ≡ Some k → b < length P.classes → above_by rows k b ≡ true → IsProperSubclass P a b
    pub proper_whole : (a b : ℕ) (k : PlainClass) → slice_get P.classes a ≡ Some k → b < length P.classes → IsProperSubclass P a b → above_by rows k b ≡ true

  reached-above : AreAbove (reached P)
  reached-above = record {
    sound = λ a b lt e. reached-sound P a b e;
    whole = reached-whole P;
    proper = λ a b k at lt e.
        let g = Any-from_list_any (λ c. is_above (reached P) c.0 b) (supers_of P a) (sym (above_by-list (reached P) b a k at) ∙ e) in
        record { by = g.1; direct = (g.0, g.2, g.3); rest = reached-sound P g.1.0 b g.4 };
    proper_whole = λ a b k at lt h.
        above_by-list (reached P) b a k at
        ∙ list_any-from_Any (λ c. is_above (reached P) c.0 b) (supers_of P a) (h.direct.0, h.by, h.direct.1, h.direct.2, reached-whole P h.by.0 b lt h.rest);
  }

  pub above-tells : Tells AreAbove (λ r. ⊥) (above_of P.classes)
  unfolding above_of
  above-tells = reached-above

-- the types so far, each no ancestor of its own
pub record NoLoops (tree : List DeclTree) (done : List PlainClass) (n : ℕ) : Type 0 where
  pub count : n ≡ length done
  pub none : (c : ℕ) → c < length done → IsProperSubclass (outline tree) c c → ⊥

no_super : (tree : List DeclTree) → IsProperSubclass (outline tree) 0 0 → ⊥
unfolding outline
no_super tree h = let e = h.direct.1 in omega (arith, e)

pub class_stands : (tree : List DeclTree) (i : ℕ) (k : PlainClass) → slice_get (outline tree).classes (suc i) ≡ Some k → (d : DeclTree)
    × (slice_get tree i ≡ Some d) × (class_outline (types_in tree) d ≡ k)
unfolding outline
class_stands tree i k e = map_at (class_outline (types_in tree)) tree i k e

pub loops-tells : (tree : List DeclTree) (rows : List (List Bool)) → AreAbove (outline tree) rows
    → Tells (NoLoops tree (outline tree).classes) (ConditionAt tree) (loops_of rows (outline tree).classes)
loops-tells tree rows above = run-tells (ConditionAt tree) (outline tree).classes (loop_step rows) (NoLoops tree) step [] (outline tree).classes 0
    refl (record { count = refl; none = λ c lt h. omega (arith, lt) })
  where
    step : (done rest : List PlainClass) (k : PlainClass) (n : ℕ) → (outline tree).classes ≡ done ++ k ∷ rest → NoLoops tree done n
        → Tells (NoLoops tree (done ++ k ∷ [])) (ConditionAt tree) (loop_step rows n k)
    step done rest k n e h = go (above_by rows k n) refl
      where
        here : slice_get (outline tree).classes n ≡ Some k
        here = ap (slice_get (outline tree).classes) h.count ∙ stands-at done k rest e

        in_loop : (a : ℕ) → slice_get (outline tree).classes a ≡ Some k → IsProperSubclass (outline tree) a a → ConditionAt tree (Loop k.name k.tag.place)
        in_loop zero at l = absurd (no_super tree l)
        in_loop (suc a) at l =
            let g = class_stands tree a k at in
            subst (λ z. ConditionAt tree (Loop z.name z.tag.place)) g.2 (loop g.1 l)

        go : (b : Bool) → above_by rows k n ≡ b → Tells (NoLoops tree (done ++ k ∷ [])) (ConditionAt tree)
            (if b then Err (Loop k.name k.tag.place) else Ok (n + 1))
        go true f = in_loop n here (above.proper n n k here (slice_get_within (outline tree).classes n k here) f)
        go false f = record {
          count = let a = h.count in let b = length-append done (k ∷ []) in omega (arith, a, b);
          none = λ c lt l. ⊎_elim (λ less. h.none c less l)
              (λ same. let at : c ≡ n = let a = h.count in let b = length-append done (k ∷ []) in omega (arith, a, b, lt, same) in
              let here2 : slice_get (outline tree).classes c ≡ Some k = ap (slice_get (outline tree).classes) at ∙ here in
              false≢true (sym (ap (above_by rows k) at ∙ f) ∙ above.proper_whole c c k here2 (slice_get_within (outline tree).classes c k here2) l))
              (cases_lt c (length done));
        }
