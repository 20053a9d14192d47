-- A tree in which no class writes a constructor: no class has one, and its methods are those that are written.
use Rattle.std.proofs.Common.{◌≡◌, ℕ, zero, suc, ⊎_elim, Bool, true, false, List, [], ◌∷◌, ◌++◌, length, Option, Some, None, Contains, refl, ap, ap₂, ◌∙◌, subst}
use Rattle.std.specs.Prelude.{slice_get, option_and_then, if◌then◌else◌}
use Rattle.std.specs.Option.{is_some}
use Rattle.std.specs.List.{list_any}
use Rattle.std.proofs.lemmas.Bool.{or_parts, true≢false}
use Rattle.std.proofs.lemmas.List.{append-nil}
use Rattle.std.proofs.lemmas.Option.{same_Some}
use Rattle.std.proofs.lemmas.List.Elements.{Contains-append_cases}
use Rattle.kaba_base.specs.declared.ClassId.{ClassId}
use Rattle.java_tree.specs.Makers as made
use Rattle.java_tree.specs.Makers.{declares_maker, has_maker}
use Rattle.java_tree.specs.Syntax.{HeadTree, MemberTree, FieldTree, MethodTree, MakerTree, DeclTree, ClassTree, InterfaceTree}
use Rattle.java_core.specs.Programs.{Plain}
use Rattle.java_core.specs.Classes.{parent_of, first_or, nearest}
use Rattle.kaba_base.proofs.ListLemmas.{no-member, one_from, contains_cases}
use Rattle.name_rules.specs.Outline.{MethodAt, is_maker, method_member, methods_of, heads_of, methods_declared, methods_from, writes_at, classes_alone, writer_of, name_of, place_of, implied_maker, implied_in, implied_from, methods_in}

-- what no item of a list passes
none_at : {A : Type 0} (p : A → Bool) (xs : List A) (i : ℕ) (x : A) → list_any p xs ≡ false → slice_get xs i ≡ Some x → p x ≡ false
none_at p [] i x h e = absurd (cc)
none_at p (y ∷ ys) zero x h e = subst (λ z. p z ≡ false) (same_Some y x e) (or_parts (p y) (list_any p ys) h).0
none_at p (y ∷ ys) (suc i) x h e = none_at p ys i x (or_parts (p y) (list_any p ys) h).1 e

-- what is nowhere is not found upwards
nowhere : (P : Plain) (own : ℕ → Option ℕ) → ((k : ℕ) → own k ≡ None) → (n c : ℕ) → nearest P own n c ≡ None
nowhere P own none zero c = none c
nowhere P own none (suc n) c = ap₂ first_or (none c) (up (λ k. nowhere P own none n k) (parent_of P c))
  where
    up : ((k : ℕ) → nearest P own n k ≡ None) → (o : Option ClassId) → option_and_then (λ p. nearest P own n p.0) o ≡ None
    up more None = refl
    up more (Some p) = more p.0

-- what a method that is written is: no constructor, and without `super(..)`
pub record IsNoMaker (m : MethodAt) : Type 0 where
  pub other : is_maker m ≡ false
  pub up : m.up ≡ None

member_other : (c : ℕ) (a : Bool) (x : MemberTree) (m : MethodAt) → made.is_maker x ≡ false → Contains (method_member c a x) m → IsNoMaker m
member_other c a (FieldTree mods u n p) m h k = no-member m k
member_other c a (MethodTree t b p) m h k = subst IsNoMaker (one_from _ m k) (record { other = refl; up = refl })
member_other c a (MakerTree mods n ps up ss p) m h k = absurd (true≢false h)

members_other : (c : ℕ) (a : Bool) (xs : List MemberTree) (m : MethodAt) → list_any made.is_maker xs ≡ false → Contains (methods_of c a xs) m → IsNoMaker m
members_other c a [] m h k = no-member m k
members_other c a (x ∷ xs) m h k =
    let z = or_parts (made.is_maker x) (list_any made.is_maker xs) h in
    ⊎_elim (λ here. member_other c a x m z.0 here) (λ there. members_other c a xs m z.1 there) (Contains-append_cases (method_member c a x) (methods_of c a xs) m k)

heads_other : (c : ℕ) (hs : List HeadTree) (m : MethodAt) → Contains (heads_of c hs) m → IsNoMaker m
heads_other c [] m k = no-member m k
heads_other c (h ∷ hs) m k =
    ⊎_elim (λ e. subst IsNoMaker e (record { other = refl; up = refl })) (λ there. heads_other c hs m there) (contains_cases _ (heads_of c hs) m k)

declared_other : (c : ℕ) (d : DeclTree) (m : MethodAt) → declares_maker d ≡ false → Contains (methods_declared c d) m → IsNoMaker m
declared_other c (ClassTree mods n parent faces ms p) m h k = members_other c _ ms m h k
declared_other c (InterfaceTree mods n parents hs p) m h k = heads_other c hs m k

written_other : (c : ℕ) (ds : List DeclTree) (m : MethodAt) → has_maker ds ≡ false → Contains (methods_from c ds) m → IsNoMaker m
written_other c [] m h k = no-member m k
written_other c (d ∷ ds) m h k =
    let z = or_parts (declares_maker d) (has_maker ds) h in
    ⊎_elim (λ here. declared_other c d m z.0 here) (λ there. written_other (suc c) ds m z.1 there)
    (Contains-append_cases (methods_declared c d) (methods_from (suc c) ds) m k)

module _ (tree : List DeclTree) (makerless : has_maker tree ≡ false) where
  writes_none : (c : ℕ) → writes_at tree c ≡ None
  writes_none zero = refl
  writes_none (suc k) = at (slice_get tree k) refl
    where
      at : (o : Option DeclTree) → slice_get tree k ≡ o → option_and_then (λ d. if declares_maker d then Some (suc k) else None) o ≡ None
      at None e = refl
      at (Some d) e = ap (λ b. if b then Some (suc k) else None) (none_at declares_maker tree k d makerless e)

  -- no class and no ancestor of it writes one
  pub no_writer : (c : ℕ) → writer_of tree c ≡ None
  no_writer c = nowhere (classes_alone tree) (writes_at tree) writes_none (length (classes_alone tree).classes) c

  none_in : (c : ℕ) (d : DeclTree) → implied_in tree c d ≡ []
  none_in c d =
      ap (λ o. if declares_maker d then [] else if is_some o then implied_maker c (name_of d) (place_of d) ∷ [] else []) (no_writer c) ∙ both (declares_maker d)
    where
      both : (b : Bool) → (let none : List MethodAt = [] in if b then none else none) ≡ []
      both true = refl
      both false = refl

  -- none is there without being written
  pub no_implied : (c : ℕ) (ds : List DeclTree) → implied_from tree c ds ≡ []
  no_implied c [] = refl
  no_implied c (d ∷ ds) = ap₂ (λ a b. a ++ b) (none_in c d) (no_implied (suc c) ds)

  -- the methods are those that are written
  pub methods_written : methods_in tree ≡ methods_from 1 tree
  methods_written = ap (λ l. methods_from 1 tree ++ l) (no_implied 1 tree) ∙ append-nil (methods_from 1 tree)

  -- and none of them is a constructor
  pub no_maker_in : (m : MethodAt) → Contains (methods_in tree) m → IsNoMaker m
  no_maker_in m k = written_other 1 tree m makerless (subst (λ l. Contains l m) methods_written k)
