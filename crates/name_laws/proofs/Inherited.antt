-- A class has a constructor where its superclass has one: it writes one, or has one without writing it.
use Rattle.std.proofs.Common.{◌≡◌, ℕ, zero, suc, ◌+◌, ⊎_elim, Bool, true, false, List, [], ◌∷◌, length, Option, Some, None, refl, sym, ap, ◌∙◌, subst, arith}
use Rattle.std.specs.Prelude.{slice_get}
use Rattle.std.specs.Option.{is_some, option_and_then}
use Rattle.std.specs.List.{list_any}
use Rattle.std.proofs.lemmas.Bool.{false≢true}
use Rattle.kaba_base.specs.declared.ClassId.{ClassId}
use Rattle.kaba_base.proofs.ListLemmas.{append_cases, at_contains, at_left, behind}
use Rattle.java_tree.specs.declared.Id.{Id}
use Rattle.java_tree.specs.Syntax.{MemberTree, FieldTree, MethodTree, MakerTree, DeclTree, ClassTree, InterfaceTree}
use Rattle.java_tree.specs.Makers.{declares_maker}
use Rattle.java_tree.specs.Makers as tree_makers
use Rattle.java_core.specs.Programs.{PlainClass}
use Rattle.java_core.specs.Classes.{parent_of, is_method_of, own_method}
use Rattle.java_core.specs.Makers.{maker_name, maker_of}
use Rattle.java_core.specs.Found.{above_class}
use Rattle.java_core.proofs.Positions.{position-passes, passes-position}
use Rattle.java_core.proofs.Subclasses.{IsAcyclic, nearest_of-nearest, nearest-nearest_of, nearest-here}
use Rattle.name_rules.specs.Outline.{MethodAt, name_of, place_of, is_maker, methods_from, methods_in, types_in, classes_alone, writes_at, writer_of, implied_maker, implied_from, method_outline, outline}
use Rattle.name_rules.specs.Conditions.{written_makers, makers_written}
use Rattle.name_laws.proofs.Sees.{same_some}
use Rattle.name_laws.proofs.KnownClasses.{class_at-outline}
use Rattle.name_laws.proofs.Reached.{class_stands}
use Rattle.name_laws.proofs.Modifiers.{AreFit, maker-kind, no-static-maker}
use Rattle.name_laws.proofs.MembersOf.{written-in, implied-at, implied-there, maker-from}
use Rattle.name_laws.proofs.AllMembers.{declares}
use Rattle.name_laws.proofs.MethodClashes.{method_at-outline, outline-method}
use Rattle.name_laws.proofs.SeesOutline.{is-own, own-is}
use Rattle.name_laws.proofs.Bridge.{Steps, P}
use Rattle.name_laws.proofs.FormedProgram.{classes-proper, formed-acyclic}

-- a class that declares a constructor writes one
writes-one : (xs : List MemberTree) → list_any tree_makers.is_maker xs ≡ true → (w : Id) × (slice_get (written_makers xs) 0 ≡ Some w)
writes-one [] e = absurd (false≢true e)
writes-one (FieldTree mods u n p ∷ xs) e = writes-one xs e
writes-one (MethodTree h b p ∷ xs) e = writes-one xs e
writes-one (MakerTree mods n ps up ss p ∷ xs) e = (record { name = n; place = p }, refl)

declares-one : (d : DeclTree) → declares_maker d ≡ true → (w : Id) × (slice_get (makers_written d) 0 ≡ Some w)
declares-one (ClassTree mods n parent faces xs p) e = writes-one xs e
declares-one (InterfaceTree mods n parents hs p) e = absurd (false≢true e)

module _ (tree : List DeclTree) (s : Steps tree) where
  acyclic : IsAcyclic (classes_alone tree)
  unfolding outline
  acyclic c h = formed-acyclic tree s c (classes-proper (classes_alone tree) (P tree s) refl h)

  -- the class that a class writes a constructor in
  writes : (k : ℕ) (d : DeclTree) → slice_get tree k ≡ Some d → declares_maker d ≡ true → writes_at tree (suc k) ≡ Some (suc k)
  writes k d at e = rw (at, e) refl

  -- what has a constructor has one above it that writes it
  to-writer : (c : ℕ) → is_some (maker_of (outline tree) c) ≡ true → is_some (writer_of tree c) ≡ true
  to-writer c h = go (slice_get (outline tree).classes c) h
    where
      found : (x : List ℕ) (i : ℕ) → own_method (outline tree) c (maker_name x) ≡ Some i → is_some (writer_of tree c) ≡ true
      found x i e =
          let a = position-passes (λ k. is_method_of c (maker_name x) k) (outline tree).methods i e in
          let o = own-is c (maker_name x) a.0 a.2 in
          let m = outline-method tree i a.0 a.1 in
          let g = s.members.good i m.0 m.1 in
          let own : m.0.owner ≡ c = ap (λ z. z.owner) m.2 ∙ o.0 in
          let maker = g.marked x (ap (λ z. z.name) m.2 ∙ o.1) in
          ⊎_elim
          (λ u.
          let w = written-in 1 tree i m.0 u maker in
          let same : suc w.index ≡ c = let b = w.owned in omega (arith, b, own) in
          ap is_some (nearest-here (classes_alone tree) (writes_at tree) (length (classes_alone tree).classes) c c
          (subst (λ z. writes_at tree z ≡ Some z) same (writes w.index w.decl w.stands (declares w.decl w.is.word w.is.among)))))
          (λ u.
          let k = implied-at tree 1 tree u.0 m.0 u.2 in
          subst (λ z. is_some (writer_of tree z) ≡ true) (ap (λ z. z.owner) k.is ∙ own) k.writer)
          (append_cases (methods_from 1 tree) (implied_from tree 1 tree) i m.0 m.1)

      at : (x : List ℕ) (o : Option ℕ) → own_method (outline tree) c (maker_name x) ≡ o → is_some o ≡ true → is_some (writer_of tree c) ≡ true
      at x None e t = absurd (false≢true t)
      at x (Some i) e t = found x i e

      go : (o : Option PlainClass) → is_some (option_and_then (λ k. own_method (outline tree) c (maker_name k.name)) o) ≡ true
          → is_some (writer_of tree c) ≡ true
      go None t = absurd (false≢true t)
      go (Some k) t = at k.name (own_method (outline tree) c (maker_name k.name)) refl t

  -- and what is below such a class has one above it too
  writer-below : (c : ℕ) (b : ClassId) → parent_of (classes_alone tree) c ≡ Some b → is_some (writer_of tree b.0) ≡ true → is_some (writer_of tree c) ≡ true
  writer-below c b up h = at (writer_of tree b.0) refl h
    where
      own : (d : ℕ) → writer_of tree b.0 ≡ Some d → (o : Option ℕ) → writes_at tree c ≡ o → is_some (writer_of tree c) ≡ true
      own d e (Some y) f = ap is_some (nearest-here (classes_alone tree) (writes_at tree) (length (classes_alone tree).classes) c y f)
      own d e None f = ap is_some (nearest-nearest_of (classes_alone tree) (writes_at tree) acyclic
          (above_class f up (nearest_of-nearest (classes_alone tree) (writes_at tree) e)))

      at : (o : Option ℕ) → writer_of tree b.0 ≡ o → is_some o ≡ true → is_some (writer_of tree c) ≡ true
      at None e t = absurd (false≢true t)
      at (Some d) e t = own d e (writes_at tree c) refl

  -- a method of the tree that is the constructor of its class
  is-maker : (i : ℕ) (m : MethodAt) (k : ℕ) (d : DeclTree) → slice_get (methods_in tree) i ≡ Some m → slice_get tree k ≡ Some d → m.owner ≡ suc k
      → is_maker m ≡ true → is_some (maker_of (outline tree) (suc k)) ≡ true
  is-maker i m k d at there own maker =
      let g = s.members.good i m at in
      let c = g.maker maker in
      let index : c.index ≡ k = let a = c.owned in omega (arith, a, own) in
      let decl : c.decl ≡ d = same_some (sym c.stands ∙ ap (slice_get tree) index ∙ there) in
      let static = no-static-maker m.head.mods (subst (λ z. AreFit z m.head.mods) (maker-kind m.kind maker) g.fit) in
      let r = passes-position (λ z. is_method_of (suc k) (maker_name (name_of d)) z) (outline tree).methods i (method_outline (types_in tree) m)
      (method_at-outline tree i m at)
      (is-own (suc k) (maker_name (name_of d)) (method_outline (types_in tree) m) own static (c.name ∙ ap (λ z. maker_name (name_of z)) decl)) in
      ap (λ o. is_some (option_and_then (λ z. own_method (outline tree) (suc k) (maker_name z.name)) o)) (class_at-outline tree k d there)
      ∙ ap is_some r.1

  -- where one stands above, or in the class, the class has one
  from-writer : (k : ℕ) (d : DeclTree) → slice_get tree k ≡ Some d → is_some (writer_of tree (suc k)) ≡ true
      → is_some (maker_of (outline tree) (suc k)) ≡ true
  from-writer k d at h = go (declares_maker d) refl
    where
      go : (b : Bool) → declares_maker d ≡ b → is_some (maker_of (outline tree) (suc k)) ≡ true
      go true e =
          let w = declares-one d e in
          let m = maker-from 1 tree k (suc k) d at (omega arith) 0 w.0 w.1 in
          is-maker m.number m.method k d (at_left (methods_from 1 tree) (implied_from tree 1 tree) m.number m.method m.stands) at m.owner m.maker
      go false e =
          let c = at_contains (implied_from tree 1 tree) (implied_maker (suc k) (name_of d) (place_of d))
          (implied-there tree 1 tree k (suc k) d at (omega arith) e h) in
          is-maker (length (methods_from 1 tree) + c.0) (implied_maker (suc k) (name_of d) (place_of d)) k d
          (behind (methods_from 1 tree) (implied_from tree 1 tree) c.0 ∙ c.1) at refl refl

  pub maker-below : (c : ℕ) (b : ClassId) → parent_of (outline tree) c ≡ Some b → is_some (maker_of (outline tree) b.0) ≡ true
      → is_some (maker_of (outline tree) c) ≡ true
  unfolding outline
  maker-below zero b up has = absurd (cc up)
  maker-below (suc k) b up has = go (slice_get (outline tree).classes (suc k)) refl
    where
      go : (o : Option PlainClass) → slice_get (outline tree).classes (suc k) ≡ o → is_some (maker_of (outline tree) (suc k)) ≡ true
      go None e = absurd (cc (sym (ap (option_and_then (λ z. z.parent)) e) ∙ up))
      go (Some c) e = let d = class_stands tree k c e in from-writer k d.0 d.1 (writer-below (suc k) b up (to-writer b.0 has))
