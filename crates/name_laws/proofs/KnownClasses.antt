-- Classes and interfaces with their supertypes: they are those of the outline, or a supertype is not there or of the other kind.
use Rattle.std.proofs.Common.{◌≡◌, ℕ, zero, suc, ⊎_elim, Bool, true, false, not, List, [], ◌∷◌, ◌++◌, map, length, Option, Some, None, Ok, Err, Contains, refl, sym, ap, ◌∙◌, subst, arith}
use Rattle.std.specs.Prelude.{slice_get, codes, if◌then◌else◌, ◌==◌}
use Rattle.std.specs.Str.{chars}
use Rattle.std.proofs.lemmas.Bool.{eqb-true, false≢true}
use Rattle.std.proofs.lemmas.List.{map-append}
use Rattle.std.proofs.lemmas.Option.{slice_get_within}
use Rattle.kaba_base.specs.declared.ClassId.{ClassId}
use Rattle.kaba_base.proofs.ListLemmas.{map_at, at_map, contains_at}
use Rattle.java_tree.specs.declared.Id.{Id}
use Rattle.java_tree.specs.Syntax.{DeclTree, ClassTree, InterfaceTree}
use Rattle.java_core.specs.Programs.{PlainClass}
use Rattle.java_core.specs.Formed.{HasNoTwice}
use Rattle.name_rules.specs.declared.Refusal.{Refusal}
use Rattle.name_rules.specs.declared.Refusal.TheVariants.{Twice, TwoKinds, Unknown}
use Rattle.name_rules.specs.declared.parts.Kind.TheVariants as kinds
use Rattle.name_laws.specs.Known.{KnownClass}
use Rattle.name_laws.specs.Names.{number_of, asked, or_unknown}
use Rattle.name_laws.specs.Classes.{flags_of, is_face_in, is_face, class_id, parent_tree, has_id, face, faces_of, class_tree, class_step, object_class, classes_of}
use Rattle.name_rules.specs.Outline.{name_of, mods_of, is_interface_of, parent_named, faces_named, types_in, type_named, class_at, id_meant, parent_meant, object, class_outline, outline}
use Rattle.name_rules.specs.Meanings.{type_names, class_named}
use Rattle.name_rules.specs.Asked.{by_super, a_parent, a_face}
use Rattle.name_rules.specs.Conditions.{ConditionAt, kind_of, unknown, face_as_parent, class_as_face, super_twice, of_type}
use Rattle.name_laws.proofs.Sees.{Tells, tell, same_some}
use Rattle.name_laws.proofs.Runs.{run-tells, stands-at, earlier-stands, push-cases, once-push}
use Rattle.name_laws.proofs.KnownTypes.{AreKnown, number_of-named, named-stands}
use Rattle.name_laws.proofs.Modifiers.{AreFit, flags-fit}

-- ---- the outline's classes

names-outline : (types : List (List ℕ)) (tree : List DeclTree) → map (λ k. k.name) (map (class_outline types) tree) ≡ map name_of tree
names-outline types [] = refl
names-outline types (d ∷ ds) = ap (λ z. name_of d ∷ z) (names-outline types ds)

faces-outline : (types : List (List ℕ)) (tree : List DeclTree) → map (λ k. k.is_interface) (map (class_outline types) tree) ≡ map is_interface_of tree
faces-outline types [] = refl
faces-outline types (d ∷ ds) = ap (λ z. is_interface_of d ∷ z) (faces-outline types ds)

pub type_names-outline : (tree : List DeclTree) → type_names (outline tree) ≡ types_in tree
unfolding outline
type_names-outline tree = ap (λ z. codes "Object" ∷ z) (names-outline (types_in tree) tree)

pub class_named-outline : (tree : List DeclTree) (n : List ℕ) → class_named (outline tree) n ≡ type_named (types_in tree) n
class_named-outline tree n = ap (λ z. type_named z n) (type_names-outline tree)

pub face_names-outline : (tree : List DeclTree) → map (λ k. k.is_interface) (outline tree).classes ≡ false ∷ map is_interface_of tree
unfolding outline
face_names-outline tree = ap (λ z. false ∷ z) (faces-outline (types_in tree) tree)

pub class_at-outline : (tree : List DeclTree) (i : ℕ) (d : DeclTree) → slice_get tree i ≡ Some d → slice_get (outline tree).classes (suc i)
    ≡ Some (class_outline (types_in tree) d)
unfolding outline
class_at-outline tree i d e = at_map (class_outline (types_in tree)) tree i d e

-- a class or interface of this name stands there, of this kind
pub record StandsNamed (tree : List DeclTree) (n : List ℕ) (interface : Bool) : Type 0 where
  pub number : ℕ
  pub named : class_named (outline tree) n ≡ Some number
  pub class : PlainClass
  pub stands : slice_get (outline tree).classes number ≡ Some class
  pub kind : class.is_interface ≡ interface

-- the supertypes of a declaration are there, and of the right kind; each interface is named once
pub record HasSupers (tree : List DeclTree) (d : DeclTree) : Type 0 where
  pub parent : (i : Id) → parent_named d ≡ Some i → StandsNamed tree i.name false
  pub faces : (j : ℕ) (i : Id) → slice_get (faces_named d) j ≡ Some i → StandsNamed tree i.name true
  pub once : HasNoTwice (map (id_meant (types_in tree)) (faces_named d))
  pub fit : AreFit (kind_of d) (mods_of d)

module _ (tree : List DeclTree) (known : List KnownClass) (are : AreKnown tree known) where
  pub known-named : (n : List ℕ) → number_of known n ≡ class_named (outline tree) n
  known-named n = number_of-named known n ∙ ap (λ z. type_named z n) are.names ∙ sym (class_named-outline tree n)

  named-class : (n : List ℕ) (k : ℕ) → class_named (outline tree) n ≡ Some k → (c : PlainClass) × (slice_get (outline tree).classes k ≡ Some c)
      × (c.is_interface ≡ is_face known k)
  named-class n k e =
      let at = map_at (λ c. c.name) (outline tree).classes k n (named-stands (type_names (outline tree)) n k e) in
      let same : slice_get (map (λ c. c.is_interface) known) k ≡ Some at.0.is_interface = ap (λ z. slice_get z k) (are.faces
      ∙ sym (face_names-outline tree)) ∙ at_map (λ c. c.is_interface) (outline tree).classes k at.0 at.1 in
      let one = map_at (λ c. c.is_interface) known k at.0.is_interface same in
      (at.0, at.1, sym one.2 ∙ sym (ap is_face_in one.1))

  -- a name that is asked for
  pub asked-named : (i : Id) (F : Refusal → Type 0) → (class_named (outline tree) i.name ≡ None → F (Unknown i.name i.place))
      → Tells (λ k. class_named (outline tree) i.name ≡ Some k) F (asked known i.name i.place)
  asked-named i F bad = go (number_of known i.name) refl
    where
      go : (o : Option ℕ) → number_of known i.name ≡ o → Tells (λ k. class_named (outline tree) i.name ≡ Some k) F (or_unknown o i.name i.place)
      go (Some k) e = sym (known-named i.name) ∙ e
      go None e = bad (sym (known-named i.name) ∙ e)

  pub id-meant : (i : Id) (k : ℕ) → class_named (outline tree) i.name ≡ Some k → id_meant (types_in tree) i ≡ class_id k
  id-meant i k e = ap class_at (sym (class_named-outline tree i.name) ∙ e)

  module _ (d : DeclTree) (at : Contains tree d) where
    -- the superclass
    parent-tells : (o : Option Id) → parent_named d ≡ o → Tells (λ k. (class_id k ≡ parent_meant (types_in tree) o)
        × ((i : Id) → o ≡ Some i → StandsNamed tree i.name false)) (ConditionAt tree) (parent_tree known o)
    parent-tells None e = (refl, λ i f. absurd (cc f))
    parent-tells (Some i) e =
        tell (λ k. (class_id k ≡ id_meant (types_in tree) i) × ((j : Id) → Some i ≡ Some j → StandsNamed tree j.name false)) (ConditionAt tree)
        (asked known i.name i.place) _
        (asked-named i (ConditionAt tree) (λ f. unknown (by_super (a_parent at e)) f)) (λ k f. go k f (is_face known k) refl) (λ r f. f)
      where
        go : (k : ℕ) → class_named (outline tree) i.name ≡ Some k → (b : Bool) → is_face known k ≡ b
            → Tells (λ k. (class_id k ≡ id_meant (types_in tree) i) × ((j : Id) → Some i ≡ Some j → StandsNamed tree j.name false)) (ConditionAt tree)
            (if b then Err (TwoKinds i.name i.place) else Ok k)
        go k f true g = let c = named-class i.name k f in face_as_parent at e f c.1 (c.2 ∙ g)
        go k f false g = let c = named-class i.name k f in (
          sym (id-meant i k f),
          λ j h. subst (λ z. StandsNamed tree z.name false) (same_some h)
              (record { number = k; named = f; class = c.0; stands = c.1; kind = c.2 ∙ g }),
        )

    -- the interfaces
    record AreFaces (done : List Id) (fs : List ClassId) : Type 0 where
      pub same : fs ≡ map (id_meant (types_in tree)) done
      pub faces : (j : ℕ) (i : Id) → slice_get done j ≡ Some i → StandsNamed tree i.name true
      pub once : HasNoTwice (map (id_meant (types_in tree)) done)

    has_id-stands : (fs : List ClassId) (k : ℕ) → has_id fs k ≡ true → (j : ℕ) × (slice_get fs j ≡ Some (class_id k))
    has_id-stands [] k e = absurd (cc e)
    has_id-stands (c ∷ fs) k e = go (c.0 == k) refl (has_id-stands fs k)
      where
        go : (b : Bool) → (c.0 == k) ≡ b → (has_id fs k ≡ true → (j : ℕ) × (slice_get fs j ≡ Some (class_id k)))
            → (j : ℕ) × (slice_get (c ∷ fs) j ≡ Some (class_id k))
        go true f more = (0, ap (λ z. Some (class_id z)) (eqb-true c.0 k f))
        go false f more = let g = more (sym (ap (λ z. if z then true else has_id fs k) f) ∙ e) in (suc g.0, g.1)

    no_id-stands : (fs : List ClassId) (k : ℕ) → has_id fs k ≡ false → (j : ℕ) → slice_get fs j ≡ Some (class_id k) → ⊥
    no_id-stands [] k e j f = cc f
    no_id-stands (c ∷ fs) k e j f = go (c.0 == k) refl j f (no_id-stands fs k)
      where
        go : (b : Bool) → (c.0 == k) ≡ b → (j : ℕ) → slice_get (c ∷ fs) j ≡ Some (class_id k)
            → (has_id fs k ≡ false → (j : ℕ) → slice_get fs j ≡ Some (class_id k) → ⊥) → ⊥
        go true g j f more = false≢true (sym e ∙ ap (λ z. if z then true else has_id fs k) g)
        go false g zero f more = false≢true (sym g ∙ ap (λ z. z.0 == k) (same_some f) ∙ eqb-same k)
          where
            eqb-same : (k : ℕ) → (k == k) ≡ true
            eqb-same k = grind arith
        go false g (suc j) f more = more (sym (ap (λ z. if z then true else has_id fs k) g) ∙ e) j f

    face-tells : (done rest : List Id) (i : Id) (fs : List ClassId) → faces_named d ≡ done ++ i ∷ rest → AreFaces done fs
        → Tells (AreFaces (done ++ i ∷ [])) (ConditionAt tree) (face known fs i)
    face-tells done rest i fs e h =
        tell (AreFaces (done ++ i ∷ [])) (ConditionAt tree) (asked known i.name i.place) _
        (asked-named i (ConditionAt tree) (λ f. unknown (by_super (a_face at (contains_at (faces_named d) (length done) i here))) f))
        (λ k f. go k f (is_face known k) refl (has_id fs k) refl) (λ r f. f)
      where
        here : slice_get (faces_named d) (length done) ≡ Some i
        here = stands-at done i rest e

        go : (k : ℕ) → class_named (outline tree) i.name ≡ Some k → (b : Bool) → is_face known k ≡ b → (c : Bool) → has_id fs k ≡ c
            → Tells (AreFaces (done ++ i ∷ [])) (ConditionAt tree) (if not b then Err (TwoKinds i.name i.place) else if c then Err
            (Twice i.name i.place) else Ok (fs ++ class_id k ∷ []))
        go k f false g c q = let s = named-class i.name k f in class_as_face at (contains_at (faces_named d) (length done) i here) f s.1 (s.2 ∙ g)
        go k f true g true q =
            let s = has_id-stands fs k q in
            let m = map_at (id_meant (types_in tree)) done s.0 (class_id k) (ap (λ z. slice_get z s.0) (sym h.same) ∙ s.1) in
            let o = h.faces s.0 m.0 m.1 in
            let n : o.number ≡ k = ap (λ z. z.0) (sym (id-meant m.0 o.number o.named) ∙ m.2) in
            let a : slice_get (type_names (outline tree)) k ≡ Some (m.0.name) = subst (λ z. slice_get (type_names (outline tree)) z ≡ Some (m.0.name))
            n (named-stands (type_names (outline tree)) m.0.name o.number o.named) in
            super_twice at (earlier-stands done (i ∷ rest) e s.0 m.0 m.1) here (slice_get_within done s.0 m.0 m.1)
            (same_some (sym a ∙ named-stands (type_names (outline tree)) i.name k f))
        go k f true g false q =
            let s = named-class i.name k f in
            let push = map-append (id_meant (types_in tree)) done (i ∷ []) ∙ ap (λ z. map (id_meant (types_in tree)) done ++ z ∷ []) (id-meant i k f) in
            record {
              same = ap (λ z. z ++ class_id k ∷ []) h.same ∙ sym push;
              faces = λ j c l. ⊎_elim (λ x. h.faces j c x) (λ x. subst (λ z. StandsNamed tree z.name true) x.1
                  (record { number = k; named = f; class = s.0; stands = s.1; kind = s.2 ∙ g })) (push-cases done i j c l);
              once = subst HasNoTwice (sym push) (once-push (map (id_meant (types_in tree)) done) (class_id k) h.once
                  (λ j l. no_id-stands fs k q j (ap (λ z. slice_get z j) h.same ∙ l)));
            }

    faces-tells : Tells (AreFaces (faces_named d)) (ConditionAt tree) (faces_of known (faces_named d))
    unfolding HasNoTwice
    faces-tells = run-tells (ConditionAt tree) (faces_named d) (face known) AreFaces (λ done rest i fs e h. face-tells done rest i fs e h) []
        (faces_named d) [] refl
        (record { same = refl; faces = λ j i e. absurd (cc e); once = λ i j x a b. absurd (cc a) })

  -- a class or an interface
  ClassIs : DeclTree → PlainClass → Type 0
  ClassIs d c = (c ≡ class_outline (types_in tree) d) × HasSupers tree d

  class-tells : (d : DeclTree) → Contains tree d → Tells (ClassIs d) (ConditionAt tree) (class_tree known d)
  unfolding ClassIs
  class-tells (ClassTree mods n parent faces ms p) at =
      let d = ClassTree mods n parent faces ms p in
      tell (ClassIs d) (ConditionAt tree) (flags_of kinds.Class mods) _ (flags-fit tree kinds.Class mods (of_type at))
      (λ f hf. tell (ClassIs d) (ConditionAt tree) (parent_tree known parent) _ (parent-tells d at parent refl)
      (λ c hc. tell (ClassIs d) (ConditionAt tree) (faces_of known faces) _ (faces-tells d at)
      (λ fs hs. (rw (hf.0.abstract, hc.0, hs.same) refl, record { parent = hc.1; faces = hs.faces; once = hs.once; fit = hf.2 }))
      (λ r q. q))
      (λ r q. q))
      (λ r q. q)
  class-tells (InterfaceTree mods n parents hs p) at =
      let d = InterfaceTree mods n parents hs p in
      tell (ClassIs d) (ConditionAt tree) (flags_of kinds.Interface mods) _ (flags-fit tree kinds.Interface mods (of_type at))
      (λ f hf. tell (ClassIs d) (ConditionAt tree) (faces_of known parents) _ (faces-tells d at)
      (λ fs hs. (rw (hf.0.abstract, hs.same) refl, record { parent = λ i e. absurd (cc e); faces = hs.faces; once = hs.once; fit = hf.2 }))
      (λ r q. q))
      (λ r q. q)

  pub record AreClasses (done : List DeclTree) (cs : List PlainClass) : Type 0 where
    pub same : cs ≡ object ∷ map (class_outline (types_in tree)) done
    pub supers : (i : ℕ) (d : DeclTree) → slice_get done i ≡ Some d → HasSupers tree d

  pub classes-tells : Tells (AreClasses tree) (ConditionAt tree) (classes_of known tree)
  unfolding ClassIs chars
  classes-tells = run-tells (ConditionAt tree) tree (class_step known) AreClasses step [] tree (object_class ∷ []) refl
      (record { same = refl; supers = λ i d e. absurd (cc e) })
    where
      step : (done rest : List DeclTree) (d : DeclTree) (cs : List PlainClass) → tree ≡ done ++ d ∷ rest → AreClasses done cs
          → Tells (AreClasses (done ++ d ∷ [])) (ConditionAt tree) (class_step known cs d)
      step done rest d cs e h =
          tell (AreClasses (done ++ d ∷ [])) (ConditionAt tree) (class_tree known d) _
          (class-tells d (contains_at tree (length done) d (stands-at done d rest e)))
          (λ c g. record {
            same = ap (λ z. cs ++ z ∷ []) g.0 ∙ ap (λ z. z ++ class_outline (types_in tree) d ∷ []) h.same
                ∙ ap (λ z. object ∷ z) (sym (map-append (class_outline (types_in tree)) done (d ∷ [])));
            supers = λ i x l. ⊎_elim (λ a. h.supers i x a) (λ a. subst (HasSupers tree) a.1 g.1) (push-cases done d i x l);
          })
          (λ r q. q)

  pub classes-outline : (cs : List PlainClass) → AreClasses tree cs → cs ≡ (outline tree).classes
  unfolding outline
  classes-outline cs h = h.same
