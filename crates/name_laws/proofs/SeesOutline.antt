-- The tables of the declarations see what the outline has.
use Rattle.std.proofs.Common.{◌≡◌, ℕ, ◌<◌, ⊎_elim, Bool, true, false, ◌&&◌, List, [], ◌∷◌, map, length, Option, Some, None, Contains, refl, sym, ap, ◌∙◌, subst, arith}
use Rattle.std.specs.Prelude.{slice_get, ◌==◌, not, position}
use Rattle.std.specs.Option.{is_some, option_map, option_map_or, option_and_then}
use Rattle.std.specs.Str.{bytes_eq}
use Rattle.std.proofs.lemmas.Bool.{and_parts, false≢true, eqb-true, eq-eqb}
use Rattle.std.proofs.lemmas.List.{length-map}
use Rattle.std.proofs.lemmas.Option.{slice_get-map}
use Rattle.std.proofs.lemmas.Slice.Eq.{bytes_eq-Decides}
use Rattle.kaba_base.specs.declared.ClassId.{ClassId}
use Rattle.kaba_base.proofs.ListLemmas.{map_at, at_map}
use Rattle.java_tree.specs.Syntax.{DeclTree}
use Rattle.java_core.specs.Programs.{Plain, PlainClass, PlainMethod, field_seen}
use Rattle.java_core.specs.Classes as core
use Rattle.java_core.specs.Makers.{maker_name, maker_of}
use Rattle.java_core.specs.Classes.{IsSubclass, parent_of, faces_of, first_or, nearest, own_field_of, field_of, is_field_of}
use Rattle.java_core.proofs.Positions.{position-map, position-passes, passes-position}
use Rattle.java_core.proofs.Subclasses.{nearest_of-nearest, supers-within}
use Rattle.java_core.proofs.Upwards.{nearest-own}
use Rattle.name_laws.specs.Known.{KnownClass}
use Rattle.name_laws.specs.declared.parts.Heading.{Heading}
use Rattle.name_laws.specs.Tables as table
use Rattle.name_laws.specs.Tables.{Table, parent_in, or_above, nearest_in, nearest_field, own_field, own_method, method_met, is_above}
use Rattle.name_laws.specs.Members.{Members}
use Rattle.name_laws.specs.Resolved as resolved
use Rattle.name_rules.specs.Outline.{MethodAt, is_maker, is_static, fields_in, methods_in, types_in, method_outline, outline}
use Rattle.name_rules.specs.Meanings.{IsStaticMethodOf, IsMet, first_method}
use Rattle.name_rules.proofs.FirstMethods.{first-met}
use Rattle.name_laws.proofs.Sees.{Sees, StandsField, StandsMethod, OwnMethod, MetMethod, same_some}
use Rattle.name_laws.proofs.Runs.{none-passes, stands-beside}
use Rattle.name_laws.proofs.KnownTypes.{AreKnown}
use Rattle.name_laws.proofs.Modifiers.{AreFit, no-static-maker, maker-kind}
use Rattle.name_laws.proofs.KnownClasses.{HasSupers, known-named, type_names-outline}
use Rattle.name_laws.proofs.Reached.{AreAbove, NoLoops}
use Rattle.name_laws.proofs.FoundFirst.{IsLadder, met-first, OneMet}
use Rattle.name_laws.proofs.Ladder.{nothing-above, face-stands, parent-stands, interface-object}
use Rattle.name_laws.proofs.KnownMembers.{AreMembers, both-true, true-both}
use Rattle.name_laws.proofs.MethodClashes.{owner-within, not-object, method_at-outline, outline-method}

-- two that are there together
both-some : (a b : Option ℕ) → ((i : ℕ) → a ≡ Some i → (j : ℕ) × (b ≡ Some j)) → ((i : ℕ) → b ≡ Some i → (j : ℕ) × (a ≡ Some j)) → is_some a ≡ is_some b
both-some None None to back = refl
both-some (Some i) (Some j) to back = refl
both-some None (Some j) to back = absurd (cc (back j refl).1)
both-some (Some i) None to back = absurd (cc (to i refl).1)

-- the test of an own method
pub is-own : (c : ℕ) (x : List ℕ) (k : PlainMethod) → k.owner ≡ c → k.is_static ≡ false → k.name ≡ x → core.is_method_of c x k ≡ true
is-own c x k owner static name = rw (eq-eqb k.owner c owner, static) ((bytes_eq-Decides k.name x).1 name)

pub own-is : (c : ℕ) (x : List ℕ) (k : PlainMethod) → core.is_method_of c x k ≡ true → (k.owner ≡ c) × (k.name ≡ x)
own-is c x k e =
    let a = and_parts (k.owner == c) (not k.is_static && bytes_eq k.name x) e in
    (eqb-true k.owner c a.0, (bytes_eq-Decides k.name x).0 (and_parts (not k.is_static) (bytes_eq k.name x) a.1).1)

module _ (tree : List DeclTree) (known : List KnownClass) (are : AreKnown tree known) (rows : List (List Bool)) (above : AreAbove (outline tree) rows)
    (m : Members) (members : AreMembers tree known are (fields_in tree) (methods_in tree) m) where
  abbrev O : Plain
  O = outline tree

  abbrev T : Table
  T = resolved.table known (outline tree).classes rows m

  pub fields-are : (outline tree).fields ≡ map field_seen m.fields
  unfolding outline
  fields-are = sym members.fields

  own-same : (c : ℕ) (n : List ℕ) → own_field T c n ≡ own_field_of O c n
  own-same c n = sym (position-map field_seen (λ f. is_field_of c n f) m.fields)
      ∙ ap (position (λ f. is_field_of c n f)) (sym fields-are)

  own-stands : (c : ℕ) (n : List ℕ) (f : ℕ) → own_field_of O c n ≡ Some f → StandsField T O f
  own-stands c n f e =
      let a = position-passes (λ f. is_field_of c n f) O.fields f e in
      let b = map_at field_seen m.fields f a.0 (ap (λ z. slice_get z f) (sym fields-are) ∙ a.1) in
      record {
        seen = b.0;
        member = a.0;
        seen_stands = b.1;
        stands = a.1;
        same = record {
          owner = ap (λ z. z.owner) (sym b.2);
          static = ap
              (λ z. z.is_static) (sym b.2);
        };
      }

  parent-same : (c : ℕ) → table.parent_of T.parents c ≡ parent_of O c
  parent-same c = ap parent_in (slice_get-map (λ k. k.parent) O.classes c) ∙ go (slice_get O.classes c)
    where
      go : (o : Option PlainClass) → parent_in (option_map (λ k. k.parent) o) ≡ option_and_then (λ k. k.parent) o
      go None = refl
      go (Some k) = refl

  nearest-same : (n : List ℕ) (steps : List (Option ClassId)) (c : ℕ) → nearest_in T n steps c ≡ nearest O (λ k. own_field_of O k n) (length steps) c
  nearest-same n [] c = own-same c n
  nearest-same n (s ∷ steps) c =
      ap (λ z. or_above z (table.parent_of T.parents c) (λ p. nearest_in T n steps p)) (own-same c n)
      ∙ ap (λ z. or_above (own_field_of O c n) z (λ p. nearest_in T n steps p)) (parent-same c)
      ∙ go (own_field_of O c n) (parent_of O c) (λ p. nearest-same n steps p)
    where
      go : (o : Option ℕ) (u : Option ClassId) → ((p : ℕ) → nearest_in T n steps p ≡ nearest O (λ k. own_field_of O k n) (length steps) p)
          → or_above o u (λ p. nearest_in T n steps p) ≡ first_or o (option_and_then (λ p. nearest O (λ k. own_field_of O k n) (length steps) p.0) u)
      go (Some f) u more = refl
      go None None more = refl
      go None (Some p) more = more p.0

  nearest-field : (c : ℕ) (n : List ℕ) → nearest_field T c n ≡ field_of O c n
  unfolding nearest_field field_of
  nearest-field c n = nearest-same n T.parents c ∙ ap (λ z. nearest O (λ k. own_field_of O k n) z c) (length-map O.classes _)

  nearest-stands : (c : ℕ) (n : List ℕ) (f : ℕ) → field_of O c n ≡ Some f → StandsField T O f
  unfolding field_of
  nearest-stands c n f e = let a = nearest-own O (λ k. own_field_of O k n) (nearest_of-nearest O (λ k. own_field_of O k n) {a = c} {d = f} e) in
      own-stands a.0 n f a.1

  method-stands : (i : ℕ) (h : Heading) → slice_get m.headings i ≡ Some h → (s : StandsMethod T O i) × (s.member.owner ≡ h.owner) × (s.member.name ≡ h.name)
  method-stands i h e =
      let a = stands-beside m.headings (methods_in tree) members.count i h e in
      let d = members.heads i h a.0 e a.1 in (
        record {
          seen = h;
          member = method_outline (types_in tree) a.0;
          seen_stands = e;
          stands = method_at-outline tree i a.0 a.1;
          same = record
              { owner = sym d.owner; name = sym d.name; static = sym d.static };
        },
        sym d.owner,
        sym d.name,
      )

  heading-stands : (i : ℕ) (k : PlainMethod) → slice_get O.methods i ≡ Some k → (h : Heading) × (n : MethodAt) × (slice_get m.headings i ≡ Some h)
      × (slice_get (methods_in tree) i ≡ Some n) × (k.owner ≡ h.owner) × (k.name ≡ h.name) × (n.owner ≡ k.owner) × (n.head.name ≡ k.name)
  heading-stands i k e =
      let a = outline-method tree i k e in
      let b = stands-beside (methods_in tree) m.headings (sym members.count) i a.0 a.1 in
      let d = members.heads i b.0 a.0 b.1 a.1 in
      (b.0, a.0, b.1, a.1, ap (λ z. z.owner) (sym a.2) ∙ sym d.owner, ap (λ z. z.name) (sym a.2) ∙ sym d.name, ap (λ z. z.owner) a.2, ap (λ z. z.name) a.2)

  own-found : (c : ℕ) (n : List ℕ) (i : ℕ) → own_method T c n ≡ Some i → OwnMethod T O c n i
  unfolding own_method
  own-found c n i e =
      let a = position-passes (λ h. (h.owner == c) && bytes_eq h.name n) m.headings i e in
      let b = both-true a.0.owner c a.0.name n a.2 in
      let s = method-stands i a.0 a.1 in
      record { at = s.0; owner = s.1 ∙ b.0; name = s.2 ∙ b.1 }

  own-only : (c : ℕ) (n : List ℕ) (i : ℕ) → IsStaticMethodOf O c n i → own_method T c n ≡ Some i
  unfolding own_method
  own-only c n i s =
      let a = heading-stands i s.member s.stands in
      let b = passes-position (λ h. (h.owner == c) && bytes_eq h.name n) m.headings i a.0 a.2 (true-both a.0.owner c a.0.name n (sym a.4 ∙ s.owner)
      (sym a.5 ∙ s.name)) in
      let d = position-passes (λ h. (h.owner == c) && bytes_eq h.name n) m.headings b.0 b.1 in
      let e = both-true d.0.owner c d.0.name n d.2 in
      let x = stands-beside m.headings (methods_in tree) members.count b.0 d.0 d.1 in
      let y = members.heads b.0 d.0 x.0 d.1 x.1 in
      b.1 ∙ ap Some (members.method_once b.0 i x.0 a.1 x.1 a.3 (sym y.owner ∙ e.0 ∙ sym (a.6 ∙ s.owner))
      (sym y.name ∙ e.1 ∙ sym (a.7 ∙ s.name)))

  within-owner : (i : ℕ) (h : Heading) → slice_get m.headings i ≡ Some h → h.owner < length O.classes
  within-owner i h e =
      let a = stands-beside m.headings (methods_in tree) members.count i h e in
      let d = (members.heads i h a.0 e a.1).owner in let w = owner-within tree i a.0 a.1 in omega (arith, d, w)

  -- what has the name of a constructor is one, and no static method
  marked-static : (i : ℕ) (h : Heading) (x : List ℕ) → slice_get m.headings i ≡ Some h → h.name ≡ maker_name x → h.is_static ≡ false
  marked-static i h x e same =
      let a = stands-beside m.headings (methods_in tree) members.count i h e in
      let d = members.heads i h a.0 e a.1 in
      let g = members.good i a.0 a.1 in
      d.static ∙ static-of a.0 (g.marked x (sym d.name ∙ same)) g.fit
    where
      static-of : (n : MethodAt) → is_maker n ≡ true → AreFit n.kind n.head.mods → is_static n ≡ false
      static-of n k f = no-static-maker n.head.mods (subst (λ z. AreFit z n.head.mods) (maker-kind n.kind k) f)

  -- a class has a constructor in the tables where it has one in the outline
  maker-same : (c : ℕ) (x : List ℕ) → is_some (own_method T c (maker_name x)) ≡ is_some (core.own_method O c (maker_name x))
  unfolding own_method
  maker-same c x = both-some (own_method T c (maker_name x)) (core.own_method O c (maker_name x)) to back
    where
      to : (i : ℕ) → own_method T c (maker_name x) ≡ Some i → (j : ℕ) × (core.own_method O c (maker_name x) ≡ Some j)
      to i e =
          let a = position-passes (λ h. (h.owner == c) && bytes_eq h.name (maker_name x)) m.headings i e in
          let b = both-true a.0.owner c a.0.name (maker_name x) a.2 in
          let s = method-stands i a.0 a.1 in
          let r = passes-position (λ k. core.is_method_of c (maker_name x) k) O.methods i s.0.member s.0.stands
          (is-own c (maker_name x) s.0.member (s.1 ∙ b.0) (s.0.same.static ∙ marked-static i s.0.seen x s.0.seen_stands (sym s.0.same.name ∙ s.2 ∙ b.1))
          (s.2 ∙ b.1)) in
          (r.0, r.1)

      back : (i : ℕ) → core.own_method O c (maker_name x) ≡ Some i → (j : ℕ) × (own_method T c (maker_name x) ≡ Some j)
      back i e =
          let a = position-passes (λ k. core.is_method_of c (maker_name x) k) O.methods i e in
          let o = own-is c (maker_name x) a.0 a.2 in
          let h = heading-stands i a.0 a.1 in
          let r = passes-position (λ h. (h.owner == c) && bytes_eq h.name (maker_name x)) m.headings i h.0 h.2
          (true-both h.0.owner c h.0.name (maker_name x) (sym h.4 ∙ o.0) (sym h.5 ∙ o.1)) in
          (r.0, r.1)

  name-of : (c : ℕ) (k : PlainClass) → slice_get O.classes c ≡ Some k → resolved.class_name_in T c ≡ k.name
  name-of c k e =
      let a = map_at (λ z. z.name) known c k.name (ap (λ z. slice_get z c) (are.names ∙ sym (type_names-outline tree))
      ∙ at_map (λ z. z.name) O.classes c k e) in
      ap (λ o. option_map_or (λ z. z.name) o []) a.1 ∙ a.2

  has-maker : (c : ℕ) (k : PlainClass) → slice_get O.classes c ≡ Some k → resolved.has_maker_in T c ≡ is_some (maker_of O c)
  unfolding own_method
  has-maker c k e =
      ap (λ z. is_some (own_method T c (maker_name z))) (name-of c k e) ∙ maker-same c k.name
      ∙ ap (λ o. is_some (option_and_then (λ k. core.own_method O c (maker_name k.name)) o)) (sym e)

  met-none : (c : ℕ) (n : List ℕ) → method_met T c n ≡ None → (i : ℕ) (k : PlainMethod) → IsMet O c n i k → ⊥
  unfolding method_met
  met-none c n e i k h =
      let a = heading-stands i k h.stands in
      none-passes (λ h. is_above rows c h.owner && bytes_eq h.name n) m.headings e i a.0 a.2
      (ap (λ z. z && bytes_eq a.0.name n) (above.whole c a.0.owner (within-owner i a.0 a.2) (subst (λ z. IsSubclass O c z) a.4 h.above))
      ∙ (bytes_eq-Decides a.0.name n).1 (sym a.5 ∙ h.name))

  module _ (supers : (i : ℕ) (d : DeclTree) → slice_get tree i ≡ Some d → HasSupers tree d) {number : ℕ}
      (loops : NoLoops tree (outline tree).classes number) (one : OneMet (outline tree)) where
    -- the types of a tree go in no circle, and an interface has Object as its parent
    ladder : IsLadder O
    ladder = record {
      acyclic = λ c h. loops.none c (supers-within O c h.by h.direct) h;
      top = nothing-above tree;
      interfaces = interface-parent;
    }
      where
        interface-parent : (c : ℕ) (k p : ClassId) → Contains (faces_of O c) k → parent_of O k.0 ≡ Some p → p.0 ≡ 0
        interface-parent c k p has up = let f = face-stands tree known are supers c k has in interface-object tree k.0 p f.0 f.1 f.2 up

    met-found : (c : ℕ) (n : List ℕ) (i : ℕ) → method_met T c n ≡ Some i → MetMethod T O c n i
    unfolding method_met
    met-found c n i e =
        let a = position-passes (λ h. is_above rows c h.owner && bytes_eq h.name n) m.headings i e in
        let b = and_parts (is_above rows c a.0.owner) (bytes_eq a.0.name n) a.2 in
        let s = method-stands i a.0 a.1 in
        let k = s.0.member in
        let met : IsMet O c n i k = record {
          stands = s.0.stands;
          name = s.2 ∙ (bytes_eq-Decides a.0.name n).0 b.1;
          above = subst (λ z. IsSubclass O c z) (sym s.1) (above.sound c a.0.owner (within-owner i a.0 a.1) b.0);
        } in
        let x = outline-method tree i k s.0.stands in
        let f = met-first O ladder (λ z. not-object tree i x.0 x.1 (ap (λ z. z.owner) x.2 ∙ z)) met in
        let both = one c n i f.0 k f.1 met (first-met O f.2) in
        record {
          at = s.0;
          static = λ t. ⊎_elim (λ same. let first : first_method O c n ≡ Some i = f.2.first ∙ ap Some (sym same) in record { first = first; stands = s.0.stands })
              (λ other. absurd (false≢true (sym other.0 ∙ t))) both;
          instance = λ t. (
            f.0,
            f.1,
            f.2,
            ⊎_elim (λ same. ap (λ z. z.is_static) (same_some (sym f.2.stands ∙ ap (slice_get O.methods) (sym same) ∙ s.0.stands)) ∙ t) (λ other. other.1) both,
          );
        }

    -- the superclass of a class is there
    parent-there : (c : ℕ) (b : ClassId) → parent_of O c ≡ Some b → (k : PlainClass) × (slice_get O.classes b.0 ≡ Some k)
    parent-there c b up = parent-stands tree known are supers c b up

    pub sees-outline : Sees T O
    sees-outline = record {
      types = known-named tree known are;
      nearest = nearest-field;
      nearest_stands = nearest-stands;
      own = own-same;
      own_stands = own-stands;
      own_found = own-found;
      own_only = own-only;
      met = met-found;
      met_none = met-none;
      parents = parent-same;
      above = parent-there;
      class_name = name-of;
      maker = has-maker;
    }
