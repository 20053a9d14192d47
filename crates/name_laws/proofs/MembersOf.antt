-- Where the fields, methods and constructors of a tree stand: in which declaration, and of what form.
use Rattle.std.proofs.Common.{◌≡◌, ℕ, zero, suc, ◌+◌, ◌<◌, ◌≤◌, ◌⊎◌, inl, inr, ⊎_elim, Bool, true, false, List, [], ◌∷◌, ◌++◌, length, Option, Some, None, Contains, refl, sym, ap, ◌∙◌, subst, arith}
use Rattle.std.specs.Prelude.{slice_get, if◌then◌else◌, ◌==◌, ◌||◌}
use Rattle.std.specs.Option.{is_some, option_and_then}
use Rattle.std.specs.List.{list_all}
use Rattle.std.proofs.lemmas.Bool.{false≢true, and_parts}
use Rattle.std.proofs.lemmas.Option.{slice_get_within}
use Rattle.std.proofs.lemmas.List.Elements.{Contains-append_right}
use Rattle.unicode_ident.proofs.IdentLemmas.{is_xid_start-ascii}
use Rattle.kaba_base.specs.declared.ClassId.{ClassId}
use Rattle.kaba_base.specs.Words.{is_start, is_part, is_word, is_none, key_of}
use Rattle.kaba_base.proofs.ListLemmas.{first, later, append_cases, at_map, at_left, behind}
use Rattle.java_lex.specs.Writable.{IsName}
use Rattle.java_tree.specs.declared.Id.{Id}
use Rattle.java_tree.specs.Syntax.{Statements, HeadTree, MemberTree, FieldTree, MethodTree, MakerTree, DeclTree, ClassTree, InterfaceTree}
use Rattle.java_tree.specs.Makers.{declares_maker}
use Rattle.java_core.specs.Classes.{parent_of}
use Rattle.java_core.specs.Makers.{maker_name}
use Rattle.java_core.specs.Found.{IsNearest, at_class, above_class}
use Rattle.java_core.proofs.Subclasses.{nearest_of-nearest}
use Rattle.name_rules.specs.declared.parts.Kind.TheVariants as kinds
use Rattle.name_rules.specs.Outline.{FieldAt, MethodAt, fields_of, methods_of, heads_of, fields_declared, methods_declared, fields_from, methods_from, methods_in, has_word, is_abstract_word, name_of, place_of, mods_of, is_interface_of, is_maker, types_in, class_outline, classes_alone, writes_at, writer_of, implied_maker, implied_in, implied_from}
use Rattle.name_rules.specs.Conditions.{written_makers, makers_written}
use Rattle.java_tree.specs.Formed.{Each, IsFormedBase, IsFormedParam, IsFormedHead, IsFormedUp, IsFormedBody, IsFormedMember, IsFormedDecl, IsFormedTree}
use Rattle.name_laws.proofs.Sees.{same_some}

-- no identifier begins as the name of a constructor does
pub no-mark : (x : List ℕ) → IsName (maker_name x) → ⊥
no-mark x h =
    let word = and_parts (is_word (maker_name x)) (is_none (key_of (maker_name x))) h.named in
    let start = and_parts (is_start 60) (list_all is_part x) word.0 in
    false≢true (sym (ap (λ z. z || (60 == 95) || (60 == 36)) (is_xid_start-ascii 60 (omega arith))) ∙ start.0)

-- ---- owners are types of the tree

owner-member : (c : ℕ) (a : Bool) (xs : List MemberTree) (i : ℕ) (m : MethodAt) → slice_get (methods_of c a xs) i ≡ Some m → m.owner ≡ c
owner-member c a [] i m e = absurd (cc e)
owner-member c a (FieldTree mods u n p ∷ xs) i m e = owner-member c a xs i m e
owner-member c a (MakerTree mods n ps up ss p ∷ xs) zero m e = ap (λ z. z.owner) (sym (same_some e))
owner-member c a (MakerTree mods n ps up ss p ∷ xs) (suc i) m e = owner-member c a xs i m e
owner-member c a (MethodTree h b p ∷ xs) zero m e = ap (λ z. z.owner) (sym (same_some e))
owner-member c a (MethodTree h b p ∷ xs) (suc i) m e = owner-member c a xs i m e

owner-head : (c : ℕ) (hs : List HeadTree) (i : ℕ) (m : MethodAt) → slice_get (heads_of c hs) i ≡ Some m → m.owner ≡ c
owner-head c [] i m e = absurd (cc e)
owner-head c (h ∷ hs) zero m e = ap (λ z. z.owner) (sym (same_some e))
owner-head c (h ∷ hs) (suc i) m e = owner-head c hs i m e

pub owner-declared : (c : ℕ) (d : DeclTree) (i : ℕ) (m : MethodAt) → slice_get (methods_declared c d) i ≡ Some m → m.owner ≡ c
owner-declared c (ClassTree mods n parent faces xs p) i m e = owner-member c _ xs i m e
owner-declared c (InterfaceTree mods n parents hs p) i m e = owner-head c hs i m e

pub owner-from : (c : ℕ) (ds : List DeclTree) (i : ℕ) (m : MethodAt) → slice_get (methods_from c ds) i ≡ Some m → m.owner < c + length ds
owner-from c [] i m e = absurd (cc e)
owner-from c (d ∷ ds) i m e =
    ⊎_elim (λ h. let a = owner-declared c d i m h in omega (arith, a)) (λ h. let a = owner-from (suc c) ds h.0 m h.2 in omega (arith, a))
    (append_cases (methods_declared c d) (methods_from (suc c) ds) i m e)

pub owner-least : (c : ℕ) (ds : List DeclTree) (i : ℕ) (m : MethodAt) → slice_get (methods_from c ds) i ≡ Some m → c ≤ m.owner
owner-least c [] i m e = absurd (cc e)
owner-least c (d ∷ ds) i m e =
    ⊎_elim (λ h. let a = owner-declared c d i m h in omega (arith, a)) (λ h. let a = owner-least (suc c) ds h.0 m h.2 in omega (arith, a))
    (append_cases (methods_declared c d) (methods_from (suc c) ds) i m e)

-- a constructor that a class has without writing it
pub record IsImplied (tree : List DeclTree) (c : ℕ) (ds : List DeclTree) (m : MethodAt) : Type 0 where
  pub index : ℕ
  pub decl : DeclTree
  pub stands : slice_get ds index ≡ Some decl
  pub owner : ℕ
  pub owned : owner ≡ c + index
  pub is : implied_maker owner (name_of decl) (place_of decl) ≡ m
  pub unwritten : declares_maker decl ≡ false
  pub writer : is_some (writer_of tree owner) ≡ true

pub implied-at : (tree : List DeclTree) (c : ℕ) (ds : List DeclTree) (i : ℕ) (m : MethodAt) → slice_get (implied_from tree c ds) i ≡ Some m
    → IsImplied tree c ds m
implied-at tree c [] i m e = absurd (cc e)
implied-at tree c (d ∷ ds) i m e =
    ⊎_elim (λ h. here (declares_maker d) refl (is_some (writer_of tree c)) refl i h)
    (λ h. let k = implied-at tree (suc c) ds h.0 m h.2 in let o = k.owned in
    record {
      index = suc k.index;
      decl = k.decl;
      stands = k.stands;
      owner = k.owner;
      owned = omega (arith, o);
      is = k.is;
      unwritten = k.unwritten;
      writer = k.writer;
    })
    (append_cases (implied_in tree c d) (implied_from tree (suc c) ds) i m e)
  where
    here : (w : Bool) → declares_maker d ≡ w → (b : Bool) → is_some (writer_of tree c) ≡ b → (i : ℕ)
        → slice_get (if w then [] else if b then implied_maker c (name_of d) (place_of d) ∷ [] else []) i ≡ Some m → IsImplied tree c (d ∷ ds) m
    here true f b g i h = absurd (cc h)
    here false f false g i h = absurd (cc h)
    here false f true g zero h =
        record { index = 0; decl = d; stands = refl; owner = c; owned = omega arith; is = same_some h; unwritten = f; writer = g }
    here false f true g (suc i) h = absurd (cc h)

-- and where a declaration writes none below one that does, it is there
pub implied-there : (tree : List DeclTree) (c : ℕ) (ds : List DeclTree) (j owner : ℕ) (d : DeclTree) → slice_get ds j ≡ Some d → owner ≡ c + j
    → declares_maker d ≡ false → is_some (writer_of tree owner) ≡ true
    → Contains (implied_from tree c ds) (implied_maker owner (name_of d) (place_of d))
implied-there tree c [] j owner d e o w h = absurd (cc e)
implied-there tree c (x ∷ ds) zero owner d e o w h =
    let same : x ≡ d = same_some e in
    let at : owner ≡ c = omega (arith, o) in
    subst (λ z. Contains (z ++ implied_from tree (suc c) ds) (implied_maker owner (name_of d) (place_of d)))
    (sym (ap (λ z. implied_in tree z d) (sym at) ∙ one) ∙ ap (implied_in tree c) (sym same))
    (first (implied_maker owner (name_of d) (place_of d)) (implied_from tree (suc c) ds))
  where
    one : implied_in tree owner d ≡ implied_maker owner (name_of d) (place_of d) ∷ []
    one = rw (w, h) refl
implied-there tree c (x ∷ ds) (suc j) owner d e o w h =
    Contains-append_right (implied_in tree c x) (implied_from tree (suc c) ds) (implied_maker owner (name_of d) (place_of d))
    (implied-there tree (suc c) ds j owner d e (omega (arith, o)) w h)

pub owner-implied : (tree : List DeclTree) (c : ℕ) (ds : List DeclTree) (i : ℕ) (m : MethodAt) → slice_get (implied_from tree c ds) i ≡ Some m
    → m.owner < c + length ds
owner-implied tree c ds i m e =
    let k = implied-at tree c ds i m e in
    let l = slice_get_within ds k.index k.decl k.stands in let o = k.owned in let s = ap (λ z. z.owner) k.is in omega (arith, l, o, s)

pub least-implied : (tree : List DeclTree) (c : ℕ) (ds : List DeclTree) (i : ℕ) (m : MethodAt) → slice_get (implied_from tree c ds) i ≡ Some m
    → c ≤ m.owner
least-implied tree c ds i m e =
    let k = implied-at tree c ds i m e in let o = k.owned in let s = ap (λ z. z.owner) k.is in omega (arith, o, s)

-- what belongs to this declaration of a list, whose types are numbered from c on
pub record MemberIn (owner : ℕ) (Is : DeclTree → Type 0) (c : ℕ) (ds : List DeclTree) : Type 0 where
  pub index : ℕ
  pub decl : DeclTree
  pub stands : slice_get ds index ≡ Some decl
  pub owned : owner ≡ c + index
  pub is : Is decl

at-first : {owner : ℕ} {Is : DeclTree → Type 0} (c : ℕ) (d : DeclTree) (ds : List DeclTree) → owner ≡ c → Is d → MemberIn owner Is c (d ∷ ds)
at-first c d ds o h = record { index = 0; decl = d; stands = refl; owned = omega (arith, o); is = h }

at-later : {owner : ℕ} {Is : DeclTree → Type 0} (c : ℕ) (d : DeclTree) (ds : List DeclTree) → MemberIn owner Is (suc c) ds → MemberIn owner Is c (d ∷ ds)
at-later c d ds k = let o = k.owned in record { index = suc k.index; decl = k.decl; stands = k.stands; owned = omega (arith, o); is = k.is }

-- what a field has where it stands in a declaration, a class
pub record IsFieldOf (f : FieldAt) (d : DeclTree) : Type 0 where
  pub class : is_interface_of d ≡ false
  pub name : IsName f.name
  pub type : IsFormedBase f.type.base

-- the field stands in one of the declarations
abbrev pub FieldIn : ℕ → List DeclTree → FieldAt → Type 0
FieldIn c ds f = MemberIn f.owner (IsFieldOf f) c ds

-- what a method or a constructor has where it stands in one, a class or an interface
pub record IsMethodOf (m : MethodAt) (d : DeclTree) : Type 0 where
  pub params : Each IsFormedParam m.head.params
  pub body : IsFormedBody m.body
  pub up : IsFormedUp m.up
  pub name : is_maker m ≡ false → IsName m.head.name
  pub no_up : is_maker m ≡ false → m.up ≡ None
  pub in_interface : is_interface_of d ≡ true → (m.kind ≡ kinds.Head) × (m.body ≡ None)
  pub in_class : is_interface_of d ≡ false → is_maker m ≡ false → (m.kind ≡ kinds.Method) × (m.in_abstract ≡ has_word is_abstract_word (mods_of d))
  pub maker : is_maker m ≡ true → (m.head.type ≡ None) × ((ss : Statements) × (m.body ≡ Some ss))

-- the method stands in one of them
abbrev pub MethodIn : ℕ → List DeclTree → MethodAt → Type 0
MethodIn c ds m = MemberIn m.owner (IsMethodOf m) c ds

class-field : (c : ℕ) (xs : List MemberTree) → Each IsFormedMember xs → (i : ℕ) (f : FieldAt) → slice_get (fields_of c xs) i ≡ Some f → (f.owner ≡ c)
    × IsName f.name × IsFormedBase f.type.base
class-field c [] g i f e = absurd (cc e)
class-field c (MethodTree h b p ∷ xs) g i f e = class-field c xs g.1 i f e
class-field c (MakerTree mods n ps up ss p ∷ xs) g i f e = class-field c xs g.1 i f e
class-field c (FieldTree mods u n p ∷ xs) g zero f e =
    let s = same_some e in (ap (λ z. z.owner) (sym s), subst (λ z. IsName z.name) s g.0.2, subst (λ z. IsFormedBase z.type.base) s g.0.1)
class-field c (FieldTree mods u n p ∷ xs) g (suc i) f e = class-field c xs g.1 i f e

class-method : (c : ℕ) (a : Bool) (d : DeclTree) → is_interface_of d ≡ false → a ≡ has_word is_abstract_word (mods_of d) → (xs : List MemberTree)
    → Each IsFormedMember xs → (i : ℕ) (m : MethodAt) → slice_get (methods_of c a xs) i ≡ Some m → (m.owner ≡ c) × IsMethodOf m d
class-method c a d f o [] g i m e = absurd (cc e)
class-method c a d f o (FieldTree mods u n p ∷ xs) g i m e = class-method c a d f o xs g.1 i m e
class-method c a d f o (MakerTree mods n ps up ss p ∷ xs) g zero m e =
    subst (λ z. (z.owner ≡ c) × IsMethodOf z d) (same_some e) (
      refl,
      record {
        params = g.0.2;
        body = g.0.4;
        up = g.0.3;
        name = λ k. absurd (cc k);
        no_up = λ k. absurd (cc k);
        in_interface = λ k. absurd (false≢true (sym f ∙ k));
        in_class = λ k l. absurd (cc l);
        maker = λ k. (refl, (ss, refl));
      },
    )
class-method c a d f o (MakerTree mods n ps up ss p ∷ xs) g (suc i) m e = class-method c a d f o xs g.1 i m e
class-method c a d f o (MethodTree h b p ∷ xs) g zero m e =
    subst (λ z. (z.owner ≡ c) × IsMethodOf z d) (same_some e) (
      refl,
      record {
        params = g.0.0.3;
        body = g.0.1;
        up = tt;
        name = λ k. g.0.0.2;
        no_up = λ k. refl;
        in_interface = λ k. absurd (false≢true (sym f ∙ k));
        in_class = λ k l. (refl, o);
        maker = λ k. absurd (cc k);
      },
    )
class-method c a d f o (MethodTree h b p ∷ xs) g (suc i) m e = class-method c a d f o xs g.1 i m e

pub member-name : (c : ℕ) (a : Bool) (xs : List MemberTree) → Each IsFormedMember xs → (i : ℕ) (m : MethodAt) → slice_get (methods_of c a xs) i ≡ Some m
    → is_maker m ≡ false → IsName m.head.name
member-name c a [] g i m e k = absurd (cc e)
member-name c a (FieldTree mods u n p ∷ xs) g i m e k = member-name c a xs g.1 i m e k
member-name c a (MakerTree mods n ps up ss p ∷ xs) g zero m e k = absurd (false≢true (sym k ∙ ap (λ z. is_maker z) (sym (same_some e))))
member-name c a (MakerTree mods n ps up ss p ∷ xs) g (suc i) m e k = member-name c a xs g.1 i m e k
member-name c a (MethodTree h b p ∷ xs) g zero m e k = subst (λ z. IsName z.head.name) (same_some e) g.0.0.2
member-name c a (MethodTree h b p ∷ xs) g (suc i) m e k = member-name c a xs g.1 i m e k

interface-method : (c : ℕ) (d : DeclTree) → is_interface_of d ≡ true → (hs : List HeadTree) → Each IsFormedHead hs → (i : ℕ) (m : MethodAt)
    → slice_get (heads_of c hs) i ≡ Some m → (m.owner ≡ c) × IsMethodOf m d
interface-method c d f [] g i m e = absurd (cc e)
interface-method c d f (h ∷ hs) g zero m e =
    subst (λ z. (z.owner ≡ c) × IsMethodOf z d) (same_some e) (
      refl,
      record {
        params = g.0.3;
        body = tt;
        up = tt;
        name = λ k. g.0.2;
        no_up = λ k. refl;
        in_interface = λ k. (refl, refl);
        in_class = λ k l. absurd (false≢true (sym k ∙ f));
        maker = λ k. absurd (cc k);
      },
    )
interface-method c d f (h ∷ hs) g (suc i) m e = interface-method c d f hs g.1 i m e

field-declared : (c : ℕ) (d : DeclTree) → IsFormedDecl d → (i : ℕ) (f : FieldAt) → slice_get (fields_declared c d) i ≡ Some f → (f.owner ≡ c)
    × IsName f.name × IsFormedBase f.type.base × (is_interface_of d ≡ false)
field-declared c (ClassTree mods n parent faces xs p) g i f e = let h = class-field c xs g.4 i f e in (h.0, h.1, h.2, refl)
field-declared c (InterfaceTree mods n parents hs p) g i f e = absurd (cc e)

method-declared : (c : ℕ) (d : DeclTree) → IsFormedDecl d → (ds : List DeclTree) → (i : ℕ) (m : MethodAt) → slice_get (methods_declared c d) i
    ≡ Some m → MethodIn c (d ∷ ds) m
method-declared c (ClassTree mods n parent faces xs p) g ds i m e =
    let h = class-method c (has_word is_abstract_word mods) (ClassTree mods n parent faces xs p) refl refl xs g.4 i m e in
    at-first c (ClassTree mods n parent faces xs p) ds h.0 h.1
method-declared c (InterfaceTree mods n parents hs p) g ds i m e =
    let h = interface-method c (InterfaceTree mods n parents hs p) refl hs g.3 i m e in at-first c (InterfaceTree mods n parents hs p) ds h.0 h.1

pub field-in : (c : ℕ) (ds : List DeclTree) → Each IsFormedDecl ds → (i : ℕ) (f : FieldAt) → slice_get (fields_from c ds) i ≡ Some f → FieldIn c ds f
field-in c [] g i f e = absurd (cc e)
field-in c (d ∷ ds) g i f e =
    ⊎_elim (λ h. let k = field-declared c d g.0 i f h in at-first c d ds k.0 (record { class = k.3; name = k.1; type = k.2 }))
    (λ h. at-later c d ds (field-in (suc c) ds g.1 h.0 f h.2)) (append_cases (fields_declared c d) (fields_from (suc c) ds) i f e)

pub method-in : (c : ℕ) (ds : List DeclTree) → Each IsFormedDecl ds → (i : ℕ) (m : MethodAt) → slice_get (methods_from c ds) i ≡ Some m → MethodIn c ds m
method-in c [] g i m e = absurd (cc e)
method-in c (d ∷ ds) g i m e =
    ⊎_elim (λ h. method-declared c d g.0 ds i m h) (λ h. at-later c d ds (method-in (suc c) ds g.1 h.0 m h.2))
    (append_cases (methods_declared c d) (methods_from (suc c) ds) i m e)

-- above an interface stands Object alone, which writes no constructor
no-writer : (tree : List DeclTree) (j : ℕ) (d : DeclTree) → slice_get tree j ≡ Some d → is_interface_of d ≡ true → is_some (writer_of tree (suc j)) ≡ true → ⊥
no-writer tree j (ClassTree mods n parent faces xs p) at f h = absurd (false≢true f)
no-writer tree j (InterfaceTree mods n parents hs p) at f h = go (writer_of tree (suc j)) refl h
  where
    own : writes_at tree (suc j) ≡ None
    own = rw at refl

    up : parent_of (classes_alone tree) (suc j) ≡ Some (record { 0 = 0 })
    up = ap (option_and_then (λ k. k.parent)) (at_map (class_outline (types_in tree)) tree j (InterfaceTree mods n parents hs p) at)

    top : {d : ℕ} → (p : ClassId) → p ≡ record { 0 = 0 } → IsNearest (classes_alone tree) (writes_at tree) p.0 d → ⊥
    top p same (at_class e) = cc (sym (ap (λ z. writes_at tree z.0) same) ∙ e)
    top p same (above_class {p = q} none above more) = cc (sym (ap (λ z. parent_of (classes_alone tree) z.0) same) ∙ above)

    none-above : {d : ℕ} → IsNearest (classes_alone tree) (writes_at tree) (suc j) d → ⊥
    none-above (at_class e) = cc (sym own ∙ e)
    none-above (above_class {p = p} none above more) = top p (same_some (sym above ∙ up)) more

    go : (o : Option ℕ) → writer_of tree (suc j) ≡ o → is_some o ≡ true → ⊥
    go None e h = false≢true h
    go (Some d) e h = none-above (nearest_of-nearest (classes_alone tree) (writes_at tree) e)

-- each method and each constructor of a tree stands in a declaration
pub method-of : (tree : List DeclTree) → IsFormedTree tree → (i : ℕ) (m : MethodAt) → slice_get (methods_in tree) i ≡ Some m → MethodIn 1 tree m
method-of tree g i m e =
    ⊎_elim (λ h. method-in 1 tree g i m h) (λ h. implied h.0 h.2) (append_cases (methods_from 1 tree) (implied_from tree 1 tree) i m e)
  where
    implied : (j : ℕ) → slice_get (implied_from tree 1 tree) j ≡ Some m → MethodIn 1 tree m
    implied j at =
        let k = implied-at tree 1 tree j m at in
        let o : k.owner ≡ suc k.index = let l = k.owned in omega (arith, l) in
        subst (λ z. MethodIn 1 tree z) k.is (record {
          index = k.index;
          decl = k.decl;
          stands = k.stands;
          owned = k.owned;
          is = record {
            params = tt;
            body = tt;
            up = tt;
            name = λ f. absurd (cc f);
            no_up = λ f. absurd (cc f);
            in_interface = λ f. absurd (no-writer tree k.index k.decl k.stands f (subst (λ z. is_some (writer_of tree z) ≡ true) o k.writer));
            in_class = λ f l. absurd (cc l);
            maker = λ f. (refl, (_, refl));
          };
        })

-- ---- constructors that a declaration writes

-- a method is a constructor that the declaration writes
pub record IsWritten (m : MethodAt) (d : DeclTree) : Type 0 where
  pub word : Id
  pub among : Contains (makers_written d) word
  pub name : m.head.name ≡ maker_name word.name

pub written-member : (c : ℕ) (a : Bool) (xs : List MemberTree) (i : ℕ) (m : MethodAt) → slice_get (methods_of c a xs) i ≡ Some m → is_maker m ≡ true
    → (w : Id) × Contains (written_makers xs) w × (m.head.name ≡ maker_name w.name)
written-member c a [] i m e k = absurd (cc e)
written-member c a (FieldTree mods u n p ∷ xs) i m e k = written-member c a xs i m e k
written-member c a (MethodTree h b p ∷ xs) zero m e k = absurd (false≢true (ap (λ z. is_maker z) (same_some e) ∙ k))
written-member c a (MethodTree h b p ∷ xs) (suc i) m e k = written-member c a xs i m e k
written-member c a (MakerTree mods n ps up ss p ∷ xs) zero m e k =
    (record { name = n; place = p }, first (record { name = n; place = p }) (written_makers xs), ap (λ z. z.head.name) (sym (same_some e)))
written-member c a (MakerTree mods n ps up ss p ∷ xs) (suc i) m e k =
    let w = written-member c a xs i m e k in (w.0, later (record { name = n; place = p }) (written_makers xs) w.0 w.1, w.2)

no-maker-head : (c : ℕ) (hs : List HeadTree) (i : ℕ) (m : MethodAt) → slice_get (heads_of c hs) i ≡ Some m → is_maker m ≡ false
no-maker-head c [] i m e = absurd (cc e)
no-maker-head c (h ∷ hs) zero m e = ap (λ z. is_maker z) (sym (same_some e))
no-maker-head c (h ∷ hs) (suc i) m e = no-maker-head c hs i m e

written-declared : (c : ℕ) (d : DeclTree) (i : ℕ) (m : MethodAt) → slice_get (methods_declared c d) i ≡ Some m → is_maker m ≡ true → IsWritten m d
written-declared c (ClassTree mods n parent faces xs p) i m e k =
    let w = written-member c (has_word is_abstract_word mods) xs i m e k in record { word = w.0; among = w.1; name = w.2 }
written-declared c (InterfaceTree mods n parents hs p) i m e k = absurd (false≢true (sym (no-maker-head c hs i m e) ∙ k))

pub written-in : (c : ℕ) (ds : List DeclTree) (i : ℕ) (m : MethodAt) → slice_get (methods_from c ds) i ≡ Some m → is_maker m ≡ true
    → MemberIn m.owner (IsWritten m) c ds
written-in c [] i m e k = absurd (cc e)
written-in c (d ∷ ds) i m e k =
    ⊎_elim (λ h. at-first c d ds (owner-declared c d i m h) (written-declared c d i m h k)) (λ h. at-later c d ds (written-in (suc c) ds h.0 m h.2 k))
    (append_cases (methods_declared c d) (methods_from (suc c) ds) i m e)

-- the constructor of a word is one of the methods
pub record HasMaker (c : ℕ) (ms : List MethodAt) (w : Id) : Type 0 where
  pub number : ℕ
  pub method : MethodAt
  pub stands : slice_get ms number ≡ Some method
  pub owner : method.owner ≡ c
  pub maker : is_maker method ≡ true
  pub name : method.head.name ≡ maker_name w.name

abbrev maker-later : {c : ℕ} {m : MethodAt} {ms : List MethodAt} {w : Id} → HasMaker c ms w → HasMaker c (m ∷ ms) w
maker-later h = record { number = suc h.number; method = h.method; stands = h.stands; owner = h.owner; maker = h.maker; name = h.name }

maker-of : (c : ℕ) (a : Bool) (xs : List MemberTree) (i : ℕ) (w : Id) → slice_get (written_makers xs) i ≡ Some w → HasMaker c (methods_of c a xs) w
maker-of c a [] i w e = absurd (cc e)
maker-of c a (FieldTree mods u n p ∷ xs) i w e = maker-of c a xs i w e
maker-of c a (MethodTree h b p ∷ xs) i w e = maker-later (maker-of c a xs i w e)
maker-of c a (MakerTree mods n ps up ss p ∷ xs) zero w e =
    record { number = 0; method = _; stands = refl; owner = refl; maker = refl; name = ap (λ z. maker_name z.name) (same_some e) }
maker-of c a (MakerTree mods n ps up ss p ∷ xs) (suc i) w e = maker-later (maker-of c a xs i w e)

-- two of them stand one behind the other
makers-of : (c : ℕ) (a : Bool) (xs : List MemberTree) (i j : ℕ) (v w : Id) → slice_get (written_makers xs) i ≡ Some v
    → slice_get (written_makers xs) j ≡ Some w → i < j
    → (h : HasMaker c (methods_of c a xs) v) × (k : HasMaker c (methods_of c a xs) w) × (h.number < k.number)
makers-of c a [] i j v w e f lt = absurd (cc e)
makers-of c a (FieldTree mods u n p ∷ xs) i j v w e f lt = makers-of c a xs i j v w e f lt
makers-of c a (MethodTree h b p ∷ xs) i j v w e f lt =
    let r = makers-of c a xs i j v w e f lt in let l = r.2 in (maker-later r.0, maker-later r.1, omega (arith, l))
makers-of c a (MakerTree mods n ps up ss p ∷ xs) zero zero v w e f lt = absurd (omega (arith, lt))
makers-of c a (MakerTree mods n ps up ss p ∷ xs) zero (suc j) v w e f lt = (
  record { number = 0; method = _; stands = refl; owner = refl; maker = refl; name = ap (λ z. maker_name z.name) (same_some e) },
  maker-later (maker-of c a xs j w f),
  omega arith,
)
makers-of c a (MakerTree mods n ps up ss p ∷ xs) (suc i) zero v w e f lt = absurd (omega (arith, lt))
makers-of c a (MakerTree mods n ps up ss p ∷ xs) (suc i) (suc j) v w e f lt =
    let r = makers-of c a xs i j v w e f (omega (arith, lt)) in let l = r.2 in (maker-later r.0, maker-later r.1, omega (arith, l))

abbrev maker-front : {c : ℕ} {xs : List MethodAt} {w : Id} (ys : List MethodAt) → HasMaker c xs w → HasMaker c (xs ++ ys) w
maker-front {xs = xs} ys h = record {
  number = h.number;
  method = h.method;
  stands = at_left xs ys h.number h.method h.stands;
  owner = h.owner;
  maker = h.maker;
  name = h.name;
}

abbrev maker-behind : {c : ℕ} {ys : List MethodAt} {w : Id} (xs : List MethodAt) → HasMaker c ys w → HasMaker c (xs ++ ys) w
maker-behind {ys = ys} xs h = record {
  number = length xs + h.number;
  method = h.method;
  stands = behind xs ys h.number ∙ h.stands;
  owner = h.owner;
  maker = h.maker;
  name = h.name;
}

pub maker-from : (c : ℕ) (ds : List DeclTree) (k owner : ℕ) (d : DeclTree) → slice_get ds k ≡ Some d → owner ≡ c + k → (i : ℕ) (w : Id)
    → slice_get (makers_written d) i ≡ Some w → HasMaker owner (methods_from c ds) w
maker-from c [] k owner d at o i w e = absurd (cc at)
maker-from c (InterfaceTree mods n parents hs p ∷ ds) zero owner d at o i w e =
    absurd (cc (ap (λ z. slice_get (makers_written z) i) (same_some at) ∙ e))
maker-from c (ClassTree mods n parent faces xs p ∷ ds) zero owner d at o i w e =
    let f = ap (λ z. slice_get (makers_written z) i) (same_some at) ∙ e in
    subst (λ z. HasMaker z (methods_of c (has_word is_abstract_word mods) xs ++ methods_from (suc c) ds) w) (let same : c ≡ owner = omega (arith, o) in same)
    (maker-front (methods_from (suc c) ds) (maker-of c (has_word is_abstract_word mods) xs i w f))
maker-from c (x ∷ ds) (suc k) owner d at o i w e = maker-behind (methods_declared c x) (maker-from (suc c) ds k owner d at (omega (arith, o)) i w e)

pub makers-from : (c : ℕ) (ds : List DeclTree) (k owner : ℕ) (d : DeclTree) → slice_get ds k ≡ Some d → owner ≡ c + k → (i j : ℕ) (v w : Id)
    → slice_get (makers_written d) i ≡ Some v → slice_get (makers_written d) j ≡ Some w → i < j
    → (g : HasMaker owner (methods_from c ds) v) × (h : HasMaker owner (methods_from c ds) w) × (g.number < h.number)
makers-from c [] k owner d at o i j v w e f lt = absurd (cc at)
makers-from c (InterfaceTree mods n parents hs p ∷ ds) zero owner d at o i j v w e f lt =
    absurd (cc (ap (λ z. slice_get (makers_written z) i) (same_some at) ∙ e))
makers-from c (ClassTree mods n parent faces xs p ∷ ds) zero owner d at o i j v w e f lt =
    let a = has_word is_abstract_word mods in
    let r = makers-of c a xs i j v w (ap (λ z. slice_get (makers_written z) i) (same_some at) ∙ e)
    (ap (λ z. slice_get (makers_written z) j) (same_some at) ∙ f) lt in
    let same : c ≡ owner = omega (arith, o) in
    subst (λ z. (g : HasMaker z (methods_of c a xs ++ methods_from (suc c) ds) v) × (h : HasMaker z (methods_of c a xs ++ methods_from (suc c) ds) w)
    × (g.number < h.number)) same (maker-front (methods_from (suc c) ds) r.0, maker-front (methods_from (suc c) ds) r.1, r.2)
makers-from c (x ∷ ds) (suc k) owner d at o i j v w e f lt =
    let r = makers-from (suc c) ds k owner d at (omega (arith, o)) i j v w e f lt in
    let l = r.2 in (maker-behind (methods_declared c x) r.0, maker-behind (methods_declared c x) r.1, omega (arith, l))

-- methods stand in the order of their owners
least-owner : (c : ℕ) (ds : List DeclTree) → Each IsFormedDecl ds → (i : ℕ) (m : MethodAt) → slice_get (methods_from c ds) i ≡ Some m → c ≤ m.owner
least-owner c ds g i m e = let h = (method-in c ds g i m e).owned in omega (arith, h)

pub owners-rise : (c : ℕ) (ds : List DeclTree) → Each IsFormedDecl ds → (i j : ℕ) (a b : MethodAt) → slice_get (methods_from c ds) i ≡ Some a
    → slice_get (methods_from c ds) j ≡ Some b → i ≤ j → a.owner ≤ b.owner
owners-rise c [] g i j a b e f lt = absurd (cc e)
owners-rise c (d ∷ ds) g i j a b e f lt =
    go (append_cases (methods_declared c d) (methods_from (suc c) ds) i a e) (append_cases (methods_declared c d) (methods_from (suc c) ds) j b f)
    (λ k l p q r. owners-rise (suc c) ds g.1 k l a b p q r)
  where
    go : (slice_get (methods_declared c d) i ≡ Some a) ⊎ ((k : ℕ) × (i ≡ length (methods_declared c d) + k) × (slice_get (methods_from (suc c) ds) k ≡ Some a))
        → (slice_get (methods_declared c d) j ≡ Some b) ⊎ ((k : ℕ) × (j ≡ length (methods_declared c d) + k) × (slice_get (methods_from (suc c) ds) k ≡ Some b))
        → ((k l : ℕ) → slice_get (methods_from (suc c) ds) k ≡ Some a → slice_get (methods_from (suc c) ds) l ≡ Some b → k ≤ l → a.owner ≤ b.owner)
        → a.owner ≤ b.owner
    go (inl p) (inl q) more = let x = owner-declared c d i a p in let y = owner-declared c d j b q in omega (arith, x, y)
    go (inl p) (inr q) more = let x = owner-declared c d i a p in let y = least-owner (suc c) ds g.1 q.0 b q.2 in omega (arith, x, y)
    go (inr p) (inl q) more = absurd (let l = slice_get_within (methods_declared c d) j b q in let m = p.1 in omega (arith, l, m, lt))
    go (inr p) (inr q) more = more p.0 q.0 p.2 q.2 (let l = p.1 in let m = q.1 in omega (arith, l, m, lt))
