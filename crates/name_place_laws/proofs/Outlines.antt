-- The outline of a tree without places is that of the tree, its tags taken off.
use Rattle.std.proofs.Common.{◌≡◌, ℕ, zero, suc, length, ◌||◌, Bool, false, true, List, [], ◌∷◌, ◌++◌, map, Option, Some, None, refl, sym, ap, ◌∙◌, ap₂}
use Rattle.std.specs.Prelude.{codes, slice_get, option_and_then, if◌then◌else◌}
use Rattle.std.specs.Option.{is_some, option_map}
use Rattle.std.specs.List.{list_any}
use Rattle.std.proofs.lemmas.List.{map-append, length-map}
use Rattle.std.proofs.lemmas.Option.{slice_get-map}
use Rattle.kaba_base.specs.declared.words.Keyword.{Keyword}
use Rattle.java_tree.specs.declared.Id.{Id}
use Rattle.java_tree.specs.declared.Modifier.{Modifier}
use Rattle.java_tree.specs.declared.TypeName.{TypeName}
use Rattle.java_tree.specs.Syntax.{MemberTree, FieldTree, MethodTree, MakerTree, DeclTree, ClassTree, InterfaceTree}
use Rattle.java_tree.specs.Places.{nowhere, all_unplaced, may_unplaced, id_unplaced, modifier_unplaced, type_unplaced, param_unplaced, exprs_unplaced, stmts_unplaced, head_unplaced, member_unplaced, decl_unplaced, unplaced}
use Rattle.java_tree.specs.Makers.{declares_maker}
use Rattle.java_tree.specs.Makers as tree_makers
use Rattle.name_rules.specs.declared.parts.Kind.TheVariants as kinds
use Rattle.name_rules.specs.Outline.{FieldAt, MethodAt, maker_head, name_of, place_of, classes_alone, writes_at, writer_of, implied_maker, implied_in, implied_from, is_maker, is_public, has_word, is_abstract_word, is_static_word, is_public_word, types_in, type_meant, id_meant, fields_of, methods_of, fields_declared, methods_declared, fields_from, methods_from, fields_in, methods_in, object, parent_meant, class_outline, field_outline, param_outline, method_outline, outline}
use Rattle.kaba_base.specs.declared.ClassId.{ClassId}
use Rattle.java_core.specs.Programs.{PlainClass}
use Rattle.java_core.specs.Classes.{nearest, nearest_of}
use Rattle.name_place_laws.proofs.Meanings.{nearest-same}
use Rattle.java_core.specs.Untagged.{bare_tag, untag_local, untag_class, untag_field, untag_method, untagged}

-- ---- lists

pub all-mapped : {A : Type 0} (u : A → A) (xs : List A) → all_unplaced u xs ≡ map u xs
all-mapped u [] = refl
all-mapped u (x ∷ xs) = ap (λ z. u x ∷ z) (all-mapped u xs)

-- items that are seen the same without their places
pub same-all : {A B : Type 0} (u : A → A) (f : A → B) → ((x : A) → f (u x) ≡ f x) → (xs : List A) → map f (all_unplaced u xs) ≡ map f xs
same-all u f e [] = refl
same-all u f e (x ∷ xs) = ap₂ (λ y ys. y ∷ ys) (e x) (same-all u f e xs)

-- items that are seen without their tags where they have no places
seen-all : {A B C : Type 0} (u : A → A) (f : A → C) (g : A → B) (h : B → C) → ((x : A) → f (u x) ≡ h (g x)) → (xs : List A)
    → map f (all_unplaced u xs) ≡ map h (map g xs)
seen-all u f g h e [] = refl
seen-all u f g h e (x ∷ xs) = ap₂ (λ y ys. y ∷ ys) (e x) (seen-all u f g h e xs)

-- mapped in either order
both-ways : {A B C D : Type 0} (f : A → B) (u : B → D) (g : A → C) (h : C → D) → ((x : A) → u (f x) ≡ h (g x)) → (xs : List A)
    → map u (map f xs) ≡ map h (map g xs)
both-ways f u g h e [] = refl
both-ways f u g h e (x ∷ xs) = ap₂ (λ y ys. y ∷ ys) (e x) (both-ways f u g h e xs)

-- ---- parts of declarations

pub word-same : (test : Keyword → Bool) (ms : List Modifier) → has_word test (all_unplaced modifier_unplaced ms) ≡ has_word test ms
word-same test [] = refl
word-same test (m ∷ ms) = ap (λ z. test m.word || z) (word-same test ms)

pub name-same : (d : DeclTree) → name_of (decl_unplaced d) ≡ name_of d
name-same (ClassTree ms n c fs bs p) = refl
name-same (InterfaceTree ms n fs hs p) = refl

pub types-same : (tree : List DeclTree) → types_in (unplaced tree) ≡ types_in tree
types-same tree = ap (λ z. codes "Object" ∷ z) (same-all decl_unplaced name_of name-same tree)

parent-same : (types : List (List ℕ)) (c : Option Id) → parent_meant types (may_unplaced id_unplaced c) ≡ parent_meant types c
parent-same types None = refl
parent-same types (Some i) = refl

abbrev a_class : List ℕ → Bool → Bool → ClassId → List ClassId → PlainClass
a_class n i a c fs = record { name = n; is_interface = i; is_abstract = a; parent = Some c; faces = fs; tag = bare_tag }

-- a class outlined of the same parts
class-parts : (n : List ℕ) (i a b : Bool) (c d : ClassId) (fs hs : List ClassId) → a ≡ b → c ≡ d → fs ≡ hs → a_class n i a c fs ≡ a_class n i b d hs
class-parts n i a b c d fs hs p q r = cc

class-same : (types : List (List ℕ)) (d : DeclTree) → class_outline types (decl_unplaced d) ≡ untag_class (class_outline types d)
class-same types (ClassTree ms n c fs bs p) = class-parts n false _ _ _ _ _ _ (word-same is_abstract_word ms) (parent-same types c)
    (same-all id_unplaced (id_meant types) (λ i. refl) fs)
class-same types (InterfaceTree ms n fs hs p) = class-parts n true _ _ _ _ _ _ (word-same is_abstract_word ms) refl
    (same-all id_unplaced (id_meant types) (λ i. refl) fs)

-- ---- members

abbrev pub field_at_unplaced : FieldAt → FieldAt
field_at_unplaced f = record { owner = f.owner; mods = all_unplaced modifier_unplaced f.mods; type = type_unplaced f.type; name = f.name; place = nowhere }

abbrev pub method_at_unplaced : MethodAt → MethodAt
method_at_unplaced m =
    record {
      owner = m.owner;
      kind = m.kind;
      in_abstract = m.in_abstract;
      head = head_unplaced m.head;
      up = may_unplaced exprs_unplaced m.up;
      body = may_unplaced stmts_unplaced m.body;
    }

field-members : (c : ℕ) (ms : List MemberTree) → fields_of c (all_unplaced member_unplaced ms) ≡ map field_at_unplaced (fields_of c ms)
field-members c [] = refl
field-members c (FieldTree ks t n p ∷ ms) =
    ap (λ z. field_at_unplaced (record { owner = c; mods = ks; type = t; name = n; place = p }) ∷ z) (field-members c ms)
field-members c (MethodTree h b p ∷ ms) = field-members c ms
field-members c (MakerTree ks n ps up ss p ∷ ms) = field-members c ms

method-members : (c : ℕ) (abstract : Bool) (ms : List MemberTree)
    → methods_of c abstract (all_unplaced member_unplaced ms) ≡ map method_at_unplaced (methods_of c abstract ms)
method-members c abstract [] = refl
method-members c abstract (FieldTree ks t n p ∷ ms) = method-members c abstract ms
method-members c abstract (MethodTree h b p ∷ ms) =
    ap (λ z. method_at_unplaced (record { owner = c; kind = kinds.Method; in_abstract = abstract; head = h; up = None; body = b }) ∷ z)
    (method-members c abstract ms)
method-members c abstract (MakerTree ks n ps up ss p ∷ ms) =
    ap (λ z. method_at_unplaced (record {
      owner = c;
      kind = kinds.Maker;
      in_abstract = abstract;
      head = maker_head n ks ps p;
      up = up;
      body = Some ss;
    }) ∷ z) (method-members c abstract ms)

field-decl : (c : ℕ) (d : DeclTree) → fields_declared c (decl_unplaced d) ≡ map field_at_unplaced (fields_declared c d)
field-decl c (ClassTree ms n e fs bs p) = field-members c bs
field-decl c (InterfaceTree ms n fs hs p) = refl

method-decl : (c : ℕ) (d : DeclTree) → methods_declared c (decl_unplaced d) ≡ map method_at_unplaced (methods_declared c d)
method-decl c (ClassTree ms n e fs bs p) =
    ap (λ z. methods_of c z (all_unplaced member_unplaced bs)) (word-same is_abstract_word ms) ∙ method-members c (has_word is_abstract_word ms) bs
method-decl c (InterfaceTree ms n fs hs p) = seen-all head_unplaced _ _ method_at_unplaced (λ h. refl) hs

fields-from : (c : ℕ) (ds : List DeclTree) → fields_from c (unplaced ds) ≡ map field_at_unplaced (fields_from c ds)
fields-from c [] = refl
fields-from c (d ∷ ds) =
    ap₂ (λ x y. x ++ y) (field-decl c d) (fields-from (suc c) ds) ∙ sym (map-append field_at_unplaced (fields_declared c d) (fields_from (suc c) ds))

methods-from : (c : ℕ) (ds : List DeclTree) → methods_from c (unplaced ds) ≡ map method_at_unplaced (methods_from c ds)
methods-from c [] = refl
methods-from c (d ∷ ds) =
    ap₂ (λ x y. x ++ y) (method-decl c d) (methods-from (suc c) ds) ∙ sym (map-append method_at_unplaced (methods_declared c d) (methods_from (suc c) ds))

pub fields-same : (tree : List DeclTree) → fields_in (unplaced tree) ≡ map field_at_unplaced (fields_in tree)
fields-same tree = fields-from 1 tree

-- ---- constructors that are not written

makers-same : (ms : List MemberTree) → list_any tree_makers.is_maker (all_unplaced member_unplaced ms) ≡ list_any tree_makers.is_maker ms
makers-same [] = refl
makers-same (FieldTree ks t n p ∷ ms) = makers-same ms
makers-same (MethodTree h b p ∷ ms) = makers-same ms
makers-same (MakerTree ks n ps up ss p ∷ ms) = refl

declares-same : (d : DeclTree) → declares_maker (decl_unplaced d) ≡ declares_maker d
declares-same (ClassTree ms n c fs bs p) = makers-same bs
declares-same (InterfaceTree ms n fs hs p) = refl

-- the types alone
alone-same : (tree : List DeclTree) → classes_alone (unplaced tree) ≡ untagged (classes_alone tree)
alone-same tree =
    ap (λ t. record { classes = object ∷ map (class_outline t) (unplaced tree); fields = []; methods = []; slots = []; main = 0 }) (types-same tree)
    ∙ ap (λ cs. record { classes = object ∷ cs; fields = []; methods = []; slots = []; main = 0 })
    (seen-all decl_unplaced (class_outline (types_in tree)) (class_outline (types_in tree)) untag_class (class-same (types_in tree)) tree)

writes-same : (tree : List DeclTree) (c : ℕ) → writes_at (unplaced tree) c ≡ writes_at tree c
writes-same tree zero = refl
writes-same tree (suc k) =
    ap (λ z. option_and_then (λ d. if declares_maker d then Some (suc k) else None) (slice_get z k)) (all-mapped decl_unplaced tree)
    ∙ ap (option_and_then (λ d. if declares_maker d then Some (suc k) else None)) (slice_get-map decl_unplaced tree k) ∙ go (slice_get tree k)
  where
    go : (o : Option DeclTree) → option_and_then (λ d. if declares_maker d then Some (suc k) else None) (option_map decl_unplaced o)
        ≡ option_and_then (λ d. if declares_maker d then Some (suc k) else None) o
    go None = refl
    go (Some d) = ap (λ b. if b then Some (suc k) else None) (declares-same d)

writer-same : (tree : List DeclTree) (c : ℕ) → writer_of (unplaced tree) c ≡ writer_of tree c
writer-same tree c =
    ap (λ z. nearest_of z (writes_at (unplaced tree)) c) (alone-same tree)
    ∙ ap (λ n. nearest (untagged (classes_alone tree)) (writes_at (unplaced tree)) n c) (length-map (classes_alone tree).classes untag_class)
    ∙ nearest-same (classes_alone tree) (writes_at (unplaced tree)) (writes_at tree) (writes-same tree) (length (classes_alone tree).classes) c

implied-same : (c : ℕ) (d : DeclTree) → implied_maker c (name_of (decl_unplaced d)) (place_of (decl_unplaced d))
    ≡ method_at_unplaced (implied_maker c (name_of d) (place_of d))
implied-same c (ClassTree ms n e fs bs p) = refl
implied-same c (InterfaceTree ms n fs hs p) = refl

implied-decl : (tree : List DeclTree) (c : ℕ) (d : DeclTree) → implied_in (unplaced tree) c (decl_unplaced d) ≡ map method_at_unplaced (implied_in tree c d)
implied-decl tree c d =
    ap₂ (λ b w. if b then [] else if is_some w then implied_maker c (name_of (decl_unplaced d)) (place_of (decl_unplaced d)) ∷ [] else [])
    (declares-same d) (writer-same tree c)
    ∙ ap (λ z. if declares_maker d then [] else if is_some (writer_of tree c) then z ∷ [] else []) (implied-same c d)
    ∙ go (declares_maker d) (is_some (writer_of tree c))
  where
    go : (b w : Bool) → (if b then [] else if w then method_at_unplaced (implied_maker c (name_of d) (place_of d)) ∷ [] else [])
        ≡ map method_at_unplaced (if b then [] else if w then implied_maker c (name_of d) (place_of d) ∷ [] else [])
    go true w = refl
    go false true = refl
    go false false = refl

implied-all : (tree : List DeclTree) (c : ℕ) (ds : List DeclTree) → implied_from (unplaced tree) c (unplaced ds)
    ≡ map method_at_unplaced (implied_from tree c ds)
implied-all tree c [] = refl
implied-all tree c (d ∷ ds) =
    ap₂ (λ x y. x ++ y) (implied-decl tree c d) (implied-all tree (suc c) ds)
    ∙ sym (map-append method_at_unplaced (implied_in tree c d) (implied_from tree (suc c) ds))

pub methods-same : (tree : List DeclTree) → methods_in (unplaced tree) ≡ map method_at_unplaced (methods_in tree)
methods-same tree =
    ap₂ (λ x y. x ++ y) (methods-from 1 tree) (implied-all tree 1 tree)
    ∙ sym (map-append method_at_unplaced (methods_from 1 tree) (implied_from tree 1 tree))

-- ---- the whole

field-seen : (types : List (List ℕ)) (f : FieldAt) → field_outline types (field_at_unplaced f) ≡ untag_field (field_outline types f)
field-seen types f =
    ap (λ z. record { owner = f.owner; name = f.name; is_static = z; ty = type_meant types f.type; tag = bare_tag }) (word-same is_static_word f.mods)

result-same : (types : List (List ℕ)) (t : Option TypeName) → option_map (type_meant types) (may_unplaced type_unplaced t) ≡ option_map (type_meant types) t
result-same types None = refl
result-same types (Some t) = refl

method-seen : (types : List (List ℕ)) (m : MethodAt) → method_outline types (method_at_unplaced m) ≡ untag_method (method_outline types m)
method-seen types m =
    ap₂ (λ s u. record {
      owner = m.owner;
      name = m.head.name;
      is_static = s;
      is_public = u;
      slot = None;
      params = map (param_outline types) (all_unplaced param_unplaced m.head.params);
      locals = [];
      result = option_map (type_meant types) (may_unplaced type_unplaced m.head.type);
      body = None;
      tag = bare_tag;
    })
    (word-same is_static_word m.head.mods) (ap (λ z. is_maker m || z) (word-same is_public_word m.head.mods))
    ∙ ap₂ (λ ps r. record {
      owner = m.owner;
      name = m.head.name;
      is_static = has_word is_static_word m.head.mods;
      is_public = is_public m;
      slot = None;
      params = ps;
      locals = [];
      result = r;
      body = None;
      tag = bare_tag;
    })
    (seen-all param_unplaced (param_outline types) (param_outline types) untag_local (λ q. refl) m.head.params) (result-same types m.head.type)

pub outline-same : (tree : List DeclTree) → outline (unplaced tree) ≡ untagged (outline tree)
unfolding outline
outline-same tree =
    ap (λ t. record {
      classes = object ∷ map (class_outline t) (unplaced tree);
      fields = map (field_outline t) (fields_in (unplaced tree));
      methods = map (method_outline t) (methods_in (unplaced tree));
      slots = [];
      main = 0;
    }) (types-same tree)
    ∙ ap₂ (λ cs fs. record { classes = object ∷ cs; fields = fs; methods = map (method_outline t) (methods_in (unplaced tree)); slots = []; main = 0 })
    (seen-all decl_unplaced (class_outline t) (class_outline t) untag_class (class-same t) tree)
    (ap (map (field_outline t)) (fields-same tree) ∙ both-ways field_at_unplaced (field_outline t) (field_outline t) untag_field (field-seen t)
    (fields_in tree))
    ∙ ap (λ ms. record {
      classes = object ∷ map untag_class (map (class_outline t) tree);
      fields = map untag_field (map (field_outline t) (fields_in tree));
      methods = ms;
      slots = [];
      main = 0;
    })
    (ap (map (method_outline t)) (methods-same tree) ∙ both-ways method_at_unplaced (method_outline t) (method_outline t) untag_method (method-seen t)
    (methods_in tree))
  where
    t : List (List ℕ)
    t = types_in tree
