-- No two fields and no two methods of one name are declared in a type, where no two of its members have one name.
use Rattle.std.proofs.Common.{◌≡◌, ℕ, suc, ◌+◌, true, List, [], ◌∷◌, Some, None, Contains, refl, sym, ap, ◌∙◌, subst, arith}
use Rattle.std.specs.Prelude.{slice_get}
use Rattle.java_tree.specs.Syntax.{HeadTree, MemberTree, FieldTree, MethodTree, MakerTree, DeclTree, ClassTree, InterfaceTree}
use Rattle.java_core.specs.Makers.{maker_name}
use Rattle.flow_rules.proofs.Listed.{map_from, one_from, each_from}
use Rattle.flow_rules.specs.Ordered.{each}
use Rattle.name_rules.specs.declared.parts.Kind.TheVariants as kinds
use Rattle.name_rules.specs.Outline.{FieldAt, MethodAt, field_member, method_member, fields_of, methods_of, fields_declared, methods_declared, fields_from, methods_from, has_word, is_abstract_word}
use Rattle.write_laws.proofs.rebuilds.Outlined.{fields_each, methods_each, member_field_from, member_method_from}
use Rattle.write_laws.proofs.names.Once.{Once, append_once, map_once}

-- two members, two fields and two methods of one name
abbrev pub SameMember : MemberTree → MemberTree → Type 0
SameMember (FieldTree m t x p) (FieldTree n u y q) = x ≡ y
SameMember (MethodTree h b p) (MethodTree k c q) = h.name ≡ k.name
SameMember (FieldTree m t x p) (MethodTree k c q) = ⊥
SameMember (MethodTree h b p) (FieldTree n u y q) = ⊥
SameMember (FieldTree m t x p) (MakerTree k n qs u ss q) = ⊥
SameMember (MethodTree h b p) (MakerTree k n qs u ss q) = h.name ≡ maker_name n
SameMember (MakerTree m n qs u ss p) (FieldTree k t x q) = ⊥
SameMember (MakerTree m n qs u ss p) (MethodTree k c q) = maker_name n ≡ k.name
SameMember (MakerTree m n qs u ss p) (MakerTree k x rs v ts q) = maker_name n ≡ maker_name x

abbrev pub SameHead : HeadTree → HeadTree → Type 0
SameHead h k = h.name ≡ k.name

abbrev pub SameField : FieldAt → FieldAt → Type 0
SameField f g = (f.owner ≡ g.owner) × (f.name ≡ g.name)

abbrev pub SameMethod : MethodAt → MethodAt → Type 0
SameMethod h k = (h.owner ≡ k.owner) × (h.head.name ≡ k.head.name)

field_names : (c : ℕ) (m n : MemberTree) (f g : FieldAt) → Contains (field_member c m) f → Contains (field_member c n) g → f.name ≡ g.name
    → SameMember m n
field_names c (FieldTree m t x p) (FieldTree n u y q) f g a b e =
    ap (λ (z : FieldAt). z.name) (one_from _ f a) ∙ e ∙ ap (λ (z : FieldAt). z.name) (sym (one_from _ g b))
field_names c (FieldTree m t x p) (MethodTree k d q) f g a b e = absurd (let l = b.1 in omega (arith, l))
field_names c (FieldTree m t x p) (MakerTree k n qs u ss q) f g a b e = absurd (let l = b.1 in omega (arith, l))
field_names c (MethodTree h d p) n f g a b e = absurd (let l = a.1 in omega (arith, l))
field_names c (MakerTree m x qs u ss p) n f g a b e = absurd (let l = a.1 in omega (arith, l))

method_names : (c : ℕ) (w : _) (m n : MemberTree) (f g : MethodAt) → Contains (method_member c w m) f → Contains (method_member c w n) g
    → f.head.name ≡ g.head.name → SameMember m n
method_names c w (MethodTree h b p) (MethodTree k d q) f g a x e =
    ap (λ (z : MethodAt). z.head.name) (one_from _ f a) ∙ e ∙ ap (λ (z : MethodAt). z.head.name) (sym (one_from _ g x))
method_names c w (MethodTree h b p) (FieldTree n u y q) f g a x e = absurd (let l = x.1 in omega (arith, l))
method_names c w (MethodTree h b p) (MakerTree k n qs u ss q) f g a x e =
    ap (λ (z : MethodAt). z.head.name) (one_from _ f a) ∙ e ∙ ap (λ (z : MethodAt). z.head.name) (sym (one_from _ g x))
method_names c w (FieldTree n u y q) m f g a x e = absurd (let l = a.1 in omega (arith, l))
method_names c w (MakerTree k n qs u ss p) (MethodTree h b q) f g a x e =
    ap (λ (z : MethodAt). z.head.name) (one_from _ f a) ∙ e ∙ ap (λ (z : MethodAt). z.head.name) (sym (one_from _ g x))
method_names c w (MakerTree k n qs u ss p) (MakerTree m y rs v ts q) f g a x e =
    ap (λ (z : MethodAt). z.head.name) (one_from _ f a) ∙ e ∙ ap (λ (z : MethodAt). z.head.name) (sym (one_from _ g x))
method_names c w (MakerTree k n qs u ss p) (FieldTree m t y q) f g a x e = absurd (let l = x.1 in omega (arith, l))

field_once : (c : ℕ) (m : MemberTree) → Once SameField (field_member c m)
field_once c (FieldTree m t x p) = (λ y c. absurd (let l = c.1 in omega (arith, l)), tt)
field_once c (MethodTree h b p) = tt
field_once c (MakerTree m n qs u ss p) = tt

method_once : (c : ℕ) (w : _) (m : MemberTree) → Once SameMethod (method_member c w m)
method_once c w (FieldTree m t x p) = tt
method_once c w (MakerTree m n qs u ss p) = (λ y c. absurd (let l = c.1 in omega (arith, l)), tt)
method_once c w (MethodTree h b p) = (λ y c. absurd (let l = c.1 in omega (arith, l)), tt)

fields_once : (c : ℕ) (ms : List MemberTree) → Once SameMember ms → Once SameField (fields_of c ms)
fields_once c [] o = tt
fields_once c (m ∷ ms) o =
    append_once SameField (field_member c m) (fields_of c ms) (field_once c m) (fields_once c ms o.1)
    (λ f g a b e. let z = member_field_from c ms g b in o.0 z.0 z.1 (field_names c m z.0 f g a z.2 e.1))

methods_once : (c : ℕ) (w : _) (ms : List MemberTree) → Once SameMember ms → Once SameMethod (methods_of c w ms)
methods_once c w [] o = tt
methods_once c w (m ∷ ms) o =
    append_once SameMethod (method_member c w m) (methods_of c w ms) (method_once c w m) (methods_once c w ms o.1)
    (λ f g a b e. let z = member_method_from c w ms g b in o.0 z.0 z.1 (method_names c w m z.0 f g a z.2 e.1))

weaker : (c : ℕ) (hs : List HeadTree) → Once SameHead hs
    → Once (λ h k. SameMethod (record { owner = c; kind = kinds.Head; in_abstract = true; head = h; up = None; body = None })
    (record { owner = c; kind = kinds.Head; in_abstract = true; head = k; up = None; body = None })) hs
weaker c [] o = tt
weaker c (h ∷ hs) o = (λ y a e. o.0 y a e.1, weaker c hs o.1)

-- the members of a declaration are apart
abbrev pub MembersApart : DeclTree → Type 0
MembersApart (ClassTree mods n parent faces ms p) = Once SameMember ms
MembersApart (InterfaceTree mods n parents hs p) = Once SameHead hs

declared_fields : (c : ℕ) (d : DeclTree) → MembersApart d → Once SameField (fields_declared c d)
declared_fields c (ClassTree mods n parent faces ms p) o = fields_once c ms o
declared_fields c (InterfaceTree mods n parents hs p) o = tt

declared_methods : (c : ℕ) (d : DeclTree) → MembersApart d → Once SameMethod (methods_declared c d)
declared_methods c (ClassTree mods n parent faces ms p) o = methods_once c (has_word is_abstract_word mods) ms o
declared_methods c (InterfaceTree mods n parents hs p) o = map_once SameMethod _ hs (weaker c hs o)

member_field_owner : (c : ℕ) (m : MemberTree) (f : FieldAt) → Contains (field_member c m) f → f.owner ≡ c
member_field_owner c (FieldTree m t x p) f a = ap (λ (z : FieldAt). z.owner) (sym (one_from _ f a))
member_field_owner c (MethodTree h b p) f a = absurd (let l = a.1 in omega (arith, l))
member_field_owner c (MakerTree m n qs u ss p) f a = absurd (let l = a.1 in omega (arith, l))

member_method_owner : (c : ℕ) (w : _) (m : MemberTree) (f : MethodAt) → Contains (method_member c w m) f → f.owner ≡ c
member_method_owner c w (FieldTree m t x p) f a = absurd (let l = a.1 in omega (arith, l))
member_method_owner c w (MakerTree m n qs u ss p) f a = ap (λ (z : MethodAt). z.owner) (sym (one_from _ f a))
member_method_owner c w (MethodTree h b p) f a = ap (λ (z : MethodAt). z.owner) (sym (one_from _ f a))

field_owner : (c : ℕ) (d : DeclTree) (f : FieldAt) → Contains (fields_declared c d) f → f.owner ≡ c
field_owner c (ClassTree mods n parent faces ms p) f h = let z = member_field_from c ms f h in member_field_owner c z.0 f z.2
field_owner c (InterfaceTree mods n parents hs p) f h = absurd (let l = h.1 in omega (arith, l))

pub method_owner : (c : ℕ) (d : DeclTree) (f : MethodAt) → Contains (methods_declared c d) f → f.owner ≡ c
method_owner c (ClassTree mods n parent faces ms p) f h =
    let z = member_method_from c (has_word is_abstract_word mods) ms f h in member_method_owner c (has_word is_abstract_word mods) z.0 f z.2
method_owner c (InterfaceTree mods n parents hs p) f h = let z = map_from _ hs f h in ap (λ (z : MethodAt). z.owner) (sym z.2)

-- what is listed of each declaration, and belongs to it, has no two alike, where none has two
module _ {A : Type 0} (owner : A → ℕ) (Same : A → A → Type 0) (own : (x y : A) → Same x y → owner x ≡ owner y) (of : ℕ → DeclTree → List A)
    (owned : (c : ℕ) (d : DeclTree) (f : A) → Contains (of c d) f → owner f ≡ c) where
  each_apart : (c : ℕ) (ds : List DeclTree) → ((j i : ℕ) (d : DeclTree) → slice_get ds i ≡ Some d → Once Same (of j d)) → Once Same (each of c ds)
  each_apart c [] h = tt
  each_apart c (d ∷ ds) h =
      append_once Same (of c d) (each of (c + 1) ds) (h c 0 d refl) (each_apart (c + 1) ds (λ j i x e. h j (suc i) x e))
      (λ f g a b e. let z = each_from of (c + 1) ds g b in omega (arith, owned c d f a, owned z.1 z.2 g z.5, z.4, own f g e))

pub fields_apart : (c : ℕ) (ds : List DeclTree) → ((i : ℕ) (d : DeclTree) → slice_get ds i ≡ Some d → MembersApart d) → Once SameField (fields_from c ds)
fields_apart c ds h = subst (Once SameField) (sym (fields_each c ds))
    (each_apart (λ (f : FieldAt). f.owner) SameField (λ f g e. e.0) fields_declared field_owner c ds (λ j i d e. declared_fields j d (h i d e)))

pub methods_apart : (c : ℕ) (ds : List DeclTree) → ((i : ℕ) (d : DeclTree) → slice_get ds i ≡ Some d → MembersApart d) → Once SameMethod (methods_from c ds)
methods_apart c ds h = subst (Once SameMethod) (sym (methods_each c ds))
    (each_apart (λ (m : MethodAt). m.owner) SameMethod (λ f g e. e.0) methods_declared method_owner c ds (λ j i d e. declared_methods j d (h i d e)))
