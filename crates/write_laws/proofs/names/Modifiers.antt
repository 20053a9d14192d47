-- The modifiers of the written tree fit, its bodies are there where they are to be, and nothing is private.
use Rattle.std.proofs.Common.{◌≡◌, ℕ, zero, suc, ◌<◌, ◌&&◌, ◌||◌, Bool, true, false, List, [], ◌∷◌, Option, Some, None, Contains, refl, sym, ap, ◌∙◌, subst, arith, ⊎_elim}
use Rattle.std.specs.Prelude.{not, slice_get}
use Rattle.std.specs.Option.{is_some, option_map}
use Rattle.std.proofs.lemmas.Bool.{false≢true, cases_Bool}
use Rattle.std.proofs.lemmas.Option.{same_Some}
use Rattle.kaba_base.specs.declared.words.Keyword.TheVariants.{Public, Abstract, Static}
use Rattle.kaba_base.proofs.TestLemmas.{none_of}
use Rattle.java_tree.specs.declared.Modifier.{Modifier}
use Rattle.java_tree.specs.Syntax.{HeadTree, DeclTree}
use Rattle.java_core.specs.Programs.{Plain, PlainMethod}
use Rattle.fact_model.specs.declared.facts.Facts.{Facts}
use Rattle.fact_model.specs.declared.sets.PointsTo.{PointsTo}
use Rattle.hier_model.specs.Hierarchies.{Hierarchy, is_class_node}
use Rattle.flow_rules.specs.declared.items.ColumnItem.{ColumnItem}
use Rattle.flow_rules.specs.declared.items.ColumnItem.TheVariants as column
use Rattle.flow_rules.specs.Numbered.{columns_of}
use Rattle.flow_rules.proofs.Listed.{at_contains, map_at}
use Rattle.flow_laws.proofs.order.Columns.{Stands as IsOfText, for_field, for_declaration, for_body, for_mark, column_stands}
use Rattle.name_rules.specs.declared.parts.Kind.{Kind}
use Rattle.name_rules.specs.declared.parts.Kind.TheVariants as kinds
use Rattle.name_rules.specs.Outline.{FieldAt, MethodAt, methods_in, mods_of, is_private, has_word, is_abstract_word, is_private_word}
use Rattle.name_rules.specs.Conditions.{disagree, is_unfit, kind_of, HasModifiers, of_type, of_field, of_method, HasWrongBody, missing, superfluous, in_concrete}
use Rattle.rebuild_model.specs.Members.{is_made_at, offers_body}
use Rattle.write_model.specs.Names.{modifier}
use Rattle.write_model.specs.Bodies.{written_sts}
use Rattle.write_model.specs.Members.{parameters}
use Rattle.write_model.specs.Written.{class_modifiers, type_tree}
use Rattle.write_laws.proofs.rebuilds.Nodes.{items, tree, Declares, a_node, a_holder, declares, a_makers}
use Rattle.write_laws.specs.names.Laws.{IsNamedProgram}
use Rattle.write_laws.proofs.names.Origins.{R, HasMethod, node_body, node_head, node_filler, interface_head, static_method, HasField, node_field, static_field, method_origin, field_origin, make_method}

pub record Fits (kind : Kind) (mods : List Modifier) : Type 0 where
  pub apart : (i j : ℕ) (a b : Modifier) → slice_get mods i ≡ Some a → slice_get mods j ≡ Some b → i < j → disagree a.word b.word ≡ false
  pub each : (i : ℕ) (a : Modifier) → slice_get mods i ≡ Some a → is_unfit kind a.word ≡ false

fits_none : (kind : Kind) → Fits kind []
fits_none kind = record { apart = λ i j a b p q lt. absurd (cc p); each = λ i a p. absurd (cc p) }

fits_one : (kind : Kind) (x : Modifier) → is_unfit kind x.word ≡ false → Fits kind (x ∷ [])
fits_one kind x u = record { apart = two; each = one }
  where
    two : (i j : ℕ) (a b : Modifier) → slice_get (x ∷ []) i ≡ Some a → slice_get (x ∷ []) j ≡ Some b → i < j → disagree a.word b.word ≡ false
    two i zero a b p q lt = absurd (omega (arith, lt))
    two i (suc j) a b p q lt = absurd (cc q)

    one : (i : ℕ) (a : Modifier) → slice_get (x ∷ []) i ≡ Some a → is_unfit kind a.word ≡ false
    one zero a p = subst (λ (z : Modifier). is_unfit kind z.word ≡ false) (same_Some x a p) u
    one (suc i) a p = absurd (cc p)

fits_two : (kind : Kind) (x y : Modifier) → is_unfit kind x.word ≡ false → is_unfit kind y.word ≡ false → disagree x.word y.word ≡ false
    → Fits kind (x ∷ y ∷ [])
fits_two kind x y u v d = record { apart = two; each = one }
  where
    two : (i j : ℕ) (a b : Modifier) → slice_get (x ∷ y ∷ []) i ≡ Some a → slice_get (x ∷ y ∷ []) j ≡ Some b → i < j → disagree a.word b.word ≡ false
    two i zero a b p q lt = absurd (omega (arith, lt))
    two zero (suc zero) a b p q lt =
        subst (λ (z : Modifier). disagree z.word b.word ≡ false) (same_Some x a p)
        (subst (λ (z : Modifier). disagree x.word z.word ≡ false) (same_Some y b q) d)
    two (suc i) (suc zero) a b p q lt = absurd (omega (arith, lt))
    two i (suc (suc j)) a b p q lt = absurd (cc q)

    one : (i : ℕ) (a : Modifier) → slice_get (x ∷ y ∷ []) i ≡ Some a → is_unfit kind a.word ≡ false
    one zero a p = subst (λ (z : Modifier). is_unfit kind z.word ≡ false) (same_Some x a p) u
    one (suc zero) a p = subst (λ (z : Modifier). is_unfit kind z.word ≡ false) (same_Some y a p) v
    one (suc (suc i)) a p = absurd (cc p)

-- what is known of a method of the tree
pub record IsSound (x : MethodAt) : Type 0 where
  pub modifiers : Fits x.kind x.head.mods
  pub body : HasWrongBody x → ⊥
  pub open_to_all : is_private x ≡ false

not_made : (c made bodied : Bool) → c ≡ true → (not c || (not made && not bodied)) ≡ true → made ≡ false
not_made true false bodied e h = refl
not_made true true bodied e h = absurd (false≢true h)
not_made false made bodied e h = absurd (false≢true e)

made_word : (made : Bool) → made ≡ false → has_word is_abstract_word (class_modifiers made) ≡ true
made_word false e = refl
made_word true e = absurd (false≢true (sym e))

mapped : {A B : Type 0} (f : A → B) (o : Option A) → is_some (option_map f o) ≡ is_some o
mapped f None = refl
mapped f (Some x) = refl

-- a method with a body that is not abstract, an abstract one without a body, and a head of an interface
right_body : (x : MethodAt) → has_word is_abstract_word x.head.mods ≡ false → is_some x.body ≡ true → HasWrongBody x → ⊥
right_body x plain bodied (missing p q r) = false≢true (sym (ap is_some r) ∙ bodied)
right_body x plain bodied (superfluous o p q) = false≢true (sym plain ∙ p)
right_body x plain bodied (in_concrete o p q) = false≢true (sym plain ∙ p)

abstract_body : (x : MethodAt) → has_word is_abstract_word x.head.mods ≡ true → is_some x.body ≡ false → x.in_abstract ≡ true → HasWrongBody x → ⊥
abstract_body x word bodyless inside (missing p q r) = false≢true (sym q ∙ word)
abstract_body x word bodyless inside (superfluous o p q) = false≢true (sym bodyless ∙ q)
abstract_body x word bodyless inside (in_concrete o p q) = false≢true (sym q ∙ inside)

head_body : (x : MethodAt) → x.kind ≡ kinds.Head → has_word is_abstract_word x.head.mods ≡ false → HasWrongBody x → ⊥
head_body x kind plain (missing p q r) = absurd (cc (p, kind))
head_body x kind plain (superfluous o p q) = false≢true (sym plain ∙ p)
head_body x kind plain (in_concrete o p q) = false≢true (sym plain ∙ p)

module _ {P : Plain} {F : Facts} {pt : PointsTo} {H : Hierarchy} (G : IsNamedProgram P F pt H) where
  -- the body of a column is there
  pub body_there : (c m : ℕ) (k : PlainMethod) → slice_get (items P F H) c ≡ Some (column.Def m) → slice_get P.methods m ≡ Some k
      → (is_some k.body ≡ true) × (k.is_static ≡ false)
  body_there c m k e at = let z = map_at (λ c. c.item) (columns_of P) c (column.Def m) e in go z.0.item (column_stands P c z.0 z.1) z.2
    where
      go : (i : ColumnItem) → IsOfText P i → i ≡ column.Def m → (is_some k.body ≡ true) × (k.is_static ≡ false)
      go _ (for_body g h d s b) same =
          let one : g ≡ m = cc same in
          let plain : h ≡ k = same_Some _ _ (sym d ∙ ap (slice_get P.methods) one ∙ at) in
          (ap (λ (y : PlainMethod). is_some y.body) (sym plain) ∙ b, ap (λ (y : PlainMethod). y.is_static) (sym plain) ∙ s)
      go _ (for_field g h d s) same = absurd (cc same)
      go _ (for_declaration g h d s) same = absurd (cc same)
      go _ (for_mark g) same = absurd (cc same)

  static_body : (m : ℕ) (old : PlainMethod) → slice_get P.methods m ≡ Some old → old.is_static ≡ true → is_some old.body ≡ true
  static_body m old e s =
      ⊎_elim (λ h. h) (λ h. absurd (false≢true (sym ((G.formed.methods m old e).bodyless (none_of old.body h)).0 ∙ s))) (cases_Bool (is_some old.body))

  sound : (x : MethodAt) → HasMethod P F H x → IsSound x
  sound x (node_body n i c m k a e at o) = record {
    modifiers = fits_one kinds.Method (modifier Public) refl;
    body = right_body x refl (mapped (written_sts P (R P F H) H m k (parameters 0 k.params)) k.body ∙ (body_there c m k e o).0);
    open_to_all = refl;
  }
  sound x (node_head n i h a t) =
      let words : modifier Public ∷ modifier Abstract ∷ [] ≡ h.mods = ap (λ (y : HeadTree). y.mods) t.tree.is in
      record {
        modifiers = subst (Fits kinds.Method) words (fits_two kinds.Method (modifier Public) (modifier Abstract) refl refl refl);
        body = abstract_body x (ap (has_word is_abstract_word) (sym words)) refl
            (made_word (is_made_at F H n) (not_made (is_class_node F H n) (is_made_at F H n) (offers_body F H n t.slot) a.kind t.headed));
        open_to_all = ap (has_word is_private_word) (sym words);
      }
  sound x (node_filler n i s h a f t) =
      let words : modifier Public ∷ [] ≡ h.mods = ap (λ (y : HeadTree). y.mods) t.is in
      record {
        modifiers = subst (Fits kinds.Method) words (fits_one kinds.Method (modifier Public) refl);
        body = right_body x (ap (has_word is_abstract_word) (sym words)) refl;
        open_to_all = ap (has_word is_private_word) (sym words);
      }
  sound x (interface_head n i h a t) =
      let words : [] ≡ h.mods = ap (λ (y : HeadTree). y.mods) t.tree.is in
      record {
        modifiers = subst (Fits kinds.Head) words (fits_none kinds.Head);
        body = head_body x refl (ap (has_word is_abstract_word) (sym words));
        open_to_all = ap (has_word is_private_word) (sym words);
      }
  sound x (static_method c i m k old a e s o) = record {
    modifiers = fits_two kinds.Method (modifier Public) (modifier Static) refl refl refl;
    body = right_body x refl (mapped (written_sts P (R P F H) H m old (parameters 0 old.params)) old.body ∙ static_body m old e s);
    open_to_all = refl;
  }
  sound x (make_method i mk y t a) = record {
    modifiers = fits_two kinds.Method (modifier Public) (modifier Static) refl refl refl;
    body = right_body x refl refl;
    open_to_all = refl;
  }

  pub method_sound : (x : MethodAt) → Contains (methods_in (tree P F H)) x → IsSound x
  method_sound x c = sound x (method_origin P F H x c)

  made_fits : (made : Bool) → Fits kinds.Class (class_modifiers made)
  made_fits true = fits_none kinds.Class
  made_fits false = fits_one kinds.Class (modifier Abstract) refl

  type_fits : (b : Bool) (n : ℕ) → Fits (kind_of (type_tree P (R P F H) F H (items P F H) b n))
      (mods_of (type_tree P (R P F H) F H (items P F H) b n))
  type_fits true n = made_fits (is_made_at F H n)
  type_fits false n = fits_none kinds.Interface

  declared_fits : (d : DeclTree) → Declares P F H d → Fits (kind_of d) (mods_of d)
  declared_fits _ (a_node n live) = type_fits (is_class_node F H n) n
  declared_fits _ (a_holder c k e h) = fits_none kinds.Class
  declared_fits _ (a_makers m e) = fits_none kinds.Class

  field_fits : (x : FieldAt) → HasField P F H x → Fits kinds.Field x.mods
  field_fits _ (node_field n i c f k a e at o) = fits_none kinds.Field
  field_fits _ (static_field c i f k old a e s o) = fits_two kinds.Field (modifier Public) (modifier Static) refl refl refl

  pub modifiers_fit : (kind : Kind) (mods : List Modifier) → HasModifiers (tree P F H) kind mods → Fits kind mods
  modifiers_fit _ _ (of_type {d = d} c) = let z = at_contains (tree P F H) d c in declared_fits d (declares P F H z.0 d z.1)
  modifiers_fit _ _ (of_field {f = f} c) = field_fits f (field_origin P F H f c)
  modifiers_fit _ _ (of_method {m = m} c) = (method_sound m c).modifiers
