-- The names that a written body has can be written: those of variables, of static members and of the members that it asks for.
use Rattle.std.proofs.Common.{◌≡◌, ℕ, ◌<◌, Bool, true, false, List, [], length, Option, Some, None, Contains, refl, sym, ap, ◌∙◌, subst, ⊎_elim}
use Rattle.std.specs.Prelude.{option_and_then, if◌then◌else◌}
use Rattle.std.specs.Option.{is_some, option_map_or, option_map}
use Rattle.std.proofs.lemmas.Option.{slice_get_within}
use Rattle.java_lex.specs.Writable.{IsName}
use Rattle.java_tree.specs.Syntax.{NullLit, Expressions}
use Rattle.java_tree.specs.Formed as printed
use Rattle.java_tree.specs.Formed.{is_target, IsFormedExpression, AreFormed, IsFormedBase}
use Rattle.java_core.specs.declared.Ty.{Ty}
use Rattle.java_core.specs.Trees.{Tag, Ex, Exs, call, super_call}
use Rattle.java_core.specs.Programs.{PlainLocal, PlainField, PlainMethod, Plain}
use Rattle.java_core.specs.Classes.{slot_of, slot_of_method, declaration_of, super_method, has_body}
use Rattle.java_core.specs.Types.{Static, class_of, field_in, field_type, access_type, Signature, call_signature, super_signature, static, string_method, signature_of_string, object_signature, is_string}
use Rattle.java_core.specs.Formed.{IsClass, IsProgramType, IsOwnField, IsFormedMethod, IsStaticField, IsStaticMethod, variables_of, IsCalled}
use Rattle.fact_model.specs.declared.facts.AccessInfo.{AccessInfo}
use Rattle.flow_rules.specs.declared.items.ColumnItem.TheVariants as column
use Rattle.flow_rules.specs.declared.items.RowItem.{RowItem}
use Rattle.flow_rules.specs.declared.items.RowItem.TheVariants as row
use Rattle.flow_rules.specs.Labels.{label}
use Rattle.flow_rules.specs.Operands.{object_field, call_slot, call_declaration, row_of, this_operand, type_in}
use Rattle.flow_rules.specs.Parts.{Part, a_call, a_super_call, parts_of}
use Rattle.flow_rules.specs.Numbered.{row_number, number_if}
use Rattle.flow_rules.specs.Lists.{accessed, row_in, row_at, accesses_of}
use Rattle.flow_rules.specs.Facts.{numbers}
use Rattle.flow_laws.specs.cover.Slotted.{HaveSlots}
use Rattle.flow_rules.proofs.TypeLemmas.{class_is}
use Rattle.java_core.proofs.Retagging.{static_same}
use Rattle.flow_laws.proofs.cover.Labelled.{ex_same, typed_same, formed_same}
use Rattle.flow_laws.proofs.cover.HasNumbers.{this_row}
use Rattle.flow_laws.proofs.cover.Types.{class_apart, slot_called}
use Rattle.flow_laws.proofs.cover.TypedParts as typed_parts
use Rattle.flow_laws.proofs.cover.TypedParts.{TypedBody}
use Rattle.flow_rules.proofs.Listed.{below_at, contains_at}
use Rattle.rebuild_laws.proofs.types.Retyped.{class_typed}
use Rattle.rebuild_laws.proofs.types.Finding.{access_found, found_instance}
use Rattle.write_model.specs.Names.{nowhere, class_name, row_name, written_base}
use Rattle.write_model.specs.Bodies.{static_field_tree, static_call_tree, static_field_name, static_call_name, variable_name, is_simple}
use Rattle.write_laws.proofs.given.Given.{Given, Bodied, words}
use Rattle.write_laws.proofs.given.Types.{known_class_named, row_named, base_formed, static_named}
use Rattle.write_laws.proofs.given.Asked.{field_asked, call_asked, access_of, super_asked}
use Rattle.write_laws.proofs.given.Forms.{field_tree, call_tree}
use Rattle.flow_laws.proofs.cover.Walked.{walked}
use Rattle.java_core.specs.Makers.{maker_name}

-- no method of a String has a constructor's name
no_string : (y : List ℕ) → string_method (maker_name y) ≡ None
no_string y = refl

maker_declared : (P : Plain) (s : Static) (x y : List ℕ) (sig : Signature) → x ≡ maker_name y → call_signature P s x ≡ Some sig → class_of s ≡ None → ⊥
unfolding call_signature
maker_declared P s x y sig e called none = go (is_string s) refl
  where
    go : (b : Bool) → is_string s ≡ b → ⊥
    go true h =
        let z : option_map signature_of_string (string_method x) ≡ Some sig =
        subst (λ b. (if b then option_map signature_of_string (string_method x) else object_signature P (class_of s) x) ≡ Some sig) h called in
        cc (sym (ap (λ x. option_map signature_of_string (string_method x)) e ∙ ap (option_map signature_of_string) (no_string y)) ∙ z)
    go false h =
        let o = slot_called P s x sig called h in
        cc (sym (ap (option_and_then (λ c. slot_of P c x)) none) ∙ o.found)

module _ (C : Given) (B : Bodied C) where
  open C use {program as P, facts as F, hierarchy as H}
  open words C use {renaming as R, numbers as N}
  open B use {number as m, method as k}
  open walked P m k use {env as g, type, operand as O, tree, Stands, IsTyped, IsFormed as IsFormedEx, static as old, operands}

  pub method_formed : IsFormedMethod P k
  method_formed = C.ready.formed.methods m k B.stands

  pub slots : HaveSlots P
  unfolding HaveSlots
  slots d f e i = (C.ready.formed.methods d f e).slotted i

  abbrev T : TypedBody
  T = let r = C.ready in
      record { program = P; facts = F; formed = r.formed; slots = slots; are_facts = r.facts; number = m; method = k; stands = B.stands; bodied = B.bodied }

  -- ---- names

  pub variable_named : (i : ℕ) → i < length (variables_of k) → IsName (variable_name k i)
  variable_named i lt =
      let v = below_at (variables_of k) i lt in
      subst IsName (sym (ap (λ o. option_map_or (λ (v : PlainLocal). v.name) o []) v.1))
      ((method_formed.variables v.0 (contains_at (variables_of k) i v.0 v.1)).name.name)

  pub static_field_formed : (wr : List ℕ) (f : ℕ) → IsStaticField P f
      → IsFormedExpression (static_field_name P k wr f) × (is_target (static_field_name P k wr f) ≡ true)
  static_field_formed wr f s =
      let w = C.ready.formed.fields f s.member s.stands in
      let x = s.member.name in
      let c = s.member.owner in
      subst
      (λ o. let e = option_map_or (λ (g : PlainField). static_field_tree (is_simple k wr g.owner g.name) (class_name P g.owner) g.name) o (NullLit nowhere) in
      IsFormedExpression e × (is_target e ≡ true)) (sym s.stands)
      (field_tree (is_simple k wr c x) (class_name P c) x (known_class_named C c (slice_get_within P.classes c w.holder w.stands)) w.name.name)

  pub static_call_formed : (wr : List ℕ) (d : ℕ) (es : Expressions) → IsStaticMethod P d
      → (AreFormed es → IsFormedExpression (static_call_name P k wr d es)) × (printed.is_call (static_call_name P k wr d es) ≡ true)
  static_call_formed wr d es s =
      let w = C.ready.formed.methods d s.member s.stands in
      let x = s.member.name in
      let c = s.member.owner in
      subst
      (λ o. let e = option_map_or (λ (g : PlainMethod). static_call_tree (is_simple k wr g.owner g.name) (class_name P g.owner) g.name es) o
      (NullLit nowhere) in (AreFormed es → IsFormedExpression e) × (printed.is_call e ≡ true)) (sym s.stands)
      (call_tree (is_simple k wr c x) (class_name P c) x es (known_class_named C c (slice_get_within P.classes c w.holder w.stands))
      (static_named C d s.member s.stands s.kind))

  same_number : (i : Option RowItem) → row_in N i ≡ number_if (row_number P) i
  unfolding numbers
  same_number None = refl
  same_number (Some i) = refl

  same_static : (at : ℕ) (e : Ex) → static P g (label at e) ≡ static P g e
  same_static at e = static_same P g (ex_same at e)

  -- the row of a receiver or a base
  base_row : (u : Bool) (sc : List ℕ) (at : ℕ) (e : Ex) (c : ℕ) → IsTyped e → IsFormedEx sc e → Stands (tree u (label at e)) → class_of (old e) ≡ Some c
      → (r : ℕ) × (row_at N (O (label at e)) ≡ Some r)
  base_row u sc at e c ty fo st s =
      let l = label at e in
      let r = typed_parts.row_listed T u sc l (typed_same P g (ex_same at e) ty) (formed_same P k (ex_same at e) fo) st
      (record { class = record { 0 = c }; dim = 0 })
      (typed_parts.of_typed T l (record { class = record { 0 = c }; dim = 0 }) (class_typed (old l) c (ap class_of (same_static at e) ∙ s))) in
      (r.0, same_number (row_of P (type_in P m k) m k l) ∙ r.1)

  self_row : k.is_static ≡ false → (r : ℕ) × (row_at N (this_operand m k) ≡ Some r)
  self_row s = let r = this_row P m k B.stands B.bodied s in (r.0, same_number (Some (row.This m)) ∙ r.1)

  field_seen : (at : ℕ) (e : Ex) (x : List ℕ) (f : ℕ) → field_in P (old e) x ≡ Some f → object_field P (type (label at e)) x ≡ Some f
  field_seen at e x f l = typed_parts.field_found T (label at e) x ∙ ap (λ z. field_in P z x) (same_static at e) ∙ l

  declaration_seen : (at : ℕ) (e : Ex) (x : List ℕ) (c d : ℕ) → class_of (old e) ≡ Some c → declaration_of P c x ≡ Some d
      → call_declaration P (type (label at e)) x ≡ Some d
  unfolding type_in
  declaration_seen at e x c d l f =
      ap (λ z. option_and_then (λ c. declaration_of P c x) z) (class_is (static P g (label at e)) ∙ ap class_of (same_static at e) ∙ l) ∙ f

  -- the field that a part asks for; where an access finds none, as for the length of an array, the name stays
  pub field_named : (u : Bool) (sc : List ℕ) (at : ℕ) (e : Ex) (x : List ℕ) (part : Option ℕ → Part) → IsTyped e → IsFormedEx sc e
      → Stands (tree u (label at e)) → IsName x → ((f : ℕ) → field_in P (old e) x ≡ Some f → is_some (field_type P f) ≡ true)
      → ((f : ℕ) (a : AccessInfo) → Contains (accessed (row_at N (O (label at e))) (N.column (column.Fld f))) a
      → Contains (accesses_of N (part (Some f))) a)
      → Contains (parts_of P m k) (part (object_field P (type (label at e)) x))
      → IsName (option_map_or R.field_name (field_in P (old e) x) x)
  field_named u sc at e x part ty fo st n some asks there = go (field_in P (old e) x) refl
    where
      go : (o : Option ℕ) → field_in P (old e) x ≡ o → IsName (option_map_or R.field_name o x)
      go None l = n
      go (Some f) l =
          let c = typed_parts.field_class T (old e) x f l in
          let r = base_row u sc at e c.0 ty fo st c.1 in
          let w = found_instance P (old e) x f l (some f l) in
          let in_body = subst (λ z. Contains (parts_of P m k) (part z)) (field_seen at e x f l) there in
          field_asked C (O (label at e)) f r.0 w.0 w.1 w.2 r.1
          (λ a c. access_of C m k B.stands (part (Some f)) in_body a (asks f a c))

  -- a field of the method's own object
  pub own_named : (f : ℕ) (part : Part) → k.is_static ≡ false → IsOwnField P k.owner f
      → ((a : AccessInfo) → Contains (accessed (row_at N (this_operand m k)) (N.column (column.Fld f))) a → Contains (accesses_of N part) a)
      → Contains (parts_of P m k) part → IsName (R.field_name f)
  own_named f part s own asks there =
      let r = self_row s in
      field_asked C (this_operand m k) f r.0 own.member own.stands own.kind r.1
      (λ a c. access_of C m k B.stands part there a (asks a c))

  -- the method that a call finds; those of a String keep their names
  pub call_named : (sc : List ℕ) (t : Tag) (at : ℕ) (e : Ex) (x : List ℕ) (es : Exs) (sig : Signature) → IsTyped e
      → call_signature P (old e) x ≡ Some sig → IsFormedEx sc e → Stands (tree true (label at e)) → IsCalled P k x
      → Contains (parts_of P m k) (a_call t.place (O (label at e)) (call_slot P (type (label at e)) x) (call_declaration P (type (label at e)) x)
      (operands es) (O (call t (label at e) x es)))
      → IsName (option_map_or R.method_name (option_and_then (λ c. declaration_of P c x) (class_of (old e))) x)
  call_named sc t at e x es sig ty called fo st n there = of_class (class_of (old e)) refl
    where
      part : Option ℕ → Part
      part z = a_call t.place (O (label at e)) (call_slot P (type (label at e)) x) z (operands es) (O (call t (label at e) x es))

      found : (c d : ℕ) → class_of (old e) ≡ Some c → declaration_of P c x ≡ Some d → IsName (R.method_name d)
      found c d cls dcl =
          let s = slot_called P (old e) x sig called (class_apart (old e) c cls).1 in
          let of = sym (ap (option_and_then (slot_of_method P)) dcl) ∙ sym (ap (option_and_then (λ c. slot_of P c x)) cls) ∙ s.found in
          let r = base_row true sc at e c ty fo st cls in
          call_asked C (O (label at e)) d s.number r.0 of r.1
          (access_of C m k B.stands (part (Some d))
          (subst (λ z. Contains (parts_of P m k) (part z)) (declaration_seen at e x c d cls dcl) there))

      of_declaration : (c : ℕ) → class_of (old e) ≡ Some c → (o : Option ℕ) → declaration_of P c x ≡ o
          → IsName (option_map_or R.method_name o x)
      of_declaration c cls None dcl =
          let s = slot_called P (old e) x sig called (class_apart (old e) c cls).1 in
          absurd (cc (sym (ap (option_and_then (slot_of_method P)) dcl) ∙ sym (ap (option_and_then (λ c. slot_of P c x)) cls) ∙ s.found))
      of_declaration c cls (Some d) dcl = found c d cls dcl

      of_class : (o : Option ℕ) → class_of (old e) ≡ o
          → IsName (option_map_or R.method_name (option_and_then (λ c. declaration_of P c x) o) x)
      of_class None cls = ⊎_elim (λ n. n) (λ i. absurd (maker_declared P (old e) x i.class.name sig i.name called cls)) n
      of_class (Some c) cls = of_declaration c cls (declaration_of P c x) refl

  -- the method that a super call runs
  pub super_named : (t : Tag) (x : List ℕ) (es : Exs) (d : ℕ) (sig : Signature) → k.is_static ≡ false → super_method P k.owner x ≡ Some d
      → has_body P d ≡ true → super_signature P k.owner x ≡ Some sig
      → Contains (parts_of P m k) (a_super_call t.place (super_method P k.owner x) (operands es) (O (super_call t x es)))
      → IsName (option_map_or R.method_name (super_method P k.owner x) x)
  super_named t x es d sig instance found bodied called there =
      let o = typed_parts.method_sig T d sig (sym (typed_parts.super_sig T x d found) ∙ called) in
      let r = self_row instance in
      subst (λ z. IsName (option_map_or R.method_name z x)) (sym found)
      (super_asked C m k B.stands t.place d (operands es) (O (super_call t x es))
      (subst (λ z. Contains (parts_of P m k) (a_super_call t.place z (operands es) (O (super_call t x es)))) found there) r.0 r.1 o.0 o.1
      (typed_parts.super_instance T k.owner x d found o.0 o.1)
      (sym (ap (λ z. option_map_or (λ (k : PlainMethod). is_some k.body) z false) o.1) ∙ bodied))

  pub read_type : (s : Static) (x : List ℕ) → is_some (access_type P s x) ≡ true → (f : ℕ) → field_in P s x ≡ Some f
      → is_some (field_type P f) ≡ true
  read_type s x some f l = ap is_some (sym (access_found P s x f l)) ∙ some

  pub class_row : (i : RowItem) (c : ℕ) → IsClass P c → IsName (row_name P H (R.row_type i) c)
  class_row i c lt = row_named C i c lt

  pub base : (i : RowItem) (v : Ty) → IsProgramType P v → IsFormedBase (written_base P H (R.row_type i) v.base)
  base i v a = base_formed C i v.base a
