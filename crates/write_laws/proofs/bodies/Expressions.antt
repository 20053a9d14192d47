-- What a written expression resolves to matches the old one.
use Rattle.std.proofs.Common.{◌≡◌, ℕ, ◌+◌, List, [], ◌∷◌, ◌++◌, Option, Some, None, refl, sym, ap, ◌∙◌, subst}
use Rattle.std.specs.Prelude.{◌&&◌, Bool, true, false, not, slice_get, Contains, option_and_then, ◌==◌, ◌||◌}
use Rattle.std.specs.Option.{option_map_or, is_some, is_none}
use Rattle.std.proofs.lemmas.Bool.{false≢true}
use Rattle.java_tree.specs.Syntax.{Expression, NullLit, Expressions, no_more, NameRef, CallOn}
use Rattle.java_core.specs.declared.Ty.{Ty}
use Rattle.java_core.specs.declared.TyBase.{TyBase}
use Rattle.java_core.specs.declared.TyBase.TheVariants.{Class}
use Rattle.java_core.specs.Trees.{Tag, at_place, Ex, Exs, no_ex, ex_then, number, character, text, truth, null, this, local, static_field, own_field, field, index, call, static_call, super_call, create, create_array, cast, instance_of, unary, binary}
use Rattle.java_core.specs.Programs.{Plain, PlainField, PlainMethod}
use Rattle.java_core.specs.Classes.{field_of, slot_of, slot_of_method, declaration_of}
use Rattle.java_core.specs.Types.{Static, Env, env_of, class_of, element_of, is_string, field_type, value_type, length_or, field_in, access_type, Signature, call_signature, static}
use Rattle.java_core.specs.Typing.{Typed, TypedArgs, t_field, t_index, t_call, t_static_call, t_super_call, t_create, t_make, t_create_array, t_cast, t_instance_of, t_unary, t_binary, t_ex_then}
use Rattle.java_core.specs.Formed.{IsFormed, FormedEx, FormedExs, f_local, f_static_field, f_field, f_index, f_call, f_static_call, f_super_call, f_create, f_create_array, f_cast, f_instance_of, f_unary, f_binary, f_ex_then}
use Rattle.java_meaning.proofs.Moves.{then_some}
use Rattle.hier_model.specs.Hierarchies.{Hierarchy}
use Rattle.flow_rules.specs.declared.items.RowItem.{RowItem}
use Rattle.flow_rules.specs.declared.items.RowItem.TheVariants as row
use Rattle.flow_rules.specs.Labels.{size, labelled, label, label_all}
use Rattle.flow_rules.specs.Operands.{object_of, operand_of, test_operand, type_in}
use Rattle.flow_rules.specs.Parts.{Part, a_creation, a_test, is_accessed, parts_all, parts_of}
use Rattle.flow_rules.proofs.Listed.{first}
use Rattle.flow_laws.proofs.cover.Types.{class_apart, slot_called}
use Rattle.name_rules.specs.declared.parts.Bound.{Bound}
use Rattle.name_rules.specs.declared.parts.Here.{Here}
use Rattle.name_rules.specs.Meanings.{class_named, is_bound, bound_names, is_class_name}
use Rattle.name_rules.specs.Resolves.{ResolvesTo, AllResolve, r_number, r_character, r_text, r_truth, r_null, r_this, r_field, r_index, r_super_call, r_create_array, r_cast, r_instance_of, r_unary, r_binary, r_no_more, r_and_more}
use Rattle.write_model.specs.Names.{nowhere, by_number, class_name, row_name, id, makers_name}
use Rattle.write_model.specs.Bodies.{variable_name, is_simple, static_field_tree, static_call_tree, field_name, called_name, written, written_all, creation_tree}
use Rattle.rebuild_model.specs.Renaming.{Places, Renaming, renaming_of, retyped, make_name}
use Rattle.rebuild_model.specs.Matches.{Matches, MatchesAll, m_number, m_character, m_text, m_truth, m_null, m_this, m_local, m_static_field, m_own_field, m_field, m_length, m_index, m_call, m_string_call, m_static_call, m_super_call, m_create, m_create_array, m_cast, m_instance_of, m_unary, m_binary, m_no_ex, m_ex_then, m_make}
use Rattle.write_laws.specs.bodies.Known.{KnowsNames}
use Rattle.write_laws.proofs.bodies.Scopes.{bound_if, Scoped}
use Rattle.write_laws.proofs.bodies.Meant.{prefix_read, infix_read, HasNode, means_is, cast_is}
use Rattle.write_laws.proofs.bodies.Inverse.{at_local, at_field, at_call, at_create}
use Rattle.write_laws.proofs.bodies.Found as found
use Rattle.write_laws.proofs.bodies.Found.{own_nearest, row_type_is, field_name_is, method_name_is}
use Rattle.flow_laws.proofs.cover.Walked.{walked}
use Rattle.flow_laws.proofs.cover.Each.{left, right, past}
use Rattle.write_laws.proofs.bodies.Sites.{creation_part, object_site}
use Rattle.java_core.specs.Makers.{maker_of}
use Rattle.flow_rules.specs.declared.items.ObjectType.{ObjectType}
use Rattle.rebuild_model.specs.Makes.{IsMake}

none_field : (b : Bool) (o : Option ℕ) (f : ℕ) → o ≡ Some f → (not b && is_none o) ≡ false
none_field true o f e = refl
none_field false o f e = ap is_none e

-- a method that is written: its variables, and the renamings by the numbers of nodes and by the placed types
pub record WrittenBody : Type 0 where
  pub env : Env
  pub by_node : Renaming
  pub renaming : Renaming

abbrev pub written_body : Plain → Hierarchy → Places → ℕ → PlainMethod → WrittenBody
written_body P H T m k = record {
  env = env_of m k;
  by_node = renaming_of P H by_number;
  renaming = renaming_of P H T;
}

module _ (P : Plain) (H : Hierarchy) (U O : Plain) (T : Places) (K : KnowsNames P H U O T) (formed : IsFormed P)
    (m : ℕ) (k : PlainMethod) (stands : slice_get P.methods m ≡ Some k) (here : Here) (static_here : here.is_static ≡ k.is_static)
    (owner : k.is_static ≡ true → here.owner ≡ T.holder_of k.owner) where
  open written_body P H T m k use {env as g, by_node, renaming as R}
  open walked P m k use {type, tree, tree_all, Stands}

  abbrev pub IsTyped : Ex → Type 0
  IsTyped e = Typed P g e

  abbrev pub IsFormedEx : List ℕ → Ex → Type 0
  IsFormedEx inner e = FormedEx P k inner e

  abbrev pub Copies : Ex → Ex → Type 0
  Copies e d = Matches P U R g e d

  -- the tag of a form that is read from the written text
  abbrev w : Tag
  w = at_place nowhere

  abbrev pub text_of : List ℕ → Ex → Expression
  text_of scope e = written P by_node H m k scope e

  abbrev HasRow : RowItem → Type 0
  HasRow i = found.HasRow P H U O T K formed i

  front : (p : Part) (qs : List Part) → Stands (p ∷ qs) → Contains (parts_of P m k) p
  front p qs st = st p (first p qs)

  -- rows of creations, casts and `instanceof`
  object_row : (t : Tag) (u : Bool) (n c : ℕ) (es : Exs) → Contains (parts_of P m k) (creation_part P m k t.place u t n c es) → HasRow (row.New n)
  unfolding type_in
  object_row t u n c es i =
      found.form_has P H U O T K formed m k stands (creation_part P m k t.place u t n c es) t.place (row.New n)
      (type (create t n c es)) (record { class = record { 0 = c }; dim = 0 }) i refl (λ x d. d)

  test_row : (t : Tag) (n c : ℕ) (e : Ex) → Contains (parts_of P m k) (a_test t.place (operand_of P (type_in P m k) m k e) (test_operand m t n c))
      → HasRow (row.Test n)
  test_row t n c e i =
      found.form_has P H U O T K formed m k stands (a_test t.place (operand_of P (type_in P m k) m k e) (test_operand m t n c)) t.place (row.Test n)
      (Some (record { class = record { 0 = c }; dim = 0 })) (record { class = record { 0 = c }; dim = 0 }) i refl (λ x d. d)

  has_node : (i : RowItem) (b : TyBase) → ((c : _) → b ≡ Class c → HasRow i) → HasNode O P H T K.type K.no_text (by_node.row_type i) b
  has_node i b h c e = let r = h c e in (r.node, r.is, r.live)

  array_node : (t : Tag) (u : Bool) (n : ℕ) (v : Ty) (e : Ex) → Contains (parts_of P m k)
      (a_creation t.place u (operand_of P (type_in P m k) m k (create_array t n v e)) None None [])
      → HasNode O P H T K.type K.no_text (by_node.row_type (row.New n)) v.base
  unfolding type_in
  array_node t u n v e i = has_node (row.New n) v.base (λ c b.
      found.form_has P H U O T K formed m k stands (a_creation t.place u (operand_of P (type_in P m k) m k (create_array t n v e)) None None []) t.place
      (row.New n) (type (create_array t n v e)) (record { class = c; dim = v.dim })
      i (ap (λ z. object_of (record { base = z; dim = v.dim })) b) (λ x d. d))

  cast_node : (t : Tag) (n : ℕ) (v : Ty) (e : Ex) → Contains (parts_of P m k) (a_test t.place (operand_of P (type_in P m k) m k e)
      (operand_of P (type_in P m k) m k (cast t n v e)))
      → HasNode O P H T K.type K.no_text (by_node.row_type (row.Cast n)) v.base
  unfolding type_in
  cast_node t n v e i = has_node (row.Cast n) v.base (λ c b.
      found.form_has P H U O T K formed m k stands (a_test t.place (operand_of P (type_in P m k) m k e)
      (operand_of P (type_in P m k) m k (cast t n v e))) t.place (row.Cast n) (type (cast t n v e)) (record { class = c; dim = v.dim })
      i (ap (λ z. object_of (record { base = z; dim = v.dim })) b) (λ x d. d))

  none_matched : {bs : List Bound} (xs : Exs) → AllResolve O here bs no_more xs → MatchesAll P U R g no_ex xs
  none_matched _ r_no_more = m_no_ex

  make_called : (n : ℕ) → by_node.make_name n ≡ make_name P n
  unfolding renaming_of
  make_called n = refl

  -- the class that a written name of a row means
  row_class : (i : RowItem) (c a : ℕ) → HasRow i → class_named O (row_name P H (by_node.row_type i) c) ≡ Some a → R.row_type i ≡ Some a
  row_class i c a r e = r.new ∙ sym (K.type r.node r.live) ∙ ap (λ z. class_named O (row_name P H z c)) (sym r.is) ∙ e

  -- a field access: a field of the base, or the length of an array
  field_copy : (t : Tag) (e b : Ex) (x : List ℕ) → is_some (access_type P (static P g e) x) ≡ true → Copies e b
      → Matches P U R g (field t e x) (field w b (field_name P by_node H m k (static P g e) x))
  unfolding access_type
  field_copy t e b x some me = go (field_in P s x) refl
    where
      s : Static
      s = static P g e

      none : field_in P s x ≡ None → (o : Option Ty) → is_some (length_or o (value_type P s x) x) ≡ true → is_some o ≡ true
      none h None q = absurd (false≢true (sym (ap (λ z. is_some (option_and_then (field_type P) z)) h) ∙ q))
      none h (Some u) q = refl

      go : (o : Option ℕ) → field_in P s x ≡ o → Matches P U R g (field t e x)
          (field w b (option_map_or by_node.field_name (field_in P s x) x))
      go (Some f) h =
          subst (λ z. Matches P U R g (field t e x) (field w b z))
          (sym (ap (λ z. option_map_or by_node.field_name z x) h ∙ field_name_is P H T f)) (m_field me h)
      go None h =
          subst (λ z. Matches P U R g (field t e x) (field w b z)) (sym (ap (λ z. option_map_or by_node.field_name z x) h))
          (m_length me (none h (element_of s) some))

  -- a call: of a slot, or of a method of a String
  call_copy : (t : Tag) (e b : Ex) (x : List ℕ) (es ds : Exs) (sig : Signature) → call_signature P (static P g e) x ≡ Some sig → Copies e b
      → MatchesAll P U R g es ds
      → Matches P U R g (call t e x es) (call w b (called_name P by_node H m k (static P g e) x) ds)
  call_copy t e b x es ds sig called me mes = go (is_string s) refl
    where
      s : Static
      s = static P g e

      classless : (o : Option ℕ) → class_of s ≡ o → is_string s ≡ true → class_of s ≡ None
      classless None h q = h
      classless (Some c) h q = absurd (false≢true (sym (class_apart s c h).1 ∙ q))

      go : (c : Bool) → is_string s ≡ c
          → Matches P U R g (call t e x es) (call w b
          (option_map_or by_node.method_name (option_and_then (λ c. declaration_of P c x) (class_of s)) x) ds)
      go true h =
          subst (λ z. Matches P U R g (call t e x es) (call w b z ds))
          (sym (ap (λ z. option_map_or by_node.method_name (option_and_then (λ c. declaration_of P c x) z) x) (classless (class_of s) refl h)))
          (m_string_call me h mes)
      go false h =
          let o = slot_called P s x sig called h in
          let c = then_some (λ c. slot_of P c x) (class_of s) o.number o.found in
          let d = then_some (slot_of_method P) (declaration_of P c.0 x) o.number c.2 in
          subst (λ z. Matches P U R g (call t e x es) (call w b z ds))
          (sym (ap (λ z. option_map_or by_node.method_name (option_and_then (λ c. declaration_of P c x) z) x) c.1
          ∙ ap (λ z. option_map_or by_node.method_name z x) d.1 ∙ method_name_is P H T d.0)) (m_call me c.1 d.1 mes)

  module _ (inner scope : List ℕ) (bs : List Bound) (s : Scoped k inner scope bs) where
    abbrev To : Expression → Ex → Type 0
    To e d = ResolvesTo O here bs e d

    -- what is written of an expression is no name of a class
    pub no_class : (e : Ex) → IsFormedEx inner e → is_class_name O here.owner (bound_names bs) (text_of scope e) ≡ false
    no_class (local t i) (f_local c l) = ap (λ z. not z && is_none (field_of O here.owner (variable_name k i)))
        (bound_if bs (variable_name k i) ∙ ap is_some (s.found i c))
    no_class (static_field t f) (f_static_field i) = go
      where
        g : PlainField
        g = i.member

        simple : (b : Bool) → is_simple k scope g.owner g.name ≡ b → is_class_name O here.owner (bound_names bs)
            (static_field_tree b (class_name P g.owner) g.name) ≡ false
        simple false e = refl
        simple true e =
            let there = K.static_field f g i.stands i.kind in
            let at = (found.simple_is P H U O T K formed m k stands here static_here owner inner scope bs s g.owner g.name e).at in
            none_field (is_bound (bound_names bs) g.name) (field_of O here.owner g.name) there.0
            (ap (λ c. field_of O c g.name) at ∙ own_nearest O (T.holder_of g.owner) there.0 g.name there.1)

        go : is_class_name O here.owner (bound_names bs) (text_of scope (static_field t f)) ≡ false
        go = ap (λ z. is_class_name O here.owner (bound_names bs) (option_map_or
            (λ (g : PlainField). static_field_tree (is_simple k scope g.owner g.name) (class_name P g.owner) g.name) z (NullLit nowhere))) i.stands
            ∙ simple (is_simple k scope g.owner g.name) refl
    no_class (static_call t f es) fo = go (slice_get P.methods f)
      where
        tree_free : (b : Bool) (c x : List ℕ) (ts : Expressions) → is_class_name O here.owner (bound_names bs) (static_call_tree b c x ts) ≡ false
        tree_free true c x ts = refl
        tree_free false c x ts = refl

        go : (o : Option PlainMethod)
            → is_class_name O here.owner (bound_names bs) (option_map_or
            (λ (g : PlainMethod). static_call_tree (is_simple k scope g.owner g.name) (class_name P g.owner) g.name
            (written_all P by_node H m k scope es)) o (NullLit nowhere)) ≡ false
        go None = refl
        go (Some g) = tree_free (is_simple k scope g.owner g.name) (class_name P g.owner) g.name (written_all P by_node H m k scope es)
    no_class (create t n c es) fo = creation_free (is_some (maker_of P c)) (makers_name P) (by_node.make_name n)
        (row_name P H (by_node.row_type (row.New n)) c) (written_all P by_node H m k scope es)
      where
        creation_free : (b : Bool) (x y z : List ℕ) (ts : Expressions) → is_class_name O here.owner (bound_names bs) (creation_tree b x y z ts) ≡ false
        creation_free true x y z ts = refl
        creation_free false x y z ts = refl
    no_class e fo = refl

    mutual
      pub matched : (u : Bool) (at : ℕ) (e d : Ex) → IsTyped e → IsFormedEx inner e → Stands (tree u (label at e)) → To (text_of scope e) d → Copies e d
      matched u at (number t n) d ty fo st r_number = m_number
      matched u at (character t c) d ty fo st r_character = m_character
      matched u at (text t x) d ty fo st r_text = m_text
      matched u at (truth t b) d ty fo st r_truth = m_truth
      matched u at (null t) d ty fo st r_null = m_null
      matched u at (this t) d ty fo st (r_this h) = m_this
      matched u at (local t i) d ty (f_local c l) st r = subst (λ z. Copies (local t i) z)
          (sym (at_local O here bs (variable_name k i) nowhere i d (s.found i c) r)) m_local
      matched u at (static_field t f) d ty (f_static_field i) st r =
          let z = found.static_field_met P H U O T K formed m k stands here static_here owner inner scope bs s f i d r in
          subst (λ z. Copies (static_field t f) z) (sym z.2) (m_static_field z.1)
      matched u at (own_field t f) d ty fo st (r_field (r_this h)) =
          subst (λ z. Matches P U R g (own_field t f) (field w (this w) z)) (sym (field_name_is P H T f)) m_own_field
      matched u at (field t e x) d (t_field te some) (f_field fe n) st r =
          let z = at_field O here bs (text_of scope e) (field_name P by_node H m k (static P g e) x) nowhere d (no_class e fe) r in
          subst (λ z. Copies (field t e x) z) (sym z.2) (field_copy t e z.0 x some
          (matched (is_accessed (label at e)) at e z.0 te fe (left (tree (is_accessed (label at e)) (label at e)) _ st) z.1))
      matched u at (index t e i) d (t_index te some ti num) (f_index fe fi) st (r_index {x = x} {y = y} re ri) =
          m_index (matched true at e x te fe (left (tree true (label at e)) _ st) re)
          (matched false (at + size e + 1) i y ti fi (past _ _ (right (tree true (label at e)) _ st)) ri)
      matched u at (call t e x es) d (t_call {s = sig} te called args) (f_call fe n fes) st r =
          let z = at_call O here bs (text_of scope e) (called_name P by_node H m k (static P g e) x)
          (written_all P by_node H m k scope es) nowhere d (no_class e fe) r in
          subst (λ z. Copies (call t e x es) z) (sym z.4)
          (call_copy t e z.0 x es z.1 sig called (matched true at e z.0 te fe (left (tree true (label at e)) _ st) z.2)
          (matched_all true (at + size e + 1) es z.1 _ args fes (past _ _ (right (tree true (label at e)) _ st)) z.3))
      matched u at (static_call t f es) d (t_static_call called args) (f_static_call i fes) st r =
          let z = found.static_call_met P H U O T K formed m k stands here static_here owner inner scope bs s f i
          (written_all P by_node H m k scope es) d r in
          subst (λ z. Copies (static_call t f es) z) (sym z.4) (m_static_call z.2 (matched_all false (at + 1) es z.1 _ args fes (past _ _ st) z.3))
      matched u at (super_call t x es) d (t_super_call {m = f} there has sig args) (f_super_call inst n fes) st (r_super_call {xs = ds} h all) =
          subst (λ z. Matches P U R g (super_call t x es) (super_call w z ds))
          (sym (ap (λ z. option_map_or by_node.method_name z x) there ∙ method_name_is P H T f))
          (m_super_call there (matched_all false (at + 1) es ds _ args fes (past _ _ st) all))
      matched u at (create t n c no_ex) d (t_create v none) fo st r =
          let z = at_create O here bs (id (row_name P H (by_node.row_type (row.New n)) c)) no_more nowhere d
          (subst (λ b. To (creation_tree b (makers_name P) (by_node.make_name n) (row_name P H (by_node.row_type (row.New n)) c) no_more) d)
          (ap is_some none) r) in
          subst (λ y. Copies (create t n c no_ex) y) (sym z.5)
          (m_create none (row_class (row.New n) c z.1 (object_row (labelled at t) (u || is_some (maker_of P c)) n c no_ex (front _ [] st)) z.3)
          (none_matched z.2 z.4))
      matched u at (create t n c es) d (t_make {m = j} v has called args) (f_create y fes) st r =
          let labels = label_all (at + 1) es in
          let rest = tree_all (is_some (maker_of P c)) labels in
          let x = object_site P formed m k stands (labelled at t).place (u || is_some (maker_of P c)) (labelled at t) n c labels (front _ rest st) in
          let of : maker_of P x.site.ty.class.0 ≡ Some j = ap (λ (o : ObjectType). maker_of P o.class.0) x.type ∙ has in
          let z = found.make_met P H U O T K formed m k stands here static_here owner inner scope bs s x.number j x.site x.stands
          (ap (λ (o : ObjectType). o.dim == 0) x.type) of (written_all P by_node H m k scope es) d
          (subst (λ q. To (CallOn (NameRef (makers_name P) nowhere) q (written_all P by_node H m k scope es) nowhere) d)
          (make_called n ∙ ap (make_name P) (sym x.is))
          (subst (λ b. To (creation_tree b (makers_name P) (by_node.make_name n) (row_name P H (by_node.row_type (row.New n)) c)
          (written_all P by_node H m k scope es)) d)
          (ap is_some has) r)) in
          subst (λ y. Copies (create t n c es) y) (sym z.4)
          (m_make has (subst (λ q. IsMake P U R q j z.0) x.is z.2)
          (matched_all (is_some (maker_of P c)) (at + 1) es z.1 _ args fes (past _ rest st) z.3))
      matched u at (create_array t n v e) d (t_create_array te num) (f_create_array known deep fe) st (r_create_array {t = v2} {x = x} {i = i} means re) =
          subst (λ z. Matches P U R g (create_array t n v e) (create_array w i z x))
          (sym (means_is O P H T K.type K.no_text (by_node.row_type (row.New n)) v v2 (array_node (labelled at t) u n v (label (at + 1) e) (front _ _ st)) means
          ∙ ap (λ z. retyped z v) (sym (row_type_is P H T (row.New n)))))
          (m_create_array (matched false (at + 1) e x te fe (past _ _ st) re))
      matched u at (cast t n v e) d (t_cast te can) (f_cast kind fe) st (r_cast {t = v2} {x = x} {i = i} means re) =
          subst (λ z. Matches P U R g (cast t n v e) (cast w i z x))
          (sym (cast_is O P H T K.type K.no_text P (by_node.row_type (row.Cast n)) v v2 kind (cast_node (labelled at t) n v (label (at + 1) e)
          (front _ _ st)) means
          ∙ ap (λ z. retyped z v) (sym (row_type_is P H T (row.Cast n)))))
          (m_cast (matched true (at + 1) e x te fe (past _ _ st) re))
      matched u at (instance_of t n e c) d (t_instance_of te rel) (f_instance_of fe cl) st (r_instance_of {x = x} {i = i} {k = a} re named) =
          m_instance_of (matched true at e x te fe (left (tree true (label at e)) _ st) re) (row_class (row.Test n) c a
          (test_row (labelled (at + size e) t) n c (label at e) (front _ [] (right (tree true (label at e)) _ st))) named)
      matched u at (unary t o e) d (t_unary te takes) (f_unary fe) st (r_unary {x = x} re) =
          subst (λ z. Matches P U R g (unary t o e) (unary w z x)) (sym (prefix_read o)) (m_unary (matched false at e x te fe st re))
      matched u at (binary t o e d) c (t_binary te td takes) (f_binary fe fd) st (r_binary {x = x} {y = y} re rd) =
          let both = left (tree false (label at e) ++ tree false (label (at + size e) d)) _ st in
          subst (λ z. Matches P U R g (binary t o e d) (binary w z x y)) (sym (infix_read o))
          (m_binary (matched false at e x te fe (left (tree false (label at e)) (tree false (label (at + size e) d)) both) re)
          (matched false (at + size e) d y td fd (right (tree false (label at e)) (tree false (label (at + size e) d)) both) rd))

      pub matched_all : (u : Bool) (at : ℕ) (es ds : Exs) (us : List Ty) → TypedArgs P g es us → FormedExs P k inner es
          → Stands (parts_all P (type_in P m k) m k u (label_all at es))
          → AllResolve O here bs (written_all P by_node H m k scope es) ds → MatchesAll P U R g es ds
      matched_all u at no_ex ds us ty fo st r_no_more = m_no_ex
      matched_all u at (ex_then e es) ds us (t_ex_then te fit tes) (f_ex_then fe fes) st (r_and_more {x = x} {xs = xs} re res) =
          m_ex_then (matched u at e x te fe (left (tree u (label at e)) _ st) re)
          (matched_all u (at + size e) es xs _ tes fes (right (tree u (label at e)) _ st) res)
