-- What a written body resolves to matches the old one, with the same numbers of locals and the types of their rows.
use Rattle.std.proofs.Common.{◌≡◌, ℕ, ◌+◌, List, [], ◌∷◌, ◌++◌, Option, Some, None, refl, sym, ap, ◌∙◌, subst}
use Rattle.std.specs.Prelude.{Bool, true, false, slice_get}
use Rattle.std.specs.Option.{option_map_or, is_some}
use Rattle.std.proofs.lemmas.Bool.{false≢true}
use Rattle.std.proofs.lemmas.Option.{same_Some}
use Rattle.kaba_base.specs.declared.Place.{Place}
use Rattle.java_tree.specs.declared.TypeName.{TypeName}
use Rattle.java_tree.specs.Syntax.{Expression, Statement, LocalOf, BlockOf, ForOf, Statements, no_statements, OptionalStatement, absent, present}
use Rattle.java_core.specs.Trees.{Tag, at_place, Ex, Target, to_local, to_static, to_own, to_field, to_element, no_target, this, St, Sts, IfArms, declare, block, assign, act, print, choose, loop, return, break, continue, no_st, st_then, no_other, otherwise, arm}
use Rattle.java_core.specs.Programs.{Plain, PlainLocal, PlainMethod}
use Rattle.java_core.specs.Types.{env_of, field_in, static}
use Rattle.java_core.specs.Typing.{TypedTarget, TypedTest, TypedSt, TypedSts, TypedArms, t_to_field, t_to_element, t_test, t_declare_as, t_block, t_assign, t_act, t_print, t_choose, t_loop, t_return, t_st_then, t_otherwise, t_arm}
use Rattle.java_core.specs.Formed as formed_names
use Rattle.java_core.specs.Formed.{IsLoopHead, of_while, of_for, IsFormed, FormedTarget, FormedOption, FormedSt, FormedSts, FormedArms, variables_of, scope_after_all, is_at_most_one, f_to_local, f_to_static, f_to_field, f_to_element, f_some, f_declare, f_block, f_assign, f_act, f_print, f_choose, f_loop, f_return, f_st_then, f_otherwise, f_arm}
use Rattle.java_meaning.specs.Paired.{pair_none, pair_some, pair_declare, pair_block, pair_assign, pair_act, pair_print, pair_choose, pair_loop, pair_return, pair_break, pair_continue, pair_no_st, pair_st_then, pair_no_other, pair_otherwise, pair_arm}
use Rattle.hier_model.specs.Hierarchies.{Hierarchy}
use Rattle.flow_rules.specs.Labels.{size, label, size_if, label_if, size_target, label_target, size_st, size_sts, label_st, label_sts, label_arms}
use Rattle.flow_rules.specs.Operands.{variable_row, type_in}
use Rattle.flow_rules.specs.Parts.{Part, is_accessed, parts_if, parts_assign, parts_st, parts_arms}
use Rattle.name_rules.specs.declared.parts.Bound.{Bound}
use Rattle.name_rules.specs.declared.parts.Here.{Here}
use Rattle.name_rules.specs.Resolves as names
use Rattle.name_rules.specs.Resolves.{target, bound, Counts, declares, declares_all, declares_arms, ResolvesTo, ResolvesIf, r_none, r_some, r_field, r_this, r_index, IsDeclaredLocal, StResolves, StsResolve, ArmsResolve, PartResolves, r_declare, r_block, r_assign, r_act, r_print, r_choose, r_while, r_for, r_return, r_break, r_continue, r_no_statements, r_and_then, r_no_else, r_else, r_arm, r_absent, r_present}
use Rattle.write_model.specs.Names.{nowhere, written_type}
use Rattle.write_model.specs.Bodies as text
use Rattle.write_model.specs.Bodies.{variable_name, loop_tree, field_name, written_if, written_target, written_st, written_sts, written_part, written_arms, written_else}
use Rattle.rebuild_model.specs.Renaming.{Places, renaming_of, retyped}
use Rattle.rebuild_model.specs.Matches.{Matches, MatchesIf, MatchesTarget, MatchesSt, MatchesSts, MatchesArms, m_to_local, m_to_static, m_to_own, m_to_field, m_to_element}
use Rattle.write_laws.specs.bodies.Known.{KnowsNames}
use Rattle.write_laws.proofs.bodies.Scopes.{Scoped, scoped_more}
use Rattle.write_laws.proofs.bodies.Counted.{counts_split, counts_one, Ends, ends_none, ends_one, ends_join, goes_on}
use Rattle.write_laws.proofs.bodies.Meant.{means_is}
use Rattle.write_laws.proofs.bodies.Inverse.{at_local, at_field}
use Rattle.write_laws.proofs.bodies.Found as found
use Rattle.write_laws.proofs.bodies.Found.{row_type_is, field_name_is}
use Rattle.write_laws.proofs.bodies.Expressions as ex
use Rattle.write_laws.proofs.bodies.Expressions.{written_body}
use Rattle.flow_laws.proofs.cover.Walked.{walked}
use Rattle.flow_laws.proofs.cover.Each.{left, right}

module _ (P : Plain) (H : Hierarchy) (U O : Plain) (T : Places) (K : KnowsNames P H U O T) (formed : IsFormed P)
    (m : ℕ) (k : PlainMethod) (stands : slice_get P.methods m ≡ Some k) (here : Here) (static_here : here.is_static ≡ k.is_static)
    (owner : k.is_static ≡ true → here.owner ≡ T.holder_of k.owner) (new : PlainMethod) where
  open written_body P H T m k use {env as g, by_node, renaming as R}
  open walked P m k use {tree, Stands, tree_sts as sts_parts}

  abbrev IsTyped : Ex → Type 0
  IsTyped e = ex.IsTyped P H U O T K formed m k stands here static_here owner e

  abbrev IsFormedEx : List ℕ → Ex → Type 0
  IsFormedEx inner e = ex.IsFormedEx P H U O T K formed m k stands here static_here owner inner e

  abbrev Copies : Ex → Ex → Type 0
  Copies e d = Matches P U R g e d

  -- the new method has a local with the type of the old one's row
  pub record IsRetyped (i : ℕ) : Type 0 where
    pub kept : (v : PlainLocal) → slice_get (variables_of k) i ≡ Some v
        → (w : PlainLocal) × (slice_get (variables_of new) i ≡ Some w) × (w.ty ≡ retyped
        ((renaming_of P H T).row_type (variable_row m k i)) v.ty)

  abbrev pub Ended : ℕ → ℕ → ℕ → Type 0
  Ended a b c = Ends IsRetyped a b c

  module _ (inner scope : List ℕ) (bs : List Bound) (s : Scoped k inner scope bs) where
    matched : (u : Bool) (at : ℕ) (e d : Ex) → IsTyped e → IsFormedEx inner e → Stands (tree u (label at e))
        → ResolvesTo O here bs (text.written P by_node H m k scope e) d → Copies e d
    matched u at e d ty fo st r = ex.matched P H U O T K formed m k stands here static_here owner inner scope bs s u at e d ty fo st r

    matched_if : (at : ℕ) (e d : Option Ex) → ((x : Ex) → e ≡ Some x → IsTyped x) → FormedOption P k inner e
        → Stands (parts_if P (type_in P m k) m k (label_if at e))
        → ResolvesIf O here bs (written_if P by_node H m k scope e) d → MatchesIf P U R g e d
    matched_if at None d ty fo st r_none = pair_none
    matched_if at (Some e) d ty (f_some fe) st (r_some {x = x} r) = pair_some (matched false at e x (ty e refl) fe st r)

    field_target : (t : Tag) (e b : Ex) (x : List ℕ) → is_some (field_in P (static P g e) x) ≡ true → Copies e b
        → MatchesTarget P U R g (to_field t e x) (to_field (at_place nowhere) b (field_name P by_node H m k (static P g e) x))
    field_target t e b x some me = go (field_in P (static P g e) x) refl
      where
        go : (o : Option ℕ) → field_in P (static P g e) x ≡ o
            → MatchesTarget P U R g (to_field t e x) (to_field (at_place nowhere) b
            (option_map_or by_node.field_name (field_in P (static P g e) x) x))
        go None h = absurd (false≢true (sym (ap is_some h) ∙ some))
        go (Some f) h =
            subst (λ z. MatchesTarget P U R g (to_field t e x) (to_field (at_place nowhere) b z))
            (sym (ap (λ z. option_map_or by_node.field_name z x) h ∙ field_name_is P H T f)) (m_to_field me h)

    abbrev IsTarget : Target → Ex → Type 0
    IsTarget b x = MatchesTarget P U R g b (target x)

    assigned : (p : Place) (at : ℕ) (b : Target) (e x d : Ex) → TypedTarget P g b → IsTyped e → FormedTarget P k inner b
        → IsFormedEx inner e
        → Stands (parts_assign P (type_in P m k) m k p (label_target at b) (label (at + size_target b) e))
        → ResolvesTo O here bs (written_target P by_node H m k scope b) x
        → ResolvesTo O here bs (text.written P by_node H m k scope e) d
        → IsTarget b x × Copies e d
    assigned p at (to_local t i) e x d tb te (f_to_local c l) fe st r re = (
      subst (λ z. IsTarget (to_local t i) z) (sym (at_local O here bs (variable_name k i) nowhere i x (s.found i c) r)) m_to_local,
      matched false (at + 0) e d te fe (left (tree false (label (at + 0) e)) _ st) re,
    )
    assigned p at (to_static t f) e x d tb te (f_to_static i) fe st r re =
        let z = found.static_field_met P H U O T K formed m k stands here static_here owner inner scope bs s f i x r in
        (subst (λ z. IsTarget (to_static t f) z) (sym z.2) (m_to_static z.1), matched false (at + 0) e d te fe (left (tree false (label (at + 0) e)) _ st) re)
    assigned p at (to_own t f) e x d tb te fb fe st (r_field (r_this h)) re = (
      subst (λ z. MatchesTarget P U R g (to_own t f) (to_field (at_place nowhere) (this (at_place nowhere)) z))
          (sym (field_name_is P H T f)) m_to_own,
      matched true (at + 0) e d te fe (left (tree true (label (at + 0) e)) _ st) re,
    )
    assigned p at (to_field t b x) e y d (t_to_field tb some) te (f_to_field fb n) fe st r re =
        let base = tree (is_accessed (label at b)) (label at b) in
        let value = tree true (label (at + size b) e) in
        let both = left (base ++ value) _ st in
        let z = at_field O here bs (text.written P by_node H m k scope b) (field_name P by_node H m k (static P g b) x) nowhere y
        (ex.no_class P H U O T K formed m k stands here static_here owner inner scope bs s b fb) r in (
          subst (λ z. IsTarget (to_field t b x) z) (sym z.2) (field_target t b z.0 x some
              (matched (is_accessed (label at b)) at b z.0 tb fb (left base value both) z.1)),
          matched true (at + size b) e d te fe (right base value both) re,
        )
    assigned p at (to_element t b i) e y d (t_to_element tb some ti num) te (f_to_element fb fi) fe st (r_index {x = x} {y = j} rb ri) re =
        let base = tree true (label at b) in
        let number = tree false (label (at + size b) i) in
        let value = tree true (label (at + (size b + size i)) e) in
        let three = left (base ++ number ++ value) _ st in
        let two = left (base ++ number) value three in (
          m_to_element (matched true at b x tb fb (left base number two) rb) (matched false (at + size b) i j ti fi (right base number two) ri),
          matched true (at + (size b + size i)) e d te fe (right (base ++ number) value three) re,
        )
    assigned p at no_target e x d tb te fb fe st r re = elim tb [ ]

  -- after a statement: it matches, its locals are kept, and what is in scope is found
  pub record After (inner scope : List ℕ) (bs : List Bound) (x : St) (D : Statement) (y : St) (a b c : ℕ) : Type 0 where
    pub matches : MatchesSt P U (renaming_of P H T) (env_of m k) x y
    pub ends : Ends IsRetyped a b c
    pub after : Scoped k (formed_names.scope_after inner x) (text.scope_after scope x) (names.scope_after bs D y)

  pub record AfterPart (inner scope : List ℕ) (bs : List Bound) (xs : Sts) (D : OptionalStatement) (ys : Sts) (a b c : ℕ) : Type 0 where
    pub matches : MatchesSts P U (renaming_of P H T) (env_of m k) xs ys
    pub ends : Ends IsRetyped a b c
    pub after : Scoped k (scope_after_all inner xs) (text.scope_after_part scope xs) (names.scope_after_part bs D ys)

  -- what a written loop resolves to
  record LoopParts (is_while q : Bool) (bs : List Bound) (f : OptionalStatement) (v : Option Expression) (h : OptionalStatement) (ss : Statements)
      (y : St) : Type 0 where
    first : Sts
    test : Option Ex
    step : Sts
    code : Sts
    is : y ≡ loop (at_place nowhere) is_while first test step code
    first_is : PartResolves O here new q bs f first
    test_is : ResolvesIf O here (names.scope_after_part bs f first) v test
    step_is : PartResolves O here new q (names.scope_after_part bs f first) h step
    code_is : StsResolve O here new true (names.scope_after_part bs f first) ss code

  for_parts : (q : Bool) (bs : List Bound) (f : OptionalStatement) (v : Option Expression) (h : OptionalStatement) (ss : Statements) (y : St)
      → StResolves O here new q bs (ForOf f v h ss nowhere) y → LoopParts false q bs f v h ss y
  for_parts q bs f v h ss y (r_for {x = x} {first = first} {step = step} {xs = xs} rf rv rh rs) =
      record { first = first; test = x; step = step; code = xs; is = refl; first_is = rf; test_is = rv; step_is = rh; code_is = rs }

  loop_parts : (is_while q : Bool) (scope : List ℕ) (bs : List Bound) (f : Sts) (v : Option Ex) (h : Sts) (ss : Statements) (y : St) → IsLoopHead is_while f v h
      → StResolves O here new q bs (loop_tree is_while (written_part P by_node H m k scope f)
      (written_if P by_node H m k (text.scope_after_part scope f) v) (written_part P by_node H m k (text.scope_after_part scope f) h) ss) y
      → LoopParts is_while q bs (written_part P by_node H m k scope f) (written_if P by_node H m k (text.scope_after_part scope f) v)
      (written_part P by_node H m k (text.scope_after_part scope f) h) ss y
  loop_parts is_while q scope bs f v h ss y of_while (r_while {x = x} {xs = xs} re rs) =
      record { first = no_st; test = Some x; step = no_st; code = xs; is = refl; first_is = r_absent; test_is = r_some re; step_is = r_absent; code_is = rs }
  loop_parts is_while q scope bs f v h ss y of_for r = for_parts q bs _ _ _ ss y r

  test_typed : (e : Option Ex) → TypedTest P g e → (x : Ex) → e ≡ Some x → IsTyped x
  test_typed None ty x q = absurd (cc)
  test_typed (Some e) (t_test te b) x q = subst (λ z. IsTyped z) (same_Some e x q) te

  none_typed : (x : Ex) → None ≡ Some x → IsTyped x
  none_typed x q = absurd (cc)

  one_typed : (e : Ex) → IsTyped e → (x : Ex) → Some e ≡ Some x → IsTyped x
  one_typed e te x q = subst (λ z. IsTyped z) (same_Some e x q) te

  -- a local has the type of its row
  local_kept : (bs : List Bound) (i : ℕ) (v : PlainLocal) → slice_get (variables_of k) i ≡ Some v
      → IsDeclaredLocal O new bs (written_type P H (by_node.row_type (variable_row m k i)) v.ty) v.name nowhere i → IsRetyped i
  local_kept bs i v e l = record {
    kept = λ w ew.
        let same = same_Some v w (sym e ∙ ew) in
        let is = means_is O P H T K.type K.no_text (by_node.row_type (variable_row m k i)) v.ty l.ty
        (λ c b. let r = found.variable_has P H U O T K formed m k stands i v c e b in (r.node, r.is, r.live)) l.means in (
          record { name = v.name; ty = l.ty; tag = at_place nowhere },
          l.stands,
          is
              ∙ ap (λ z. retyped z v.ty) (sym (row_type_is P H T (variable_row m k i))) ∙ ap (λ z. retyped (R.row_type (variable_row m k i)) z.ty) same,
        );
  }

  declared : (at : ℕ) (inner scope : List ℕ) (bs : List Bound) (q : Bool) (t : Tag) (i : ℕ) (e : Option Ex) (v : PlainLocal) (y : St) (a b c : ℕ)
      → slice_get (variables_of k) i ≡ Some v
      → ((x : Ex) → e ≡ Some x → IsTyped x) → FormedOption P k (i ∷ inner) e → Stands (parts_if P (type_in P m k) m k (label_if at e))
      → Scoped k inner scope bs
      → Counts a (i ∷ []) b → Counts a (declares y) c
      → StResolves O here new q bs (LocalOf false (written_type P H (by_node.row_type (variable_row m k i)) v.ty) v.name
      (written_if P by_node H m k (scope ++ i ∷ []) e) nowhere) y
      → After inner scope bs (declare t i e) (LocalOf false (written_type P H (by_node.row_type (variable_row m k i)) v.ty) v.name
      (written_if P by_node H m k (scope ++ i ∷ []) e) nowhere) y a b c
  declared at inner scope bs q t i e v y a b c there ty fo st s cb cc1 (r_declare {x = x} {i = j} l r) =
      let one = counts_one i a b cb in
      let two = counts_one j a c cc1 in
      subst (λ j. Counts a (j ∷ []) c → IsDeclaredLocal O new bs u v.name nowhere j → ResolvesIf O here (bound bs v.name j) w x
      → After inner scope bs (declare t i e) (LocalOf false u v.name w nowhere) (declare (at_place nowhere) j x) a b c)
      (one.0 ∙ sym two.0) (λ cj l r.
      let more = scoped_more k inner scope bs i v s there l.fresh in
      record {
        matches = pair_declare (matched_if (i ∷ inner) (scope ++ i ∷ []) (bound bs v.name i) more at e x ty fo st r);
        ends = ends_one IsRetyped i a b c cb (one.1 ∙ sym two.1) (local_kept bs i v there l);
        after = more;
      }) cc1 l r
    where
      u : TypeName
      u = written_type P H (by_node.row_type (variable_row m k i)) v.ty

      w : Option Expression
      w = written_if P by_node H m k (scope ++ i ∷ []) e

  -- how a local is written, where it stands
  abbrev text_local : List ℕ → ℕ → Option Ex → Option PlainLocal → Statement
  text_local scope i e o =
      option_map_or (λ v. LocalOf false (written_type P H (by_node.row_type (variable_row m k i)) v.ty) v.name
      (written_if P by_node H m k (scope ++ i ∷ []) e) nowhere) o (BlockOf no_statements nowhere)

  loop_scope : (is_while : Bool) (bs : List Bound) (f : OptionalStatement) (v : Option Expression) (h : OptionalStatement) (ss : Statements) (y : St)
      → names.scope_after bs (loop_tree is_while f v h ss) y ≡ bs
  loop_scope true bs absent (Some e) absent ss y = refl
  loop_scope true bs absent (Some e) (present s) ss y = refl
  loop_scope true bs absent None h ss y = refl
  loop_scope true bs (present s) v h ss y = refl
  loop_scope false bs f v h ss y = refl

  abbrev arms_parts : IfArms → List Part
  arms_parts xs = parts_arms P (type_in P m k) m k xs

  mutual
    st : (at : ℕ) (l q : Bool) (inner scope : List ℕ) (bs : List Bound) (x y : St) (a b c : ℕ) → TypedSt P g x → FormedSt P k l inner x
        → Stands (parts_st P (type_in P m k) m k (label_st at x)) → Scoped k inner scope bs
        → Counts a (declares x) b → Counts a (declares y) c → StResolves O here new q bs (written_st P by_node H m k scope x) y
        → After inner scope bs x (written_st P by_node H m k scope x) y a b c
    st at l q inner scope bs (declare t i None) y a b c ty (f_declare n fo) ps s cb cd r =
        subst (λ z. After inner scope bs (declare t i None) (text_local scope i None z) y a b c) (sym n.declared)
        (declared at inner scope bs q t i None n.variable y a b c n.declared none_typed fo ps s cb cd
        (subst (λ z. StResolves O here new q bs (text_local scope i None z) y) n.declared r))
    st at l q inner scope bs (declare t i (Some e)) y a b c (t_declare_as te fit) (f_declare n fo) ps s cb cd r =
        subst (λ z. After inner scope bs (declare t i (Some e)) (text_local scope i (Some e) z) y a b c) (sym n.declared)
        (declared at inner scope bs q t i (Some e) n.variable y a b c n.declared (one_typed e te) fo (left (tree false (label at e)) _ ps) s cb cd
        (subst (λ z. StResolves O here new q bs (text_local scope i (Some e) z) y) n.declared r))
    st at l q inner scope bs (block t xs) y a b c (t_block ty) (f_block fo) ps s cb cd (r_block {xs = ys} r) =
        let z = sts at l q inner scope bs xs ys a b c ty fo ps s cb cd r in record { matches = pair_block z.0; ends = z.1; after = s }
    st at l q inner scope bs (assign t b1 e) y a b c (t_assign tb te fit) (f_assign fb fe) ps s cb cd (r_assign {x = x} {y = d} rb re) =
        let z = assigned inner scope bs s t.place at b1 e x d tb te fb fe ps rb re in record
        { matches = pair_assign z.0 z.1; ends = ends_none IsRetyped a b c cb cd; after = s }
    st at l q inner scope bs (act t e) y a b c (t_act te) (f_act is fe) ps s cb cd (r_act {x = d} r) =
        record { matches = pair_act (matched inner scope bs s false at e d te fe ps r); ends = ends_none IsRetyped a b c cb cd; after = s }
    st at l q inner scope bs (print t n None) y a b c ty (f_print or fo) ps s cb cd (r_print {x = d} r) =
        record { matches = pair_print (matched_if inner scope bs s at None d none_typed fo ps r); ends = ends_none IsRetyped a b c cb cd; after = s }
    st at l q inner scope bs (print t n (Some e)) y a b c (t_print te pr) (f_print or fo) ps s cb cd (r_print {x = d} r) =
        record { matches = pair_print (matched_if inner scope bs s at (Some e) d (one_typed e te) fo ps r); ends = ends_none IsRetyped a b c cb cd; after = s }
    st at l q inner scope bs (choose t no_other) y a b c ty fo ps s cb cd r = elim fo [ ]
    st at l q inner scope bs (choose t (otherwise xs)) y a b c ty fo ps s cb cd r = elim fo [ ]
    st at l q inner scope bs (choose t (arm e xs rest)) y a b c (t_choose ty) (f_choose fo) ps s cb cd (r_choose {xs = ys} r) =
        let z = arms at l q inner scope bs (arm e xs rest) ys a b c ty fo ps s cb cd r in record { matches = pair_choose z.0; ends = z.1; after = s }
    st at l q inner scope bs (loop t is_while head test step code) y a b c (t_loop th tt tp tb) (f_loop of one two fh ft fp fb) ps s cb cd r =
        let to_test : ℕ = at + size_sts head in
        let to_step : ℕ = to_test + size_if test in
        let to_code : ℕ = to_step + size_sts step in
        let ps_head = sts_parts (label_sts at head) in
        let ps_test = parts_if P (type_in P m k) m k (label_if to_test test) in
        let ps_step = sts_parts (label_sts to_step step) in
        let ps_code = sts_parts (label_sts to_code code) in
        let three = left (ps_head ++ ps_test ++ ps_step) ps_code ps in
        let both = left (ps_head ++ ps_test) ps_step three in
        let w = loop_parts is_while q scope bs head test step
        (written_sts P by_node H m k (text.scope_after_part scope head) code) y of r in
        let o = counts_split (declares_all head ++ declares_all step) (declares_all code) a b cb in
        let o1 = counts_split (declares_all head) (declares_all step) a o.0 o.1 in
        let n = counts_split (declares_all w.first ++ declares_all w.step) (declares_all w.code) a c (subst (λ z. Counts a (declares z) c) w.is cd) in
        let n1 = counts_split (declares_all w.first) (declares_all w.step) a n.0 n.1 in
        let h = part at l q inner scope bs head w.first a o1.0 n1.0 formed_names.is_first one th fh (left ps_head ps_test both) s o1.1 n1.1 w.first_is in
        let p = part to_step l q _ _ _ step w.step o1.0 o.0 n.0 formed_names.is_act two tp fp (right (ps_head ++ ps_test) ps_step three) h.after o1.2
        (goes_on IsRetyped o1.0 n1.0 n.0 (declares_all w.step) h.ends.same n1.2) w.step_is in
        let d = sts to_code true true _ _ _ code w.code o.0 b c tb fb (right (ps_head ++ ps_test ++ ps_step) ps_code ps) h.after o.2
        (goes_on IsRetyped o.0 n.0 c (declares_all w.code) p.ends.same n.2) w.code_is in
        let v = matched_if _ _ _ h.after to_test test w.test (test_typed test tt) ft (right ps_head ps_test both) w.test_is in
        record {
          matches = subst (λ z. MatchesSt P U R g (loop t is_while head test step code) z) (sym w.is) (pair_loop h.matches v p.matches d.0);
          ends = ends_join IsRetyped a o.0 n.0 b c (ends_join IsRetyped a o1.0 n1.0 o.0 n.0 h.ends p.ends) d.1;
          after = subst (λ z. Scoped k inner scope z) (sym (loop_scope is_while bs _ _ _ _ y)) s;
        }
    st at l q inner scope bs (return t None) y a b c ty (f_return fo) ps s cb cd (r_return {x = d} r) =
        record { matches = pair_return (matched_if inner scope bs s at None d none_typed fo ps r); ends = ends_none IsRetyped a b c cb cd; after = s }
    st at l q inner scope bs (return t (Some e)) y a b c (t_return te res fit) (f_return fo) ps s cb cd (r_return {x = d} r) =
        record {
          matches = pair_return (matched_if inner scope bs s at (Some e) d (one_typed e te) fo (left (tree false (label at e)) _ ps) r);
          ends =
              ends_none IsRetyped a b c cb cd;
          after = s;
        }
    st at l q inner scope bs (break t) y a b c ty fo ps s cb cd r_break = record { matches = pair_break; ends = ends_none IsRetyped a b c cb cd; after = s }
    st at l q inner scope bs (continue t) y a b c ty fo ps s cb cd r_continue =
        record { matches = pair_continue; ends = ends_none IsRetyped a b c cb cd; after = s }

    part : (at : ℕ) (l q : Bool) (inner scope : List ℕ) (bs : List Bound) (xs ys : Sts) (a b c : ℕ) (p : St → Bool) → is_at_most_one p xs ≡ true
        → TypedSts P g xs → FormedSts P k l inner xs
        → Stands (sts_parts (label_sts at xs)) → Scoped k inner scope bs → Counts a (declares_all xs) b → Counts a (declares_all ys) c
        → PartResolves O here new q bs (written_part P by_node H m k scope xs) ys
        → AfterPart inner scope bs xs (written_part P by_node H m k scope xs) ys a b c
    part at l q inner scope bs no_st ys a b c p one ty fo ps s cb cd r_absent =
        record { matches = pair_no_st; ends = ends_none IsRetyped a b c cb cd; after = s }
    part at l q inner scope bs (st_then x no_st) ys a b c p one (t_st_then tx txs) (f_st_then fx fxs) ps s cb cd (r_present {x = y} r) =
        let o = counts_split (declares x) [] a b cb in
        let n = counts_split (declares y) [] a c cd in
        let h = st at l q inner scope bs x y a o.0 n.0 tx fx (left (parts_st P (type_in P m k) m k (label_st at x)) [] ps) s o.1 n.1 r in
        record {
          matches = pair_st_then h.matches pair_no_st;
          ends = ends_join IsRetyped a o.0 n.0 b c h.ends
              (ends_none IsRetyped o.0 b c o.2 (goes_on IsRetyped o.0 n.0 c [] h.ends.same n.2));
          after = h.after;
        }
    part at l q inner scope bs (st_then x (st_then z zs)) ys a b c p one ty fo ps s cb cd r = absurd (false≢true one)

    pub sts : (at : ℕ) (l q : Bool) (inner scope : List ℕ) (bs : List Bound) (xs ys : Sts) (a b c : ℕ) → TypedSts P g xs
        → FormedSts P k l inner xs → Stands (sts_parts (label_sts at xs)) → Scoped k inner scope bs
        → Counts a (declares_all xs) b → Counts a (declares_all ys) c
        → StsResolve O here new q bs (written_sts P by_node H m k scope xs) ys
        → MatchesSts P U R g xs ys × Ended a b c
    sts at l q inner scope bs no_st ys a b c ty fo ps s cb cd r_no_statements = (pair_no_st, ends_none IsRetyped a b c cb cd)
    sts at l q inner scope bs (st_then x xs) zs a b c (t_st_then tx txs) (f_st_then fx fxs) ps s cb cd (r_and_then {x = y} {xs = ys} ry rys) =
        let o = counts_split (declares x) (declares_all xs) a b cb in
        let n = counts_split (declares y) (declares_all ys) a c cd in
        let ps_x = parts_st P (type_in P m k) m k (label_st at x) in
        let ps_xs = sts_parts (label_sts (at + size_st x) xs) in
        let h = st at l q inner scope bs x y a o.0 n.0 tx fx (left ps_x ps_xs ps) s o.1 n.1 ry in
        let z = sts (at + size_st x) l q _ _ _ xs ys o.0 b c txs fxs (right ps_x ps_xs ps) h.after o.2
        (goes_on IsRetyped o.0 n.0 c (declares_all ys) h.ends.same n.2) rys in
        (pair_st_then h.matches z.0, ends_join IsRetyped a o.0 n.0 b c h.ends z.1)

    arms : (at : ℕ) (l q : Bool) (inner scope : List ℕ) (bs : List Bound) (xs ys : IfArms) (a b c : ℕ) → TypedArms P g xs
        → FormedArms P k l inner xs → Stands (arms_parts (label_arms at xs)) → Scoped k inner scope bs
        → Counts a (declares_arms xs) b → Counts a (declares_arms ys) c
        → ArmsResolve O here new q bs (written_arms P by_node H m k scope xs) (written_else P by_node H m k scope xs) ys
        → MatchesArms P U R g xs ys × Ended a b c
    arms at l q inner scope bs no_other zs a b c ty fo ps s cb cd r_no_else = (pair_no_other, ends_none IsRetyped a b c cb cd)
    arms at l q inner scope bs (otherwise xs) zs a b c (t_otherwise ty) (f_otherwise fo) ps s cb cd (r_else {xs = ys} r) =
        let z = sts at l q inner scope bs xs ys a b c ty fo ps s cb cd r in (pair_otherwise z.0, z.1)
    arms at l q inner scope bs (arm e xs rest) zs a b c (t_arm te is txs tm) (f_arm fe fxs fm) ps s cb cd (r_arm {x = d} {xs = ys} {more = others} re rs rm) =
        let to_xs : ℕ = at + size e in
        let to_rest : ℕ = to_xs + size_sts xs in
        let ps_e = tree false (label at e) in
        let ps_xs = sts_parts (label_sts to_xs xs) in
        let ps_rest = arms_parts (label_arms to_rest rest) in
        let both = left (ps_e ++ ps_xs) ps_rest ps in
        let o = counts_split (declares_all xs) (declares_arms rest) a b cb in
        let n = counts_split (declares_all ys) (declares_arms others) a c cd in
        let h = sts to_xs l q inner scope bs xs ys a o.0 n.0 txs fxs (right ps_e ps_xs both) s o.1 n.1 rs in
        let z = arms to_rest l q inner scope bs rest others o.0 b c tm fm (right (ps_e ++ ps_xs) ps_rest ps) s o.2
        (goes_on IsRetyped o.0 n.0 c (declares_arms others) h.1.same n.2) rm in
        (pair_arm (matched inner scope bs s false at e d te fe (left ps_e ps_xs both) re) h.0 z.0, ends_join IsRetyped a o.0 n.0 b c h.1 z.1)
