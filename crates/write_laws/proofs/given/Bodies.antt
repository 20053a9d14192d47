-- The bodies of the written tree are made of forms that the grammar gives.
use Rattle.std.proofs.Common.{◌≡◌, ℕ, ◌+◌, Bool, true, false, List, [], ◌∷◌, ◌++◌, length, Option, Some, None, Contains, refl, sym, ap, ◌∙◌, subst, arith}
use Rattle.std.specs.Prelude.{option_and_then, ◌||◌, ◌==◌}
use Rattle.std.specs.Option.{is_some, option_map_or}
use Rattle.std.proofs.lemmas.Bool.{false≢true}
use Rattle.kaba_base.specs.declared.Place.{Place}
use Rattle.java_tree.specs.Syntax.{Expression, Statement, LocalOf, BlockOf, Statements, no_statements, no_more}
use Rattle.java_tree.specs.Formed as printed
use Rattle.java_tree.specs.Formed.{is_target, IsFormedExpression, AreFormed, IsFormedValue, IsFormedStmt, AreFormedStmts, AreFormedArms, IsFormedElse, IsFormedFirst, IsFormedStep}
use Rattle.java_core.specs.declared.Ty.{Ty}
use Rattle.java_core.specs.Trees.{Ex, Exs, no_ex, ex_then, number, character, text, truth, null, this, local, static_field, own_field, field, index, call, static_call, super_call, create, create_array, cast, instance_of, unary, binary, Target, to_local, to_static, to_own, to_field, to_element, no_target, St, Sts, IfArms, declare, block, assign, act, print, choose, loop, return, break, continue, no_st, st_then, no_other, otherwise, arm, Tag}
use Rattle.java_core.specs.Programs.{PlainLocal}
use Rattle.java_core.specs.Types.{field_type, value_type, fits_in, target_type}
use Rattle.java_core.specs.Typing.{TypedArgs, TypedTarget, TypedTest, TypedSt, TypedSts, TypedArms, t_field, t_index, t_call, t_static_call, t_super_call, t_create, t_make, t_create_array, t_cast, t_instance_of, t_unary, t_binary, t_ex_then, t_to_field, t_to_element, t_test, t_declare_as, t_block, t_assign, t_act, t_print, t_choose, t_loop, t_return, t_st_then, t_otherwise, t_arm}
use Rattle.java_core.specs.Formed as core
use Rattle.java_core.specs.Formed.{IsNewLocal, variables_of, numbers_below, is_at_most_one, is_first, FormedEx, FormedExs, FormedTarget, FormedOption, FormedSt, FormedSts, FormedArms, f_number, f_character, f_text, f_local, f_static_field, f_own_field, f_field, f_index, f_call, f_static_call, f_super_call, f_create, f_create_array, f_cast, f_instance_of, f_unary, f_binary, f_ex_then, f_to_local, f_to_static, f_to_own, f_to_field, f_to_element, f_some, f_declare, f_block, f_assign, f_act, f_print, f_choose, f_loop, f_return, f_st_then, f_otherwise, f_arm}
use Rattle.flow_rules.specs.declared.items.RowItem.TheVariants as row
use Rattle.flow_rules.specs.Operands.{object_field, variable_row, this_operand, type_in}
use Rattle.flow_rules.specs.Labels.{size, labelled, label, label_all, size_if, label_if, size_target, label_target, size_st, size_sts, label_st, label_sts, label_arms}
use Rattle.flow_rules.specs.Parts.{a_load, a_store, is_accessed, parts_if, parts_assign, parts_st, parts_arms, parts_body, parts_of}
use Rattle.flow_rules.proofs.Listed.{contains_at, more}
use Rattle.rebuild_laws.proofs.types.Statements.{fits_some}
use Rattle.write_model.specs.Names.{nowhere, written_type, makers_name, row_name}
use Rattle.write_model.specs.Bodies.{scope_after_part, written, written_all, written_if, written_target, declared, written_st, written_sts, written_part, written_arms, written_else}
use Rattle.write_laws.proofs.given.Given.{Given, Bodied, words}
use Rattle.write_laws.proofs.given.Types.{cast_formed}
use Rattle.write_laws.proofs.given.Forms.{literal, sign, infix_level, loop_formed, creation_formed, creation_called}
use Rattle.write_laws.proofs.given.Named as named
use Rattle.flow_laws.proofs.cover.Walked.{walked}
use Rattle.flow_laws.proofs.cover.Each.{left, right, past, here}
use Rattle.java_lex.specs.Writable.{IsName}
use Rattle.java_core.specs.Makers.{maker_of}
use Rattle.flow_rules.specs.declared.items.ObjectType.{ObjectType}
use Rattle.write_laws.proofs.bodies.Sites.{creation_part, object_site}
use Rattle.write_laws.proofs.rebuilds.Fixed.{IsMade}
use Rattle.write_laws.proofs.given.Makes.{holder_called, make_called}

module _ (C : Given) (B : Bodied C) where
  open C use {program as P, hierarchy as H}
  open words C use {renaming as R}
  open B use {number as m, method as k}
  open walked P m k use {env as g, type, operand as O, tree, tree_all as all, Stands, IsTyped, IsFormed as IsFormedEx}
  open walked P m k use {static as old, tree_sts as sts, tree_if as if_there}

  -- how an expression is written
  abbrev E : List ℕ → Ex → Expression
  E wr e = written P R H m k wr e

  -- the names of the method that makes the objects of a creation
  make_names : (t : Tag) (n c j : ℕ) (es : Exs) (u : Bool) (w : Tag) → maker_of P c ≡ Some j
      → Contains (parts_of P m k) (creation_part P m k t.place u w n c es) → IsName (makers_name P) × IsName (R.make_name n)
  make_names t n c j es u w e i =
      let x = object_site P C.ready.formed m k B.stands t.place u w n c es i in
      let z : IsMade P C.ready.formed x.number = record {
        site = x.site;
        stands = x.stands;
        object = ap (λ (o : ObjectType). o.dim == 0) x.type;
        maker = j;
        has = ap (λ (o : ObjectType). maker_of P o.class.0) x.type ∙ e;
      } in
      (holder_called C x.number z, subst (λ q. IsName (R.make_name q)) x.is (make_called C x.number z))

  -- ---- expressions, of which the parts have labels

  mutual
    ex_formed : (at : ℕ) (u : Bool) (sc wr : List ℕ) (e : Ex) → IsTyped e → IsFormedEx sc e → Stands (tree u (label at e)) → IsFormedExpression (E wr e)
    ex_formed at u sc wr (number t n) ty (f_number a) st = literal a
    ex_formed at u sc wr (character t c) ty (f_character a) st = a
    ex_formed at u sc wr (text t x) ty (f_text a) st = a
    ex_formed at u sc wr (truth t b) ty fo st = tt
    ex_formed at u sc wr (null t) ty fo st = tt
    ex_formed at u sc wr (this t) ty fo st = tt
    ex_formed at u sc wr (local t i) ty (f_local a lt) st = named.variable_named C B i lt
    ex_formed at u sc wr (static_field t f) ty (f_static_field s) st = (named.static_field_formed C B wr f s).0
    ex_formed at u sc wr (own_field t f) ty (f_own_field s own) st =
        (tt, named.own_named C B f (a_load t.place (this_operand m k) (Some f) (O (own_field (labelled at t) f))) s own (λ a c. c) (here _ [] st))
    ex_formed at u sc wr (field t e x) (t_field te some) (f_field fe n) st =
        let l = label at e in
        let inner = left (tree (is_accessed l) l) _ st in (
          ex_formed at (is_accessed l) sc wr e te fe inner,
          named.field_named C B (is_accessed l) sc at e x (λ z. a_load t.place (O l) z (O (field (labelled (at + size e) t) l x))) te fe inner n
              (named.read_type C B (old e) x some) (λ f a c. c) (here _ [] (right (tree (is_accessed l) l) _ st)),
        )
    ex_formed at u sc wr (index t e i) (t_index te some ti num) (f_index fe fi) st =
        let es = tree true (label at e) in
        (ex_formed at true sc wr e te fe (left es _ st), ex_formed (at + size e + 1) false sc wr i ti fi (past _ _ (right es _ st)))
    ex_formed at u sc wr (call t e x es) (t_call {s = sig} te called args) (f_call fe n fes) st =
        let l = label at e in
        let inner = left (tree true l) _ st in (
          ex_formed at true sc wr e te fe inner,
          named.call_named C B sc (labelled (at + size e) t) at e x (label_all (at + size e + 1) es) sig te called fe inner
              n (here _ _ (right (tree true l) _ st)),
          exs_formed (at + size e + 1) true sc wr es _ args fes (past _ _ (right (tree true l) _ st)),
        )
    ex_formed at u sc wr (static_call t d es) (t_static_call sig args) (f_static_call s fes) st =
        (named.static_call_formed C B wr d (written_all P R H m k wr es) s).0 (exs_formed (at + 1) false sc wr es _ args fes (past _ _ st))
    ex_formed at u sc wr (super_call t x es) (t_super_call {m = d} {s = sig} found bodied called args) (f_super_call s n fes) st = (
      named.super_named C B (labelled at t) x (label_all (at + 1) es) d sig s found bodied called (here _ _ st),
      exs_formed (at + 1) false sc wr es _ args fes (past _ _ st),
    )
    ex_formed at u sc wr (create t n c no_ex) (t_create v w) (f_create a b) st =
        creation_formed (is_some (maker_of P c)) (makers_name P) (R.make_name n) (row_name P H (R.row_type (row.New n)) c) no_more
        (λ h. absurd (false≢true (sym (ap is_some w) ∙ h))) (λ h. named.class_row C B (row.New n) c a) tt
    ex_formed at u sc wr (create t n c es) (t_make {m = j} v w called args) (f_create a fes) st =
        let labels = label_all (at + 1) es in
        let made = is_some (maker_of P c) in
        creation_formed made (makers_name P) (R.make_name n) (row_name P H (R.row_type (row.New n)) c) (written_all P R H m k wr es)
        (λ h. make_names t n c j labels (u || made) (labelled at t) w (here _ _ st))
        (λ h. named.class_row C B (row.New n) c a)
        (exs_formed (at + 1) made sc wr es _ args fes (past _ (all made labels) st))
    ex_formed at u sc wr (create_array t n v e) (t_create_array te num) (f_create_array a d fe) st =
        (named.base C B (row.New n) v a, omega (arith, d), ex_formed (at + 1) false sc wr e te fe (past _ _ st))
    ex_formed at u sc wr (cast t n v e) (t_cast te can) (f_cast a fe) st =
        let c = cast_formed C (row.Cast n) v a in
        (c.0, c.1, ex_formed (at + 1) true sc wr e te fe (past _ _ st))
    ex_formed at u sc wr (instance_of t n e c) (t_instance_of te rel) (f_instance_of fe a) st =
        (ex_formed at true sc wr e te fe (left (tree true (label at e)) _ st), named.class_row C B (row.Test n) c a)
    ex_formed at u sc wr (unary t o e) (t_unary te takes) (f_unary fe) st = (sign o, ex_formed at false sc wr e te fe st)
    ex_formed at u sc wr (binary t o e d) (t_binary te td takes) (f_binary fe fd) st =
        let es = tree false (label at e) in
        let ds = tree false (label (at + size e) d) in
        let both = left (es ++ ds) _ st in
        (infix_level o, ex_formed at false sc wr e te fe (left es ds both), ex_formed (at + size e) false sc wr d td fd (right es ds both))

    exs_formed : (at : ℕ) (u : Bool) (sc wr : List ℕ) (es : Exs) (us : List Ty) → TypedArgs P g es us → FormedExs P k sc es
        → Stands (all u (label_all at es)) → AreFormed (written_all P R H m k wr es)
    exs_formed at u sc wr no_ex us ty fo st = tt
    exs_formed at u sc wr (ex_then e es) (v ∷ us) (t_ex_then te fit tes) (f_ex_then fe fes) st =
        let ps = tree u (label at e) in (ex_formed at u sc wr e te fe (left ps _ st), exs_formed (at + size e) u sc wr es us tes fes (right ps _ st))
    exs_formed at u sc wr (ex_then e es) [] ty fo st = elim ty [ ]

  -- ---- statements

  abbrev S : List ℕ → St → Statement
  S wr x = written_st P R H m k wr x

  -- an assignment: what it changes, and the value
  assign_formed : (at : ℕ) (sc wr : List ℕ) (p : Place) (b : Target) (e : Ex) → TypedTarget P g b → IsTyped e
      → fits_in P (old e) (target_type P g b) ≡ true → FormedTarget P k sc b → IsFormedEx sc e
      → Stands (parts_assign P (type_in P m k) m k p (label_target at b) (label (at + size_target b) e))
      → (is_target (written_target P R H m k wr b) ≡ true) × IsFormedExpression (written_target P R H m k wr b) × IsFormedExpression (E wr e)
  assign_formed at sc wr p (to_local t i) e tb te fit (f_to_local a lt) fe st =
      (refl, named.variable_named C B i lt, ex_formed (at + 0) false sc wr e te fe (left (tree false (label (at + 0) e)) _ st))
  assign_formed at sc wr p (to_static t f) e tb te fit (f_to_static s) fe st =
      let z = named.static_field_formed C B wr f s in (z.1, z.0, ex_formed (at + 0) false sc wr e te fe (left (tree false (label (at + 0) e)) _ st))
  assign_formed at sc wr p (to_own t f) e tb te fit (f_to_own s own) fe st =
      let value = label (at + 0) e in
      let store = a_store p (this_operand m k) (Some f) (O value) in
      let name = named.own_named C B f store s own (λ a c. c) (here store [] (right (tree true value) _ st)) in
      (refl, (tt, name), ex_formed (at + 0) true sc wr e te fe (left (tree true value) _ st))
  assign_formed at sc wr p (to_field t b x) e (t_to_field tb some) te fit (f_to_field fb n) fe st =
      let base = label at b in
      let value = label (at + size b) e in
      let bs = tree (is_accessed base) base in
      let vs = tree true value in
      let both = left (bs ++ vs) _ st in
      let there = here (a_store p (O base) (object_field P (type base) x) (O value)) [] (right (bs ++ vs) _ st) in
      let name = named.field_named C B (is_accessed base) sc at b x (λ z. a_store p (O base) z (O value)) tb fb (left bs vs both) n
      (λ f l. sym (ap (λ o. is_some (option_and_then (field_type P) o)) l) ∙ fits_some P (old e) (value_type P (old b) x) fit) (λ f a c. c) there in
      (refl, (ex_formed at (is_accessed base) sc wr b tb fb (left bs vs both), name), ex_formed (at + size b) true sc wr e te fe (right bs vs both))
  assign_formed at sc wr p (to_element t b i) e (t_to_element tb some ti num) te fit (f_to_element fb fi) fe st =
      let bs = tree true (label at b) in
      let is = tree false (label (at + size b) i) in
      let vs = tree true (label (at + (size b + size i)) e) in
      let three = left ((bs ++ is) ++ vs) _ st in
      let two = left (bs ++ is) vs three in (
        refl,
        (ex_formed at true sc wr b tb fb (left bs is two), ex_formed (at + size b) false sc wr i ti fi (right bs is two)),
        ex_formed (at + (size b + size i)) true sc wr e te fe (right (bs ++ is) vs three),
      )
  assign_formed at sc wr p no_target e ty te fit fb fe st = elim ty [ ]

  test_formed : (at : ℕ) (sc wr : List ℕ) (e : Option Ex) → TypedTest P g e → FormedOption P k sc e
      → Stands (parts_if P (type_in P m k) m k (label_if at e)) → IsFormedValue (written_if P R H m k wr e)
  test_formed at sc wr None ty fo st = tt
  test_formed at sc wr (Some e) (t_test te b) (f_some fe) st = ex_formed at false sc wr e te fe st

  declared_formed : (sc : List ℕ) (i : ℕ) (v : Option Expression) → IsNewLocal k sc i
      → (IsFormedValue v → IsFormedStmt (declared P R H m k i v)) × (printed.is_simple (declared P R H m k i v) ≡ true)
  declared_formed sc i v new =
      let w = (named.method_formed C B).variables new.variable (contains_at (variables_of k) i new.variable new.declared) in
      subst
      (λ o. let x = option_map_or (λ (w : PlainLocal). LocalOf false (written_type P H (R.row_type (variable_row m k i)) w.ty) w.name v nowhere) o
      (BlockOf no_statements nowhere) in (IsFormedValue v → IsFormedStmt x) × (printed.is_simple x ≡ true)) (sym new.declared)
      (λ f. (named.base C B (variable_row m k i) new.variable.ty w.type, w.name.name, f), refl)

  call_written : (wr sc : List ℕ) (e : Ex) → core.is_call e ≡ true → FormedEx P k sc e → printed.is_call (written P R H m k wr e) ≡ true
  call_written wr sc (call t e x es) c f = refl
  call_written wr sc (static_call t d es) c (f_static_call s fes) = (named.static_call_formed C B wr d (written_all P R H m k wr es) s).1
  call_written wr sc (super_call t x es) c f = refl
  call_written wr sc (create t n a es) c f = creation_called (is_some (maker_of P a)) (makers_name P) (R.make_name n)
      (row_name P H (R.row_type (row.New n)) a) (written_all P R H m k wr es)
  call_written wr sc e c f = absurd (false≢true c)

  -- what stands in the head of a `for`
  act_written : (wr : List ℕ) (x : St) → core.is_act x ≡ true → printed.is_act (S wr x) ≡ true
  act_written wr (assign t b e) c = refl
  act_written wr (act t e) c = refl
  act_written wr (print t n e) c = refl
  act_written wr x c = absurd (false≢true c)

  act_simple : (s : Statement) → printed.is_act s ≡ true → printed.is_simple s ≡ true
  act_simple (LocalOf f t n v p) e = refl
  act_simple s e = e

  simple_written : (l : Bool) (sc wr : List ℕ) (x : St) → is_first x ≡ true → FormedSt P k l sc x → printed.is_simple (S wr x) ≡ true
  simple_written l sc wr (declare t i e) c (f_declare new v) = (declared_formed sc i (written_if P R H m k (wr ++ i ∷ []) e) new).1
  simple_written l sc wr x c fo = act_simple (S wr x) (act_written wr x c)

  first_formed : (l : Bool) (sc wr : List ℕ) (xs : Sts) → is_at_most_one is_first xs ≡ true → FormedSts P k l sc xs
      → AreFormedStmts (written_sts P R H m k wr xs) → IsFormedFirst (written_part P R H m k wr xs)
  first_formed l sc wr no_st one fo w = tt
  first_formed l sc wr (st_then x no_st) one (f_st_then fx fxs) w = (simple_written l sc wr x one fx, w.0)
  first_formed l sc wr (st_then x (st_then y ys)) one fo w = absurd (false≢true one)

  step_formed : (wr : List ℕ) (xs : Sts) → is_at_most_one core.is_act xs ≡ true
      → AreFormedStmts (written_sts P R H m k wr xs) → IsFormedStep (written_part P R H m k wr xs)
  step_formed wr no_st one w = tt
  step_formed wr (st_then x no_st) one w = (act_written wr x one, w.0)
  step_formed wr (st_then x (st_then y ys)) one w = absurd (false≢true one)

  abbrev Ss : List ℕ → Sts → Statements
  Ss wr xs = written_sts P R H m k wr xs

  mutual
    st_formed : (at : ℕ) (l : Bool) (sc wr : List ℕ) (x : St) → TypedSt P g x → FormedSt P k l sc x
        → Stands (parts_st P (type_in P m k) m k (label_st at x)) → IsFormedStmt (S wr x)
    st_formed at l sc wr (declare t i None) ty (f_declare new fo) st = (declared_formed sc i None new).0 tt
    st_formed at l sc wr (declare t i (Some e)) (t_declare_as te fit) (f_declare new (f_some fe)) st =
        (declared_formed sc i (Some (E (wr ++ i ∷ []) e)) new).0 (ex_formed at false _ (wr ++ i ∷ []) e te fe (left (tree false (label at e)) _ st))
    st_formed at l sc wr (block t xs) (t_block txs) (f_block fxs) st = sts_formed at l sc wr xs txs fxs st
    st_formed at l sc wr (assign t b e) (t_assign tb te fit) (f_assign fb fe) st = assign_formed at sc wr t.place b e tb te fit fb fe st
    st_formed at l sc wr (act t e) (t_act te) (f_act c fe) st = (call_written wr sc e c fe, ex_formed at false sc wr e te fe st)
    st_formed at l sc wr (print t n None) ty (f_print some fo) st = (some, tt)
    st_formed at l sc wr (print t n (Some e)) (t_print te pr) (f_print some (f_some fe)) st = (some, ex_formed at false sc wr e te fe st)
    st_formed at l sc wr (choose t no_other) ty fo st = elim fo [ ]
    st_formed at l sc wr (choose t (otherwise xs)) ty fo st = elim fo [ ]
    st_formed at l sc wr (choose t (arm e xs more)) (t_choose ty) (f_choose fo) st =
        let z = arms_formed at l sc wr (arm e xs more) ty fo st in (refl, z.0, z.1)
    st_formed at l sc wr (loop t is_while head test step body) (t_loop th tt1 ts tb) (f_loop of one two fh ft fs fb) st =
        let to_test : ℕ = at + size_sts head in
        let to_step : ℕ = to_test + size_if test in
        let to_body : ℕ = to_step + size_sts step in
        let hs = sts (label_sts at head) in
        let es = if_there (label_if to_test test) in
        let ss = sts (label_sts to_step step) in
        let bs = sts (label_sts to_body body) in
        let three = left (hs ++ es ++ ss) bs st in
        let both = left (hs ++ es) ss three in
        let inner = scope_after_part wr head in
        loop_formed is_while (written_part P R H m k wr head) (written_if P R H m k inner test)
        (written_part P R H m k inner step)
        (Ss inner body)
        (first_formed _ _ wr head one fh (sts_formed at _ _ wr head th fh (left hs es both)))
        (test_formed to_test _ inner test tt1 ft (right hs es both))
        (step_formed inner step two (sts_formed to_step _ _ inner step ts fs (right (hs ++ es) ss three)))
        (sts_formed to_body _ _ inner body tb fb (right (hs ++ es ++ ss) bs st))
    st_formed at l sc wr (return t None) ty fo st = tt
    st_formed at l sc wr (return t (Some e)) (t_return te er fit) (f_return (f_some fe)) st =
        ex_formed at false sc wr e te fe (left (tree false (label at e)) _ st)
    st_formed at l sc wr (break t) ty fo st = tt
    st_formed at l sc wr (continue t) ty fo st = tt

    sts_formed : (at : ℕ) (l : Bool) (sc wr : List ℕ) (xs : Sts) → TypedSts P g xs → FormedSts P k l sc xs → Stands (sts (label_sts at xs))
        → AreFormedStmts (Ss wr xs)
    sts_formed at l sc wr no_st ty fo st = tt
    sts_formed at l sc wr (st_then x xs) (t_st_then tx txs) (f_st_then fx fxs) st =
        let ps = parts_st P (type_in P m k) m k (label_st at x) in
        let qs = sts (label_sts (at + size_st x) xs) in
        (st_formed at l sc wr x tx fx (left ps qs st), sts_formed (at + size_st x) l _ _ xs txs fxs (right ps qs st))

    arms_formed : (at : ℕ) (l : Bool) (sc wr : List ℕ) (xs : IfArms) → TypedArms P g xs → FormedArms P k l sc xs
        → Stands (parts_arms P (type_in P m k) m k (label_arms at xs))
        → AreFormedArms (written_arms P R H m k wr xs) × IsFormedElse (written_else P R H m k wr xs)
    arms_formed at l sc wr no_other ty fo st = (tt, tt)
    arms_formed at l sc wr (otherwise xs) (t_otherwise ty) (f_otherwise fo) st = (tt, sts_formed at l sc wr xs ty fo st)
    arms_formed at l sc wr (arm e xs more) (t_arm te b txs tm) (f_arm fe fxs fm) st =
        let to_xs : ℕ = at + size e in
        let to_more : ℕ = to_xs + size_sts xs in
        let es = tree false (label at e) in
        let bs = sts (label_sts to_xs xs) in
        let ms = parts_arms P (type_in P m k) m k (label_arms to_more more) in
        let both = left (es ++ bs) ms st in
        let z = arms_formed to_more l sc wr more tm fm (right (es ++ bs) ms st) in
        ((ex_formed at false sc wr e te fe (left es bs both), sts_formed to_xs l sc wr xs txs fxs (right es bs both), z.0), z.1)

  -- a written body
  pub body_formed : (xs : Sts) (wr : List ℕ) → k.body ≡ Some xs → TypedSts P g xs
      → FormedSts P k false (numbers_below (length k.params)) xs → AreFormedStmts (Ss wr xs)
  unfolding parts_of
  body_formed xs wr e ty fo = sts_formed 0 false (numbers_below (length k.params)) wr xs ty fo
      (λ q d. subst (λ z. Contains (parts_body P (type_in P m k) m k z) q) (sym e) d)
