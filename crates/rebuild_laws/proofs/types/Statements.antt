-- The same of targets, statements and bodies.
use Rattle.std.proofs.Common.{◌≡◌, ℕ, List, [], ◌∷◌, ◌++◌, Option, Some, None, length, refl, sym, ap, ◌∙◌, subst}
use Rattle.std.specs.Prelude.{Bool, true, false, slice_get, Contains, option_and_then}
use Rattle.std.specs.Option.{is_some}
use Rattle.std.proofs.lemmas.Bool.{false≢true}
use Rattle.kaba_base.specs.declared.Place.{Place}
use Rattle.java_core.specs.declared.Ty.{Ty}
use Rattle.java_core.specs.Trees.{Tag, Ex, this, local, static_field, Target, to_local, to_static, to_own, to_field, to_element, no_target, St, Sts, IfArms, declare, block, assign, act, print, choose, loop, return, break, continue, no_st, st_then, no_other, otherwise, arm}
use Rattle.java_core.specs.Programs.{Plain}
use Rattle.java_core.specs.Types.{Static, or_nothing, element_of, is_numeric, is_boolean, is_printable, field_type, value_type, fits, fits_in, static, target_type}
use Rattle.java_core.specs.Typing.{Typed, TypedTarget, TypedTest, TypedSt, TypedSts, TypedArms, t_this, t_to_local, t_to_static, t_to_field, t_to_element, t_always, t_test, t_declare, t_declare_as, t_block, t_assign, t_act, t_print_line, t_print, t_choose, t_loop, t_return_nothing, t_return, t_break, t_continue, t_no_st, t_st_then, t_no_other, t_otherwise, t_arm}
use Rattle.java_core.specs.Formed.{FormedTarget, FormedOption, FormedSt, FormedSts, FormedArms, numbers_below, f_to_own, f_to_field, f_to_element, f_some, f_declare, f_block, f_assign, f_act, f_print, f_choose, f_loop, f_return, f_st_then, f_otherwise, f_arm}
use Rattle.java_meaning.specs.Paired.{pair_none, pair_some, pair_declare, pair_block, pair_assign, pair_act, pair_print, pair_choose, pair_loop, pair_return, pair_break, pair_continue, pair_no_st, pair_st_then, pair_no_other, pair_otherwise, pair_arm}
use Rattle.flow_rules.specs.declared.items.RowItem.{RowItem}
use Rattle.flow_rules.specs.declared.items.RowItem.TheVariants as row
use Rattle.flow_rules.specs.Operands.{object_of, object_if, object_static, object_field, variable_row, result_in, this_operand, type_in}
use Rattle.flow_rules.specs.Labels.{label_sts}
use Rattle.flow_rules.specs.Parts.{a_store, an_element_store, a_set, a_return, is_accessed, parts_assign, parts_st, parts_arms, parts_body, parts_of}
use Rattle.std.proofs.lemmas.Option.{slice_get-map}
use Rattle.flow_rules.proofs.TypeLemmas.{object_or}
use Rattle.flow_laws.proofs.cover.HasRows.{field_row_of, result_row_of, variable_row_of}
use Rattle.flow_laws.proofs.cover.Types.{of_element}
use Rattle.rebuild_model.specs.Renaming.{retyped, retyped_if}
use Rattle.flow_laws.proofs.cover.Labelled.{sts_same, typed_sts_same, formed_sts_same}
use Rattle.rebuild_model.proofs.Retagging.{matches_sts}
use Rattle.rebuild_model.specs.Matches.{MatchesIf, MatchesTarget, MatchesSt, MatchesSts, MatchesArms, m_to_local, m_to_static, m_to_own, m_to_field, m_to_element}
use Rattle.rebuild_laws.proofs.types.Retyped.{retyped_static, HasClass, IsUnder, retyped_or, numeric_kept, boolean_kept, printable_kept, element_kept, some_kept, fits_kept, fits_in_kept}
use Rattle.rebuild_laws.proofs.types.Asked.{Serves}
use Rattle.rebuild_laws.proofs.types.Walk as walk
use Rattle.rebuild_laws.proofs.types.Finding.{field_class, found_instance}
use Rattle.rebuild_laws.proofs.types.Walk.{CopiedBody, copying, again}
use Rattle.flow_laws.proofs.cover.Walked.{walked}
use Rattle.flow_laws.proofs.cover.Each.{left, right}

pub fits_some : (P : Plain) (s : Static) (t : Option Ty) → fits_in P s (or_nothing t) ≡ true → is_some t ≡ true
fits_some P s None e = absurd (false≢true e)
fits_some P s (Some u) e = refl

-- what holds of each item of four lists holds of each item of each
pub four : {X : Type 0} {H : X → Type 0} (a b c d : List X) → ((x : X) → Contains (a ++ b ++ c ++ d) x → H x)
    → ((x : X) → Contains a x → H x) × ((x : X) → Contains b x → H x) × ((x : X) → Contains c x → H x) × ((x : X) → Contains d x → H x)
four a b c d h =
    let three = left (a ++ b ++ c) d h in
    let two = left (a ++ b) c three in
    (left a b two, right a b two, right (a ++ b) c three, right (a ++ b ++ c) d h)

module _ (A : CopiedBody) where
  open A use {body as B, written as W, renaming as R, renewed as N, env as h, sees}
  open B use {program as P, formed, number as m, method as k, stands}
  open copying B W R use {class_at as C, IsCopy}
  open walked P m k use {env as g, type, row_at, operand as O, tree, Stands, IsTyped, IsFormed as IsFormedEx, static as old}
  open walked P m k use {tree_if as if_there, tree_sts as sts}

  classed : (u : Bool) (sc : List ℕ) (e : Ex) → IsTyped e → IsFormedEx sc e → Stands (tree u e) → HasClass (object_static (old e)) (C (row_at e))
  classed u sc e ty fo st = walk.classed A u sc e ty fo st

  -- rows of fields, variables and the result
  field_classed : (f : ℕ) → HasClass (object_static (or_nothing (field_type P f))) (R.row_type (row.Field f))
  field_classed f t o = let r = field_row_of P formed f t (sym (object_or (field_type P f)) ∙ o) in N.numbered (row.Field f) r.0 r.1

  variable_classed : (i : ℕ) → HasClass (object_static (or_nothing (slice_get g.locals i))) (R.row_type (variable_row m k i))
  variable_classed i t o =
      let e = sym (ap object_if (slice_get-map (λ l. l.ty) (k.params ++ k.locals) i)) ∙ sym (object_or (slice_get g.locals i)) ∙ o in
      let r = variable_row_of P formed m k i t stands e in
      N.numbered (variable_row m k i) r.0 r.1

  result_classed : (u : Ty) → k.result ≡ Some u → HasClass (object_of u) (R.row_type (result_in k.slot m))
  result_classed u e t o = let r = result_row_of P formed m k t stands (ap object_if e ∙ o) in N.numbered (result_in k.slot m) r.0 r.1

  -- what an assignment puts a value into
  record AgainTarget (b c : Target) (i : Option RowItem) : Type 0 where
    typed : TypedTarget W h c
    type : target_type W h c ≡ retyped_static (C i) (target_type P g b)
    classed : HasClass (object_static (target_type P g b)) (C i)

  put : (sc : List ℕ) (u : Bool) (b c : Target) (i : Option RowItem) (e d : Ex) → AgainTarget b c i → IsTyped e → IsFormedEx sc e → Stands (tree u e)
      → IsCopy e d → IsUnder W (C (row_at e)) (C i)
      → fits_in P (old e) (target_type P g b) ≡ true → (Typed W h d) × (fits_in W (static W h d) (target_type W h c) ≡ true)
  put sc u b c i e d t te fe st me under fit =
      let a = again A u sc e d te fe st me in (
        a.typed,
        subst (λ z. fits_in W z (target_type W h c) ≡ true) (sym a.type)
            (subst (λ z. fits_in W (retyped_static (C (row_at e)) (old e)) z ≡ true) (sym t.type)
            (fits_in_kept P W (old e) (target_type P g b) (C (row_at e)) (C i) (classed u sc e te fe st) t.classed under fit)),
      )

  local_target : (t s : Tag) (i : ℕ) → AgainTarget (to_local t i) (to_local s i) (Some (variable_row m k i))
  local_target t s i = record {
    typed = t_to_local;
    type = ap or_nothing (sees.locals i)
        ∙ sym (retyped_or (R.row_type (variable_row m k i)) (slice_get g.locals i));
    classed = variable_classed i;
  }

  assigned : (sc : List ℕ) (p : Place) (b c : Target) (e d : Ex) (s : Tag) → TypedTarget P g b → IsTyped e
      → fits_in P (old e) (target_type P g b) ≡ true → FormedTarget P k sc b
      → IsFormedEx sc e → Stands (parts_assign P (type_in P m k) m k p b e) → MatchesTarget P W R g b c → IsCopy e d → TypedSt W h (assign s c d)
  assigned sc p (to_local t i) c e d s tb te fit fb fe st (m_to_local {u = v}) me =
      let x = local_target t v i in
      let y = put sc false (to_local t i) (to_local v i) (Some (variable_row m k i)) e d x te fe (left (tree false e) _ st) me
      (walk.asked A (a_set (O (local t i)) (O e)) [] (right (tree false e) _ st)) fit in
      t_assign x.typed y.0 y.1
  assigned sc p (to_static t f) c e d s tb te fit fb fe st (m_to_static {u = v} {h = n} is) me =
      let x : AgainTarget (to_static t f) (to_static v n) (Some (row.Field f)) =
      record {
        typed = t_to_static;
        type = ap or_nothing (N.static_fields f n is)
            ∙ sym (retyped_or (R.row_type (row.Field f)) (field_type P f));
        classed = field_classed f;
      } in
      let y = put sc false (to_static t f) (to_static v n) (Some (row.Field f)) e d x te fe (left (tree false e) _ st) me
      (walk.asked A (a_set (O (static_field t f)) (O e)) [] (right (tree false e) _ st)) fit in
      t_assign x.typed y.0 y.1
  assigned sc p (to_own t f) c e d s tb te fit (f_to_own inst own) fe st (m_to_own {u = v} {v = w}) me =
      let has = walk.asked A (a_store p (this_operand m k) (Some f) (O e)) [] (right (tree true e) _ st) in
      let r = walk.read A (this w) h.self f refl (has.0 own.member own.stands own.kind h.self (sees.self inst)) (walk.field_some A f own.member own.stands) in
      let x : AgainTarget (to_own t f) (to_field v (this w) (R.field_name f)) (Some (row.Field f)) =
      record { typed = t_to_field t_this r.found; type = r.value; classed = field_classed f } in
      let y = put sc true (to_own t f) (to_field v (this w) (R.field_name f)) (Some (row.Field f)) e d x te fe (left (tree true e) _ st) me has.1 fit in
      t_assign x.typed y.0 y.1
  assigned sc p (to_field t b x) c e d s (t_to_field tb some) te fit (f_to_field fb n) fe st (m_to_field {u = v} {d = b2} {f = f} mb l) me =
      let both = left (tree (is_accessed b) b ++ tree true e) _ st in
      let inner = left (tree (is_accessed b) b) (tree true e) both in
      let a = again A (is_accessed b) sc b b2 tb fb inner mb in
      let cls = field_class P (old b) x f l in
      let base = walk.based A (is_accessed b) sc b b2 cls.0 tb fb inner a cls.1 in
      let seen = walk.field_seen A b x f l in
      let has = subst (λ z. Serves P W R m k h.self (a_store p (O b) z (O e))) seen
      (walk.asked A (a_store p (O b) (object_field P (type b) x) (O e)) [] (right (tree (is_accessed b) b ++ tree true e) _ st)) in
      let is : or_nothing (value_type P (old b) x) ≡ or_nothing (field_type P f) = ap (λ z. or_nothing (option_and_then (field_type P) z)) l in
      let some_type = fits_some P (old e) (field_type P f) (ap (fits_in P (old e)) (sym is) ∙ fit) in
      let w = found_instance P (old b) x f l some_type in
      let r = walk.read A b2 base.class f base.new (has.0 w.0 w.1 w.2 base.class base.row_is) some_type in
      let y : AgainTarget (to_field t b x) (to_field v b2 (R.field_name f)) (Some (row.Field f)) = record {
        typed = t_to_field a.typed r.found;
        type = r.value ∙ ap (retyped_static (R.row_type (row.Field f))) (sym is);
        classed = subst (λ z. HasClass (object_static z) (R.row_type (row.Field f))) (sym is) (field_classed f);
      } in
      let z = put sc true (to_field t b x) (to_field v b2 (R.field_name f)) (Some (row.Field f)) e d y te fe
      (right (tree (is_accessed b) b) (tree true e) both) me has.1 fit in
      t_assign y.typed z.0 z.1
  assigned sc p (to_element t b i) c e d s (t_to_element tb some ti num) te fit (f_to_element fb fi) fe st (m_to_element {u = v} {d = b2} {j = j} mb mi) me =
      let three = left (tree true b ++ tree false i ++ tree true e) _ st in
      let two = left (tree true b ++ tree false i) (tree true e) three in
      let sb = left (tree true b) (tree false i) two in
      let a = again A true sc b b2 tb fb sb mb in
      let q = again A false sc i j ti fi (right (tree true b) (tree false i) two) mi in
      let is = ap element_of a.type ∙ element_kept (C (row_at b)) (old b) in
      let x : AgainTarget (to_element t b i) (to_element v b2 j) (row_at b) = record {
        typed = t_to_element a.typed (ap is_some is ∙ some_kept (C (row_at b)) (element_of (old b)) ∙ some) q.typed
            (ap is_numeric q.type ∙ numeric_kept (C (row_at i)) (old i) ∙ num);
        type = ap or_nothing is ∙ sym (retyped_or (C (row_at b)) (element_of (old b)));
        classed = λ o ho. let w = of_element (old b) o ho in classed true sc b tb fb sb w.0 w.1;
      } in
      let y = put sc true (to_element t b i) (to_element v b2 j) (row_at b) e d x te fe (right (tree true b ++ tree false i) (tree true e) three) me
      (walk.asked A (an_element_store p (O b) (O e)) [] (right (tree true b ++ tree false i ++ tree true e) _ st)) fit in
      t_assign x.typed y.0 y.1
  assigned sc p no_target c e d s tb te fit fb fe st mt me = elim tb [ ]

  tested : (sc : List ℕ) (e d : Option Ex) → TypedTest P g e → FormedOption P k sc e → Stands (if_there e) → MatchesIf P W R g e d → TypedTest W h d
  tested sc None d ty fo st pair_none = t_always
  tested sc (Some e) d (t_test te b) (f_some fe) st (pair_some {d = c} me) =
      let a = again A false sc e c te fe st me in t_test a.typed (ap is_boolean a.type ∙ boolean_kept (C (row_at e)) (old e) ∙ b)

  mutual
    again_st : (l : Bool) (sc : List ℕ) (x y : St) → TypedSt P g x → FormedSt P k l sc x
        → Stands (parts_st P (type_in P m k) m k x) → MatchesSt P W R g x y → TypedSt W h y
    again_st l sc (declare t i None) y ty fo st (pair_declare pair_none) = t_declare
    again_st l sc (declare t i (Some e)) y (t_declare_as te fit) (f_declare new (f_some fe)) st (pair_declare {u = u} (pair_some {d = d} me)) =
        let x = local_target t u i in
        let z = put (i ∷ sc) false (to_local t i) (to_local u i) (Some (variable_row m k i)) e d x te fe (left (tree false e) _ st) me
        (walk.asked A (a_set (O (local t i)) (O e)) [] (right (tree false e) _ st)) fit in
        t_declare_as z.0 z.1
    again_st l sc (block t xs) y (t_block txs) (f_block fxs) st (pair_block {ys = ys} ms) = t_block (again_sts l sc xs ys txs fxs st ms)
    again_st l sc (assign t b e) y (t_assign tb te fit) (f_assign fb fe) st (pair_assign {u = u} {c = c} {d = d} mb me) =
        assigned sc t.place b c e d u tb te fit fb fe st mb me
    again_st l sc (act t e) y (t_act te) (f_act q fe) st (pair_act {d = d} me) = t_act (again A false sc e d te fe st me).typed
    again_st l sc (print t n None) y ty fo st (pair_print pair_none) = t_print_line
    again_st l sc (print t n (Some e)) y (t_print te pr) (f_print or (f_some fe)) st (pair_print (pair_some {d = d} me)) =
        let a = again A false sc e d te fe st me in t_print a.typed (ap is_printable a.type ∙ printable_kept (C (row_at e)) (old e) ∙ pr)
    again_st l sc (choose t (arm e xs more)) y (t_choose ty) (f_choose fo) st (pair_choose ma) = t_choose (again_arms l sc (arm e xs more) _ ty fo st ma)
    again_st l sc (choose t none) y ty fo st mx = elim fo [ ]
    again_st l sc (loop t is_while head test step code) y (t_loop th tt1 ts tb) (f_loop of one two fh ft fs fb) st
        (pair_loop {other = other} {last = last} {code = written} {d = d} mh me ms mb) =
        let part = four (sts head) (if_there test) (sts step) (sts code) st in
        t_loop (again_sts _ _ head other th fh part.0 mh) (tested _ test d tt1 ft part.1 me) (again_sts _ _ step last ts fs part.2 ms)
        (again_sts _ _ code written tb fb part.3 mb)
    again_st l sc (return t None) y (t_return_nothing r) fo st (pair_return pair_none) =
        t_return_nothing (sees.result ∙ ap (retyped_if (R.row_type (result_in k.slot m))) r)
    again_st l sc (return t (Some e)) y (t_return {u = u} te r fit) (f_return (f_some fe)) st (pair_return (pair_some {d = d} me)) =
        let inner = left (tree false e) _ st in
        let a = again A false sc e d te fe inner me in
        let i = R.row_type (result_in k.slot m) in
        t_return a.typed (sees.result ∙ ap (retyped_if i) r) (subst (λ z. fits W z (retyped i u) ≡ true) (sym a.type)
        (fits_kept P W (old e) u (C (row_at e)) i (classed false sc e te fe inner) (result_classed u r)
        (walk.asked A (a_return (O e)) [] (right (tree false e) _ st)) fit))
    again_st l sc (break t) y ty fo st pair_break = t_break
    again_st l sc (continue t) y ty fo st pair_continue = t_continue

    again_sts : (l : Bool) (sc : List ℕ) (xs ys : Sts) → TypedSts P g xs → FormedSts P k l sc xs
        → Stands (sts xs) → MatchesSts P W R g xs ys → TypedSts W h ys
    again_sts l sc no_st ys ty fo st pair_no_st = t_no_st
    again_sts l sc (st_then x xs) ys (t_st_then tx txs) (f_st_then fx fxs) st (pair_st_then {y = y} {ys = zs} mx mxs) =
        t_st_then (again_st l sc x y tx fx (left (parts_st P (type_in P m k) m k x) (sts xs) st) mx)
        (again_sts l _ xs zs txs fxs (right (parts_st P (type_in P m k) m k x) (sts xs) st) mxs)

    again_arms : (l : Bool) (sc : List ℕ) (xs ys : IfArms) → TypedArms P g xs → FormedArms P k l sc xs
        → Stands (parts_arms P (type_in P m k) m k xs) → MatchesArms P W R g xs ys → TypedArms W h ys
    again_arms l sc no_other ys ty fo st pair_no_other = t_no_other
    again_arms l sc (otherwise xs) ys (t_otherwise ty) (f_otherwise fo) st (pair_otherwise {ys = zs} mx) = t_otherwise (again_sts l sc xs zs ty fo st mx)
    again_arms l sc (arm e xs more) ys (t_arm te b txs tm) (f_arm fe fxs fm) st (pair_arm {d = d} {ys = zs} {b = rest} me mx mm) =
        let both = left (tree false e ++ sts xs) (parts_arms P (type_in P m k) m k more) st in
        let a = again A false sc e d te fe (left (tree false e) (sts xs) both) me in
        t_arm a.typed (ap is_boolean a.type ∙ boolean_kept (C (row_at e)) (old e) ∙ b) (again_sts l sc xs zs txs fxs (right (tree false e) (sts xs) both)
        mx)
        (again_arms l sc more rest tm fm (right (tree false e ++ sts xs) (parts_arms P (type_in P m k) m k more) st) mm)

  -- the copy of a typed body is typed
  pub again_body : (xs ys : Sts) → k.body ≡ Some xs → TypedSts P g xs
      → FormedSts P k false (numbers_below (length k.params)) xs → MatchesSts P W R g xs ys → TypedSts W h ys
  unfolding parts_of
  again_body xs ys e ty fo ms =
      again_sts false (numbers_below (length k.params)) (label_sts 0 xs) ys (typed_sts_same P g (sts_same 0 xs) ty)
      (formed_sts_same P k (sts_same 0 xs) fo)
      (λ q d. subst (λ z. Contains (parts_body P (type_in P m k) m k z) q) (sym e) d) (matches_sts P W R g (sts_same 0 xs) ms)
