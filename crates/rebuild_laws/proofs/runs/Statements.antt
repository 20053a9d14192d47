-- The same of targets, statements and bodies.
use Rattle.std.proofs.Common.{◌≡◌, ℕ, List, [], ◌∷◌, ◌++◌, Option, Some, None, refl, sym, ap, ◌∙◌, subst, length}
use Rattle.std.specs.Prelude.{Bool, true, false, Contains}
use Rattle.std.proofs.lemmas.Option.{same_Some}
use Rattle.kaba_base.specs.declared.Place.{Place}
use Rattle.java_core.specs.Trees.{Ex, Target, to_local, to_static, to_own, to_field, to_element, no_target, St, Sts, IfArms, declare, block, assign, act, print, choose, loop, return, break, continue, no_st, st_then, no_other, otherwise, arm}
use Rattle.java_core.specs.Types.{field_type, fits_in, target_type}
use Rattle.java_core.specs.Typing.{TypedTarget, TypedTest, TypedSt, TypedSts, TypedArms, t_to_field, t_to_element, t_test, t_declare_as, t_block, t_assign, t_act, t_print, t_choose, t_loop, t_return, t_st_then, t_otherwise, t_arm}
use Rattle.java_core.specs.Formed.{FormedTarget, FormedOption, FormedSt, FormedSts, FormedArms, numbers_below, f_to_own, f_to_field, f_to_element, f_some, f_declare, f_block, f_assign, f_act, f_print, f_choose, f_loop, f_return, f_st_then, f_otherwise, f_arm}
use Rattle.java_meaning.specs.Paired.{pair_none, pair_some, pair_declare, pair_block, pair_assign, pair_act, pair_print, pair_choose, pair_loop, pair_return, pair_break, pair_continue, pair_no_st, pair_st_then, pair_no_other, pair_otherwise, pair_arm}
use Rattle.flow_rules.specs.Labels.{label_sts}
use Rattle.flow_rules.specs.Operands.{object_field, this_operand, type_in}
use Rattle.flow_rules.specs.Parts.{a_store, an_element_store, is_accessed, parts_if, parts_assign, parts_st, parts_arms, parts_body, parts_of}
use Rattle.flow_laws.proofs.cover.Labelled.{sts_same, typed_sts_same, formed_sts_same}
use Rattle.rebuild_model.proofs.Retagging.{matches_sts}
use Rattle.rebuild_model.specs.Matches.{MatchesIf, MatchesTarget, MatchesSt, MatchesSts, MatchesArms, m_to_local, m_to_static, m_to_own, m_to_field, m_to_element}
use Rattle.rebuild_laws.proofs.types.Walk.{copying}
use Rattle.rebuild_laws.specs.twins.Twins.{SameIf, SameTarget, SameSt, SameSts, SameArms}
use Rattle.rebuild_laws.specs.twins.Twins.{same_to_local, same_to_static, same_to_own, same_to_field, same_to_element}
use Rattle.rebuild_laws.proofs.types.Statements.{fits_some, four}
use Rattle.rebuild_laws.proofs.runs.Walk as walk
use Rattle.rebuild_laws.proofs.runs.Walk.{TwinBody, twin_words}
use Rattle.flow_laws.proofs.cover.Walked.{walked}
use Rattle.flow_laws.proofs.cover.Each.{left, right}

module _ (A : TwinBody) where
  open A use {body as B, written as W, renaming as R, Made, Pair, env as h, tie}
  open B use {program as P, number as m, method as k}
  open copying B W R use {IsCopy}
  open twin_words A use {lang as L, written as M, link as K, Twin}
  open walked P m k use {env as g, type, operand as O, tree, Stands, IsTyped, IsFormed as IsFormedEx, static as old, tree_if as if_there, tree_sts as sts}

  twin_if : (sc : List ℕ) (e d : Option Ex) → ((x : Ex) → e ≡ Some x → IsTyped x) → FormedOption P k sc e
      → Stands (parts_if P (type_in P m k) m k e) → MatchesIf P W R g e d → SameIf L M K Made Pair g h e d
  twin_if sc None d ty fo st pair_none = pair_none
  twin_if sc (Some e) d ty (f_some fe) st (pair_some {d = c} me) = pair_some (walk.twin A false sc e c (ty e refl) fe st me)

  assigned : (sc : List ℕ) (p : Place) (b c : Target) (e d : Ex) → TypedTarget P g b → IsTyped e
      → fits_in P (old e) (target_type P g b) ≡ true → FormedTarget P k sc b → IsFormedEx sc e
      → Stands (parts_assign P (type_in P m k) m k p b e) → MatchesTarget P W R g b c → IsCopy e d → SameTarget L M K Made Pair g h e b c × Twin e d
  assigned sc p (to_local t i) c e d tb te fit fb fe st m_to_local me = (same_to_local, walk.twin A false sc e d te fe (left (tree false e) _ st) me)
  assigned sc p (to_static t f) c e d tb te fit fb fe st (m_to_static {h = n} s) me =
      (same_to_static (tie.statics.fields f n s), walk.twin A false sc e d te fe (left (tree false e) _ st) me)
  assigned sc p (to_own t f) c e d tb te fit (f_to_own inst own) fe st (m_to_own {v = v}) me = (
    same_to_own (walk.own_twin A t v f (tie.self inst)
        (walk.asked A (a_store p (this_operand m k) (Some f) (O e)) [] (right (tree true e) _ st) tie.at_this own.member own.stands own.kind)),
    walk.twin A true sc e d te fe (left (tree true e) _ st) me,
  )
  assigned sc p (to_field t b x) c e d (t_to_field tb some) te fit (f_to_field fb n) fe st (m_to_field {d = b2} {f = f} mb l) me =
      let both = left (tree (is_accessed b) b ++ tree true e) _ st in
      let inner = left (tree (is_accessed b) b) (tree true e) both in
      let cls = walk.base_class A b x f l in
      let base = walk.based A (is_accessed b) sc b b2 cls.0 tb fb inner mb cls.1 in (
        same_to_field (walk.twin A (is_accessed b) sc b b2 tb fb inner mb) (walk.field_twin A b b2 x f base.class l base.row_is base.new
            (walk.store_tie A p b e x f l (fits_some P (old e) (field_type P f) (ap (fits_in P (old e)) (sym (walk.value_is A b x f l))
            ∙ fit)) (tie.at (is_accessed b) b inner)
            (walk.asked A (a_store p (O b) (object_field P (type b) x) (O e)) [] (right (tree (is_accessed b) b ++ tree true e) _ st)))),
        walk.twin A true sc e d te fe (right (tree (is_accessed b) b) (tree true e) both) me,
      )
  assigned sc p (to_element t b i) c e d (t_to_element tb some ti num) te fit (f_to_element fb fi) fe st (m_to_element {d = b2} {j = j} mb mi) me =
      let three = left (tree true b ++ tree false i ++ tree true e) _ st in
      let two = left (tree true b ++ tree false i) (tree true e) three in
      let q = walk.asked A (an_element_store p (O b) (O e)) [] (right (tree true b ++ tree false i ++ tree true e) _ st) in (
        same_to_element (walk.twin A true sc b b2 tb fb (left (tree true b) (tree false i) two) mb)
            (walk.twin A false sc i j ti fi (right (tree true b) (tree false i) two) mi) (λ o r x y z w s1 s2 made held et eu mo mr. (q (walk.pointed A b
            (left (tree true b) (tree false i) two)) (walk.pointed A e
            (right (tree true b ++ tree false i) (tree true e) three))).same o r x y z w s1 s2 made held et eu (walk.at_spot A b o mo) (walk.at_spot A e r mr)),
        walk.twin A true sc e d te fe (right (tree true b ++ tree false i) (tree true e) three) me,
      )
  assigned sc p no_target c e d tb te fit fb fe st mb me = elim tb [ ]

  test_typed : (e : Option Ex) → TypedTest P g e → (x : Ex) → e ≡ Some x → IsTyped x
  test_typed None ty x q = absurd (cc)
  test_typed (Some e) (t_test te b) x q = subst (λ z. IsTyped z) (same_Some e x q) te

  mutual
    twin_st : (l : Bool) (sc : List ℕ) (x y : St) → TypedSt P g x → FormedSt P k l sc x
        → Stands (parts_st P (type_in P m k) m k x) → MatchesSt P W R g x y → SameSt L M K Made Pair g h x y
    twin_st l sc (declare t i None) y ty fo st (pair_declare pair_none) = pair_declare pair_none
    twin_st l sc (declare t i (Some e)) y (t_declare_as te fit) (f_declare new (f_some fe)) st (pair_declare (pair_some {d = d} me)) =
        pair_declare (pair_some (walk.twin A false (i ∷ sc) e d te fe (left (tree false e) _ st) me))
    twin_st l sc (block t xs) y (t_block txs) (f_block fxs) st (pair_block {ys = ys} ms) = pair_block (twin_sts l sc xs ys txs fxs st ms)
    twin_st l sc (assign t b e) y (t_assign tb te fit) (f_assign fb fe) st
        (pair_assign {c = c} {d = d} mb me) = let z = assigned sc t.place b c e d tb te fit fb fe st mb me in pair_assign z.0 z.1
    twin_st l sc (act t e) y (t_act te) (f_act q fe) st (pair_act {d = d} me) = pair_act (walk.twin A false sc e d te fe st me)
    twin_st l sc (print t n None) y ty fo st (pair_print pair_none) = pair_print pair_none
    twin_st l sc (print t n (Some e)) y (t_print te pr) (f_print or (f_some fe)) st (pair_print (pair_some {d = d} me)) = pair_print
        (pair_some (walk.twin A false sc e d te fe st me))
    twin_st l sc (choose t (arm e xs more)) y (t_choose ty) (f_choose fo) st (pair_choose ma) = pair_choose (twin_arms l sc (arm e xs more) _ ty fo st ma)
    twin_st l sc (choose t none) y ty fo st mx = elim fo [ ]
    twin_st l sc (loop t is_while head test step code) y (t_loop th tt1 ts tb) (f_loop of one two fh ft fs fb) st
        (pair_loop {other = other} {last = last} {code = written} {d = d} mh me ms mb) =
        let part = four (sts head) (if_there test) (sts step) (sts code) st in
        pair_loop (twin_sts _ _ head other th fh part.0 mh) (twin_if _ test d (test_typed test tt1) ft part.1 me)
        (twin_sts _ _ step last ts fs part.2 ms) (twin_sts _ _ code written tb fb part.3 mb)
    twin_st l sc (return t None) y ty fo st (pair_return pair_none) = pair_return pair_none
    twin_st l sc (return t (Some e)) y (t_return te r fit) (f_return (f_some fe)) st (pair_return (pair_some {d = d} me)) = pair_return
        (pair_some (walk.twin A false sc e d te fe (left (tree false e) _ st) me))
    twin_st l sc (break t) y ty fo st pair_break = pair_break
    twin_st l sc (continue t) y ty fo st pair_continue = pair_continue

    twin_sts : (l : Bool) (sc : List ℕ) (xs ys : Sts) → TypedSts P g xs → FormedSts P k l sc xs → Stands (sts xs)
        → MatchesSts P W R g xs ys → SameSts L M K Made Pair g h xs ys
    twin_sts l sc no_st ys ty fo st pair_no_st = pair_no_st
    twin_sts l sc (st_then x xs) ys (t_st_then tx txs) (f_st_then fx fxs) st (pair_st_then {y = y} {ys = zs} mx mxs) =
        pair_st_then (twin_st l sc x y tx fx (left (parts_st P (type_in P m k) m k x) (sts xs) st) mx)
        (twin_sts l _ xs zs txs fxs (right (parts_st P (type_in P m k) m k x) (sts xs) st) mxs)

    twin_arms : (l : Bool) (sc : List ℕ) (xs ys : IfArms) → TypedArms P g xs → FormedArms P k l sc xs
        → Stands (parts_arms P (type_in P m k) m k xs) → MatchesArms P W R g xs ys → SameArms L M K Made Pair g h xs ys
    twin_arms l sc no_other ys ty fo st pair_no_other = pair_no_other
    twin_arms l sc (otherwise xs) ys (t_otherwise ty) (f_otherwise fo) st (pair_otherwise {ys = zs} mx) = pair_otherwise (twin_sts l sc xs zs ty fo st mx)
    twin_arms l sc (arm e xs more) ys (t_arm te b txs tm) (f_arm fe fxs fm) st (pair_arm {d = d} {ys = zs} {b = rest} me mx mm) =
        let both = left (tree false e ++ sts xs) (parts_arms P (type_in P m k) m k more) st in
        pair_arm (walk.twin A false sc e d te fe (left (tree false e) (sts xs) both) me) (twin_sts l sc xs zs txs fxs (right (tree false e) (sts xs) both) mx)
        (twin_arms l sc more rest tm fm (right (tree false e ++ sts xs) (parts_arms P (type_in P m k) m k more) st) mm)

  -- the copy of a typed body is its twin
  pub twin_body : (xs ys : Sts) → k.body ≡ Some xs → TypedSts P g xs
      → FormedSts P k false (numbers_below (length k.params)) xs → MatchesSts P W R g xs ys → SameSts L M K Made Pair g h (label_sts 0 xs) ys
  unfolding parts_of
  twin_body xs ys e ty fo ms =
      twin_sts false (numbers_below (length k.params)) (label_sts 0 xs) ys (typed_sts_same P g (sts_same 0 xs) ty)
      (formed_sts_same P k (sts_same 0 xs) fo)
      (λ q d. subst (λ z. Contains (parts_body P (type_in P m k) m k z) q) (sym e) d) (matches_sts P W R g (sts_same 0 xs) ms)
