-- Declarations that are read are in the grammar.
use Rattle.std.proofs.Common.{refl, sym, ap, ◌∙◌, subst, append_assoc, append-nil, ◌++◌, ◌≡◌, ℕ, List, [], ◌∷◌, Option, Some, true}
use Rattle.kaba_base.specs.declared.Place.{Place}
use Rattle.kaba_base.specs.declared.words.Keyword.{Keyword}
use Rattle.kaba_base.specs.declared.words.Keyword.TheVariants as keys
use Rattle.java_lex.specs.declared.Token.{Token}
use Rattle.java_lex.specs.declared.Mark.TheVariants as marks
use Rattle.java_tree.specs.declared.Id.{Id}
use Rattle.java_tree.specs.declared.Modifier.{Modifier}
use Rattle.java_tree.specs.declared.TypeName.{TypeName}
use Rattle.java_tree.specs.declared.Param.{Param}
use Rattle.java_tree.specs.Syntax.{HeadTree, MemberTree, FieldTree, DeclTree}
use Rattle.java_tree.specs.Tokens.{mark, word}
use Rattle.java_parse.specs.Want.{NMods, NIds, NParent, NList, NParam, NParams, NMoreParams, NResult, NHead, NBody, NMember, NTyped, NMethod, NMaker, NMakerBody, NMembers, NHeads, NClass, NInterface, NDecl, NDecls}
use Rattle.java_parse.specs.Front.{after, after_key, word_next, maker_next, up_next, modifier_next, at_end}
use Rattle.java_tree.specs.Expressions.{IsType}
use Rattle.java_tree.specs.Declarations.{IsMods, no_mods, next_mod, last_id, next_id, no_parent, a_parent, no_list, a_list, IsParam, a_param, IsMoreParams, last_param, next_param, IsParams, no_params, some_params, IsResult, no_result, a_result, a_head, no_body, a_body, no_up, an_up, IsMember, a_field, a_method, a_maker, no_members, next_member, no_heads, next_head, a_class, an_interface, no_decls, next_decl}
use Rattle.java_parse.proofs.Fronts.{option_cases, bool_cases, after_is, after_key_is, word_is, maker_is, up_is, final_is, modifier_is}
use Rattle.java_parse.proofs.Post.{Longer, Post}
use Rattle.java_parse.proofs.Runs.{Good}
use Rattle.java_parse.specs.ReadDeclarations.{mods_step, ids_step, parent_step, list_step, param_step, params_step, more_params_step, result_type_step, head_step, body_step, member_step, typed_step, method_step, maker_step, maker_body_step, members_step, heads_step, class_step, interface_step, decl_step, decls_step}
use Rattle.java_parse.proofs.SoundStatements.{items_all}

module _ {A : Type 0} {Are : List Token → List Token → List A → Type 0} {ts rest : List Token} where
  -- all, where none stand before
  pub all_of : {xs : List A} → Longer Are [] ts xs rest → Are ts rest xs
  all_of d = subst (λ (xs : List A). Are ts rest xs) (sym d.is) d.are

  none_more : (before : List A) → Are ts rest [] → Longer Are before ts before rest
  none_more before none = record { more = []; is = sym (append-nil before); are = none }

  one_more : (before : List A) (x : A) {us : List Token} {xs : List A} (d : Longer Are (before ++ x ∷ []) us xs rest) → Are ts rest (x ∷ d.more)
      → Longer Are before ts xs rest
  one_more before x d more = record { more = x ∷ d.more; is = d.is ∙ append_assoc before (x ∷ []) d.more; are = more }

params_all : {ts us rest : List Token} {q : Param} {qs : List Param} → IsParam ts us q → Longer IsMoreParams (q ∷ []) us qs rest → IsParams ts rest qs
params_all {ts = ts} {rest = rest} d m = subst (λ (qs : List Param). IsParams ts rest qs) (sym m.is) (some_params d m.are)

field_good : {ts us vs : List Token} {ms : List Modifier} {o : Option TypeName} {t : TypeName} {w : List ℕ × Place × List Token} {x : Place
    × List Token} → IsMods ts us ms → IsResult us vs o → vs ≡ word w.0 w.1 ∷ w.2 → o ≡ Some t →
    w.2 ≡ mark marks.Semi x.0 ∷ x.1 → IsMember ts x.1 (FieldTree ms t w.0 w.1)
field_good m no_result e f g = cc
field_good {us = us} {vs = vs} {t = t} {w = w} {x = x} m (a_result d) e f g =
    let same : _ ≡ t = cc in
    a_field m (subst (λ (r : List Token). IsType us r t) (e ∙ ap (λ r. word w.0 w.1 ∷ r) g) (subst (λ (t : TypeName). IsType us vs t) same d))

at_end_is : (ts : List Token) → at_end ts ≡ true → ts ≡ []
at_end_is [] h = refl
at_end_is (t ∷ ts) h = cc

pub mods_good : (ms : List Modifier) (ts : List Token) → Good Post (mods_step ms ts) (Post (NMods ms) ts)
mods_good ms ts = option_cases (modifier_next ts)
    (λ n0. rw (n0, mods_step) (none_more ms no_mods))
    (λ w0 y0. let e0 = modifier_is ts w0 y0 in rw (y0, mods_step) (λ v r d. one_more ms w0.0 d (rw e0.0 (next_mod e0.1 d.are))))

pub ids_good : (is : List Id) (ts : List Token) → Good Post (ids_step is ts) (Post (NIds is) ts)
ids_good is ts = option_cases (word_next ts)
    (λ n0. rw (n0, ids_step) tt)
    (λ w0 y0. let e0 = word_is ts w0 y0 in rw (y0, ids_step) (option_cases (after marks.Comma w0.2)
    (λ n1. rw n1 (record { more = record { name = w0.0; place = w0.1 } ∷ []; is = refl; are = rw e0 last_id }))
    (λ w1 y1. let e1 = after_is marks.Comma w0.2 w1 y1 in rw y1 (λ v r d. one_more is (record { name = w0.0; place = w0.1 }) d (rw (e0, e1) (next_id d.are))))))

pub parent_good : (ts : List Token) → Good Post (parent_step ts) (Post NParent ts)
parent_good ts = option_cases (after_key keys.Extends ts)
    (λ n0. rw (n0, parent_step) no_parent)
    (λ w0 y0. let e0 = after_key_is keys.Extends ts w0 y0 in rw (y0, parent_step) (option_cases (word_next w0.1)
    (λ n1. rw n1 tt)
    (λ w1 y1. let e1 = word_is w0.1 w1 y1 in rw y1 (rw (e0, e1) a_parent))))

pub list_good : (k : Keyword) (ts : List Token) → Good Post (list_step k ts) (Post (NList k) ts)
list_good k ts = option_cases (after_key k ts)
    (λ n0. rw (n0, list_step) no_list)
    (λ w0 y0. let e0 = after_key_is k ts w0 y0 in rw (y0, list_step) (λ v r d. rw e0 (a_list (all_of d))))

pub param_good : (ts : List Token) → Good Post (param_step ts) (Post NParam ts)
param_good ts = λ v0 r0 d0. (option_cases (word_next r0)
    (λ n1. rw n1 tt)
    (λ w1 y1. let e1 = word_is r0 w1 y1 in rw y1 (a_param (final_is ts) (rw e1 at d0))))

pub params_good : (ts : List Token) → Good Post (params_step ts) (Post NParams ts)
params_good ts = option_cases (after marks.CloseRound ts)
    (λ n0. rw (n0, params_step) (λ v1 r1 d1. (λ v r d. params_all d1 d)))
    (λ w0 y0. let e0 = after_is marks.CloseRound ts w0 y0 in rw (y0, params_step) (rw e0 no_params))

pub more_params_good : (qs : List Param) (ts : List Token) → Good Post (more_params_step qs ts) (Post (NMoreParams qs) ts)
more_params_good qs ts = option_cases (after marks.CloseRound ts)
    (λ n0. rw (n0, more_params_step) (option_cases (after marks.Comma ts)
    (λ n1. rw n1 tt)
    (λ w1 y1. let e1 = after_is marks.Comma ts w1 y1 in rw y1
    (λ v2 r2 d2. (λ v r d. one_more qs v2 d (rw e1 (next_param d2 d.are)))))))
    (λ w0 y0. let e0 = after_is marks.CloseRound ts w0 y0 in rw (y0, more_params_step)
    (none_more qs (rw e0 last_param)))

pub result_type_good : (ts : List Token) → Good Post (result_type_step ts) (Post NResult ts)
result_type_good ts = option_cases (after_key keys.Void ts)
    (λ n0. rw (n0, result_type_step) (λ v1 r1 d1. (a_result d1)))
    (λ w0 y0. let e0 = after_key_is keys.Void ts w0 y0 in rw (y0, result_type_step) (rw e0 no_result))

pub head_good : (ts : List Token) → Good Post (head_step ts) (Post NHead ts)
head_good ts = λ v0 r0 d0. (λ v1 r1 d1. (option_cases (word_next r1)
    (λ n2. rw n2 tt)
    (λ w2 y2. let e2 = word_is r1 w2 y2 in rw y2 (option_cases (after marks.OpenRound w2.2)
    (λ n3. rw n3 tt)
    (λ w3 y3. let e3 = after_is marks.OpenRound w2.2 w3 y3 in rw y3 (λ v4 r4 d4. (a_head (all_of d0) (rw (e2, e3) at d1) d4)))))))

pub body_good : (ts : List Token) → Good Post (body_step ts) (Post NBody ts)
body_good ts = option_cases (after marks.Semi ts)
    (λ n0. rw (n0, body_step) (option_cases (after marks.OpenBrace ts)
    (λ n1. rw n1 tt)
    (λ w1 y1. let e1 = after_is marks.OpenBrace ts w1 y1 in rw y1 (λ v2 r2 d2. (rw e1 (a_body (items_all d2)))))))
    (λ w0 y0. let e0 = after_is marks.Semi ts w0 y0 in rw (y0, body_step) (rw e0 no_body))

pub member_good : (ts : List Token) → Good Post (member_step ts) (Post NMember ts)
member_good ts = λ v0 r0 d0. (option_cases (maker_next r0)
    (λ n1. rw n1 (λ v r d. d ts (all_of d0)))
    (λ w1 y1. let e1 = maker_is r0 w1 y1 in rw y1 (λ v r d. d ts e1.0 (all_of (rw e1.1 at d0)))))

pub typed_good : (ms : List Modifier) (ts : List Token) → Good Post (typed_step ms ts) (Post (NTyped ms) ts)
typed_good ms ts = λ v0 r0 d0. (option_cases (word_next r0)
    (λ n1. rw n1 tt)
    (λ w1 y1. let e1 = word_is r0 w1 y1 in rw y1 (option_cases (after marks.OpenRound w1.2)
    (λ n2. rw n2 (option_cases (v0)
    (λ n3. rw n3 tt)
    (λ w3 y3. rw y3 (option_cases (after marks.Semi w1.2)
    (λ n4. rw n4 tt)
    (λ w4 y4. let e4 = after_is marks.Semi w1.2 w4 y4 in rw y4 (λ us m. field_good m d0 e1 y3 e4))))))
    (λ w2 y2. let e2 = after_is marks.OpenRound w1.2 w2 y2 in rw y2 (λ v r d us m. d us ts w2.0 m (rw (e1, e2) at d0))))))

pub method_good : (ms : List Modifier) (t : Option TypeName) (n : List ℕ) (p : Place) (ts : List Token)
    → Good Post (method_step ms t n p ts) (Post (NMethod ms t n p) ts)
method_good ms t n p ts = λ v0 r0 d0. (λ v1 r1 d1. (λ us vs q m t. a_method (a_head m t d0) d1))

pub maker_good : (ms : List Modifier) (n : List ℕ) (p : Place) (ts : List Token) → Good Post (maker_step ms n p ts) (Post (NMaker ms n p) ts)
maker_good ms n p ts = λ v0 r0 d0. (option_cases (after marks.OpenBrace r0)
    (λ n1. rw n1 tt)
    (λ w1 y1. let e1 = after_is marks.OpenBrace r0 w1 y1 in rw y1
    (λ v2 r2 d2. (λ us q m. a_maker m (rw e1 at d0) d2.first d2.items))))

pub maker_body_good : (ts : List Token) → Good Post (maker_body_step ts) (Post NMakerBody ts)
maker_body_good ts = option_cases (up_next ts)
    (λ n0. rw (n0, maker_body_step) (λ v1 r1 d1. (record { middle = ts; first = no_up; items = items_all d1 })))
    (λ w0 y0. let e0 = up_is ts w0 y0 in rw (y0, maker_body_step) (λ v1 r1 d1. (option_cases (after marks.Semi r1)
    (λ n2. rw n2 tt)
    (λ w2 y2. let e2 = after_is marks.Semi r1 w2 y2 in rw y2
    (λ v3 r3 d3. (record { middle = w2.1; first = rw e0.1 (an_up (rw e2 at d1)); items = items_all d3 }))))))

pub members_good : (bs : List MemberTree) (ts : List Token) → Good Post (members_step bs ts) (Post (NMembers bs) ts)
members_good bs ts = option_cases (after marks.CloseBrace ts)
    (λ n0. rw (n0, members_step) (λ v1 r1 d1. (λ v r d. one_more bs v1 d (next_member d1 d.are))))
    (λ w0 y0. let e0 = after_is marks.CloseBrace ts w0 y0 in rw (y0, members_step) (none_more bs (rw e0 no_members)))

pub heads_good : (hs : List HeadTree) (ts : List Token) → Good Post (heads_step hs ts) (Post (NHeads hs) ts)
heads_good hs ts = option_cases (after marks.CloseBrace ts)
    (λ n0. rw (n0, heads_step) (λ v1 r1 d1. (option_cases (after marks.Semi r1)
    (λ n2. rw n2 tt)
    (λ w2 y2. let e2 = after_is marks.Semi r1 w2 y2 in rw y2 (λ v r d. one_more hs v1 d (next_head (rw e2 at d1) d.are))))))
    (λ w0 y0. let e0 = after_is marks.CloseBrace ts w0 y0 in rw (y0, heads_step) (none_more hs (rw e0 no_heads)))

pub class_good : (ms : List Modifier) (ts : List Token) → Good Post (class_step ms ts) (Post (NClass ms) ts)
class_good ms ts = option_cases (word_next ts)
    (λ n0. rw (n0, class_step) tt)
    (λ w0 y0. let e0 = word_is ts w0 y0 in rw (y0, class_step) (λ v1 r1 d1. (λ v2 r2 d2. (option_cases (after marks.OpenBrace r2)
    (λ n3. rw n3 tt)
    (λ w3 y3. let e3 = after_is marks.OpenBrace r2 w3 y3 in rw y3 (λ v4 r4 d4. (λ us q m. a_class (rw e0 at m) d1 (rw e3 at d2) (all_of d4))))))))

pub interface_good : (ms : List Modifier) (ts : List Token) → Good Post (interface_step ms ts) (Post (NInterface ms) ts)
interface_good ms ts = option_cases (word_next ts)
    (λ n0. rw (n0, interface_step) tt)
    (λ w0 y0. let e0 = word_is ts w0 y0 in rw (y0, interface_step) (λ v1 r1 d1. (option_cases (after marks.OpenBrace r1)
    (λ n2. rw n2 tt)
    (λ w2 y2. let e2 = after_is marks.OpenBrace r1 w2 y2 in rw y2 (λ v3 r3 d3. (λ us q m. an_interface (rw e0 at m) (rw e2 at d1) (all_of d3)))))))

pub decl_good : (ts : List Token) → Good Post (decl_step ts) (Post NDecl ts)
decl_good ts = λ v0 r0 d0. (option_cases (after_key keys.Class r0)
    (λ n1. rw n1 (option_cases (after_key keys.Interface r0)
    (λ n2. rw n2 tt)
    (λ w2 y2. let e2 = after_key_is keys.Interface r0 w2 y2 in rw y2 (λ v r d. d ts w2.0 (all_of (rw e2 at d0))))))
    (λ w1 y1. let e1 = after_key_is keys.Class r0 w1 y1 in rw y1 (λ v r d. d ts w1.0 (all_of (rw e1 at d0)))))

pub decls_good : (ds : List DeclTree) (ts : List Token) → Good Post (decls_step ds ts) (Post (NDecls ds) ts)
decls_good ds ts = bool_cases (at_end ts)
    (λ y0. rw (y0, decls_step) (record { more = []; is = sym (append-nil ds); ended = at_end_is ts y0; decls = rw (at_end_is ts y0) no_decls }))
    (λ y0. rw (y0, decls_step) (λ v1 r1 d1. (λ v r d. record {
      more = v1 ∷ d.more;
      is = d.is
          ∙ append_assoc ds (v1 ∷ []) d.more;
      ended = d.ended;
      decls = next_decl d1 d.decls;
    })))
