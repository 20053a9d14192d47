-- Where reading a declaration stops, it can be completed.
use Rattle.std.proofs.Common.{ℕ, List, [], ◌∷◌, Option}
use Rattle.kaba_base.specs.declared.Place.{Place}
use Rattle.kaba_base.specs.declared.words.Keyword.{Keyword}
use Rattle.kaba_base.specs.declared.words.Keyword.TheVariants as keys
use Rattle.java_lex.specs.declared.Token.{Token}
use Rattle.java_lex.specs.declared.Mark.TheVariants as marks
use Rattle.java_tree.specs.declared.Id.{Id}
use Rattle.java_tree.specs.declared.Modifier.{Modifier}
use Rattle.java_tree.specs.declared.TypeName.{TypeName}
use Rattle.java_tree.specs.declared.Param.{Param}
use Rattle.java_tree.specs.Syntax.{HeadTree, MemberTree, DeclTree}
use Rattle.java_tree.specs.Statements.{no_items}
use Rattle.java_tree.specs.Declarations.{last_id, next_id, no_parent, a_parent, no_list, a_list, a_param, last_param, next_param, no_params, some_params, a_result, a_head, no_body, a_body, no_up, an_up, a_method, a_maker, no_members, next_member, no_heads, next_head, a_class, an_interface, no_decls, next_decl}
use Rattle.java_parse.specs.Want.{NMods, NIds, NParent, NList, NParam, NParams, NMoreParams, NResult, NHead, NBody, NMember, NTyped, NMethod, NMaker, NMakerBody, NMembers, NHeads, NClass, NInterface, NDecl, NDecls}
use Rattle.java_parse.specs.Front.{after, after_key, word_next, maker_next, up_next, modifier_next, at_end}
use Rattle.java_parse.proofs.Fronts.{option_cases, bool_cases, after_is, after_key_is, word_is, maker_is, up_is, final_is}
use Rattle.java_parse.specs.ReadDeclarations.{mods_step, ids_step, parent_step, list_step, param_step, params_step, more_params_step, result_type_step, head_step, body_step, member_step, typed_step, method_step, maker_step, maker_body_step, members_step, heads_step, class_step, interface_step, decl_step, decls_step}
use Rattle.java_parse.proofs.SoundDeclarations.{all_of}
use Rattle.java_parse.proofs.Cuts.{here, on, led, join}
use Rattle.java_parse.proofs.AloneExpressions.{type_alone, args_alone}
use Rattle.java_parse.proofs.AloneStatements.{final_alone}
use Rattle.java_parse.proofs.AloneDeclarations.{mods_alone, parent_alone, list_alone, param_alone, params_alone, result_alone, head_alone, member_alone, decl_alone}
use Rattle.java_parse.proofs.Stuck.{Stuck, Unfinished, carry, stops, same, x_word, class_key, semi, open_round, close_round, open_brace, close_brace}

-- reading modifiers never stops
never_stuck : {ms : List Modifier} {ts rest : List Token} {P : Type 0} → Stuck (NMods ms) ts rest → P
never_stuck s = absurd ((s.ends []).1)

pub mods_stuck : (ms : List Modifier) (ts : List Token) → Unfinished (mods_step ms ts) (Stuck (NMods ms) ts)
mods_stuck ms ts = option_cases (modifier_next ts)
    (λ n0. rw (n0, mods_step) tt)
    (λ w0 y0. rw (y0, mods_step) (λ rest s. never_stuck s, λ v r d. tt))

pub ids_stuck : (is : List Id) (ts : List Token) → Unfinished (ids_step is ts) (Stuck (NIds is) ts)
ids_stuck is ts = option_cases (word_next ts)
    (λ n0. rw (n0, ids_step) (stops here x_word (λ tail. (_, last_id))))
    (λ w0 y0. let e0 = word_is ts w0 y0 in rw (y0, ids_step) (option_cases (after marks.Comma w0.2)
    (λ n1. rw n1 tt)
    (λ w1 y1. let e1 = after_is marks.Comma w0.2 w1 y1 in rw y1 (
      λ rest s. carry (led e0 (led e1 here)) same s (λ us tail d. (_, next_id d.1)),
      λ v r d. tt,
    ))))

pub parent_stuck : (ts : List Token) → Unfinished (parent_step ts) (Stuck NParent ts)
parent_stuck ts = option_cases (after_key keys.Extends ts)
    (λ n0. rw (n0, parent_step) tt)
    (λ w0 y0. let e0 = after_key_is keys.Extends ts w0 y0 in rw (y0, parent_step) (option_cases (word_next w0.1)
    (λ n1. rw n1 (stops (led e0 here) x_word (λ tail. (_, a_parent))))
    (λ w1 y1. rw y1 tt)))

pub list_stuck : (k : Keyword) (ts : List Token) → Unfinished (list_step k ts) (Stuck (NList k) ts)
list_stuck k ts = option_cases (after_key k ts)
    (λ n0. rw (n0, list_step) tt)
    (λ w0 y0. let e0 = after_key_is k ts w0 y0 in rw (y0, list_step) (λ rest s. carry (led e0 here) same s (λ us tail d. (_, a_list d.1)), λ v r d. tt))

pub param_stuck : (ts : List Token) → Unfinished (param_step ts) (Stuck NParam ts)
param_stuck ts = let f = final_alone (final_is ts) in (
  λ rest s. carry f.cut x_word s (λ us tail d. (_, a_param (f.again us) d.1)),
  λ v0 r0 d0. let t = type_alone d0 in option_cases (word_next r0)
      (λ n1. rw n1 (stops (join f.cut t.cut) x_word (λ tail. (_, a_param (f.again (t.cut.put (x_word tail))) (t.again (x_word tail))))))
      (λ w1 y1. rw y1 tt),
)

pub params_stuck : (ts : List Token) → Unfinished (params_step ts) (Stuck NParams ts)
params_stuck ts = option_cases (after marks.CloseRound ts)
    (λ n0. rw (n0, params_step) (
      λ rest s. carry here close_round s (λ us tail d. (_, some_params d.1 last_param)),
      λ v1 r1 d1. (
        λ rest s. let k = param_alone d1 in carry k.cut same s (λ us tail d. (_, some_params (k.again us) d.1)),
        λ v r d. tt,
      ),
    ))
    (λ w0 y0. rw (y0, params_step) tt)

pub more_params_stuck : (qs : List Param) (ts : List Token) → Unfinished (more_params_step qs ts) (Stuck (NMoreParams qs) ts)
more_params_stuck qs ts = option_cases (after marks.CloseRound ts)
    (λ n0. rw (n0, more_params_step) (option_cases (after marks.Comma ts)
    (λ n1. rw n1 (stops here close_round (λ tail. (_, last_param))))
    (λ w1 y1. let e1 = after_is marks.Comma ts w1 y1 in rw y1 (
      λ rest s. carry (led e1 here) close_round s (λ us tail d. (_, next_param d.1 last_param)),
      λ v2 r2 d2. (
        λ rest s. let k = param_alone d2 in carry (led e1 k.cut) same s (λ us tail d. (_, next_param (k.again us) d.1)),
        λ v r d. tt,
      ),
    ))))
    (λ w0 y0. rw (y0, more_params_step) tt)

pub result_type_stuck : (ts : List Token) → Unfinished (result_type_step ts) (Stuck NResult ts)
result_type_stuck ts = option_cases (after_key keys.Void ts)
    (λ n0. rw (n0, result_type_step) (λ rest s. carry here same s (λ us tail d. (_, a_result d.1)), λ v1 r1 d1. tt))
    (λ w0 y0. rw (y0, result_type_step) tt)

-- a name and brackets
abbrev empty_params : List Token → List Token
empty_params tail = x_word (open_round (close_round tail))

pub head_stuck : (ts : List Token) → Unfinished (head_step ts) (Stuck NHead ts)
head_stuck ts = (
  λ rest s. never_stuck s,
  λ v0 r0 d0. let m = mods_alone (all_of d0) in (
    λ rest s. carry m.cut empty_params s (λ us tail d. (_, a_head (m.again us) d.1 no_params)),
    λ v1 r1 d1. let t = result_alone d1 in option_cases (word_next r1)
        (λ n2. rw n2 (stops (join m.cut t.cut) empty_params (λ tail. (_, a_head (m.again _) (t.again (empty_params tail)) no_params))))
        (λ w2 y2. let e2 = word_is r1 w2 y2 in rw y2 (option_cases (after marks.OpenRound w2.2)
        (λ n3. rw n3 (stops (join m.cut (join t.cut (led e2 here))) (λ tail. open_round (close_round tail))
        (λ tail. (_, a_head (m.again _) (t.again (_ ∷ open_round (close_round tail))) no_params))))
        (λ w3 y3. let e3 = after_is marks.OpenRound w2.2 w3 y3 in rw y3 (
          λ rest s. carry (join m.cut (join t.cut (led e2 (led e3 here)))) same s
              (λ us tail d. (_, a_head (m.again _) (t.again (_ ∷ _ ∷ us)) d.1)),
          λ v4 r4 d4. tt,
        )))),
  ),
)

pub body_stuck : (ts : List Token) → Unfinished (body_step ts) (Stuck NBody ts)
body_stuck ts = option_cases (after marks.Semi ts)
    (λ n0. rw (n0, body_step) (option_cases (after marks.OpenBrace ts)
    (λ n1. rw n1 (stops here semi (λ tail. (_, no_body))))
    (λ w1 y1. let e1 = after_is marks.OpenBrace ts w1 y1 in rw y1 (
      λ rest s. carry (led e1 here) same s (λ us tail d. (_, a_body d.1)),
      λ v2 r2 d2. tt,
    ))))
    (λ w0 y0. rw (y0, body_step) tt)

-- an empty list of parameters, and no body
abbrev empty_method : List Token → List Token
empty_method tail = open_round (close_round (semi tail))

pub member_stuck : (ts : List Token) → Unfinished (member_step ts) (Stuck NMember ts)
member_stuck ts = (
  λ rest s. never_stuck s,
  λ v0 r0 d0. let m = mods_alone (all_of d0) in option_cases (maker_next r0)
      (λ n1. rw n1 (λ rest s. carry m.cut same s (λ us tail d. d (m.cut.put us) (m.again us)), λ v r d. tt))
      (λ w1 y1. let e1 = (maker_is r0 w1 y1).1 in rw y1 (
        λ rest s. carry (join m.cut (led e1 (on here))) same s (λ us tail d. d _ _ (m.again (_ ∷ _ ∷ us))),
        λ v r d. tt,
      )),
)

pub typed_stuck : (ms : List Modifier) (ts : List Token) → Unfinished (typed_step ms ts) (Stuck (NTyped ms) ts)
typed_stuck ms ts = (
  λ rest s. carry here (λ tail. x_word (empty_method tail)) s (λ us tail d vs m. (_, a_method (a_head m d.1 no_params) no_body)),
  λ v0 r0 d0. let t = result_alone d0 in option_cases (word_next r0)
      (λ n1. rw n1 (stops t.cut (λ tail. x_word (empty_method tail))
      (λ tail us m. (_, a_method (a_head m (t.again (x_word (empty_method tail))) no_params) no_body))))
      (λ w1 y1. let e1 = word_is r0 w1 y1 in
      let short : Stuck (NTyped ms) ts w1.2 = stops (join t.cut (led e1 here)) empty_method
      (λ tail us m. (_, a_method (a_head m (t.again (_ ∷ empty_method tail)) no_params) no_body)) in
      rw y1 (option_cases (after marks.OpenRound w1.2)
      (λ n2. rw n2 (option_cases (v0)
      (λ n3. rw n3 short)
      (λ w3 y3. rw y3 (option_cases (after marks.Semi w1.2)
      (λ n4. rw n4 short)
      (λ w4 y4. rw y4 tt)))))
      (λ w2 y2. let e2 = after_is marks.OpenRound w1.2 w2 y2 in rw y2 (
        λ rest s. carry (join t.cut (led e1 (led e2 here))) same s (λ us tail d vs m. d _ _ _ m (t.again (_ ∷ _ ∷ us))),
        λ v r d. tt,
      )))),
)

pub method_stuck : (ms : List Modifier) (t : Option TypeName) (n : List ℕ) (p : Place) (ts : List Token)
    → Unfinished (method_step ms t n p ts) (Stuck (NMethod ms t n p) ts)
method_stuck ms t n p ts = (
  λ rest s. carry here semi s (λ us tail d vs ws q m r. (_, a_method (a_head m r d.1) no_body)),
  λ v0 r0 d0. let k = params_alone d0 in (
    λ rest s. carry k.cut same s (λ us tail d vs ws q m r. (_, a_method (a_head m r (k.again us)) d.1)),
    λ v1 r1 d1. tt,
  ),
)

-- empty braces
abbrev braces : List Token → List Token
braces tail = open_brace (close_brace tail)

pub maker_stuck : (ms : List Modifier) (n : List ℕ) (p : Place) (ts : List Token) → Unfinished (maker_step ms n p ts) (Stuck (NMaker ms n p) ts)
maker_stuck ms n p ts = (
  λ rest s. carry here braces s (λ us tail d vs q m. (_, a_maker m d.1 no_up no_items)),
  λ v0 r0 d0. let k = params_alone d0 in option_cases (after marks.OpenBrace r0)
      (λ n1. rw n1 (stops k.cut braces (λ tail us q m. (_, a_maker m (k.again (braces tail)) no_up no_items))))
      (λ w1 y1. let e1 = after_is marks.OpenBrace r0 w1 y1 in rw y1 (
        λ rest s. carry (join k.cut (led e1 here)) same s (λ us tail d vs q m. (_, a_maker m (k.again (_ ∷ us)) d.2.first d.2.items)),
        λ v2 r2 d2. tt,
      )),
)

-- no more of a body behind the arguments of `super`
abbrev up_ends : List Token → List Token
up_ends tail = semi (close_brace tail)

pub maker_body_stuck : (ts : List Token) → Unfinished (maker_body_step ts) (Stuck NMakerBody ts)
maker_body_stuck ts = option_cases (up_next ts)
    (λ n0. rw (n0, maker_body_step) (
      λ rest s. carry here same s (λ us tail d. (_, _, record { middle = us; first = no_up; items = d.1 })),
      λ v1 r1 d1. tt,
    ))
    (λ w0 y0. let e0 = (up_is ts w0 y0).1 in rw (y0, maker_body_step) (
      λ rest s. carry (led e0 (on here)) up_ends s (λ us tail d. (_, _, record { middle = close_brace tail; first = an_up d.1; items = no_items })),
      λ v1 r1 d1. let a = args_alone d1 in option_cases (after marks.Semi r1)
          (λ n2. rw n2 (stops (led e0 (on a.cut)) up_ends
          (λ tail. (_, _, record { middle = close_brace tail; first = an_up (a.again (up_ends tail)); items = no_items }))))
          (λ w2 y2. let e2 = after_is marks.Semi r1 w2 y2 in rw y2 (
            λ rest s. carry (led e0 (on (join a.cut (led e2 here)))) same s
                (λ us tail d. (_, _, record { middle = us; first = an_up (a.again (_ ∷ us)); items = d.1 })),
            λ v3 r3 d3. tt,
          )),
    ))

pub members_stuck : (bs : List MemberTree) (ts : List Token) → Unfinished (members_step bs ts) (Stuck (NMembers bs) ts)
members_stuck bs ts = option_cases (after marks.CloseBrace ts)
    (λ n0. rw (n0, members_step) (
      λ rest s. carry here close_brace s (λ us tail d. (_, next_member d.1 no_members)),
      λ v1 r1 d1. (
        λ rest s. let k = member_alone d1 in carry k.cut same s (λ us tail d. (_, next_member (k.again us) d.1)),
        λ v r d. tt,
      ),
    ))
    (λ w0 y0. rw (y0, members_step) tt)

pub heads_stuck : (hs : List HeadTree) (ts : List Token) → Unfinished (heads_step hs ts) (Stuck (NHeads hs) ts)
heads_stuck hs ts = option_cases (after marks.CloseBrace ts)
    (λ n0. rw (n0, heads_step) (
      λ rest s. carry here (λ tail. semi (close_brace tail)) s (λ us tail d. (_, next_head d.1 no_heads)),
      λ v1 r1 d1. let k = head_alone d1 in option_cases (after marks.Semi r1)
          (λ n2. rw n2 (stops k.cut (λ tail. semi (close_brace tail)) (λ tail. (_, next_head (k.again _) no_heads))))
          (λ w2 y2. let e2 = after_is marks.Semi r1 w2 y2 in rw y2 (
            λ rest s. carry (join k.cut (led e2 here)) same s (λ us tail d. (_, next_head (k.again (_ ∷ us)) d.1)),
            λ v r d. tt,
          )),
    ))
    (λ w0 y0. rw (y0, heads_step) tt)

pub class_stuck : (ms : List Modifier) (ts : List Token) → Unfinished (class_step ms ts) (Stuck (NClass ms) ts)
class_stuck ms ts = option_cases (word_next ts)
    (λ n0. rw (n0, class_step) (stops here (λ tail. x_word (braces tail)) (λ tail us q m. (_, a_class m no_parent no_list no_members))))
    (λ w0 y0. let e0 = word_is ts w0 y0 in rw (y0, class_step) (
      λ rest s. carry (led e0 here) braces s (λ us tail d vs q m. (_, a_class m d.1 no_list no_members)),
      λ v1 r1 d1. let a = parent_alone d1 in (
        λ rest s. carry (led e0 a.cut) braces s (λ us tail d vs q m. (_, a_class m (a.again us) d.1 no_members)),
        λ v2 r2 d2. let b = list_alone d2 in option_cases (after marks.OpenBrace r2)
            (λ n3. rw n3 (stops (led e0 (join a.cut b.cut)) braces (λ tail us q m. (_, a_class m (a.again _) (b.again (braces tail)) no_members))))
            (λ w3 y3. let e3 = after_is marks.OpenBrace r2 w3 y3 in rw y3 (
              λ rest s. carry (led e0 (join a.cut (join b.cut (led e3 here)))) same s
                  (λ us tail d vs q m. (_, a_class m (a.again _) (b.again (_ ∷ us)) d.1)),
              λ v4 r4 d4. tt,
            )),
      ),
    ))

pub interface_stuck : (ms : List Modifier) (ts : List Token) → Unfinished (interface_step ms ts) (Stuck (NInterface ms) ts)
interface_stuck ms ts = option_cases (word_next ts)
    (λ n0. rw (n0, interface_step) (stops here (λ tail. x_word (braces tail)) (λ tail us q m. (_, an_interface m no_list no_heads))))
    (λ w0 y0. let e0 = word_is ts w0 y0 in rw (y0, interface_step) (
      λ rest s. carry (led e0 here) braces s (λ us tail d vs q m. (_, an_interface m d.1 no_heads)),
      λ v1 r1 d1. let a = list_alone d1 in option_cases (after marks.OpenBrace r1)
          (λ n2. rw n2 (stops (led e0 a.cut) braces (λ tail us q m. (_, an_interface m (a.again (braces tail)) no_heads))))
          (λ w2 y2. let e2 = after_is marks.OpenBrace r1 w2 y2 in rw y2 (
            λ rest s. carry (led e0 (join a.cut (led e2 here))) same s (λ us tail d vs q m. (_, an_interface m (a.again (_ ∷ us)) d.1)),
            λ v3 r3 d3. tt,
          )),
    ))

pub decl_stuck : (ts : List Token) → Unfinished (decl_step ts) (Stuck NDecl ts)
decl_stuck ts = (
  λ rest s. never_stuck s,
  λ v0 r0 d0. let m = mods_alone (all_of d0) in option_cases (after_key keys.Class r0)
      (λ n1. rw n1 (option_cases (after_key keys.Interface r0)
      (λ n2. rw n2 (stops m.cut (λ tail. class_key (x_word (braces tail))) (λ tail. (_, a_class (m.again _) no_parent no_list no_members))))
      (λ w2 y2. let e2 = after_key_is keys.Interface r0 w2 y2 in rw y2 (
        λ rest s. carry (join m.cut (led e2 here)) same s (λ us tail d. d _ _ (m.again (_ ∷ us))),
        λ v r d. tt,
      ))))
      (λ w1 y1. let e1 = after_key_is keys.Class r0 w1 y1 in rw y1 (
        λ rest s. carry (join m.cut (led e1 here)) same s (λ us tail d. d _ _ (m.again (_ ∷ us))),
        λ v r d. tt,
      )),
)

pub decls_stuck : (ds : List DeclTree) (ts : List Token) → Unfinished (decls_step ds ts) (Stuck (NDecls ds) ts)
decls_stuck ds ts = bool_cases (at_end ts)
    (λ y0. rw (y0, decls_step) tt)
    (λ y0. rw (y0, decls_step) (
      λ rest s. record { cut = s.cut; ends = λ tail. let d = s.ends [] in (d.0, (_, next_decl d.1.1 no_decls)) },
      λ v1 r1 d1. (
        λ rest s. let k = decl_alone d1 in carry k.cut same s (λ us tail d. (_, next_decl (k.again us) d.1)),
        λ v r d. tt,
      ),
    ))
