-- How reading steps: one rule for each path.
use Rattle.std.proofs.Common.{◌≡◌, ℕ, List, [], ◌∷◌, ◌++◌, Option, Some, None, Ok, Err, true, false}
use Rattle.kaba_base.specs.declared.Place.{Place}
use Rattle.kaba_base.specs.declared.words.Keyword.{Keyword}
use Rattle.kaba_base.specs.declared.words.Keyword.TheVariants as keys
use Rattle.java_lex.specs.declared.Token.{Token}
use Rattle.java_lex.specs.declared.Mark.TheVariants as marks
use Rattle.java_tree.specs.declared.Id.{Id}
use Rattle.java_tree.specs.declared.Modifier.{Modifier}
use Rattle.java_tree.specs.declared.TypeName.{TypeName}
use Rattle.java_tree.specs.declared.Param.{Param}
use Rattle.java_tree.specs.Syntax.{Expressions, Statements, no_statements, HeadTree, MemberTree, FieldTree, MethodTree, MakerTree, DeclTree, ClassTree, InterfaceTree}
use Rattle.java_parse.specs.Want.{NType, NArgs, NItems, NMods, NIds, NParent, NList, NParam, NParams, NMoreParams, NResult, NHead, NBody, NMember, NTyped, NMethod, NMaker, NMakerBody, NMembers, NHeads, NClass, NInterface, NDecl, NDecls}
use Rattle.java_parse.specs.Front.{after, after_key, word_next, maker_next, up_next, final_of, modifier_next, at_end}
use Rattle.java_parse.proofs.Runs.{reads, run, found, missed}
use Rattle.java_parse.specs.Reading.{Fault, Left, ParseOutcome, give, fail, ask, ask_fails, Reads}
use Rattle.java_parse.specs.ReadDeclarations.{mods_step, ids_step, parent_step, list_step, params_step, more_params_step, result_type_step, body_step, members_step, heads_step, class_step, interface_step, decls_step}

pub mods_next : {ms : List Modifier} {ts : List Token} {m : Modifier} {us : List Token} {o : ParseOutcome (List Modifier)}
    → modifier_next ts ≡ Some (m, us) → Reads (NMods (ms ++ m ∷ [])) us o → Reads (NMods ms) ts o
mods_next {o = Ok given} h0 a1 = reads (rw (h0, mods_step) (ask (run a1) give))
mods_next {o = Err fault} h0 a1 = reads (rw (h0, mods_step) (ask_fails (run a1)))

pub mods_end : {ms : List Modifier} {ts : List Token} → modifier_next ts ≡ None → Reads (NMods ms) ts (Ok (ms, ts))
mods_end h0 = reads (rw (h0, mods_step) give)

pub ids_next : {is : List Id} {ts : List Token} {n : List ℕ} {q : Place} {us : List Token} {p : Place} {vs : List Token} {o : ParseOutcome (List Id)}
    → word_next ts ≡ Some (n, q, us) → after marks.Comma us ≡ Some (p, vs) → Reads (NIds (is ++ record { name = n; place = q } ∷ [])) vs o
    → Reads (NIds is) ts o
ids_next {o = Ok given} h0 h1 a2 = reads (rw (h0, ids_step, h1) (ask (run a2) give))
ids_next {o = Err fault} h0 h1 a2 = reads (rw (h0, ids_step, h1) (ask_fails (run a2)))

pub ids_end : {is : List Id} {ts : List Token} {n : List ℕ} {q : Place} {us : List Token} → word_next ts ≡ Some (n, q, us)
    → after marks.Comma us ≡ None → Reads (NIds is) ts (Ok (is ++ record { name = n; place = q } ∷ [], us))
ids_end h0 h1 = reads (rw (h0, ids_step, h1) give)

pub ids_none : {is : List Id} {ts : List Token} → word_next ts ≡ None → Reads (NIds is) ts (Err (Left ts))
ids_none h0 = reads (rw (h0, ids_step) fail)

pub parent_some : {ts : List Token} {p : Place} {us : List Token} {n : List ℕ} {q : Place} {vs : List Token} → after_key keys.Extends ts ≡ Some (p, us)
    → word_next us ≡ Some (n, q, vs) → Reads NParent ts (Ok (Some (record { name = n; place = q }), vs))
parent_some h0 h1 = reads (rw (h0, parent_step, h1) give)

pub parent_no_name : {ts : List Token} {p : Place} {us : List Token} → after_key keys.Extends ts ≡ Some (p, us) → word_next us ≡ None
    → Reads NParent ts (Err (Left us))
parent_no_name h0 h1 = reads (rw (h0, parent_step, h1) fail)

pub parent_none : {ts : List Token} → after_key keys.Extends ts ≡ None → Reads NParent ts (Ok (None, ts))
parent_none h0 = reads (rw (h0, parent_step) give)

pub list_some : {k : Keyword} {ts : List Token} {p : Place} {us : List Token} {o : ParseOutcome (List Id)} → after_key k ts ≡ Some (p, us)
    → Reads (NIds []) us o → Reads (NList k) ts o
list_some {o = Ok given} h0 a1 = reads (rw (h0, list_step) (ask (run a1) give))
list_some {o = Err fault} h0 a1 = reads (rw (h0, list_step) (ask_fails (run a1)))

pub list_none : {k : Keyword} {ts : List Token} → after_key k ts ≡ None → Reads (NList k) ts (Ok ([], ts))
list_none h0 = reads (rw (h0, list_step) give)

pub param_is_fails : {ts : List Token} {fl : Fault} → Reads NType ((final_of ts).1) (Err fl) → Reads NParam ts (Err fl)
param_is_fails a0 = reads (ask_fails (run a0))

pub param_is : {ts : List Token} {t : TypeName} {us : List Token} {n : List ℕ} {p : Place} {vs : List Token}
    → Reads NType ((final_of ts).1) (Ok (t, us)) → word_next us ≡ Some (n, p, vs)
    → Reads NParam ts (Ok (record { is_final = (final_of ts).0; ty = t; name = n; place = p }, vs))
param_is a0 h1 = reads (ask (run a0) (rw h1 give))

pub param_no_name : {ts : List Token} {t : TypeName} {us : List Token} → Reads NType ((final_of ts).1) (Ok (t, us)) → word_next us ≡ None
    → Reads NParam ts (Err (Left us))
param_no_name a0 h1 = reads (ask (run a0) (rw h1 fail))

pub params_none : {ts : List Token} {p : Place} {us : List Token} → after marks.CloseRound ts ≡ Some (p, us) → Reads NParams ts (Ok ([], us))
params_none h0 = reads (rw (h0, params_step) give)

pub params_some_fails : {ts : List Token} {fl : Fault} → after marks.CloseRound ts ≡ None → Reads NParam ts (Err fl) → Reads NParams ts (Err fl)
params_some_fails h0 a1 = reads (rw (h0, params_step) (ask_fails (run a1)))

pub params_some : {ts : List Token} {q : Param} {us : List Token} {o : ParseOutcome (List Param)} → after marks.CloseRound ts ≡ None
    → Reads NParam ts (Ok (q, us)) → Reads (NMoreParams (q ∷ [])) us o → Reads NParams ts o
params_some {o = Ok given} h0 a1 a2 = reads (rw (h0, params_step) (ask (run a1) (ask (run a2) give)))
params_some {o = Err fault} h0 a1 a2 = reads (rw (h0, params_step) (ask (run a1) (ask_fails (run a2))))

pub more_params_end : {qs : List Param} {ts : List Token} {p : Place} {us : List Token} → after marks.CloseRound ts ≡ Some (p, us)
    → Reads (NMoreParams qs) ts (Ok (qs, us))
more_params_end h0 = reads (rw (h0, more_params_step) give)

pub more_params_next_fails : {qs : List Param} {ts : List Token} {p : Place} {us : List Token} {fl : Fault} → after marks.CloseRound ts ≡ None
    → after marks.Comma ts ≡ Some (p, us) → Reads NParam us (Err fl) → Reads (NMoreParams qs) ts (Err fl)
more_params_next_fails h0 h1 a2 = reads (rw (h0, more_params_step, h1) (ask_fails (run a2)))

pub more_params_next : {qs : List Param} {ts : List Token} {p : Place} {us : List Token} {q : Param} {vs : List Token} {o : ParseOutcome (List Param)}
    → after marks.CloseRound ts ≡ None → after marks.Comma ts ≡ Some (p, us) → Reads NParam us (Ok (q, vs)) → Reads (NMoreParams (qs ++ q ∷ [])) vs o
    → Reads (NMoreParams qs) ts o
more_params_next {o = Ok given} h0 h1 a2 a3 = reads (rw (h0, more_params_step, h1) (ask (run a2) (ask (run a3) give)))
more_params_next {o = Err fault} h0 h1 a2 a3 = reads (rw (h0, more_params_step, h1) (ask (run a2) (ask_fails (run a3))))

pub more_params_open : {qs : List Param} {ts : List Token} → after marks.CloseRound ts ≡ None → after marks.Comma ts ≡ None
    → Reads (NMoreParams qs) ts (Err (Left ts))
more_params_open h0 h1 = reads (rw (h0, more_params_step, h1) fail)

pub result_type_void : {ts : List Token} {p : Place} {us : List Token} → after_key keys.Void ts ≡ Some (p, us) → Reads NResult ts (Ok (None, us))
result_type_void h0 = reads (rw (h0, result_type_step) give)

pub result_type_type_fails : {ts : List Token} {fl : Fault} → after_key keys.Void ts ≡ None → Reads NType ts (Err fl) → Reads NResult ts (Err fl)
result_type_type_fails h0 a1 = reads (rw (h0, result_type_step) (ask_fails (run a1)))

pub result_type_type : {ts : List Token} {t : TypeName} {us : List Token} → after_key keys.Void ts ≡ None → Reads NType ts (Ok (t, us))
    → Reads NResult ts (Ok (Some t, us))
result_type_type h0 a1 = reads (rw (h0, result_type_step) (ask (run a1) give))

pub head_is_fails : {ts : List Token} {fl : Fault} → Reads (NMods []) ts (Err fl) → Reads NHead ts (Err fl)
head_is_fails a0 = reads (ask_fails (run a0))

pub head_is_fails2 : {ts : List Token} {ms : List Modifier} {us : List Token} {fl : Fault} → Reads (NMods []) ts (Ok (ms, us))
    → Reads NResult us (Err fl) → Reads NHead ts (Err fl)
head_is_fails2 a0 a1 = reads (ask (run a0) (ask_fails (run a1)))

pub head_is_fails3 : {ts : List Token} {ms : List Modifier} {us : List Token} {t : Option TypeName} {vs : List Token} {n : List ℕ} {p : Place}
    {ws : List Token} {q : Place} {xs : List Token} {fl : Fault} → Reads (NMods []) ts (Ok (ms, us)) → Reads NResult us (Ok (t, vs))
    → word_next vs ≡ Some (n, p, ws) → after marks.OpenRound ws ≡ Some (q, xs) → Reads NParams xs (Err fl) → Reads NHead ts (Err fl)
head_is_fails3 a0 a1 h2 h3 a4 = reads (ask (run a0) (ask (run a1) (rw (h2, h3) (ask_fails (run a4)))))

pub head_is : {ts : List Token} {ms : List Modifier} {us : List Token} {t : Option TypeName} {vs : List Token} {n : List ℕ} {p : Place}
    {ws : List Token} {q : Place} {xs : List Token} {ps : List Param} {end : List Token} → Reads (NMods []) ts (Ok (ms, us))
    → Reads NResult us (Ok (t, vs)) → word_next vs ≡ Some (n, p, ws) → after marks.OpenRound ws ≡ Some (q, xs) → Reads NParams xs (Ok (ps, end))
    → Reads NHead ts (Ok (record { mods = ms; type = t; name = n; params = ps; place = p }, end))
head_is a0 a1 h2 h3 a4 = reads (ask (run a0) (ask (run a1) (rw (h2, h3) (ask (run a4) give))))

pub head_no_params : {ts : List Token} {ms : List Modifier} {us : List Token} {t : Option TypeName} {vs : List Token} {n : List ℕ} {p : Place}
    {ws : List Token} → Reads (NMods []) ts (Ok (ms, us)) → Reads NResult us (Ok (t, vs)) → word_next vs ≡ Some (n, p, ws) → after marks.OpenRound ws
    ≡ None → Reads NHead ts (Err (Left ws))
head_no_params a0 a1 h2 h3 = reads (ask (run a0) (ask (run a1) (rw (h2, h3) fail)))

pub head_no_name : {ts : List Token} {ms : List Modifier} {us : List Token} {t : Option TypeName} {vs : List Token}
    → Reads (NMods []) ts (Ok (ms, us)) → Reads NResult us (Ok (t, vs)) → word_next vs ≡ None → Reads NHead ts (Err (Left vs))
head_no_name a0 a1 h2 = reads (ask (run a0) (ask (run a1) (rw h2 fail)))

pub body_none : {ts : List Token} {p : Place} {us : List Token} → after marks.Semi ts ≡ Some (p, us) → Reads NBody ts (Ok (None, us))
body_none h0 = reads (rw (h0, body_step) give)

pub body_some_fails : {ts : List Token} {p : Place} {us : List Token} {fl : Fault} → after marks.Semi ts ≡ None → after marks.OpenBrace ts
    ≡ Some (p, us) → Reads (NItems no_statements) us (Err fl) → Reads NBody ts (Err fl)
body_some_fails h0 h1 a2 = reads (rw (h0, body_step, h1) (ask_fails (run a2)))

pub body_some : {ts : List Token} {p : Place} {us : List Token} {ss : Statements} {vs : List Token} → after marks.Semi ts ≡ None
    → after marks.OpenBrace ts ≡ Some (p, us) → Reads (NItems no_statements) us (Ok (ss, vs)) → Reads NBody ts (Ok (Some ss, vs))
body_some h0 h1 a2 = reads (rw (h0, body_step, h1) (ask (run a2) give))

pub body_open : {ts : List Token} → after marks.Semi ts ≡ None → after marks.OpenBrace ts ≡ None → Reads NBody ts (Err (Left ts))
body_open h0 h1 = reads (rw (h0, body_step, h1) fail)

pub member_is_fails : {ts : List Token} {fl : Fault} → Reads (NMods []) ts (Err fl) → Reads NMember ts (Err fl)
member_is_fails a0 = reads (ask_fails (run a0))

pub member_maker : {ts : List Token} {ms : List Modifier} {us : List Token} {n : List ℕ} {p : Place} {vs : List Token} {o : ParseOutcome MemberTree}
    → Reads (NMods []) ts (Ok (ms, us)) → maker_next us ≡ Some (n, p, vs) → Reads (NMaker ms n p) vs o → Reads NMember ts o
member_maker {o = Ok given} a0 h1 a2 = reads (ask (run a0) (found _ _ h1 (ask (run a2) give)))
member_maker {o = Err fault} a0 h1 a2 = reads (ask (run a0) (found _ _ h1 (ask_fails (run a2))))

pub member_typed : {ts : List Token} {ms : List Modifier} {us : List Token} {o : ParseOutcome MemberTree} → Reads (NMods []) ts (Ok (ms, us))
    → maker_next us ≡ None → Reads (NTyped ms) us o → Reads NMember ts o
member_typed {o = Ok given} a0 h1 a2 = reads (ask (run a0) (missed _ h1 (ask (run a2) give)))
member_typed {o = Err fault} a0 h1 a2 = reads (ask (run a0) (missed _ h1 (ask_fails (run a2))))

pub typed_is_fails : {ms : List Modifier} {ts : List Token} {fl : Fault} → Reads NResult ts (Err fl) → Reads (NTyped ms) ts (Err fl)
typed_is_fails a0 = reads (ask_fails (run a0))

pub typed_method : {ms : List Modifier} {ts : List Token} {t : Option TypeName} {us : List Token} {n : List ℕ} {p : Place} {vs : List Token} {q : Place}
    {ws : List Token} {o : ParseOutcome MemberTree} → Reads NResult ts (Ok (t, us)) → word_next us ≡ Some (n, p, vs) → after marks.OpenRound vs
    ≡ Some (q, ws) → Reads (NMethod ms t n p) ws o → Reads (NTyped ms) ts o
typed_method {o = Ok given} a0 h1 h2 a3 = reads (ask (run a0) (rw (h1, h2) (ask (run a3) give)))
typed_method {o = Err fault} a0 h1 h2 a3 = reads (ask (run a0) (rw (h1, h2) (ask_fails (run a3))))

pub typed_field : {ms : List Modifier} {ts : List Token} {t : Option TypeName} {us : List Token} {n : List ℕ} {p : Place} {vs : List Token}
    {u : TypeName} {q : Place} {ws : List Token} → Reads NResult ts (Ok (t, us)) → word_next us ≡ Some (n, p, vs) → after marks.OpenRound vs ≡ None
    → t ≡ Some u → after marks.Semi vs ≡ Some (q, ws) → Reads (NTyped ms) ts (Ok (FieldTree ms u n p, ws))
typed_field a0 h1 h2 h3 h4 = reads (ask (run a0) (rw (h1, h2, h3, h4) give))

pub typed_field_open : {ms : List Modifier} {ts : List Token} {t : Option TypeName} {us : List Token} {n : List ℕ} {p : Place} {vs : List Token}
    {u : TypeName} → Reads NResult ts (Ok (t, us)) → word_next us ≡ Some (n, p, vs) → after marks.OpenRound vs ≡ None → t ≡ Some u
    → after marks.Semi vs ≡ None → Reads (NTyped ms) ts (Err (Left vs))
typed_field_open a0 h1 h2 h3 h4 = reads (ask (run a0) (rw (h1, h2, h3, h4) fail))

pub typed_void_field : {ms : List Modifier} {ts : List Token} {t : Option TypeName} {us : List Token} {n : List ℕ} {p : Place} {vs : List Token}
    → Reads NResult ts (Ok (t, us)) → word_next us ≡ Some (n, p, vs) → after marks.OpenRound vs ≡ None → t ≡ None
    → Reads (NTyped ms) ts (Err (Left vs))
typed_void_field a0 h1 h2 h3 = reads (ask (run a0) (rw (h1, h2, h3) fail))

pub typed_no_name : {ms : List Modifier} {ts : List Token} {t : Option TypeName} {us : List Token} → Reads NResult ts (Ok (t, us))
    → word_next us ≡ None → Reads (NTyped ms) ts (Err (Left us))
typed_no_name a0 h1 = reads (ask (run a0) (rw h1 fail))

pub method_is_fails : {ms : List Modifier} {t : Option TypeName} {n : List ℕ} {p : Place} {ts : List Token} {fl : Fault} → Reads NParams ts (Err fl)
    → Reads (NMethod ms t n p) ts (Err fl)
method_is_fails a0 = reads (ask_fails (run a0))

pub method_is_fails2 : {ms : List Modifier} {t : Option TypeName} {n : List ℕ} {p : Place} {ts : List Token} {ps : List Param} {us : List Token}
    {fl : Fault} → Reads NParams ts (Ok (ps, us)) → Reads NBody us (Err fl) → Reads (NMethod ms t n p) ts (Err fl)
method_is_fails2 a0 a1 = reads (ask (run a0) (ask_fails (run a1)))

pub method_is : {ms : List Modifier} {t : Option TypeName} {n : List ℕ} {p : Place} {ts : List Token} {ps : List Param} {us : List Token}
    {b : Option Statements} {vs : List Token} → Reads NParams ts (Ok (ps, us)) → Reads NBody us (Ok (b, vs))
    → Reads (NMethod ms t n p) ts (Ok (MethodTree (record { mods = ms; type = t; name = n; params = ps; place = p }) b p, vs))
method_is a0 a1 = reads (ask (run a0) (ask (run a1) give))

pub maker_is_fails : {ms : List Modifier} {n : List ℕ} {p : Place} {ts : List Token} {fl : Fault} → Reads NParams ts (Err fl)
    → Reads (NMaker ms n p) ts (Err fl)
maker_is_fails a0 = reads (ask_fails (run a0))

pub maker_is_fails2 : {ms : List Modifier} {n : List ℕ} {p : Place} {ts : List Token} {ps : List Param} {us : List Token} {q : Place} {vs : List Token}
    {fl : Fault} → Reads NParams ts (Ok (ps, us)) → after marks.OpenBrace us ≡ Some (q, vs) → Reads NMakerBody vs (Err fl)
    → Reads (NMaker ms n p) ts (Err fl)
maker_is_fails2 a0 h1 a2 = reads (ask (run a0) (found _ _ h1 (ask_fails (run a2))))

pub maker_is : {ms : List Modifier} {n : List ℕ} {p : Place} {ts : List Token} {ps : List Param} {us : List Token} {q : Place} {vs : List Token}
    {es : Option Expressions} {ss : Statements} {end : List Token} → Reads NParams ts (Ok (ps, us)) → after marks.OpenBrace us ≡ Some (q, vs)
    → Reads NMakerBody vs (Ok ((es, ss), end)) → Reads (NMaker ms n p) ts (Ok (MakerTree ms n ps es ss p, end))
maker_is a0 h1 a2 = reads (ask (run a0) (found _ _ h1 (ask (run a2) give)))

pub maker_no_body : {ms : List Modifier} {n : List ℕ} {p : Place} {ts : List Token} {ps : List Param} {us : List Token}
    → Reads NParams ts (Ok (ps, us)) → after marks.OpenBrace us ≡ None → Reads (NMaker ms n p) ts (Err (Left us))
maker_no_body a0 h1 = reads (ask (run a0) (missed _ h1 fail))

pub maker_body_up_fails : {ts : List Token} {p : Place} {us : List Token} {fl : Fault} → up_next ts ≡ Some (p, us) → Reads NArgs us (Err fl)
    → Reads NMakerBody ts (Err fl)
maker_body_up_fails h0 a1 = reads (found _ _ h0 (ask_fails (run a1)))

pub maker_body_up_fails2 : {ts : List Token} {p : Place} {us : List Token} {es : Expressions} {vs : List Token} {q : Place} {ws : List Token}
    {fl : Fault} → up_next ts ≡ Some (p, us) → Reads NArgs us (Ok (es, vs)) → after marks.Semi vs ≡ Some (q, ws)
    → Reads (NItems no_statements) ws (Err fl) → Reads NMakerBody ts (Err fl)
maker_body_up_fails2 h0 a1 h2 a3 = reads (found _ _ h0 (ask (run a1) (found _ _ h2 (ask_fails (run a3)))))

pub maker_body_up : {ts : List Token} {p : Place} {us : List Token} {es : Expressions} {vs : List Token} {q : Place} {ws : List Token}
    {ss : Statements} {end : List Token} → up_next ts ≡ Some (p, us) → Reads NArgs us (Ok (es, vs)) → after marks.Semi vs ≡ Some (q, ws)
    → Reads (NItems no_statements) ws (Ok (ss, end)) → Reads NMakerBody ts (Ok ((Some es, ss), end))
maker_body_up h0 a1 h2 a3 = reads (found _ _ h0 (ask (run a1) (found _ _ h2 (ask (run a3) give))))

pub maker_body_open : {ts : List Token} {p : Place} {us : List Token} {es : Expressions} {vs : List Token} → up_next ts ≡ Some (p, us)
    → Reads NArgs us (Ok (es, vs)) → after marks.Semi vs ≡ None → Reads NMakerBody ts (Err (Left vs))
maker_body_open h0 a1 h2 = reads (found _ _ h0 (ask (run a1) (missed _ h2 fail)))

pub maker_body_plain_fails : {ts : List Token} {fl : Fault} → up_next ts ≡ None → Reads (NItems no_statements) ts (Err fl)
    → Reads NMakerBody ts (Err fl)
maker_body_plain_fails h0 a1 = reads (missed _ h0 (ask_fails (run a1)))

pub maker_body_plain : {ts : List Token} {ss : Statements} {end : List Token} → up_next ts ≡ None
    → Reads (NItems no_statements) ts (Ok (ss, end)) → Reads NMakerBody ts (Ok ((None, ss), end))
maker_body_plain h0 a1 = reads (missed _ h0 (ask (run a1) give))

pub members_end : {bs : List MemberTree} {ts : List Token} {p : Place} {us : List Token} → after marks.CloseBrace ts ≡ Some (p, us)
    → Reads (NMembers bs) ts (Ok (bs, us))
members_end h0 = reads (rw (h0, members_step) give)

pub members_next_fails : {bs : List MemberTree} {ts : List Token} {fl : Fault} → after marks.CloseBrace ts ≡ None → Reads NMember ts (Err fl)
    → Reads (NMembers bs) ts (Err fl)
members_next_fails h0 a1 = reads (rw (h0, members_step) (ask_fails (run a1)))

pub members_next : {bs : List MemberTree} {ts : List Token} {b : MemberTree} {us : List Token} {o : ParseOutcome (List MemberTree)}
    → after marks.CloseBrace ts ≡ None → Reads NMember ts (Ok (b, us)) → Reads (NMembers (bs ++ b ∷ [])) us o → Reads (NMembers bs) ts o
members_next {o = Ok given} h0 a1 a2 = reads (rw (h0, members_step) (ask (run a1) (ask (run a2) give)))
members_next {o = Err fault} h0 a1 a2 = reads (rw (h0, members_step) (ask (run a1) (ask_fails (run a2))))

pub heads_end : {hs : List HeadTree} {ts : List Token} {p : Place} {us : List Token} → after marks.CloseBrace ts ≡ Some (p, us)
    → Reads (NHeads hs) ts (Ok (hs, us))
heads_end h0 = reads (rw (h0, heads_step) give)

pub heads_next_fails : {hs : List HeadTree} {ts : List Token} {fl : Fault} → after marks.CloseBrace ts ≡ None → Reads NHead ts (Err fl)
    → Reads (NHeads hs) ts (Err fl)
heads_next_fails h0 a1 = reads (rw (h0, heads_step) (ask_fails (run a1)))

pub heads_next : {hs : List HeadTree} {ts : List Token} {h : HeadTree} {us : List Token} {p : Place} {vs : List Token} {o : ParseOutcome (List HeadTree)}
    → after marks.CloseBrace ts ≡ None → Reads NHead ts (Ok (h, us)) → after marks.Semi us ≡ Some (p, vs) → Reads (NHeads (hs ++ h ∷ [])) vs o
    → Reads (NHeads hs) ts o
heads_next {o = Ok given} h0 a1 h2 a3 = reads (rw (h0, heads_step) (ask (run a1) (found _ _ h2 (ask (run a3) give))))
heads_next {o = Err fault} h0 a1 h2 a3 = reads (rw (h0, heads_step) (ask (run a1) (found _ _ h2 (ask_fails (run a3)))))

pub heads_open : {hs : List HeadTree} {ts : List Token} {h : HeadTree} {us : List Token} → after marks.CloseBrace ts ≡ None
    → Reads NHead ts (Ok (h, us)) → after marks.Semi us ≡ None → Reads (NHeads hs) ts (Err (Left us))
heads_open h0 a1 h2 = reads (rw (h0, heads_step) (ask (run a1) (missed _ h2 fail)))

pub class_is_fails : {ms : List Modifier} {ts : List Token} {n : List ℕ} {p : Place} {us : List Token} {fl : Fault} → word_next ts ≡ Some (n, p, us)
    → Reads NParent us (Err fl) → Reads (NClass ms) ts (Err fl)
class_is_fails h0 a1 = reads (rw (h0, class_step) (ask_fails (run a1)))

pub class_is_fails2 : {ms : List Modifier} {ts : List Token} {n : List ℕ} {p : Place} {us : List Token} {i : Option Id} {vs : List Token} {fl : Fault}
    → word_next ts ≡ Some (n, p, us) → Reads NParent us (Ok (i, vs)) → Reads (NList keys.Implements) vs (Err fl) → Reads (NClass ms) ts (Err fl)
class_is_fails2 h0 a1 a2 = reads (rw (h0, class_step) (ask (run a1) (ask_fails (run a2))))

pub class_is_fails3 : {ms : List Modifier} {ts : List Token} {n : List ℕ} {p : Place} {us : List Token} {i : Option Id} {vs : List Token}
    {fs : List Id} {ws : List Token} {q : Place} {xs : List Token} {fl : Fault} → word_next ts ≡ Some (n, p, us) → Reads NParent us (Ok (i, vs))
    → Reads (NList keys.Implements) vs (Ok (fs, ws)) → after marks.OpenBrace ws ≡ Some (q, xs) → Reads (NMembers []) xs (Err fl)
    → Reads (NClass ms) ts (Err fl)
class_is_fails3 h0 a1 a2 h3 a4 = reads (rw (h0, class_step) (ask (run a1) (ask (run a2) (found _ _ h3 (ask_fails (run a4))))))

pub class_is : {ms : List Modifier} {ts : List Token} {n : List ℕ} {p : Place} {us : List Token} {i : Option Id} {vs : List Token} {fs : List Id}
    {ws : List Token} {q : Place} {xs : List Token} {bs : List MemberTree} {end : List Token} → word_next ts ≡ Some (n, p, us)
    → Reads NParent us (Ok (i, vs)) → Reads (NList keys.Implements) vs (Ok (fs, ws)) → after marks.OpenBrace ws ≡ Some (q, xs)
    → Reads (NMembers []) xs (Ok (bs, end)) → Reads (NClass ms) ts (Ok (ClassTree ms n i fs bs p, end))
class_is h0 a1 a2 h3 a4 = reads (rw (h0, class_step) (ask (run a1) (ask (run a2) (found _ _ h3 (ask (run a4) give)))))

pub class_no_body : {ms : List Modifier} {ts : List Token} {n : List ℕ} {p : Place} {us : List Token} {i : Option Id} {vs : List Token} {fs : List Id}
    {ws : List Token} → word_next ts ≡ Some (n, p, us) → Reads NParent us (Ok (i, vs)) → Reads (NList keys.Implements) vs (Ok (fs, ws))
    → after marks.OpenBrace ws ≡ None → Reads (NClass ms) ts (Err (Left ws))
class_no_body h0 a1 a2 h3 = reads (rw (h0, class_step) (ask (run a1) (ask (run a2) (missed _ h3 fail))))

pub class_no_name : {ms : List Modifier} {ts : List Token} → word_next ts ≡ None → Reads (NClass ms) ts (Err (Left ts))
class_no_name h0 = reads (rw (h0, class_step) fail)

pub interface_is_fails : {ms : List Modifier} {ts : List Token} {n : List ℕ} {p : Place} {us : List Token} {fl : Fault}
    → word_next ts ≡ Some (n, p, us) → Reads (NList keys.Extends) us (Err fl) → Reads (NInterface ms) ts (Err fl)
interface_is_fails h0 a1 = reads (rw (h0, interface_step) (ask_fails (run a1)))

pub interface_is_fails2 : {ms : List Modifier} {ts : List Token} {n : List ℕ} {p : Place} {us : List Token} {fs : List Id} {ws : List Token}
    {q : Place} {xs : List Token} {fl : Fault} → word_next ts ≡ Some (n, p, us) → Reads (NList keys.Extends) us (Ok (fs, ws))
    → after marks.OpenBrace ws ≡ Some (q, xs) → Reads (NHeads []) xs (Err fl) → Reads (NInterface ms) ts (Err fl)
interface_is_fails2 h0 a1 h2 a3 = reads (rw (h0, interface_step) (ask (run a1) (found _ _ h2 (ask_fails (run a3)))))

pub interface_is : {ms : List Modifier} {ts : List Token} {n : List ℕ} {p : Place} {us : List Token} {fs : List Id} {ws : List Token} {q : Place}
    {xs : List Token} {hs : List HeadTree} {end : List Token} → word_next ts ≡ Some (n, p, us) → Reads (NList keys.Extends) us (Ok (fs, ws))
    → after marks.OpenBrace ws ≡ Some (q, xs) → Reads (NHeads []) xs (Ok (hs, end)) → Reads (NInterface ms) ts (Ok (InterfaceTree ms n fs hs p, end))
interface_is h0 a1 h2 a3 = reads (rw (h0, interface_step) (ask (run a1) (found _ _ h2 (ask (run a3) give))))

pub interface_no_body : {ms : List Modifier} {ts : List Token} {n : List ℕ} {p : Place} {us : List Token} {fs : List Id} {ws : List Token}
    → word_next ts ≡ Some (n, p, us) → Reads (NList keys.Extends) us (Ok (fs, ws)) → after marks.OpenBrace ws ≡ None
    → Reads (NInterface ms) ts (Err (Left ws))
interface_no_body h0 a1 h2 = reads (rw (h0, interface_step) (ask (run a1) (missed _ h2 fail)))

pub interface_no_name : {ms : List Modifier} {ts : List Token} → word_next ts ≡ None → Reads (NInterface ms) ts (Err (Left ts))
interface_no_name h0 = reads (rw (h0, interface_step) fail)

pub decl_class_fails : {ts : List Token} {fl : Fault} → Reads (NMods []) ts (Err fl) → Reads NDecl ts (Err fl)
decl_class_fails a0 = reads (ask_fails (run a0))

pub decl_class : {ts : List Token} {ms : List Modifier} {us : List Token} {p : Place} {vs : List Token} {o : ParseOutcome DeclTree}
    → Reads (NMods []) ts (Ok (ms, us)) → after_key keys.Class us ≡ Some (p, vs) → Reads (NClass ms) vs o → Reads NDecl ts o
decl_class {o = Ok given} a0 h1 a2 = reads (ask (run a0) (rw h1 (ask (run a2) give)))
decl_class {o = Err fault} a0 h1 a2 = reads (ask (run a0) (rw h1 (ask_fails (run a2))))

pub decl_interface : {ts : List Token} {ms : List Modifier} {us : List Token} {p : Place} {vs : List Token} {o : ParseOutcome DeclTree}
    → Reads (NMods []) ts (Ok (ms, us)) → after_key keys.Class us ≡ None → after_key keys.Interface us ≡ Some (p, vs) → Reads (NInterface ms) vs o
    → Reads NDecl ts o
decl_interface {o = Ok given} a0 h1 h2 a3 = reads (ask (run a0) (rw (h1, h2) (ask (run a3) give)))
decl_interface {o = Err fault} a0 h1 h2 a3 = reads (ask (run a0) (rw (h1, h2) (ask_fails (run a3))))

pub decl_none : {ts : List Token} {ms : List Modifier} {us : List Token} → Reads (NMods []) ts (Ok (ms, us)) → after_key keys.Class us ≡ None
    → after_key keys.Interface us ≡ None → Reads NDecl ts (Err (Left us))
decl_none a0 h1 h2 = reads (ask (run a0) (rw (h1, h2) fail))

pub decls_end : {ds : List DeclTree} {ts : List Token} → at_end ts ≡ true → Reads (NDecls ds) ts (Ok (ds, ts))
decls_end h0 = reads (rw (h0, decls_step) give)

pub decls_next_fails : {ds : List DeclTree} {ts : List Token} {fl : Fault} → at_end ts ≡ false → Reads NDecl ts (Err fl) → Reads (NDecls ds) ts (Err fl)
decls_next_fails h0 a1 = reads (rw (h0, decls_step) (ask_fails (run a1)))

pub decls_next : {ds : List DeclTree} {ts : List Token} {d : DeclTree} {us : List Token} {o : ParseOutcome (List DeclTree)} → at_end ts ≡ false
    → Reads NDecl ts (Ok (d, us)) → Reads (NDecls (ds ++ d ∷ [])) us o → Reads (NDecls ds) ts o
decls_next {o = Ok given} h0 a1 a2 = reads (rw (h0, decls_step) (ask (run a1) (ask (run a2) give)))
decls_next {o = Err fault} h0 a1 a2 = reads (rw (h0, decls_step) (ask (run a1) (ask_fails (run a2))))

pub ruleset declaration_steps = (
  mods_next,
  mods_end,
  ids_next,
  ids_end,
  ids_none,
  parent_some,
  parent_no_name,
  parent_none,
  list_some,
  list_none,
  param_is_fails,
  param_is,
  param_no_name,
  params_none,
  params_some_fails,
  params_some,
  more_params_end,
  more_params_next_fails,
  more_params_next,
  more_params_open,
  result_type_void,
  result_type_type_fails,
  result_type_type,
  head_is_fails,
  head_is_fails2,
  head_is_fails3,
  head_is,
  head_no_params,
  head_no_name,
  body_none,
  body_some_fails,
  body_some,
  body_open,
  member_is_fails,
  member_maker,
  member_typed,
  typed_is_fails,
  typed_method,
  typed_field,
  typed_field_open,
  typed_void_field,
  typed_no_name,
  method_is_fails,
  method_is_fails2,
  method_is,
  maker_is_fails,
  maker_is_fails2,
  maker_is,
  maker_no_body,
  maker_body_up_fails,
  maker_body_up_fails2,
  maker_body_up,
  maker_body_open,
  maker_body_plain_fails,
  maker_body_plain,
  members_end,
  members_next_fails,
  members_next,
  heads_end,
  heads_next_fails,
  heads_next,
  heads_open,
  class_is_fails,
  class_is_fails2,
  class_is_fails3,
  class_is,
  class_no_body,
  class_no_name,
  interface_is_fails,
  interface_is_fails2,
  interface_is,
  interface_no_body,
  interface_no_name,
  decl_class_fails,
  decl_class,
  decl_interface,
  decl_none,
  decls_end,
  decls_next_fails,
  decls_next,
)
