-- How reading steps: one rule for each path.
use Rattle.std.proofs.Common.{add-one, ◌+◌, ◌≡◌, ℕ, suc, negsuc, List, Some, None, Ok, Err}
use Rattle.kaba_base.specs.declared.Place.{Place}
use Rattle.kaba_base.specs.declared.words.Keyword.TheVariants as keys
use Rattle.java_lex.specs.declared.Token.{Token}
use Rattle.java_lex.specs.declared.Mark.{Mark}
use Rattle.java_lex.specs.declared.Mark.TheVariants as marks
use Rattle.java_tree.specs.declared.TypeBase.{TypeBase}
use Rattle.java_tree.specs.declared.TypeBase.TheVariants as bases
use Rattle.java_tree.specs.declared.TypeName.{TypeName}
use Rattle.java_tree.specs.Syntax.{Expression, IntLit, NameRef, FieldOf, IndexOf, CallOf, CallOn, SuperCallOf, NewOf, NewArrayOf, CastOf, InstanceOfClass, UnaryOf, BinaryOf, Expressions, no_more, and_more}
use Rattle.java_tree.specs.Tokens.{level}
use Rattle.java_parse.specs.declared.End.{End}
use Rattle.java_parse.specs.declared.End.TheVariants as ends
use Rattle.java_parse.specs.Want.{NExpr, NMore, NPrefixed, NPost, NAtom, NSuper, NNew, NSized, NDims, NType, NTail, NArgs, NMoreArgs}
use Rattle.java_parse.specs.Front.{after, after_key, word_next, operator, instance_next, least_next, sign_next, opens_cast, cast_next, base_next, literal_next, index_next, expr_snoc}
use Rattle.java_parse.proofs.Runs.{reads, run, found, missed}
use Rattle.java_parse.specs.Reading.{Fault, Left, ParseOutcome, give, fail, ask, ask_fails, Reads}
use Rattle.java_parse.specs.ReadExpressions.{more_step, prefixed_step, atom_step, super_step, new_step, sized_step, dims_step, type_step, tail_step, args_step, more_args_step}

pub expr_steps_fails : {l : ℕ} {ts : List Token} {fl : Fault} → Reads NPrefixed ts (Err fl) → Reads (NExpr l) ts (Err fl)
expr_steps_fails a0 = reads (ask_fails (run a0))

pub expr_steps : {l : ℕ} {ts : List Token} {e : Expression} {us : List Token} {o : ParseOutcome Expression} → Reads NPrefixed ts (Ok (e, us))
    → Reads (NMore l 11 e) us o → Reads (NExpr l) ts o
expr_steps {o = Ok given} a0 a1 = reads (ask (run a0) (ask (run a1) give))
expr_steps {o = Err fault} a0 a1 = reads (ask (run a0) (ask_fails (run a1)))

pub more_binary_fails : {l : ℕ} {c : ℕ} {e : Expression} {ts : List Token} {m : Mark} {p : Place} {us : List Token} {fl : Fault}
    → operator l c ts ≡ Some (m, p, us) → Reads (NExpr (suc (level m))) us (Err fl) → Reads (NMore l c e) ts (Err fl)
more_binary_fails h0 a1 = reads (rw (h0, more_step) (ask_fails (run a1)))

pub more_binary : {l : ℕ} {c : ℕ} {e : Expression} {ts : List Token} {m : Mark} {p : Place} {us : List Token} {b : Expression} {vs : List Token}
    {o : ParseOutcome Expression} → operator l c ts ≡ Some (m, p, us) → Reads (NExpr (suc (level m))) us (Ok (b, vs))
    → Reads (NMore l (level m) (BinaryOf m e b p)) vs o → Reads (NMore l c e) ts o
more_binary {o = Ok given} h0 a1 a2 = reads (rw (h0, more_step) (ask (run a1) (ask (run a2) give)))
more_binary {o = Err fault} h0 a1 a2 = reads (rw (h0, more_step) (ask (run a1) (ask_fails (run a2))))

pub more_instance : {l : ℕ} {c : ℕ} {e : Expression} {ts : List Token} {p : Place} {us : List Token} {n : List ℕ} {q : Place} {vs : List Token}
    {o : ParseOutcome Expression} → operator l c ts ≡ None → instance_next l c ts ≡ Some (p, us) → word_next us ≡ Some (n, q, vs)
    → Reads (NMore l 7 (InstanceOfClass e (record { name = n; place = q }) p)) vs o → Reads (NMore l c e) ts o
more_instance {o = Ok given} h0 h1 h2 a3 = reads (rw (h0, more_step, h1, h2) (ask (run a3) give))
more_instance {o = Err fault} h0 h1 h2 a3 = reads (rw (h0, more_step, h1, h2) (ask_fails (run a3)))

pub more_no_class : {l : ℕ} {c : ℕ} {e : Expression} {ts : List Token} {p : Place} {us : List Token} → operator l c ts ≡ None
    → instance_next l c ts ≡ Some (p, us) → word_next us ≡ None → Reads (NMore l c e) ts (Err (Left us))
more_no_class h0 h1 h2 = reads (rw (h0, more_step, h1, h2) fail)

pub more_ends : {l : ℕ} {c : ℕ} {e : Expression} {ts : List Token} → operator l c ts ≡ None → instance_next l c ts ≡ None → Reads (NMore l c e) ts (Ok (e, ts))
more_ends h0 h1 = reads (rw (h0, more_step, h1) give)

-- the same, with the level as the program has it
pub more_operator : {l c i : ℕ} {e b : Expression} {ts us vs : List Token} {m : Mark} {p : Place} {o : ParseOutcome Expression}
    → operator l c ts ≡ Some (m, p, us) → i ≡ level m → Reads (NExpr (i + 1)) us (Ok (b, vs)) → Reads (NMore l i (BinaryOf m e b p)) vs o
    → Reads (NMore l c e) ts o
more_operator h w a b = more_binary h (rw (w, add-one) at a) (rw w at b)

pub more_operator_fails : {l c i : ℕ} {e : Expression} {ts us : List Token} {m : Mark} {p : Place} {fl : Fault} → operator l c ts ≡ Some (m, p, us)
    → i ≡ level m → Reads (NExpr (i + 1)) us (Err fl) → Reads (NMore l c e) ts (Err fl)
more_operator_fails h w a = more_binary_fails h (rw (w, add-one) at a)

pub prefixed_least : {ts : List Token} {p : Place} {us : List Token} → least_next ts ≡ Some (p, us) → Reads NPrefixed ts (Ok (IntLit (negsuc 2147483647) p, us))
prefixed_least h0 = reads (rw (h0, prefixed_step) give)

pub prefixed_signed_fails : {ts : List Token} {m : Mark} {p : Place} {us : List Token} {fl : Fault} → least_next ts ≡ None
    → sign_next ts ≡ Some (m, p, us) → Reads NPrefixed us (Err fl) → Reads NPrefixed ts (Err fl)
prefixed_signed_fails h0 h1 a2 = reads (rw (h0, prefixed_step, h1) (ask_fails (run a2)))

pub prefixed_signed : {ts : List Token} {m : Mark} {p : Place} {us : List Token} {e : Expression} {vs : List Token} → least_next ts ≡ None
    → sign_next ts ≡ Some (m, p, us) → Reads NPrefixed us (Ok (e, vs)) → Reads NPrefixed ts (Ok (UnaryOf m e p, vs))
prefixed_signed h0 h1 a2 = reads (rw (h0, prefixed_step, h1) (ask (run a2) give))

pub prefixed_base_fails : {ts : List Token} {t : TypeName} {p : Place} {us : List Token} {zq : Place} {vs : List Token} {fl : Fault}
    → least_next ts ≡ None → sign_next ts ≡ None → opens_cast ts ≡ Some (t, p, us) → after marks.CloseRound us ≡ Some (zq, vs)
    → Reads NPrefixed vs (Err fl) → Reads NPrefixed ts (Err fl)
prefixed_base_fails h0 h1 h2 h3 a4 = reads (rw (h0, prefixed_step, h1, h2, h3) (ask_fails (run a4)))

pub prefixed_base : {ts : List Token} {t : TypeName} {p : Place} {us : List Token} {zq : Place} {vs : List Token} {e : Expression} {ws : List Token}
    → least_next ts ≡ None → sign_next ts ≡ None → opens_cast ts ≡ Some (t, p, us) → after marks.CloseRound us ≡ Some (zq, vs)
    → Reads NPrefixed vs (Ok (e, ws)) → Reads NPrefixed ts (Ok (CastOf t e p, ws))
prefixed_base h0 h1 h2 h3 a4 = reads (rw (h0, prefixed_step, h1, h2, h3) (ask (run a4) give))

pub prefixed_open : {ts : List Token} {t : TypeName} {p : Place} {us : List Token} → least_next ts ≡ None → sign_next ts ≡ None
    → opens_cast ts ≡ Some (t, p, us) → after marks.CloseRound us ≡ None → Reads NPrefixed ts (Err (Left us))
prefixed_open h0 h1 h2 h3 = reads (rw (h0, prefixed_step, h1, h2, h3) fail)

pub prefixed_cast_fails : {ts : List Token} {t : TypeName} {p : Place} {us : List Token} {fl : Fault} → least_next ts ≡ None → sign_next ts ≡ None
    → opens_cast ts ≡ None → cast_next ts ≡ Some (t, p, us) → Reads NPrefixed us (Err fl) → Reads NPrefixed ts (Err fl)
prefixed_cast_fails h0 h1 h2 h3 a4 = reads (rw (h0, prefixed_step, h1, h2, h3) (ask_fails (run a4)))

pub prefixed_cast : {ts : List Token} {t : TypeName} {p : Place} {us : List Token} {e : Expression} {vs : List Token} → least_next ts ≡ None
    → sign_next ts ≡ None → opens_cast ts ≡ None → cast_next ts ≡ Some (t, p, us) → Reads NPrefixed us (Ok (e, vs))
    → Reads NPrefixed ts (Ok (CastOf t e p, vs))
prefixed_cast h0 h1 h2 h3 a4 = reads (rw (h0, prefixed_step, h1, h2, h3) (ask (run a4) give))

pub prefixed_bare_fails : {ts : List Token} {fl : Fault} → least_next ts ≡ None → sign_next ts ≡ None → opens_cast ts ≡ None → cast_next ts ≡ None
    → Reads NPost ts (Err fl) → Reads NPrefixed ts (Err fl)
prefixed_bare_fails h0 h1 h2 h3 a4 = reads (rw (h0, prefixed_step, h1, h2, h3) (ask_fails (run a4)))

pub prefixed_bare : {ts : List Token} {e : Expression} {z : End} {vs : List Token} → least_next ts ≡ None → sign_next ts ≡ None
    → opens_cast ts ≡ None → cast_next ts ≡ None → Reads NPost ts (Ok ((e, z), vs)) → Reads NPrefixed ts (Ok (e, vs))
prefixed_bare h0 h1 h2 h3 a4 = reads (rw (h0, prefixed_step, h1, h2, h3) (ask (run a4) give))

pub post_steps_fails : {ts : List Token} {fl : Fault} → Reads NAtom ts (Err fl) → Reads NPost ts (Err fl)
post_steps_fails a0 = reads (ask_fails (run a0))

pub post_steps : {ts : List Token} {e : Expression} {z : End} {us : List Token} {o : ParseOutcome (Expression × End)} → Reads NAtom ts (Ok ((e, z), us))
    → Reads (NTail e z) us o → Reads NPost ts o
post_steps {o = Ok given} a0 a1 = reads (ask (run a0) (ask (run a1) give))
post_steps {o = Err fault} a0 a1 = reads (ask (run a0) (ask_fails (run a1)))

pub atom_literal : {ts : List Token} {e : Expression} {us : List Token} → literal_next ts ≡ Some (e, us) → Reads NAtom ts (Ok ((e, ends.Other), us))
atom_literal h0 = reads (rw (h0, atom_step) give)

pub atom_call_fails : {ts : List Token} {n : List ℕ} {p : Place} {us : List Token} {q : Place} {vs : List Token} {fl : Fault} → literal_next ts ≡ None
    → word_next ts ≡ Some (n, p, us) → after marks.OpenRound us ≡ Some (q, vs) → Reads NArgs vs (Err fl) → Reads NAtom ts (Err fl)
atom_call_fails h0 h1 h2 a3 = reads (rw (h0, atom_step, h1, h2) (ask_fails (run a3)))

pub atom_call : {ts : List Token} {n : List ℕ} {p : Place} {us : List Token} {q : Place} {vs : List Token} {es : Expressions} {ws : List Token}
    → literal_next ts ≡ None → word_next ts ≡ Some (n, p, us) → after marks.OpenRound us ≡ Some (q, vs) → Reads NArgs vs (Ok (es, ws))
    → Reads NAtom ts (Ok ((CallOf n es p, ends.Call), ws))
atom_call h0 h1 h2 a3 = reads (rw (h0, atom_step, h1, h2) (ask (run a3) give))

pub atom_name : {ts : List Token} {n : List ℕ} {p : Place} {us : List Token} → literal_next ts ≡ None → word_next ts ≡ Some (n, p, us)
    → after marks.OpenRound us ≡ None → Reads NAtom ts (Ok ((NameRef n p, ends.Name), us))
atom_name h0 h1 h2 = reads (rw (h0, atom_step, h1, h2) give)

pub atom_round_fails : {ts : List Token} {p : Place} {us : List Token} {fl : Fault} → literal_next ts ≡ None → word_next ts ≡ None
    → after marks.OpenRound ts ≡ Some (p, us) → Reads (NExpr 1) us (Err fl) → Reads NAtom ts (Err fl)
atom_round_fails h0 h1 h2 a3 = reads (rw (h0, atom_step, h1, h2) (ask_fails (run a3)))

pub atom_round : {ts : List Token} {p : Place} {us : List Token} {e : Expression} {vs : List Token} {zq : Place} {ws : List Token}
    → literal_next ts ≡ None → word_next ts ≡ None → after marks.OpenRound ts ≡ Some (p, us) → Reads (NExpr 1) us (Ok (e, vs))
    → after marks.CloseRound vs ≡ Some (zq, ws) → Reads NAtom ts (Ok ((e, ends.Other), ws))
atom_round h0 h1 h2 a3 h4 = reads (rw (h0, atom_step, h1, h2) (ask (run a3) (found _ _ h4 give)))

pub atom_open : {ts : List Token} {p : Place} {us : List Token} {e : Expression} {vs : List Token} → literal_next ts ≡ None → word_next ts ≡ None
    → after marks.OpenRound ts ≡ Some (p, us) → Reads (NExpr 1) us (Ok (e, vs)) → after marks.CloseRound vs ≡ None → Reads NAtom ts (Err (Left vs))
atom_open h0 h1 h2 a3 h4 = reads (rw (h0, atom_step, h1, h2) (ask (run a3) (missed _ h4 fail)))

pub atom_new : {ts : List Token} {p : Place} {us : List Token} {o : ParseOutcome (Expression × End)} → literal_next ts ≡ None → word_next ts ≡ None
    → after marks.OpenRound ts ≡ None → after_key keys.New ts ≡ Some (p, us) → Reads (NNew p) us o → Reads NAtom ts o
atom_new {o = Ok given} h0 h1 h2 h3 a4 = reads (rw (h0, atom_step, h1, h2, h3) (ask (run a4) give))
atom_new {o = Err fault} h0 h1 h2 h3 a4 = reads (rw (h0, atom_step, h1, h2, h3) (ask_fails (run a4)))

pub atom_super : {ts : List Token} {p : Place} {us : List Token} {o : ParseOutcome (Expression × End)} → literal_next ts ≡ None → word_next ts ≡ None
    → after marks.OpenRound ts ≡ None → after_key keys.New ts ≡ None → after_key keys.Super ts ≡ Some (p, us) → Reads NSuper us o → Reads NAtom ts o
atom_super {o = Ok given} h0 h1 h2 h3 h4 a5 = reads (rw (h0, atom_step, h1, h2, h3, h4) (ask (run a5) give))
atom_super {o = Err fault} h0 h1 h2 h3 h4 a5 = reads (rw (h0, atom_step, h1, h2, h3, h4) (ask_fails (run a5)))

pub atom_none : {ts : List Token} → literal_next ts ≡ None → word_next ts ≡ None → after marks.OpenRound ts ≡ None → after_key keys.New ts ≡ None
    → after_key keys.Super ts ≡ None → Reads NAtom ts (Err (Left ts))
atom_none h0 h1 h2 h3 h4 = reads (rw (h0, atom_step, h1, h2, h3, h4) fail)

pub super_call_fails : {ts : List Token} {q : Place} {us : List Token} {n : List ℕ} {p : Place} {vs : List Token} {r : Place} {ws : List Token}
    {fl : Fault} → after marks.Dot ts ≡ Some (q, us) → word_next us ≡ Some (n, p, vs) → after marks.OpenRound vs ≡ Some (r, ws)
    → Reads NArgs ws (Err fl) → Reads NSuper ts (Err fl)
super_call_fails h0 h1 h2 a3 = reads (rw (h0, super_step, h1, h2) (ask_fails (run a3)))

pub super_call : {ts : List Token} {q : Place} {us : List Token} {n : List ℕ} {p : Place} {vs : List Token} {r : Place} {ws : List Token}
    {es : Expressions} {xs : List Token} → after marks.Dot ts ≡ Some (q, us) → word_next us ≡ Some (n, p, vs) → after marks.OpenRound vs
    ≡ Some (r, ws) → Reads NArgs ws (Ok (es, xs)) → Reads NSuper ts (Ok ((SuperCallOf n es p, ends.Call), xs))
super_call h0 h1 h2 a3 = reads (rw (h0, super_step, h1, h2) (ask (run a3) give))

pub super_no_args : {ts : List Token} {q : Place} {us : List Token} {n : List ℕ} {p : Place} {vs : List Token} → after marks.Dot ts ≡ Some (q, us)
    → word_next us ≡ Some (n, p, vs) → after marks.OpenRound vs ≡ None → Reads NSuper ts (Err (Left vs))
super_no_args h0 h1 h2 = reads (rw (h0, super_step, h1, h2) fail)

pub super_no_name : {ts : List Token} {q : Place} {us : List Token} → after marks.Dot ts ≡ Some (q, us) → word_next us ≡ None → Reads NSuper ts (Err (Left us))
super_no_name h0 h1 = reads (rw (h0, super_step, h1) fail)

pub super_no_dot : {ts : List Token} → after marks.Dot ts ≡ None → Reads NSuper ts (Err (Left ts))
super_no_dot h0 = reads (rw (h0, super_step) fail)

pub new_object_fails : {p : Place} {ts : List Token} {n : List ℕ} {q : Place} {us : List Token} {r : Place} {vs : List Token} {fl : Fault}
    → word_next ts ≡ Some (n, q, us) → after marks.OpenRound us ≡ Some (r, vs) → Reads NArgs vs (Err fl) → Reads (NNew p) ts (Err fl)
new_object_fails h0 h1 a2 = reads (rw (h0, new_step, h1) (ask_fails (run a2)))

pub new_object : {p : Place} {ts : List Token} {n : List ℕ} {q : Place} {us : List Token} {r : Place} {vs : List Token} {es : Expressions}
    {ws : List Token} → word_next ts ≡ Some (n, q, us) → after marks.OpenRound us ≡ Some (r, vs) → Reads NArgs vs (Ok (es, ws))
    → Reads (NNew p) ts (Ok ((NewOf (record { name = n; place = q }) es p, ends.New), ws))
new_object h0 h1 a2 = reads (rw (h0, new_step, h1) (ask (run a2) give))

pub new_named : {p : Place} {ts : List Token} {n : List ℕ} {q : Place} {us : List Token} {o : ParseOutcome (Expression × End)}
    → word_next ts ≡ Some (n, q, us) → after marks.OpenRound us ≡ None → Reads (NSized p (bases.Named n) q) us o → Reads (NNew p) ts o
new_named {o = Ok given} h0 h1 a2 = reads (rw (h0, new_step, h1) (ask (run a2) give))
new_named {o = Err fault} h0 h1 a2 = reads (rw (h0, new_step, h1) (ask_fails (run a2)))

pub new_base : {p : Place} {ts : List Token} {b : TypeBase} {q : Place} {us : List Token} {o : ParseOutcome (Expression × End)} → word_next ts ≡ None
    → base_next ts ≡ Some (b, q, us) → Reads (NSized p b q) us o → Reads (NNew p) ts o
new_base {o = Ok given} h0 h1 a2 = reads (rw (h0, new_step, h1) (ask (run a2) give))
new_base {o = Err fault} h0 h1 a2 = reads (rw (h0, new_step, h1) (ask_fails (run a2)))

pub new_none : {p : Place} {ts : List Token} → word_next ts ≡ None → base_next ts ≡ None → Reads (NNew p) ts (Err (Left ts))
new_none h0 h1 = reads (rw (h0, new_step, h1) fail)

pub sized_array_fails : {p : Place} {b : TypeBase} {q : Place} {ts : List Token} {r : Place} {us : List Token} {fl : Fault}
    → after marks.OpenSquare ts ≡ Some (r, us) → Reads (NExpr 1) us (Err fl) → Reads (NSized p b q) ts (Err fl)
sized_array_fails h0 a1 = reads (rw (h0, sized_step) (ask_fails (run a1)))

pub sized_array_fails2 : {p : Place} {b : TypeBase} {q : Place} {ts : List Token} {r : Place} {us : List Token} {e : Expression} {vs : List Token}
    {zq : Place} {ws : List Token} {fl : Fault} → after marks.OpenSquare ts ≡ Some (r, us) → Reads (NExpr 1) us (Ok (e, vs))
    → after marks.CloseSquare vs ≡ Some (zq, ws) → Reads (NDims 1) ws (Err fl) → Reads (NSized p b q) ts (Err fl)
sized_array_fails2 h0 a1 h2 a3 = reads (rw (h0, sized_step) (ask (run a1) (found _ _ h2 (ask_fails (run a3)))))

pub sized_array : {p : Place} {b : TypeBase} {q : Place} {ts : List Token} {r : Place} {us : List Token} {e : Expression} {vs : List Token}
    {zq : Place} {ws : List Token} {d : ℕ} {xs : List Token} → after marks.OpenSquare ts ≡ Some (r, us) → Reads (NExpr 1) us (Ok (e, vs))
    → after marks.CloseSquare vs ≡ Some (zq, ws) → Reads (NDims 1) ws (Ok (d, xs))
    → Reads (NSized p b q) ts (Ok ((NewArrayOf (record { base = b; dim = d; place = q }) e p, ends.Array), xs))
sized_array h0 a1 h2 a3 = reads (rw (h0, sized_step) (ask (run a1) (found _ _ h2 (ask (run a3) give))))

pub sized_open : {p : Place} {b : TypeBase} {q : Place} {ts : List Token} {r : Place} {us : List Token} {e : Expression} {vs : List Token}
    → after marks.OpenSquare ts ≡ Some (r, us) → Reads (NExpr 1) us (Ok (e, vs)) → after marks.CloseSquare vs ≡ None
    → Reads (NSized p b q) ts (Err (Left vs))
sized_open h0 a1 h2 = reads (rw (h0, sized_step) (ask (run a1) (missed _ h2 fail)))

pub sized_none : {p : Place} {b : TypeBase} {q : Place} {ts : List Token} → after marks.OpenSquare ts ≡ None → Reads (NSized p b q) ts (Err (Left ts))
sized_none h0 = reads (rw (h0, sized_step) fail)

pub dims_more : {d : ℕ} {ts : List Token} {p : Place} {us : List Token} {zq : Place} {vs : List Token} {o : ParseOutcome ℕ} → after marks.OpenSquare ts
    ≡ Some (p, us) → after marks.CloseSquare us ≡ Some (zq, vs) → Reads (NDims (suc d)) vs o → Reads (NDims d) ts o
dims_more {o = Ok given} h0 h1 a2 = reads (rw (h0, dims_step, h1) (ask (run a2) give))
dims_more {o = Err fault} h0 h1 a2 = reads (rw (h0, dims_step, h1) (ask_fails (run a2)))

pub dims_open : {d : ℕ} {ts : List Token} {p : Place} {us : List Token} → after marks.OpenSquare ts ≡ Some (p, us) → after marks.CloseSquare us ≡ None
    → Reads (NDims d) ts (Err (Left us))
dims_open h0 h1 = reads (rw (h0, dims_step, h1) fail)

pub dims_ends : {d : ℕ} {ts : List Token} → after marks.OpenSquare ts ≡ None → Reads (NDims d) ts (Ok (d, ts))
dims_ends h0 = reads (rw (h0, dims_step) give)

-- the same, with the number as the program has it
pub dims_again : {d : ℕ} {ts : List Token} {p : Place} {us : List Token} {zq : Place} {vs : List Token} {o : ParseOutcome ℕ} → after marks.OpenSquare ts
    ≡ Some (p, us) → after marks.CloseSquare us ≡ Some (zq, vs) → Reads (NDims (d + 1)) vs o → Reads (NDims d) ts o
dims_again h k a = dims_more h k (rw add-one at a)

pub type_is_fails : {ts : List Token} {b : TypeBase} {p : Place} {us : List Token} {fl : Fault} → base_next ts ≡ Some (b, p, us)
    → Reads (NDims 0) us (Err fl) → Reads NType ts (Err fl)
type_is_fails h0 a1 = reads (rw (h0, type_step) (ask_fails (run a1)))

pub type_is : {ts : List Token} {b : TypeBase} {p : Place} {us : List Token} {d : ℕ} {vs : List Token} → base_next ts ≡ Some (b, p, us)
    → Reads (NDims 0) us (Ok (d, vs)) → Reads NType ts (Ok (record { base = b; dim = d; place = p }, vs))
type_is h0 a1 = reads (rw (h0, type_step) (ask (run a1) give))

pub type_none : {ts : List Token} → base_next ts ≡ None → Reads NType ts (Err (Left ts))
type_none h0 = reads (rw (h0, type_step) fail)

pub tail_call_fails : {e : Expression} {z : End} {ts : List Token} {p : Place} {us : List Token} {n : List ℕ} {q : Place} {vs : List Token}
    {r : Place} {ws : List Token} {fl : Fault} → after marks.Dot ts ≡ Some (p, us) → word_next us ≡ Some (n, q, vs) → after marks.OpenRound vs
    ≡ Some (r, ws) → Reads NArgs ws (Err fl) → Reads (NTail e z) ts (Err fl)
tail_call_fails h0 h1 h2 a3 = reads (rw (h0, tail_step, h1, h2) (ask_fails (run a3)))

pub tail_call : {e : Expression} {z : End} {ts : List Token} {p : Place} {us : List Token} {n : List ℕ} {q : Place} {vs : List Token} {r : Place}
    {ws : List Token} {es : Expressions} {xs : List Token} {o : ParseOutcome (Expression × End)} → after marks.Dot ts ≡ Some (p, us)
    → word_next us ≡ Some (n, q, vs) → after marks.OpenRound vs ≡ Some (r, ws) → Reads NArgs ws (Ok (es, xs))
    → Reads (NTail (CallOn e n es q) ends.Call) xs o → Reads (NTail e z) ts o
tail_call {o = Ok given} h0 h1 h2 a3 a4 = reads (rw (h0, tail_step, h1, h2) (ask (run a3) (ask (run a4) give)))
tail_call {o = Err fault} h0 h1 h2 a3 a4 = reads (rw (h0, tail_step, h1, h2) (ask (run a3) (ask_fails (run a4))))

pub tail_field : {e : Expression} {z : End} {ts : List Token} {p : Place} {us : List Token} {n : List ℕ} {q : Place} {vs : List Token}
    {o : ParseOutcome (Expression × End)} → after marks.Dot ts ≡ Some (p, us) → word_next us ≡ Some (n, q, vs) → after marks.OpenRound vs ≡ None
    → Reads (NTail (FieldOf e n q) ends.Target) vs o → Reads (NTail e z) ts o
tail_field {o = Ok given} h0 h1 h2 a3 = reads (rw (h0, tail_step, h1, h2) (ask (run a3) give))
tail_field {o = Err fault} h0 h1 h2 a3 = reads (rw (h0, tail_step, h1, h2) (ask_fails (run a3)))

pub tail_no_name : {e : Expression} {z : End} {ts : List Token} {p : Place} {us : List Token} → after marks.Dot ts ≡ Some (p, us)
    → word_next us ≡ None → Reads (NTail e z) ts (Err (Left us))
tail_no_name h0 h1 = reads (rw (h0, tail_step, h1) fail)

pub tail_index_fails : {e : Expression} {z : End} {ts : List Token} {p : Place} {us : List Token} {fl : Fault} → after marks.Dot ts ≡ None
    → index_next z ts ≡ Some (p, us) → Reads (NExpr 1) us (Err fl) → Reads (NTail e z) ts (Err fl)
tail_index_fails h0 h1 a2 = reads (rw (h0, tail_step, h1) (ask_fails (run a2)))

pub tail_index : {e : Expression} {z : End} {ts : List Token} {p : Place} {us : List Token} {i : Expression} {vs : List Token} {zq : Place}
    {ws : List Token} {o : ParseOutcome (Expression × End)} → after marks.Dot ts ≡ None → index_next z ts ≡ Some (p, us) → Reads (NExpr 1) us (Ok (i, vs))
    → after marks.CloseSquare vs ≡ Some (zq, ws) → Reads (NTail (IndexOf e i p) ends.Target) ws o → Reads (NTail e z) ts o
tail_index {o = Ok given} h0 h1 a2 h3 a4 = reads (rw (h0, tail_step, h1) (ask (run a2) (found _ _ h3 (ask (run a4) give))))
tail_index {o = Err fault} h0 h1 a2 h3 a4 = reads (rw (h0, tail_step, h1) (ask (run a2) (found _ _ h3 (ask_fails (run a4)))))

pub tail_open : {e : Expression} {z : End} {ts : List Token} {p : Place} {us : List Token} {i : Expression} {vs : List Token}
    → after marks.Dot ts ≡ None → index_next z ts ≡ Some (p, us) → Reads (NExpr 1) us (Ok (i, vs)) → after marks.CloseSquare vs ≡ None
    → Reads (NTail e z) ts (Err (Left vs))
tail_open h0 h1 a2 h3 = reads (rw (h0, tail_step, h1) (ask (run a2) (missed _ h3 fail)))

pub tail_ends : {e : Expression} {z : End} {ts : List Token} → after marks.Dot ts ≡ None → index_next z ts ≡ None → Reads (NTail e z) ts (Ok ((e, z), ts))
tail_ends h0 h1 = reads (rw (h0, tail_step, h1) give)

pub args_none : {ts : List Token} {p : Place} {us : List Token} → after marks.CloseRound ts ≡ Some (p, us) → Reads NArgs ts (Ok (no_more, us))
args_none h0 = reads (rw (h0, args_step) give)

pub args_some_fails : {ts : List Token} {fl : Fault} → after marks.CloseRound ts ≡ None → Reads (NExpr 1) ts (Err fl) → Reads NArgs ts (Err fl)
args_some_fails h0 a1 = reads (rw (h0, args_step) (ask_fails (run a1)))

pub args_some : {ts : List Token} {e : Expression} {us : List Token} {o : ParseOutcome Expressions} → after marks.CloseRound ts ≡ None
    → Reads (NExpr 1) ts (Ok (e, us)) → Reads (NMoreArgs (and_more e no_more)) us o → Reads NArgs ts o
args_some {o = Ok given} h0 a1 a2 = reads (rw (h0, args_step) (ask (run a1) (ask (run a2) give)))
args_some {o = Err fault} h0 a1 a2 = reads (rw (h0, args_step) (ask (run a1) (ask_fails (run a2))))

pub more_args_end : {es : Expressions} {ts : List Token} {p : Place} {us : List Token} → after marks.CloseRound ts ≡ Some (p, us)
    → Reads (NMoreArgs es) ts (Ok (es, us))
more_args_end h0 = reads (rw (h0, more_args_step) give)

pub more_args_next_fails : {es : Expressions} {ts : List Token} {p : Place} {us : List Token} {fl : Fault} → after marks.CloseRound ts ≡ None
    → after marks.Comma ts ≡ Some (p, us) → Reads (NExpr 1) us (Err fl) → Reads (NMoreArgs es) ts (Err fl)
more_args_next_fails h0 h1 a2 = reads (rw (h0, more_args_step, h1) (ask_fails (run a2)))

pub more_args_next : {es : Expressions} {ts : List Token} {p : Place} {us : List Token} {e : Expression} {vs : List Token} {o : ParseOutcome Expressions}
    → after marks.CloseRound ts ≡ None → after marks.Comma ts ≡ Some (p, us) → Reads (NExpr 1) us (Ok (e, vs))
    → Reads (NMoreArgs (expr_snoc es e)) vs o → Reads (NMoreArgs es) ts o
more_args_next {o = Ok given} h0 h1 a2 a3 = reads (rw (h0, more_args_step, h1) (ask (run a2) (ask (run a3) give)))
more_args_next {o = Err fault} h0 h1 a2 a3 = reads (rw (h0, more_args_step, h1) (ask (run a2) (ask_fails (run a3))))

pub more_args_open : {es : Expressions} {ts : List Token} → after marks.CloseRound ts ≡ None → after marks.Comma ts ≡ None
    → Reads (NMoreArgs es) ts (Err (Left ts))
more_args_open h0 h1 = reads (rw (h0, more_args_step, h1) fail)

pub ruleset expression_steps = (
  expr_steps_fails,
  expr_steps,
  more_instance,
  more_no_class,
  more_ends,
  more_operator,
  more_operator_fails,
  prefixed_least,
  prefixed_signed_fails,
  prefixed_signed,
  prefixed_base_fails,
  prefixed_base,
  prefixed_open,
  prefixed_cast_fails,
  prefixed_cast,
  prefixed_bare_fails,
  prefixed_bare,
  post_steps_fails,
  post_steps,
  atom_literal,
  atom_call_fails,
  atom_call,
  atom_name,
  atom_round_fails,
  atom_round,
  atom_open,
  atom_new,
  atom_super,
  atom_none,
  super_call_fails,
  super_call,
  super_no_args,
  super_no_name,
  super_no_dot,
  new_object_fails,
  new_object,
  new_named,
  new_base,
  new_none,
  sized_array_fails,
  sized_array_fails2,
  sized_array,
  sized_open,
  sized_none,
  dims_open,
  dims_ends,
  dims_again,
  type_is_fails,
  type_is,
  type_none,
  tail_call_fails,
  tail_call,
  tail_field,
  tail_no_name,
  tail_index_fails,
  tail_index,
  tail_open,
  tail_ends,
  args_none,
  args_some_fails,
  args_some,
  more_args_end,
  more_args_next_fails,
  more_args_next,
  more_args_open,
)
