-- Declarations and programs of the grammar are read.
use Rattle.std.proofs.Common.{refl, sym, ap, ◌∙◌, subst, append_assoc, append-nil, ◌≡◌, ℕ, List, [], ◌∷◌, ◌++◌, Option, Some, None, Ok, Err, Bool, true, false}
use Rattle.kaba_base.specs.declared.Place.{Place}
use Rattle.kaba_base.specs.declared.words.Keyword.{Keyword}
use Rattle.kaba_base.specs.declared.words.Keyword.TheVariants as keys
use Rattle.java_lex.specs.declared.Token.{Token}
use Rattle.java_lex.specs.declared.Mark.TheVariants as marks
use Rattle.java_tree.specs.declared.Id.{Id}
use Rattle.java_tree.specs.declared.Modifier.{Modifier}
use Rattle.java_tree.specs.declared.TypeName.{TypeName}
use Rattle.java_tree.specs.declared.Param.{Param}
use Rattle.java_tree.specs.Syntax.{Expressions, Statements, no_statements, HeadTree, MemberTree, DeclTree}
use Rattle.java_tree.specs.Tokens.{mark, key, word}
use Rattle.java_parse.specs.Want.{NType, NMods, NIds, NParent, NList, NParam, NParams, NMoreParams, NResult, NHead, NBody, NMember, NMakerBody, NMembers, NHeads, NDecl, NDecls}
use Rattle.java_parse.specs.Front.{after, after_key, word_next, maker_next, final_of, modifier_next, at_end}
use Rattle.java_tree.specs.Expressions.{named_base, IsDims, no_dims, one_dim, IsType, a_type}
use Rattle.java_tree.specs.Declarations.{IsMods, no_mods, next_mod, IsIds, last_id, next_id, IsParent, no_parent, a_parent, IsList, no_list, a_list, IsParam, a_param, IsMoreParams, last_param, next_param, IsParams, no_params, some_params, IsResult, no_result, a_result, IsHead, a_head, IsBody, no_body, a_body, IsUp, no_up, an_up, IsMember, a_field, a_method, a_maker, IsMembers, no_members, next_member, IsHeads, no_heads, next_head, IsDecl, a_class, an_interface, IsPlaced, no_decls, next_decl}
use Rattle.java_tree.specs.Expressions.{int_base, boolean_base, char_base}
use Rattle.java_parse.specs.Reading.{Reads, Left}
use Rattle.java_tree.specs.Places.{unplaced}
use Rattle.java_tree.specs.Declarations.{Derives}
use Rattle.java_parse.proofs.CompleteExpressions.{type_reads, args_reads}
use Rattle.java_parse.proofs.CompleteStatements.{items_reads, items_no_up, type_no_final}
use Rattle.java_parse.proofs.Runs.{read_once, fails_once}
use Rattle.java_tree.specs.Statements.{not_final, is_final, IsItems}
use Rattle.java_parse.proofs.DeclarationSteps as z

mods_read : {ts rest : List Token} {ms : List Modifier} → IsMods ts rest ms → modifier_next rest ≡ None → (before : List Modifier)
    → Reads (NMods before) ts (Ok (before ++ ms, rest))
mods_read no_mods h before = rw append-nil (z.mods_end h)
mods_read (next_mod {k = k} {p = p} {ms = ms} m d) h before = rw (← append_assoc before (record { word = k; place = p } ∷ []) ms)
    (z.mods_next (rw m refl) (mods_read d h (before ++ record { word = k; place = p } ∷ [])))

ids_read : {ts rest : List Token} {is : List Id} → IsIds ts rest is → after marks.Comma rest ≡ None → (before : List Id)
    → Reads (NIds before) ts (Ok (before ++ is, rest))
ids_read last_id h before = z.ids_end refl h
ids_read (next_id {n = n} {p = p} {is = is} d) h before = rw (← append_assoc before (record { name = n; place = p } ∷ []) is)
    (z.ids_next refl refl (ids_read d h (before ++ record { name = n; place = p } ∷ [])))

parent_reads : {ts rest : List Token} {c : Option Id} → IsParent ts rest c → after_key keys.Extends rest ≡ None → Reads NParent ts (Ok (c, rest))
parent_reads no_parent h = z.parent_none h
parent_reads a_parent h = z.parent_some refl refl

list_reads : {k : Keyword} {ts rest : List Token} {is : List Id} {r : Place}
    → ((p : Place) (us : List Token) → after_key k (key k p ∷ us) ≡ Some (p, us)) → IsList k ts (mark marks.OpenBrace r ∷ rest) is
    → Reads (NList k) ts (Ok (is, mark marks.OpenBrace r ∷ rest))
list_reads f no_list = z.list_none refl
list_reads f (a_list {p = p} {ts = ts} d) = z.list_some (f p ts) (ids_read d refl [])

list_no_extends : {ts rest : List Token} {is : List Id} {r : Place} → IsList keys.Implements ts (mark marks.OpenBrace r ∷ rest) is
    → after_key keys.Extends ts ≡ None
list_no_extends no_list = refl
list_no_extends (a_list d) = refl

param_by_final : {ts us vs : List Token} {t : TypeName} {n : List ℕ} {p : Place} (f : Bool × List Token) → final_of ts ≡ f
    → Reads NType f.1 (Ok (t, us)) → word_next us ≡ Some (n, p, vs) →
    Reads NParam ts (Ok (record { is_final = f.0; ty = t; name = n; place = p }, vs))
param_by_final {ts = ts} {us = us} {vs = vs} {t = t} {n = n} {p = p} f e a h =
    subst (λ (f : Bool × List Token). Reads NParam ts (Ok (record { is_final = f.0; ty = t; name = n; place = p }, vs))) e
    (z.param_is (subst (λ (f : Bool × List Token). Reads NType f.1 (Ok (t, us))) (sym e) a) h)

param_reads : {ts rest : List Token} {q : Param} → IsParam ts rest q → Reads NParam ts (Ok (q, rest))
param_reads (a_param not_final t) = param_by_final (false, _) (type_no_final t) (type_reads t refl) refl
param_reads (a_param is_final t) = param_by_final (true, _) refl (type_reads t refl) refl

type_no_round : {ts rest : List Token} {t : TypeName} → IsType ts rest t → after marks.CloseRound ts ≡ None
type_no_round (a_type int_base d) = refl
type_no_round (a_type boolean_base d) = refl
type_no_round (a_type char_base d) = refl
type_no_round (a_type named_base d) = refl

param_no_round : {ts rest : List Token} {q : Param} → IsParam ts rest q → after marks.CloseRound ts ≡ None
param_no_round (a_param not_final t) = type_no_round t
param_no_round (a_param is_final t) = refl

more_params_read : {ts rest : List Token} {qs : List Param} → IsMoreParams ts rest qs → (before : List Param)
    → Reads (NMoreParams before) ts (Ok (before ++ qs, rest))
more_params_read last_param before = rw append-nil (z.more_params_end refl)
more_params_read (next_param {q = q} {qs = qs} a d) before =
    rw (← append_assoc before (q ∷ []) qs) (z.more_params_next refl refl (param_reads a) (more_params_read d (before ++ q ∷ [])))

params_read : {ts rest : List Token} {qs : List Param} → IsParams ts rest qs → Reads NParams ts (Ok (qs, rest))
params_read no_params = z.params_none refl
params_read (some_params {q = q} a d) = z.params_some (param_no_round a) (param_reads a) (more_params_read d (q ∷ []))

type_no_void : {ts rest : List Token} {t : TypeName} → IsType ts rest t → (after_key keys.Void ts ≡ None) × (modifier_next ts ≡ None)
    × (after marks.CloseBrace ts ≡ None)
type_no_void (a_type int_base d) = (refl, refl, refl)
type_no_void (a_type boolean_base d) = (refl, refl, refl)
type_no_void (a_type char_base d) = (refl, refl, refl)
type_no_void (a_type named_base d) = (refl, refl, refl)

result_reads : {ts rest : List Token} {t : Option TypeName} {n : List ℕ} {p : Place} → IsResult ts (word n p ∷ rest) t
    → Reads NResult ts (Ok (t, word n p ∷ rest))
result_reads no_result = z.result_type_void refl
result_reads (a_result d) = z.result_type_type (type_no_void d).0 (type_reads d refl)

result_no_mod : {ts rest : List Token} {t : Option TypeName} → IsResult ts rest t → (modifier_next ts ≡ None) × (after marks.CloseBrace ts ≡ None)
result_no_mod no_result = (refl, refl)
result_no_mod (a_result d) = let f = type_no_void d in (f.1, f.2)

mods_no_brace : {ts us : List Token} {ms : List Modifier} → IsMods ts us ms → after marks.CloseBrace us ≡ None → after marks.CloseBrace ts ≡ None
mods_no_brace no_mods h = h
mods_no_brace (next_mod m d) h = refl

head_reads : {ts rest : List Token} {h : HeadTree} → IsHead ts rest h → Reads NHead ts (Ok (h, rest))
head_reads (a_head m r ps) = z.head_is (mods_read m (result_no_mod r).0 []) (result_reads r) refl refl (params_read ps)

head_no_brace : {ts rest : List Token} {h : HeadTree} → IsHead ts rest h → after marks.CloseBrace ts ≡ None
head_no_brace (a_head m r ps) = mods_no_brace m (result_no_mod r).1

body_reads : {ts rest : List Token} {b : Option Statements} → IsBody ts rest b → Reads NBody ts (Ok (b, rest))
body_reads no_body = z.body_none refl
body_reads (a_body d) = z.body_some refl refl (items_reads d no_statements)

-- a field or a method is no constructor: behind a name that is its type stands no bracket
dims_no_round : {ts rest : List Token} {d : ℕ} {n : List ℕ} {p : Place} → IsDims ts (word n p ∷ rest) d → after marks.OpenRound ts ≡ None
dims_no_round no_dims = refl
dims_no_round (one_dim p q d) = refl

type_no_maker : {ts rest : List Token} {t : TypeName} {n : List ℕ} {p : Place} → IsType ts (word n p ∷ rest) t → maker_next ts ≡ None
type_no_maker (a_type int_base d) = refl
type_no_maker (a_type boolean_base d) = refl
type_no_maker (a_type char_base d) = refl
type_no_maker (a_type named_base d) = rw (dims_no_round d) refl

result_no_maker : {ts rest : List Token} {t : Option TypeName} {n : List ℕ} {p : Place} → IsResult ts (word n p ∷ rest) t → maker_next ts ≡ None
result_no_maker no_result = refl
result_no_maker (a_result d) = type_no_maker d

maker_body_reads : {ts us rest : List Token} {u : Option Expressions} {ss : Statements} → IsUp ts us u → IsItems us rest ss
    → Reads NMakerBody ts (Ok ((u, ss), rest))
maker_body_reads no_up d = z.maker_body_plain (items_no_up d) (items_reads d no_statements)
maker_body_reads (an_up a) d = z.maker_body_up refl (args_reads a) refl (items_reads d no_statements)

member_reads : {ts rest : List Token} {m : MemberTree} → IsMember ts rest m → Reads NMember ts (Ok (m, rest))
member_reads (a_field m t) = z.member_typed (mods_read m (type_no_void t).1 []) (type_no_maker t)
    (z.typed_field (result_reads (a_result t)) refl refl refl refl)
member_reads (a_method (a_head m r ps) b) = z.member_typed (mods_read m (result_no_mod r).0 []) (result_no_maker r)
    (z.typed_method (result_reads r) refl refl (z.method_is (params_read ps) (body_reads b)))
member_reads (a_maker m ps u d) = z.member_maker (mods_read m refl []) refl (z.maker_is (params_read ps) refl (maker_body_reads u d))

member_no_brace : {ts rest : List Token} {m : MemberTree} → IsMember ts rest m → after marks.CloseBrace ts ≡ None
member_no_brace (a_field m t) = mods_no_brace m (type_no_void t).2
member_no_brace (a_method h b) = head_no_brace h
member_no_brace (a_maker m ps u d) = mods_no_brace m refl

members_read : {ts rest : List Token} {bs : List MemberTree} → IsMembers ts rest bs → (before : List MemberTree)
    → Reads (NMembers before) ts (Ok (before ++ bs, rest))
members_read no_members before = rw append-nil (z.members_end refl)
members_read (next_member {m = m} {ms = bs} a d) before =
    rw (← append_assoc before (m ∷ []) bs) (z.members_next (member_no_brace a) (member_reads a) (members_read d (before ++ m ∷ [])))

heads_read : {ts rest : List Token} {hs : List HeadTree} → IsHeads ts rest hs → (before : List HeadTree) → Reads (NHeads before) ts (Ok (before ++ hs, rest))
heads_read no_heads before = rw append-nil (z.heads_end refl)
heads_read (next_head {h = h} {hs = hs} a d) before =
    rw (← append_assoc before (h ∷ []) hs) (z.heads_next (head_no_brace a) (head_reads a) refl (heads_read d (before ++ h ∷ [])))

decl_reads : {ts rest : List Token} {d : DeclTree} → IsDecl ts rest d → Reads NDecl ts (Ok (d, rest))
decl_reads (a_class m p l bs) =
    z.decl_class (mods_read m refl []) refl (z.class_is refl (parent_reads p (list_no_extends l)) (list_reads (λ p us. refl) l) refl
    (members_read bs []))
decl_reads (an_interface m l hs) = z.decl_interface (mods_read m refl []) refl refl (z.interface_is refl (list_reads (λ p us. refl) l) refl (heads_read hs []))

mods_not_end : {ts us : List Token} {ms : List Modifier} {k : Keyword} {p : Place} → IsMods ts (key k p ∷ us) ms → at_end ts ≡ false
mods_not_end no_mods = refl
mods_not_end (next_mod m d) = refl

decl_not_end : {ts rest : List Token} {d : DeclTree} → IsDecl ts rest d → at_end ts ≡ false
decl_not_end (a_class m p l bs) = mods_not_end m
decl_not_end (an_interface m l hs) = mods_not_end m

decls_read : {ts : List Token} {ds : List DeclTree} → IsPlaced ts ds → (before : List DeclTree) → Reads (NDecls before) ts (Ok (before ++ ds, []))
decls_read no_decls before = rw append-nil (z.decls_end refl)
decls_read (next_decl {d = d} {ds = ds} a r) before =
    rw (← append_assoc before (d ∷ []) ds) (z.decls_next (decl_not_end a) (decl_reads a) (decls_read r (before ++ d ∷ [])))

-- a whole program is read
pub program_complete : {ts : List Token} {ds : List DeclTree} → IsPlaced ts ds → Reads (NDecls []) ts (Ok (ds, []))
program_complete d = decls_read d []

-- the tokens have at most one tree
pub one_placed : (ts : List Token) (a b : List DeclTree) → IsPlaced ts a → IsPlaced ts b → a ≡ b
one_placed ts a b d e = ap (λ (x : List DeclTree × List Token). x.0) (read_once (program_complete d) (program_complete e))

pub one_derived : (ts : List Token) (a b : List DeclTree) → Derives ts a → Derives ts b → unplaced a ≡ unplaced b
one_derived ts a b d e = sym d.same ∙ ap unplaced (one_placed ts d.placed e.placed d.derived e.derived) ∙ e.same

-- where reading stops, they have none
pub none_derived : (ts us : List Token) (a : List DeclTree) → Reads (NDecls []) ts (Err (Left us)) → Derives ts a → ⊥
none_derived ts us a r d = fails_once (program_complete d.derived) r
