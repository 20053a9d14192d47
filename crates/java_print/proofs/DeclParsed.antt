-- The text of a program is read as the program.
use Rattle.std.proofs.Common.{◌≡◌, ℕ, true, false, List, [], ◌∷◌, Option, Some, None, Ok, Err, map, refl, ap, subst, ◌∙◌}
use Rattle.std.proofs.lemmas.Str.{chars-encodes}
use Rattle.std.specs.Str.{encode_utf8_all, chars}
use Rattle.java_lex.specs.declared.Token.{Token}
use Rattle.java_lex.specs.declared.TokenKind.{TokenKind}
use Rattle.java_lex.specs.Lexing.{LexOutcome, tokens_of, lexed, start}
use Rattle.java_lex.specs.Spells.{kind_of, kinds_of}
use Rattle.java_lex.proofs.Reading.{tokens_ok}
use Rattle.kaba_base.specs.declared.Keyword.{Keyword}
use Rattle.kaba_base.specs.declared.Keyword.TheVariants as keys
use Rattle.java_lex.specs.declared.Mark.TheVariants as marks
use Rattle.java_tree.specs.declared.Id.{Id}
use Rattle.java_tree.specs.declared.Modifier.{Modifier}
use Rattle.java_tree.specs.declared.TypeName.{TypeName}
use Rattle.java_tree.specs.declared.Param.{Param}
use Rattle.java_tree.specs.Syntax.{Expressions, Statements, HeadTree, MemberTree, FieldTree, MethodTree, MakerTree, DeclTree, ClassTree, InterfaceTree}
use Rattle.java_tree.specs.Places.{nowhere, exprs_unplaced, stmts_unplaced, all_unplaced, may_unplaced, id_unplaced, modifier_unplaced, type_unplaced, param_unplaced, head_unplaced, member_unplaced, decl_unplaced, unplaced}
use Rattle.java_print.specs.Items.{Item, Space, End, kinds_in}
use Rattle.java_print.specs.Layout.{mark_then, word_then, type_items, final_items, mods_items, result_items, params_items, head_items, body_items, up_items, member_items, members_items, heads_items, ids_items, parent_items, list_items, decl_items, decls_items, tree_text}
use Rattle.java_tree.specs.Formed.{Each, IsFormedMod, IsFormedHead, IsFormedBody, IsFormedUp, IsFormedMember, IsFormedDecl, IsFormedTree}
use Rattle.java_tree.specs.Declarations.{IsMods, no_mods, next_mod, IsIds, last_id, next_id, IsParent, no_parent, a_parent, IsList, no_list, a_list, IsParam, a_param, IsMoreParams, last_param, next_param, IsParams, no_params, some_params, IsResult, no_result, a_result, IsHead, a_head, IsBody, no_body, a_body, IsUp, no_up, an_up, IsMember, a_field, a_method, a_maker, IsMembers, no_members, next_member, IsHeads, no_heads, next_head, IsDecl, a_class, an_interface, no_decls, next_decl, Derives}
use Rattle.java_tree.specs.Formed.{IsReadAs, IsGiven}
use Rattle.java_print.proofs.Lexes.{nothing}
use Rattle.java_print.proofs.TreeLexes as texts
use Rattle.java_print.proofs.ExprParsed.{Of, none, one, of_tokens, Got, step, got_in, type_found, args}
use Rattle.java_print.proofs.TreeParsed.{final, stmts}

-- one that is read and those that are read behind it, where together they are of a kind
then_more : {A : Type 0} {plain : A → A} {One : List Token → List Token → A → Type 0} {Are All : List Token → List Token → List A → Type 0} {x : A}
    {xs : List A} {ks ls : List TokenKind} {ts us : List Token} (a : Got plain One x ks us) (b : Got (all_unplaced plain) Are xs ls a.rest)
    → All ts b.rest (a.tree ∷ b.tree) → Got (all_unplaced plain) All (x ∷ xs) ls ts
then_more {plain = plain} {x = x} a b all = record {
  rest = b.rest;
  tree = a.tree ∷ b.tree;
  fact = all;
  left = b.left;
  same = ap (λ y. y ∷ all_unplaced plain b.tree) a.same ∙ ap (λ ys. plain x ∷ ys) b.same;
}

mods : (ms : List Modifier) → Each IsFormedMod (all_unplaced modifier_unplaced ms) → (r : List Item) (ts : List Token)
    → Of (kinds_in (mods_items ms r)) ts → Got (all_unplaced modifier_unplaced) IsMods ms (kinds_in r) ts
mods [] w r ts o = record { rest = ts; tree = []; fact = no_mods; left = o; same = refl }
mods (m ∷ ms) w r _ (one {p = p} {ts = ts} o) = got_in (λ y. record { word = m.word; place = p } ∷ y) (λ y. modifier_unplaced m ∷ y)
    (λ y. refl) refl (λ us y d. next_mod w.0 d) (mods ms w.1 r ts o)

result : (t : Option TypeName) (r : List Item) (ts : List Token) → Of (kinds_in (result_items t r)) ts
    → Got (may_unplaced type_unplaced) IsResult t (kinds_in r) ts
result None r _ (one {ts = ts} o) = record { rest = ts; tree = None; fact = no_result; left = o; same = refl }
result (Some t) r ts o = got_in Some Some (λ y. refl) refl (λ us y d. a_result d) (type_found t r ts o)

param : (q : Param) (r : List Item) (ts : List Token) → Of (kinds_in (final_items q.is_final (type_items q.ty (Space ∷ word_then q.name r)))) ts
    → Got param_unplaced IsParam q (kinds_in r) ts
param q r ts o =
    let a = final q.is_final _ ts o in
    let b = step (type_found q.ty _ a.rest a.left) in
    record {
      rest = b.rest;
      tree = record { is_final = a.tree; ty = b.tree; name = q.name; place = b.fact.0 };
      fact = a_param a.fact b.fact.1;
      left = b.left;
      same = ap (λ x. record { is_final = x; ty = type_unplaced b.tree; name = q.name; place = nowhere }) a.same
          ∙ ap (λ x. record { is_final = q.is_final; ty = x; name = q.name; place = nowhere }) b.same;
    }

more_params : (qs : List Param) (r : List Item) (ts : List Token) → Of (kinds_in (params_items true qs r)) ts
    → Got (all_unplaced param_unplaced) IsMoreParams qs (kinds_in r) ts
more_params [] r _ (one {ts = ts} o) = record { rest = ts; tree = []; fact = last_param; left = o; same = refl }
more_params (q ∷ qs) r _ (one {ts = ts} o) = let x = param q _ ts o in let y = more_params qs r x.rest x.left in
    then_more x y (next_param x.fact y.fact)

params : (qs : List Param) (r : List Item) (ts : List Token) → Of (kinds_in (params_items false qs r)) ts
    → Got (all_unplaced param_unplaced) IsParams qs (kinds_in r) ts
params [] r _ (one {ts = ts} o) = record { rest = ts; tree = []; fact = no_params; left = o; same = refl }
params (q ∷ qs) r ts o = let x = param q _ ts o in let y = more_params qs r x.rest x.left in
    then_more x y (some_params x.fact y.fact)

-- a head without its place
abbrev bare_head : List Modifier → Option TypeName → List ℕ → List Param → HeadTree
bare_head ms t n qs = record { mods = ms; type = t; name = n; params = qs; place = nowhere }

head : (h : HeadTree) → IsFormedHead (head_unplaced h) → (r : List Item) (ts : List Token) → Of (kinds_in (head_items h r)) ts
    → Got head_unplaced IsHead h (kinds_in r) ts
head h w r ts o =
    let x = mods h.mods w.0 _ ts o in
    let y = step (step (result h.type _ x.rest x.left)) in
    let z = params h.params r y.rest y.left in
    record {
      rest = z.rest;
      tree = record { mods = x.tree; type = y.tree; name = h.name; params = z.tree; place = y.fact.1.0 };
      fact = a_head x.fact y.fact.1.1 z.fact;
      left = z.left;
      same = ap (λ k. bare_head k (may_unplaced type_unplaced y.tree) h.name (all_unplaced param_unplaced z.tree)) x.same
          ∙ ap (λ k. bare_head (all_unplaced modifier_unplaced h.mods) k h.name (all_unplaced param_unplaced z.tree)) y.same
          ∙ ap (bare_head (all_unplaced modifier_unplaced h.mods) (may_unplaced type_unplaced h.type) h.name) z.same;
    }

body : (b : Option Statements) → IsFormedBody (may_unplaced stmts_unplaced b) → (r : List Item) (ts : List Token) → Of (kinds_in (body_items b r)) ts
    → Got (may_unplaced stmts_unplaced) IsBody b (kinds_in r) ts
body None w r _ (one {ts = ts} o) = record { rest = ts; tree = None; fact = no_body; left = o; same = refl }
body (Some ss) w r _ (one {ts = ts} o) = got_in Some Some (λ y. refl) refl (λ us y d. a_body d) (stmts ss w 4 2 (End ∷ r) ts o)

up : (u : Option Expressions) → IsFormedUp (may_unplaced exprs_unplaced u) → (r : List Item) (ts : List Token) → Of (kinds_in (up_items u r)) ts
    → Got (may_unplaced exprs_unplaced) IsUp u (kinds_in r) ts
up None w r ts o = record { rest = ts; tree = None; fact = no_up; left = o; same = refl }
up (Some es) w r _ (one (one {ts = ts} o)) = got_in Some Some (λ y. refl) refl (λ us y d. an_up d.1) (step (args es w _ ts o))

-- a constructor without its place
abbrev bare_maker : List Modifier → List ℕ → List Param → Option Expressions → Statements → MemberTree
bare_maker ms n qs u ss = MakerTree ms n qs u ss nowhere

member : (m : MemberTree) → IsFormedMember (member_unplaced m) → (r : List Item) (ts : List Token) → Of (kinds_in (member_items m r)) ts
    → Got member_unplaced IsMember m (kinds_in r) ts
member (FieldTree ms t n p) w r ts o =
    let x = mods ms w.0 _ ts o in
    let y = step (step (type_found t _ x.rest x.left)) in
    record {
      rest = y.rest;
      tree = FieldTree x.tree y.tree n y.fact.1.0;
      fact = a_field x.fact y.fact.1.1;
      left = y.left;
      same = ap (λ k. FieldTree k (type_unplaced y.tree) n nowhere) x.same ∙ ap (λ k. FieldTree (all_unplaced modifier_unplaced ms) k n nowhere) y.same;
    }
member (MethodTree h b p) w r ts o =
    let x = head h w.0 _ ts o in
    let y = body b w.1 r x.rest x.left in
    record {
      rest = y.rest;
      tree = MethodTree x.tree y.tree x.tree.place;
      fact = a_method x.fact y.fact;
      left = y.left;
      same = ap (λ k. MethodTree k (may_unplaced stmts_unplaced y.tree) nowhere) x.same ∙ ap (λ k. MethodTree (head_unplaced h) k nowhere) y.same;
    }
member (MakerTree ms n qs u ss p) w r ts o =
    let x = step (step (mods ms w.0 _ ts o)) in
    let y = step (params qs _ x.rest x.left) in
    let z = up u w.3 _ y.rest y.left in
    let v = stmts ss w.4 4 2 (End ∷ r) z.rest z.left in
    record {
      rest = v.rest;
      tree = MakerTree x.tree n y.tree z.tree v.tree x.fact.1.0;
      fact = a_maker x.fact.1.1 y.fact.1 z.fact v.fact;
      left = v.left;
      same = ap (λ k. bare_maker k n (all_unplaced param_unplaced y.tree) (may_unplaced exprs_unplaced z.tree) (stmts_unplaced v.tree)) x.same
          ∙ ap (λ k. bare_maker (all_unplaced modifier_unplaced ms) n k (may_unplaced exprs_unplaced z.tree) (stmts_unplaced v.tree)) y.same
          ∙ ap (λ k. bare_maker (all_unplaced modifier_unplaced ms) n (all_unplaced param_unplaced qs) k (stmts_unplaced v.tree)) z.same
          ∙ ap (bare_maker (all_unplaced modifier_unplaced ms) n (all_unplaced param_unplaced qs) (may_unplaced exprs_unplaced u)) v.same;
    }

members : (ms : List MemberTree) → Each IsFormedMember (all_unplaced member_unplaced ms) → (r : List Item) (ts : List Token)
    → Of (kinds_in (members_items ms (mark_then marks.CloseBrace r))) ts → Got (all_unplaced member_unplaced) IsMembers ms (kinds_in r) ts
members [] w r _ (one {ts = ts} o) = record { rest = ts; tree = []; fact = no_members; left = o; same = refl }
members (m ∷ ms) w r ts o = let x = member m w.0 _ ts o in let y = members ms w.1 r x.rest x.left in
    then_more x y (next_member x.fact y.fact)

heads : (hs : List HeadTree) → Each IsFormedHead (all_unplaced head_unplaced hs) → (r : List Item) (ts : List Token)
    → Of (kinds_in (heads_items hs (mark_then marks.CloseBrace r))) ts → Got (all_unplaced head_unplaced) IsHeads hs (kinds_in r) ts
heads [] w r _ (one {ts = ts} o) = record { rest = ts; tree = []; fact = no_heads; left = o; same = refl }
heads (h ∷ hs) w r ts o = let x = step (head h w.0 _ ts o) in let y = heads hs w.1 r x.rest x.left in
    then_more x y (next_head x.fact.1 y.fact)

ids : (is : List Id) (i : Id) (r : List Item) (ts : List Token) → Of (kinds_in (ids_items false (i ∷ is) r)) ts
    → Got (all_unplaced id_unplaced) IsIds (i ∷ is) (kinds_in r) ts
ids [] i r _ (one {p = p} {ts = ts} o) = record { rest = ts; tree = record { name = i.name; place = p } ∷ []; fact = last_id; left = o; same = refl }
ids (j ∷ is) i r _ (one {p = p} (one {ts = ts} o)) = let x = ids is j r ts o in
    record {
      rest = x.rest;
      tree = record { name = i.name; place = p } ∷ x.tree;
      fact = next_id x.fact;
      left = x.left;
      same = ap
          (λ x. id_unplaced i ∷ x) x.same;
    }

parent : (c : Option Id) (r : List Item) (ts : List Token) → Of (kinds_in (parent_items c r)) ts → Got (may_unplaced id_unplaced) IsParent c (kinds_in r) ts
parent None r ts o = record { rest = ts; tree = None; fact = no_parent; left = o; same = refl }
parent (Some i) r _ (one (one {p = p} {ts = ts} o)) =
    record { rest = ts; tree = Some (record { name = i.name; place = p }); fact = a_parent; left = o; same = refl }

list : (k : Keyword) (is : List Id) (r : List Item) (ts : List Token) → Of (kinds_in (list_items k is r)) ts
    → Got (all_unplaced id_unplaced) (IsList k) is (kinds_in r) ts
list k [] r ts o = record { rest = ts; tree = []; fact = no_list; left = o; same = refl }
list k (i ∷ is) r _ (one {ts = ts} o) = let x = ids is i r ts o in record { rest = x.rest; tree = x.tree; fact = a_list x.fact; left = x.left; same = x.same }

decl : (d : DeclTree) → IsFormedDecl (decl_unplaced d) → (r : List Item) (ts : List Token) → Of (kinds_in (decl_items d r)) ts
    → Got decl_unplaced IsDecl d (kinds_in r) ts
decl (ClassTree ms n c fs bs p) w r ts o =
    let x = step (step (mods ms w.0 _ ts o)) in
    let y = parent c _ x.rest x.left in
    let z = step (list keys.Implements fs _ y.rest y.left) in
    let v = members bs w.4 _ z.rest z.left in
    record {
      rest = v.rest;
      tree = ClassTree x.tree n y.tree z.tree v.tree x.fact.0;
      fact = a_class x.fact.1.1 y.fact z.fact.1 v.fact;
      left = v.left;
      same = ap (λ k. ClassTree k n (may_unplaced id_unplaced y.tree) (all_unplaced id_unplaced z.tree) (all_unplaced member_unplaced v.tree) nowhere) x.same
          ∙ ap (λ k. ClassTree (all_unplaced modifier_unplaced ms) n k (all_unplaced id_unplaced z.tree) (all_unplaced member_unplaced v.tree) nowhere) y.same
          ∙ ap (λ k. ClassTree (all_unplaced modifier_unplaced ms) n (may_unplaced id_unplaced c) k (all_unplaced member_unplaced v.tree) nowhere) z.same
          ∙ ap (λ k. ClassTree (all_unplaced modifier_unplaced ms) n (may_unplaced id_unplaced c) (all_unplaced id_unplaced fs) k nowhere) v.same;
    }
decl (InterfaceTree ms n fs hs p) w r ts o =
    let x = step (step (mods ms w.0 _ ts o)) in
    let z = step (list keys.Extends fs _ x.rest x.left) in
    let v = heads hs w.3 _ z.rest z.left in
    record {
      rest = v.rest;
      tree = InterfaceTree x.tree n z.tree v.tree x.fact.0;
      fact = an_interface x.fact.1.1 z.fact.1 v.fact;
      left = v.left;
      same = ap (λ k. InterfaceTree k n (all_unplaced id_unplaced z.tree) (all_unplaced head_unplaced v.tree) nowhere) x.same
          ∙ ap (λ k. InterfaceTree (all_unplaced modifier_unplaced ms) n k (all_unplaced head_unplaced v.tree) nowhere) z.same
          ∙ ap (λ k. InterfaceTree (all_unplaced modifier_unplaced ms) n (all_unplaced id_unplaced fs) k nowhere) v.same;
    }

decls : (ds : List DeclTree) → IsFormedTree (unplaced ds) → (ts : List Token) → Of (kinds_in (decls_items ds [])) ts → Derives ts ds
decls [] w _ none = record { placed = []; derived = no_decls; same = refl }
decls (d ∷ ds) w ts o = let x = decl d w.0 _ ts o in let y = decls ds w.1 x.rest x.left in
    record {
      placed = x.tree ∷ y.placed;
      derived = next_decl x.fact y.derived;
      same = ap (λ x. x ∷ unplaced y.placed) x.same
          ∙ ap (λ y. decl_unplaced d ∷ y) y.same;
    }

read_by : (bytes : List ℕ) (ds : List DeclTree) (o : LexOutcome) → tokens_of bytes ≡ o → kinds_of o ≡ Ok (kinds_in (decls_items ds []))
    → IsFormedTree (unplaced ds) → IsReadAs bytes ds
read_by bytes ds (Ok ts) e h w = let k : map kind_of ts ≡ kinds_in (decls_items ds []) = cc in
    record { tokens = ts; lexed = e; derived = decls ds w ts (subst (λ ks. Of ks ts) k (of_tokens ts)) }
read_by bytes ds (Err f) e h w = cc

-- the text of a formed program is read as the program
pub text_read : (ds : List DeclTree) → IsFormedTree (unplaced ds) → IsReadAs (encode_utf8_all (tree_text ds)) ds
text_read ds w =
    let l = texts.decls ds w [] nothing in
    let cs = tree_text ds in
    let u : chars (encode_utf8_all cs) ≡ cs = chars-encodes cs l.scalars in
    read_by (encode_utf8_all cs) ds (lexed cs 0 start) (tokens_ok (encode_utf8_all cs) (cs, (l.scalars, refl)) ∙ ap (λ x. lexed x 0 start) u)
    (l.reads.reads start) w

-- a formed program is one that the grammar gives: it is read from its own text
pub formed_given : (ds : List DeclTree) → IsFormedTree (unplaced ds) → IsGiven ds
formed_given ds w = record { bytes = encode_utf8_all (tree_text ds); read = text_read ds w }
