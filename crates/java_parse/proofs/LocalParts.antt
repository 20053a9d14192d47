-- Each part is read alike of two lists with one beginning, up to the token where that ends.
use Rattle.std.proofs.Common.{◌≡◌, ℕ, suc, List, ◌∷◌, length, Option, Some, None, Bool, true, false, refl, sym, ◌∙◌, subst, arith}
use Rattle.kaba_base.specs.declared.Place.{Place}
use Rattle.kaba_base.specs.declared.words.Keyword.{Keyword}
use Rattle.kaba_base.specs.declared.words.Keyword.TheVariants as keys
use Rattle.java_lex.specs.declared.Token.{Token}
use Rattle.java_lex.specs.declared.TokenKind.{TokenKind}
use Rattle.java_lex.specs.declared.TokenKind.TheVariants as kinds
use Rattle.java_lex.specs.declared.Mark.{Mark}
use Rattle.java_lex.specs.declared.Mark.TheVariants as marks
use Rattle.java_lex.specs.Lexing.{token}
use Rattle.java_tree.specs.declared.Modifier.{Modifier}
use Rattle.java_tree.specs.declared.TypeBase.TheVariants as bases
use Rattle.java_tree.specs.declared.TypeName.{TypeName}
use Rattle.java_tree.specs.Syntax.{MemberTree, absent}
use Rattle.java_tree.specs.Tokens.{mark, key, word, casts}
use Rattle.java_parse.specs.Want.{Want, Val, ReadStep, Give, NExpr, NMore, NPrefixed, NPost, NAtom, NSuper, NNew, NSized, NDims, NType, NTail, NArgs, NMoreArgs, NInit, NLocal, NValue, NAct, NActRest, NTested, NItem, NItems, NStmt, NForHead, NFirst, NStep, NBranches, NMods, NIds, NParent, NList, NParam, NParams, NMoreParams, NResult, NHead, NBody, NMember, NTyped, NMethod, NMaker, NMakerBody, NMembers, NHeads, NClass, NInterface, NDecl, NDecls}
use Rattle.java_parse.specs.Front.{after, maker_by, cast_by, word_next, starts_local, closes}
use Rattle.java_parse.specs.Reading.{body}
use Rattle.java_parse.specs.ReadExpressions.{prefixed_step}
use Rattle.java_parse.specs.ReadStatements.{item_step, first_step, stmt_step}
use Rattle.java_parse.specs.ReadDeclarations.{member_step, maker_body_step}
use Rattle.java_parse.proofs.Fronts.{bool_cases}
use Rattle.java_parse.proofs.Leaves.{on_bool}
use Rattle.java_parse.proofs.Looks.{a_mark, an_opened}
use Rattle.java_parse.proofs.Plans.{Plan, Giving, Testing, steps, leaves}
use Rattle.java_parse.proofs.ExpressionPlans.{minus_plan, operand_plan, opened_plan, casted_plan, bare_plan, args_plan, atom_plan, dims_plan, expr_plan, more_args_plan, more_plan, new_plan, post_plan, sized_plan, super_plan, tail_plan, type_plan}
use Rattle.java_parse.proofs.StatementPlans.{up_to_semi, a_first, local_item_plan, stmt_item_plan, first_local_plan, first_act_plan, acting_plan, act_plan, act_rest_plan, branches_plan, for_head_plan, init_plan, items_plan, local_plan, step_plan, tested_plan, value_plan}
use Rattle.java_parse.proofs.DeclarationPlans.{body_plan, class_plan, decl_plan, decls_plan, head_plan, heads_plan, ids_plan, interface_plan, list_plan, as_maker_plan, as_typed_plan, typed_plan, maker_plan, up_plan, plain_plan, members_plan, method_plan, mods_plan, more_params_plan, param_plan, params_plan, parent_plan, result_type_plan}
use Rattle.java_parse.proofs.PartLeaves.{cast_or, Begun, leads, other, begun, made, made_leaves}
use Rattle.java_parse.proofs.Local.{IsPast, past_by, Same, at, on, Alike, gives, asks, past, same_head, both_lack, both_pass, both_bool, look_alike, moved, gone, alike}
use Rattle.java_parse.proofs.Past.{round_past, word_past, named_past, local_word, local_square, act_word, act_square, stmt_word, stmt_square, made_word, super_past}

-- whether a local begins is told by both lists alike; or the first ends behind a name, or behind a name and a bracket
data Decided (us ts ss : List Token) : Type 0 where
  decided : starts_local ts ≡ starts_local ss → Decided us ts ss
  at_word : (n : List ℕ) (p : Place) → ts ≡ word n p ∷ us → Decided us ts ss
  at_square : (n : List ℕ) (p q : Place) → ts ≡ word n p ∷ mark marks.OpenSquare q ∷ us → Decided us ts ss

-- whether a name in round brackets casts: both lists tell it alike; or the first ends behind the name or behind the second bracket
data Casting (t : Token) (us vs : List Token) (p : Place) (xs ys : List Token) : Type 0 where
  neither : cast_by p (word_next xs) ≡ None → cast_by p (word_next ys) ≡ None → Casting t us vs p xs ys
  both : {zs ws : List Token} (c : TypeName) → cast_by p (word_next xs) ≡ Some (c, p, zs) → cast_by p (word_next ys) ≡ Some (c, p, ws)
      → Same t us vs zs ws → Casting t us vs p xs ys
  behind_word : (n : List ℕ) (q : Place) → xs ≡ word n q ∷ us → Casting t us vs p xs ys
  behind_round : (n : List ℕ) (q c : Place) → xs ≡ word n q ∷ mark marks.CloseRound c ∷ us → Casting t us vs p xs ys

key_decided : (k : Keyword) (p : Place) (us xs ys : List Token) → Decided us (key k p ∷ xs) (key k p ∷ ys)
key_decided keys.Final p us xs ys = decided refl
key_decided k p us xs ys = decided refl

-- the second token, at the end of the first list
square_here : (n : List ℕ) (p : Place) (m : Mark) (q : Place) (us vs : List Token)
    → Decided us (word n p ∷ mark m q ∷ us) (word n p ∷ mark m q ∷ vs)
square_here n p marks.OpenSquare q us vs = at_square n p q refl
square_here n p m q us vs = decided refl

second_here : (n : List ℕ) (p : Place) (k : TokenKind) (q : Place) (us vs : List Token)
    → Decided us (word n p ∷ token k q ∷ us) (word n p ∷ token k q ∷ vs)
second_here n p (kinds.Mark m) q us vs = square_here n p m q us vs
second_here n p k q us vs = decided refl

-- and before it
square_before : (n : List ℕ) (p : Place) (m : Mark) (q : Place) (us xs ys : List Token) → closes xs ≡ closes ys
    → Decided us (word n p ∷ mark m q ∷ xs) (word n p ∷ mark m q ∷ ys)
square_before n p marks.OpenSquare q us xs ys h = decided h
square_before n p m q us xs ys h = decided refl

second_before : (n : List ℕ) (p : Place) (k : TokenKind) (q : Place) (us xs ys : List Token) → closes xs ≡ closes ys
    → Decided us (word n p ∷ token k q ∷ xs) (word n p ∷ token k q ∷ ys)
second_before n p (kinds.Mark m) q us xs ys h = square_before n p m q us xs ys h
second_before n p k q us xs ys h = decided refl

close_here : (p : Place) (n : List ℕ) (q : Place) (m : Mark) (c : Place) (us vs : List Token)
    → Casting (mark m c) us vs p (word n q ∷ mark m c ∷ us) (word n q ∷ mark m c ∷ vs)
close_here p n q marks.CloseRound c us vs = behind_round n q c refl
close_here p n q m c us vs = neither refl refl

behind_here : (p : Place) (n : List ℕ) (q : Place) (k : TokenKind) (c : Place) (us vs : List Token)
    → Casting (token k c) us vs p (word n q ∷ token k c ∷ us) (word n q ∷ token k c ∷ vs)
behind_here p n q (kinds.Mark m) c us vs = close_here p n q m c us vs
behind_here p n q k c us vs = neither refl refl

named_here : (p : Place) (k : TokenKind) (q : Place) (us vs : List Token) → Casting (token k q) us vs p (token k q ∷ us) (token k q ∷ vs)
named_here p (kinds.Word n) q us vs = behind_word n q refl
named_here p k q us vs = neither refl refl

-- a member that begins with a name, by the bracket behind it
behind_name : (ms : List Modifier) (n : List ℕ) (p : Place) (o : Option (Place × List Token)) (s : ReadStep MemberTree)
    → ◌≡◌ {A = ReadStep MemberTree} (elim (maker_by n p o) [ Some w ↦ steps (as_maker_plan ms w.0 w.1) w.2 | None ↦ s ])
    (elim o [ Some b ↦ steps (as_maker_plan ms n p) b.1 | None ↦ s ])
behind_name ms n p None s = refl
behind_name ms n p (Some b) s = refl

module _ (t : Token) (us vs : List Token) where
  same_casts : {ts ss : List Token} → Same t us vs ts ss → casts ts ≡ casts ss
  same_casts same = same_head (λ ts ss. casts ts ≡ casts ss) same (λ x xs ys. refl)

  same_closes : {ts ss : List Token} → Same t us vs ts ss → closes ts ≡ closes ss
  same_closes same = same_head (λ ts ss. closes ts ≡ closes ss) same (λ x xs ys. refl)

  close_before : (p : Place) (n : List ℕ) (q : Place) (m : Mark) (c : Place) (xs ys : List Token) → Same t us vs xs ys
      → Casting t us vs p (word n q ∷ mark m c ∷ xs) (word n q ∷ mark m c ∷ ys)
  close_before p n q marks.CloseRound c xs ys same = let e = same_casts same in bool_cases (casts ys)
      (λ h. let g : casts xs ≡ true = e ∙ h in both (record { base = bases.Named n; dim = 0; place = q }) (rw g refl) (rw h refl) same)
      (λ h. let g : casts xs ≡ false = e ∙ h in neither (rw g refl) (rw h refl))
  close_before p n q m c xs ys same = neither refl refl

  behind_before : (p : Place) (n : List ℕ) (q : Place) (k : TokenKind) (c : Place) (xs ys : List Token) → Same t us vs xs ys
      → Casting t us vs p (word n q ∷ token k c ∷ xs) (word n q ∷ token k c ∷ ys)
  behind_before p n q (kinds.Mark m) c xs ys same = close_before p n q m c xs ys same
  behind_before p n q k c xs ys same = neither refl refl

  word_before : (p : Place) (n : List ℕ) (q : Place) {xs ys : List Token} → Same t us vs xs ys → Casting t us vs p (word n q ∷ xs) (word n q ∷ ys)
  word_before p n q at = behind_here p n q t.kind t.place us vs
  word_before p n q (on {ts = xs} {ss = ys} x same) = behind_before p n q x.kind x.place xs ys same

  named_before : (p : Place) (k : TokenKind) (q : Place) (xs ys : List Token) → Same t us vs xs ys
      → Casting t us vs p (token k q ∷ xs) (token k q ∷ ys)
  named_before p (kinds.Word n) q xs ys same = word_before p n q same
  named_before p k q xs ys same = neither refl refl

  casting : (p : Place) {xs ys : List Token} → Same t us vs xs ys → Casting t us vs p xs ys
  casting p at = named_here p t.kind t.place us vs
  casting p (on {ts = xs} {ss = ys} x same) = named_before p x.kind x.place xs ys same

  word_decided : (n : List ℕ) (p : Place) {xs ys : List Token} → Same t us vs xs ys → Decided us (word n p ∷ xs) (word n p ∷ ys)
  word_decided n p at = second_here n p t.kind t.place us vs
  word_decided n p (on {ts = xs} {ss = ys} x same) = second_before n p x.kind x.place us xs ys (same_closes same)

  first_here : (k : TokenKind) (p : Place) → Decided us (token k p ∷ us) (token k p ∷ vs)
  first_here (kinds.Word n) p = at_word n p refl
  first_here (kinds.Key k) p = key_decided k p us us vs
  first_here k p = decided refl

  first_before : (k : TokenKind) (p : Place) (xs ys : List Token) → Same t us vs xs ys → Decided us (token k p ∷ xs) (token k p ∷ ys)
  first_before (kinds.Word n) p xs ys same = word_decided n p same
  first_before (kinds.Key k) p xs ys same = key_decided k p us xs ys
  first_before k p xs ys same = decided refl

  decides : {ts ss : List Token} → Same t us vs ts ss → Decided us ts ss
  decides at = first_here t.kind t.place
  decides (on {ts = xs} {ss = ys} x same) = first_before x.kind x.place xs ys same

  -- a local, or what is none: both ways take the tokens that decide
  by_tests : (m : Want) (p q : Plan (Val m)) (ts ss : List Token) (b c : Bool) → b ≡ c → Alike t us vs m (steps p ts) (steps p ss)
      → Alike t us vs m (steps q ts) (steps q ss) → Alike t us vs m (steps (Testing b p q) ts) (steps (Testing c p q) ss)
  by_tests m p q ts ss b c e h k = rw e (both_bool t us vs m c (steps p ts) (steps q ts) (steps p ss) (steps q ss) h k)

  choose : (m : Want) (p q : Plan (Val m)) (ts ss : List Token) → ((n : List ℕ) (r : Place) → IsPast m (suc (length us)) (steps p (word n r ∷ us)))
      → ((n : List ℕ) (r : Place) → IsPast m (suc (length us)) (steps q (word n r ∷ us)))
      → ((n : List ℕ) (r s : Place) → IsPast m (suc (length us)) (steps p (word n r ∷ mark marks.OpenSquare s ∷ us)))
      → ((n : List ℕ) (r s : Place) → IsPast m (suc (length us)) (steps q (word n r ∷ mark marks.OpenSquare s ∷ us)))
      → Same t us vs ts ss → Decided us ts ss
      → Alike t us vs m (steps (Testing (starts_local ts) p q) ts) (steps (Testing (starts_local ss) p q) ss)
  choose m p q ts ss a b c d same (decided e) = by_tests m p q ts ss (starts_local ts) (starts_local ss) e (alike t us vs m p same) (alike t us vs m q same)
  choose m p q ts ss a b c d same (at_word n r e) = past (subst (λ ts. IsPast m (suc (length us)) (steps (Testing (starts_local ts) p q) ts)) (sym e)
      (on_bool (IsPast m (suc (length us))) (starts_local (word n r ∷ us)) (steps p (word n r ∷ us)) (steps q (word n r ∷ us)) (a n r) (b n r)))
  choose m p q ts ss a b c d same (at_square n r s e) = past (subst (λ ts. IsPast m (suc (length us)) (steps (Testing (starts_local ts) p q) ts)) (sym e)
      (on_bool (IsPast m (suc (length us))) (starts_local (word n r ∷ mark marks.OpenSquare s ∷ us)) (steps p (word n r ∷ mark marks.OpenSquare s ∷ us))
      (steps q (word n r ∷ mark marks.OpenSquare s ∷ us)) (c n r s) (d n r s)))

  item_alike : (ts ss : List Token) → Same t us vs ts ss → Alike t us vs NItem (item_step ts) (item_step ss)
  item_alike ts ss same = choose NItem local_item_plan stmt_item_plan ts ss (λ n r. local_word NItem up_to_semi n r us) (λ n r. stmt_word NItem Giving n r us)
      (λ n r s. local_square NItem up_to_semi n r s us) (λ n r s. stmt_square NItem Giving n r s us) same (decides same)

  first_alike : (ts ss : List Token) → Same t us vs ts ss → Alike t us vs NFirst (first_step ts) (first_step ss)
  first_alike ts ss same = look_alike t us vs NFirst (a_mark marks.Semi) (λ w. Give absent ts) (λ w. Give absent ss)
      (steps (Testing (starts_local ts) first_local_plan first_act_plan) ts) (steps (Testing (starts_local ss) first_local_plan first_act_plan) ss) same
      (λ b w x xs ys h g e f d. gives same) (λ w x e. gives same)
      (choose NFirst first_local_plan first_act_plan ts ss (λ n r. local_word NFirst a_first n r us) (λ n r. act_word NFirst a_first n r us)
      (λ n r s. local_square NFirst a_first n r s us) (λ n r s. act_square NFirst a_first n r s us) same (decides same))

  cast_alike : (p : Place) {xs ys : List Token} → Same t us vs xs ys → Casting t us vs p xs ys → Alike t us vs NPrefixed (cast_or p xs) (cast_or p ys)
  cast_alike p {xs = xs} {ys = ys} same (neither h k) = both_lack t us vs NPrefixed (λ w. steps (casted_plan w.0 w.1) w.2)
      (λ w. steps (casted_plan w.0 w.1) w.2)
      (steps bare_plan (mark marks.OpenRound p ∷ xs)) (steps bare_plan (mark marks.OpenRound p ∷ ys)) h k
      (alike t us vs NPrefixed bare_plan (on (mark marks.OpenRound p) same))
  cast_alike p {xs = xs} {ys = ys} same (both c h k s) = both_pass t us vs NPrefixed (λ w. steps (casted_plan w.0 w.1) w.2)
      (λ w. steps (casted_plan w.0 w.1) w.2)
      (steps bare_plan (mark marks.OpenRound p ∷ xs)) (steps bare_plan (mark marks.OpenRound p ∷ ys)) h k (alike t us vs NPrefixed (casted_plan c p) s)
  cast_alike p same (behind_word n q e) = past (subst (λ xs. IsPast NPrefixed (suc (length us)) (cast_or p xs)) (sym e) (word_past p n q us))
  cast_alike p same (behind_round n q c e) = past (subst (λ xs. IsPast NPrefixed (suc (length us)) (cast_or p xs)) (sym e) (named_past p n q c us))

  round_alike : (p : Place) (xs ys : List Token) → Same t us vs xs ys
      → Alike t us vs NPrefixed (prefixed_step (mark marks.OpenRound p ∷ xs)) (prefixed_step (mark marks.OpenRound p ∷ ys))
  round_alike p xs ys same = look_alike t us vs NPrefixed (an_opened p) (λ w. steps (opened_plan w.0 w.1) w.2) (λ w. steps (opened_plan w.0 w.1) w.2)
      (cast_or p xs) (cast_or p ys) same
      (λ b w x xs ys h g e f d. moved t us vs NPrefixed (λ b. opened_plan b.0 b.1) h g e f (alike t us vs NPrefixed (opened_plan b.0 b.1) d))
      (λ w x e. gone t us vs NPrefixed (opened_plan w.0 w.1) w.2 _ e) (cast_alike p same (casting p same))

  mark_alike : (m : Mark) (p : Place) (xs ys : List Token) → Same t us vs xs ys
      → Alike t us vs NPrefixed (prefixed_step (mark m p ∷ xs)) (prefixed_step (mark m p ∷ ys))
  mark_alike marks.Minus p xs ys same = alike t us vs NPrefixed (minus_plan p) same
  mark_alike marks.OpenRound p xs ys same = round_alike p xs ys same
  mark_alike m p xs ys same = alike t us vs NPrefixed operand_plan (on (mark m p) same)

  kind_alike : (k : TokenKind) (p : Place) (xs ys : List Token) → Same t us vs xs ys
      → Alike t us vs NPrefixed (prefixed_step (token k p ∷ xs)) (prefixed_step (token k p ∷ ys))
  kind_alike (kinds.Mark m) p xs ys same = mark_alike m p xs ys same
  kind_alike k p xs ys same = alike t us vs NPrefixed operand_plan (on (token k p) same)

  -- a name, and a bracket or none behind it
  named_made : (ms : List Modifier) (n : List ℕ) (p : Place) {xs ys : List Token} → Same t us vs xs ys
      → Alike t us vs NMember (made ms (word n p ∷ xs)) (made ms (word n p ∷ ys))
  named_made ms n p {xs = xs} {ys = ys} same =
      let one : List Token → ReadStep MemberTree = λ zs. steps (as_typed_plan ms) (word n p ∷ zs) in
      rw (behind_name ms n p (after marks.OpenRound xs) (one xs), behind_name ms n p (after marks.OpenRound ys) (one ys))
      (look_alike t us vs NMember (a_mark marks.OpenRound) (λ w. steps (as_maker_plan ms n p) w.1) (λ w. steps (as_maker_plan ms n p) w.1)
      (one xs) (one ys) same
      (λ b w x xs ys h g e f d. moved t us vs NMember (λ (b : Place). as_maker_plan ms n p) h g e f (alike t us vs NMember (as_maker_plan ms n p) d))
      (λ w x e. gone t us vs NMember (as_maker_plan ms n p) w.1 _ e) (alike t us vs NMember (as_typed_plan ms) (on (word n p) same)))

  made_on : (ms : List Modifier) (k : TokenKind) (p : Place) (xs ys : List Token) → Same t us vs xs ys
      → Alike t us vs NMember (made ms (token k p ∷ xs)) (made ms (token k p ∷ ys))
  made_on ms (kinds.Word n) p xs ys same = named_made ms n p same
  made_on ms k p xs ys same = alike t us vs NMember (as_typed_plan ms) (on (token k p) same)

  -- `super`, and a bracket or none behind it
  super_alike : (p : Place) {xs ys : List Token} → Same t us vs xs ys
      → Alike t us vs NMakerBody (maker_body_step (key keys.Super p ∷ xs)) (maker_body_step (key keys.Super p ∷ ys))
  super_alike p {xs = xs} {ys = ys} same = look_alike t us vs NMakerBody (a_mark marks.OpenRound) (λ w. steps up_plan w.1) (λ w. steps up_plan w.1)
      (steps plain_plan (key keys.Super p ∷ xs)) (steps plain_plan (key keys.Super p ∷ ys)) same
      (λ b w x xs ys h g e f d. moved t us vs NMakerBody (λ (b : Place). up_plan) h g e f (alike t us vs NMakerBody up_plan d))
      (λ w x e. gone t us vs NMakerBody up_plan w.1 _ e) (alike t us vs NMakerBody plain_plan (on (key keys.Super p) same))

  body_key_on : (k : Keyword) (p : Place) (xs ys : List Token) → Same t us vs xs ys
      → Alike t us vs NMakerBody (maker_body_step (key k p ∷ xs)) (maker_body_step (key k p ∷ ys))
  body_key_on keys.Super p xs ys same = super_alike p same
  body_key_on k p xs ys same = alike t us vs NMakerBody plain_plan (on (key k p) same)

  body_on : (k : TokenKind) (p : Place) (xs ys : List Token) → Same t us vs xs ys
      → Alike t us vs NMakerBody (maker_body_step (token k p ∷ xs)) (maker_body_step (token k p ∷ ys))
  body_on (kinds.Key k) p xs ys same = body_key_on k p xs ys same
  body_on k p xs ys same = alike t us vs NMakerBody plain_plan (on (token k p) same)

  begun_on : (k : TokenKind) (p : Place) (xs ys : List Token) → Same t us vs xs ys → Begun k p
      → Alike t us vs NStmt (stmt_step (token k p ∷ xs)) (stmt_step (token k p ∷ ys))
  begun_on k p xs ys same (leads q h) = let e = h xs in let f = h ys in rw (e, f) (alike t us vs NStmt q same)
  begun_on k p xs ys same (other h) = let e = h xs in let f = h ys in rw (e, f) (alike t us vs NStmt acting_plan (on (token k p) same))

-- the same at the token where the beginning ends
mark_at : (m : Mark) (p : Place) (us vs : List Token) → Alike (mark m p) us vs NPrefixed (prefixed_step (mark m p ∷ us)) (prefixed_step (mark m p ∷ vs))
mark_at marks.Minus p us vs = past (past_by NPrefixed (length us) (leaves (minus_plan p) (length us) us (omega arith)))
mark_at marks.OpenRound p us vs = past (round_past p us)
mark_at m p us vs = alike (mark m p) us vs NPrefixed operand_plan at

kind_at : (k : TokenKind) (p : Place) (us vs : List Token)
    → Alike (token k p) us vs NPrefixed (prefixed_step (token k p ∷ us)) (prefixed_step (token k p ∷ vs))
kind_at (kinds.Mark m) p us vs = mark_at m p us vs
kind_at k p us vs = alike (token k p) us vs NPrefixed operand_plan at

made_at : (ms : List Modifier) (k : TokenKind) (p : Place) (us vs : List Token)
    → Alike (token k p) us vs NMember (made ms (token k p ∷ us)) (made ms (token k p ∷ vs))
made_at ms (kinds.Word n) p us vs = past (made_word ms n p us)
made_at ms k p us vs = alike (token k p) us vs NMember (as_typed_plan ms) at

body_key_at : (k : Keyword) (p : Place) (us vs : List Token)
    → Alike (key k p) us vs NMakerBody (maker_body_step (key k p ∷ us)) (maker_body_step (key k p ∷ vs))
body_key_at keys.Super p us vs = past (super_past p us)
body_key_at k p us vs = alike (key k p) us vs NMakerBody plain_plan at

body_at : (k : TokenKind) (p : Place) (us vs : List Token)
    → Alike (token k p) us vs NMakerBody (maker_body_step (token k p ∷ us)) (maker_body_step (token k p ∷ vs))
body_at (kinds.Key k) p us vs = body_key_at k p us vs
body_at k p us vs = alike (token k p) us vs NMakerBody plain_plan at

begun_at : (k : TokenKind) (p : Place) (us vs : List Token) → Begun k p
    → Alike (token k p) us vs NStmt (stmt_step (token k p ∷ us)) (stmt_step (token k p ∷ vs))
begun_at k p us vs (leads q h) = past (subst (IsPast NStmt (suc (length us))) (sym (h us))
    (past_by NStmt (length us) (leaves q (length us) us (omega arith))))
begun_at k p us vs (other h) = let e = h us in let f = h vs in rw (e, f) (alike (token k p) us vs NStmt acting_plan at)

module _ (t : Token) (us vs : List Token) where
  prefixed_alike : {ts ss : List Token} → Same t us vs ts ss → Alike t us vs NPrefixed (prefixed_step ts) (prefixed_step ss)
  prefixed_alike at = kind_at t.kind t.place us vs
  prefixed_alike (on {ts = xs} {ss = ys} x same) = kind_alike t us vs x.kind x.place xs ys same

  stmt_alike : {ts ss : List Token} → Same t us vs ts ss → Alike t us vs NStmt (stmt_step ts) (stmt_step ss)
  stmt_alike at = begun_at t.kind t.place us vs (begun t.kind t.place)
  stmt_alike (on {ts = xs} {ss = ys} x same) = begun_on t us vs x.kind x.place xs ys same (begun x.kind x.place)

  made_alike : (ms : List Modifier) {ts ss : List Token} → Same t us vs ts ss → Alike t us vs NMember (made ms ts) (made ms ss)
  made_alike ms at = made_at ms t.kind t.place us vs
  made_alike ms (on {ts = xs} {ss = ys} x same) = made_on t us vs ms x.kind x.place xs ys same

  member_alike : {ts ss : List Token} → Same t us vs ts ss → Alike t us vs NMember (member_step ts) (member_step ss)
  member_alike same = asks same (λ v xs ys s. made_alike v s) (λ v xs. made_leaves v (length xs) xs (omega arith))

  maker_body_alike : {ts ss : List Token} → Same t us vs ts ss → Alike t us vs NMakerBody (maker_body_step ts) (maker_body_step ss)
  maker_body_alike at = body_at t.kind t.place us vs
  maker_body_alike (on {ts = xs} {ss = ys} x same) = body_on t us vs x.kind x.place xs ys same

  pub part_alike : (n : Want) (ts ss : List Token) → Same t us vs ts ss → Alike t us vs n (body n ts) (body n ss)
  part_alike (NExpr l) xs ys same = alike t us vs (NExpr l) (expr_plan l) same
  part_alike (NMore l c e) xs ys same = alike t us vs (NMore l c e) (more_plan l c e) same
  part_alike NPrefixed xs ys same = prefixed_alike same
  part_alike NPost xs ys same = alike t us vs NPost post_plan same
  part_alike NAtom xs ys same = alike t us vs NAtom atom_plan same
  part_alike NSuper xs ys same = alike t us vs NSuper super_plan same
  part_alike (NNew p) xs ys same = alike t us vs (NNew p) (new_plan p) same
  part_alike (NSized p b q) xs ys same = alike t us vs (NSized p b q) (sized_plan p b q) same
  part_alike (NDims d) xs ys same = alike t us vs (NDims d) (dims_plan d) same
  part_alike NType xs ys same = alike t us vs NType type_plan same
  part_alike (NTail e z) xs ys same = alike t us vs (NTail e z) (tail_plan e z) same
  part_alike NArgs xs ys same = alike t us vs NArgs args_plan same
  part_alike (NMoreArgs es) xs ys same = alike t us vs (NMoreArgs es) (more_args_plan es) same
  part_alike NInit xs ys same = alike t us vs NInit init_plan same
  part_alike NLocal xs ys same = alike t us vs NLocal local_plan same
  part_alike NValue xs ys same = alike t us vs NValue value_plan same
  part_alike NAct xs ys same = alike t us vs NAct act_plan same
  part_alike (NActRest w p e z) xs ys same = alike t us vs (NActRest w p e z) (act_rest_plan w p e z) same
  part_alike NTested xs ys same = alike t us vs NTested tested_plan same
  part_alike NItem xs ys same = item_alike t us vs xs ys same
  part_alike (NItems ss) xs ys same = alike t us vs (NItems ss) (items_plan ss) same
  part_alike NStmt xs ys same = stmt_alike same
  part_alike NForHead xs ys same = alike t us vs NForHead for_head_plan same
  part_alike NFirst xs ys same = first_alike t us vs xs ys same
  part_alike NStep xs ys same = alike t us vs NStep step_plan same
  part_alike (NBranches a) xs ys same = alike t us vs (NBranches a) (branches_plan a) same
  part_alike (NMods ms) xs ys same = alike t us vs (NMods ms) (mods_plan ms) same
  part_alike (NIds is) xs ys same = alike t us vs (NIds is) (ids_plan is) same
  part_alike NParent xs ys same = alike t us vs NParent parent_plan same
  part_alike (NList k) xs ys same = alike t us vs (NList k) (list_plan k) same
  part_alike NParam xs ys same = alike t us vs NParam param_plan same
  part_alike NParams xs ys same = alike t us vs NParams params_plan same
  part_alike (NMoreParams qs) xs ys same = alike t us vs (NMoreParams qs) (more_params_plan qs) same
  part_alike NResult xs ys same = alike t us vs NResult result_type_plan same
  part_alike NHead xs ys same = alike t us vs NHead head_plan same
  part_alike NBody xs ys same = alike t us vs NBody body_plan same
  part_alike NMember xs ys same = member_alike same
  part_alike (NTyped ms) xs ys same = alike t us vs (NTyped ms) (typed_plan ms) same
  part_alike (NMethod ms ty n p) xs ys same = alike t us vs (NMethod ms ty n p) (method_plan ms ty n p) same
  part_alike (NMaker ms n p) xs ys same = alike t us vs (NMaker ms n p) (maker_plan ms n p) same
  part_alike NMakerBody xs ys same = maker_body_alike same
  part_alike (NMembers bs) xs ys same = alike t us vs (NMembers bs) (members_plan bs) same
  part_alike (NHeads hs) xs ys same = alike t us vs (NHeads hs) (heads_plan hs) same
  part_alike (NClass ms) xs ys same = alike t us vs (NClass ms) (class_plan ms) same
  part_alike (NInterface ms) xs ys same = alike t us vs (NInterface ms) (interface_plan ms) same
  part_alike NDecl xs ys same = alike t us vs NDecl decl_plan same
  part_alike (NDecls ds) xs ys same = alike t us vs (NDecls ds) (decls_plan ds) same
