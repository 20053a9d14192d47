-- What is past two or three tokens, whatever it comes to.
use Rattle.std.proofs.Common.{◌≡◌, ℕ, suc, ◌≤◌, List, ◌∷◌, length, Some, None, true, false, Ok, Err, subst, arith}
use Rattle.kaba_base.specs.declared.Place.{Place}
use Rattle.kaba_base.specs.declared.words.Keyword.TheVariants as keys
use Rattle.java_lex.specs.declared.Token.{Token}
use Rattle.java_lex.specs.declared.Mark.TheVariants as marks
use Rattle.java_tree.specs.declared.Modifier.{Modifier}
use Rattle.java_tree.specs.declared.TypeBase.TheVariants as bases
use Rattle.java_tree.specs.declared.TypeName.{TypeName}
use Rattle.java_tree.specs.Syntax.{Expression, NameRef, IndexOf, CallOf, LocalOf, Statements, no_statements}
use Rattle.java_tree.specs.Tokens.{mark, key, word}
use Rattle.java_tree.specs.Expressions.{operand, bare, name}
use Rattle.java_parse.specs.declared.End.{End}
use Rattle.java_parse.specs.declared.End.TheVariants as ends
use Rattle.java_parse.specs.Want.{Want, NExpr, NMore, NPrefixed, NPost, NAtom, NSuper, NDims, NType, NTail, NArgs, NInit, NLocal, NAct, NActRest, NItem, NItems, NStmt, NResult, NMember, NTyped, NMakerBody, Val, ReadStep, Ask}
use Rattle.java_parse.specs.Front.{after, opens_behind, cast_by, word_next, maker_next, stmt_snoc}
use Rattle.java_parse.specs.Reading.{Left, NoMemory, ParseOutcome, body, RunsTo, give, short, ask, ask_fails, Reads}
use Rattle.java_parse.specs.ReadExpressions.{prefixed_step}
use Rattle.java_parse.specs.ReadDeclarations.{maker_body_step}
use Rattle.java_parse.proofs.Runs.{reads, read_once, fails_once}
use Rattle.java_parse.proofs.CompleteExpressions.{closed_reads, stops_round}
use Rattle.java_parse.proofs.Leaves.{Below, fault_below, on_option}
use Rattle.java_parse.proofs.Looks.{look_shorter, a_mark, a_word, an_opened}
use Rattle.java_parse.proofs.Plans.{Plan, Giving, Stopping, Asking, Looking, steps, leaves}
use Rattle.java_parse.proofs.ExpressionPlans.{opened_plan, casted_plan, bare_plan}
use Rattle.java_parse.proofs.DeclarationPlans.{as_maker_plan, as_typed_plan, behind_type_plan, up_plan, plain_plan}
use Rattle.java_parse.proofs.PartLeaves.{cast_or, end_shorter, cast_shorter, made, maker_shorter}
use Rattle.java_parse.proofs.Local.{left_below, IsPast, past_by}

-- what asks for a part that is past is past
ask_past : (m n : Want) (ts : List Token) (k : Val n → Plan (Val m)) (b : ℕ) → IsPast n (suc b) (body n ts) → (o : ParseOutcome (Val m))
    → RunsTo m (Ask n ts (λ v rest. steps (k v) rest)) o → Below (suc b) o
ask_past m n ts k b p o short = tt
ask_past m n ts k b p o (ask {rest = rest} {v = v} a c) =
    let l = p (Ok (v, rest)) a in left_below b c (leaves (k v) b rest (omega (arith, l)))
ask_past m n ts k b p o (ask_fails {f = f} a) = fault_below (Val n) (Val m) b b f (p (Err f) a) (omega arith)

-- and so is what is past behind a part that is read as this
ask_known : (m n : Want) (ts rest : List Token) (v : Val n) (k : Val n → List Token → ReadStep (Val m)) (b : ℕ) → Reads n ts (Ok (v, rest))
    → IsPast m b (k v rest) → (o : ParseOutcome (Val m)) → RunsTo m (Ask n ts k) o → Below b o
ask_known m n ts rest v k b r p o short = tt
ask_known m n ts rest v k b r p o (ask {rest = us} {v = w} a c) =
    let e : (w, us) ≡ (v, rest) = read_once (reads a) r in p o (subst (λ (x : Val n × List Token). RunsTo m (k x.0 x.1) o) e c)
ask_known m n ts rest v k b r p o (ask_fails {f = Left us} a) = absurd (fails_once r (reads a))
ask_known m n ts rest v k b r p o (ask_fails {f = NoMemory} a) = tt

post_past : (ts : List Token) (b : ℕ) → IsPast NAtom (suc b) (body NAtom ts) → IsPast NPost (suc b) (body NPost ts)
post_past ts b p = ask_past NPost NAtom ts (λ x. Asking (NTail x.0 x.1) Giving) b p

bare_past : (ts : List Token) (b : ℕ) → IsPast NAtom (suc b) (body NAtom ts) → IsPast NPrefixed (suc b) (steps bare_plan ts)
bare_past ts b p = ask_past NPrefixed NPost ts (λ x. Giving x.0) b (post_past ts b p)

-- a name
atom_word : (n : List ℕ) (q : Place) (xs : List Token) → IsPast NAtom (suc (length xs)) (body NAtom (word n q ∷ xs))
atom_word n q xs = past_by NAtom (length xs) (leaves (Looking (a_mark marks.OpenRound) (λ w. Asking NArgs (λ x. Giving (CallOf n x q, ends.Call)))
    (Giving (NameRef n q, ends.Name))) (length xs) xs (omega arith))

expr_word : (n : List ℕ) (q : Place) (xs : List Token) → IsPast (NExpr 1) (suc (length xs)) (body (NExpr 1) (word n q ∷ xs))
expr_word n q xs = ask_past (NExpr 1) NPrefixed (word n q ∷ xs) (λ x. Asking (NMore 1 11 x) Giving) (length xs)
    (bare_past (word n q ∷ xs) (length xs) (atom_word n q xs))

-- a round bracket
atom_round : (p : Place) (xs : List Token) → IsPast NAtom (suc (length xs)) (body NAtom (mark marks.OpenRound p ∷ xs))
atom_round p xs = past_by NAtom (length xs) (leaves (Asking (NExpr 1) (λ x. Looking (a_mark marks.CloseRound) (λ w. Giving (x, ends.Other)) Stopping))
    (length xs) xs (omega arith))

-- a round bracket and a name
atom_round_word : (p : Place) (n : List ℕ) (q : Place) (xs : List Token)
    → IsPast NAtom (suc (length xs)) (body NAtom (mark marks.OpenRound p ∷ word n q ∷ xs))
atom_round_word p n q xs = ask_past NAtom (NExpr 1) (word n q ∷ xs) (λ x. Looking (a_mark marks.CloseRound) (λ w. Giving (x, ends.Other)) Stopping)
    (length xs) (expr_word n q xs)

-- a name in round brackets
atom_named : (p : Place) (n : List ℕ) (q c : Place) (xs : List Token)
    → IsPast NAtom (suc (length xs)) (body NAtom (mark marks.OpenRound p ∷ word n q ∷ mark marks.CloseRound c ∷ xs))
atom_named p n q c xs = ask_known NAtom (NExpr 1) (word n q ∷ mark marks.CloseRound c ∷ xs) (mark marks.CloseRound c ∷ xs) (NameRef n q)
    (λ x rest. steps (Looking (a_mark marks.CloseRound) (λ w. Giving (x, ends.Other)) Stopping) rest) (suc (length xs))
    (closed_reads (operand (bare name)) stops_round)
    (past_by NAtom (length xs) (leaves {A = Expression × End} (Giving (NameRef n q, ends.Other)) (length xs) xs (omega arith)))

cast_past : (p : Place) (xs : List Token) (b : ℕ) → ((w : TypeName × Place × List Token) → cast_by p (word_next xs) ≡ Some w → length w.2 ≤ b)
    → IsPast NAtom (suc b) (body NAtom (mark marks.OpenRound p ∷ xs)) → IsPast NPrefixed (suc b) (cast_or p xs)
cast_past p xs b h a = on_option (IsPast NPrefixed (suc b)) (cast_by p (word_next xs)) (λ w. steps (casted_plan w.0 w.1) w.2)
    (steps bare_plan (mark marks.OpenRound p ∷ xs)) (λ no. bare_past (mark marks.OpenRound p ∷ xs) b a)
    (λ w yes. past_by NPrefixed b (leaves (casted_plan w.0 w.1) b w.2 (h w yes)))

pub round_past : (p : Place) (xs : List Token) → IsPast NPrefixed (suc (length xs)) (prefixed_step (mark marks.OpenRound p ∷ xs))
round_past p xs = on_option (IsPast NPrefixed (suc (length xs))) (opens_behind p xs) (λ w. steps (opened_plan w.0 w.1) w.2) (cast_or p xs)
    (λ no. cast_past p xs (length xs) (λ w yes. let lt = cast_shorter p xs w yes in omega (arith, lt)) (atom_round p xs))
    (λ w yes. past_by NPrefixed (length xs) (leaves (opened_plan w.0 w.1) (length xs) w.2
    (let lt = look_shorter (an_opened p) xs w yes in omega (arith, lt))))

pub word_past : (p : Place) (n : List ℕ) (q : Place) (xs : List Token) → IsPast NPrefixed (suc (length xs)) (cast_or p (word n q ∷ xs))
word_past p n q xs = cast_past p (word n q ∷ xs) (length xs) (λ w yes. let lt = end_shorter n q p xs w yes in omega (arith, lt)) (atom_round_word p n q xs)

pub named_past : (p : Place) (n : List ℕ) (q c : Place) (xs : List Token)
    → IsPast NPrefixed (suc (length xs)) (cast_or p (word n q ∷ mark marks.CloseRound c ∷ xs))
named_past p n q c xs = cast_past p (word n q ∷ mark marks.CloseRound c ∷ xs) (length xs)
    (λ w yes. let lt = end_shorter n q p (mark marks.CloseRound c ∷ xs) w yes in omega (arith, lt)) (atom_named p n q c xs)

-- a type that begins with a name, and with a bracket behind it
type_word : (n : List ℕ) (q : Place) (xs : List Token) → IsPast NType (suc (length xs)) (body NType (word n q ∷ xs))
type_word n q xs = past_by NType (length xs) (leaves {A = TypeName} (Asking (NDims 0) (λ d. Giving (record { base = bases.Named n; dim = d; place = q })))
    (length xs) xs (omega arith))

type_square : (n : List ℕ) (q r : Place) (xs : List Token) → IsPast NType (suc (length xs)) (body NType (word n q ∷ mark marks.OpenSquare r ∷ xs))
type_square n q r xs = ask_past NType (NDims 0) (mark marks.OpenSquare r ∷ xs)
    (λ d. Giving (record { base = bases.Named n; dim = d; place = q })) (length xs)
    (past_by (NDims 0) (length xs) (leaves (Looking (a_mark marks.CloseSquare) (λ w. Asking (NDims 1) Giving) Stopping) (length xs) xs (omega arith)))

local_past : (n : List ℕ) (q : Place) (xs : List Token) (b : ℕ) → IsPast NType (suc b) (body NType (word n q ∷ xs))
    → IsPast NLocal (suc b) (body NLocal (word n q ∷ xs))
local_past n q xs b p = ask_past NLocal NType (word n q ∷ xs)
    (λ t. Looking a_word (λ w. Asking NInit (λ x. Giving (LocalOf false t w.0 x w.1))) Stopping) b p

-- an act and a statement that begin so
post_square : (n : List ℕ) (q r : Place) (xs : List Token) → IsPast NPost (suc (length xs)) (body NPost (word n q ∷ mark marks.OpenSquare r ∷ xs))
post_square n q r xs = ask_known NPost NAtom (word n q ∷ mark marks.OpenSquare r ∷ xs) (mark marks.OpenSquare r ∷ xs) (NameRef n q, ends.Name)
    (λ x rest. steps (Asking (NTail x.0 x.1) Giving) rest) (suc (length xs)) (reads give)
    (ask_past NPost (NTail (NameRef n q) ends.Name) (mark marks.OpenSquare r ∷ xs) Giving (length xs)
    (past_by (NTail (NameRef n q) ends.Name) (length xs) (leaves (Asking (NExpr 1) (λ x. Looking (a_mark marks.CloseSquare)
    (λ w. Asking (NTail (IndexOf (NameRef n q) x r) ends.Target) Giving) Stopping)) (length xs) xs (omega arith))))

act_past : (n : List ℕ) (q : Place) (xs : List Token) (b : ℕ) → IsPast NPost (suc b) (body NPost (word n q ∷ xs))
    → IsPast NAct (suc b) (body NAct (word n q ∷ xs))
act_past n q xs b p = ask_past NAct NPost (word n q ∷ xs) (λ x. Asking (NActRest true q x.0 x.1) Giving) b p

stmt_past : (n : List ℕ) (q : Place) (xs : List Token) (b : ℕ) → IsPast NPost (suc b) (body NPost (word n q ∷ xs))
    → IsPast NStmt (suc b) (body NStmt (word n q ∷ xs))
stmt_past n q xs b p = ask_past NStmt NAct (word n q ∷ xs) (λ x. Looking (a_mark marks.Semi) (λ w. Giving x) Stopping) b (act_past n q xs b p)

-- what asks for a local, an act or a statement that begin with a name, and with a bracket behind it
pub local_word : (m : Want) (k : Val NLocal → Plan (Val m)) (n : List ℕ) (q : Place) (xs : List Token)
    → IsPast m (suc (length xs)) (steps (Asking NLocal k) (word n q ∷ xs))
local_word m k n q xs = ask_past m NLocal (word n q ∷ xs) k (length xs) (local_past n q xs (length xs) (type_word n q xs))

pub local_square : (m : Want) (k : Val NLocal → Plan (Val m)) (n : List ℕ) (q r : Place) (xs : List Token)
    → IsPast m (suc (length xs)) (steps (Asking NLocal k) (word n q ∷ mark marks.OpenSquare r ∷ xs))
local_square m k n q r xs = ask_past m NLocal (word n q ∷ mark marks.OpenSquare r ∷ xs) k (length xs)
    (local_past n q (mark marks.OpenSquare r ∷ xs) (length xs) (type_square n q r xs))

pub act_word : (m : Want) (k : Val NAct → Plan (Val m)) (n : List ℕ) (q : Place) (xs : List Token)
    → IsPast m (suc (length xs)) (steps (Asking NAct k) (word n q ∷ xs))
act_word m k n q xs = ask_past m NAct (word n q ∷ xs) k (length xs)
    (act_past n q xs (length xs) (post_past (word n q ∷ xs) (length xs) (atom_word n q xs)))

pub act_square : (m : Want) (k : Val NAct → Plan (Val m)) (n : List ℕ) (q r : Place) (xs : List Token)
    → IsPast m (suc (length xs)) (steps (Asking NAct k) (word n q ∷ mark marks.OpenSquare r ∷ xs))
act_square m k n q r xs = ask_past m NAct (word n q ∷ mark marks.OpenSquare r ∷ xs) k (length xs)
    (act_past n q (mark marks.OpenSquare r ∷ xs) (length xs) (post_square n q r xs))

pub stmt_word : (m : Want) (k : Val NStmt → Plan (Val m)) (n : List ℕ) (q : Place) (xs : List Token)
    → IsPast m (suc (length xs)) (steps (Asking NStmt k) (word n q ∷ xs))
stmt_word m k n q xs = ask_past m NStmt (word n q ∷ xs) k (length xs)
    (stmt_past n q xs (length xs) (post_past (word n q ∷ xs) (length xs) (atom_word n q xs)))

pub stmt_square : (m : Want) (k : Val NStmt → Plan (Val m)) (n : List ℕ) (q r : Place) (xs : List Token)
    → IsPast m (suc (length xs)) (steps (Asking NStmt k) (word n q ∷ mark marks.OpenSquare r ∷ xs))
stmt_square m k n q r xs = ask_past m NStmt (word n q ∷ mark marks.OpenSquare r ∷ xs) k (length xs)
    (stmt_past n q (mark marks.OpenSquare r ∷ xs) (length xs) (post_square n q r xs))

-- a member behind its modifiers that begins with a name
result_word : (n : List ℕ) (q : Place) (xs : List Token) → IsPast NResult (suc (length xs)) (body NResult (word n q ∷ xs))
result_word n q xs = ask_past NResult NType (word n q ∷ xs) (λ t. Giving (Some t)) (length xs) (type_word n q xs)

typed_word : (ms : List Modifier) (n : List ℕ) (q : Place) (xs : List Token) → IsPast (NTyped ms) (suc (length xs)) (body (NTyped ms) (word n q ∷ xs))
typed_word ms n q xs = ask_past (NTyped ms) NResult (word n q ∷ xs) (λ t. behind_type_plan ms t) (length xs) (result_word n q xs)

pub made_word : (ms : List Modifier) (n : List ℕ) (q : Place) (xs : List Token) → IsPast NMember (suc (length xs)) (made ms (word n q ∷ xs))
made_word ms n q xs = on_option (IsPast NMember (suc (length xs))) (maker_next (word n q ∷ xs)) (λ w. steps (as_maker_plan ms w.0 w.1) w.2)
    (steps (as_typed_plan ms) (word n q ∷ xs))
    (λ no. ask_past NMember (NTyped ms) (word n q ∷ xs) Giving (length xs) (typed_word ms n q xs))
    (λ w yes. past_by NMember (length xs) (leaves (as_maker_plan ms w.0 w.1) (length xs) w.2
    (let lt = maker_shorter (word n q ∷ xs) w yes in omega (arith, lt))))

-- statements that begin with `super`
atom_super : (p : Place) (xs : List Token) → IsPast NAtom (suc (length xs)) (body NAtom (key keys.Super p ∷ xs))
atom_super p xs = past_by NAtom (length xs) (leaves {A = Expression × End} (Asking NSuper Giving) (length xs) xs (omega arith))

act_super : (p : Place) (xs : List Token) → IsPast NAct (suc (length xs)) (body NAct (key keys.Super p ∷ xs))
act_super p xs = ask_past NAct NPost (key keys.Super p ∷ xs) (λ x. Asking (NActRest false p x.0 x.1) Giving) (length xs)
    (post_past (key keys.Super p ∷ xs) (length xs) (atom_super p xs))

item_super : (p : Place) (xs : List Token) → IsPast NItem (suc (length xs)) (body NItem (key keys.Super p ∷ xs))
item_super p xs = ask_past NItem NStmt (key keys.Super p ∷ xs) Giving (length xs)
    (ask_past NStmt NAct (key keys.Super p ∷ xs) (λ x. Looking (a_mark marks.Semi) (λ w. Giving x) Stopping) (length xs) (act_super p xs))

items_super : (ss : Statements) (p : Place) (xs : List Token) → IsPast (NItems ss) (suc (length xs)) (body (NItems ss) (key keys.Super p ∷ xs))
items_super ss p xs = ask_past (NItems ss) NItem (key keys.Super p ∷ xs) (λ x. Asking (NItems (stmt_snoc ss x)) Giving) (length xs) (item_super p xs)

-- the body of a constructor that begins with `super`
pub super_past : (p : Place) (xs : List Token) → IsPast NMakerBody (suc (length xs)) (maker_body_step (key keys.Super p ∷ xs))
super_past p xs = on_option (IsPast NMakerBody (suc (length xs))) (after marks.OpenRound xs) (λ w. steps up_plan w.1)
    (steps plain_plan (key keys.Super p ∷ xs))
    (λ no. ask_past NMakerBody (NItems no_statements) (key keys.Super p ∷ xs) (λ x. Giving (None, x)) (length xs) (items_super no_statements p xs))
    (λ w yes. past_by NMakerBody (length xs) (leaves up_plan (length xs) w.1 (let lt = look_shorter (a_mark marks.OpenRound) xs w yes in omega (arith, lt))))
