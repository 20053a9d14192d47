-- Where reading a part stops, the tokens taken of it can be completed.
use Rattle.std.proofs.Common.{ℕ, pos, List, ◌∷◌, Bool, true, false, Option, Ok, Err, codes}
use Rattle.kaba_base.specs.declared.Place.{Place}
use Rattle.kaba_base.specs.declared.words.Keyword.TheVariants as keys
use Rattle.java_lex.specs.declared.Token.{Token}
use Rattle.java_lex.specs.declared.TokenKind.TheVariants as kinds
use Rattle.java_lex.specs.declared.Mark.TheVariants as marks
use Rattle.java_lex.specs.Lexing.{token}
use Rattle.java_tree.specs.Places.{nowhere}
use Rattle.java_tree.specs.declared.Id.{Id}
use Rattle.java_tree.specs.declared.TypeName.{TypeName}
use Rattle.java_tree.specs.declared.Param.{Param}
use Rattle.java_tree.specs.Syntax.{Expression, Expressions, Statement, Statements, Arms, Else, OptionalStatement, HeadTree, MemberTree, DeclTree}
use Rattle.java_tree.specs.Tokens.{mark, key, word}
use Rattle.java_tree.specs.Expressions.{IsBase, IsDims, IsType, IsExpr, IsPrefixed, IsPost, IsArgs, IsMoreArgs}
use Rattle.java_tree.specs.Statements.{IsValue, IsInit, IsLocal, IsAct, IsForFirst, IsForStep, IsItem, IsItems, IsStmt, IsArms}
use Rattle.java_tree.specs.Declarations.{IsMods, IsIds, IsParent, IsList, IsParam, IsMoreParams, IsParams, IsResult, IsHead, IsBody, IsMember, IsMembers, IsHeads, IsDecl, IsPlaced}
use Rattle.java_parse.specs.Want.{Want, NExpr, NMore, NPrefixed, NPost, NAtom, NSuper, NNew, NSized, NDims, NType, NTail, NArgs, NMoreArgs, NInit, NLocal, NValue, NAct, NActRest, NTested, NItem, NItems, NStmt, NForHead, NFirst, NStep, NBranches, NMods, NIds, NParent, NList, NParam, NParams, NMoreParams, NResult, NHead, NBody, NMember, NTyped, NMethod, NMaker, NMakerBody, NMembers, NHeads, NClass, NInterface, NDecl, NDecls, Val, ReadStep, Give, Fail, Ask}
use Rattle.java_parse.specs.Reading.{Left, NoMemory, ParseOutcome, body, RunsTo, give, fail, short, ask, ask_fails}
use Rattle.java_parse.proofs.Post.{Ended, Tested, Headed, Built, Post}
use Rattle.java_parse.proofs.Runs.{reads}
use Rattle.java_parse.proofs.Cuts.{Cut, join}
use Rattle.java_parse.proofs.Sound.{sound}

-- some part of its kind stands from these tokens up to the rest; with what stands before it, where it goes on from that
abbrev pub Done : Want → List Token → List Token → Type 0
Done (NExpr l) ts rest = (e : Expression) × IsExpr l ts rest e
Done (NMore l c a) ts rest = (us : List Token) → IsExpr l us ts a → IsExpr c us ts a → (e : Expression) × IsExpr l us rest e
Done NPrefixed ts rest = (e : Expression) × IsPrefixed ts rest e
Done NPost ts rest = (b : Bool) × (e : Expression) × IsPost b ts rest e
Done NAtom ts rest = (b : Bool) × (e : Expression) × IsPost b ts rest e
Done NSuper ts rest = (q : Place) → (e : Expression) × IsPost true (key keys.Super q ∷ ts) rest e
Done (NNew p) ts rest = (b : Bool) × (e : Expression) × IsPost b (key keys.New p ∷ ts) rest e
Done (NSized p b q) ts rest = (us : List Token) → IsBase us ts b q → (e : Expression) × IsPost false (key keys.New p ∷ us) rest e
Done (NDims d) ts rest = (n : ℕ) × IsDims ts rest n
Done NType ts rest = (t : TypeName) × IsType ts rest t
Done (NTail e z) ts rest = (us : List Token) → Ended z us ts e → (b : Bool) × (x : Expression) × IsPost b us rest x
Done NArgs ts rest = (es : Expressions) × IsArgs ts rest es
Done (NMoreArgs es) ts rest = (fs : Expressions) × IsMoreArgs ts rest fs
Done NInit ts rest = (v : Option Expression) × IsInit ts rest v
Done NLocal ts rest = (s : Statement) × IsLocal ts rest s
Done NValue ts rest = (v : Option Expression) × IsValue ts rest v
Done NAct ts rest = (s : Statement) × IsAct ts rest s
Done (NActRest w p e z) ts rest = (us : List Token) → Ended z us ts e → (s : Statement) × IsAct us rest s
Done NTested ts rest = (e : Expression) × Tested ts e rest
Done NItem ts rest = (s : Statement) × IsItem ts rest s
Done (NItems ss) ts rest = (more : Statements) × IsItems ts rest more
Done NStmt ts rest = (o : Bool) × (s : Statement) × IsStmt o ts rest s
Done NForHead ts rest = (f : OptionalStatement) × (v : Option Expression) × (g : OptionalStatement) × Headed ts f v g rest
Done NFirst ts rest = (o : OptionalStatement) × IsForFirst ts rest o
Done NStep ts rest = (o : OptionalStatement) × IsForStep ts rest o
Done (NBranches a) ts rest = (o : Bool) × (more : Arms) × (l : Else) × IsArms o ts rest more l
Done (NMods ms) ts rest = ⊥
Done (NIds is) ts rest = (more : List Id) × IsIds ts rest more
Done NParent ts rest = (c : Option Id) × IsParent ts rest c
Done (NList k) ts rest = (is : List Id) × IsList k ts rest is
Done NParam ts rest = (q : Param) × IsParam ts rest q
Done NParams ts rest = (qs : List Param) × IsParams ts rest qs
Done (NMoreParams qs) ts rest = (more : List Param) × IsMoreParams ts rest more
Done NResult ts rest = (t : Option TypeName) × IsResult ts rest t
Done NHead ts rest = (h : HeadTree) × IsHead ts rest h
Done NBody ts rest = (b : Option Statements) × IsBody ts rest b
Done NMember ts rest = (m : MemberTree) × IsMember ts rest m
Done (NTyped ms) ts rest = (us : List Token) → IsMods us ts ms → (m : MemberTree) × IsMember us rest m
Done (NMethod ms t n p) ts rest = (us vs : List Token) (q : Place) → IsMods us vs ms → IsResult vs (word n p ∷ mark marks.OpenRound q ∷ ts) t
    → (m : MemberTree) × IsMember us rest m
Done (NMaker ms n p) ts rest = (us : List Token) (q : Place) → IsMods us (word n p ∷ mark marks.OpenRound q ∷ ts) ms
    → (m : MemberTree) × IsMember us rest m
Done NMakerBody ts rest = (u : Option Expressions) × (ss : Statements) × Built ts u ss rest
Done (NMembers bs) ts rest = (more : List MemberTree) × IsMembers ts rest more
Done (NHeads hs) ts rest = (more : List HeadTree) × IsHeads ts rest more
Done (NClass ms) ts rest = (us : List Token) (q : Place) → IsMods us (key keys.Class q ∷ ts) ms → (d : DeclTree) × IsDecl us rest d
Done (NInterface ms) ts rest = (us : List Token) (q : Place) → IsMods us (key keys.Interface q ∷ ts) ms → (d : DeclTree) × IsDecl us rest d
Done NDecl ts rest = (d : DeclTree) × IsDecl ts rest d
Done (NDecls ds) ts rest = (more : List DeclTree) × IsPlaced ts more

-- reading the part stopped at the rest: what was taken, and that other tokens behind it complete the part, before any tail
pub record Stuck (n : Want) (ts rest : List Token) : Type 0 where
  pub cut : Cut ts rest
  pub ends : (tail : List Token) → (us : List Token) × Done n (cut.put us) tail

-- what is left to show of a step that stops: where it fails itself, and where a part that it asks for does
abbrev pub Unfinished : {A : Type 0} → ReadStep A → (List Token → Type 0) → Type 0
Unfinished (Give v rest) C = Unit {0}
Unfinished (Fail rest) C = C rest
Unfinished (Ask n ts k) C = ((rest : List Token) → Stuck n ts rest → C rest) × ((v : Val n) (rest : List Token) → Post n ts v rest → Unfinished (k v rest) C)

abbrev pub IfLeft : {A : Type 0} → (List Token → Type 0) → ParseOutcome A → Type 0
IfLeft C (Ok x) = Unit {0}
IfLeft C (Err (Left rest)) = C rest
IfLeft C (Err NoMemory) = Unit {0}

module _ (all : (n : Want) (ts : List Token) → Unfinished (body n ts) (Stuck n ts)) where
  pub bad_runs : {m : Want} (s : ReadStep (Val m)) (C : List Token → Type 0) (o : ParseOutcome (Val m)) → RunsTo m s o → Unfinished s C → IfLeft C o
  bad_runs s C o give u = tt
  bad_runs s C o fail u = u
  bad_runs s C o short u = tt
  bad_runs s C o (ask {n = n} {ts = ts} {rest = rest} {v = v} {k = k} a b) u = bad_runs (k v rest) C o b (u.1 v rest (sound (reads a)))
  bad_runs s C o (ask_fails {n = n} {ts = ts} {f = Left rest} a) u = u.0 rest (bad_runs (body n ts) (Stuck n ts) (Err (Left rest)) a (all n ts))
  bad_runs s C o (ask_fails {f = NoMemory} a) u = tt

-- a part that stopped behind what was taken, with these tokens behind what completes it
pub carry : {m n : Want} {ts us rest : List Token} (c : Cut ts us) (more : List Token → List Token) → Stuck n us rest
    → ((us tail : List Token) → Done n us (more tail) → Done m (c.put us) tail) → Stuck m ts rest
carry c more s f = record { cut = join c s.cut; ends = λ tail. let d = s.ends (more tail) in (d.0, f (s.cut.put d.0) tail d.1) }

-- the part itself stopped behind what was taken: these tokens complete it
pub stops : {m : Want} {ts rest : List Token} (c : Cut ts rest) (more : List Token → List Token)
    → ((tail : List Token) → Done m (c.put (more tail)) tail) → Stuck m ts rest
stops c more f = record { cut = c; ends = λ tail. (more tail, f tail) }

abbrev pub same : List Token → List Token
same ts = ts

-- tokens that complete parts
abbrev pub zero : List Token → List Token
zero ts = token (kinds.Int (pos 0)) nowhere ∷ ts

abbrev pub x_word : List Token → List Token
x_word ts = word (codes "x") nowhere ∷ ts

abbrev pub semi : List Token → List Token
semi ts = mark marks.Semi nowhere ∷ ts

abbrev pub open_round : List Token → List Token
open_round ts = mark marks.OpenRound nowhere ∷ ts

abbrev pub close_round : List Token → List Token
close_round ts = mark marks.CloseRound nowhere ∷ ts

abbrev pub open_square : List Token → List Token
open_square ts = mark marks.OpenSquare nowhere ∷ ts

abbrev pub close_square : List Token → List Token
close_square ts = mark marks.CloseSquare nowhere ∷ ts

abbrev pub open_brace : List Token → List Token
open_brace ts = mark marks.OpenBrace nowhere ∷ ts

abbrev pub close_brace : List Token → List Token
close_brace ts = mark marks.CloseBrace nowhere ∷ ts

abbrev pub dot : List Token → List Token
dot ts = mark marks.Dot nowhere ∷ ts

abbrev pub equals : List Token → List Token
equals ts = mark marks.Assign nowhere ∷ ts

abbrev pub class_key : List Token → List Token
class_key ts = key keys.Class nowhere ∷ ts
