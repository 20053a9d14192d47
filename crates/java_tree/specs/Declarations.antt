-- Believed. The grammar of declarations and programs, one case for each line of it.
use Rattle.std.specs.Prelude.{◌≡◌, ℕ, List, [], ◌∷◌, Bool, true, Option, Some, None}
use Rattle.kaba_base.specs.declared.Place.{Place}
use Rattle.kaba_base.specs.declared.words.Keyword.{Keyword}
use Rattle.kaba_base.specs.declared.words.Keyword.TheVariants as keys
use Rattle.java_lex.specs.declared.Token.{Token}
use Rattle.java_lex.specs.declared.Mark.TheVariants as marks
use Rattle.java_tree.specs.declared.Id.{Id}
use Rattle.java_tree.specs.declared.Modifier.{Modifier}
use Rattle.java_tree.specs.declared.TypeName.{TypeName}
use Rattle.java_tree.specs.declared.Param.{Param}
use Rattle.java_tree.specs.Syntax.{Expressions, Statements, HeadTree, MemberTree, FieldTree, MethodTree, MakerTree, DeclTree, ClassTree, InterfaceTree}
use Rattle.java_tree.specs.Places.{unplaced}
use Rattle.java_tree.specs.Tokens.{mark, key, word, is_modifier}
use Rattle.java_tree.specs.Expressions.{IsType, IsArgs}
use Rattle.java_tree.specs.Statements.{IsFinal, IsItems}

-- mods = { public | protected | private | abstract | static | final }
pub data IsMods : List Token → List Token → List Modifier → Type 0 where
  no_mods : {ts : List Token} → IsMods ts ts []
  next_mod : {k : Keyword} {p : Place} {ms : List Modifier} {ts rest : List Token} → is_modifier k ≡ true → IsMods ts rest ms →
      IsMods (key k p ∷ ts) rest (record { word = k; place = p } ∷ ms)

-- ids = ID { "," ID }
pub data IsIds : List Token → List Token → List Id → Type 0 where
  last_id : {n : List ℕ} {p : Place} {rest : List Token} → IsIds (word n p ∷ rest) rest (record { name = n; place = p } ∷ [])
  next_id : {n : List ℕ} {p q : Place} {is : List Id} {ts rest : List Token} → IsIds ts rest is →
      IsIds (word n p ∷ mark marks.Comma q ∷ ts) rest (record { name = n; place = p } ∷ is)

-- ["extends" ID]
pub data IsParent : List Token → List Token → Option Id → Type 0 where
  no_parent : {ts : List Token} → IsParent ts ts None
  a_parent : {n : List ℕ} {p q : Place} {rest : List Token} → IsParent (key keys.Extends q ∷ word n p ∷ rest) rest (Some (record { name = n; place = p }))

-- ["implements" ids], and ["extends" ids] of an interface
pub data IsList : Keyword → List Token → List Token → List Id → Type 0 where
  no_list : {k : Keyword} {ts : List Token} → IsList k ts ts []
  a_list : {k : Keyword} {p : Place} {is : List Id} {ts rest : List Token} → IsIds ts rest is → IsList k (key k p ∷ ts) rest is

-- ["final"] type ID
pub data IsParam : List Token → List Token → Param → Type 0 where
  a_param : {f : Bool} {t : TypeName} {n : List ℕ} {p : Place} {ts us rest : List Token} → IsFinal ts us f → IsType us (word n p ∷ rest) t →
      IsParam ts rest (record { is_final = f; ty = t; name = n; place = p })

-- { "," param }, and the bracket that closes them
pub data IsMoreParams : List Token → List Token → List Param → Type 0 where
  last_param : {p : Place} {rest : List Token} → IsMoreParams (mark marks.CloseRound p ∷ rest) rest []
  next_param : {q : Param} {qs : List Param} {p : Place} {ts us rest : List Token} → IsParam ts us q → IsMoreParams us rest qs →
      IsMoreParams (mark marks.Comma p ∷ ts) rest (q ∷ qs)

-- params = [ param { "," param } ], and the bracket that closes them: none, or a first one and those behind commas
pub data IsParams : List Token → List Token → List Param → Type 0 where
  no_params : {p : Place} {rest : List Token} → IsParams (mark marks.CloseRound p ∷ rest) rest []
  some_params : {q : Param} {qs : List Param} {ts us rest : List Token} → IsParam ts us q → IsMoreParams us rest qs → IsParams ts rest (q ∷ qs)

-- type | "void"
pub data IsResult : List Token → List Token → Option TypeName → Type 0 where
  no_result : {p : Place} {rest : List Token} → IsResult (key keys.Void p ∷ rest) rest None
  a_result : {t : TypeName} {ts rest : List Token} → IsType ts rest t → IsResult ts rest (Some t)

-- head = mods (type | "void") ID "(" params ")"
pub data IsHead : List Token → List Token → HeadTree → Type 0 where
  a_head : {ms : List Modifier} {r : Option TypeName} {n : List ℕ} {ps : List Param} {p q : Place} {ts us vs rest : List Token} →
      IsMods ts us ms → IsResult us (word n p ∷ mark marks.OpenRound q ∷ vs) r → IsParams vs rest ps →
      IsHead ts rest (record { mods = ms; type = r; name = n; params = ps; place = p })

-- block | ";"
pub data IsBody : List Token → List Token → Option Statements → Type 0 where
  no_body : {p : Place} {rest : List Token} → IsBody (mark marks.Semi p ∷ rest) rest None
  a_body : {ss : Statements} {p : Place} {us rest : List Token} → IsItems us rest ss → IsBody (mark marks.OpenBrace p ∷ us) rest (Some ss)

-- ["super" "(" args ")" ";"]
pub data IsUp : List Token → List Token → Option Expressions → Type 0 where
  no_up : {ts : List Token} → IsUp ts ts None
  an_up : {es : Expressions} {p q r : Place} {us rest : List Token} → IsArgs us (mark marks.Semi r ∷ rest) es →
      IsUp (key keys.Super p ∷ mark marks.OpenRound q ∷ us) rest (Some es)

-- member = mods type ID ";" | head (block | ";") | mods ID "(" params ")" "{" ["super" "(" args ")" ";"] {item} "}"
pub data IsMember : List Token → List Token → MemberTree → Type 0 where
  a_field : {ms : List Modifier} {t : TypeName} {n : List ℕ} {p q : Place} {ts us rest : List Token} → IsMods ts us ms →
      IsType us (word n p ∷ mark marks.Semi q ∷ rest) t → IsMember ts rest (FieldTree ms t n p)
  a_method : {h : HeadTree} {b : Option Statements} {ts us rest : List Token} → IsHead ts us h → IsBody us rest b → IsMember ts rest (MethodTree h b h.place)
  a_maker : {ms : List Modifier} {n : List ℕ} {qs : List Param} {u : Option Expressions} {ss : Statements} {p q r : Place} {ts us vs ws rest : List Token} →
      IsMods ts (word n p ∷ mark marks.OpenRound q ∷ us) ms → IsParams us (mark marks.OpenBrace r ∷ vs) qs → IsUp vs ws u → IsItems ws rest ss →
      IsMember ts rest (MakerTree ms n qs u ss p)

-- {member} "}"
pub data IsMembers : List Token → List Token → List MemberTree → Type 0 where
  no_members : {p : Place} {rest : List Token} → IsMembers (mark marks.CloseBrace p ∷ rest) rest []
  next_member : {m : MemberTree} {ms : List MemberTree} {ts us rest : List Token} → IsMember ts us m → IsMembers us rest ms → IsMembers ts rest (m ∷ ms)

-- {head ";"} "}"
pub data IsHeads : List Token → List Token → List HeadTree → Type 0 where
  no_heads : {p : Place} {rest : List Token} → IsHeads (mark marks.CloseBrace p ∷ rest) rest []
  next_head : {h : HeadTree} {hs : List HeadTree} {p : Place} {ts us rest : List Token} → IsHead ts (mark marks.Semi p ∷ us) h → IsHeads us rest hs →
      IsHeads ts rest (h ∷ hs)

-- a class or an interface; the place of its tree is that of its name
pub data IsDecl : List Token → List Token → DeclTree → Type 0 where
  -- mods "class" ID ["extends" ID] ["implements" ids] "{" {member} "}"
  a_class : {ms : List Modifier} {n : List ℕ} {c : Option Id} {fs : List Id} {bs : List MemberTree} {p q r : Place} {ts us vs ws rest : List Token} →
      IsMods ts (key keys.Class q ∷ word n p ∷ us) ms → IsParent us vs c → IsList keys.Implements vs (mark marks.OpenBrace r ∷ ws) fs → IsMembers ws rest bs →
      IsDecl ts rest (ClassTree ms n c fs bs p)
  -- mods "interface" ID ["extends" ids] "{" {head ";"} "}"
  an_interface : {ms : List Modifier} {n : List ℕ} {fs : List Id} {hs : List HeadTree} {p q r : Place} {ts us ws rest : List Token} →
      IsMods ts (key keys.Interface q ∷ word n p ∷ us) ms → IsList keys.Extends us (mark marks.OpenBrace r ∷ ws) fs → IsHeads ws rest hs →
      IsDecl ts rest (InterfaceTree ms n fs hs p)

-- program = { decl }. The tree has the places of its tokens
pub data IsPlaced : List Token → List DeclTree → Type 0 where
  no_decls : IsPlaced [] []
  next_decl : {d : DeclTree} {ds : List DeclTree} {ts us : List Token} → IsDecl ts us d → IsPlaced us ds → IsPlaced ts (d ∷ ds)

-- the tokens derive the tree, places aside
pub record Derives (ts : List Token) (tree : List DeclTree) : Type 0 where
  pub placed : List DeclTree
  pub derived : IsPlaced ts placed
  pub same : unplaced placed ≡ unplaced tree
