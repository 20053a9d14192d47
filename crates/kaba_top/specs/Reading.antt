-- Believed. What is answered where the bytes of a file are no typed program, and what follows where they are one.
use Rattle.std.specs.Prelude.{◌≡◌, ◌⊎◌, ℕ, ◌+◌, ◌-◌, ◌≤◌, ◌==◌, List, [], ◌++◌, length, take, count_by, Ok, Err, codes, Option, Some, None, slice_get}
use Rattle.std.specs.Fmt.{decimal}
use Rattle.std.specs.Str.{encode_utf8_all}
use Rattle.kaba_base.specs.declared.Place.{Place}
use Rattle.java_lex.specs.declared.Token.{Token}
use Rattle.java_lex.specs.declared.LexFault.{LexFault}
use Rattle.java_lex.specs.declared.LexFault.TheVariants as lexing
use Rattle.java_lex.specs.Lexing.{tokens_of}
use Rattle.java_tree.specs.Nesting as nesting
use Rattle.java_tree.specs.Syntax.{DeclTree}
use Rattle.java_parse.specs.Beginnings.{IsExact}
use Rattle.java_core.specs.declared.Program.{Program}
use Rattle.java_core.specs.Programs.{program_of}
use Rattle.java_core.specs.Typing.{IsTyped}
use Rattle.name_rules.specs.declared.Refusal.{Refusal}
use Rattle.name_rules.specs.declared.Refusal.TheVariants as naming
use Rattle.name_rules.specs.Conditions.{ConditionAt}
use Rattle.java_check.specs.declared.Kind.{Kind}
use Rattle.java_check.specs.Fails.{FailsIn}
use Rattle.kaba_top.specs.declared.cause_words.Cause.TheVariants as cause
use Rattle.kaba_top.specs.CauseWords.{cause_text}
use Rattle.kaba_top.specs.Lines.{Says}
use Rattle.kaba_top.specs.TextPrograms.{most_nesting, IsParsedAs, HasProgram, IsTypedText}

-- the text of a refusal
abbrev pub refused : List ℕ → List ℕ
refused why = codes "refused: " ++ why

-- KIND at BYTE line L
abbrev pub at_byte : List ℕ → Place → List ℕ
at_byte kind p = kind ++ (codes " at " ++ (decimal p.at ++ (codes " line " ++ decimal p.line)))

-- KIND at token K line L
abbrev pub at_token : List ℕ → ℕ → ℕ → List ℕ
at_token kind k l = kind ++ (codes " at token " ++ (decimal k ++ (codes " line " ++ decimal l)))

-- KIND NAME line L
abbrev pub on_name : List ℕ → List ℕ → Place → List ℕ
on_name kind name p = kind ++ (codes " " ++ (encode_utf8_all name ++ (codes " line " ++ decimal p.line)))

-- KIND WHAT line L
abbrev pub on_what : List ℕ → List ℕ → Place → List ℕ
on_what kind what p = kind ++ (codes " " ++ (what ++ (codes " line " ++ decimal p.line)))

-- the text of why a file has no tokens: the kind of the fault and its place; empty for want of memory
abbrev pub lex_text : LexFault → List ℕ
lex_text (lexing.BadByte p) = at_byte (codes "BadByte") p
lex_text (lexing.OpenComment p) = at_byte (codes "OpenComment") p
lex_text (lexing.OpenString p) = at_byte (codes "OpenString") p
lex_text (lexing.BigLiteral p) = at_byte (codes "BigLiteral") p
lex_text lexing.Memory = []

-- the line of the text's last byte, 1 where there is none
abbrev pub last_line : List ℕ → ℕ
last_line bytes = 1 + count_by (λ b. b == 10) (take (length bytes - 1) bytes)

-- the line of the token that was found, or of the text's last byte where there is none
abbrev pub line_at : List ℕ → Option Token → ℕ
line_at bytes (Some t) = t.place.line
line_at bytes None = last_line bytes

-- the line of the token k, or of the text's last byte where tokens ended
abbrev pub line_of : List ℕ → ℕ → List Token → ℕ
line_of bytes k tokens = line_at bytes (slice_get tokens k)

-- the fault or the refusal is not want of memory
abbrev pub IsOfText : LexFault → Type 0
IsOfText (lexing.BadByte p) = Unit {0}
IsOfText (lexing.OpenComment p) = Unit {0}
IsOfText (lexing.OpenString p) = Unit {0}
IsOfText (lexing.BigLiteral p) = Unit {0}
IsOfText lexing.Memory = ⊥

-- the refusal of a tree's names is not want of memory
abbrev pub IsOfTree : Refusal → Type 0
IsOfTree (naming.Unknown name p) = Unit {0}
IsOfTree (naming.Twice name p) = Unit {0}
IsOfTree (naming.Loop name p) = Unit {0}
IsOfTree (naming.Overload name p) = Unit {0}
IsOfTree (naming.TwoKinds name p) = Unit {0}
IsOfTree (naming.PrivateReused name p) = Unit {0}
IsOfTree naming.NoMain = Unit {0}
IsOfTree (naming.NotInProfile form p) = Unit {0}
IsOfTree naming.Memory = ⊥

-- the text of why a tree's names are refused; empty for want of memory
abbrev pub naming_text : Refusal → List ℕ
naming_text (naming.Unknown name p) = on_name (codes "Unknown") name p
naming_text (naming.Twice name p) = on_name (codes "Twice") name p
naming_text (naming.Loop name p) = on_name (codes "Loop") name p
naming_text (naming.Overload name p) = on_name (codes "Overload") name p
naming_text (naming.TwoKinds name p) = on_name (codes "TwoKinds") name p
naming_text (naming.PrivateReused name p) = on_name (codes "PrivateReused") name p
naming_text naming.NoMain = codes "NoMain"
naming_text (naming.NotInProfile form p) = on_what (codes "NotInProfile") (cause_text (cause.Form form)) p
naming_text naming.Memory = []

-- the text of the rule of types that a program breaks, and its line
abbrev pub typing_text : Kind → Place → List ℕ
typing_text kind p = on_what (codes "IllTyped") (cause_text (cause.Rule kind)) p

-- the text has no tokens
pub record IsNoTokens (bytes : List ℕ) (status : ℕ) (out err : List ℕ) : Type 0 where
  pub fault : LexFault
  pub lexed : tokens_of bytes ≡ Err fault
  pub says : Says 65 (refused (lex_text fault)) status out err

-- the nesting of the tokens is too deep, and first so behind the token k
pub record IsTooDeepText (bytes : List ℕ) (status : ℕ) (out err : List ℕ) : Type 0 where
  pub tokens : List Token
  pub lexed : tokens_of bytes ≡ Ok tokens
  pub token : ℕ
  pub deep : nesting.IsTooDeep tokens token
  pub says : Says 65 (refused (at_token (codes "TooDeep") token (line_of bytes token tokens))) status out err

-- the tokens derive no tree, and this is the first that cannot stand where it does, or their count
pub record IsNoTree (bytes : List ℕ) (status : ℕ) (out err : List ℕ) : Type 0 where
  pub tokens : List Token
  pub lexed : tokens_of bytes ≡ Ok tokens
  pub nested : nesting.nesting_of tokens ≤ most_nesting
  pub token : ℕ
  pub why : IsExact tokens token
  pub says : Says 65 (refused (at_token (codes "NotAProgram") token (line_of bytes token tokens))) status out err

-- a condition that refuses names holds of the tree at the place named
pub record IsUnresolved (bytes : List ℕ) (status : ℕ) (out err : List ℕ) : Type 0 where
  pub tree : List DeclTree
  pub read : IsParsedAs bytes tree
  pub why : Refusal
  pub condition : ConditionAt tree why
  pub says : Says 65 (refused (naming_text why)) status out err

-- the program of the text is not typed: a rule of types fails in it at the place named
pub record IsUntyped (bytes : List ℕ) (status : ℕ) (out err : List ℕ) : Type 0 where
  pub tree : List DeclTree
  pub program : Program
  pub has : HasProgram bytes tree (program_of program)
  pub untyped : IsTyped (program_of program) → ⊥
  pub kind : Kind
  pub place : Place
  pub fails : FailsIn (program_of program) kind place
  pub says : Says 65 (refused (typing_text kind place)) status out err

-- the text is refused
unfoldable pub IsRefusedText : List ℕ → ℕ → List ℕ → List ℕ → Type 0
IsRefusedText bytes status out err = IsNoTokens bytes status out err
    ⊎ (IsTooDeepText bytes status out err ⊎ (IsNoTree bytes status out err ⊎ (IsUnresolved bytes status out err ⊎ IsUntyped bytes status out err)))

-- the text is that of a typed program, for which there is this answer
pub record IsAnsweredText (K : Program → ℕ → List ℕ → List ℕ → Type 0) (bytes : List ℕ) (status : ℕ) (out err : List ℕ) : Type 0 where
  pub program : Program
  pub is : IsTypedText bytes (program_of program)
  pub answers : K program status out err

-- the answers for the bytes of a file, where K are those for its program
abbrev pub TextAnswers : (Program → ℕ → List ℕ → List ℕ → Type 0) → List ℕ → ℕ → List ℕ → List ℕ → Type 0
TextAnswers K bytes status out err = IsRefusedText bytes status out err ⊎ IsAnsweredText K bytes status out err
