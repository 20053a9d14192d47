-- What a text is, from what each part of the reading gave.
use Rattle.std.proofs.Common.{◌≡◌, inl, inr, ℕ, ◌≤◌, List, Result, Ok, Err, IfOk, sym, subst, codes}
use Rattle.std.specs.declared.alloc.AllocError.{AllocError}
use Rattle.kaba_base.specs.declared.Place.{Place}
use Rattle.java_lex.specs.declared.Token.{Token}
use Rattle.java_lex.specs.declared.LexFault.{LexFault}
use Rattle.java_lex.specs.declared.LexFault.TheVariants as lexing
use Rattle.java_lex.specs.Lexing.{tokens_of, GivesTokens}
use Rattle.java_tree.specs.Nesting as nesting
use Rattle.java_tree.specs.Syntax.{DeclTree}
use Rattle.java_tree.specs.Declarations.{IsPlaced}
use Rattle.java_parse.specs.Beginnings.{IsExact}
use Rattle.java_core.specs.declared.Program.{Program}
use Rattle.java_core.specs.Programs.{program_of}
use Rattle.java_core.specs.Typing.{IsTyped}
use Rattle.name_rules.specs.declared.Refusal.{Refusal}
use Rattle.name_rules.specs.declared.Refusal.TheVariants as naming
use Rattle.name_rules.specs.Conditions.{ConditionAt}
use Rattle.name_rules.specs.Causes.{IsCause}
use Rattle.java_check.specs.declared.Kind.{Kind}
use Rattle.java_check.specs.declared.CheckFault.TheVariants.{IllTyped}
use Rattle.java_check.specs.Fails.{IsRefused}
use Rattle.kaba_top.specs.declared.reply.Reply.{Reply}
use Rattle.kaba_top.specs.declared.reading.Reading.{Reading}
use Rattle.kaba_top.specs.declared.reading.Reading.TheVariants as readings
use Rattle.kaba_top.specs.Lines.{Says}
use Rattle.kaba_top.specs.TextPrograms.{IsTypedText, most_nesting}
use Rattle.kaba_top.specs.Reading.{IsRefusedText, TextAnswers, IsOfText, IsOfTree, refused, at_token, lex_text, naming_text, typing_text, line_of}
use Rattle.kaba_top.specs.Readings.{IsProgramReading, IsReadingOfProgram, IsResolved, IsReadingOfTree}

lexed_fault : (fault : LexFault) (bytes : List ℕ) → IsOfText fault → GivesTokens (Err fault) (tokens_of bytes) → tokens_of bytes ≡ Err fault
lexed_fault lexing.Memory bytes t h = absurd t
lexed_fault _ bytes t h = h

named_cause : (r : Refusal) (tree : List DeclTree) → IsOfTree r → IsCause tree r → ConditionAt tree r
named_cause naming.Memory tree t h = absurd t
named_cause _ tree t h = h

-- a text without tokens, one that nests too deep, and one that has no tree
pub no_tokens : (bytes : List ℕ) (fault : LexFault) (reply : Reply) → GivesTokens (Err fault) (tokens_of bytes) → IsOfText fault
    × Says 65 (refused (lex_text fault)) reply.status reply.out.items reply.err.items → IsProgramReading bytes (readings.Refused reply)
unfolding IsRefusedText
no_tokens bytes fault reply h s = inl (record { fault = fault; lexed = lexed_fault fault bytes s.0 h; says = s.1 })

pub too_deep : (bytes : List ℕ) (tokens : List Token) (k : ℕ) (reply : Reply) → tokens_of bytes ≡ Ok tokens → nesting.IsTooDeep tokens k
    → Says 65 (refused (at_token (codes "TooDeep") k (line_of bytes k tokens))) reply.status reply.out.items reply.err.items
    → IsProgramReading bytes (readings.Refused reply)
unfolding IsRefusedText
too_deep bytes tokens k reply h d s = inr (inl (record { tokens = tokens; lexed = h; token = k; deep = d; says = s }))

pub no_tree : (bytes : List ℕ) (tokens : List Token) (k : ℕ) (reply : Reply) → tokens_of bytes ≡ Ok tokens
    → (nesting.nesting_of tokens ≤ most_nesting) × IsExact tokens k
    → Says 65 (refused (at_token (codes "NotAProgram") k (line_of bytes k tokens))) reply.status reply.out.items reply.err.items
    → IsProgramReading bytes (readings.Refused reply)
unfolding IsRefusedText
no_tree bytes tokens k reply h w s = inr (inr (inl (record { tokens = tokens; lexed = h; nested = w.0; token = k; why = w.1; says = s })))

-- a program that is not typed
pub ill_typed : (program : Program) (kind : Kind) (place : Place) (reply : Reply) → IsRefused (program_of program) (IllTyped kind place)
    → (IsTyped (program_of program) → ⊥) → Says 65 (refused (typing_text kind place)) reply.status reply.out.items reply.err.items
    → IsReadingOfProgram program (readings.Refused reply)
unfolding IsRefused
ill_typed program kind place reply f n s = record { untyped = n; kind = kind; place = place; fails = f; says = s }

-- what is known of the program is known of the tree that it is of
of_program : (tree : List DeclTree) (program : Program) (reading : Reading) → IsResolved tree program → IsReadingOfProgram program reading
    → IsReadingOfTree tree reading
of_program tree program (readings.Typed same) h t =
    record { resolved = subst (IsResolved tree) (sym t.0) h; typed = subst (λ p. IsTyped (program_of p)) (sym t.0) t.1 }
of_program tree program (readings.Refused reply) h t = inr (record { program = program; resolved = h; ill = t })

pub resolved_as : (tree : List DeclTree) (program : Program) (r : Result Reading AllocError) → IsResolved tree program
    → IfOk r (λ reading. IsReadingOfProgram program reading) → IfOk r (λ reading. IsReadingOfTree tree reading)
resolved_as tree program (Err e) h t = tt
resolved_as tree program (Ok reading) h t = of_program tree program reading h t

pub unresolved : (tree : List DeclTree) (why : Refusal) (reply : Reply) → IsCause tree why → IsOfTree why
    × Says 65 (refused (naming_text why)) reply.status reply.out.items reply.err.items → IsReadingOfTree tree (readings.Refused reply)
unresolved tree why reply h s = inl (record { why = why; condition = named_cause why tree s.0 h; says = s.1 })

-- what is known of the tree is known of the bytes that are read as it
of_tree : (bytes : List ℕ) (tokens : List Token) (tree : List DeclTree) (reading : Reading) → tokens_of bytes ≡ Ok tokens
    → nesting.nesting_of tokens ≤ most_nesting → IsPlaced tokens tree → IsReadingOfTree tree reading → IsProgramReading bytes reading
unfolding IsRefusedText
of_tree bytes tokens tree (readings.Typed program) h d p t =
    record {
      tree = tree;
      has = record {
        read = record { tokens = tokens; lexed = h; nested = d; placed = p };
        resolves = t.resolved.resolves;
        none = t.resolved.none;
      };
      formed = t.resolved.formed;
      typed = t.typed;
    }
of_tree bytes tokens tree (readings.Refused reply) h d p (inl u) =
    inr (inr (inr (inl (record {
      tree = tree;
      read = record { tokens = tokens; lexed = h; nested = d; placed = p };
      why = u.why;
      condition =
          u.condition;
      says = u.says;
    }))))
of_tree bytes tokens tree (readings.Refused reply) h d p (inr u) =
    inr (inr (inr (inr (record {
      tree = tree;
      program = u.program;
      has = record {
        read = record { tokens = tokens; lexed = h; nested = d; placed = p };
        resolves = u.resolved.resolves;
        none = u.resolved.none;
      };
      untyped = u.ill.untyped;
      kind = u.ill.kind;
      place = u.ill.place;
      fails = u.ill.fails;
      says = u.ill.says;
    }))))

pub read_as : (bytes : List ℕ) (tokens : List Token) (tree : List DeclTree) (r : Result Reading AllocError) → tokens_of bytes ≡ Ok tokens
    → nesting.nesting_of tokens ≤ most_nesting → IsPlaced tokens tree → IfOk r (λ reading. IsReadingOfTree tree reading)
    → IfOk r (λ reading. IsProgramReading bytes reading)
read_as bytes tokens tree (Err e) h d p t = tt
read_as bytes tokens tree (Ok reading) h d p t = of_tree bytes tokens tree reading h d p t

-- the answers for the bytes of a typed program
pub answers : (K : Program → ℕ → List ℕ → List ℕ → Type 0) (bytes : List ℕ) (program : Program) (r : Result Reply AllocError)
    → IsTypedText bytes (program_of program) → IfOk r (λ reply. K program reply.status reply.out.items reply.err.items)
    → IfOk r (λ reply. TextAnswers K bytes reply.status reply.out.items reply.err.items)
answers K bytes program (Err e) h k = tt
answers K bytes program (Ok reply) h k = inr (record { program = program; is = h; answers = k })
