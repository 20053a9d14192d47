-- The program of a sample's text declares no interface.
use Rattle.std.proofs.Common.{◌≡◌, ℕ, ◌≤◌, Bool, false, List, [], ◌∷◌, ◌++◌, ◌||◌, map, refl, ap, sym, ◌∙◌, subst}
use Rattle.std.specs.List.{list_any, range_with_len}
use Rattle.java_tree.specs.Syntax.{DeclTree, ClassTree, InterfaceTree}
use Rattle.java_tree.specs.Places.{unplaced}
use Rattle.java_tree.specs.Declarations.{IsPlaced}
use Rattle.java_tree.specs.Formed.{IsReadAs}
use Rattle.java_tree.proofs.Gives.{given_formed}
use Rattle.java_parse.proofs.CompleteDeclarations.{one_derived}
use Rattle.java_print.proofs.DeclParsed.{text_read}
use Rattle.java_core.specs.declared.Program.{Program}
use Rattle.java_core.specs.Programs.{Plain, PlainClass, program_of}
use Rattle.name_rules.specs.Outline.{is_interface_of, class_outline, outline, types_in}
use Rattle.kaba_work.specs.Sample.{class_tree, main_tree, sample_tree}
use Rattle.kaba_work.proofs.FormedTree.{sample_given}
use Rattle.kaba_top.specs.TextPrograms.{IsTypedText}
use Rattle.kaba_top.specs.Fresh.{DeclaresNoInterface}
use Rattle.kaba_top.specs.MakeAnswers.{sample_text}

-- whether a tree declares an interface
abbrev declares : List DeclTree → Bool
declares ds = list_any is_interface_of ds

-- it does without its places
declares_aside : (ds : List DeclTree) → declares (unplaced ds) ≡ declares ds
declares_aside [] = refl
declares_aside (ClassTree ms n c fs bs p ∷ ds) = declares_aside ds
declares_aside (InterfaceTree ms n fs hs p ∷ ds) = refl

-- and so does its program
outlined : (types : List (List ℕ)) (ds : List DeclTree) → list_any (λ (k : PlainClass). k.is_interface) (map (class_outline types) ds) ≡ declares ds
outlined types [] = refl
outlined types (d ∷ ds) = ap (λ b. is_interface_of d || b) (outlined types ds)

in_outline : (ds : List DeclTree) → list_any (λ (k : PlainClass). k.is_interface) (outline ds).classes ≡ declares ds
unfolding outline
in_outline ds = outlined (types_in ds) ds

-- a sample declares none
none_among : (n : ℕ) (is : List ℕ) → declares (map class_tree is ++ main_tree n ∷ []) ≡ false
none_among n [] = refl
none_among n (i ∷ is) = none_among n is

none_in_sample : (n : ℕ) → declares (sample_tree n) ≡ false
unfolding sample_tree
none_in_sample n = none_among n (range_with_len 0 n)

-- a text is read as one tree, places aside
one_tree : (bytes : List ℕ) (tree : List DeclTree) (program : Plain) → IsReadAs bytes tree → (is : IsTypedText bytes program)
    → unplaced is.tree ≡ unplaced tree
one_tree bytes tree program read is =
    let r = is.has.read in
    let same : r.tokens ≡ read.tokens = cc (sym r.lexed ∙ read.lexed) in
    one_derived read.tokens is.tree tree
    (record { placed = is.tree; derived = subst (λ ts. IsPlaced ts is.tree) same r.placed; same = refl }) read.derived

-- so the program that is read of a sample's text declares none
pub sample_classes : (n : ℕ) → n ≤ 100 → (program : Program) → IsTypedText (sample_text n) (program_of program) → DeclaresNoInterface program
sample_classes n most program is =
    let tree = sample_tree n in
    let read : IsReadAs (sample_text n) tree = text_read tree (given_formed tree (sample_given n most)) in
    ap (list_any (λ (k : PlainClass). k.is_interface)) is.has.resolves.classes
    ∙ in_outline is.tree
    ∙ sym (declares_aside is.tree)
    ∙ ap declares (one_tree (sample_text n) tree (program_of program) read is)
    ∙ declares_aside tree
    ∙ none_in_sample n
