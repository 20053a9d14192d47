-- A tree without constructors writes none in any class.
use Rattle.std.proofs.Common.{◌≡◌, false, List, [], ◌∷◌, Contains, subst, ⊎_elim}
use Rattle.std.specs.List.{list_any}
use Rattle.std.proofs.lemmas.Bool.{or_parts, true≢false}
use Rattle.kaba_base.proofs.ListLemmas.{no-member, contains_cases}
use Rattle.java_tree.specs.declared.Id.{Id}
use Rattle.java_tree.specs.Makers.{is_maker, declares_maker, has_maker}
use Rattle.java_tree.specs.Syntax.{MemberTree, FieldTree, MethodTree, MakerTree, DeclTree, ClassTree, InterfaceTree}
use Rattle.name_rules.specs.Conditions.{written_makers, makers_written}

among_members : (ms : List MemberTree) (i : Id) → list_any is_maker ms ≡ false → Contains (written_makers ms) i → ⊥
among_members [] i h c = no-member i c
among_members (FieldTree mods u n p ∷ ms) i h c = among_members ms i h c
among_members (MethodTree t b p ∷ ms) i h c = among_members ms i h c
among_members (MakerTree mods n ps up ss p ∷ ms) i h c = true≢false h

in_declaration : (d : DeclTree) (i : Id) → declares_maker d ≡ false → Contains (makers_written d) i → ⊥
in_declaration (ClassTree mods n parent faces ms p) i h c = among_members ms i h c
in_declaration (InterfaceTree mods n parents hs p) i h c = no-member i c

pub none_written : (ds : List DeclTree) → has_maker ds ≡ false → (d : DeclTree) → Contains ds d → (i : Id) → Contains (makers_written d) i → ⊥
none_written [] h d c i k = no-member d c
none_written (e ∷ ds) h d c i k =
    let z = or_parts (declares_maker e) (has_maker ds) h in
    ⊎_elim (λ same. in_declaration d i (subst (λ y. declares_maker y ≡ false) same z.0) k) (λ there. none_written ds z.1 d there i k) (contains_cases e ds d c)
