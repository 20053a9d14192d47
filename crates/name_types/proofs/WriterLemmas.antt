-- Which classes have a constructor without writing one: the marks and the superclasses tell what the tree says.
use Rattle.std.proofs.Common.{◌≡◌, ℕ, zero, suc, ◌+◌, ◌<◌, ◌||◌, Bool, List, [], ◌∷◌, length, drop, get_or, Option, Some, None, refl, sym, ap, ◌∙◌}
use Rattle.std.specs.Prelude.{slice_get, option_and_then, if◌then◌else◌, is_some}
use Rattle.std.specs.List.{list_any}
use Rattle.std.specs.Option.{option_map}
use Rattle.std.proofs.lemmas.Option.{slice_get-map}
use Rattle.kaba_base.specs.declared.ClassId.{ClassId}
use Rattle.kaba_base.proofs.ListLemmas.{drop_at}
use Rattle.java_tree.specs.declared.Member.{Member}
use Rattle.java_tree.specs.declared.Decl.{Decl}
use Rattle.java_tree.specs.Syntax.{DeclTree, member_of, members, decl_of, decls}
use Rattle.java_tree.specs.Makers.{is_maker, declares_maker}
use Rattle.java_core.specs.Programs.{Plain, PlainClass}
use Rattle.java_core.specs.Classes.{first_or, parent_of, nearest, nearest_of}
use Rattle.java_core.specs.Subtypes.{of_classes}
use Rattle.name_rules.specs.Outline.{writes_at, writer_of, classes_alone}
use Rattle.name_laws.specs.Members.{Members, with_implied}
use Rattle.name_types.specs.Writers.{writer_at, writers_in, with_maker}

pub of_members : (ms : List Member) → list_any is_maker (members ms) ≡ list_any (λ m. is_maker (member_of m)) ms
of_members [] = refl
of_members (m ∷ ms) = ap (λ b. is_maker (member_of m) || b) (of_members ms)

-- the marks are those of the tree
marks_told : (tree : List DeclTree) (c : ℕ) → writer_at (writers_in tree) c ≡ writes_at tree c
marks_told tree zero = refl
marks_told tree (suc k) = ap (option_and_then (λ b. if b then Some (suc k) else None)) (slice_get-map declares_maker tree k) ∙ go (slice_get tree k)
  where
    go : (o : Option DeclTree) → option_and_then (λ b. if b then Some (suc k) else None) (option_map declares_maker o)
        ≡ option_and_then (λ d. if declares_maker d then Some (suc k) else None) o
    go None = refl
    go (Some d) = refl

-- what is nearest goes by what each class has
nearest_same : (P : Plain) (f g : ℕ → Option ℕ) → ((k : ℕ) → f k ≡ g k) → (n c : ℕ) → nearest P f n c ≡ nearest P g n c
nearest_same P f g same zero c = same c
nearest_same P f g same (suc n) c = ap (λ o. first_or o (option_and_then (λ p. nearest P f n p.0) (parent_of P c))) (same c) ∙ go (λ k. nearest_same P f g same n k) (parent_of P c)
  where
    go : ((k : ℕ) → nearest P f n k ≡ nearest P g n k) → (q : Option ClassId)
        → first_or (g c) (option_and_then (λ p. nearest P f n p.0) q) ≡ first_or (g c) (option_and_then (λ p. nearest P g n p.0) q)
    go below None = refl
    go below (Some p) = ap (first_or (g c)) (below p.0)

-- the classes and the marks tell which class above writes a constructor
pub writer_told : (tree : List DeclTree) (cs : List PlainClass) (ws : List Bool) (c : ℕ) → cs ≡ (classes_alone tree).classes → ws ≡ writers_in tree
    → nearest_of (of_classes cs) (writer_at ws) c ≡ writer_of tree c
writer_told tree cs ws c are marks =
    ap (λ z. nearest_of (of_classes z) (writer_at ws) c) are ∙ ap (λ z. nearest_of (classes_alone tree) (writer_at z) c) marks
    ∙ nearest_same (classes_alone tree) (writer_at (writers_in tree)) (writes_at tree) (marks_told tree) (length (classes_alone tree).classes) c

-- one constructor more that is not written
pub implied_next : (tree : List DeclTree) (list : List Decl) (n : ℕ) (d : Decl) (k next : ℕ) (m more : Members) (above : Bool) (o : ℕ × Members)
    → n < length list → d ≡ get_or list n d → above ≡ is_some (writer_of tree k) → with_maker above k m (decl_of d) ≡ more → k + 1 ≡ next
    → with_implied tree (k, m) (decls (drop n list)) ≡ o → with_implied tree (next, more) (decls (drop (n + 1) list)) ≡ o
implied_next tree list n d k next m more above o below at told given after before =
    let rest = decls (drop (n + 1) list) in
    sym (ap (λ a. with_implied tree (k + 1, with_maker a k m (decl_of d)) rest) (sym told) ∙ ap (λ z. with_implied tree (k + 1, z) rest) given
    ∙ ap (λ j. with_implied tree (j, more) rest) after)
    ∙ ap (λ z. with_implied tree (k, m) (decls z)) (sym (drop_at list n d below at))
    ∙ before
