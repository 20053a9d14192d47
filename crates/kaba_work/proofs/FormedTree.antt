-- A sample is a tree such as the grammar gives.
use Rattle.std.proofs.Common.{◌≡◌, ℕ, zero, suc, ◌+◌, ◌^◌, ◌<◌, ◌≤◌, List, [], ◌∷◌, ◌++◌, map, Some, None, refl, sym, ap, ◌∙◌, subst, arith}
use Rattle.std.specs.Prelude.{pos, codes}
use Rattle.std.specs.List.{range_with_len, flat_map}
use Rattle.java_tree.specs.Syntax.{IntLit, and_then, MethodTree, ClassTree}
use Rattle.java_tree.specs.Places.{stmts_unplaced, decl_unplaced, unplaced}
use Rattle.java_tree.specs.Formed.{Each, IsFormedExpression, a_small, AreFormedStmts, IsFormedMember, IsFormedParent, IsFormedDecl, IsFormedTree, IsGiven}
use Rattle.java_print.proofs.DeclParsed.{formed_given}
use Rattle.kaba_work.specs.Sample.{nowhere, field_name, own_field, extra, total, method_tree, parent_named, class_tree, steps, creation, setting, printing, statements, main_head, main_body, main_tree, sample_tree}
use Rattle.kaba_work.proofs.Words.{AreWords, words, method_word, main_words}

each_append : {A : Type 0} (P : A → Type 0) (xs ys : List A) → Each P xs → Each P ys → Each P (xs ++ ys)
each_append P [] ys h k = k
each_append P (x ∷ xs) ys h k = (h.0, each_append P xs ys h.1 k)

each_mapped : {A : Type 0} (P : A → Type 0) (f : ℕ → A) (a n : ℕ) → ((i : ℕ) → i < a + n → P (f i)) → Each P (map f (range_with_len a n))
each_mapped P f a zero h = tt
each_mapped P f a (suc n) h = (h a (omega arith), each_mapped P f (a + 1) n (λ i k. h i (omega (arith, k))))

few : (i : ℕ) → i < 100 → AreWords i
few i h = words i (omega (arith, h))

number : (i : ℕ) → i ≤ 100 → IsFormedExpression (IntLit (pos i) nowhere)
number i h = a_small (record { value = i; is = refl; small = omega (arith, h) })

total_formed : (i : ℕ) → i < 100 → IsFormedExpression (total i)
total_formed zero h = (tt, (few 0 h).field)
total_formed (suc i) h = (omega arith, (method_word, tt), (tt, (few (suc i) h).field))

method_formed : (i : ℕ) → i < 100 → IsFormedMember (method_tree i)
method_formed i h =
    let own : IsFormedExpression (own_field (field_name i)) = (tt, (few i h).field) in
    ((tt, tt, method_word, tt), ((refl, own, (omega arith, own, number (i + 1) (omega (arith, h)))), (total_formed i h, tt)))

parent_formed : (i : ℕ) → i < 100 → IsFormedParent (parent_named i)
parent_formed zero h = tt
parent_formed (suc i) h = (few i (omega (arith, h))).class

class_formed : (i : ℕ) → i < 100 → IsFormedDecl (class_tree i)
class_formed i h =
    (tt, (few i h).class, parent_formed i h, tt, ((tt, tt, (few i h).field), ((tt, tt, (few i h).extra), (method_formed i h, tt))))

steps_formed : (a n : ℕ) → a + n ≤ 100 → AreFormedStmts (statements (flat_map steps (range_with_len a n)))
steps_formed a zero h = tt
steps_formed a (suc n) h =
    let small : a < 100 = omega (arith, h) in
    let word = few a small in
    let field : IsFormedExpression (extra a) = (word.variable, word.extra) in (
      (word.class, word.variable, (word.class, tt)),
      (
        (refl, field, number a (omega (arith, h))),
        (
          (refl, (omega arith, (word.variable, method_word, tt), field)),
          steps_formed
              (a + 1) n (omega (arith, h)),
        ),
      ),
    )

main_formed : (n : ℕ) → n ≤ 100 → IsFormedDecl (main_tree n)
unfolding main_body
main_formed n h =
    (tt, main_words.0, tt, tt, ((((refl, tt), tt, main_words.1, ((main_words.3, main_words.2), tt)), steps_formed 0 n (omega (arith, h))), tt))

pub sample_formed : (n : ℕ) → n ≤ 100 → IsFormedTree (sample_tree n)
unfolding sample_tree
sample_formed n h =
    each_append IsFormedDecl (map class_tree (range_with_len 0 n)) (main_tree n ∷ [])
    (each_mapped IsFormedDecl class_tree 0 n (λ i k. class_formed i (omega (arith, h, k)))) (main_formed n h, tt)

-- ---- a sample has no places

class_unplaced : (i : ℕ) → decl_unplaced (class_tree i) ≡ class_tree i
class_unplaced zero = refl
class_unplaced (suc i) = refl

steps_unplaced : (a n : ℕ) → stmts_unplaced (statements (flat_map steps (range_with_len a n))) ≡ statements (flat_map steps (range_with_len a n))
steps_unplaced a zero = refl
steps_unplaced a (suc n) = ap (λ ss. and_then (creation a) (and_then (setting a) (and_then (printing a) ss))) (steps_unplaced (a + 1) n)

main_unplaced : (n : ℕ) → decl_unplaced (main_tree n) ≡ main_tree n
unfolding main_body
main_unplaced n = ap (λ ss. ClassTree [] (codes "Main") None [] (MethodTree main_head (Some ss) nowhere ∷ []) nowhere) (steps_unplaced 0 n)

rest_unplaced : (z a n : ℕ) → unplaced (map class_tree (range_with_len a n) ++ main_tree z ∷ []) ≡ map class_tree (range_with_len a n) ++ main_tree z ∷ []
rest_unplaced z a zero = ap (λ d. d ∷ []) (main_unplaced z)
rest_unplaced z a (suc n) =
    ap (λ d. d ∷ unplaced (map class_tree (range_with_len (a + 1) n) ++ main_tree z ∷ [])) (class_unplaced a)
    ∙ ap (λ ds. class_tree a ∷ ds) (rest_unplaced z (a + 1) n)

sample_unplaced : (n : ℕ) → unplaced (sample_tree n) ≡ sample_tree n
unfolding sample_tree
sample_unplaced n = rest_unplaced n 0 n

-- so the text that is printed of it is read as it
pub sample_given : (n : ℕ) → n ≤ 100 → IsGiven (sample_tree n)
sample_given n h = formed_given (sample_tree n) (subst IsFormedTree (sym (sample_unplaced n)) (sample_formed n h))
