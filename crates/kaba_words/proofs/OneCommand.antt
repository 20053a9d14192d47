-- The words of the command line say one command.
use Rattle.std.proofs.Common.{◌≡◌, ℕ, ◌<◌, ◌^◌, Bool, true, false, List, [], ◌∷◌, refl, sym, ap, ◌∙◌, subst, arith, codes}
use Rattle.std.proofs.lemmas.Fmt.{decimal_injective}
use Rattle.kaba_words.proofs.Patterns.{other}
use Rattle.kaba_words.specs.Commands.{Cmd, run, table, lattice, base, why, sure, same, edit, regen, make, help, version, IsNumberWord, most_steps, most_concepts, most_samples, FitsRun, TakesFlag, BoundAfter, TakesBound, FitsLattice, FitsWhy, row_word, column_word, FitsEdit, FitsMake, FitsArguments, Fits}

heads : {A : Type 0} {x y : A} {xs ys : List A} → x ∷ xs ≡ y ∷ ys → x ≡ y
heads e = cc e

tails : {A : Type 0} {x y : A} {xs ys : List A} → x ∷ xs ≡ y ∷ ys → xs ≡ ys
tails e = cc e

-- a number is written one way
one_number : (w v : List ℕ) (limit m n : ℕ) → limit < 2 ^ 64 → w ≡ v → IsNumberWord w limit m → IsNumberWord v limit n → m ≡ n
one_number w v limit m n small e h k =
    decimal_injective m n (omega (arith, small, h.small)) (omega (arith, small, k.small)) (sym h.digits ∙ e ∙ k.digits)

-- an optional word stands there, or it does not
one_flag : (flag : List ℕ) (words : List (List ℕ)) (b c : Bool) (rest other : List (List ℕ)) → TakesFlag flag words b rest → TakesFlag flag words c other
    → (b ≡ c) × (rest ≡ other)
one_flag flag words true true rest other h k = (refl, tails (sym h ∙ k))
one_flag flag words true false rest other h k = absurd (k.1 rest h)
one_flag flag words false true rest other h k = absurd (h.1 other k)
one_flag flag words false false rest other h k = (refl, sym h.0 ∙ k.0)

one_bound_after : (b : Bool) (words : List (List ℕ)) (m n : ℕ) (rest other : List (List ℕ)) → BoundAfter b words m rest → BoundAfter b words n other
    → (m ≡ n) × (rest ≡ other)
one_bound_after false words m n rest other h k = (h.1 ∙ sym k.1, sym h.0 ∙ k.0)
one_bound_after true words m n rest other h k =
    let e = sym h.1 ∙ k.1 in (one_number h.0 k.0 most_concepts m n (omega arith) (heads e) h.2 k.2, tails e)

one_bound : (words : List (List ℕ)) (m n : ℕ) (rest other : List (List ℕ)) → TakesBound words m rest → TakesBound words n other → (m ≡ n) × (rest ≡ other)
one_bound words m n rest other h k =
    let a = one_flag (codes "-c") words h.asked k.asked h.after k.after h.flag k.flag in
    one_bound_after k.asked k.after m n rest other
    (subst (λ z. BoundAfter k.asked z m rest) a.1 (subst (λ z. BoundAfter z h.after m rest) a.0 h.bound)) k.bound

one_run : (words : List (List ℕ)) (f f2 : List ℕ) (n n2 : ℕ) (ws ws2 : List (List ℕ)) → FitsRun words f n ws → FitsRun words f2 n2 ws2
    → run f n ws ≡ run f2 n2 ws2
one_run words f f2 n n2 ws ws2 h k =
    let e = sym h.words_are ∙ k.words_are in
    let number = one_number h.number k.number most_steps n n2 (omega arith) (heads (tails e)) h.is_number k.is_number in
    λ i. run (heads e i) (number i) (tails (tails e) i)

one_lattice : (words : List (List ℕ)) (j j2 : Bool) (b b2 : ℕ) (f f2 : List ℕ) → FitsLattice words j b f → FitsLattice words j2 b2 f2
    → lattice j b f ≡ lattice j2 b2 f2
one_lattice words j j2 b b2 f f2 h k =
    let a = one_flag (codes "-j") words j j2 h.after k.after h.flag k.flag in
    let c = one_bound k.after b b2 h.rest k.rest (subst (λ z. TakesBound z b h.rest) a.1 h.takes_bound) k.takes_bound in
    let e = sym h.file_is ∙ c.1 ∙ k.file_is in
    λ i. lattice (a.0 i) (c.0 i) (heads e i)

one_edit : (words : List (List ℕ)) (b b2 : ℕ) (f f2 x x2 : List ℕ) → FitsEdit words b f x → FitsEdit words b2 f2 x2 → (b ≡ b2) × (f ≡ f2) × (x ≡ x2)
one_edit words b b2 f f2 x x2 h k =
    let c = one_bound words b b2 h.rest k.rest h.takes_bound k.takes_bound in
    let e = sym h.files_are ∙ c.1 ∙ k.files_are in
    (c.0, heads e, heads (tails e))

one_make : (words : List (List ℕ)) (p p2 : Bool) (n n2 : ℕ) → FitsMake words p n → FitsMake words p2 n2 → make p n ≡ make p2 n2
one_make words p p2 n n2 h k =
    let a = one_flag (codes "-p") words p p2 h.after k.after h.flag k.flag in
    let number = one_number h.word k.word most_samples n n2 (omega arith) (heads (sym h.word_is ∙ a.1 ∙ k.word_is)) h.number k.number in
    λ i. make (a.0 i) (number i)

one_why : (words : List (List ℕ)) (f f2 : List ℕ) (r r2 c c2 : ℕ) → FitsWhy words f r c → FitsWhy words f2 r2 c2 → why f r c ≡ why f2 r2 c2
one_why words f f2 r r2 c c2 h k =
    let e = sym h.words_are ∙ k.words_are in
    let row = decimal_injective r r2 (omega (arith, h.row_small)) (omega (arith, k.row_small)) (tails (heads (tails e))) in
    let column = decimal_injective c c2 (omega (arith, h.column_small)) (omega (arith, k.column_small)) (tails (heads (tails (tails e)))) in
    λ i. why (heads e i) (row i) (column i)

-- the words after a name say one command, since another command has another name
one_of : (name : List ℕ) (words : List (List ℕ)) (c d : Cmd) → FitsArguments name words c → FitsArguments name words d → c ≡ d
one_of name words (run f n ws) (run f2 n2 ws2) h k = one_run words f f2 n n2 ws ws2 h.1 k.1
one_of name words (run f n ws) d h k = absurd (other name (codes "run") words d h.0 refl k)
one_of name words (table f) (table f2) h k = ap table (heads (sym h.1 ∙ k.1))
one_of name words (table f) d h k = absurd (other name (codes "table") words d h.0 refl k)
one_of name words (lattice j b f) (lattice j2 b2 f2) h k = one_lattice words j j2 b b2 f f2 h.1 k.1
one_of name words (lattice j b f) d h k = absurd (other name (codes "lattice") words d h.0 refl k)
one_of name words (base f) (base f2) h k = ap base (heads (sym h.1 ∙ k.1))
one_of name words (base f) d h k = absurd (other name (codes "base") words d h.0 refl k)
one_of name words (why f r c) (why f2 r2 c2) h k = one_why words f f2 r r2 c c2 h.1 k.1
one_of name words (why f r c) d h k = absurd (other name (codes "why") words d h.0 refl k)
one_of name words (sure f) (sure f2) h k = ap sure (heads (sym h.1 ∙ k.1))
one_of name words (sure f) d h k = absurd (other name (codes "sure") words d h.0 refl k)
one_of name words (same a b) (same a2 b2) h k = let e = sym h.1 ∙ k.1 in λ i. same (heads e i) (heads (tails e) i)
one_of name words (same a b) d h k = absurd (other name (codes "same") words d h.0 refl k)
one_of name words (edit b f x) (edit b2 f2 x2) h k = let o = one_edit words b b2 f f2 x x2 h.1 k.1 in λ i. edit (o.0 i) (o.1 i) (o.2 i)
one_of name words (edit b f x) d h k = absurd (other name (codes "edit") words d h.0 refl k)
one_of name words (regen b f x) (regen b2 f2 x2) h k = let o = one_edit words b b2 f f2 x x2 h.1 k.1 in λ i. regen (o.0 i) (o.1 i) (o.2 i)
one_of name words (regen b f x) d h k = absurd (other name (codes "regen") words d h.0 refl k)
one_of name words (make p n) (make p2 n2) h k = one_make words p p2 n n2 h.1 k.1
one_of name words (make p n) d h k = absurd (other name (codes "make") words d h.0 refl k)
one_of name words help help h k = refl
one_of name words help d h k = absurd (other name (codes "--help") words d h.0 refl k)
one_of name words version version h k = refl
one_of name words version d h k = absurd (other name (codes "--version") words d h.0 refl k)

pub one_command : (words : List (List ℕ)) (c d : Cmd) → Fits words c → Fits words d → c ≡ d
one_command [] c d h k = absurd h
one_command (name ∷ words) c d h k = one_of name words c d h k
