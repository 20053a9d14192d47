-- Words that fit none of the patterns.
use Rattle.std.proofs.Common.{◌≡◌, ℕ, ◌<◌, List, [], ◌∷◌, codes, subst, sym, ap, ◌∙◌, refl, Bool, true, false, arith, Option, Some, MatchOption, Result, Err}
use Rattle.std.specs.Str.{bytes_eq}
use Rattle.std.proofs.lemmas.Bool.{false≢true}
use Rattle.std.proofs.lemmas.Slice.Eq.{bytes_eq-Decides}
use Rattle.std.proofs.lemmas.Fmt.{decimal_injective}
use Rattle.kaba_words.specs.Commands.{Cmd, run, table, lattice, base, why, sure, same, edit, regen, make, help, version, FitsRun, FitsLattice, FitsWhy, NoEdit, NoMake, FitsNone, Fits, TakesFlag, TakesBound, BoundAfter, IsNumberWord, most_concepts, most_samples}

-- two words that differ
apart : (a b : List ℕ) → bytes_eq a b ≡ false → a ≡ b → ⊥
apart a b f e = false≢true (sym f ∙ (bytes_eq-Decides a b).1 e)

-- the name of a command
abbrev pub name_of : Cmd → List ℕ
name_of (run file steps after) = codes "run"
name_of (table file) = codes "table"
name_of (lattice json bound file) = codes "lattice"
name_of (base file) = codes "base"
name_of (why file row column) = codes "why"
name_of (sure file) = codes "sure"
name_of (same first second) = codes "same"
name_of (edit bound file script) = codes "edit"
name_of (regen bound file script) = codes "regen"
name_of (make prints n) = codes "make"
name_of help = codes "--help"
name_of version = codes "--version"

-- words with another name than that of a command do not say it
pub other : (name own : List ℕ) (more : List (List ℕ)) (command : Cmd) → name ≡ own → bytes_eq own (name_of command) ≡ false → Fits (name ∷ more) command → ⊥
other name own more (run file steps after) e f h = apart own (codes "run") f (sym e ∙ h.0)
other name own more command e f h = apart own (name_of command) f (sym e ∙ h.0)

-- the name is that of the command, and the words after it do not fit
pub none_of_run : {name : List ℕ} {more : List (List ℕ)} → name ≡ codes "run" → ((file : List ℕ) (steps : ℕ) (after : List (List ℕ))
    → FitsRun more file steps after → ⊥) → FitsNone (name ∷ more)
none_of_run e none (run file steps after) h = none file steps after h.1
none_of_run {name} {more} e none command h = other name (codes "run") more command e refl h

pub none_of_table : {name : List ℕ} {more : List (List ℕ)} → name ≡ codes "table" → ((file : List ℕ) → more ≡ file ∷ [] → ⊥) → FitsNone (name ∷ more)
none_of_table e none (table file) h = none file h.1
none_of_table {name} {more} e none command h = other name (codes "table") more command e refl h

pub none_of_lattice : {name : List ℕ} {more : List (List ℕ)} → name ≡ codes "lattice" → ((json : Bool) (bound : ℕ) (file : List ℕ)
    → FitsLattice more json bound file → ⊥) → FitsNone (name ∷ more)
none_of_lattice e none (lattice json bound file) h = none json bound file h.1
none_of_lattice {name} {more} e none command h = other name (codes "lattice") more command e refl h

pub none_of_base : {name : List ℕ} {more : List (List ℕ)} → name ≡ codes "base" → ((file : List ℕ) → more ≡ file ∷ [] → ⊥) → FitsNone (name ∷ more)
none_of_base e none (base file) h = none file h.1
none_of_base {name} {more} e none command h = other name (codes "base") more command e refl h

pub none_of_why : {name : List ℕ} {more : List (List ℕ)} → name ≡ codes "why" → ((file : List ℕ) (row column : ℕ) → FitsWhy more file row column → ⊥)
    → FitsNone (name ∷ more)
none_of_why e none (why file row column) h = none file row column h.1
none_of_why {name} {more} e none command h = other name (codes "why") more command e refl h

pub none_of_sure : {name : List ℕ} {more : List (List ℕ)} → name ≡ codes "sure" → ((file : List ℕ) → more ≡ file ∷ [] → ⊥) → FitsNone (name ∷ more)
none_of_sure e none (sure file) h = none file h.1
none_of_sure {name} {more} e none command h = other name (codes "sure") more command e refl h

pub none_of_same : {name : List ℕ} {more : List (List ℕ)} → name ≡ codes "same" → ((first second : List ℕ) → more ≡ first ∷ second ∷ [] → ⊥)
    → FitsNone (name ∷ more)
none_of_same e none (same first second) h = none first second h.1
none_of_same {name} {more} e none command h = other name (codes "same") more command e refl h

pub none_of_edit : {name : List ℕ} {more : List (List ℕ)} → name ≡ codes "edit" → NoEdit more → FitsNone (name ∷ more)
none_of_edit e none (edit bound file script) h = none bound file script h.1
none_of_edit {name} {more} e none command h = other name (codes "edit") more command e refl h

pub none_of_regen : {name : List ℕ} {more : List (List ℕ)} → name ≡ codes "regen" → NoEdit more → FitsNone (name ∷ more)
none_of_regen e none (regen bound file script) h = none bound file script h.1
none_of_regen {name} {more} e none command h = other name (codes "regen") more command e refl h

pub none_of_make : {name : List ℕ} {more : List (List ℕ)} → name ≡ codes "make" → NoMake more → FitsNone (name ∷ more)
none_of_make e none (make prints n) h = none prints n h.1
none_of_make {name} {more} e none command h = other name (codes "make") more command e refl h

pub none_of_help : {name : List ℕ} {more : List (List ℕ)} → name ≡ codes "--help" → (more ≡ [] → ⊥) → FitsNone (name ∷ more)
none_of_help e none help h = none h.1
none_of_help {name} {more} e none command h = other name (codes "--help") more command e refl h

pub none_of_version : {name : List ℕ} {more : List (List ℕ)} → name ≡ codes "--version" → (more ≡ [] → ⊥) → FitsNone (name ∷ more)
none_of_version e none version h = none h.1
none_of_version {name} {more} e none command h = other name (codes "--version") more command e refl h

-- the next word is the one that is wanted, or another
pub flag_taken : (flag word : List ℕ) (words rest : List (List ℕ)) → words ≡ word ∷ rest → bytes_eq word flag ≡ true → words ≡ flag ∷ rest
flag_taken flag word words rest e t = e ∙ ap (λ w. w ∷ rest) ((bytes_eq-Decides word flag).0 t)

pub flag_absent : (flag word : List ℕ) (words rest : List (List ℕ)) → words ≡ word ∷ rest → bytes_eq word flag ≡ false → (more : List (List ℕ))
    → words ≡ flag ∷ more → ⊥
flag_absent flag word words rest e f more g =
    let same : word ≡ flag = cc in
    false≢true (sym f ∙ (bytes_eq-Decides word flag).1 same)

-- an optional word is there or not, and leaves the same words
flag_same : (flag : List ℕ) (words : List (List ℕ)) (a b : Bool) (r s : List (List ℕ)) → TakesFlag flag words a r → TakesFlag flag words b s → (a ≡ b) × (r ≡ s)
flag_same flag words true true r s h k = (refl, cc)
flag_same flag words true false r s h k = absurd (k.1 r h)
flag_same flag words false true r s h k = absurd (h.1 s k)
flag_same flag words false false r s h k = (refl, sym h.0 ∙ k.0)

after_same : (a : Bool) (words : List (List ℕ)) (n m : ℕ) (r s : List (List ℕ)) → BoundAfter a words n r → BoundAfter a words m s → r ≡ s
after_same true words n m r s h k = let e = h.1 in let f = k.1 in cc
after_same false words n m r s h k = sym h.0 ∙ k.0

bound_same : (words : List (List ℕ)) (n m : ℕ) (r s : List (List ℕ)) → TakesBound words n r → TakesBound words m s → r ≡ s
bound_same words n m r s h k =
    let e = flag_same (codes "-c") words h.asked k.asked h.after k.after h.flag k.flag in
    after_same k.asked k.after n m r s (subst (λ a. BoundAfter a k.after n r) e.0 (subst (λ ws. BoundAfter h.asked ws n r) e.1 h.bound)) k.bound

-- what stands after `-c`
pub bound_asked : (words after : List (List ℕ)) (n : ℕ) (rest : List (List ℕ)) → TakesFlag (codes "-c") words true after → TakesBound words n rest
    → BoundAfter true after n rest
bound_asked words after n rest f h =
    let e = flag_same (codes "-c") words true h.asked after h.after f h.flag in
    subst (λ a. BoundAfter a after n rest) (sym e.0) (subst (λ ws. BoundAfter h.asked ws n rest) (sym e.1) h.bound)

pub none_asked : (words after : List (List ℕ)) (a : Bool) → a ≡ true → TakesFlag (codes "-c") words a after
    → ((n : ℕ) (rest : List (List ℕ)) → BoundAfter true after n rest → ⊥) → (n : ℕ) (rest : List (List ℕ)) → TakesBound words n rest → ⊥
none_asked words after a e f none n rest h = none n rest (bound_asked words after n rest (subst (λ b. TakesFlag (codes "-c") words b after) e f) h)

-- the number that was read is none that may stand there
pub not_zero : (words : List (List ℕ)) (n : ℕ) (word : List ℕ) (rest more : List (List ℕ)) → words ≡ word ∷ more → IsNumberWord word most_concepts 0
    → BoundAfter true words n rest → ⊥
not_zero words n word rest more e z h =
    let same : h.0 ≡ word = let g = h.1 in cc in
    let same_number : n ≡ 0 = decimal_injective n 0 (omega (arith, h.2.small)) (omega arith) (sym h.2.digits ∙ same ∙ z.digits) in
    omega (arith, h.3, same_number)

pub no_number : (words : List (List ℕ)) (word : List ℕ) (more : List (List ℕ)) → words ≡ word ∷ more → ((n : ℕ) → IsNumberWord word most_concepts n → ⊥)
    → (n : ℕ) (rest : List (List ℕ)) → BoundAfter true words n rest → ⊥
no_number words word more e none n rest h =
    let same : h.0 ≡ word = let g = h.1 in cc in
    none n (subst (λ w. IsNumberWord w most_concepts n) same h.2)

-- the words after `lattice` do not fit
pub no_bound : (words after : List (List ℕ)) (asked : Bool) → TakesFlag (codes "-j") words asked after
    → ((n : ℕ) (rest : List (List ℕ)) → TakesBound after n rest → ⊥) → (json : Bool) (bound : ℕ) (file : List ℕ)
    → FitsLattice words json bound file → ⊥
no_bound words after asked f none json bound file h =
    none bound h.rest (subst (λ ws. TakesBound ws bound h.rest) (sym (flag_same (codes "-j") words asked json after h.after f h.flag).1) h.takes_bound)

pub no_file : (words after rest : List (List ℕ)) (asked : Bool) (n : ℕ) → TakesFlag (codes "-j") words asked after → TakesBound after n rest
    → ((file : List ℕ) → rest ≡ file ∷ [] → ⊥) → (json : Bool) (bound : ℕ) (file : List ℕ) → FitsLattice words json bound file → ⊥
no_file words after rest asked n f b none json bound file h =
    let e = (flag_same (codes "-j") words asked json after h.after f h.flag).1 in
    none file (bound_same h.after n bound rest h.rest (subst (λ ws. TakesBound ws n rest) e b) h.takes_bound ∙ h.file_is)

-- the words after `edit` do not fit
pub no_bound_for_edit : (words : List (List ℕ)) → ((n : ℕ) (rest : List (List ℕ)) → TakesBound words n rest → ⊥) → NoEdit words
no_bound_for_edit words none bound file script h = none bound h.rest h.takes_bound

abbrev pub Reads : List ℕ → Option ℕ → Type 0
Reads word read = MatchOption read ((n : ℕ) → IsNumberWord word most_concepts n → ⊥) (λ n. IsNumberWord word most_concepts n)

pub zero_read : (word : List ℕ) (read : Option ℕ) (m : ℕ) → read ≡ Some m → m ≡ 0 → Reads word read → IsNumberWord word most_concepts 0
zero_read word read m e z h = subst (IsNumberWord word most_concepts) z (subst (Reads word) e h)

-- a fault is the same whatever else might have been answered
pub same_fault : {A B E : Type 0} (x y : E) → ◌≡◌ {A = Result A E} (Err x) (Err y) → ◌≡◌ {A = Result B E} (Err x) (Err y)
same_fault x y h = let e : x ≡ y = cc in ap Err e

-- the words after `make` do not fit
pub no_number_to_make : (words after : List (List ℕ)) (asked : Bool) → TakesFlag (codes "-p") words asked after
    → ((word : List ℕ) → after ≡ word ∷ [] → ⊥) → NoMake words
no_number_to_make words after asked f none prints n h =
    none h.word ((flag_same (codes "-p") words asked prints after h.after f h.flag).1 ∙ h.word_is)

pub none_to_make : (words after : List (List ℕ)) (asked : Bool) (word : List ℕ) → TakesFlag (codes "-p") words asked after → after ≡ word ∷ []
    → ((n : ℕ) → IsNumberWord word most_samples n → 0 < n → ⊥) → NoMake words
none_to_make words after asked word f e none prints n h =
    let same : h.word ≡ word = let g = (flag_same (codes "-p") words asked prints after h.after f h.flag).1 in let k = h.word_is in cc in
    none n (subst (λ w. IsNumberWord w most_samples n) same h.number) h.some

-- a word that is read as 0 writes no number above
pub only_zero : (word : List ℕ) (n : ℕ) → IsNumberWord word most_samples 0 → IsNumberWord word most_samples n → 0 < n → ⊥
only_zero word n z h some = omega (arith, some, decimal_injective n 0 (omega (arith, h.small)) (omega arith) (sym h.digits ∙ z.digits))

abbrev pub ReadsSample : List ℕ → Option ℕ → Type 0
ReadsSample word read = MatchOption read ((n : ℕ) → IsNumberWord word most_samples n → ⊥) (λ n. IsNumberWord word most_samples n)

pub zero_to_make : (word : List ℕ) (read : Option ℕ) (m : ℕ) → read ≡ Some m → m ≡ 0 → ReadsSample word read → IsNumberWord word most_samples 0
zero_to_make word read m e z h = subst (IsNumberWord word most_samples) z (subst (ReadsSample word) e h)
