-- What passes for a name is made of characters.
use Rattle.std.proofs.Common.{◌≡◌, ℕ, ◌||◌, ◌==◌, leb, ltb, cond, Bool, true, false, not, List, [], ◌∷◌, refl, ap, subst, arith, ⊎_elim}
use Rattle.std.specs.List.{list_all}
use Rattle.std.specs.Str.{all_scalars}
use Rattle.std.proofs.Math.Utf8.{scalar}
use Rattle.std.proofs.lemmas.Bool.{and_from, and_parts, or_cases, eqb-true, cases_lt}
use Rattle.ucd_table.specs.Steps.{step_value}
use Rattle.ucd_table.proofs.Stepped.{Stepped, zip_stepped}
use Rattle.ucd_table.proofs.Facts.{Stepped-everywhere}
use Rattle.ucd_derived.proofs.BinaryLemmas.{is_xid_continue_stepped}
use Rattle.unicode_ident.specs.Ident.{is_xid_continue}
use Rattle.unicode_ident.proofs.Computing.{unicode_ident}
use Rattle.kaba_base.specs.Words.{is_name, is_word, is_start, is_part, is_none, key_of}
use Rattle.kaba_base.proofs.Texts.{start_is_part}
use Rattle.java_lex.specs.Writable.{IsName}

either_way : (b : Bool) → b ≡ cond b true false
either_way true = refl
either_way false = refl

-- the characters by their ranges
scalar_steps : (c : ℕ) → scalar c ≡ step_value false ((55296, true) ∷ (57344, false) ∷ (1114112, true) ∷ []) c
unfolding step_value
scalar_steps c =
    ⊎_elim
    (λ below. let e : leb 57344 c ≡ false = grind (arith, below) in let d : ltb c 57344 ≡ true = grind (arith, below) in rw (e, d) refl)
    (λ above. let e : leb 57344 c ≡ true = grind (arith, above) in let d : ltb c 57344 ≡ false = grind (arith, above) in
    rw (e, d) (ap (λ z. cond (ltb c 55296) true z) (either_way (ltb c 1114112))))
    (cases_lt c 57344)

abbrev scalar_stepped : Stepped scalar
scalar_stepped = record { default = false; steps = (55296, true) ∷ (57344, false) ∷ (1114112, true) ∷ []; gives = scalar_steps }

letter_scalar : (c : ℕ) → is_xid_continue c ≡ true → scalar c ≡ true
unfolding unicode_ident
letter_scalar c h =
    let both = zip_stepped (λ a b. not a || b) is_xid_continue scalar is_xid_continue_stepped scalar_stepped in
    subst (λ a. (not a || scalar c) ≡ true) h (Stepped-everywhere _ both refl c)

part_scalar : (c : ℕ) → is_part c ≡ true → scalar c ≡ true
part_scalar c h =
    ⊎_elim (letter_scalar c) (λ e. ap scalar (eqb-true c 36 e)) (or_cases (is_xid_continue c) (c == 36) h)

parts_scalars : (cs : List ℕ) → list_all is_part cs ≡ true → all_scalars cs ≡ true
parts_scalars [] h = refl
parts_scalars (c ∷ cs) h =
    let p = and_parts (is_part c) (list_all is_part cs) h in
    and_from (scalar c) (all_scalars cs) (part_scalar c p.0) (parts_scalars cs p.1)

word_scalars : (cs : List ℕ) → is_word cs ≡ true → all_scalars cs ≡ true
word_scalars [] h = refl
word_scalars (c ∷ cs) h =
    let p = and_parts (is_start c) (list_all is_part cs) h in
    and_from (scalar c) (all_scalars cs) (part_scalar c (start_is_part c p.0)) (parts_scalars cs p.1)

-- what passes for a name can be written
pub named : (x : List ℕ) → is_name x ≡ true → IsName x
named x h = record { named = h; scalars = word_scalars x (and_parts (is_word x) (is_none (key_of x)) h).0 }
