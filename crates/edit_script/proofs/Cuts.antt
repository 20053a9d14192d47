-- Texts that are cut at their spaces, and bytes that are cut at their line ends.
use Rattle.std.proofs.Common.{◌≡◌, ◌∷◌, [], ℕ, ◌<◌, Bool, true, false, List, length, ◌∙◌, ap, arith, cond, refl, sym, Option, Some, None, MatchOption, Bor, take, drop, ◌+◌, ◌-◌, ◌≤◌, not, nat_lt}
use Rattle.std.specs.List.{slice_split, position, position_or_len, before_first, after_first}
use Rattle.std.proofs.lemmas.List.Splits.{slice_split_none, slice_split_first, length-slice_split}
use Rattle.std.proofs.lemmas.List.Sums.{count_by-le-length, fails_before_first, prefix_len-le-length}
use Rattle.std.proofs.lemmas.List.{take_rest}
use Rattle.std.proofs.lemmas.Bool.{ltb-true, ltb-false}
use Rattle.edit_script.specs.Script.{is_line_end, lines_of, is_space, parts_of}

-- where no element passes, the list is the one part
pub split_none : {X : Type 0} (p : X → Bool) (xs : List X) → position_or_len p xs ≡ length xs → slice_split p xs ≡ xs ∷ []
split_none p xs e = slice_split_none p xs (λ k d m. fails_before_first p xs k d (omega (arith, m, e)))

abbrev pub IsCutAtSpace : List ℕ → Bor (List ℕ) × Bor (List ℕ) → Type 0
IsCutAtSpace text x = (x.0.now ≡ before_first is_space text) × (x.1.now ≡ after_first is_space text) × (position_or_len is_space text < length text)

abbrev pub ArePartsOf : List ℕ → Bor (List ℕ) × Bor (List ℕ) → Type 0
ArePartsOf text x = parts_of text ≡ x.0.now ∷ parts_of x.1.now

-- a text that is cut at its first space
pub cut_parts : (text : List ℕ) (r : Option (Bor (List ℕ) × Bor (List ℕ)))
    → MatchOption r (position_or_len is_space text ≡ length text) (IsCutAtSpace text) → MatchOption r (parts_of text ≡ text ∷ []) (ArePartsOf text)
cut_parts text None h = split_none is_space text h
cut_parts text (Some x) h =
    slice_split_first is_space text 0 h.2
    ∙ ap (λ front. front ∷ parts_of (after_first is_space text)) (sym h.0)
    ∙ ap (λ after. x.0.now ∷ parts_of after) (sym h.1)

found : (b : Bool) (n at : ℕ) → cond b (Some n) None ≡ Some at → (b ≡ true) × (n ≡ at)
found true n at e = (refl, let e : Some n ≡ Some at = e in cc)
found false n at e = let e : None ≡ Some at = e in cc

missing : (b : Bool) (n : ℕ) → cond b (Some n) None ≡ None → b ≡ false
missing true n e = let e : Some n ≡ None = e in cc
missing false n e = refl

-- bytes that are cut at their first line end
pub line_last : (bytes : List ℕ) → position is_line_end bytes ≡ None → lines_of bytes ≡ bytes ∷ []
line_last bytes e =
    let at = position_or_len is_line_end bytes in
    let none = ltb-false at (length bytes) (missing (nat_lt at (length bytes)) at e) in
    split_none is_line_end bytes (omega (arith, prefix_len-le-length (λ b. not (is_line_end b)) bytes, none))

pub line_cut : (bytes : List ℕ) (at : ℕ) → position is_line_end bytes ≡ Some at
    → lines_of bytes ≡ take at bytes ∷ lines_of (take (length bytes - (at + 1)) (drop (at + 1) bytes))
line_cut bytes at e =
    let is = found (nat_lt (position_or_len is_line_end bytes) (length bytes)) (position_or_len is_line_end bytes) at e in
    slice_split_first is_line_end bytes 0 (ltb-true (position_or_len is_line_end bytes) (length bytes) is.0)
    ∙ ap (λ n. take n bytes ∷ lines_of (drop (n + 1) bytes)) is.1 ∙ ap (λ after. take at bytes ∷ lines_of after) (sym (take_rest bytes (at + 1)))

-- how many lines a script has at most
pub few_lines : (bytes : List ℕ) → length (lines_of bytes) ≤ length bytes + 1
few_lines bytes = omega (arith, length-slice_split is_line_end bytes, count_by-le-length is_line_end bytes)
