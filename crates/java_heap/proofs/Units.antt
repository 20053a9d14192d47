-- The first character of the units from a place on.
use Rattle.std.proofs.Common.{◌≡◌, ℕ, suc, ◌+◌, ◌≤◌, ◌<◌, List, [], ◌∷◌, length, get_or, drop, ap, ◌∙◌, arith, add-one, Some, None}
use Rattle.std.proofs.lemmas.Str.{utf16_chars-nil, utf16_chars_lone, utf16_chars_pair}
use Rattle.std.specs.Char.Utf16.{surrogate_pair_char, lone_unit_char, utf16_chars}
use Rattle.std.proofs.Math.ListN.{drop_of_length-le}
use Rattle.std.proofs.Math.Seq.{drop-cons, get_or-drop}
use borrow.Author.Tests.{lt-leb, le-leb, lt-ltb, le-ltb}

-- u and v are a pair of surrogates
abbrev pub IsPair : ℕ → ℕ → Type 0
IsPair u v = (0xD800 ≤ u) × (u < 0xDC00) × (0xDC00 ≤ v) × (v < 0xE000)

pub lone_unit_char_low : (u : ℕ) → u < 0xD800 → lone_unit_char u ≡ Some u
lone_unit_char_low u below = rw (lt-leb 0xD800 u below)

pub lone_unit_char_high : (u : ℕ) → 0xE000 ≤ u → lone_unit_char u ≡ Some u
lone_unit_char_high u from = rw (le-leb 0xD800 u (omega arith), le-ltb u 0xE000 from)

pub lone_unit_char_surrogate : (u : ℕ) → 0xD800 ≤ u → u < 0xE000 → lone_unit_char u ≡ None
lone_unit_char_surrogate u from below = rw (le-leb 0xD800 u from, lt-ltb u 0xE000 below)

module _ (units : List ℕ) (at : ℕ) where
  pub utf16_chars-drop_lone : at < length units → ¬ (IsPair (get_or units at 0) (get_or units (at + 1) 0))
      → utf16_chars (drop at units) ≡ lone_unit_char (get_or units at 0) ∷ utf16_chars (drop (at + 1) units)
  utf16_chars-drop_lone within apart =
      let next : get_or (drop (suc at) units) 0 0 ≡ get_or units (at + 1) 0 =
      get_or-drop (suc at) units 0 0 ∙ ap (λ n. get_or units n 0) {x = suc at + 0} {y = at + 1} (omega arith) in
      rw (add-one, drop-cons units at 0 within) (utf16_chars_lone _ (drop (suc at) units) (rw next apart))

  pub utf16_chars-drop_pair : at + 1 < length units → IsPair (get_or units at 0) (get_or units (at + 1) 0)
      → utf16_chars (drop at units) ≡ Some (surrogate_pair_char (get_or units at 0) (get_or units (at + 1) 0)) ∷ utf16_chars (drop (at + 2) units)
  utf16_chars-drop_pair within pair =
      let after : at + 2 ≡ suc (at + 1) = omega arith in
      rw (after, drop-cons units at 0 (omega arith), ← add-one at, drop-cons units (at + 1) 0 within) (utf16_chars_pair _ _ _ pair)

  pub utf16_chars-drop_all : length units ≤ at → utf16_chars (drop at units) ≡ []
  utf16_chars-drop_all past = ap utf16_chars (drop_of_length-le units past) ∙ utf16_chars-nil
