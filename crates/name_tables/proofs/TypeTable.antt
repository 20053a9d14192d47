-- What the table of types finds is what the list of its types says.
use Rattle.std.proofs.Common.{◌≡◌, ℕ, ◌+◌, ◌||◌, Bool, true, false, List, [], ◌∷◌, ◌++◌, map, Option, Some, None, Ok, Err, refl, sym, ap, ◌∙◌, cond}
use Rattle.std.specs.Prelude.{String, position, string_bytes, string_eq}
use Rattle.std.specs.List.{position_from}
use Rattle.std.specs.Option.{is_some}
use Rattle.std.specs.Map.{keys_of}
use Rattle.std.specs.Cmp.{both_ways}
use Rattle.std.specs.Str.{bytes_eq, chars, encode_utf8_all}
use Rattle.std.specs.declared.alloc.Global.{Global}
use Rattle.std.proofs.lemmas.Bool.{false≢true}
use Rattle.std.proofs.lemmas.Slice.Eq.{bytes_eq-Decides}
use Rattle.std.proofs.lemmas.Str.{chars_from_encodes, encodes-chars, IsUtf8-had}
use Rattle.std.proofs.lemmas.List.{map-append}
use Rattle.indexmap.specs.IndexMap.{insert_entry}
use Rattle.kaba_base.specs.declared.Place.{Place}
use Rattle.name_rules.specs.declared.Refusal.TheVariants.{Twice}
use Rattle.name_tables.specs.Known.{known_seen}
use Rattle.name_laws.specs.Names.{is_apart, number_of}
use Rattle.name_laws.specs.Classes.{know_named}
use Rattle.name_laws.proofs.Runs.{position-from}

-- a text is a name's exactly where it has the name's characters
pub same-text : (n : List ℕ) (s : String Global) → bytes_eq (encode_utf8_all n) (string_bytes s) ≡ bytes_eq (chars (string_bytes s)) n
same-text n s =
    let good = IsUtf8-had (string_bytes s) s.ok in
    both_ways (bytes_eq (encode_utf8_all n) (string_bytes s)) (bytes_eq (chars (string_bytes s)) n)
    (λ e. (bytes_eq-Decides (chars (string_bytes s)) n).1
    (sym (chars_from_encodes n (string_bytes s) good ((bytes_eq-Decides (encode_utf8_all n) (string_bytes s)).0 e))))
    (λ e. (bytes_eq-Decides (encode_utf8_all n) (string_bytes s)).1 (ap encode_utf8_all (sym ((bytes_eq-Decides (chars (string_bytes s)) n).0 e))
    ∙ encodes-chars (string_bytes s) good))

-- a name is found under its number
pub found : (n : List ℕ) (es : List (String Global × Bool)) → position (λ s. bytes_eq (encode_utf8_all n) (string_bytes s)) (keys_of es)
    ≡ number_of (map known_seen es) n
found n es = position-from (λ s. bytes_eq (encode_utf8_all n) (string_bytes s)) (keys_of es) ∙ from 0 es
    ∙ sym (position-from (λ k. bytes_eq k.name n) (map known_seen es))
  where
    from : (k : ℕ) (es : List (String Global × Bool)) → position_from (λ s. bytes_eq (encode_utf8_all n) (string_bytes s)) k (keys_of es)
        ≡ position_from (λ k. bytes_eq k.name n) k (map known_seen es)
    from k [] = refl
    from k (e ∷ es) =
        ap (λ b. cond b (Some k) (position_from (λ s. bytes_eq (encode_utf8_all n) (string_bytes s)) (k + 1) (keys_of es))) (same-text n e.0)
        ∙ ap (cond (bytes_eq (chars (string_bytes e.0)) n) (Some k)) (from (k + 1) es)

-- a new name goes last
appended : (k : ℕ) (n : List ℕ) (text : String Global) (b : Bool) (es : List (String Global × Bool)) → string_bytes text ≡ encode_utf8_all n
    → position_from (λ k. bytes_eq k.name n) k (map known_seen es) ≡ None → insert_entry string_eq es text b ≡ es ++ (text, b) ∷ []
appended k n text b [] is none = refl
appended k n text b (e ∷ es) is none = go (bytes_eq (chars (string_bytes e.0)) n) refl (appended (k + 1) n text b es is)
  where
    other : string_eq text e.0 ≡ bytes_eq (chars (string_bytes e.0)) n
    other = ap (λ z. bytes_eq z (string_bytes e.0)) is ∙ same-text n e.0

    go : (c : Bool) → bytes_eq (chars (string_bytes e.0)) n ≡ c → (position_from (λ k. bytes_eq k.name n) (k + 1) (map known_seen es) ≡ None
        → insert_entry string_eq es text b
        ≡ es ++ (text, b) ∷ []) → insert_entry string_eq (e ∷ es) text b ≡ e ∷ (es ++ (text, b) ∷ [])
    go true f more = absurd (cc (sym (ap (λ z. cond z (Some k) (position_from (λ k. bytes_eq k.name n) (k + 1) (map known_seen es))) f) ∙ none))
    go false f more =
        ap (λ z. cond z ((e.0, b) ∷ es) (e ∷ insert_entry string_eq es text b)) (other ∙ f)
        ∙ ap (λ z. e ∷ z) (more (sym (ap (λ z. cond z (Some k) (position_from (λ k. bytes_eq k.name n) (k + 1) (map known_seen es))) f) ∙ none))

known-more : (n : List ℕ) (text : String Global) (b : Bool) (es : List (String Global × Bool)) → string_bytes text ≡ encode_utf8_all n
    → number_of (map known_seen es) n ≡ None
    → map known_seen (insert_entry string_eq es text b) ≡ map known_seen es ++ record { name = n; is_interface = b } ∷ []
known-more n text b es is none =
    ap (map known_seen) (appended 0 n text b es is (sym (position-from (λ k. bytes_eq k.name n) (map known_seen es)) ∙ none))
    ∙ map-append known_seen es ((text, b) ∷ [])
    ∙ ap (λ z. map known_seen es ++ record { name = z; is_interface = b } ∷ [])
    (sym (chars_from_encodes n (string_bytes text) (IsUtf8-had (string_bytes text) text.ok) (sym is)))

pub known-added : (n : List ℕ) (text : String Global) (b : Bool) (p : Place) (es : List (String Global × Bool))
    → string_bytes text ≡ encode_utf8_all n → is_apart n || is_some (number_of (map known_seen es) n) ≡ false
    → know_named (map known_seen es) n b p ≡ Ok (map known_seen (insert_entry string_eq es text b))
known-added n text b p es is free =
    ap (λ z. cond z (Err (Twice n p)) (Ok (map known_seen es ++ record { name = n; is_interface = b } ∷ []))) free
    ∙ ap Ok (sym (known-more n text b es is (none (is_apart n) (number_of (map known_seen es) n) free)))
  where
    none : (a : Bool) (o : Option ℕ) → a || is_some o ≡ false → o ≡ None
    none true o e = absurd (false≢true (sym e))
    none false None e = refl
    none false (Some k) e = absurd (false≢true (sym e))
