-- Texts of ASCII characters are their characters.
use Rattle.std.proofs.Common.{◌≡◌, ℕ, ◌^◌, ◌<◌, true, List, [], ◌∷◌, ◌++◌}
use Rattle.std.specs.List.{list_all}
use Rattle.std.specs.Char.{is_ascii}
use Rattle.std.specs.Fmt.{decimal}
use Rattle.std.specs.Str.{IsAscii, chars}
use Rattle.std.proofs.lemmas.Bool.{and_parts, ltb-true}
use Rattle.std.proofs.lemmas.Str.{chars-IsAscii, IsAscii-append}
use Rattle.std.proofs.lemmas.Str.Ascii.{IsAscii-nil, IsAscii-cons}
use Rattle.std.proofs.lemmas.Fmt.{IsAscii-decimal}

all_ascii : (cs : List ℕ) → list_all is_ascii cs ≡ true → IsAscii cs
all_ascii [] h = IsAscii-nil
all_ascii (c ∷ cs) h = let p = and_parts (is_ascii c) (list_all is_ascii cs) h in IsAscii-cons c cs (ltb-true c 128 p.0) (all_ascii cs p.1)

pub word_spelled : (cs : List ℕ) → list_all is_ascii cs ≡ true → chars cs ≡ cs
word_spelled cs h = chars-IsAscii cs (all_ascii cs h)

pub numbered_spelled : (cs : List ℕ) (n : ℕ) → list_all is_ascii cs ≡ true → n < 2 ^ 64 → chars (cs ++ decimal n) ≡ cs ++ decimal n
numbered_spelled cs n h k = chars-IsAscii (cs ++ decimal n) (IsAscii-append cs (decimal n) (all_ascii cs h) (IsAscii-decimal n k))
