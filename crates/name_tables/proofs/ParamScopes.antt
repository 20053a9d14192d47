-- The parameters of a method in scope.
use Rattle.std.proofs.Common.{◌≡◌, ℕ, ◌+◌, Bool, true, false, List, [], ◌∷◌, ◌++◌, length, Some, refl, ap, ◌∙◌, arith}
use Rattle.std.specs.Prelude.{is_some, if◌then◌else◌}
use Rattle.std.specs.Str.{bytes_eq}
use Rattle.java_core.specs.declared.Local.{Local}
use Rattle.name_rules.specs.Meanings.{local_of}
use Rattle.name_rules.specs.Resolves.{bound}
use Rattle.name_laws.specs.Members.{has_local}
use Rattle.name_laws.specs.Resolved.{bounds_from}

-- a parameter's name is in scope exactly where a parameter has it
pub has_bound : (k : ℕ) (n : List ℕ) (ls : List Local) → is_some (local_of n (bounds_from k ls)) ≡ has_local n ls
has_bound k n [] = refl
has_bound k n (l ∷ ls) = go (bytes_eq l.name n) (has_bound (k + 1) n ls)
  where
    go : (b : Bool) → is_some (local_of n (bounds_from (k + 1) ls)) ≡ has_local n ls
        → is_some (if b then Some k else local_of n (bounds_from (k + 1) ls)) ≡ (if b then true else has_local n ls)
    go true h = refl
    go false h = h

-- one parameter more
pub bounds_more : (k : ℕ) (ls : List Local) (l : Local) → bounds_from k (ls ++ l ∷ []) ≡ bound (bounds_from k ls) l.name (k + length ls)
bounds_more k [] l = ap (λ j. record { name = l.name; number = j } ∷ []) (omega arith)
bounds_more k (x ∷ ls) l =
    ap (λ z. record { name = x.name; number = k } ∷ z) (bounds_more (k + 1) ls l ∙ ap (bound (bounds_from (k + 1) ls) l.name) (omega arith))
