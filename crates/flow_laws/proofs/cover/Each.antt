-- What holds of each item of a list holds of those of each of its parts.
use Rattle.std.proofs.Common.{List, ◌∷◌, ◌++◌}
use Rattle.std.specs.Prelude.{Contains}
use Rattle.std.proofs.lemmas.List.Elements.{Contains-append_left, Contains-append_right}
use Rattle.flow_rules.proofs.Listed.{first, more}

-- a predicate holds of each item
abbrev Each : {A : Type 0} → (A → Type 0) → List A → Type 0
Each {A} H xs = (x : A) → Contains xs x → H x

module _ {A : Type 0} {H : A → Type 0} where
  pub left : (xs ys : List A) → Each H (xs ++ ys) → Each H xs
  left xs ys h x c = h x (Contains-append_left xs ys x c)

  pub right : (xs ys : List A) → Each H (xs ++ ys) → Each H ys
  right xs ys h x c = h x (Contains-append_right xs ys x c)

  pub past : (x : A) (xs : List A) → Each H (x ∷ xs) → Each H xs
  past x xs h y c = h y (more y x xs c)

  pub here : (x : A) (xs : List A) → Each H (x ∷ xs) → H x
  here x xs h = h x (first x xs)
