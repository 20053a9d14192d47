-- What a part takes from the front of the tokens, and that it stands there before any others too.
use Rattle.std.proofs.Common.{◌≡◌, List, [], ◌∷◌, ◌++◌, Bool, true, false, refl, sym, ap, ◌∙◌, ◌⊎◌, inl, inr}
use Rattle.java_lex.specs.declared.Token.{Token}

-- tokens that were taken from the front: put before others they are those
pub record Cut (ts rest : List Token) : Type 0 where
  pub put : List Token → List Token
  pub puts : (us vs : List Token) → put (us ++ vs) ≡ put us ++ vs
  pub split : ts ≡ put rest

-- none
abbrev pub here : {ts : List Token} → Cut ts ts
here = record { put = λ us. us; puts = λ us vs. refl; split = refl }

-- this token, and those behind it
abbrev pub on : {t : Token} {ts rest : List Token} → Cut ts rest → Cut (t ∷ ts) rest
on {t = t} c = record { put = λ us. t ∷ c.put us; puts = λ us vs. ap (λ xs. t ∷ xs) (c.puts us vs); split = ap (λ xs. t ∷ xs) c.split }

-- the token that is next, and those behind it
abbrev pub led : {t : Token} {ts us rest : List Token} → ts ≡ t ∷ us → Cut us rest → Cut ts rest
led {t = t} e c = record {
  put = λ us. t ∷ c.put us;
  puts = λ us vs. ap (λ xs. t ∷ xs) (c.puts us vs);
  split = e ∙ ap (λ xs. t ∷ xs) c.split;
}

-- those of two, one behind the other
abbrev pub join : {ts us rest : List Token} → Cut ts us → Cut us rest → Cut ts rest
join a b = record {
  put = λ us. a.put (b.put us);
  puts = λ us vs. ap a.put (b.puts us vs) ∙ a.puts (b.put us) vs;
  split = a.split ∙ ap a.put b.split;
}

-- the tokens that a part takes are the part before any others
pub record Alone (Is : List Token → List Token → Type 0) (ts rest : List Token) : Type 0 where
  pub cut : Cut ts rest
  pub again : (tail : List Token) → Is (cut.put tail) tail

-- whether there is a token
abbrev pub filled : List Token → Bool
filled [] = false
filled (t ∷ ts) = true

module _ {A : Type 0} (f : List Token → A) (same : (t : Token) (us vs : List Token) → f (t ∷ us) ≡ f (t ∷ vs)) where
  fronts : (xs us vs : List Token) → filled xs ≡ true → f (xs ++ us) ≡ f (xs ++ vs)
  fronts [] us vs h = cc
  fronts (t ∷ xs) us vs h = same t (xs ++ us) (xs ++ vs)

  -- what depends on the first token alone is the same behind other tails
  pub same_front : {ts rest : List Token} (c : Cut ts rest) → filled (c.put []) ≡ true → (tail : List Token) → f (c.put tail) ≡ f ts
  same_front {ts = ts} {rest = rest} c h tail =
      ap f (c.puts [] tail) ∙ fronts (c.put []) tail rest h ∙ sym (ap f (c.split ∙ c.puts [] rest))

-- a token was taken, or none
pub taken : {ts rest : List Token} (c : Cut ts rest) → (filled (c.put []) ≡ true) ⊎ ((us : List Token) → c.put us ≡ us)
taken c = by_front (c.put []) refl
  where
    by_front : (xs : List Token) → c.put [] ≡ xs → (filled (c.put []) ≡ true) ⊎ ((us : List Token) → c.put us ≡ us)
    by_front [] e = inr (λ us. c.puts [] us ∙ ap (λ xs. xs ++ us) e)
    by_front (t ∷ xs) e = inl (ap filled e)
