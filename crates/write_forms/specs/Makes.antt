-- Mirror. The names of the methods that make the objects of sites, by their site.
use Rattle.std.specs.Prelude.{◌≡◌, ℕ, ◌<◌, ◌==◌, if◌then◌else◌, List, [], ◌∷◌, length, map, drop, get_or}
use Rattle.fact_model.specs.declared.facts.Facts.{Facts}
use Rattle.flow_rules.specs.Facts.{PlainMake, make_seen}

-- the first name of a site among some; where there is none, a name without characters
abbrev pub name_at : ℕ → List PlainMake → List ℕ
name_at s [] = []
name_at s (m ∷ ms) = if m.site == s then m.name else name_at s ms

-- for each site of the facts the name that their makes from a number on have for it
pub record AreMakeNames (F : Facts) (i : ℕ) (names : List (List ℕ)) : Type 0 where
  pub count : length names ≡ length F.sites.items
  pub each : (s : ℕ) → s < length F.sites.items → get_or names s [] ≡ name_at s (map make_seen (drop i F.makes.items))
