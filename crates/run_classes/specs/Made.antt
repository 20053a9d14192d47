-- Mirror. A new object.
use Rattle.std.specs.Prelude.{ℕ, Some}
use Rattle.java_core.specs.Programs.{Plain}
use Rattle.java_meaning.specs.Moment.{Cell, an_object}
use Rattle.java_meaning.specs.Languages.{fresh_of}

-- a new object of a class, of a creation
abbrev pub new_object : Plain → ℕ → ℕ → Cell
new_object P n c = record { site = Some n; kind = an_object c; values = fresh_of P c }
