-- Mirror. What each fault of the parser says of the tokens.
use Rattle.std.specs.Prelude.{◌≡◌, ℕ, ◌≤◌, List}
use Rattle.java_lex.specs.declared.Token.{Token}
use Rattle.java_tree.specs.Nesting.{nesting_of, IsTooDeep}
use Rattle.java_parse.specs.Beginnings.{IsExact}
use Rattle.java_parse.specs.declared.ParseFault.{ParseFault}
use Rattle.java_parse.specs.declared.ParseFault.TheVariants as faults

-- why it comes: the tokens are not nested too deep, and this is the first that cannot stand where it does; or this token is
-- the first that goes too deep
abbrev pub IsParseCause : List Token → ParseFault → Type 0
IsParseCause ts (faults.NotAProgram k) = (nesting_of ts ≤ 128) × IsExact ts k
IsParseCause ts (faults.TooDeep k) = IsTooDeep ts k
IsParseCause ts faults.Memory = Unit {0}

-- this token is said to go too deep, or memory was short
abbrev pub IsDeepAt : ℕ → ParseFault → Type 0
IsDeepAt k (faults.NotAProgram j) = ⊥
IsDeepAt k (faults.TooDeep j) = j ≡ k
IsDeepAt k faults.Memory = Unit {0}

-- the tokens are said to be no program, or memory was short
abbrev pub IsRefusal : ParseFault → Type 0
IsRefusal (faults.NotAProgram k) = Unit {0}
IsRefusal (faults.TooDeep k) = ⊥
IsRefusal faults.Memory = Unit {0}

-- memory was short
abbrev pub IsShort : ParseFault → Type 0
IsShort (faults.NotAProgram k) = ⊥
IsShort (faults.TooDeep k) = ⊥
IsShort faults.Memory = Unit {0}
