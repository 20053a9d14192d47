-- What a loop over the tokens has read so far.
use Rattle.std.proofs.Common.{◌≤◌, length, List}
use Rattle.java_lex.specs.declared.Token.{Token}
use Rattle.java_parse.specs.Reading.{ParseOutcome}

-- what is read from here on, with what is read so far, the whole is read as; and here is no earlier than where the whole begins
pub record GoesOn {A : Type 0} (from : List Token → ParseOutcome A → Type 0) (whole : List Token → ParseOutcome A → Type 0) (rest tokens : List Token) : Type 0 where
  pub so_far : (o : ParseOutcome A) → from rest o → whole tokens o
  pub shorter : length rest ≤ length tokens
