-- Mirror. What is known once a file was asked for.
use Rattle.std.specs.Prelude.{◌≡◌, ◌⊎◌, ℕ, ◌≤◌, List, length, Option, Some}
use Rattle.kaba_base.specs.Outside.{Files}
use Rattle.kaba_top.specs.declared.fetching.Fetched.{Fetched}
use Rattle.kaba_top.specs.declared.fetching.Fetched.TheVariants.{Bytes, Refused}
use Rattle.kaba_top.specs.Lines.{most_bytes}
use Rattle.kaba_top.specs.Agreement.{Agrees}
use Rattle.kaba_top.specs.Answers.{IsMissing, IsTooLarge, IsShelfFault, IsAnswered, FileAnswers}

-- some files that agree with what is told have these bytes under the name
pub record IsThere (told : Option Files) (name bytes : List ℕ) : Type 0 where
  pub files : Files
  pub agrees : Agrees told files
  pub there : files name ≡ Some bytes
  pub small : length bytes ≤ most_bytes

-- for some files that agree with what is told, the file is missing or too large
pub record IsFileRefused (told : Option Files) (name : List ℕ) (status : ℕ) (out err : List ℕ) : Type 0 where
  pub files : Files
  pub agrees : Agrees told files
  pub refused : IsMissing files name status out err ⊎ IsTooLarge files name status out err

-- the bytes of the file were fetched, or the reply says that it is missing or too large, or that there was a fault
abbrev pub IsFetched : Option Files → ℕ → ℕ → List ℕ → Fetched → Type 0
IsFetched told before now name (Bytes bytes) = IsThere told name bytes.items
IsFetched told before now name (Refused reply) = IsFileRefused told name reply.status reply.out.items reply.err.items
    ⊎ IsShelfFault before now name reply.status reply.out.items reply.err.items

-- the reply to a file of a command, where K are the answers for its bytes
abbrev pub FileReplies : Option Files → ℕ → ℕ → (List ℕ → ℕ → List ℕ → List ℕ → Type 0) → List ℕ → ℕ → List ℕ → List ℕ → Type 0
FileReplies told before now K name status out err = IsAnswered told (λ first second. FileAnswers K first name) status out err
    ⊎ IsShelfFault before now name status out err
