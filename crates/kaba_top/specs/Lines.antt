-- Believed. What an answer looks like: the status, the bytes for out and the bytes for err.
use Rattle.std.specs.Prelude.{◌≡◌, ℕ, List, [], ◌∷◌, ◌++◌, codes}

-- a line for err
abbrev pub line : List ℕ → List ℕ
line text = codes "kaba: " ++ (text ++ 10 ∷ [])

-- an answer with nothing for out and one line for err
pub record Says (wanted : ℕ) (text : List ℕ) (status : ℕ) (out err : List ℕ) : Type 0 where
  pub status_is : status ≡ wanted
  pub out_is : out ≡ []
  pub err_is : err ≡ line text

-- an answer with these bytes for out and these for err
pub record GivesReply (wanted : ℕ) (bytes lines : List ℕ) (status : ℕ) (out err : List ℕ) : Type 0 where
  pub status_is : status ≡ wanted
  pub out_is : out ≡ bytes
  pub err_is : err ≡ lines

-- the text for a command that is none
abbrev pub usage : List ℕ
usage = codes "usage"

-- the text for a file that cannot be read
abbrev pub cannot_read : List ℕ → List ℕ
cannot_read file = codes "cannot read " ++ file

-- the most bytes that a file may have
abbrev pub most_bytes : ℕ
most_bytes = 1048576

-- the text for a file of more bytes than it may have
abbrev pub file_too_large : List ℕ
file_too_large = codes "too large: file 1048576"
