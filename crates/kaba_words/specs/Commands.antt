-- Believed. The words of the command line, and the commands that they say.
use Rattle.std.specs.Prelude.{◌≡◌, ℕ, ◌<◌, ◌≤◌, Bool, true, false, List, [], ◌∷◌, ◌++◌, length, map, codes, string_bytes}
use Rattle.std.specs.List.{All}
use Rattle.std.specs.Fmt.{decimal}
use Rattle.std.specs.declared.string.String.{String}
use Rattle.std.specs.declared.alloc.Global.{Global}
use Rattle.kaba_words.specs.declared.words.Command.{Command}
use Rattle.kaba_words.specs.declared.words.Command.TheVariants as commands

-- a command, its words as bytes
pub data Cmd : Type 0 where
  run : (file : List ℕ) (steps : ℕ) (words : List (List ℕ)) → Cmd
  table : (file : List ℕ) → Cmd
  lattice : (json : Bool) (bound : ℕ) (file : List ℕ) → Cmd
  base : (file : List ℕ) → Cmd
  why : (file : List ℕ) (row column : ℕ) → Cmd
  sure : (file : List ℕ) → Cmd
  same : (first second : List ℕ) → Cmd
  edit : (bound : ℕ) (file script : List ℕ) → Cmd
  regen : (bound : ℕ) (file script : List ℕ) → Cmd
  make : (prints : Bool) (number : ℕ) → Cmd
  help : Cmd
  version : Cmd

-- the bytes of each of these strings
abbrev pub texts : List (String Global) → List (List ℕ)
texts words = map string_bytes words

-- the command that a parsed command line is, its strings as bytes
abbrev pub command_of : Command → Cmd
command_of (commands.Run file steps words) = run (string_bytes file) steps (texts words.items)
command_of (commands.Table file) = table (string_bytes file)
command_of (commands.Lattice json bound file) = lattice json bound (string_bytes file)
command_of (commands.Base file) = base (string_bytes file)
command_of (commands.Why file row column) = why (string_bytes file) row column
command_of (commands.Sure file) = sure (string_bytes file)
command_of (commands.Same first second) = same (string_bytes first) (string_bytes second)
command_of (commands.Edit bound file script) = edit bound (string_bytes file) (string_bytes script)
command_of (commands.Regen bound file script) = regen bound (string_bytes file) (string_bytes script)
command_of (commands.Make prints number) = make prints number
command_of commands.Help = help
command_of commands.Version = version

-- the word is the number n, in decimal digits without a leading zero, and n is within the limit
pub record IsNumberWord (word : List ℕ) (limit n : ℕ) : Type 0 where
  pub digits : word ≡ decimal n
  pub small : n ≤ limit

-- how many steps a run may be given at most
abbrev pub most_steps : ℕ
most_steps = 1000000000

-- how many words may follow the steps, and how many bytes one of them may have
abbrev pub most_units : ℕ
most_units = 2147483647

-- FILE STEPS WORD..
pub record FitsRun (words : List (List ℕ)) (file : List ℕ) (steps : ℕ) (more : List (List ℕ)) : Type 0 where
  pub number : List ℕ
  pub words_are : words ≡ file ∷ number ∷ more
  pub is_number : IsNumberWord number most_steps steps
  pub few : length more ≤ most_units
  pub short : All (λ word. length word ≤ most_units) more

-- an optional word that stands in its place or not, and the words after it
abbrev pub TakesFlag : List ℕ → List (List ℕ) → Bool → List (List ℕ) → Type 0
TakesFlag flag words true rest = words ≡ flag ∷ rest
TakesFlag flag words false rest = (words ≡ rest) × ((more : List (List ℕ)) → words ≡ flag ∷ more → ⊥)

-- how many concepts a lattice may have: what is asked for at most, and what is allowed where nothing is asked
abbrev pub most_concepts : ℕ
most_concepts = 16384

-- how many concepts a lattice may have where the command line does not say
abbrev pub usual_concepts : ℕ
usual_concepts = 4096

-- N after `-c`
abbrev pub BoundAfter : Bool → List (List ℕ) → ℕ → List (List ℕ) → Type 0
BoundAfter false words n rest = (words ≡ rest) × (n ≡ usual_concepts)
BoundAfter true words n rest = (word : List ℕ) × (words ≡ word ∷ rest) × IsNumberWord word most_concepts n × (0 < n)

-- [-c N]
pub record TakesBound (words : List (List ℕ)) (n : ℕ) (rest : List (List ℕ)) : Type 0 where
  pub asked : Bool
  pub after : List (List ℕ)
  pub flag : TakesFlag (codes "-c") words asked after
  pub bound : BoundAfter asked after n rest

-- [-j] [-c N] FILE
pub record FitsLattice (words : List (List ℕ)) (json : Bool) (bound : ℕ) (file : List ℕ) : Type 0 where
  pub after : List (List ℕ)
  pub flag : TakesFlag (codes "-j") words json after
  pub rest : List (List ℕ)
  pub takes_bound : TakesBound after bound rest
  pub file_is : rest ≡ file ∷ []

-- the greatest number that a row or a column may be asked for by
abbrev pub most_numbers : ℕ
most_numbers = 4294967295

-- the word of a row: an r and its number
abbrev pub row_word : ℕ → List ℕ
row_word n = codes "r" ++ decimal n

-- the word of a column: a c and its number
abbrev pub column_word : ℕ → List ℕ
column_word n = codes "c" ++ decimal n

-- FILE ROW COLUMN
pub record FitsWhy (words : List (List ℕ)) (file : List ℕ) (row column : ℕ) : Type 0 where
  pub words_are : words ≡ file ∷ row_word row ∷ column_word column ∷ []
  pub row_small : row ≤ most_numbers
  pub column_small : column ≤ most_numbers

-- [-c N] FILE SCRIPT
pub record FitsEdit (words : List (List ℕ)) (bound : ℕ) (file script : List ℕ) : Type 0 where
  pub rest : List (List ℕ)
  pub takes_bound : TakesBound words bound rest
  pub files_are : rest ≡ file ∷ script ∷ []

-- the words are no FILE SCRIPT with or without a bound
abbrev pub NoEdit : List (List ℕ) → Type 0
NoEdit words = (bound : ℕ) (file script : List ℕ) → FitsEdit words bound file script → ⊥

-- the greatest number of a sample
abbrev pub most_samples : ℕ
most_samples = 100

-- [-p] NUMBER
pub record FitsMake (words : List (List ℕ)) (prints : Bool) (n : ℕ) : Type 0 where
  pub after : List (List ℕ)
  pub flag : TakesFlag (codes "-p") words prints after
  pub word : List ℕ
  pub word_is : after ≡ word ∷ []
  pub number : IsNumberWord word most_samples n
  pub some : 0 < n

-- the words are no NUMBER with or without a flag
abbrev pub NoMake : List (List ℕ) → Type 0
NoMake words = (prints : Bool) (n : ℕ) → FitsMake words prints n → ⊥

-- the words after the command's name
abbrev pub FitsArguments : List ℕ → List (List ℕ) → Cmd → Type 0
FitsArguments name words (run file steps more) = (name ≡ codes "run") × FitsRun words file steps more
FitsArguments name words (table file) = (name ≡ codes "table") × (words ≡ file ∷ [])
FitsArguments name words (lattice json bound file) = (name ≡ codes "lattice") × FitsLattice words json bound file
FitsArguments name words (base file) = (name ≡ codes "base") × (words ≡ file ∷ [])
FitsArguments name words (why file row column) = (name ≡ codes "why") × FitsWhy words file row column
FitsArguments name words (sure file) = (name ≡ codes "sure") × (words ≡ file ∷ [])
FitsArguments name words (same first second) = (name ≡ codes "same") × (words ≡ first ∷ second ∷ [])
FitsArguments name words (edit bound file script) = (name ≡ codes "edit") × FitsEdit words bound file script
FitsArguments name words (regen bound file script) = (name ≡ codes "regen") × FitsEdit words bound file script
FitsArguments name words (make prints n) = (name ≡ codes "make") × FitsMake words prints n
FitsArguments name words help = (name ≡ codes "--help") × (words ≡ [])
FitsArguments name words version = (name ≡ codes "--version") × (words ≡ [])

-- the words say this command
abbrev pub Fits : List (List ℕ) → Cmd → Type 0
Fits [] command = ⊥
Fits (name ∷ words) command = FitsArguments name words command

-- the words say no command
abbrev pub FitsNone : List (List ℕ) → Type 0
FitsNone words = (command : Cmd) → Fits words command → ⊥
