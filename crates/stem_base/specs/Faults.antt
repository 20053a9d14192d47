-- Mirror. Why `stem` gives no base.
use Rattle.std.specs.Prelude.{◌≡◌, ℕ, Bool, List}
use Rattle.stem_base.specs.declared.BaseFault.{BaseFault}
use Rattle.stem_base.specs.declared.BaseFault.TheVariants as faults
use Rattle.stem_base.specs.Base.{common, AreMoreStems}

-- there are more implications than the bound; want of memory comes at any time
abbrev pub IsBaseFault : List (List Bool) → ℕ → ℕ → BaseFault → Type 0
IsBaseFault T w bound (faults.TooManyImplications b) = (b ≡ bound) × AreMoreStems w (common T w) bound
IsBaseFault T w bound faults.Memory = Unit {0}
