-- What is no class stays as it is, whatever its row.
use Rattle.std.proofs.Common.{◌≡◌, ℕ, Option, Some, None, refl, sym}
use Rattle.std.specs.Prelude.{false}
use Rattle.std.proofs.lemmas.Bool.{false≢true}
use Rattle.java_core.specs.declared.TyBase.{TyBase}
use Rattle.java_core.specs.declared.TyBase.TheVariants.{Int, Boolean, Char, Str, Class}
use Rattle.java_core.specs.Types.{is_class}
use Rattle.rebuild_model.specs.Renaming.{reclassed}

pub reclassed_plain : (k : Option ℕ) (b : TyBase) → is_class b ≡ false → reclassed k b ≡ b
reclassed_plain None b e = refl
reclassed_plain (Some k) Int e = refl
reclassed_plain (Some k) Boolean e = refl
reclassed_plain (Some k) Char e = refl
reclassed_plain (Some k) Str e = refl
reclassed_plain (Some k) (Class c) e = absurd (false≢true (sym e))
