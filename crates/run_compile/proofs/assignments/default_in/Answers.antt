use Rattle.std.proofs.Common.{ℕ, zero, suc, sym, ap, subst, ◌∙◌}
use Rattle.java_core.specs.declared.TyBase.{TyBase}
use Rattle.java_core.specs.declared.TyBase.TheVariants.{Int, Boolean, Char, Str, Class}
use Rattle.java_heap.specs.Seen.{value_of}
use Rattle.java_meaning.specs.Moment.{Value, Text, Object}
use Rattle.java_meaning.specs.Values.{default_in}
use Rattle.run_compile.proofs.assignments.default_in.Goals as goal

-- a value that is no string, object or array
abbrev IsPlain : Value → Type 0
IsPlain (Text a) = ⊥
IsPlain (Object a) = ⊥
IsPlain v = Unit

default_plain : (b : TyBase) (d : ℕ) → IsPlain (default_in b d)
default_plain Int zero = tt
default_plain Boolean zero = tt
default_plain Char zero = tt
default_plain Str zero = tt
default_plain (Class c) zero = tt
default_plain b (suc d) = tt

pub returns-in-Str : goal.returns-in-Str
returns-in-Str c = absurd (subst IsPlain (sym c.default_of.ensures.value ∙ ap value_of c.in-Str.is) (default_plain c.args.ty.base c.args.ty.dim))

pub returns-in-Ref : goal.returns-in-Ref
returns-in-Ref c = absurd (subst IsPlain (sym c.default_of.ensures.value ∙ ap value_of c.in-Ref.is) (default_plain c.args.ty.base c.args.ty.dim))
