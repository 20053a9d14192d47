-- A program with its locals in order, and one with them out of order.
use Rattle.std.proofs.Common.{◌≡◌, ℕ, zero, suc, [], ◌∷◌, Some, None, refl, ap, ◌∙◌, subst, length}
use Rattle.std.specs.Prelude.{false, true}
use Rattle.std.proofs.lemmas.Option.{same_Some}
use Rattle.java_core.specs.declared.TyBase.TheVariants.{Int}
use Rattle.java_core.specs.Trees.{Sts, declare, block, no_st, st_then}
use Rattle.java_core.specs.Programs.{Plain, PlainLocal, PlainMethod}
use Rattle.java_core.specs.Types.{plain_type}
use Rattle.java_core.specs.Formed.{variables_of}
use Rattle.java_core.specs.Untagged.{bare_tag}
use Rattle.name_rules.specs.Resolves.{Counts, no_number, next_number, declares_all}
use Rattle.write_laws.specs.bodies.Known.{HasLocalsInOrder}

variable : PlainLocal
variable = record { name = []; ty = plain_type Int; tag = bare_tag }

-- a method of one parameter and two locals, and a program of it alone
abbrev method : Sts → PlainMethod
method code = record {
  owner = 1;
  name = [];
  is_static = true;
  is_public = false;
  slot = None;
  params = variable ∷ [];
  locals = variable ∷ variable ∷ [];
  result = None;
  body = Some code;
  tag = bare_tag;
}

abbrev program : Sts → Plain
program code = record { classes = []; fields = []; methods = method code ∷ []; slots = []; main = 0 }

-- the second local in a block, behind the first
abbrev two : ℕ → ℕ → Sts
two i j = st_then (declare bare_tag i None) (st_then (block bare_tag (st_then (declare bare_tag j None) no_st)) no_st)

in_order : HasLocalsInOrder (program (two 1 2))
unfolding HasLocalsInOrder
in_order zero k xs e b =
    let same : method (two 1 2) ≡ k = same_Some (method (two 1 2)) k e in
    let code : two 1 2 ≡ xs = same_Some (two 1 2) xs (ap (λ (z : PlainMethod). z.body) same ∙ b) in
    subst (λ z. Counts (length z.params) (declares_all xs) (length (variables_of z))) same
    (subst (λ z. Counts 1 (declares_all z) 3) code (next_number (next_number no_number)))
in_order (suc m) k xs e b = absurd (cc)

out_of_order : HasLocalsInOrder (program (two 2 1)) → ⊥
unfolding HasLocalsInOrder
out_of_order h = none (h 0 (method (two 2 1)) (two 2 1) refl refl)
  where
    none : Counts 1 (2 ∷ 1 ∷ []) 3 → ⊥
    none c = elim c [ ]
