-- Where a rule fails, the expression is not typed.
use Rattle.std.proofs.Common.{◌≡◌, ℕ, Bool, true, false, List, Option, Some, None, option_and_then, sym, ap, ◌∙◌, subst}
use Rattle.std.specs.Option.{is_some}
use Rattle.kaba_base.specs.declared.Place.{Place}
use Rattle.java_core.specs.declared.Ty.{Ty}
use Rattle.java_core.specs.Trees.{Ex, Exs}
use Rattle.java_core.specs.Programs.{Plain}
use Rattle.java_core.specs.Classes.{super_method, has_body}
use Rattle.java_core.specs.Types.{Env, Signature, signature_of_method, super_signature}
use Rattle.java_core.specs.Typing.{Typed, TypedArgs, t_field, t_index, t_call, t_static_call, t_super_call, t_create, t_make, t_create_array, t_cast, t_instance_of, t_unary, t_binary, t_ex_then}
use Rattle.java_check.specs.declared.Kind.{Kind}
use Rattle.java_check.specs.Fails.{IsOne, first_one, later_one, IsPart, field_base, index_base, index_at, call_base, call_argument, static_argument, super_argument, create_argument, array_size, cast_value, tested_value, unary_value, binary_left, binary_right, BadArguments, too_many, too_few, unfit, after, Breaks, no_field, bad_index, no_method, no_maker, call_arguments, no_static_method, static_arguments, no_super_method, no_super_body, super_arguments, not_concrete, unwanted_arguments, create_arguments, bad_size, bad_cast, bad_instance_of, bad_unary, bad_binary, Fails, itself, within}

-- true and false are not equal
pub clash : {b : Bool} → b ≡ true → b ≡ false → ⊥
clash h k = cc (h, k)

module _ (P : Plain) (g : Env) where
  one_typed : {d : Ex} {es : Exs} {us : List Ty} → IsOne d es → TypedArgs P g es us → Typed P g d
  one_typed first_one (t_ex_then h f more) = h
  one_typed (later_one is) (t_ex_then h f more) = one_typed is more

  pub part_typed : {d e : Ex} → IsPart d e → Typed P g e → Typed P g d
  part_typed field_base (t_field h a) = h
  part_typed index_base (t_index h a k b) = h
  part_typed index_at (t_index h a k b) = k
  part_typed call_base (t_call h a all) = h
  part_typed (call_argument is) (t_call h a all) = one_typed is all
  part_typed (static_argument is) (t_static_call a all) = one_typed is all
  part_typed (super_argument is) (t_super_call a b c all) = one_typed is all
  part_typed (create_argument is) (t_create a b) = elim is [ ]
  part_typed (create_argument is) (t_make a b c all) = one_typed is all
  part_typed array_size (t_create_array h a) = h
  part_typed cast_value (t_cast h a) = h
  part_typed tested_value (t_instance_of h a) = h
  part_typed unary_value (t_unary h a) = h
  part_typed binary_left (t_binary h k a) = h
  part_typed binary_right (t_binary h k a) = k

  bad_untyped : {es : Exs} {us : List Ty} → BadArguments P g es us → TypedArgs P g es us → ⊥
  bad_untyped too_many all = elim all [ ]
  bad_untyped too_few all = elim all [ ]
  bad_untyped (unfit h f) (t_ex_then k fit more) = clash fit f
  bad_untyped (after b) (t_ex_then k fit more) = bad_untyped b more

  at_signature : {es : Exs} {s r : Signature} → Some s ≡ Some r → BadArguments P g es s.params → TypedArgs P g es r.params → ⊥
  at_signature {es} {s} {r} e b all = let same : s ≡ r = cc in bad_untyped (subst (λ (x : Signature). BadArguments P g es x.params) same b) all

  same_body : (x : List ℕ) {m n : ℕ} → super_method P g.self x ≡ Some m → has_body P m ≡ false → super_method P g.self x ≡ Some n → has_body P n ≡ true → ⊥
  same_body x {m} {n} a f b c = let same : m ≡ n = cc in clash c (subst (λ k. has_body P k ≡ false) same f)

  super_signed : (x : List ℕ) {m : ℕ} {s : Signature} → super_method P g.self x ≡ Some m → signature_of_method P m ≡ Some s
      → super_signature P g.self x ≡ Some s
  unfolding super_signature
  super_signed x a s = rw a s

  signed_by : {o : Option ℕ} {m : ℕ} {s : Signature} → o ≡ Some m → signature_of_method P m ≡ Some s → option_and_then (signature_of_method P) o ≡ Some s
  signed_by a s = rw a s

  breaks_untyped : {e : Ex} {k : Kind} → Breaks P g e k → Typed P g e → ⊥
  breaks_untyped (no_field h a) (t_field k b) = let f : is_some {T = Ty} None ≡ true = sym (ap is_some a) ∙ b in cc f
  breaks_untyped (bad_index h k f) (t_index i a j b) = clash (rw (a, b)) f
  breaks_untyped (no_method h n a) (t_call k b all) = cc (a, b)
  breaks_untyped (no_maker h n a) (t_call k b all) = cc (a, b)
  breaks_untyped (call_arguments h a bad) (t_call k b all) = at_signature (sym a ∙ b) bad all
  breaks_untyped (no_static_method a) (t_static_call b all) = cc (a, b)
  breaks_untyped (static_arguments a bad) (t_static_call b all) = at_signature (sym a ∙ b) bad all
  breaks_untyped (no_super_method a) (t_super_call b c d all) = cc (a, b)
  breaks_untyped (no_super_body a f) (t_super_call b c d all) = same_body _ a f b c
  breaks_untyped (super_arguments a s bad) (t_super_call b c d all) = at_signature (sym (super_signed _ a s) ∙ d) bad all
  breaks_untyped (not_concrete f) (t_create h a) = clash h f
  breaks_untyped (not_concrete f) (t_make h a b all) = clash h f
  breaks_untyped (unwanted_arguments a) (t_make h b c all) = cc (a, b)
  breaks_untyped (create_arguments a s bad) (t_create h b) = cc (a, b)
  breaks_untyped (create_arguments a s bad) (t_make h b c all) = at_signature (sym (signed_by a s) ∙ signed_by b c) bad all
  breaks_untyped (bad_size h f) (t_create_array k b) = clash b f
  breaks_untyped (bad_cast h f) (t_cast k b) = clash b f
  breaks_untyped (bad_instance_of h f) (t_instance_of k b) = clash b f
  breaks_untyped (bad_unary h f) (t_unary k b) = clash b f
  breaks_untyped (bad_binary h k f) (t_binary i j b) = clash b f

  -- where a rule fails in an expression, it is not typed
  pub fails_untyped : {e : Ex} {k : Kind} {p : Place} → Fails P g e k p → Typed P g e → ⊥
  fails_untyped (itself b) h = breaks_untyped b h
  fails_untyped (within part f) h = fails_untyped f (part_typed part h)
