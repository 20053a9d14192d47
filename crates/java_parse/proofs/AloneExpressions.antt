-- The grammar of expressions does not look behind what it derives.
use Rattle.std.proofs.Common.{◌≡◌, ℕ, List, [], ◌∷◌, Bool, true, refl, ◌∙◌}
use Rattle.kaba_base.specs.declared.Place.{Place}
use Rattle.java_lex.specs.declared.Token.{Token}
use Rattle.java_tree.specs.declared.TypeBase.{TypeBase}
use Rattle.java_tree.specs.declared.TypeName.{TypeName}
use Rattle.java_tree.specs.Syntax.{Expression, Expressions}
use Rattle.java_tree.specs.Tokens.{casts}
use Rattle.java_tree.specs.Expressions.{IsBase, int_base, boolean_base, char_base, named_base, IsDims, no_dims, one_dim, IsType, a_type, IsExpr, binary, instance_of, operand, IsPrefixed, signed, least, cast_named, cast_int, cast_char, bare, IsPost, field, call_on, index, int_literal, char_literal, string_literal, true_literal, false_literal, null_literal, this_word, name, call, super_call, round, new_object, new_array, IsArgs, no_args, some_args, IsMoreArgs, last_arg, next_arg}
use Rattle.java_parse.proofs.Cuts.{here, on, join, Alone, filled, same_front}

pub post_filled : {b : Bool} {ts rest : List Token} {e : Expression} → IsPost b ts rest e → filled ts ≡ true
post_filled (field d) = post_filled d
post_filled (call_on d a) = post_filled d
post_filled (index d i) = post_filled d
post_filled _ = refl

prefixed_filled : {ts rest : List Token} {e : Expression} → IsPrefixed ts rest e → filled ts ≡ true
prefixed_filled (bare d) = post_filled d
prefixed_filled _ = refl

pub base_alone : {ts rest : List Token} {x : TypeBase} {y : Place} → IsBase ts rest x y → Alone (λ ts rest. IsBase ts rest x y) ts rest
base_alone int_base = record { cut = on here; again = λ tail. int_base }
base_alone boolean_base = record { cut = on here; again = λ tail. boolean_base }
base_alone char_base = record { cut = on here; again = λ tail. char_base }
base_alone named_base = record { cut = on here; again = λ tail. named_base }

pub dims_alone : {ts rest : List Token} {x : ℕ} → IsDims ts rest x → Alone (λ ts rest. IsDims ts rest x) ts rest
dims_alone no_dims = record { cut = here; again = λ tail. no_dims }
dims_alone (one_dim p q d0) = let s0 = dims_alone d0 in record { cut = on (on s0.cut); again = λ tail. one_dim p q (s0.again tail) }

pub type_alone : {ts rest : List Token} {x : TypeName} → IsType ts rest x → Alone (λ ts rest. IsType ts rest x) ts rest
type_alone (a_type d0 d1) =
    let s0 = base_alone d0 in let s1 = dims_alone d1 in
    record { cut = join s0.cut s1.cut; again = λ tail. a_type (s0.again (s1.cut.put tail)) (s1.again tail) }

mutual
  pub expr_alone : {x : ℕ} {ts rest : List Token} {y : Expression} → IsExpr x ts rest y → Alone (λ ts rest. IsExpr x ts rest y) ts rest
  expr_alone (binary h0 h1 d0 d1) =
      let s0 = expr_alone d0 in let s1 = expr_alone d1 in
      record { cut = join s0.cut (on s1.cut); again = λ tail. binary h0 h1 (s0.again (_ ∷ s1.cut.put tail)) (s1.again tail) }
  expr_alone (instance_of h0 d0) =
      let s0 = expr_alone d0 in
      record { cut = join s0.cut (on (on here)); again = λ tail. instance_of h0 (s0.again (_ ∷ _ ∷ tail)) }
  expr_alone (operand d0) = let s0 = prefixed_alone d0 in record { cut = s0.cut; again = λ tail. operand (s0.again tail) }

  pub prefixed_alone : {ts rest : List Token} {x : Expression} → IsPrefixed ts rest x → Alone (λ ts rest. IsPrefixed ts rest x) ts rest
  prefixed_alone (signed h0 d0) = let s0 = prefixed_alone d0 in record { cut = on s0.cut; again = λ tail. signed h0 (s0.again tail) }
  prefixed_alone least = record { cut = on (on here); again = λ tail. least }
  prefixed_alone (cast_named h d) =
      let s = prefixed_alone d in
      record {
        cut = on (on (on s.cut));
        again = λ tail. cast_named (same_front casts (λ t us vs. refl) s.cut (prefixed_filled (s.again [])) tail ∙ h) (s.again tail);
      }
  prefixed_alone (cast_int d0) = let s0 = prefixed_alone d0 in record { cut = on (on (on s0.cut)); again = λ tail. cast_int (s0.again tail) }
  prefixed_alone (cast_char d0) =
      let s0 = prefixed_alone d0 in
      record { cut = on (on (on s0.cut)); again = λ tail. cast_char (s0.again tail) }
  prefixed_alone (bare d0) = let s0 = post_alone d0 in record { cut = s0.cut; again = λ tail. bare (s0.again tail) }

  pub post_alone : {x : Bool} {ts rest : List Token} {y : Expression} → IsPost x ts rest y → Alone (λ ts rest. IsPost x ts rest y) ts rest
  post_alone (field d0) =
      let s0 = post_alone d0 in
      record { cut = join s0.cut (on (on here)); again = λ tail. field (s0.again (_ ∷ _ ∷ tail)) }
  post_alone (call_on d0 d1) =
      let s0 = post_alone d0 in let s1 = args_alone d1 in
      record { cut = join s0.cut (on (on (on s1.cut))); again = λ tail. call_on (s0.again (_ ∷ _ ∷ _ ∷ s1.cut.put tail)) (s1.again tail) }
  post_alone (index d0 d1) =
      let s0 = post_alone d0 in let s1 = expr_alone d1 in
      record {
        cut = join s0.cut (on (join s1.cut (on here)));
        again = λ tail. index
            (s0.again (_ ∷ s1.cut.put (_ ∷ tail)))
            (s1.again (_ ∷ tail));
      }
  post_alone int_literal = record { cut = on here; again = λ tail. int_literal }
  post_alone char_literal = record { cut = on here; again = λ tail. char_literal }
  post_alone string_literal = record { cut = on here; again = λ tail. string_literal }
  post_alone true_literal = record { cut = on here; again = λ tail. true_literal }
  post_alone false_literal = record { cut = on here; again = λ tail. false_literal }
  post_alone null_literal = record { cut = on here; again = λ tail. null_literal }
  post_alone this_word = record { cut = on here; again = λ tail. this_word }
  post_alone name = record { cut = on here; again = λ tail. name }
  post_alone (call d0) = let s0 = args_alone d0 in record { cut = on (on s0.cut); again = λ tail. call (s0.again tail) }
  post_alone (super_call d0) = let s0 = args_alone d0 in record { cut = on (on (on (on s0.cut))); again = λ tail. super_call (s0.again tail) }
  post_alone (round d0) = let s0 = expr_alone d0 in record { cut = on (join s0.cut (on here)); again = λ tail. round (s0.again (_ ∷ tail)) }
  post_alone (new_object d0) = let s0 = args_alone d0 in record { cut = on (on (on s0.cut)); again = λ tail. new_object (s0.again tail) }
  post_alone (new_array d0 d1 d2) =
      let s0 = base_alone d0 in let s1 = expr_alone d1 in let s2 = dims_alone d2 in
      record {
        cut = on (join s0.cut (on (join s1.cut (on s2.cut))));
        again = λ tail. new_array
            (s0.again (_ ∷ s1.cut.put (_ ∷ s2.cut.put tail)))
            (s1.again (_ ∷ s2.cut.put tail))
            (s2.again tail);
      }

  pub args_alone : {ts rest : List Token} {x : Expressions} → IsArgs ts rest x → Alone (λ ts rest. IsArgs ts rest x) ts rest
  args_alone no_args = record { cut = on here; again = λ tail. no_args }
  args_alone (some_args d0 d1) =
      let s0 = expr_alone d0 in let s1 = more_args_alone d1 in
      record { cut = join s0.cut s1.cut; again = λ tail. some_args (s0.again (s1.cut.put tail)) (s1.again tail) }

  pub more_args_alone : {ts rest : List Token} {x : Expressions} → IsMoreArgs ts rest x → Alone (λ ts rest. IsMoreArgs ts rest x) ts rest
  more_args_alone last_arg = record { cut = on here; again = λ tail. last_arg }
  more_args_alone (next_arg d0 d1) =
      let s0 = expr_alone d0 in let s1 = more_args_alone d1 in
      record { cut = on (join s0.cut s1.cut); again = λ tail. next_arg (s0.again (s1.cut.put tail)) (s1.again tail) }
