-- What is answered of an expression is right: typed, with this static type, or a rule fails at the place.
use Rattle.std.proofs.Common.{◌≡◌, ◌&&◌, if◌then◌else◌, ℕ, Bool, true, false, List, [], ◌∷◌, Option, Some, None, Result, Ok, Err, option_and_then, refl, sym, ap, ◌∙◌, slice_get}
use Rattle.std.specs.Option.{is_some, unwrap_or}
use Rattle.std.proofs.lemmas.Bool.{and_parts}
use Rattle.kaba_base.specs.declared.Place.{Place}
use Rattle.java_core.specs.declared.Ty.{Ty}
use Rattle.java_core.specs.Trees.{Tag, Ex, Exs, no_ex, ex_then, number, character, text, truth, null, this, local, static_field, own_field, field, index, call, static_call, super_call, create, create_array, cast, instance_of, unary, binary}
use Rattle.java_core.specs.Programs.{Plain, PlainClass, PlainMethod}
use Rattle.java_core.specs.Classes.{own_method, super_method, has_body, is_concrete}
use Rattle.java_core.specs.Makers.{maker_name, maker_of}
use Rattle.java_core.specs.Types as types
use Rattle.java_core.specs.Types.{Static, Env, or_nothing, class_of, element_of, is_numeric, fits, Signature, call_signature, signature_of_method, super_signature, access_type, binary_type, static}
use Rattle.java_core.specs.Typing.{takes_one, takes_two, are_related, can_cast, Typed, TypedArgs, t_number, t_character, t_text, t_truth, t_null, t_this, t_local, t_static_field, t_own_field, t_field, t_index, t_call, t_static_call, t_super_call, t_create, t_make, t_create_array, t_cast, t_instance_of, t_unary, t_binary, t_no_ex, t_ex_then}
use Rattle.java_core.specs.declared.statics.Static as declared
use Rattle.java_core.proofs.Offered.{own_method-own}
use Rattle.java_check.specs.declared.Kind.{Kind}
use Rattle.java_check.specs.declared.Kind.TheVariants.{Operand, Arguments, Cast, NoMember}
use Rattle.java_check.specs.declared.CheckFault.{CheckFault}
use Rattle.java_check.specs.declared.CheckFault.TheVariants.{IllTyped, Memory}
use Rattle.java_core.specs.Statics.{static_seen as seen, given_of}
use Rattle.java_check.specs.Outcome.{Answer, answer, args_answer, and_then, asked, member_answer, none_called, call_answer, super_body, super_answer, made_params, create_answer}
use Rattle.java_check.specs.Fails.{tag_of, names_maker, IsOne, first_one, later_one, IsPart, field_base, index_base, index_at, call_base, call_argument, static_argument, super_argument, create_argument, array_size, cast_value, tested_value, unary_value, binary_left, binary_right, BadArguments, too_many, too_few, unfit, after, Breaks, no_field, bad_index, no_method, no_maker, call_arguments, no_static_method, static_arguments, no_super_method, no_super_body, super_arguments, not_concrete, unwanted_arguments, create_arguments, bad_size, bad_cast, bad_instance_of, bad_unary, bad_binary, Fails, itself, within}

pub seen-given_of : (o : Option Ty) → or_nothing o ≡ seen (given_of o)
seen-given_of None = refl
seen-given_of (Some u) = refl

-- a class's constructor is one of the methods
signed-maker : (P : Plain) (c m : ℕ) → maker_of P c ≡ Some m → signature_of_method P m ≡ None → ⊥
signed-maker P c m o a = class (slice_get P.classes c) refl
  where
    class : (k : Option PlainClass) → slice_get P.classes c ≡ k → ⊥
    class None e = let f : maker_of P c ≡ None = rw e refl in cc (o, f)
    class (Some k) e =
        let own : own_method P c (maker_name k.name) ≡ Some m = sym (ap (option_and_then (λ d. own_method P c (maker_name d.name))) e) ∙ o in
        let is = own_method-own P c (maker_name k.name) m own in
        let f : is_some (signature_of_method P m) ≡ true = rw is.stands refl in
        let g : is_some (signature_of_method P m) ≡ false = ap is_some a in
        cc (f, g)

module _ (P : Plain) (g : Env) where
  abbrev pub Judged : Ex → Answer → Type 0
  Judged e (Ok s) = Typed P g e × (static P g e ≡ seen s)
  Judged e (Err (IllTyped k p)) = Fails P g e k p
  Judged e (Err Memory) = ⊥

  data ArgsFail (t : Tag) (es : Exs) (us : List Ty) : Kind → Place → Type 0 where
    bad : BadArguments P g es us → ArgsFail t es us Arguments t.place
    one : {d : Ex} {k : Kind} {p : Place} → IsOne d es → Fails P g d k p → ArgsFail t es us k p

  abbrev JudgedArgs : Tag → Exs → List Ty → Result (Unit {0}) CheckFault → Type 0
  JudgedArgs t es us (Ok x) = TypedArgs P g es us
  JudgedArgs t es us (Err (IllTyped k p)) = ArgsFail t es us k p
  JudgedArgs t es us (Err Memory) = ⊥

  then_judged : {e d : Ex} (r : Answer) (f : declared.Static → Answer) → IsPart e d → Judged e r
      → ((s : declared.Static) → Typed P g e → static P g e ≡ seen s → Judged d (f s)) → Judged d (and_then r f)
  then_judged (Ok s) f part h k = k s h.0 h.1
  then_judged (Err (IllTyped x p)) f part h k = within part h
  then_judged (Err Memory) f part h k = h

  asked_judged : {d : Ex} (b : Bool) (k : Kind) (s : declared.Static) → (b ≡ true → Typed P g d) → static P g d ≡ seen s
      → (b ≡ false → Breaks P g d k) → Judged d (asked b k (tag_of d) s)
  asked_judged true k s typed same broken = (typed refl, same)
  asked_judged false k s typed same broken = itself (broken refl)

  shifted : {t : Tag} {e : Ex} {es : Exs} {u : Ty} {us : List Ty} {k : Kind} {p : Place} → ArgsFail t es us k p → ArgsFail t (ex_then e es) (u ∷ us) k p
  shifted (bad b) = bad (after b)
  shifted (one is f) = one (later_one is) f

  rest_judged : (t : Tag) (e : Ex) (es : Exs) (u : Ty) (us : List Ty) (r : Result (Unit {0}) CheckFault) → Typed P g e → fits P (static P g e) u
      ≡ true → JudgedArgs t es us r → JudgedArgs t (ex_then e es) (u ∷ us) r
  rest_judged t e es u us (Ok x) typed fit h = t_ex_then typed fit h
  rest_judged t e es u us (Err (IllTyped k p)) typed fit h = shifted h
  rest_judged t e es u us (Err Memory) typed fit h = h

  arg_judged : (e : Ex) (es : Exs) (us : List Ty) (t : Tag) (u : Ty) (r : Answer) (rest : Result (Unit {0}) CheckFault) → Judged e r → JudgedArgs t es us rest
      → JudgedArgs t (ex_then e es) (u ∷ us) (and_then (and_then r (λ s. asked (fits P (seen s) u) Arguments t (tt {0}))) (λ _. rest))
  arg_judged e es us t u (Err (IllTyped k p)) rest h more = one first_one h
  arg_judged e es us t u (Err Memory) rest h more = h
  arg_judged e es us t u (Ok s) rest h more = split (fits P (seen s) u) refl
    where
      split : (b : Bool) → fits P (seen s) u ≡ b → JudgedArgs t (ex_then e es) (u ∷ us) (and_then (asked b Arguments t (tt {0})) (λ _. rest))
      split true b = rest_judged t e es u us rest h.0 (ap (λ x. fits P x u) h.1 ∙ b) more
      split false b = bad (unfit h.0 (ap (λ x. fits P x u) h.1 ∙ b))

  given_judged : {d : Ex} {es : Exs} (t : Tag) (us : List Ty) (given : declared.Static) (r : Result (Unit {0}) CheckFault) → JudgedArgs t es us r
      → (TypedArgs P g es us → Typed P g d) → static P g d ≡ seen given
      → (BadArguments P g es us → Fails P g d Arguments t.place) → ((c : Ex) → IsOne c es → IsPart c d)
      → Judged d (and_then r (λ _. Ok given))
  given_judged t us given (Ok x) h typed same broken part = (typed h, same)
  given_judged {d} {es} t us given (Err (IllTyped k p)) h typed same broken part = failed h
    where
      failed : {k : Kind} {p : Place} → ArgsFail t es us k p → Fails P g d k p
      failed (bad b) = broken b
      failed (one is f) = within (part _ is) f
  given_judged t us given (Err Memory) h typed same broken part = h

  called_judged : {d : Ex} {es : Exs} (t : Tag) (s : Signature) (r : Result (Unit {0}) CheckFault) → JudgedArgs t es s.params r
      → (TypedArgs P g es s.params → Typed P g d) → static P g d ≡ or_nothing s.result
      → (BadArguments P g es s.params → Fails P g d Arguments t.place) → ((c : Ex) → IsOne c es → IsPart c d)
      → Judged d (and_then r (λ _. Ok (given_of s.result)))
  called_judged t s r h typed same broken part = given_judged t s.params (given_of s.result) r h typed (same ∙ seen-given_of s.result) broken part

  field_judged : {e : Ex} (t : Tag) (x : List ℕ) (s : declared.Static) → Typed P g e → static P g e ≡ seen s
      → Judged (field t e x) (member_answer (access_type P (seen s) x) t)
  field_judged {e} t x s typed same = split (access_type P (seen s) x) refl
    where
      split : (o : Option Ty) → access_type P (seen s) x ≡ o → Judged (field t e x) (member_answer o t)
      split None a = let h : access_type P (static P g e) x ≡ None = ap (λ s. access_type P s x) same ∙ a in itself (no_field typed h)
      split (Some u) a = let h : access_type P (static P g e) x ≡ Some u = ap (λ s. access_type P s x) same ∙ a in (t_field typed (rw h refl), rw h refl)

  index_judged : {e i : Ex} (t : Tag) (s j : declared.Static) → Typed P g e → static P g e ≡ seen s → Typed P g i → static P g i ≡ seen j
      → Judged (index t e i) (asked (is_some (element_of (seen s)) && is_numeric (seen j)) Operand t (given_of (element_of (seen s))))
  index_judged {e} {i} t s j te se ti si =
      let b = is_some (element_of (seen s)) && is_numeric (seen j) in
      let same : (is_some (element_of (static P g e)) && is_numeric (static P g i)) ≡ b = rw (se, si) refl in
      asked_judged b Operand (given_of (element_of (seen s)))
      (λ h. let both = and_parts (is_some (element_of (static P g e))) (is_numeric (static P g i)) (same ∙ h) in t_index te both.0 ti both.1)
      (ap (λ s. or_nothing (element_of s)) se ∙ seen-given_of (element_of (seen s)))
      (λ h. bad_index te ti (same ∙ h))

  call_judged : {e : Ex} (es : Exs) (t : Tag) (x : List ℕ) (s : declared.Static) → Typed P g e → static P g e ≡ seen s
      → ((us : List Ty) → JudgedArgs t es us (args_answer P g es t us))
      → Judged (call t e x es) (call_answer (none_called x) (call_signature P (seen s) x) (args_answer P g es t) t)
  call_judged {e} es t x s typed same args = split (call_signature P (seen s) x) refl
    where
      none : call_signature P (static P g e) x ≡ None → (b : Bool) → names_maker x ≡ b
          → Fails P g (call t e x es) (if b then Arguments else NoMember) t.place
      none a true b = itself (no_maker typed b a)
      none a false b = itself (no_method typed b a)

      split : (o : Option Signature) → call_signature P (seen s) x ≡ o → Judged (call t e x es) (call_answer (none_called x) o (args_answer P g es t) t)
      split None a = none (ap (λ s. call_signature P s x) same ∙ a) (names_maker x) refl
      split (Some k) a =
          let h : call_signature P (static P g e) x ≡ Some k = ap (λ s. call_signature P s x) same ∙ a in
          called_judged t k (args_answer P g es t k.params) (args k.params) (λ all. t_call typed h all) (ap types.result_of h)
          (λ b. itself (call_arguments typed h b)) (λ c is. call_argument is)

  static_judged : (es : Exs) (t : Tag) (m : ℕ) → ((us : List Ty) → JudgedArgs t es us (args_answer P g es t us))
      → Judged (static_call t m es) (call_answer NoMember (signature_of_method P m) (args_answer P g es t) t)
  static_judged es t m args = split (signature_of_method P m) refl
    where
      split : (o : Option Signature) → signature_of_method P m ≡ o → Judged (static_call t m es) (call_answer NoMember o (args_answer P g es t) t)
      split None a = itself (no_static_method a)
      split (Some k) a = called_judged t k (args_answer P g es t k.params) (args k.params) (λ all. t_static_call a all) (ap types.result_of a)
          (λ b. itself (static_arguments a b)) (λ c is. static_argument is)

  bodied : (m : ℕ) (o : Option PlainMethod) → slice_get P.methods m ≡ o → has_body P m ≡ true → signature_of_method P m ≡ None → ⊥
  bodied m None e h k = let f : has_body P m ≡ false = rw e refl in cc (h, f)
  bodied m (Some q) e h k = let f : is_some (signature_of_method P m) ≡ true = rw e refl in let w : is_some (signature_of_method P m)
      ≡ false = ap is_some k in cc (f, w)

  super_judged : (es : Exs) (t : Tag) (x : List ℕ) → ((us : List Ty) → JudgedArgs t es us (args_answer P g es t us))
      → Judged (super_call t x es) (super_answer P (super_method P g.self x) (args_answer P g es t) t)
  unfolding super_signature
  super_judged es t x args = split (super_method P g.self x) refl
    where
      signed : (m : ℕ) (o : Option Signature) → super_method P g.self x ≡ Some m → has_body P m ≡ true → signature_of_method P m ≡ o
          → Judged (super_call t x es) (call_answer NoMember o (args_answer P g es t) t)
      signed m None s h a = absurd (bodied m (slice_get P.methods m) refl h a)
      signed m (Some k) s h a =
          let e : super_signature P g.self x ≡ Some k = rw s a in
          called_judged t k (args_answer P g es t k.params) (args k.params) (λ all. t_super_call s h e all) (ap types.result_of e)
          (λ b. itself (super_arguments s a b)) (λ c is. super_argument is)

      body : (b : Bool) (m : ℕ) → super_method P g.self x ≡ Some m → has_body P m ≡ b → Judged (super_call t x es) (super_body P b m (args_answer P g es t) t)
      body true m s h = signed m (signature_of_method P m) s h refl
      body false m s h = itself (no_super_body s h)

      split : (o : Option ℕ) → super_method P g.self x ≡ o → Judged (super_call t x es) (super_answer P o (args_answer P g es t) t)
      split None s = itself (no_super_method s)
      split (Some m) s = body (has_body P m) m s refl

  bare_judged : (t : Tag) (n c : ℕ) (es : Exs) → is_concrete P c ≡ true → maker_of P c ≡ None
      → Judged (create t n c es) (create_answer true (args_answer P g es t []) c t)
  bare_judged t n c no_ex h m = (t_create h m, refl)
  bare_judged t n c (ex_then e es) h m = itself (unwanted_arguments m)

  made_judged : (es : Exs) (t : Tag) (n c m : ℕ) → is_concrete P c ≡ true → maker_of P c ≡ Some m
      → ((us : List Ty) → JudgedArgs t es us (args_answer P g es t us))
      → Judged (create t n c es) (create_answer true (args_answer P g es t (made_params P (Some m))) c t)
  made_judged es t n c m h o args = split (signature_of_method P m) refl
    where
      split : (s : Option Signature) → signature_of_method P m ≡ s
          → Judged (create t n c es) (create_answer true (args_answer P g es t (unwrap_or s (record { params = []; result = None })).params) c t)
      split None a = absurd (signed-maker P c m o a)
      split (Some k) a = given_judged t k.params (declared.TheVariants.Value (types.class_type c)) (args_answer P g es t k.params) (args k.params)
          (λ all. t_make h o a all) refl (λ b. itself (create_arguments o a b)) (λ d is. create_argument is)

  create_judged : (es : Exs) (t : Tag) (n c : ℕ) → ((us : List Ty) → JudgedArgs t es us (args_answer P g es t us)) → (b : Bool) → is_concrete P c ≡ b
      → Judged (create t n c es) (create_answer b (args_answer P g es t (made_params P (maker_of P c))) c t)
  create_judged es t n c args false h = itself (not_concrete h)
  create_judged es t n c args true h = split (maker_of P c) refl
    where
      split : (o : Option ℕ) → maker_of P c ≡ o → Judged (create t n c es) (create_answer true (args_answer P g es t (made_params P o)) c t)
      split None m = bare_judged t n c es h m
      split (Some m) o = made_judged es t n c m h o args

  mutual
    pub judged : (e : Ex) → Judged e (answer P g e)
    judged (number t n) = (t_number, refl)
    judged (character t c) = (t_character, refl)
    judged (text t u) = (t_text, refl)
    judged (truth t b) = (t_truth, refl)
    judged (null t) = (t_null, refl)
    judged (this t) = (t_this, refl)
    judged (local t i) = (t_local, seen-given_of (slice_get g.locals i))
    judged (static_field t f) = (t_static_field, seen-given_of (types.field_type P f))
    judged (own_field t f) = (t_own_field, seen-given_of (types.field_type P f))
    judged (field t e x) = then_judged (answer P g e) _ field_base (judged e) (λ s te se. field_judged t x s te se)
    judged (index t e i) = then_judged (answer P g e) _ index_base (judged e) (λ s te se. then_judged (answer P g i) _ index_at (judged i)
        (λ j ti si. index_judged t s j te se ti si))
    judged (call t e x es) = then_judged (answer P g e) _ call_base (judged e) (λ s te se. call_judged es t x s te se (λ us. judged_args es t us))
    judged (static_call t m es) = static_judged es t m (λ us. judged_args es t us)
    judged (super_call t x es) = super_judged es t x (λ us. judged_args es t us)
    judged (create t n c es) = create_judged es t n c (λ us. judged_args es t us) (is_concrete P c) refl
    judged (create_array t n u e) = then_judged (answer P g e) _ array_size (judged e)
        (λ s te se. asked_judged (is_numeric (seen s)) Operand (declared.TheVariants.Value u) (λ h. t_create_array te (ap is_numeric se ∙ h)) refl
        (λ h. bad_size te (ap is_numeric se ∙ h)))
    judged (cast t n u e) = then_judged (answer P g e) _ cast_value (judged e)
        (λ s te se. asked_judged (can_cast P (seen s) u) Cast (declared.TheVariants.Value u) (λ h. t_cast te (ap (λ x. can_cast P x u) se ∙ h)) refl
        (λ h. bad_cast te (ap (λ x. can_cast P x u) se ∙ h)))
    judged (instance_of t n e c) = then_judged (answer P g e) _ tested_value (judged e)
        (λ s te se. asked_judged (are_related P (class_of (seen s)) (Some c)) Cast _
        (λ h. t_instance_of te (ap (λ x. are_related P (class_of x) (Some c)) se ∙ h)) refl
        (λ h. bad_instance_of te (ap (λ x. are_related P (class_of x) (Some c)) se ∙ h)))
    judged (unary t o e) = then_judged (answer P g e) _ unary_value (judged e)
        (λ s te se. asked_judged (takes_one o (seen s)) Operand (declared.TheVariants.Value (types.unary_type o))
        (λ h. t_unary te (ap (takes_one o) se ∙ h)) refl (λ h. bad_unary te (ap (takes_one o) se ∙ h)))
    judged (binary t o e d) = then_judged (answer P g e) _ binary_left (judged e)
        (λ s te se. then_judged (answer P g d) _ binary_right (judged d)
        (λ r td sd. let same : takes_two P o (static P g e) (static P g d) ≡ takes_two P o (seen s) (seen r) = rw (se, sd) refl in
        asked_judged (takes_two P o (seen s) (seen r)) Operand (declared.TheVariants.Value (binary_type o (seen s) (seen r)))
        (λ h. t_binary te td (same ∙ h)) (rw (se, sd) refl) (λ h. bad_binary te td (same ∙ h))))

    judged_args : (es : Exs) (t : Tag) (us : List Ty) → JudgedArgs t es us (args_answer P g es t us)
    judged_args no_ex t [] = t_no_ex
    judged_args no_ex t (u ∷ us) = bad too_few
    judged_args (ex_then e es) t [] = bad too_many
    judged_args (ex_then e es) t (u ∷ us) = arg_judged e es us t u (answer P g e) (args_answer P g es t us) (judged e) (judged_args es t us)
