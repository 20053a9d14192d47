-- What closed sets give along a call: from its receiver, arguments and the body's result to the body's variables and the call.
use Rattle.std.proofs.Common.{◌≡◌, ℕ, zero, suc, List, [], ◌∷◌, ◌++◌, Option, Some, None, sym, ap, ◌∙◌, subst, arith}
use Rattle.std.specs.Prelude.{◌<◌, Bool, true, slice_get, Contains, map, length}
use Rattle.std.specs.Option.{option_map_or}
use Rattle.std.specs.List.{flat_map, AllByRecursion}
use Rattle.std.proofs.lemmas.Option.{same_Some}
use Rattle.std.proofs.lemmas.List.Elements.{Contains-append_left, Contains-append_right}
use Rattle.kaba_base.specs.declared.Place.{Place}
use Rattle.java_core.specs.Programs.{Plain, PlainMethod}
use Rattle.fact_model.specs.Items.{site_class}
use Rattle.fact_model.specs.Classes.{finds}
use Rattle.fact_model.specs.Flowing.{Fact, in_point, CallRuns, Inclusion, by_this, by_argument, by_result}
use Rattle.fact_model.specs.Flowing.{point_at as listed_at}
use Rattle.fact_model.specs.declared.facts.Facts.{Facts}
use Rattle.fact_model.specs.declared.facts.NewInfo.{NewInfo}
use Rattle.fact_model.specs.declared.facts.FlowInfo.{FlowInfo}
use Rattle.fact_model.specs.declared.facts.CallInfo.{CallInfo}
use Rattle.flow_rules.specs.declared.items.ObjectType.{ObjectType}
use Rattle.flow_rules.specs.declared.items.Operand.{Operand}
use Rattle.flow_rules.specs.declared.items.PointItem.TheVariants as point
use Rattle.flow_rules.specs.Operands.{object_if}
use Rattle.flow_rules.specs.Types.{variable_object}
use Rattle.flow_rules.specs.Ordered.{by_place}
use Rattle.flow_rules.specs.Numbered.{bodies_of}
use Rattle.flow_rules.specs.Parts.{Part, a_call, a_static_call, a_super_call, parts_of, a_creation}
use Rattle.flow_rules.specs.Lists.{PlainCall, Placed, point_at, created, moved, created_args, moved_args, news_of, flows_of, calls_of}
use Rattle.flow_rules.specs.Facts.{numbers, gathered, call_seen, IsFactsOf}
use Rattle.flow_laws.specs.cover.Covers.{Sets, has, at_point}
use Rattle.flow_laws.proofs.cover.Kinded.{IsKindedCall, FindsBody, AreKinded}
use Rattle.flow_rules.proofs.Listed.{map_has, map_from, flat_has, each_has, place_has, one}
use Rattle.flow_laws.proofs.cover.Flows.{body_of, body_there, when_object, when_some, when_is, value_sites, looks_in, at_is, is_at, IsUsed, HasTypes, used_at, value_typed, point_sites_of, operand_goes, flow_goes}

listed_map : {A : Type 0} (f : A → Option ℕ) (xs : List A) (i : ℕ) (x : A) → slice_get xs i ≡ Some x → listed_at (map f xs) i ≡ f x
listed_map f [] i x e = absurd (cc)
listed_map f (y ∷ ys) zero x e = ap f (same_Some y x e)
listed_map f (y ∷ ys) (suc i) x e = listed_map f ys i x e

module _ (P : Plain) (F : Facts) (S : Sets) where
  -- the type of a variable and of the result of the method m
  abbrev pub local_object : ℕ → ℕ → Option ObjectType
  local_object m i = option_map_or (λ k. variable_object k i) (slice_get P.methods m) None

  abbrev pub result_object : ℕ → Option ObjectType
  result_object m = option_map_or (λ k. object_if k.result) (slice_get P.methods m) None

  abbrev pub local_sites : ℕ → ℕ → ℕ → Bool
  local_sites m i s = when_object (local_object m i) (at_point P F S ((numbers P).point (point.Local m i))) s

  abbrev pub result_sites : ℕ → ℕ → Bool
  result_sites m s = when_object (result_object m) (at_point P F S ((numbers P).point (point.Result m))) s

  pub local_is : (m : ℕ) (k : PlainMethod) (i : ℕ) → slice_get P.methods m ≡ Some k → local_object m i ≡ variable_object k i
  local_is m k i e = ap (λ z. option_map_or (λ k. variable_object k i) z None) e

  pub result_is : (m : ℕ) (k : PlainMethod) → slice_get P.methods m ≡ Some k → result_object m ≡ object_if k.result
  result_is m k e = ap (λ z. option_map_or (λ k. object_if k.result) z None) e

  -- each variable of an object type has a point
  abbrev HavePoints : ℕ → PlainMethod → Type 0
  HavePoints c h = (i : ℕ) (t : ObjectType) → variable_object h i ≡ Some t → (q : ℕ) × ((numbers P).point (point.Local c i) ≡ Some q)

  -- what goes to the point of a variable is in the variable, and what the result's point hands on is in what the call gives
  module _ (c : ℕ) (es : List Operand) (h : PlainMethod) (stands : slice_get P.methods c ≡ Some h) where
    argument_goes : AreKinded P F h es → HavePoints c h → (i : ℕ) (a : Operand) → slice_get es i ≡ Some a → (b : ObjectType) → a.ty ≡ Some b → (t : ℕ)
        → ((q : ℕ) → i < length h.params → (numbers P).point (point.Local c i) ≡ Some q → S.point q t ≡ true) → local_sites c i t ≡ true
    argument_goes kinded vars i a e b d t goes =
        let u = kinded i a b e d in
        let q = vars i u.0 u.1 in
        when_is (local_object c i) u.0 (at_point P F S ((numbers P).point (point.Local c i))) t (local_is c h i stands ∙ u.1)
        (is_at P F S ((numbers P).point (point.Local c i)) q.0 t q.1 (goes q.0 u.2 q.1))

    result_goes : (o : Operand) → IsKindedCall P F h es o → o.created ≡ None → (t : ℕ)
        → ((a q : ℕ) → (numbers P).point (point.Result c) ≡ Some a → point_at (numbers P) o ≡ Some q → S.point a t ≡ true → S.point q t ≡ true)
        → result_sites c t ≡ true → (looks_in P F S o.created o t ≡ true) × (value_sites P F S o t ≡ true)
    result_goes o kinded plain t goes r =
        let w = when_some (result_object c) (at_point P F S ((numbers P).point (point.Result c))) t r in
        let from = at_is P F S ((numbers P).point (point.Result c)) t w.1 in
        let q = kinded.result w.0.0 (sym (result_is c h stands) ∙ w.0.1) in
        point_sites_of P F S o t plain q (goes from.number q.number from.there q.point from.holds)

  module _ (closed : (ps : List Fact) (f : Fact) → Inclusion F ps f → AllByRecursion (λ p. has S p ≡ true) ps → has S f ≡ true)
      (facts : IsFactsOf P F) (m : ℕ) (k : PlainMethod) (stands : slice_get P.methods m ≡ Some k) where
    call_given : (p : Part) → Contains (parts_of P m k) p → (x : Placed PlainCall) → Contains (calls_of (numbers P) p) x → (c : CallInfo)
        × Contains F.calls.items c × (call_seen c ≡ x.item)
    call_given p c x d =
        map_from call_seen F.calls.items x.item (subst (λ z. Contains z x.item) (sym facts.calls)
        (map_has (λ c. c.item) (by_place (λ c. c.place.at) (gathered P (λ b. calls_of (numbers P)))) x
        (place_has (λ c. c.place.at) (gathered P (λ b. calls_of (numbers P))) x
        (flat_has (λ b. flat_map (calls_of (numbers P)) b.parts) (bodies_of P) (body_of P m k) x (body_there P m k stands)
        (flat_has (calls_of (numbers P)) (parts_of P m k) p x c d)))))

    -- what a listed call gives to the body that runs on an object of a site
    pub record Taken (c : ℕ) (es : List Operand) (s : ℕ) : Type 0 where
      pub self : at_point P F S ((numbers P).point (point.This c)) s ≡ true
      pub args : (i : ℕ) (a : Operand) → slice_get es i ≡ Some a → IsUsed P F S a → (t : ℕ) → value_sites P F S a t ≡ true → local_sites c i t ≡ true

    taken : (call : CallInfo) (s j c : ℕ) (es : List Operand) (h : PlainMethod) → Contains F.calls.items call → S.point call.receiver s ≡ true
        → call.slot ≡ j → call.args.items ≡ map (point_at (numbers P)) es → slice_get P.methods c ≡ Some h → FindsBody P F (site_class F s) j c h
        → AreKinded P F h es → HavePoints c h → Taken c es s
    taken call s j c es h listed received ej ea eh body kinded vars =
        let runs : CallRuns F call s body.body =
        record { called = listed; listed = body.is_body.listed; found = ap (λ z. finds F (site_class F s) z) ej ∙ body.found } in
        record {
          self = is_at P F S ((numbers P).point (point.This c)) body.body.this s body.is_body.this
              (closed (in_point call.receiver s ∷ []) (in_point body.body.this s) (by_this call s body.body runs) (received, tt));
          args = λ i a ei ua t va.
              let w = used_at P F S a t ua va in
              argument_goes c es h eh kinded vars i a ei w.0.0 w.0.1 t (λ q below at.
              closed (in_point call.receiver s ∷ in_point w.1.number t ∷ []) (in_point q t) (by_argument call s body.body i w.1.number q t runs
              (ap (λ z. listed_at z i) ea ∙ listed_map (point_at (numbers P)) es i a ei ∙ w.1.there) (body.is_body.params i below ∙ at))
              (received, (w.1.holds, tt)));
        }

    -- a creation on whose objects, of the site s, the constructor of the method c runs
    pub maker_goes : (p : Place) (u : Bool) (b : Operand) (j : ℕ) (d : Option ℕ) (es : List Operand)
        → Contains (parts_of P m k) (a_creation p u b (Some j) d es) → IsUsed P F S b → (s : ℕ) → value_sites P F S b s ≡ true
        → (c : ℕ) (h : PlainMethod) → slice_get P.methods c ≡ Some h → FindsBody P F (site_class F s) j c h → AreKinded P F h es → HavePoints c h
        → Taken c es s
    maker_goes p u b j d es there ub s v c h eh body kinded vars =
        let base = (used_at P F S b s ub v).1 in
        let seen : ℕ → Placed PlainCall = λ r. record {
          place = p;
          item = record { receiver = r; slot = j; args = map (point_at (numbers P)) es; result = None };
        } in
        let call = call_given (a_creation p u b (Some j) d es) there (seen base.number)
        (subst (λ z. Contains (option_map_or (λ r. seen r ∷ []) z []) (seen base.number)) (sym base.there) (one (seen base.number))) in
        taken call.0 s j c es h call.1 (subst (λ z. S.point z s ≡ true) (sym (ap (λ z. z.receiver) call.2)) base.holds) (ap (λ z. z.slot) call.2)
        (ap (λ z. z.args) call.2) eh body kinded vars

    pub record CallGoes (c : ℕ) (es : List Operand) (o : Operand) (s : ℕ) : Type 0 where
      pub self : at_point P F S ((numbers P).point (point.This c)) s ≡ true
      pub args : (i : ℕ) (a : Operand) → slice_get es i ≡ Some a → IsUsed P F S a → (t : ℕ) → value_sites P F S a t ≡ true → local_sites c i t ≡ true
      pub result : (t : ℕ) → result_sites c t ≡ true → (looks_in P F S o.created o t ≡ true) × (value_sites P F S o t ≡ true)

    -- a call on an object of the site s, whose class finds the body of the method c
    pub call_goes : (p : Place) (b : Operand) (j : ℕ) (d : Option ℕ) (es : List Operand) (o : Operand)
        → Contains (parts_of P m k) (a_call p b (Some j) d es o) → IsUsed P F S b → o.created ≡ None → (s : ℕ) → value_sites P F S b s ≡ true
        → (c : ℕ) (h : PlainMethod) → slice_get P.methods c ≡ Some h → FindsBody P F (site_class F s) j c h → IsKindedCall P F h es o
        → HavePoints c h → CallGoes c es o s
    call_goes p b j d es o there ub plain s v c h eh body kc vars =
        let base = (used_at P F S b s ub v).1 in
        let seen : ℕ → Placed PlainCall = λ r. record {
          place = p;
          item = record { receiver = r; slot = j; args = map (point_at (numbers P)) es; result = point_at (numbers P) o };
        } in
        let call = call_given (a_call p b (Some j) d es o) there (seen base.number)
        (subst (λ z. Contains (option_map_or (λ r. seen r ∷ []) z []) (seen base.number)) (sym base.there) (one (seen base.number))) in
        go call.0 call.1 base.number base.holds (ap (λ z. z.receiver) call.2) (ap (λ z. z.slot) call.2) (ap (λ z. z.args) call.2) (ap (λ z. z.result) call.2)
      where
        go : (call : CallInfo) → Contains F.calls.items call → (r : ℕ) → S.point r s ≡ true → call.receiver ≡ r → call.slot ≡ j
            → call.args.items ≡ map (point_at (numbers P)) es → call.result ≡ point_at (numbers P) o → CallGoes c es o s
        go call listed r base er ej ea eo =
            let runs : CallRuns F call s body.body =
            record { called = listed; listed = body.is_body.listed; found = ap (λ z. finds F (site_class F s) z) ej ∙ body.found } in
            let received : S.point call.receiver s ≡ true = subst (λ z. S.point z s ≡ true) (sym er) base in
            let given = taken call s j c es h listed received ej ea eh body kc.args vars in
            record {
              self = given.self;
              args = given.args;
              result = λ t. result_goes c es h eh o kc plain t (λ a q from at holds.
                  closed (in_point call.receiver s ∷ in_point a t ∷ []) (in_point q t) (by_result call s body.body a q t runs
                  (sym body.is_body.result ∙ from) (eo ∙ at)) (received, (holds, tt)));
            }

    -- what a static or super call gives and takes
    pub record StaticGoes (c : ℕ) (es : List Operand) (o : Operand) : Type 0 where
      pub args : (i : ℕ) (a : Operand) → slice_get es i ≡ Some a → HasTypes P F S a → (t : ℕ) → value_sites P F S a t ≡ true → local_sites c i t ≡ true
      pub result : (t : ℕ) → result_sites c t ≡ true → (looks_in P F S o.created o t ≡ true) × (value_sites P F S o t ≡ true)

    one_body : (p : Part) → Contains (parts_of P m k) p → (c : ℕ) (es : List Operand) (o : Operand) → o.created ≡ None
        → ((x : NewInfo) → Contains (created_args (numbers P) c es) x → Contains (news_of (numbers P) m p) x)
        → ((x : FlowInfo) → Contains (moved_args (numbers P) c es) x → Contains (flows_of (numbers P) m p) x)
        → ((x : FlowInfo) → Contains (moved ((numbers P).point (point.Result c)) (point_at (numbers P) o)) x
        → Contains (flows_of (numbers P) m p) x)
        → (h : PlainMethod) → slice_get P.methods c ≡ Some h → IsKindedCall P F h es o → HavePoints c h → StaticGoes c es o
    one_body p there c es o plain hn hf hr h eh kc vars = record {
      args = λ i a ei ua t va.
          let w = value_typed P F S a t ua va in
          argument_goes c es h eh kc.args vars i a ei w.0 w.1 t (λ q below at.
          operand_goes P F S closed facts m k stands p there a ((numbers P).point (point.Local c i)) q t
          (λ x d. hn x (each_has (λ i o. created (numbers P) o ((numbers P).point (point.Local c i))) 0 es i a x ei i (omega arith) d))
          (λ x d. hf x (each_has (λ i o. moved (point_at (numbers P) o) ((numbers P).point (point.Local c i))) 0 es i a x ei i (omega arith) d)) at va);
      result = λ t. result_goes c es h eh o kc plain t (λ a q. flow_goes P F S closed facts m k stands p there ((numbers P).point (point.Result c))
          (point_at (numbers P) o) a q t hr);
    }

    pub static_goes : (p : Place) (c : ℕ) (es : List Operand) (o : Operand) → Contains (parts_of P m k) (a_static_call p c es o) → o.created ≡ None
        → (h : PlainMethod) → slice_get P.methods c ≡ Some h → IsKindedCall P F h es o → HavePoints c h → StaticGoes c es o
    static_goes p c es o there plain h eh kc vars = one_body (a_static_call p c es o) there c es o plain (λ x d. d)
        (λ x d. Contains-append_left (moved_args (numbers P) c es) (moved ((numbers P).point (point.Result c)) (point_at (numbers P) o)) x d)
        (λ x d. Contains-append_right (moved_args (numbers P) c es) (moved ((numbers P).point (point.Result c)) (point_at (numbers P) o)) x d) h
        eh kc vars

    pub super_goes : (p : Place) (c : ℕ) (es : List Operand) (o : Operand) → Contains (parts_of P m k) (a_super_call p (Some c) es o)
        → o.created ≡ None → (h : PlainMethod) → slice_get P.methods c ≡ Some h → IsKindedCall P F h es o → HavePoints c h → StaticGoes c es o
    super_goes p c es o there plain h eh kc vars = one_body (a_super_call p (Some c) es o) there c es o plain (λ x d. d)
        (λ x d. Contains-append_left (moved_args (numbers P) c es ++ moved ((numbers P).point (point.Result c)) (point_at (numbers P) o))
        (moved ((numbers P).point (point.This m)) ((numbers P).point (point.This c))) x (Contains-append_left (moved_args (numbers P) c es)
        (moved ((numbers P).point (point.Result c)) (point_at (numbers P) o)) x d))
        (λ x d. Contains-append_left (moved_args (numbers P) c es ++ moved ((numbers P).point (point.Result c)) (point_at (numbers P) o))
        (moved ((numbers P).point (point.This m)) ((numbers P).point (point.This c))) x (Contains-append_right (moved_args (numbers P) c es)
        (moved ((numbers P).point (point.Result c)) (point_at (numbers P) o)) x d)) h eh kc vars

    pub super_self : (p : Place) (c : ℕ) (es : List Operand) (o : Operand) → Contains (parts_of P m k) (a_super_call p (Some c) es o) → (q : ℕ)
        → (numbers P).point (point.This c) ≡ Some q → (s : ℕ) → at_point P F S ((numbers P).point (point.This m)) s ≡ true
        → at_point P F S ((numbers P).point (point.This c)) s ≡ true
    super_self p c es o there q e s h =
        let a = at_is P F S ((numbers P).point (point.This m)) s h in
        is_at P F S ((numbers P).point (point.This c)) q s e (flow_goes P F S closed facts m k stands (a_super_call p (Some c) es o) there
        ((numbers P).point (point.This m)) ((numbers P).point (point.This c)) a.number q s
        (λ x d. Contains-append_right (moved_args (numbers P) c es ++ moved ((numbers P).point (point.Result c)) (point_at (numbers P) o))
        (moved ((numbers P).point (point.This m)) ((numbers P).point (point.This c))) x d) a.there e a.holds)
