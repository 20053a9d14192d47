-- A call of the facts and the body that it runs for an object, with what typing gives of each.
use Rattle.std.proofs.Common.{◌≡◌, ℕ, zero, suc, List, [], ◌∷◌, Option, Some, None, length, refl, sym, ap, ◌∙◌, subst, arith}
use Rattle.std.specs.Prelude.{◌<◌, Contains, slice_get, slice_index_or, option_and_then, map}
use Rattle.std.specs.Option.{option_map_or}
use Rattle.std.proofs.lemmas.Option.{slice_get_within}
use Rattle.java_core.specs.Programs.{Plain, PlainMethod}
use Rattle.java_core.specs.Classes.{IsSubclass}
use Rattle.java_core.specs.Typing.{IsTyped}
use Rattle.java_core.specs.Formed.{IsFormed}
use Rattle.fact_model.specs.Items.{site_class}
use Rattle.fact_model.specs.Flowing.{CallRuns, point_at as listed_at}
use Rattle.fact_model.specs.declared.facts.Facts.{Facts}
use Rattle.fact_model.specs.declared.facts.CallInfo.{CallInfo}
use Rattle.fact_model.specs.declared.facts.BodyInfo.{BodyInfo}
use Rattle.fact_model.proofs.ClassLemmas.{finds-found}
use Rattle.flow_rules.specs.declared.items.ObjectType.{ObjectType}
use Rattle.flow_rules.specs.declared.items.Operand.{Operand}
use Rattle.flow_rules.specs.declared.items.PointItem.TheVariants as point
use Rattle.flow_rules.specs.declared.items.ColumnItem.{ColumnItem}
use Rattle.flow_rules.specs.declared.items.ColumnItem.TheVariants as column
use Rattle.flow_rules.specs.Ordered.{by_place}
use Rattle.flow_rules.specs.Types.{slot_object}
use Rattle.flow_rules.specs.Parts.{Part, a_call, a_creation, nothing}
use Rattle.flow_rules.specs.Lists.{Placed, PlainCall, point_at, calls_of}
use Rattle.flow_rules.specs.Numbered.{column_number, columns_of, point_number}
use Rattle.flow_rules.specs.Facts.{numbers, gathered, body_seen, call_seen, body_if, column_body, param_points, IsFactsOf}
use Rattle.flow_rules.proofs.Listed.{map_has, map_from, map_at, one_from, each_from_zero, place_from}
use Rattle.flow_rules.proofs.NumberedItems.{numbered_columns}
use Rattle.flow_laws.proofs.order.Columns.{numbered_column}
use Rattle.flow_laws.proofs.order.Classes.{at_each, below_subclass}
use Rattle.flow_laws.proofs.order.Tests.{gathered_from}
use Rattle.flow_laws.proofs.order.Operands.{param_object}
use Rattle.flow_laws.proofs.order.Sound.{IsSound, none_sound}
use Rattle.flow_laws.proofs.order.Fitted.{IsFitted, AreValues, part_fitted, IsFittedReceiver, IsFittedCall}
use Rattle.kaba_base.specs.declared.Place.{Place}

-- what stands in a list of numbers that may be there
index_some : (xs : List (Option ℕ)) (i n : ℕ) → slice_index_or xs i None ≡ Some n → slice_get xs i ≡ Some (Some n)
index_some [] i n e = absurd (cc)
index_some (x ∷ xs) zero n e = ap Some e
index_some (x ∷ xs) (suc i) n e = index_some xs i n e

module _ (P : Plain) (formed : IsFormed P) (typed : IsTyped P) (F : Facts) (facts : IsFactsOf P F) where
  -- a call, and what typing gives of it
  pub record IsCall (call : CallInfo) : Type 0 where
    pub number : ℕ
    pub method : PlainMethod
    pub stands : slice_get P.methods number ≡ Some method
    pub base : Operand
    pub args : List Operand
    pub own : Operand
    pub receiver : point_at (numbers P) base ≡ Some call.receiver
    pub args_are : call.args.items ≡ map (point_at (numbers P)) args
    pub result : call.result ≡ point_at (numbers P) own
    pub base_good : IsSound P formed typed F facts number method stands base
    pub own_good : IsSound P formed typed F facts number method stands own
    pub object : (t : ObjectType) → base.ty ≡ Some t → t.dim ≡ 0
    pub values : AreValues P formed typed F facts number method stands args (param_object P call.slot)
    pub gives : own.ty ≡ slot_object P call.slot

  -- a call that the facts list, of a receiver, a slot and arguments that fit
  fitted_call : (m : ℕ) (k : PlainMethod) (e : slice_get P.methods m ≡ Some k) (w : Place) (b : Operand) (s : ℕ) (es : List Operand) (o : Operand)
      → IsFittedReceiver P formed typed F facts m k e b → IsFittedCall P formed typed F facts m k e es o (param_object P s) (slot_object P s)
      → IsSound P formed typed F facts m k e o → (y : Placed PlainCall) (call : CallInfo)
      → Contains (option_map_or (λ r. record {
        place = w;
        item = record { receiver = r; slot = s; args = map (point_at (numbers P)) es; result = point_at (numbers P) o };
      } ∷ []) (point_at (numbers P) b) []) y → y.item ≡ call_seen call → IsCall call
  fitted_call m k e w b s es o fb fc go y call c i = step (point_at (numbers P) b) refl c
    where
      step : (r : Option ℕ) → point_at (numbers P) b ≡ r
          → Contains (option_map_or (λ r. record {
            place = w;
            item = record { receiver = r; slot = s; args = map (point_at (numbers P)) es; result = point_at (numbers P) o };
          } ∷ []) r []) y → IsCall call
      step None a c = absurd (omega (arith, c.1))
      step (Some r) a c =
          let z = ap (λ y. y.item) (one_from _ y c) ∙ i in
          let same : s ≡ call.slot = ap (λ y. y.slot) z in
          record {
            number = m;
            method = k;
            stands = e;
            base = b;
            args = es;
            own = o;
            receiver = a ∙ ap (λ y. Some y.receiver) z;
            args_are = sym (ap (λ y. y.args) z);
            result = sym (ap (λ y. y.result) z);
            base_good = fb.good;
            own_good = go;
            object = fb.object;
            values = subst (λ s. AreValues P formed typed F facts m k e es (param_object P s)) same fc.args;
            gives = fc.result ∙ ap (slot_object P) same;
          }

  call_part : (m : ℕ) (k : PlainMethod) (e : slice_get P.methods m ≡ Some k) (p : Part) (y : Placed PlainCall) (call : CallInfo)
      → IsFitted P formed typed F facts m k e p → Contains (calls_of (numbers P) p) y → y.item ≡ call_seen call → IsCall call
  call_part m k e (a_call w b (Some s) d es o) y call f c i = let h = f.1 s refl in fitted_call m k e w b s es o h.0 h.1 f.0 y call c i
  call_part m k e (a_creation w u b (Some s) d es) y call f c i =
      let h = f.2 s refl in fitted_call m k e w b s es nothing h.0 h.1 (none_sound P formed typed F facts m k e nothing refl refl refl) y call c i
  call_part m k e _ y call f c i = absurd (omega (arith, c.1))

  pub call_of : (call : CallInfo) → Contains F.calls.items call → IsCall call
  call_of call c =
      let y = map_from (λ c. c.item) (by_place (λ c. c.place.at) (gathered P (λ b. calls_of (numbers P)))) (call_seen call)
      (subst (λ w. Contains w (call_seen call)) facts.calls (map_has call_seen F.calls.items call c)) in
      let z = gathered_from P (λ b. calls_of (numbers P)) y.0 (place_from (λ c. c.place.at) (gathered P (λ b. calls_of (numbers P))) y.0 y.1) in
      call_part z.0 z.1 z.3 z.2 y.0 call (part_fitted P formed typed F facts z.0 z.1 z.3 z.2 z.4) z.5 y.2

  -- a body of the facts, and its method
  pub record IsEntry (body : BodyInfo) : Type 0 where
    pub number : ℕ
    pub method : PlainMethod
    pub stands : slice_get P.methods number ≡ Some method
    pub column_is : column_number P (column.Def number) ≡ Some body.column.0
    pub this : point_number P (point.This number) ≡ Some body.this
    pub params : body.params.items ≡ param_points (numbers P) P number method
    pub result : body.result ≡ point_number P (point.Result number)

  item_entry : (c : ℕ) (i : ColumnItem) (body : BodyInfo) → column_number P i ≡ Some c → Contains (column_body (numbers P) P c i) (body_seen body)
      → IsEntry body
  unfolding numbers
  item_entry c (column.Def m) body n h = go (slice_get P.methods m) refl h
    where
      inner : (k : PlainMethod) (t : Option ℕ) → slice_get P.methods m ≡ Some k → point_number P (point.This m) ≡ t
          → Contains (body_if (numbers P) P c m k t) (body_seen body) → IsEntry body
      inner k None e d h = absurd (omega (arith, h.1))
      inner k (Some t) e d h =
          let z = one_from _ (body_seen body) h in
          record {
            number = m;
            method = k;
            stands = e;
            column_is = n ∙ ap (λ y. Some y.column) z;
            this = d
                ∙ ap (λ y. Some y.this) z;
            params = sym (ap (λ y. y.params) z);
            result = sym (ap (λ y. y.result) z);
          }

      go : (o : Option PlainMethod) → slice_get P.methods m ≡ o
          → Contains (option_map_or (λ k. body_if (numbers P) P c m k (point_number P (point.This m))) o []) (body_seen body) → IsEntry body
      go None e h = absurd (omega (arith, h.1))
      go (Some k) e h = inner k (point_number P (point.This m)) e refl h
  item_entry c _ body n h = absurd (omega (arith, h.1))

  pub entry_of : (body : BodyInfo) → Contains F.bodies.items body → IsEntry body
  entry_of body c =
      let z = each_from_zero (λ c k. column_body (numbers P) P c k.item) (columns_of P) (body_seen body)
      (subst (λ w. Contains w (body_seen body)) facts.bodies (map_has body_seen F.bodies.items body c)) in
      item_entry z.0 z.1.item body ((numbered_columns P).back z.0 z.1 z.2) z.3

  -- the body that a call runs for an object
  pub record RunsBody (call : CallInfo) (o : ℕ) (body : BodyInfo) : Type 0 where
    pub call_is : IsCall call
    pub entry : IsEntry body
    pub above : IsSubclass P (site_class F o) entry.method.owner
    pub slot : entry.method.slot ≡ Some call.slot

  pub runs_body : (call : CallInfo) (o : ℕ) (body : BodyInfo) → CallRuns F call o body → RunsBody call o body
  runs_body call o body r =
      let c = call_of call r.called in
      let e = entry_of body r.listed in
      let f = finds-found F (site_class F o) call.slot body.column.0 r.found in
      let n = numbered_column P F facts (column.Def e.number) body.column.0 e.column_is in
      record {
        call_is = c;
        entry = e;
        above = subst (λ z. IsSubclass P (site_class F o) z) (sym f.body.class ∙ ap (λ i. i.class.0) n.1
            ∙ ap (λ o. option_map_or (λ k. k.owner) o 0) e.stands) (below_subclass P F facts f.above);
        slot = sym (ap (λ o. option_and_then (λ k. k.slot) o) e.stands) ∙ sym (ap (λ i. i.slot) n.1) ∙ f.body.slot;
      }

  pub arg_at : (es : List Operand) (xs : List (Option ℕ)) (i n : ℕ) → xs ≡ map (point_at (numbers P)) es → listed_at xs i ≡ Some n → (a : Operand)
      × (slice_get es i ≡ Some a) × (point_at (numbers P) a ≡ Some n)
  arg_at es xs i n e d = map_at (point_at (numbers P)) es i (Some n) (subst (λ y. slice_get y i ≡ Some (Some n)) e (index_some xs i n d))

  pub param_at : (m : ℕ) (k : PlainMethod) (xs : List (Option ℕ)) (i n : ℕ) → xs ≡ param_points (numbers P) P m k → listed_at xs i ≡ Some n
      → (i < length k.params) × (point_number P (point.Local m i) ≡ Some n)
  unfolding numbers
  param_at m k xs i n e d =
      let z = at_each (λ i v. point_number P (point.Local m i)) 0 k.params i (Some n) (subst (λ y. slice_get y i ≡ Some (Some n)) e (index_some xs i n d)) in
      (slice_get_within k.params i z.0 z.1, ap (λ j. point_number P (point.Local m j)) (omega arith) ∙ z.2)
