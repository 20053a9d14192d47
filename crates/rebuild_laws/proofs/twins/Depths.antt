-- What statements do, at depths that serve two languages: in the first so deep that its end is never reached, in the second as deep as the steps
-- left ask for.
use Rattle.std.proofs.Common.{◌≡◌, ℕ, zero, suc, ◌<◌, ◌≤◌, Option, Some, None, refl, arith}
use Rattle.std.specs.Prelude.{Bool, true, false, List, ◌++◌}
use Rattle.java_core.specs.Trees.{Sts}
use Rattle.java_meaning.specs.Moment.{Value, State, Frame, Wrong, Escaped, Outcome, stop, Body, Lang, with_some, on_bool}
use Rattle.java_meaning.specs.Values.{arguments}
use Rattle.java_meaning.specs.Meaning.{ToValue, ToFlow, Later, enter, run_all, meaning}
use Rattle.java_meaning.proofs.Depth.{AlikeF, LaterAlike, all_alike, depth_alike}

-- where no depth is left the run is wrong
abbrev pub sunk : Lang → ℕ → Later
sunk L zero xs f s k = stop Wrong s
sunk L (suc n) xs f s k = run_all L (sunk L n) xs f s k

-- the steps left tell the depth
abbrev pub deep : Lang → Later
deep L xs f s k = meaning L (suc s.left) xs f s k

module _ (L : Lang) where
  sunk_alike : (d m : ℕ) → m < d → (xs : Sts) (f : Frame) (s : State) (k j : ToFlow) → s.left ≤ m → AlikeF m k j → meaning L d xs f s k ≡ sunk L d xs f s j
  sunk_alike zero m lt xs f s k j le h = absurd (omega (arith, lt))
  sunk_alike (suc d) m lt xs f s k j le h =
      all_alike L (meaning L d) (sunk L d) xs m
      (λ n ln ys g t i o lt2 h2. sunk_alike d n (omega (arith, ln, lt)) ys g t i o lt2 h2) f s k j le h

  pub is_sunk : (d : ℕ) (xs : Sts) (f : Frame) (s : State) (k : ToFlow) → s.left < d → meaning L d xs f s k ≡ sunk L d xs f s k
  is_sunk d xs f s k lt = sunk_alike d s.left lt xs f s k k (omega arith) (λ w g t le. refl)

  deeper : (m : ℕ) → LaterAlike m (meaning L m) (deep L)
  deeper m n lt xs f s k j le h =
      depth_alike L m (suc s.left) s.left (omega (arith, lt, le)) (omega arith) xs f s k j (omega arith) (λ w g t le2. h w g t (omega (arith, le, le2)))

  -- such a run is one of the statements themselves
  pub unfolds : (xs : Sts) (f : Frame) (s : State) (k : ToFlow) → deep L xs f s k ≡ run_all L (deep L) xs f s k
  unfolds xs f s k = all_alike L (meaning L s.left) (deep L) xs s.left (deeper s.left) f s k k (omega arith) (λ w g t le. refl)

-- a body runs alike where its statements do
some_alike : {A : Type 0} (o : Option A) (s : State) (k j : A → Outcome) → ((a : A) → k a ≡ j a) → with_some o s k ≡ with_some o s j
some_alike None s k j h = refl
some_alike (Some a) s k j h = h a

bool_alike : (b : Bool) (s : State) (k j : State → Outcome) → k s ≡ j s → on_bool b s k (stop Escaped) ≡ on_bool b s j (stop Escaped)
bool_alike true s k j h = h
bool_alike false s k j h = refl

pub enters_alike : (L : Lang) (later next : Later) (b : Body) (v : Value) (vs : List Value) (s : State) (k : ToValue)
    → ((xs : Sts) (f : Frame) (t : State) (j : ToFlow) → t.left ≡ s.left → later xs f t j ≡ next xs f t j) → enter L later b v vs s k ≡ enter L next b v vs s k
enters_alike L later next b v vs s k h = some_alike (arguments b.params vs) s _ _ (λ ws. bool_alike (L.sees_all b.env.body ws s.cells)
    (record s { met = L.note_all b.env.body ws s.cells s.met }) _ _ (h b.code (record { env = b.env; self = v; locals = ws ++ b.rest }) _ _ refl))
