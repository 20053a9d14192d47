-- The depth of the meaning does not count, where it is above the steps left; and a run that goes on has used all its steps.
use Rattle.std.proofs.Common.{◌≡◌, ℕ, ◌<◌, ◌≤◌, List, Option, refl, subst}
use Rattle.java_core.specs.Trees.{Ex, Exs, St, Sts, IfArms}
use Rattle.java_core.specs.Programs.{Plain}
use Rattle.java_meaning.specs.Moment.{Value, State, Frame, End, Going, Outcome, stop, Lang, step}
use Rattle.java_meaning.specs.Meaning.{Flow, ToValue, ToFlow, Later, value, values, run_test, run_one, run_all, run_arms, meaning}
use Rattle.java_meaning.specs.Languages.{language_of, run}
use Rattle.java_meaning.proofs.Alike.{IsEnd, step_like, value_like, values_like, test_like, one_like, all_like, arms_like, depth_like, same_depths, run_like}

-- equal outcomes
abbrev Same : Outcome → Outcome → Type 0
Same o p = o ≡ p

same_end : (e : End) (s : State) → IsEnd e → Same (stop e s) (stop e s)
same_end e s h = refl

same_spent : (s : State) → s.left ≡ 0 → Same (stop Going s) (stop Going s)
same_spent s e = refl

-- two ways to go on are alike where few steps are left
abbrev pub AlikeV : ℕ → ToValue → ToValue → Type 0
AlikeV m k k' = (v : Value) (s : State) → s.left ≤ m → k v s ≡ k' v s

abbrev pub AlikeL : ℕ → (List Value → State → Outcome) → (List Value → State → Outcome) → Type 0
AlikeL m k k' = (v : List Value) (s : State) → s.left ≤ m → k v s ≡ k' v s

abbrev pub AlikeS : ℕ → (State → Outcome) → (State → Outcome) → Type 0
AlikeS m k k' = (s : State) → s.left ≤ m → k s ≡ k' s

abbrev pub AlikeF : ℕ → ToFlow → ToFlow → Type 0
AlikeF m k k' = (w : Flow) (f : Frame) (s : State) → s.left ≤ m → k w f s ≡ k' w f s

-- what comes after a step is alike, below so many steps
abbrev pub LaterAlike : ℕ → Later → Later → Type 0
LaterAlike m b c = (n : ℕ) → n < m → (xs : Sts) (f : Frame) (s : State) (k k' : ToFlow) → s.left ≤ n → AlikeF n k k' → b xs f s k ≡ c xs f s k'

pub step_alike : (m : ℕ) (s : State) (g h : State → Outcome) → s.left ≤ m → ((t : State) → t.left < m → g t ≡ h t) → step s g ≡ step s h
step_alike m s g h le e = step_like Same same_end same_spent m s g h le e

module _ (L : Lang) (b c : Later) where
  pub value_alike : (e : Ex) (m : ℕ) → LaterAlike m b c → (f : Frame) (s : State) (k k' : ToValue) → s.left ≤ m → AlikeV m k k'
      → value L b e f s k ≡ value L c e f s k'
  value_alike e m l f s k k' le h = value_like Same same_end same_spent L b c e m l f s k k' le h

  pub values_alike : (es : Exs) (m : ℕ) → LaterAlike m b c → (f : Frame) (s : State) (k k' : List Value → State → Outcome) → s.left ≤ m
      → AlikeL m k k' → values L b es f s k ≡ values L c es f s k'
  values_alike es m l f s k k' le h = values_like Same same_end same_spent L b c es m l f s k k' le h

  pub test_alike : (e : Option Ex) (m : ℕ) → LaterAlike m b c → (f : Frame) (s : State) (g h g' h' : State → Outcome) → s.left ≤ m → AlikeS m g g'
      → AlikeS m h h' → run_test L b e f s g h ≡ run_test L c e f s g' h'
  test_alike e m l f s g h g' h' le p q = test_like Same same_end same_spent L b c e m l f s g h g' h' le p q

  pub one_alike : (x : St) (m : ℕ) → LaterAlike m b c → (f : Frame) (s : State) (k k' : ToFlow) → s.left ≤ m → AlikeF m k k'
      → run_one L b x f s k ≡ run_one L c x f s k'
  one_alike x m l f s k k' le h = one_like Same same_end same_spent L b c x m l f s k k' le h

  pub all_alike : (xs : Sts) (m : ℕ) → LaterAlike m b c → (f : Frame) (s : State) (k k' : ToFlow) → s.left ≤ m → AlikeF m k k'
      → run_all L b xs f s k ≡ run_all L c xs f s k'
  all_alike xs m l f s k k' le h = all_like Same same_end same_spent L b c xs m l f s k k' le h

  pub arms_alike : (xs : IfArms) (m : ℕ) → LaterAlike m b c → (f : Frame) (s : State) (k k' : ToFlow) → s.left ≤ m → AlikeF m k k'
      → run_arms L b xs f s k ≡ run_arms L c xs f s k'
  arms_alike xs m l f s k k' le h = arms_like Same same_end same_spent L b c xs m l f s k k' le h

-- two depths above the steps left give the same
pub depth_alike : (L : Lang) (d e m : ℕ) → m < d → m < e → (xs : Sts) (f : Frame) (s : State) (k k' : ToFlow) → s.left ≤ m → AlikeF m k k'
    → meaning L d xs f s k ≡ meaning L e xs f s k'
depth_alike L d e m ld le xs f s k k' ls h = depth_like Same same_end same_spent L d e m ld le xs f s k k' ls h

-- the meaning at a depth is like itself
pub same_depth : (L : Lang) (d m : ℕ) → m ≤ d → LaterAlike m (meaning L d) (meaning L d)
same_depth L d m le = same_depths Same same_end same_spent L d m le

-- an outcome that goes on has no steps left
abbrev Spent : Outcome → Outcome → Type 0
Spent o p = o.end ≡ Going → o.left ≡ 0

spent_end : (e : End) (s : State) → IsEnd e → Spent (stop e s) (stop e s)
spent_end e s h g = absurd (subst IsEnd g h)

-- a run that goes on has used its whole bound
pub going_spent : (P : Plain) (words : List (List ℕ)) (n : ℕ) → (run P words n).end ≡ Going → (run P words n).left ≡ 0
going_spent P words n = run_like Spent spent_end (λ s e g. e) (language_of P) P.main words n
