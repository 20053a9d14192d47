-- A reading has one outcome.
use Rattle.std.proofs.Common.{◌≡◌, List, Option, Some, None, Ok, Err, refl}
use Rattle.java_lex.specs.declared.Token.{Token}
use Rattle.java_parse.specs.Want.{Want, Val, ReadStep, Give, Fail, Ask}
use Rattle.java_parse.specs.Reading.{Fault, Left, NoMemory, ParseOutcome, body, RunsTo, give, fail, short, ask, ask_fails, IsToldOutcome, Reads}

pub told : (n : Want) (ts : List Token) (o : ParseOutcome (Val n)) → RunsTo n (body n ts) o → IsToldOutcome n ts o
told n ts (Ok x) a = a
told n ts (Err (Left rest)) a = a
told n ts (Err NoMemory) a = tt

runs_of : (n : Want) (ts : List Token) (o : ParseOutcome (Val n)) → IsToldOutcome n ts o → RunsTo n (body n ts) o
runs_of n ts (Ok x) a = a
runs_of n ts (Err (Left rest)) a = a
runs_of n ts (Err NoMemory) a = short

pub run : {n : Want} {ts : List Token} {o : ParseOutcome (Val n)} → Reads n ts o → RunsTo n (body n ts) o
run {n = n} {ts = ts} {o = o} a = runs_of n ts o a.runs

pub reads : {n : Want} {ts : List Token} {o : ParseOutcome (Val n)} → RunsTo n (body n ts) o → Reads n ts o
reads {n = n} {ts = ts} {o = o} a = record { runs = told n ts o a }

-- where this is next, the reading goes on with it
pub found : {A : Type 0} {m : Want} {x : Option A} {a : A} (f : A → ReadStep (Val m)) (s : ReadStep (Val m)) {o : ParseOutcome (Val m)} → x ≡ Some a
    → RunsTo m (f a) o → RunsTo m (elim x [ Some w ↦ f w | None ↦ s ]) o
found f s h r = rw h r

pub missed : {A : Type 0} {m : Want} {x : Option A} (f : A → ReadStep (Val m)) {s : ReadStep (Val m)} {o : ParseOutcome (Val m)} → x ≡ None
    → RunsTo m s o → RunsTo m (elim x [ Some w ↦ f w | None ↦ s ]) o
missed f h r = rw h r

-- two outcomes agree: they are equal, or memory was short in one
pub data Agrees {A : Type 0} : ParseOutcome A → ParseOutcome A → Type 0 where
  alike : {o : ParseOutcome A} → Agrees o o
  one_short : {o : ParseOutcome A} → Agrees (Err NoMemory) o
  other_short : {o : ParseOutcome A} → Agrees o (Err NoMemory)

both : {A B : Type 0} {v w : A} {us vs : List Token} {o p : ParseOutcome B} (P : A → List Token → Type 0) → Agrees (Ok (v, us)) (Ok (w, vs))
    → (P v us → Agrees o p) → P w vs → Agrees o p
both P alike f d = f d

first_fails : {A B : Type 0} {x : A × List Token} {f : Fault} {p : ParseOutcome B} → Agrees (Err f) (Ok x) → Agrees (Err f) p
first_fails one_short = one_short

other_fails : {A B : Type 0} {x : A × List Token} {f : Fault} {o : ParseOutcome B} → Agrees (Ok x) (Err f) → Agrees o (Err f)
other_fails other_short = other_short

both_fail : {A B : Type 0} {f g : Fault} → Agrees {A = A} (Err f) (Err g) → Agrees {A = B} (Err f) (Err g)
both_fail alike = alike
both_fail one_short = one_short
both_fail other_short = other_short

pub agrees : {m : Want} (s : ReadStep (Val m)) (o p : ParseOutcome (Val m)) → RunsTo m s o → RunsTo m s p → Agrees o p
agrees s o p short b = one_short
agrees s o p give give = alike
agrees s o p give short = other_short
agrees s o p fail fail = alike
agrees s o p fail short = other_short
agrees s o p (ask a c) short = other_short
agrees {m = m} s o p (ask {n = n} {ts = ts} {v = v} {k = k} a c) (ask {v = w} b d) =
    both (λ x r. RunsTo m (k x r) p) (agrees (body n ts) _ _ a b) (λ e. agrees (k v _) o p c e) d
agrees s o p (ask {n = n} {ts = ts} a c) (ask_fails b) = other_fails (agrees (body n ts) _ _ a b)
agrees s o p (ask_fails a) short = other_short
agrees s o p (ask_fails {n = n} {ts = ts} a) (ask b d) = first_fails (agrees (body n ts) _ _ a b)
agrees s o p (ask_fails {n = n} {ts = ts} a) (ask_fails b) = both_fail (agrees (body n ts) _ _ a b)

-- what a part is read as is one tree with one rest
pub read_once : {n : Want} {ts : List Token} {x y : Val n × List Token} → Reads n ts (Ok x) → Reads n ts (Ok y) → x ≡ y
read_once {n = n} {ts = ts} {x = x} {y = y} a b = alike_is (agrees (body n ts) (Ok x) (Ok y) (run a) (run b))
  where
    alike_is : {A : Type 0} {x y : A × List Token} → Agrees (Ok x) (Ok y) → x ≡ y
    alike_is alike = refl

-- and where it fails, it is read as nothing
pub fails_once : {n : Want} {ts us : List Token} {x : Val n × List Token} → Reads n ts (Ok x) → Reads n ts (Err (Left us)) → ⊥
fails_once {n = n} {ts = ts} {us = us} {x = x} a b = never (agrees (body n ts) (Ok x) (Err (Left us)) (run a) (run b))
  where
    never : {A : Type 0} {x : A × List Token} {us : List Token} → Agrees (Ok x) (Err (Left us)) → ⊥
    never h = elim h [ ]

-- what a part is good for: each tree that it is read as has the property, if its parts have theirs
abbrev pub Good : {A : Type 0} → ((n : Want) → List Token → Val n → List Token → Type 0) → ReadStep A → (A → List Token → Type 0) → Type 0
Good P (Give v rest) Q = Q v rest
Good P (Fail rest) Q = Unit {0}
Good P (Ask n ts k) Q = (v : Val n) (rest : List Token) → P n ts v rest → Good P (k v rest) Q

abbrev pub Holds : {A : Type 0} → (A → List Token → Type 0) → ParseOutcome A → Type 0
Holds Q (Ok x) = Q x.0 x.1
Holds Q (Err f) = Unit {0}

pub good_runs : (P : (n : Want) → List Token → Val n → List Token → Type 0) → ((n : Want) (ts : List Token) → Good P (body n ts) (P n ts)) →
    {m : Want} (s : ReadStep (Val m)) (Q : Val m → List Token → Type 0) (o : ParseOutcome (Val m)) → RunsTo m s o → Good P s Q → Holds Q o
good_runs P all s Q o give g = g
good_runs P all s Q o fail g = tt
good_runs P all s Q o short g = tt
good_runs P all s Q o (ask {n = n} {ts = ts} {rest = us} {v = w} {k = k} a b) g =
    good_runs P all (k w us) Q o b (g w us (good_runs P all (body n ts) (P n ts) (Ok (w, us)) a (all n ts)))
good_runs P all s Q o (ask_fails a) g = tt
