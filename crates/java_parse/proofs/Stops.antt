-- Where reading stops at a token, the tokens up to it begin no program.
use Rattle.std.proofs.Common.{◌≡◌, ⊎_elim, suc, ◌<◌, List, [], ◌∷◌, ◌++◌, length, Ok, Err, refl, ap, subst, arith}
use Rattle.std.proofs.lemmas.Bool.{cases_lt}
use Rattle.std.proofs.lemmas.List.{append_assoc}
use Rattle.java_lex.specs.declared.Token.{Token}
use Rattle.java_parse.specs.Want.{Want, Val, ReadStep, Ask, NDecls}
use Rattle.java_parse.specs.Reading.{Left, NoMemory, ParseOutcome, body, RunsTo, give, fail, short, ask, ask_fails, Reads}
use Rattle.java_tree.specs.Declarations.{Derives}
use Rattle.java_parse.specs.Beginnings.{Begins}
use Rattle.java_parse.proofs.Runs.{run, reads}
use Rattle.java_parse.proofs.CompleteDeclarations.{none_derived}
use Rattle.java_parse.proofs.Leaves.{Reaches, not_both, below_more}
use Rattle.java_parse.proofs.Local.{left_below, Same, at, on, Alike, gives, fails, asks, past}
use Rattle.java_parse.proofs.LocalParts.{part_alike}

module _ (t : Token) (us vs : List Token) where
  -- the second reading comes to the same
  data Ends {A : Type 0} : ParseOutcome A → ParseOutcome A → Type 0 where
    both_read : {v : A} {ts ss : List Token} → Same t us vs ts ss → Ends (Ok (v, ts)) (Ok (v, ss))
    both_left : {ts ss : List Token} → Same t us vs ts ss → Ends (Err (Left ts)) (Err (Left ss))

  record Again (m : Want) (r : ReadStep (Val m)) (o : ParseOutcome (Val m)) : Type 0 where
    end : ParseOutcome (Val m)
    runs : RunsTo m r end
    ends : Ends o end

  ask_on : {m n : Want} {ss rest : List Token} {v : Val n} {j : Val n → List Token → ReadStep (Val m)} {o : ParseOutcome (Val m)} (e : ParseOutcome (Val n))
      → RunsTo n (body n ss) e → Ends (Ok (v, rest)) e → ((zs : List Token) → Same t us vs rest zs → Again m (j v zs) o) → Again m (Ask n ss j) o
  ask_on e a (both_read same) go = let b = go _ same in record { end = b.end; runs = ask a b.runs; ends = b.ends }

  ask_stops : {m n : Want} {ss rest : List Token} {j : Val n → List Token → ReadStep (Val m)} (e : ParseOutcome (Val n))
      → RunsTo n (body n ss) e → Ends (Err (Left rest)) e → Again m (Ask n ss j) (Err (Left rest))
  ask_stops e a (both_left {ss = zs} same) = record { end = Err (Left zs); runs = ask_fails a; ends = both_left same }

  again : {m : Want} {s r : ReadStep (Val m)} {o : ParseOutcome (Val m)} → Alike t us vs m s r → Reaches (suc (length us)) o → RunsTo m s o → Again m r o
  again {o = o} (past h) le a = absurd (not_both (suc (length us)) o (h o a) le)
  again (gives same) le give = record { end = Ok (_, _); runs = give; ends = both_read same }
  again (gives same) le short = absurd le
  again (fails same) le fail = record { end = Err (Left _); runs = fail; ends = both_left same }
  again (fails same) le short = absurd le
  again (asks same next gone) le short = absurd le
  again {o = o} (asks {n = n} {ts = ts} {ss = ss} {k = k} same next gone) le (ask {rest = rest} {v = v} a b) = ⊎_elim
      (λ lt. absurd (not_both (suc (length us)) o (below_more (suc (length rest)) (suc (length us)) o (left_below (length rest) b (gone v rest)) lt) le))
      (λ ge. let x = again (part_alike t us vs n ts ss same) ge a in ask_on x.end x.runs x.ends (λ zs more. again (next v rest zs more) le b))
      (cases_lt (length rest) (suc (length us)))
  again (asks {n = n} {ts = ts} {ss = ss} same next gone) le (ask_fails {f = Left rest} a) =
      let x = again (part_alike t us vs n ts ss same) le a in ask_stops x.end x.runs x.ends
  again (asks same next gone) le (ask_fails {f = NoMemory} a) = absurd le

  longer : {ts ss : List Token} → Same t us vs ts ss → length us < length ts
  longer at = omega arith
  longer (on x s) = let l = longer s in omega (arith, l)

  -- where the first stops at the token, the second stops at its own
  same_tail : {xs zs : List Token} → Same t us vs xs zs → xs ≡ t ∷ us → zs ≡ t ∷ vs
  same_tail at e = refl
  same_tail (on {ts = ts} x s) e = absurd (let l = longer s in let m = ap length e in omega (arith, l, m))

  stops_there : (m : Want) (ss : List Token) (e : ParseOutcome (Val m)) → RunsTo m (body m ss) e → Ends (Err (Left (t ∷ us))) e
      → RunsTo m (body m ss) (Err (Left (t ∷ vs)))
  stops_there m ss e a (both_left {ss = zs} same) =
      subst (λ (zs : List Token). RunsTo m (body m ss) (Err (Left zs))) (same_tail same refl) a

  stops : {m : Want} {ts ss : List Token} → Same t us vs ts ss → RunsTo m (body m ts) (Err (Left (t ∷ us))) → RunsTo m (body m ss) (Err (Left (t ∷ vs)))
  stops {m = m} {ts = ts} {ss = ss} same a = let x = again (part_alike t us vs m ts ss same) (omega arith) a in stops_there m ss x.end x.runs x.ends

  same_front : (front : List Token) → Same t us vs (front ++ t ∷ us) (front ++ t ∷ vs)
  same_front [] = at
  same_front (x ∷ front) = on x (same_front front)

-- where reading stops at a token, it stops there whatever stands behind it
pub stops_before : (front us vs : List Token) (t : Token) → Reads (NDecls []) (front ++ t ∷ us) (Err (Left (t ∷ us)))
    → Reads (NDecls []) (front ++ t ∷ vs) (Err (Left (t ∷ vs)))
stops_before front us vs t r = reads (stops t us vs (same_front t us vs front) (run r))

pub stuck : (front us : List Token) (t : Token) → Reads (NDecls []) (front ++ t ∷ us) (Err (Left (t ∷ us))) → Begins (front ++ t ∷ []) → ⊥
stuck front us t r b = none_derived (front ++ t ∷ b.0) (t ∷ b.0) b.1 (stops_before front us b.0 t r)
    (subst (λ ts. Derives ts b.1) (append_assoc front (t ∷ []) b.0) b.2)
