-- Declarations that may begin with `final`.
use Rattle.std.proofs.Common.{◌≡◌, ℕ, List, Bool, Option, Some, Ok, sym, subst}
use Rattle.kaba_base.specs.declared.Place.{Place}
use Rattle.java_lex.specs.declared.Token.{Token}
use Rattle.java_tree.specs.declared.TypeName.{TypeName}
use Rattle.java_tree.specs.Syntax.{Expression, LocalOf}
use Rattle.java_parse.specs.Front.{final_of, word_next}
use Rattle.java_parse.specs.Want.{NType, NLocal, NInit, NParam}
use Rattle.java_parse.specs.Reading.{Reads}
use Rattle.java_parse.proofs.StatementSteps.{local_is}
use Rattle.java_parse.proofs.DeclarationSteps.{param_is}

pub local_from : {ts us vs ws : List Token} {t : TypeName} {n : List ℕ} {v : Option Expression} {p : Place} (f : Bool × List Token) → f ≡ final_of ts
    → Reads NType f.1 (Ok (t, us)) → word_next us ≡ Some (n, p, vs) → Reads NInit vs (Ok (v, ws)) →
    Reads NLocal ts (Ok (LocalOf f.0 t n v p, ws))
local_from {ts = ts} {us = us} {ws = ws} {t = t} {n = n} {v = v} {p = p} f e a h b =
    let P : Bool × List Token → Type 0 = λ g. Reads NType g.1 (Ok (t, us)) → Reads NLocal ts (Ok (LocalOf g.0 t n v p, ws)) in
    subst P (sym e) (λ a. local_is a h b) a

pub param_from : {ts us vs : List Token} {t : TypeName} {n : List ℕ} {p : Place} (f : Bool × List Token) → f ≡ final_of ts
    → Reads NType f.1 (Ok (t, us)) → word_next us ≡ Some (n, p, vs) →
    Reads NParam ts (Ok (record { is_final = f.0; ty = t; name = n; place = p }, vs))
param_from {ts = ts} {us = us} {vs = vs} {t = t} {n = n} {p = p} f e a h =
    let P : Bool × List Token → Type 0 = λ g. Reads NType g.1 (Ok (t, us))
    → Reads NParam ts (Ok (record { is_final = g.0; ty = t; name = n; place = p }, vs)) in
    subst P (sym e) (λ a. param_is a h) a
