use Rattle.std.proofs.Common.{length, [], ap, subst, arith, Err}
use Rattle.java_parse.specs.declared.Stop.{Stop}
use Rattle.java_parse.specs.Want.{NDecls}
use Rattle.java_parse.specs.Reading.{Reads}
use Rattle.java_parse.specs.Seen.{fault_of}
use Rattle.java_parse.proofs.Parsed.{accepted, refused, goes_deep}
use Rattle.java_parse.proofs.parse.Goals as goal

pub returns-in-Some-clause-none : goal.returns-in-Some-clause-none
returns-in-Some-clause-none c = λ h _. (goes_deep _ _ c.in-Some.k c.as_slice-all.ensures.value (rw c.in-Some.is at c.in-Ok.ensures.deep)).not_nested h

pub returns-in-Some-clause-accepted : goal.returns-in-Some-clause-accepted
returns-in-Some-clause-accepted c = λ h _ _. (goes_deep _ _ c.in-Some.k c.as_slice-all.ensures.value (rw c.in-Some.is at c.in-Ok.ensures.deep)).not_nested h

pub returns-in-Ok-all_decls : goal.returns-in-Ok-all_decls
returns-in-Ok-all_decls c =
    let a = accepted _ _ _ _ c.as_slice-all.ensures.value c.in-Ok-all_decls.ensures.reads (c.in-Ok.ensures.shallow c.in_default-deep.is) in
    record {
      found = a.placed;
      nested = a.nested;
      small = a.small;
      refused = tt;
      deep = a.not_deep;
      none = λ _ no. no _ a.derives;
      accepted = λ _ _ _. tt;
    }

pub returns-in-Err-At-clause-refused : goal.returns-in-Err-At-clause-refused
returns-in-Err-At-clause-refused c =
    let r = refused _ _ _ c.as_slice-all.ensures.value (subst (λ (s : Stop). Reads (NDecls []) c.as_slice-all.result.now (Err (fault_of s)))
    c.in-Err-At.field-0-is c.in-Err-At.ensures.reads) (c.in-Ok.ensures.shallow c.in_default-deep.is) in
    let g = ap length c.as_slice-all.ensures.value in
    (r.nested, r.exact _ (let fits = r.fits in omega (arith, g, fits, c.saturating_sub.ensures)))

pub returns-in-Err-At-clause-deep : goal.returns-in-Err-At-clause-deep
returns-in-Err-At-clause-deep c =
    (refused _ _ _ c.as_slice-all.ensures.value (subst (λ (s : Stop). Reads (NDecls []) c.as_slice-all.result.now (Err (fault_of s)))
    c.in-Err-At.field-0-is c.in-Err-At.ensures.reads) (c.in-Ok.ensures.shallow c.in_default-deep.is)).not_deep

pub returns-in-Err-At-clause-accepted : goal.returns-in-Err-At-clause-accepted
returns-in-Err-At-clause-accepted c =
    λ _. (refused _ _ _ c.as_slice-all.ensures.value (subst (λ (s : Stop). Reads (NDecls []) c.as_slice-all.result.now (Err (fault_of s)))
    c.in-Err-At.field-0-is c.in-Err-At.ensures.reads) (c.in-Ok.ensures.shallow c.in_default-deep.is)).none
