-- What holds of a call that went well, passed on.
use Rattle.std.specs.Prelude.{Result, Ok, Err, OnOk}

pub on_ok : {A E : Type 0} {p q : Type 0} (r : Result A E) → (p → q) → OnOk r p → OnOk r q
on_ok (Ok a) f h = f h
on_ok (Err e) f h = tt
