use Rattle.name_laws.proofs.OnlyWhole.{only}
use Rattle.java_resolve.proofs.one_program.Goals as goal

pub returns : goal.returns
returns c = record { value = λ tree P Q f n p q. only tree f n P Q p q }
