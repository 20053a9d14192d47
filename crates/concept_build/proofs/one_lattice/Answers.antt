use Rattle.concept_build.proofs.Uniqueness as laws
use Rattle.concept_build.proofs.one_lattice.Goals as goal

pub returns : goal.returns
returns c = record { lattice = laws.one_lattice; apart = laws.not_both }
