use Rattle.kaba_versions.proofs.+changed.Given as goal

abbrev pub decreases-changed : goal.decreases-changed
decreases-changed l = l.key
