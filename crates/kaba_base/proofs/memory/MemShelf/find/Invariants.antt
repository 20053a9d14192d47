use Rattle.std.proofs.Common.{◌≡◌, drop}
use Rattle.kaba_base.specs.Outside.{file_of}
use Rattle.kaba_base.proofs.memory.MemShelf.find.Given as goal

-- the first file of the name is among those that are left
abbrev pub invariant-loop-file : goal.invariant-loop-file
invariant-loop-file l = file_of (drop l.file-index l.self.files.items) l.name ≡ file_of l.self.files.items l.name
