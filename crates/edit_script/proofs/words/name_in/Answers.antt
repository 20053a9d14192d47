use Rattle.edit_script.proofs.Names.{name_written}
use Rattle.edit_script.proofs.words.name_in.Goals as goal

pub returns : goal.returns
returns c = name_written c.args.word.now c.new.result c.utf8.word c.new.ensures.value
