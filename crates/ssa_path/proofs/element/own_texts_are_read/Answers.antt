use Rattle.ssa_path.proofs.OwnTexts.{own-text-is-read}
use Rattle.ssa_path.proofs.element.own_texts_are_read.Goals as goal

pub returns : goal.returns
returns c = own-text-is-read
