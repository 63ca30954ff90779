use Rattle.ssa_told.proofs.RecordTextsSay as lemmas
use Rattle.ssa_told.proofs.reading_said.record_texts_say.Goals as goal

pub returns : goal.returns
returns c = lemmas.record_texts_say
