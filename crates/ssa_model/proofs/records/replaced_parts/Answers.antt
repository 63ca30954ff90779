use Rattle.ssa_model.proofs.ReplacedParts.{replaced_answers, parts_fit, replaced_fits, replaced_is_rooted}
use Rattle.ssa_model.proofs.ReplacedSizes.{replaced_size}
use Rattle.ssa_model.proofs.records.replaced_parts.Goals as goal

pub returns : goal.returns
returns c = record { answers = replaced_answers; parts = parts_fit; fits = replaced_fits; rooted = replaced_is_rooted; size = replaced_size }
