use Rattle.ssa_model.proofs.TakenOfWritten.{bench_file_is_taken}
use Rattle.ssa_model.proofs.WrittenOfTaken.{taken_is_its_text}
use Rattle.ssa_model.proofs.bench_files_are_taken.Goals as goal

pub returns : goal.returns
returns c = record { taken = bench_file_is_taken; text = taken_is_its_text }
