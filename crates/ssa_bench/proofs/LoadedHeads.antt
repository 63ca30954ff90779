-- Laws of the first line of a bench file: its head is read where the line is and the head is taken of its value.
use Rattle.std.proofs.Common.{◌≡◌, ℕ, List, Option, subst}
use Rattle.std.specs.Prelude.{Result, Ok, Err}
use Rattle.ssa_model.specs.definitions.Json.{Json}
use Rattle.ssa_model.specs.definitions.BenchOfFile as formats
use Rattle.ssa_model.specs.definitions.BenchOfFile.{file_head}
use Rattle.ssa_json.specs.View.{view}
use Rattle.ssa_file.specs.Heads.{head_view}
use Rattle.ssa_file.specs.declared.head.FileHead.{FileHead}
use Rattle.ssa_lines.specs.declared.loading.FileLine.{FileLine}
use Rattle.ssa_lines.specs.declared.loading.LoadFault.{LoadFault}
use Rattle.ssa_lines.specs.declared.loading.LoadFault.TheVariants.{Io}
use Rattle.ssa_bench.specs.Loading.{ReadsHead, ReadsLine}
use Rattle.ssa_bench.specs.Taking.{TakesHead}
use Rattle.ssa_bench.proofs.LoadedParts.{part-read, part-unread}

-- what is taken of the value of the first line
pub head-read : (a b : Option (List ℕ)) (room room_after : ℕ) (l : FileLine) (r : Result FileHead LoadFault) → ReadsLine a b room room_after (Ok l)
    → TakesHead r (view l.value) → ReadsHead a b room room_after r
head-read a b room room_after l (Ok h) line taken = part-read file_head a b room room_after l (Ok (head_view h)) line taken
head-read a b room room_after l (Err f) line taken = part-read {X = formats.FileHead} file_head a b room room_after l (Err f) line taken

-- where no line was read, no head is taken
pub head-unread : (a b : Option (List ℕ)) (room room_after : ℕ) (f : LoadFault) → ReadsLine a b room room_after (Err f)
    → ReadsHead a b room room_after (Err f)
head-unread a b room room_after f line = part-unread {X = formats.FileHead} file_head a b room room_after f line

-- a head that is taken never fails as the source does
pub head-no-io : (r : Result FileHead LoadFault) (v : Json) → TakesHead r v → r ≡ Err Io → ⊥
head-no-io r v h e = subst (λ q. TakesHead q v) e h
