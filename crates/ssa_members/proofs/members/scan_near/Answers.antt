use Rattle.std.proofs.Common.{sym, ap, ◌∙◌, ◌<◌, is_eq, length, string_bytes, arith}
use Rattle.std.proofs.lemmas.Map.Text.{is_eq-slice_cmp}
use Rattle.std.specs.Cmp.Lexicographic.{slice_cmp}
use Rattle.std.specs.Ordering.{nat_cmp}
use Rattle.ssa_members.specs.Members.{Name}
use Rattle.ssa_members.proofs.Searching.{name-read}
use Rattle.ssa_members.proofs.members.scan_near.Goals as goal

pub returns-then-is_one_name : goal.returns-then-is_one_name
returns-then-is_one_name g c =
    let bs = c.args.name.now in
    let within : c.loop-place.place < length c.args.entries.now = omega arith in
    let told = ap (λ (e : Name × _). is_eq (slice_cmp nat_cmp bs (string_bytes e.0))) c.index-entries-place.is ∙ ap (λ k. is_eq (slice_cmp nat_cmp bs k)) (sym c.as_str.ensures.value) ∙ is_eq-slice_cmp bs c.as_str.result.now ∙ sym c.is_one_name.ensures in
    name-read bs c.args.entries.now c.loop-place.place c.index-entries-place.result within c.index-entries-place.is (told ∙ c.if-is_one_name.true)
