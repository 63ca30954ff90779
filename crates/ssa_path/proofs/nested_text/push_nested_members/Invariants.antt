use Rattle.std.proofs.Common.{◌≡◌, ◌++◌, take, true, false}
use Rattle.ssa_model.specs.definitions.Json.{escaped}
use Rattle.ssa_path.proofs.OwnTexts.{are_narrow}
use Rattle.ssa_path.proofs.Texts.{text_from}
use Rattle.ssa_path.proofs.nested_text.push_nested_members.Given as goal

-- with what is left, the text is whole, and the numbers of the members so far fit
abbrev pub invariant-loop-member : goal.invariant-loop-member
invariant-loop-member l = record {
  whole : l.text.items ++ escaped (text_from l.is_later l.members l.member-index) ≡ l.fn.text.items ++ escaped (text_from false l.members 0);
  narrow : are_narrow (take l.member-index l.members) ≡ true;
}
