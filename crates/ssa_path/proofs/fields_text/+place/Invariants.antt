use Rattle.std.proofs.Common.{◌≡◌, ◌++◌, take}
use Rattle.ssa_model.specs.definitions.Json.{compact, object}
use Rattle.ssa_path.specs.declared.trie.Trie.TheViews.{out-Trie}
use Rattle.ssa_path.proofs.FieldsLevels.{dotted, child_members}
use Rattle.ssa_path.proofs.FieldsTexts.{AreOfProgram, children_left}
use Rattle.ssa_path.proofs.fields_text.+place.Given as goal

-- with what is left, the text is whole; the members so far are of the program
abbrev pub invariant-push_place-loop-child : goal.invariant-push_place-loop-child
invariant-push_place-loop-child l = record {
  text : l.text.items ++ children_left l.is_later l.child-items l.child-index
      ≡ l.fn.text.items ++ compact (object (dotted (out-Trie l.place).here (child_members l.child-items)));
  of_program : AreOfProgram (take l.child-index l.child-items);
}
