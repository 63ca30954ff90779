use Rattle.std.proofs.Common.{◌≡◌, take}
use Rattle.ssa_model.specs.definitions.FieldsV1.{AreCanonical}
use Rattle.ssa_json.specs.View.{members_view}
use Rattle.ssa_path.specs.declared.trie.Trie.TheViews.{out-Trie}
use Rattle.ssa_path.proofs.FieldsBack.{AreBackChildren}
use Rattle.ssa_path.proofs.FieldsLevels.{dotted, child_members}
use Rattle.ssa_path.proofs.fields_v1.+place.Given as goal

-- the place itself and the first children are written
abbrev pub invariant-place_members-loop-child : goal.invariant-place_members-loop-child
invariant-place_members-loop-child l = record {
  json : members_view l.members.entries ≡ dotted (out-Trie l.place).here (child_members (take l.child-index l.child-items));
  canonical : AreCanonical (members_view l.members.entries);
  back : AreBackChildren (take l.child-index l.child-items);
}
