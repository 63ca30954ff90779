use Rattle.std.proofs.Common.{take}
use Rattle.ssa_json.specs.View.{members_view}
use Rattle.ssa_path.specs.View.{path_view}
use Rattle.ssa_path.specs.declared.trie.Trie.TheViews.{out-Trie}
use Rattle.ssa_record.specs.Places.{maps_of}
use Rattle.ssa_record.proofs.LedPuts.{ArePutSoFar}
use Rattle.ssa_record.proofs.led_value.put_members.Given as goal

-- what is put at the children so far stands there
abbrev pub invariant-loop-child : goal.invariant-loop-child
invariant-loop-child l = ArePutSoFar (maps_of l.told) (path_view l.path) (take l.child-index (out-Trie l.touched).below.items)
    (members_view l.fn.members.entries) (members_view l.members.entries)
