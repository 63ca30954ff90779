use Rattle.std.proofs.Common.{◌≡◌, take}
use Rattle.ssa_path.specs.Listing.{behind, way_view}
use Rattle.ssa_path.specs.WrittenPaths.{AreWritten}
use Rattle.ssa_path.specs.declared.trie.Trie.TheViews.{out-Trie}
use Rattle.ssa_path.proofs.InOrder.{shown}
use Rattle.ssa_path.proofs.path_text.+push_ways.Given as goal

abbrev pub invariant-loop-child : goal.invariant-loop-child
invariant-loop-child l = record {
  written :
      AreWritten l.fn.is_later l.fn.text.items (behind (way_view l.fn.way.items) (shown (out-Trie l.trie).here (take l.child-index l.child-items))) l.is_later
      l.text.items;
  way : l.way.items ≡ l.fn.way.items;
}
