use Rattle.std.proofs.Common.{◌≡◌, take}
use Rattle.ssa_path.specs.Listing.{way_view, ways_view}
use Rattle.ssa_path.specs.declared.trie.Trie.TheViews.{out-Trie}
use Rattle.ssa_path.proofs.InOrder.{IsListing}
use Rattle.ssa_path.proofs.listing.+list_ways.Given as goal

abbrev pub invariant-loop-child : goal.invariant-loop-child
invariant-loop-child l = record {
  listing : IsListing (way_view l.fn.way.items) (out-Trie l.trie).here (take l.child-index l.child-items) (ways_view l.fn.listed.items) (ways_view l.listed.items);
  way : l.way.items ≡ l.fn.way.items;
}
