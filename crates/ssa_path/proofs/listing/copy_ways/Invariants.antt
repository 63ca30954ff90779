use Rattle.std.proofs.Common.{◌≡◌, take}
use Rattle.ssa_path.specs.Listing.{ways_view}
use Rattle.ssa_path.proofs.listing.copy_ways.Given as goal

abbrev pub invariant-loop-way : goal.invariant-loop-way
invariant-loop-way l = l.paths.items ≡ ways_view (take l.way-index l.ways)
