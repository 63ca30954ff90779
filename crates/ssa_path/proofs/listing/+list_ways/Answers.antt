use Rattle.std.proofs.Common.{ap, ◌∙◌, arith, rules}
use Rattle.std.proofs.lemmas.List.{map-append}
use Rattle.ssa_path.specs.Listing.{way_view, ways_view}
use Rattle.ssa_path.specs.declared.trie.Trie.{the_lemmas}
use Rattle.ssa_path.specs.declared.trie.Trie.TheViews.{out-Trie}
use Rattle.ssa_path.proofs.Levels.{trie-parts}
use Rattle.ssa_path.proofs.Lists.{child-trie}
use Rattle.ssa_path.proofs.InOrder.{listing-more, listing-all, way-back, way-grown}
use Rattle.ssa_path.proofs.listing.+list_ways.Goals as goal

pub list_ways-requires : goal.list_ways-requires
list_ways-requires t c =
    let filled = (trie-parts c.args.trie.now c.deref-child-items.result.now c.deref-child-items.ensures.value c.requires).1 in
    (search (rules, the_lemmas), child-trie c.deref-child-items.result.now c.loop-child.child-index c.child-item.result (omega arith) c.child-item.is filled)

pub loop-child-preserved : goal.loop-child-preserved
loop-child-preserved t c =
    let grown = way-grown c.args.way.now.items c.loop-child.way.items c.push.new.self.items _ c.in_ok-push.ensures.items c.loop-child.invariant.way in
    record {
      listing = listing-more (way_view c.args.way.now.items) (out-Trie c.args.trie.now).here c.deref-child-items.result.now c.loop-child.child-index
          c.child-item.result (ways_view c.args.listed.now.items) (ways_view c.loop-child.listed.items) (ways_view c.list_ways.new.listed.items) (way_view c.push.new.self.items)
          (omega arith) c.child-item.is (ap way_view grown ∙ map-append _ c.args.way.now.items _) c.loop-child.invariant.listing
          c.in_ok-list_ways.ensures.listed;
      way = way-back c.args.way.now.items c.list_ways.new.way.items _ c.list_ways.new.way.len c.pop.new.self.items
          (c.in_ok-list_ways.ensures.way ∙ grown) c.list_ways.new.way.ok.0 c.pop.ensures.rest;
    }

pub returns-clause-listed : goal.returns-clause-listed
returns-clause-listed t c =
    listing-all (way_view c.args.way.now.items) c.args.trie.now c.loop-child.child-index c.deref-child-items.result.now (ways_view c.args.listed.now.items)
    (ways_view c.loop-child.listed.items) c.deref-child-items.ensures.value c.loop-child-test.false c.requires c.loop-child.invariant.listing

pub returns-clause-way : goal.returns-clause-way
returns-clause-way t c = c.loop-child.invariant.way
