use Rattle.std.proofs.Common.{List, ap, refl, sym, subst, ◌∙◌, append-nil, arith, rules}
use Rattle.std.proofs.lemmas.List.{map-append}
use Rattle.std.specs.Borrow.{Bor}
use Rattle.ssa_path.specs.Listing.{behind, way_view}
use Rattle.ssa_path.specs.WrittenPaths.{AreWritten}
use Rattle.ssa_path.specs.Trie.{here_path}
use Rattle.ssa_path.specs.declared.element.Elem.{Elem}
use Rattle.ssa_path.specs.declared.trie.Trie.{the_lemmas}
use Rattle.ssa_path.specs.declared.trie.Trie.TheViews.{out-Trie}
use Rattle.ssa_path.proofs.Levels.{trie-parts}
use Rattle.ssa_path.proofs.Lists.{child-trie}
use Rattle.ssa_path.proofs.InOrder.{way-back, way-grown}
use Rattle.ssa_path.proofs.WrittenPaths.{all-written, child-written}
use Rattle.ssa_path.proofs.path_text.+push_ways.Goals as goal

pub push_ways-requires : goal.push_ways-requires
push_ways-requires t c =
    let filled = (trie-parts c.args.trie.now c.deref-child-items.result.now c.deref-child-items.ensures.value c.requires).1 in
    (search (rules, the_lemmas), child-trie c.deref-child-items.result.now c.loop-child.child-index c.child-item.result (omega arith) c.child-item.is filled)

pub loop-child-init : goal.loop-child-init
loop-child-init t c =
    let here = here_path (out-Trie c.args.trie.now).here in
    record {
      written = subst (λ ps. AreWritten c.args.is_later.now c.args.text.now.items ps c.push_here.new.is_later c.push_here.new.text.items)
          (ap (λ (ws : List (Bor Elem)). behind (way_view ws) here) c.deref.ensures.value ∙ ap (behind (way_view c.args.way.now.items)) (sym (append-nil here)))
          c.in_ok-push_here.ensures;
      way = refl;
    }

pub loop-child-preserved : goal.loop-child-preserved
loop-child-preserved t c =
    let grown = way-grown c.args.way.now.items c.loop-child.way.items c.push.new.self.items _ c.in_ok-push.ensures.items c.loop-child.invariant.way in
    record {
      written = child-written c.args.is_later.now c.loop-child.is_later c.push_ways.new.is_later c.args.text.now.items c.loop-child.text.items
          c.push_ways.new.text.items (way_view c.args.way.now.items) (way_view c.push.new.self.items) (out-Trie c.args.trie.now).here
          c.deref-child-items.result.now c.loop-child.child-index c.child-item.result (omega arith) c.child-item.is
          (ap way_view grown ∙ map-append _ c.args.way.now.items _) c.loop-child.invariant.written c.in_ok-push_ways.ensures.written;
      way = way-back c.args.way.now.items c.push_ways.new.way.items _ c.push_ways.new.way.len c.pop.new.self.items
          (c.in_ok-push_ways.ensures.way ∙ grown) c.push_ways.new.way.ok.0 c.pop.ensures.rest;
    }

pub returns-clause-way : goal.returns-clause-way
returns-clause-way t c = c.loop-child.invariant.way

pub returns-clause-written : goal.returns-clause-written
returns-clause-written t c =
    all-written c.args.is_later.now c.loop-child.is_later c.args.text.now.items c.loop-child.text.items (way_view c.args.way.now.items) c.args.trie.now
    c.deref-child-items.result.now c.loop-child.child-index c.deref-child-items.ensures.value c.loop-child-test.false c.loop-child.invariant.written
