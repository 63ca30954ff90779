use Rattle.std.proofs.Common.{◌≡◌, ◌∷◌, ◌+◌, ◌-◌, drop, sym, ap, ◌∙◌, arith}
use Rattle.ssa_model.specs.definitions.Schema.{with_text}
use Rattle.ssa_json.specs.View.{view, items_view}
use Rattle.ssa_schema.specs.Kinds.{names_view}
use Rattle.ssa_schema.specs.Builds.{sorted_items}
use Rattle.ssa_schema.proofs.Finding.{item_split}
use Rattle.ssa_schema.proofs.Sorting.{names-insert, sorted-more}
use Rattle.ssa_schema.proofs.read.key_names.sorted_items.Goals as goal

pub loop-left-preserved-in_ok-insert : goal.loop-left-preserved-in_ok-insert
loop-left-preserved-in_ok-insert c =
    let l = c.loop-left in
    let x = c.index-items-left.result in
    let xs = c.args.items.now in
    let at = l.left - 1 in
    let next : at + 1 ≡ l.left = omega arith in
    let split : drop at xs ≡ x ∷ drop l.left xs = item_split xs at x (omega arith) c.index-items-left.is ∙ ap (λ n. x ∷ drop n xs) next in
    record {
      within = omega arith;
      sorted =
          ap names_view c.in_ok-insert.ensures.keys ∙ names-insert c.in_ok-name.name l.found.keys
          ∙ ap (λ n. with_text n (names_view l.found.keys)) c.in_ok-name.ensures.ok
          ∙ ap (with_text c.in-Some.text.now) l.invariant.sorted
          ∙ sorted-more (view x) (items_view (drop l.left xs)) c.in-Some.text.now c.in-Some.ensures
          ∙ ap (λ ys. sorted_items (items_view ys)) (sym split);
    }
