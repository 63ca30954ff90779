use Rattle.std.proofs.Common.{◌+◌, ◌∷◌, drop, sym, ap, ◌∙◌}
use Rattle.std.specs.Prelude.{option_map}
use Rattle.ssa_model.specs.definitions.Path.{value, same_element}
use Rattle.ssa_model.specs.definitions.Kind.{value_faults}
use Rattle.ssa_json.specs.View.{view, items_view, scalar_view}
use Rattle.ssa_schema.specs.Kinds.{scalar_kind_view}
use Rattle.ssa_schema.specs.Refusals.{first_of}
use Rattle.ssa_schema.specs.Finds.{told}
use Rattle.ssa_schema.specs.Repeats.{repeat_from, leading_values}
use Rattle.ssa_schema.specs.declared.fit.found.Misfit.TheVariants.{DuplicateItem}
use Rattle.ssa_schema.proofs.Leading.{lead-value, other-test, repeat-next}
use Rattle.ssa_schema.proofs.Finding.{finds_child, item_split}
use Rattle.ssa_schema.proofs.ItemWalk.{value_twice, value_next}
use Rattle.ssa_schema.proofs.fit.faults.set_fault.Goals as goal

pub returns-then-not-is_other : goal.returns-then-not-is_other
returns-then-not-is_other c p =
    let l = c.loop-i in
    let k = scalar_kind_view c.args.wanted.now in
    let s = scalar_view c.in-Some.scalar.now in
    let x = c.index-items-i.result in
    let xs = c.args.items.now in
    let rest = leading_values k (items_view (drop (l.i + 1) xs)) in
    let known = ap (repeat_from same_element l.i l.invariant.before)
    (sym (lead-value k xs l.i x s c.loop-i-test.true c.index-items-i.is (sym c.in-Some.ensures))) ∙ l.invariant.known in
    let is_new = other-test l.i (value s) l.invariant.before rest c.in_ok-repeated.repeated c.is_other.result known c.is_other.ensures in
    finds_child c.here-twice.result c.in_ok-below.field-0 DuplicateItem (value s) c.in_ok-value_name.field-0 c.here-twice.ensures.misfit
    c.here-twice.ensures.path c.in_ok-value_name.ensures c.in_ok-below.ensures.misfit c.in_ok-below.ensures.path p
    ∙ ap (option_map told) (sym (
    l.invariant.left p
    ∙ ap (λ es. first_of (value_faults k l.invariant.before (items_view es) p)) (item_split xs l.i x c.loop-i-test.true c.index-items-i.is)
    ∙ value_twice k l.invariant.before (view x) s (items_view (drop (l.i + 1) xs)) p (sym c.in-Some.ensures) (sym c.if-not-is_other.true ∙ is_new)))

pub loop-i-preserved : goal.loop-i-preserved
loop-i-preserved c =
    let l = c.loop-i in
    let k = scalar_kind_view c.args.wanted.now in
    let s = scalar_view c.in-Some.scalar.now in
    let x = c.index-items-i.result in
    let xs = c.args.items.now in
    let rest = leading_values k (items_view (drop (l.i + 1) xs)) in
    let known = ap (repeat_from same_element l.i l.invariant.before)
    (sym (lead-value k xs l.i x s c.loop-i-test.true c.index-items-i.is (sym c.in-Some.ensures))) ∙ l.invariant.known in
    let is_new = other-test l.i (value s) l.invariant.before rest c.in_ok-repeated.repeated c.is_other.result known c.is_other.ensures in
    record {
      before = value s ∷ l.invariant.before;
      known = repeat-next l.i (value s) l.invariant.before rest c.in_ok-repeated.repeated known (sym c.if-not-is_other.false ∙ is_new);
      left = λ p.
          l.invariant.left p
          ∙ ap (λ es. first_of (value_faults k l.invariant.before (items_view es) p)) (item_split xs l.i x c.loop-i-test.true c.index-items-i.is)
          ∙ ap first_of (value_next k l.invariant.before (view x) s (items_view (drop (l.i + 1) xs)) p (sym c.in-Some.ensures)
          (sym c.if-not-is_other.false ∙ is_new));
    }
