use Rattle.std.proofs.Common.{List, map, ap, ◌∙◌, subst}
use Rattle.std.specs.Borrow.{Bor}
use Rattle.ssa_model.specs.definitions.PathMap.{from_entries, marked}
use Rattle.ssa_json.specs.View.{view}
use Rattle.ssa_json.specs.declared.value.Json.{Json}
use Rattle.ssa_path.specs.View.{path_view}
use Rattle.ssa_path.specs.declared.element.Elem.{Elem}
use Rattle.ssa_told.specs.Told.{told_body}
use Rattle.ssa_record.specs.ToldEntries.{told_leaf, told_order, told_put, AddsPaths}
use Rattle.ssa_record.specs.Places.{told_paths}
use Rattle.ssa_told.specs.declared.told.ToldPut.{ToldPut}
use Rattle.ssa_record.proofs.ByPaths.{told-by_map}
use Rattle.ssa_record.proofs.Touched.{touched-is}
use Rattle.ssa_record.proofs.told_places.places_told.Goals as goal

pub returns : goal.returns
returns c =
    let t = told_body c.args.told.now in
    let s = c.new-touched.result in
    let a = c.cut_told.new.touched in
    let b = c.leaves_told.new.touched in
    let o = c.orders_told.new.touched in
    let p = c.puts_told.new.touched in
    let cut = told-by_map (λ (u : Unit {0}). tt) c.in_ok-cut.cut.items c.in_ok-of.field-0.entries.items c.in_ok-of.ensures
    ∙ ap from_entries (c.in_ok-cut.ensures.told ∙ ap marked c.deref.ensures.value) in
    let leaves = told-by_map (λ (v : Bor Json). view v.now) c.in_ok-leaves.leaves.items c.in_ok-of-2.field-0.entries.items c.in_ok-of-2.ensures
    ∙ ap from_entries (c.in_ok-leaves.ensures.told ∙ ap (map told_leaf) c.deref-2.ensures.value) in
    let order = told-by_map (λ (es : Bor (List Elem)). path_view es.now) c.in_ok-order.order.items c.in_ok-of-3.field-0.entries.items c.in_ok-of-3.ensures
    ∙ ap from_entries (c.in_ok-order.ensures.told ∙ ap (map told_order) c.deref-3.ensures.value) in
    let put = told-by_map (λ (x : Bor ToldPut). (view x.now.value, x.now.place)) c.in_ok-put.put.items c.in_ok-of-4.field-0.entries.items c.in_ok-of-4.ensures
    ∙ ap from_entries (c.in_ok-put.ensures.told ∙ ap (map told_put) c.deref-4.ensures.value) in
    let touched = touched-is t s a b o p c.new-touched.ensures
    (subst (λ ps. AddsPaths (told_paths (marked ps)) s a) c.deref.ensures.value c.in_ok-cut.ensures.touched)
    (subst (λ ls. AddsPaths (told_paths (map told_leaf ls)) a b) c.deref-2.ensures.value c.in_ok-leaves.ensures.touched)
    (subst (λ os. AddsPaths (told_paths (map told_order os)) b o) c.deref-3.ensures.value c.in_ok-order.ensures.touched)
    (subst (λ ps. AddsPaths (told_paths (map told_put ps)) o p) c.deref-4.ensures.value c.in_ok-put.ensures.touched) in
    λ i. record { cut = cut i; leaves = leaves i; order = order i; put = put i; touched = touched i }
