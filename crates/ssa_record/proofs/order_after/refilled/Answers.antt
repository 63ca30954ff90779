use Rattle.std.proofs.Common.{◌≡◌, ◌+◌, length, Some, None, ◌∙◌, rules, arith}
use Rattle.ssa_model.proofs.Basics.{yes_no}
use Rattle.ssa_path.specs.Children.{elements}
use Rattle.ssa_path.specs.View.{path_view}
use Rattle.ssa_record.specs.Places.{maps_of, items_left}
use Rattle.ssa_record.specs.Refilled.{all_below, lent_puts, place_told, puts_told}
use Rattle.ssa_record.proofs.RefilledOrder.{all-placed, filled-below, order-woven, places-below}
use Rattle.ssa_record.proofs.order_after.refilled.Goals as goal

pub returns-in-None : goal.returns-in-None
returns-in-None c = λ fs r.
    let m = maps_of c.args.told.now in
    let p = path_view c.args.path.now in
    let es = elements c.args.children.now in
    let cs = elements c.deref.result.now in
    let f = filled-below m p es fs c.args.touched.now c.deref.result.now c.deref.ensures.value c.requires.touched c.requires.all r in
    let none : puts_told (place_told m p) cs ≡ None = search rules in
    absurd (all-placed (place_told m p) cs (items_left m p es) fs f none)

pub returns-then-not-are_below : goal.returns-then-not-are_below
returns-then-not-are_below c = λ fs r.
    let m = maps_of c.args.told.now in
    let p = path_view c.args.path.now in
    let es = elements c.args.children.now in
    let cs = elements c.deref.result.now in
    let f = filled-below m p es fs c.args.touched.now c.deref.result.now c.deref.ensures.value c.requires.touched c.requires.all r in
    let xs = c.in_ok-stays.stays in
    let qs = c.in-Some.puts in
    let puts : Some (lent_puts qs.items) ≡ puts_told (place_told m p) cs = search rules in
    let count : c.len.result + c.len-2.result ≡ length xs.items + length qs.items = omega (arith, c.len.ensures, c.len-2.ensures, xs.ok.0, qs.ok.0) in
    let below = places-below (place_told m p) cs (items_left m p es) fs f xs.items qs.items c.in_ok-stays.ensures puts in
    yes_no c.are_below.result (c.are_below.ensures ∙ (λ i. all_below (count i) (c.deref-2.ensures.value i)) ∙ below) c.if-not-are_below.true

pub returns : goal.returns
returns c = λ fs r.
    let m = maps_of c.args.told.now in
    let p = path_view c.args.path.now in
    let es = elements c.args.children.now in
    let cs = elements c.deref.result.now in
    let f = filled-below m p es fs c.args.touched.now c.deref.result.now c.deref.ensures.value c.requires.touched c.requires.all r in
    let xs = c.in_ok-stays.stays in
    let qs = c.in-Some.puts in
    let puts : Some (lent_puts qs.items) ≡ puts_told (place_told m p) cs = search rules in
    let count : c.len.result + c.len-2.result ≡ length xs.items + length qs.items = omega (arith, c.len.ensures, c.len-2.ensures, xs.ok.0, qs.ok.0) in
    order-woven (place_told m p) cs (items_left m p es) fs f xs.items qs.items c.in_ok-stays.ensures puts c.in_ok-slots.slots.items c.in_ok-all.all.items
    (c.in_ok-slots.ensures.long ∙ count) c.in_ok-slots.ensures.put (search rules)
