use Rattle.std.proofs.Common.{arith}
use Rattle.ssa_record.proofs.Slots.{slot-within, slots-more}
use Rattle.ssa_record.proofs.order_after.slots_of.Goals as goal

pub index_mut-requires : goal.index_mut-requires
index_mut-requires c =
    let slots = c.loop-place.slots in
    let within = slot-within c.args.puts.items c.loop-place.rest.items c.pop.new.self.items c.args.count slots.items (c.in-Some.place, c.in-Some.element)
    c.requires c.loop-place.invariant c.in-Some.ensures.items in
    omega (arith, within, slots.ok.0)

pub loop-place-preserved : goal.loop-place-preserved
loop-place-preserved c =
    slots-more c.args.puts.items c.loop-place.rest.items c.pop.new.self.items c.args.count c.loop-place.slots.items (c.in-Some.place, c.in-Some.element)
    c.requires c.loop-place.invariant c.in-Some.ensures.items
