use Rattle.std.specs.Prelude.{vec_capacity}
use Rattle.ssa_path.specs.Trie.{paths}
use Rattle.ssa_turn_set.specs.Room.{lone_room}
use Rattle.ssa_turn_set.proofs.Bare.{leaf-lose}
use Rattle.ssa_turn_set.proofs.LoneComing.{lone-back, lone-gathered, lone-leaf}
use Rattle.ssa_turn_set.proofs.gain.put_lone_in.Goals as goal

pub gain_leaf-requires-clause-leaf : goal.gain_leaf-requires-clause-leaf
gain_leaf-requires-clause-leaf c =
    lone-leaf c.args.below.now.items c.args.gained.now c.args.spare.now (vec_capacity c.args.below.now)
    c.requires.rise c.requires.tries c.requires.gained_rise c.requires.gained_tries c.requires.fits c.requires.room
    c.index-gained-0.result c.index-gained-0.is

pub returns-clause-gathered : goal.returns-clause-gathered
returns-clause-gathered c =
    let opened = c.open_within-place.ensures in
    let child = c.index_mut.result.now in
    let back = leaf-lose c.index-gained-0.result.1
    (lone-leaf c.args.below.now.items c.args.gained.now c.args.spare.now (vec_capacity c.args.below.now)
    c.requires.rise c.requires.tries c.requires.gained_rise c.requires.gained_tries c.requires.fits c.requires.room
    c.index-gained-0.result c.index-gained-0.is)
    (paths child.1) in
    lone-gathered c.args.below.now.items c.args.gained.now (lone_room c.args.spare.now) (vec_capacity c.args.below.now)
    c.requires.rise c.requires.tries c.requires.gained_rise c.requires.gained_tries c.requires.fits c.requires.room
    c.index-gained-0.result c.index-gained-0.is c.open_within-place.new.children.items c.open_within-place.result
    (vec_capacity c.open_within-place.new.children) child (opened.opened.opened child c.index_mut.ensures.value) opened.opened.within
    c.gain_leaf.new.set (lone_room c.open_within-place.new.spare) c.gain_leaf.ensures.paths c.gain_leaf.ensures.trie opened.spare back opened.capacity

pub returns-clause-room : goal.returns-clause-room
returns-clause-room c =
    let opened = c.open_within-place.ensures in
    let child = c.index_mut.result.now in
    let back = leaf-lose c.index-gained-0.result.1
    (lone-leaf c.args.below.now.items c.args.gained.now c.args.spare.now (vec_capacity c.args.below.now)
    c.requires.rise c.requires.tries c.requires.gained_rise c.requires.gained_tries c.requires.fits c.requires.room
    c.index-gained-0.result c.index-gained-0.is)
    (paths child.1) in
    lone-back c.args.below.now.items c.args.gained.now (lone_room c.args.spare.now) (vec_capacity c.args.below.now)
    c.requires.rise c.requires.tries c.requires.gained_rise c.requires.gained_tries c.requires.fits c.requires.room
    c.index-gained-0.result c.index-gained-0.is c.open_within-place.new.children.items c.open_within-place.result
    (vec_capacity c.open_within-place.new.children) child (opened.opened.opened child c.index_mut.ensures.value) opened.opened.within
    c.gain_leaf.new.set (lone_room c.open_within-place.new.spare) c.gain_leaf.ensures.paths c.gain_leaf.ensures.trie opened.spare back opened.capacity
