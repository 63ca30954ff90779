use Rattle.std.proofs.Common.{◌≡◌, [], sym, ◌∙◌, arith}
use Rattle.std.proofs.lemmas.Bool.{eqb-true}
use Rattle.std.proofs.lemmas.List.{nil_from_length}
use Rattle.ssa_path.specs.declared.trie.Trie.TheViews.{out-Trie}
use Rattle.ssa_turn_set.specs.Room.{children}
use Rattle.ssa_turn_set.proofs.Bare.{leaf-gain}
use Rattle.ssa_turn_set.proofs.making.make_gain_room.Goals as goal

-- no room is wanted where nothing is gained below the place
pub returns-then-is_empty : goal.returns-then-is_empty
returns-then-is_empty c =
    let gained = (out-Trie c.args.gained.now).below.ok.0 in
    let zero = eqb-true _ 0 (sym c.is_empty.ensures ∙ c.if-is_empty.true) in
    let none : children c.args.gained.now ≡ [] = nil_from_length (children c.args.gained.now) (omega arith) in
    leaf-gain c.args.gained.now none _
