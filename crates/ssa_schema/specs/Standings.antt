-- Where schemas stand.
use Rattle.ssa_model.specs.definitions.Schema as model
use Rattle.ssa_schema.specs.declared.read.standing.Standing.{Standing}
use Rattle.ssa_schema.specs.declared.read.standing.Standing.TheVariants.{Root, Below, InAtomic}

abbrev pub standing_view : Standing → model.Standing
standing_view Root = model.at_root
standing_view Below = model.below_root
standing_view InAtomic = model.in_atomic
