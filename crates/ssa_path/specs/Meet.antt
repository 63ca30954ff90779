-- The paths that combinations keep, beside the definitions' union and minus.
use Rattle.std.specs.Prelude.{not}
use Rattle.ssa_model.specs.definitions.PathMap.{PathSet, has, has_at_or_below, paths, set_of, minus, union}
use Rattle.ssa_path.specs.declared.combine.Combination.{Combination}
use Rattle.ssa_path.specs.declared.combine.Combination.TheVariants.{Union, Minus, Meet, WithoutOver, Over}

abbrev pub meet : PathSet → PathSet → PathSet
meet s t = set_of (paths s) (has t)

-- the paths that have none of the other set's at or below them
abbrev pub without_over : PathSet → PathSet → PathSet
without_over s t = set_of (paths s) (λ p. not (has_at_or_below t p))

-- the paths that have one of the other set's at or below them
abbrev pub over : PathSet → PathSet → PathSet
over s t = set_of (paths s) (has_at_or_below t)

abbrev pub combined : Combination → PathSet → PathSet → PathSet
combined Union s t = union s t
combined Minus s t = minus s t
combined Meet s t = meet s t
combined WithoutOver s t = without_over s t
combined Over s t = over s t
