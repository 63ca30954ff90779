-- A body and the one that a change of it leaves are alike where both are of one kind.
use Rattle.ssa_model.specs.definitions.Body.{Body}
use Rattle.ssa_model.specs.definitions.Fitting.{IsBodyOf}
use Rattle.ssa_model.specs.definitions.Kind.{Kind}
use Rattle.ssa_model.specs.definitions.PathMap.{PathSet}
use Rattle.ssa_model.specs.laws.RecordWalks.{AreAlike as AreOfOneClass}
use Rattle.ssa_model.proofs.BodyLeads.{bodies_are_trees}
use Rattle.ssa_merge.specs.Plans.{body_after}
use Rattle.ssa_merge.specs.declared.change.NewBody.{NewBody}
use Rattle.ssa_typed.specs.Alike.{AreAlike}
use Rattle.ssa_typed.proofs.OneSort.{bodies_alike}

module _ (v : Body) (to : NewBody) (gone : PathSet) (h : (kind : Kind) × IsBodyOf kind v × IsBodyOf kind (body_after to gone v)) where
  -- the two bodies have contents of one sort wherever both have a path
  pub after_alike : AreAlike v (body_after to gone v)
  after_alike = bodies_alike h.0 v (body_after to gone v) h.1 h.2

  -- where both have a path, they have contents of one class
  pub after_of_one_class : AreOfOneClass v (body_after to gone v)
  after_of_one_class = (bodies_are_trees h.0 v (body_after to gone v) h.1 h.2).2
