use Rattle.std.proofs.Common.{sym, subst, ◌∙◌}
use Rattle.ssa_model.specs.definitions.Parts.{spliced}
use Rattle.ssa_model.specs.definitions.Valid.{IsRooted}
use Rattle.ssa_model.proofs.BodyParts.{rooted-spliced}
use Rattle.ssa_path.specs.Subresources.{part_view}
use Rattle.ssa_typed.specs.Rows.{body_of}
use Rattle.ssa_typed.proofs.InPart.{body-spliced, record-root}
use Rattle.ssa_typed.proofs.body.Body.splice.Goals as goal

pub splice-requires-clause-object : goal.splice-requires-clause-object
splice-requires-clause-object c = record-root c.self.inside.root c.self.invariant.tree c.self.invariant.rooted

pub splice-requires-clause-live : goal.splice-requires-clause-live
splice-requires-clause-live c = record-root c.rest.inside.root c.rest.invariant.tree c.rest.invariant.rooted

pub invariant_of-result : goal.invariant_of-result
invariant_of-result c =
    let s = part_view c.args.part in
    record {
      tree = c.in_ok-root.ensures.tree;
      rooted = subst IsRooted (sym (body-spliced s c.self.inside.root c.rest.inside.root c.in_ok-root.root c.in_ok-root.ensures))
          (rooted-spliced s (body_of c.self.inside.root) (body_of c.rest.inside.root) c.self.invariant.rooted c.rest.invariant.rooted);
    }

pub returns : goal.returns
returns c =
    let s = part_view c.args.part in
    body-spliced s c.self.inside.root c.rest.inside.root c.in_ok-root.root c.in_ok-root.ensures ∙ (λ i. spliced s (c.self.view_is i) (c.rest.view_is i))
