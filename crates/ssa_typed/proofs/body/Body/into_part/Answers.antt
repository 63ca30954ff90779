use Rattle.std.proofs.Common.{sym, ap, subst, ◌∙◌}
use Rattle.ssa_model.specs.definitions.Parts.{part_of}
use Rattle.ssa_model.specs.definitions.Valid.{IsRooted}
use Rattle.ssa_model.proofs.BodyParts.{rooted-part}
use Rattle.ssa_path.specs.Subresources.{part_view}
use Rattle.ssa_typed.specs.Rows.{body_of}
use Rattle.ssa_typed.proofs.InPart.{body-in-part, record-root}
use Rattle.ssa_typed.proofs.body.Body.into_part.Goals as goal

pub into_part-root-requires : goal.into_part-root-requires
into_part-root-requires c = record-root c.self.inside.root c.self.invariant.tree c.self.invariant.rooted

pub invariant_of-result : goal.invariant_of-result
invariant_of-result c =
    let s = part_view c.args.part in
    record {
      tree = c.into_part-root.ensures.tree;
      rooted = subst IsRooted (sym (body-in-part s c.self.inside.root c.into_part-root.result c.into_part-root.ensures))
          (rooted-part s (body_of c.self.inside.root) c.self.invariant.rooted);
    }

pub returns : goal.returns
returns c =
    let s = part_view c.args.part in
    body-in-part s c.self.inside.root c.into_part-root.result c.into_part-root.ensures ∙ ap (part_of s) c.self.view_is
