use Rattle.std.proofs.Common.{◌≡◌, [], false, true, None, Some, refl, sym, ap, ◌∙◌, subst, subst₂}
use Rattle.ssa_model.specs.definitions.Json.{object, Members}
use Rattle.ssa_model.specs.definitions.Kind as model
use Rattle.ssa_model.specs.definitions.Body.{field_places, without_empty_metadata}
use Rattle.ssa_model.specs.definitions.Lawful.{has_metadata}
use Rattle.ssa_model.specs.laws.Faultless.{FieldsFit}
use Rattle.ssa_json.specs.View.{view, members_view}
use Rattle.ssa_json.proofs.Views.{view-Object}
use Rattle.ssa_schema.specs.Finds.{Finds}
use Rattle.ssa_schema.specs.Kinds.{kind_view, fields_view}
use Rattle.ssa_schema.specs.Refusals.{first_of}
use Rattle.ssa_schema.proofs.Finding.{finds_from}
use Rattle.ssa_schema.proofs.Kinding.{kind_view-Record}
use Rattle.ssa_typed.specs.Flats.{AreNamed}
use Rattle.ssa_typed.specs.Reads.{has_empty_metadata, IsBodyRead}
use Rattle.ssa_typed.specs.Rows.{body_of}
use Rattle.ssa_typed.specs.Tested.{IsTested}
use Rattle.ssa_typed.specs.declared.node.Node.{Branch}
use Rattle.ssa_typed.specs.declared.tested.Tested.TheVariants.{Fits}
use Rattle.ssa_typed.proofs.BodyFits.{body-fits}
use Rattle.ssa_typed.proofs.Fitting.{no-first}
use Rattle.ssa_typed.proofs.Levels.{Children}
use Rattle.ssa_typed.proofs.Rooted.{body-rooted}
use Rattle.ssa_typed.proofs.Testing.{left-faults}
use Rattle.ssa_typed.proofs.Trees.{record-made, record-tree, record-flat}
use Rattle.ssa_typed.proofs.read.tested_body.Goals as goal

-- what is made of an object without an empty `metadata` is the object's body
left-body : (fs : model.Fields) (ms left : Members) (cs : Children) → has_metadata (model.record_of fs) ≡ true → left ≡ without_empty_metadata ms
    → has_empty_metadata left ≡ false → IsTested (model.field_faults fs left) (λ (cs : Children). AreNamed (field_places fs left) cs.items) (Fits cs)
    → IsBodyRead (model.record_of fs) (object ms) (body_of (Branch cs))
left-body fs ms left cs metadata is gone tested =
    let ns = without_empty_metadata ms in
    let named = subst (λ ns. AreNamed (field_places fs ns) cs.items) is tested.1 in
    let fine : FieldsFit fs ns = ([], no-first (model.field_faults fs ns []) (subst (λ ns. Finds None (model.field_faults fs ns)) is tested.0 [])) in
    let made = record-made cs (model.record_of fs) (object ns) fs ns refl refl named in
    record {
      exact = record-flat cs fs ms named;
      fits = body-fits (model.record_of fs) (object ns) (Branch cs) fine made;
      rooted = body-rooted fs ns (Branch cs) metadata fine (sym (ap has_empty_metadata is) ∙ gone) made;
    }

pub new-requires-clause-tree : goal.new-requires-clause-tree
new-requires-clause-tree c =
    let fs = fields_view c.in-Record.fields.entries in
    let left = members_view c.without_empty_metadata.result.entries in
    let tested = subst (IsTested (model.field_faults fs left) (λ cs. AreNamed (field_places fs left) cs.items)) c.in-Fits.is c.in_ok-children.ensures in
    record-tree c.in-Fits.children (field_places fs left) tested.1

pub new-requires-clause-rooted : goal.new-requires-clause-rooted
new-requires-clause-rooted c =
    let fs = fields_view c.in-Record.fields.entries in
    let left = members_view c.without_empty_metadata.result.entries in
    let kind : kind_view c.args.kind.now ≡ model.record_of fs = ap kind_view c.in-Record.is ∙ kind_view-Record c.in-Record.fields in
    let tested = subst (IsTested (model.field_faults fs left) (λ cs. AreNamed (field_places fs left) cs.items)) c.in-Fits.is c.in_ok-children.ensures in
    (left-body fs (members_view c.in-Object.members.entries) left c.in-Fits.children (sym (ap has_metadata kind) ∙ c.requires.metadata)
    c.without_empty_metadata.ensures.members c.without_empty_metadata.ensures.gone tested).rooted

pub returns-in-Fits : goal.returns-in-Fits
returns-in-Fits c =
    let fs = fields_view c.in-Record.fields.entries in
    let ms = members_view c.in-Object.members.entries in
    let left = members_view c.without_empty_metadata.result.entries in
    let kind : kind_view c.args.kind.now ≡ model.record_of fs = ap kind_view c.in-Record.is ∙ kind_view-Record c.in-Record.fields in
    let value : view c.args.value ≡ object ms = ap view c.in-Object.is ∙ view-Object c.in-Object.members in
    let metadata = sym (ap has_metadata kind) ∙ c.requires.metadata in
    let tested = subst (IsTested (model.field_faults fs left) (λ cs. AreNamed (field_places fs left) cs.items)) c.in-Fits.is c.in_ok-children.ensures in (
      finds_from None (model.faults (kind_view c.args.kind.now) (view c.args.value)) (model.field_faults fs left)
          (λ p. ap first_of ((λ i. model.faults (kind i) (value i) p) ∙ left-faults fs ms p metadata
          ∙ ap (λ ns. model.field_faults fs ns p) (sym c.without_empty_metadata.ensures.members))) tested.0,
      subst₂ (λ k v. IsBodyRead k v c.new.result) (sym kind) (sym value)
          (subst (IsBodyRead (model.record_of fs) (object ms)) (sym c.new.ensures)
          (left-body fs ms left c.in-Fits.children metadata c.without_empty_metadata.ensures.members c.without_empty_metadata.ensures.gone tested)),
    )

pub returns-in-Breaks : goal.returns-in-Breaks
returns-in-Breaks c =
    let fs = fields_view c.in-Record.fields.entries in
    let ms = members_view c.in-Object.members.entries in
    let left = members_view c.without_empty_metadata.result.entries in
    let kind : kind_view c.args.kind.now ≡ model.record_of fs = ap kind_view c.in-Record.is ∙ kind_view-Record c.in-Record.fields in
    let value : view c.args.value ≡ object ms = ap view c.in-Object.is ∙ view-Object c.in-Object.members in
    let metadata = sym (ap has_metadata kind) ∙ c.requires.metadata in
    finds_from (Some c.in-Breaks.found) (model.faults (kind_view c.args.kind.now) (view c.args.value)) (model.field_faults fs left)
    (λ p. ap first_of ((λ i. model.faults (kind i) (value i) p) ∙ left-faults fs ms p metadata
    ∙ ap (λ ns. model.field_faults fs ns p) (sym c.without_empty_metadata.ensures.members)))
    (subst (IsTested (model.field_faults fs left) (λ cs. AreNamed (field_places fs left) cs.items)) c.in-Breaks.is c.in_ok-children.ensures)
