use Rattle.std.proofs.Common.{[], ap, sym, subst, ◌&&◌, ◌∙◌}
use Rattle.std.specs.Cmp.{first_so, second_so}
use Rattle.ssa_model.specs.definitions.Body.{flat}
use Rattle.ssa_model.specs.definitions.Fitting.{IsBodyOf}
use Rattle.ssa_model.specs.definitions.Kind.{faults}
use Rattle.ssa_model.specs.definitions.Lawful.{has_metadata, is_ordered, is_root_kind}
use Rattle.ssa_model.specs.definitions.Objects.{shown}
use Rattle.ssa_model.specs.definitions.Valid.{IsRooted}
use Rattle.ssa_model.proofs.FlatOfShown.{flat_of_shown}
use Rattle.ssa_model.proofs.ShownFits.{shown_fits}
use Rattle.ssa_typed.proofs.Showing.{body-shown}
use Rattle.ssa_typed.proofs.body.Body.to_json.Goals as goal

pub returns-clause-shown : goal.returns-clause-shown
returns-clause-shown c kind ordered body =
    let n = c.self.inside.root in
    c.in_ok-value.ensures.value ∙ body-shown n kind c.self.invariant.tree ordered (subst (IsBodyOf kind) (sym c.self.view_is) body)
    ∙ ap (λ b. shown kind b []) c.self.view_is

pub returns-clause-back : goal.returns-clause-back
returns-clause-back c kind lawful body =
    let ordered = first_so (is_ordered kind) (has_metadata kind) (second_so (is_root_kind kind) (is_ordered kind && has_metadata kind) lawful) in
    let n = c.self.inside.root in
    let is = c.in_ok-value.ensures.value ∙ body-shown n kind c.self.invariant.tree ordered (subst (IsBodyOf kind) (sym c.self.view_is) body)
    ∙ ap (λ b. shown kind b []) c.self.view_is in
    record {
      fits = ap (λ v. faults kind v []) is ∙ shown_fits kind c.args.self.now lawful body;
      body = ap (flat kind) is ∙ flat_of_shown kind c.args.self.now lawful body (subst IsRooted c.self.view_is c.self.invariant.rooted);
    }
