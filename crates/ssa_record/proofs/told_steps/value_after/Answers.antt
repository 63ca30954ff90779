use Rattle.std.proofs.Common.{◌≡◌, [], sym, ap, subst}
use Rattle.ssa_model.specs.definitions.Fitting.{of_kind}
use Rattle.ssa_path.specs.View.{path_view}
use Rattle.ssa_record.specs.LedValues.{IsLed, IsToldFor}
use Rattle.ssa_record.specs.Places.{maps_of, IsTouchedBelow}
use Rattle.ssa_record.proofs.LedBodies.{root-here, root-touched, told-for}
use Rattle.ssa_record.proofs.told_steps.value_after.Goals as goal

pub led_value-requires : goal.led_value-requires
led_value-requires c =
    let m = maps_of c.args.told.now in
    let root : path_view c.new-path.result.items ≡ [] = ap path_view c.new-path.ensures.items in
    record {
      tree = c.root.ensures.tree;
      touched = subst (λ p. IsTouchedBelow m p c.root-touched.result.now) (sym root)
          (root-touched m c.root-touched.result.now c.root-touched.ensures.trie c.root-touched.ensures.same);
      all = c.requires;
    }

pub returns : goal.returns
returns c = λ kind d w ordered takes is.
    let m = maps_of c.args.told.now in
    let root : path_view c.new-path.result.items ≡ [] = ap path_view c.new-path.ensures.items in
    let told : IsToldFor m kind c.args.body.now w = subst (λ x. IsToldFor x kind c.args.body.now w) (sym is)
    (told-for kind d c.args.body.now w ordered takes) in
    let led = subst (λ p. IsLed m p c.root.result.now c.in_ok-value.value) root c.in_ok-value.ensures.led in
    led kind c.args.body.now w (of_kind kind) told (root-here kind d c.args.body.now w c.root.result.now takes c.root.ensures.seen)
