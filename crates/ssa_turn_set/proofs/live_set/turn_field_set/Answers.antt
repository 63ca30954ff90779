use Rattle.std.proofs.Common.{◌≡◌, ap, sym, ◌∙◌, subst}
use Rattle.ssa_model.specs.definitions.PathMap.{listed}
use Rattle.ssa_path.specs.Trie.{paths}
use Rattle.ssa_turn_set.specs.Turn.{IsLed, set_steps, set_target, set_back, led_back}
use Rattle.ssa_turn_set.proofs.live_set.turn_field_set.Goals as goal

pub returns-clause-back : goal.returns-clause-back
returns-clause-back c =
    let d = set_steps c.args.delta.now in
    let s = c.args.set.now in
    let steps : set_steps c.turn_set.new.delta ≡ set_back d =
    λ i. record { gain = listed (paths (c.turn_set.ensures.gain i)); lose = listed (paths (c.turn_set.ensures.lose i)) } in
    let after : c.set_root.new.self ≡ set_target d s = c.set_root.ensures ∙ c.turn_set.ensures.value ∙ ap (set_target d) c.take_root-root.ensures.same in
    subst (λ e. IsLed e c.set_root.new.self s) (sym steps) (subst (λ v. IsLed (set_back d) v s) (sym after) (led_back d s (set_target d s) c.requires.fits))
