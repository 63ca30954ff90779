use Rattle.std.proofs.Common.{ap, sym, ◌∙◌}
use Rattle.ssa_path.specs.Children.{elements}
use Rattle.ssa_typed.specs.Rows.{are_apart, below}
use Rattle.ssa_typed.proofs.Levels.{level-below}
use Rattle.ssa_typed.proofs.OverNodes.{below-List}
use Rattle.ssa_typed.proofs.keeps_order.places_in_one_order.Goals as goal

pub rising_places-requires-clause-apart : goal.rising_places-requires-clause-apart
rising_places-requires-clause-apart c =
    ap (λ l. are_apart (elements l)) (c.deref.ensures.value ∙ sym (ap below c.in-List-List.is-0 ∙ below-List c.in-List-List.own))
    ∙ (level-below c.args.live.now).apart c.requires.live

pub rising_places-requires-clause-config_apart : goal.rising_places-requires-clause-config_apart
rising_places-requires-clause-config_apart c =
    ap (λ l. are_apart (elements l)) (c.deref-in-List-List.ensures.value ∙ sym (ap below c.in-List-List.is-1 ∙ below-List c.in-List-List.others))
    ∙ (level-below c.args.config.now).apart c.requires.config
