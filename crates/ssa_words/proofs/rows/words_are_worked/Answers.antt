use Rattle.std.proofs.Common.{refl}
use Rattle.clap.proofs.OnLiterals.{clap_on_literals}
use Rattle.ssa_words.specs.WordRows.{ApplyIsByKubectl, ApplyIsByManager, DepthIsRead, HelpIsAsked, OtherDepthsAreRefused, OtherSubresourcesAreRefused, OthersAreRefused, ShowIsRead, StatusIsRead, Wherever}
use Rattle.ssa_words.proofs.TableFacts.{wherever}
use Rattle.ssa_words.proofs.rows.words_are_worked.Goals as goal

kubectl : Wherever ApplyIsByKubectl
unfolding clap_on_literals
kubectl = wherever ApplyIsByKubectl (λ at text_at. (refl, refl, refl, refl, refl, refl, refl))

manager : Wherever ApplyIsByManager
unfolding clap_on_literals
manager = wherever ApplyIsByManager (λ at text_at. (refl, refl, refl))

status : Wherever StatusIsRead
unfolding clap_on_literals
status = wherever StatusIsRead (λ at text_at. (refl, refl, refl, refl))

subresources : Wherever OtherSubresourcesAreRefused
unfolding clap_on_literals
subresources = wherever OtherSubresourcesAreRefused (λ at text_at. (refl, refl, refl, refl, refl, refl))

depth : Wherever DepthIsRead
unfolding clap_on_literals
depth = wherever DepthIsRead (λ at text_at. (refl, refl, refl, refl, refl, refl))

depths : Wherever OtherDepthsAreRefused
unfolding clap_on_literals
depths = wherever OtherDepthsAreRefused (λ at text_at. (refl, refl, refl, refl, refl, refl, refl))

show : Wherever ShowIsRead
unfolding clap_on_literals
show = wherever ShowIsRead (λ at text_at. (refl, refl, refl))

others : Wherever OthersAreRefused
unfolding clap_on_literals
others = wherever OthersAreRefused (λ at text_at. (refl, refl, refl, refl, refl))

help : Wherever HelpIsAsked
unfolding clap_on_literals
help = wherever HelpIsAsked (λ at text_at. refl)

pub returns : goal.returns
returns c =
    record { kubectl = kubectl; manager = manager; status = status; subresources = subresources; depth = depth; depths = depths; show = show; others = others; help = help }
