use Rattle.std.proofs.Common.{◌≡◌, map, drop}
use Rattle.std.specs.List.{list_all}
use Rattle.ssa_model.specs.definitions.Schema.{is_one_of_texts, names}
use Rattle.ssa_json.specs.View.{members_view}
use Rattle.ssa_schema.proofs.read.rules.names_are_among.Given as goal

-- what is left decides
abbrev pub invariant-loop-name : goal.invariant-loop-name
invariant-loop-name l =
    list_all (λ n. is_one_of_texts n (map (λ w. w.now) l.words)) (names (members_view l.members.entries))
    ≡ list_all (λ n. is_one_of_texts n (map (λ w. w.now) l.words)) (names (members_view (drop l.name-index l.name-items)))
