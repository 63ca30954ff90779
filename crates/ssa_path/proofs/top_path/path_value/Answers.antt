use Rattle.std.proofs.Common.{◌++◌, ap, map, ◌∙◌}
use Rattle.ssa_json.specs.View.{items_of, view}
use Rattle.ssa_json.proofs.Listed.{items-made}
use Rattle.ssa_json.proofs.Views.{view-List}
use Rattle.ssa_model.specs.definitions.Json.{list}
use Rattle.ssa_path.specs.TopPaths.{text_of}
use Rattle.ssa_path.specs.View.{path_view}
use Rattle.ssa_path.proofs.top_path.path_value.Goals as goal

pub returns : goal.returns
returns c =
    let p = path_view c.args.elements.now in
    view-List c.push_texts.new.texts
    ∙ ap (λ vs. list (items_of vs)) (c.in_ok-push_texts.ensures ∙ ap (λ xs. map view xs ++ map text_of p) c.in_ok-texts.ensures.items)
    ∙ ap list (items-made text_of p)
