use Rattle.std.proofs.Common.{◌++◌, ap, map, sym, ◌∙◌}
use Rattle.std.proofs.lemmas.List.{map-append}
use Rattle.ssa_json.specs.View.{items_of, view}
use Rattle.ssa_json.proofs.Listed.{items-made}
use Rattle.ssa_json.proofs.Views.{view-List}
use Rattle.ssa_model.specs.definitions.Json.{list}
use Rattle.ssa_path.specs.TopPaths.{last_view, lent_path, text_of}
use Rattle.ssa_path.specs.View.{path_view}
use Rattle.ssa_path.proofs.top_path.LentPath.to_json.Goals as goal

pub returns : goal.returns
returns c =
    let p = path_view c.args.self.now.place.now in
    let l = last_view c.args.self.now.last in
    view-List c.push_last.new.texts
    ∙ ap (λ vs. list (items_of vs)) (c.in_ok-push_last.ensures ∙ ap (λ vs. vs ++ map text_of l) (c.in_ok-push_texts.ensures
    ∙ ap (λ xs. map view xs ++ map text_of p) c.in_ok-texts.ensures.items) ∙ sym (map-append text_of p l))
    ∙ ap list (items-made text_of (lent_path c.args.self.now))
