use Rattle.std.proofs.Common.{List, [], ◌++◌, ap, append-nil, ◌∙◌}
use Rattle.std.specs.Borrow.{Bor}
use Rattle.std.specs.Prelude.{option_map}
use Rattle.ssa_model.specs.definitions.PathMap.{from_entries, get}
use Rattle.ssa_path.specs.View.{path_view}
use Rattle.ssa_path.specs.declared.element.Elem.{Elem}
use Rattle.ssa_record.specs.Places.{order_view}
use Rattle.ssa_record.proofs.ByPaths.{value-shown}
use Rattle.ssa_record.proofs.places.ToldPlaces.order_at.Goals as goal

pub returns : goal.returns
returns c =
    let shows = λ (es : Bor (List Elem)). path_view es.now in
    ap (option_map shows) (c.copied.ensures ∙ c.get.ensures) ∙ value-shown shows (path_view c.args.path.now ++ []) c.args.self.now.order.entries.items
    ∙ ap (get (from_entries (order_view c.args.self.now.order.entries.items))) (append-nil (path_view c.args.path.now))
