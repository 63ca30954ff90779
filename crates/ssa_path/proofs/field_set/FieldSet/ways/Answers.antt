use Rattle.std.proofs.Common.{◌∙◌, ◌++◌, ap, sym}
use Rattle.ssa_model.specs.definitions.PathMap as set
use Rattle.ssa_path.specs.Listing.{behind, way_view, ways_view}
use Rattle.ssa_path.specs.Trie.{paths}
use Rattle.ssa_path.proofs.InOrder.{behind-none, paths-listed}
use Rattle.ssa_path.proofs.field_set.FieldSet.ways.Goals as goal

pub returns : goal.returns
returns c =
    let h = c.in_ok-list_ways.ensures.listed in
    h.added ∙ (λ i. ways_view (c.new-listed.ensures.items i) ++ behind (way_view (c.new-way.ensures.items i)) (paths c.self.inside.root)) ∙ behind-none (paths c.self.inside.root)
    ∙ sym (paths-listed (paths c.self.inside.root) h.rise) ∙ ap set.paths c.self.view_is
