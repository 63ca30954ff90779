use Rattle.std.proofs.Common.{rules, ap, sym, refl, ◌∙◌}
use Rattle.ssa_path.specs.View.{path_view}
use Rattle.ssa_typed.specs.declared.node.Node.TheVariants
use Rattle.ssa_typed.specs.declared.node.Node.TheViews.{the_lemmas}
use Rattle.ssa_turn_body.proofs.Descending.{split_path, enter, leave, child-fits, child-read}
use Rattle.ssa_turn_body.proofs.Places.{kind-Branch, kind-Dict, kind-List}
use Rattle.ssa_turn_body.specs.Marks.{seen}
use Rattle.ssa_turn_body.proofs.descent.+change.Goals as goal

pub change_at-change_child-requires : goal.change_at-change_child-requires
change_at-change_child-requires g t c κs within =
    let is = c.in-Branch.is ∙ ap TheVariants.Branch (sym c.in-Branch.children-is) in
    let split = split_path c.args.path.now c.first-item.result c.in-len1-up.len_at_least c.first-item.is in
    let met = enter _ kind-Branch (λ n. g.C.Change.fits c.args.change.now (seen n)) _ _ _ _ _ _ is split c.requires.tree c.in-Some.ensures.some
    c.requires.fits in (search (rules, the_lemmas), (within, (met.0, (met.1, met.2))))

pub change_at-returns-in-Branch : goal.change_at-returns-in-Branch
change_at-returns-in-Branch g t c =
    let is = c.in-Branch.is ∙ ap TheVariants.Branch (sym c.in-Branch.children-is) in
    let split = split_path c.args.path.now c.first-item.result c.in-len1-up.len_at_least c.first-item.is in
    leave _ kind-Branch _ _ _ _ _ _ _ c.change_child.new.children _ is (rw (c.in-Branch.is, TheVariants.outs-Branch c.in-Branch.children) refl) split
    c.requires.tree c.in-Some.ensures.some c.change_child.ensures

pub change_at-change_child-requires-in-Dict : goal.change_at-change_child-requires-in-Dict
change_at-change_child-requires-in-Dict g t c κs within =
    let is = c.in-Dict.is ∙ ap TheVariants.Dict (sym c.in-Dict.children-is) in
    let split = split_path c.args.path.now c.first-item.result c.in-len1-up.len_at_least c.first-item.is in
    let met = enter _ kind-Dict (λ n. g.C.Change.fits c.args.change.now (seen n)) _ _ _ _ _ _ is split c.requires.tree c.in-Some.ensures.some
    c.requires.fits in (search (rules, the_lemmas), (within, (met.0, (met.1, met.2))))

pub change_at-returns-in-Dict : goal.change_at-returns-in-Dict
change_at-returns-in-Dict g t c =
    let is = c.in-Dict.is ∙ ap TheVariants.Dict (sym c.in-Dict.children-is) in
    let split = split_path c.args.path.now c.first-item.result c.in-len1-up.len_at_least c.first-item.is in
    leave _ kind-Dict _ _ _ _ _ _ _ c.change_child-in-Dict.new.children _ is (rw (c.in-Dict.is, TheVariants.outs-Dict c.in-Dict.children) refl) split
    c.requires.tree c.in-Some.ensures.some c.change_child-in-Dict.ensures

pub change_at-change_child-requires-in-List : goal.change_at-change_child-requires-in-List
change_at-change_child-requires-in-List g t c κs within =
    let is = c.in-List.is ∙ ap TheVariants.List (sym c.in-List.children-is) in
    let split = split_path c.args.path.now c.first-item.result c.in-len1-up.len_at_least c.first-item.is in
    let met = enter _ kind-List (λ n. g.C.Change.fits c.args.change.now (seen n)) _ _ _ _ _ _ is split c.requires.tree c.in-Some.ensures.some
    c.requires.fits in (search (rules, the_lemmas), (within, (met.0, (met.1, met.2))))

pub change_at-returns-in-List : goal.change_at-returns-in-List
change_at-returns-in-List g t c =
    let is = c.in-List.is ∙ ap TheVariants.List (sym c.in-List.children-is) in
    let split = split_path c.args.path.now c.first-item.result c.in-len1-up.len_at_least c.first-item.is in
    leave _ kind-List _ _ _ _ _ _ _ c.change_child-in-List.new.children _ is (rw (c.in-List.is, TheVariants.outs-List c.in-List.children) refl) split
    c.requires.tree c.in-Some.ensures.some c.change_child-in-List.ensures

pub change_child-change_at-requires : goal.change_child-change_at-requires
change_child-change_at-requires g t c κs within =
    let here = child-read c.args.children.now.items c.args.place c.index_mut-child.result.now c.requires.within c.index_mut-child.ensures.value in (
      search (rules, the_lemmas),
      (
        within,
        child-fits (λ n. g.C.Change.fits c.args.change.now (seen n)) (path_view c.args.path.now) c.args.children.now.items c.args.place
            c.index_mut-child.result.now here c.requires.trees c.requires.fits,
      ),
    )

pub change_child-returns : goal.change_child-returns
change_child-returns g t c =
    let here = child-read c.args.children.now.items c.args.place c.index_mut-child.result.now c.requires.within c.index_mut-child.ensures.value in
    record { child = c.index_mut-child.result.now; after = c.change_at.new.node; here = here; left = refl; changed = c.change_at.ensures }
