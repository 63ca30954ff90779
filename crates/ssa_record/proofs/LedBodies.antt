-- The body that a record leads to, from what is told of the record.
use Rattle.std.proofs.Common.{◌≡◌, List, [], ◌∷◌, map, true, false, ◌&&◌, cond, Some, refl, sym, ap, ◌∙◌}
use Rattle.std.specs.Cmp.{first_so, second_so}
use Rattle.std.specs.FinMap.Entries.{find}
use Rattle.std.specs.Prelude.{option_map}
use Rattle.ssa_model.specs.definitions.Path.{Path, path_cmp, same_path}
use Rattle.ssa_model.specs.definitions.PathMap.{PathMap, get, has, paths, listed, from_entries}
use Rattle.ssa_model.specs.definitions.Kind.{Kind}
use Rattle.ssa_model.specs.definitions.Body.{Body}
use Rattle.ssa_model.specs.definitions.Fitting.{of_kind}
use Rattle.ssa_model.specs.definitions.Lawful.{has_metadata, is_lawful, is_ordered, is_root_kind}
use Rattle.ssa_model.specs.definitions.Record.{BodyRecord}
use Rattle.ssa_model.specs.definitions.Takes.{BodyTakes}
use Rattle.ssa_model.proofs.PathMaps.{get-from_entries, has-paths, same_path-true}
use Rattle.ssa_path.specs.Trie as tries
use Rattle.ssa_path.specs.declared.trie.Trie.{Trie}
use Rattle.ssa_typed.specs.Rows.{body_of}
use Rattle.ssa_typed.specs.declared.node.Node.{Node}
use Rattle.ssa_typed.proofs.Looks.{get-body}
use Rattle.ssa_record.specs.LedValues.{told_leaf, told_part, IsHere, IsToldFor}
use Rattle.ssa_record.specs.Places.{maps_told, IsTouchedBelow, ToldMaps}
use Rattle.ssa_told.specs.Told.{told_of}
use Rattle.ssa_record.proofs.Touched.{all-touched}
use Rattle.ssa_model.proofs.Lists.{has-listed}

-- what is found of entries that are told by a function of their paths
find-told : {X Y : Type 0} (f : Path → X → Y) (es : List (Path × X)) (p : Path)
    → find path_cmp p (map (λ e. (e.0, f e.0 e.1)) es) ≡ option_map (f p) (find path_cmp p es)
find-told f [] p = refl
find-told f (e ∷ es) p =
    elim (same_path p e.0) as (λ t. same_path p e.0 ≡ t → cond t (Some (f e.0 e.1)) (find path_cmp p (map (λ e. (e.0, f e.0 e.1)) es))
    ≡ option_map (f p) (cond t (Some e.1) (find path_cmp p es))) [
      | true ↦ λ same. ap (λ q. Some (f q e.1)) (sym (same_path-true p e.0 same))
      | false ↦ λ other. find-told f es p
    ] refl

get-told : {X Y : Type 0} (f : Path → X → Y) (m : PathMap X) (p : Path)
    → get (from_entries (map (λ e. (e.0, f e.0 e.1)) m.entries)) p ≡ option_map (f p) (get m p)
get-told f m p = get-from_entries (map (λ e. (e.0, f e.0 e.1)) m.entries) p ∙ find-told f m.entries p

-- what is told of the record of two bodies is told for them
pub told-for : (kind : Kind) (d : BodyRecord) (v w : Body) → is_ordered kind ≡ true → BodyTakes kind d v w → IsToldFor (maps_told (told_of kind d)) kind v w
told-for kind d v w ordered takes =
    let t = told_of kind d in
    record {
      ordered = ordered;
      from = takes.from;
      to = takes.to;
      cut = λ p. has-listed (paths d.cut) p ∙ sym (has-paths d.cut p) ∙ ap (λ (x : BodyRecord). has x.cut p) takes.is;
      leaves = λ p. get-told (λ q c. told_leaf c) d.leaves p ∙ ap (λ (x : BodyRecord). option_map told_leaf (get x.leaves p)) takes.is;
      order = λ p. get-from_entries d.order.entries p ∙ ap (λ (x : BodyRecord). get x.order p) takes.is;
      put = λ p. get-told (told_part kind) d.put p ∙ ap (λ (x : BodyRecord). option_map (told_part kind p) (get x.put p)) takes.is;
      touched = all-touched t;
    }

-- at the root stands the whole body
pub root-here : (kind : Kind) (d : BodyRecord) (v w : Body) (n : Node) → BodyTakes kind d v w → body_of n ≡ v → IsHere kind v w [] (of_kind kind) n
root-here kind d v w n takes is = record {
  tells = λ r. ap (λ b. get b r) (sym is) ∙ get-body n r;
  there = takes.to.root;
  place = refl;
}

-- at the root all that is touched is what the trie has
pub root-touched : (m : ToldMaps) (t : Trie) → tries.is_trie t ≡ true → listed (tries.paths t) ≡ m.touched → IsTouchedBelow m [] t
root-touched m t trie same = (trie, λ r. sym (has-listed (tries.paths t) r) ∙ ap (λ s. has s r) same)

-- the fields of a kind that is a schema's rise
pub lawful-ordered : (kind : Kind) → is_lawful kind ≡ true → is_ordered kind ≡ true
lawful-ordered kind lawful = first_so (is_ordered kind) (has_metadata kind) (second_so (is_root_kind kind) (is_ordered kind && has_metadata kind) lawful)
