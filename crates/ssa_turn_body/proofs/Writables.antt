-- Changes that fit can be written, and so can those that they leave.
use Rattle.std.proofs.Common.{ℕ, ◌+◌, ◌^◌, ◌<◌, ◌≤◌, List, [], ◌∷◌, ◌++◌, length, Option, Some, None, reverse, sym, subst, arith, vec_capacity}
use Rattle.std.proofs.lemmas.List.{reverse-append}
use Rattle.ssa_path.specs.View.{path_view}
use Rattle.ssa_typed.specs.Nodes.{node_on}
use Rattle.ssa_typed.specs.declared.node.Node.{Node}
use Rattle.ssa_turn_body.specs.Changes.{ChangeFits}
use Rattle.ssa_turn_body.specs.Descent.{FitsIn}
use Rattle.ssa_turn_body.specs.Edits.{staying}
use Rattle.ssa_turn_body.specs.Found.{AreBelow}
use Rattle.ssa_turn_body.specs.Marks.{Place, seen}
use Rattle.ssa_turn_body.specs.Steps.{StepsFit, StepsLead}
use Rattle.ssa_turn_body.specs.Writable.{AreWritable, IsWritable}
use Rattle.ssa_turn_body.specs.Woven.{ArePlaces, room_for}
use Rattle.ssa_turn_body.specs.declared.change.PlaceChange.{PlaceChange}
use Rattle.ssa_turn_body.specs.declared.change.PlaceChange.TheVariants.{Leaf, Children}
use Rattle.ssa_turn_body.specs.declared.steps.Step.{Step}
use Rattle.ssa_turn_body.proofs.Returning.{step-back}

places-end : (j : ℕ) (ks : List ℕ) (n : ℕ) → ArePlaces j ks n → j ≤ n
places-end j [] n h = h
places-end j (k ∷ ks) n h = let rest = places-end (k + 1) ks n h.1 in let first = h.0 in omega arith

places-below : (j : ℕ) (ks : List ℕ) (n m : ℕ) → ArePlaces j ks n → n < m → AreBelow m ks
places-below j [] n m h lt = tt
places-below j (k ∷ ks) n m h lt = let rest = places-end (k + 1) ks n h.1 in (omega arith, places-below (k + 1) ks n m h.1 lt)

-- room for a pass is a small number
places-small : (gs ks : List ℕ) (n c : ℕ) → ArePlaces 0 ks n → room_for gs ks n ≤ c → c < 2 ^ 63 → AreBelow (2 ^ 63) ks
places-small gs [] n c h room small = tt
places-small [] (k ∷ ks) n c h room small = places-below 0 (k ∷ ks) n (2 ^ 63) h (omega arith)
places-small (g ∷ gs) (k ∷ ks) n c h room small = places-below 0 (k ∷ ks) n (2 ^ 63) h (omega arith)

-- a change that fits can be written
pub fit-writable : (x : PlaceChange) (v : Place) → ChangeFits x v → IsWritable x
fit-writable (Leaf s) v h = tt
fit-writable (Children s) v h = record {
  trees = h.trees;
  each = h.held;
  small = places-small s.value.gone.places.items s.value.come.places.items (length s.value.held.items + length (staying s.value v.1)) (vec_capacity s.value.room) h.come h.room s.value.room.small;
}

fit-in : (x : PlaceChange) (o : Option Node) → FitsIn (λ n. ChangeFits x (seen n)) o → IsWritable x
fit-in x None h = absurd h
fit-in x (Some n) h = fit-writable x (seen n) h

-- two lists of changes that can be written can be written together
pub both-writable : (ss ts : List Step) → AreWritable ss → AreWritable ts → AreWritable (ss ++ ts)
both-writable [] ts h g = g
both-writable (s ∷ ss) ts h g = (h.0, both-writable ss ts h.1 g)

-- changes that can be written can be written in the other order
pub reverse-writable : (ss : List Step) → AreWritable ss → AreWritable (reverse ss)
reverse-writable [] h = tt
reverse-writable (s ∷ ss) h =
    subst AreWritable (sym (reverse-append (s ∷ []) ss)) (both-writable (reverse ss) (s ∷ []) (reverse-writable ss h.1) (h.0, tt))

-- what fitting changes leave
pub left-writable : (ss : List Step) (v : Node) (ts : List Step) (w : Node) → StepsFit ss v → StepsLead ss v ts w → AreWritable ts
left-writable [] v [] w h l = tt
left-writable [] v (t ∷ ts) w h l = absurd l
left-writable (s ∷ ss) v [] w h l = absurd l
left-writable (s ∷ ss) v (t ∷ ts) w h l =
    let step = l.1 in
    (fit-in t.change (node_on (path_view t.path.items) l.0) (step-back s t v l.0 h.0 step), left-writable ss l.0 ts w (h.1 t l.0 step) l.2)
