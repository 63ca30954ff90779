-- Copies of changes, one after the other: they say one record, and serve wherever the changes do.
use Rattle.std.proofs.Common.{◌≡◌, ◌^◌, List, [], ◌∷◌, ◌++◌, map, length, reverse, refl, sym, ap, subst, ◌∙◌}
use Rattle.std.proofs.lemmas.List.{length-map, reverse-reverse}
use Rattle.std.specs.List.{AllZip}
use Rattle.ssa_model.specs.definitions.Body.{Body}
use Rattle.ssa_model.specs.definitions.Carry.{carry_body}
use Rattle.ssa_model.specs.definitions.Path.{Path}
use Rattle.ssa_model.specs.definitions.PathMap.{from_entries}
use Rattle.ssa_path.specs.View.{path_view}
use Rattle.ssa_typed.proofs.Copying.{kept-same}
use Rattle.ssa_typed.specs.declared.node.Node.{Node}
use Rattle.ssa_turn_body.specs.Bodies.{IsBodyTurned}
use Rattle.ssa_turn_body.specs.Changes.{change_steps}
use Rattle.ssa_turn_body.specs.Copies.{ChangeIsCopied, EditIsCopied, StepIsCopied}
use Rattle.ssa_turn_body.specs.Found.{AreBelow}
use Rattle.ssa_turn_body.specs.Records.{at_place, body_told, told_by}
use Rattle.ssa_turn_body.specs.Rooms.{AreRecorded, HasBodyRoom}
use Rattle.ssa_turn_body.specs.Steps.{StepsFit, StepsLead, step_says}
use Rattle.ssa_turn_body.specs.Writable.{AreWritable, IsWritable, IsWritableEdit}
use Rattle.ssa_turn_body.specs.declared.change.PlaceChange.{PlaceChange}
use Rattle.ssa_turn_body.specs.declared.change.PlaceChange.TheVariants.{Leaf, Children}
use Rattle.ssa_turn_body.specs.declared.children.ChildrenEdit.{ChildrenEdit}
use Rattle.ssa_turn_body.specs.declared.steps.BodySteps.{BodySteps}
use Rattle.ssa_turn_body.specs.declared.steps.Step.{Step}
use Rattle.ssa_turn_body.proofs.Copied.{placed_as, say-same, copy-fits, copy-leads}
use Rattle.ssa_turn_body.proofs.HeldTrees.{AllHoldTrees, left-hold, reverse-hold, same-told}
use Rattle.ssa_turn_body.proofs.LeanSteps.{copies-lean}
use Rattle.ssa_turn_body.proofs.OnceOnly.{once-copied}
use Rattle.ssa_turn_body.proofs.Returning.{says-reverse}

-- ---- what they say

told-copied : {X : Type 0} (f : PlaceChange → List (Path × X)) → ((x y : PlaceChange) → ChangeIsCopied x y → f y ≡ f x)
    → (ss cs : List Step) → AllZip StepIsCopied ss cs → told_by f cs ≡ told_by f ss
told-copied f same [] [] z = refl
told-copied f same [] (c ∷ cs) z = absurd z
told-copied f same (s ∷ ss) [] z = absurd z
told-copied f same (s ∷ ss) (c ∷ cs) z = λ i. at_place (z.0.path i) (same s.change c.change z.0.change i) ++ told-copied f same ss cs z.1 i

-- copies of changes say the same record
pub body-copied : (s c : BodySteps) → AllZip StepIsCopied s.steps.items c.steps.items → body_told c ≡ body_told s
body-copied s c z = λ i. record {
  cut = from_entries (told-copied _ (λ x y copy. (say-same x y copy).cut) s.steps.items c.steps.items z i);
  leaves = from_entries (told-copied _ (λ x y copy. (say-same x y copy).leaf) s.steps.items c.steps.items z i);
  order = from_entries (told-copied _ (λ x y copy. (say-same x y copy).order) s.steps.items c.steps.items z i);
  put = from_entries (told-copied _ (λ x y copy. (say-same x y copy).put) s.steps.items c.steps.items z i);
}

-- ---- where they lead

copies-fit : (ss cs : List Step) (v : Node) → AllZip StepIsCopied ss cs → StepsFit ss v → StepsFit cs v
copies-fit [] [] v z h = tt
copies-fit [] (c ∷ cs) v z h = absurd z
copies-fit (s ∷ ss) [] v z h = absurd z
copies-fit (s ∷ ss) (c ∷ cs) v z h = (
  copy-fits s c v z.0 h.0,
  λ t w l. copies-fit ss cs w z.1 (h.1 (placed_as s t) w (copy-leads s c t v w z.0 h.0 l)),
)

-- the changes at the paths of the first ones
abbrev all_placed_as : List Step → List Step → List Step
all_placed_as [] ts = []
all_placed_as (s ∷ ss) [] = []
all_placed_as (s ∷ ss) (t ∷ ts) = placed_as s t ∷ all_placed_as ss ts

copies-lead : (ss cs : List Step) (v : Node) (ts : List Step) (w : Node) → AllZip StepIsCopied ss cs → StepsFit ss v → StepsLead cs v ts w
    → StepsLead ss v (all_placed_as ss ts) w
copies-lead [] [] v [] w z h l = l
copies-lead [] [] v (t ∷ ts) w z h l = absurd l
copies-lead [] (c ∷ cs) v ts w z h l = absurd z
copies-lead (s ∷ ss) [] v ts w z h l = absurd z
copies-lead (s ∷ ss) (c ∷ cs) v [] w z h l = absurd l
copies-lead (s ∷ ss) (c ∷ cs) v (t ∷ ts) w z h l =
    let first = copy-leads s c t v l.0 z.0 h.0 l.1 in (
      l.0,
      first,
      copies-lead ss cs l.0 ts w z.1 (h.1 (placed_as s t) l.0 first) l.2,
    )

placed-say : (ss cs : List Step) (v : Node) (ts : List Step) (w : Node) → AllZip StepIsCopied ss cs → StepsLead cs v ts w
    → map step_says (all_placed_as ss ts) ≡ map step_says ts
placed-say [] [] v [] w z l = refl
placed-say [] [] v (t ∷ ts) w z l = absurd l
placed-say [] (c ∷ cs) v ts w z l = absurd z
placed-say (s ∷ ss) [] v ts w z l = absurd z
placed-say (s ∷ ss) (c ∷ cs) v [] w z l = absurd l
placed-say (s ∷ ss) (c ∷ cs) v (t ∷ ts) w z l =
    let path : path_view s.path.items ≡ path_view t.path.items = sym (ap path_view l.1.path ∙ z.0.path) in
    λ i. (path i, change_steps t.change) ∷ placed-say ss cs l.0 ts w z.1 l.2 i

-- ---- whether they can be written

edit-writable : (s c : ChildrenEdit) → EditIsCopied s c → IsWritableEdit s → IsWritableEdit c
edit-writable s c copy h = record {
  trees = (kept-same c.held.items s.held.items copy.held).trees_same ∙ h.trees;
  each =
      let long : length c.held.items ≡ length s.held.items = sym (length-map c.held.items _) ∙ ap length copy.held ∙ length-map s.held.items _ in
      long ∙ h.each ∙ ap length (sym copy.come);
  small = subst (AreBelow (2 ^ 63)) (sym copy.come) h.small;
}

copy-writable : (x y : PlaceChange) → ChangeIsCopied x y → IsWritable x → IsWritable y
copy-writable (Leaf s) (Leaf c) copy h = tt
copy-writable (Leaf s) (Children c) copy h = absurd copy
copy-writable (Children s) (Leaf c) copy h = absurd copy
copy-writable (Children s) (Children c) copy h = edit-writable s.value c.value copy h

copies-writable : (ss cs : List Step) → AllZip StepIsCopied ss cs → AreWritable ss → AreWritable cs
copies-writable [] [] z h = tt
copies-writable [] (c ∷ cs) z h = absurd z
copies-writable (s ∷ ss) [] z h = absurd z
copies-writable (s ∷ ss) (c ∷ cs) z h = (copy-writable s.change c.change z.0.change h.0, copies-writable ss cs z.1 h.1)

-- ---- of a body

module _ (s c : BodySteps) (z : AllZip StepIsCopied s.steps.items c.steps.items) (b : Body)
    (room : HasBodyRoom s b) (t : BodySteps) (d : Body) (turned : IsBodyTurned c b t d) where
  abbrev back : List Step
  back = reverse t.steps.items

  abbrev own : List Step
  own = all_placed_as s.steps.items back

  fits : StepsFit s.steps.items turned.before
  fits = room.fits turned.before turned.tree_before turned.body_before

  led : StepsLead s.steps.items turned.before own turned.after
  led = copies-lead s.steps.items c.steps.items turned.before back turned.after z fits turned.turned

  own-says : map step_says (reverse own) ≡ map step_says t.steps.items
  own-says =
      says-reverse own ∙ ap reverse (placed-say s.steps.items c.steps.items turned.before back turned.after z turned.turned)
      ∙ sym (says-reverse back) ∙ ap (map step_says) (reverse-reverse t.steps.items)

  own-length : length t.steps.items ≡ length (reverse own)
  own-length = sym (length-map t.steps.items step_says) ∙ ap length (sym own-says) ∙ length-map (reverse own) step_says

  -- what the turn of the first ones leaves
  abbrev left_own : BodySteps
  left_own = record {
    steps = record {
      ptr = t.steps.ptr;
      len = t.steps.len;
      cap = t.steps.cap;
      alloc = t.steps.alloc;
      items = reverse own;
      ok = (t.steps.ok.0 ∙ own-length, t.steps.ok.1);
      small = t.steps.small;
    };
  }

  own-turned : IsBodyTurned s b left_own d
  own-turned = record {
    before = turned.before;
    after = turned.after;
    tree_before = turned.tree_before;
    tree_after = turned.tree_after;
    body_before = turned.body_before;
    body_after = turned.body_after;
    turned = subst (λ l. StepsLead s.steps.items turned.before l turned.after) (sym (reverse-reverse own)) led;
  }

  own-told : body_told t ≡ body_told left_own
  own-told =
      same-told t left_own (sym own-says)
      (subst AllHoldTrees (reverse-reverse t.steps.items) (reverse-hold back (left-hold c.steps.items turned.before back turned.after turned.turned)))
      (reverse-hold own (left-hold s.steps.items turned.before own turned.after led))

  turn-recorded : AreRecorded c b t d
  turn-recorded =
      let given = room.turns left_own d own-turned in
      let told = body-copied s c z in
      record {
        alike = given.alike;
        there = told ∙ given.there;
        back = own-told ∙ given.back;
        leads = given.leads ∙ ap (λ r. carry_body r b) (sym told);
      }

-- copies of changes serve each turn that the changes serve
pub room-copied : (s c : BodySteps) → AllZip StepIsCopied s.steps.items c.steps.items → (b : Body) → HasBodyRoom s b → HasBodyRoom c b
room-copied s c z b room = record {
  fits = λ n tree is. copies-fit s.steps.items c.steps.items n z (room.fits n tree is);
  once = once-copied s.steps.items c.steps.items z room.once;
  turns = turn-recorded s c z b room;
  writable = copies-writable s.steps.items c.steps.items z room.writable;
  lean = copies-lean s.steps.items c.steps.items z room.lean;
}
