-- Where the contents come from that a fitting record leads to: from the body, from what is put, or nowhere.
use Rattle.std.proofs.Common.{◌≡◌, inl, inr, List, [], ◌∷◌, ◌++◌, true, false, cond, not, Option, Some, None, refl, sym, ap, ◌∙◌}
use Rattle.std.proofs.lemmas.Option.{none-some, same_Some}
use Rattle.std.specs.Cmp.{first_so}
use Rattle.std.specs.FinMap.Entries.{find}
use Rattle.std.specs.Prelude.{is_some, if◌then◌else◌}
use Rattle.ssa_model.specs.definitions.Path.{Path, path_cmp, same_path, under, parent, rest_of}
use Rattle.ssa_model.specs.definitions.PathMap.{get, has, has_at_or_above}
use Rattle.ssa_model.specs.definitions.Kind.{Kind}
use Rattle.ssa_model.specs.definitions.Body.{Content, Body}
use Rattle.ssa_model.specs.definitions.Fitting.{IsBodyOf}
use Rattle.ssa_model.specs.definitions.Record.{Part, BodyRecord}
use Rattle.ssa_model.specs.definitions.Carry.{put_content, carried_content, kept_content, or_kept, carry_body}
use Rattle.ssa_model.specs.laws.FittingRecords.{BodyFits}
use Rattle.ssa_model.proofs.PathMaps.{same_path-true, same_path-itself}
use Rattle.ssa_model.proofs.Pruned.{under-append, closed-above}
use Rattle.ssa_model.proofs.Basics.{yes_no}
use Rattle.ssa_model.proofs.Tests.{by_test}
use Rattle.ssa_model.proofs.Beginnings.{rest_of-is, rest_of-append}
use Rattle.ssa_model.proofs.PutParts.{first_put, put_missed}
use Rattle.ssa_model.proofs.RecordSizes.{begins_parent}
use Rattle.ssa_model.proofs.BodyLeads.{carry_answers}

-- ---- the entry that puts something at a path

record IsPutAbove (es : List (Path × Part)) (q : Path) (o : Option Content) : Type 0 where
  at : Path
  rest : Path
  part : Part
  found : find path_cmp at es ≡ Some part
  follows : rest_of at q ≡ Some rest
  says : get part.below rest ≡ o

put_found : (es : List (Path × Part)) (q : Path) (o : Option Content) → put_content es q ≡ Some o → IsPutAbove es q o
put_found [] q o h = absurd (none-some o h)
put_found (e ∷ es) q o h =
    elim (rest_of e.0 q) as (λ r. rest_of e.0 q ≡ r → first_put r e.1 (put_content es q) ≡ Some o → IsPutAbove (e ∷ es) q o) [
      | Some r ↦ λ is k. record {
        at = e.0;
        rest = r;
        part = e.1;
        found = ap (λ b. cond b (Some e.1) (find path_cmp e.0 es)) (same_path-itself e.0);
        follows = is;
        says = same_Some (get e.1.below r) o k;
      }
      | None ↦ λ is k.
          let a = put_found es q o k in
          let off : same_path a.at e.0 ≡ false =
          by_test (same_path a.at e.0) (λ t. absurd (none-some a.rest (sym is ∙ ap (λ p. rest_of p q) (sym (same_path-true a.at e.0 t)) ∙ a.follows)))
          (λ f. f) in
          record {
            at = a.at;
            rest = a.rest;
            part = a.part;
            found = ap (λ b. cond b (Some e.1) (find path_cmp a.at es)) off
                ∙ a.found;
            follows = a.follows;
            says = a.says;
          }
    ] refl h

-- what stands at a path in the body that a record leads to
pub data Source (d : BodyRecord) (v w : Body) (q : Path) : Type 0 where
  -- the body's content, carried
  stayed : (c : Content) → get v q ≡ Some c → has_at_or_above d.cut q ≡ false → get w q ≡ Some (carried_content d q c) → Source d v w q
  -- what is put
  came : (g r : Path) (x : Part) → get d.put g ≡ Some x → g ++ r ≡ q → get w q ≡ get x.below r → Source d v w q
  -- nothing
  away : get w q ≡ None → Source d v w q

module _ (kind : Kind) (d : BodyRecord) (v : Body) (a : IsBodyOf kind v) (f : BodyFits kind d v) where
  abbrev w : Body
  w = carry_body d v

  follows-under : (g q r : Path) → rest_of g q ≡ Some r → under g q ≡ true
  follows-under g q r h = ap (under g) (sym (rest_of-is g q r h)) ∙ under-append g r

  -- the body has the parent of what is put, and nothing at or above it is cut
  pub parent_there : (g : Path) (x : Part) → get d.put g ≡ Some x → has v (parent g) ≡ true
  parent_there g x found = first_so (has v (parent g)) (not (has_at_or_above d.cut (parent g))) (f.put g x found).top

  -- nothing is put at a path of the body
  pub unput : (q : Path) → has v q ≡ true → put_content d.put.entries q ≡ None
  unput q there =
      elim (put_content d.put.entries q) as (λ o. put_content d.put.entries q ≡ o → o ≡ None) [
        | None ↦ λ is. refl
        | Some o ↦ λ is.
            let x = put_found d.put.entries q o is in
            yes_no (has v x.at) (closed-above v a.closed x.at q there (follows-under x.at q x.rest x.follows)) (f.put x.at x.part x.found).absent
      ] refl

  -- of what is put, one part alone is at or above a path
  one_put : (g h q : Path) (x y : Part) → get d.put g ≡ Some x → get d.put h ≡ Some y → under g q ≡ true → under h q ≡ true → g ≡ h
  one_put g h q x y found_g found_h above_g above_h =
      elim (begins_parent g h q above_g above_h) [
        | inl same ↦ same
        | inr z ↦ elim z [
          | inl u ↦ yes_no (has v g) (closed-above v a.closed g (parent h) (parent_there h y found_h) u) (f.put g x found_g).absent
          | inr u ↦ yes_no (has v h) (closed-above v a.closed h (parent g) (parent_there g x found_g) u) (f.put h y found_h).absent
        ]
      ]

  put_here : (g r : Path) (x : Part) → get d.put g ≡ Some x → put_content d.put.entries (g ++ r) ≡ Some (get x.below r)
  put_here g r x found =
      elim (put_content d.put.entries (g ++ r)) as (λ o. put_content d.put.entries (g ++ r) ≡ o → o ≡ Some (get x.below r)) [
        | None ↦ λ is. absurd (put_missed d.put.entries g x (g ++ r) r found (rest_of-append g r) is)
        | Some o ↦ λ is.
            let y = put_found d.put.entries (g ++ r) o is in
            let same : y.at ≡ g = one_put y.at g (g ++ r) y.part x y.found found (follows-under y.at (g ++ r) y.rest y.follows) (under-append g r) in
            let part : y.part ≡ x = same_Some y.part x (sym y.found ∙ ap (get d.put) same ∙ found) in
            let rest : y.rest ≡ r = same_Some y.rest r (sym y.follows ∙ ap (λ s. rest_of s (g ++ r)) same ∙ rest_of-append g r) in
            ap (λ z. Some z) (sym y.says ∙ (λ i. get (part i).below (rest i)))
      ] refl

  -- at and below what is put stands what is put
  pub at_put : (g r : Path) (x : Part) → get d.put g ≡ Some x → get w (g ++ r) ≡ get x.below r
  at_put g r x found = carry_answers d v (g ++ r) ∙ ap (λ o. or_kept o (kept_content d (g ++ r) (get v (g ++ r)))) (put_here g r x found)

  -- what is not cut is carried
  pub at_stay : (q : Path) (c : Content) → get v q ≡ Some c → has_at_or_above d.cut q ≡ false → get w q ≡ Some (carried_content d q c)
  at_stay q c is uncut =
      carry_answers d v q ∙ (λ i. or_kept (unput q (ap is_some is) i) (kept_content d q (is i)))
      ∙ ap (λ t. if t then None else Some (carried_content d q c)) uncut

  -- at and below what is cut stands nothing
  pub at_cut : (q : Path) → has v q ≡ true → has_at_or_above d.cut q ≡ true → get w q ≡ None
  at_cut q there cut =
      carry_answers d v q ∙ ap (λ o. or_kept o (kept_content d q (get v q))) (unput q there)
      ∙ elim (get v q) as (λ o. kept_content d q o ≡ None) [ None ↦ refl | Some c ↦ ap (λ t. if t then None else Some (carried_content d q c)) cut ]

  at_new : (q : Path) → get v q ≡ None → put_content d.put.entries q ≡ None → get w q ≡ None
  at_new q off none = carry_answers d v q ∙ (λ i. or_kept (none i) (kept_content d q (off i)))

  -- what stands at a path after a fitting record stayed or is put there, or nothing stands there
  pub source : (q : Path) → Source d v w q
  source q =
      elim (get v q) as (λ o. get v q ≡ o → Source d v w q) [
        | Some c ↦ λ is. by_test (has_at_or_above d.cut q) (λ t. away (at_cut q (ap is_some is) t)) (λ k. stayed c is k (at_stay q c is k))
        | None ↦ λ is. elim (put_content d.put.entries q) as (λ o. put_content d.put.entries q ≡ o → Source d v w q) [
          | None ↦ λ none. away (at_new q is none)
          | Some o ↦ λ some.
              let x = put_found d.put.entries q o some in
              came x.at x.rest x.part x.found (rest_of-is x.at q x.rest x.follows)
              (carry_answers d v q ∙ ap (λ z. or_kept z (kept_content d q (get v q))) some ∙ sym x.says)
        ] refl
      ] refl
