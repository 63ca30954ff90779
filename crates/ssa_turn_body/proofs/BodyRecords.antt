-- Steps that say of each path what two bodies say, say the record of the two.
use Rattle.std.proofs.Common.{◌≡◌, ℕ, arith, [], ◌++◌, Bool, true, false, ◌&&◌, cond, Option, Some, None, option_map, refl, sym, ap, ◌∙◌}
use Rattle.std.specs.Prelude.{is_some, if◌then◌else◌}
use Rattle.std.proofs.lemmas.Option.{none-some, same_Some}
use Rattle.ssa_model.specs.definitions.Body.{Body, Content, leaf, atom, record_branch, dict_branch, list_branch}
use Rattle.ssa_model.specs.definitions.Path.{Path}
use Rattle.ssa_model.specs.definitions.PathMap.{get, has}
use Rattle.ssa_model.specs.definitions.Record.{BodyRecord, Part, body_record, is_top, new_leaf, new_order, part_at}
use Rattle.ssa_model.specs.laws.RecordWalks.{AreAlike, class_of}
use Rattle.ssa_model.proofs.PathMaps.{get-from_entries, get-over_paths, same_map}
use Rattle.ssa_model.proofs.PutParts.{get-below}
use Rattle.ssa_typed.specs.Rows.{body_of, is_tree}
use Rattle.ssa_typed.specs.declared.node.Node.{Node}
use Rattle.ssa_turn_body.specs.Marks.{marks}
use Rattle.ssa_turn_body.specs.Records.{body_told, cuts_in, leaves_in, orders_in, parts_in, told_by}
use Rattle.ssa_turn_body.specs.Said.{AreTold, Contents, Said, between, contents, says, shown, stands_in, swapped}
use Rattle.ssa_turn_body.specs.declared.steps.BodySteps.{BodySteps}
use Rattle.ssa_turn_body.proofs.Telling.{marks-tell}

-- ---- what a record says of a path

abbrev said_of : BodyRecord → Path → Said
said_of d q = record { cut = get d.cut q; leaf = get d.leaves q; order = get d.order q; put = option_map shown (get d.put q) }

parts-same : (a b : Option Part) → option_map shown a ≡ option_map shown b → a ≡ b
parts-same None None h = refl
parts-same None (Some y) h = absurd (none-some (shown y) h)
parts-same (Some x) None h = absurd (none-some (shown x) (sym h))
parts-same (Some x) (Some y) h =
    let both : shown x ≡ shown y = same_Some (shown x) (shown y) h in
    let part = same_map x.below y.below (λ q. ap (λ (z : Contents × Option ℕ). z.0 q) both) in
    λ i. Some (record { below = part i; place = ap (λ (z : Contents × Option ℕ). z.1) both i })

records-same : (d e : BodyRecord) → ((q : Path) → said_of d q ≡ said_of e q) → d ≡ e
records-same d e h =
    let cut = same_map d.cut e.cut (λ q. ap (λ (x : Said). x.cut) (h q)) in
    let leaves = same_map d.leaves e.leaves (λ q. ap (λ (x : Said). x.leaf) (h q)) in
    let order = same_map d.order e.order (λ q. ap (λ (x : Said). x.order) (h q)) in
    let put = same_map d.put e.put (λ q. parts-same (get d.put q) (get e.put q) (ap (λ (x : Said). x.put) (h q))) in
    λ i. record { cut = cut i; leaves = leaves i; order = order i; put = put i }

told-says : (s : BodySteps) (q : Path) → said_of (body_told s) q ≡ says s.steps.items q
told-says s q = λ i. record {
  cut = get-from_entries (told_by cuts_in s.steps.items) q i;
  leaf = get-from_entries (told_by leaves_in s.steps.items) q i;
  order = get-from_entries (told_by orders_in s.steps.items) q i;
  put = option_map shown (get-from_entries (told_by parts_in s.steps.items) q i);
}

-- ---- what the record of two bodies says

one-test : {X : Type 0} (a b : Bool) (x : X) → cond a (cond b (Some x) None) None ≡ (if a && b then Some x else None)
one-test true b x = refl
one-test false b x = refl

leaf-is : (a b : Option Content) → ((c e : Content) → a ≡ Some c → b ≡ Some e → class_of c ≡ class_of e) → cond (is_some a) (new_leaf a b) None ≡ swapped a b
leaf-is None b h = refl
leaf-is (Some (leaf s)) None h = refl
leaf-is (Some (atom s)) None h = refl
leaf-is (Some record_branch) None h = refl
leaf-is (Some dict_branch) None h = refl
leaf-is (Some (list_branch es)) None h = refl
leaf-is (Some (leaf s)) (Some (leaf t)) h = refl
leaf-is (Some (leaf s)) (Some (atom t)) h = let e : 0 ≡ 1 = h (leaf s) (atom t) refl refl in absurd (omega (arith, e))
leaf-is (Some (leaf s)) (Some record_branch) h = refl
leaf-is (Some (leaf s)) (Some dict_branch) h = refl
leaf-is (Some (leaf s)) (Some (list_branch es)) h = refl
leaf-is (Some (atom s)) (Some (leaf t)) h = let e : 1 ≡ 0 = h (atom s) (leaf t) refl refl in absurd (omega (arith, e))
leaf-is (Some (atom s)) (Some (atom t)) h = refl
leaf-is (Some (atom s)) (Some record_branch) h = refl
leaf-is (Some (atom s)) (Some dict_branch) h = refl
leaf-is (Some (atom s)) (Some (list_branch es)) h = refl
leaf-is (Some record_branch) (Some d) h = refl
leaf-is (Some dict_branch) (Some d) h = refl
leaf-is (Some (list_branch es)) (Some d) h = refl

order-is : (a b : Option Content) → cond (is_some a) (new_order a b) None ≡ new_order a b
order-is None b = refl
order-is (Some c) b = refl

put-shown : (a b : Bool) (w : Body) (q : Path)
    → option_map shown (cond a (if b then Some (part_at w q) else None) None) ≡ (if a && b then Some (λ r. get w (q ++ r), stands_in (get w) q) else None)
put-shown true true w q = λ i. Some (λ r. get-below w q r i, stands_in (get w) q)
put-shown true false w q = refl
put-shown false b w q = refl

record-says : (v w : Body) → AreAlike v w → (q : Path) → said_of (body_record v w) q ≡ between (get v) (get w) q
record-says v w alike q =
    let cut = get-over_paths v (λ p. cond (is_top w p) (Some tt) None) q ∙ one-test (has v q) (is_top w q) tt in
    let leaf = get-over_paths v (λ p. new_leaf (get v p) (get w p)) q ∙ leaf-is (get v q) (get w q) (alike q) in
    let order = get-over_paths v (λ p. new_order (get v p) (get w p)) q ∙ order-is (get v q) (get w q) in
    let put = ap (option_map shown) (get-over_paths w (λ p. if is_top v p then Some (part_at w p) else None) q) ∙ put-shown (has w q) (is_top v q) w q in
    λ i. record { cut = cut i; leaf = leaf i; order = order i; put = put i }

-- steps that say of each path what two bodies say
pub told-bodies : (s : BodySteps) (v w : Body) → AreAlike v w → ((q : Path) → says s.steps.items q ≡ between (get v) (get w) q) → body_told s ≡ body_record v w
told-bodies s v w alike same = records-same (body_told s) (body_record v w) (λ q. told-says s q ∙ same q ∙ sym (record-says v w alike q))

-- changes that say what is other between two alike trees say the record of their bodies
pub told-record : (v w : Node) (s : BodySteps) → is_tree v ≡ true → is_tree w ≡ true → AreAlike (body_of v) (body_of w)
    → AreTold [] (contents (marks v)) (contents (marks w)) s.steps.items → body_told s ≡ body_record (body_of v) (body_of w)
told-record v w s tree_v tree_w alike told = told-bodies s (body_of v) (body_of w) alike (λ q.
    told.inside q
    ∙ (λ i. between (λ p. sym (marks-tell v p tree_v) i) (λ p. sym (marks-tell w p tree_w) i) q))
