-- What is inserted at rising places among what stays makes the list.
use Rattle.std.proofs.Common.{ℕ, zero, suc, ◌≡◌, ◌+◌, ◌≤◌, List, [], ◌∷◌, ◌++◌, length, map, Bool, cond, not, Option, Some, None, refl, ap, sym, ◌∙◌, append_assoc, length-append, arith}
use Rattle.std.proofs.Math.Bool.{not-not}
use Rattle.std.proofs.lemmas.Option.{none-some}
use Rattle.std.specs.List.{insert}
use Rattle.std.specs.Prelude.{filter, filter_map, is_some, if◌then◌else◌}
use Rattle.ssa_model.specs.definitions.Path.{same_element}
use Rattle.ssa_model.specs.definitions.PathMap.{get, has}
use Rattle.ssa_model.specs.definitions.Kind.{is_among}
use Rattle.ssa_model.specs.definitions.Body.{list_branch}
use Rattle.ssa_model.specs.definitions.Table.{is_in_table}
use Rattle.ssa_model.specs.definitions.Record.{are_in_one_order, new_order, new_orders, new_in, common, puts, cuts}
use Rattle.ssa_model.specs.definitions.Carry.{placed_at, end_of, place_in, put_item}
use Rattle.ssa_model.specs.laws.InPlace.{inserted, TableIsInserted, ItemsAreInserted}
use Rattle.ssa_model.proofs.Fitting.{same_element-true}
use Rattle.ssa_model.proofs.PathMaps.{get-over_paths}
use Rattle.ssa_model.proofs.Tests.{by_test, pointwise-true}
use Rattle.ssa_model.proofs.FilledLists.{Gives, all_stay, placed_gives, placed_end}
use Rattle.ssa_model.proofs.TableLeads.{stay-are}
use Rattle.ssa_model.proofs.PutItems.{filter-members, item_end, gives, stays}
use Rattle.ssa_model.proofs.BodyLeads.{bodies_are_trees}

module _ {X : Type 0} where
  -- what is inserted into two lists in a row at the length of the first stands between the two
  pub insert_at : (xs ys : List X) (n : ℕ) (y : X) → length xs ≡ n → insert (xs ++ ys) n y ≡ (xs ++ (y ∷ [])) ++ ys
  insert_at [] ys zero y e = refl
  insert_at [] ys (suc n) y e = absurd (omega arith)
  insert_at (x ∷ xs) ys zero y e = absurd (omega arith)
  insert_at (x ∷ xs) ys (suc n) y e = ap (λ zs. x ∷ zs) (insert_at xs ys n y (omega arith))

  inserted_none : (at : ℕ → Option X) (i n : ℕ) (xs : List X) → ((j : ℕ) → i ≤ j → at j ≡ None) → inserted at i n xs ≡ xs
  inserted_none at i zero xs none = refl
  inserted_none at i (suc n) xs none =
      ap (λ o. inserted at (i + 1) n (elim o [ None ↦ xs | Some y ↦ insert xs i y ])) (none i (omega arith))
      ∙ inserted_none at (i + 1) n xs (λ j h. none j (omega arith))

  -- inserting the others at their places among what stays, behind a beginning, makes the list
  pub inserted_is : (at : ℕ → Option X) (stays : X → Bool) (i n : ℕ) (before ys : List X) → length before ≡ i → Gives at stays i ys
      → ((j : ℕ) → i + n ≤ j → at j ≡ None)
      → inserted at i n (before ++ filter stays ys) ≡ before ++ ys
  inserted_is at stays i zero before ys e g none = ap (λ zs. before ++ zs) (all_stay at stays i ys (λ j h. none j (omega arith)) g)
  inserted_is at stays i (suc n) before [] e g none = inserted_none at i (suc n) (before ++ []) g
  inserted_is at stays i (suc n) before (y ∷ ys) e g none =
      let more : length (before ++ y ∷ []) ≡ i + 1 = length-append before (y ∷ []) ∙ ap (λ m. m + 1) e in
      let later = inserted_is at stays (i + 1) n (before ++ y ∷ []) ys more g.1 (λ j h. none j (omega arith)) ∙ append_assoc before (y ∷ []) ys in
      by_test (stays y)
      (λ t.
      (λ k. inserted at (i + 1) n (elim ((g.0 ∙ ap (λ b. if b then None else Some y) t) k) [
        | None ↦ before ++ cond (t k) (y ∷ filter stays ys) (filter stays ys)
        | Some z ↦ insert
            (before ++ cond (t k) (y ∷ filter stays ys) (filter stays ys)) i z
      ]))
      ∙ ap (inserted at (i + 1) n) (sym (append_assoc before (y ∷ []) (filter stays ys))) ∙ later)
      (λ f.
      (λ k. inserted at (i + 1) n (elim ((g.0 ∙ ap (λ b. if b then None else Some y) f) k) [
        | None ↦ before ++ cond (f k) (y ∷ filter stays ys) (filter stays ys)
        | Some z ↦ insert
            (before ++ cond (f k) (y ∷ filter stays ys) (filter stays ys)) i z
      ]))
      ∙ ap (inserted at (i + 1) n) (insert_at before (filter stays ys) i y e) ∙ later)

-- a table without those gone, and changed, becomes the second one by inserting those who are here
pub table_is_inserted : TableIsInserted
table_is_inserted t u a b k =
    let here = new_in t u in
    ap (inserted (placed_at here) 0 (end_of (map (λ e. e.0) here))) (stay-are t u a b k ∙ (λ i. filter (λ e. sym (not-not (is_in_table t e.manager)) i) u))
    ∙ inserted_is (placed_at here) (λ e. not (not (is_in_table t e.manager))) 0 (end_of (map (λ e. e.0) here)) [] u refl
    (placed_gives (placed_at here) (λ e. not (is_in_table t e.manager)) 0 u (λ j h. refl))
    (λ j h. placed_end here j (omega arith))

-- a list without what is cut becomes the second body's by inserting what is put, where the record has no order for it
pub items_are_inserted : ItemsAreInserted
items_are_inserted kind v w p es fs a b is_v is_w none =
    let trees = bodies_are_trees kind v w a b in
    let at = put_item (puts v w).entries p in
    let end = end_of (filter_map (place_in p) (puts v w).entries) in
    let order : get (new_orders v w) p ≡ new_order (Some (list_branch es)) (Some (list_branch fs)) =
    get-over_paths v (λ q. new_order (get v q) (get w q)) p ∙ (λ i. cond (is_some (is_v i)) (new_order (is_v i) (is_w i)) None) in
    let alike : common es fs ≡ common fs es =
    by_test (are_in_one_order es fs)
    (λ t. pointwise-true same_element same_element-true (common es fs) (common fs es) t)
    (λ f. absurd (none-some fs (sym none ∙ order ∙ ap (λ c. if not c then Some fs else None) f))) in
    ap (inserted at 0 end) (filter-members (λ e. not (has (cuts v w) (p ++ e ∷ []))) (λ e. is_among e fs) es (stays v w trees.0 trees.1 p es fs is_v is_w)
    ∙ alike)
    ∙ inserted_is at (λ e. is_among e es) 0 end [] fs refl (gives v w trees.0 trees.1 p es fs is_v is_w 0 [] fs refl refl)
    (λ j h. item_end (puts v w).entries p j (omega arith))
