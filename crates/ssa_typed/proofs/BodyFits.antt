-- The body of a fitting value is a body of its kind.
use Rattle.std.proofs.Common.{◌≡◌, [], ◌∷◌, ◌++◌, true, Option, Some, None, refl, sym, ap, subst, ◌∙◌, true≢false}
use Rattle.std.specs.Prelude.{is_some}
use Rattle.ssa_model.specs.definitions.Json.{Text, Scalar, Json}
use Rattle.ssa_model.specs.definitions.Path.{field, key, Path}
use Rattle.ssa_model.specs.definitions.PathMap.{get}
use Rattle.ssa_model.specs.definitions.Kind.{Kind}
use Rattle.ssa_model.specs.definitions.Body.{Content, leaf, places}
use Rattle.ssa_model.specs.definitions.Fitting.{IsBodyOf, scalar_of}
use Rattle.ssa_typed.specs.Rows.{rows, body_of}
use Rattle.ssa_model.specs.laws.Faultless.{Fits}
use Rattle.ssa_typed.specs.Flats.{IsTreeOf}
use Rattle.ssa_typed.specs.declared.node.Node.{Node}
use Rattle.ssa_typed.proofs.AnyTree.{tree-root, tree-closed, tree-once, tree-items}
use Rattle.ssa_typed.proofs.KindRows.{IsKindRow, AllKindRows, last_keys, last_keys-push, value_rows}
use Rattle.ssa_typed.proofs.Looks.{get-body}
use Rattle.ssa_typed.proofs.TreeRows.{each-row, row-of, row-found}
use Rattle.ssa_typed.proofs.Trees.{rows_at-none}

-- the rows of the tree are the places of the value
pub value-of-tree : (k : Kind) (v : Json) (n : Node) → IsTreeOf k v n → rows n ≡ places k v []
value-of-tree k v n made = sym (rows_at-none (rows n)) ∙ made.placed []

module _ (k : Kind) (v : Json) (n : Node) (fit : Fits k v) (made : IsTreeOf k v n) where
  all-rows : AllKindRows k (rows n) (rows n)
  all-rows = subst (λ rs. AllKindRows k rs rs) (sym (value-of-tree k v n made)) (value_rows k (places k v []) k v [] refl refl fit (λ r h. h))

  one-row : (p : Path) (c : Content) → get (body_of n) p ≡ Some c → IsKindRow k (rows n) (p, c)
  one-row p c is = each-row (IsKindRow k (rows n)) (rows n) (p, c) all-rows (row-of (rows n) p c (sym (get-body n p) ∙ is))

  key-there : (p : Path) (m : Text) (s : Scalar) (o : Option Content) → get (body_of n) p ≡ o → is_some o ≡ true → scalar_of m (last_keys p) ≡ Some s
      → get (body_of n) (p ++ field m ∷ []) ≡ Some (leaf s)
  key-there p m s None is there found = absurd (true≢false (sym there))
  key-there p m s (Some c) is there found = get-body n (p ++ field m ∷ [])
      ∙ row-found (p ++ field m ∷ []) (leaf s) n made.tree ((one-row p c is).keys m s found)

  -- the body of the tree of a fitting value is a body of its kind
  pub body-fits : IsBodyOf k (body_of n)
  body-fits = record {
    root = tree-root n;
    closed = tree-closed n made.tree;
    fits = λ p c is. (one-row p c is).at;
    once = tree-once n made.tree;
    keys = λ p ks m s found there. key-there (p ++ key ks ∷ []) m s (get (body_of n) (p ++ key ks ∷ [])) refl there
        (ap (scalar_of m) (last_keys-push p (key ks)) ∙ found);
    items = tree-items n made.tree;
  }
