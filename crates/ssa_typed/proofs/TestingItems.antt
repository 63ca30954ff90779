-- Items of map lists that are tested while they are made children.
use Rattle.std.proofs.Common.{◌≡◌, ℕ, ◌+◌, length, List, [], ◌∷◌, ◌++◌, Bool, Option, None, Some, refl, sym, ap, ◌∙◌, subst, append-nil, arith, true≢false, is_some}
use Rattle.std.specs.Prelude.{option_map, if◌then◌else◌}
use Rattle.ssa_model.specs.definitions.Json.{Text, Json, scalar, list, object, Items, item, Members}
use Rattle.ssa_model.specs.definitions.Path.{Element, Path, same_element}
use Rattle.ssa_model.specs.definitions.Kind.{Fields, FaultAt, duplicate_item, fault_at, field_faults, is_among, item_faults, item_key, key_faults, or_else}
use Rattle.ssa_model.specs.definitions.Body.{field_places, item_places, key_order, record_branch}
use Rattle.ssa_json.specs.declared.value.Json as json
use Rattle.ssa_json.specs.View.{view, items_view}
use Rattle.ssa_schema.specs.Refusals.{first_of}
use Rattle.ssa_schema.specs.Finds.{Breaks, Finds, keyed_faults, misfit_view, told}
use Rattle.ssa_schema.specs.Repeats.{is_other, leading_keys, repeat_from}
use Rattle.ssa_schema.specs.declared.fit.found.Found.{Found}
use Rattle.ssa_schema.specs.declared.fit.found.Misfit.{Misfit}
use Rattle.ssa_schema.proofs.Finding.{breaks_here, finds_from, finds_first, none_first}
use Rattle.ssa_schema.proofs.ItemWalk.{kept-new, keyed_split, keys_right}
use Rattle.ssa_schema.proofs.Leading.{lead-first, other-test, repeat-next}
use Rattle.ssa_typed.specs.Flats.{rows_at, AreListed, IsItem}
use Rattle.ssa_typed.specs.Rows.{rows_below}
use Rattle.ssa_path.specs.Children.{elements}
use Rattle.ssa_typed.specs.Tested.{own_item_faults, IsTested}
use Rattle.ssa_typed.specs.declared.tested.Tested.TheVariants.{Fits}
use Rattle.ssa_typed.proofs.Building.{Child, IsListing, listing-none, listing-step}

-- ---- one item

keys-first : (xs ys : List FaultAt) (f : FaultAt) → Some f ≡ first_of xs → Some f ≡ first_of (or_else xs ys)
keys-first [] ys f e = absurd (true≢false (ap is_some e))
keys-first (x ∷ xs) ys f e = e

-- an object whose keys are wrong has their fault first
pub keys-wrong : (is_new : Bool) (ns : List Text) (fs : Fields) (v : Json) (ms : Members) (m : Misfit) (here : Found) → v ≡ object ms
    → Breaks (Some m) (key_faults ns fs ms) → here.misfit ≡ m → here.path.items ≡ [] → Finds (Some here) (own_item_faults is_new ns fs v)
keys-wrong is_new ns fs v ms m here is wrong misfit path =
    subst (λ w. Finds (Some here) (own_item_faults is_new ns fs w)) (sym is)
    (breaks_here here m (own_item_faults is_new ns fs (object ms)) misfit path
    (λ p. keys-first (key_faults ns fs ms p) (keyed_faults is_new ns fs ms p) (fault_at (misfit_view m) p) (wrong p)))

-- an object whose keys are right has the faults behind them
pub keyed-from : (is_new b : Bool) (ns : List Text) (fs : Fields) (v : Json) (ms : Members) (o : Option Found) → v ≡ object ms
    → ((p : Path) → None ≡ first_of (key_faults ns fs ms p)) → is_new ≡ b → Finds o (keyed_faults b ns fs ms) → Finds o (own_item_faults is_new ns fs v)
keyed-from is_new b ns fs v ms o is right new =
    finds_from o (own_item_faults is_new ns fs v) (keyed_faults b ns fs ms)
    (λ p. ap first_of (ap (λ w. own_item_faults is_new ns fs w p) is ∙ keys_right (key_faults ns fs ms p) (keyed_faults is_new ns fs ms p) (right p)
    ∙ ap (λ n. keyed_faults n ns fs ms p) new))

-- ---- an item in front of others

-- what repeats is looked for from the key of an object that has it
key-known : (ns : List Text) (fs : Fields) (before : List Element) (ms : Members) (rest : Items) (i : ℕ) (found : Option ℕ) (p : Path)
    → None ≡ first_of (key_faults ns fs ms p) → repeat_from same_element i before (leading_keys ns (item (object ms) rest)) ≡ found
    → repeat_from same_element i before (item_key ns ms ∷ leading_keys ns rest) ≡ found
key-known ns fs before ms rest i found p right known = ap (repeat_from same_element i before) (sym (lead-first ns fs ms rest p right)) ∙ known

-- an object has its own faults, and then come those behind it
object-split : (ns : List Text) (fs : Fields) (before : List Element) (ms : Members) (rest : Items) (i : ℕ) (found : Option ℕ) (is_new : Bool)
    → repeat_from same_element i before (leading_keys ns (item (object ms) rest)) ≡ found → is_new ≡ is_other found i → (p : Path)
    → first_of (item_faults ns fs before (item (object ms) rest) p)
    ≡ first_of (own_item_faults is_new ns fs (object ms) p ++ item_faults ns fs (item_key ns ms ∷ before) rest p)
object-split ns fs before ms rest i found is_new known test p = by (key_faults ns fs ms p) refl
  where
    by : (ks : List FaultAt) → key_faults ns fs ms p ≡ ks
        → first_of (item_faults ns fs before (item (object ms) rest) p)
        ≡ first_of (own_item_faults is_new ns fs (object ms) p ++ item_faults ns fs (item_key ns ms ∷ before) rest p)
    by [] right =
        let none = sym (ap first_of right) in
        let new = other-test i (item_key ns ms) before (leading_keys ns rest) found is_new (key-known ns fs before ms rest i found p none known) test in
        ap first_of (keyed_split ns fs before ms rest p is_new none new
        ∙ ap (λ ks. or_else ks (keyed_faults is_new ns fs ms p) ++ item_faults ns fs (item_key ns ms ∷ before) rest p) (sym right))
    by (k ∷ ks) wrong =
        ap (λ xs. first_of (or_else xs (if is_among (item_key ns ms) before then fault_at duplicate_item (p ++ item_key ns ms ∷ []) ∷ []
        else field_faults fs ms (p ++ item_key ns ms ∷ [])) ++ item_faults ns fs (item_key ns ms ∷ before) rest p)) wrong
        ∙ sym (ap (λ xs. first_of (or_else xs (keyed_faults is_new ns fs ms p) ++ item_faults ns fs (item_key ns ms ∷ before) rest p)) wrong)

-- the keys of the items so far
abbrev behind : List Text → Json → List Element → List Element
behind ns (object ms) before = item_key ns ms ∷ before
behind ns v before = before

-- an item has its own faults, and then come those behind it
item-split : (ns : List Text) (fs : Fields) (before : List Element) (v : Json) (rest : Items) (i : ℕ) (found : Option ℕ) (is_new : Bool)
    → repeat_from same_element i before (leading_keys ns (item v rest)) ≡ found → is_new ≡ is_other found i → (p : Path)
    → first_of (item_faults ns fs before (item v rest) p)
    ≡ first_of (own_item_faults is_new ns fs v p ++ item_faults ns fs (behind ns v before) rest p)
item-split ns fs before (scalar s) rest i found is_new known test p = refl
item-split ns fs before (list vs) rest i found is_new known test p = refl
item-split ns fs before (object ms) rest i found is_new known test p = object-split ns fs before ms rest i found is_new known test p

or-none : (xs ys : List FaultAt) → None ≡ option_map told (first_of (or_else xs ys)) → (None ≡ first_of xs) × (None ≡ option_map told (first_of ys))
or-none [] ys e = (refl, e)
or-none (x ∷ xs) ys e = absurd (true≢false (sym (ap is_some e)))

-- behind an object that has no fault, what repeats is looked for among the others
known-next : (ns : List Text) (fs : Fields) (before : List Element) (ms : Members) (rest : Items) (i : ℕ) (found : Option ℕ) (is_new : Bool)
    → repeat_from same_element i before (leading_keys ns (item (object ms) rest)) ≡ found → is_new ≡ is_other found i
    → Finds None (own_item_faults is_new ns fs (object ms)) → repeat_from same_element (i + 1) (item_key ns ms ∷ before) (leading_keys ns rest) ≡ found
known-next ns fs before ms rest i found is_new known test none =
    let parts = λ (p : Path). or-none (key_faults ns fs ms p) (keyed_faults is_new ns fs ms p) (none p) in
    let here = key-known ns fs before ms rest i found [] (parts []).0 known in
    repeat-next i (item_key ns ms) before (leading_keys ns rest) found here
    (sym (kept-new is_new None ns fs ms refl (λ p. (parts p).1))
    ∙ other-test i (item_key ns ms) before (leading_keys ns rest) found is_new here test)

-- ---- loops that test items and make children

-- the children so far, where these items are left of all
pub record IsTestingItems (ns : List Text) (fs : Fields) (all left : List json.Json) (i : ℕ) (found : Option ℕ) (cs : List Child) : Type 0 where
  pub counted : i + length left ≡ length all
  pub before : List Element
  -- what repeats is looked for behind the items before
  pub known : repeat_from same_element i before (leading_keys ns (items_view left)) ≡ found
  pub listing : IsListing (key_order ns (items_view left)) (item_places ns fs (items_view left)) (key_order ns (items_view all))
      (item_places ns fs (items_view all)) cs
  -- what is done has no fault: what is left decides
  pub decides : (p : Path) → first_of (item_faults ns fs [] (items_view all) p) ≡ first_of (item_faults ns fs before (items_view left) p)

-- before the first item all are left
pub items-none : (ns : List Text) (fs : Fields) (all left : List json.Json) (found : Option ℕ) (cs : List Child) → all ≡ left → cs ≡ []
    → found ≡ repeat_from same_element 0 [] (leading_keys ns (items_view all)) → IsTestingItems ns fs all left 0 found cs
items-none ns fs all left found cs same none known =
    subst (λ xs. IsTestingItems ns fs all xs 0 found cs) same
    (record {
      counted = omega arith;
      before = [];
      known = sym known;
      listing = listing-none (key_order ns (items_view all)) (item_places ns fs (items_view all)) cs none;
      decides = λ p. refl;
    })

-- the next item has no fault, and its child is made
pub items-step : (ns : List Text) (fs : Fields) (all left more : List json.Json) (x : json.Json) (i : ℕ) (found : Option ℕ) (is_new : Bool)
    (cs ds : List Child) (c : Child) → left ≡ x ∷ more → is_new ≡ is_other found i
    → IsTested (own_item_faults is_new ns fs (view x)) (IsItem ns fs (view x)) (Fits c) → ds ≡ cs ++ c ∷ []
    → IsTestingItems ns fs all left i found cs → IsTestingItems ns fs all more (i + 1) found ds
items-step ns fs all left more x i found is_new cs ds c next test tested pushed h =
    let is = tested.1 in
    let rest = items_view more in
    let here : items_view left ≡ item (object is.own) rest = ap items_view next ∙ ap (λ v. item v rest) is.is_own in
    let known = ap (λ vs. repeat_from same_element i h.before (leading_keys ns vs)) (sym here) ∙ h.known in
    let none = subst (λ v. Finds None (own_item_faults is_new ns fs v)) is.is_own tested.0 in
    record {
      counted = omega (arith, h.counted, ap length next);
      before = item_key ns is.own ∷ h.before;
      known = known-next ns fs h.before is.own rest i found is_new known test none;
      listing = listing-step (item_key ns is.own) (λ p. (p, record_branch) ∷ field_places fs is.own p) c cs ds (key_order ns (items_view left))
          (key_order ns rest) (key_order ns (items_view all)) (item_places ns fs (items_view left)) (item_places ns fs rest)
          (item_places ns fs (items_view all)) is.child refl
          (λ p. ap (λ vs. item_places ns fs vs p) here) (ap (key_order ns) here) pushed h.listing;
      decides = λ p.
          h.decides p ∙ ap (λ vs. first_of (item_faults ns fs h.before vs p)) here
          ∙ object-split ns fs h.before is.own rest i found is_new known test p
          ∙ none_first (own_item_faults is_new ns fs (object is.own) p) (item_faults ns fs (item_key ns is.own ∷ h.before) rest p) (none p);
    }

-- what is found in the next item is the first fault of all
pub items-breaks : (ns : List Text) (fs : Fields) (all left more : List json.Json) (x : json.Json) (i : ℕ) (found : Option ℕ) (is_new : Bool)
    (cs : List Child) (f : Found) → left ≡ x ∷ more → is_new ≡ is_other found i → Finds (Some f) (own_item_faults is_new ns fs (view x))
    → IsTestingItems ns fs all left i found cs → Finds (Some f) (item_faults ns fs [] (items_view all))
items-breaks ns fs all left more x i found is_new cs f next test breaks h =
    let own = own_item_faults is_new ns fs (view x) in
    let rest = item_faults ns fs (behind ns (view x) h.before) (items_view more) in
    let known = ap (λ xs. repeat_from same_element i h.before (leading_keys ns (items_view xs))) (sym next) ∙ h.known in
    finds_from (Some f) (item_faults ns fs [] (items_view all)) (λ p. own p ++ rest p)
    (λ p. h.decides p ∙ ap (λ xs. first_of (item_faults ns fs h.before (items_view xs) p)) next
    ∙ item-split ns fs h.before (view x) (items_view more) i found is_new known test p)
    (finds_first f own rest breaks)

-- where none is left, there is no fault, and the children are those of all items
pub items-end : (ns : List Text) (fs : Fields) (all left : List json.Json) (i : ℕ) (found : Option ℕ) (cs : List Child) → left ≡ []
    → IsTestingItems ns fs all left i found cs
    → Finds None (item_faults ns fs [] (items_view all)) × AreListed (key_order ns (items_view all)) (item_places ns fs (items_view all)) cs
items-end ns fs all left i found cs none h = (
  finds_from None (item_faults ns fs [] (items_view all)) (λ p. [])
      (λ p. h.decides p ∙ ap (λ xs. first_of (item_faults ns fs h.before (items_view xs) p)) none) (λ p. refl),
  record {
    placed = λ p.
        sym (ap (λ xs. rows_at p (rows_below cs) ++ item_places ns fs (items_view xs) p) none ∙ append-nil (rows_at p (rows_below cs))) ∙ h.listing.placed p;
    order_is = sym (ap (λ xs. elements cs ++ key_order ns (items_view xs)) none ∙ append-nil (elements cs)) ∙ h.listing.order_is;
    items = h.listing.items;
    trees = h.listing.trees;
  },
)
