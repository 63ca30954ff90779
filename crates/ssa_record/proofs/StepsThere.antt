-- The changes at and below one place lead a valid body to a valid one, and say the record that is told.
use Rattle.std.proofs.Common.{◌≡◌, ◌+◌, ◌≤◌, length, [], ◌∷◌, ◌++◌, true, false, Option, refl, sym, ap, subst, ◌∙◌, true≢false, append-nil, arith}
use Rattle.std.specs.Prelude.{is_some}
use Rattle.ssa_model.specs.definitions.Path.{Path, is_root, under}
use Rattle.ssa_model.specs.definitions.PathMap.{empty, from_entries, get, has, size, below as map_below}
use Rattle.ssa_model.specs.definitions.Json.{Json}
use Rattle.ssa_model.specs.definitions.Kind.{Kind, faults}
use Rattle.ssa_model.specs.definitions.Body.{Body, places}
use Rattle.ssa_model.specs.definitions.Fitting.{of_kind, IsBodyOf}
use Rattle.ssa_model.specs.definitions.Lawful.{is_keyed, is_lawful}
use Rattle.ssa_model.specs.definitions.Limits.{most_places}
use Rattle.ssa_model.specs.definitions.Objects.{shown}
use Rattle.ssa_model.specs.definitions.Record.{BodyRecord, body_record, new_leaves, puts}
use Rattle.ssa_model.specs.definitions.Takes.{BodyTakes}
use Rattle.ssa_model.specs.definitions.Valid.{metadata_path, IsValidBody}
use Rattle.ssa_model.specs.laws.RecordPlaces.{replaced}
use Rattle.ssa_model.specs.laws.RecordWalks as walks
use Rattle.ssa_model.proofs.BodyLeads.{bodies_are_trees}
use Rattle.ssa_model.proofs.KindPlaces.{kinds_fit, place_is_read, place_is_valid}
use Rattle.ssa_model.proofs.PartsBack.{lawful-at, lawful-kind}
use Rattle.ssa_model.proofs.PathMaps.{same_map}
use Rattle.ssa_model.proofs.PutParts.{get-below}
use Rattle.ssa_model.proofs.ReplacedParts.{get-inside, replaced_fits}
use Rattle.ssa_model.proofs.ReplacedSizes.{replaced_size}
use Rattle.ssa_model.proofs.Tables.{mapped_some}
use Rattle.ssa_schema.specs.Kinds.{kind_view}
use Rattle.ssa_typed.specs.Alike.{are_alike}
use Rattle.ssa_typed.specs.Over.{AreAlikeTrees}
use Rattle.ssa_typed.specs.Reads.{IsTreeRead}
use Rattle.ssa_typed.specs.Rows.{body_of, rows}
use Rattle.ssa_typed.specs.declared.node.Node.{Node}
use Rattle.ssa_typed.proofs.OneSort.{bodies_alike}
use Rattle.ssa_typed.proofs.AnyTree.{tree-root}
use Rattle.ssa_typed.proofs.Looks.{get-body}
use Rattle.ssa_typed.proofs.Sizes.{size-body}
use Rattle.ssa_turn_body.specs.At.{with_tree, SayAt, ServeAt}
use Rattle.ssa_turn_body.specs.Records.{body_told}
use Rattle.ssa_turn_body.specs.Rooms.{HasBodyRoom}
use Rattle.ssa_turn_body.specs.declared.steps.BodySteps.{BodySteps}
use Rattle.ssa_json.specs.declared.value.Json as program
use Rattle.ssa_record.specs.LedValues.{told_leaf, told_part, IsGiven, IsLed, IsToldFor}
use Rattle.ssa_record.specs.Places.{maps_told, ToldMaps}
use Rattle.ssa_record.specs.Spots.{IsSpot, IsWithin}
use Rattle.ssa_told.specs.Told.{told_of}
use Rattle.ssa_record.specs.declared.spot.Spot.{Spot}
use Rattle.ssa_record.proofs.LedBodies.{lawful-ordered, told-for}
use Rattle.ssa_record.proofs.LedPlaces.{takes}
use Rattle.ssa_record.proofs.WithinPlaces.{changes-within, place-stays}

inner-below : (p : Path) → under p metadata_path ≡ false → is_root p ≡ false
inner-below [] off = absurd (true≢false off)
inner-below (e ∷ p) off = refl

module _ (m : ToldMaps) (kind : Kind) (v : Body) (p : Path) (s : Spot) (lawful : is_lawful kind ≡ true) (valid : IsValidBody kind v)
    (spot : IsSpot m kind v p s) (inner : under p metadata_path ≡ false) where
  abbrev k : Kind
  k = kind_view s.kind.now

  -- the body has the place
  pub here : has v p ≡ true
  here = ap (has v) (sym (append-nil p)) ∙ ap is_some (spot.has_tree []) ∙ tree-root s.node.now

  -- each map list of the kind at the place has key fields
  pub keyed : is_keyed k ≡ true
  keyed = (lawful-at p (of_kind kind) (of_kind k) (lawful-kind kind lawful) spot.place).1

  part-is : map_below v p ≡ body_of s.node.now
  part-is = same_map (map_below v p) (body_of s.node.now) (λ q. get-below v p q ∙ spot.has_tree q)

  part-size : size (map_below v p) ≡ length (rows s.node.now)
  part-size = ap size part-is ∙ size-body s.node.now spot.tree

  -- what stands at the place is no larger than the body
  pub part-small : length (rows s.node.now) ≤ size v
  part-small = let whole : size (replaced v p empty) + size (map_below v p) ≡ size v + 0 = replaced_size v p empty in omega (arith, whole, part-size)

  -- ---- with another tree there

  module _ (value : Json) (n : Node) (read : IsTreeRead k value n) where
    abbrev after : Body
    after = with_tree v p n

    after-fits : IsBodyOf kind after
    after-fits = replaced_fits kind v p (body_of n) valid.fits here spot.free (kinds_fit kind k p (body_of n) spot.place read.body)

    -- the tree that comes and the one that stands there are alike
    pub alike-trees : AreAlikeTrees s.node.now n
    alike-trees q =
        (λ i. are_alike ((sym (get-body s.node.now q) ∙ sym (spot.has_tree q)) i) ((sym (get-body n q) ∙ sym (get-inside v p (body_of n) q)) i))
        ∙ bodies_alike kind v after valid.fits after-fits (p ++ q)

    trees : walks.IsTree v × walks.IsTree after × walks.AreAlike v after
    trees = bodies_are_trees kind v after valid.fits after-fits

    -- the body is larger by what comes, and smaller by what goes
    after-size : size after + length (rows s.node.now) ≡ size v + length (rows n)
    after-size =
        ap (λ x. size after + x) (sym part-size) ∙ replaced_size v p (body_of n) ∙ ap (λ x. size v + x) (size-body n read.tree)

    module _ (few : size v + length (rows n) ≤ most_places + length (rows s.node.now)) where
      after-few : size after ≤ most_places
      after-few = omega (arith, few, after-size)

      after-valid : IsValidBody kind after
      after-valid = place_is_valid kind k v (body_of n) p valid spot.place here spot.free inner read.body after-few

      module _ (t : BodySteps) (say : SayAt t p s.node.now n) (serve : ServeAt t p s.node.now n) where
        -- the changes lead to a valid body, and say the record of the two bodies
        pub steps-taken : (w : Body) × BodyTakes kind (body_told t) v w × IsValidBody kind w
        steps-taken = (after, record { from = valid.fits; to = after-fits; is = say v trees.0 spot.has_tree trees.2 }, after-valid)

        -- the changes have the room for each turn of the body
        pub steps-room : HasBodyRoom t v
        steps-room = serve v trees.0 spot.has_tree trees.2

  -- ---- what is told

  module _ (d : BodyRecord) (w : Body) (to : BodyTakes kind d v w) (own : IsValidBody kind w) (is : m ≡ maps_told (told_of kind d)) where
    told : IsToldFor m kind v w
    told = subst (λ x. IsToldFor x kind v w) (sym is) (told-for kind d v w (lawful-ordered kind lawful) to)

    abbrev root : is_root p ≡ false
    root = inner-below p inner

    within : IsWithin p (body_record v w)
    within = record {
      cut = λ q h. spot.within q (told.touched.cut q (told.cut q ∙ h));
      leaves = λ q h. spot.within q (told.touched.leaves q (ap is_some (told.leaves q) ∙ mapped_some told_leaf (get (new_leaves v w) q) ∙ h));
      order = λ q h. spot.within q (told.touched.order q (ap is_some (told.order q) ∙ h));
      put = λ q h. spot.within q (told.touched.put q (ap is_some (told.put q) ∙ mapped_some (told_part kind q) (get (puts v w) q) ∙ h));
      uncut = sym (told.cut p) ∙ spot.uncut root;
      unput = sym (ap is_some (told.put p) ∙ mapped_some (told_part kind p) (get (puts v w) p)) ∙ spot.unput root;
    }

    there : has w p ≡ true
    there = place-stays kind (body_record v w) v w p (takes m kind v w told) within here

    target : w ≡ replaced v p (map_below w p)
    target = changes-within kind (body_record v w) v w p (takes m kind v w told) within

    reading : (faults k (shown k w p) [] ≡ []) × (from_entries (places k (shown k w p) []) ≡ map_below w p)
    reading = place_is_read kind k w p lawful own.fits spot.place there

    -- the value that is led is the second body's
    pub value-given : (o : Option program.Json) → IsLed m p s.node.now o → IsGiven o (shown k w p)
    value-given o led = led kind v w (of_kind k) told (record { tells = λ r. spot.has_tree r ∙ get-body s.node.now r; there = there; place = spot.place })

    -- the value that the second body shows at the place fits the kind there
    pub value-fits : faults k (shown k w p) [] ≡ []
    value-fits = reading.0

    module _ (value : Json) (n : Node) (shows : value ≡ shown k w p) (read : IsTreeRead k value n) where
      -- and the tree that is read of it is what the second body has there
      target-is : with_tree v p n ≡ w
      target-is = ap (replaced v p) (read.places ∙ ap (λ x. from_entries (places k x [])) shows ∙ reading.1) ∙ sym target

      -- the body with the new tree there has few enough places
      pub target-few : size v + length (rows n) ≤ most_places + length (rows s.node.now)
      target-few =
          let grown = after-size value n read in
          let small : size (with_tree v p n) ≤ most_places = subst (λ x. size x ≤ most_places) (sym target-is) own.few in
          omega (arith, grown, small)

      -- changes that say what becomes of the place say the record
      pub steps-say : (t : BodySteps) → SayAt t p s.node.now n → body_told t ≡ d
      steps-say t say =
          let trees_are = trees value n read in
          say v trees_are.0 spot.has_tree trees_are.2 ∙ ap (body_record v) target-is ∙ sym to.is
