-- How deep the object of a state nests.
use Rattle.std.proofs.Common.{◌≡◌, ◌≤◌, ℕ, suc, [], ◌∷◌, true, false, Option, Some, None, sym, arith, true≢false}
use Rattle.std.proofs.Math.Nat.{max-le}
use Rattle.std.specs.Prelude.{max, if◌then◌else◌, option_and_then, codes}
use Rattle.std.specs.declared.cmp.Ordering.TheVariants.{Less, Equal, Greater}
use Rattle.std.specs.Ordering.{nat_cmp}
use Rattle.std.specs.Cmp.{first_so, second_so}
use Rattle.std.specs.Cmp.Lexicographic.{slice_cmp}
use Rattle.ssa_model.specs.definitions.Json.{Text, Json, scalar, list, object, Members, no_members, member, member_of, same_text, depth, items_depth, members_depth}
use Rattle.ssa_model.specs.definitions.Kind.{Kind}
use Rattle.ssa_model.specs.definitions.Body.{Body}
use Rattle.ssa_model.specs.definitions.FieldsV1.{fields_json}
use Rattle.ssa_model.specs.definitions.Lawful.{is_lawful}
use Rattle.ssa_model.specs.definitions.Objects.{Identity, is_identity, is_named_text, is_missing, value_at, shown, with_member, with_given, members_in, members_of_value, with_identity, object_of_body}
use Rattle.ssa_model.specs.definitions.Entries.{entry_json, entry_items, version_in, with_entries, with_managed_fields, object_of_state}
use Rattle.ssa_model.specs.definitions.Parts.{Subresource, main, status}
use Rattle.ssa_model.specs.definitions.Table.{Table}
use Rattle.ssa_model.specs.definitions.Operations.{State}
use Rattle.ssa_model.specs.definitions.Fitting.{IsBodyOf}
use Rattle.ssa_model.specs.definitions.Valid.{AllEntries, OwnsOwnable, IsValidState}
use Rattle.ssa_model.proofs.KindLevels.{levels, fits-depth}
use Rattle.ssa_model.proofs.ShownFits.{shown_fits}
use Rattle.ssa_model.proofs.Tables.{either}
use Rattle.ssa_model.proofs.WritingDepths.{owned-depth}

-- ---- members

abbrev depth_in : Option Json → ℕ
depth_in None = 0
depth_in (Some v) = depth v

with_member-depth : (n : Text) (v : Json) (ms : Members) → members_depth (with_member n v ms) ≤ max (depth v) (members_depth ms)
with_member-depth n v no_members = omega arith
with_member-depth n v (member m w ms) =
    elim (slice_cmp nat_cmp n m) as (λ o. members_depth (elim o
    [ Less ↦ member n v (member m w ms) | Equal ↦ member n v ms | Greater ↦ member m w (with_member n v ms) ])
    ≤ max (depth v) (max (depth w) (members_depth ms))) [
      | Less ↦ omega arith
      | Equal ↦ omega arith
      | Greater ↦ let h = with_member-depth n v ms in omega arith
    ]

with_given-depth : (n : Text) (o : Option Json) (ms : Members) → members_depth (with_given n o ms) ≤ max (depth_in o) (members_depth ms)
with_given-depth n None ms = omega arith
with_given-depth n (Some v) ms = with_member-depth n v ms

members_in-depth : (o : Option Json) → members_depth (members_in o) ≤ depth_in o
members_in-depth None = omega arith
members_in-depth (Some (scalar s)) = omega arith
members_in-depth (Some (list vs)) = omega arith
members_in-depth (Some (object ms)) = omega arith

member_of-depth : (n : Text) (ms : Members) → depth_in (member_of n ms) ≤ members_depth ms
member_of-depth n no_members = omega arith
member_of-depth n (member m v ms) =
    elim (same_text n m) as (λ b. depth_in (if b then Some v else member_of n ms) ≤ max (depth v) (members_depth ms)) [
      | true ↦ omega arith
      | false ↦ let h = member_of-depth n ms in omega arith
    ]

then_here : (o : Option Json) → depth_in (option_and_then (value_at []) o) ≤ depth_in o
then_here None = omega arith
then_here (Some v) = omega arith

value_at-depth : (n : Text) (v : Json) → depth_in (value_at (n ∷ []) v) ≤ depth v
value_at-depth n (object ms) = let own = then_here (member_of n ms) in let found = member_of-depth n ms in omega arith
value_at-depth n (scalar s) = omega arith
value_at-depth n (list vs) = omega arith

-- ---- the identity

named-flat : (o : Option Json) → is_named_text o ≡ true → depth_in o ≤ 0
named-flat None h = omega arith
named-flat (Some (scalar s)) h = omega arith
named-flat (Some (list vs)) h = absurd (true≢false (sym h))
named-flat (Some (object ms)) h = absurd (true≢false (sym h))

missing-flat : (o : Option Json) → is_missing o ≡ true → depth_in o ≤ 0
missing-flat None h = omega arith
missing-flat (Some v) h = absurd (true≢false (sym h))

with_identity-depth : (i : Identity) (ms : Members) → is_identity i ≡ true → members_depth (with_identity i ms) ≤ suc (members_depth ms)
with_identity-depth i ms h =
    let later = second_so (is_named_text i.version) _ h in
    let last = second_so (is_named_text i.kind) _ later in
    let version = named-flat i.version (first_so (is_named_text i.version) _ h) in
    let kind = named-flat i.kind (first_so (is_named_text i.kind) _ later) in
    let name = named-flat i.name (first_so (is_named_text i.name) _ last) in
    let namespace = either (is_missing i.namespace) (is_named_text i.namespace) (second_so (is_named_text i.name) _ last) (missing-flat i.namespace)
    (named-flat i.namespace) in
    let metadata = members_in (member_of (codes "metadata") ms) in
    let spaced = with_given (codes "namespace") i.namespace metadata in
    let inside = object (with_given (codes "name") i.name spaced) in
    let members = with_member (codes "metadata") inside ms in
    let found = member_of-depth (codes "metadata") ms in
    let taken = members_in-depth (member_of (codes "metadata") ms) in
    let first = with_given-depth (codes "namespace") i.namespace metadata in
    let second = with_given-depth (codes "name") i.name spaced in
    let third = with_member-depth (codes "metadata") inside ms in
    let fourth = with_given-depth (codes "kind") i.kind members in
    let fifth = with_given-depth (codes "apiVersion") i.version (with_given (codes "kind") i.kind members) in
    omega arith

object-depth : (i : Identity) (kind : Kind) (b : Body) → is_identity i ≡ true → depth (object_of_body i kind b) ≤ suc (suc (depth (shown kind b [])))
object-depth i kind b h =
    let own = with_identity-depth i (members_of_value (shown kind b [])) h in
    let inside = members_in-depth (Some (shown kind b [])) in
    omega arith

-- ---- the managers' entries

abbrev AreWrittenWithin : ℕ → Table → Type 0
AreWrittenWithin most = AllEntries (λ e. depth (fields_json e.owned) ≤ most)

items-bound : (version : Json) (table : Table) (most : ℕ) → depth version ≤ most → AreWrittenWithin most table
    → items_depth (entry_items version table) ≤ suc most
items-bound version [] most h all = omega arith
items-bound version (e ∷ es) most h all = max-le (by e.manager.part) (items-bound version es most h all.1)
  where
    by : (s : Subresource) → depth (entry_json version (record { manager = record { name = e.manager.name; operation = e.manager.operation; part = s }; owned = e.owned; moment = e.moment })) ≤ suc most
    by main = let own = all.0 in omega (arith, own, h)
    by status = let own = all.0 in omega (arith, own, h)

version-bound : (o : Option Json) (most : ℕ) → 1 ≤ most → depth_in o ≤ most → depth (version_in o) ≤ most
version-bound None most one h = one
version-bound (Some v) most one h = h

entries-depth : (entries v : Json) → depth (with_entries entries v) ≤ suc (suc (max (depth entries) (depth v)))
entries-depth entries v =
    let metadata = members_in (value_at (codes "metadata" ∷ []) v) in
    let inside = object (with_member (codes "managedFields") entries metadata) in
    let found = value_at-depth (codes "metadata") v in
    let taken = members_in-depth (value_at (codes "metadata" ∷ []) v) in
    let all = members_in-depth (Some v) in
    let first = with_member-depth (codes "managedFields") entries metadata in
    let second = with_member-depth (codes "metadata") inside (members_in (Some v)) in
    omega arith

managed-depth : (table : Table) (v : Json) (most : ℕ) → 1 ≤ most → depth v ≤ most → AreWrittenWithin most table
    → depth (with_managed_fields table v) ≤ suc (suc (suc (suc most)))
managed-depth [] v most one h all = omega arith
managed-depth (e ∷ es) v most one h all =
    let named = value_at (codes "apiVersion" ∷ []) v in
    let found = value_at-depth (codes "apiVersion") v in
    let version = version-bound named most one (omega arith) in
    let entries = list (entry_items (version_in named) (e ∷ es)) in
    let items = items-bound (version_in named) (e ∷ es) most version all in
    let whole = entries-depth entries v in
    omega arith

all-written : (kind : Kind) (body : Body) (table : Table) → IsBodyOf kind body → AllEntries (OwnsOwnable body) table
    → AreWrittenWithin (suc (suc (levels kind))) table
all-written kind body [] k all = tt
all-written kind body (e ∷ es) k all = (owned-depth kind body e.owned k all.0, all-written kind body es k all.1)

-- ---- the object of a state

-- the object of a valid state, with its managers' entries, nests at most six levels more than the kind has
pub state-depth : (i : Identity) (kind : Kind) (s : State) → is_identity i ≡ true → is_lawful kind ≡ true → IsValidState kind s
    → depth (object_of_state i kind true s) ≤ suc (suc (suc (suc (suc (suc (levels kind))))))
state-depth i kind s named lawful valid =
    let own = fits-depth kind (shown kind s.body []) ([], shown_fits kind s.body lawful valid.fits) in
    let whole = object-depth i kind s.body named in
    managed-depth s.table (object_of_body i kind s.body) (suc (suc (levels kind))) (omega arith) (omega arith)
    (all-written kind s.body s.table valid.fits valid.table.ownable)
