-- The managers' entries that an object file gives: the table that they say, or their first fault.
use Rattle.std.specs.Prelude.{List, [], ◌∷◌, ◌++◌, Bool, true, not, ◌&&◌, ◌||◌, Option, Some, None, is_some, Result, Ok, Err, if◌then◌else◌, filter, length, nat_le, codes}
use Rattle.std.specs.List.{list_any, list_all}
use Rattle.ssa_model.specs.definitions.Json.{Text, Json, scalar, list, object, Items, no_items, item, Members, no_members, member, member_of, same_text}
use Rattle.ssa_model.specs.definitions.Limits.{most_managers}
use Rattle.ssa_model.specs.definitions.Path.{Path}
use Rattle.ssa_model.specs.definitions.PathMap.{PathSet, paths, is_empty}
use Rattle.ssa_model.specs.definitions.Schema.{has_member, is_text}
use Rattle.ssa_model.specs.definitions.Body.{Body, is_ownable}
use Rattle.ssa_model.specs.definitions.Table.{Operation, applies, updates, Entry, Table, is_in_table}
use Rattle.ssa_model.specs.definitions.Readings.{Readings}
use Rattle.ssa_model.specs.definitions.ElementTexts.{ElementFault}
use Rattle.ssa_model.specs.definitions.FieldsV1.{fields_faults, said_set}
use Rattle.ssa_model.specs.definitions.History.{is_manager_name}
use Rattle.ssa_model.specs.definitions.Commands.{text_in, value_in, is_subresource, subresource_in}

pub data EntryFault : Type 0 where
  -- the 65th entry
  too_many_managers : EntryFault
  bad_entry : EntryFault
  manager_name : EntryFault
  other_version : EntryFault
  bad_moment : EntryFault
  of_fields : ElementFault → EntryFault
  empty_entry : EntryFault
  -- the first owned path that isn't ownable in the body
  absent_path : Path → EntryFault
  duplicate_manager : EntryFault

-- ---- the shape of an entry

-- the members that are texts
abbrev pub entry_texts : List Text
entry_texts = codes "apiVersion" ∷ codes "fieldsType" ∷ codes "manager" ∷ codes "operation" ∷ codes "time" ∷ []

abbrev pub is_entry_member : Text → Json → Bool
is_entry_member n v =
    same_text n (codes "fieldsV1") || ((list_any (same_text n) entry_texts && is_text v) || (same_text n (codes "subresource") && is_subresource v))

abbrev pub are_entry_members : Members → Bool
are_entry_members no_members = true
are_entry_members (member n v ms) = is_entry_member n v && are_entry_members ms

abbrev pub operation_of : Text → Option Operation
operation_of t = if same_text t (codes "Apply") then Some applies else (if same_text t (codes "Update") then Some updates else None)

abbrev pub text_at : Text → Members → Text
text_at n ms = text_in (member_of n ms)

-- exactly the members of an entry, of the type FieldsV1, with one of the operations, and with the subresource where there is one
abbrev pub is_entry : Members → Bool
is_entry ms =
    are_entry_members ms && (list_all (λ n. has_member n ms) (codes "fieldsV1" ∷ entry_texts)
    && (same_text (text_at (codes "fieldsType") ms) (codes "FieldsV1") && is_some (operation_of (text_at (codes "operation") ms))))

-- ---- entry by entry

abbrev pub fields_in : Members → Json
fields_in ms = value_in (member_of (codes "fieldsV1") ms)

abbrev pub operation_in : Members → Operation
operation_in ms = elim (operation_of (text_at (codes "operation") ms)) [ Some o ↦ o | None ↦ applies ]

-- the paths that aren't ownable in the body, in path order
abbrev pub not_ownable : Body → PathSet → List Path
not_ownable body owned = filter (λ p. not (is_ownable body p)) (paths owned)

-- the first fault of what the entry owns, behind these entries
abbrev pub owned_fault : Body → Table → Entry → Option EntryFault
owned_fault body before e =
    if is_empty e.owned then Some empty_entry
    else (elim (not_ownable body e.owned) [ p ∷ ps ↦ Some (absent_path p) | [] ↦ (if is_in_table before e.manager then Some duplicate_manager else None) ])

module _ (readings : Readings) where
  -- what an entry says
  abbrev pub said_entry : Members → Entry
  said_entry ms = record {
    manager = record { name = text_at (codes "manager") ms; operation = operation_in ms; part = subresource_in (member_of (codes "subresource") ms) };
    owned = said_set readings.value (fields_in ms);
    moment = text_at (codes "time") ms;
  }

  module _ (body : Body) (version : Text) where
    -- the first fault of members that are an entry's
    abbrev pub entry_fault : Table → Members → Option EntryFault
    entry_fault before ms =
        if not (is_manager_name (text_at (codes "manager") ms)) then Some manager_name
        else (if not (same_text (text_at (codes "apiVersion") ms) version) then Some other_version
        else (if not (readings.moment (text_at (codes "time") ms)) then Some bad_moment
        else (elim (fields_faults readings.value (fields_in ms)) [ f ∷ fs ↦ Some (of_fields f) | [] ↦ owned_fault body before (said_entry ms) ])))

    -- the entry that members say, or the first fault
    abbrev pub members_entry : Table → Members → Result Entry EntryFault
    members_entry before ms =
        if not (is_entry ms) then Err bad_entry
        else (elim (entry_fault before ms) [ Some f ↦ Err f | None ↦ Ok (said_entry ms) ])

    abbrev pub value_entry : Table → Json → Result Entry EntryFault
    value_entry before (object ms) = members_entry before ms
    value_entry before (list vs) = Err bad_entry
    value_entry before (scalar s) = Err bad_entry

    -- the entry that a value says behind these entries, or its first fault
    abbrev pub next_entry : Table → Json → Result Entry EntryFault
    next_entry before v = if nat_le most_managers (length before) then Err too_many_managers else value_entry before v

    -- these entries and those of the items
    abbrev pub table_behind : Table → Items → Result Table EntryFault
    table_behind before no_items = Ok before
    table_behind before (item v vs) = elim (next_entry before v) [ Ok e ↦ table_behind (before ++ e ∷ []) vs | Err f ↦ Err f ]

    -- the table that a value of `managedFields` says of an object with this body and `apiVersion`, or its first fault
    abbrev pub table_of : Json → Result Table EntryFault
    table_of (list vs) = table_behind [] vs
    table_of (scalar s) = Err bad_entry
    table_of (object ms) = Err bad_entry
