-- Of which lists the managers of a record are told.
use Rattle.ssa_model.specs.definitions.Json.{Json, list, Items, no_items}

-- the items of a list, none of another value
abbrev pub items_of : Json → Items
items_of (list vs) = vs
items_of _ = no_items
