-- What a value is written as.
use Rattle.std.specs.Prelude.{ℤ, pos, negsuc, ◌^◌, List, Bool, true, ◌&&◌, nat_lt}
use Rattle.json.specs.Token.{Token}
use Rattle.json.specs.Tree as tree
use Rattle.serde_json.specs.Data as json
use Rattle.serde_json.specs.Find.{of_integer}
use Rattle.serde_json.specs.Written.{outline}
use Rattle.ssa_model.specs.definitions.Json as model

-- the value as any JSON data
abbrev pub scalar_data : model.Scalar → json.Data
scalar_data (model.text s) = json.string s
scalar_data (model.whole z) = json.number (of_integer z)
scalar_data (model.truth b) = json.boolean b

abbrev mutual
  pub data_of : model.Json → json.Data
  data_of (model.scalar s) = scalar_data s
  data_of (model.list vs) = json.array (items_data vs)
  data_of (model.object ms) = json.object (members_data ms)

  pub items_data : model.Items → json.Items
  items_data model.no_items = json.no_items
  items_data (model.item v vs) = json.item (data_of v) (items_data vs)

  pub members_data : model.Members → json.Members
  members_data model.no_members = json.no_members
  members_data (model.member k v ms) = json.member k (data_of v) (members_data ms)

-- the tokens of the value
abbrev pub tokens_of : model.Json → List Token
tokens_of v = tree.json_tokens (outline (data_of v))

-- the number fits in 64 bits, with its sign
abbrev pub is_narrow_whole : ℤ → Bool
is_narrow_whole (pos n) = nat_lt n (2 ^ 63)
is_narrow_whole (negsuc n) = nat_lt n (2 ^ 63)

abbrev pub is_narrow_scalar : model.Scalar → Bool
is_narrow_scalar (model.text s) = true
is_narrow_scalar (model.whole z) = is_narrow_whole z
is_narrow_scalar (model.truth b) = true

-- each whole number of the value fits
abbrev mutual
  pub is_narrow : model.Json → Bool
  is_narrow (model.scalar s) = is_narrow_scalar s
  is_narrow (model.list vs) = items_narrow vs
  is_narrow (model.object ms) = members_narrow ms

  pub items_narrow : model.Items → Bool
  items_narrow model.no_items = true
  items_narrow (model.item v vs) = is_narrow v && items_narrow vs

  pub members_narrow : model.Members → Bool
  members_narrow model.no_members = true
  members_narrow (model.member k v ms) = is_narrow v && members_narrow ms
