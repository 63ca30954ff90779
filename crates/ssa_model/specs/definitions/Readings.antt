-- How texts are read.
use Rattle.std.specs.Prelude.{Bool, Result}
use Rattle.ssa_model.specs.definitions.Json.{Text, Json}

-- why bytes are no value
pub data ReadFault : Type 0 where
  not_json : ReadFault
  null_value : ReadFault
  number_outside : ReadFault

-- Which bytes are which value, and which texts are moments.
pub record Readings : Type 0 where
  pub value : Text → Result Json ReadFault
  pub moment : Text → Bool
