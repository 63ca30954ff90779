-- The codes of the faults of schemas.
use Rattle.ssa_model.specs.definitions.Faults.{Code, out_of_memory, schema_fault_code}
use Rattle.ssa_model.specs.definitions.Schema.{schema_keyword, schema_shape, schema_keys, schema_depth}
use Rattle.ssa_schema.specs.declared.fault.SchemaFault.{SchemaFault}
use Rattle.ssa_schema.specs.declared.fault.SchemaFault.TheVariants.{SchemaKeyword, SchemaShape, SchemaKeys, SchemaDepth, OutOfMemory}

abbrev pub schema_code : SchemaFault → Code
schema_code SchemaKeyword = schema_fault_code schema_keyword
schema_code SchemaShape = schema_fault_code schema_shape
schema_code SchemaKeys = schema_fault_code schema_keys
schema_code SchemaDepth = schema_fault_code schema_depth
schema_code OutOfMemory = out_of_memory
