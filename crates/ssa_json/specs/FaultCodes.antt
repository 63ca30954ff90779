-- Which fault of the definitions a code is, and the codes of the faults of JSON text.
use Rattle.ssa_model.specs.definitions.Faults as model
use Rattle.ssa_model.specs.definitions.Faults.{Code, read_fault_code}
use Rattle.ssa_model.specs.definitions.Readings.{not_json, null_value, number_outside}
use Rattle.ssa_json.specs.declared.fault.JsonFault.{JsonFault}
use Rattle.ssa_json.specs.declared.fault.JsonFault.TheVariants as json
use Rattle.ssa_json.specs.declared.fault_code.FaultCode.{FaultCode}
use Rattle.ssa_json.specs.declared.fault_code.FaultCode.TheVariants as code

abbrev pub code_view : FaultCode → Code
code_view code.NotJson = model.not_json
code_view code.NullValue = model.null_value
code_view code.NumberOutside = model.number_outside
code_view code.TooLong = model.too_long
code_view code.OutOfMemory = model.out_of_memory
code_view code.BadMoment = model.bad_moment
code_view code.SchemaKeyword = model.schema_keyword
code_view code.SchemaShape = model.schema_shape
code_view code.SchemaKeys = model.schema_keys
code_view code.SchemaDepth = model.schema_depth
code_view code.UnknownField = model.unknown_field
code_view code.WrongType = model.wrong_type
code_view code.MissingKey = model.missing_key
code_view code.DuplicateItem = model.duplicate_item
code_view code.TooManyPaths = model.too_many_paths
code_view code.BadElement = model.bad_element
code_view code.IndexElement = model.index_element
code_view code.NotCanonical = model.not_canonical
code_view code.AbsentPath = model.absent_path
code_view code.DuplicateManager = model.duplicate_manager
code_view code.EmptyEntry = model.empty_entry
code_view code.TooManyManagers = model.too_many_managers
code_view code.OtherVersion = model.other_version
code_view code.BadEntry = model.bad_entry
code_view code.Conflict = model.conflict
code_view code.Identity = model.identity
code_view code.ManagedFieldsGiven = model.managed_fields_given
code_view code.ManagerName = model.manager_name
code_view code.NothingToUndo = model.nothing_to_undo
code_view code.NothingToRedo = model.nothing_to_redo
code_view code.CommandShape = model.command_shape
code_view code.NoSubresource = model.no_subresource
code_view code.BenchText = model.bench_text
code_view code.RecordDoesNotFit = model.record_does_not_fit
code_view code.Io = model.io
code_view code.BenchTooLong = model.bench_too_long

abbrev pub json_fault_code : JsonFault → Code
json_fault_code json.NotJson = read_fault_code not_json
json_fault_code json.NullValue = read_fault_code null_value
json_fault_code json.NumberOutside = read_fault_code number_outside
json_fault_code json.TooLong = model.too_long
json_fault_code json.OutOfMemory = model.out_of_memory
