-- The faults: the number and the name of each, in one table, and which of them each fault of the chapters before is.
use Rattle.std.specs.Prelude.{ℕ, codes}
use Rattle.ssa_model.specs.definitions.Json.{Text}
use Rattle.ssa_model.specs.definitions.Readings as reading
use Rattle.ssa_model.specs.definitions.Schema as schema
use Rattle.ssa_model.specs.definitions.Kind as kind
use Rattle.ssa_model.specs.definitions.Operations as operation
use Rattle.ssa_model.specs.definitions.ElementTexts as element
use Rattle.ssa_model.specs.definitions.GivenEntries as entry
use Rattle.ssa_model.specs.definitions.Answers as answer

pub data Code : Type 0 where
  -- bytes
  not_json : Code
  null_value : Code
  number_outside : Code
  too_long : Code
  out_of_memory : Code
  bad_moment : Code
  -- schemas
  schema_keyword : Code
  schema_shape : Code
  schema_keys : Code
  schema_depth : Code
  -- bodies
  unknown_field : Code
  wrong_type : Code
  missing_key : Code
  duplicate_item : Code
  too_many_paths : Code
  -- elements of paths
  bad_element : Code
  index_element : Code
  not_canonical : Code
  -- entries and tables
  absent_path : Code
  duplicate_manager : Code
  empty_entry : Code
  too_many_managers : Code
  other_version : Code
  bad_entry : Code
  conflict : Code
  -- commands
  identity : Code
  managed_fields_given : Code
  manager_name : Code
  no_subresource : Code
  nothing_to_undo : Code
  nothing_to_redo : Code
  command_shape : Code
  -- bench files
  bench_text : Code
  record_does_not_fit : Code
  io : Code
  bench_too_long : Code

-- ---- the table

-- The number and the name of a fault. 63 is the number of none and stays so: it was that of a history that is full, which forgets now.
abbrev pub row_of : Code → ℕ × Text
row_of not_json = (1, codes "NotJson")
row_of null_value = (2, codes "NullValue")
row_of number_outside = (3, codes "NumberOutside")
row_of too_long = (4, codes "TooLong")
row_of out_of_memory = (5, codes "OutOfMemory")
row_of bad_moment = (6, codes "BadMoment")
row_of schema_keyword = (10, codes "SchemaKeyword")
row_of schema_shape = (11, codes "SchemaShape")
row_of schema_keys = (12, codes "SchemaKeys")
row_of schema_depth = (13, codes "SchemaDepth")
row_of unknown_field = (20, codes "UnknownField")
row_of wrong_type = (21, codes "WrongType")
row_of missing_key = (22, codes "MissingKey")
row_of duplicate_item = (23, codes "DuplicateItem")
row_of too_many_paths = (24, codes "TooManyPaths")
row_of bad_element = (30, codes "BadElement")
row_of index_element = (31, codes "IndexElement")
row_of not_canonical = (32, codes "NotCanonical")
row_of absent_path = (40, codes "AbsentPath")
row_of duplicate_manager = (41, codes "DuplicateManager")
row_of empty_entry = (42, codes "EmptyEntry")
row_of too_many_managers = (43, codes "TooManyManagers")
row_of other_version = (44, codes "OtherVersion")
row_of bad_entry = (45, codes "BadEntry")
row_of conflict = (50, codes "Conflict")
row_of identity = (60, codes "Identity")
row_of managed_fields_given = (61, codes "ManagedFieldsGiven")
row_of manager_name = (62, codes "ManagerName")
row_of nothing_to_undo = (64, codes "NothingToUndo")
row_of nothing_to_redo = (65, codes "NothingToRedo")
row_of command_shape = (66, codes "CommandShape")
row_of no_subresource = (67, codes "NoSubresource")
row_of bench_text = (70, codes "BenchText")
row_of record_does_not_fit = (71, codes "RecordDoesNotFit")
row_of io = (72, codes "Io")
row_of bench_too_long = (73, codes "BenchTooLong")

abbrev pub number_of : Code → ℕ
number_of c = (row_of c).0

abbrev pub name_of : Code → Text
name_of c = (row_of c).1

-- ---- the faults of the chapters before

abbrev pub read_fault_code : reading.ReadFault → Code
read_fault_code reading.not_json = not_json
read_fault_code reading.null_value = null_value
read_fault_code reading.number_outside = number_outside

abbrev pub schema_fault_code : schema.SchemaFault → Code
schema_fault_code schema.schema_keyword = schema_keyword
schema_fault_code schema.schema_shape = schema_shape
schema_fault_code schema.schema_keys = schema_keys
schema_fault_code schema.schema_depth = schema_depth

abbrev pub body_fault_code : kind.BodyFault → Code
body_fault_code kind.unknown_field = unknown_field
body_fault_code kind.wrong_type = wrong_type
body_fault_code kind.missing_key = missing_key
body_fault_code kind.duplicate_item = duplicate_item

abbrev pub refusal_code : operation.Refusal → Code
refusal_code (operation.conflict cs) = conflict
refusal_code operation.too_many_paths = too_many_paths
refusal_code operation.too_many_managers = too_many_managers

abbrev pub element_fault_code : element.ElementFault → Code
element_fault_code element.bad_element = bad_element
element_fault_code element.index_element = index_element
element_fault_code element.not_canonical = not_canonical

abbrev pub entry_fault_code : entry.EntryFault → Code
entry_fault_code entry.too_many_managers = too_many_managers
entry_fault_code entry.bad_entry = bad_entry
entry_fault_code entry.manager_name = manager_name
entry_fault_code entry.other_version = other_version
entry_fault_code entry.bad_moment = bad_moment
entry_fault_code (entry.of_fields f) = element_fault_code f
entry_fault_code entry.empty_entry = empty_entry
entry_fault_code (entry.absent_path p) = absent_path
entry_fault_code entry.duplicate_manager = duplicate_manager

abbrev pub fault_code : answer.Fault → Code
fault_code (answer.body_fault f p) = body_fault_code f
fault_code answer.identity_fault = identity
fault_code answer.managed_fields_given = managed_fields_given
fault_code (answer.entry_fault f) = entry_fault_code f
fault_code answer.manager_name = manager_name
fault_code answer.no_subresource = no_subresource
fault_code answer.nothing_to_undo = nothing_to_undo
fault_code answer.nothing_to_redo = nothing_to_redo
fault_code (answer.refused r) = refusal_code r
