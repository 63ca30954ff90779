-- The definitions, in the order in which they are to be read.

-- the limits of the workbench, each under its name
pub mod Limits
-- JSON values, their text, members by name
pub mod Json
-- elements and paths, their texts and their order
pub mod Path
-- finite maps and sets of whole paths
pub mod PathMap
-- the kinds of values that a schema tells, and the faults of a value
pub mod Kind
-- how a schema is read
pub mod Schema
-- bodies: values flattened to whole paths; points, comparison, merging, restriction
pub mod Body
-- the parts of an object
pub mod Parts
-- managers, and the table after a command
pub mod Table
-- given-up paths, pruning, clashes: Apply, Update and strip over whole states
pub mod Operations
-- objects: the identity, the body's value, the object of a body
pub mod Objects
-- what the kind of each accepted schema is
pub mod Lawful
-- the names of objects' members: none twice, in the order of their bytes
pub mod MemberNames
-- which bytes are which value, and which texts are moments
pub mod Readings
-- how an element's text is read, and a path's
pub mod ElementTexts
-- sets of paths written as JSON objects: relation, writing, reading
pub mod FieldsV1
-- the entries of `managedFields`, written
pub mod Entries
-- the history of a bench: all its states in a row, and a place among them
pub mod History
-- which JSON values are commands
pub mod Commands
-- the entries that an object file gives: the table that they say, or their first fault
pub mod GivenEntries
-- the answer to a command, the answers to a list of commands, a bench from an object file
pub mod Answers
-- the commands in effect: accepted, and not undone
pub mod Effect
-- the faults: the number and the name of each
pub mod Faults
-- replies and faults as JSON
pub mod Replies
-- the answer to a line of a session
pub mod Session
-- what a schema file and an object file say
pub mod Files
-- what a subcommand of the program asks of a bench, and its reply
pub mod Subcommands
-- the lines of some bytes
pub mod Lines
-- the formats of bench files, and the text of a file of whole states
pub mod BenchText
-- a body of a kind, told place by place
pub mod Fitting
-- valid tables, states and histories
pub mod Valid
-- valid benches, and which values are read from their texts
pub mod BenchFile
-- the record of two states: what changes from the first to the second
pub mod Record
-- what a record leads to from a state
pub mod Carry
-- which states a record takes one to the other, and the record of the way back
pub mod Takes
-- the size of a record, and the facts in which two states differ
pub mod Facts
-- the records of a history, and how much each holds
pub mod HistoryRecords
-- a record as JSON
pub mod RecordText
-- how a record is read from JSON
pub mod RecordReading
-- whether a line of a bench file tells of a subresource
pub mod ToldParts
-- the text of a bench file of records
pub mod RecordedBench
-- bench files in each format
pub mod Formats
-- the bench that a file of whole states tells
pub mod BenchOfStates
-- the bench that a file of records tells
pub mod BenchOfRecords
-- the bench that a file tells, in the format that its first line says
pub mod BenchOfFile
-- why a bench file is refused
pub mod BenchFaults
-- what stands next in a bench file that is read line by line
pub mod NextLines
