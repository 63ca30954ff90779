-- Laws about the definitions: what makes them believable, each carried by a function of `src/lib.rt`.

-- what stands after any list of commands; undo, redo, refusals
pub mod Headline
-- the operations keep what is valid
pub mod KeepsValid
-- values without faults and their parts
pub mod Faultless
-- the flattening of a value fits its kind and is rooted
pub mod FlatBodies
-- the value of a body is without faults, and its flattening is the body
pub mod ShownBodies
-- the object that is shown of a body is taken again as that body
pub mod ShownObjects
-- the object that is shown of a state is taken again as that state
pub mod ShownStates
-- a set has one writing as FieldsV1
pub mod OneWriting
-- a bench file of whole states is taken as its bench
pub mod BenchFiles
-- what rising names are
pub mod MemberNames
-- how deep the values of a bench file nest
pub mod BenchDepths
-- the record of two states leads from the first to the second
pub mod RecordLeads
-- the turned record is the record of the way back
pub mod RecordTurns
-- a record holds no more than its states differ
pub mod RecordSizes
-- a change in place reaches what a record leads to
pub mod InPlace
-- the record of two bodies along their paths, and below a path
pub mod RecordWalks
-- a record is read from its JSON
pub mod RecordReading
-- a bench file of records is taken as its bench
pub mod RecordedBenches
-- a bench file is taken as its bench, in whatever format
pub mod Formats
-- a bench file read line by line
pub mod LineByLine
-- what is taken from one line of records, or its fault
pub mod RecordedMoves
-- which records fit a state
pub mod FittingRecords
-- records that change a body at one place alone
pub mod RecordPlaces
