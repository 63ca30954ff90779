-- Worked rows, by computation.

-- the sample schema, objects and paths of the rows
pub mod Sample
-- applies, conflicts, force, giving up, merging
pub mod Rows
-- more of them
pub mod MoreRows
-- the texts of the answers to lines
pub mod LineRows
-- object files with managers' entries
pub mod EntryRows
-- bench files of whole states
pub mod FileRows
-- shown objects and states, taken again
pub mod ShownRows
-- the answers to subcommands
pub mod SubcommandRows
-- the sizes and the texts of records
pub mod RecordRows
-- records read from JSON
pub mod RecordReadingRows
-- bench files of records
pub mod RecordedRows
-- first lines, and files in each format
pub mod FormatRows
-- records that fit a state, and some that don't
pub mod FittingRows
pub mod PlaceRows
-- a bounded depth of undo
pub mod DepthRows
-- the parts of an object
pub mod PartRows
