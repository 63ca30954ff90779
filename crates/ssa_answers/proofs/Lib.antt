pub mod CommandFacts
pub mod FaultFacts
