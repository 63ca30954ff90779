pub mod Identities
