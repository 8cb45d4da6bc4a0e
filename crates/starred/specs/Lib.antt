-- The starred cases of document 01, in one statement.
pub mod Starred
