pub mod Leads
pub mod Tree
pub mod Steps
pub mod Automaton
