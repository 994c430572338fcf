pub mod Acyclic
