pub mod Matching
pub mod Covering
pub mod AdditionClauses
pub mod VectorClauses
pub mod PairClauses
pub mod Laws
