pub mod Results
pub mod Fields
pub mod Graphs
pub mod Numbers
pub mod OneProof
