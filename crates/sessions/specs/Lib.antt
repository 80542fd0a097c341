pub mod Handed
pub mod Calls
pub mod Reference
pub mod Replay
pub mod Carrying
pub mod History
pub mod Replayed
pub mod Recording
