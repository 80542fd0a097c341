pub mod Runs
pub mod Printed
pub mod Forced
pub mod Judged
pub mod Examples
