pub mod Audit
pub mod Devices
pub mod Ending
pub mod Files
pub mod Loading
pub mod MemoryFiles
pub mod ScriptRun
pub mod Starting
