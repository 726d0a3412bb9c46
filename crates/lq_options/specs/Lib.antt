pub mod CommandLine
pub mod DeskCommandLine
