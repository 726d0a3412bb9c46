pub mod Cells
pub mod CsvRecords
pub mod Headers
pub mod TableFile
pub mod TableLaws
