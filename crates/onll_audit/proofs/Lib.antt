mod FieldsStand
mod CallsStand
mod LinesStand
pub mod LinesRead
mod Indexed
mod Splitting
mod Printing
mod Running
mod Counting
mod Replicas
mod Following
mod Reading
mod Fronts
mod EndTexts
mod PrintedLines
pub mod Formed
pub mod Lengths
mod Threads
mod Judging
mod Rows
mod Calling
mod Tallied
mod Tracing
pub mod Whole
pub mod Judged
