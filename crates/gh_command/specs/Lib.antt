pub mod CommandLine
pub mod CommandLineParser
pub mod CommandLineLaws
