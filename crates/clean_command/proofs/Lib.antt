-- why a cleaner that was run ended so
pub mod Ends
