-- texts that are parted at a byte
pub mod Cuts
-- lines with the same text
pub mod Apart
-- lines of printed bytes
pub mod Printed
-- many lines
pub mod Logs
-- a text to which pieces are put
pub mod Growth
