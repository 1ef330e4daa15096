-- a yard and a pass, by what they are made of
pub mod Model
-- what each step on the table tells
pub mod Steps
