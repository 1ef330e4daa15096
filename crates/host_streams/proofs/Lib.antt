-- bytes that a writer took in several writes
mod Written
