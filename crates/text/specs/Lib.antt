-- Document 01, "Plant text and listing", as definitions that antt computes. A reader has to believe these files, and those of `rules`.
--     Numbers     a number in a text, read and written
--     Lines       one text line, read and written
--     Form        the form of a whole text
--     Listing     what is printed of a hierarchy, and after a refusal
--     Reading     what reading a text answers and fills
--     Writing     what writing a plant answers and fills
--     Told        what the reader answers
--     Levels      what is printed of the levels that lists hold
--     Writer      a list of bytes and a place in it, where words are written
--     Shown       what the hierarchy program prints of a text, whole
--     Place       the place of 15, said once more without the reader's steps
pub mod Numbers
pub mod Lines
pub mod Form
pub mod Listing
pub mod Reading
pub mod Writing
pub mod Told
pub mod Writer
pub mod Levels
pub mod Shown
pub mod Place
