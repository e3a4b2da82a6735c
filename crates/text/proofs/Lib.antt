-- The laws of texts, and what the proofs of the functions cite.
--     Steps       a word and a number, byte by byte
--     Fields      a number, a field and a row
--     Forms       rows one after the other, and the form of a whole text
--     Lists       lists that are filled with the numbers of rows
--     Judged      the first fault of a text, and what reading answers and fills
--     Placed      words written one after the other, and the digits of a number
--     Wrote       fields, rows and texts written word by word, and how many bytes they take
--     Answers     what writing answers and fills
--     ListingLaws pieces of a text or a listing written one after the other, and the heads of a level counted
--     NumberLaws  numbers that are written read back, and those that are read are written so
--     LineLaws    fields and rows likewise
--     TextLaws    rows and whole texts likewise
--     Accepted    which texts are accepted, and what they state
--     Laws        what reading and writing promise together
--     PlaceLines  the text lines of a text, and of a text of the right form
--     PlaceForms  the form of a text names no text line that is as expected
--     PlaceStated the text lines before the one that it names are as expected
--     PlaceLaws   the place of 15
--     ListingBound how long a listing can get
--     ShownLaws   a text has one print
--     PrintedLaws the numbers that are printed are those meant
--     ShownCalls  the functions that print a text, step by step
--     Examples    worked texts, computed
pub mod Steps
pub mod Fields
pub mod Forms
pub mod Lists
pub mod Judged
pub mod Placed
pub mod Wrote
pub mod Answers
pub mod ListingLaws
pub mod NumberLaws
pub mod LineLaws
pub mod TextLaws
pub mod Accepted
pub mod Laws
pub mod PlaceLines
pub mod PlaceForms
pub mod PlaceStated
pub mod PlaceLaws
pub mod ListingBound
pub mod ShownLaws
pub mod PrintedLaws
pub mod ShownCalls
pub mod Examples
