-- What a text is: a layout without states, and that the texts so laid out, and no others, are read; a blank in another's place changes
-- nothing.
pub mod Blanks
pub mod Layout
