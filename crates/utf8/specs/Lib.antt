-- UTF-8: the bytes of a character, and the character at the front of bytes. What a reader has to believe.
pub mod Utf8
