-- A text of words to a sorted list, or its first fault: what a reader has to believe. Facts says the same without computing it.
pub mod Gathered
pub mod Facts
