-- What the engine's inner functions say. The calls' own definitions are the machine's.
pub mod Admitted
