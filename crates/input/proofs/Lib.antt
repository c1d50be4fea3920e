-- Laws on known bytes behind the functions' proofs.
mod Turns
