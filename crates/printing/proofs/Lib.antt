-- Laws on lent bytes that are written to and on room, for the functions' proofs; and that each public call allows one result.
pub mod Puts
pub mod Rooms
pub mod Decimal
pub mod Ones
