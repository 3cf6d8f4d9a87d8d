mod Schedule
mod Rounds
mod Made
mod Fours
mod Ends
mod Blocks
mod Bitwise
