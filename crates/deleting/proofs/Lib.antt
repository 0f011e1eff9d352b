-- Laws of a deletion: memory that lists are written into, sorting, the parts of a deadlist, a record's own pages, the stages, the verdict, the call; Q.
pub mod Sifting
pub mod Parting
pub mod Joining
pub mod Owning
pub mod Bypassing
pub mod Leaving
pub mod Verdicts
pub mod Calling
pub mod Estimating
